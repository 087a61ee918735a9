use Rattle.std.proofs.Common.{length, ap, sym, ◌∙◌, arith, [], refl}
use Rattle.std.proofs.lemmas.List.{same_lists, get_or_default}
use Rattle.scalar_types.specs.declared.Width.TheVariants.{Eight}
use Rattle.layout_plan.specs.Reading.{number_in}
use Rattle.contents_table.specs.Listed.{Table}
use Rattle.contents_table.proofs.ItemLemmas.{items-length}
use Rattle.contents_table.proofs.view.TableView.has_heads.Goals as goal

pub returns-then-self-heads : goal.returns-then-self-heads
returns-then-self-heads c =
    let size = ap (λ (t : Table). length t.heads) (sym c.self.view_is)
    ∙ items-length (number_in c.self.inside.order Eight) c.self.inside.frames c.self.inside.heads.now _ []
    c.self.invariant.0 in
    (λ none. cc, λ same. absurd (omega (arith, size, ap length same, c.if-self-heads.true)))

pub returns : goal.returns
returns c =
    let size = ap (λ (t : Table). length t.heads) (sym c.self.view_is)
    ∙ items-length (number_in c.self.inside.order Eight) c.self.inside.frames c.self.inside.heads.now _ []
    c.self.invariant.0 in (
      λ all. same_lists c.args.self.now.heads c.args.heads.now (omega (arith, size, c.if-self-heads.false)) (λ k d lt.
          get_or_default c.args.self.now.heads k d 0 lt
          ∙ c.loop-i.invariant k (omega (arith, size, c.if-self-heads.false, c.loop-i-test.false))
          ∙ get_or_default c.args.heads.now k 0 d (omega (arith, size, c.if-self-heads.false))),
      λ same. refl,
    )
