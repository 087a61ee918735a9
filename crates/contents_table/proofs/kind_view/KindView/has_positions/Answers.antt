use Rattle.std.proofs.Common.{◌≡◌, ◌*◌, [], length, ap, sym, ◌∙◌, refl, arith}
use Rattle.scalar_types.specs.declared.Width.TheVariants.{Eight}
use Rattle.layout_plan.specs.Reading.{number_in, text_in}
use Rattle.contents_table.specs.Listed.{KindTable}
use Rattle.contents_table.proofs.ItemLemmas.{AreLeft-all, AreLeft-reads, AreLeft-after, items-length}
use Rattle.contents_table.proofs.PositionLemmas.{placed-more, positions-placed, position-placed}
use Rattle.contents_table.proofs.kind_view.KindView.has_positions.Goals as goal

pub loop-k-init : goal.loop-k-init
loop-k-init c = record {
  left = AreLeft-all (text_in c.self.inside.order) c.self.inside.count _ c.args.self.now.names
      c.self.inside.names.now (ap (λ (t : KindTable). t.names) c.self.view_is) c.self.invariant.0;
  placed = λ j frame name lt. absurd (omega arith);
}

pub next_text-requires : goal.next_text-requires
next_text-requires c =
    AreLeft-reads (text_in c.self.inside.order) c.self.inside.count c.args.self.now.names c.loop-k.k c.loop-k.rest.now
    c.loop-k-test.true c.loop-k.invariant.left

pub has_places-requires-clause-found : goal.has_places-requires-clause-found
has_places-requires-clause-found c = (c.requires.0, c.found_of.ensures.ordered c.requires.0 c.requires.1)

pub returns-then-not-has_places : goal.returns-then-not-has_places
returns-then-not-has_places c =
    let next = AreLeft-after (text_in c.self.inside.order) c.self.inside.count c.args.self.now.names c.loop-k.k
    c.loop-k.rest.now c.next_text.result.0.now c.next_text.result.1.now c.loop-k-test.true c.loop-k.invariant.left
    c.next_text.ensures in (
      λ none. cc,
      λ are. sym c.if-not-has_places.true ∙ c.has_places.ensures.1 (λ frame lt.
          position-placed c.args.self.now c.args.built.now c.loop-k.k frame c.next_text.result.0.now are next.0 lt
          ∙ sym (c.found_of.ensures.places frame)),
    )

pub loop-k-preserved : goal.loop-k-preserved
loop-k-preserved c =
    let next = AreLeft-after (text_in c.self.inside.order) c.self.inside.count c.args.self.now.names c.loop-k.k
    c.loop-k.rest.now c.next_text.result.0.now c.next_text.result.1.now c.loop-k-test.true c.loop-k.invariant.left
    c.next_text.ensures in
    record {
      left = next.1;
      placed = placed-more c.args.self.now c.args.built.now c.loop-k.k c.next_text.result.0.now next.0
          c.loop-k.invariant.placed (λ frame lt. c.has_places.ensures.0 c.if-not-has_places.false frame lt
          ∙ c.found_of.ensures.places frame);
    }

pub returns : goal.returns
returns c =
    let count = c.self.inside.count in
    let frames = c.self.inside.frames in
    let counted = c.loop-k.invariant.left.count in
    let framed : frames ≡ c.args.self.now.frames = ap (λ (t : KindTable). t.frames) c.self.view_is in
    let listed : length c.args.self.now.positions ≡ count * frames =
    ap (λ (t : KindTable). length t.positions) (sym c.self.view_is)
    ∙ items-length (number_in c.self.inside.order Eight) (count * frames) c.self.inside.positions.now _ []
    c.self.invariant.1 in
    let size : length c.args.self.now.positions ≡ length c.args.self.now.names * c.args.self.now.frames =
    listed ∙ (λ i. sym counted i * framed i) in (
      λ all. positions-placed c.args.self.now c.args.built.now size
          (λ j frame name lt. c.loop-k.invariant.placed j frame name (omega (arith, counted, c.loop-k-test.false))),
      λ are. refl,
    )
