-- The records in their orders, and then the end record.
use Rattle.std.proofs.Common.{List, Bool, sym, ◌∙◌, subst, arith}
use Rattle.std.proofs.lemmas.Bool.{false≢true}
use Rattle.std.proofs.lemmas.Result.{IfOk-weaker}
use Rattle.canonical_writer.specs.Alike.{AreAlike}
use Rattle.canonical_writer.proofs.SourceRows.{frames-alike, alike-records, alike-ends}
use Rattle.canonical_writer.proofs.comparing.FrameComparer.are_same.Goals as goal

pub returns-then-not-branch-clause-same : goal.returns-then-not-branch-clause-same
returns-then-not-branch-clause-same c = λ is also alike. (
  λ no. absurd (false≢true no),
  λ same.
      let first = c.args.first.now in let second = c.args.second.now in
      let exact = c.in_ok-have_same_rows.ensures.same is also
      (subst (λ (met : List Bool). AreAlike met first.dictionary.now second.dictionary.now)
      (sym c.self.view_is) alike) in
      absurd (false≢true (sym c.if-not-branch.true ∙ exact.1 (λ k within. alike-records first second k same))),
)

pub returns-clause-same : goal.returns-clause-same
returns-clause-same c =
    let first = c.args.first.now in let second = c.args.second.now in
    IfOk-weaker c.are_same_ends.result _ _
    (λ same ends is also alike.
    let met = subst (λ (met : List Bool). AreAlike met first.dictionary.now second.dictionary.now)
    (sym c.self.view_is) alike in
    let exact = ends is also (c.in_ok-have_same_rows.ensures.alike met) in
    let rows = (c.in_ok-have_same_rows.ensures.same is also met).0 c.if-not-branch.false in (
      λ t. frames-alike first second is also (omega (arith, c.if-first-second.false)) rows (exact.0 t),
      λ same. exact.1 (alike-ends first second same),
    ))
    c.are_same_ends.ensures.same
