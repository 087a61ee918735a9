use Rattle.std.proofs.Common.{◌≡◌, [], refl, sym, ap, ◌∙◌, subst, arith}
use Rattle.std.specs.Option.{option_map_or}
use Rattle.std.proofs.lemmas.Bool.{false≢true}
use Rattle.link_graph.specs.Collected.{Bodied}
use Rattle.canonical_writer.specs.Alike.{IsWrittenAs}
use Rattle.canonical_writer.specs.Filled.{last_record}
use Rattle.canonical_writer.proofs.ComparedRecords.{HasEntry, end-has, one-class, one-entry, bytes-alike}
use Rattle.canonical_writer.proofs.FrameUses.{end-there}
use Rattle.canonical_writer.proofs.OneBody.{ends-alike}
use Rattle.canonical_writer.proofs.comparing.Comparison.are_same_ends.Goals as goal

pub returns-then-class-other-clause-same : goal.returns-then-class-other-clause-same
returns-then-class-other-clause-same c = λ is also alike. (
  λ is. absurd (false≢true is),
  λ same.
      let one = end-has c.args.first.now c.in-Some-Some.node.now is (sym c.in-Some-Some.ensures) in
      let two = end-has c.args.second.now c.in-Some-Some.other.now also (sym c.in-Some-Some.ensures') in
      let classes : c.in-Some-Some.node.now.class ≡ c.in-Some-Some.other.now.class =
      one-class _ _ _ _ _ _ one two same.entry in
      absurd (omega (arith, c.if-class-other.true, classes)),
)

pub returns-clause-same : goal.returns-clause-same
returns-clause-same c = λ is also alike.
    let classes : c.in-Some-Some.other.now.class ≡ c.in-Some-Some.node.now.class =
    omega (arith, c.if-class-other.false) in
    let one = end-has c.args.first.now c.in-Some-Some.node.now is (sym c.in-Some-Some.ensures) in
    let two = end-has c.args.second.now c.in-Some-Some.other.now also (sym c.in-Some-Some.ensures') in
    let same = one-entry _ _ c.in-Some-Some.node.now.class _ _ one
    (subst (λ class. HasEntry c.args.second.now.dictionary.now class (last_record c.args.second.now)) classes two)
    ((c.have_one_entry.ensures.one alike).0 c.if-not-have_one_entry.false) in
    bytes-alike (last_record c.args.first.now) (last_record c.args.second.now) c.as_slice.result.now
    c.as_slice-2.result.now c.eq.result same
    (subst (IsWrittenAs (last_record c.args.first.now)) (sym c.as_slice.ensures.value)
    (c.in_ok-write_end.ensures.written is))
    (subst (IsWrittenAs (last_record c.args.second.now)) (sym c.as_slice-2.ensures.value)
    (c.in_ok-write_end-2.ensures.written also))
    c.eq.ensures

pub returns-then-have_one_end-clause-same : goal.returns-then-have_one_end-clause-same
returns-then-have_one_end-clause-same c = λ is also alike.
    let first = c.args.first.now in let second = c.args.second.now in
    let classes : c.in-Some-Some.other.now.class ≡ c.in-Some-Some.node.now.class =
    omega (arith, c.if-class-other.false) in
    let body = c.have_one_end.ensures.0 c.if-have_one_end.true in
    let there = end-there first c.in-Some-Some.node.now is (sym c.in-Some-Some.ensures) in
    let beside = end-there second c.in-Some-Some.other.now also (sym c.in-Some-Some.ensures') in
    let entry = one-entry _ _ c.in-Some-Some.node.now.class _ _
    (end-has first c.in-Some-Some.node.now is (sym c.in-Some-Some.ensures))
    (subst (λ class. HasEntry second.dictionary.now class (last_record second)) classes
    (end-has second c.in-Some-Some.other.now also (sym c.in-Some-Some.ensures')))
    ((c.have_one_entry.ensures.one alike).0 c.if-not-have_one_entry.false) in
    let bodies : there.0.body ≡ beside.0.body =
    sym (ap (λ o. option_map_or (λ (r : Bodied). r.body) o []) there.1) ∙ body.body
    ∙ ap (λ o. option_map_or (λ (r : Bodied). r.body) o []) beside.1 in (
      λ t. ends-alike first second there.0 beside.0 is also there.1 beside.1 there.3 beside.3 body.order bodies entry,
      λ same. refl,
    )
