use Rattle.std.proofs.Common.{◌≡◌, sym, ◌∙◌, subst, arith}
use Rattle.std.proofs.lemmas.Bool.{false≢true}
use Rattle.std.proofs.lemmas.Result.{IfOk-weaker}
use Rattle.canonical_writer.specs.declared.comparing.RecordRoom.{RecordRoom}
use Rattle.canonical_writer.specs.Alike.{IsWrittenAs}
use Rattle.canonical_writer.specs.Filled.{IsPlacedAt, record_at}
use Rattle.canonical_writer.proofs.ComparedRecords.{HasEntry, row-has, one-class, one-entry, entry-one, bytes-alike}
use Rattle.canonical_writer.proofs.ComparedRecords.{placed-within}
use Rattle.canonical_writer.proofs.OneBody.{found-alike}
use Rattle.canonical_writer.proofs.comparing.Comparison.are_same_records.Goals as goal
use Rattle.canonical_writer.proofs.comparing.Comparison.are_same_records.Goals.{then-len-node-via-then-len-node}
use Rattle.canonical_writer.proofs.comparing.Comparison.are_same_records.Goals.{then-len-node-via-else-len-node+then-len-other}

pub returns-then-len-node-clause-same : goal.returns-then-len-node-clause-same
returns-then-len-node-clause-same c = λ k placed also alike. elim c.then-len-node.branch [
  | then-len-node-via-then-len-node w ↦
      absurd (omega (arith, w.if-len-node.true, c.len.ensures, placed-within c.args.first.now _ c.args.node k placed))
  | then-len-node-via-else-len-node+then-len-other w ↦
      absurd (omega (
        arith,
        w.if-len-other.true,
        w.len-else-len-node.ensures,
        placed-within c.args.second.now _ c.args.other k also,
      ))
]

pub returns-then-class-node-clause-same : goal.returns-then-class-node-clause-same
returns-then-class-node-clause-same c = λ k placed also alike. (
  λ is. absurd (false≢true is),
  λ same.
      let one = row-has c.args.first.now _ c.args.node k c.node.result.now placed c.node.ensures in
      let two = row-has c.args.second.now _ c.args.other k c.node-2.result.now also c.node-2.ensures in
      let classes : c.node.result.now.class ≡ c.node-2.result.now.class = one-class _ _ _ _ _ _ one two same.entry in
      absurd (omega (arith, c.if-class-node.true, classes)),
)

pub returns-then-not-have_one_entry-clause-same : goal.returns-then-not-have_one_entry-clause-same
returns-then-not-have_one_entry-clause-same c = λ k placed also alike. (
  λ is. absurd (false≢true is),
  λ same.
      let classes : c.node-2.result.now.class ≡ c.node.result.now.class = omega (arith, c.if-class-node.false) in
      let one = row-has c.args.first.now _ c.args.node k c.node.result.now placed c.node.ensures in
      let two = row-has c.args.second.now _ c.args.other k c.node-2.result.now also c.node-2.ensures in
      let have = entry-one _ _ c.node.result.now.class _ _ one
      (subst (λ class. HasEntry c.args.second.now.dictionary.now class (record_at c.args.second.now k)) classes two)
      same.entry in
      absurd (false≢true (sym c.if-not-have_one_entry.true ∙ (c.have_one_entry.ensures.one alike).1 have)),
)

pub returns-clause-same : goal.returns-clause-same
returns-clause-same c = λ k placed also alike.
    let classes : c.node-2.result.now.class ≡ c.node.result.now.class = omega (arith, c.if-class-node.false) in
    let one = row-has c.args.first.now _ c.args.node k c.node.result.now placed c.node.ensures in
    let two = row-has c.args.second.now _ c.args.other k c.node-2.result.now also c.node-2.ensures in
    let same = one-entry _ _ c.node.result.now.class _ _ one
    (subst (λ class. HasEntry c.args.second.now.dictionary.now class (record_at c.args.second.now k)) classes two)
    ((c.have_one_entry.ensures.one alike).0 c.if-not-have_one_entry.false) in
    let rooms = c.have_one_entry.ensures.rooms in
    bytes-alike (record_at c.args.first.now k) (record_at c.args.second.now k) c.as_slice.result.now
    c.as_slice-2.result.now c.eq.result same
    (subst (IsWrittenAs (record_at c.args.first.now k)) (sym c.as_slice.ensures.value)
    (c.in_ok-write.ensures.written k
    (subst (λ (room : RecordRoom). IsPlacedAt c.args.first.now room.links c.args.node k) (sym rooms.0) placed)))
    (subst (IsWrittenAs (record_at c.args.second.now k)) (sym c.as_slice-2.ensures.value)
    (c.in_ok-write-2.ensures.written k
    (subst (λ (room : RecordRoom). IsPlacedAt c.args.second.now room.links c.args.other k) (sym rooms.1) also)))
    c.eq.ensures

pub returns-then-have_one_body-clause-same : goal.returns-then-have_one_body-clause-same
returns-then-have_one_body-clause-same c =
    let first = c.args.first.now in let second = c.args.second.now in
    IfOk-weaker c.lead_alike.result _ _
    (λ same lead k placed also alike.
    let classes : c.node-2.result.now.class ≡ c.node.result.now.class = omega (arith, c.if-class-node.false) in
    let entry = one-entry _ _ c.node.result.now.class _ _
    (row-has first _ c.args.node k c.node.result.now placed c.node.ensures)
    (subst (λ class. HasEntry second.dictionary.now class (record_at second k)) classes
    (row-has second _ c.args.other k c.node-2.result.now also c.node-2.ensures))
    ((c.have_one_entry.ensures.one alike).0 c.if-not-have_one_entry.false) in
    let rooms = c.have_one_entry.ensures.rooms in
    found-alike first second c.have_one_entry.new.self.first.links c.have_one_entry.new.self.second.links c.args.node
    c.args.other k c.node.result.now c.node-2.result.now same
    (subst (λ (room : RecordRoom). IsPlacedAt first room.links c.args.node k) (sym rooms.0) placed)
    (subst (λ (room : RecordRoom). IsPlacedAt second room.links c.args.other k) (sym rooms.1) also)
    c.node.ensures c.node-2.ensures (c.have_one_body.ensures.0 c.if-have_one_body.true) entry lead)
    c.lead_alike.ensures.same
