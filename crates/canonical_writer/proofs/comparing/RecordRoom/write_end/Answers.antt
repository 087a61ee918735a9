-- The end record is written alone.
use Rattle.std.proofs.Common.{◌≡◌, List, ℕ, ◌++◌, sym, ap, ◌∙◌, subst}
use Rattle.frame_content.specs.Labels.{nullified}
use Rattle.canonical_file.specs.Ranges.{AreBytes}
use Rattle.canonical_writer.specs.Parts.{IsRecordOf}
use Rattle.canonical_writer.specs.Alike.{IsWrittenAs}
use Rattle.canonical_writer.specs.Filled.{last_record}
use Rattle.canonical_writer.proofs.RecordBytes.{end-bytes}
use Rattle.canonical_writer.proofs.comparing.RecordRoom.write_end.Goals as goal

pub returns-clause-written : goal.returns-clause-written
returns-clause-written c = λ is.
    let body = c.end_body-body.result.now in let plan = c.in-Some.plan.now in
    let items : List ℕ = c.in_ok-push_end.ensures.items in
    let whole : c.push_end.new.into.items ≡ items =
    c.in_ok-push_end.ensures.whole ∙ ap (λ xs. xs ++ items) c.clear.ensures.items in
    subst (IsWrittenAs (last_record c.args.frame.now)) (sym whole)
    (end-bytes c.args.frame.now c.args.class plan body items is c.requires c.end_body-body.ensures c.in-Some.ensures
    (subst AreBytes whole (subst AreBytes c.as_slice.ensures.value c.are_bytes.ensures))
    (subst (λ order. IsRecordOf order plan nullified c.args.class 0 body items) c.order-order.ensures
    c.in_ok-push_end.ensures.related))
