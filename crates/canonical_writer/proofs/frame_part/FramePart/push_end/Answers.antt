-- The end record is put behind the entry of its class.
use Rattle.std.proofs.Common.{ℕ, List, refl, sym, subst}
use Rattle.std.specs.Option.{option_copied}
use Rattle.std.proofs.lemmas.Result.{err_from_is_err_and}
use Rattle.frame_content.specs.Labels.{nullified}
use Rattle.canonical_file.specs.Ranges.{AreBytes}
use Rattle.canonical_file.specs.Splices.{entries_used}
use Rattle.canonical_writer.specs.Parts.{IsRecordOf}
use Rattle.canonical_writer.proofs.FrameUses.{end-uses, end-clash, bytes-behind}
use Rattle.canonical_writer.proofs.frame_part.FramePart.push_end.Goals as goal

pub returns-in_err-push_entry-clause-clash : goal.returns-in_err-push_entry-clause-clash
returns-in_err-push_entry-clause-clash c = λ class was is ready.
    let p = err_from_is_err_and c.from_residual.result c.from_residual.ensures.1 in
    end-clash (entries_used c.args.used.now (option_copied c.args.closing)) c.args.frame.now class c.in-Some.node.now is
    (sym c.in-Some.ensures)
    (λ e there. c.in_err-push_entry.ensures.clash class e (let q = p.1 in let r = p.2 in cc) there ready)

pub returns-clause-used : goal.returns-clause-used
returns-clause-used c = λ is ready.
    let node = c.in-Some.node.now in let body = c.end_body-body.result.now in
    let items : List ℕ = c.in_ok-push_end.ensures.items in
    end-uses (option_copied c.args.closing) c.args.used.now c.push_entry.new.used c.args.frame.now node
    c.in-Some-plan.plan.now body items c.args.self.now c.push_entry.new.self _ is (sym c.in-Some.ensures)
    c.end_body-body.ensures c.in-Some-plan.ensures
    (λ e there short. c.in_ok-push_entry.ensures.used is.sound e there short ready)
    c.in_ok-push_end.ensures.whole refl
    (bytes-behind c.push_entry.new.self.bytes.items items c.push_end.new.into.items c.in_ok-push_end.ensures.whole
    (subst AreBytes c.as_slice.ensures.value c.are_bytes.ensures))
    (subst (λ order. IsRecordOf order c.in-Some-plan.plan.now nullified node.class 0 body items) c.order-order.ensures
    c.in_ok-push_end.ensures.related)
