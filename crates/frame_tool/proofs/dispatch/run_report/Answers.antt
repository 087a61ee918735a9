-- The reply that is due is that of what was found.
use Rattle.std.proofs.Common.{Err, inl, inr, refl, ap, ◌∙◌}
use Rattle.frame_tool.specs.declared.judgement.Finding.{Finding}
use Rattle.frame_tool.specs.Check.{IsFinding}
use Rattle.frame_tool.specs.Due.{finding_reply, form_asking}
use Rattle.frame_tool.proofs.Replies.{report_answers, replies_found, replies_failed, no_error}
use Rattle.frame_tool.proofs.dispatch.run_report.Goals as goal

pub returns-in-Ok : goal.returns-in-Ok
returns-in-Ok g c =
    let report = c.args.report in
    let name = c.args.file.now in
    replies_found Finding IsFinding (finding_reply report) (form_asking report name) (report_answers report name) _ _ _
    _ name c.in-Ok.finding _ c.in-Ok.ensures.shelf c.in-Ok.ensures.finding
    (λ files told none. no_error _ _ (c.in-Ok.ensures.missing files told none)) c.answer_finding.ensures.answer
    c.answer_finding.ensures.text c.answer_finding.ensures.device

pub returns-in-Err-Failed : goal.returns-in-Err-Failed
returns-in-Err-Failed g c =
    let report = c.args.report in
    let name = c.args.file.now in
    replies_failed Finding IsFinding (finding_reply report) (form_asking report name) (report_answers report name) _ _ _
    name _ c.check_file.ensures.shelf (inl refl)
    (λ _. c.check_file.ensures.failed (c.in-Err-Failed.is ∙ ap Err c.in-Err-Failed.field-0-is))

pub returns-in-Err-NoMemory : goal.returns-in-Err-NoMemory
returns-in-Err-NoMemory g c =
    let report = c.args.report in
    let name = c.args.file.now in
    replies_failed Finding IsFinding (finding_reply report) (form_asking report name) (report_answers report name) _ _ _
    name _ c.check_file.ensures.shelf (inr refl) (λ no. absurd cc)
