-- The reply that is due is that of the verdict.
use Rattle.std.proofs.Common.{Err, inl, inr, refl, ap, ◌∙◌}
use Rattle.frame_tool.specs.declared.verdict.Verdict.{Verdict}
use Rattle.frame_tool.specs.Walk.{IsVerdict}
use Rattle.frame_tool.specs.Words.{WalkFile}
use Rattle.frame_tool.specs.Due.{walk_reply}
use Rattle.frame_tool.proofs.Replies.{walk_answers, replies_found, replies_failed, no_error}
use Rattle.frame_tool.proofs.dispatch.run_walk.Goals as goal

pub returns-in-Ok : goal.returns-in-Ok
returns-in-Ok g c =
    let name = c.args.file.now in
    replies_found Verdict IsVerdict walk_reply (WalkFile name) (walk_answers name) _ _ _ _ name c.in-Ok.verdict _
    c.in-Ok.ensures.shelf c.in-Ok.ensures.verdict
    (λ files told none. no_error _ _ (c.in-Ok.ensures.missing files told none)) c.answer_walk.ensures.answer
    c.answer_walk.ensures.text c.answer_walk.ensures.device

pub returns-in-Err-Failed : goal.returns-in-Err-Failed
returns-in-Err-Failed g c =
    let name = c.args.file.now in
    replies_failed Verdict IsVerdict walk_reply (WalkFile name) (walk_answers name) _ _ _ name _
    c.walk_file.ensures.shelf (inl refl)
    (λ _. c.walk_file.ensures.failed (c.in-Err-Failed.is ∙ ap Err c.in-Err-Failed.field-0-is))

pub returns-in-Err-NoMemory : goal.returns-in-Err-NoMemory
returns-in-Err-NoMemory g c =
    let name = c.args.file.now in
    replies_failed Verdict IsVerdict walk_reply (WalkFile name) (walk_answers name) _ _ _ name _
    c.walk_file.ensures.shelf (inr refl) (λ no. absurd cc)
