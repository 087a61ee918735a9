-- The header decides, or what stands after it.
use Rattle.std.proofs.Common.{◌≡◌, ℕ, length, Err, inl, sym, ap, ◌∙◌, rules}
use Rattle.std.proofs.lemmas.Result.{IfOk-weaker}
use Rattle.frame_outside.proofs.Reading.{gone_once, gone_refused}
use Rattle.frame_tool.proofs.Walking.{cut_header, verdict_walked, header_wrong}
use Rattle.frame_tool.proofs.walk.walk.Goals as goal

pub returns-then-read-lt-HEADER_SIZE-clause-verdict : goal.returns-then-read-lt-HEADER_SIZE-clause-verdict
returns-then-read-lt-HEADER_SIZE-clause-verdict g c = λ file told.
    let size : length c.read.new.into ≡ 40 = search rules in
    inl (cut_header file c.read.new.into c.in_ok-read.read size c.in_ok-read.ensures.room c.if-read-lt-HEADER_SIZE.true
    (c.in_ok-read.ensures.filled file told))

pub walk_structures-requires : goal.walk_structures-requires
walk_structures-requires g c = (gone_once _ _ _ _ _ c.requires c.in_ok-read.ensures.advances).source

pub returns-in-Ok-clause-verdict : goal.returns-in-Ok-clause-verdict
returns-in-Ok-clause-verdict g c =
    let size : length c.read.new.into ≡ 40 = search rules in
    IfOk-weaker c.walk_structures.result _ _
    (λ verdict finds. verdict_walked _ _ _ _ c.read.new.into c.in_ok-read.read c.in-Ok.order verdict size
    c.in_ok-read.ensures.room c.if-read-lt-HEADER_SIZE.false
    c.in_ok-read.ensures.advances c.in_ok-read.ensures.filled c.in-Ok.ensures.value finds)
    c.walk_structures.ensures.verdict

pub returns-in-Ok-clause-draws : goal.returns-in-Ok-clause-draws
returns-in-Ok-clause-draws g c =
    gone_refused _ _ _ _ _ _ (gone_once _ _ _ _ _ c.requires c.in_ok-read.ensures.advances)
    c.walk_structures.ensures.draws

pub returns-in-Err-clause-verdict : goal.returns-in-Err-clause-verdict
returns-in-Err-clause-verdict g c = λ file told.
    let size : length c.read.new.into ≡ 40 = search rules in
    let wrong = header_wrong file c.read.new.into c.in_ok-read.read c.in-Err.fault size c.in_ok-read.ensures.room
    c.if-read-lt-HEADER_SIZE.false
    (c.in_ok-read.ensures.filled file told) c.in-Err.ensures.value in
    inl (wrong.0, wrong.1 ∙ ap (λ (at : ℕ). Err (record { at = at })) (sym c.into.ensures))
