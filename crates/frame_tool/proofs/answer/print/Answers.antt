-- The text was appended whole.
use Rattle.std.proofs.Common.{subst}
use Rattle.frame_outside.specs.Sink.{Appends}
use Rattle.frame_tool.proofs.Replies.{prints_whole}
use Rattle.frame_tool.proofs.answer.print.Goals as goal

pub returns-in-Ok-clause-text : goal.returns-in-Ok-clause-text
returns-in-Ok-clause-text g c =
    prints_whole c.args.outcome _ _ _ (subst (Appends _ _) c.as_bytes.ensures.value c.in-Ok.ensures.ok)
