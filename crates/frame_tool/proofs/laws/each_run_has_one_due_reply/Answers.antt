-- Words over files have one reply that is due, as `OneReply` proves.
use Rattle.content_compare.proofs.OneDue.{each-due, one-due}
use Rattle.frame_tool.proofs.OneReply.{a_due_reply, no_two_due_replies}
use Rattle.frame_tool.proofs.laws.each_run_has_one_due_reply.Goals as goal

pub returns : goal.returns
returns c = record { exists = a_due_reply each-due; unique = no_two_due_replies one-due }
