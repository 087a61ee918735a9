-- The reply that is due is that of the comparison that is due.
use Rattle.std.proofs.Common.{rules, Err, inl, inr, refl, ap, ◌∙◌}
use Rattle.frame_tool.specs.declared.outcome.Outcome.TheVariants.{Device}
use Rattle.frame_tool.specs.Outcome.{comparison_outcome}
use Rattle.frame_tool.proofs.Replies.{appends_nothing, prints_whole}
use Rattle.frame_tool.proofs.Compares.{replies_compared}
use Rattle.frame_tool.proofs.dispatch.run_same.Goals as goal

pub returns-in-Err-Device : goal.returns-in-Err-Device
returns-in-Err-Device g c =
    let is = c.in-Err-Device.is ∙ ap Err c.in-Err-Device.field-0-is in
    replies_compared _ _ _ _ c.args.first.now c.args.second.now c.compare_files.result Device Device (record {
      answer = c.compare_files.ensures.answer;
      misses = c.compare_files.ensures.misses;
      inputs = c.compare_files.ensures.files;
      shelf = c.compare_files.ensures.shelf;
    }) (ap comparison_outcome is) (inl refl) (prints_whole Device _ _ _ (appends_nothing _))
    (λ _. inl (c.compare_files.ensures.device is))

pub returns-in_default : goal.returns-in_default
returns-in_default g c =
    replies_compared _ _ _ _ c.args.first.now c.args.second.now c.compare_files.result c.from.result
    c.answer_line.result (record {
      answer = c.compare_files.ensures.answer;
      misses = c.compare_files.ensures.misses;
      inputs = c.compare_files.ensures.files;
      shelf = c.compare_files.ensures.shelf;
    }) (search rules) c.answer_line.ensures.answer c.answer_line.ensures.text
    (λ failed. inr (c.answer_line.ensures.device failed))
