-- The reply that is due is that of the splice that is due.
use Rattle.std.proofs.Common.{length, Err, inl, inr, refl, sym, ap, ◌∙◌}
use Rattle.std.proofs.lemmas.List.{length-map}
use Rattle.std.specs.String.{string_bytes}
use Rattle.frame_tool.specs.declared.outcome.Outcome.TheVariants.{Done, Device}
use Rattle.frame_tool.specs.Words.{texts}
use Rattle.frame_tool.specs.Outcome.{splice_outcome}
use Rattle.frame_tool.proofs.Replies.{appends_nothing, prints_whole}
use Rattle.frame_tool.proofs.Splices.{replies_spliced, not_ok}
use Rattle.frame_tool.proofs.dispatch.run_splice.Goals as goal

pub returns-in-Ok : goal.returns-in-Ok
returns-in-Ok g c =
    replies_spliced _ _ _ _ c.args.to.now (texts c.args.from.now) (length c.args.from.now) c.splice.result Done Done
    (record {
      counted = sym (length-map c.args.from.now string_bytes);
      answer = c.splice.ensures.answer;
      leaves = c.splice.ensures.leaves;
      misses = c.splice.ensures.misses;
      taken = c.splice.ensures.taken;
      inputs = c.splice.ensures.inputs;
      shelf = c.splice.ensures.shelf;
    }) (ap splice_outcome c.in-Ok.is) (inl refl) (appends_nothing _) (λ _. refl) (λ no. absurd cc)

pub returns-in-Err-Device : goal.returns-in-Err-Device
returns-in-Err-Device g c =
    let is = c.in-Err-Device.is ∙ ap Err c.in-Err-Device.field-0-is in
    replies_spliced _ _ _ _ c.args.to.now (texts c.args.from.now) (length c.args.from.now) c.splice.result Device Device
    (record {
      counted = sym (length-map c.args.from.now string_bytes);
      answer = c.splice.ensures.answer;
      leaves = c.splice.ensures.leaves;
      misses = c.splice.ensures.misses;
      taken = c.splice.ensures.taken;
      inputs = c.splice.ensures.inputs;
      shelf = c.splice.ensures.shelf;
    }) (ap splice_outcome is) (inl refl) (prints_whole Device _ _ _ (appends_nothing _))
    (λ ok. absurd (not_ok c.splice.result _ is ok)) (λ _. inl (c.splice.ensures.device is))

pub returns-in-Err : goal.returns-in-Err
returns-in-Err g c =
    replies_spliced _ _ _ _ c.args.to.now (texts c.args.from.now) (length c.args.from.now) c.splice.result c.from.result
    c.answer_line.result
    (record {
      counted = sym (length-map c.args.from.now string_bytes);
      answer = c.splice.ensures.answer;
      leaves = c.splice.ensures.leaves;
      misses = c.splice.ensures.misses;
      taken = c.splice.ensures.taken;
      inputs = c.splice.ensures.inputs;
      shelf = c.splice.ensures.shelf;
    }) (ap splice_outcome c.in-Err.is ∙ sym c.from.ensures) c.answer_line.ensures.answer c.answer_line.ensures.text
    (λ ok. absurd (not_ok c.splice.result _ c.in-Err.is ok)) (λ failed. inr (c.answer_line.ensures.device failed))
