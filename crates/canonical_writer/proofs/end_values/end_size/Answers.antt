use Rattle.std.proofs.Common.{ap, ◌∙◌}
use Rattle.std.proofs.lemmas.List.{take_all}
use Rattle.canonical_writer.proofs.EndBytes.{items_size, end-size}
use Rattle.canonical_writer.proofs.end_values.end_size.Goals as goal

pub returns-clause-size : goal.returns-clause-size
returns-clause-size c =
    λ told end fits.
    c.loop-field.invariant.sum
    ∙ ap items_size (take_all c.loop-field.field-index c.args.fields.now c.loop-field-test.false)
    ∙ end-size told end c.args.fields.now fits
