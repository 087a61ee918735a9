use Rattle.std.proofs.Common.{◌∙◌}
use Rattle.std.specs.Option.{IsSome, is_some}
use Rattle.std.proofs.lemmas.Bool.Decides.{same_from_decides}
use Rattle.contents_table.specs.Fit.{is_fit}
use Rattle.frame_reader.proofs.closings.is_fit.Goals as goal

pub returns-in-Some : goal.returns-in-Some
returns-in-Some c =
    c.is_some.ensures
    ∙ same_from_decides {P = IsSome c.of.result} (is_some c.of.result) (is_fit c.args.entry.now) (λ h. h, λ h. h)
    (c.of.ensures.fit.1, c.of.ensures.fit.0)
