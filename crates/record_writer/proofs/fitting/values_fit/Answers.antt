use Rattle.std.proofs.Common.{sym}
use Rattle.std.proofs.lemmas.Slice.Zip.{AllZip-long}
use Rattle.record_writer.proofs.fitting.values_fit.Goals as goal

pub returns-then-fields-values : goal.returns-then-fields-values
returns-then-fields-values c =
    (λ no. cc, λ fit. absurd (c.if-fields-values.true (sym (AllZip-long _ _ _ fit))))
