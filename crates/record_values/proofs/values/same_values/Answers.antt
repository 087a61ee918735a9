use Rattle.std.proofs.Common.{rules}
use Rattle.record_values.proofs.Equality.{Values-eq-Decides}
use Rattle.record_values.proofs.values.same_values.Goals as goal

pub returns : goal.returns
returns c = search (rules, Values-eq-Decides)
