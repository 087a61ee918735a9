use Rattle.std.proofs.Common.{sym}
use Rattle.std.proofs.lemmas.Bool.{true≢false}
use Rattle.canonical_writer.proofs.Standing.{length-with}
use Rattle.canonical_writer.proofs.used.UsedEntries.number_after.Goals as goal

pub returns-else-stands : goal.returns-else-stands
returns-else-stands c =
    length-with c.self.inside.entries c.args.self.now c.self.inside.count c.saturating_add.result c.args.entry.now
    c.self.view_is c.self.invariant (λ some. true≢false (sym (c.if-stands.ensures.1 some))) c.saturating_add.ensures
