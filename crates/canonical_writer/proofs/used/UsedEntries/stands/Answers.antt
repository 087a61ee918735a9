use Rattle.std.proofs.Common.{sym}
use Rattle.std.proofs.lemmas.Bool.{true≢false}
use Rattle.canonical_writer.proofs.Standing.{no-class}
use Rattle.canonical_writer.proofs.used.UsedEntries.stands.Goals as goal

pub returns-in-Err : goal.returns-in-Err
returns-in-Err c = (
  λ t. absurd (true≢false (sym t)),
  λ some. absurd (no-class c.self.inside.entries c.args.self.now c.self.inside.count c.args.class c.self.view_is
      c.self.invariant c.in-Err.ensures some),
)
