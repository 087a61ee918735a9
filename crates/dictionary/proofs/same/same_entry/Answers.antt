use Rattle.std.proofs.Common.{◌≡◌, rules}
use Rattle.dictionary.specs.Same.{same_entries}
use Rattle.dictionary.proofs.SameLemmas.{entries-Decides}
use Rattle.dictionary.proofs.same.same_entry.Goals as goal

pub returns-clause-exact : goal.returns-clause-exact
returns-clause-exact c =
    let same : c.same_elements.result ≡ same_entries c.args.a.now c.args.b.now = search rules in
    search (rules, entries-Decides)
