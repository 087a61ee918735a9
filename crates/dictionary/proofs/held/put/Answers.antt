use Rattle.std.proofs.Common.{ap, ◌∙◌, ◌++◌, ◌∷◌, [], eqb}
use Rattle.std.specs.Map.{lookup}
use Rattle.indexmap.proofs.CallerLemmas.{insert_entry-new}
use Rattle.dictionary.proofs.NameLemmas.{Puts-from_updates}
use Rattle.dictionary.proofs.held.put.Goals as goal

pub returns-clause-classes : goal.returns-clause-classes
returns-clause-classes c =
    let same = c.in_ok-reserve.ensures.entries in
    let pushed = rw c.unwrap.ensures at c.insert-2.ensures.entries in
    pushed
    ∙ insert_entry-new eqb c.reserve.new.self c.args.class c.args.entry
    (ap (lookup (eqb c.args.class)) same ∙ c.requires)
    ∙ ap (λ entries. entries ++ (c.args.class, c.args.entry) ∷ []) same

pub returns-clause-names : goal.returns-clause-names
returns-clause-names c =
    Puts-from_updates c.args.by_name.now c.insert.new.self c.in_ok-name.name c.args.entry.name c.args.class
    (c.in_ok-name.ensures.items ∙ c.bytes.ensures) c.in_ok-insert.ensures.updates
