use Rattle.std.proofs.Common.{◌∙◌, ap}
use Rattle.dictionary.specs.Dictionary.{entry_of}
use Rattle.dictionary.proofs.KeptLemmas.{lookup-entry_of}
use Rattle.dictionary.proofs.held.Dictionary.get.Goals as goal

pub returns-clause-entry : goal.returns-clause-entry
returns-clause-entry c =
    c.get.ensures.value
    ∙ lookup-entry_of c.self.inside.by_class.entries c.args.class c.self.invariant.keys
    ∙ ap (λ held. entry_of held c.args.class) c.self.view_is
