use Rattle.std.proofs.Common.{ap, sym, ◌∙◌, subst}
use Rattle.dictionary.specs.Names.{class_at}
use Rattle.dictionary.specs.Verdicts.{IsNew}
use Rattle.dictionary.specs.Dictionary.{entry_of}
use Rattle.dictionary.proofs.KeptLemmas.{lookup-entry_of, IsKept-put}
use Rattle.dictionary.proofs.held.Dictionary.hold.Goals as goal

pub put-requires : goal.put-requires
put-requires c =
    lookup-entry_of c.self.inside.by_class.entries c.args.class c.self.invariant.keys
    ∙ ap (λ held. entry_of held c.args.class) c.self.view_is
    ∙ ap (entry_of c.args.self.now) c.requires.class
    ∙ c.requires.fresh.class

pub invariant_of-self : goal.invariant_of-self
invariant_of-self c =
    IsKept-put c.put.result c.self.inside.by_class.entries c.put.new.by_class.entries (class_at c.self.inside.by_name)
    (class_at c.put.new.by_name) c.args.class c.args.entry c.self.invariant
    (subst (λ held. IsNew held c.args.entry) (sym c.self.view_is) c.requires.fresh) c.requires.read c.requires.class
    c.put.ensures.classes c.put.ensures.names c.put.ensures.classes_stay c.put.ensures.names_stay
