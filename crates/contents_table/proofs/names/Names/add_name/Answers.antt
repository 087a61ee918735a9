-- The index has the new name too.
use Rattle.std.proofs.Common.{rules, ◌≡◌, List, ◌++◌, ◌∷◌, [], ap, sym, ◌∙◌, subst}
use Rattle.link_graph.proofs.Found.{on-ok}
use Rattle.contents_table.specs.declared.names.Listed.{Listed}
use Rattle.contents_table.specs.Built.{name_in}
use Rattle.contents_table.specs.Kept.{number_in, AreNumbered}
use Rattle.contents_table.proofs.Numbering.{numbered-push}
use Rattle.contents_table.proofs.names.Names.add_name.Goals as goal

pub invariant_of-self-2 : goal.invariant_of-self-2
invariant_of-self-2 c =
    let pushed : c.push.new.self.items ≡ c.self.inside.listed.items ++ c.in_ok-listed.listed ∷ [] =
    search rules in
    let named : c.in_ok-listed.listed.name ≡ c.args.name.now = ap name_in c.in_ok-listed.ensures in
    subst (λ (listed : List Listed). AreNumbered listed c.insert.new.self) (sym pushed)
    (numbered-push c.self.inside.listed.items c.in_ok-listed.listed c.self.inside.numbers c.insert.new.self
    c.in_ok-key.key
    c.len-k.result c.self.invariant
    (ap (number_in c.self.inside.listed.items) named
    ∙ ap (λ (listed : List Listed). number_in listed c.args.name.now) c.self.view_is ∙ c.requires)
    (c.in_ok-key.ensures.items ∙ sym named) (search rules)
    (on-ok c.insert.result (sym c.is_err.ensures.value ∙ c.if-is_err.false) c.insert.ensures.updates))
