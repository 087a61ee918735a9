-- The names stay, and so the index.
use Rattle.std.proofs.Common.{ap, sym, ◌∙◌}
use Rattle.link_graph.proofs.Found.{ok-map}
use Rattle.contents_table.specs.Built.{name_in}
use Rattle.contents_table.proofs.Adding.{set-found}
use Rattle.contents_table.proofs.Numbering.{numbered-set}
use Rattle.contents_table.proofs.names.Names.add_channel.Goals as goal

pub invariant_of-self : goal.invariant_of-self
invariant_of-self c =
    numbered-set c.self.inside.listed.items c.args.k c.add-added.new.self c.index_mut.result.now
    c.self.inside.numbers
    c.self.invariant (ap name_in (sym c.index_mut.ensures.value) ∙ sym c.add-added.ensures.name)

pub returns-clause-ok : goal.returns-clause-ok
returns-clause-ok c = ok-map c.add-added.result
    (set-found c.args.found c.args.self.now c.self.inside.listed.items c.args.k c.index_mut.result.now
    c.add-added.new.self
    c.self.view_is c.requires.within c.index_mut.ensures.value)
    c.add-added.ensures.ok
