-- A name that is there has a number, at which it gets the channel; any other is put behind.
use Rattle.std.proofs.Common.{sym, ◌∙◌}
use Rattle.link_graph.proofs.Found.{ok-map}
use Rattle.contents_table.proofs.Adding.{added-channel, with_name-new, names-kept-either}
use Rattle.contents_table.proofs.names.Names.add.Goals as goal

pub returns-in-Some-clause-ok : goal.returns-in-Some-clause-ok
returns-in-Some-clause-ok c = ok-map c.add_channel.result
    (added-channel c.args.name.now c.args.found c.args.self.now c.add_channel.new.self c.in-Some.k
    (sym c.likely_number.ensures ∙ c.in-Some.is))
    c.add_channel.ensures.ok

pub returns-in-Some-clause-names : goal.returns-in-Some-clause-names
returns-in-Some-clause-names c =
    names-kept-either c.add_channel.result c.args.name.now c.args.found c.args.self.now
    c.add_channel.new.self c.requires.names c.requires.short (returns-in-Some-clause-ok c)
    c.add_channel.ensures.err

pub returns-in-None-clause-ok : goal.returns-in-None-clause-ok
returns-in-None-clause-ok c = ok-map c.add_name.result
    (λ pushed. pushed ∙ sym (with_name-new c.args.name.now c.args.found c.args.self.now
    (sym c.likely_number.ensures ∙ c.in-None.is)))
    c.add_name.ensures.ok

pub returns-in-None-clause-names : goal.returns-in-None-clause-names
returns-in-None-clause-names c =
    names-kept-either c.add_name.result c.args.name.now c.args.found c.args.self.now
    c.add_name.new.self c.requires.names c.requires.short (returns-in-None-clause-ok c) c.add_name.ensures.err
