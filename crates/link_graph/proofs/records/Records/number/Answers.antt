use Rattle.std.proofs.Common.{List, ap, ◌∙◌}
use Rattle.link_graph.specs.declared.nodes.Kept.{Kept}
use Rattle.link_graph.specs.Kept.{number_in}
use Rattle.link_graph.proofs.Found.{number-linked}
use Rattle.link_graph.proofs.records.Records.number.Goals as goal

pub returns : goal.returns
returns c =
    c.number.ensures ∙ number-linked c.self.inside.kept.items c.self.inside.index c.args.to c.self.invariant
    ∙ ap (λ (records : List Kept). number_in records c.args.to) c.self.view_is
