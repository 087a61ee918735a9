use Rattle.std.proofs.Common.{ap, sym, ◌∙◌}
use Rattle.std.specs.Option.{option_copied}
use Rattle.link_graph.proofs.Reading.{no-end}
use Rattle.link_graph.proofs.tests.set_end.Goals as goal

pub set_end-requires : goal.set_end-requires
set_end-requires c = no-end c.args.segment.now.end_record (sym (ap option_copied c.in-None.is)
    ∙ c.end_node.ensures)
