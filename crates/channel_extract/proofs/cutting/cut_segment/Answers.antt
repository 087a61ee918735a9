use Rattle.channel_extract.proofs.Relinking.{keeps-on, stat-keeps}
use Rattle.channel_extract.proofs.NoLoose.{none-without}
use Rattle.channel_extract.proofs.CutSegments.{segment-cut}
use Rattle.channel_extract.proofs.cutting.cut_segment.Goals as goal

pub returns-clause-cut : goal.returns-clause-cut
returns-clause-cut c held channel =
    segment-cut held c.args.plans.now c.args.layouts.now c.args.kind c.args.channel c.args.segment.now
    c.lead_to_channel.new.segment c.drop_stat_roots.new.self channel c.in_ok-lead_to_channel.ensures.nodes
    (c.in_ok-lead_to_channel.ensures.cut held channel) c.drop_stat_roots.ensures

pub returns-clause-records : goal.returns-clause-records
returns-clause-records c =
    let kept = c.in_ok-lead_to_channel.ensures.records in
    keeps-on c.args.plans.now c.args.segment.now c.lead_to_channel.new.segment c.drop_stat_roots.new.self kept
    (stat-keeps c.args.plans.now c.lead_to_channel.new.segment c.drop_stat_roots.new.self kept.reads
    c.drop_stat_roots.ensures)

pub returns-clause-linked : goal.returns-clause-linked
returns-clause-linked c none =
    none-without c.args.plans.now c.lead_to_channel.new.segment c.drop_stat_roots.new.self c.drop_stat_roots.ensures
    (c.in_ok-lead_to_channel.ensures.linked none)
