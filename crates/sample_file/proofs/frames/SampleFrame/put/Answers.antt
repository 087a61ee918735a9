-- The record of a draft is new among those of others, and is held behind them.
use Rattle.sample_file.proofs.DraftLemmas.{holds-more}
use Rattle.sample_file.proofs.PutDrafts.{few-nodes, no-twin}
use Rattle.sample_file.proofs.frames.SampleFrame.put.Goals as goal

pub add-requires : goal.add-requires
add-requires c =
    let can = c.requires.can in
    few-nodes can.drafts c.args.self.now.segment c.write.new.self.segment can.fields c.args.values.now can.held can.few
    (c.in_ok-write.ensures.pending can.fields can.sound.layout)

pub unreachable-requires : goal.unreachable-requires
unreachable-requires c =
    let can = c.requires.can in
    no-twin can.drafts c.args.self.now.segment c.write.new.self.segment can.fields c.args.values.now c.args.node can.held
    (c.in_ok-write.ensures.pending can.fields can.sound.layout) can.fresh
    (c.add.ensures.twice.0 (cc))

pub returns-in-Ok-clause-held : goal.returns-in-Ok-clause-held
returns-in-Ok-clause-held c = λ drafts fields held sound.
    let made = c.in-Ok.ensures.ok in
    holds-more drafts (record { node = c.args.node; fields = fields; values = c.args.values.now })
    c.args.self.now.segment c.write.new.self.segment c.add.new.self held sound
    (c.in_ok-write.ensures.pending fields sound.layout) made.order made.nodes made.end_record made.pending made.given
