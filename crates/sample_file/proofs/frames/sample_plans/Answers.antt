-- Each class has a layout, and the plans are those.
use Rattle.sample_file.specs.Drafts.{header_fields, raw_fields, channel_fields, vector_fields, end_fields}
use Rattle.sample_file.proofs.Learnt.{header-layout, raw-layout, channel-layout, vector-layout, end-layout}
use Rattle.sample_file.proofs.Learnt.{some-layout, all-learnt}
use Rattle.sample_file.proofs.frames.sample_plans.Goals as goal

pub learn-requires : goal.learn-requires
learn-requires c = some-layout c.args.dictionary.now 3 header_fields c.requires header-layout

pub learn-requires-2 : goal.learn-requires-2
learn-requires-2 c = some-layout c.args.dictionary.now 4 raw_fields c.requires raw-layout

pub learn-requires-3 : goal.learn-requires-3
learn-requires-3 c = some-layout c.args.dictionary.now 5 channel_fields c.requires channel-layout

pub learn-requires-4 : goal.learn-requires-4
learn-requires-4 c = some-layout c.args.dictionary.now 7 vector_fields c.requires vector-layout

pub learn-requires-5 : goal.learn-requires-5
learn-requires-5 c = some-layout c.args.dictionary.now 9 end_fields c.requires end-layout

pub returns : goal.returns
returns c =
    all-learnt c.args.dictionary.now c.new-plans.result c.learn.new.plans c.learn-2.new.plans c.learn-3.new.plans
    c.learn-4.new.plans c.learn-5.new.plans c.requires c.new-plans.ensures c.in_ok-learn.ensures
    c.in_ok-learn-2.ensures c.in_ok-learn-3.ensures c.in_ok-learn-4.ensures c.in_ok-learn-5.ensures
