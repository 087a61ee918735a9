-- The entry that is held of the class has the class.
use Rattle.sample_file.proofs.Learnt.{held-entry, learnt}
use Rattle.sample_file.proofs.frames.learn.Goals as goal

pub learn-requires-clause-low : goal.learn-requires-clause-low
learn-requires-clause-low c =
    (held-entry c.args.dictionary.now c.args.class c.in-Some.entry.now c.in-Some.ensures.sound
    c.in-Some.ensures.entry).low

pub learn-requires-clause-high : goal.learn-requires-clause-high
learn-requires-clause-high c =
    (held-entry c.args.dictionary.now c.args.class c.in-Some.entry.now c.in-Some.ensures.sound
    c.in-Some.ensures.entry).high

pub returns : goal.returns
returns c =
    learnt c.args.dictionary.now c.args.class c.in-Some.entry.now c.args.plans.now _ _ c.in-Some.ensures.entry
    c.learn.ensures.read
