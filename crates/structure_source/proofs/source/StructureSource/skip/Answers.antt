-- Each step by the lemma of its name on n bytes that are passed in pieces.
use Rattle.std.proofs.Common.{refl, arith}
use Rattle.structure_source.proofs.Going.{goes-more, underway-none, underway-ready, underway-passed}
use Rattle.structure_source.proofs.Going.{passes-short}
use Rattle.structure_source.proofs.source.StructureSource.skip.Goals as goal

pub loop-left-init : goal.loop-left-init
loop-left-init g c = underway-none _ _ c.args.n _ refl c.requires.stands

pub returns-in_err-count-clause-on : goal.returns-in_err-count-clause-on
returns-in_err-count-clause-on g c = goes-more _ _ _ _ _ _ c.loop-left.invariant.goes
    c.in_err-count.ensures.on

pub returns-then-count-eq0-clause-on : goal.returns-then-count-eq0-clause-on
returns-then-count-eq0-clause-on g c = goes-more _ _ _ _ _ _ c.loop-left.invariant.goes
    c.in_ok-count.ensures.on

pub returns-then-count-eq0-clause-passes : goal.returns-then-count-eq0-clause-passes
returns-then-count-eq0-clause-passes g c =
    passes-short _ _ _ _ _ c.args.n c.loop-left.left c.loop-left.invariant c.loop-left-test.true
    (c.in_ok-count.ensures.end c.if-count-eq0.true) c.in_ok-count.ensures.still

pub loop-left-preserved : goal.loop-left-preserved
loop-left-preserved g c =
    underway-passed _ _ _ _ _ c.args.n c.loop-left.left c.in_ok-count.count
    (underway-ready _ _ _ _ _ _ c.args.n c.loop-left.left c.loop-left.invariant c.loop-left-test.true
    c.in_ok-count.ensures.still c.in_ok-count.ensures.on c.in_ok-count.ensures.stands
    c.in_ok-count.ensures.bounded)
    (omega (arith, c.in_ok-count.ensures.count)) (omega (arith, c.in_ok-count.ensures.count)) c.pass.ensures
