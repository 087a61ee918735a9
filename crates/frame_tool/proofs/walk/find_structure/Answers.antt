-- What is told is judged by the head that was read and the body that was passed over.
use Rattle.std.proofs.Common.{◌≤◌, ◌+◌, ◌≡◌, length, refl, ap, arith, rules}
use Rattle.frame_head.specs.declared.structure.Common.{Common}
use Rattle.frame_outside.proofs.Reading.{on_err, gone_once, gone_more, gone_refused}
use Rattle.frame_tool.specs.WalkSteps.{body_size_of}
use Rattle.frame_tool.proofs.Finding.{moves_judged, found_read}
use Rattle.frame_tool.proofs.walk.find_structure.Goals as goal

pub skip-requires : goal.skip-requires
skip-requires g c = (gone_once _ _ _ _ _ c.requires.source c.in_ok-read.ensures.advances).source

pub returns-in_err-passed-clause-refused : goal.returns-in_err-passed-clause-refused
returns-in_err-passed-clause-refused g c =
    on_err _ (gone_refused _ _ _ _ _ _ (gone_once _ _ _ _ _ c.requires.source c.in_ok-read.ensures.advances)
    c.in_err-passed.ensures.refused.draws)

pub returns-clause-found : goal.returns-clause-found
returns-clause-found g c = λ rest told.
    let size : length c.read.new.into ≡ 14 = search rules in
    found_read _ _ _ _ c.args.order c.args.at c.read.new.into rest _ _ _ _ c.judge.result size c.in_ok-read.ensures.room
    (ap (λ (common : Common). common.length) c.read_common-length.ensures) c.body_size.ensures
    c.in_ok-read.ensures.advances c.in_ok-read.ensures.filled c.in_ok-passed.ensures.passed c.judge.ensures told

pub returns-clause-moves : goal.returns-clause-moves
returns-clause-moves g c =
    let gone = gone_more _ _ _ _ _ _ _ _ (gone_once _ _ _ _ _ c.requires.source c.in_ok-read.ensures.advances)
    c.in_ok-passed.ensures.advances in
    let size : length c.read.new.into ≡ 14 = search rules in
    let within : c.in_ok-read.read + c.in_ok-passed.passed ≤ 14 + body_size_of c.read_common-length.result.length =
    omega (arith, c.in_ok-read.ensures.room, c.in_ok-passed.ensures.room, c.body_size.ensures, size) in
    moves_judged _ _ _ _ c.args.at (c.in_ok-read.read + c.in_ok-passed.passed) c.read_common-length.result.length
    c.judge.result gone.advances within
    (c.judge.ensures _ _ (omega (arith, within)) (λ _. refl))
