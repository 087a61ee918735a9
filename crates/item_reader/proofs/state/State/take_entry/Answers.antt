use Rattle.item_reader.specs.State.{here_in}
use Rattle.item_reader.proofs.Kept.{sound-entry}
use Rattle.item_reader.proofs.Taken.{answers-passed, takes-entry, entry-answers}
use Rattle.item_reader.proofs.Holding.{lent-entry}
use Rattle.item_reader.proofs.Rows.{rows-entry}
use Rattle.item_reader.proofs.state.State.take_entry.Goals as goal

pub returns-in_err-changed-clause-answers : goal.returns-in_err-changed-clause-answers
returns-in_err-changed-clause-answers c = λ file body stands good d.
    let h = here_in c.args.self.now file in
    let error = c.in_err-changed.field-0.0 in
    answers-passed h c.hold.new.self c.from_residual.result error c.from_residual.ensures.1
    (entry-answers c.args.self.now c.args.head error c.hold.new.self file body c.requires.open stands
    c.requires.kind
    good (c.in_err-changed.ensures.answers file body c.args.end stands d))

pub returns-clause-answers : goal.returns-clause-answers
returns-clause-answers c = λ file body stands good d.
    takes-entry c.args.self.now c.args.head c.args.entry c.args.end c.in_ok-changed.changed c.hold.new.self
    file body
    c.requires.open stands c.requires.kind good
    (c.in_ok-changed.ensures.answers file body c.args.end stands d) d
    c.in_ok-changed.ensures.holds

pub returns-clause-kept : goal.returns-clause-kept
returns-clause-kept c =
    sound-entry c.args.self.now c.args.head c.args.entry c.args.end c.in_ok-changed.changed c.hold.new.self
    c.requires.sound c.requires.here c.requires.after c.requires.low c.in_ok-changed.ensures.below
    c.in_ok-changed.ensures.holds

pub returns-clause-lent : goal.returns-clause-lent
returns-clause-lent c = λ kept beside.
    lent-entry c.args.self.now c.args.entry c.args.head.at c.in_ok-changed.changed c.hold.new.self kept
    c.in_ok-changed.ensures.holds beside

pub returns-clause-rows : goal.returns-clause-rows
returns-clause-rows c =
    rows-entry c.args.self.now c.args.entry c.args.end c.in_ok-changed.changed c.hold.new.self c.requires.sound
    c.in_ok-changed.ensures.holds
