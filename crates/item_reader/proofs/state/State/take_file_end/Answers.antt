use Rattle.std.proofs.Common.{◌∙◌}
use Rattle.item_reader.specs.declared.item.ReadError.TheVariants as errors
use Rattle.item_reader.specs.State.{here_in}
use Rattle.item_reader.specs.Judged.{reading_reasons, closing_reasons}
use Rattle.item_reader.proofs.Kept.{file_end-closes, file_end-below, sound-file_end}
use Rattle.item_reader.proofs.Parts.{first_of-front}
use Rattle.item_reader.proofs.Taken.{answers-passed, file_end-judged, takes-file_end}
use Rattle.item_reader.proofs.state.State.take_file_end.Goals as goal

pub returns-in_err-read-clause-answers : goal.returns-in_err-read-clause-answers
returns-in_err-read-clause-answers c = λ file stands.
    let s = c.args.self.now in
    answers-passed (here_in s file) s c.from_residual.result (errors.Fault c.in_err-read.field-0.0)
    c.from_residual.ensures.1
    (file_end-judged s c.args.end file c.args.body.now c.requires.open stands c.requires.kind
    ∙ first_of-front reading_reasons closing_reasons (here_in s file) c.in_err-read.field-0.0
    (c.in_err-read.ensures.fault file stands))

pub table_seek-seek-requires-clause-layout : goal.table_seek-seek-requires-clause-layout
table_seek-seek-requires-clause-layout c =
    file_end-closes c.args.self.now c.args.end c.args.body.now c.requires.here c.requires.size
    (assumption c.well_formed.1) c.requires.kind
    (λ file stands. c.closing_fault.ensures file stands ∙ c.in_default.is)

pub returns-clause-answers : goal.returns-clause-answers
returns-clause-answers c = λ file stands.
    takes-file_end c.args.self.now c.args.end c.table_seek-seek.result file c.args.body.now c.requires.open
    stands
    c.requires.kind (c.in_ok-read.ensures.ok file stands).none
    (c.closing_fault.ensures file stands ∙ c.in_default.is) (c.table_seek-seek.ensures file stands)

pub returns-clause-kept : goal.returns-clause-kept
returns-clause-kept c =
    sound-file_end c.args.self.now c.args.end c.requires.sound c.requires.here
    (file_end-below c.args.self.now c.args.end c.args.body.now c.requires.here c.requires.size
    (assumption c.well_formed.1)
    (λ file stands. c.closing_fault.ensures file stands ∙ c.in_default.is))
