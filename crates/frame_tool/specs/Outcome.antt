-- The answers of a run: the status of each, and the line that is printed last.
use Rattle.std.specs.Prelude.{ℕ, List, [], ◌++◌, codes, Result, Ok, Err}
use Rattle.std.specs.Fmt.{decimal}
use Rattle.frame_tool.specs.declared.outcome.Outcome.{Outcome}
use Rattle.frame_tool.specs.declared.outcome.Outcome.TheVariants.{Done, Same, Different, Fault, NoChannel, NoTable}
use Rattle.frame_tool.specs.declared.outcome.Outcome.TheVariants.{TableLies, Clash, OutputLimit, FramesLimit, Usage}
use Rattle.frame_tool.specs.declared.outcome.Outcome.TheVariants.{Device, NoMemory}
use Rattle.file_grammar.specs.Reason.{number_of, name_of}
use Rattle.canonical_writer.specs.declared.writer.Summary.{Summary}
use Rattle.content_compare.specs.declared.answers.Comparison.{Comparison}
use Rattle.content_compare.specs.declared.answers.Comparison.TheVariants as comparison
use Rattle.content_compare.specs.declared.answers.CompareError.{CompareError}
use Rattle.content_compare.specs.declared.answers.CompareError.TheVariants as compare
use Rattle.splicer.specs.declared.errors.SpliceError.{SpliceError}
use Rattle.splicer.specs.declared.errors.SpliceError.TheVariants as splice

abbrev pub status_of : Outcome → ℕ
status_of Done = 0
status_of Same = 0
status_of (Different place) = 1
status_of (Fault file at field reason) = 1
status_of NoChannel = 1
status_of NoTable = 1
status_of (TableLies at) = 1
status_of (Clash file class) = 1
status_of OutputLimit = 1
status_of FramesLimit = 1
status_of Usage = 2
status_of Device = 3
status_of NoMemory = 4

abbrev pub line_of : Outcome → List ℕ
line_of Done = []
line_of Same = codes "same\n"
line_of (Different place) = codes "different at " ++ (decimal place ++ codes "\n")
line_of (Fault file at field reason) =
    codes "fault: file " ++ (decimal file ++ (codes " at " ++ (decimal at ++ (codes " field " ++ (decimal field
    ++ (codes ": " ++ (decimal (number_of reason) ++ (codes " " ++ (name_of reason ++ codes "\n")))))))))
line_of NoChannel = codes "no channel\n"
line_of NoTable = codes "no table\n"
line_of (TableLies at) = codes "table lies at " ++ (decimal at ++ codes "\n")
line_of (Clash file class) =
    codes "clash: file " ++ (decimal file ++ (codes " class " ++ (decimal class ++ codes "\n")))
line_of OutputLimit = codes "output limit\n"
line_of FramesLimit = codes "frames limit\n"
line_of Usage = codes "usage\n"
line_of Device = []
line_of NoMemory = []

-- the answer of a comparison
abbrev pub comparison_outcome : Result Comparison CompareError → Outcome
comparison_outcome (Ok comparison.Same) = Same
comparison_outcome (Ok (comparison.Different place)) = Different place
comparison_outcome (Err (compare.Fault file fault)) = Fault file fault.at fault.field fault.reason
comparison_outcome (Err compare.Device) = Device
comparison_outcome (Err compare.NoMemory) = NoMemory

-- the answer where a splice was not written whole, and where it was
abbrev pub splice_error_outcome : SpliceError → Outcome
splice_error_outcome (splice.Fault file fault) = Fault file fault.at fault.field fault.reason
splice_error_outcome (splice.Clash file class) = Clash file class
splice_error_outcome splice.FramesLimit = FramesLimit
splice_error_outcome splice.OutputLimit = OutputLimit
splice_error_outcome splice.Device = Device
splice_error_outcome splice.NoMemory = NoMemory

abbrev pub splice_outcome : Result Summary SpliceError → Outcome
splice_outcome (Ok summary) = Done
splice_outcome (Err error) = splice_error_outcome error
