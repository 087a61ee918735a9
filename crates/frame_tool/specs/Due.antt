-- The reply that is due to words over files: the answer, the text that is printed, and what is written.
use Rattle.std.specs.Prelude.{◌≡◌, ℕ, ◌<◌, Bool, List, ◌++◌, length, codes, Option, Some, None, ◌⊎◌, ⊤}
use Rattle.std.specs.Fmt.{decimal}
use Rattle.scalar_types.specs.declared.Order.{Order}
use Rattle.file_content.specs.declared.contents.Contents.{Contents}
use Rattle.file_content.specs.declared.state.TableState.{TableState}
use Rattle.file_content.specs.declared.state.TableState.TheVariants as state
use Rattle.frame_outside.specs.Shelf.{Files}
use Rattle.frame_outside.specs.Sink.{Output as Printed, Appends}
use Rattle.file_grammar.specs.declared.fault.Fault.{Fault as FirstFault}
use Rattle.file_content.specs.Contents.{AreContents}
use Rattle.dumper.specs.Page.{AppendsPrefix}
use Rattle.dumper.specs.Due.{IsDump}
use Rattle.dumper.specs.Lines.{order_name}
use Rattle.sample_file.specs.Whole.{sample_bytes}
use Rattle.frame_tool.specs.declared.outcome.Outcome.{Outcome}
use Rattle.frame_tool.specs.declared.outcome.Outcome.TheVariants.{Done, Same, Different, Fault, Clash}
use Rattle.frame_tool.specs.declared.outcome.Outcome.TheVariants.{FramesLimit, OutputLimit}
use Rattle.frame_tool.specs.declared.outcome.Outcome.TheVariants.{Usage, Device, NoMemory}
use Rattle.frame_tool.specs.declared.verdict.Verdict.{Verdict}
use Rattle.frame_tool.specs.declared.verdict.Verdict.TheVariants.{Sound, Wrong}
use Rattle.frame_reader.specs.Gives.{HoldBytes}
use Rattle.splicer.specs.Due.{Due, answer_of, is_whole, output_of}
use Rattle.splicer.specs.Due as SpliceDue
use Rattle.content_compare.specs.Due.{Answer}
use Rattle.content_compare.specs.Due as CompareDue
use Rattle.frame_tool.specs.Outcome.{line_of, comparison_outcome, splice_outcome}
use Rattle.frame_tool.specs.Words.{Form, WalkFile, CheckFile, ListFile, SameFiles, SpliceFiles, DumpFile}
use Rattle.frame_tool.specs.Words.{MakeFile, command_of}
use Rattle.frame_tool.specs.declared.judgement.Finding.{Finding}
use Rattle.frame_tool.specs.declared.judgement.Finding.TheVariants.{Accepted, Refused}
use Rattle.frame_tool.specs.declared.judgement.Report.{Report}
use Rattle.frame_tool.specs.declared.judgement.Report.TheVariants.{Summary, Channels}
use Rattle.frame_tool.specs.Walk.{IsVerdict}
use Rattle.frame_tool.specs.Check.{IsFinding}
use Rattle.frame_tool.specs.Listing.{list_text}

-- what is written: nothing; these bytes to the file of a name, a whole file or the beginning of one; or these, which
-- may stand there whole where what comes after them is refused
pub data Output : Type 0 where
  Nothing : Output
  Bytes : (to : List ℕ) (whole : Bool) (bytes : List ℕ) → Output
  Made : (to bytes : List ℕ) → Output

pub record Reply : Type 0 where
  pub outcome : Outcome
  pub text : List ℕ
  pub output : Output

abbrev pub walk_text : Order → ℕ → List ℕ
walk_text order count = codes "order: "
    ++ (order_name order ++ (codes "\nstructures: " ++ (decimal count ++ codes "\n")))

-- an answer that prints its line alone
abbrev pub reply_with : Outcome → Reply
reply_with outcome = record { outcome = outcome; text = line_of outcome; output = Nothing }

-- the reply of `walk` by the verdict
abbrev pub walk_reply : Verdict → Reply
walk_reply (Sound order count) = record { outcome = Done; text = walk_text order count; output = Nothing }
walk_reply (Wrong at reason) = reply_with (Fault 0 at 0 reason)

abbrev pub state_name : TableState → List ℕ
state_name state.None = codes "none"
state_name state.Lost = codes "lost"
state_name state.Unread = codes "unread"
state_name state.Good = codes "good"
state_name state.Bad = codes "bad"

-- the text of an accepted file
abbrev pub check_text : Contents → List ℕ
check_text contents =
    codes "accepted\norder: "
    ++ (order_name contents.order ++ (codes "\nframes: "
    ++ (decimal contents.frames ++ (codes "\nrecords: "
    ++ (decimal contents.records ++ (codes "\ntable: "
    ++ (state_name contents.table ++ (codes "\nbytes: " ++ (decimal contents.bytes ++ codes "\n")))))))))

-- what is asked for of an accepted file
abbrev pub report_text : Report → Contents → List ℕ
report_text Summary contents = check_text contents
report_text Channels contents = list_text contents.channels

-- the reply of `check` and `list` by what is found
abbrev pub finding_reply : Report → Finding → Reply
finding_reply report (Accepted contents) =
    record { outcome = Done; text = report_text report contents; output = Nothing }
finding_reply report (Refused fault) = reply_with (Fault 0 fault.at fault.field fault.reason)

-- the command that asks for it
abbrev pub form_asking : Report → List ℕ → Form
form_asking Summary file = CheckFile file
form_asking Channels file = ListFile file

-- The reply that is due over the bytes of a file of which this is to be found; none are held where the name is not.
abbrev pub IsFileDue : {A : Type 0} → (List ℕ → A → Type 0) → (A → Reply) → Option (List ℕ) → Reply → Type 0
IsFileDue is reply_of None reply = reply ≡ reply_with Device
IsFileDue {A} is reply_of (Some file) reply = (a : A) × is file a × (reply ≡ reply_of a)

-- the reply that is due to `walk`, and to `check` and `list`
abbrev pub IsWalkDue : Option (List ℕ) → Reply → Type 0
IsWalkDue = IsFileDue IsVerdict walk_reply

abbrev pub IsReportDue : Report → Option (List ℕ) → Reply → Type 0
IsReportDue report = IsFileDue IsFinding (finding_reply report)

-- the reply that is due to `same`
abbrev pub IsSameDue : List ℕ → List ℕ → Files → Reply → Type 0
IsSameDue first second files reply =
    (due : Answer) × CompareDue.IsDue files first second due × (reply ≡ reply_with (comparison_outcome due))

-- the reply of a splice by what is due of it
abbrev pub splice_reply : List ℕ → Due → Reply
splice_reply to due = record {
  outcome = splice_outcome (answer_of due);
  text = line_of (splice_outcome (answer_of due));
  output = Bytes to (is_whole due) (output_of due);
}

abbrev pub IsSpliceDue : List ℕ → List (List ℕ) → Files → Reply → Type 0
IsSpliceDue to from files reply = (due : Due) × SpliceDue.IsDue files from due × (reply ≡ splice_reply to due)

-- the reply of a dump, by the first fault of the file and the lines before it: the line of the fault comes last
abbrev pub dump_reply : Option FirstFault → List ℕ → Reply
dump_reply None text = record { outcome = Done; text = text; output = Nothing }
dump_reply (Some fault) text = record {
  outcome = Fault 0 fault.at fault.field fault.reason;
  text = text ++ line_of (Fault 0 fault.at fault.field fault.reason);
  output = Nothing;
}

-- the reply that is due to `dump`
abbrev pub IsDumpDue : Option (List ℕ) → Reply → Type 0
IsDumpDue None reply = reply ≡ reply_with Device
IsDumpDue (Some file) reply =
    (fault : Option FirstFault) × (text : List ℕ) × IsDump file fault text × (reply ≡ dump_reply fault text)

-- the reply of the making of a file of so many frames, by what it holds: the file is written, and its summary printed
abbrev pub make_reply : ℕ → List ℕ → Contents → Reply
make_reply frames to contents =
    record { outcome = Done; text = check_text contents; output = Made to (sample_bytes frames) }

-- the reply that is due to `make`
abbrev pub IsMakeDue : ℕ → List ℕ → Reply → Type 0
IsMakeDue frames to reply =
    (contents : Contents) × AreContents (sample_bytes frames) contents × (reply ≡ make_reply frames to contents)

abbrev pub IsCommandDue : Files → Option Form → Reply → Type 0
IsCommandDue files None reply = reply ≡ reply_with Usage
IsCommandDue files (Some (WalkFile file)) reply = IsWalkDue (files file) reply
IsCommandDue files (Some (CheckFile file)) reply = IsReportDue Summary (files file) reply
IsCommandDue files (Some (ListFile file)) reply = IsReportDue Channels (files file) reply
IsCommandDue files (Some (SameFiles first second)) reply = IsSameDue first second files reply
IsCommandDue files (Some (SpliceFiles to from)) reply = IsSpliceDue to from files reply
IsCommandDue files (Some (DumpFile file)) reply = IsDumpDue (files file) reply
IsCommandDue files (Some (MakeFile frames to)) reply = IsMakeDue frames to reply

-- the reply that is due to words over the files that are held
abbrev pub IsDue : Files → List (List ℕ) → Reply → Type 0
IsDue files words reply = IsCommandDue files (command_of words) reply

-- an answer where this one is due; two may come in its place
abbrev pub IsAnswer : Outcome → Outcome → Type 0
IsAnswer outcome due = (outcome ≡ due) ⊎ ((outcome ≡ Device) ⊎ (outcome ≡ NoMemory))

-- The answers of a command, whatever the files hold: a single input has number 0, and a walk names field 0.
abbrev pub IsAmong : Outcome → Option Form → Type 0
IsAmong Device command = ⊤
IsAmong NoMemory command = ⊤
IsAmong Usage None = ⊤
IsAmong Same (Some (SameFiles first second)) = ⊤
IsAmong (Different place) (Some (SameFiles first second)) = ⊤
IsAmong Done (Some (SameFiles first second)) = ⊥
IsAmong Done (Some form) = ⊤
IsAmong (Fault file at field reason) (Some (WalkFile name)) = (file ≡ 0) × (field ≡ 0)
IsAmong (Fault file at field reason) (Some (CheckFile name)) = file ≡ 0
IsAmong (Fault file at field reason) (Some (ListFile name)) = file ≡ 0
IsAmong (Fault file at field reason) (Some (DumpFile name)) = file ≡ 0
IsAmong (Fault file at field reason) (Some (MakeFile frames to)) = file ≡ 0
IsAmong (Fault file at field reason) (Some (SameFiles first second)) = file < 2
IsAmong (Fault file at field reason) (Some (SpliceFiles to from)) = file < length from
IsAmong (Clash file class) (Some (SpliceFiles to from)) = file < length from
IsAmong FramesLimit (Some (SpliceFiles to from)) = ⊤
IsAmong OutputLimit (Some (SpliceFiles to from)) = ⊤
IsAmong _ command = ⊥

-- the text was printed, after Device and NoMemory a prefix of it
abbrev pub Prints : Outcome → List ℕ → Printed → Printed → Type 0
Prints Device text old new = AppendsPrefix old new text
Prints NoMemory text old new = AppendsPrefix old new text
Prints _ text old new = Appends old new text

-- what is due of a comparison and of a splice is said of files that hold bytes, and that of any other command of all
-- files
abbrev pub AreFit : Option Form → Files → Type 0
AreFit (Some (SameFiles first second)) files = HoldBytes files
AreFit (Some (SpliceFiles to from)) files = HoldBytes files
AreFit command files = ⊤

-- words over such files have a reply that is due
abbrev pub EachRunHasADueReply : Type 0
EachRunHasADueReply =
    (files : Files) (words : List (List ℕ)) → AreFit (command_of words) files
    → (reply : Reply) × IsDue files words reply

-- and no two
abbrev pub NoRunHasTwoDueReplies : Type 0
NoRunHasTwoDueReplies = (files : Files) (words : List (List ℕ)) (first second : Reply) → IsDue files words first
    → IsDue files words second → first ≡ second
