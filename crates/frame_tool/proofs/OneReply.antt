-- Words over files have one reply that is due.
use Rattle.std.proofs.Common.{◌≡◌, ℕ, ◌<◌, ◌≤◌, ◌⊎◌, List, [], ◌∷◌, length, Option, Some, None, inl, inr, refl, sym, ap}
use Rattle.std.proofs.Common.{◌∙◌, arith}
use Rattle.scalar_types.specs.declared.Order.TheVariants.{Little}
use Rattle.frame_outside.specs.Shelf.{Files}
use Rattle.file_grammar.specs.declared.fault.Fault.{Fault}
use Rattle.file_grammar.specs.Fault.{IsFirstFault}
use Rattle.file_grammar.specs.Laws.{WellFormed}
use Rattle.file_grammar.proofs.OneAnswer.{each_judged, not_both, faults_unique}
use Rattle.file_content.specs.declared.contents.Contents.{Contents}
use Rattle.file_content.specs.Contents.{AreContents}
use Rattle.file_content.proofs.OneContent.{no-two-contents, has-contents}
use Rattle.frame_tool.specs.declared.outcome.Outcome.TheVariants.{Usage, Device}
use Rattle.frame_tool.specs.declared.judgement.Finding.{Finding}
use Rattle.frame_tool.specs.declared.judgement.Finding.TheVariants.{Accepted, Refused}
use Rattle.frame_tool.specs.declared.judgement.Report.TheVariants.{Summary, Channels}
use Rattle.frame_tool.specs.Check.{IsFinding}
use Rattle.frame_tool.specs.Due.{Reply, reply_with, walk_reply, finding_reply, splice_reply, IsFileDue, IsSpliceDue}
use Rattle.frame_tool.specs.Due.{IsSameDue, IsDumpDue, IsMakeDue, dump_reply, make_reply, IsCommandDue}
use Rattle.frame_tool.specs.Due.{AreFit, EachRunHasADueReply, NoRunHasTwoDueReplies}
use Rattle.frame_tool.specs.Words.{Form, WalkFile, CheckFile, ListFile, SameFiles, SpliceFiles, DumpFile, MakeFile}
use Rattle.frame_tool.specs.Words.{command_of}
use Rattle.frame_tool.specs.Outcome.{comparison_outcome}
use Rattle.frame_reader.specs.Gives.{HoldBytes}
use Rattle.content_compare.specs.Laws.{EachComparisonHasADue, NoComparisonHasTwoDues}
use Rattle.splicer.proofs.Dues.{no-two-dues, a-due}
use Rattle.frame_tool.proofs.OneVerdict.{a_verdict, no_two_verdicts}
use Rattle.dumper.proofs.OneDump.{each-dump, one-dump}
use Rattle.sample_file.specs.Whole.{sample_bytes}
use Rattle.sample_file.proofs.WholeFiles.{sample-back}
use Rattle.frame_tool.proofs.SpliceWords.{splice_read}
use Rattle.frame_tool.proofs.MakeWords.{make_read}

-- of each file something is found
abbrev EachHas : {A : Type 0} → (List ℕ → A → Type 0) → Type 0
EachHas {A} is = (file : List ℕ) → (a : A) × is file a

-- and no two things
abbrev pub NoneHasTwo : {A : Type 0} → (List ℕ → A → Type 0) → Type 0
NoneHasTwo {A} is = (file : List ℕ) (a b : A) → is file a → is file b → a ≡ b

-- a file has one finding
finding_by : (file : List ℕ) → WellFormed file ⊎ ((fault : Fault) × IsFirstFault file fault) → (finding : Finding)
    × IsFinding file finding
finding_by file (inl (order, items, last, is)) =
    let some = has-contents file order items last is in
    (Accepted some.0, some.1)
finding_by file (inr (fault, is)) = (Refused fault, is)

a_finding : EachHas IsFinding
a_finding file = finding_by file (each_judged file)

well_formed : (file : List ℕ) (contents : Contents) → AreContents file contents → WellFormed file
well_formed file contents are = (contents.order, are.items, are.last, are.well_formed)

pub no_two_findings : NoneHasTwo IsFinding
no_two_findings file (Accepted contents) (Accepted other) are also =
    ap Accepted (no-two-contents file contents other are also)
no_two_findings file (Accepted contents) (Refused fault) are also =
    absurd (not_both file fault (well_formed file contents are) also)
no_two_findings file (Refused fault) (Accepted contents) is are =
    absurd (not_both file fault (well_formed file contents are) is)
no_two_findings file (Refused fault) (Refused other) is also = ap Refused (faults_unique file fault other is also)

file_due : {A : Type 0} (is : List ℕ → A → Type 0) (reply_of : A → Reply) → EachHas is → (held : Option (List ℕ))
    → (reply : Reply) × IsFileDue is reply_of held reply
file_due is reply_of each None = (reply_with Device, refl)
file_due is reply_of each (Some file) =
    let found = each file in
    (reply_of found.0, (found.0, found.1, refl))

pub file_dues : {A : Type 0} (is : List ℕ → A → Type 0) (reply_of : A → Reply) → NoneHasTwo is
    → (held : Option (List ℕ)) (first second : Reply) →
    IsFileDue is reply_of held first → IsFileDue is reply_of held second → first ≡ second
file_dues is reply_of alone None first second left right = left ∙ sym right
file_dues is reply_of alone (Some file) first second (a, holds, left) (b, also, right) =
    left ∙ ap reply_of (alone file a b holds also) ∙ sym right

-- a splice of one file or more has a reply that is due, and no two
splice_due : (files : Files) (to : List ℕ) (from : List (List ℕ)) → HoldBytes files → 0 < length from
    → (reply : Reply) × IsSpliceDue to from files reply
splice_due files to [] bytes some = absurd (omega (arith, some))
splice_due files to (name ∷ names) bytes some =
    let due = a-due files name names None [] 0 in
    (splice_reply to due.0, (due.0, record { bytes = bytes; from = due.1 }, refl))

splice_dues : (files : Files) (to : List ℕ) (from : List (List ℕ)) (first second : Reply)
    → IsSpliceDue to from files first → IsSpliceDue to from files second → first ≡ second
splice_dues files to from first second (a, is, left) (b, also, right) =
    left ∙ ap (splice_reply to) (no-two-dues files from None [] 0 a b is.from also.from) ∙ sym right

-- a comparison has a reply that is due, and no two, by the laws of comparisons
same_due : EachComparisonHasADue → (files : Files) (name other : List ℕ) → HoldBytes files
    → (reply : Reply) × IsSameDue name other files reply
same_due each files name other bytes =
    let due = each files name other bytes in
    (reply_with (comparison_outcome due.0), (due.0, due.1, refl))

same_dues : NoComparisonHasTwoDues → (files : Files) (name other : List ℕ) (first second : Reply)
    → IsSameDue name other files first → IsSameDue name other files second → first ≡ second
same_dues alone files name other first second (a, is, left) (b, also, right) =
    left ∙ ap (λ due. reply_with (comparison_outcome due)) (alone files name other a b is also) ∙ sym right

-- a dump has a reply that is due, and no two
dump_due : (held : Option (List ℕ)) → (reply : Reply) × IsDumpDue held reply
dump_due None = (reply_with Device, refl)
dump_due (Some file) =
    let dump = each-dump file in
    (dump_reply dump.0 dump.1, (dump.0, dump.1, dump.2, refl))

pub dump_dues : (held : Option (List ℕ)) (first second : Reply) → IsDumpDue held first → IsDumpDue held second
    → first ≡ second
dump_dues None first second left right = left ∙ sym right
dump_dues (Some file) first second (fault, text, is, left) (other, printed, also, right) =
    let same = one-dump file fault other text printed is also in
    left ∙ ap (λ f. dump_reply f text) same.0 ∙ ap (dump_reply other) same.1 ∙ sym right

-- so has the making of a file of 100,000 frames at most
pub sample_contents : (frames : ℕ) → frames ≤ 100000 → (contents : Contents)
    × AreContents (sample_bytes frames) contents
sample_contents frames few =
    let back = sample-back frames few in
    has-contents (sample_bytes frames) Little back.items back.last back.well_formed

make_due : (frames : ℕ) (to : List ℕ) → frames ≤ 100000 → (reply : Reply) × IsMakeDue frames to reply
make_due frames to few =
    let some = sample_contents frames few in
    (make_reply frames to some.0, (some.0, some.1, refl))

make_dues : (frames : ℕ) (to : List ℕ) (first second : Reply) → IsMakeDue frames to first → IsMakeDue frames to second
    → first ≡ second
make_dues frames to first second (contents, are, left) (other, also, right) =
    left ∙ ap (make_reply frames to) (no-two-contents (sample_bytes frames) contents other are also) ∙ sym right

command_due : EachComparisonHasADue → (files : Files) (words : List (List ℕ)) (command : Option Form)
    → AreFit command files → command_of words ≡ command → (reply : Reply) × IsCommandDue files command reply
command_due each files words None bytes is = (reply_with Usage, refl)
command_due each files words (Some (WalkFile file)) bytes is = file_due _ walk_reply a_verdict (files file)
command_due each files words (Some (CheckFile file)) bytes is =
    file_due _ (finding_reply Summary) a_finding (files file)
command_due each files words (Some (ListFile file)) bytes is =
    file_due _ (finding_reply Channels) a_finding (files file)
command_due each files words (Some (SameFiles first second)) bytes is = same_due each files first second bytes
command_due each files words (Some (SpliceFiles to from)) bytes is =
    splice_due files to from bytes (splice_read words to from is).some
command_due each files words (Some (DumpFile file)) bytes is = dump_due (files file)
command_due each files words (Some (MakeFile frames to)) bytes is = make_due frames to (make_read words frames to is)

command_dues : NoComparisonHasTwoDues → (files : Files) (command : Option Form) (first second : Reply)
    → IsCommandDue files command first → IsCommandDue files command second → first ≡ second
command_dues alone files None first second left right = left ∙ sym right
command_dues alone files (Some (WalkFile file)) first second left right =
    file_dues _ walk_reply no_two_verdicts (files file) first second left right
command_dues alone files (Some (CheckFile file)) first second left right =
    file_dues _ (finding_reply Summary) no_two_findings (files file) first second left right
command_dues alone files (Some (ListFile file)) first second left right =
    file_dues _ (finding_reply Channels) no_two_findings (files file) first second left right
command_dues alone files (Some (SameFiles name other)) first second left right =
    same_dues alone files name other first second left right
command_dues alone files (Some (SpliceFiles to from)) first second left right =
    splice_dues files to from first second left right
command_dues alone files (Some (DumpFile file)) first second left right =
    dump_dues (files file) first second left right
command_dues alone files (Some (MakeFile frames to)) first second left right =
    make_dues frames to first second left right

pub a_due_reply : EachComparisonHasADue → EachRunHasADueReply
a_due_reply each files words bytes = command_due each files words (command_of words) bytes refl

pub no_two_due_replies : NoComparisonHasTwoDues → NoRunHasTwoDueReplies
no_two_due_replies alone files words first second left right =
    command_dues alone files (command_of words) first second left right
