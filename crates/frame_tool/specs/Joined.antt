-- What the walk and the check of one file have to do with each other.
use Rattle.std.specs.Prelude.{◌≡◌, ℕ, ◌<◌, ◌≤◌, ◌⊎◌, ⊤, List, take, Ok}
use Rattle.scalar_types.specs.declared.Order.{Order}
use Rattle.frame_head.specs.Header.{header_of}
use Rattle.file_grammar.specs.declared.reason.Reason.{Reason}
use Rattle.file_grammar.specs.declared.reason.Reason.TheVariants.{CutHeader, BadHeader, CutRecord, LengthSmall}
use Rattle.file_grammar.specs.declared.reason.Reason.TheVariants.{RecordLimit, FileLimit, Trailing}
use Rattle.file_grammar.specs.declared.fault.Fault.{Fault}
use Rattle.file_grammar.specs.Structure.{record_limit, common_at}
use Rattle.frame_tool.specs.declared.verdict.Verdict.TheVariants.{Sound, Wrong}
use Rattle.file_content.specs.declared.contents.Contents.{Contents}
use Rattle.frame_tool.specs.declared.judgement.Finding.TheVariants.{Accepted, Refused}
use Rattle.frame_tool.specs.Walk.{IsVerdict}
use Rattle.frame_tool.specs.Check.{IsFinding}

-- the length that is told at a place is beyond that of any structure
pub record IsTooLong (file : List ℕ) (at : ℕ) : Type 0 where
  pub order : Order
  pub header : header_of (take 40 file) ≡ Ok order
  pub long : record_limit < (common_at order file at).length

-- The reason is one that a walk judges by: it is of the header, of a length, or of the place where a
-- structure ends. RecordLimit is one by the length that is told, and none by the weight of a record.
abbrev pub IsOfLength : List ℕ → ℕ → Reason → Type 0
IsOfLength file at CutHeader = ⊤
IsOfLength file at BadHeader = ⊤
IsOfLength file at CutRecord = ⊤
IsOfLength file at LengthSmall = ⊤
IsOfLength file at RecordLimit = IsTooLong file at
IsOfLength file at FileLimit = ⊤
IsOfLength file at _ = ⊥

-- A file that is accepted is sound, in the byte order that was found.
abbrev pub AcceptedFilesAreSound : Type 0
AcceptedFilesAreSound =
    (file : List ℕ) (contents : Contents) → IsFinding file (Accepted contents)
    → (count : ℕ) × IsVerdict file (Sound contents.order count)

-- Where a file is refused for such a reason, the walk has it at the same place, and both name field 0.
abbrev pub BothNameFaultsOfLengths : Type 0
BothNameFaultsOfLengths =
    (file : List ℕ) (fault : Fault) → IsFinding file (Refused fault) → IsOfLength file fault.at fault.reason
    → IsVerdict file (Wrong fault.at fault.reason) × (fault.field ≡ 0)

-- The walk has no other reasons,
abbrev pub WalksNameNoOthers : Type 0
WalksNameNoOthers =
    (file : List ℕ) (at : ℕ) (reason : Reason) → IsVerdict file (Wrong at reason) → IsOfLength file at reason

-- and none before the place of the check's fault.
abbrev pub NoWalkFaultIsEarlier : Type 0
NoWalkFaultIsEarlier =
    (file : List ℕ) (at : ℕ) (reason : Reason) (fault : Fault) → IsVerdict file (Wrong at reason)
    → IsFinding file (Refused fault) → fault.at ≤ at

-- Where both stand at one place they are of one reason, but for two cases: where the walk names FileLimit the
-- check may have a reason of a lesser number, and after the end of the file the check names Trailing alone.
abbrev pub AreOfOneReason : Reason → Reason → Type 0
AreOfOneReason walk check = (walk ≡ check) ⊎ ((walk ≡ FileLimit) ⊎ (check ≡ Trailing))

abbrev pub FaultsAtOnePlaceAreOne : Type 0
FaultsAtOnePlaceAreOne =
    (file : List ℕ) (reason : Reason) (fault : Fault) → IsVerdict file (Wrong fault.at reason)
    → IsFinding file (Refused fault) → AreOfOneReason reason fault.reason
