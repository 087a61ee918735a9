-- What is said of runs of `copy` and of `same` together.
use Rattle.std.specs.Prelude.{◌≡◌, ◌≢◌, ◌↔◌, ◌≤◌, ℕ, List, [], ◌∷◌, length, codes, Some}
use Rattle.std.specs.List.{AllZip}
use Rattle.frame_outside.specs.Shelf.{Files, Outside}
use Rattle.frame_outside.specs.Sink.{Output as Printed}
use Rattle.file_grammar.specs.declared.fault.Fault.{Fault as FirstFault}
use Rattle.file_grammar.specs.Structure.{file_limit}
use Rattle.frame_content.specs.Frames.{Frame}
use Rattle.canonical_file.specs.Ordered.{IsInOrder}
use Rattle.canonical_file.specs.Written.{canonical_head}
use Rattle.canonical_file.specs.Contents.{Content, IsCanonical}
use Rattle.canonical_laws.specs.Content.{HasContent}
use Rattle.frame_reader.specs.Gives.{Breaks, Gives, HoldBytes}
use Rattle.frame_tool.specs.declared.outcome.Outcome.{Outcome}
use Rattle.frame_tool.specs.declared.outcome.Outcome.TheVariants.{Done, Same, Fault, Device, NoMemory}
use Rattle.frame_tool.specs.Due.{Reply, IsDue}
use Rattle.frame_tool.specs.Run.{Runs}

-- `copy FILE OUT` was run over these files, which hold bytes, with this answer, and these are the files then.
pub record RunsCopy (files now : Files) (file to : List ℕ) (outcome : Outcome) : Type 0 where
  pub bytes : HoldBytes files
  pub old : Outside
  pub new : Outside
  pub before : Printed
  pub after : Printed
  pub told : old.files ≡ Some files
  pub now_are : new.files ≡ Some now
  pub runs : Runs (codes "copy" ∷ file ∷ to ∷ []) old new before after outcome

-- Two copies that are done are equal bytes exactly where, over any files that hold both sources, `same` is due of
-- these.
abbrev pub CopiesTellContents : Type 0
CopiesTellContents =
    (files now others then both : Files) (file to other also : List ℕ) (reply : Reply)
    → RunsCopy files now file to Done → RunsCopy others then other also Done → both file ≡ files file
    → both other ≡ others other → IsDue both (codes "same" ∷ file ∷ other ∷ []) reply
    → (now to ≡ then also) ↔ (reply.outcome ≡ Same)

-- Where no call of the outside fails and memory is there, the copy of a well-formed file is done, and is the canonical
-- file of its content, where that is within the limit of files.
abbrev pub CopiesAreDone : Type 0
CopiesAreDone =
    (files now : Files) (file to bytes canonical : List ℕ) (c : Content) (outcome : Outcome)
    → RunsCopy files now file to outcome → outcome ≢ Device → outcome ≢ NoMemory → file ≢ to
    → files file ≡ Some bytes → HasContent bytes c → IsCanonical c canonical → length canonical ≤ file_limit
    → (outcome ≡ Done) × (now to ≡ Some canonical)

-- Of any other file its first fault is answered, and the canonical head of the frames before it is written.
abbrev pub CopiesNameFaults : Type 0
CopiesNameFaults =
    (files now : Files) (file to bytes : List ℕ) (fault : FirstFault) (frames ordered : List Frame) (outcome : Outcome)
    → RunsCopy files now file to outcome → outcome ≢ Device → outcome ≢ NoMemory → file ≢ to
    → files file ≡ Some bytes → Gives bytes frames (Breaks fault) → AllZip IsInOrder frames ordered
    → length (canonical_head ordered) ≤ file_limit
    → (outcome ≡ Fault 0 fault.at fault.field fault.reason) × (now to ≡ Some (canonical_head ordered))
