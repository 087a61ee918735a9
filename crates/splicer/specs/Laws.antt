-- The laws of splices and copies.
use Rattle.std.specs.Prelude.{◌≡◌, ◌↔◌, ◌≤◌, ℕ, true, List, [], ◌∷◌, length, take, Some}
use Rattle.std.specs.List.{AllZip}
use Rattle.frame_outside.specs.Shelf.{Files}
use Rattle.file_grammar.specs.declared.fault.Fault.{Fault}
use Rattle.file_grammar.specs.Structure.{file_limit}
use Rattle.file_grammar.specs.Laws.{WellFormed}
use Rattle.frame_content.specs.Frames.{Frame}
use Rattle.canonical_file.specs.declared.closing.Closing.{Closing}
use Rattle.canonical_file.specs.Ordered.{IsInOrder}
use Rattle.canonical_file.specs.Written.{canonical_head, canonical_file}
use Rattle.canonical_file.specs.Contents.{Content, SameContent, IsCanonical}
use Rattle.canonical_file.specs.Splices.{as_used}
use Rattle.canonical_laws.specs.Content.{HasContent}
use Rattle.canonical_laws.specs.Laws.{ReadsBack}
use Rattle.splicer.specs.declared.errors.SpliceError.TheVariants as splice
use Rattle.splicer.specs.Left.{IsPart}
use Rattle.frame_reader.specs.Gives.{Breaks, Gives, HoldBytes}
use Rattle.splicer.specs.Due.{Due, Writes, Stops, IsDue, output_of, is_whole}

-- Of files that hold bytes a splice is due.
abbrev pub EachSpliceHasADue : Type 0
EachSpliceHasADue =
    (files : Files) (name : List ℕ) (names : List (List ℕ)) → HoldBytes files
    → (due : Due) × IsDue files (name ∷ names) due

-- And no two.
abbrev pub NoSpliceHasTwoDues : Type 0
NoSpliceHasTwoDues =
    (files : Files) (names : List (List ℕ)) (first second : Due) → IsDue files names first → IsDue files names second
    → first ≡ second

-- a file is held and has this content, of which these bytes are the canonical file
pub record IsCopyOf (files : Files) (name : List ℕ) (c : Content) (bytes : List ℕ) : Type 0 where
  pub file : List ℕ
  pub held : files name ≡ Some file
  pub content : HasContent file c
  pub canonical : IsCanonical c bytes

-- What a copy writes whole is the canonical file of what the file holds.
abbrev pub CopiesAreCanonical : Type 0
CopiesAreCanonical =
    (files : Files) (name : List ℕ) (closing : Closing) (frames : List Frame)
    → IsDue files (name ∷ []) (Writes closing frames)
    → (c : Content) × IsCopyOf files name c (canonical_file closing frames)

-- Copies that are written whole, within the limit of files, are equal bytes exactly where their sources hold the same.
abbrev pub CopiesTellContents : Type 0
CopiesTellContents =
    (files others : Files) (name other : List ℕ) (closing end : Closing) (frames ends : List Frame)
    → IsDue files (name ∷ []) (Writes closing frames) → IsDue others (other ∷ []) (Writes end ends)
    → (c d : Content) × IsCopyOf files name c (canonical_file closing frames)
    × IsCopyOf others other d (canonical_file end ends)
    × ((canonical_file closing frames ≡ canonical_file end ends) ↔ SameContent c d)

-- A copy of a well-formed file is due whole, and is the canonical file of its content, within the limit of files.
abbrev pub CopiesAreDone : Type 0
CopiesAreDone =
    (files : Files) (name file : List ℕ) (c : Content) (bytes : List ℕ) (due : Due) → files name ≡ Some file
    → HasContent file c → IsCanonical c bytes → length bytes ≤ file_limit → IsDue files (name ∷ []) due
    → (output_of due ≡ bytes) × (is_whole due ≡ true)

-- Of a copy of any other file its first fault is due, after the canonical head of the frames before it, where that is
-- within the limit of files.
abbrev pub CopiesNameFaults : Type 0
CopiesNameFaults =
    (files : Files) (name file : List ℕ) (fault : Fault) (frames ordered : List Frame) (due : Due)
    → files name ≡ Some file → Gives file frames (Breaks fault) → AllZip IsInOrder frames ordered
    → length (canonical_head ordered) ≤ file_limit → IsDue files (name ∷ []) due
    → due ≡ Stops (splice.Fault 0 fault) ordered

-- No part of what is due is well-formed: neither a part of a whole file that is not all of it, nor what stands at an
-- error or a part of that.
abbrev pub NoPartIsWhole : Type 0
NoPartIsWhole =
    (files : Files) (names : List (List ℕ)) (due : Due) (n : ℕ) → IsDue files names due
    → IsPart (is_whole due) n (output_of due) → WellFormed (take n (output_of due)) → ⊥

-- What is written whole is well-formed, and reads back as the closing of the first file and the frames of all files,
-- each class by the entry that is used first of it.
abbrev pub WholeSplicesAreRead : Type 0
WholeSplicesAreRead =
    (files : Files) (names : List (List ℕ)) (closing : Closing) (frames : List Frame)
    → IsDue files names (Writes closing frames)
    → ReadsBack (canonical_file closing frames) closing (as_used frames)
