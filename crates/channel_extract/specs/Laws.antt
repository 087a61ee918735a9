-- The laws of scans.
use Rattle.std.specs.Prelude.{◌≡◌, ◌≤◌, ℕ, false, List, [], length, take, All, None, Some, codes}
use Rattle.std.specs.List.{AllZip, list_any}
use Rattle.std.specs.Str.{bytes_eq}
use Rattle.frame_outside.specs.Shelf.{Files}
use Rattle.file_grammar.specs.Structure.{file_limit}
use Rattle.file_grammar.specs.Laws.{WellFormed}
use Rattle.frame_content.specs.Frames.{Row, Frame}
use Rattle.contents_table.specs.declared.kind.Kind.{Kind}
use Rattle.canonical_file.specs.declared.closing.Closing.{Closing}
use Rattle.canonical_file.specs.Ranges.{AreBytes}
use Rattle.canonical_file.specs.Ordered.{IsInOrder}
use Rattle.canonical_file.specs.Written.{canonical_file}
use Rattle.canonical_file.specs.Contents.{Content, SameContent, IsCanonical}
use Rattle.canonical_laws.specs.Content.{HasContent}
use Rattle.canonical_laws.specs.Laws.{ReadsBack}
use Rattle.canonical_writer.specs.declared.errors.WriteError.{WriteError}
use Rattle.canonical_writer.specs.declared.errors.WriteError.TheVariants as write
use Rattle.frame_reader.specs.Gives.{Ending, Gives, HoldBytes}
use Rattle.splicer.specs.Due.{Refuses, course}
use Rattle.splicer.specs.Left.{IsPart}
use Rattle.channel_extract.specs.Cuts.{extraction, content_extraction}
use Rattle.channel_extract.specs.Due.{Due, Writes, output_of, is_whole}
use Rattle.channel_extract.specs.Scans.{IsDue}

-- ---- what is due

-- Of files that hold bytes a scan is due, and no two.
abbrev pub EachScanHasADue : Type 0
EachScanHasADue =
    (files : Files) (from : List ℕ) (kind : Kind) (name : List ℕ) → HoldBytes files
    → (due : Due) × IsDue files from kind name due

abbrev pub NoScanHasTwoDues : Type 0
NoScanHasTwoDues =
    (files : Files) (from : List ℕ) (kind : Kind) (name : List ℕ) (first second : Due)
    → IsDue files from kind name first → IsDue files from kind name second → first ≡ second

-- Of the cuts of a file of bytes none is refused but for the limit of bytes: none clashes, and they are not too many.
abbrev pub OnlyBytesAreLimited : Type 0
OnlyBytesAreLimited =
    (file : List ℕ) (kind : Kind) (name : List ℕ) (frames ordered stood : List Frame) (ending : Ending)
    (error : WriteError) → AreBytes file → Gives file frames ending
    → AllZip IsInOrder (extraction kind name frames) ordered → course None [] ordered ≡ Refuses error stood
    → error ≡ write.OutputLimit

-- ---- what is written

-- a file is held and has this content, of whose extraction these bytes are the canonical file
pub record IsExtractOf (files : Files) (from : List ℕ) (kind : Kind) (name : List ℕ) (c : Content) (bytes : List ℕ)
    : Type 0 where
  pub file : List ℕ
  pub held : files from ≡ Some file
  pub content : HasContent file c
  pub canonical : IsCanonical (content_extraction kind name c) bytes

-- What a scan writes whole is the canonical file of the extraction of what the file holds.
abbrev pub ScansAreCanonical : Type 0
ScansAreCanonical =
    (files : Files) (from : List ℕ) (kind : Kind) (name : List ℕ) (closing : Closing) (cuts : List Frame)
    → IsDue files from kind name (Writes closing cuts)
    → (c : Content) × IsExtractOf files from kind name c (canonical_file closing cuts)

-- It is well-formed, and reads back as the closing and the cuts, with the roots that a file gives them.
abbrev pub WholeScansAreRead : Type 0
WholeScansAreRead =
    (files : Files) (from : List ℕ) (kind : Kind) (name : List ℕ) (closing : Closing) (cuts : List Frame)
    → IsDue files from kind name (Writes closing cuts)
    → ReadsBack (canonical_file closing cuts) closing cuts

-- a frame has no static data
abbrev pub HasNoStatData : Frame → Type 0
HasNoStatData f = list_any (λ (r : Row). bytes_eq r.label.entry.name (codes "FrStatData")) f.rows ≡ false

-- Where no cut has static data, its content is the extraction.
abbrev pub WholeScansKeepExtractions : Type 0
WholeScansKeepExtractions =
    (files : Files) (from : List ℕ) (kind : Kind) (name : List ℕ) (c : Content) (closing : Closing)
    (cuts : List Frame) → IsDue files from kind name (Writes closing cuts)
    → IsExtractOf files from kind name c (canonical_file closing cuts) → All HasNoStatData cuts
    → (d : Content) × HasContent (canonical_file closing cuts) d × SameContent (content_extraction kind name c) d

-- No part of what is due is well-formed: neither a part of a whole file that is not all of it, nor what stands at an
-- error or a part of that.
abbrev pub NoPartOfAScanIsWhole : Type 0
NoPartOfAScanIsWhole =
    (files : Files) (from : List ℕ) (kind : Kind) (name : List ℕ) (due : Due) (n : ℕ) → IsDue files from kind name due
    → IsPart (is_whole due) n (output_of due) → WellFormed (take n (output_of due)) → ⊥

-- ---- files that hold the same

-- Of files that hold the same one scan is due. So the scan of a copy is the scan of its source.
abbrev pub ScansTellContents : Type 0
ScansTellContents =
    (files others : Files) (from other : List ℕ) (kind : Kind) (name file text : List ℕ) (c d : Content)
    (first second : Due) → files from ≡ Some file → others other ≡ Some text → HasContent file c → HasContent text d
    → SameContent c d → IsDue files from kind name first → IsDue others other kind name second → first ≡ second

abbrev pub ScansOfCopiesAreScans : Type 0
ScansOfCopiesAreScans =
    (files others : Files) (from other : List ℕ) (kind : Kind) (name file copy : List ℕ) (c : Content)
    (first second : Due) → files from ≡ Some file → others other ≡ Some copy → HasContent file c → IsCanonical c copy
    → length copy ≤ file_limit → IsDue files from kind name first → IsDue others other kind name second
    → first ≡ second
