-- Frames of several files in one canonical file: they can be written by one dictionary, so no part of their file is
-- well-formed, and the whole file is.
use Rattle.std.specs.Prelude.{◌≡◌, ℕ, ◌<◌, ◌≤◌, Some, List, [], ◌++◌, length, take}
use Rattle.std.specs.List.{AllByRecursion, AllZip}
use Rattle.scalar_types.specs.declared.Order.{Order}
use Rattle.dictionary.specs.declared.entries.Entry.{Entry}
use Rattle.dictionary.specs.Dictionary.{IsDictionary}
use Rattle.file_grammar.specs.Structure.{file_limit}
use Rattle.file_grammar.specs.Item.{Item, Before}
use Rattle.file_grammar.specs.MayStand.{frames_limit, Begins}
use Rattle.file_grammar.specs.Laws.{WellFormed}
use Rattle.frame_content.specs.Frames.{Frame}
use Rattle.canonical_file.specs.declared.closing.Closing.{Closing}
use Rattle.canonical_file.specs.Ranges.{AreBytes}
use Rattle.canonical_file.specs.Ordered.{IsInOrder}
use Rattle.canonical_file.specs.Written.{header_alone, after_frames, canonical_head, canonical_file}
use Rattle.canonical_file.specs.Contents.{Content, IsCanonical}
use Rattle.canonical_file.specs.Splices.{NoneClashes, as_used, IsSplice}
use Rattle.canonical_laws.specs.Content.{content_of, HasContent}
use Rattle.canonical_laws.specs.Writable.{IsWritableFrame, IsWritableClosing}
use Rattle.canonical_laws.specs.Laws.{ReadsBack}

-- ---- frames of several files

-- The frame can be written by a dictionary of its own.
pub record IsWritableSomewhere (f : Frame) : Type 0 where
  pub dictionary : List Entry
  pub sound : IsDictionary dictionary
  pub writable : IsWritableFrame dictionary f

-- Frames in their orders, those of a first file in front and those of other files behind. The closing and the frames of
-- the first file can be written by one dictionary, each other frame by one of its own, and none of these clashes.
pub record AreSpliced (closing : Closing) (front back : List Frame) : Type 0 where
  pub dictionary : List Entry
  pub sound : IsDictionary dictionary
  pub closing_is : IsWritableClosing dictionary closing
  pub front_are : AllByRecursion (IsWritableFrame dictionary) front
  pub back_are : AllByRecursion IsWritableSomewhere back
  pub back_agrees : NoneClashes (Some closing) (after_frames header_alone front) back

-- A closing and frames can be written by one dictionary.
pub record CanBeWritten (closing : Closing) (frames : List Frame) : Type 0 where
  pub dictionary : List Entry
  pub sound : IsDictionary dictionary
  pub closing_is : IsWritableClosing dictionary closing
  pub frames_are : AllByRecursion (IsWritableFrame dictionary) frames

-- Such frames can be written under the entries that are used first of each class, and the same head and file are
-- written of them then.
pub record AreWrittenTogether (closing : Closing) (frames : List Frame) : Type 0 where
  pub can_be : CanBeWritten closing (as_used frames)
  pub head_is : canonical_head (as_used frames) ≡ canonical_head frames
  pub file_is : canonical_file closing (as_used frames) ≡ canonical_file closing frames

abbrev pub SplicedFramesAreWrittenTogether : Type 0
SplicedFramesAreWrittenTogether =
    (closing : Closing) (front back : List Frame) → AreSpliced closing front back
    → AreWrittenTogether closing (front ++ back)

-- ---- what is written of them

-- The canonical head of such frames is not well-formed, nor is a part of it from its beginning on.
abbrev pub NoPartOfASplicedHeadIsWhole : Type 0
NoPartOfASplicedHeadIsWhole =
    (closing : Closing) (front back : List Frame) (n : ℕ) → AreSpliced closing front back
    → length (front ++ back) ≤ frames_limit → length (canonical_head (front ++ back)) ≤ file_limit
    → WellFormed (take n (canonical_head (front ++ back))) → ⊥

-- Nor is a part of the canonical file that ends before the file does.
abbrev pub NoPartOfASplicedFileIsWhole : Type 0
NoPartOfASplicedFileIsWhole =
    (closing : Closing) (front back : List Frame) (n : ℕ) → AreSpliced closing front back
    → length (front ++ back) ≤ frames_limit → length (canonical_file closing (front ++ back)) ≤ file_limit
    → n < length (canonical_file closing (front ++ back))
    → WellFormed (take n (canonical_file closing (front ++ back))) → ⊥

-- The canonical file is well-formed, and reads back as the closing and the frames under the entries used.
abbrev pub SplicedFilesAreReadBack : Type 0
SplicedFilesAreReadBack =
    (closing : Closing) (front back : List Frame) → AreSpliced closing front back
    → length (front ++ back) ≤ frames_limit → length (canonical_file closing (front ++ back)) ≤ file_limit
    → ReadsBack (canonical_file closing (front ++ back)) closing (as_used (front ++ back))

-- ---- the frames of files

-- The frames that have ended in a beginning of a file of bytes can be written, each in its order.
abbrev pub FramesOfFilesAreWritableSomewhere : Type 0
FramesOfFilesAreWritableSomewhere =
    (file : List ℕ) (order : Order) (items : List Item) (last : Before) (ordered : List Frame) → AreBytes file
    → Begins file order items last → AllZip IsInOrder (content_of order items last).frames ordered
    → AllByRecursion IsWritableSomewhere ordered

-- The frames of a first file can be spliced.
abbrev pub FirstFilesAreSpliced : Type 0
FirstFilesAreSpliced =
    (file : List ℕ) (c : Content) (front : List Frame) → AreBytes file → HasContent file c
    → AllZip IsInOrder c.frames front → AreSpliced c.closing front []

-- So can more frames after those that are, where they do not clash.
abbrev pub MoreFramesAreSpliced : Type 0
MoreFramesAreSpliced =
    (closing : Closing) (front back more : List Frame) → AreSpliced closing front back
    → AllByRecursion IsWritableSomewhere more
    → NoneClashes (Some closing) (after_frames header_alone (front ++ back)) more
    → AreSpliced closing front (back ++ more)

-- ---- splices

-- The frames of a splice are in their orders, so what is written of them is its canonical file.
abbrev pub SplicesAreCanonical : Type 0
SplicesAreCanonical =
    (first : Content) (others : List Content) (c : Content) → IsSplice first others c
    → IsCanonical c (canonical_file c.closing c.frames)

-- The canonical file of a splice of what files of bytes hold is well-formed, and its content is the splice.
abbrev pub SplicesKeepContents : Type 0
SplicesKeepContents =
    (file : List ℕ) (files : List (List ℕ)) (first : Content) (others : List Content) (c : Content) (bytes : List ℕ)
    → AreBytes file → AllByRecursion AreBytes files → HasContent file first → AllZip HasContent files others
    → IsSplice first others c → IsCanonical c bytes → length bytes ≤ file_limit → HasContent bytes c

-- No part of it from its beginning on is, that ends before the file does.
abbrev pub NoPartOfASpliceIsWhole : Type 0
NoPartOfASpliceIsWhole =
    (file : List ℕ) (files : List (List ℕ)) (first : Content) (others : List Content) (c : Content) (bytes : List ℕ)
    (n : ℕ) → AreBytes file → AllByRecursion AreBytes files → HasContent file first → AllZip HasContent files others
    → IsSplice first others c → IsCanonical c bytes → length bytes ≤ file_limit → n < length bytes
    → WellFormed (take n bytes) → ⊥
