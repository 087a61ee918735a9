-- The laws of contents and canonical files.
use Rattle.std.specs.Prelude.{◌≡◌, ◌<◌, ◌≤◌, ◌↔◌, ℕ, List, [], length, map, take}
use Rattle.std.specs.List.{AllByRecursion}
use Rattle.scalar_types.specs.declared.Order.TheVariants.{Little}
use Rattle.dictionary.specs.declared.entries.Entry.{Entry}
use Rattle.dictionary.specs.Dictionary.{IsDictionary}
use Rattle.file_grammar.specs.Structure.{file_limit}
use Rattle.file_grammar.specs.Item.{Item, Before}
use Rattle.file_grammar.specs.MayStand.{frames_limit, IsWellFormed}
use Rattle.file_grammar.specs.Laws.{WellFormed}
use Rattle.frame_content.specs.Frames.{Frame}
use Rattle.file_content.specs.declared.state.TableState.TheVariants as state
use Rattle.file_content.specs.declared.contents.Contents.{Contents}
use Rattle.file_content.specs.Contents.{AreContents}
use Rattle.canonical_file.specs.declared.closing.Closing.{Closing}
use Rattle.canonical_file.specs.Ranges.{AreBytes}
use Rattle.canonical_file.specs.Ordered.{SameFrame, IsInOrder}
use Rattle.canonical_file.specs.Written.{header_alone, frame_part, after_frames, table_piece, canonical_head}
use Rattle.canonical_file.specs.Written.{canonical_file}
use Rattle.canonical_file.specs.Contents.{Content, SameContent, IsCanonical}
use Rattle.canonical_laws.specs.Content.{content_of, HasContent}
use Rattle.canonical_laws.specs.Writable.{IsWritableFrame, as_read, IsWritableClosing}
use Rattle.canonical_laws.specs.Sources.{IsWritableInOrder}

-- ---- what is written is read back

-- The file is well-formed, and its content is this closing and just these frames, with the roots that a file gives
-- them.
pub record ReadsBack (file : List ℕ) (closing : Closing) (frames : List Frame) : Type 0 where
  pub items : List Item
  pub last : Before
  pub well_formed : IsWellFormed file Little items last
  pub content_is : content_of Little items last ≡ record { closing = closing; frames = map as_read frames }

-- A canonical file of frames and of a closing that can be written is well-formed and reads back as these.
abbrev pub WrittenFilesAreReadBack : Type 0
WrittenFilesAreReadBack =
    (dictionary : List Entry) (frames : List Frame) (closing : Closing) → IsDictionary dictionary
    → AllByRecursion (IsWritableFrame dictionary) frames → IsWritableClosing dictionary closing
    → length frames ≤ frames_limit → length (canonical_file closing frames) ≤ file_limit
    → ReadsBack (canonical_file closing frames) closing frames

-- The contents table of such a file is none where its record is not written.
abbrev pub UnwrittenTablesAreNone : Type 0
UnwrittenTablesAreNone =
    (dictionary : List Entry) (frames : List Frame) (closing : Closing) (c : Contents) → IsDictionary dictionary
    → AllByRecursion (IsWritableFrame dictionary) frames → IsWritableClosing dictionary closing
    → length frames ≤ frames_limit → length (canonical_file closing frames) ≤ file_limit
    → AreContents (canonical_file closing frames) c
    → (table_piece (after_frames header_alone frames) closing).record_itself ≡ [] → c.table ≡ state.None

-- The contents table of such a file is good where its record is written.
abbrev pub WrittenTablesAreGood : Type 0
WrittenTablesAreGood =
    (dictionary : List Entry) (frames : List Frame) (closing : Closing) (c : Contents) → IsDictionary dictionary
    → AllByRecursion (IsWritableFrame dictionary) frames → IsWritableClosing dictionary closing
    → length frames ≤ frames_limit → length (canonical_file closing frames) ≤ file_limit
    → AreContents (canonical_file closing frames) c
    → ((table_piece (after_frames header_alone frames) closing).record_itself ≡ [] → ⊥) → c.table ≡ state.Good

-- ---- parts of canonical files

-- The canonical head of frames that can be written is not well-formed, nor is a part of it from its beginning on.
abbrev pub NoCanonicalHeadIsWhole : Type 0
NoCanonicalHeadIsWhole =
    (dictionary : List Entry) (frames : List Frame) → IsDictionary dictionary
    → AllByRecursion (IsWritableFrame dictionary) frames → length frames ≤ frames_limit
    → length (canonical_head frames) ≤ file_limit → WellFormed (canonical_head frames) → ⊥

abbrev pub NoPartOfAHeadIsWhole : Type 0
NoPartOfAHeadIsWhole =
    (dictionary : List Entry) (frames : List Frame) (n : ℕ) → IsDictionary dictionary
    → AllByRecursion (IsWritableFrame dictionary) frames → length frames ≤ frames_limit
    → length (canonical_head frames) ≤ file_limit → WellFormed (take n (canonical_head frames)) → ⊥

-- Nor is a part of a canonical file that ends before the file does.
abbrev pub NoPartOfACanonicalFileIsWhole : Type 0
NoPartOfACanonicalFileIsWhole =
    (dictionary : List Entry) (frames : List Frame) (closing : Closing) (n : ℕ) → IsDictionary dictionary
    → AllByRecursion (IsWritableFrame dictionary) frames → IsWritableClosing dictionary closing
    → length frames ≤ frames_limit → length (canonical_file closing frames) ≤ file_limit
    → n < length (canonical_file closing frames) → WellFormed (take n (canonical_file closing frames)) → ⊥

-- ---- contents and their canonical files

-- A file has one content.
abbrev pub ContentsAreUnique : Type 0
ContentsAreUnique = (file : List ℕ) (c d : Content) → HasContent file c → HasContent file d → c ≡ d

-- A content has one canonical file.
abbrev pub CanonicalFilesAreUnique : Type 0
CanonicalFilesAreUnique =
    (c : Content) (bytes others : List ℕ) → IsCanonical c bytes → IsCanonical c others → bytes ≡ others

-- The canonical file of a well-formed file's content is well-formed, and has the same content.
abbrev pub CanonicalFilesKeepContents : Type 0
CanonicalFilesKeepContents =
    (file bytes : List ℕ) (c : Content) → AreBytes file → HasContent file c → IsCanonical c bytes
    → length bytes ≤ file_limit → (d : Content) × HasContent bytes d × SameContent c d

-- Canonical files are equal bytes exactly where the contents are the same.
abbrev pub CanonicalFilesTellContents : Type 0
CanonicalFilesTellContents =
    (file other bytes others : List ℕ) (c d : Content) → AreBytes file → AreBytes other → HasContent file c
    → HasContent other d → IsCanonical c bytes → IsCanonical d others → length bytes ≤ file_limit
    → length others ≤ file_limit → (bytes ≡ others) ↔ SameContent c d

-- The canonical file of a canonical file is that file.
abbrev pub CanonicalFilesStay : Type 0
CanonicalFilesStay =
    (file bytes again : List ℕ) (c d : Content) → AreBytes file → HasContent file c → IsCanonical c bytes
    → length bytes ≤ file_limit → HasContent bytes d → IsCanonical d again → again ≡ bytes

-- ---- frames and their parts

-- The parts of two frames, each in its order and as the first frame of a file, are equal bytes exactly where the frames
-- are the same.
abbrev pub PartsTellFrames : Type 0
PartsTellFrames =
    (dictionary other : List Entry) (f g o p : Frame) → IsDictionary dictionary → IsDictionary other
    → IsInOrder f o → IsInOrder g p → IsWritableInOrder dictionary f → IsWritableInOrder other g
    → (frame_part header_alone o ≡ frame_part header_alone p) ↔ SameFrame f g
