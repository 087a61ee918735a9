-- What a file of bytes holds can be written again: its entries, its frames and its closing.
use Rattle.std.specs.Prelude.{◌≡◌, ℕ, ◌<◌, List, length, map, All}
use Rattle.std.specs.Option.{option_to_list}
use Rattle.scalar_types.specs.declared.Order.{Order}
use Rattle.dictionary.specs.declared.entries.Entry.{Entry}
use Rattle.dictionary.specs.Dictionary.{IsDictionary}
use Rattle.link_graph.specs.Table.{IsWithin}
use Rattle.file_grammar.specs.Item.{Item, Before}
use Rattle.file_grammar.specs.MayStand.{Begins, IsWellFormed}
use Rattle.frame_content.specs.Labels.{printed_entry}
use Rattle.frame_content.specs.Frames.{Frame, row_at, label_at}
use Rattle.contents_table.specs.Channels.{header_of}
use Rattle.canonical_file.specs.Ranges.{AreBytes}
use Rattle.canonical_file.specs.Ordered.{IsInOrder}
use Rattle.canonical_file.specs.Renumbered.{IsLinked, HasOneHeader}
use Rattle.canonical_laws.specs.Content.{closing_by, content_of}
use Rattle.canonical_laws.specs.Writable.{IsWritableEntry, IsWritableFrame, as_read, IsWritableClosing}

-- the entries as they are written again
abbrev pub printed_entries : List Entry → List Entry
printed_entries held = map printed_entry held

-- What is known of the entries held: each can be written, as it stands and printed, and printed they are a dictionary.
pub record AreWritable (held : List Entry) : Type 0 where
  pub own : All IsWritableEntry held
  pub printed : All IsWritableEntry (printed_entries held)
  pub dictionary : IsDictionary (printed_entries held)

-- The frame can be written, by a dictionary that holds its entries: its roots and links lead to its records, it has one
-- FrameH, which is a root, and in its order it can be written and reads back with the roots that it has.
pub record IsWritableInOrder (dictionary : List Entry) (f : Frame) : Type 0 where
  pub linked : IsLinked f
  pub header : HasOneHeader f
  pub writable : (o : Frame) → IsInOrder f o → IsWritableFrame dictionary o
  pub as_read_is : (o : Frame) → IsInOrder f o → as_read o ≡ o

-- The entries that a beginning of a file of bytes holds can be written.
abbrev pub EntriesOfFilesAreWritable : Type 0
EntriesOfFilesAreWritable =
    (file : List ℕ) (order : Order) (items : List Item) (last : Before) → AreBytes file → Begins file order items last
    → AreWritable last.dictionary

-- So can the frames that have ended in it, by the entries held.
abbrev pub FramesOfFilesAreWritable : Type 0
FramesOfFilesAreWritable =
    (file : List ℕ) (order : Order) (items : List Item) (last : Before) → AreBytes file → Begins file order items last
    → All (IsWritableInOrder (printed_entries last.dictionary)) (content_of order items last).frames

-- The frame has the rows of another with other links, as many in each row, null or to a row. Its roots are the FrameH
-- alone, and the end record is the same.
pub record IsRelinked (f g : Frame) : Type 0 where
  pub as_many : length g.rows ≡ length f.rows
  pub labels : (n : ℕ) → n < length f.rows → label_at g n ≡ label_at f n
  pub links : (n : ℕ) → n < length f.rows → length (row_at g n).links ≡ length (row_at f n).links
  pub within : (n : ℕ) → n < length f.rows → All (IsWithin (length f.rows)) (row_at g n).links
  pub roots : g.roots ≡ option_to_list (header_of f)
  pub end : g.end ≡ f.end

-- However its links are changed so, the frame can be written in its order.
abbrev pub IsWritableRelinked : List Entry → Frame → Type 0
IsWritableRelinked dictionary f = (g o : Frame) → IsRelinked f g → IsInOrder g o → IsWritableFrame dictionary o

-- And so can these frames with other links.
abbrev pub RelinkedFramesAreWritable : Type 0
RelinkedFramesAreWritable =
    (file : List ℕ) (order : Order) (items : List Item) (last : Before) → AreBytes file → Begins file order items last
    → All (IsWritableRelinked (printed_entries last.dictionary)) (content_of order items last).frames

-- And so can the closing of a well-formed file of bytes.
abbrev pub ClosingsOfFilesAreWritable : Type 0
ClosingsOfFilesAreWritable =
    (file : List ℕ) (order : Order) (items : List Item) (last : Before) → AreBytes file
    → IsWellFormed file order items last
    → IsWritableClosing (printed_entries last.dictionary) (closing_by last.dictionary)
