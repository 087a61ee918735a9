-- What can be written and read again: entries, records, frames in their order, and closings.
use Rattle.std.specs.Prelude.{◌≡◌, ℕ, ◌^◌, ◌<◌, ◌≤◌, ⊤, true, if◌then◌else◌, List, ◌++◌, length, map, sum_by, codes}
use Rattle.std.specs.Prelude.{All, IfSome, Option, Some, None, filter_map}
use Rattle.std.specs.List.{AllByRecursion, enumerate_from}
use Rattle.std.specs.Str.{bytes_eq}
use Rattle.record_values.specs.Links.{links_in}
use Rattle.dictionary.specs.declared.entries.Element.{Element}
use Rattle.dictionary.specs.declared.entries.Entry.{Entry}
use Rattle.dictionary.specs.Dictionary.{entry_of}
use Rattle.dictionary.specs.Same.{IsRead}
use Rattle.layout_plan.specs.declared.fields.Field.{Field}
use Rattle.layout_plan.specs.Layout.{layout_of}
use Rattle.layout_plan.specs.Written.{with_sums_cleared}
use Rattle.link_graph.specs.Table.{IsWithin}
use Rattle.record_writer.specs.Fit.{IsShortText, Fits}
use Rattle.file_grammar.specs.declared.kind.Kind.{Kind}
use Rattle.file_grammar.specs.declared.kind.Kind.TheVariants.{FrSH, FrSE, FrameH, FrEndOfFrame, FrTOC, FrEndOfFile}
use Rattle.file_grammar.specs.declared.kind.Kind.TheVariants.{Other}
use Rattle.file_grammar.specs.Structure.{record_limit}
use Rattle.file_grammar.specs.Kind.{kind_named}
use Rattle.file_grammar.specs.Closing.{closes}
use Rattle.frame_content.specs.Labels.{Label, printed_entry, unlinked}
use Rattle.frame_content.specs.Frames.{Row, Frame, row_at, label_at}
use Rattle.contents_table.specs.Fit.{is_fit}
use Rattle.canonical_file.specs.declared.closing.Closing.{Closing}
use Rattle.canonical_file.specs.Ranges.{IsInRange}
use Rattle.canonical_file.specs.Ordered.{class_at}
use Rattle.canonical_file.specs.Records.{Record, entry_fields, record_bytes, row_record, end_record, records_of}

-- ---- entries

-- An element: its texts are short, and its type is what its text reads as.
pub record IsWritableElement (e : Element) : Type 0 where
  pub name : IsShortText e.name
  pub text : IsShortText e.text
  pub comment : IsShortText e.comment
  pub read : IsRead e

-- An entry: its class is one of a record, its texts are short, and its elements can be written.
pub record IsWritableEntry (e : Entry) : Type 0 where
  pub low : 3 ≤ e.class
  pub high : e.class ≤ 255
  pub short : length e.elements ≤ 4096
  pub name : IsShortText e.name
  pub comment : IsShortText e.comment
  pub elements : AllByRecursion IsWritableElement e.elements

-- ---- records

-- A record: its entry can be written, its layout is readable, and its values fit.
pub record IsWritable (r : Record) : Type 0 where
  pub entry : IsWritableEntry r.entry
  pub layout : List Field
  pub is : layout_of r.entry.elements ≡ Some layout
  pub fits : Fits layout r.values
  pub range : AllByRecursion IsInRange r.values
  pub instance : r.instance < 256 ^ 4
  pub short : length (record_bytes r) ≤ record_limit

-- What is a label: its entry is printed, its links are null and its check sum is 0.
pub record IsLabel (l : Label) : Type 0 where
  pub entry : printed_entry l.entry ≡ l.entry
  pub values : with_sums_cleared (entry_fields l.entry) (map unlinked l.values) ≡ l.values

-- A row among so many: it has a label, and a link for each link of its values, null or to one of the rows.
pub record IsRow (rows : ℕ) (r : Row) : Type 0 where
  pub label : IsLabel r.label
  pub as_many : length r.links ≡ length (links_in r.label.values)
  pub within : All (IsWithin rows) r.links

-- ---- frames

-- the record of a row, by the row's number
abbrev pub record_at : Frame → ℕ → Record
record_at f k = row_record f (k, row_at f k)

-- the kind of its structure
abbrev pub kind_at : Frame → ℕ → Kind
kind_at f k = kind_named (label_at f k).entry.name

-- a row that is no end of a frame, and no second FrameH
abbrev pub IsRowOfKind : Kind → Frame → ℕ → Type 0
IsRowOfKind Other f k = ⊤
IsRowOfKind FrameH f k = (j : ℕ) → j < k → kind_at f j ≡ FrameH → ⊥
IsRowOfKind FrEndOfFrame f k = ⊥
IsRowOfKind FrTOC f k = ⊥
IsRowOfKind FrEndOfFile f k = ⊥
IsRowOfKind FrSH f k = ⊥
IsRowOfKind FrSE f k = ⊥

-- The row of this number: the dictionary holds its entry, and its record can be written.
pub record IsWritableRow (dictionary : List Entry) (f : Frame) (k : ℕ) : Type 0 where
  pub held : entry_of dictionary (class_at f k) ≡ Some (label_at f k).entry
  pub kind : IsRowOfKind (kind_at f k) f k
  pub writable : IsWritable (record_at f k)
  pub row : IsRow (length f.rows) (row_at f k)

-- The end of the frame: the same, and it is an FrEndOfFrame.
pub record IsWritableEnd (dictionary : List Entry) (f : Frame) : Type 0 where
  pub held : entry_of dictionary f.end.entry.class ≡ Some f.end.entry
  pub kind : kind_named f.end.entry.name ≡ FrEndOfFrame
  pub writable : IsWritable (end_record f)
  pub label : IsLabel f.end

-- the bytes of a record
abbrev pub size_of_record : Record → ℕ
size_of_record r = length (record_bytes r)

-- A frame in its order, by a dictionary that holds all its entries: its rows and its end can be written, one of its
-- rows is a FrameH, and together they are within the limit.
pub record IsWritableFrame (dictionary : List Entry) (f : Frame) : Type 0 where
  pub rows : (k : ℕ) → k < length f.rows → IsWritableRow dictionary f k
  pub end : IsWritableEnd dictionary f
  pub header : ℕ
  pub header_within : header < length f.rows
  pub header_is : kind_at f header ≡ FrameH
  pub load : sum_by size_of_record (records_of f) ≤ record_limit

-- the number of a row, where it is one of this structure
abbrev pub number_if : List ℕ → ℕ × Row → Option ℕ
number_if name row = if bytes_eq row.1.label.entry.name name then Some row.0 else None

-- the numbers of the rows of a structure
abbrev pub rows_named : List ℕ → Frame → List ℕ
rows_named name f = filter_map (number_if name) (enumerate_from 0 f.rows)

-- The frame as it is read: its roots are FrameH and each FrStatData.
abbrev pub as_read : Frame → Frame
as_read f = record f { roots = rows_named (codes "FrameH") f ++ rows_named (codes "FrStatData") f }

-- ---- closings

-- The entry of FrEndOfFile: it is printed, and has the layout that closes a file.
pub record IsWritableFileEnd (dictionary : List Entry) (e : Entry) : Type 0 where
  pub entry : IsWritableEntry e
  pub kind : kind_named e.name ≡ FrEndOfFile
  pub printed : printed_entry e ≡ e
  pub closes : closes e.elements ≡ true
  pub held : entry_of dictionary e.class ≡ Some e

-- The entry of FrTOC: it is printed, and fit for a contents table.
pub record IsWritableTable (dictionary : List Entry) (e : Entry) : Type 0 where
  pub entry : IsWritableEntry e
  pub kind : kind_named e.name ≡ FrTOC
  pub printed : printed_entry e ≡ e
  pub fit : is_fit e ≡ true
  pub held : entry_of dictionary e.class ≡ Some e

-- A closing, by a dictionary that holds its entries.
pub record IsWritableClosing (dictionary : List Entry) (c : Closing) : Type 0 where
  pub end : IsWritableFileEnd dictionary c.end
  pub table : IfSome c.table (IsWritableTable dictionary)
