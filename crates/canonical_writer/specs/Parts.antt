-- What is appended while a frame is written.
use Rattle.std.specs.Prelude.{◌≡◌, ◌≢◌, ℕ, ◌≤◌, Bool, true, List, [], length, map, flat_map, All, Option, Some, None}
use Rattle.std.specs.Prelude.{IfSome, IsSomeAnd}
use Rattle.std.specs.Prelude.{slice_get, nat_eq}
use Rattle.std.specs.List.{IsDistinct}
use Rattle.std.specs.Option.{option_map}
use Rattle.scalar_types.specs.declared.Order.{Order}
use Rattle.type_text.specs.declared.types.Link.{Link}
use Rattle.dictionary.specs.declared.entries.Element.{Element}
use Rattle.dictionary.specs.declared.entries.Entry.{Entry}
use Rattle.dictionary.specs.Dictionary.{entry_of, class_named, IsDictionary}
use Rattle.dictionary.specs.Same.{AreRead, same_entries}
use Rattle.layout_plan.specs.declared.fields.Field.{Field}
use Rattle.layout_plan.specs.Written.{IsRewritten}
use Rattle.rooted_graph.specs.BreadthOrder.{IsBreadthOrder, number_of}
use Rattle.link_graph.specs.Collected.{Collected}
use Rattle.link_graph.specs.Graph.{Layouts, ReadsBy, graph_of, links_by}
use Rattle.file_grammar.specs.Closing.{closes}
use Rattle.contents_table.specs.Fit.{is_fit}
use Rattle.frame_content.specs.Labels.{printed_entry}
use Rattle.frame_content.specs.Frames.{Frame, frame_of}
use Rattle.canonical_file.specs.declared.closing.Closing.{Closing}
use Rattle.canonical_file.specs.Bytes.{structure_bytes, entry_bytes}
use Rattle.canonical_file.specs.Records.{piece_bytes, pieces_of, records_of, record_places}
use Rattle.contents_table.specs.Built.{place_of}
use Rattle.canonical_file.specs.Splices.{entries_used}
use Rattle.canonical_file.specs.Ordered.{ordered}
use Rattle.canonical_file.specs.Renumbered.{HasOneHeader}

-- the texts of an entry have a length of two bytes
abbrev pub IsShort : List ℕ → Type 0
IsShort text = length text ≤ 65534

pub record IsShortElement (e : Element) : Type 0 where
  pub name : IsShort e.name
  pub text : IsShort e.text
  pub comment : IsShort e.comment

pub record IsShortEntry (e : Entry) : Type 0 where
  pub name : IsShort e.name
  pub comment : IsShort e.comment
  pub elements : All IsShortElement e.elements

-- A record as it is written: its body again, with these links in place of its own.
pub record IsRecordOf (order : Order) (fields : List Field) (links : Link → Link) (class instance : ℕ)
    (body bytes : List ℕ) : Type 0 where
  pub again : List ℕ
  pub is : bytes ≡ structure_bytes class instance again
  pub rewritten : IsRewritten order fields body (map links (links_by order fields body)) again

-- A frame that can be written: the plans and layouts are those of the entries, whose texts are short; every record
-- reads, the end record too; and the numbers are its breadth-first order.
pub record CanBeWritten (held : List Entry) (plans : Layouts) (s : Collected) (numbers : List ℕ) : Type 0 where
  pub bodies : All (ReadsBy plans s.order) s.nodes
  pub end : IsSomeAnd s.end_record (ReadsBy plans s.order)
  pub breadth : IsBreadthOrder (graph_of plans s) numbers
  pub texts : (class : ℕ) (e : Entry) → entry_of held class ≡ Some e → IsShortEntry e
  pub header : HasOneHeader (frame_of held s)

-- the frame as it is written
abbrev pub frame_in_order : List Entry → Collected → List ℕ → Frame
frame_in_order held s numbers = ordered (frame_of held s) numbers

-- The classes that were met have the same entry among those used as among those held, comments aside.
abbrev pub AreMet : List Bool → List Entry → List Entry → Type 0
AreMet met used held =
    (class : ℕ) → slice_get met class ≡ Some true
    → IsSomeAnd (entry_of used class) (λ old. IsSomeAnd (entry_of held class) (λ e. same_entries old e ≡ true))

-- ---- entries

-- An entry that may be used: of a class of 3 to 255, with types as its texts read, and at most 4,096 elements.
pub record IsUsable (e : Entry) : Type 0 where
  pub low : 3 ≤ e.class
  pub high : e.class ≤ 255
  pub read : AreRead e.elements
  pub few : length e.elements ≤ 4096

-- so many entries of a dictionary stand, no two of one class
pub record AreStanding (entries : List Entry) (count : ℕ) : Type 0 where
  pub counted : count ≡ length entries
  pub sound : IsDictionary entries
  pub distinct : IsDistinct nat_eq (map (λ (e : Entry). e.class) entries)

-- Each structure name is used under one class alone.
abbrev pub AreConsistent : List Entry → Type 0
AreConsistent used = All (λ e. class_named used e.name ≡ Some e.class) used

-- an entry before which so many stand, where none of its class does
abbrev pub last_by : Option Entry → ℕ → Entry → List ℕ
last_by None number e = entry_bytes number e
last_by (Some old) number e = []

abbrev pub last_entry : List Entry → ℕ → Entry → List ℕ
last_entry used number e = last_by (entry_of used e.class) number e

-- A closing of such entries: FrEndOfFile's has the layout that it has to have, and FrTOC's, of another class, is fit
-- for a contents table.
pub record IsUsableTable (end e : Entry) : Type 0 where
  pub usable : IsUsable e
  pub fit : is_fit e ≡ true
  pub apart : e.class ≢ end.class

pub record IsUsableClosing (c : Closing) : Type 0 where
  pub end : IsUsable c.end
  pub closes : closes c.end.elements ≡ true
  pub table : IfSome c.table (IsUsableTable c.end)

-- its texts are short
pub record IsShortClosing (c : Closing) : Type 0 where
  pub end : IsShortEntry c.end
  pub table : IfSome c.table IsShortEntry

-- a closing as it is written
abbrev pub printed_closing : Closing → Closing
printed_closing c = record { end = printed_entry c.end; table = option_map printed_entry c.table }

-- ---- a frame's part

-- what is known before a frame is written: what was met, and that the entries used agree
pub record IsReady (met : List Bool) (closing : Option Closing) (used held : List Entry) : Type 0 where
  pub met_are : AreMet met used held
  pub agree : AreConsistent (entries_used used closing)

abbrev pub part_of : List Entry → Frame → List ℕ
part_of used f = flat_map piece_bytes (pieces_of used (records_of f))

-- each record of the order is written where its piece has it
abbrev pub ArePlaced : ℕ → List Entry → Frame → List ℕ → List ℕ → Type 0
ArePlaced at used f numbers places =
    (n k : ℕ) → number_of numbers n ≡ Some k
    → place_of places n ≡ place_of (record_places at (pieces_of used (records_of f))) k
