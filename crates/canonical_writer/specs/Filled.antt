-- A frame's part, filled for the frame.
use Rattle.std.specs.Prelude.{◌≡◌, ℕ, ◌+◌, List, ◌++◌, length, false, Option, Some, None}
use Rattle.dictionary.specs.declared.entries.Entry.{Entry}
use Rattle.dictionary.specs.Dictionary.{IsDictionary}
use Rattle.type_text.specs.declared.types.Link.{Link}
use Rattle.layout_plan.specs.Plans.{plan_of}
use Rattle.file_grammar.specs.Record.{layout_in}
use Rattle.rooted_graph.specs.BreadthOrder.{number_of}
use Rattle.frame_content.specs.Frames.{Frame, row_at}
use Rattle.canonical_file.specs.declared.closing.Closing.{Closing}
use Rattle.canonical_file.specs.Records.{Record, row_record, end_record, records_of, entries_after, with_entry}
use Rattle.canonical_file.specs.Records.{new_entry, record_bytes}
use Rattle.canonical_file.specs.Splices.{clashes, clash_of, entries_used}
use Rattle.canonical_writer.specs.declared.frame_part.FrameSource.{FrameSource}
use Rattle.canonical_writer.specs.declared.frame_part.FramePart.{FramePart}
use Rattle.canonical_writer.specs.NewLinks.{AreNewLinks, classes_of}
use Rattle.canonical_writer.specs.Parts.{CanBeWritten, IsReady, ArePlaced, frame_in_order, part_of}

-- the frame of a source in the order in which it is written
abbrev pub frame_of : FrameSource → Frame
frame_of source = frame_in_order source.dictionary.now source.segment.now source.order.now

-- The frame can be written, and its plans are those of its entries.
pub record IsSource (source : FrameSource) : Type 0 where
  pub sound : IsDictionary source.dictionary.now
  pub plans_are : (class : ℕ) → plan_of source.plans.now class ≡ layout_in source.dictionary.now class
  pub can : CanBeWritten source.dictionary.now source.plans.now source.segment.now source.order.now

-- The part is that of the frame after these entries, none of which clashes with it; with the entries used then.
pub record IsFilled (at : ℕ) (closing : Option Closing) (used after : List Entry) (source : FrameSource)
    (part : FramePart) : Type 0 where
  pub bytes : part.bytes.items ≡ part_of used (frame_of source)
  pub entries : after ≡ entries_after used (records_of (frame_of source))
  pub places : ArePlaced at used (frame_of source) source.order.now part.places.items
  pub no_clash : clash_of closing used (frame_of source) ≡ None
  pub ready : IsReady part.met closing after source.dictionary.now

-- ---- one record after another

-- the record of place k in the order, and the end record
abbrev pub record_at : FrameSource → ℕ → Record
record_at source k = row_record (frame_of source) (k, row_at (frame_of source) k)

abbrev pub last_record : FrameSource → Record
last_record source = end_record (frame_of source)

-- the record of a number has place k in the order, and the links to be written are those of the order
pub record IsPlacedAt (source : FrameSource) (links : List Link) (node k : ℕ) : Type 0 where
  pub source_is : IsSource source
  pub number : number_of source.order.now node ≡ Some k
  pub links_are : AreNewLinks (classes_of source.segment.now.nodes) source.order.now links

-- An entry is used and does not clash: it stands before these bytes, where none of its class stood.
pub record Uses (closing : Option Closing) (used after held : List Entry) (e : Entry) (bytes : List ℕ)
    (old new : FramePart) : Type 0 where
  pub bytes_are : new.bytes.items ≡ old.bytes.items ++ (new_entry used e ++ bytes)
  pub entries : after ≡ with_entry used e
  pub no_clash : clashes (entries_used used closing) e ≡ false
  pub ready : IsReady new.met closing after held

-- a record is put behind its entry
abbrev pub UsesRecord : Option Closing → List Entry → List Entry → List Entry → Record → FramePart → FramePart → Type 0
UsesRecord closing used after held r old new = Uses closing used after held r.entry (record_bytes r) old new

-- where a record stands that is appended from this place on
abbrev pub place_after : ℕ → List Entry → Record → FramePart → ℕ
place_after at used r part = at + (length part.bytes.items + length (new_entry used r.entry))
