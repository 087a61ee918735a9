-- What the code judges of a whole structure at the place reached, part by part. Each part is a list of reasons in the
-- order of their numbers.
use Rattle.std.specs.Prelude.{◌≡◌, ◌≢◌, ◌↔◌, ℕ, ◌+◌, ◌≤◌, ⊤, true, false, IsTrue, Bool, ◌||◌, List, [], ◌∷◌}
use Rattle.std.specs.Prelude.{length, take}
use Rattle.std.specs.Prelude.{sum_by, Option, Some, None, Result, Ok, Err}
use Rattle.dictionary.specs.declared.entries.Entry.{Entry}
use Rattle.dictionary.specs.Dictionary.{step}
use Rattle.scalar_types.specs.declared.Order.{Order}
use Rattle.layout_plan.specs.declared.fields.Field.{Field}
use Rattle.layout_plan.specs.Body.{values_length}
use Rattle.layout_plan.specs.Plans.{plan_of}
use Rattle.link_graph.specs.declared.nodes.Node.{Node}
use Rattle.link_graph.specs.Collected.{Bodied}
use Rattle.link_graph.specs.Graph.{graph_of}
use Rattle.rooted_graph.specs.Rooted.{Rooted}
use Rattle.rooted_graph.specs.BreadthOrder.{IsBreadthOrder}
use Rattle.file_grammar.specs.declared.reason.Reason.{Reason}
use Rattle.file_grammar.specs.declared.reason.Reason.TheVariants.{RecordLimit, FrameLimit, NoLayout, UnreadLayout}
use Rattle.file_grammar.specs.declared.reason.Reason.TheVariants.{BodyShort, BodyLong, BadText, ClassRange, Redefined}
use Rattle.file_grammar.specs.declared.reason.Reason.TheVariants.{NameTwice, ElementLimit, InstanceTwice, FrameHTwice}
use Rattle.file_grammar.specs.declared.reason.Reason.TheVariants.{NoFrameH, LooseLink, OpenFrame, BadClosing}
use Rattle.file_grammar.specs.declared.reason.Reason.TheVariants.{AfterTable}
use Rattle.file_grammar.specs.declared.reason.Reason.TheVariants.{FrameCount, ByteCount, FileLimit, FramesLimit}
use Rattle.file_grammar.specs.declared.kind.Kind.{Kind}
use Rattle.file_grammar.specs.Structure.{size_of, end_of, structure_at}
use Rattle.file_grammar.specs.Kind.{is_frame_kind, is_file_end_kind}
use Rattle.file_grammar.specs.Record.{Reading, reading_by, reading_of, layout_in}
use Rattle.file_grammar.specs.Described.{longest_run, entry_from}
use Rattle.file_grammar.specs.Item.{Item, after as after_item}
use Rattle.file_grammar.specs.Fault.{Here, length_there, entries_before, kind, structure, weight, first_of, fault_here}
use Rattle.file_grammar.specs.Steps.{item_here}
use Rattle.item_reader.specs.declared.item.Item.{Item as Given}
use Rattle.item_reader.specs.declared.item.Item.TheVariants as given
use Rattle.item_reader.specs.declared.item.ReadError.{ReadError}
use Rattle.item_reader.specs.declared.item.ReadError.TheVariants as error
use Rattle.item_reader.specs.declared.state.State.{State}
use Rattle.item_reader.specs.declared.structure.Placed.{Placed}
use Rattle.item_reader.specs.Placed.{StandsIn, structure_by}
use Rattle.item_reader.specs.State.{IsSound, before_of, here_in, bodied_of, node_of}
use Rattle.item_reader.specs.Given.{Tells}

-- What holds of every file in which a whole structure with this body stands at the place reached.
abbrev pub InEachFile : State → Placed → List ℕ → (Here → Type 0) → Type 0
InEachFile s p body P = (file : List ℕ) → StandsIn s.segment.order s.at p body file → P (here_in s file)

-- its body reads by the layout of its class
abbrev pub ReadsHere : Here → Type 0
ReadsHere h = (reading : Reading) × (reading_of h.order (entries_before h) (structure h) ≡ Some reading)

-- the kinds whose layouts the dictionary describes, and that are read
abbrev pub is_read_kind : Kind → Bool
is_read_kind kind = is_frame_kind kind || is_file_end_kind kind

-- ---- the parts

-- of a body by a layout
abbrev pub body_reasons : List Reason
body_reasons = BodyShort ∷ BodyLong ∷ BadText ∷ []

-- of a body by the layout of its class
abbrev pub reading_reasons : List Reason
reading_reasons = NoLayout ∷ UnreadLayout ∷ body_reasons

-- of a record of a frame by its weight and its body
abbrev pub weighing_reasons : List Reason
weighing_reasons = RecordLimit ∷ FrameLimit ∷ reading_reasons

-- of a place: what may not stand after the contents table, and what ends beyond the limit of files
abbrev pub place_reasons : List Reason
place_reasons = AfterTable ∷ FileLimit ∷ []

-- of a record that is no end record and has no twin in its frame
abbrev pub later_record_reasons : List Reason
later_record_reasons = FrameHTwice ∷ place_reasons

-- of a record that is no end record, in its frame
abbrev pub record_reasons : List Reason
record_reasons = InstanceTwice ∷ later_record_reasons

-- of the end of a frame
abbrev pub frame_end_reasons : List Reason
frame_end_reasons = NoFrameH ∷ LooseLink ∷ AfterTable ∷ FileLimit ∷ FramesLimit ∷ []

-- of the contents table
abbrev pub table_reasons : List Reason
table_reasons = OpenFrame ∷ place_reasons

-- of what the end of the file tells
abbrev pub count_reasons : List Reason
count_reasons = FrameCount ∷ ByteCount ∷ FileLimit ∷ []

-- of the end of the file
abbrev pub closing_reasons : List Reason
closing_reasons = OpenFrame ∷ BadClosing ∷ count_reasons

-- of an entry that the dictionary is given
abbrev pub entry_reasons : List Reason
entry_reasons = ClassRange ∷ Redefined ∷ NameTwice ∷ ElementLimit ∷ FileLimit ∷ []

-- ---- what is told

-- the body reads by a layout, and so many of its texts are spelled by a length of 0 alone
pub record IsReadBy (h : Here) (fields : List Field) (zero_texts : ℕ) : Type 0 where
  pub reading : Reading
  pub reads : reading_by h.order (structure h).body fields ≡ Some reading
  pub none : first_of body_reasons h ≡ None
  pub weight_is : length_there h + zero_texts ≡ 14 + (values_length reading.fields reading.values + length reading.tail)

-- the same by the layout of its class
pub record IsRead (h : Here) (zero_texts : ℕ) : Type 0 where
  pub reads : ReadsHere h
  pub none : first_of reading_reasons h ≡ None
  pub weight_is : length_there h + zero_texts ≡ weight h

-- the record's weight is within the limits
pub record IsWeighed (h : Here) (told_weight : ℕ) : Type 0 where
  pub reads : ReadsHere h
  pub none : first_of weighing_reasons h ≡ None
  pub weight_is : told_weight ≡ weight h

-- ---- entries

-- the most elements that are kept of an entry: one more than an entry may have
abbrev pub kept_elements : ℕ
kept_elements = 4097

-- an entry with its first elements alone
abbrev pub cut_entry : Entry → Entry
cut_entry e = record e { elements = take kept_elements e.elements }

-- The FrSH at a place begins an entry: this is the entry with its first elements, and this the place after its run.
pub record DescribesEntry (order : Order) (file : List ℕ) (at : ℕ) (entry : Entry) (end : ℕ) : Type 0 where
  pub full : Entry
  pub full_is : entry_from order file (structure_at order file at) ≡ Some full
  pub entry_is : entry ≡ cut_entry full
  pub end_is : end ≡ end_of (structure_at order file at)
      + sum_by (λ e. size_of e.0) (longest_run order file (end_of (structure_at order file at)))
  pub within : end ≤ length file

-- the dictionary took an entry, of which nothing was cut, and the plans are those of its entries
pub record Holds (old : State) (entry : Entry) (changed : Bool) (new : State) : Type 0 where
  pub step_is : step old.dictionary entry ≡ Ok new.dictionary
  pub short : length entry.elements ≤ 4096
  pub changed_is : IsTrue changed ↔ (new.dictionary ≢ old.dictionary)
  pub plans : (class : ℕ) → plan_of new.plans class ≡ layout_in new.dictionary class
  pub rest : new ≡ record old { dictionary = new.dictionary; plans = new.plans }

-- what is kept beside a dictionary that is given an entry: the entry, where that does not change the dictionary
abbrev pub IsBeside : List Entry → Entry → Option Entry → Type 0
IsBeside entries_before entry kept = step entries_before entry ≡ Ok entries_before → kept ≡ Some entry

-- what holding it answers at a place where it stands
abbrev pub AnswersHolding : Here → Result Bool ReadError → Type 0
AnswersHolding h (Ok changed) = first_of entry_reasons h ≡ None
AnswersHolding h (Err (error.Fault fault)) = first_of entry_reasons h ≡ Some fault
AnswersHolding h (Err error.Device) = ⊥
AnswersHolding h (Err error.NoMemory) = ⊤

-- ---- items

-- The item at a place was taken: there is no fault, the item is given as it is, and it stands before the place reached
-- now.
pub record Takes (h : Here) (item : Given) (new : State) : Type 0 where
  pub judged : fault_here h ≡ None
  pub taken : Item
  pub is : item_here h ≡ Some taken
  pub tells : Tells h taken item
  pub after : before_of new ≡ after_item h.order h.before taken

-- what taking an item answers
abbrev pub Answers : Here → Result Given ReadError → State → Type 0
Answers h (Ok item) new = Takes h item new
Answers h (Err (error.Fault fault)) new = fault_here h ≡ Some fault
Answers h (Err error.Device) new = ⊥
Answers h (Err error.NoMemory) new = ⊤

-- what is kept after an item: it fits together, no body is pending, and the byte order is the same
pub record IsKept (old new : State) : Type 0 where
  pub sound : IsSound new
  pub pending : new.segment.pending ≡ []
  pub order : new.segment.order ≡ old.segment.order

-- the file is closed by its end alone
abbrev pub ClosesBy : Given → Bool → Type 0
ClosesBy (given.FileEnd at class length seek) closed = closed ≡ true
ClosesBy item closed = closed ≡ false

-- the segment and its numbering are as they were
pub record IsOpenStill (old new : State) : Type 0 where
  pub segment : new.segment ≡ old.segment
  pub numbering : new.numbering ≡ old.numbering

-- the node of a structure
abbrev pub node_by : List Entry → Placed → Node
node_by entries_before p = node_of entries_before (structure_by p [])

-- the order that is kept is the breadth-first one of a graph
pub record HasOrder (g : Rooted) (kept : Option (List ℕ)) : Type 0 where
  pub numbers : List ℕ
  pub is : kept ≡ Some numbers
  pub breadth : IsBreadthOrder g numbers

-- the record that the pending body is of
abbrev pub pending_record : State → Placed → Bodied
pending_record s p = record { node = node_by s.dictionary p; body = s.segment.pending }

-- A frame has ended: its records are those that were open, with the end record, and a breadth-first order goes with it.
pub record EndsFrame (old : State) (p : Placed) (new : State) : Type 0 where
  pub nodes : new.segment.nodes ≡ old.segment.nodes
  pub end_record : new.segment.end_record ≡ Some (bodied_of old.dictionary (structure_by p old.segment.pending))
  pub numbers : List ℕ
  pub numbering : new.numbering ≡ Some numbers
  pub breadth : IsBreadthOrder (graph_of old.plans old.segment) numbers
  pub plans : new.plans ≡ old.plans
