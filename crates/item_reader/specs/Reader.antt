-- What callers know of a reader of items, and what its calls do.
use Rattle.std.specs.Prelude.{◌≡◌, ℕ, ◌+◌, ◌≤◌, ◌⊎◌, true, List, [], ◌∷◌, ◌++◌, map, Option, Some, None, ⊤}
use Rattle.std.specs.Prelude.{option_map, length}
use Rattle.scalar_types.specs.declared.Order.{Order}
use Rattle.frame_outside.specs.Shelf.{Outside, Told, reading_at}
use Rattle.dictionary.specs.declared.entries.Entry.{Entry}
use Rattle.layout_plan.specs.Plans.{plan_of}
use Rattle.rooted_graph.specs.BreadthOrder.{IsBreadthOrder}
use Rattle.link_graph.specs.Collected.{Collected}
use Rattle.link_graph.specs.Graph.{Layouts, graph_of}
use Rattle.structure_source.specs.Source.{Position, Stands, bytes_drawn}
use Rattle.file_grammar.specs.declared.fault.Fault.{Fault}
use Rattle.file_grammar.specs.Structure.{Structure}
use Rattle.file_grammar.specs.Record.{layout_in}
use Rattle.file_grammar.specs.Item.{Item, Before, after}
use Rattle.file_grammar.specs.MayStand.{MayStand, Begins, IsWellFormed}
use Rattle.file_grammar.specs.Fault.{Here, fault_here, structure}
use Rattle.file_grammar.specs.Steps.{item_here}
use Rattle.item_reader.specs.declared.item.Item.{Item as Given}
use Rattle.item_reader.specs.declared.item.Item.TheVariants as given
use Rattle.item_reader.specs.declared.item.ReadError.{ReadError}
use Rattle.item_reader.specs.declared.looked.Looked.{Looked}
use Rattle.item_reader.specs.Looked.{IsLooked, look}
use Rattle.item_reader.specs.State.{bodied_of}
use Rattle.item_reader.specs.Given.{Tells, body_after, entry_given, instance_given}

-- What callers know of a reader: where it stands in the file, the byte order, what stands before the place that it has
-- reached, the frame collected and the order of one that has ended, the last body, the last item, the entry that it is,
-- as it was read, the instance of its structure, 0 of an entry or before the first item, what was looked at beyond it,
-- and the error once there was one.
pub record Reader : Type 0 where
  pub position : Position
  pub order : Order
  pub before : Before
  pub segment : Collected
  pub numbering : Option (List ℕ)
  pub body : List ℕ
  pub last : Option Given
  pub entry : Option Entry
  pub instance : ℕ
  pub looked : Looked
  pub error : Option ReadError

-- the bytes that a slot was opened on, where the shelf tells them
abbrev pub file_of : Outside → ℕ → Option (List ℕ)
file_of outside slot = option_map (λ reading. reading.opened) (reading_at outside.slots slot)

-- the item is the end of a frame, or of the file
abbrev pub IsFrameEnd : Given → Type 0
IsFrameEnd (given.FrameEnd at class) = ⊤
IsFrameEnd item = ⊥

abbrev pub IsFileEnd : Given → Type 0
IsFileEnd (given.FileEnd at class length seek) = ⊤
IsFileEnd item = ⊥

-- the item is an entry
abbrev pub IsEntry : Given → Type 0
IsEntry (given.Entry at class changed) = ⊤
IsEntry item = ⊥

-- The last of the items that a reader has given, as it was given.
pub record HasLast (file : List ℕ) (order : Order) (items : List Item) (given : Given) : Type 0 where
  pub earlier : List Item
  pub before : Before
  pub begins : Begins file order earlier before
  pub taken : Item
  pub items_are : items ≡ earlier ++ taken ∷ []
  pub tells : Tells (record { order = order; file = file; before = before }) taken given

abbrev pub IsLast : List ℕ → Order → List Item → Option Given → Type 0
IsLast file order items None = items ≡ []
IsLast file order items (Some given) = HasLast file order items given

-- the reader has given the items of the file up to its place, the end of the file only where nothing stands
-- after it, and has looked at what stands there
pub record HasRead (file : List ℕ) (r : Reader) : Type 0 where
  pub items : List Item
  pub begins : Begins file r.order items r.before
  pub last : IsLast file r.order items r.last
  pub end : r.before.closed ≡ true → r.before.place ≡ length file
  pub looked : IsLooked r.order file r.before.place r.position.at r.looked

-- The reader reads its slot of this shelf: it stands in it, and, while there was no error, what the reader has given
-- are the first items of the bytes that the slot was opened on.
pub record Reads (outside : Outside) (r : Reader) : Type 0 where
  pub stands : Stands outside r.position
  pub read : r.error ≡ None → Told (file_of outside r.position.slot) (λ file. HasRead file r)

-- the reader has given all items of the file, which is well-formed
abbrev pub HasEnded : List ℕ → Reader → Type 0
HasEnded file r = (items : List Item) × IsWellFormed file r.order items r.before

-- The fault of what stands at a place, or, where that is an item that may stand there and closes the file, of what
-- stands after it.
abbrev pub Faults : Here → Fault → Type 0
Faults h fault =
    (fault_here h ≡ Some fault)
    ⊎ ((item : Item) × (fault_here h ≡ None) × (item_here h ≡ Some item)
    × ((after h.order h.before item).closed ≡ true)
    × (fault_here (record h { before = after h.order h.before item }) ≡ Some fault))

-- ---- frames

-- The segment is the frame that is open.
pub record IsFrameOf (order : Order) (before : Before) (segment : Collected) : Type 0 where
  pub order_is : segment.order ≡ order
  pub nodes : segment.nodes ≡ map (bodied_of before.dictionary) before.frame
  pub end_record : segment.end_record ≡ None
  pub pending : segment.pending ≡ []

-- The segment is the frame that was open, with its end record, and the numbering is the breadth-first order of the
-- frame.
pub record IsEndedFrame (order : Order) (before : Before) (end_is : Structure) (numbering : Option (List ℕ))
    (segment : Collected) : Type 0 where
  pub order_is : segment.order ≡ order
  pub nodes : segment.nodes ≡ map (bodied_of before.dictionary) before.frame
  pub end_record : segment.end_record ≡ Some (bodied_of before.dictionary end_is)
  pub pending : segment.pending ≡ []
  pub numbers : List ℕ
  pub numbering_is : numbering ≡ Some numbers
  pub breadth : (plans : Layouts) → ((class : ℕ) → plan_of plans class ≡ layout_in before.dictionary class)
      → IsBreadthOrder (graph_of plans segment) numbers

-- What is collected after an item that stood there: at the end of a frame that frame, else the frame that is open.
abbrev pub Collects : Here → Given → Before → Option (List ℕ) → Collected → Type 0
Collects h (given.FrameEnd at class) after numbering segment =
    IsEndedFrame h.order h.before (structure h) numbering segment
Collects h item after numbering segment = IsFrameOf h.order after segment × (numbering ≡ None)

-- the place that a reader has reached, in a file
abbrev pub here_of : List ℕ → Reader → Here
here_of file r = record { order = r.order; file = file; before = r.before }

-- what the reader knows after an item
pub record Goes (file : List ℕ) (old : Reader) (item : Given) (new : Reader) : Type 0 where
  pub taken : Item
  pub stands : MayStand old.order file old.before taken
  pub tells : Tells (here_of file old) taken item
  pub before : new.before ≡ after old.order old.before taken
  pub body : new.body ≡ body_after (here_of file old) taken
  pub entry : new.entry ≡ entry_given taken
  pub instance : new.instance ≡ instance_given taken
  pub frame : Collects (here_of file old) item new.before new.numbering new.segment

-- ---- what was drawn

-- the bytes drawn of the file reach no further than the look of the place
abbrev pub DrawsNoFurther : List ℕ → Reader → Type 0
DrawsNoFurther file r = bytes_drawn r.position ≤ look r.order file r.before.place

-- A look reaches at least 65,550 bytes beyond its place.
abbrev pub LooksReachBeyond : Type 0
LooksReachBeyond = (order : Order) (file : List ℕ) (place : ℕ) → place + 65550 ≤ look order file place

-- A reader has drawn no further than the look of the place that it has reached.
abbrev pub ReadersReadNoFurther : Type 0
ReadersReadNoFurther =
    (outside : Outside) (r : Reader) → Reads outside r → r.error ≡ None
    → Told (file_of outside r.position.slot) (λ file. DrawsNoFurther file r)
