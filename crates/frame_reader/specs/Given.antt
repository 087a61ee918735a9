-- What callers know of a reader of frames, what it has given, and what it lends.
use Rattle.std.specs.Prelude.{◌≡◌, ℕ, ⊤, true, false, List, [], ◌∷◌, ◌++◌, All, Option, Some, None, IsSomeAnd}
use Rattle.std.specs.Prelude.{Bool, Result, Ok, Err}
use Rattle.std.specs.List.{AllZip}
use Rattle.std.specs.Option.{option_to_list}
use Rattle.scalar_types.specs.declared.Order.{Order}
use Rattle.dictionary.specs.declared.entries.Entry.{Entry}
use Rattle.dictionary.specs.Dictionary.{entry_of, IsDictionary}
use Rattle.layout_plan.specs.Plans.{plan_of}
use Rattle.link_graph.specs.declared.nodes.Root.TheVariants.{Head}
use Rattle.link_graph.specs.Graph.{Layouts, ReadsBy, first_loose, roots_from}
use Rattle.file_grammar.specs.Record.{layout_in}
use Rattle.file_grammar.specs.Item.{Item, Before}
use Rattle.file_grammar.specs.MayStand.{Begins, IsWellFormed}
use Rattle.frame_content.specs.Frames.{Frame, frame_of}
use Rattle.contents_table.specs.Channels.{header_of}
use Rattle.contents_table.specs.declared.layouts.ChannelLayouts.{ChannelLayouts}
use Rattle.contents_table.specs.Layouts.{layouts_of}
use Rattle.item_reader.specs.declared.item.Item.{Item as Given}
use Rattle.item_reader.specs.declared.item.Item.TheVariants as given
use Rattle.item_reader.specs.declared.item.ReadError.{ReadError}
use Rattle.item_reader.specs.declared.item.ReadError.TheVariants as read
use Rattle.item_reader.specs.Looked.{IsWithinLook}
use Rattle.item_reader.specs.Reader.{Reader, IsFileEnd}
use Rattle.canonical_file.specs.Ordered.{IsInOrder}
use Rattle.canonical_writer.specs.Parts.{CanBeWritten, frame_in_order}
use Rattle.frame_reader.specs.Gives.{Breaks, Gives, frames_among}

-- the reader of the items, and where the layouts of its dictionary have the links to channels, and their names
pub record Frames : Type 0 where
  pub reader : Reader
  pub layouts : ChannelLayouts

-- The reader stands after items of the file among which these frames end.
pub record HasGiven (file : List ℕ) (frames : List Frame) (r : Frames) : Type 0 where
  pub items : List Item
  pub begins : Begins file r.reader.order items r.reader.before
  pub frames_are : frames ≡ frames_among r.reader.order items
  pub sound : IsDictionary r.reader.before.dictionary
  pub layouts_are : r.layouts ≡ layouts_of r.reader.before.dictionary

-- By the plans of its dictionary the reader lends the frame in this order of its records, in which it can be written.
pub record Lends (frame : Frame) (plans : Layouts) (numbers : List ℕ) (r : Reader) : Type 0 where
  pub in_order : IsInOrder frame (frame_in_order r.before.dictionary r.segment numbers)
  pub can : CanBeWritten r.before.dictionary plans r.segment numbers

-- After these frames the last item has ended this one, which the reader lends.
pub record GivesFrame (file : List ℕ) (frames : List Frame) (frame : Frame) (r : Frames) : Type 0 where
  pub earlier : List Item
  pub taken : Item
  pub begins : Begins file r.reader.order (earlier ++ taken ∷ []) r.reader.before
  pub before_are : frames ≡ frames_among r.reader.order earlier
  pub frames_are : frames ++ frame ∷ [] ≡ frames_among r.reader.order (earlier ++ taken ∷ [])
  pub sound : IsDictionary r.reader.before.dictionary
  pub layouts_are : r.layouts ≡ layouts_of r.reader.before.dictionary
  pub numbers : List ℕ
  pub numbering_is : r.reader.numbering ≡ Some numbers
  pub lends : (plans : Layouts) → ((class : ℕ) → plan_of plans class ≡ layout_in r.reader.before.dictionary class)
      → All (ReadsBy plans r.reader.segment.order) r.reader.segment.nodes → Lends frame plans numbers r.reader
  -- the segment is in the byte order of the file
  pub order_is : r.reader.segment.order ≡ r.reader.order
  -- the frame is the segment's, by the dictionary
  pub is : frame ≡ frame_of r.reader.before.dictionary r.reader.segment
  -- FrameH is the only head
  pub heads : roots_from Head 0 r.reader.segment.nodes ≡ option_to_list (header_of frame)
  -- no link is loose
  pub linked : (plans : Layouts) → ((class : ℕ) → plan_of plans class ≡ layout_in r.reader.before.dictionary class)
      → first_loose plans r.reader.segment ≡ None

-- The reader has given all frames of the file, which is well-formed.
pub record GivesAll (file : List ℕ) (frames : List Frame) (r : Frames) : Type 0 where
  pub given : HasGiven file frames r
  pub whole : IsWellFormed file r.reader.order given.items r.reader.before

-- what the reader does that has given these frames: it gives a further one, or the file has ended, or its first
-- fault is found
abbrev pub GoesOn : List ℕ → List Frame → Frames → Result Bool ReadError → Type 0
GoesOn file frames r (Ok true) = (frame : Frame) × GivesFrame file frames frame r
GoesOn file frames r (Ok false) = GivesAll file frames r
GoesOn file frames r (Err (read.Fault fault)) = Gives file frames (Breaks fault)
GoesOn file frames r (Err error) = ⊤

-- the last item is the end of the file
abbrev pub EndsFile : Option Given → Type 0
EndsFile last = IsSomeAnd last IsFileEnd

-- an entry that was held is held
abbrev pub Keeps : List Entry → List Entry → Type 0
Keeps old new = (class : ℕ) (e : Entry) → entry_of old class ≡ Some e → entry_of new class ≡ Some e

-- the layouts after an item: those of the dictionary where it has brought an entry, else as they were
abbrev pub LayoutsFollow : List Entry → Given → ChannelLayouts → ChannelLayouts → Type 0
LayoutsFollow held (given.Entry at class true) old new = IsDictionary held × (new ≡ layouts_of held)
LayoutsFollow held item old new = new ≡ old

-- So many bytes of a file were drawn, after items among which these frames end: no further than the look of the place
-- after them, or after the entry that stands there.
pub record HasLooked (file : List ℕ) (frames : List Frame) (drawn : ℕ) : Type 0 where
  pub order : Order
  pub items : List Item
  pub last : Before
  pub begins : Begins file order items last
  pub frames_are : frames ≡ frames_among order items
  pub within : IsWithinLook order file last.place drawn

-- The first frames of a file, each in its order.
pub record AreFirst (file : List ℕ) (ordered : List Frame) : Type 0 where
  pub order : Order
  pub items : List Item
  pub last : Before
  pub begins : Begins file order items last
  pub in_order : AllZip IsInOrder (frames_among order items) ordered
