-- Where a reader stands in its file, as the code keeps it, and what taking the next item answers.
use Rattle.std.specs.Prelude.{◌≡◌, ℕ, ◌+◌, true, false, List, [], length, Option, Some, None, Result, Ok, Err, ⊤}
use Rattle.std.specs.Prelude.{slice_get, is_none, if◌then◌else◌, IsSome, IsSomeAnd}
use Rattle.std.specs.Option.{option_map_or}
use Rattle.frame_head.specs.declared.structure.Common.{Common}
use Rattle.frame_outside.specs.Shelf.{Outside, Told, reading_at}
use Rattle.link_graph.specs.Collected.{Bodied, Collected}
use Rattle.structure_source.specs.declared.source.Head.TheVariants.{Whole}
use Rattle.structure_source.specs.Source.{Stands, IsHead}
use Rattle.dictionary.specs.declared.entries.Entry.{Entry}
use Rattle.file_grammar.specs.Record.{layout_in}
use Rattle.file_grammar.specs.Fault.{Here}
use Rattle.item_reader.specs.declared.cursor.Cursor.{Cursor}
use Rattle.item_reader.specs.declared.item.Item.{Item as Given}
use Rattle.item_reader.specs.declared.item.Item.TheVariants as given
use Rattle.item_reader.specs.declared.item.ReadError.{ReadError}
use Rattle.item_reader.specs.declared.item.ReadError.TheVariants as error
use Rattle.item_reader.specs.declared.looked.Looked.TheVariants.{Nothing}
use Rattle.item_reader.specs.declared.structure.Placed.{Placed}
use Rattle.item_reader.specs.Placed.{placed_at, IsStructureAt}
use Rattle.item_reader.specs.Looked.{ReadsTo, IsLooked}
use Rattle.item_reader.specs.State.{IsSound, HasRows, before_of}
use Rattle.item_reader.specs.Given.{body_after, entry_given, instance_given, entry_in}
use Rattle.item_reader.specs.Judged.{Takes}
use Rattle.item_reader.specs.Reader.{Faults, Collects, IsFileEnd, IsEntry}

-- the body that is lent after an item: a record's stands in the segment, that of a table or of the file's end apart
abbrev pub body_in : Option Given → List ℕ → Collected → List ℕ
body_in None own segment = []
body_in (Some (given.Entry at class changed)) own segment = []
body_in (Some (given.Plain at class instance node)) own segment =
    option_map_or (λ (r : Bodied). r.body) (slice_get segment.nodes node) []
body_in (Some (given.FrameEnd at class)) own segment = option_map_or (λ (r : Bodied). r.body) segment.end_record []
body_in (Some (given.Table at class length)) own segment = own
body_in (Some (given.FileEnd at class length seek)) own segment = own

-- What a reader keeps while there was no error: it fits together, the links of the open frame's records stand beside
-- it, no body is pending, the source stands where the look beyond the place ends, and an entry is lent where the last
-- item is one.
pub record Keeps (c : Cursor) (last : Option Given) : Type 0 where
  pub sound : IsSound c.state
  pub rows : HasRows c.state c.links
  pub pending : c.state.segment.pending ≡ []
  pub read : ReadsTo c.state.at c.looked c.source.at
  pub closed : c.state.closed ≡ true → (item : Given) × (last ≡ Some item) × IsFileEnd item
  pub unclosed : (item : Given) → last ≡ Some item → IsFileEnd item → c.state.closed ≡ true
  pub entry : IsSomeAnd last IsEntry → IsSome (entry_in last c.kept c.state.dictionary)

-- The cursor stands in its file, and has looked at what stands at the place reached.
pub record IsReady (outside : Outside) (c : Cursor) : Type 0 where
  pub stands : Stands outside c.source
  pub sound : IsSound c.state
  pub rows : HasRows c.state c.links
  pub pending : c.state.segment.pending ≡ []
  pub unclosed : c.state.closed ≡ false
  pub read : ReadsTo c.state.at c.looked c.source.at
  pub looked : Told (reading_at outside.slots c.source.slot)
      (λ reading. IsLooked c.state.segment.order reading.opened c.state.at c.source.at c.looked)

-- the 14 bytes at a place of a file are those of the structure
pub record IsHeadOf (h : Here) (p : Placed) : Type 0 where
  pub common : Common
  pub placed : p ≡ placed_at h.before.place common
  pub head : IsHead h.order h.file h.before.place (Whole common)

-- the body that is kept of a contents table: none where its layout is not readable
abbrev pub table_body : List Entry → Placed → List ℕ → List ℕ
table_body held table body = if is_none (layout_in held table.class) then [] else body

-- what holds at the place reached of the file that a cursor reads, where the shelf tells it
abbrev pub InFile : Outside → Cursor → (Here → Type 0) → Type 0
InFile outside c P =
    Told (reading_at outside.slots c.source.slot)
    (λ reading. P (record { order = c.state.segment.order; file = reading.opened; before = before_of c.state }))

-- The cursor has passed the 14 bytes of the structure at the place reached.
pub record HasPassed (outside : Outside) (c : Cursor) (p : Placed) : Type 0 where
  pub stands : Stands outside c.source
  pub sound : IsSound c.state
  pub rows : HasRows c.state c.links
  pub pending : c.state.segment.pending ≡ []
  pub unclosed : c.state.closed ≡ false
  pub frame : c.state.numbering ≡ None
  pub place : c.source.at ≡ c.state.at + 14
  pub looked : c.looked ≡ Nothing
  pub here : IsStructureAt c.state.at p
  pub instance : c.instance ≡ p.instance
  pub head : InFile outside c (λ h. IsHeadOf h p)

-- The item that stood there was given: it was taken, its body is lent, its entry and its instance are told, the frame
-- is collected, what stands after it is as it was looked at, and the end of the file is at the file's end.
pub record Gives (h : Here) (item : Given) (new : Cursor) : Type 0 where
  pub takes : Takes h item new.state
  pub body_is : body_in (Some item) new.own.items new.state.segment ≡ body_after h takes.taken
  pub entry_is : entry_in (Some item) new.kept new.state.dictionary ≡ entry_given takes.taken
  pub instance_is : new.instance ≡ instance_given takes.taken
  pub frame : Collects h item (before_of new.state) new.state.numbering new.state.segment
  pub looked : IsLooked h.order h.file new.state.at new.source.at new.looked
  pub end : new.state.closed ≡ true → new.state.at ≡ length h.file

-- what taking the next item answers
abbrev pub GivesNext : Here → Result Given ReadError → Cursor → Type 0
GivesNext h (Ok item) new = Gives h item new
GivesNext h (Err (error.Fault fault)) new = Faults h fault
GivesNext h (Err error.Device) new = ⊤
GivesNext h (Err error.NoMemory) new = ⊤
