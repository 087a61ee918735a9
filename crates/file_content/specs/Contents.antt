-- What a well-formed file holds, as far as its frames are counted and its channels listed, and the state of its
-- contents table.
use Rattle.std.specs.Prelude.{◌≡◌, ℕ, zero, suc, ◌+◌, ◌==◌, if◌then◌else◌, ◌⊎◌, List, fold, length}
use Rattle.std.specs.Prelude.{option_and_then, Option, Some, None}
use Rattle.std.specs.Option.{option_map, option_map_or}
use Rattle.scalar_types.specs.declared.Order.{Order}
use Rattle.dictionary.specs.declared.entries.Entry.{Entry}
use Rattle.dictionary.specs.Dictionary.{entry_of}
use Rattle.file_grammar.specs.Record.{Reading, reading_by, layout_in}
use Rattle.file_grammar.specs.Item.{Item, Before}
use Rattle.file_grammar.specs.MayStand.{IsWellFormed}
use Rattle.frame_content.specs.Frames.{Frame, frame_by}
use Rattle.contents_table.specs.Fit.{is_fit, table_layout}
use Rattle.contents_table.specs.Built.{Built, nothing_built, with_frame_of}
use Rattle.contents_table.specs.Listed.{Table, table_of, IsGood}
use Rattle.file_content.specs.declared.state.TableState.{TableState}
use Rattle.file_content.specs.declared.state.TableState.TheVariants as state
use Rattle.file_content.specs.declared.contents.Contents.{Contents}
use Rattle.file_content.specs.Stored.{StoredFrame, StoredTable, frames_in, table_in, seek_in}

-- ---- channels

-- a frame as its records hold it
abbrev pub content_frame : Order → StoredFrame → Frame
content_frame order f = frame_by order f.held f.nodes (Some f.end)

-- the places of the frames, and the names of their channels with their places
abbrev pub with_stored : Order → Built → StoredFrame → Built
with_stored order built f = with_frame_of f.nodes (content_frame order f) built

abbrev pub built_of : Order → List StoredFrame → Built
built_of order frames = fold (with_stored order) nothing_built frames

-- ---- the contents table

-- what a table lists by its body: nothing where its layout is not fit, or the body does not spell it
abbrev pub table_by : Entry → Reading → Table
table_by entry reading = table_of (table_layout entry.elements) reading.values

abbrev pub listed_by : Option Reading → Entry → Option Table
listed_by reading entry = if is_fit entry then option_map (table_by entry) reading else None

-- nor where it lists another number of frames
abbrev pub if_frames : ℕ → Table → Option Table
if_frames frames table = if table.frames == frames then Some table else None

abbrev pub listed_in : Order → ℕ → List Entry → ℕ → List ℕ → Option Table
listed_in order frames held class body =
    option_and_then (if_frames frames)
    (option_and_then (listed_by (option_and_then (reading_by order body) (layout_in held class)))
    (entry_of held class))

-- whether what a table lists is what stands in the file
abbrev pub IsJudged : Option Table → Built → TableState → Type 0
IsJudged None built s = s ≡ state.Unread
IsJudged (Some table) built s =
    ((s ≡ state.Good) × IsGood table built) ⊎ ((s ≡ state.Bad) × (IsGood table built → ⊥))

abbrev pub is_listed : Order → ℕ → StoredTable → Option Table
is_listed order frames t = listed_in order frames t.held t.structure.class t.structure.body

-- the table that begins so many bytes before the end of the file
abbrev pub if_led : ℕ → ℕ → StoredTable → Option StoredTable
if_led bytes seek t = if t.structure.at + seek == bytes then Some t else None

abbrev pub IsStateOf : Order → ℕ → Built → Option StoredTable → TableState → Type 0
IsStateOf order frames built None s = s ≡ state.Lost
IsStateOf order frames built (Some t) s = IsJudged (is_listed order frames t) built s

-- The state of the table of a file of so many bytes and frames, with these channels, whose end leads back by so many
-- bytes, or by 0 for no table.
abbrev pub IsState : Order → ℕ → ℕ → Built → Option StoredTable → ℕ → TableState → Type 0
IsState order bytes frames built table zero s = s ≡ state.None
IsState order bytes frames built table (suc n) s =
    IsStateOf order frames built (option_and_then (if_led bytes (suc n)) table) s

-- ---- a file

abbrev pub seek_or_none : Option ℕ → ℕ
seek_or_none seek = option_map_or (λ n. n) seek 0

-- What a well-formed file holds.
pub record AreContents (file : List ℕ) (c : Contents) : Type 0 where
  pub items : List Item
  pub last : Before
  pub well_formed : IsWellFormed file c.order items last
  pub frames_are : c.frames ≡ last.frames
  pub records_are : c.records ≡ last.records
  pub bytes_are : c.bytes ≡ length file
  pub channels_are : c.channels ≡ built_of c.order (frames_in c.order items)
  pub table_is : IsState c.order c.bytes c.frames c.channels (table_in c.order items)
      (seek_or_none (seek_in c.order items)) c.table

-- A file has no two contents, and each well-formed file has one.
abbrev pub NoFileHasTwoContents : Type 0
NoFileHasTwoContents = (file : List ℕ) (c d : Contents) → AreContents file c → AreContents file d → c ≡ d

abbrev pub EachWellFormedFileHasContents : Type 0
EachWellFormedFileHasContents =
    (file : List ℕ) (order : Order) (items : List Item) (last : Before) → IsWellFormed file order items last
    → (c : Contents) × AreContents file c
