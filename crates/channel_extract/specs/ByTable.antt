-- The extraction of a channel from a file's frames: by reading all of them, and by its contents table.
use Rattle.std.specs.Prelude.{ℕ, ◌==◌, ◌&&◌, Bool, false, if◌then◌else◌, List, [], ◌∷◌, ◌++◌, map, zip, is_some}
use Rattle.std.specs.Prelude.{Option, Some, None}
use Rattle.std.specs.List.{list_all}
use Rattle.std.specs.Option.{option_map_or}
use Rattle.std.specs.Str.{bytes_eq}
use Rattle.frame_content.specs.Frames.{Frame, label_at}
use Rattle.contents_table.specs.declared.kind.Kind.{Kind}
use Rattle.contents_table.specs.Channels.{structure_of, name_of, first_channel}
use Rattle.contents_table.specs.Listed.{KindTable, Table, table_of_kind}
use Rattle.channel_extract.specs.Cuts.{cut, extraction}
use Rattle.channel_extract.specs.Placed.{PlacedFrame, frame, head_place, record_at}
use Rattle.channel_extract.specs.Listing.{positions_for}

-- How an extraction ends: without a table that lists the kind, without the channel, at a place that the table has and
-- that is not right, or with all cuts written.
pub data Ending : Type 0 where
  NoTable : Ending
  NoChannel : Ending
  TableLies : (at : ℕ) → Ending
  Whole : Ending

-- An extraction: the cuts that are written, and how it ends after them.
pub record Extraction : Type 0 where
  pub cuts : List Frame
  pub ending : Ending

abbrev pub ended : Ending → Extraction
ended ending = record { cuts = []; ending = ending }

-- ---- by reading all

-- these cuts, where there is one
abbrev pub whole_of : List Frame → Extraction
whole_of [] = ended NoChannel
whole_of (cut ∷ cuts) = record { cuts = cut ∷ cuts; ending = Whole }

-- By reading all: the cuts of the frames that have the channel.
abbrev pub by_reading : Kind → List ℕ → List Frame → Extraction
by_reading kind name frames = whole_of (extraction kind name frames)

-- ---- by the table

-- A frame with the place of its FrameH and the position of the name as the table has them.
pub record TableFrame : Type 0 where
  pub placed : PlacedFrame
  pub head : ℕ
  pub at : ℕ

-- As far as a position can show it, a record is the channel: it is of the kind's structure and has the name, in a frame
-- that has a channel of the kind.
abbrev pub is_channel : Frame → Kind → List ℕ → ℕ → Bool
is_channel f kind name k =
    bytes_eq (structure_of kind) (label_at f k).entry.name
    && (is_some (first_channel f kind) && option_map_or (bytes_eq name) (name_of (label_at f k)) false)

-- the one of the two places that is not right
abbrev pub lie : Kind → List ℕ → TableFrame → Option ℕ
lie kind name p =
    if p.head == head_place p.placed
    then (if option_map_or (is_channel (frame p.placed) kind name) (record_at p.placed p.at) false
    then None else Some p.at) else Some p.head

-- the cut at the record that stands at the position
abbrev pub cuts_at : Kind → TableFrame → List Frame
cuts_at kind p = option_map_or (λ k. cut (frame p.placed) kind k ∷ []) (record_at p.placed p.at) []

-- a frame's cut and what comes after it, or the end at a place that is not right
abbrev pub or_lie : Option ℕ → List Frame → Extraction → Extraction
or_lie (Some at) cuts rest = ended (TableLies at)
or_lie None cuts rest = record { cuts = cuts ++ rest.cuts; ending = rest.ending }

-- frame after frame; a frame whose position is 0 is left out
abbrev pub followed : Kind → List ℕ → List TableFrame → Extraction
followed kind name [] = ended Whole
followed kind name (p ∷ ps) =
    if p.at == 0 then followed kind name ps
    else or_lie (lie kind name p) (cuts_at kind p) (followed kind name ps)

abbrev pub table_frame : PlacedFrame × (ℕ × ℕ) → TableFrame
table_frame p = record { placed = p.0; head = p.1.0; at = p.1.1 }

abbrev pub table_frames : List PlacedFrame → List ℕ → List ℕ → List TableFrame
table_frames frames heads positions = map table_frame (zip frames (zip heads positions))

abbrev pub is_zero : ℕ → Bool
is_zero n = n == 0

-- the name has no position, or its positions are followed
abbrev pub by_positions : Kind → List ℕ → List PlacedFrame → List ℕ → List ℕ → Extraction
by_positions kind name frames heads positions =
    if list_all is_zero positions then ended NoChannel
    else followed kind name (table_frames frames heads positions)

abbrev pub by_names : Kind → List ℕ → List PlacedFrame → List ℕ → KindTable → Extraction
by_names kind name frames heads t =
    option_map_or (by_positions kind name frames heads) (positions_for name t) (ended NoChannel)

abbrev pub by_listing : Kind → List ℕ → List PlacedFrame → Table → Extraction
by_listing kind name frames table =
    option_map_or (by_names kind name frames table.heads) (table_of_kind table kind) (ended NoTable)

-- By the table: its positions for the name are followed in the order of the frames.
abbrev pub by_table : Kind → List ℕ → List PlacedFrame → Option Table → Extraction
by_table kind name frames table = option_map_or (by_listing kind name frames) table (ended NoTable)
