-- What the body of a contents table lists, and whether it is what stands in the file.
use Rattle.std.specs.Prelude.{◌≡◌, ℕ, ◌+◌, ◌*◌, Bool, true, if◌then◌else◌, List, [], length}
use Rattle.std.specs.Prelude.{position, slice_get, slice_index, Option, Some, None, IfSome}
use Rattle.std.specs.Option.{option_map, option_map_or}
use Rattle.std.specs.List.{list_any, list_all}
use Rattle.std.specs.Str.{bytes_eq}
use Rattle.record_values.specs.declared.values.Value.{Value}
use Rattle.record_values.specs.declared.values.Value.TheVariants as value
use Rattle.record_values.specs.Values.{number_of}
use Rattle.contents_table.specs.declared.names.Listed.{Listed}
use Rattle.contents_table.specs.declared.kind.Kind.{Kind}
use Rattle.contents_table.specs.declared.kind.Kind.TheVariants.{Adc, Proc, Sim, Ser}
use Rattle.contents_table.specs.declared.fit.KindFields.{KindFields}
use Rattle.contents_table.specs.declared.fit.TableLayout.{TableLayout}
use Rattle.contents_table.specs.Built.{Built, listed_of, are_distinct}
use Rattle.contents_table.specs.Told.{positions_of}

-- what a table lists of a kind: the names, and their positions in the order in which they are stored
pub record KindTable : Type 0 where
  pub frames : ℕ
  pub names : List (List ℕ)
  pub positions : List ℕ
  pub by_name : Bool

-- what a table lists; of serial data none where the layout does not list the kind
pub record Table : Type 0 where
  pub frames : ℕ
  pub heads : List ℕ
  pub adc : KindTable
  pub proc : KindTable
  pub sim : KindTable
  pub ser : Option KindTable

-- the texts of a value, and its numbers
abbrev pub texts_of : Value → List (List ℕ)
texts_of (value.Texts texts) = texts
texts_of (value.Num n) = []
texts_of (value.Pair a b) = []
texts_of (value.Text text) = []
texts_of (value.Nums xs) = []
texts_of (value.Pairs xs) = []
texts_of (value.Bytes xs) = []
texts_of (value.Link link) = []
texts_of (value.Links xs) = []

abbrev pub numbers_of : Value → List ℕ
numbers_of (value.Nums xs) = xs
numbers_of (value.Num n) = []
numbers_of (value.Pair a b) = []
numbers_of (value.Text text) = []
numbers_of (value.Texts texts) = []
numbers_of (value.Pairs xs) = []
numbers_of (value.Bytes xs) = []
numbers_of (value.Link link) = []
numbers_of (value.Links xs) = []

abbrev pub number_at : List Value → ℕ → ℕ
number_at values k = option_map_or number_of (slice_get values k) 0

abbrev pub texts_at : List Value → ℕ → List (List ℕ)
texts_at values k = option_map_or texts_of (slice_get values k) []

abbrev pub numbers_at : List Value → ℕ → List ℕ
numbers_at values k = option_map_or numbers_of (slice_get values k) []

abbrev pub kind_table : List Value → ℕ → KindFields → KindTable
kind_table values frames k = record {
  frames = number_at values frames;
  names = texts_at values k.names;
  positions = numbers_at values k.positions;
  by_name = k.by_name;
}

-- What the values of a table list, by a layout that is fit.
abbrev pub table_of : TableLayout → List Value → Table
table_of layout values = record {
  frames = number_at values layout.frames;
  heads = numbers_at values layout.heads;
  adc = kind_table values layout.frames layout.adc;
  proc = kind_table values layout.frames layout.proc;
  sim = kind_table values layout.frames layout.sim;
  ser = option_map (kind_table values layout.frames) layout.ser;
}

-- what it lists of a kind
abbrev pub table_of_kind : Table → Kind → Option KindTable
table_of_kind table Adc = Some table.adc
table_of_kind table Proc = Some table.proc
table_of_kind table Sim = Some table.sim
table_of_kind table Ser = table.ser

-- the position of the name of number k in a frame
abbrev pub place_of_position : KindTable → ℕ → ℕ → ℕ
place_of_position t frame k =
    if t.by_name then k * t.frames + frame else frame * length t.names + k

abbrev pub position_at : KindTable → ℕ → ℕ → ℕ
position_at t frame k = slice_index t.positions (place_of_position t frame k)

-- the position in a frame of the first listed name that is equal
abbrev pub find_in : List ℕ → ℕ → KindTable → Option ℕ
find_in name frame t = option_map (position_at t frame) (position (bytes_eq name) t.names)

abbrev pub find_position : Table → Kind → List ℕ → ℕ → Option ℕ
find_position table kind name frame =
    option_map_or (find_in name frame) (table_of_kind table kind) None

-- ---- good tables

-- each name that a channel has is listed
abbrev pub is_listed : List (List ℕ) → Listed → Bool
is_listed names listed = list_any (bytes_eq listed.name) names

-- What is listed of a kind is good: the names are distinct, each name that a channel has is listed, and each position
-- is the place of that name's channel in that frame, or 0 exactly where there is none.
pub record IsGoodKind (listed : List Listed) (t : KindTable) : Type 0 where
  pub distinct : are_distinct t.names ≡ true
  pub whole : list_all (is_listed t.names) listed ≡ true
  pub positions : t.positions ≡ positions_of t.by_name t.frames listed t.names

abbrev pub IsGoodOf : Table → Built → Kind → Type 0
IsGoodOf table built kind =
    IfSome (table_of_kind table kind) (IsGoodKind (listed_of built kind))

-- The table is good: it lists the places of the frames' FrameH, and each of its kinds is good.
pub record IsGood (table : Table) (built : Built) : Type 0 where
  pub heads : table.heads ≡ built.heads
  pub kinds : (kind : Kind) → IsGoodOf table built kind
