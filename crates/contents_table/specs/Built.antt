-- What a contents table is built from: where the FrameH of each frame stands, and by kind each channel name,
-- with the first channel that has it in each frame that has one, in the order of the frames. Places are in
-- bytes from the beginning of the file, and frames are numbered from 0.
use Rattle.std.specs.Prelude.{◌≡◌, ℕ, zero, suc, ◌-◌, ◌==◌, ◌<◌, ◌≤◌, ◌&&◌, not, Bool, true, if◌then◌else◌}
use Rattle.std.specs.Prelude.{List, [], ◌∷◌, ◌++◌, length, map, find, fold}
use Rattle.std.specs.Prelude.{slice_index_or, All}
use Rattle.std.specs.Option.{option_map_or}
use Rattle.std.specs.List.{list_any}
use Rattle.std.specs.Str.{bytes_eq}
use Rattle.link_graph.specs.Collected.{Bodied}
use Rattle.frame_content.specs.Frames.{Frame, label_at}
use Rattle.contents_table.specs.declared.kind.Kind.{Kind}
use Rattle.contents_table.specs.declared.kind.Kind.TheVariants.{Adc, Proc, Sim, Ser}
use Rattle.contents_table.specs.declared.names.Found.{Found}
use Rattle.contents_table.specs.declared.names.Listed.{Listed}
use Rattle.contents_table.specs.declared.places.Places.{Places}
use Rattle.contents_table.specs.declared.places.Places.TheVariants.{OfSource, At}
use Rattle.contents_table.specs.Channels.{named_channels, name_of, header_of}

-- the place of each frame's FrameH, and the names of each kind in the order in which they first came
pub record Built : Type 0 where
  pub heads : List ℕ
  pub adc : List Listed
  pub proc : List Listed
  pub sim : List Listed
  pub ser : List Listed

abbrev pub nothing_built : Built
nothing_built = record { heads = []; adc = []; proc = []; sim = []; ser = [] }

abbrev pub listed_of : Built → Kind → List Listed
listed_of built Adc = built.adc
listed_of built Proc = built.proc
listed_of built Sim = built.sim
listed_of built Ser = built.ser

abbrev pub with_listed : Built → Kind → List Listed → Built
with_listed built Adc listed = record built { adc = listed }
with_listed built Proc listed = record built { proc = listed }
with_listed built Sim listed = record built { sim = listed }
with_listed built Ser listed = record built { ser = listed }

-- one more frame
abbrev pub with_frame : ℕ → Built → Built
with_frame at built = record built { heads = built.heads ++ at ∷ [] }

-- one more channel of a name: one that the frame has already changes nothing
abbrev pub is_in : ℕ → Found → Bool
is_in frame found = found.frame == frame

abbrev pub with_found : Found → Listed → Listed
with_found found listed =
    if list_any (is_in found.frame) listed.found then listed
    else record listed { found = listed.found ++ found ∷ [] }

-- one more channel among those of its kind: a name that has not come before stands behind the others
unfoldable pub with_name : List ℕ → Found → List Listed → List Listed
with_name name found [] = record { name = name; found = found ∷ [] } ∷ []
with_name name found (listed ∷ more) =
    if bytes_eq name listed.name then with_found found listed ∷ more else listed ∷ with_name name found more

-- the number of the frame that came last
abbrev pub last_frame : Built → ℕ
last_frame built = length built.heads - 1

-- one more channel of the frame that came last
abbrev pub with_channel : Kind → List ℕ → ℕ → Built → Built
with_channel kind name at built =
    with_listed built kind
    (with_name name (record { frame = last_frame built; at = at }) (listed_of built kind))

-- no two of these are the same
abbrev pub are_distinct : List (List ℕ) → Bool
are_distinct [] = true
are_distinct (name ∷ names) = not (list_any (bytes_eq name) names) && are_distinct names

-- ---- what it says

abbrev pub name_in : Listed → List ℕ
name_in listed = listed.name

-- the place of a name's channel in a frame, or 0 where there is none
abbrev pub place_in : ℕ → List Found → ℕ
place_in frame found = option_map_or (λ (f : Found). f.at) (find (is_in frame) found) 0

abbrev pub position_in : List Listed → List ℕ → ℕ → ℕ
position_in listed name frame =
    option_map_or (λ (l : Listed). place_in frame l.found)
    (find (λ (l : Listed). bytes_eq name l.name) listed) 0

-- the numbers below n, in order
unfoldable pub numbers_below : ℕ → List ℕ
numbers_below zero = []
numbers_below (suc n) = numbers_below n ++ n ∷ []

-- ---- a frame with its channels

-- the place of the record of a number
abbrev pub place_of : List ℕ → ℕ → ℕ
place_of places k = slice_index_or places k 0

-- the channels of a kind, by their names and the places of their records
abbrev pub with_named : Kind → List ℕ → Built → List ℕ × ℕ → Built
with_named kind places built channel = with_channel kind channel.0 (place_of places channel.1) built

abbrev pub with_channels : List ℕ → Frame → Built → Kind → Built
with_channels places f built kind = fold (with_named kind places) built (named_channels f kind)

-- One more frame, whose records stand at these places, with its channels of all kinds.
abbrev pub with_frame_at : List ℕ → Frame → Built → Built
with_frame_at places f built =
    fold (with_channels places f) (with_frame (option_map_or (place_of places) (header_of f) 0) built)
    (Adc ∷ Proc ∷ Sim ∷ Ser ∷ [])

-- the places of a segment's records
abbrev pub places_of : List Bodied → List ℕ
places_of nodes = map (λ (r : Bodied). r.node.at) nodes

-- where a segment's records stand: in the file that they come from, or at the places that are given
abbrev pub places_in : List Bodied → Places → List ℕ
places_in nodes OfSource = places_of nodes
places_in nodes (At places) = places.now

-- One more frame, which is that of a segment with these records.
abbrev pub with_frame_of : List Bodied → Frame → Built → Built
with_frame_of nodes f = with_frame_at (places_of nodes) f

-- ---- what is kept

-- the channels are in the order of their frames, one of each, and the frames are below this number
abbrev pub AreInOrder : ℕ → List Found → Type 0
AreInOrder frames [] = Unit {0}
AreInOrder frames (found ∷ more) =
    (found.frame < frames) × All (λ (later : Found). found.frame < later.frame) more × AreInOrder frames more

pub record IsName (frames : ℕ) (listed : Listed) : Type 0 where
  pub short : length listed.name ≤ 65534
  pub ordered : AreInOrder frames listed.found

-- no name is there twice
pub record AreNames (frames : ℕ) (listed : List Listed) : Type 0 where
  pub names : All (IsName frames) listed
  pub distinct : are_distinct (map name_in listed) ≡ true

-- ---- one channel of a frame

-- one more record of a channel, which counts where it has a name
abbrev pub with_record : List ℕ → Frame → Kind → Built → ℕ → Built
with_record places f kind built node =
    option_map_or (λ name. with_channel kind name (place_of places node) built)
    (name_of (label_at f node)) built
