-- The channels of a frame (LIGO-T970130 v8: FrAdcData and FrSerData under FrRawData, FrProcData and FrSimData under
-- FrameH, each a list linked by `next`).
use Rattle.std.specs.Prelude.{ℕ, zero, suc, Bool, true, false, if◌then◌else◌, List, [], ◌∷◌, length, take, codes}
use Rattle.std.specs.Prelude.{position, slice_get, Option, Some, None, option_and_then, filter_map, find}
use Rattle.std.specs.Option.{option_map, option_map_or}
use Rattle.std.specs.Str.{bytes_eq}
use Rattle.type_text.specs.declared.types.Base.{Base}
use Rattle.type_text.specs.declared.types.Base.TheVariants.{Ptr, Str}
use Rattle.record_values.specs.declared.values.Value.{Value}
use Rattle.record_values.specs.declared.values.Value.TheVariants as value
use Rattle.record_values.specs.Links.{links_in}
use Rattle.dictionary.specs.declared.entries.Element.{Element}
use Rattle.dictionary.specs.Named.{first_named}
use Rattle.rooted_graph.specs.BreadthOrder.{has}
use Rattle.file_grammar.specs.Closing.{is_single}
use Rattle.frame_content.specs.Labels.{Label}
use Rattle.frame_content.specs.Frames.{Frame, Row, row_at, label_at}
use Rattle.contents_table.specs.declared.kind.Kind.{Kind}
use Rattle.contents_table.specs.declared.kind.Kind.TheVariants.{Adc, Proc, Sim, Ser}

-- the structure of a kind's channels
abbrev pub structure_of : Kind → List ℕ
structure_of Adc = codes "FrAdcData"
structure_of Proc = codes "FrProcData"
structure_of Sim = codes "FrSimData"
structure_of Ser = codes "FrSerData"

abbrev pub is_under_raw_data : Kind → Bool
is_under_raw_data Adc = true
is_under_raw_data Proc = false
is_under_raw_data Sim = false
is_under_raw_data Ser = true

abbrev pub frame_header : List ℕ
frame_header = codes "FrameH"

abbrev pub raw_data : List ℕ
raw_data = codes "FrRawData"

abbrev pub is_link_to : List ℕ → Base → Bool
is_link_to name (Ptr to) = bytes_eq name to
is_link_to name base = false

abbrev pub is_link : Base → Bool
is_link (Ptr to) = true
is_link base = false

abbrev pub is_text : Base → Bool
is_text Str = true
is_text base = false

-- A plain link is one without dimension. The number of the first plain link whose type names a structure.
abbrev pub head_field : List ℕ → List Element → Option ℕ
head_field name elements = position (is_single (is_link_to name)) elements

-- the number of the first element of a name, where that is single and of a base that passes
abbrev pub number_where : (Base → Bool) → ℕ × Element → Option ℕ
number_where passes found = if is_single passes found.1 then Some found.0 else None

abbrev pub field_where : (Base → Bool) → List ℕ → List Element → Option ℕ
field_where passes name elements = option_and_then (number_where passes) (first_named 0 elements name)

abbrev pub next_field : List Element → Option ℕ
next_field elements = field_where is_link (codes "next") elements

abbrev pub name_field : List Element → Option ℕ
name_field elements = field_where is_text (codes "name") elements

-- where the plain link of a field leads: its number among the record's links is that of the links in the fields before
-- it
abbrev pub link_number : Label → ℕ → ℕ
link_number label field = length (links_in (take field label.values))

abbrev pub end_of_link : Frame → ℕ → ℕ → Option ℕ
end_of_link f n field =
    option_and_then (λ to. to) (slice_get (row_at f n).links (link_number (label_at f n) field))

-- the record, where it is one of this structure
abbrev pub if_named : Frame → List ℕ → ℕ → Option ℕ
if_named f name m = if bytes_eq name (label_at f m).entry.name then Some m else None

-- the record of a structure to which a plain link of a record leads
abbrev pub target : Frame → List ℕ → ℕ → Option ℕ → Option ℕ
target f name n field =
    option_and_then (if_named f name) (option_and_then (end_of_link f n) field)

-- the record of a structure to which the first plain link leads whose type names it
abbrev pub head : Frame → List ℕ → ℕ → Option ℕ
head f name n = target f name n (head_field name (label_at f n).entry.elements)

-- the record that describes the whole frame
abbrev pub is_frame_header : Row → Bool
is_frame_header r = bytes_eq frame_header r.label.entry.name

abbrev pub header_of : Frame → Option ℕ
header_of f = position is_frame_header f.rows

-- The record under which a kind's channels are: FrameH, or the FrRawData under it.
abbrev pub upper : Frame → Kind → Option ℕ
upper f kind =
    if is_under_raw_data kind then option_and_then (head f raw_data) (header_of f) else header_of f

abbrev pub first_channel : Frame → Kind → Option ℕ
first_channel f kind = option_and_then (head f (structure_of kind)) (upper f kind)

-- the channel after a channel
abbrev pub next_channel : Frame → List ℕ → ℕ → Option ℕ
next_channel f name k = target f name k (next_field (label_at f k).entry.elements)

-- from one channel to the next, up to a record that was met: at most n channels
unfoldable pub channels_from : ℕ → Frame → List ℕ → List ℕ → Option ℕ → List ℕ
channels_from zero f name met at = []
channels_from (suc n) f name met None = []
channels_from (suc n) f name met (Some k) =
    if has met k then [] else k ∷ channels_from n f name (k ∷ met) (next_channel f name k)

-- The channels of a kind, by the numbers of their records: none stands twice, so there are no more of them than
-- records.
abbrev pub channels : Frame → Kind → List ℕ
channels f kind = channels_from (length f.rows) f (structure_of kind) [] (first_channel f kind)

-- the name of a channel
abbrev pub text_of : Value → Option (List ℕ)
text_of (value.Text text) = Some text
text_of (value.Num n) = None
text_of (value.Pair a b) = None
text_of (value.Nums xs) = None
text_of (value.Pairs xs) = None
text_of (value.Texts xs) = None
text_of (value.Bytes xs) = None
text_of (value.Link link) = None
text_of (value.Links xs) = None

abbrev pub name_of : Label → Option (List ℕ)
name_of label =
    option_and_then text_of (option_and_then (slice_get label.values) (name_field label.entry.elements))

-- a channel that has a name, with it
abbrev pub named_channel : Frame → ℕ → Option (List ℕ × ℕ)
named_channel f k = option_map (λ name. (name, k)) (name_of (label_at f k))

-- the names of a kind's channels in the order of the walk, each with the number of its record
abbrev pub named_channels : Frame → Kind → List (List ℕ × ℕ)
named_channels f kind = filter_map (named_channel f) (channels f kind)

-- whether the label has this name
abbrev pub has_name : List ℕ → Label → Bool
has_name name label = option_map_or (λ own. bytes_eq name own) (name_of label) false

-- the channel of a name: the first that has it
abbrev pub channel_named : Frame → Kind → List ℕ → Option ℕ
channel_named f kind name =
    option_map (λ (c : List ℕ × ℕ). c.1)
    (find (λ (c : List ℕ × ℕ). bytes_eq name c.0) (named_channels f kind))
