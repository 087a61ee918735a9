-- Frames apart from the comments and type texts of their entries have the same channels.
use Rattle.std.proofs.Common.{◌≡◌, ℕ, zero, suc, cond, Option, Some, None, List, [], ◌∷◌, map, filter_map, length}
use Rattle.std.proofs.Common.{refl, ap, ◌∙◌}
use Rattle.std.specs.Prelude.{option_and_then, slice_get, codes}
use Rattle.std.specs.Option.{option_map}
use Rattle.std.specs.Str.{bytes_eq}
use Rattle.std.proofs.lemmas.List.{length-map}
use Rattle.rooted_graph.specs.BreadthOrder.{has}
use Rattle.dictionary.specs.declared.entries.Element.{Element}
use Rattle.frame_content.specs.Labels.{Label}
use Rattle.frame_content.specs.Frames.{Row, Frame, no_row, row_at, label_at}
use Rattle.contents_table.specs.declared.kind.Kind.{Kind}
use Rattle.contents_table.specs.Channels.{raw_data, structure_of, is_under_raw_data, is_link, is_text, end_of_link}
use Rattle.contents_table.specs.Channels.{link_number, if_named, target, head_field, head, is_frame_header, header_of}
use Rattle.contents_table.specs.Channels.{first_channel, next_field, next_channel, channels_from, channels}
use Rattle.contents_table.specs.Channels.{name_of, text_of, named_channel, named_channels}
use Rattle.contents_table.proofs.Positions.{position-map}
use Rattle.canonical_file.proofs.Graphs.{get_or-map_any}
use Rattle.canonical_file.proofs.Bare.{bare_element, bare_entry, field-bare, head-bare}

abbrev pub bare_label : Label → Label
bare_label l = record l { entry = bare_entry l.entry }

abbrev pub bare_row : Row → Row
bare_row r = record r { label = bare_label r.label }

abbrev pub bare_frame : Frame → Frame
bare_frame f = record f { rows = map bare_row f.rows; end = bare_label f.end }

row-bare : (f : Frame) (n : ℕ) → row_at (bare_frame f) n ≡ bare_row (row_at f n)
row-bare f n = get_or-map_any bare_row f.rows n no_row

label-bare : (f : Frame) (n : ℕ) → label_at (bare_frame f) n ≡ bare_label (label_at f n)
label-bare f n = ap (λ (r : Row). r.label) (row-bare f n)

end-bare : (f : Frame) (n : ℕ) → end_of_link (bare_frame f) n ≡ end_of_link f n
end-bare f n =
    λ i field. option_and_then (λ to. to) (slice_get (row-bare f n i).links (link_number (row-bare f n i).label field))

if_named-bare : (f : Frame) (name : List ℕ) → if_named (bare_frame f) name ≡ if_named f name
if_named-bare f name =
    λ i m. ap (λ (l : Label). cond (bytes_eq name l.entry.name) (Some m) None) (label-bare f m) i

target-bare : (f : Frame) (name : List ℕ) (n : ℕ) (field : Option ℕ)
    → target (bare_frame f) name n field ≡ target f name n field
target-bare f name n field =
    λ i. option_and_then (if_named-bare f name i) (option_and_then (end-bare f n i) field)

-- a field that is the same of bare elements
field-at : (f : Frame) (n : ℕ) (field : List Element → Option ℕ)
    → ((es : List Element) → field (map bare_element es) ≡ field es)
    → field (label_at (bare_frame f) n).entry.elements ≡ field (label_at f n).entry.elements
field-at f n field same =
    ap (λ (l : Label). field l.entry.elements) (label-bare f n) ∙ same (label_at f n).entry.elements

head-same : (f : Frame) (name : List ℕ) → head (bare_frame f) name ≡ head f name
head-same f name =
    λ i n. (ap (target (bare_frame f) name n) (field-at f n (head_field name) (head-bare name))
    ∙ target-bare f name n (head_field name (label_at f n).entry.elements)) i

next-same : (f : Frame) (name : List ℕ) (n : ℕ) → next_channel (bare_frame f) name n ≡ next_channel f name n
next-same f name n =
    ap (target (bare_frame f) name n) (field-at f n next_field (field-bare is_link (codes "next")))
    ∙ target-bare f name n (next_field (label_at f n).entry.elements)

pub header-bare : (f : Frame) → header_of (bare_frame f) ≡ header_of f
header-bare f = position-map is_frame_header bare_row f.rows

first-same : (f : Frame) (kind : Kind) → first_channel (bare_frame f) kind ≡ first_channel f kind
first-same f kind =
    λ i. option_and_then (head-same f (structure_of kind) i)
    (cond (is_under_raw_data kind) (option_and_then (head-same f raw_data i) (header-bare f i)) (header-bare f i))

walk-bare : (n : ℕ) (f : Frame) (name met : List ℕ) (at : Option ℕ)
    → channels_from n (bare_frame f) name met at ≡ channels_from n f name met at
unfolding channels_from
walk-bare zero f name met at = refl
walk-bare (suc n) f name met None = refl
walk-bare (suc n) f name met (Some k) =
    ap (λ later. cond (has met k) [] (k ∷ later))
    (ap (channels_from n (bare_frame f) name (k ∷ met)) (next-same f name k)
    ∙ walk-bare n f name (k ∷ met) (next_channel f name k))

channels-bare : (f : Frame) (kind : Kind) → channels (bare_frame f) kind ≡ channels f kind
channels-bare f kind =
    (λ i. channels_from (length-map f.rows bare_row i) (bare_frame f) (structure_of kind) [] (first-same f kind i))
    ∙ walk-bare (length f.rows) f (structure_of kind) [] (first_channel f kind)

named-same : (f : Frame) → named_channel (bare_frame f) ≡ named_channel f
named-same f =
    λ i k. option_map (λ name. (name, k)) ((ap name_of (label-bare f k) ∙ name-bare (label_at f k)) i)
  where
    name-bare : (l : Label) → name_of (bare_label l) ≡ name_of l
    name-bare l =
        ap (λ field. option_and_then text_of (option_and_then (slice_get l.values) field))
        (field-bare is_text (codes "name") l.entry.elements)

pub names-bare : (f : Frame) (kind : Kind) → named_channels (bare_frame f) kind ≡ named_channels f kind
names-bare f kind = λ i. filter_map (named-same f i) (channels-bare f kind i)
