-- The cut of a frame at a channel: the frame that is left where it is to hold that channel alone.
use Rattle.std.specs.Prelude.{ℕ, ◌==◌, if◌then◌else◌, Bool, false, List, [], ◌∷◌, map, Option, Some, None}
use Rattle.std.specs.Option.{option_map, option_map_or, option_to_list}
use Rattle.std.specs.List.{enumerate_from}
use Rattle.std.specs.Str.{bytes_eq}
use Rattle.frame_content.specs.Labels.{Label}
use Rattle.frame_content.specs.Frames.{Row, Frame}
use Rattle.contents_table.specs.declared.kind.Kind.{Kind}
use Rattle.contents_table.specs.Channels.{structure_of, raw_data, head_field, next_field, link_number, header_of, upper}
use Rattle.contents_table.specs.Channels.{channel_named}
use Rattle.canonical_file.specs.Contents.{Content}

-- ---- the links that a cut changes

-- the number, among the links of a record, of the plain link that leads to a structure, and of the plain link `next`
abbrev pub head_link : List ℕ → Label → Option ℕ
head_link name label = option_map (link_number label) (head_field name label.entry.elements)

abbrev pub next_link : Label → Option ℕ
next_link label = option_map (link_number label) (next_field label.entry.elements)

-- whether this is the number
abbrev pub is_number : Option ℕ → ℕ → Bool
is_number number n = option_map_or (λ k. k == n) number false

-- a link by its number: the one of this number leads to a record, and all others are null
abbrev pub kept_link : Option ℕ → ℕ → ℕ × Option ℕ → Option ℕ
kept_link number to link = if is_number number link.0 then Some to else None

-- the one of this number is null, and all others stay
abbrev pub other_link : Option ℕ → ℕ × Option ℕ → Option ℕ
other_link number link = if is_number number link.0 then None else link.1

abbrev pub only_link : Option ℕ → ℕ → List (Option ℕ) → List (Option ℕ)
only_link number to links = map (kept_link number to) (enumerate_from 0 links)

abbrev pub without_link : Option ℕ → List (Option ℕ) → List (Option ℕ)
without_link number links = map (other_link number) (enumerate_from 0 links)

-- ---- the cut

-- the links of FrameH, where channels are under the FrRawData to which it leads
abbrev pub header_links : Label → Option ℕ → List (Option ℕ) → List (Option ℕ)
header_links label to links = option_map_or (λ u. only_link (head_link raw_data label) u links) to links

-- The links of a record in the cut at channel k. FrameH leads to FrRawData alone and that to the channel alone, or
-- FrameH leads to the channel alone where the kind is under it; the plain link `next` of the channel is null; all other
-- records lead where they led.
abbrev pub cut_links : Frame → Kind → ℕ → ℕ → Row → List (Option ℕ)
cut_links f kind k n r =
    if is_number (upper f kind) n then only_link (head_link (structure_of kind) r.label) k r.links
    else (if is_number (header_of f) n then header_links r.label (upper f kind) r.links
    else (if k == n then without_link (next_link r.label) r.links else r.links))

abbrev pub cut_row : Frame → Kind → ℕ → ℕ × Row → Row
cut_row f kind k row = record row.1 { links = cut_links f kind k row.0 row.1 }

-- The cut of a frame at its record k as a channel of the kind: FrameH is its only root, and the end record stays. It
-- has all records, and those that FrameH no longer reaches are not written.
abbrev pub cut : Frame → Kind → ℕ → Frame
cut f kind k = record f {
  rows = map (cut_row f kind k) (enumerate_from 0 f.rows);
  roots = option_to_list (header_of f);
}

-- ---- extractions

-- the channel of a name: the first that has it
abbrev pub has_name : List ℕ → List ℕ × ℕ → Bool
has_name name channel = bytes_eq name channel.0

abbrev pub number_of_channel : List ℕ × ℕ → ℕ
number_of_channel channel = channel.1

-- the cut, and the cuts after it, where a frame has the channel
abbrev pub cut_before : Frame → Kind → List Frame → ℕ → List Frame
cut_before f kind cuts k = cut f kind k ∷ cuts

-- The extraction of frames by kind and name: the cuts of those that have such a channel, in order.
abbrev pub extraction : Kind → List ℕ → List Frame → List Frame
extraction kind name [] = []
extraction kind name (f ∷ fs) =
    let cuts = extraction kind name fs in option_map_or (cut_before f kind cuts) (channel_named f kind name) cuts

-- The extraction of a content: its closing stays.
abbrev pub content_extraction : Kind → List ℕ → Content → Content
content_extraction kind name c = record c { frames = extraction kind name c.frames }
