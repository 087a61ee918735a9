-- What a contents table lists of a frame hangs on its rows and on their places alone.
use Rattle.std.proofs.Common.{◌≡◌, ℕ, zero, suc, ◌<◌, cond, Option, Some, None, List, [], ◌∷◌, length, refl, ap, ◌∙◌}
use Rattle.std.specs.Prelude.{fold, filter_map}
use Rattle.std.specs.List.{AllByRecursion}
use Rattle.std.specs.Option.{option_map_or}
use Rattle.rooted_graph.specs.BreadthOrder.{has}
use Rattle.link_graph.specs.Table.{IsWithin}
use Rattle.frame_content.specs.Frames.{Frame}
use Rattle.contents_table.specs.declared.kind.Kind.{Kind}
use Rattle.contents_table.specs.declared.kind.Kind.TheVariants.{Adc, Proc, Sim, Ser}
use Rattle.contents_table.specs.Channels.{structure_of, header_of, first_channel, next_channel, channels_from}
use Rattle.contents_table.specs.Channels.{named_channel, named_channels}
use Rattle.contents_table.specs.Built.{Built, with_frame, with_channel, place_of, with_named, with_channels}
use Rattle.contents_table.specs.Built.{with_frame_at}
use Rattle.canonical_file.proofs.RenumberedTable.{all-kinds}
use Rattle.canonical_laws.proofs.ChannelRows.{header-within, IsChannel, HasChannels}

-- the places of the first n records are the same
abbrev pub SamePlaces : ℕ → List ℕ → List ℕ → Type 0
SamePlaces n places own = (k : ℕ) → k < n → place_of places k ≡ place_of own k

-- the frame with other roots
abbrev rooted : Frame → List ℕ → Frame
rooted f roots = record f { roots = roots }

walk-rooted : (n : ℕ) (f : Frame) (roots name met : List ℕ) (at : Option ℕ)
    → channels_from n (rooted f roots) name met at ≡ channels_from n f name met at
unfolding channels_from
walk-rooted zero f roots name met at = refl
walk-rooted (suc n) f roots name met None = refl
walk-rooted (suc n) f roots name met (Some k) =
    ap (λ later. cond (has met k) [] (k ∷ later)) (walk-rooted n f roots name (k ∷ met) (next_channel f name k))

names-rooted : (f : Frame) (roots : List ℕ) (kind : Kind)
    → named_channels (rooted f roots) kind ≡ named_channels f kind
names-rooted f roots kind =
    ap (filter_map (named_channel f))
    (walk-rooted (length f.rows) f roots (structure_of kind) [] (first_channel f kind))

-- channels at the same places
channels-listed : (f : Frame) (places own : List ℕ) (kind : Kind) (channels : List (List ℕ × ℕ)) (built : Built)
    → SamePlaces (length f.rows) places own → AllByRecursion (IsChannel f) channels
    → fold (with_named kind places) built channels ≡ fold (with_named kind own) built channels
channels-listed f places own kind [] built same all = refl
channels-listed f places own kind (c ∷ cs) built same all =
    ap (λ at. fold (with_named kind places) (with_channel kind c.0 at built) cs) (same c.1 all.0.within)
    ∙ channels-listed f places own kind cs (with_named kind own built c) same all.1

kind-listed : (f : Frame) (roots places own : List ℕ) → SamePlaces (length f.rows) places own → HasChannels f
    → (built : Built) (kind : Kind)
    → with_channels places (rooted f roots) built kind ≡ with_channels own f built kind
kind-listed f roots places own same all built kind =
    ap (fold (with_named kind places) built) (names-rooted f roots kind)
    ∙ channels-listed f places own kind (named_channels f kind) built same (all kind)

header-listed : (n : ℕ) (places own : List ℕ) (header : Option ℕ) → SamePlaces n places own → IsWithin n header
    → option_map_or (place_of places) header 0 ≡ option_map_or (place_of own) header 0
header-listed n places own None same within = refl
header-listed n places own (Some k) same within = same k within

-- Whatever its roots, where its rows have the same places it is listed as the same.
pub frame-listed : (f : Frame) (roots places own : List ℕ) (built : Built) → SamePlaces (length f.rows) places own
    → HasChannels f → with_frame_at places (record f { roots = roots }) built ≡ with_frame_at own f built
frame-listed f roots places own built same all =
    ap (λ at. fold (with_channels places (rooted f roots)) (with_frame at built) (Adc ∷ Proc ∷ Sim ∷ Ser ∷ []))
    (header-listed (length f.rows) places own (header_of f) same (header-within f))
    ∙ all-kinds (with_channels places (rooted f roots)) (with_channels own f)
    (kind-listed f roots places own same all) (Adc ∷ Proc ∷ Sim ∷ Ser ∷ [])
    (with_frame (option_map_or (place_of own) (header_of f) 0) built)
