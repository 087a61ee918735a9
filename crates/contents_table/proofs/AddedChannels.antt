-- The channels of a frame, added one after another.
use Rattle.std.proofs.Common.{◌≡◌, ℕ, ◌≤◌, List, [], ◌∷◌, length, take, fold, Option, Some, None}
use Rattle.std.proofs.Common.{refl, sym, ap, ◌∙◌}
use Rattle.std.specs.Prelude.{filter_map, unwrap_or}
use Rattle.std.specs.List.{cons_option}
use Rattle.std.specs.Option.{option_map, option_map_or}
use Rattle.std.proofs.lemmas.List.{take_all}
use Rattle.link_graph.specs.Collected.{Collected}
use Rattle.link_graph.specs.Graph.{Layouts}
use Rattle.dictionary.specs.declared.entries.Entry.{Entry}
use Rattle.frame_content.specs.Frames.{Frame, frame_of, label_at}
use Rattle.contents_table.specs.declared.kind.Kind.{Kind}
use Rattle.contents_table.specs.declared.layouts.ChannelLayouts.{ChannelLayouts}
use Rattle.contents_table.specs.Layouts.{AreOf}
use Rattle.contents_table.specs.Channels.{channels, name_of, named_channel}
use Rattle.contents_table.specs.Built.{Built, with_channel, with_channels, with_named, with_record, place_of}

-- what is added of a record with a name
pub record-added : (places : List ℕ) (f : Frame) (kind : Kind) (built new : Built) (k : ℕ) (name : List ℕ)
    (at : ℕ) → at ≡ place_of places k → name_of (label_at f k) ≡ Some name →
    new ≡ with_channel kind name at built → new ≡ with_record places f kind built k
record-added places f kind built new k name at is named added =
    added ∙ ap (λ at. with_channel kind name at built) is
    ∙ ap (λ o. option_map_or (λ name. with_channel kind name (place_of places k) built) o built) (sym named)

-- those with a name count
pub records-named : (places : List ℕ) (f : Frame) (kind : Kind) (built : Built) (ks : List ℕ) →
    fold (with_record places f kind) built ks
    ≡ fold (with_named kind places) built (filter_map (named_channel f) ks)
records-named places f kind built [] = refl
records-named places f kind built (k ∷ ks) =
    by (name_of (label_at f k)) (λ built. records-named places f kind built ks)
  where
    by : (o : Option (List ℕ)) →
        ((built : Built) → fold (with_record places f kind) built ks
        ≡ fold (with_named kind places) built (filter_map (named_channel f) ks)) →
        fold (with_record places f kind)
        (option_map_or (λ name. with_channel kind name (place_of places k) built) o built) ks ≡
        fold (with_named kind places) built
        (cons_option (option_map (λ name. (name, k)) o) (filter_map (named_channel f) ks))
    by None rest = rest built
    by (Some name) rest = rest (with_channel kind name (place_of places k) built)

-- The first i of these records of channels are added.
pub record AreAdded (plans : Layouts) (layouts : ChannelLayouts) (places : List ℕ) (s : Collected) (kind : Kind)
    (old new : Built) (ks : List ℕ) (i : ℕ) : Type 0 where
  pub heads : new.heads ≡ old.heads
  pub added : (held : List Entry) → AreOf held plans layouts →
      new ≡ fold (with_record places (frame_of held s) kind) old (take i ks)

pub all-added : (plans : Layouts) (layouts : ChannelLayouts) (places : List ℕ) (s : Collected) (kind : Kind)
    (old new : Built) (ks : List ℕ) (i : ℕ) → AreAdded plans layouts places s kind old new ks i →
    length ks ≤ i → ((held : List Entry) → AreOf held plans layouts → ks ≡ channels (frame_of held s) kind) →
    (held : List Entry) → AreOf held plans layouts → new ≡ with_channels places (frame_of held s) old kind
all-added plans layouts places s kind old new ks i so end are_channels held are =
    so.added held are
    ∙ ap (fold (with_record places (frame_of held s) kind) old) (take_all i ks end ∙ are_channels held are)
    ∙ records-named places (frame_of held s) kind old (channels (frame_of held s) kind)

-- the place of a record that may be there
pub place-or : (places : List ℕ) (o : Option ℕ) (found : Option ℕ) →
    found ≡ option_map (place_of places) o → unwrap_or found 0 ≡ option_map_or (place_of places) o 0
place-or places o found is = ap (λ found. unwrap_or found 0) is ∙ by o
  where
    by : (o : Option ℕ) → unwrap_or (option_map (place_of places) o) 0 ≡ option_map_or (place_of places) o 0
    by None = refl
    by (Some k) = refl
