-- The channel of a name.
use Rattle.std.proofs.Common.{◌≡◌, ℕ, suc, ◌+◌, ◌<◌, ◌≤◌, Bool, true, false, cond, List, [], ◌∷◌, length, drop, get_or}
use Rattle.std.proofs.Common.{Option, Some, None, IsSome, refl, sym, ap, ◌∙◌, subst, arith, add-one}
use Rattle.std.specs.Prelude.{All, Contains, filter_map, find}
use Rattle.std.specs.List.{cons_option}
use Rattle.std.specs.Option.{option_map, option_map_or}
use Rattle.std.specs.Str.{bytes_eq}
use Rattle.std.proofs.Math.Seq.{drop-cons}
use Rattle.std.proofs.lemmas.List.{drop_all}
use Rattle.std.proofs.lemmas.List.Elements.{Contains-get_or}
use Rattle.dictionary.specs.declared.entries.Entry.{Entry}
use Rattle.link_graph.specs.Collected.{Collected}
use Rattle.link_graph.specs.Graph.{Layouts, ReadsBy}
use Rattle.frame_content.specs.Frames.{Frame, frame_of, label_at}
use Rattle.contents_table.specs.declared.kind.Kind.{Kind}
use Rattle.contents_table.specs.declared.layouts.ChannelLayouts.{ChannelLayouts}
use Rattle.contents_table.specs.Channels.{channels, first_channel, has_name, name_of, named_channel, channel_named}
use Rattle.contents_table.specs.Channels.{structure_of}
use Rattle.contents_table.specs.Layouts.{AreOf, IsNamed}
use Rattle.contents_table.proofs.ChannelNames.{channel-record}
use Rattle.contents_table.proofs.ChannelWalk.{no-channels}

-- the first of some records whose name it is
abbrev pub first_named_in : Frame → List ℕ → List ℕ → Option ℕ
first_named_in f name ks = find (λ k. has_name name (label_at f k)) ks

-- that of the channels is the first of the named ones
named-first : (f : Frame) (name ks : List ℕ)
    → option_map (λ (c : List ℕ × ℕ). c.1)
    (find (λ (c : List ℕ × ℕ). bytes_eq name c.0) (filter_map (named_channel f) ks)) ≡ first_named_in f name ks
named-first f name [] = refl
named-first f name (k ∷ ks) = by (name_of (label_at f k)) (named-first f name ks)
  where
    found : Option (List ℕ × ℕ)
    found = find (λ (c : List ℕ × ℕ). bytes_eq name c.0) (filter_map (named_channel f) ks)

    on : (own : List ℕ) (b : Bool) → option_map (λ (c : List ℕ × ℕ). c.1) found ≡ first_named_in f name ks
        → option_map (λ (c : List ℕ × ℕ). c.1) (cond b (Some (own, k)) found)
        ≡ cond b (Some k) (first_named_in f name ks)
    on own true later = refl
    on own false later = later

    by : (o : Option (List ℕ)) → option_map (λ (c : List ℕ × ℕ). c.1) found ≡ first_named_in f name ks
        → option_map (λ (c : List ℕ × ℕ). c.1) (find (λ (c : List ℕ × ℕ). bytes_eq name c.0)
        (cons_option (option_map (λ own. (own, k)) o) (filter_map (named_channel f) ks)))
        ≡ cond (option_map_or (λ own. bytes_eq name own) o false) (Some k) (first_named_in f name ks)
    by None later = later
    by (Some own) later = on own (bytes_eq name own) later

-- The first i of these channels have other names.
pub record AreOthers (plans : Layouts) (layouts : ChannelLayouts) (s : Collected) (name ks : List ℕ) (i : ℕ) : Type 0
  where
    pub left : (held : List Entry) → AreOf held plans layouts
        → first_named_in (frame_of held s) name (drop i ks) ≡ first_named_in (frame_of held s) name ks

-- what is known of the name of the i-th channel
abbrev pub TellsName : Layouts → ChannelLayouts → Collected → Kind → List ℕ → ℕ → Bool → Type 0
TellsName plans layouts s kind name k told =
    (held : List Entry) → AreOf held plans layouts → Contains (channels (frame_of held s) kind) k
    → told ≡ has_name name (label_at (frame_of held s) k)

module _ (plans : Layouts) (layouts : ChannelLayouts) (s : Collected) (kind : Kind) (name ks : List ℕ)
    (are_channels : (held : List Entry) → AreOf held plans layouts → ks ≡ channels (frame_of held s) kind) where
  among : (held : List Entry) → AreOf held plans layouts → (i : ℕ) → i < length ks
      → Contains (channels (frame_of held s) kind) (get_or ks i 0)
  among held are i lt =
      subst (λ all. Contains all (get_or ks i 0)) (are_channels held are) (Contains-get_or ks i 0 lt)

  -- the rest, from the i-th on, whose name is told
  rest-told : (held : List Entry) → AreOf held plans layouts → (i : ℕ) (told : Bool) → i < length ks
      → TellsName plans layouts s kind name (get_or ks i 0) told
      → first_named_in (frame_of held s) name (drop i ks)
      ≡ cond told (Some (get_or ks i 0)) (first_named_in (frame_of held s) name (drop (suc i) ks))
  rest-told held are i told lt tells =
      ap (first_named_in (frame_of held s) name) (drop-cons ks i 0 lt)
      ∙ ap (λ b. cond b (Some (get_or ks i 0)) (first_named_in (frame_of held s) name (drop (suc i) ks)))
      (sym (tells held are (among held are i lt)))

  pub others-more : (i : ℕ) (told : Bool) → i < length ks → told ≡ false
      → TellsName plans layouts s kind name (get_or ks i 0) told → AreOthers plans layouts s name ks i
      → AreOthers plans layouts s name ks (i + 1)
  others-more i told lt is tells so = record {
    left = λ held are. ap (λ n. first_named_in (frame_of held s) name (drop n ks)) (add-one i)
        ∙ sym (rest-told held are i told lt tells
        ∙ ap (λ b. cond b (Some (get_or ks i 0)) (first_named_in (frame_of held s) name (drop (suc i) ks))) is)
        ∙ so.left held are;
  }

  -- it is the first of that name
  channel-is : (held : List Entry) → AreOf held plans layouts
      → channel_named (frame_of held s) kind name ≡ first_named_in (frame_of held s) name ks
  channel-is held are =
      named-first (frame_of held s) name (channels (frame_of held s) kind)
      ∙ ap (first_named_in (frame_of held s) name) (sym (are_channels held are))

  pub channel-here : (i : ℕ) (told : Bool) → i < length ks → told ≡ true
      → TellsName plans layouts s kind name (get_or ks i 0) told → AreOthers plans layouts s name ks i
      → (held : List Entry) → AreOf held plans layouts
      → Some (get_or ks i 0) ≡ channel_named (frame_of held s) kind name
  channel-here i told lt is tells so held are =
      sym (channel-is held are ∙ sym (so.left held are) ∙ rest-told held are i told lt tells
      ∙ ap (λ b. cond b (Some (get_or ks i 0)) (first_named_in (frame_of held s) name (drop (suc i) ks))) is)

  pub channel-none : (i : ℕ) → length ks ≤ i → AreOthers plans layouts s name ks i
      → (held : List Entry) → AreOf held plans layouts → None ≡ channel_named (frame_of held s) kind name
  channel-none i le so held are =
      sym (channel-is held are ∙ sym (so.left held are)
      ∙ ap (first_named_in (frame_of held s) name) (drop_all i ks le))

  -- a channel is a record of the kind's structure
  pub channel-of_kind : (i : ℕ) → i < length ks → All (ReadsBy plans s.order) s.nodes → (held : List Entry)
      → AreOf held plans layouts → IsNamed held s (structure_of kind) (get_or ks i 0)
  channel-of_kind i lt reads held are =
      channel-record held plans layouts s kind (get_or ks i 0) are reads (among held are i lt)

  -- and where there is one there is a first one
  pub channel-first : (i : ℕ) → i < length ks → (held : List Entry) → AreOf held plans layouts
      → IsSome (first_channel (frame_of held s) kind)
  channel-first i lt held are = by (first_channel (frame_of held s) kind) refl
    where
      by : (o : Option ℕ) → first_channel (frame_of held s) kind ≡ o → IsSome o
      by None none =
          absurd (omega (arith, lt, ap length (are_channels held are ∙ no-channels (frame_of held s) kind none)))
      by (Some k) found = refl
