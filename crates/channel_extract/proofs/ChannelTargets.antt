-- The channel of a name, and FrRawData, in a segment: a link leads to each, and each is a record of its structure.
use Rattle.std.proofs.Common.{◌≡◌, ℕ, zero, suc, ◌≤◌, inl, inr, Bool, true, false, cond, List, [], ◌∷◌, map, length}
use Rattle.std.proofs.Common.{find, filter_map, Option, Some, None, IfSome, IsSome}
use Rattle.std.proofs.Common.{refl, sym, ap, ◌∙◌, subst, arith}
use Rattle.std.specs.Prelude.{◌==◌, All, slice_get, option_and_then}
use Rattle.std.specs.List.{AllByRecursion, cons_option}
use Rattle.std.specs.Option.{option_map}
use Rattle.std.specs.Str.{bytes_eq}
use Rattle.std.proofs.lemmas.Bool.{eqb-true, and_parts, false≢true, true≢false}
use Rattle.std.proofs.lemmas.List.{length-map, get_or_past}
use Rattle.std.proofs.lemmas.Option.{same_Some, none-some, slice_get-map, slice_get_cases, cond_some}
use Rattle.std.proofs.lemmas.Option.{option_and_then_some}
use Rattle.type_text.specs.declared.types.Link.{Link}
use Rattle.record_values.specs.Links.{links_in}
use Rattle.dictionary.specs.declared.entries.Entry.{Entry}
use Rattle.dictionary.specs.Dictionary.{class_named, entry_of, IsDictionary}
use Rattle.rooted_graph.specs.BreadthOrder.{has}
use Rattle.link_graph.specs.Collected.{Bodied, Collected, is_named, place_of, target_of}
use Rattle.link_graph.specs.Graph.{Layouts, ReadsBy}
use Rattle.frame_content.specs.Frames.{Row, Frame, frame_of, values_in, row_of, row_at, label_at, no_row}
use Rattle.contents_table.specs.declared.kind.Kind.{Kind}
use Rattle.contents_table.specs.declared.kind.Kind.TheVariants.{Adc, Proc, Sim, Ser}
use Rattle.contents_table.specs.declared.layouts.ChannelLayouts.{ChannelLayouts}
use Rattle.contents_table.specs.Channels.{structure_of, is_under_raw_data, frame_header, raw_data}
use Rattle.contents_table.specs.Channels.{head_field, next_field}
use Rattle.contents_table.specs.Channels.{link_number, end_of_link, if_named, target, head, header_of, upper}
use Rattle.contents_table.specs.Channels.{first_channel, next_channel, channels_from, channels, name_of, named_channel}
use Rattle.contents_table.specs.Channels.{channel_named}
use Rattle.contents_table.specs.Layouts.{AreOf, IsNamed}
use Rattle.contents_table.proofs.ChannelWalk.{no-channels}
use Rattle.contents_table.proofs.LinkEnds.{row-record, named-record}
use Rattle.contents_table.proofs.Positions.{position-found}
use Rattle.contents_table.proofs.ReadRecords.{plans-of}
use Rattle.contents_table.proofs.SomeValues.{some-and, map-some}
use Rattle.channel_extract.specs.Cutting.{own_link, IsTarget}

-- ---- the target of a link

pub led-to : (s : Collected) (link : Link) (m : ℕ) → target_of s.nodes link ≡ Some m → IsTarget s m
led-to s link m e = by (link.class == 0) refl e
  where
    by : (b : Bool) → (link.class == 0) ≡ b → cond b None (place_of s.nodes link) ≡ Some m → IsTarget s m
    by true null is = absurd (none-some m is)
    by false null is =
        let found = position-found (λ (r : Bodied). is_named link r.node) s.nodes m is in
        let node = found.element.node in
        let parts = and_parts (node.class == link.class) (node.instance == link.instance) found.passes in
        let class : node.class ≡ link.class = eqb-true node.class link.class parts.0 in
        let instance : node.instance ≡ link.instance = eqb-true node.instance link.instance parts.1 in
        let leads : target_of s.nodes (own_link found.element) ≡ Some m =
        (λ i. target_of s.nodes (record { class = class i; instance = instance i })) ∙ e in
        subst (λ o. IfSome o (λ r. target_of s.nodes (own_link r) ≡ Some m)) (sym found.is) leads

row-past : (held : List Entry) (s : Collected) (n : ℕ) → length s.nodes ≤ n → row_at (frame_of held s) n ≡ no_row
row-past held s n le =
    get_or_past (map (row_of s.order held s.nodes) s.nodes) n no_row
    (omega (arith, le, length-map s.nodes (row_of s.order held s.nodes)))

-- the record to which a link of a frame leads
link-led : (held : List Entry) (s : Collected) (n i m : ℕ)
    → slice_get (row_at (frame_of held s) n).links i ≡ Some (Some m) → IsTarget s m
link-led held s n i m is = elim (slice_get_cases s.nodes n).1 [
  | inl (r, lt, at, same) ↦
      let links = links_in (values_in s.order held r) in
      let found = map-some (target_of s.nodes) (slice_get links i) (Some m)
      (sym (slice_get-map (target_of s.nodes) links i)
      ∙ ap (λ (row : Row). slice_get row.links i) (sym (row-record held s n r at)) ∙ is) in
      led-to s found.0 m found.2
  | inr (le, past) ↦
      absurd (none-some (Some m) (ap (λ (row : Row). slice_get row.links i) (sym (row-past held s n le)) ∙ is))
]

-- a link leads to the record, which has the name
pub record IsLedTo (held : List Entry) (s : Collected) (name : List ℕ) (k : ℕ) : Type 0 where
  pub target : IsTarget s k
  pub named : bytes_eq name (label_at (frame_of held s) k).entry.name ≡ true

flat-some : (o : Option (Option ℕ)) (m : ℕ) → option_and_then (λ (l : Option ℕ). l) o ≡ Some m → o ≡ Some (Some m)
flat-some None m h = absurd (none-some m h)
flat-some (Some None) m h = absurd (none-some m h)
flat-some (Some (Some n)) m h = ap (λ (l : Option ℕ). Some l) h

pub target-led : (held : List Entry) (s : Collected) (name : List ℕ) (n k : ℕ) (field : Option ℕ)
    → target (frame_of held s) name n field ≡ Some k → IsLedTo held s name k
target-led held s name n k field e =
    let f = frame_of held s in
    option_and_then_some (if_named f name) (option_and_then (end_of_link f n) field) k e (λ m found named.
    let parts = cond_some (bytes_eq name (label_at f m).entry.name) m k named in
    subst (IsLedTo held s name) parts.1 (record {
      target = option_and_then_some (end_of_link f n) field m found (λ number is leads.
          let i = link_number (label_at f n) number in
          link-led held s n i m (flat-some (slice_get (row_at f n).links i) m leads));
      named = parts.0;
    }))

-- ---- channels

if-all : {X : Type 0} (P : X → Type 0) (b : Bool) (xs : List X) → AllByRecursion P xs → AllByRecursion P (cond b [] xs)
if-all P true xs all = tt
if-all P false xs all = all

walk-led : (held : List Entry) (s : Collected) (name met : List ℕ) (n : ℕ) (at : Option ℕ)
    → ((k : ℕ) → at ≡ Some k → IsLedTo held s name k)
    → AllByRecursion (IsLedTo held s name) (channels_from n (frame_of held s) name met at)
unfolding channels_from
walk-led held s name met zero at led = tt
walk-led held s name met (suc n) None led = tt
walk-led held s name met (suc n) (Some k) led =
    let f = frame_of held s in
    if-all (IsLedTo held s name) (has met k) (k ∷ channels_from n f name (k ∷ met) (next_channel f name k)) (
      led k refl,
      walk-led held s name (k ∷ met) n (next_channel f name k)
          (λ m e. target-led held s name k m (next_field (label_at f k).entry.elements) e),
    )

first-led : (held : List Entry) (s : Collected) (kind : Kind) (k : ℕ) → first_channel (frame_of held s) kind ≡ Some k
    → IsLedTo held s (structure_of kind) k
first-led held s kind k e =
    let f = frame_of held s in
    option_and_then_some (head f (structure_of kind)) (upper f kind) k e (λ n is leads.
    target-led held s (structure_of kind) n k (head_field (structure_of kind) (label_at f n).entry.elements) leads)

-- one of them that has a name
found-led : (f : Frame) (P : ℕ → Type 0) (name ks : List ℕ) (k : ℕ) → AllByRecursion P ks
    → option_map (λ (c : List ℕ × ℕ). c.1)
    (find (λ (c : List ℕ × ℕ). bytes_eq name c.0) (filter_map (named_channel f) ks)) ≡ Some k → P k
found-led f P name [] k all e = absurd (none-some k e)
found-led f P name (j ∷ js) k all e = by (name_of (label_at f j)) (found-led f P name js k all.1) e
  where
    found : Option (List ℕ × ℕ)
    found = find (λ (c : List ℕ × ℕ). bytes_eq name c.0) (filter_map (named_channel f) js)

    on : (own : List ℕ) (b : Bool) → (option_map (λ (c : List ℕ × ℕ). c.1) found ≡ Some k → P k)
        → option_map (λ (c : List ℕ × ℕ). c.1) (cond b (Some (own, j)) found) ≡ Some k → P k
    on own true later e = subst P (same_Some j k e) all.0
    on own false later e = later e

    by : (o : Option (List ℕ)) → (option_map (λ (c : List ℕ × ℕ). c.1) found ≡ Some k → P k)
        → option_map (λ (c : List ℕ × ℕ). c.1) (find (λ (c : List ℕ × ℕ). bytes_eq name c.0)
        (cons_option (option_map (λ own. (own, j)) o) (filter_map (named_channel f) js))) ≡ Some k → P k
    by None later e = later e
    by (Some own) later e = on own (bytes_eq name own) later e

-- the channel of a name
pub channel-led : (held : List Entry) (s : Collected) (kind : Kind) (name : List ℕ) (k : ℕ)
    → channel_named (frame_of held s) kind name ≡ Some k → IsLedTo held s (structure_of kind) k
channel-led held s kind name k e =
    let f = frame_of held s in
    found-led f (IsLedTo held s (structure_of kind)) name (channels f kind) k
    (walk-led held s (structure_of kind) [] (length f.rows) (first_channel f kind) (first-led held s kind)) e

-- where there is one, there is a first one
pub channel-first : (f : Frame) (kind : Kind) (name : List ℕ) (k : ℕ) → channel_named f kind name ≡ Some k
    → IsSome (first_channel f kind)
channel-first f kind name k e = by (first_channel f kind) refl
  where
    by : (o : Option ℕ) → first_channel f kind ≡ o → IsSome o
    by None none =
        absurd (none-some k (sym (ap (λ ks. option_map (λ (c : List ℕ × ℕ). c.1)
        (find (λ (c : List ℕ × ℕ). bytes_eq name c.0) (filter_map (named_channel f) ks)))
        (no-channels f kind none)) ∙ e))
    by (Some first) found = refl

-- and a record above them
pub first-upper : (f : Frame) (kind : Kind) → IsSome (first_channel f kind) → upper f kind ≡ None → ⊥
first-upper f kind first none =
    false≢true (subst IsSome (ap (option_and_then (head f (structure_of kind))) none) first)

-- and a FrameH
pub first-header : (f : Frame) (kind : Kind) → IsSome (first_channel f kind) → header_of f ≡ None → ⊥
first-header f kind first none =
    first-upper f kind first
    (ap (λ o. cond (is_under_raw_data kind) (option_and_then (head f raw_data) o) o) none ∙ by (is_under_raw_data kind))
  where
    by : (b : Bool) → ◌≡◌ {A = Option ℕ} (cond b None None) None
    by true = refl
    by false = refl

-- FrameH leads to the record above the channels, where it is not that record itself
pub raw-led : (f : Frame) (kind : Kind) (h u : ℕ) → header_of f ≡ Some h → upper f kind ≡ Some u → (h ≡ u → ⊥)
    → head f raw_data h ≡ Some u
raw-led f kind h u header is apart = by (is_under_raw_data kind) is
  where
    by : (b : Bool) → cond b (option_and_then (head f raw_data) (header_of f)) (header_of f) ≡ Some u
        → head f raw_data h ≡ Some u
    by true is = sym (ap (option_and_then (head f raw_data)) header) ∙ is
    by false is = absurd (apart (same_Some h u (sym header ∙ is)))

-- ---- records of structures

pub channel-of_kind : (held : List Entry) (plans : Layouts) (of : ChannelLayouts) (s : Collected) (name : List ℕ)
    (k : ℕ)
    → AreOf held plans of → All (ReadsBy plans s.order) s.nodes → bytes_eq name [] ≡ false → IsLedTo held s name k
    → IsNamed held s name k
channel-of_kind held plans of s name k are reads some led =
    named-record held plans s k name (plans-of held plans of are) reads some led.named

-- a record is not of two structures
named-once : (held : List Entry) (s : Collected) (n : ℕ) (name other : List ℕ) → IsDictionary held
    → IsNamed held s name n → IsNamed held s other n → name ≡ other
named-once held s n name other sound first second =
    let a = some-and (slice_get s.nodes n) (λ (r : Bodied). class_named held name ≡ Some r.node.class) first in
    let b = some-and (slice_get s.nodes n) (λ (r : Bodied). class_named held other ≡ Some r.node.class) second in
    let same : a.0 ≡ b.0 = same_Some a.0 b.0 (sym a.1 ∙ b.1) in
    let class : b.0.node.class ≡ a.0.node.class = ap (λ (r : Bodied). r.node.class) (sym same) in
    let e = some-and (entry_of held a.0.node.class) (λ (e : Entry). e.name ≡ name) (sound.names name a.0.node.class a.2)
    in
    let d = some-and (entry_of held a.0.node.class) (λ (e : Entry). e.name ≡ other)
    (sound.names other a.0.node.class (b.2 ∙ ap Some class)) in
    sym e.2 ∙ ap (λ (e : Entry). e.name) (same_Some e.0 d.0 (sym e.1 ∙ d.1)) ∙ d.2

kind-apart : (kind : Kind) (b : Bool) → structure_of kind ≡ cond b raw_data frame_header → ⊥
kind-apart Adc true e = true≢false (ap (bytes_eq (structure_of Adc)) e)
kind-apart Adc false e = true≢false (ap (bytes_eq (structure_of Adc)) e)
kind-apart Proc true e = true≢false (ap (bytes_eq (structure_of Proc)) e)
kind-apart Proc false e = true≢false (ap (bytes_eq (structure_of Proc)) e)
kind-apart Sim true e = true≢false (ap (bytes_eq (structure_of Sim)) e)
kind-apart Sim false e = true≢false (ap (bytes_eq (structure_of Sim)) e)
kind-apart Ser true e = true≢false (ap (bytes_eq (structure_of Ser)) e)
kind-apart Ser false e = true≢false (ap (bytes_eq (structure_of Ser)) e)

-- a channel is neither FrRawData nor FrameH
pub channel-apart : (held : List Entry) (s : Collected) (kind : Kind) (b : Bool) (k n : ℕ) → IsDictionary held
    → IsNamed held s (structure_of kind) k → IsNamed held s (cond b raw_data frame_header) n → k ≡ n → ⊥
channel-apart held s kind b k n sound channel other same =
    kind-apart kind b (named-once held s n (structure_of kind) (cond b raw_data frame_header) sound
    (subst (IsNamed held s (structure_of kind)) same channel) other)
