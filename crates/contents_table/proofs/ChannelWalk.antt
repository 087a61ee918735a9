-- The walk over the channels of a kind: the records met are marked, and the rest of the walk follows those found.
use Rattle.std.proofs.Common.{◌≡◌, ℕ, zero, suc, ◌+◌, ◌-◌, ◌<◌, ◌⊎◌, inl, inr, Bool, true, false, ◌||◌, cond, List}
use Rattle.std.proofs.Common.{[], ◌∷◌, ◌++◌, length, get_or, set, replicate, reverse, Option, Some, None, IfSome}
use Rattle.std.proofs.Common.{refl, sym, ap, ◌∙◌, subst, arith, append_assoc, append-nil}
use Rattle.std.specs.Prelude.{nat_eq, count_by, option_and_then, All, Contains}
use Rattle.std.specs.Str.{bytes_eq}
use Rattle.std.proofs.lemmas.Bool.{cases_eq, eq-eqb, ne_eqb, cond-true, cond-false, false≢true}
use Rattle.std.proofs.lemmas.List.{length-map, length-set, length-replicate, reverse-append}
use Rattle.std.proofs.lemmas.List.{get_or-set_same, get_or-set_other, get_or-replicate, length_push}
use Rattle.std.proofs.lemmas.List.Elements.{All-nil, All-cons, All-push, All-contains}
use Rattle.std.proofs.lemmas.List.Sums.{count_by-le-length, sum_by-set}
use Rattle.std.proofs.lemmas.List.Folds.{sum_by-replicate}
use Rattle.std.proofs.lemmas.Option.{option_and_then_some, cond_some}
use Rattle.dictionary.specs.declared.entries.Entry.{Entry}
use Rattle.rooted_graph.specs.BreadthOrder.{has}
use Rattle.link_graph.specs.Collected.{Collected}
use Rattle.link_graph.specs.Graph.{Layouts}
use Rattle.frame_content.specs.Frames.{Frame, frame_of, row_of, label_at}
use Rattle.contents_table.specs.declared.kind.Kind.{Kind}
use Rattle.contents_table.specs.declared.layouts.ChannelLayouts.{ChannelLayouts}
use Rattle.contents_table.specs.Channels.{structure_of, end_of_link, if_named, target, head, upper, first_channel}
use Rattle.contents_table.specs.Channels.{next_channel, channels_from, channels}
use Rattle.contents_table.specs.Layouts.{AreOf, IsNamed}

-- ---- steps of the walk

walk-none : (n : ℕ) (f : Frame) (name met : List ℕ) → channels_from n f name met None ≡ []
unfolding channels_from
walk-none zero f name met = refl
walk-none (suc n) f name met = refl

walk-met : (n : ℕ) (f : Frame) (name met : List ℕ) (k : ℕ) → has met k ≡ true
    → channels_from n f name met (Some k) ≡ []
unfolding channels_from
walk-met zero f name met k is = refl
walk-met (suc n) f name met k is = cond-true (has met k) _ _ is

walk-more : (n : ℕ) (f : Frame) (name met : List ℕ) (k : ℕ) → has met k ≡ false
    → channels_from (suc n) f name met (Some k) ≡ k ∷ channels_from n f name (k ∷ met) (next_channel f name k)
unfolding channels_from
walk-more n f name met k other = cond-false (has met k) _ _ other

-- ---- marks

abbrev marks_in : List Bool → ℕ
marks_in met = count_by (λ b. b) met

marks-more : (met : List Bool) (k : ℕ) → k < length met → get_or met k false ≡ false
    → marks_in (set met k true) ≡ marks_in met + 1
marks-more met k lt free =
    omega (
      arith,
      sum_by-set (λ (b : Bool). cond b 1 0) met k true false lt,
      ap {B = ℕ} (λ b. cond b 1 0) free,
    )

marks-room : (met : List Bool) (k : ℕ) → k < length met → get_or met k false ≡ false → marks_in met < length met
marks-room met k lt free =
    omega (
      arith,
      marks-more met k lt free,
      count_by-le-length (λ (b : Bool). b) (set met k true),
      length-set met k true,
    )

no-marks : (n : ℕ) → marks_in (replicate n false) ≡ 0
no-marks n = omega (arith, sum_by-replicate (λ (b : Bool). cond b 1 0) n false)

reverse-push : (nodes : List ℕ) (k : ℕ) → reverse (nodes ++ k ∷ []) ≡ k ∷ reverse nodes
reverse-push nodes k = reverse-append nodes (k ∷ [])

-- ---- how far the walk has come

pub record IsWalked (plans : Layouts) (layouts : ChannelLayouts) (s : Collected) (kind : Kind) (met : List Bool)
    (nodes : List ℕ) (at : Option ℕ) : Type 0 where
  pub size : length met ≡ length s.nodes
  pub count : marks_in met ≡ length nodes
  pub marks : (k : ℕ) → k < length met → get_or met k false ≡ has (reverse nodes) k
  pub rest : (held : List Entry) → AreOf held plans layouts
      → nodes ++ channels_from (length s.nodes - length nodes) (frame_of held s) (structure_of kind)
      (reverse nodes) at
      ≡ channels (frame_of held s) kind
  pub named : (held : List Entry) → AreOf held plans layouts → IfSome at (IsNamed held s (structure_of kind))
  pub within : IfSome at (λ n. n < length s.nodes)
  pub below : All (λ n. n < length s.nodes) nodes

pub walked-none : (plans : Layouts) (layouts : ChannelLayouts) (s : Collected) (kind : Kind) (met : List Bool)
    (nodes : List ℕ) (first : ℕ) → met ≡ replicate (length s.nodes) false → nodes ≡ []
    → ((held : List Entry) → AreOf held plans layouts → Some first ≡ first_channel (frame_of held s) kind)
    → ((held : List Entry) → AreOf held plans layouts → IsNamed held s (structure_of kind) first)
    → first < length s.nodes → IsWalked plans layouts s kind met nodes (Some first)
walked-none plans layouts s kind met nodes first blank empty is named within =
    subst (λ met. IsWalked plans layouts s kind met nodes (Some first)) (sym blank)
    (subst (λ nodes. IsWalked plans layouts s kind (replicate (length s.nodes) false) nodes (Some first))
    (sym empty)
    (record {
      size = length-replicate (length s.nodes) false;
      count = no-marks (length s.nodes);
      marks = λ k lt. get_or-replicate (length s.nodes) k false false
          (omega (arith, lt, length-replicate (length s.nodes) false));
      rest = λ held are.
          let all : length s.nodes - length {A = ℕ} [] ≡ length (frame_of held s).rows =
          omega (arith, length-map s.nodes (row_of s.order held s.nodes)) in
          λ i. channels_from (all i) (frame_of held s) (structure_of kind) [] (is held are i);
      named = named;
      within = within;
      below = All-nil (λ n. n < length s.nodes);
    }))

-- the record reached is one of the segment
pub walked-within : (plans : Layouts) (layouts : ChannelLayouts) (s : Collected) (kind : Kind) (met : List Bool)
    (nodes : List ℕ) (at : Option ℕ) (node : ℕ) → IsWalked plans layouts s kind met nodes at → at ≡ Some node
    → node < length met
walked-within plans layouts s kind met nodes at node walked is =
    omega (arith, walked.size, subst (λ at. IfSome at (λ n. n < length s.nodes)) is walked.within)

-- a record that was not met is a channel more
pub walked-more : (plans : Layouts) (layouts : ChannelLayouts) (s : Collected) (kind : Kind)
    (met marked : List Bool)
    (nodes found : List ℕ) (node : ℕ) (next : Option ℕ) → IsWalked plans layouts s kind met nodes (Some node)
    → node < length met → get_or met node false ≡ false → marked ≡ set met node true → found ≡ nodes ++ node ∷ []
    → ((held : List Entry) → AreOf held plans layouts
    → next ≡ next_channel (frame_of held s) (structure_of kind) node)
    → ((held : List Entry) → AreOf held plans layouts → IfSome next (IsNamed held s (structure_of kind)))
    → IfSome next (λ n. n < length s.nodes) → IsWalked plans layouts s kind marked found next
walked-more plans layouts s kind met marked nodes found node next walked lt free marked_is found_is is named within =
    subst (λ marked. IsWalked plans layouts s kind marked found next) (sym marked_is)
    (subst (λ found. IsWalked plans layouts s kind (set met node true) found next) (sym found_is) (record {
      size = length-set met node true ∙ walked.size;
      count = marks-more met node lt free ∙ ap (λ n. n + 1) walked.count ∙ sym (length_push nodes node);
      marks = λ k below. mark k below;
      rest = λ held are. rest held are;
      named = named;
      within = within;
      below = All-push (λ n. n < length s.nodes) nodes node walked.below walked.within;
    }))
  where
    others : (b : Bool) (a : Bool) → b ≡ true → (b || a) ≡ true
    others true a e = refl
    others false a e = absurd (false≢true e)

    mark : (k : ℕ) → k < length (set met node true)
        → get_or (set met node true) k false ≡ has (reverse (nodes ++ node ∷ [])) k
    mark k below = by (cases_eq k node) ∙ ap (λ ms. has ms k) (sym (reverse-push nodes node))
      where
        by : (k ≡ node) ⊎ (k ≡ node → ⊥) → get_or (set met node true) k false ≡ has (node ∷ reverse nodes) k
        by (inl e) =
            ap (λ k. get_or (set met node true) k false) e ∙ get_or-set_same met node true false lt
            ∙ sym (others (nat_eq k node) (has (reverse nodes) k) (eq-eqb k node e))
        by (inr apart) =
            get_or-set_other met node k true false apart
            ∙ walked.marks k (omega (arith, below, length-set met node true))
            ∙ ap (λ b. b || has (reverse nodes) k) (sym (ne_eqb k node apart))

    rest : (held : List Entry) → AreOf held plans layouts
        → (nodes ++ node ∷ []) ++ channels_from (length s.nodes - length (nodes ++ node ∷ [])) (frame_of held s)
        (structure_of kind) (reverse (nodes ++ node ∷ [])) next ≡ channels (frame_of held s) kind
    rest held are =
        let f = frame_of held s in
        let name = structure_of kind in
        let room = marks-room met node lt free in
        let left = length s.nodes - length (nodes ++ node ∷ []) in
        let one : suc left ≡ length s.nodes - length nodes =
        omega (arith, length_push nodes node, room, walked.size, walked.count) in
        let new : has (reverse nodes) node ≡ false = sym (walked.marks node lt) ∙ free in
        append_assoc nodes (node ∷ []) (channels_from left f name (reverse (nodes ++ node ∷ [])) next)
        ∙ (λ i. nodes ++ node ∷ channels_from left f name (reverse-push nodes node i) (is held are i))
        ∙ ap (λ later. nodes ++ later) (sym (walk-more left f name (reverse nodes) node new)
        ∙ ap (λ n. channels_from n f name (reverse nodes) (Some node)) one)
        ∙ walked.rest held are

-- the walk ends at a record that was met, and where no record follows
walked-all : (plans : Layouts) (layouts : ChannelLayouts) (s : Collected) (kind : Kind) (met : List Bool)
    (nodes : List ℕ) (at : Option ℕ) (held : List Entry) → IsWalked plans layouts s kind met nodes at
    → AreOf held plans layouts
    → channels_from (length s.nodes - length nodes) (frame_of held s) (structure_of kind) (reverse nodes) at ≡ []
    → nodes ≡ channels (frame_of held s) kind
walked-all plans layouts s kind met nodes at held walked are none =
    sym (append-nil nodes) ∙ ap (λ later. nodes ++ later) (sym none) ∙ walked.rest held are

pub walked-met : (plans : Layouts) (layouts : ChannelLayouts) (s : Collected) (kind : Kind) (met : List Bool)
    (nodes : List ℕ) (node : ℕ) (held : List Entry) → IsWalked plans layouts s kind met nodes (Some node)
    → AreOf held plans layouts → node < length met → get_or met node false ≡ true
    → nodes ≡ channels (frame_of held s) kind
walked-met plans layouts s kind met nodes node held walked are lt is =
    walked-all plans layouts s kind met nodes (Some node) held walked are
    (walk-met (length s.nodes - length nodes) (frame_of held s) (structure_of kind) (reverse nodes) node
    (sym (walked.marks node lt) ∙ is))

pub walked-end : (plans : Layouts) (layouts : ChannelLayouts) (s : Collected) (kind : Kind) (met : List Bool)
    (nodes : List ℕ) (held : List Entry) → IsWalked plans layouts s kind met nodes None → AreOf held plans layouts
    → nodes ≡ channels (frame_of held s) kind
walked-end plans layouts s kind met nodes held walked are =
    walked-all plans layouts s kind met nodes None held walked are
    (walk-none (length s.nodes - length nodes) (frame_of held s) (structure_of kind) (reverse nodes))

-- a walk that has found nothing
pub none-below : (s : Collected) (nodes : List ℕ) → nodes ≡ [] → All (λ n. n < length s.nodes) nodes
none-below s nodes empty = subst (All (λ n. n < length s.nodes)) (sym empty) (All-nil (λ n. n < length s.nodes))

-- no record is met twice
pub walked-room : (plans : Layouts) (layouts : ChannelLayouts) (s : Collected) (kind : Kind) (met : List Bool)
    (nodes : List ℕ) (node : ℕ) → IsWalked plans layouts s kind met nodes (Some node) → node < length met
    → get_or met node false ≡ false → length nodes < length s.nodes
walked-room plans layouts s kind met nodes node walked lt free =
    omega (arith, marks-room met node lt free, walked.size, walked.count)

-- without first channel there is none
pub no-channels : (f : Frame) (kind : Kind) → first_channel f kind ≡ None → channels f kind ≡ []
no-channels f kind none =
    ap (channels_from (length f.rows) f (structure_of kind) []) none
    ∙ walk-none (length f.rows) f (structure_of kind) []

-- ---- each channel is of the structure

abbrev HasName : Frame → List ℕ → ℕ → Type 0
HasName f name k = bytes_eq name (label_at f k).entry.name ≡ true

if-some : {X : Type 0} (P : X → Type 0) (o : Option X) → ((x : X) → o ≡ Some x → P x) → IfSome o P
if-some P None all = tt
if-some P (Some x) all = all x refl

pub target-name : (f : Frame) (name : List ℕ) (n : ℕ) (field : Option ℕ) (m : ℕ) → target f name n field ≡ Some m
    → bytes_eq name (label_at f m).entry.name ≡ true
target-name f name n field m is =
    option_and_then_some (if_named f name) (option_and_then (end_of_link f n) field) m is (λ k there found.
    let parts = cond_some (bytes_eq name (label_at f k).entry.name) k m found in
    ap (λ k. bytes_eq name (label_at f k).entry.name) (sym parts.1) ∙ parts.0)

all-named : (n : ℕ) (f : Frame) (name met : List ℕ) (at : Option ℕ) → IfSome at (HasName f name)
    → All (HasName f name) (channels_from n f name met at)
unfolding channels_from
all-named zero f name met at named = All-nil (HasName f name)
all-named (suc n) f name met None named = All-nil (HasName f name)
all-named (suc n) f name met (Some k) named = by (has met k)
    (all-named n f name (k ∷ met) (next_channel f name k)
    (if-some (HasName f name) (next_channel f name k) (target-name f name k _)))
  where
    by : (b : Bool) → All (HasName f name) (channels_from n f name (k ∷ met) (next_channel f name k))
        → All (HasName f name) (cond b [] (k ∷ channels_from n f name (k ∷ met) (next_channel f name k)))
    by true later = All-nil (HasName f name)
    by false later = All-cons (HasName f name) k _ named later

pub channel-named : (f : Frame) (kind : Kind) (k : ℕ) → Contains (channels f kind) k
    → bytes_eq (structure_of kind) (label_at f k).entry.name ≡ true
channel-named f kind k is =
    All-contains (HasName f (structure_of kind)) (channels f kind) k
    (all-named (length f.rows) f (structure_of kind) [] (first_channel f kind)
    (if-some (HasName f (structure_of kind)) (first_channel f kind) (λ m found.
    option_and_then_some (head f (structure_of kind)) (upper f kind) m found (λ n there led.
    target-name f (structure_of kind) n _ m led)))) is
