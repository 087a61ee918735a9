-- The FrameH of a frame in its order, and the first channel of a kind under it.
use Rattle.std.proofs.Common.{◌≡◌, ℕ, suc, ◌+◌, ◌⊎◌, inl, inr, Bool, true, false, cond, Option, Some, None, List, []}
use Rattle.std.proofs.Common.{◌∷◌}
use Rattle.std.proofs.Common.{position, get_or, nat_eq, refl, sym, ap, ◌∙◌, arith}
use Rattle.std.specs.Prelude.{option_and_then}
use Rattle.std.specs.List.{position_from}
use Rattle.std.specs.Option.{option_map}
use Rattle.std.proofs.lemmas.Bool.{eq-eqb, ne_eqb, cases_Bool}
use Rattle.std.proofs.lemmas.Iterator.Adapters.{position_from-zero}
use Rattle.std.proofs.lemmas.Option.{none-some, same_Some, get_or_from_slice_get}
use Rattle.rooted_graph.specs.BreadthOrder.{number_of, IsBreadthOrder}
use Rattle.rooted_graph.specs.InOrder.{renumbered}
use Rattle.rooted_graph.proofs.Firsts.{has_from_Contains}
use Rattle.rooted_graph.proofs.Targets.{slice_get_from_has}
use Rattle.rooted_graph.proofs.Reached.{has_root}
use Rattle.frame_content.specs.Frames.{Frame, row_at, no_row}
use Rattle.contents_table.specs.declared.kind.Kind.{Kind}
use Rattle.contents_table.specs.Channels.{raw_data, structure_of, is_under_raw_data, head, is_frame_header, header_of}
use Rattle.contents_table.specs.Channels.{upper, first_channel}
use Rattle.contents_table.proofs.Positions.{position-found, position-map, position-same, position-never}
use Rattle.canonical_file.specs.Ordered.{frame_graph, row_in, ordered}
use Rattle.canonical_file.specs.Renumbered.{HasOneHeader}
use Rattle.canonical_file.proofs.RenumberedLinks.{AreIn, head-in_order, head-in}

-- the first place of a number in a list is its number there
option_map-add : (i : ℕ) (found : Option ℕ)
    → option_map (λ k. (i + 1) + k) found ≡ option_map (λ k. i + k) (option_map (λ k. suc k) found)
option_map-add i None = refl
option_map-add i (Some k) = let same : (i + 1) + k ≡ i + suc k = omega arith in ap Some same

position-number_from : (n i : ℕ) (xs : List ℕ)
    → position_from (nat_eq n) i xs ≡ option_map (λ k. i + k) (number_of xs n)
position-number_from n i [] = refl
position-number_from n i (x ∷ xs) = by (nat_eq n x) (position-number_from n (i + 1) xs)
  where
    by : (b : Bool) → position_from (nat_eq n) (i + 1) xs ≡ option_map (λ k. (i + 1) + k) (number_of xs n)
        → cond b (Some i) (position_from (nat_eq n) (i + 1) xs)
        ≡ option_map (λ k. i + k) (cond b (Some 0) (option_map (λ k. suc k) (number_of xs n)))
    by true later = let same : i ≡ i + 0 = omega arith in ap Some same
    by false later = later ∙ option_map-add i (number_of xs n)

option_map-zero : (found : Option ℕ) → option_map (λ k. 0 + k) found ≡ found
option_map-zero None = refl
option_map-zero (Some k) = let same : 0 + k ≡ k = omega arith in ap Some same

position-number : (n : ℕ) (xs : List ℕ) → position (nat_eq n) xs ≡ number_of xs n
position-number n xs =
    position_from-zero (nat_eq n) xs ∙ position-number_from n 0 xs ∙ option_map-zero (number_of xs n)

-- ---- FrameH

abbrev is_header_at : Frame → ℕ → Bool
is_header_at f n = is_frame_header (row_at f n)

-- a record is FrameH exactly where it is the one that is found
no-header : (f : Frame) → HasOneHeader f → header_of f ≡ None → (n : ℕ) → is_header_at f n ≡ false
no-header f one none n = by (cases_Bool (is_header_at f n))
  where
    by : (is_header_at f n ≡ true) ⊎ (is_header_at f n ≡ false) → is_header_at f n ≡ false
    by (inl is) = absurd (none-some n (sym none ∙ one.only n is))
    by (inr other) = other

one-header : (f : Frame) → HasOneHeader f → (h : ℕ) → header_of f ≡ Some h → (n : ℕ) → is_header_at f n ≡ nat_eq h n
one-header f one h is n = by (cases_Bool (is_header_at f n))
  where
    found : is_header_at f h ≡ true
    found =
        let first = position-found is_frame_header f.rows h is in
        ap is_frame_header (get_or_from_slice_get f.rows h first.element no_row first.is) ∙ first.passes

    by : (is_header_at f n ≡ true) ⊎ (is_header_at f n ≡ false) → is_header_at f n ≡ nat_eq h n
    by (inl here) = here ∙ sym (eq-eqb h n (same_Some h n (sym is ∙ one.only n here)))
    by (inr other) = other ∙ sym (ne_eqb h n (λ same. true-false (sym (ap (is_header_at f) same ∙ other) ∙ found)))
      where
        true-false : false ≡ true → ⊥
        true-false e = cc

pub header-in : (f : Frame) (s : List ℕ) → IsBreadthOrder (frame_graph f).graph s → HasOneHeader f
    → AreIn s (header_of f)
header-in f s o one = by (header_of f) refl
  where
    by : (found : Option ℕ) → header_of f ≡ found → AreIn s found
    by None is = tt
    by (Some h) is =
        let root = slice_get_from_has f.roots h (has_from_Contains f.roots h (one.root h is)) in
        has_root (frame_graph f).graph s o root.0 h root.1

pub header-in_order : (f : Frame) (s : List ℕ) → HasOneHeader f
    → header_of (ordered f s) ≡ renumbered s (header_of f)
header-in_order f s one = position-map is_frame_header (row_in f s) s ∙ by (header_of f) refl
  where
    by : (found : Option ℕ) → header_of f ≡ found → position (is_header_at f) s ≡ renumbered s found
    by None is = position-never (is_header_at f) s (λ k d lt. no-header f one is (get_or s k d))
    by (Some h) is =
        position-same (is_header_at f) (nat_eq h) s (λ k d lt. one-header f one h is (get_or s k d))
        ∙ position-number h s

-- ---- the record above a kind's channels, and the first of them

pub upper-in_order : (f : Frame) (s : List ℕ) → IsBreadthOrder (frame_graph f).graph s → HasOneHeader f → (kind : Kind)
    → upper (ordered f s) kind ≡ renumbered s (upper f kind)
upper-in_order f s o one kind =
    ap (λ found. cond (is_under_raw_data kind) (option_and_then (head (ordered f s) raw_data) found) found)
    (header-in_order f s one)
    ∙ by (is_under_raw_data kind)
  where
    by : (b : Bool) → cond b (option_and_then (head (ordered f s) raw_data) (renumbered s (header_of f)))
        (renumbered s (header_of f))
        ≡ renumbered s (cond b (option_and_then (head f raw_data) (header_of f)) (header_of f))
    by true = head-in_order f s o raw_data (header_of f) (header-in f s o one)
    by false = refl

pub upper-in : (f : Frame) (s : List ℕ) → IsBreadthOrder (frame_graph f).graph s → HasOneHeader f → (kind : Kind)
    → AreIn s (upper f kind)
upper-in f s o one kind = by (is_under_raw_data kind)
  where
    by : (b : Bool) → AreIn s (cond b (option_and_then (head f raw_data) (header_of f)) (header_of f))
    by true = head-in f s o raw_data (header_of f) (header-in f s o one)
    by false = header-in f s o one

pub first-in_order : (f : Frame) (s : List ℕ) → IsBreadthOrder (frame_graph f).graph s → HasOneHeader f → (kind : Kind)
    → first_channel (ordered f s) kind ≡ renumbered s (first_channel f kind)
first-in_order f s o one kind =
    ap (option_and_then (head (ordered f s) (structure_of kind))) (upper-in_order f s o one kind)
    ∙ head-in_order f s o (structure_of kind) (upper f kind) (upper-in f s o one kind)

pub first-in : (f : Frame) (s : List ℕ) → IsBreadthOrder (frame_graph f).graph s → HasOneHeader f → (kind : Kind)
    → AreIn s (first_channel f kind)
first-in f s o one kind = head-in f s o (structure_of kind) (upper f kind) (upper-in f s o one kind)
