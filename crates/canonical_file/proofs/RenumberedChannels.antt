-- The channels of a frame in its order, and what a contents table lists of them.
use Rattle.std.proofs.Common.{◌≡◌, ℕ, ◌<◌, ◌≤◌, ◌⊎◌, inl, inr, true, Option, Some, None, List, [], ◌∷◌, map}
use Rattle.std.proofs.Common.{filter_map, length, get_or, nat_eq, refl, sym, ap, ◌∙◌, subst, arith, All}
use Rattle.std.specs.Prelude.{slice_get, Contains}
use Rattle.std.specs.List.{AllByRecursion, IsDistinct, cons_option, flat_map}
use Rattle.std.specs.Option.{option_map}
use Rattle.std.proofs.lemmas.Bool.{or_cases, cases_lt}
use Rattle.std.proofs.lemmas.List.{length-map, get_or_past}
use Rattle.std.proofs.lemmas.List.Elements.{All-get_or, All-from_recursion}
use Rattle.std.proofs.lemmas.Map.Steps.{length-le_from_distinct_below}
use Rattle.std.proofs.lemmas.Option.{none-some, slice_get_within, get_or_from_slice_get}
use Rattle.rooted_graph.specs.Rooted.{Rooted}
use Rattle.rooted_graph.specs.BreadthOrder.{has, number_of, targets, roots_and_targets, IsBreadthOrder}
use Rattle.rooted_graph.proofs.Firsts.{has-append, has-first_occurrences, first_occurrences_distinct}
use Rattle.rooted_graph.proofs.Places.{number_has, Contains_from_has}
use Rattle.rooted_graph.proofs.Targets.{slice_get_from_has, member_of_flat_map, link_to_target}
use Rattle.link_graph.specs.Table.{IsWithin}
use Rattle.frame_content.specs.Labels.{Label}
use Rattle.frame_content.specs.Frames.{Row, Frame, row_at, label_at, no_row}
use Rattle.contents_table.specs.declared.kind.Kind.{Kind}
use Rattle.contents_table.specs.Channels.{structure_of, channels_from, channels, first_channel, name_of, named_channel}
use Rattle.canonical_file.specs.Ordered.{frame_graph, row_in, ordered}
use Rattle.canonical_file.specs.Renumbered.{IsLinked, HasOneHeader, number_in, renumbered_channel, AreRenumbered}
use Rattle.canonical_file.proofs.Graphs.{links_of-row}
use Rattle.canonical_file.proofs.RenumberedLinks.{label-in_order}
use Rattle.canonical_file.proofs.RenumberedWalk.{AllIn, number-in, walk-in_order, walk-in, none-met}
use Rattle.canonical_file.proofs.RenumberedHeader.{header-in_order, first-in_order, first-in}

-- ---- the order is no longer than the frame

-- a link of a record leads to a record
linked-within : (f : Frame) → IsLinked f → (n j m : ℕ) → slice_get (row_at f n).links j ≡ Some (Some m)
    → m < length f.rows
linked-within f linked n j m is = by (cases_lt n (length f.rows))
  where
    links : List (Option ℕ)
    links = (row_at f n).links

    by : (n < length f.rows) ⊎ (length f.rows ≤ n) → m < length f.rows
    by (inl lt) =
        subst (IsWithin (length f.rows)) (get_or_from_slice_get links j (Some m) None is)
        (All-get_or (IsWithin (length f.rows)) links j None (slice_get_within links j (Some m) is)
        (All-get_or (λ (r : Row). All (IsWithin (length f.rows)) r.links) f.rows n no_row lt linked.links))
    by (inr le) =
        absurd (none-some (Some m) (sym (ap (λ (r : Row). slice_get r.links j) (get_or_past f.rows n no_row le)) ∙ is))

pub member-within : (f : Frame) (s : List ℕ) → IsBreadthOrder (frame_graph f).graph s → IsLinked f → (n : ℕ)
    → has s n ≡ true → n < length f.rows
member-within f s o linked n there =
    by (or_cases (has g.roots n) (has (flat_map (targets g) s) n)
    (sym (has-append g.roots (flat_map (targets g) s) n)
    ∙ sym (has-first_occurrences (roots_and_targets g s) n) ∙ ap (λ t. has t n) (sym o.first) ∙ there))
  where
    g : Rooted
    g = (frame_graph f).graph

    by : (has g.roots n ≡ true) ⊎ (has (flat_map (targets g) s) n ≡ true) → n < length f.rows
    by (inl root) =
        let at = slice_get_from_has f.roots n root in
        subst (λ n. n < length f.rows) (get_or_from_slice_get f.roots at.0 n 0 at.1)
        (All-get_or (λ n. n < length f.rows) f.roots at.0 0 (slice_get_within f.roots at.0 n at.1) linked.roots)
    by (inr behind) =
        let member = member_of_flat_map (targets g) s n behind in
        let m : ℕ = get_or s member.0 0 in
        let link = link_to_target (row_at f m).links n
        (ap (λ links. has (filter_map (λ link. link) links) n) (sym (links_of-row f m)) ∙ member.2) in
        linked-within f linked m link.0 n link.1

order-short : (f : Frame) (s : List ℕ) → IsBreadthOrder (frame_graph f).graph s → IsLinked f → length s ≤ length f.rows
order-short f s o linked =
    length-le_from_distinct_below s (length f.rows)
    (subst (IsDistinct nat_eq) (sym o.first) (first_occurrences_distinct (roots_and_targets (frame_graph f).graph s)))
    (member-within f s o linked)

-- ---- channels

channels-in_order : (f : Frame) (s : List ℕ) → IsBreadthOrder (frame_graph f).graph s → IsLinked f → HasOneHeader f
    → (kind : Kind) → channels (ordered f s) kind ≡ map (number_in s) (channels f kind)
channels-in_order f s o linked one kind =
    (λ i. channels_from (length-map s (row_in f s) i) (ordered f s) (structure_of kind) []
    (first-in_order f s o one kind i))
    ∙ walk-in_order f s o (length f.rows) (length s) (structure_of kind) [] (first_channel f kind)
    (first-in f s o one kind) (none-met s) (omega (arith, order-short f s o linked)) (omega arith)

pub channels-in : (f : Frame) (s : List ℕ) → IsBreadthOrder (frame_graph f).graph s → HasOneHeader f → (kind : Kind)
    → AllIn s (channels f kind)
channels-in f s o one kind =
    walk-in f s o (length f.rows) (structure_of kind) [] (first_channel f kind) (first-in f s o one kind)

all-contained : (s xs : List ℕ) → AllIn s xs → AllByRecursion (Contains s) xs
all-contained s [] all = tt
all-contained s (x ∷ xs) all = (Contains_from_has s x all.0, all-contained s xs all.1)

-- ---- their names

named-in_order : (f : Frame) (s : List ℕ) (n : ℕ) → has s n ≡ true
    → named_channel (ordered f s) (number_in s n) ≡ option_map (renumbered_channel s) (named_channel f n)
named-in_order f s n there = numbered (number_has s n there)
  where
    by : (name : Option (List ℕ)) → option_map (λ name. (name, number_in s n)) name
        ≡ option_map (renumbered_channel s) (option_map (λ name. (name, n)) name)
    by None = refl
    by (Some name) = refl

    numbered : (k : ℕ) × (number_of s n ≡ Some k) → named_channel (ordered f s) (number_in s n)
        ≡ option_map (renumbered_channel s) (named_channel f n)
    numbered (k, number) =
        ap (λ (l : Label). option_map (λ name. (name, number_in s n)) (name_of l))
        (ap (label_at (ordered f s)) (number-in s n k number) ∙ label-in_order f s n k number)
        ∙ by (name_of (label_at f n))

cons-map : {X Y : Type 0} (g : X → Y) (x : Option X) (xs : List X)
    → cons_option (option_map g x) (map g xs) ≡ map g (cons_option x xs)
cons-map g None xs = refl
cons-map g (Some x) xs = refl

names-in_order : (f : Frame) (s ns : List ℕ) → AllIn s ns
    → filter_map (named_channel (ordered f s)) (map (number_in s) ns)
    ≡ map (renumbered_channel s) (filter_map (named_channel f) ns)
names-in_order f s [] all = refl
names-in_order f s (n ∷ ns) all =
    (λ i. cons_option (named-in_order f s n all.0 i) (names-in_order f s ns all.1 i))
    ∙ cons-map (renumbered_channel s) (named_channel f n) (filter_map (named_channel f) ns)

pub are-renumbered : (f : Frame) (s : List ℕ) → IsBreadthOrder (frame_graph f).graph s → IsLinked f → HasOneHeader f
    → AreRenumbered f s
are-renumbered f s o linked one = record {
  header_is = header-in_order f s one;
  channels_are = channels-in_order f s o linked one;
  names_are = λ kind. ap (filter_map (named_channel (ordered f s))) (channels-in_order f s o linked one kind)
      ∙ names-in_order f s (channels f kind) (channels-in f s o one kind);
  in_order = λ kind. All-from_recursion (Contains s) (channels f kind)
      (all-contained s (channels f kind) (channels-in f s o one kind));
}
