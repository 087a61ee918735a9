-- Where the plain links of a frame in its order lead: to the numbers of the records to which those of the frame lead.
use Rattle.std.proofs.Common.{◌≡◌, ℕ, Bool, true, false, cond, Option, Some, None, IfSome, List}
use Rattle.std.proofs.Common.{refl, sym, ap, ◌∙◌}
use Rattle.std.specs.Prelude.{slice_get, option_and_then}
use Rattle.std.specs.Option.{option_map}
use Rattle.std.specs.Str.{bytes_eq}
use Rattle.std.proofs.lemmas.List.{get_or-map}
use Rattle.std.proofs.lemmas.Option.{slice_get-map}
use Rattle.rooted_graph.specs.BreadthOrder.{has, number_of, IsBreadthOrder}
use Rattle.rooted_graph.specs.InOrder.{renumbered}
use Rattle.rooted_graph.proofs.Places.{number_has, number_at}
use Rattle.rooted_graph.proofs.Reached.{has_linked}
use Rattle.frame_content.specs.Labels.{Label}
use Rattle.frame_content.specs.Frames.{Row, Frame, row_at, label_at, no_row}
use Rattle.contents_table.specs.Channels.{link_number, end_of_link, if_named, target, head_field, head, next_field}
use Rattle.contents_table.specs.Channels.{next_channel}
use Rattle.canonical_file.specs.Ordered.{frame_graph, row_in, ordered}
use Rattle.canonical_file.proofs.Graphs.{links_of-row}

-- each record that is found is in the order
abbrev pub AreIn : List ℕ → Option ℕ → Type 0
AreIn s found = IfSome found (λ n. has s n ≡ true)

-- the row of a number in the order
pub row-in_order : (f : Frame) (s : List ℕ) (n k : ℕ) → number_of s n ≡ Some k → row_at (ordered f s) k ≡ row_in f s n
row-in_order f s n k number =
    let here = number_at s n k number in
    get_or-map (row_in f s) s k 0 no_row here.0 ∙ ap (row_in f s) here.1

pub label-in_order : (f : Frame) (s : List ℕ) (n k : ℕ) → number_of s n ≡ Some k
    → label_at (ordered f s) k ≡ label_at f n
label-in_order f s n k number = ap (λ (r : Row). r.label) (row-in_order f s n k number)

-- ---- the end of a link

abbrev joined : Option (Option ℕ) → Option ℕ
joined link = option_and_then (λ to. to) link

end-in_order : (f : Frame) (s : List ℕ) (n k field : ℕ) → number_of s n ≡ Some k
    → end_of_link (ordered f s) k field ≡ renumbered s (end_of_link f n field)
end-in_order f s n k field number =
    let links = (row_at f n).links in
    let j = link_number (label_at f n) field in
    ap (λ (r : Row). joined (slice_get r.links (link_number r.label field))) (row-in_order f s n k number)
    ∙ ap joined (slice_get-map (renumbered s) links j)
    ∙ by (slice_get links j)
  where
    by : (link : Option (Option ℕ)) → joined (option_map (renumbered s) link) ≡ renumbered s (joined link)
    by None = refl
    by (Some None) = refl
    by (Some (Some m)) = refl

end-in : (f : Frame) (s : List ℕ) → IsBreadthOrder (frame_graph f).graph s → (n field : ℕ) → has s n ≡ true
    → AreIn s (end_of_link f n field)
end-in f s o n field there =
    by (slice_get (row_at f n).links (link_number (label_at f n) field)) refl
  where
    by : (link : Option (Option ℕ)) → slice_get (row_at f n).links (link_number (label_at f n) field) ≡ link
        → AreIn s (joined link)
    by None is = tt
    by (Some None) is = tt
    by (Some (Some m)) is =
        has_linked (frame_graph f).graph s o n (link_number (label_at f n) field) m there
        (ap (λ links. slice_get links (link_number (label_at f n) field)) (links_of-row f n) ∙ is)

-- ---- the record of a structure at its end

named-in_order : (f : Frame) (s : List ℕ) (name : List ℕ) (found : Option ℕ) → AreIn s found
    → option_and_then (if_named (ordered f s) name) (renumbered s found)
    ≡ renumbered s (option_and_then (if_named f name) found)
named-in_order f s name None there = refl
named-in_order f s name (Some m) there = numbered (number_has s m there)
  where
    by : (q : ℕ) → number_of s m ≡ Some q → (b : Bool)
        → cond b (Some q) None ≡ renumbered s (cond b (Some m) None)
    by q number true = sym number
    by q number false = refl

    numbered : (q : ℕ) × (number_of s m ≡ Some q) → option_and_then (if_named (ordered f s) name) (number_of s m)
        ≡ renumbered s (if_named f name m)
    numbered (q, number) =
        ap (option_and_then (if_named (ordered f s) name)) number
        ∙ ap (λ (l : Label). cond (bytes_eq name l.entry.name) (Some q) None) (label-in_order f s m q number)
        ∙ by q number (bytes_eq name (label_at f m).entry.name)

named-in : (f : Frame) (s : List ℕ) (name : List ℕ) (found : Option ℕ) → AreIn s found
    → AreIn s (option_and_then (if_named f name) found)
named-in f s name None there = tt
named-in f s name (Some m) there = by (bytes_eq name (label_at f m).entry.name)
  where
    by : (b : Bool) → AreIn s (cond b (Some m) None)
    by true = there
    by false = tt

target-in_order : (f : Frame) (s : List ℕ) → IsBreadthOrder (frame_graph f).graph s → (name : List ℕ) (n k : ℕ)
    (field : Option ℕ) → has s n ≡ true → number_of s n ≡ Some k
    → target (ordered f s) name k field ≡ renumbered s (target f name n field)
target-in_order f s o name n k None there number = refl
target-in_order f s o name n k (Some field) there number =
    ap (option_and_then (if_named (ordered f s) name)) (end-in_order f s n k field number)
    ∙ named-in_order f s name (end_of_link f n field) (end-in f s o n field there)

target-in : (f : Frame) (s : List ℕ) → IsBreadthOrder (frame_graph f).graph s → (name : List ℕ) (n : ℕ)
    (field : Option ℕ) → has s n ≡ true → AreIn s (target f name n field)
target-in f s o name n None there = tt
target-in f s o name n (Some field) there =
    named-in f s name (end_of_link f n field) (end-in f s o n field there)

-- ---- heads, and the next channel

-- the head of a list under a record that is found
pub head-in_order : (f : Frame) (s : List ℕ) → IsBreadthOrder (frame_graph f).graph s → (name : List ℕ)
    (found : Option ℕ) → AreIn s found
    → option_and_then (head (ordered f s) name) (renumbered s found)
    ≡ renumbered s (option_and_then (head f name) found)
head-in_order f s o name None there = refl
head-in_order f s o name (Some n) there = numbered (number_has s n there)
  where
    numbered : (k : ℕ) × (number_of s n ≡ Some k)
        → option_and_then (head (ordered f s) name) (number_of s n) ≡ renumbered s (head f name n)
    numbered (k, number) =
        ap (option_and_then (head (ordered f s) name)) number
        ∙ ap (λ (l : Label). target (ordered f s) name k (head_field name l.entry.elements))
        (label-in_order f s n k number)
        ∙ target-in_order f s o name n k (head_field name (label_at f n).entry.elements) there number

pub head-in : (f : Frame) (s : List ℕ) → IsBreadthOrder (frame_graph f).graph s → (name : List ℕ) (found : Option ℕ)
    → AreIn s found → AreIn s (option_and_then (head f name) found)
head-in f s o name None there = tt
head-in f s o name (Some n) there = target-in f s o name n (head_field name (label_at f n).entry.elements) there

pub next-in_order : (f : Frame) (s : List ℕ) → IsBreadthOrder (frame_graph f).graph s → (name : List ℕ) (n k : ℕ)
    → has s n ≡ true → number_of s n ≡ Some k
    → next_channel (ordered f s) name k ≡ renumbered s (next_channel f name n)
next-in_order f s o name n k there number =
    ap (λ (l : Label). target (ordered f s) name k (next_field l.entry.elements)) (label-in_order f s n k number)
    ∙ target-in_order f s o name n k (next_field (label_at f n).entry.elements) there number

pub next-in : (f : Frame) (s : List ℕ) → IsBreadthOrder (frame_graph f).graph s → (name : List ℕ) (n : ℕ)
    → has s n ≡ true → AreIn s (next_channel f name n)
next-in f s o name n there = target-in f s o name n (next_field (label_at f n).entry.elements) there
