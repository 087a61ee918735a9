-- The links of a cut, link by link.
use Rattle.std.proofs.Common.{◌≡◌, ℕ, ◌+◌, ◌<◌, Bool, true, false, cond, Option, Some, None, List, [], ◌∷◌, map, length}
use Rattle.std.proofs.Common.{sym, ap, ◌∙◌, subst, arith}
use Rattle.std.specs.List.{AllZip, enumerate_from}
use Rattle.std.proofs.lemmas.List.{get_or-map}
use Rattle.std.proofs.lemmas.List.FromFn.{length-enumerate_from, get_or-enumerate_from}
use Rattle.rooted_graph.specs.BreadthOrder.{has, number_of}
use Rattle.rooted_graph.specs.InOrder.{renumbered}
use Rattle.rooted_graph.proofs.Places.{number_has}
use Rattle.rooted_graph.proofs.Zips.{Both}
use Rattle.frame_content.specs.Frames.{Frame, no_row, row_at}
use Rattle.contents_table.specs.declared.kind.Kind.{Kind}
use Rattle.channel_extract.specs.Cuts.{is_number, kept_link, other_link, only_link, without_link, cut_row, cut}

-- ---- links that match

-- where one link is kept, it leads to matching records
zip-kept : (R : ℕ → ℕ → Type 0) (number : Option ℕ) (k j i : ℕ) (xs ys : List (Option ℕ)) → R k j
    → AllZip (Both R) xs ys
    → AllZip (Both R) (map (kept_link number k) (enumerate_from i xs)) (map (kept_link number j) (enumerate_from i ys))
zip-kept R number k j i [] [] r z = tt
zip-kept R number k j i [] (y ∷ ys) r z = absurd z
zip-kept R number k j i (x ∷ xs) [] r z = absurd z
zip-kept R number k j i (x ∷ xs) (y ∷ ys) r z = (by (is_number number i), zip-kept R number k j (i + 1) xs ys r z.1)
  where
    by : (b : Bool) → Both R (cond b (Some k) None) (cond b (Some j) None)
    by true = r
    by false = tt

pub zip-only : (R : ℕ → ℕ → Type 0) (number : Option ℕ) (k j : ℕ) (xs ys : List (Option ℕ)) → R k j
    → AllZip (Both R) xs ys → AllZip (Both R) (only_link number k xs) (only_link number j ys)
zip-only R number k j xs ys r z = zip-kept R number k j 0 xs ys r z

-- where one is null, the others match
zip-other : (R : ℕ → ℕ → Type 0) (number : Option ℕ) (i : ℕ) (xs ys : List (Option ℕ)) → AllZip (Both R) xs ys
    → AllZip (Both R) (map (other_link number) (enumerate_from i xs)) (map (other_link number) (enumerate_from i ys))
zip-other R number i [] [] z = tt
zip-other R number i [] (y ∷ ys) z = absurd z
zip-other R number i (x ∷ xs) [] z = absurd z
zip-other R number i (x ∷ xs) (y ∷ ys) z = (by (is_number number i), zip-other R number (i + 1) xs ys z.1)
  where
    by : (b : Bool) → Both R (cond b None x) (cond b None y)
    by true = tt
    by false = z.0

pub zip-without : (R : ℕ → ℕ → Type 0) (number : Option ℕ) (xs ys : List (Option ℕ)) → AllZip (Both R) xs ys
    → AllZip (Both R) (without_link number xs) (without_link number ys)
zip-without R number xs ys z = zip-other R number 0 xs ys z

-- links to records of an order match their numbers there
pub zip-renumbered : (s : List ℕ) (links : List (Option ℕ)) → AllZip (Both (λ n m. has s n ≡ true)) links links
    → AllZip (Both (λ n k. number_of s n ≡ Some k)) links (map (renumbered s) links)
zip-renumbered s [] all = tt
zip-renumbered s (None ∷ links) all = (tt, zip-renumbered s links all.1)
zip-renumbered s (Some n ∷ links) all = (numbered (number_has s n all.0), zip-renumbered s links all.1)
  where
    numbered : (k : ℕ) × (number_of s n ≡ Some k) → Both (λ n k. number_of s n ≡ Some k) (Some n) (number_of s n)
    numbered (k, number) = subst (Both (λ n k. number_of s n ≡ Some k) (Some n)) (sym number) number

-- ---- the rows of a cut

pub cut-row : (f : Frame) (kind : Kind) (k n : ℕ) → n < length f.rows
    → row_at (cut f kind k) n ≡ cut_row f kind k (n, row_at f n)
cut-row f kind k n less =
    get_or-map (cut_row f kind k) (enumerate_from 0 f.rows) n (0, no_row) no_row
    (subst (λ m. n < m) (sym (length-enumerate_from 0 f.rows)) less)
    ∙ ap (cut_row f kind k) (get_or-enumerate_from 0 f.rows n (0, no_row) less)
    ∙ ap (λ m. cut_row f kind k (m, row_at f n)) same
  where
    same : 0 + n ≡ n
    same = omega arith
