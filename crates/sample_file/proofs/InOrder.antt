-- The frames of the sample file stand in their order, so its bytes are the canonical file of its content.
use Rattle.std.proofs.Common.{ℕ, zero, suc, ◌<◌, List, [], ◌∷◌, map, take, refl, arith}
use Rattle.std.specs.Prelude.{Contains, slice_index}
use Rattle.std.specs.List.{AllZip}
use Rattle.rooted_graph.specs.Rooted.{Rooted}
use Rattle.rooted_graph.specs.BreadthOrder.{IsBreadthOrder, roots_and_targets}
use Rattle.rooted_graph.proofs.Places.{Contains_from_has}
use Rattle.canonical_file.specs.Contents.{IsCanonical}
use Rattle.canonical_file.specs.Ordered.{frame_graph, IsInOrder}
use Rattle.sample_file.specs.Sample.{sample_frame, sample_content, numbers_below}
use Rattle.sample_file.specs.Whole.{sample_frames, sample_bytes}

-- the records in turn
unfoldable pub sample_order : List ℕ
sample_order = 0 ∷ 1 ∷ 2 ∷ 3 ∷ 4 ∷ 5 ∷ 6 ∷ 7 ∷ []

-- what the links of the frame are, whatever its number
unfoldable pub sample_graph : Rooted
sample_graph = (frame_graph (sample_frame 0)).graph

-- the roots, and what the records before one lead to
abbrev led : ℕ → List ℕ
led k = roots_and_targets sample_graph (take k sample_order)

-- each record is led to by an earlier one
earlier : (k : ℕ) → k < 8 → Contains (led k) (slice_index sample_order k)
unfolding sample_frame sample_graph sample_order
earlier zero below = Contains_from_has (led 0) 0 refl
earlier (suc zero) below = Contains_from_has (led 1) 1 refl
earlier (suc (suc zero)) below = Contains_from_has (led 2) 2 refl
earlier (suc (suc (suc zero))) below = Contains_from_has (led 3) 3 refl
earlier (suc (suc (suc (suc zero)))) below = Contains_from_has (led 4) 4 refl
earlier (suc (suc (suc (suc (suc zero))))) below = Contains_from_has (led 5) 5 refl
earlier (suc (suc (suc (suc (suc (suc zero)))))) below = Contains_from_has (led 6) 6 refl
earlier (suc (suc (suc (suc (suc (suc (suc zero))))))) below = Contains_from_has (led 7) 7 refl
earlier (suc (suc (suc (suc (suc (suc (suc (suc k)))))))) below = absurd (omega arith)

-- The breadth-first order of such links.
pub sample-breadth : IsBreadthOrder sample_graph sample_order
unfolding sample_frame sample_graph sample_order
sample-breadth = record { first = refl; earlier = earlier }

pub sample-in_order : (k : ℕ) → IsInOrder (sample_frame k) (sample_frame k)
unfolding sample_frame sample_graph sample_order
sample-in_order k = record { order = sample_order; breadth = sample-breadth; is = refl }

-- so do all of a list
frames-in_order : (ks : List ℕ) → AllZip IsInOrder (map sample_frame ks) (map sample_frame ks)
frames-in_order [] = tt
frames-in_order (k ∷ ks) = (sample-in_order k, frames-in_order ks)

-- The bytes of the sample file are the canonical file of its content.
pub sample-canonical : (n : ℕ) → IsCanonical (sample_content n) (sample_bytes n)
unfolding sample_bytes sample_frames
sample-canonical n =
    record { ordered = sample_frames n; in_order = frames-in_order (numbers_below n); is = refl }
