-- Frames of two files that can be written are the same or have a first difference, and that is one.
use Rattle.std.proofs.Common.{◌<◌, ℕ, zero, suc, ◌⊎◌, inl, inr, List, [], ◌∷◌, take, All, refl, arith}
use Rattle.std.specs.Prelude.{slice_get}
use Rattle.std.specs.List.{AllZip}
use Rattle.std.specs.Str.{bytes_eq}
use Rattle.std.proofs.lemmas.Bool.Decides.{Decides-like}
use Rattle.std.proofs.lemmas.List.Elements.{All-head, All-tail}
use Rattle.std.proofs.lemmas.Slice.Eq.{bytes_eq-Decides}
use Rattle.rooted_graph.proofs.Queues.{order_exists}
use Rattle.dictionary.specs.declared.entries.Entry.{Entry}
use Rattle.dictionary.specs.Dictionary.{IsDictionary}
use Rattle.frame_content.specs.Frames.{Frame}
use Rattle.canonical_file.specs.Contents.{Differ}
use Rattle.canonical_file.specs.Ordered.{frame_graph, SameFrame, ordered}
use Rattle.canonical_file.specs.Written.{header_alone, frame_part}
use Rattle.canonical_laws.specs.Sources.{IsWritableInOrder}
use Rattle.canonical_laws.proofs.EqualParts.{parts_tell}
use Rattle.content_compare.proofs.SameClosings.{told}

-- ---- one first difference

-- Frames that are the same differ nowhere.
pub same-nowhere : (fs gs : List Frame) (k : ℕ) → AllZip SameFrame fs gs → Differ (slice_get fs k) (slice_get gs k) → ⊥
same-nowhere [] [] k same differ = absurd differ
same-nowhere [] (g ∷ gs) k same differ = absurd same
same-nowhere (f ∷ fs) [] k same differ = absurd same
same-nowhere (f ∷ fs) (g ∷ gs) zero same differ = differ same.0
same-nowhere (f ∷ fs) (g ∷ gs) (suc k) same differ = same-nowhere fs gs k same.1 differ

-- Nor do they among the first that are the same.
pub same-before : (fs gs : List Frame) (k n : ℕ) → k < n → AllZip SameFrame (take n fs) (take n gs)
    → Differ (slice_get fs k) (slice_get gs k) → ⊥
same-before fs gs k zero before same differ = absurd (omega (arith, before))
same-before [] [] k (suc n) before same differ = absurd differ
same-before [] (g ∷ gs) k (suc n) before same differ = absurd same
same-before (f ∷ fs) [] k (suc n) before same differ = absurd same
same-before (f ∷ fs) (g ∷ gs) zero (suc n) before same differ = differ same.0
same-before (f ∷ fs) (g ∷ gs) (suc k) (suc n) before same differ =
    same-before fs gs k n (omega (arith, before)) same.1 differ

-- ---- the same, or a first difference

-- frames that can be written are the same or not
frames-decided : (dictionary other : List Entry) (f g : Frame) → IsDictionary dictionary → IsDictionary other
    → IsWritableInOrder dictionary f → IsWritableInOrder other g → SameFrame f g ⊎ (SameFrame f g → ⊥)
frames-decided dictionary other f g sound also_sound writable also_writable =
    let left = order_exists (frame_graph f).graph in
    let right = order_exists (frame_graph g).graph in
    let o : Frame = ordered f left.0 in
    let p : Frame = ordered g right.0 in
    let tells = parts_tell dictionary other f g o p sound also_sound
    (record { order = left.0; breadth = left.1; is = refl }) (record { order = right.0; breadth = right.1; is = refl })
    writable also_writable in
    told (bytes_eq (frame_part header_alone o) (frame_part header_alone p))
    (Decides-like (bytes_eq (frame_part header_alone o) (frame_part header_alone p)) tells.0 tells.1
    (bytes_eq-Decides (frame_part header_alone o) (frame_part header_alone p)))

-- the first of them differ here
abbrev pub DifferFirst : List Frame → List Frame → Type 0
DifferFirst fs gs =
    (k : ℕ) × AllZip SameFrame (take k fs) (take k gs) × Differ (slice_get fs k) (slice_get gs k)

-- Frames that can be written are the same, or differ first somewhere.
pub frames-compared : (dictionary other : List Entry) (fs gs : List Frame) → IsDictionary dictionary
    → IsDictionary other → All (IsWritableInOrder dictionary) fs → All (IsWritableInOrder other) gs
    → AllZip SameFrame fs gs ⊎ DifferFirst fs gs
frames-compared dictionary other [] [] sound also_sound all also = inl tt
frames-compared dictionary other [] (g ∷ gs) sound also_sound all also = inr (0, tt, tt)
frames-compared dictionary other (f ∷ fs) [] sound also_sound all also = inr (0, tt, tt)
frames-compared dictionary other (f ∷ fs) (g ∷ gs) sound also_sound all also =
    by (frames-decided dictionary other f g sound also_sound (All-head (IsWritableInOrder dictionary) f fs all)
    (All-head (IsWritableInOrder other) g gs also))
    (frames-compared dictionary other fs gs sound also_sound (All-tail (IsWritableInOrder dictionary) f fs all)
    (All-tail (IsWritableInOrder other) g gs also))
  where
    by : SameFrame f g ⊎ (SameFrame f g → ⊥) → AllZip SameFrame fs gs ⊎ DifferFirst fs gs
        → AllZip SameFrame (f ∷ fs) (g ∷ gs) ⊎ DifferFirst (f ∷ fs) (g ∷ gs)
    by (inr differ) rest = inr (0, tt, differ)
    by (inl same) (inl rest) = inl (same, rest)
    by (inl same) (inr (k, before, differ)) = inr (suc k, (same, before), differ)
