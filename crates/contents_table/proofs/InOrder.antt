-- The channels of one name, in the order of their frames.
use Rattle.std.proofs.Common.{◌≡◌, ℕ, zero, suc, ◌+◌, ◌<◌, ◌≤◌, ◌≢◌, ◌⊎◌, inl, inr, List, [], ◌∷◌, length}
use Rattle.std.proofs.Common.{get_or, Option}
use Rattle.std.proofs.Common.{refl, sym, ap, ◌∙◌, subst, arith}
use Rattle.std.specs.Option.{option_map_or}
use Rattle.std.specs.List.{position_or_len, slice_get}
use Rattle.std.proofs.lemmas.Bool.{eq-eqb, ne_eqb, cases_lt}
use Rattle.std.proofs.lemmas.List.{get_or_default}
use Rattle.std.proofs.lemmas.List.Folds.{find_at}
use Rattle.std.proofs.lemmas.List.Sums.{position_or_len_is}
use Rattle.std.proofs.lemmas.Option.{slice_get-get_or}
use Rattle.contents_table.specs.declared.names.Found.{Found}
use Rattle.contents_table.specs.Built.{AreInOrder, is_in, place_in}

-- each channel is of an earlier frame than those behind it
pub frames-increase : (frames : ℕ) (found : List Found) (i j : ℕ) (d : Found) → AreInOrder frames found →
    i < j → j < length found → (get_or found i d).frame < (get_or found j d).frame
frames-increase frames [] i j d ordered before within = absurd (omega arith)
frames-increase frames (f ∷ more) zero zero d ordered before within = absurd (omega arith)
frames-increase frames (f ∷ more) zero (suc j) d ordered before within = ordered.1 j d (omega arith)
frames-increase frames (f ∷ more) (suc i) zero d ordered before within = absurd (omega arith)
frames-increase frames (f ∷ more) (suc i) (suc j) d ordered before within =
    frames-increase frames more i j d ordered.2 (omega arith) (omega arith)

pub frames-below : (frames : ℕ) (found : List Found) (k : ℕ) (d : Found) → AreInOrder frames found →
    k < length found → (get_or found k d).frame < frames
frames-below frames [] k d ordered within = absurd (omega arith)
frames-below frames (f ∷ more) zero d ordered within = ordered.0
frames-below frames (f ∷ more) (suc k) d ordered within = frames-below frames more k d ordered.2 (omega arith)

-- what is read past the end makes no difference before it
same-frame : (found : List Found) (i : ℕ) (d e : Found) → i < length found →
    (get_or found i d).frame ≡ (get_or found i e).frame
same-frame found i d e within = ap (λ (f : Found). f.frame) (get_or_default found i d e within)

frame-at : (found : List Found) (i j : ℕ) (d : Found) → i ≡ j →
    (get_or found i d).frame ≡ (get_or found j d).frame
frame-at found i j d is = ap (λ k. (get_or found k d).frame) is

-- The channels before one place are of earlier frames than this one, and those from another on are not.
pub record IsAround (frame : ℕ) (found : List Found) (low high : ℕ) : Type 0 where
  pub ordered : low ≤ high
  pub within : high ≤ length found
  pub before : (k : ℕ) (d : Found) → k < low → (get_or found k d).frame < frame
  pub behind : (k : ℕ) (d : Found) → high ≤ k → k < length found → frame ≤ (get_or found k d).frame

-- a channel of an earlier frame is before the place sought
pub around-above : (frames frame : ℕ) (found : List Found) (low middle high : ℕ) (d : Found) →
    AreInOrder frames found → IsAround frame found low high → low ≤ middle → middle < high →
    (get_or found middle d).frame < frame → IsAround frame found (middle + 1) high
around-above frames frame found low middle high d ordered around from inside earlier = record {
  ordered = omega arith;
  within = around.within;
  before = λ k e below. by k e below (cases_lt k middle);
  behind = around.behind;
}
  where
    within : middle < length found
    within = omega (arith, around.within)

    by : (k : ℕ) (e : Found) → k < middle + 1 → (k < middle) ⊎ (middle ≤ k) → (get_or found k e).frame < frame
    by k e below (inl less) =
        let increase = frames-increase frames found k middle e ordered less within in
        omega (arith, increase, same-frame found middle d e within, earlier)
    by k e below (inr not) =
        let is : k ≡ middle = omega arith in
        omega (arith, frame-at found k middle e is, same-frame found middle d e within, earlier)

-- the place sought is not behind a channel of no earlier frame
pub around-below : (frames frame : ℕ) (found : List Found) (low middle high : ℕ) (d : Found) →
    AreInOrder frames found → IsAround frame found low high → low ≤ middle → middle < high →
    frame ≤ (get_or found middle d).frame → IsAround frame found low middle
around-below frames frame found low middle high d ordered around from inside later = record {
  ordered = from;
  within = omega (arith, around.within);
  before = around.before;
  behind = λ k e above to. by k e above to (cases_lt middle k);
}
  where
    by : (k : ℕ) (e : Found) → middle ≤ k → k < length found → (middle < k) ⊎ (k ≤ middle) →
        frame ≤ (get_or found k e).frame
    by k e above to (inl less) =
        let increase = frames-increase frames found middle k d ordered less to in
        omega (arith, increase, same-frame found k d e to, later)
    by k e above to (inr not) =
        let is : k ≡ middle = omega arith in
        omega (arith, frame-at found k middle e is, same-frame found middle d e (omega arith), later)

-- nothing is left between
pub around-met : (frame : ℕ) (found : List Found) (low high : ℕ) → IsAround frame found low high →
    high ≤ low →
    IsAround frame found low low
around-met frame found low high around met = record {
  ordered = omega arith;
  within = omega (arith, around.ordered, around.within);
  before = around.before;
  behind = λ k d from to. around.behind k d (omega arith) to;
}

-- the first channel that is not before this frame, where it is of this frame
first-in : (frame : ℕ) (found : List Found) (i : ℕ) (f : Found) → i < length found → f ≡ get_or found i f →
    ((k : ℕ) (d : Found) → k < i → (get_or found k d).frame < frame) → f.frame ≡ frame →
    place_in frame found ≡ f.at
first-in frame found i f within read before is =
    let first : position_or_len (is_in frame) found ≡ i =
    position_or_len_is (is_in frame) found i f (omega arith)
    (λ k below. let earlier = before k f below in
    ne_eqb (get_or found k f).frame frame (λ e. omega (arith, e, earlier)))
    (λ _. eq-eqb (get_or found i f).frame frame (sym (ap (λ (f : Found). f.frame) read) ∙ is)) in
    ap (λ (f : Option Found). option_map_or (λ (f : Found). f.at) f 0)
    (find_at (is_in frame) found ∙ ap (slice_get found) first ∙ slice_get-get_or found i f within)
    ∙ sym (ap (λ (f : Found). f.at) read)

-- the place in a frame, by a channel that is of this frame
pub place-likely : (frames frame : ℕ) (found : List Found) (i : ℕ) (f : Found) → AreInOrder frames found →
    i < length found → f ≡ get_or found i f → f.frame ≡ frame → place_in frame found ≡ f.at
place-likely frames frame found i f ordered within read is =
    first-in frame found i f within read
    (λ k d below.
    let increase = frames-increase frames found k i d ordered below within in
    omega (arith, increase, same-frame found i d f within, ap (λ (f : Found). f.frame) read, is))
    is

-- the place in a frame, by the channel that stands where one of this frame would be
pub place-sought : (frame : ℕ) (found : List Found) (i : ℕ) (f : Found) → IsAround frame found i i →
    i < length found → f ≡ get_or found i f → f.frame ≡ frame → place_in frame found ≡ f.at
place-sought frame found i f around within read is = first-in frame found i f within read around.before is

no-place : (frame : ℕ) (found : List Found) →
    ((k : ℕ) (d : Found) → k < length found → (get_or found k d).frame ≢ frame) → place_in frame found ≡ 0
no-place frame [] apart = refl
no-place frame (f ∷ more) apart =
    rw (ne_eqb f.frame frame (apart 0 f (omega arith)))
    (no-place frame more (λ k d within. apart (suc k) d (omega arith)))

-- there is none, where none or one of another frame stands there
pub place-none : (frames frame : ℕ) (found : List Found) (i : ℕ) → AreInOrder frames found →
    IsAround frame found i i → ((d : Found) → i < length found → (get_or found i d).frame ≢ frame) →
    place_in frame found ≡ 0
place-none frames frame found i ordered around other =
    no-place frame found (λ k d within e. by k d within e (cases_lt k i) (cases_lt i k))
  where
    by : (k : ℕ) (d : Found) → k < length found → (get_or found k d).frame ≡ frame →
        (k < i) ⊎ (i ≤ k) → (i < k) ⊎ (k ≤ i) → ⊥
    by k d within e (inl below) _ = omega (arith, around.before k d below, e)
    by k d within e (inr from) (inl above) =
        let increase = frames-increase frames found i k d ordered above within in
        let behind = around.behind i d (omega arith) (omega arith) in
        omega (arith, increase, behind, e)
    by k d within e (inr from) (inr to) =
        let is : k ≡ i = omega arith in
        other d (omega arith) (subst (λ (n : ℕ). (get_or found n d).frame ≡ frame) is e)
