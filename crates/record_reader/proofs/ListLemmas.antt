-- Items taken one after another.
use Rattle.std.proofs.Common.{◌≡◌, ℕ, ◌+◌, ◌-◌, ◌<◌, ◌≤◌, List, [], ◌∷◌, ◌++◌, Result, Ok, Err, refl, sym, subst, ap}
use Rattle.std.proofs.Common.{◌∙◌, arith, append-nil}
use Rattle.layout_plan.specs.declared.faults.BodyReason.{BodyReason}
use Rattle.layout_plan.specs.Reading.{Found, and_then, found_map, items_in}
use Rattle.std.specs.Result.{IsErrAnd}
use Rattle.record_reader.specs.declared.cursor.Stop.{Stop}
use Rattle.record_reader.specs.declared.cursor.Stop.TheVariants.{At, NoMemory}
use Rattle.record_reader.specs.Takes.{TakesOrStops}
use Rattle.layout_plan.proofs.SpelledLemmas.{found_map-more, items_in-suc, items_in-zero}

-- what stops for a reason has it
pub TakesOrStops-at : {X : Type 0} (found : Found X) (r : Result X Stop) (rest : List ℕ) (reason : BodyReason)
    → IsErrAnd r (λ stop. stop ≡ At reason) → found ≡ Err reason → TakesOrStops found r rest
TakesOrStops-at found (Ok _) rest reason is e = elim is [ ]
TakesOrStops-at {X} found (Err stop) rest reason is e = subst (λ s. TakesOrStops found (Err s) rest) (sym is) e

-- what stops for the reason of another has it
pub TakesOrStops-as : {X Y : Type 0} (found : Found X) (r : Result X Stop) (rest : List ℕ) (other : Found Y)
    (stop : Stop) (left : List ℕ) → IsErrAnd r (λ s. s ≡ stop) → TakesOrStops other (Err stop) left
    → ((reason : BodyReason) → other ≡ Err reason → found ≡ Err reason) → TakesOrStops found r rest
TakesOrStops-as found (Ok _) rest other stop left is takes same = elim is [ ]
TakesOrStops-as {X} {Y} found (Err s) rest other stop left is takes same =
    subst (λ t. TakesOrStops found (Err t) rest) (sym is) (by stop takes)
  where
    by : (stop : Stop) → TakesOrStops other (Err stop) left → TakesOrStops found (Err stop) rest
    by (At reason) e = same reason e
    by NoMemory e = e

-- of so many items, these were taken, and the others are read from the rest
unfoldable pub AreTaken : {X : Type 0} → (List ℕ → Found X) → ℕ → List ℕ → ℕ → List X → List ℕ → Type 0
AreTaken item count bytes done xs rest =
    items_in item count bytes ≡ found_map (λ ys. xs ++ ys) (items_in item (count - done) rest)

pub AreTaken-none : {X : Type 0} (item : List ℕ → Found X) (count : ℕ) (bytes : List ℕ)
    → AreTaken item count bytes 0 [] bytes
unfolding AreTaken
AreTaken-none item count bytes =
    same (items_in item count bytes) ∙ ap (λ k. found_map (λ ys. [] ++ ys) (items_in item k bytes)) (omega arith)
  where
    same : {X : Type 0} (r : Found (List X)) → r ≡ found_map (λ ys. [] ++ ys) r
    same (Ok x) = refl
    same (Err reason) = refl

-- one more item
pub AreTaken-more : {X : Type 0} (item : List ℕ
    → Found X) (count : ℕ) (bytes : List ℕ) (done : ℕ) (xs : List X) (rest : List ℕ) (x : X) (after : List ℕ)
    → AreTaken item count bytes done xs rest → done < count → item rest ≡ Ok (x, after)
    → AreTaken item count bytes (done + 1) (xs ++ x ∷ []) after
unfolding AreTaken
AreTaken-more {X} item count bytes done xs rest x after before lt e =
    before
    ∙ ap (found_map (λ ys. xs ++ ys)) (items_in-suc item (count - (done + 1)) (count - done) rest (omega arith)
    ∙ ap (λ r. and_then r (λ (y : X
    × List ℕ). found_map (λ ys. y.0 ∷ ys) (items_in item (count - (done + 1)) y.1))) e)
    ∙ found_map-more xs x (items_in item (count - (done + 1)) after)

-- an item that is not there
pub AreTaken-stops : {X : Type 0} (item : List ℕ
    → Found X) (count : ℕ) (bytes : List ℕ) (done : ℕ) (xs : List X) (rest : List ℕ) (reason : BodyReason)
    → AreTaken item count bytes done xs rest → done < count → item rest ≡ Err reason
    → items_in item count bytes ≡ Err reason
unfolding AreTaken
AreTaken-stops {X} item count bytes done xs rest reason before lt e =
    before
    ∙ ap (found_map (λ ys. xs ++ ys)) (items_in-suc item (count - (done + 1)) (count - done) rest (omega arith)
    ∙ ap (λ r. and_then r (λ (y : X
    × List ℕ). found_map (λ ys. y.0 ∷ ys) (items_in item (count - (done + 1)) y.1))) e)

-- all items
pub AreTaken-all : {X : Type 0} (item : List ℕ
    → Found X) (count : ℕ) (bytes : List ℕ) (done : ℕ) (xs : List X) (rest : List ℕ)
    → AreTaken item count bytes done xs rest → count ≤ done → items_in item count bytes ≡ Ok (xs, rest)
unfolding AreTaken
AreTaken-all item count bytes done xs rest before le =
    before
    ∙ ap (found_map (λ ys. xs ++ ys)) (items_in-zero item (count - done) rest (omega arith))
    ∙ ap (λ ys. Ok (ys, rest)) (append-nil xs)
