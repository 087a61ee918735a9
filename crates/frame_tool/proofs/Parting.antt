-- A list of bytes is structures that may stand and a rest that is empty or has a fault, in one way.
use Rattle.std.proofs.Common.{◌≡◌, ℕ, zero, suc, ◌+◌, ◌<◌, ◌≤◌, ◌⊎◌, inl, inr, List, [], ◌∷◌, ◌++◌, length, take, drop}
use Rattle.std.proofs.Common.{refl, sym, ap, subst, ◌∙◌, arith, append_assoc, length-append, length-drop, add-zero}
use Rattle.std.proofs.Common.{take-append-drop}
use Rattle.std.proofs.lemmas.List.{length-take-le, nil_from_length}
use Rattle.std.specs.List.{concat}
use Rattle.scalar_types.specs.declared.Order.{Order}
use Rattle.frame_head.specs.Structure.{common_of}
use Rattle.file_grammar.specs.declared.reason.Reason.{Reason}
use Rattle.frame_tool.specs.Walk.{MayStand, StandFrom, IsFault}
use Rattle.frame_tool.proofs.Structures.{same_structure}
use Rattle.frame_tool.proofs.Faults.{Fits, judged, structure-unheld, fault_of_least, stands_of_fits}

-- nothing is left at a place, or what is left has a fault
abbrev pub IsEnd : Order → ℕ → List ℕ → Type 0
IsEnd order place rest = (rest ≡ []) ⊎ ((reason : Reason) × IsFault order place rest reason)

-- structures that may stand from a place on, and behind them an end
pub record IsEnded (order : Order) (place : ℕ) (structures : List (List ℕ)) (rest : List ℕ) : Type 0 where
  pub stand : StandFrom order place structures
  pub end : IsEnd order (place + length (concat structures)) rest

-- the end behind the first structure
ended-tail : (order : Order) (place : ℕ) (first : List ℕ) (others : List (List ℕ)) (rest : List ℕ)
    → IsEnded order place (first ∷ others) rest → IsEnded order (place + length first) others rest
ended-tail order place first others rest ended =
    let P : ℕ → Type 0 = λ at. IsEnd order at rest in
    let behind : place + length (first ++ concat others) ≡ place + length first + length (concat others) =
    omega (arith, length-append first (concat others)) in
    record { stand = ended.stand.1; end = subst P behind ended.end }

ended-cons : (order : Order) (place : ℕ) (first : List ℕ) (others : List (List ℕ)) (rest : List ℕ)
    → MayStand order place first → IsEnded order (place + length first) others rest
    → IsEnded order place (first ∷ others) rest
ended-cons order place first others rest may ended =
    let P : ℕ → Type 0 = λ at. IsEnd order at rest in
    let behind : place + length first + length (concat others) ≡ place + length (first ++ concat others) =
    omega (arith, length-append first (concat others)) in
    record { stand = (may, ended.stand); end = subst P behind ended.end }

-- what ends begins with no structure that may stand
no_end : (order : Order) (place : ℕ) (structure others : List ℕ) → MayStand order place structure
    → IsEnd order place (structure ++ others) → ⊥
no_end order place structure others may (inl none) =
    let head : 14 ≤ length structure = may.whole.head in
    omega (arith, length-append structure others, ap length none)
no_end order place structure others may (inr (reason, fault)) =
    structure-unheld order place structure others reason may fault.holds

-- the same behind no structures
no_end_here : (order : Order) (place : ℕ) (rest structure others : List ℕ) → MayStand order place structure
    → rest ≡ structure ++ others → IsEnded order place [] rest → ⊥
no_end_here order place rest structure others may same ended =
    let P : List ℕ → Type 0 = λ bytes. IsEnd order (place + 0) bytes in
    let Q : ℕ → Type 0 = λ at. IsEnd order at (structure ++ others) in
    no_end order place structure others may (subst Q (add-zero place) (subst P same ended.end))

-- two ways to part the same bytes are one
pub same_parts : (order : Order) (place : ℕ) (first second : List (List ℕ)) (rest other : List ℕ)
    → concat first ++ rest ≡ concat second ++ other
    → IsEnded order place first rest → IsEnded order place second other → (first ≡ second) × (rest ≡ other)
same_parts order place [] [] rest other same left right = (refl, same)
same_parts order place [] (structure ∷ others) rest other same left right =
    absurd (no_end_here order place rest structure (concat others ++ other) right.stand.0
    (same ∙ append_assoc structure (concat others) other) left)
same_parts order place (structure ∷ others) [] rest other same left right =
    absurd (no_end_here order place other structure (concat others ++ rest) left.stand.0
    (sym same ∙ append_assoc structure (concat others) rest) right)
same_parts order place (structure ∷ others) (one ∷ more) rest other same left right =
    let heads : (structure ≡ one) × (concat others ++ rest ≡ concat more ++ other) =
    same_structure order structure one (concat others ++ rest) (concat more ++ other)
    left.stand.0.whole right.stand.0.whole
    (sym (append_assoc structure (concat others) rest) ∙ same ∙ append_assoc one (concat more) other) in
    let P : List ℕ → Type 0 = λ front. IsEnded order (place + length front) more other in
    let tails : (others ≡ more) × (rest ≡ other) =
    same_parts order (place + length structure) others more rest other heads.1
    (ended-tail order place structure others rest left)
    (subst P (sym heads.0) (ended-tail order place one more other right)) in
    (cc, tails.1)

-- what may stand at the front comes no farther than an end does
pub no_farther : (order : Order) (place : ℕ) (fronts structures : List (List ℕ)) (rest other : List ℕ)
    → concat fronts ++ rest ≡ concat structures ++ other → StandFrom order place fronts
    → IsEnded order place structures other → length (concat fronts) ≤ length (concat structures)
no_farther order place [] structures rest other same stand ended = omega arith
no_farther order place (front ∷ fronts) [] rest other same stand ended =
    absurd (no_end_here order place other front (concat fronts ++ rest) stand.0
    (sym same ∙ append_assoc front (concat fronts) rest) ended)
no_farther order place (front ∷ fronts) (one ∷ more) rest other same stand ended =
    let heads : (front ≡ one) × (concat fronts ++ rest ≡ concat more ++ other) =
    same_structure order front one (concat fronts ++ rest) (concat more ++ other)
    stand.0.whole ended.stand.0.whole
    (sym (append_assoc front (concat fronts) rest) ∙ same ∙ append_assoc one (concat more) other) in
    let P : List ℕ → Type 0 = λ first. IsEnded order (place + length first) more other in
    let tails : length (concat fronts) ≤ length (concat more) =
    no_farther order (place + length front) fronts more rest other heads.1 stand.1
    (subst P (sym heads.0) (ended-tail order place one more other ended)) in
    let long : length front ≡ length one = ap length heads.0 in
    omega (arith, tails, long, length-append front (concat fronts), length-append one (concat more))

-- bytes parted at their end
pub record Parted (order : Order) (place : ℕ) (bytes : List ℕ) : Type 0 where
  pub structures : List (List ℕ)
  pub rest : List ℕ
  pub parts : bytes ≡ concat structures ++ rest
  pub ended : IsEnded order place structures rest

-- bytes that end at once
parted_here : (order : Order) (place : ℕ) (bytes : List ℕ) → IsEnd order place bytes → Parted order place bytes
parted_here order place bytes end =
    let P : ℕ → Type 0 = λ at. IsEnd order at bytes in
    record {
      structures = [];
      rest = bytes;
      parts = refl;
      ended = record { stand = tt; end = subst P (sym (add-zero place)) end };
    }

-- bytes behind a structure that may stand, parted
parted_behind : (order : Order) (place : ℕ) (bytes : List ℕ) (told : ℕ) → told ≡ (common_of order bytes).length
    → Fits place (length bytes) told → Parted order (place + told) (drop told bytes) → Parted order place bytes
parted_behind order place bytes told tells fits tail =
    let long : told ≡ length (take told bytes) = sym (length-take-le told bytes fits.whole) in
    let P : ℕ → Type 0 = λ size. IsEnded order (place + size) tail.structures tail.rest in
    record {
      structures = take told bytes ∷ tail.structures;
      rest = tail.rest;
      parts = sym (take-append-drop told bytes)
          ∙ ap (λ behind. take told bytes ++ behind) tail.parts
          ∙ sym (append_assoc (take told bytes) (concat tail.structures) tail.rest);
      ended = ended-cons order place (take told bytes) tail.structures tail.rest
          (stands_of_fits order place bytes told tells fits)
          (subst P long tail.ended);
    }

-- bytes are parted where all that are fewer are
parted_step : (order : Order) (place : ℕ) (bytes : List ℕ) (told : ℕ) → told ≡ (common_of order bytes).length
    → 0 < length bytes
    → ((behind : ℕ) (tail : List ℕ) → length tail < length bytes → Parted order behind tail) → Parted order place bytes
parted_step order place bytes told tells some fewer =
    elim (judged place (length bytes) told some) [
      | inl fits ↦ parted_behind order place bytes told tells fits
          (fewer (place + told) (drop told bytes) (omega (arith, fits.head, fits.whole, length-drop told bytes)))
      | inr (reason, least) ↦ parted_here order place bytes
          (inr (reason, fault_of_least order place bytes told reason tells least))
    ]

-- any bytes are parted
pub parted : (bound : ℕ) (order : Order) (place : ℕ) (bytes : List ℕ) → length bytes ≤ bound → Parted order place bytes
parted zero order place bytes short = parted_here order place bytes (inl (nil_from_length bytes (omega arith)))
parted (suc bound) order place [] short = parted_here order place [] (inl refl)
parted (suc bound) order place (byte ∷ others) short =
    parted_step order place (byte ∷ others) (common_of order (byte ∷ others)).length refl (omega arith)
    (λ behind tail less. parted bound order behind tail (omega arith))
