-- Structures that may stand, and what is read at the front of the bytes that begin with one.
use Rattle.std.proofs.Common.{◌≡◌, ℕ, ◌+◌, ◌≤◌, List, [], ◌∷◌, ◌++◌, length, take, drop, refl, sym, ap, subst, ◌∙◌}
use Rattle.std.proofs.Common.{arith, append-nil, take-append-drop, append_assoc, length-append, add-zero}
use Rattle.std.proofs.Math.Seq.{take-add}
use Rattle.std.proofs.lemmas.List.{take_at, drop_at, length-take-le}
use Rattle.std.proofs.lemmas.List.Folds.{concat-append}
use Rattle.std.specs.List.{concat}
use Rattle.scalar_types.specs.declared.Order.{Order}
use Rattle.frame_head.specs.Structure.{IsStructure, common_of}
use Rattle.frame_head.proofs.FirstBytes.{common_of-take}
use Rattle.frame_tool.specs.Walk.{MayStand, StandFrom}

-- 14 bytes or more say the same whatever follows them
pub common_of-append : (order : Order) (front others : List ℕ) → 14 ≤ length front
    → common_of order (front ++ others) ≡ common_of order front
common_of-append order front others enough =
    sym (common_of-take order (length front) (front ++ others) enough)
    ∙ ap (common_of order) (take_at front others (length front) refl)

-- bytes that begin with a structure tell its length
pub told-structure : (order : Order) (structure others : List ℕ) → IsStructure order structure
    → (common_of order (structure ++ others)).length ≡ length structure
told-structure order structure others whole =
    ap (λ common. common.length) (common_of-append order structure others whole.head) ∙ whole.whole

-- the front of bytes that is as long as they tell is a structure
pub structure-take : (order : Order) (bytes : List ℕ) (told : ℕ) → told ≡ (common_of order bytes).length → 14 ≤ told
    → told ≤ length bytes
    → IsStructure order (take told bytes)
structure-take order bytes told tells enough within =
    let long : length (take told bytes) ≡ told = length-take-le told bytes within in
    record {
      head = omega (arith, long);
      whole = ap (λ common. common.length) (common_of-take order told bytes enough) ∙ sym tells ∙ sym long;
    }

-- bytes begin with one structure at most
pub same_structure : (order : Order) (first second others rest : List ℕ) → IsStructure order first
    → IsStructure order second
    → first ++ others ≡ second ++ rest → (first ≡ second) × (others ≡ rest)
same_structure order first second others rest left right same =
    let long : length first ≡ length second =
    sym (told-structure order first others left)
    ∙ ap (λ bytes. (common_of order bytes).length) same
    ∙ told-structure order second rest right in (
      sym (take_at first others (length first) refl)
          ∙ ap (take (length first)) same
          ∙ take_at second rest (length first) (sym long),
      sym (drop_at first others (length first) refl)
          ∙ ap (drop (length first)) same
          ∙ drop_at second rest (length first) (sym long),
    )

-- one structure more at the end
pub concat-push : (structures : List (List ℕ)) (structure : List ℕ)
    → concat (structures ++ structure ∷ []) ≡ concat structures ++ structure
concat-push structures structure =
    concat-append structures (structure ∷ []) ∙ ap (λ last. concat structures ++ last) (append-nil structure)

-- the same with what follows them
pub concat-push-rest : (structures : List (List ℕ)) (structure rest : List ℕ)
    → concat (structures ++ structure ∷ []) ++ rest ≡ concat structures ++ (structure ++ rest)
concat-push-rest structures structure rest =
    ap (λ front. front ++ rest) (concat-push structures structure) ∙ append_assoc (concat structures) structure rest

pub length-concat-push : (structures : List (List ℕ)) (structure : List ℕ)
    → length (concat (structures ++ structure ∷ [])) ≡ length (concat structures) + length structure
length-concat-push structures structure =
    ap length (concat-push structures structure) ∙ length-append (concat structures) structure

-- where the front of a rest is structures, the rest is these and what is behind the front
pub rest-concat : (structures : List (List ℕ)) (rest : List ℕ) (size : ℕ) → take size rest ≡ concat structures
    → rest ≡ concat structures ++ drop size rest
rest-concat structures rest size parts =
    sym (take-append-drop size rest) ∙ ap (λ front. front ++ drop size rest) parts

-- they are as long as the front
pub length-concat-take : (structures : List (List ℕ)) (rest : List ℕ) (size : ℕ) → size ≤ length rest
    → take size rest ≡ concat structures → length (concat structures) ≡ size
length-concat-take structures rest size within parts =
    sym (ap length parts) ∙ length-take-le size rest within

-- the front with the bytes of one structure more
pub take-concat-push : (structures : List (List ℕ)) (rest : List ℕ) (size told : ℕ) → take size rest ≡ concat structures
    → take (size + told) rest ≡ concat (structures ++ take told (drop size rest) ∷ [])
take-concat-push structures rest size told parts =
    take-add size told rest
    ∙ ap (λ front. front ++ take told (drop size rest)) parts
    ∙ sym (concat-push structures (take told (drop size rest)))

-- structures that may stand, and behind them one more that may
pub StandFrom-push : (order : Order) (place : ℕ) (structures : List (List ℕ)) (structure : List ℕ)
    → StandFrom order place structures → MayStand order (place + length (concat structures)) structure
    → StandFrom order place (structures ++ structure ∷ [])
StandFrom-push order place [] structure stand last =
    let P : ℕ → Type 0 = λ at. MayStand order at structure in
    (subst P (add-zero place) last, tt)
StandFrom-push order place (first ∷ others) structure stand last =
    let P : ℕ → Type 0 = λ at. MayStand order at structure in
    let behind : place + length (first ++ concat others) ≡ place + length first + length (concat others) =
    omega (arith, length-append first (concat others)) in
    (stand.0, StandFrom-push order (place + length first) others structure stand.1 (subst P behind last))
