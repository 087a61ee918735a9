-- A header is read as a byte order exactly where it is a header in that order.
use Rattle.std.proofs.Common.{◌≡◌, ℕ, zero, suc, ◌↔◌, Bool, true, false, not, List, [], ◌∷◌, length, drop, slice_range}
use Rattle.std.proofs.Common.{Option, Some, None, Result, Ok, All, find, IsTrue, cond, refl, sym, ap, ◌∙◌, arith}
use Rattle.std.proofs.Common.{eqb-true, subst, lit<, ◌≤◌}
use Rattle.std.proofs.lemmas.Bool.{cond_both}
use Rattle.std.proofs.lemmas.List.{length-take-le, length-drop}
use Rattle.scalar_types.specs.declared.Order.{Order}
use Rattle.scalar_types.specs.declared.Order.TheVariants.{Big, Little}
use Rattle.scalar_types.specs.Number.{big_number, little_number}
use Rattle.frame_head.specs.declared.header.HeadFault.{HeadFault}
use Rattle.frame_head.specs.Header.{Part, Number, parts, is_right, order_of, answer_of, first_wrong, header_of}
use Rattle.frame_head.specs.Header.{IsHeader}

-- where each item passes, none fails first
find_none : {X : Type 0} (p : X → Bool) (xs : List X) → All (λ x. IsTrue (p x)) xs → find (λ x. not (p x)) xs ≡ None
find_none p [] passes = refl
find_none p (x ∷ xs) passes =
    let first : p x ≡ true = passes 0 x (omega arith) in
    let rest = find_none p xs (λ k d within. passes (suc k) d (omega arith)) in
    rw (first, rest) refl

-- where none fails first, the first one passes
first_passes : {X : Type 0} (b : Bool) (x : X) (rest : Option X) → cond (not b) (Some x) rest ≡ None → (b ≡ true)
    × (rest ≡ None)
first_passes true x rest none = (refl, none)
first_passes false x rest none = cc

-- where none fails first, each item passes
all_pass : {X : Type 0} (p : X → Bool) (xs : List X) → find (λ x. not (p x)) xs ≡ None → All (λ x. IsTrue (p x)) xs
all_pass p [] none k d within = absurd (omega arith)
all_pass p (x ∷ xs) none zero d within = (first_passes (p x) x (find (λ x. not (p x)) xs) none).0
all_pass p (x ∷ xs) none (suc k) d within =
    all_pass p xs (first_passes (p x) x (find (λ x. not (p x)) xs) none).1 k d (omega arith)

-- two bytes are 0x1234 in one order at most
one_order : (bytes : List ℕ) → length bytes ≡ 2 → big_number bytes ≡ 0x1234 → little_number bytes ≡ 0x1234 → ⊥
one_order [] two big little = omega arith
one_order (x ∷ []) two big little = omega arith
one_order (x ∷ y ∷ []) two big little = omega arith
one_order (x ∷ y ∷ z ∷ rest) two big little = omega arith

-- the byte order of a header is that in which its probe is right
order_of-right : (order : Order) (header : List ℕ) → length header ≡ 40
    → is_right order header (Number 12 2 0x1234) ≡ true → order_of header ≡ order
order_of-right Big header size right = rw right refl
order_of-right Little header size right =
    let left : 2 ≤ length (drop 12 header) = rw length-drop (omega arith) in
    let two : length (slice_range header 12 14) ≡ 2 = length-take-le 2 (drop 12 header) left in
    cond_both (is_right Big header (Number 12 2 0x1234)) Big Little (λ order. order ≡ Little)
    (λ big. absurd (one_order (slice_range header 12 14) two (eqb-true _ _ big) (eqb-true _ _ right)))
    (λ no. refl)

-- what an answer shows of what it was made from
answered : (known order : Order) (wrong : Option Part) → answer_of known wrong ≡ Ok order → (wrong ≡ None)
    × (known ≡ order)
answered known order None e = (refl, cc)
answered known order (Some part) e = cc

-- a header is read as a byte order exactly where it is a header in that order
pub accepted : (header : List ℕ) → length header ≡ 40 → (order : Order) → (header_of header ≡ Ok order)
    ↔ IsHeader order header
accepted header size order = (
  (λ e.
      let parted = answered (order_of header) order (first_wrong (order_of header) header) e in
      let P : Order → Type 0 = λ o. IsHeader o header in
      subst P parted.1 (all_pass (is_right (order_of header) header) parts parted.0)),
  (λ right.
      let same = order_of-right order header size (right 7 (Number 12 2 0x1234) (lit< tt)) in
      ap (λ (o : Order). answer_of o (first_wrong o header)) same
      ∙ ap (answer_of order) (find_none (is_right order header) parts right)),
)

-- the same of an answer that is what the header is read as
pub accepted_at : (header : List ℕ) → length header ≡ 40 → (answer : Result Order HeadFault) → answer ≡ header_of header
    → (order : Order) → (answer ≡ Ok order) ↔ IsHeader order header
accepted_at header size answer value order =
    let P : Result Order HeadFault → Type 0 = λ r. (r ≡ Ok order) ↔ IsHeader order header in
    subst P (sym value) (accepted header size order)
