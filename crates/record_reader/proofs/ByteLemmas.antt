-- Numbers of one byte each are the bytes.
use Rattle.std.proofs.Common.{◌≡◌, ℕ, suc, zero, ◌+◌, ◌*◌, ◌^◌, ◌<◌, ◌≤◌, ◌⊎◌, List, [], ◌∷◌, length, Ok, refl, sym, ap}
use Rattle.std.proofs.Common.{◌∙◌, inl, inr, arith}
use Rattle.std.proofs.lemmas.Bool.{cases_lt}
use Rattle.scalar_types.specs.declared.Order.{Order}
use Rattle.scalar_types.specs.declared.Order.TheVariants.{Big, Little}
use Rattle.scalar_types.specs.declared.Width.TheVariants.{One}
use Rattle.scalar_types.specs.Number.{number}
use Rattle.layout_plan.specs.Reading.{and_then, found_map, bytes_in, number_in, items_in}
use Rattle.layout_plan.proofs.ExactLemmas.{bytes_in-enough, bytes_in-few}
use Rattle.layout_plan.proofs.SpelledLemmas.{items_in-suc, items_in-zero}

number_in-first : (order : Order) (b : ℕ) (bs : List ℕ) → number_in order One (b ∷ bs) ≡ Ok (b, bs)
number_in-first Big b bs =
    let same : b * 256 ^ 0 + 0 ≡ b = omega arith in
    ap (found_map (number Big)) (bytes_in-enough 1 (b ∷ bs) (omega arith)) ∙ ap (λ n. Ok (n, bs)) same
number_in-first Little b bs =
    let same : b + 256 * 0 ≡ b = omega arith in
    ap (found_map (number Little)) (bytes_in-enough 1 (b ∷ bs) (omega arith)) ∙ ap (λ n. Ok (n, bs)) same

pub items-bytes : (order : Order) (n : ℕ) (bytes : List ℕ) → items_in (number_in order One) n bytes ≡ bytes_in n bytes
items-bytes order zero bytes = items_in-zero (number_in order One) 0 bytes refl
    ∙ sym (bytes_in-enough 0 bytes (omega arith))
items-bytes order (suc n) [] = items_in-suc (number_in order One) n (suc n) [] refl
    ∙ sym (bytes_in-few (suc n) [] (omega arith))
items-bytes order (suc n) (b ∷ bs) =
    items_in-suc (number_in order One) n (suc n) (b ∷ bs) refl
    ∙ ap (λ r. and_then r (λ (x : ℕ × List ℕ). found_map (λ xs. x.0 ∷ xs) (items_in (number_in order One) n x.1)))
    (number_in-first order b bs)
    ∙ ap (found_map (λ xs. b ∷ xs)) (items-bytes order n bs)
    ∙ more (cases_lt (length bs) n)
  where
    more : (length bs < n) ⊎ (n ≤ length bs) → found_map (λ xs. b ∷ xs) (bytes_in n bs) ≡ bytes_in (suc n) (b ∷ bs)
    more (inl few) = ap (found_map (λ xs. b ∷ xs)) (bytes_in-few n bs few)
        ∙ sym (bytes_in-few (suc n) (b ∷ bs) (omega arith))
    more (inr enough) = ap (found_map (λ xs. b ∷ xs)) (bytes_in-enough n bs enough)
        ∙ sym (bytes_in-enough (suc n) (b ∷ bs) (omega arith))
