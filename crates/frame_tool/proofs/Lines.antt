-- Lines that are appended one after another.
use Rattle.std.proofs.Common.{◌≡◌, ℕ, ◌+◌, ◌<◌, inl, inr, List, [], ◌∷◌, ◌++◌, length, take, IfSome, slice_get}
use Rattle.std.proofs.Common.{ap, sym, subst, ◌∙◌, arith}
use Rattle.std.specs.List.{flat_map}
use Rattle.std.proofs.lemmas.List.{take_more, flat_map_more}
use Rattle.std.proofs.lemmas.Option.{slice_get_cases}

-- the line of one more
pub flat_map-taken : {X : Type 0} (f : X → List ℕ) (xs : List X) (k : ℕ) (first old new : List ℕ) → k < length xs
    → old ≡ first ++ flat_map f (take k xs) → IfSome (slice_get xs k) (λ x. new ≡ old ++ f x)
    → new ≡ first ++ flat_map f (take (k + 1) xs)
flat_map-taken {X} f xs k first old new within before one =
    elim (slice_get_cases xs k).1 [
      | inl (x, below, is, same) ↦
          let last : new ≡ old ++ f x = subst (λ o. IfSome o (λ x. new ≡ old ++ f x)) is one in
          last ∙ ap (λ bytes. bytes ++ f x) before ∙ flat_map_more f first (take k xs) x
          ∙ ap (λ ys. first ++ flat_map f (take k xs ++ ys ∷ [])) (sym same)
          ∙ ap (λ ys. first ++ flat_map f ys) (sym (take_more xs k x within))
      | inr (past, none) ↦ absurd (omega arith)
    ]
