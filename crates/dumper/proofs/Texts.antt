-- Texts of the items of a list, one after another.
use Rattle.std.proofs.Common.{◌≡◌, ℕ, ◌+◌, ◌<◌, List, [], ◌∷◌, ◌++◌, length, get_or, take, drop, sym, ap, ◌∙◌}
use Rattle.std.proofs.Common.{append_assoc}
use Rattle.std.specs.List.{flat_map}
use Rattle.std.proofs.lemmas.Grind.{flat_map-append}
use Rattle.std.proofs.lemmas.List.{flat_map_more, take_more, take-append-drop}

-- the text of one item more
pub text-more : {X : Type 0} (f : X → List ℕ) (first : List ℕ) (xs : List X) (i : ℕ) (x : X) → i < length xs
    → x ≡ get_or xs i x → (first ++ flat_map f (take i xs)) ++ f x ≡ first ++ flat_map f (take (i + 1) xs)
text-more f first xs i x within at =
    flat_map_more f first (take i xs) x
    ∙ ap (λ ys. first ++ flat_map f ys) (ap (λ y. take i xs ++ y ∷ []) at ∙ sym (take_more xs i x within))

-- the text of one item, and of those after it
pub text-left : {X : Type 0} (f : X → List ℕ) (first : List ℕ) (xs : List X) (i : ℕ) (x : X) → i < length xs
    → x ≡ get_or xs i x
    → (first ++ flat_map f (take i xs)) ++ (f x ++ flat_map f (drop (i + 1) xs)) ≡ first ++ flat_map f xs
text-left f first xs i x within at =
    let rest : List ℕ = flat_map f (drop (i + 1) xs) in
    sym (append_assoc (first ++ flat_map f (take i xs)) (f x) rest)
    ∙ ap (λ text. text ++ rest) (text-more f first xs i x within at)
    ∙ append_assoc first (flat_map f (take (i + 1) xs)) rest
    ∙ ap (λ text. first ++ text)
    (sym (flat_map-append f (take (i + 1) xs) (drop (i + 1) xs)) ∙ ap (flat_map f) (take-append-drop (i + 1) xs))
