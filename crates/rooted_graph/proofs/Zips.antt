-- Two lists related place by place, by `AllZip`, and what each of them has at a place.
use Rattle.std.proofs.Common.{◌≡◌, ℕ, zero, suc, Option, Some, None, List, [], ◌∷◌, ◌++◌, take, map, refl, ap₂}
use Rattle.std.specs.Prelude.{slice_get, ⊤}
use Rattle.std.specs.List.{AllZip, flat_map}

-- both are missing, or both are there and related
abbrev pub Both : {X Y : Type 0} → (X → Y → Type 0) → Option X → Option Y → Type 0
Both R None None = ⊤
Both R None (Some y) = ⊥
Both R (Some x) None = ⊥
Both R (Some x) (Some y) = R x y

module _ {X Y : Type 0} (R : X → Y → Type 0) where
  pub zip_from_places : (xs : List X) (ys : List Y) → ((k : ℕ) → Both R (slice_get xs k) (slice_get ys k))
      → AllZip R xs ys
  zip_from_places [] [] h = tt
  zip_from_places [] (y ∷ ys) h = absurd (h 0)
  zip_from_places (x ∷ xs) [] h = absurd (h 0)
  zip_from_places (x ∷ xs) (y ∷ ys) h = (h 0, zip_from_places xs ys (λ k. h (suc k)))

  pub places_from_zip : (xs : List X) (ys : List Y) → AllZip R xs ys → (k : ℕ)
      → Both R (slice_get xs k) (slice_get ys k)
  places_from_zip [] [] z k = tt
  places_from_zip [] (y ∷ ys) z k = absurd z
  places_from_zip (x ∷ xs) [] z k = absurd z
  places_from_zip (x ∷ xs) (y ∷ ys) z zero = z.0
  places_from_zip (x ∷ xs) (y ∷ ys) z (suc k) = places_from_zip xs ys z.1 k

  pub zip-append : (xs : List X) (ys : List Y) (us : List X) (vs : List Y) → AllZip R xs ys → AllZip R us vs
      → AllZip R (xs ++ us) (ys ++ vs)
  zip-append [] [] us vs z w = w
  zip-append [] (y ∷ ys) us vs z w = absurd z
  zip-append (x ∷ xs) [] us vs z w = absurd z
  zip-append (x ∷ xs) (y ∷ ys) us vs z w = (z.0, zip-append xs ys us vs z.1 w)

  pub zip-take : (k : ℕ) (xs : List X) (ys : List Y) → AllZip R xs ys → AllZip R (take k xs) (take k ys)
  zip-take zero xs ys z = tt
  zip-take (suc k) [] [] z = tt
  zip-take (suc k) [] (y ∷ ys) z = absurd z
  zip-take (suc k) (x ∷ xs) [] z = absurd z
  zip-take (suc k) (x ∷ xs) (y ∷ ys) z = (z.0, zip-take k xs ys z.1)

  -- related elements with one image each make equal lists
  pub map_zip : {Z : Type 0} (f : X → Z) (h : Y → Z) → ((x : X) (y : Y) → R x y → f x ≡ h y)
      → (xs : List X) (ys : List Y) → AllZip R xs ys → map f xs ≡ map h ys
  map_zip f h same [] [] z = refl
  map_zip f h same [] (y ∷ ys) z = absurd z
  map_zip f h same (x ∷ xs) [] z = absurd z
  map_zip f h same (x ∷ xs) (y ∷ ys) z = ap₂ (λ a as'. a ∷ as') (same x y z.0) (map_zip f h same xs ys z.1)

-- a list has one image under a relation that gives each element one
pub functional_zip : {X Y : Type 0} (R : X → Y → Type 0) → ((x : X) (y y' : Y) → R x y → R x y' → y ≡ y')
    → (xs : List X) (ys zs : List Y) → AllZip R xs ys → AllZip R xs zs → ys ≡ zs
functional_zip R one [] [] [] z w = refl
functional_zip R one [] [] (c ∷ cs) z w = absurd w
functional_zip R one [] (b ∷ bs) zs z w = absurd z
functional_zip R one (x ∷ xs) [] zs z w = absurd z
functional_zip R one (x ∷ xs) (b ∷ bs) [] z w = absurd w
functional_zip R one (x ∷ xs) (b ∷ bs) (c ∷ cs) z w =
    ap₂ (λ a as'. a ∷ as') (one x b c z.0 w.0) (functional_zip R one xs bs cs z.1 w.1)

-- related elements with related parts make related lists
pub zip-flat_map : {X Y A B : Type 0} (R : X → Y → Type 0) (Q : A → B → Type 0) (f : X → List A) (h : Y → List B)
    → ((x : X) (y : Y) → R x y → AllZip Q (f x) (h y)) → (xs : List X) (ys : List Y) → AllZip R xs ys
    → AllZip Q (flat_map f xs) (flat_map h ys)
zip-flat_map R Q f h parts [] [] z = tt
zip-flat_map R Q f h parts [] (y ∷ ys) z = absurd z
zip-flat_map R Q f h parts (x ∷ xs) [] z = absurd z
zip-flat_map R Q f h parts (x ∷ xs) (y ∷ ys) z =
    zip-append Q (f x) (h y) (flat_map f xs) (flat_map h ys) (parts x y z.0) (zip-flat_map R Q f h parts xs ys z.1)
