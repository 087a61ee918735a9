-- Walks to links in their tree, and one link more.
use Rattle.std.proofs.Common.{◌≡◌, ℕ, zero, suc, ◌+◌, ◌*◌, ◌/◌, ◌%◌}
use Rattle.std.proofs.Common.{◌<◌, ◌≤◌, ◌&&◌, ◌⊎◌, inl, inr, true, false}
use Rattle.std.proofs.Common.{cond, List, [], ◌∷◌, ◌++◌, length, get_or}
use Rattle.std.proofs.Common.{replicate, Option, Some, None, refl, sym, ap}
use Rattle.std.proofs.Common.{◌∙◌, arith}
use Rattle.std.specs.Prelude.{◌==◌, slice_get}
use Rattle.std.specs.Option.{option_or, option_map_or}
use Rattle.std.proofs.lemmas.Bool.{and_parts, eqb-true, eq-eqb, ne_eqb}
use Rattle.std.proofs.lemmas.List.{length_push}
use Rattle.std.proofs.lemmas.Option.{slice_get-get_or}
use Rattle.type_text.specs.declared.types.Link.{Link}
use Rattle.link_graph.specs.declared.index.Spot.TheVariants.{Taken, Free}
use Rattle.link_graph.specs.Index.{is_link, place_in, digits_of, is_at, child_at, walk, spot_of, IsForward}
use Rattle.link_graph.proofs.Positions.{position-push}

-- ---- links

pub same-link : (link other : Link) → is_link link other ≡ true → link ≡ other
same-link link other e =
    let parts = and_parts _ _ e in
    sym (λ i. record {
      class = eqb-true other.class link.class parts.1 i;
      instance = eqb-true other.instance link.instance parts.0 i;
    })

pub link-itself : (link : Link) → is_link link link ≡ true
link-itself link =
    λ i. eq-eqb link.instance link.instance refl i && eq-eqb link.class link.class refl i

get-old : {X : Type 0} (xs : List X) (y : X) (k : ℕ) → k < length xs →
    slice_get (xs ++ y ∷ []) k ≡ slice_get xs k
get-old [] y k lt = absurd (omega arith)
get-old (x ∷ xs) y zero lt = refl
get-old (x ∷ xs) y (suc k) lt = get-old xs y k (omega arith)

get-new : {X : Type 0} (xs : List X) (y : X) → slice_get (xs ++ y ∷ []) (length xs) ≡ Some y
get-new [] y = refl
get-new (x ∷ xs) y = get-new xs y

get-push : {X : Type 0} (xs : List X) (y : X) (k : ℕ) (x : X) → slice_get (xs ++ y ∷ []) k ≡ Some x →
    (slice_get xs k ≡ Some x) ⊎ ((k ≡ length xs) × (x ≡ y))
get-push [] y zero x e = inr (refl, cc)
get-push [] y (suc k) x e = absurd cc
get-push (z ∷ zs) y zero x e = inl e
get-push (z ∷ zs) y (suc k) x e =
    elim (get-push zs y k x e) [ inl found ↦ inl found | inr last ↦ inr (ap suc last.0, last.1) ]

pub at-old : (links : List Link) (to link : Link) (number : ℕ) → number < length links →
    is_at (links ++ to ∷ []) number link ≡ is_at links number link
at-old links to link number lt =
    ap (λ (found : Option Link). option_map_or (is_link link) found false) (get-old links to number lt)

pub at-new : (links : List Link) (to link : Link) → is_at (links ++ to ∷ []) (length links) link ≡
    is_link link to
at-new links to link =
    ap (λ (found : Option Link). option_map_or (is_link link) found false) (get-new links to)

pub at-number : (links : List Link) (link other : Link) (number : ℕ) → slice_get links number ≡ Some other →
    is_at links number link ≡ is_link link other
at-number links link other number at =
    ap (λ (found : Option Link). option_map_or (is_link link) found false) at

-- ---- one more link

pub place-push : (links : List Link) (to link : Link) → place_in (links ++ to ∷ []) link ≡
    option_or (place_in links link) (cond (is_link link to) (Some (length links)) None)
place-push links to link = position-push (is_link link) links to

pub distinct-push : (links : List Link) (to : Link) →
    ((k : ℕ) (link : Link) → slice_get links k ≡ Some link → place_in links link ≡ Some k) →
    place_in links to ≡ None → (k : ℕ) (link : Link) → slice_get (links ++ to ∷ []) k ≡ Some link →
    place_in (links ++ to ∷ []) link ≡ Some k
distinct-push links to distinct free k link at = place-push links to link ∙ by (get-push links to k link at)
  where
    by : (slice_get links k ≡ Some link) ⊎ ((k ≡ length links) × (link ≡ to)) →
        option_or (place_in links link) (cond (is_link link to) (Some (length links)) None) ≡ Some k
    by (inl old) = ap (λ found. option_or found (cond (is_link link to) (Some (length links)) None))
        (distinct k link old)
    by (inr last) =
        let none : place_in links link ≡ None = ap (place_in links) last.1 ∙ free in
        let is : is_link link to ≡ true = ap (λ (l : Link). is_link l to) last.1 ∙ link-itself to in
        let count : length links ≡ k = sym last.0 in
        (λ i. option_or (none i) (cond (is i) (Some (count i)) None))

pub replicate-blank : {X : Type 0} (n k : ℕ) (d : X) → get_or (replicate n d) k d ≡ d
replicate-blank zero k d = refl
replicate-blank (suc n) zero d = refl
replicate-blank (suc n) (suc k) d = replicate-blank n k d

-- past the end of a list stands what is put there
pub append-blank : {X : Type 0} (xs : List X) (n k : ℕ) (d : X) →
    get_or (xs ++ replicate n d) k d ≡ get_or xs k d
append-blank [] n k d = replicate-blank n k d
append-blank (x ∷ xs) n zero d = refl
append-blank (x ∷ xs) n (suc k) d = append-blank xs n k d

pub past-blank : (xs : List ℕ) (k : ℕ) → length xs ≤ k → get_or xs k 0 ≡ 0
past-blank [] k h = refl
past-blank (x ∷ xs) zero h = absurd (omega arith)
past-blank (x ∷ xs) (suc k) h = past-blank xs k (omega arith)

-- ---- on the way

-- the walk that stands at a number ends where that from the first link does
pub record IsOnWay (links : List Link) (children : List ℕ) (to : Link) (number digits : ℕ) : Type 0 where
  pub steps : ℕ
  pub within : number < length links
  pub enough : length links ≤ number + steps
  pub same : walk links children to steps number digits ≡ spot_of links children to

pub way-begins : (links : List Link) (children : List ℕ) (to : Link) → 0 < length links →
    IsOnWay links children to 0 (digits_of to)
way-begins links children to some = record {
  steps = length links;
  within = some;
  enough = omega arith;
  same = refl;
}

-- one more step of a walk
pub walk-taken : (links : List Link) (children : List ℕ) (to : Link) (steps number digits : ℕ) →
    is_at links number to ≡ true → walk links children to (suc steps) number digits ≡ Taken number
walk-taken links children to steps number digits is =
    ap (λ b. cond b (Taken number) (cond (child_at children (number * 16 + digits % 16) == 0)
    (Free (number * 16 + digits % 16))
    (walk links children to steps (child_at children (number * 16 + digits % 16)) (digits / 16)))) is

pub walk-on : (links : List Link) (children : List ℕ) (to : Link) (steps number digits : ℕ) →
    is_at links number to ≡ false → walk links children to (suc steps) number digits ≡
    cond (child_at children (number * 16 + digits % 16) == 0) (Free (number * 16 + digits % 16))
    (walk links children to steps (child_at children (number * 16 + digits % 16)) (digits / 16))
walk-on links children to steps number digits is =
    ap (λ b. cond b (Taken number) (cond (child_at children (number * 16 + digits % 16) == 0)
    (Free (number * 16 + digits % 16))
    (walk links children to steps (child_at children (number * 16 + digits % 16)) (digits / 16)))) is

pub way-taken : (links : List Link) (children : List ℕ) (to : Link) (number digits : ℕ) →
    IsOnWay links children to number digits → is_at links number to ≡ true →
    Taken number ≡ spot_of links children to
way-taken links children to number digits way is = by way.steps way.enough way.same
  where
    by : (steps : ℕ) → length links ≤ number + steps →
        walk links children to steps number digits ≡ spot_of links children to →
        Taken number ≡ spot_of links children to
    by zero enough same = absurd (omega (arith, enough, way.within))
    by (suc steps) enough same = sym (walk-taken links children to steps number digits is) ∙ same

pub way-free : (links : List Link) (children : List ℕ) (to : Link) (number digits : ℕ) →
    IsOnWay links children to number digits → is_at links number to ≡ false →
    child_at children (number * 16 + digits % 16) ≡ 0 →
    Free (number * 16 + digits % 16) ≡ spot_of links children to
way-free links children to number digits way is none = by way.steps way.enough way.same
  where
    by : (steps : ℕ) → length links ≤ number + steps →
        walk links children to steps number digits ≡ spot_of links children to →
        Free (number * 16 + digits % 16) ≡ spot_of links children to
    by zero enough same = absurd (omega (arith, enough, way.within))
    by (suc steps) enough same =
        ap (λ b. cond b (Free (number * 16 + digits % 16))
        (walk links children to steps (child_at children (number * 16 + digits % 16)) (digits / 16)))
        (sym (eq-eqb (child_at children (number * 16 + digits % 16)) 0 none))
        ∙ sym (walk-on links children to steps number digits is) ∙ same

-- what hangs there comes behind
pub child-forward : (children : List ℕ) (count number digits : ℕ) → IsForward count children →
    (child_at children (number * 16 + digits % 16) ≡ 0 → ⊥) →
    (number < child_at children (number * 16 + digits % 16))
    × (child_at children (number * 16 + digits % 16) < count)
child-forward children count number digits forward some = by (forward (number * 16 + digits % 16))
  where
    by : (child_at children (number * 16 + digits % 16) ≡ 0)
        ⊎ ((number * 16 + digits % 16 < child_at children (number * 16 + digits % 16) * 16)
        × (child_at children (number * 16 + digits % 16) < count)) →
        (number < child_at children (number * 16 + digits % 16))
        × (child_at children (number * 16 + digits % 16) < count)
    by (inl none) = absurd (some none)
    by (inr next) = (omega (arith, next.0), next.1)

pub way-on : (links : List Link) (children : List ℕ) (to : Link) (number digits : ℕ) →
    IsForward (length links) children →
    IsOnWay links children to number digits → is_at links number to ≡ false →
    (child_at children (number * 16 + digits % 16) ≡ 0 → ⊥) →
    IsOnWay links children to (child_at children (number * 16 + digits % 16)) (digits / 16)
way-on links children to number digits forward way is some = by way.steps way.enough way.same
  where
    by : (steps : ℕ) → length links ≤ number + steps →
        walk links children to steps number digits ≡ spot_of links children to →
        IsOnWay links children to (child_at children (number * 16 + digits % 16)) (digits / 16)
    by zero enough same = absurd (omega (arith, enough, way.within))
    by (suc steps) enough same =
        let next = child-forward children (length links) number digits forward some in
        record {
          steps = steps;
          within = next.1;
          enough = omega (arith, next.0, enough);
          same = ap (λ b. cond b (Free (number * 16 + digits % 16))
              (walk links children to steps (child_at children (number * 16 + digits % 16)) (digits / 16)))
              (sym (ne_eqb (child_at children (number * 16 + digits % 16)) 0 some))
              ∙ sym (walk-on links children to steps number digits is) ∙ same;
        }

pub at-place : (links : List Link) (link : Link) (number : ℕ) → number < length links →
    is_at links number link ≡ is_link link (get_or links number (record { class = 0; instance = 0 }))
at-place links link number within =
    at-number links link (get_or links number (record { class = 0; instance = 0 })) number
    (slice_get-get_or links number (record { class = 0; instance = 0 }) within)

pub length-suc : {X : Type 0} (xs : List X) (y : X) → length (xs ++ y ∷ []) ≡ suc (length xs)
length-suc xs y = omega (arith, length_push xs y)
