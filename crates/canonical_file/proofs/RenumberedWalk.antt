-- The walk over the channels of a frame in its order: it meets the records that the walk over the frame meets.
use Rattle.std.proofs.Common.{◌≡◌, ℕ, zero, suc, ◌+◌, ◌<◌, ◌≤◌, ◌⊎◌, inl, inr, Bool, true, false, ◌||◌, cond, Option}
use Rattle.std.proofs.Common.{Some, None, List, [], ◌∷◌, map, length, get_or, nat_eq, refl, sym, ap, ◌∙◌, arith}
use Rattle.std.specs.Prelude.{unwrap_or}
use Rattle.std.specs.Cmp.{nat_eq_equiv}
use Rattle.std.specs.List.{AllByRecursion, IsDistinct}
use Rattle.std.proofs.lemmas.Bool.{eqb-true, eq-eqb, ne_eqb, cases_eq, cases_Bool, or_cases, or_parts, cond-true}
use Rattle.std.proofs.lemmas.Bool.{cond-false, true≢false}
use Rattle.std.proofs.lemmas.Map.Made.{length-le_from_is_member}
use Rattle.rooted_graph.specs.BreadthOrder.{has, number_of, IsBreadthOrder}
use Rattle.rooted_graph.specs.InOrder.{renumbered}
use Rattle.rooted_graph.proofs.Places.{number_has, number_at}
use Rattle.frame_content.specs.Frames.{Frame}
use Rattle.contents_table.specs.Channels.{next_channel, channels_from}
use Rattle.canonical_file.specs.Ordered.{frame_graph, ordered}
use Rattle.canonical_file.specs.Renumbered.{number_in}
use Rattle.canonical_file.proofs.RenumberedLinks.{AreIn, next-in_order, next-in}

-- ---- steps of a walk

walk-none : (n : ℕ) (f : Frame) (name met : List ℕ) → channels_from n f name met None ≡ []
unfolding channels_from
walk-none zero f name met = refl
walk-none (suc n) f name met = refl

walk-met : (n : ℕ) (f : Frame) (name met : List ℕ) (k : ℕ) → has met k ≡ true → channels_from n f name met (Some k) ≡ []
unfolding channels_from
walk-met zero f name met k is = refl
walk-met (suc n) f name met k is = cond-true (has met k) _ _ is

walk-more : (n : ℕ) (f : Frame) (name met : List ℕ) (k : ℕ) → has met k ≡ false
    → channels_from (suc n) f name met (Some k) ≡ k ∷ channels_from n f name (k ∷ met) (next_channel f name k)
unfolding channels_from
walk-more n f name met k new = cond-false (has met k) _ _ new

walk-over : (f : Frame) (name met : List ℕ) (at : Option ℕ) → channels_from 0 f name met at ≡ []
unfolding channels_from
walk-over f name met at = refl

-- ---- records that were met

abbrev pub AllIn : List ℕ → List ℕ → Type 0
AllIn s xs = AllByRecursion (λ n. has s n ≡ true) xs

-- they are distinct, and each is in the order
pub record AreMet (s met : List ℕ) : Type 0 where
  pub distinct : IsDistinct nat_eq met
  pub within : AllIn s met

members-in : (s xs : List ℕ) → AllIn s xs → (q : ℕ) → has xs q ≡ true → has s q ≡ true
members-in s [] all q there = absurd (true≢false (sym there))
members-in s (x ∷ xs) all q there = by (or_cases (nat_eq q x) (has xs q) there) (members-in s xs all.1 q)
  where
    by : (nat_eq q x ≡ true) ⊎ (has xs q ≡ true) → (has xs q ≡ true → has s q ≡ true) → has s q ≡ true
    by (inl same) later = ap (has s) (eqb-true q x same) ∙ all.0
    by (inr behind) later = later behind

absent : (n : ℕ) (xs : List ℕ) → has xs n ≡ false → AllByRecursion (λ x. nat_eq n x ≡ false) xs
absent n [] new = tt
absent n (x ∷ xs) new = let parts = or_parts (nat_eq n x) (has xs n) new in (parts.0, absent n xs parts.1)

met-more : (s met : List ℕ) (n : ℕ) → AreMet s met → has s n ≡ true → has met n ≡ false → AreMet s (n ∷ met)
unfolding IsDistinct
met-more s met n are there new =
    record { distinct = (absent n met new, are.distinct); within = (there, are.within) }

-- while one is left there are fewer than the order has
met-short : (s met : List ℕ) (n : ℕ) → AreMet s met → has s n ≡ true → has met n ≡ false → length met < length s
met-short s met n are there new =
    let more = met-more s met n are there new in
    length-le_from_is_member nat_eq_equiv (n ∷ met) s more.distinct (members-in s (n ∷ met) more.within)

all-met : (s met : List ℕ) (n : ℕ) → AreMet s met → has s n ≡ true → length s ≤ length met → has met n ≡ true
all-met s met n are there long = by (cases_Bool (has met n))
  where
    by : (has met n ≡ true) ⊎ (has met n ≡ false) → has met n ≡ true
    by (inl is) = is
    by (inr new) = absurd (omega (arith, long, met-short s met n are there new))

-- ---- their numbers

-- the number of a record is its place
pub number-in : (s : List ℕ) (n k : ℕ) → number_of s n ≡ Some k → number_in s n ≡ k
number-in s n k number = ap (λ o. unwrap_or o 0) number

-- two records have one number only if they are one
same-number : (s : List ℕ) (n m k q : ℕ) → number_of s n ≡ Some k → number_of s m ≡ Some q → nat_eq k q ≡ nat_eq n m
same-number s n m k q number other = by (cases_eq n m)
  where
    by : (n ≡ m) ⊎ (n ≡ m → ⊥) → nat_eq k q ≡ nat_eq n m
    by (inl same) =
        let one : k ≡ q = sym (number-in s n k number) ∙ ap (number_in s) same ∙ number-in s m q other in
        eq-eqb k q one ∙ sym (eq-eqb n m same)
    by (inr apart) =
        let two : k ≡ q → ⊥ =
        λ one. apart (sym (number_at s n k number).1 ∙ ap (λ k. get_or s k 0) one ∙ (number_at s m q other).1) in
        ne_eqb k q two ∙ sym (ne_eqb n m apart)

has-numbers : (s met : List ℕ) (n k : ℕ) → AllIn s met → number_of s n ≡ Some k
    → has (map (number_in s) met) k ≡ has met n
has-numbers s [] n k all number = refl
has-numbers s (m ∷ met) n k all number =
    let found = number_has s m all.0 in
    λ i. (ap (nat_eq k) (number-in s m found.0 found.1) ∙ same-number s n m k found.0 number found.1) i
    || has-numbers s met n k all.1 number i

-- ---- the walk

module _ (f : Frame) (s : List ℕ) (o : IsBreadthOrder (frame_graph f).graph s) where
  -- a walk in the order goes on as the walk in the frame, where both may go far enough
  pub walk-in_order : (a b : ℕ) (name met : List ℕ) (at : Option ℕ) → AreIn s at → AreMet s met
      → length s ≤ a + length met → length s ≤ b + length met
      → channels_from b (ordered f s) name (map (number_in s) met) (renumbered s at)
      ≡ map (number_in s) (channels_from a f name met at)
  walk-in_order a b name met None there are far long =
      walk-none b (ordered f s) name (map (number_in s) met)
      ∙ ap (map (number_in s)) (sym (walk-none a f name met))
  walk-in_order zero b name met (Some n) there are far long =
      ended b name met n there are (all-met s met n are there (omega (arith, far)))
      ∙ ap (map (number_in s)) (sym (walk-over f name met (Some n)))
    where
      ended : (b : ℕ) (name met : List ℕ) (n : ℕ) → has s n ≡ true → AreMet s met → has met n ≡ true
          → channels_from b (ordered f s) name (map (number_in s) met) (number_of s n) ≡ []
      ended b name met n there are is =
          let found = number_has s n there in
          ap (channels_from b (ordered f s) name (map (number_in s) met)) found.1
          ∙ walk-met b (ordered f s) name (map (number_in s) met) found.0
          (has-numbers s met n found.0 are.within found.1 ∙ is)
  walk-in_order (suc a) zero name met (Some n) there are far long =
      walk-over (ordered f s) name (map (number_in s) met) (number_of s n)
      ∙ ap (map (number_in s))
      (sym (walk-met (suc a) f name met n (all-met s met n are there (omega (arith, long)))))
  walk-in_order (suc a) (suc b) name met (Some n) there are far long =
      by (number_has s n there) (cases_Bool (has met n)) (walk-in_order a b name (n ∷ met) (next_channel f name n))
    where
      by : (k : ℕ) × (number_of s n ≡ Some k) → (has met n ≡ true) ⊎ (has met n ≡ false)
          → (AreIn s (next_channel f name n) → AreMet s (n ∷ met) → length s ≤ a + length (n ∷ met)
          → length s ≤ b + length (n ∷ met)
          → channels_from b (ordered f s) name (map (number_in s) (n ∷ met)) (renumbered s (next_channel f name n))
          ≡ map (number_in s) (channels_from a f name (n ∷ met) (next_channel f name n)))
          → channels_from (suc b) (ordered f s) name (map (number_in s) met) (number_of s n)
          ≡ map (number_in s) (channels_from (suc a) f name met (Some n))
      by (k, number) (inl is) later =
          ap (channels_from (suc b) (ordered f s) name (map (number_in s) met)) number
          ∙ walk-met (suc b) (ordered f s) name (map (number_in s) met) k
          (has-numbers s met n k are.within number ∙ is)
          ∙ ap (map (number_in s)) (sym (walk-met (suc a) f name met n is))
      by (k, number) (inr new) later =
          ap (channels_from (suc b) (ordered f s) name (map (number_in s) met)) number
          ∙ walk-more b (ordered f s) name (map (number_in s) met) k
          (has-numbers s met n k are.within number ∙ new)
          ∙ (λ i. sym (number-in s n k number) i
          ∷ channels_from b (ordered f s) name (sym (number-in s n k number) i ∷ map (number_in s) met)
          (next-in_order f s o name n k there number i))
          ∙ ap (λ ks. number_in s n ∷ ks)
          (later (next-in f s o name n there) (met-more s met n are there new) (omega (arith, far))
          (omega (arith, long)))
          ∙ ap (map (number_in s)) (sym (walk-more a f name met n new))

  -- each record of a walk is in the order
  pub walk-in : (a : ℕ) (name met : List ℕ) (at : Option ℕ) → AreIn s at
      → AllByRecursion (λ n. has s n ≡ true) (channels_from a f name met at)
  unfolding channels_from
  walk-in zero name met at there = tt
  walk-in (suc a) name met None there = tt
  walk-in (suc a) name met (Some n) there =
      by (has met n) (there, walk-in a name (n ∷ met) (next_channel f name n) (next-in f s o name n there))
    where
      by : (b : Bool) → AllIn s (n ∷ channels_from a f name (n ∷ met) (next_channel f name n))
          → AllIn s (cond b [] (n ∷ channels_from a f name (n ∷ met) (next_channel f name n)))
      by true all = tt
      by false all = all

-- none is met at first
pub none-met : (s : List ℕ) → AreMet s []
unfolding IsDistinct
none-met s = record { distinct = tt; within = tt }
