-- The grammar of types, by what a scan finds in front.
use Rattle.std.proofs.Common.{◌≡◌, ℕ, suc, ◌<◌, Bool, true, false, cond, ◌&&◌, eqb, List, [], ◌∷◌, length, Option, Some}
use Rattle.std.proofs.Common.{None, option_and_then, refl, sym, ◌∙◌, ap, arith}
use Rattle.std.specs.Option.{option_map}
use Rattle.type_text.specs.Tokens.{Token, Word, Mark}
use Rattle.type_text.specs.TypeText.{dims_of, dim_of, with_dim, pointed_of, is_name}
use Rattle.type_text.specs.Steps.{first_word, after_mark, no_token, word_before, closing, starred_of, bracketed_of}
use Rattle.type_text.specs.Steps.{parenthesized_of, dims_from, pointed_from}
use Rattle.type_text.proofs.FoundLemmas.{and_then-some, map-some}

-- nothing is found behind a mark, whichever mark it is
none-behind : {A : Type 0} (b : Bool) (f : List Token → Option A) (ts : List Token) → f ts ≡ None
    → option_and_then f (cond b (Some ts) None) ≡ None
none-behind true f ts h = h
none-behind false f ts h = refl

pub dims_of-steps : (ts : List Token) → no_token ts ≡ false → dims_of ts ≡ dims_from (bracketed_of ts)
unfolding dims_of
dims_of-steps [] h = cc
dims_of-steps (Word w ∷ ts) h = refl
dims_of-steps (Mark l ∷ []) h = sym (ap dims_from (none-behind (eqb l 91) (word_before 93) [] refl))
dims_of-steps (Mark l ∷ Mark m ∷ ts) h =
    sym (ap dims_from (none-behind (eqb l 91) (word_before 93) (Mark m ∷ ts) refl))
dims_of-steps (Mark l ∷ Word w ∷ []) h =
    sym (ap dims_from (none-behind (eqb l 91) (word_before 93) (Word w ∷ []) refl))
dims_of-steps (Mark l ∷ Word w ∷ Word v ∷ ts) h =
    sym (ap dims_from (none-behind (eqb l 91) (word_before 93) (Word w ∷ Word v ∷ ts) refl))
dims_of-steps (Mark l ∷ Word w ∷ Mark r ∷ ts) h =
    let dims = with_dim (dim_of w) (dims_of ts) in
    elim (eqb l 91) as (λ b. cond (b && eqb r 93) dims None
    ≡ dims_from (option_and_then (word_before 93) (cond b (Some (Word w ∷ Mark r ∷ ts)) None))) [
      | true ↦ elim (eqb r 93) as
          (λ b. cond b dims None ≡ dims_from (option_map (λ rest. (w, rest)) (cond b (Some ts) None)))
          [ true ↦ refl | false ↦ refl ]
      | false ↦ refl
    ]

-- a word in brackets takes tokens
after_mark-shorter : (m : ℕ) (ts rest : List Token) → after_mark m ts ≡ Some rest → length rest < length ts
after_mark-shorter m [] rest e = cc
after_mark-shorter m (Word w ∷ ts) rest e = cc
after_mark-shorter m (Mark k ∷ ts) rest e = by (eqb k m) e
  where
    by : (b : Bool) → cond b (Some ts) None ≡ Some rest → length rest < suc (length ts)
    by true e = let same : ts ≡ rest = cc in omega (arith, ap length same)
    by false e = cc

first_word-shorter : (ts : List Token) (found : List ℕ × List Token) → first_word ts ≡ Some found
    → length found.1 < length ts
first_word-shorter [] found e = cc
first_word-shorter (Mark k ∷ ts) found e = cc
first_word-shorter (Word w ∷ ts) found e =
    let same : (w, ts) ≡ found = cc in omega (arith, ap (λ (f : List ℕ × List Token). length f.1) same)

pub bracketed_of-shorter : (ts : List Token) (found : List ℕ × List Token) → bracketed_of ts ≡ Some found
    → length found.1 < length ts
bracketed_of-shorter ts found e =
    let inside = and_then-some (word_before 93) (after_mark 91 ts) found e in
    let word = and_then-some _ (first_word inside.0) found inside.2 in
    let rest = map-some _ (after_mark 93 word.0.1) found word.2 in
    let same : length rest.0 ≡ length found.1 = ap (λ (f : List ℕ × List Token). length f.1) rest.2 in
    omega (
      arith,
      same,
      after_mark-shorter 91 ts inside.0 inside.1,
      first_word-shorter inside.0 word.0 word.1,
      after_mark-shorter 93 word.0.1 rest.0 rest.1,
    )

none-starred : (w : List ℕ) (s : ℕ) (ts : List Token) → after_mark 41 ts ≡ None
    → starred_of (Word w ∷ Mark s ∷ ts) ≡ None
none-starred w s ts h = by (eqb s 42)
  where
    by : (b : Bool) → option_and_then (closing 41) (option_map (λ rest. (w, rest)) (cond b (Some ts) None)) ≡ None
    by true = rw h refl
    by false = refl

-- the word and the tokens behind, where it is a name
abbrev picked : List ℕ → List Token → Option (List ℕ × List Token)
picked w ts = cond (is_name w) (Some (w, ts)) None

parenthesized-picked : (l : ℕ) (w : List ℕ) (s r : ℕ) (ts : List Token)
    → pointed_from (parenthesized_of (Mark l ∷ Word w ∷ Mark s ∷ Mark r ∷ ts))
    ≡ cond ((eqb l 40 && eqb s 42) && eqb r 41) (picked w ts) None
parenthesized-picked l w s r ts =
    elim (eqb l 40) as (λ b. pointed_from
    (option_and_then starred_of (cond b (Some (Word w ∷ Mark s ∷ Mark r ∷ ts)) None))
    ≡ cond ((b && eqb s 42) && eqb r 41) (picked w ts) None) [
      | true ↦ elim (eqb s 42) as
          (λ b. pointed_from (option_and_then (closing 41)
          (option_map (λ rest. (w, rest)) (cond b (Some (Mark r ∷ ts)) None)))
          ≡ cond (b && eqb r 41) (picked w ts) None) [
            | true ↦ elim (eqb r 41) as
                (λ b. pointed_from (option_map (λ rest. (w, rest)) (cond b (Some ts) None)) ≡ cond b (picked w ts) None)
                [ true ↦ refl | false ↦ refl ]
            | false ↦ refl
          ]
      | false ↦ refl
    ]

same_picked : {A : Type 0} (b n : Bool) (x : A) → cond (b && n) (Some x) None ≡ cond b (cond n (Some x) None) None
same_picked true n x = refl
same_picked false n x = refl

pub pointed_of-steps : (ts : List Token) → pointed_of ts ≡ pointed_from (parenthesized_of ts)
unfolding pointed_of
pointed_of-steps [] = refl
pointed_of-steps (Word w ∷ ts) = refl
pointed_of-steps (Mark l ∷ []) = sym (ap pointed_from (none-behind (eqb l 40) starred_of [] refl))
pointed_of-steps (Mark l ∷ Mark m ∷ ts) =
    sym (ap pointed_from (none-behind (eqb l 40) starred_of (Mark m ∷ ts) refl))
pointed_of-steps (Mark l ∷ Word w ∷ []) =
    sym (ap pointed_from (none-behind (eqb l 40) starred_of (Word w ∷ []) refl))
pointed_of-steps (Mark l ∷ Word w ∷ Word v ∷ ts) =
    sym (ap pointed_from (none-behind (eqb l 40) starred_of (Word w ∷ Word v ∷ ts) refl))
pointed_of-steps (Mark l ∷ Word w ∷ Mark s ∷ []) =
    sym (ap pointed_from (none-behind (eqb l 40) starred_of (Word w ∷ Mark s ∷ []) (none-starred w s [] refl)))
pointed_of-steps (Mark l ∷ Word w ∷ Mark s ∷ Word v ∷ ts) =
    sym (ap pointed_from (none-behind (eqb l 40) starred_of (Word w ∷ Mark s ∷ Word v ∷ ts)
    (none-starred w s (Word v ∷ ts) refl)))
pointed_of-steps (Mark l ∷ Word w ∷ Mark s ∷ Mark r ∷ ts) =
    same_picked ((eqb l 40 && eqb s 42) && eqb r 41) (is_name w) (w, ts) ∙ sym (parenthesized-picked l w s r ts)

pub ruleset shorter = (bracketed_of-shorter)

pub ruleset pointers = (pointed_of-steps)
