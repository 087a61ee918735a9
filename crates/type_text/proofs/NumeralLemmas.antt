-- The number that digits write when they follow those of n.
use Rattle.std.proofs.Common.{◌≡◌, ℕ, ◌+◌, ◌-◌, ◌*◌, ◌<◌, ◌≤◌, Bool, true, false, cond, ◌&&◌, nat_le, List, [], ◌∷◌}
use Rattle.std.proofs.Common.{length, drop, get_or, Option, Some, None, refl, ◌∙◌, arith, drop-cons, add-one, suc}
use Rattle.std.proofs.Common.{le-leb}
use Rattle.std.proofs.Math.ListN.{drop_of_length-le}
use Rattle.std.proofs.lemmas.Bool.Decides.{nat_tests}
use Rattle.std.specs.Str.{all_ascii_digits}
use Rattle.std.specs.Str.Parse.{digits_value_after}
use Rattle.std.specs.Char.{is_ascii_digit, digit_value, IsAsciiDigit}

-- the number that the digits write after those of n, where it is at most 4,294,967,295
abbrev pub numeral_from : ℕ → List ℕ → Option ℕ
numeral_from n ds = cond (all_ascii_digits ds && nat_le (digits_value_after 10 n ds) 4294967295)
    (Some (digits_value_after 10 n ds)) None

-- a digit's value
digit_value-digit : (c : ℕ) → IsAsciiDigit c → (is_ascii_digit c ≡ true) × (digit_value c ≡ c - 48)
digit_value-digit c h = (grind (arith, nat_tests), grind (arith, nat_tests))

digit-is : (c : ℕ) → is_ascii_digit c ≡ true → IsAsciiDigit c
digit-is c h = grind (arith, nat_tests)

not-lt : (m : ℕ) → (m < 4294967296 → ⊥) → 4294967295 < m
not-lt m h = omega arith

other-digit : (c : ℕ) → (IsAsciiDigit c → ⊥) → is_ascii_digit c ≡ false
other-digit c h = grind (arith, nat_tests)

-- more digits write no smaller number
value_after-ge : (n : ℕ) (ds : List ℕ) → n ≤ digits_value_after 10 n ds
value_after-ge n [] = omega arith
value_after-ge n (c ∷ cs) = omega (arith, value_after-ge (n * 10 + digit_value c) cs)

pub numeral_from-large : (n : ℕ) (ds : List ℕ) → 4294967295 < n → numeral_from n ds ≡ None
numeral_from-large n ds h = let ge = value_after-ge n ds in grind (arith, nat_tests)

pub numeral_from-digit : (n c : ℕ) (cs : List ℕ) → IsAsciiDigit c
    → numeral_from n (c ∷ cs) ≡ numeral_from (n * 10 + (c - 48)) cs
numeral_from-digit n c cs h = let d = digit_value-digit c h in rw (d.0, d.1) refl

pub numeral_from-other : (n c : ℕ) (cs : List ℕ) → (IsAsciiDigit c → ⊥) → numeral_from n (c ∷ cs) ≡ None
numeral_from-other n c cs h = rw (other-digit c h) refl

-- a digit that does not fit, or no digit
stop-digit : (n c : ℕ) (cs : List ℕ) → (IsAsciiDigit c × n * 10 + (c - 48) < 4294967296 → ⊥)
    → numeral_from n (c ∷ cs) ≡ None
stop-digit n c cs stop = by (is_ascii_digit c) refl
  where
    by : (b : Bool) → is_ascii_digit c ≡ b → numeral_from n (c ∷ cs) ≡ None
    by true e =
        let digit = digit-is c e in
        numeral_from-digit n c cs digit
        ∙ numeral_from-large (n * 10 + (c - 48)) cs (not-lt (n * 10 + (c - 48)) (λ fits. stop (digit, fits)))
    by false e = rw e refl

pub numeral_from-stop : (n : ℕ) (ds : List ℕ) (i : ℕ) → i < length ds
    → (IsAsciiDigit (get_or ds i 0) × n * 10 + (get_or ds i 0 - 48) < 4294967296 → ⊥)
    → numeral_from n (drop i ds) ≡ None
numeral_from-stop n ds i h stop = rw (drop-cons ds i 0) (stop-digit n (get_or ds i 0) (drop (suc i) ds) stop)

pub numeral_from-more : (n : ℕ) (ds : List ℕ) (i : ℕ) → i < length ds → IsAsciiDigit (get_or ds i 0)
    → numeral_from n (drop i ds) ≡ numeral_from (n * 10 + (get_or ds i 0 - 48)) (drop (i + 1) ds)
numeral_from-more n ds i h digit =
    rw (add-one, drop-cons ds i 0) (numeral_from-digit n (get_or ds i 0) (drop (suc i) ds) digit)

-- no digit is left
pub numeral_from-end : (n : ℕ) (ds : List ℕ) (i : ℕ) → length ds ≤ i → n < 4294967296
    → numeral_from n (drop i ds) ≡ Some n
numeral_from-end n ds i h fits = rw (drop_of_length-le ds h) (rw (le-leb n 4294967295 (omega arith)) refl)
