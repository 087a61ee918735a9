-- Whole structures, by the lengths that they tell.
use Rattle.std.proofs.Common.{◌≡◌, ℕ, ◌+◌, ◌-◌, ◌≤◌, true, ◌&&◌, List, length, take, drop, refl, sym, ap, subst, arith}
use Rattle.std.proofs.Common.{length-drop, length-take, length-take-le}
use Rattle.std.specs.Prelude.{nat_le, slice_range}
use Rattle.std.proofs.lemmas.Bool.{leb-true, le-leb, and_parts, and_from}
use Rattle.scalar_types.specs.declared.Order.{Order}
use Rattle.file_grammar.specs.Structure.{Structure, size_of, record_limit, file_limit, common_at, left_at, structure_at}
use Rattle.file_grammar.specs.Structure.{StandsWhole}
use Rattle.file_grammar.specs.Described.{is_whole}
use Rattle.file_grammar.proofs.Lengths.{Fits}

-- a structure is as long as it tells, where the file has it whole
pub size-structure_at : (order : Order) (file : List ℕ) (at : ℕ)
    → Fits (left_at file at) (common_at order file at).length
    → size_of (structure_at order file at) ≡ (common_at order file at).length
size-structure_at order file at fits = by (common_at order file at).length fits
  where
    by : (told : ℕ) → Fits (left_at file at) told → 14 + length (slice_range (drop at file) 14 told) ≡ told
    by told fits =
        let room : told - 14 ≤ length (drop 14 (drop at file)) =
        omega (arith, length-drop 14 (drop at file), length-drop at file, fits.whole) in
        let long = length-take-le (told - 14) (drop 14 (drop at file)) room in
        omega (arith, long, fits.enough)

pub stands-whole : (order : Order) (file : List ℕ) (at : ℕ) → Fits (left_at file at) (common_at order file at).length
    → at + (common_at order file at).length ≤ file_limit → StandsWhole order file (structure_at order file at)
stands-whole order file at fits within =
    let size : size_of (structure_at order file at) ≡ (common_at order file at).length =
    size-structure_at order file at fits in
    record {
      is = refl;
      head = omega (arith, fits.head);
      whole = sym size;
      small = subst (λ n. n ≤ record_limit) (sym size) fits.small;
      within = subst (λ n. at + n ≤ file_limit) (sym size) within;
    }

-- what a structure that stands whole tells of its length
pub stands-fits : (order : Order) (file : List ℕ) (s : Structure) → StandsWhole order file s
    → Fits (left_at file s.at) (common_at order file s.at).length
stands-fits order file s stands =
    let body : length s.body ≡ length (slice_range (drop s.at file) 14 (common_at order file s.at).length) =
    ap (λ (t : Structure). length t.body) stands.is in
    let short = length-take-le-any ((common_at order file s.at).length - 14) (drop 14 (drop s.at file)) in
    record {
      head = omega (arith, stands.head);
      enough = omega (arith, stands.whole);
      small = omega (arith, stands.whole, stands.small);
      whole = omega (
        arith,
        stands.whole,
        stands.head,
        body,
        short,
        length-drop 14 (drop s.at file),
        length-drop s.at file,
      );
    }
  where
    length-take-le-any : (n : ℕ) (xs : List ℕ) → length (take n xs) ≤ length xs
    length-take-le-any n xs = omega (arith, length-take n xs)

pub stands-within : (order : Order) (file : List ℕ) (s : Structure) → StandsWhole order file s
    → s.at + (common_at order file s.at).length ≤ file_limit
stands-within order file s stands =
    subst (λ n. s.at + n ≤ file_limit) (sym stands.whole) stands.within

-- the test of it
pub whole-fits : (order : Order) (file : List ℕ) (at : ℕ) → is_whole order file at ≡ true
    → Fits (left_at file at) (common_at order file at).length × (at + (common_at order file at).length ≤ file_limit)
whole-fits order file at is = by (left_at file at) (common_at order file at).length is
  where
    by : (left told : ℕ) → (nat_le 14 left
        && (nat_le 14 told && (nat_le told record_limit && (nat_le told left && nat_le (at + told) file_limit)))) ≡ true
        → Fits left told × (at + told ≤ file_limit)
    by left told is =
        let a = and_parts (nat_le 14 left) _ is in
        let b = and_parts (nat_le 14 told) _ a.1 in
        let c = and_parts (nat_le told record_limit) _ b.1 in
        let d = and_parts (nat_le told left) _ c.1 in (
          record {
            head = leb-true 14 left a.0;
            enough = leb-true 14 told b.0;
            small = leb-true told record_limit c.0;
            whole = leb-true told left d.0;
          },
          leb-true (at + told) file_limit d.1,
        )

pub fits-whole : (order : Order) (file : List ℕ) (at : ℕ) → Fits (left_at file at) (common_at order file at).length
    → at + (common_at order file at).length ≤ file_limit → is_whole order file at ≡ true
fits-whole order file at fits within =
    and_from _ _ (le-leb 14 (left_at file at) fits.head)
    (and_from _ _ (le-leb 14 (common_at order file at).length fits.enough)
    (and_from _ _ (le-leb (common_at order file at).length record_limit fits.small)
    (and_from _ _ (le-leb (common_at order file at).length (left_at file at) fits.whole)
    (le-leb (at + (common_at order file at).length) file_limit within))))
