-- How far the look of a place goes.
use Rattle.std.proofs.Common.{◌≡◌, ℕ, ◌+◌, ◌≤◌, Bool, true, false, ◌&&◌, cond, List, refl, arith}
use Rattle.std.specs.Prelude.{nat_le}
use Rattle.std.proofs.lemmas.Bool.{leb-true, le-leb, and_parts, and_from, cond-true}
use Rattle.scalar_types.specs.declared.Order.{Order}
use Rattle.file_grammar.specs.Structure.{record_limit, common_at, left_at}
use Rattle.item_reader.specs.Looked.{tells_length, look}

-- it goes beyond the 14 bytes there
pub look-least : (order : Order) (file : List ℕ) (place : ℕ) → place + 65550 ≤ look order file place
look-least order file place = by (left_at file place) (common_at order file place).length
  where
    by : (left told : ℕ) → place + 65550
        ≤ cond (nat_le 8 left && (nat_le 14 told && nat_le told record_limit)) (place + told + 65536)
        (place + 65550)
    by left told = test (nat_le 8 left && (nat_le 14 told && nat_le told record_limit)) refl
      where
        test : (b : Bool) → (nat_le 8 left && (nat_le 14 told && nat_le told record_limit)) ≡ b
            → place + 65550 ≤ cond b (place + told + 65536) (place + 65550)
        test true is =
            let rest = and_parts (nat_le 8 left) (nat_le 14 told && nat_le told record_limit) is in
            let both = and_parts (nat_le 14 told) (nat_le told record_limit) rest.1 in
            let enough : 14 ≤ told = leb-true 14 told both.0 in
            omega arith
        test false is = omega arith

-- and to no more than 65,536 bytes beyond a structure of the length there
pub look-most : (order : Order) (file : List ℕ) (place : ℕ) → 14 ≤ (common_at order file place).length
    → look order file place ≤ place + (common_at order file place).length + 65536
look-most order file place enough = by (tells_length order file place)
  where
    by : (b : Bool) → cond b (place + (common_at order file place).length + 65536) (place + 65550)
        ≤ place + (common_at order file place).length + 65536
    by true = omega arith
    by false = omega (arith, enough)

-- and so far where the length is there and that of a structure
pub look-told : (order : Order) (file : List ℕ) (place : ℕ) → 14 ≤ left_at file place
    → 14 ≤ (common_at order file place).length → (common_at order file place).length ≤ record_limit
    → look order file place ≡ place + (common_at order file place).length + 65536
look-told order file place head enough small =
    cond-true _ _ _ (and_from _ _ (le-leb 8 (left_at file place) (omega (arith, head)))
    (and_from _ _ (le-leb 14 (common_at order file place).length enough)
    (le-leb (common_at order file place).length record_limit small)))
