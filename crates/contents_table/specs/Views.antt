-- How a table is lent: as the bytes of its fields.
use Rattle.std.specs.Prelude.{◌≡◌, ℕ, Bool, List, [], Ok}
use Rattle.std.specs.Borrow.{Bor}
use Rattle.std.specs.BTreeSet.{BTreeSet, contains_by}
use Rattle.std.specs.Cmp.Lexicographic.{slice_cmp}
use Rattle.std.specs.Ordering.{nat_cmp}
use Rattle.std.specs.Option.{option_map_or}
use Rattle.std.specs.Result.{result_ok}
use Rattle.scalar_types.specs.declared.Order.{Order}
use Rattle.scalar_types.specs.declared.Width.TheVariants.{Eight}
use Rattle.layout_plan.specs.Reading.{Found, number_in, text_in, items_in}

-- the items that bytes are
abbrev pub items_by : {X : Type 0} → (List ℕ → Found X) → ℕ → List ℕ → List X
items_by item n bytes = option_map_or (λ found. found.0) (result_ok (items_in item n bytes)) []

abbrev pub numbers_by : Order → ℕ → List ℕ → List ℕ
numbers_by order n bytes = items_by (number_in order Eight) n bytes

abbrev pub texts_by : Order → ℕ → List ℕ → List (List ℕ)
texts_by order n bytes = items_by (text_in order) n bytes

-- the bytes are so many numbers of eight bytes, and so many texts
abbrev pub AreNumbers : Order → ℕ → List ℕ → Type 0
AreNumbers order n bytes = items_in (number_in order Eight) n bytes ≡ Ok (numbers_by order n bytes, [])

abbrev pub AreTexts : Order → ℕ → List ℕ → Type 0
AreTexts order n bytes = items_in (text_in order) n bytes ≡ Ok (texts_by order n bytes, [])

-- the set of lent bytes has these
abbrev pub holds : BTreeSet (Bor (List ℕ)) → List ℕ → Bool
holds names name = contains_by (λ k. slice_cmp nat_cmp name k.now) names
