-- The values of a label with links in place of its null ones tell the label's values and the links.
use Rattle.std.proofs.Common.{◌≡◌, ℕ, Bool, true, false, cond, List, [], ◌∷◌, ◌++◌, length, map, take, drop, refl, sym}
use Rattle.std.proofs.Common.{ap, ◌∙◌, arith, length-append, length-drop}
use Rattle.std.proofs.lemmas.List.{take-append-drop, length-take-le, length-map}
use Rattle.scalar_types.specs.declared.Order.{Order}
use Rattle.type_text.specs.declared.types.Link.{Link}
use Rattle.record_values.specs.declared.values.Value.{Value}
use Rattle.record_values.specs.declared.values.Value.TheVariants as value
use Rattle.record_values.specs.Links.{links_of, links_in, linked_value, with_links}
use Rattle.layout_plan.specs.declared.fields.Field.{Field}
use Rattle.layout_plan.specs.Body.{AreFields}
use Rattle.layout_plan.specs.Layout.{AreSums}
use Rattle.layout_plan.specs.Links.{is_link_form}
use Rattle.layout_plan.specs.Written.{with_sums_cleared}
use Rattle.layout_plan.proofs.LinkLemmas.{field-none}
use Rattle.frame_content.specs.Labels.{unlinked, nullified}

-- ---- one value

none : (links : List Link) → length links ≡ 0 → [] ≡ links
none [] size = refl
none (l ∷ ls) size = absurd (omega (arith, size))

-- null links are the same where they are as many
nullified-same : (links others : List Link) → length links ≡ length others → map nullified links ≡ map nullified others
nullified-same [] [] size = refl
nullified-same [] (m ∷ ms) size = absurd (omega (arith, size))
nullified-same (l ∷ ls) [] size = absurd (omega (arith, size))
nullified-same (l ∷ ls) (m ∷ ms) size = ap (λ rest. nullified m ∷ rest) (nullified-same ls ms (omega (arith, size)))

-- a value with other links has these, and is the same but for them
value-told : (v : Value) (links : List Link) → length links ≡ length (links_of v)
    → (links_of (linked_value v links) ≡ links) × (unlinked (linked_value v links) ≡ unlinked v)
value-told (value.Link old) [] size = absurd (omega (arith, size))
value-told (value.Link old) (l ∷ []) size = (refl, refl)
value-told (value.Link old) (l ∷ m ∷ ls) size = absurd (omega (arith, size))
value-told (value.Links old) links size = (refl, ap value.Links (nullified-same links old size))
value-told (value.Num n) links size = (none links size, refl)
value-told (value.Pair a b) links size = (none links size, refl)
value-told (value.Text t) links size = (none links size, refl)
value-told (value.Nums xs) links size = (none links size, refl)
value-told (value.Pairs xs) links size = (none links size, refl)
value-told (value.Texts xs) links size = (none links size, refl)
value-told (value.Bytes xs) links size = (none links size, refl)

-- ---- the values of a record

-- So are values with other links.
pub values-told : (vs : List Value) (links : List Link) → length links ≡ length (links_in vs)
    → (links_in (with_links vs links) ≡ links) × (map unlinked (with_links vs links) ≡ map unlinked vs)
values-told [] links size = (none links size, refl)
values-told (v ∷ vs) links size =
    let n : ℕ = length (links_of v) in
    let whole = length-append (links_of v) (links_in vs) in
    let first = value-told v (take n links) (length-take-le n links (omega (arith, size, whole))) in
    let rest = values-told vs (drop n links) (omega (arith, length-drop n links, size, whole)) in
    ((λ i. first.0 i ++ rest.0 i) ∙ take-append-drop n links, λ i. first.1 i ∷ rest.1 i)

-- ---- the values of a label

links-nullified : (links : List Link) → map nullified (map nullified links) ≡ map nullified links
links-nullified [] = refl
links-nullified (l ∷ ls) = ap (λ rest. nullified l ∷ rest) (links-nullified ls)

value-null : (v : Value) → unlinked (unlinked v) ≡ unlinked v
value-null (value.Link link) = refl
value-null (value.Links links) = ap value.Links (links-nullified links)
value-null (value.Num n) = refl
value-null (value.Pair a b) = refl
value-null (value.Text t) = refl
value-null (value.Nums xs) = refl
value-null (value.Pairs xs) = refl
value-null (value.Texts xs) = refl
value-null (value.Bytes xs) = refl

values-null : (vs : List Value) → map unlinked (map unlinked vs) ≡ map unlinked vs
values-null [] = refl
values-null (v ∷ vs) = λ i. value-null v i ∷ values-null vs i

-- the links of a label's values are null
pub label-null : (fields : List Field) (values : List Value)
    → map unlinked (with_sums_cleared fields (map unlinked values)) ≡ with_sums_cleared fields (map unlinked values)
label-null [] values = values-null values
label-null (f ∷ fs) [] = refl
label-null (f ∷ fs) (v ∷ vs) = λ i. by f.is_sum i ∷ label-null fs vs i
  where
    by : (b : Bool) → unlinked (cond b (value.Num 0) (unlinked v)) ≡ cond b (value.Num 0) (unlinked v)
    by true = refl
    by false = value-null v

links-many : (v : Value) → length (links_of (unlinked v)) ≡ length (links_of v)
links-many (value.Link link) = refl
links-many (value.Links links) = length-map links nullified
links-many (value.Num n) = refl
links-many (value.Pair a b) = refl
links-many (value.Text t) = refl
links-many (value.Nums xs) = refl
links-many (value.Pairs xs) = refl
links-many (value.Texts xs) = refl
links-many (value.Bytes xs) = refl

-- and there are as many as in the body
pub label-many : (order : Order) (numbers : List ℕ) (fields : List Field) (values : List Value) (bytes : List ℕ)
    → AreSums fields → AreFields order numbers fields values bytes
    → length (links_in (with_sums_cleared fields (map unlinked values))) ≡ length (links_in values)
label-many order numbers [] [] bytes sums s = refl
label-many order numbers [] (v ∷ vs) bytes sums s = absurd s
label-many order numbers (f ∷ fs) [] bytes sums s = refl
label-many order numbers (f ∷ fs) (v ∷ vs) bytes sums (front, rest, split, here, s) =
    omega (
      arith,
      length-append (links_of (cond f.is_sum (value.Num 0) (unlinked v)))
          (links_in (with_sums_cleared fs (map unlinked vs))),
      length-append (links_of v) (links_in vs),
      by f.is_sum refl,
      label-many order numbers fs vs rest sums.1 s,
    )
  where
    by : (b : Bool) → f.is_sum ≡ b
        → length (links_of (cond b (value.Num 0) (unlinked v))) ≡ length (links_of v)
    by true sum =
        sym (ap length (field-none order numbers f.form f.counts v front (ap is_link_form (sums.0 sum).0) here))
    by false sum = links-many v
