-- The numbers that lists count by, read where they stand.
use Rattle.std.proofs.Common.{◌≡◌, ℕ, zero, suc, ◌+◌, ◌<◌, ◌≤◌, List, [], ◌∷◌, ◌++◌, length, take, drop, get_or, map}
use Rattle.std.proofs.Common.{All, Ok, Err, Some, refl, sym, ap, ◌∙◌, subst, arith, inl, inr}
use Rattle.std.specs.Prelude.{slice_get}
use Rattle.std.specs.Option.{option_map}
use Rattle.std.proofs.lemmas.List.{take-take, take_at}
use Rattle.std.proofs.lemmas.Bool.{cases_lt}
use Rattle.std.proofs.lemmas.Option.{same_Some, slice_get-map, get_or_from_slice_get}
use Rattle.scalar_types.specs.declared.Order.{Order}
use Rattle.scalar_types.specs.declared.Width.TheVariants.{One, Two, Four, Eight}
use Rattle.scalar_types.specs.Number.{number, size_of}
use Rattle.record_values.specs.declared.values.Value.{Value}
use Rattle.record_values.specs.declared.values.Value.TheVariants as value
use Rattle.layout_plan.specs.declared.fields.Form.{Form}
use Rattle.layout_plan.specs.declared.fields.Form.TheVariants.{Number, Pair, Text, Link}
use Rattle.layout_plan.specs.declared.fields.Count.{Count}
use Rattle.layout_plan.specs.declared.fields.Field.{Field}
use Rattle.layout_plan.specs.declared.faults.BodyReason.TheVariants.{BodyShort}
use Rattle.layout_plan.specs.Layout.{IsEarlier, AreSound}
use Rattle.layout_plan.specs.Body.{number_of, item_count, IsSingle, IsListed}
use Rattle.layout_plan.specs.Reading.{Found, field_in, fields_in}
use Rattle.layout_plan.specs.Marks.{fixed_width, mark_of, place_of}
use Rattle.layout_plan.specs.Walking.{number_at, AreNumbers, ArePlaces}
use Rattle.layout_plan.proofs.BodyLemmas.{single_in-exact, listed_in-exact}
use Rattle.layout_plan.proofs.SpelledLemmas.{fixed-field}
use Rattle.layout_plan.proofs.ReadingLemmas.{IsBetween, field-between}

-- a field of fixed width that is read is whole
pub fixed-room : (order : Order) (numbers : List ℕ) (form : Form) (counts : List Count) (bytes : List ℕ) (x : Value
    × List ℕ) (width : ℕ) → field_in order numbers form counts bytes ≡ Ok x → fixed_width form counts ≡ Some width
    → width ≤ length bytes
fixed-room order numbers form counts bytes x width read fixed = elim (cases_lt (length bytes) width) [
  | inl short ↦ absurd (apart (sym ((fixed-field order numbers form counts width fixed).few bytes short) ∙ read))
  | inr le ↦ le
]
  where
    apart : ◌≡◌ {A = Found Value} (Err BodyShort) (Ok x) → ⊥
    apart e = cc

-- a list is no number
listed-number : (order : Order) (form : Form) (n : ℕ) (v : Value) (bytes : List ℕ) → IsListed order form n v bytes
    → number_of v ≡ 0
listed-number order (Number One) n (value.Bytes xs) bytes s = refl
listed-number order (Number Two) n (value.Nums xs) bytes s = refl
listed-number order (Number Four) n (value.Nums xs) bytes s = refl
listed-number order (Number Eight) n (value.Nums xs) bytes s = refl
listed-number order (Pair width) n (value.Pairs xs) bytes s = refl
listed-number order Text n (value.Texts xs) bytes s = refl
listed-number order Link n (value.Links xs) bytes s = refl
listed-number order form n v bytes s = absurd s

single-number : (order : Order) (form : Form) (v : Value) (front rest : List ℕ) → IsSingle order form v front
    → number_of v ≡ number_at order form [] (front ++ rest)
single-number order (Number width) (value.Num n) front rest s =
    sym (ap (number order) (take_at front rest (size_of width) s.size) ∙ s.value)
single-number order (Pair width) (value.Pair a b) front rest s = refl
single-number order Text (value.Text text) front rest s = refl
single-number order Link (value.Link link) front rest s = refl
single-number order form v front rest s = absurd s

-- the number that a field is, as it is read from the field's bytes
pub number_at-value : (order : Order) (numbers : List ℕ) (form : Form) (counts : List Count) (bytes : List ℕ)
    (v : Value) (rest : List ℕ) → field_in order numbers form counts bytes ≡ Ok (v, rest)
    → number_of v ≡ number_at order form counts bytes
number_at-value order numbers form [] bytes v rest read =
    let found = (single_in-exact order form).found bytes (v, rest) read in
    single-number order form v found.0 rest found.2 ∙ ap (number_at order form []) (sym found.1)
number_at-value order numbers form (c ∷ cs) bytes v rest read =
    let found = (listed_in-exact order form (item_count numbers (c ∷ cs))).found bytes (v, rest) read in
    listed-number order form (item_count numbers (c ∷ cs)) v found.0 found.2 ∙ sym (none form)
  where
    none : (form : Form) → number_at order form (c ∷ cs) bytes ≡ 0
    none (Number width) = refl
    none (Pair width) = refl
    none Text = refl
    none Link = refl

pub slice_get-take : {X : Type 0} (xs : List X) (i k : ℕ) → i < k → slice_get (take k xs) i ≡ slice_get xs i
slice_get-take xs i zero lt = absurd (omega arith)
slice_get-take [] i (suc k) lt = refl
slice_get-take (x ∷ xs) zero (suc k) lt = refl
slice_get-take (x ∷ xs) (suc i) (suc k) lt = slice_get-take xs i k (omega arith)

-- a field before field k, where it stands
counter-between : (order : Order) (fields : List Field) (body : List ℕ) (k i : ℕ) (f : Field) (ends : List ℕ)
    (places : ArePlaces order fields body k ends) (lt : i < k) → slice_get fields i ≡ Some f
    → (values : List Value) (rest : List ℕ) → fields_in order [] (take k fields) body ≡ Ok (values, rest)
    → IsBetween order f (places.reached i (omega arith)).1.values
    (drop (place_of ends (mark_of fields i)) body) values i
counter-between order fields body k i f ends places lt is values rest whole =
    let here = (places.reached i (omega arith)).1 in
    field-between order (take k fields) i f body (drop (place_of ends (mark_of fields i)) body) rest here.values values
    (slice_get-take fields i k lt ∙ is) (ap (λ fs. fields_in order [] fs body) (take-take i k fields (omega arith))
    ∙ here.reads) whole

-- its number is that of the record
pub counter-is : (order : Order) (fields : List Field) (body : List ℕ) (k i : ℕ) (f : Field) (ends numbers : List ℕ)
    → ArePlaces order fields body k ends → i < k → slice_get fields i ≡ Some f → AreNumbers order fields body k numbers
    → number_at order f.form f.counts (drop (place_of ends (mark_of fields i)) body) ≡ get_or numbers i 0
counter-is order fields body k i f ends numbers places lt is (values, rest, whole, are) =
    let here = (places.reached i (omega arith)).1 in
    let b = counter-between order fields body k i f ends places lt is values rest whole in
    sym (number_at-value order (map number_of here.values) f.form f.counts
    (drop (place_of ends (mark_of fields i)) body) b.value b.after b.reads)
    ∙ sym (get_or_from_slice_get (map number_of values) i (number_of b.value) 0 (slice_get-map number_of values i
    ∙ ap (option_map number_of) b.here))
    ∙ ap (λ numbers. get_or numbers i 0) (sym are)

-- and it is whole where its width is fixed
pub counter-room : (order : Order) (fields : List Field) (body : List ℕ) (k i : ℕ) (f : Field) (ends : List ℕ)
    → ArePlaces order fields body k ends → i < k → slice_get fields i ≡ Some f → (width : ℕ)
    → fixed_width f.form f.counts ≡ Some width → width ≤ length (drop (place_of ends (mark_of fields i)) body)
counter-room order fields body k i f ends places lt is width fixed =
    let at_k = (places.reached k (omega arith)).1 in
    let here = (places.reached i (omega arith)).1 in
    let b = counter-between order fields body k i f ends places lt is at_k.values
    (drop (place_of ends (mark_of fields k)) body) at_k.reads in
    fixed-room order (map number_of here.values) f.form f.counts (drop (place_of ends (mark_of fields i)) body)
    (b.value, b.after) width b.reads fixed

-- the dimensions of a field name earlier fields
pub AreSound-at : (i k : ℕ) (fields : List Field) (f : Field) → AreSound i fields → slice_get fields k ≡ Some f
    → All (IsEarlier (i + k)) f.counts
AreSound-at i k [] f sound is = cc
AreSound-at i zero (g ∷ fs) f sound is =
    let this : i ≡ i + 0 = omega arith in
    subst (λ i. All (IsEarlier i) f.counts) this
    (subst (λ (f : Field). All (IsEarlier i) f.counts) (same_Some g f is) sound.0)
AreSound-at i (suc k) (g ∷ fs) f sound is =
    let this : i + 1 + k ≡ i + suc k = omega arith in
    subst (λ i. All (IsEarlier i) f.counts) this (AreSound-at (i + 1) k fs f sound.1 is)
