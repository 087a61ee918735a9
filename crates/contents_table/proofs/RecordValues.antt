-- The values of a label beside those of its body: links are null and the check sum is 0, so a text is the same, and
-- as many links stand before a field.
use Rattle.std.proofs.Common.{◌≡◌, ℕ, zero, suc, ◌+◌, Bool, true, false, cond, List, [], ◌∷◌, ◌++◌, length}
use Rattle.std.proofs.Common.{take, map}
use Rattle.std.proofs.Common.{Some, refl, sym, ap, ◌∙◌, arith}
use Rattle.std.specs.Prelude.{slice_get}
use Rattle.std.proofs.lemmas.List.{length-append, length-map}
use Rattle.std.proofs.lemmas.Option.{same_Some, none-some}
use Rattle.scalar_types.specs.declared.Order.{Order}
use Rattle.scalar_types.specs.declared.Width.TheVariants.{Four}
use Rattle.type_text.specs.declared.types.Link.{Link as StructLink}
use Rattle.record_values.specs.declared.values.Value.{Value}
use Rattle.record_values.specs.declared.values.Value.TheVariants as value
use Rattle.record_values.specs.Links.{links_of, links_in}
use Rattle.layout_plan.specs.declared.fields.Form.TheVariants.{Number, Text}
use Rattle.layout_plan.specs.declared.fields.Field.{Field}
use Rattle.layout_plan.specs.Body.{AreFields}
use Rattle.layout_plan.specs.Layout.{AreSums}
use Rattle.layout_plan.specs.Links.{is_link_form}
use Rattle.layout_plan.specs.Written.{with_sums_cleared}
use Rattle.layout_plan.proofs.LinkLemmas.{field-none}
use Rattle.frame_content.specs.Labels.{unlinked, nullified}

-- ---- links before a field

unlinked-links : (v : Value) → length (links_of (unlinked v)) ≡ length (links_of v)
unlinked-links (value.Link link) = refl
unlinked-links (value.Links links) = length-map links nullified
unlinked-links (value.Num n) = refl
unlinked-links (value.Pair a b) = refl
unlinked-links (value.Text text) = refl
unlinked-links (value.Nums xs) = refl
unlinked-links (value.Pairs xs) = refl
unlinked-links (value.Texts xs) = refl
unlinked-links (value.Bytes xs) = refl

pub links-before : (order : Order) (numbers : List ℕ) (fields : List Field) (values : List Value)
    (bytes : List ℕ) (k : ℕ)
    → AreSums fields → AreFields order numbers fields values bytes
    → length (links_in (take k (with_sums_cleared fields (map unlinked values)))) ≡ length (links_in (take k values))
links-before order numbers fields values bytes zero sums s = refl
links-before order numbers [] [] bytes (suc k) sums s = refl
links-before order numbers [] (v ∷ vs) bytes (suc k) sums s = absurd s
links-before order numbers (f ∷ fs) [] bytes (suc k) sums s = absurd s
links-before order numbers (f ∷ fs) (v ∷ vs) bytes (suc k) sums (front, rest, split, here, s) =
    omega (
      arith,
      length-append (links_of (cond f.is_sum (value.Num 0) (unlinked v)))
          (links_in (take k (with_sums_cleared fs (map unlinked vs)))),
      length-append (links_of v) (links_in (take k vs)),
      first f.is_sum refl,
      links-before order numbers fs vs rest k sums.1 s,
    )
  where
    first : (b : Bool) → f.is_sum ≡ b → length (links_of (cond b (value.Num 0) (unlinked v))) ≡ length (links_of v)
    first true sum =
        sym (ap length (field-none order numbers f.form f.counts v front (ap is_link_form (sums.0 sum).0) here))
    first false sum = unlinked-links v

get-after : {X : Type 0} (xs ys : List X) (n : ℕ) → slice_get (xs ++ ys) (length xs + n) ≡ slice_get ys n
get-after [] ys n = ap (slice_get ys) (omega arith)
get-after (x ∷ xs) ys n =
    let on : length (x ∷ xs) + n ≡ suc (length xs + n) = omega arith in
    ap (slice_get (x ∷ xs ++ ys)) on ∙ get-after xs ys n

-- the plain link of a field among the links of all values
pub link-after : (values : List Value) (k : ℕ) (link : StructLink) → slice_get values k ≡ Some (value.Link link)
    → slice_get (links_in values) (length (links_in (take k values))) ≡ Some link
link-after [] k link is = absurd (none-some (value.Link link) is)
link-after (v ∷ vs) zero link is =
    ap (λ (v : Value). slice_get (links_of v ++ links_in vs) 0) (same_Some v (value.Link link) is)
link-after (v ∷ vs) (suc k) link is =
    ap (slice_get (links_of v ++ links_in vs)) (length-append (links_of v) (links_in (take k vs)))
    ∙ get-after (links_of v) (links_in vs) (length (links_in (take k vs)))
    ∙ link-after vs k link is

-- ---- texts

text-form : (f : Field) → f.form ≡ Text → (f.is_sum ≡ true → f.form ≡ Number Four) → f.is_sum ≡ false
text-form f form sum = by f.is_sum sum
  where
    by : (b : Bool) → (b ≡ true → f.form ≡ Number Four) → b ≡ false
    by false sum = refl
    by true sum = absurd (apart (sym form ∙ sum refl))
      where
        apart : Text ≡ Number Four → ⊥
        apart e = cc

-- a text without dimension is the same
pub text-kept : (order : Order) (numbers : List ℕ) (fields : List Field) (values : List Value) (bytes : List ℕ)
    (k : ℕ)
    (f : Field) (text : List ℕ) → AreSums fields → AreFields order numbers fields values bytes
    → slice_get fields k ≡ Some f → f.form ≡ Text → slice_get values k ≡ Some (value.Text text)
    → slice_get (with_sums_cleared fields (map unlinked values)) k ≡ Some (value.Text text)
text-kept order numbers [] values bytes k f text sums s at form is = absurd (none-some f at)
text-kept order numbers (g ∷ gs) [] bytes k f text sums s at form is = absurd s
text-kept order numbers (g ∷ gs) (v ∷ vs) bytes zero f text sums s at form is =
    let same = same_Some g f at in
    let other = text-form g (ap (λ (f : Field). f.form) same ∙ form) (λ sum. (sums.0 sum).0) in
    ap Some
    (ap (λ b. cond b (value.Num 0) (unlinked v)) other ∙ ap unlinked (same_Some v (value.Text text) is))
text-kept order numbers (g ∷ gs) (v ∷ vs) bytes (suc k) f text sums (front, rest, split, here, s) at form is =
    text-kept order numbers gs vs rest k f text sums.1 s at form is
