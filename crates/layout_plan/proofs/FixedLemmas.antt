-- Lists whose dimensions are numerals.
use Rattle.std.proofs.Common.{◌≡◌, ℕ, ◌*◌, ◌<◌, ◌≤◌, Bool, true, false, cond, List, [], ◌∷◌, Option, Some, None, refl}
use Rattle.std.proofs.Common.{sym, ap, ◌∙◌, arith, inl, inr}
use Rattle.std.specs.Prelude.{option_and_then}
use Rattle.std.proofs.lemmas.Bool.{cases_lt, le-leb, lt-leb}
use Rattle.std.proofs.lemmas.Option.{same_Some}
use Rattle.scalar_types.specs.declared.Width.TheVariants.{One, Two, Four, Eight}
use Rattle.layout_plan.specs.declared.fields.Form.{Form}
use Rattle.layout_plan.specs.declared.fields.Form.TheVariants.{Number, Pair, Text, Link}
use Rattle.layout_plan.specs.declared.fields.Count.{Count}
use Rattle.layout_plan.specs.declared.fields.Count.TheVariants.{Fixed, Of, OfSigned}
use Rattle.layout_plan.specs.Body.{item_count}
use Rattle.layout_plan.specs.Marks.{product_by, numeral_of, are_numerals, item_size, short_list, fixed_width}

-- numerals count whatever the numbers are
pub numeral-items : (numbers : List ℕ) (counts : List Count) → are_numerals counts ≡ true
    → item_count numbers counts ≡ product_by numeral_of counts
numeral-items numbers [] all = refl
numeral-items numbers (Fixed n ∷ cs) all = ap (λ p. n * p) (numeral-items numbers cs all)
numeral-items numbers (Of k ∷ cs) all = cc
numeral-items numbers (OfSigned k width ∷ cs) all = cc

pub numerals-on : (c : Count) (cs : List Count) → are_numerals (c ∷ []) ≡ true → are_numerals (c ∷ cs) ≡ are_numerals cs
numerals-on (Fixed n) cs is = refl
numerals-on (Of k) cs is = cc
numerals-on (OfSigned k width) cs is = cc

pub numerals-off : (c : Count) (cs : List Count) → are_numerals (c ∷ []) ≡ false → are_numerals (c ∷ cs) ≡ false
numerals-off (Fixed n) cs is = cc
numerals-off (Of k) cs is = refl
numerals-off (OfSigned k width) cs is = refl

pub short_list-long : (n size : ℕ) → 4096 < n * size → short_list n size ≡ None
short_list-long n size long = ap (λ b. cond {A = Option ℕ} b (Some (n * size)) None) (lt-leb (n * size) 4096 long)

pub short_list-short : (n size : ℕ) → n * size ≤ 4096 → short_list n size ≡ Some (n * size)
short_list-short n size le = ap (λ b. cond {A = Option ℕ} b (Some (n * size)) None) (le-leb (n * size) 4096 le)

short_list-is : (n size width : ℕ) → short_list n size ≡ Some width → (n * size ≡ width) × (n * size ≤ 4096)
short_list-is n size width is = elim (cases_lt 4096 (n * size)) [
  | inl long ↦ absurd (apart (sym (short_list-long n size long) ∙ is))
  | inr le ↦ (same_Some (n * size) width (sym (short_list-short n size le) ∙ is), le)
]
  where
    apart : ◌≡◌ {A = Option ℕ} None (Some width) → ⊥
    apart e = cc

-- a list of fixed width has so many items of a size
pub record IsShortList (form : Form) (counts : List Count) (width : ℕ) : Type 0 where
  pub size : ℕ
  pub sized : item_size form ≡ Some size
  pub all : are_numerals counts ≡ true
  pub same : product_by numeral_of counts * size ≡ width
  pub few : product_by numeral_of counts * size ≤ 4096

pub fixed-list : (form : Form) (c : Count) (cs : List Count) (width : ℕ) → fixed_width form (c ∷ cs) ≡ Some width
    → IsShortList form (c ∷ cs) width
fixed-list form c cs width is = by (are_numerals (c ∷ cs)) refl (item_size form) refl is
  where
    by : (b : Bool) → are_numerals (c ∷ cs) ≡ b → (o : Option ℕ) → item_size form ≡ o
        → cond {A = Option ℕ} b (option_and_then (short_list (product_by numeral_of (c ∷ cs))) o) None ≡ Some width
        → IsShortList form (c ∷ cs) width
    by false all o sized is = cc
    by true all None sized is = cc
    by true all (Some size) sized is =
        let s = short_list-is (product_by numeral_of (c ∷ cs)) size width is in
        record { size = size; sized = sized; all = all; same = s.0; few = s.1 }

pub item_size-low : (form : Form) (size : ℕ) → item_size form ≡ Some size → 0 < size
item_size-low (Number One) size is = omega (arith, same_Some 1 size is)
item_size-low (Number Two) size is = omega (arith, same_Some 2 size is)
item_size-low (Number Four) size is = omega (arith, same_Some 4 size is)
item_size-low (Number Eight) size is = omega (arith, same_Some 8 size is)
item_size-low (Pair One) size is = omega (arith, same_Some 2 size is)
item_size-low (Pair Two) size is = omega (arith, same_Some 4 size is)
item_size-low (Pair Four) size is = omega (arith, same_Some 8 size is)
item_size-low (Pair Eight) size is = omega (arith, same_Some 16 size is)
item_size-low Link size is = omega (arith, same_Some 6 size is)
item_size-low Text size is = cc
