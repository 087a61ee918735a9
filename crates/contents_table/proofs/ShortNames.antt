-- Texts are short, since two bytes tell their length.
use Rattle.std.proofs.Common.{◌≡◌, ℕ, zero, suc, ◌≤◌, List, [], ◌∷◌, length, map, Some, subst}
use Rattle.std.specs.Prelude.{All, slice_get}
use Rattle.std.specs.List.{AllZip}
use Rattle.std.proofs.lemmas.Option.{none-some, same_Some}
use Rattle.scalar_types.specs.declared.Order.{Order}
use Rattle.scalar_types.specs.declared.Width.TheVariants.{One, Two, Four, Eight}
use Rattle.record_values.specs.declared.values.Value.{Value}
use Rattle.record_values.specs.declared.values.Value.TheVariants as value
use Rattle.layout_plan.specs.declared.fields.Form.{Form}
use Rattle.layout_plan.specs.declared.fields.Form.TheVariants.{Number, Pair, Text, Link}
use Rattle.layout_plan.specs.declared.fields.Count.{Count}
use Rattle.layout_plan.specs.declared.fields.Field.{Field}
use Rattle.layout_plan.specs.Body.{number_of, HasBody}
use Rattle.layout_plan.specs.Lent.{HasTextAt}
use Rattle.record_writer.specs.Fit.{IsShortText, FitsField}
use Rattle.record_writer.proofs.FitLemmas.{IsByte, body_fits}

-- a text that fits a field is short
short-single : (numbers : List ℕ) (form : Form) (counts : List Count) (text : List ℕ) →
    FitsField numbers form counts (value.Text text) → IsShortText text
short-single numbers Text [] text fits = fits
short-single numbers (Number width) [] text fits = absurd fits
short-single numbers (Pair width) [] text fits = absurd fits
short-single numbers Link [] text fits = absurd fits
short-single numbers (Number One) (c ∷ cs) text fits = absurd fits
short-single numbers (Number Two) (c ∷ cs) text fits = absurd fits
short-single numbers (Number Four) (c ∷ cs) text fits = absurd fits
short-single numbers (Number Eight) (c ∷ cs) text fits = absurd fits
short-single numbers (Pair width) (c ∷ cs) text fits = absurd fits
short-single numbers Text (c ∷ cs) text fits = absurd fits
short-single numbers Link (c ∷ cs) text fits = absurd fits

short-text : (numbers : List ℕ) (fields : List Field) (values : List Value) (k : ℕ) (text : List ℕ) →
    AllZip (λ (f : Field) (v : Value). FitsField numbers f.form f.counts v) fields values →
    slice_get values k ≡ Some (value.Text text) → IsShortText text
short-text numbers [] [] k text fit at = absurd (none-some (value.Text text) at)
short-text numbers [] (v ∷ vs) k text fit at = absurd fit
short-text numbers (f ∷ fs) [] k text fit at = absurd fit
short-text numbers (f ∷ fs) (v ∷ vs) zero text fit at =
    short-single numbers f.form f.counts text
    (subst (FitsField numbers f.form f.counts) (same_Some v (value.Text text) at) fit.0)
short-text numbers (f ∷ fs) (v ∷ vs) (suc k) text fit at = short-text numbers fs vs k text fit.1 at

-- The text of a field is short.
pub text-short : (order : Order) (fields : List Field) (body : List ℕ) (k : ℕ) (text : List ℕ) → All IsByte body
    → HasBody order fields body → HasTextAt order fields body k text → length text ≤ 65534
text-short order fields body k text bytes (values, tail, is) told =
    short-text (map number_of values) fields values k text (body_fits order fields values tail body bytes is)
    (told values tail is)
