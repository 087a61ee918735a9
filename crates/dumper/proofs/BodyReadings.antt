-- What a body holds by its layout, where it spells it, and its text.
use Rattle.std.proofs.Common.{◌≡◌, ℕ, List, [], length, Some, None, Result, Ok, Err, refl, sym, ap, ◌∙◌}
use Rattle.std.specs.Prelude.{codes}
use Rattle.std.specs.Option.{option_map, option_map_or}
use Rattle.std.specs.Result.{result_ok}
use Rattle.std.proofs.lemmas.Option.{same_Some}
use Rattle.scalar_types.specs.declared.Order.{Order}
use Rattle.record_values.specs.declared.values.Value.{Value}
use Rattle.dictionary.specs.declared.entries.Element.{Element}
use Rattle.layout_plan.specs.declared.fields.Field.{Field}
use Rattle.layout_plan.specs.declared.faults.BodyFault.{BodyFault}
use Rattle.layout_plan.specs.Layout.{AreSound, layout_of}
use Rattle.layout_plan.specs.Body.{IsTail, HasBody}
use Rattle.layout_plan.specs.Reading.{and_then, fields_in, whole_body, body_in}
use Rattle.layout_plan.proofs.LayoutLemmas.{layout_of-sound}
use Rattle.layout_plan.proofs.ExactLemmas.{and_then-Ok}
use Rattle.layout_plan.proofs.BodyLemmas.{ended-Ok, ended-tail, body_in-again, body_in-found}
use Rattle.file_grammar.specs.Record.{Reading, reading_by}
use Rattle.dumper.specs.Lines.{reading_text, body_text}

-- a body that spells the layout, as its fields and the tail
pub record AreRead (order : Order) (fields : List Field) (body : List ℕ) (values : List Value)
    (tail : List ℕ) : Type 0 where
  pub whole : fields_in order [] fields body ≡ Ok (values, tail)
  pub ends : IsTail tail

pub has-read : (order : Order) (fields : List Field) (body : List ℕ) → AreSound 0 fields → HasBody order fields body
    → (values : List Value) × (tail : List ℕ) × AreRead order fields body values tail
unfolding body_in
has-read order fields body sound (values, tail, is) =
    let x = and_then-Ok (fields_in order [] fields body) (whole_body (length fields)) (values, tail)
    (body_in-again order fields sound body values tail is) in
    let e = ended-tail (length fields) x.0 (values, tail) x.2 in
    (x.0.0, x.0.1, record { whole = x.1; ends = e.0 })

reading_with : List Field → List Value × List ℕ → Reading
reading_with fields found = record { fields = fields; values = found.0; tail = found.1 }

-- what a reading is
reading-with : (order : Order) (fields : List Field) (body : List ℕ)
    → reading_by order body fields ≡ option_map (reading_with fields) (result_ok (body_in order fields body))
unfolding reading_with
reading-with order fields body = refl

-- the one reading of a body
pub reading-is : (order : Order) (fields : List Field) (body : List ℕ) (values : List Value) (tail : List ℕ)
    (reading : Reading) → AreRead order fields body values tail → reading_by order body fields ≡ Some reading
    → (values ≡ reading.values) × (tail ≡ reading.tail)
unfolding body_in reading_with
reading-is order fields body values tail reading read is =
    let e = ap (λ r. and_then r (whole_body (length fields))) read.whole
    ∙ ended-Ok (length fields) (values, tail) read.ends in
    let same = same_Some (reading_with fields (values, tail)) reading
    (ap (λ r. option_map (reading_with fields) (result_ok r)) (sym e) ∙ is) in
    (ap (λ (r : Reading). r.values) same, ap (λ (r : Reading). r.tail) same)

-- a body that spells the layout has a reading
has-reading : (order : Order) (fields : List Field) (body : List ℕ) → AreSound 0 fields
    → HasBody order fields body → (reading : Reading) × (reading_by order body fields ≡ Some reading)
has-reading order fields body sound (values, tail, is) = (
  reading_with fields (values, tail),
  reading-with order fields body
      ∙ ap (λ r. option_map (reading_with fields) (result_ok r)) (body_in-again order fields sound body values tail is),
)

-- and another has none
no-reading : (order : Order) (fields : List Field) (body : List ℕ) → AreSound 0 fields
    → (HasBody order fields body → ⊥) → reading_by order body fields ≡ None
no-reading order fields body sound none =
    reading-with order fields body ∙ by (body_in order fields body) refl
  where
    by : (r : Result (List Value × List ℕ) BodyFault) → body_in order fields body ≡ r
        → option_map (reading_with fields) (result_ok r) ≡ None
    by (Ok x) is = absurd (none (x.0, x.1, body_in-found order fields sound body x.0 x.1 is))
    by (Err fault) is = refl

-- a body that its layout reads
pub text-read : (order : Order) (elements : List Element) (fields : List Field) (body : List ℕ) (reading : Reading)
    → layout_of elements ≡ Some fields → reading_by order body fields ≡ Some reading
    → reading_text elements reading ≡ body_text order elements (layout_of elements) body
text-read order elements fields body reading layout reads =
    ap (λ o. option_map_or (reading_text elements) o (codes "  unread\n")) (sym reads)
    ∙ ap (λ o. body_text order elements o body) (sym layout)

-- and one that is not read
pub text-unread : (order : Order) (elements : List Element) (fields : List Field) (body : List ℕ)
    → layout_of elements ≡ Some fields → (HasBody order fields body → ⊥)
    → codes "  unread\n" ≡ body_text order elements (layout_of elements) body
text-unread order elements fields body layout none =
    ap (λ o. option_map_or (reading_text elements) o (codes "  unread\n"))
    (sym (no-reading order fields body (layout_of-sound elements fields layout) none))
    ∙ ap (λ o. body_text order elements o body) (sym layout)

-- and one of no readable layout
pub text-without : (order : Order) (elements : List Element) (body : List ℕ) → layout_of elements ≡ None
    → codes "  unread\n" ≡ body_text order elements (layout_of elements) body
text-without order elements body none = ap (λ o. body_text order elements o body) (sym none)

-- a body with a reading is read
pub layout-read : (order : Order) (elements : List Element) (fields : List Field) (body : List ℕ)
    → layout_of elements ≡ Some fields → HasBody order fields body
    → (reading : Reading) × (reading_by order body fields ≡ Some reading)
layout-read order elements fields body layout has =
    has-reading order fields body (layout_of-sound elements fields layout) has
