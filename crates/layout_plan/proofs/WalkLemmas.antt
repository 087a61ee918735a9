-- A body read field by field.
use Rattle.std.proofs.Common.{◌≡◌, ℕ, ◌+◌, ◌-◌, ◌<◌, ◌⊎◌, ◌↔◌, IsOk, List, [], ◌∷◌, ◌++◌, length, drop, get_or, map}
use Rattle.std.proofs.Common.{Result, Ok, Err, refl, sym, ap, ◌∙◌, subst, arith, append_assoc}
use Rattle.std.proofs.lemmas.List.{length-drop, take_all, at_drop_more}
use Rattle.std.proofs.lemmas.Bool.{false≢true}
use Rattle.scalar_types.specs.declared.Order.{Order}
use Rattle.record_values.specs.declared.values.Value.{Value}
use Rattle.layout_plan.specs.declared.fields.Field.{Field}
use Rattle.layout_plan.specs.declared.faults.BodyReason.TheVariants.{BodyLong}
use Rattle.layout_plan.specs.declared.faults.BodyFault.{BodyFault}
use Rattle.layout_plan.specs.Layout.{AreSound}
use Rattle.layout_plan.specs.Body.{number_of, values_length, IsMeasured, IsBody, HasBody}
use Rattle.layout_plan.specs.Links.{HasLinks}
use Rattle.layout_plan.specs.Walking.{IsReached, TellsBody}
use Rattle.layout_plan.specs.declared.faults.Measured.{Measured}
use Rattle.layout_plan.specs.Reading.{and_then, found_map, field_in, at_field, fields_in, whole_body, body_in}
use Rattle.layout_plan.proofs.LengthLemmas.{body-length}
use Rattle.layout_plan.proofs.BodyLemmas.{ended-Ok, ended-Err, body_in-found, body_in-again}

pub found_map-none : (r : Result (List Value × List ℕ) BodyFault) → r ≡ found_map (λ others. [] ++ others) r
found_map-none (Ok x) = refl
found_map-none (Err fault) = refl

pub found_map-more : (vs : List Value) (v : Value) (r : Result (List Value × List ℕ) BodyFault)
    → found_map (λ others. vs ++ others) (found_map (λ others. v ∷ others) r)
    ≡ found_map (λ others. (vs ++ v ∷ []) ++ others) r
found_map-more vs v (Ok x) = ap (λ zs. Ok (zs, x.1)) (sym (append_assoc vs (v ∷ []) x.0))
found_map-more vs v (Err fault) = refl

pub map-push : (vs : List Value) (v : Value) → map number_of (vs ++ v ∷ []) ≡ map number_of vs ++ number_of v ∷ []
map-push [] v = refl
map-push (w ∷ vs) v = ap (λ ns. number_of w ∷ ns) (map-push vs v)

-- the reading from one field on
pub fields_in-drop : (order : Order) (numbers : List ℕ) (fields : List Field) (i : ℕ) (f : Field) (bytes : List ℕ)
    → i < length fields → f ≡ get_or fields i f
    → fields_in order numbers (drop i fields) bytes
    ≡ and_then (at_field (length numbers) (field_in order numbers f.form f.counts bytes))
    (λ v. found_map (λ vs. v.0 ∷ vs) (fields_in order (numbers ++ number_of v.0 ∷ []) (drop (i + 1) fields) v.1))
fields_in-drop order numbers fields i f bytes lt is =
    at_drop_more (λ fs. fields_in order numbers fs bytes) fields i f lt
    ∙ ap (λ g. fields_in order numbers (g ∷ drop (i + 1) fields) bytes) (sym is)

pub fields_in-fault : (order : Order) (fields : List Field) (body : List ℕ) (fault : BodyFault)
    → fields_in order [] fields body ≡ Err fault → body_in order fields body ≡ Err fault
unfolding body_in
fields_in-fault order fields body fault e = ap (λ r. and_then r (whole_body (length fields))) e

-- all fields
pub IsReached-all : (order : Order) (fields : List Field) (body : List ℕ) (at zero_texts : ℕ)
    (before : IsReached order fields body (length fields) at zero_texts)
    → fields_in order [] fields body ≡ Ok (before.values, drop at body)
IsReached-all order fields body at zero_texts before =
    ap (λ fs. fields_in order [] fs body) (sym (take_all (length fields) fields (omega arith))) ∙ before.reads

pub IsReached-body : (order : Order) (fields : List Field) (body : List ℕ) (at zero_texts : ℕ) → AreSound 0 fields
    → (before : IsReached order fields body (length fields) at zero_texts) → (length body - at ≡ 0)
    ⊎ (length body - at ≡ 4) → IsBody order fields before.values (drop at body) body
unfolding body_in
IsReached-body order fields body at zero_texts sound before ends =
    body_in-found order fields sound body before.values (drop at body)
    (ap (λ r. and_then r (whole_body (length fields))) (IsReached-all order fields body at zero_texts before)
    ∙ ended-Ok (length fields) (before.values, drop at body)
    (subst (λ n. (n ≡ 0) ⊎ (n ≡ 4)) (sym (length-drop at body)) ends))

pub IsReached-ends : (order : Order) (fields : List Field) (body : List ℕ) (at zero_texts links : ℕ) → AreSound 0 fields
    → IsReached order fields body (length fields) at zero_texts → HasLinks order fields body links
    → (length body - at ≡ 0) ⊎ (length body - at ≡ 4) → IsMeasured order fields body links zero_texts
IsReached-ends order fields body at zero_texts links sound before counted ends = record {
  values = before.values;
  tail = drop at body;
  body = is_body;
  links_are = counted before.values (drop at body) is_body;
  zero_texts_are = let all =
      ap (λ fs. values_length fs before.values) (take_all (length fields) fields (omega arith)) in
      omega (
        arith,
        before.sizes,
        before.within,
        all,
        length-drop at body,
        body-length order fields before.values (drop at body) body is_body,
      );
}
  where
    is_body : IsBody order fields before.values (drop at body) body
    is_body = IsReached-body order fields body at zero_texts sound before ends

pub IsReached-long : (order : Order) (fields : List Field) (body : List ℕ) (at zero_texts : ℕ)
    → IsReached order fields body (length fields) at zero_texts → (length body - at ≡ 0 → ⊥)
    → (length body - at ≡ 4 → ⊥) → body_in order fields body ≡ Err (record { field = length fields; reason = BodyLong })
unfolding body_in
IsReached-long order fields body at zero_texts before some other =
    ap (λ r. and_then r (whole_body (length fields))) (IsReached-all order fields body at zero_texts before)
    ∙ ended-Err (length fields) (before.values, drop at body) (λ e. some (sym (length-drop at body) ∙ e))
    (λ e. other (sym (length-drop at body) ∙ e))

-- a body is measured just where it has values and a tail
pub TellsBody-ok : (order : Order) (fields : List Field) (bytes : List ℕ) (r : Result Measured BodyFault)
    → AreSound 0 fields → TellsBody order fields bytes r → IsOk r ↔ HasBody order fields bytes
TellsBody-ok order fields bytes (Ok m) sound told = (λ _. (told.values, told.tail, told.body), λ _. refl)
TellsBody-ok order fields bytes (Err fault) sound told = (
  λ none. absurd (false≢true none),
  λ (values, tail, body). absurd (apart (sym told ∙ body_in-again order fields sound bytes values tail body)),
)
  where
    apart : {x : List Value × List ℕ} → ◌≡◌ {A = Result (List Value × List ℕ) BodyFault} (Err fault) (Ok x) → ⊥
    apart e = cc
