-- A body read field by field.
use Rattle.std.proofs.Common.{◌≡◌, ℕ, ◌+◌, ◌<◌, ◌≤◌, ◌⊎◌, List, [], ◌∷◌, ◌++◌, length, drop, get_or, map, Some, Result}
use Rattle.std.proofs.Common.{Ok, Err, refl, sym, ap, ◌∙◌, append-nil}
use Rattle.std.proofs.lemmas.List.{length-append, drop_all, length-map}
use Rattle.std.specs.Result.{result_err}
use Rattle.scalar_types.specs.declared.Order.{Order}
use Rattle.record_values.specs.declared.values.Value.{Value}
use Rattle.layout_plan.specs.declared.fields.Field.{Field}
use Rattle.layout_plan.specs.declared.faults.BodyReason.{BodyReason}
use Rattle.layout_plan.specs.declared.faults.BodyReason.TheVariants.{BodyLong}
use Rattle.layout_plan.specs.declared.faults.BodyFault.{BodyFault}
use Rattle.layout_plan.specs.Layout.{AreSound}
use Rattle.layout_plan.specs.Body.{number_of, HasBody}
use Rattle.layout_plan.specs.Reading.{and_then, found_map, field_in, at_field, fields_in, whole_body, body_in, fault_of}
use Rattle.layout_plan.proofs.BodyLemmas.{ended-Ok, ended-Err, body_in-found, body_in-again}
use Rattle.layout_plan.proofs.WalkLemmas.{found_map-none, found_map-more, map-push, fields_in-drop}
use Rattle.record_reader.specs.declared.cursor.Stop.{Stop}
use Rattle.record_reader.specs.declared.cursor.Stop.TheVariants.{At, NoMemory}
use Rattle.record_reader.specs.Takes.{TakesOrStops}
use Rattle.record_reader.specs.ReadBody.{Reads, stop_of}

-- the values of the first i fields, their numbers, and what is left after them
pub record AreRead (order : Order) (fields : List Field) (body : List ℕ) (i : ℕ) (values : List Value)
    (numbers rest : List ℕ) : Type 0 where
  pub count : length values ≡ i
  pub numbers_are : numbers ≡ map number_of values
  pub reads : fields_in order [] fields body
      ≡ found_map (λ others. values ++ others) (fields_in order numbers (drop i fields) rest)

pub AreRead-none : (order : Order) (fields : List Field) (body : List ℕ) → AreRead order fields body 0 [] [] body
AreRead-none order fields body = record {
  count = refl;
  numbers_are = refl;
  reads = found_map-none (fields_in order [] fields body)
      ∙ ap (λ fs. found_map (λ others. [] ++ others) (fields_in order [] fs body)) (all fields);
}
  where
    all : (fs : List Field) → fs ≡ drop 0 fs
    all [] = refl
    all (f ∷ fs) = refl

-- one more field
pub AreRead-more : (order : Order) (fields : List Field) (body : List ℕ) (i : ℕ) (values : List Value)
    (numbers rest : List ℕ) (f : Field) (v : Value) (after : List ℕ) → AreRead order fields body i values numbers rest
    → i < length fields → f ≡ get_or fields i f → field_in order numbers f.form f.counts rest ≡ Ok (v, after)
    → AreRead order fields body (i + 1) (values ++ v ∷ []) (numbers ++ number_of v ∷ []) after
AreRead-more order fields body i values numbers rest f v after before lt is e = record {
  count = length-append values (v ∷ []) ∙ ap (λ n. n + 1) before.count;
  numbers_are = ap (λ ns. ns ++ number_of v ∷ []) before.numbers_are ∙ sym (map-push values v);
  reads =
      before.reads
      ∙ ap (found_map (λ others. values ++ others)) (fields_in-drop order numbers fields i f rest lt is
      ∙ ap (λ r. and_then (at_field (length numbers) r)
      (λ (w : Value × List ℕ). found_map (λ vs. w.0 ∷ vs)
      (fields_in order (numbers ++ number_of w.0 ∷ []) (drop (i + 1) fields) w.1))) e)
      ∙ found_map-more values v (fields_in order (numbers ++ number_of v ∷ []) (drop (i + 1) fields) after);
}

-- a body with a fault has no values
Reads-fault : (order : Order) (fields : List Field) (body : List ℕ) (fault : BodyFault) → AreSound 0 fields
    → body_in order fields body ≡ Err fault → (fault_of order fields body ≡ Some fault)
    × (HasBody order fields body → ⊥)
Reads-fault order fields body fault sound e =
    (ap result_err e, λ (values, tail, is). apart (sym e ∙ body_in-again order fields sound body values tail is))
  where
    apart : {x : List Value × List ℕ} → ◌≡◌ {A = Result (List Value × List ℕ) BodyFault} (Err fault) (Ok x) → ⊥
    apart f = cc

-- a field that is not read
pub AreRead-stops : (order : Order) (fields : List Field) (body : List ℕ) (i : ℕ) (values : List Value)
    (numbers rest : List ℕ) (f : Field) (stop : Stop) (left : List ℕ) → AreSound 0 fields
    → AreRead order fields body i values numbers rest → i < length fields → f ≡ get_or fields i f
    → TakesOrStops (field_in order numbers f.form f.counts rest) (Err stop) left
    → Reads order fields body (Err (stop_of i stop))
unfolding body_in
AreRead-stops order fields body i values numbers rest f (At reason) left sound before lt is e =
    Reads-fault order fields body (record { field = i; reason = reason }) sound
    (ap (λ r. and_then r (whole_body (length fields))) (before.reads
    ∙ ap (found_map (λ others. values ++ others)) (fields_in-drop order numbers fields i f rest lt is
    ∙ ap (λ r. and_then (at_field (length numbers) r)
    (λ (w : Value × List ℕ). found_map (λ vs. w.0 ∷ vs)
    (fields_in order (numbers ++ number_of w.0 ∷ []) (drop (i + 1) fields) w.1))) e))
    ∙ ap (λ n. Err (fault n reason)) (ap length before.numbers_are ∙ length-map values number_of ∙ before.count))
  where
    fault : ℕ → BodyReason → BodyFault
    fault n reason = record { field = n; reason = reason }
AreRead-stops order fields body i values numbers rest f NoMemory left sound before lt is e = e

-- all fields
AreRead-all : (order : Order) (fields : List Field) (body : List ℕ) (i : ℕ) (values : List Value)
    (numbers rest : List ℕ) → AreRead order fields body i values numbers rest → length fields ≤ i
    → fields_in order [] fields body ≡ Ok (values, rest)
AreRead-all order fields body i values numbers rest before le =
    before.reads
    ∙ ap (λ fs. found_map (λ others. values ++ others) (fields_in order numbers fs rest)) (drop_all i fields le)
    ∙ ap (λ vs. Ok (vs, rest)) (append-nil values)

pub AreRead-ends : (order : Order) (fields : List Field) (body : List ℕ) (i : ℕ) (values : List Value)
    (numbers rest : List ℕ) → AreSound 0 fields → AreRead order fields body i values numbers rest → length fields ≤ i
    → (length rest ≡ 0) ⊎ (length rest ≡ 4) → Reads order fields body (Ok values)
unfolding body_in
AreRead-ends order fields body i values numbers rest sound before le ends = (
  rest,
  body_in-found order fields sound body values rest
      (ap (λ r. and_then r (whole_body (length fields))) (AreRead-all order fields body i values numbers rest before le)
      ∙ ended-Ok (length fields) (values, rest) ends),
)

pub AreRead-long : (order : Order) (fields : List Field) (body : List ℕ) (i : ℕ) (values : List Value)
    (numbers rest : List ℕ) → AreSound 0 fields → AreRead order fields body i values numbers rest → length fields ≤ i
    → (length rest ≡ 0 → ⊥) → (length rest ≡ 4 → ⊥)
    → Reads order fields body (Err (stop_of (length fields) (At BodyLong)))
unfolding body_in
AreRead-long order fields body i values numbers rest sound before le some other =
    Reads-fault order fields body (record { field = length fields; reason = BodyLong }) sound
    (ap (λ r. and_then r (whole_body (length fields))) (AreRead-all order fields body i values numbers rest before le)
    ∙ ended-Err (length fields) (values, rest) some other)
