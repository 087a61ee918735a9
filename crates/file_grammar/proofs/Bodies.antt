-- The readings of bodies, and those of the dictionary's own structures.
use Rattle.std.proofs.Common.{◌≡◌, ℕ, List, [], ◌∷◌, Option, Some, None, Result, Ok, Err, refl, sym, ap, ◌∙◌, subst}
use Rattle.std.proofs.Common.{arith}
use Rattle.std.specs.Prelude.{slice_get}
use Rattle.std.specs.List.{All}
use Rattle.std.specs.Option.{option_map}
use Rattle.std.specs.Result.{result_ok, result_err}
use Rattle.scalar_types.specs.declared.Order.{Order}
use Rattle.scalar_types.specs.declared.Width.{Width}
use Rattle.record_values.specs.declared.values.Value.{Value}
use Rattle.record_values.specs.declared.values.Value.TheVariants as value
use Rattle.layout_plan.specs.declared.fields.Form.{Form}
use Rattle.layout_plan.specs.declared.fields.Form.TheVariants.{Number, Text}
use Rattle.layout_plan.specs.declared.fields.Field.{Field}
use Rattle.layout_plan.specs.declared.faults.BodyFault.{BodyFault}
use Rattle.layout_plan.specs.Layout.{IsEarlier, AreSound}
use Rattle.layout_plan.specs.Body.{IsSingle, AreFields, IsBody}
use Rattle.layout_plan.specs.Reading.{body_in, fault_of}
use Rattle.layout_plan.specs.BuiltIn.{single, structure_fields, element_fields}
use Rattle.layout_plan.specs.Lent.{IsSingleField}
use Rattle.layout_plan.proofs.BodyLemmas.{body_in-found, body_in-again}
use Rattle.file_grammar.specs.Record.{Reading, reading_by}

-- a body that is found is read
abbrev read_of : List Field → Result (List Value × List ℕ) BodyFault → Option Reading
read_of fields found =
    option_map (λ found. record { fields = fields; values = found.0; tail = found.1 }) (result_ok found)

-- what is read of a body is spelled by it
pub reading-found : (order : Order) (body : List ℕ) (fields : List Field) (r : Reading) → AreSound 0 fields
    → reading_by order body fields ≡ Some r → IsBody order fields r.values r.tail body
reading-found order body fields r sound e = by (body_in order fields body) refl e
  where
    by : (x : Result (List Value × List ℕ) BodyFault) → body_in order fields body ≡ x → read_of fields x ≡ Some r
        → IsBody order fields r.values r.tail body
    by (Ok x) is f =
        let same : record { fields = fields; values = x.0; tail = x.1 } ≡ r = cc in
        subst (λ (r : Reading). IsBody order fields r.values r.tail body) same
        (body_in-found order fields sound body x.0 x.1 is)
    by (Err fault) is f = cc

pub reading-fields : (order : Order) (body : List ℕ) (fields : List Field) (r : Reading)
    → reading_by order body fields ≡ Some r → r.fields ≡ fields
reading-fields order body fields r e = by (body_in order fields body) e
  where
    by : (x : Result (List Value × List ℕ) BodyFault) → read_of fields x ≡ Some r → r.fields ≡ fields
    by (Ok x) f =
        let same : record { fields = fields; values = x.0; tail = x.1 } ≡ r = cc in
        sym (ap (λ (r : Reading). r.fields) same)
    by (Err fault) f = cc

-- and what it spells is read of it
pub reading-again : (order : Order) (body : List ℕ) (fields : List Field) (values : List Value) (tail : List ℕ)
    → AreSound 0 fields → IsBody order fields values tail body
    → reading_by order body fields ≡ Some (record { fields = fields; values = values; tail = tail })
reading-again order body fields values tail sound spelled =
    ap (read_of fields) (body_in-again order fields sound body values tail spelled)

-- a body is read where it has no fault
pub reading-unless_fault : (order : Order) (body : List ℕ) (fields : List Field) → fault_of order fields body ≡ None
    → (r : Reading) × (reading_by order body fields ≡ Some r)
reading-unless_fault order body fields none = by (body_in order fields body) none
  where
    by : (x : Result (List Value × List ℕ) BodyFault) → result_err x ≡ None → (r : Reading)
        × (read_of fields x ≡ Some r)
    by (Ok x) e = (record { fields = fields; values = x.0; tail = x.1 }, refl)
    by (Err fault) e = cc

pub no_fault-reading : (order : Order) (body : List ℕ) (fields : List Field) (r : Reading)
    → reading_by order body fields ≡ Some r → fault_of order fields body ≡ None
no_fault-reading order body fields r e = by (body_in order fields body) e
  where
    by : (x : Result (List Value × List ℕ) BodyFault) → read_of fields x ≡ Some r → result_err x ≡ None
    by (Ok x) f = refl
    by (Err fault) f = cc

pub unread-fault : (order : Order) (body : List ℕ) (fields : List Field) (f : BodyFault)
    → fault_of order fields body ≡ Some f → reading_by order body fields ≡ None
unread-fault order body fields f e = by (body_in order fields body) e
  where
    by : (x : Result (List Value × List ℕ) BodyFault) → result_err x ≡ Some f → read_of fields x ≡ None
    by (Ok x) g = cc
    by (Err fault) g = refl

-- ---- FrSH and FrSE

no_counts : (i : ℕ) → All (IsEarlier i) []
no_counts i k d lt = absurd (omega arith)

pub structure_fields-sound : AreSound 0 structure_fields
structure_fields-sound = (no_counts 0, (no_counts 1, (no_counts 2, tt)))

pub element_fields-sound : AreSound 0 element_fields
element_fields-sound = (no_counts 0, (no_counts 1, (no_counts 2, tt)))

-- a single field of a known layout
pub single-field : (fields known : List Field) (k : ℕ) (form : Form) → fields ≡ known
    → slice_get known k ≡ Some (single form) → IsSingleField fields k form
single-field fields known k form are is = record {
  field = single form;
  is = ap (λ fields. slice_get fields k) are ∙ is;
  form_is = refl;
  single = refl;
}

text-value : (order : Order) (v : Value) (bytes : List ℕ) → IsSingle order Text v bytes → (text : List ℕ)
    × (v ≡ value.Text text)
text-value order (value.Text text) bytes s = (text, refl)
text-value order v bytes s = absurd s

number-value : (order : Order) (width : Width) (v : Value) (bytes : List ℕ) → IsSingle order (Number width) v bytes
    → (n : ℕ) × (v ≡ value.Num n)
number-value order width (value.Num n) bytes s = (n, refl)
number-value order width v bytes s = absurd s

-- the values of an FrSH: its name, its class and its comment
pub structure-values : (order : Order) (numbers : List ℕ) (values : List Value) (bytes : List ℕ)
    → AreFields order numbers structure_fields values bytes → (name : List ℕ) × (class : ℕ) × (comment : List ℕ)
    × (values ≡ value.Text name ∷ value.Num class ∷ value.Text comment ∷ [])
structure-values order numbers [] bytes s = absurd s
structure-values order numbers (a ∷ []) bytes s = absurd s.4
structure-values order numbers (a ∷ b ∷ []) bytes s = absurd s.4.4
structure-values order numbers (a ∷ b ∷ c ∷ []) bytes s =
    let name = text-value order a s.0 s.3 in
    let class = number-value order _ b s.4.0 s.4.3 in
    let comment = text-value order c s.4.4.0 s.4.4.3 in
    (name.0, class.0, comment.0, λ i. name.1 i ∷ class.1 i ∷ comment.1 i ∷ [])
structure-values order numbers (a ∷ b ∷ c ∷ d ∷ vs) bytes s = absurd s.4.4.4

-- the values of an FrSE: its name, its type's text and its comment
pub element-values : (order : Order) (numbers : List ℕ) (values : List Value) (bytes : List ℕ)
    → AreFields order numbers element_fields values bytes → (name : List ℕ) × (text : List ℕ) × (comment : List ℕ)
    × (values ≡ value.Text name ∷ value.Text text ∷ value.Text comment ∷ [])
element-values order numbers [] bytes s = absurd s
element-values order numbers (a ∷ []) bytes s = absurd s.4
element-values order numbers (a ∷ b ∷ []) bytes s = absurd s.4.4
element-values order numbers (a ∷ b ∷ c ∷ []) bytes s =
    let name = text-value order a s.0 s.3 in
    let text = text-value order b s.4.0 s.4.3 in
    let comment = text-value order c s.4.4.0 s.4.4.3 in
    (name.0, text.0, comment.0, λ i. name.1 i ∷ text.1 i ∷ comment.1 i ∷ [])
element-values order numbers (a ∷ b ∷ c ∷ d ∷ vs) bytes s = absurd s.4.4.4
