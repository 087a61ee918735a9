-- What a body's bytes hold, field by field, or the fault at the first field without a spelling.
use Rattle.std.specs.Prelude.{ℕ, zero, suc, ◌==◌, ◌||◌, nat_le, if◌then◌else◌, List, [], ◌∷◌, ◌++◌, length, take, drop}
use Rattle.std.specs.Prelude.{slice_index, Option, Result, Ok, Err}
use Rattle.std.specs.Result.{result_err}
use Rattle.scalar_types.specs.declared.Order.{Order}
use Rattle.scalar_types.specs.declared.Width.{Width}
use Rattle.scalar_types.specs.declared.Width.TheVariants.{One, Two, Four}
use Rattle.scalar_types.specs.Number.{number, size_of}
use Rattle.type_text.specs.declared.types.Link.{Link as StructLink}
use Rattle.record_values.specs.declared.values.Value.{Value}
use Rattle.record_values.specs.declared.values.Value.TheVariants as value
use Rattle.layout_plan.specs.declared.fields.Form.{Form}
use Rattle.layout_plan.specs.declared.fields.Form.TheVariants.{Number, Pair, Text, Link}
use Rattle.layout_plan.specs.declared.fields.Count.{Count}
use Rattle.layout_plan.specs.declared.fields.Field.{Field}
use Rattle.layout_plan.specs.declared.faults.BodyReason.{BodyReason}
use Rattle.layout_plan.specs.declared.faults.BodyReason.TheVariants.{BodyShort, BodyLong, BadText}
use Rattle.layout_plan.specs.declared.faults.BodyFault.{BodyFault}
use Rattle.layout_plan.specs.Body.{number_of, item_count}

-- what is found at the front of the bytes, with the bytes after it, or why there is none
abbrev pub Found : Type 0 → Type 0
Found X = Result (X × List ℕ) BodyReason

-- goes on after what is found
abbrev pub and_then : {A B E : Type 0} → Result A E → (A → Result B E) → Result B E
and_then (Ok x) f = f x
and_then (Err e) f = Err e

-- a function of what is found
abbrev pub found_map : {A B E : Type 0} → (A → B) → Result (A × List ℕ) E → Result (B × List ℕ) E
found_map f (Ok x) = Ok (f x.0, x.1)
found_map f (Err e) = Err e

-- so many bytes
abbrev pub bytes_in : ℕ → List ℕ → Found (List ℕ)
bytes_in n bytes = if nat_le n (length bytes) then Ok (take n bytes, drop n bytes) else Err BodyShort

-- a number of a width
abbrev pub number_in : Order → Width → List ℕ → Found ℕ
number_in order width bytes = found_map (number order) (bytes_in (size_of width) bytes)

-- a pair of numbers
abbrev pub pair_in : Order → Width → List ℕ → Found (ℕ × ℕ)
pair_in order width bytes =
    and_then (number_in order width bytes) (λ a. found_map (λ b. (a.0, b)) (number_in order width a.1))

-- the text of bytes of which the last closes it
abbrev pub closed_text : ℕ → List ℕ × List ℕ → Found (List ℕ)
closed_text n x = if slice_index x.0 n == 0 then Ok (take n x.0, x.1) else Err BadText

-- a text whose length with its closing zero byte is known
abbrev pub text_of_length : ℕ × List ℕ → Found (List ℕ)
text_of_length (zero, bytes) = Ok ([], bytes)
text_of_length (suc n, bytes) = and_then (bytes_in (suc n) bytes) (closed_text n)

-- a text
abbrev pub text_in : Order → List ℕ → Found (List ℕ)
text_in order bytes = and_then (number_in order Two bytes) text_of_length

-- a link
abbrev pub link_in : Order → List ℕ → Found StructLink
link_in order bytes =
    and_then (number_in order Two bytes)
    (λ class. found_map (λ n. record { class = class.0; instance = n }) (number_in order Four class.1))

-- so many items
unfoldable pub items_in : {X : Type 0} → (List ℕ → Found X) → ℕ → List ℕ → Found (List X)
items_in item zero bytes = Ok ([], bytes)
items_in item (suc n) bytes = and_then (item bytes) (λ x. found_map (λ xs. x.0 ∷ xs) (items_in item n x.1))

-- the value of a field without dimension
abbrev pub single_in : Order → Form → List ℕ → Found Value
single_in order (Number width) bytes = found_map value.Num (number_in order width bytes)
single_in order (Pair width) bytes = found_map (λ p. value.Pair p.0 p.1) (pair_in order width bytes)
single_in order Text bytes = found_map value.Text (text_in order bytes)
single_in order Link bytes = found_map value.Link (link_in order bytes)

-- the value of a field with dimensions, which has n items
abbrev pub listed_in : Order → Form → ℕ → List ℕ → Found Value
listed_in order (Number One) n bytes = found_map value.Bytes (items_in (number_in order One) n bytes)
listed_in order (Number width) n bytes = found_map value.Nums (items_in (number_in order width) n bytes)
listed_in order (Pair width) n bytes = found_map value.Pairs (items_in (pair_in order width) n bytes)
listed_in order Text n bytes = found_map value.Texts (items_in (text_in order) n bytes)
listed_in order Link n bytes = found_map value.Links (items_in (link_in order) n bytes)

-- the value of a field, by the numbers of the fields before it
abbrev pub field_in : Order → List ℕ → Form → List Count → List ℕ → Found Value
field_in order numbers form [] bytes = single_in order form bytes
field_in order numbers form (c ∷ cs) bytes = listed_in order form (item_count numbers (c ∷ cs)) bytes

-- what is found at a field, or the field's fault
abbrev pub at_field : {X : Type 0} → ℕ → Found X → Result (X × List ℕ) BodyFault
at_field i (Ok x) = Ok x
at_field i (Err reason) = Err (record { field = i; reason = reason })

-- the values of the fields after those with these numbers, or the first fault
abbrev pub fields_in : Order → List ℕ → List Field → List ℕ → Result (List Value × List ℕ) BodyFault
fields_in order numbers [] bytes = Ok ([], bytes)
fields_in order numbers (f ∷ fs) bytes =
    and_then (at_field (length numbers) (field_in order numbers f.form f.counts bytes))
    (λ v. found_map (λ vs. v.0 ∷ vs) (fields_in order (numbers ++ number_of v.0 ∷ []) fs v.1))

-- the values of n fields, where no bytes or four stand after them
abbrev pub whole_body : ℕ → List Value × List ℕ → Result (List Value × List ℕ) BodyFault
whole_body n x =
    if length x.1 == 0 || length x.1 == 4 then Ok x else Err (record { field = n; reason = BodyLong })

-- A body's values and tail, or its fault.
unfoldable pub body_in : Order → List Field → List ℕ → Result (List Value × List ℕ) BodyFault
body_in order fields bytes = and_then (fields_in order [] fields bytes) (whole_body (length fields))

-- The fault of a body that has no values.
abbrev pub fault_of : Order → List Field → List ℕ → Option BodyFault
fault_of order fields bytes = result_err (body_in order fields bytes)
