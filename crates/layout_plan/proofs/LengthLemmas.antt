-- How many bytes the fields of a body take, by its values and the texts that are spelled by a length of 0 alone.
use Rattle.std.proofs.Common.{◌≡◌, ℕ, ◌+◌, ◌*◌, List, [], ◌∷◌, ◌++◌, length, map, sum_by, sym, ap, ◌∙◌, arith}
use Rattle.std.proofs.Common.{inl, inr, add-zero, add_comm}
use Rattle.std.proofs.Math.Nat.{suc-mul, zero-mul}
use Rattle.std.proofs.lemmas.List.{length-append}
use Rattle.std.proofs.lemmas.List.Sums.{sum_by-cons}
use Rattle.scalar_types.specs.declared.Order.{Order}
use Rattle.scalar_types.specs.declared.Width.{Width}
use Rattle.scalar_types.specs.declared.Width.TheVariants.{One, Two, Four, Eight}
use Rattle.scalar_types.specs.Number.{size_of}
use Rattle.type_text.specs.declared.types.Link.{Link as StructLink}
use Rattle.record_values.specs.declared.values.Value.{Value}
use Rattle.record_values.specs.declared.values.Value.TheVariants as value
use Rattle.record_values.specs.Spelling.{IsNumber, IsPair, IsText, IsLink, AreItems}
use Rattle.layout_plan.specs.declared.fields.Form.{Form}
use Rattle.layout_plan.specs.declared.fields.Form.TheVariants.{Number, Pair, Text, Link}
use Rattle.layout_plan.specs.declared.fields.Count.{Count}
use Rattle.layout_plan.specs.declared.fields.Field.{Field}
use Rattle.layout_plan.specs.Body.{number_of, item_count, IsSingle, IsListed, IsField, AreFields, text_length}
use Rattle.layout_plan.specs.Body.{value_length, values_length, zero_text, zero_texts_in, zero_texts_single}
use Rattle.layout_plan.specs.Body.{zero_texts_listed, zero_texts_field, zero_texts_fields}
use Rattle.layout_plan.specs.BodyLaws.{LengthsAreTold}

-- items that each have so many bytes
items-size : {X : Type 0} (R : X → List ℕ → Type 0) (size : ℕ)
    → ((x : X) (bytes : List ℕ) → R x bytes → length bytes ≡ size) → (xs : List X) (bytes : List ℕ)
    → AreItems R xs bytes → length bytes ≡ length xs * size
items-size R size each [] bytes s = ap length s ∙ sym (zero-mul size)
items-size R size each (x ∷ xs) bytes (front, rest, split, here, others) =
    ap length split
    ∙ length-append front rest
    ∙ (λ i. each x front here i + items-size R size each xs rest others i)
    ∙ sym (suc-mul (length xs) size ∙ add_comm (length xs * size) size)

pair-size : (order : Order) (width : Width) (pair : ℕ × ℕ) (bytes : List ℕ) → IsPair order width pair bytes
    → length bytes ≡ 2 * size_of width
pair-size order width pair bytes s =
    omega (arith, ap length s.split ∙ length-append s.front s.back, s.first.size, s.second.size)

link-size : (order : Order) (link : StructLink) (bytes : List ℕ) → IsLink order link bytes → length bytes ≡ 6
link-size order link bytes s =
    omega (arith, ap length s.split ∙ length-append s.front s.back, s.class.size, s.instance.size)

text-length : (order : Order) (text bytes : List ℕ) (s : IsText order text bytes)
    → length bytes + zero_text order text bytes s ≡ text_length text
text-length order text bytes (inl s) =
    omega (arith, ap length s.split ∙ length-append (s.front ++ text) (0 ∷ []), length-append s.front text, s.size.size)
text-length order text bytes (inr s) = omega (arith, s.size.size, ap length s.empty)

texts-length : (order : Order) (texts : List (List ℕ)) (bytes : List ℕ) (s : AreItems (IsText order) texts bytes)
    → length bytes + zero_texts_in order texts bytes s ≡ sum_by text_length texts
texts-length order [] bytes s = omega (arith, ap length s)
texts-length order (t ∷ ts) bytes (front, rest, split, here, others) =
    omega (
      arith,
      ap length split ∙ length-append front rest,
      text-length order t front here,
      texts-length order ts rest others,
      sum_by-cons text_length t ts,
    )

single-length : (order : Order) (form : Form) (v : Value) (bytes : List ℕ) (s : IsSingle order form v bytes)
    → length bytes + zero_texts_single order form v bytes s ≡ value_length form v
single-length order (Number width) (value.Num n) bytes s = omega (arith, s.size)
single-length order (Pair width) (value.Pair a b) bytes s = omega (arith, pair-size order width (a, b) bytes s)
single-length order Text (value.Text text) bytes s = text-length order text bytes s
single-length order Link (value.Link link) bytes s = omega (arith, link-size order link bytes s)
single-length order form v bytes s = absurd s

numbers-length : (order : Order) (width : Width) (xs : List ℕ) (bytes : List ℕ)
    → AreItems (IsNumber order width) xs bytes → length bytes + 0 ≡ length xs * size_of width
numbers-length order width xs bytes s =
    add-zero (length bytes) ∙ items-size (IsNumber order width) (size_of width) (λ x bytes s. s.size) xs bytes s

listed-length : (order : Order) (form : Form) (n : ℕ) (v : Value) (bytes : List ℕ) (s : IsListed order form n v bytes)
    → length bytes + zero_texts_listed order form n v bytes s ≡ value_length form v
listed-length order (Number One) n (value.Bytes xs) bytes s = numbers-length order One xs bytes s.items
listed-length order (Number Two) n (value.Nums xs) bytes s = numbers-length order Two xs bytes s.items
listed-length order (Number Four) n (value.Nums xs) bytes s = numbers-length order Four xs bytes s.items
listed-length order (Number Eight) n (value.Nums xs) bytes s = numbers-length order Eight xs bytes s.items
listed-length order (Pair width) n (value.Pairs xs) bytes s =
    add-zero (length bytes) ∙ items-size (IsPair order width) (2 * size_of width) (pair-size order width)
    xs bytes s.items
listed-length order Text n (value.Texts xs) bytes s = texts-length order xs bytes s.items
listed-length order Link n (value.Links xs) bytes s =
    add-zero (length bytes) ∙ items-size (IsLink order) 6 (link-size order) xs bytes s.items
listed-length order form n v bytes s = absurd s

field-length : (order : Order) (numbers : List ℕ) (form : Form) (counts : List Count) (v : Value) (bytes : List ℕ)
    (s : IsField order numbers form counts v bytes)
    → length bytes + zero_texts_field order numbers form counts v bytes s ≡ value_length form v
field-length order numbers form [] v bytes s = single-length order form v bytes s
field-length order numbers form (c ∷ cs) v bytes s = listed-length order form (item_count numbers (c ∷ cs)) v bytes s

pub fields-length : (order : Order) (numbers : List ℕ) (fields : List Field) (values : List Value) (bytes : List ℕ)
    (s : AreFields order numbers fields values bytes)
    → length bytes + zero_texts_fields order numbers fields values bytes s ≡ values_length fields values
fields-length order numbers [] [] bytes s = omega (arith, ap length s)
fields-length order numbers [] (v ∷ vs) bytes s = absurd s
fields-length order numbers (f ∷ fs) [] bytes s = absurd s
fields-length order numbers (f ∷ fs) (v ∷ vs) bytes (front, rest, split, here, others) =
    omega (
      arith,
      ap length split ∙ length-append front rest,
      field-length order numbers f.form f.counts v front here,
      fields-length order numbers fs vs rest others,
    )

-- a body's bytes, by its values
pub body-length : LengthsAreTold
body-length order fields values tail bytes body =
    omega (
      arith,
      ap length body.split ∙ length-append body.front tail,
      fields-length order (map number_of values) fields values body.front body.spelled,
    )
