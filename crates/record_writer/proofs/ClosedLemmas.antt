-- Spellings whose texts are closed are spellings, and no text in them is spelled by a length of 0 alone.
use Rattle.std.proofs.Common.{◌≡◌, ℕ, List, [], ◌∷◌, map, refl, sym, inl, arith, append-nil, Result, Ok, Err, OnOk}
use Rattle.scalar_types.specs.declared.Order.{Order}
use Rattle.scalar_types.specs.declared.Order.TheVariants.{Big, Little}
use Rattle.scalar_types.specs.declared.Width.{Width}
use Rattle.scalar_types.specs.declared.Width.TheVariants.{One, Two, Four, Eight}
use Rattle.scalar_types.specs.Number.{number}
use Rattle.record_values.specs.declared.values.Value.{Value}
use Rattle.record_values.specs.declared.values.Value.TheVariants as value
use Rattle.record_values.specs.Spelling.{IsNumber, IsClosedText, IsText, AreItems}
use Rattle.layout_plan.specs.declared.fields.Form.{Form}
use Rattle.layout_plan.specs.declared.fields.Form.TheVariants.{Number, Pair, Text, Link}
use Rattle.layout_plan.specs.declared.fields.Count.{Count}
use Rattle.layout_plan.specs.declared.fields.Field.{Field}
use Rattle.layout_plan.specs.Appends.{Appends}
use Rattle.layout_plan.specs.Body.{number_of, item_count, IsSingleBy, IsListedBy, IsFieldBy, IsSingle, IsListed}
use Rattle.layout_plan.specs.Body.{IsField, AreFields, IsBody, zero_texts_in, zero_texts_single, zero_texts_listed}
use Rattle.layout_plan.specs.Body.{zero_texts_field, zero_texts_fields}
use Rattle.layout_plan.specs.Layout.{AreSound}
use Rattle.layout_plan.specs.Written.{AreClosedFields, IsWritten}
use Rattle.layout_plan.proofs.AppendLemmas.{Appends-as}
use Rattle.layout_plan.proofs.BodyLemmas.{body_in-again}
use Rattle.layout_plan.proofs.LengthLemmas.{fields-length}
use Rattle.record_writer.specs.Fit.{FitsListed}

-- a byte is a number of one byte
number-byte : (order : Order) (n : ℕ) → number order (n ∷ []) ≡ n
number-byte Big n = omega arith
number-byte Little n = omega arith

AreItems-bytes : (order : Order) (xs : List ℕ) → AreItems (IsNumber order One) xs xs
AreItems-bytes order [] = refl
AreItems-bytes order (x ∷ xs) =
    (x ∷ [], xs, refl, record { size = refl; value = number-byte order x }, AreItems-bytes order xs)

by_width : (order : Order) (width : Width) (n : ℕ) (xs : List ℕ) → FitsListed (Number width) n (value.Bytes xs)
    → IsListedBy (IsClosedText order) order (Number width) n (value.Bytes xs) xs
by_width order One n xs h = record { count = h; items = AreItems-bytes order xs }
by_width order Two n xs h = absurd h
by_width order Four n xs h = absurd h
by_width order Eight n xs h = absurd h

-- a list of bytes spells itself
pub bytes_listed : (order : Order) (form : Form) (width : Width) (n : ℕ) (v : Value) (xs ys : List ℕ)
    → form ≡ Number width → v ≡ value.Bytes xs → ys ≡ xs → FitsListed form n v
    → IsListedBy (IsClosedText order) order form n v ys
bytes_listed order form width n v xs ys form-is v-is same h =
    rw (form-is, v-is, same) (by_width order width n xs (rw (form-is, v-is) at h))

closed_texts : (order : Order) (xs : List (List ℕ)) (bytes : List ℕ) → AreItems (IsClosedText order) xs bytes
    → (s : AreItems (IsText order) xs bytes) × (zero_texts_in order xs bytes s ≡ 0)
closed_texts order [] bytes h = (h, refl)
closed_texts order (x ∷ xs) bytes (front, rest, split, here, items) =
    let others = closed_texts order xs rest items in
    ((front, rest, split, inl here, others.0), omega (arith, others.1))

closed_single : (order : Order) (form : Form) (v : Value) (bytes : List ℕ)
    → IsSingleBy (IsClosedText order) order form v bytes → (s : IsSingle order form v bytes)
    × (zero_texts_single order form v bytes s ≡ 0)
closed_single order (Number width) (value.Num n) bytes h = (h, refl)
closed_single order (Pair width) (value.Pair a b) bytes h = (h, refl)
closed_single order Text (value.Text text) bytes h = (inl h, refl)
closed_single order Link (value.Link link) bytes h = (h, refl)
closed_single order form v bytes h = absurd h

closed_listed : (order : Order) (form : Form) (n : ℕ) (v : Value) (bytes : List ℕ)
    → IsListedBy (IsClosedText order) order form n v bytes → (s : IsListed order form n v bytes)
    × (zero_texts_listed order form n v bytes s ≡ 0)
closed_listed order (Number One) n (value.Bytes xs) bytes h = (h, refl)
closed_listed order (Number Two) n (value.Nums xs) bytes h = (h, refl)
closed_listed order (Number Four) n (value.Nums xs) bytes h = (h, refl)
closed_listed order (Number Eight) n (value.Nums xs) bytes h = (h, refl)
closed_listed order (Pair width) n (value.Pairs xs) bytes h = (h, refl)
closed_listed order Text n (value.Texts xs) bytes h =
    let texts = closed_texts order xs bytes h.items in
    (record { count = h.count; items = texts.0 }, texts.1)
closed_listed order Link n (value.Links xs) bytes h = (h, refl)
closed_listed order form n v bytes h = absurd h

closed_field : (order : Order) (numbers : List ℕ) (form : Form) (counts : List Count) (v : Value) (bytes : List ℕ)
    → IsFieldBy (IsClosedText order) order numbers form counts v bytes → (s : IsField order numbers form counts v bytes)
    × (zero_texts_field order numbers form counts v bytes s ≡ 0)
closed_field order numbers form [] v bytes h = closed_single order form v bytes h
closed_field order numbers form (c ∷ cs) v bytes h = closed_listed order form (item_count numbers (c ∷ cs)) v bytes h

-- fields whose texts are closed are fields
closed_fields : (order : Order) (numbers : List ℕ) (fields : List Field) (values : List Value) (bytes : List ℕ)
    → AreClosedFields order numbers fields values bytes → (s : AreFields order numbers fields values bytes)
    × (zero_texts_fields order numbers fields values bytes s ≡ 0)
closed_fields order numbers [] [] bytes h = (h, refl)
closed_fields order numbers [] (v ∷ vs) bytes h = absurd h
closed_fields order numbers (f ∷ fs) [] bytes h = absurd h
closed_fields order numbers (f ∷ fs) (v ∷ vs) bytes (front, rest, split, here, fields) =
    let first = closed_field order numbers f.form f.counts v front here in
    let others = closed_fields order numbers fs vs rest fields in
    ((front, rest, split, first.0, others.0), omega (arith, first.1, others.1))

-- fields whose texts are closed are what is written
written_body : (order : Order) (fields : List Field) (values : List Value) (bytes : List ℕ) → AreSound 0 fields
    → AreClosedFields order (map number_of values) fields values bytes → IsWritten order fields values bytes
written_body order fields values bytes sound closed =
    let spelled = closed_fields order (map number_of values) fields values bytes closed in
    let body : IsBody order fields values [] bytes = record {
      front = bytes;
      split = sym (append-nil bytes);
      spelled = spelled.0;
      ends = inl refl;
    } in
    record {
      body = body;
      closed = closed;
      size = omega (arith, fields-length order (map number_of values) fields values bytes spelled.0, spelled.1);
      again = body_in-again order fields sound bytes values [] body;
    }

-- what is appended where nothing is refused is what is written
pub appends_body : {A E : Type 0} (r : Result A E) (order : Order) (fields : List Field) (values : List Value)
    (old new : List ℕ) → AreSound 0 fields
    → Appends (λ bytes. OnOk r (AreClosedFields order (map number_of values) fields values bytes)) old new
    → OnOk r (Appends (IsWritten order fields values) old new)
appends_body (Ok x) order fields values old new sound h =
    Appends-as (AreClosedFields order (map number_of values) fields values) (IsWritten order fields values) old new h
    (λ bytes closed. written_body order fields values bytes sound closed)
appends_body (Err e) order fields values old new sound h = tt
