-- Bodies as they are written: spellings whose texts are closed are bodies, and have the length of their values.
use Rattle.std.proofs.Common.{◌≡◌, ℕ, ◌+◌, ◌*◌, List, [], ◌∷◌, ◌++◌, length, map, sum_by, refl, sym, ◌∙◌, inl, arith}
use Rattle.std.proofs.Common.{append-nil}
use Rattle.std.proofs.lemmas.List.{length-append}
use Rattle.std.proofs.lemmas.List.Sums.{sum_by-cons}
use Rattle.scalar_types.specs.declared.Order.{Order}
use Rattle.scalar_types.specs.declared.Width.{Width}
use Rattle.scalar_types.specs.declared.Width.TheVariants.{One, Two, Four, Eight}
use Rattle.scalar_types.specs.Number.{size_of}
use Rattle.record_values.specs.declared.values.Value.{Value}
use Rattle.record_values.specs.declared.values.Value.TheVariants as value
use Rattle.record_values.specs.Spelling.{IsNumber, IsPair, IsClosedText, IsText, IsLink, AreItems}
use Rattle.type_text.specs.declared.types.Link.{Link as StructLink}
use Rattle.layout_plan.specs.declared.fields.Form.{Form}
use Rattle.layout_plan.specs.declared.fields.Form.TheVariants.{Number, Pair, Text, Link}
use Rattle.layout_plan.specs.declared.fields.Count.{Count}
use Rattle.layout_plan.specs.declared.fields.Field.{Field}
use Rattle.layout_plan.specs.Body.{number_of, item_count, AreCounted, IsSingleBy, IsListedBy, IsFieldBy, IsSingle}
use Rattle.layout_plan.specs.Body.{IsListed, IsField, AreFields, IsBody, text_length, value_length, values_length}
use Rattle.layout_plan.specs.Layout.{AreSound}
use Rattle.layout_plan.specs.Written.{AreClosedFields, IsWritten}
use Rattle.layout_plan.proofs.BodyLemmas.{body_in-again}

-- ---- closed texts are texts

-- a relation that says less
pub AreItems-as : {X : Type 0} (R S : X → List ℕ → Type 0) → ((x : X) (bytes : List ℕ) → R x bytes → S x bytes)
    → (xs : List X) (bytes : List ℕ) → AreItems R xs bytes → AreItems S xs bytes
AreItems-as R S to [] bytes h = h
AreItems-as R S to (x ∷ xs) bytes (front, rest, split, r, items) =
    (front, rest, split, to x front r, AreItems-as R S to xs rest items)

closed-single : (order : Order) (form : Form) (v : Value) (bytes : List ℕ)
    → IsSingleBy (IsClosedText order) order form v bytes → IsSingle order form v bytes
closed-single order (Number width) (value.Num n) bytes h = h
closed-single order (Pair width) (value.Pair a b) bytes h = h
closed-single order Text (value.Text text) bytes h = inl h
closed-single order Link (value.Link link) bytes h = h
closed-single order form v bytes h = absurd h

closed-listed : (order : Order) (form : Form) (n : ℕ) (v : Value) (bytes : List ℕ)
    → IsListedBy (IsClosedText order) order form n v bytes → IsListed order form n v bytes
closed-listed order (Number One) n (value.Bytes xs) bytes h = h
closed-listed order (Number Two) n (value.Nums xs) bytes h = h
closed-listed order (Number Four) n (value.Nums xs) bytes h = h
closed-listed order (Number Eight) n (value.Nums xs) bytes h = h
closed-listed order (Pair width) n (value.Pairs xs) bytes h = h
closed-listed order Text n (value.Texts xs) bytes h = record {
  count = h.count;
  items = AreItems-as (IsClosedText order) (IsText order) (λ x bytes r. inl r) xs bytes h.items;
}
closed-listed order Link n (value.Links xs) bytes h = h
closed-listed order form n v bytes h = absurd h

closed-field : (order : Order) (numbers : List ℕ) (form : Form) (counts : List Count) (v : Value) (bytes : List ℕ)
    → IsFieldBy (IsClosedText order) order numbers form counts v bytes → IsField order numbers form counts v bytes
closed-field order numbers form [] v bytes h = closed-single order form v bytes h
closed-field order numbers form (c ∷ cs) v bytes h = closed-listed order form (item_count numbers (c ∷ cs)) v bytes h

-- fields whose texts are closed are fields
pub closed-fields : (order : Order) (numbers : List ℕ) (fields : List Field) (values : List Value) (bytes : List ℕ)
    → AreClosedFields order numbers fields values bytes → AreFields order numbers fields values bytes
closed-fields order numbers [] [] bytes h = h
closed-fields order numbers [] (v ∷ vs) bytes h = absurd h
closed-fields order numbers (f ∷ fs) [] bytes h = absurd h
closed-fields order numbers (f ∷ fs) (v ∷ vs) bytes (front, rest, split, r, items) = (
  front,
  rest,
  split,
  closed-field order numbers f.form f.counts v front r,
  closed-fields order numbers fs vs rest items,
)

-- ---- their lengths

-- two parts of known lengths
length-parts : (bytes front back : List ℕ) (a b : ℕ) → bytes ≡ front ++ back → length front ≡ a → length back ≡ b
    → length bytes ≡ a + b
length-parts bytes front back a b split f g = rw split (omega (arith, length-append front back))

pair-length : (order : Order) (width : Width) (pair : ℕ × ℕ) (bytes : List ℕ) → IsPair order width pair bytes
    → length bytes ≡ 2 * size_of width
pair-length order width pair bytes h =
    omega (arith, length-parts bytes h.front h.back (size_of width) (size_of width) h.split h.first.size h.second.size)

text-length : (order : Order) (text bytes : List ℕ) → IsClosedText order text bytes → length bytes ≡ text_length text
text-length order text bytes h =
    rw h.split (omega (arith, length-append (h.front ++ text) (0 ∷ []), length-append h.front text, h.size.size))

link-length : (order : Order) (link : StructLink) (bytes : List ℕ) → IsLink order link bytes → length bytes ≡ 6
link-length order link bytes h = length-parts bytes h.front h.back 2 4 h.split h.class.size h.instance.size

items-length : {X : Type 0} (R : X → List ℕ → Type 0) (k : ℕ)
    → ((x : X) (bytes : List ℕ) → R x bytes → length bytes ≡ k) → (xs : List X) (bytes : List ℕ) → AreItems R xs bytes
    → length bytes ≡ length xs * k
items-length R k one [] bytes h = rw h (omega arith)
items-length R k one (x ∷ xs) bytes (front, rest, split, r, items) =
    length-parts bytes front rest k (length xs * k) split (one x front r)
    (items-length R k one xs rest items) ∙ omega arith

texts-length : (order : Order) (xs : List (List ℕ)) (bytes : List ℕ) → AreItems (IsClosedText order) xs bytes
    → length bytes ≡ sum_by text_length xs
texts-length order [] bytes h = rw h refl
texts-length order (x ∷ xs) bytes (front, rest, split, r, items) =
    length-parts bytes front rest (text_length x) (sum_by text_length xs) split (text-length order x front r)
    (texts-length order xs rest items) ∙ sym (sum_by-cons text_length x xs)

single-length : (order : Order) (form : Form) (v : Value) (bytes : List ℕ)
    → IsSingleBy (IsClosedText order) order form v bytes → length bytes ≡ value_length form v
single-length order (Number width) (value.Num n) bytes h = h.size
single-length order (Pair width) (value.Pair a b) bytes h = pair-length order width (a, b) bytes h
single-length order Text (value.Text text) bytes h = text-length order text bytes h
single-length order Link (value.Link link) bytes h = link-length order link bytes h
single-length order form v bytes h = absurd h

numbers-length : (order : Order) (width : Width) (n : ℕ) (xs bytes : List ℕ)
    → AreCounted (IsNumber order width) n xs bytes → length bytes ≡ length xs * size_of width
numbers-length order width n xs bytes h =
    items-length (IsNumber order width) (size_of width) (λ x bytes r. r.size) xs bytes h.items

listed-length : (order : Order) (form : Form) (n : ℕ) (v : Value) (bytes : List ℕ)
    → IsListedBy (IsClosedText order) order form n v bytes → length bytes ≡ value_length form v
listed-length order (Number One) n (value.Bytes xs) bytes h = numbers-length order One n xs bytes h
listed-length order (Number Two) n (value.Nums xs) bytes h = numbers-length order Two n xs bytes h
listed-length order (Number Four) n (value.Nums xs) bytes h = numbers-length order Four n xs bytes h
listed-length order (Number Eight) n (value.Nums xs) bytes h = numbers-length order Eight n xs bytes h
listed-length order (Pair width) n (value.Pairs xs) bytes h =
    items-length (IsPair order width) (2 * size_of width) (pair-length order width) xs bytes h.items
listed-length order Text n (value.Texts xs) bytes h = texts-length order xs bytes h.items
listed-length order Link n (value.Links xs) bytes h = items-length (IsLink order) 6 (link-length order) xs bytes h.items
listed-length order form n v bytes h = absurd h

field-length : (order : Order) (numbers : List ℕ) (form : Form) (counts : List Count) (v : Value) (bytes : List ℕ)
    → IsFieldBy (IsClosedText order) order numbers form counts v bytes → length bytes ≡ value_length form v
field-length order numbers form [] v bytes h = single-length order form v bytes h
field-length order numbers form (c ∷ cs) v bytes h = listed-length order form (item_count numbers (c ∷ cs)) v bytes h

-- fields whose texts are closed have the length of their values
pub closed-length : (order : Order) (numbers : List ℕ) (fields : List Field) (values : List Value) (bytes : List ℕ)
    → AreClosedFields order numbers fields values bytes → length bytes ≡ values_length fields values
closed-length order numbers [] [] bytes h = rw h refl
closed-length order numbers [] (v ∷ vs) bytes h = absurd h
closed-length order numbers (f ∷ fs) [] bytes h = absurd h
closed-length order numbers (f ∷ fs) (v ∷ vs) bytes (front, rest, split, r, items) =
    length-parts bytes front rest (value_length f.form v) (values_length fs vs) split
    (field-length order numbers f.form f.counts v front r) (closed-length order numbers fs vs rest items)

-- ---- what is written

-- fields whose texts are closed are what is written
pub closed-written : (order : Order) (fields : List Field) (values : List Value) (bytes : List ℕ) → AreSound 0 fields
    → AreClosedFields order (map number_of values) fields values bytes → IsWritten order fields values bytes
closed-written order fields values bytes sound closed =
    let body : IsBody order fields values [] bytes = record {
      front = bytes;
      split = sym (append-nil bytes);
      spelled = closed-fields order (map number_of values) fields values bytes closed;
      ends = inl refl;
    } in
    record {
      body = body;
      closed = closed;
      size = closed-length order (map number_of values) fields values bytes closed;
      again = body_in-again order fields sound bytes values [] body;
    }
