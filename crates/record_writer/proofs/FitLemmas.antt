-- The values of a body fit its fields: so what was read may be written.
use Rattle.std.proofs.Common.{◌≡◌, ℕ, ◌+◌, ◌^◌, ◌<◌, List, [], ◌∷◌, ◌++◌, length, map, All, subst, arith, inl, inr}
use Rattle.std.specs.List.{AllZip}
use Rattle.std.proofs.lemmas.List.Elements.{All-nil, All-cons, All-head, All-tail}
use Rattle.scalar_types.specs.declared.Order.{Order}
use Rattle.scalar_types.specs.declared.Width.{Width}
use Rattle.scalar_types.specs.declared.Width.TheVariants.{One, Two, Four, Eight}
use Rattle.scalar_types.specs.Number.{number, size_of}
use Rattle.scalar_types.proofs.NumberBytes.{number-limit}
use Rattle.record_values.specs.declared.values.Value.{Value}
use Rattle.record_values.specs.declared.values.Value.TheVariants as value
use Rattle.record_values.specs.Spelling.{IsNumber, IsPair, IsText, AreItems}
use Rattle.layout_plan.specs.declared.fields.Form.{Form}
use Rattle.layout_plan.specs.declared.fields.Form.TheVariants.{Number, Pair, Text, Link}
use Rattle.layout_plan.specs.declared.fields.Count.{Count}
use Rattle.layout_plan.specs.declared.fields.Field.{Field}
use Rattle.layout_plan.specs.Body.{number_of, item_count, AreCounted, IsSingle, IsListed, IsField, AreFields, IsBody}
use Rattle.record_writer.specs.Fit.{FitsWidth, PairFitsWidth, IsShortText, AllCounted, FitsSingle, FitsListed}
use Rattle.record_writer.specs.Fit.{FitsField, Fits}

-- a byte as a number
abbrev pub IsByte : ℕ → Type 0
IsByte b = b < 256

-- the parts of bytes are bytes
parts : {X : Type 0} (P : X → Type 0) (xs ys : List X) → All P (xs ++ ys) → All P xs × All P ys
parts P [] ys all = (All-nil P, all)
parts P (x ∷ xs) ys all =
    let rest = parts P xs ys (All-tail P x (xs ++ ys) all) in
    (All-cons P x xs (All-head P x (xs ++ ys) all) rest.0, rest.1)

parts_of : (bytes front back : List ℕ) → bytes ≡ front ++ back → All IsByte bytes → All IsByte front × All IsByte back
parts_of bytes front back split all = parts IsByte front back (subst (All IsByte) split all)

number_fits : (order : Order) (width : Width) (n : ℕ) (bytes : List ℕ) → All IsByte bytes → IsNumber order width n bytes
    → FitsWidth width n
number_fits order width n bytes all h =
    subst (λ m. m < 256 ^ size_of width) h.value
    (subst (λ k. number order bytes < 256 ^ k) h.size (number-limit order bytes all))

pair_fits : (order : Order) (width : Width) (pair : ℕ × ℕ) (bytes : List ℕ) → All IsByte bytes
    → IsPair order width pair bytes → PairFitsWidth width pair
pair_fits order width pair bytes all h =
    let halves = parts_of bytes h.front h.back h.split all in
    (number_fits order width pair.0 h.front halves.0 h.first, number_fits order width pair.1 h.back halves.1 h.second)

text_fits : (order : Order) (text bytes : List ℕ) → All IsByte bytes → IsText order text bytes → IsShortText text
text_fits order text bytes all (inl h) =
    let front = (parts IsByte h.front text (parts_of bytes (h.front ++ text) (0 ∷ []) h.split all).0).0 in
    let below : length text + 1 < 256 ^ 2 = number_fits order Two (length text + 1) h.front front h.size in
    omega arith
text_fits order text bytes all (inr h) = rw h.empty (omega arith)

each_fits : {X : Type 0} (R : X → List ℕ → Type 0) (P : X → Type 0)
    → ((x : X) (bytes : List ℕ) → All IsByte bytes → R x bytes → P x) → (xs : List X) (bytes : List ℕ)
    → All IsByte bytes → AreItems R xs bytes → All P xs
each_fits R P one [] bytes all h = All-nil P
each_fits R P one (x ∷ xs) bytes all (front, rest, split, r, items) =
    let halves = parts_of bytes front rest split all in
    All-cons P x xs (one x front halves.0 r) (each_fits R P one xs rest halves.1 items)

items_fit : {X : Type 0} (R : X → List ℕ → Type 0) (P : X → Type 0)
    → ((x : X) (bytes : List ℕ) → All IsByte bytes → R x bytes → P x) → (n : ℕ) (xs : List X) (bytes : List ℕ)
    → All IsByte bytes → AreCounted R n xs bytes → AllCounted P n xs
items_fit R P one n xs bytes all h = (h.count, each_fits R P one xs bytes all h.items)

single_fits : (order : Order) (form : Form) (v : Value) (bytes : List ℕ) → All IsByte bytes
    → IsSingle order form v bytes → FitsSingle form v
single_fits order (Number width) (value.Num n) bytes all h = number_fits order width n bytes all h
single_fits order (Pair width) (value.Pair a b) bytes all h = pair_fits order width (a, b) bytes all h
single_fits order Text (value.Text text) bytes all h = text_fits order text bytes all h
single_fits order Link (value.Link link) bytes all h = tt
single_fits order form v bytes all h = absurd h

numbers_fit : (order : Order) (width : Width) (n : ℕ) (xs bytes : List ℕ) → All IsByte bytes
    → AreCounted (IsNumber order width) n xs bytes → AllCounted (FitsWidth width) n xs
numbers_fit order width n xs bytes all h =
    items_fit (IsNumber order width) (FitsWidth width) (number_fits order width) n xs bytes all h

listed_fits : (order : Order) (form : Form) (n : ℕ) (v : Value) (bytes : List ℕ) → All IsByte bytes
    → IsListed order form n v bytes → FitsListed form n v
listed_fits order (Number One) n (value.Bytes xs) bytes all h = h.count
listed_fits order (Number Two) n (value.Nums xs) bytes all h = numbers_fit order Two n xs bytes all h
listed_fits order (Number Four) n (value.Nums xs) bytes all h = numbers_fit order Four n xs bytes all h
listed_fits order (Number Eight) n (value.Nums xs) bytes all h = numbers_fit order Eight n xs bytes all h
listed_fits order (Pair width) n (value.Pairs xs) bytes all h =
    items_fit (IsPair order width) (PairFitsWidth width) (pair_fits order width) n xs bytes all h
listed_fits order Text n (value.Texts xs) bytes all h =
    items_fit (IsText order) IsShortText (text_fits order) n xs bytes all h
listed_fits order Link n (value.Links xs) bytes all h = h.count
listed_fits order form n v bytes all h = absurd h

field_fits : (order : Order) (numbers : List ℕ) (form : Form) (counts : List Count) (v : Value) (bytes : List ℕ)
    → All IsByte bytes → IsField order numbers form counts v bytes → FitsField numbers form counts v
field_fits order numbers form [] v bytes all h = single_fits order form v bytes all h
field_fits order numbers form (c ∷ cs) v bytes all h =
    listed_fits order form (item_count numbers (c ∷ cs)) v bytes all h

fields_fit : (order : Order) (numbers : List ℕ) (fields : List Field) (values : List Value) (bytes : List ℕ)
    → All IsByte bytes → AreFields order numbers fields values bytes
    → AllZip (λ f v. FitsField numbers f.form f.counts v) fields values
fields_fit order numbers [] [] bytes all h = tt
fields_fit order numbers [] (v ∷ vs) bytes all h = absurd h
fields_fit order numbers (f ∷ fs) [] bytes all h = absurd h
fields_fit order numbers (f ∷ fs) (v ∷ vs) bytes all (front, rest, split, field, fields) =
    let halves = parts_of bytes front rest split all in (
      field_fits order numbers f.form f.counts v front halves.0 field,
      fields_fit order numbers fs vs rest halves.1 fields,
    )

-- the values of a body fit its fields
pub body_fits : (order : Order) (fields : List Field) (values : List Value) (tail bytes : List ℕ) → All IsByte bytes
    → IsBody order fields values tail bytes → Fits fields values
body_fits order fields values tail bytes all h =
    fields_fit order (map number_of values) fields values h.front (parts_of bytes h.front tail h.split all).0 h.spelled
