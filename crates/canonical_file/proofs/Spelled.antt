-- The bytes of values are what is written of them, and nothing else is.
use Rattle.std.proofs.Common.{◌≡◌, ℕ, ◌+◌, List, [], ◌∷◌, ◌++◌, length, map, flat_map, All, refl, sym, ap}
use Rattle.std.proofs.Common.{◌∙◌, subst, arith}
use Rattle.std.specs.List.{AllZip, AllByRecursion}
use Rattle.std.proofs.lemmas.List.Elements.{All-head, All-tail, All-nil, All-cons}
use Rattle.scalar_types.specs.declared.Width.{Width}
use Rattle.scalar_types.specs.declared.Width.TheVariants.{One, Two, Four, Eight}
use Rattle.scalar_types.specs.declared.Order.TheVariants.{Little}
use Rattle.scalar_types.proofs.NumberBytes.{bytes_of-length, number-bytes_of, bytes_of-number}
use Rattle.type_text.specs.declared.types.Link.{Link as StructLink}
use Rattle.record_values.specs.declared.values.Value.{Value}
use Rattle.record_values.specs.declared.values.Value.TheVariants as value
use Rattle.record_values.specs.Spelling.{IsNumber, IsPair, IsClosedText, IsLink, AreItems}
use Rattle.layout_plan.specs.declared.fields.Form.{Form}
use Rattle.layout_plan.specs.declared.fields.Form.TheVariants.{Number, Pair, Text, Link}
use Rattle.layout_plan.specs.declared.fields.Count.{Count}
use Rattle.layout_plan.specs.declared.fields.Field.{Field}
use Rattle.layout_plan.specs.Layout.{AreSound}
use Rattle.layout_plan.specs.Body.{number_of, item_count, AreCounted, IsSingleBy, IsListedBy, IsFieldBy}
use Rattle.layout_plan.specs.Written.{AreClosedFields, IsWritten}
use Rattle.layout_plan.proofs.WrittenLemmas.{closed-written}
use Rattle.record_writer.specs.Fit.{FitsWidth, PairFitsWidth, IsShortText, FitsSingle, FitsListed, FitsField, Fits}
use Rattle.canonical_file.specs.Ranges.{IsByte, AreBytes, IsLinkInRange, IsInRange}
use Rattle.canonical_file.specs.Bytes.{number_bytes, pair_bytes, text_bytes, link_bytes, value_bytes, body_bytes}

-- ---- they spell the values

number-spelled : (width : Width) (n : ℕ) → FitsWidth width n → IsNumber Little width n (number_bytes width n)
number-spelled width n fits =
    record { size = bytes_of-length Little width n; value = number-bytes_of Little width n fits }

pair-spelled : (width : Width) (pair : ℕ × ℕ) → PairFitsWidth width pair
    → IsPair Little width pair (pair_bytes width pair)
pair-spelled width pair fits = record {
  front = number_bytes width pair.0;
  back = number_bytes width pair.1;
  split = refl;
  first = number-spelled width pair.0 fits.0;
  second = number-spelled width pair.1 fits.1;
}

text-spelled : (text : List ℕ) → IsShortText text → IsClosedText Little text (text_bytes text)
text-spelled text short = record {
  front = number_bytes Two (length text + 1);
  split = refl;
  size = number-spelled Two (length text + 1) (omega arith);
}

link-spelled : (link : StructLink) → IsLinkInRange link → IsLink Little link (link_bytes link)
link-spelled link range = record {
  front = number_bytes Two link.class;
  back = number_bytes Four link.instance;
  split = refl;
  class = number-spelled Two link.class range.0;
  instance = number-spelled Four link.instance range.1;
}

items-spelled : {X : Type 0} (R : X → List ℕ → Type 0) (P : X → Type 0) (f : X → List ℕ) → ((x : X) → P x → R x (f x))
    → (xs : List X) → All P xs → AreItems R xs (flat_map f xs)
items-spelled R P f one [] all = refl
items-spelled R P f one (x ∷ xs) all =
    (f x, flat_map f xs, refl, one x (All-head P x xs all), items-spelled R P f one xs (All-tail P x xs all))

counted-spelled : {X : Type 0} (R : X → List ℕ → Type 0) (P : X → Type 0) (f : X → List ℕ)
    → ((x : X) → P x → R x (f x)) → (n : ℕ) (xs : List X) → length xs ≡ n → All P xs → AreCounted R n xs (flat_map f xs)
counted-spelled R P f one n xs count all = record { count = count; items = items-spelled R P f one xs all }

single-spelled : (form : Form) (v : Value) → FitsSingle form v → IsInRange v
    → IsSingleBy (IsClosedText Little) Little form v (value_bytes form v)
single-spelled (Number width) (value.Num n) fits range = number-spelled width n fits
single-spelled (Pair width) (value.Pair a b) fits range = pair-spelled width (a, b) fits
single-spelled Text (value.Text text) fits range = text-spelled text fits
single-spelled Link (value.Link link) fits range = link-spelled link range
single-spelled form v fits range = absurd fits

numbers-spelled : (width : Width) (n : ℕ) (xs : List ℕ) → (length xs ≡ n) × All (FitsWidth width) xs
    → AreCounted (IsNumber Little width) n xs (flat_map (number_bytes width) xs)
numbers-spelled width n xs fits =
    counted-spelled (IsNumber Little width) (FitsWidth width) (number_bytes width) (number-spelled width) n xs
    fits.0 fits.1

listed-spelled : (form : Form) (n : ℕ) (v : Value) → FitsListed form n v → IsInRange v
    → IsListedBy (IsClosedText Little) Little form n v (value_bytes form v)
listed-spelled (Number One) n (value.Bytes xs) fits range =
    counted-spelled (IsNumber Little One) IsByte (number_bytes One) (λ x h. number-spelled One x h) n xs fits range
listed-spelled (Number Two) n (value.Nums xs) fits range = numbers-spelled Two n xs fits
listed-spelled (Number Four) n (value.Nums xs) fits range = numbers-spelled Four n xs fits
listed-spelled (Number Eight) n (value.Nums xs) fits range = numbers-spelled Eight n xs fits
listed-spelled (Pair width) n (value.Pairs xs) fits range =
    counted-spelled (IsPair Little width) (PairFitsWidth width) (pair_bytes width) (pair-spelled width) n xs
    fits.0 fits.1
listed-spelled Text n (value.Texts xs) fits range =
    counted-spelled (IsClosedText Little) IsShortText text_bytes text-spelled n xs fits.0 fits.1
listed-spelled Link n (value.Links xs) fits range =
    counted-spelled (IsLink Little) IsLinkInRange link_bytes link-spelled n xs fits range
listed-spelled form n v fits range = absurd fits

field-spelled : (numbers : List ℕ) (form : Form) (counts : List Count) (v : Value) → FitsField numbers form counts v
    → IsInRange v → IsFieldBy (IsClosedText Little) Little numbers form counts v (value_bytes form v)
field-spelled numbers form [] v fits range = single-spelled form v fits range
field-spelled numbers form (c ∷ cs) v fits range = listed-spelled form (item_count numbers (c ∷ cs)) v fits range

fields-spelled : (numbers : List ℕ) (fields : List Field) (values : List Value)
    → AllZip (λ f v. FitsField numbers f.form f.counts v) fields values → AllByRecursion IsInRange values
    → AreClosedFields Little numbers fields values (body_bytes fields values)
fields-spelled numbers [] [] fit range = refl
fields-spelled numbers [] (v ∷ vs) fit range = absurd fit
fields-spelled numbers (f ∷ fs) [] fit range = absurd fit
fields-spelled numbers (f ∷ fs) (v ∷ vs) fit range = (
  value_bytes f.form v,
  body_bytes fs vs,
  refl,
  field-spelled numbers f.form f.counts v fit.0 range.0,
  fields-spelled numbers fs vs fit.1 range.1,
)

-- The bytes of values that fit are what is written of them.
pub body-written : (fields : List Field) (values : List Value) → AreSound 0 fields → Fits fields values
    → AllByRecursion IsInRange values → IsWritten Little fields values (body_bytes fields values)
body-written fields values sound fit range =
    closed-written Little fields values (body_bytes fields values) sound
    (fields-spelled (map number_of values) fields values fit range)

-- ---- no other bytes do

number-is : (width : Width) (n : ℕ) (bytes : List ℕ) → AreBytes bytes → IsNumber Little width n bytes
    → bytes ≡ number_bytes width n
number-is width n bytes all h =
    sym (bytes_of-number Little width bytes all h.size) ∙ ap (number_bytes width) h.value

pub parts : {X : Type 0} (P : X → Type 0) (xs ys : List X) → All P (xs ++ ys) → All P xs × All P ys
parts P [] ys all = (All-nil P, all)
parts P (x ∷ xs) ys all =
    let rest = parts P xs ys (All-tail P x (xs ++ ys) all) in
    (All-cons P x xs (All-head P x (xs ++ ys) all) rest.0, rest.1)

pub parts_of : (bytes front back : List ℕ) → bytes ≡ front ++ back → AreBytes bytes → AreBytes front × AreBytes back
parts_of bytes front back split all = parts IsByte front back (subst AreBytes split all)

pair-is : (width : Width) (pair : ℕ × ℕ) (bytes : List ℕ) → AreBytes bytes → IsPair Little width pair bytes
    → bytes ≡ pair_bytes width pair
pair-is width pair bytes all h =
    let both = parts_of bytes h.front h.back h.split all in
    h.split
    ∙ (λ i. number-is width pair.0 h.front both.0 h.first i ++ number-is width pair.1 h.back both.1 h.second i)

text-is : (text bytes : List ℕ) → AreBytes bytes → IsClosedText Little text bytes → bytes ≡ text_bytes text
text-is text bytes all h =
    let first = parts_of bytes (h.front ++ text) (0 ∷ []) h.split all in
    let both = parts IsByte h.front text first.0 in
    h.split ∙ ap (λ front. front ++ text ++ 0 ∷ []) (number-is Two (length text + 1) h.front both.0 h.size)

link-is : (link : StructLink) (bytes : List ℕ) → AreBytes bytes → IsLink Little link bytes → bytes ≡ link_bytes link
link-is link bytes all h =
    let both = parts_of bytes h.front h.back h.split all in
    h.split
    ∙ (λ i. number-is Two link.class h.front both.0 h.class i
    ++ number-is Four link.instance h.back both.1 h.instance i)

items-is : {X : Type 0} (R : X → List ℕ → Type 0) (f : X → List ℕ)
    → ((x : X) (bytes : List ℕ) → AreBytes bytes → R x bytes → bytes ≡ f x) → (xs : List X) (bytes : List ℕ)
    → AreBytes bytes → AreItems R xs bytes → bytes ≡ flat_map f xs
items-is R f one [] bytes all h = h
items-is R f one (x ∷ xs) bytes all (front, rest, split, r, items) =
    let both = parts_of bytes front rest split all in
    split ∙ (λ i. one x front both.0 r i ++ items-is R f one xs rest both.1 items i)

single-is : (form : Form) (v : Value) (bytes : List ℕ) → AreBytes bytes
    → IsSingleBy (IsClosedText Little) Little form v bytes → bytes ≡ value_bytes form v
single-is (Number width) (value.Num n) bytes all h = number-is width n bytes all h
single-is (Pair width) (value.Pair a b) bytes all h = pair-is width (a, b) bytes all h
single-is Text (value.Text text) bytes all h = text-is text bytes all h
single-is Link (value.Link link) bytes all h = link-is link bytes all h
single-is form v bytes all h = absurd h

listed-is : (form : Form) (n : ℕ) (v : Value) (bytes : List ℕ) → AreBytes bytes
    → IsListedBy (IsClosedText Little) Little form n v bytes → bytes ≡ value_bytes form v
listed-is (Number One) n (value.Bytes xs) bytes all h =
    items-is (IsNumber Little One) (number_bytes One) (number-is One) xs bytes all h.items
listed-is (Number Two) n (value.Nums xs) bytes all h =
    items-is (IsNumber Little Two) (number_bytes Two) (number-is Two) xs bytes all h.items
listed-is (Number Four) n (value.Nums xs) bytes all h =
    items-is (IsNumber Little Four) (number_bytes Four) (number-is Four) xs bytes all h.items
listed-is (Number Eight) n (value.Nums xs) bytes all h =
    items-is (IsNumber Little Eight) (number_bytes Eight) (number-is Eight) xs bytes all h.items
listed-is (Pair width) n (value.Pairs xs) bytes all h =
    items-is (IsPair Little width) (pair_bytes width) (pair-is width) xs bytes all h.items
listed-is Text n (value.Texts xs) bytes all h = items-is (IsClosedText Little) text_bytes text-is xs bytes all h.items
listed-is Link n (value.Links xs) bytes all h = items-is (IsLink Little) link_bytes link-is xs bytes all h.items
listed-is form n v bytes all h = absurd h

field-is : (numbers : List ℕ) (form : Form) (counts : List Count) (v : Value) (bytes : List ℕ) → AreBytes bytes
    → IsFieldBy (IsClosedText Little) Little numbers form counts v bytes → bytes ≡ value_bytes form v
field-is numbers form [] v bytes all h = single-is form v bytes all h
field-is numbers form (c ∷ cs) v bytes all h = listed-is form (item_count numbers (c ∷ cs)) v bytes all h

fields-is : (numbers : List ℕ) (fields : List Field) (values : List Value) (bytes : List ℕ) → AreBytes bytes
    → AreClosedFields Little numbers fields values bytes → bytes ≡ body_bytes fields values
fields-is numbers [] [] bytes all h = h
fields-is numbers [] (v ∷ vs) bytes all h = absurd h
fields-is numbers (f ∷ fs) [] bytes all h = absurd h
fields-is numbers (f ∷ fs) (v ∷ vs) bytes all (front, rest, split, r, items) =
    let both = parts_of bytes front rest split all in
    split
    ∙ (λ i. field-is numbers f.form f.counts v front both.0 r i ++ fields-is numbers fs vs rest both.1 items i)

-- What is written of values, as bytes, is the bytes of the values.
pub written-is : (fields : List Field) (values : List Value) (bytes : List ℕ) → AreBytes bytes
    → IsWritten Little fields values bytes → bytes ≡ body_bytes fields values
written-is fields values bytes all h = fields-is (map number_of values) fields values bytes all h.closed
