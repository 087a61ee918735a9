-- How many bytes a field takes at the front of some.
use Rattle.std.proofs.Common.{◌≡◌, ℕ, suc, ◌+◌, ◌*◌, ◌-◌, ◌<◌, ◌≤◌, List, [], ◌∷◌, ◌++◌, length, take, drop, min}
use Rattle.std.proofs.Common.{Ok, refl, sym, ap, ◌∙◌, subst, arith, inl, inr, append_assoc}
use Rattle.std.proofs.Math.Nat.{suc-mul, zero-mul}
use Rattle.std.proofs.lemmas.List.{length-append, length-drop, take_at, drop_at, drop-drop}
use Rattle.scalar_types.specs.declared.Order.{Order}
use Rattle.scalar_types.specs.declared.Width.{Width}
use Rattle.scalar_types.specs.declared.Width.TheVariants.{One, Two, Four, Eight}
use Rattle.scalar_types.specs.Number.{number, size_of}
use Rattle.type_text.specs.declared.types.Link.{Link as StructLink}
use Rattle.record_values.specs.declared.values.Value.{Value}
use Rattle.record_values.specs.declared.values.Value.TheVariants as value
use Rattle.record_values.specs.Spelling.{IsNumber, IsPair, IsText, IsLink, AreItems}
use Rattle.layout_plan.specs.declared.fields.Form.{Form}
use Rattle.layout_plan.specs.declared.fields.Form.TheVariants.{Number, Pair, Text, Link}
use Rattle.layout_plan.specs.declared.fields.Count.{Count}
use Rattle.layout_plan.specs.declared.faults.BodyReason.{BodyReason}
use Rattle.layout_plan.specs.Exact.{IsExact}
use Rattle.layout_plan.specs.Body.{item_count, IsField}
use Rattle.layout_plan.specs.Reading.{Found, and_then, found_map, number_in, pair_in, text_in, link_in, items_in}
use Rattle.layout_plan.specs.Reading.{listed_in, field_in}
use Rattle.layout_plan.specs.Respelled.{BeginsText}
use Rattle.layout_plan.proofs.ExactLemmas.{Ok-same, and_then-Ok, found_map-Ok, number_in-exact, pair_in-exact}
use Rattle.layout_plan.proofs.ExactLemmas.{text_in-exact, link_in-exact, items_in-exact}
use Rattle.layout_plan.proofs.BodyLemmas.{field_in-exact}
use Rattle.layout_plan.proofs.SpelledLemmas.{field_in-listed, items_in-suc, items_in-zero}
use Rattle.dumper.specs.Spans.{StandsFirst, IsSpan, AreTextSpans, IsTextSpan}

-- ---- a text

-- a text has two bytes more than these two count
pub text-span : (order : Order) (bytes : List ℕ) (n : ℕ) → n ≡ number order (take 2 bytes)
    → IsTextSpan order bytes (2 + n)
text-span order bytes n read text front rest split (inl s) =
    let whole : bytes ≡ s.front ++ ((text ++ 0 ∷ []) ++ rest) = split
    ∙ ap (λ front. front ++ rest) (s.split ∙ append_assoc s.front text (0 ∷ []))
    ∙ append_assoc s.front (text ++ 0 ∷ []) rest in
    let is : n ≡ length text + 1 = read ∙ ap (λ bytes. number order (take 2 bytes)) whole
    ∙ ap (number order) (take_at s.front ((text ++ 0 ∷ []) ++ rest) 2 s.size.size) ∙ s.size.value in
    omega (
      arith,
      is,
      ap length s.split ∙ length-append (s.front ++ text) (0 ∷ []),
      length-append s.front text,
      s.size.size,
    )
text-span order bytes n read text front rest split (inr s) =
    let is : n ≡ 0 = read ∙ ap (λ bytes. number order (take 2 bytes)) split
    ∙ ap (number order) (take_at front rest 2 s.size.size) ∙ s.size.value in
    omega (arith, is, s.size.size)

-- the first of some texts, and the others after it
pub record IsFirstText (order : Order) (count : ℕ) (bytes rest : List ℕ) : Type 0 where
  pub text : List ℕ
  pub front : List ℕ
  pub after : List ℕ
  pub split : bytes ≡ front ++ after
  pub spelled : IsText order text front
  pub others : (texts : List (List ℕ)) × (items_in (text_in order) count after ≡ Ok (texts, rest))

pub first-text : (order : Order) (n k : ℕ) (bytes : List ℕ) (texts : List (List ℕ)) (rest : List ℕ) → k ≡ suc n
    → items_in (text_in order) k bytes ≡ Ok (texts, rest) → IsFirstText order n bytes rest
first-text order n k bytes texts rest is e =
    let x = and_then-Ok (text_in order bytes)
    (λ (x : List ℕ × List ℕ). found_map (λ xs. x.0 ∷ xs) (items_in (text_in order) n x.1)) (texts, rest)
    (sym (items_in-suc (text_in order) n k bytes is) ∙ e) in
    let y = found_map-Ok (λ xs. x.0.0 ∷ xs) (items_in (text_in order) n x.0.1) (texts, rest) x.2 in
    let f = (text_in-exact order).found bytes x.0 x.1 in
    record {
      text = x.0.0;
      front = f.0;
      after = x.0.1;
      split = f.1;
      spelled = f.2;
      others = (y.0.0, y.1 ∙ ap (λ (z : List (List ℕ) × List ℕ). Ok (y.0.0, z.1)) {x = (x.0.0 ∷ y.0.0, y.0.1)} y.2);
    }

pub begins-first : (order : Order) (count : ℕ) (bytes rest : List ℕ) → IsFirstText order count bytes rest
    → BeginsText order bytes
begins-first order count bytes rest first = (first.text, first.front, first.after, first.split, first.spelled)

-- ---- texts one after another

-- the texts from the i-th on stand from this place on, before the same rest
pub record AreLeft (order : Order) (count : ℕ) (bytes : List ℕ) (i at : ℕ) : Type 0 where
  pub within : at ≤ length bytes
  pub left : (texts : List (List ℕ)) (rest : List ℕ) → items_in (text_in order) count bytes ≡ Ok (texts, rest)
      → (others : List (List ℕ)) × (items_in (text_in order) (count - i) (drop at bytes) ≡ Ok (others, rest))

pub left-none : (order : Order) (count : ℕ) (bytes : List ℕ) → AreLeft order count bytes 0 0
left-none order count bytes = record {
  within = omega arith;
  left = λ texts rest e. (texts, by bytes (omega arith) e);
}
  where
    by : {texts : List (List ℕ)} {rest : List ℕ} (bytes : List ℕ) → count - 0 ≡ count
        → items_in (text_in order) count bytes ≡ Ok (texts, rest)
        → items_in (text_in order) (count - 0) (drop 0 bytes) ≡ Ok (texts, rest)
    by [] same e = ap (λ k. items_in (text_in order) k []) same ∙ e
    by (b ∷ bs) same e = ap (λ k. items_in (text_in order) k (b ∷ bs)) same ∙ e

-- the next text
pub left-first : (order : Order) (count : ℕ) (bytes : List ℕ) (i at : ℕ) (texts : List (List ℕ)) (rest : List ℕ)
    → AreLeft order count bytes i at → i < count → items_in (text_in order) count bytes ≡ Ok (texts, rest)
    → IsFirstText order (count - (i + 1)) (drop at bytes) rest
left-first order count bytes i at texts rest before lt e =
    let left = before.left texts rest e in
    first-text order (count - (i + 1)) (count - i) (drop at bytes) left.0 rest (omega arith) left.1

pub left-more : (order : Order) (count : ℕ) (bytes : List ℕ) (i at size : ℕ) → AreLeft order count bytes i at
    → i < count → IsTextSpan order (drop at bytes) size → size ≤ length (drop at bytes)
    → AreLeft order count bytes (i + 1) (at + size)
left-more order count bytes i at size before lt span le = record {
  within = omega (arith, before.within, length-drop at bytes, le);
  left = λ texts rest e.
      let first = left-first order count bytes i at texts rest before lt e in
      let same : first.after ≡ drop (at + size) bytes =
      sym (drop_at first.front first.after size
      (sym (span first.text first.front first.after first.split first.spelled)))
      ∙ ap (drop size) (sym first.split) ∙ drop-drop size at bytes in (
        first.others.0,
        ap (λ after. items_in (text_in order) (count - (i + 1)) after) (sym same) ∙ first.others.1,
      );
}

pub left-all : (order : Order) (count : ℕ) (bytes : List ℕ) (i at : ℕ) → AreLeft order count bytes i at → count ≤ i
    → AreTextSpans order count bytes at
left-all order count bytes i at before le texts rest e =
    let left = before.left texts rest e in
    let none = items_in-zero (text_in order) (count - i) (drop at bytes) (omega arith) in
    let same = Ok-same {E = BodyReason} ([], drop at bytes) (left.0, rest) (sym none ∙ left.1) in
    (before.within, sym (ap (λ (z : List (List ℕ) × List ℕ). z.1) same))

-- ---- a field

-- the value at the front of the bytes has so many
pub record IsSized (order : Order) (numbers : List ℕ) (form : Form) (counts : List Count) (bytes : List ℕ)
    (n : ℕ) : Type 0 where
  pub long : (v : Value) (rest : List ℕ) → field_in order numbers form counts bytes ≡ Ok (v, rest)
      → length bytes ≡ n + length rest

-- a field ends where the bytes after its value begin
pub sized-span : (order : Order) (numbers : List ℕ) (form : Form) (counts : List Count) (bytes : List ℕ) (n : ℕ)
    → IsSized order numbers form counts bytes n → IsSpan order numbers form counts bytes n
sized-span order numbers form counts bytes n size v rest e =
    let f = (field_in-exact order numbers form counts).found bytes (v, rest) e in
    let same : length f.0 ≡ n = omega (arith, ap length f.1 ∙ length-append f.0 rest, size.long v rest e) in (
      omega (arith, size.long v rest e),
      sym (ap (drop n) f.1 ∙ drop_at f.0 rest n same),
      subst (IsField order numbers form counts v) (sym (ap (take n) f.1 ∙ take_at f.0 rest n same)) f.2,
    )

pub sized-within : (order : Order) (numbers : List ℕ) (form : Form) (counts : List Count) (bytes : List ℕ) (n : ℕ)
    → IsSized order numbers form counts bytes n → StandsFirst order numbers form counts bytes → n ≤ length bytes
sized-within order numbers form counts bytes n size stands =
    omega (arith, size.long stands.value stands.rest stands.found)

-- items that take so many bytes each
items-size : {X : Type 0} (R : X → List ℕ → Type 0) (size : ℕ)
    → ((x : X) (bytes : List ℕ) → R x bytes → length bytes ≡ size) → (xs : List X) (bytes : List ℕ)
    → AreItems R xs bytes → length bytes ≡ length xs * size
items-size R size each [] bytes s = ap length s ∙ sym (zero-mul size)
items-size R size each (x ∷ xs) bytes (front, rest, split, here, others) =
    omega (
      arith,
      ap length split ∙ length-append front rest,
      each x front here,
      items-size R size each xs rest others,
      suc-mul (length xs) size,
    )

single-long : {X : Type 0} (item : List ℕ → Found X) (R : X → List ℕ → Type 0) (size : ℕ) → IsExact item R
    → ((x : X) (bytes : List ℕ) → R x bytes → length bytes ≡ size) → (f : X → Value) (bytes : List ℕ) (v : Value)
    (rest : List ℕ) → found_map f (item bytes) ≡ Ok (v, rest) → length bytes ≡ size + length rest
single-long item R size exact each f bytes v rest e =
    let x = found_map-Ok f (item bytes) (v, rest) e in
    let g = exact.found bytes x.0 x.1 in
    omega (
      arith,
      ap length g.1 ∙ length-append g.0 x.0.1,
      each x.0.0 g.0 g.2,
      ap (λ (z : Value × List ℕ). length z.1) x.2,
    )

listed-long : {X : Type 0} (item : List ℕ → Found X) (R : X → List ℕ → Type 0) (size : ℕ) → IsExact item R
    → ((x : X) (bytes : List ℕ) → R x bytes → length bytes ≡ size) → (f : List X → Value) (n : ℕ) (bytes : List ℕ)
    (v : Value) (rest : List ℕ) → found_map f (items_in item n bytes) ≡ Ok (v, rest)
    → length bytes ≡ n * size + length rest
listed-long item R size exact each f n bytes v rest e =
    let x = found_map-Ok f (items_in item n bytes) (v, rest) e in
    let g = (items_in-exact item R exact n).found bytes x.0 x.1 in
    omega (
      arith,
      ap length g.1 ∙ length-append g.0 x.0.1,
      items-size R size each x.0.0 g.0 g.2.items ∙ ap (λ k. k * size) g.2.count,
      ap (λ (z : Value × List ℕ). length z.1) x.2,
    )

pair-size : (order : Order) (width : Width) (pair : ℕ × ℕ) (bytes : List ℕ) → IsPair order width pair bytes
    → length bytes ≡ 2 * size_of width
pair-size order width pair bytes s =
    omega (arith, ap length s.split ∙ length-append s.front s.back, s.first.size, s.second.size)

link-size : (order : Order) (link : StructLink) (bytes : List ℕ) → IsLink order link bytes → length bytes ≡ 6
link-size order link bytes s =
    omega (arith, ap length s.split ∙ length-append s.front s.back, s.class.size, s.instance.size)

-- so many items of so many bytes
IsLong : Form → ℕ → Type 0
IsLong form size =
    (order : Order) (numbers : List ℕ) (counts : List Count) (bytes : List ℕ) (count : ℕ) (v : Value) (rest : List ℕ)
    → count ≡ min (item_count numbers counts) (length bytes + 1)
    → field_in order numbers form counts bytes ≡ Ok (v, rest) → length bytes ≡ count * size + length rest

-- by the value without dimension, and by the list
long-by : (form : Form) (size : ℕ)
    → ((order : Order) (numbers bytes : List ℕ) (v : Value) (rest : List ℕ)
    → field_in order numbers form [] bytes ≡ Ok (v, rest) → length bytes ≡ size + length rest)
    → ((order : Order) (n : ℕ) (bytes : List ℕ) (v : Value) (rest : List ℕ)
    → listed_in order form n bytes ≡ Ok (v, rest) → length bytes ≡ n * size + length rest) → IsLong form size
unfolding IsLong
long-by form size single listed order numbers [] bytes count v rest is e =
    let one : count ≡ 1 = omega (arith, is) in
    let same : count * size ≡ size = ap (λ k. k * size) one ∙ omega arith in
    omega (arith, same, single order numbers bytes v rest e)
long-by form size single listed order numbers (c ∷ cs) bytes count v rest is e =
    listed order count bytes v rest
    (sym (field_in-listed order numbers form (c ∷ cs) bytes count (λ none. some none) is) ∙ e)
  where
    some : ◌≡◌ {A = List Count} (c ∷ cs) [] → ⊥
    some none = cc

numbers-long : (width : Width) → IsLong (Number width) (size_of width)
numbers-long width =
    long-by (Number width) (size_of width) (λ order numbers bytes v rest e.
    single-long (number_in order width) (IsNumber order width) (size_of width) (number_in-exact order width)
    (λ x bytes s. s.size) value.Num bytes v rest e) (λ order. by order width)
  where
    many : (order : Order) (width : Width) (f : List ℕ → Value) (n : ℕ) (bytes : List ℕ) (v : Value) (rest : List ℕ)
        → found_map f (items_in (number_in order width) n bytes) ≡ Ok (v, rest)
        → length bytes ≡ n * size_of width + length rest
    many order width =
        listed-long (number_in order width) (IsNumber order width) (size_of width) (number_in-exact order width)
        (λ x bytes s. s.size)

    by : (order : Order) (width : Width) (n : ℕ) (bytes : List ℕ) (v : Value) (rest : List ℕ)
        → listed_in order (Number width) n bytes ≡ Ok (v, rest) → length bytes ≡ n * size_of width + length rest
    by order One = many order One value.Bytes
    by order Two = many order Two value.Nums
    by order Four = many order Four value.Nums
    by order Eight = many order Eight value.Nums

pairs-long : (width : Width) → IsLong (Pair width) (2 * size_of width)
pairs-long width =
    long-by (Pair width) (2 * size_of width)
    (λ order numbers. single-long (pair_in order width) (IsPair order width) (2 * size_of width)
    (pair_in-exact order width) (pair-size order width) (λ (p : ℕ × ℕ). value.Pair p.0 p.1))
    (λ order. listed-long (pair_in order width) (IsPair order width) (2 * size_of width) (pair_in-exact order width)
    (pair-size order width) value.Pairs)

links-long : IsLong Link 6
links-long =
    long-by Link 6 (λ order numbers. single-long (link_in order) (IsLink order) 6 (link_in-exact order)
    (link-size order) value.Link)
    (λ order. listed-long (link_in order) (IsLink order) 6 (link_in-exact order) (link-size order) value.Links)

sized : (order : Order) (numbers : List ℕ) (form is : Form) (counts : List Count) (bytes : List ℕ) (count size : ℕ)
    → form ≡ is → IsLong is size → count ≡ min (item_count numbers counts) (length bytes + 1)
    → IsSized order numbers form counts bytes (count * size)
unfolding IsLong
sized order numbers form is counts bytes count size same long capped =
    subst (λ form. IsSized order numbers form counts bytes (count * size)) (sym same)
    (record { long = λ v rest e. long order numbers counts bytes count v rest capped e })

pub numbers-sized : (order : Order) (numbers : List ℕ) (form : Form) (width : Width) (counts : List Count)
    (bytes : List ℕ) (count : ℕ) → form ≡ Number width → count ≡ min (item_count numbers counts) (length bytes + 1)
    → IsSized order numbers form counts bytes (count * size_of width)
numbers-sized order numbers form width counts bytes count is capped =
    sized order numbers form (Number width) counts bytes count (size_of width) is (numbers-long width) capped

pub pairs-sized : (order : Order) (numbers : List ℕ) (form : Form) (width : Width) (counts : List Count)
    (bytes : List ℕ) (count : ℕ) → form ≡ Pair width → count ≡ min (item_count numbers counts) (length bytes + 1)
    → IsSized order numbers form counts bytes (count * (2 * size_of width))
pairs-sized order numbers form width counts bytes count is capped =
    sized order numbers form (Pair width) counts bytes count (2 * size_of width) is (pairs-long width) capped

pub links-sized : (order : Order) (numbers : List ℕ) (form : Form) (counts : List Count) (bytes : List ℕ) (count : ℕ)
    → form ≡ Link → count ≡ min (item_count numbers counts) (length bytes + 1)
    → IsSized order numbers form counts bytes (count * 6)
links-sized order numbers form counts bytes count is capped =
    sized order numbers form Link counts bytes count 6 is links-long capped

-- the texts of a field of texts
texts-stand : (order : Order) (numbers : List ℕ) (counts : List Count) (bytes : List ℕ) (count : ℕ) (v : Value)
    (rest : List ℕ) → count ≡ min (item_count numbers counts) (length bytes + 1)
    → field_in order numbers Text counts bytes ≡ Ok (v, rest)
    → (texts : List (List ℕ)) × (items_in (text_in order) count bytes ≡ Ok (texts, rest))
texts-stand order numbers [] bytes count v rest is e =
    let x = found_map-Ok value.Text (text_in order bytes) (v, rest) e in (
      x.0.0 ∷ [],
      items_in-suc (text_in order) 0 count bytes (omega (arith, is))
          ∙ ap (λ r. and_then r (λ (x : List ℕ × List ℕ). found_map (λ xs. x.0 ∷ xs) (items_in (text_in order) 0 x.1)))
          x.1
          ∙ ap (found_map (λ xs. x.0.0 ∷ xs)) (items_in-zero (text_in order) 0 x.0.1 refl)
          ∙ ap (λ (z : Value × List ℕ). Ok (x.0.0 ∷ [], z.1)) x.2,
    )
texts-stand order numbers (c ∷ cs) bytes count v rest is e =
    let x = found_map-Ok value.Texts (items_in (text_in order) count bytes) (v, rest)
    (sym (field_in-listed order numbers Text (c ∷ cs) bytes count (λ none. some none) is) ∙ e) in
    (x.0.0, x.1 ∙ ap (λ (z : Value × List ℕ). Ok (x.0.0, z.1)) x.2)
  where
    some : ◌≡◌ {A = List Count} (c ∷ cs) [] → ⊥
    some none = cc

pub texts-first : (order : Order) (numbers : List ℕ) (form : Form) (counts : List Count) (bytes : List ℕ) (count : ℕ)
    (v : Value) (rest : List ℕ) → form ≡ Text → count ≡ min (item_count numbers counts) (length bytes + 1)
    → field_in order numbers form counts bytes ≡ Ok (v, rest)
    → (texts : List (List ℕ)) × (items_in (text_in order) count bytes ≡ Ok (texts, rest))
texts-first order numbers form counts bytes count v rest is capped e =
    texts-stand order numbers counts bytes count v rest capped
    (subst (λ form. field_in order numbers form counts bytes ≡ Ok (v, rest)) is e)

pub texts-sized : (order : Order) (numbers : List ℕ) (form : Form) (counts : List Count) (bytes : List ℕ) (count n : ℕ)
    → form ≡ Text → count ≡ min (item_count numbers counts) (length bytes + 1) → AreTextSpans order count bytes n
    → IsSized order numbers form counts bytes n
texts-sized order numbers form counts bytes count n is capped spans = record {
  long = λ v rest e.
      let texts = texts-first order numbers form counts bytes count v rest is capped e in
      let ends = spans texts.0 rest texts.1 in
      omega (arith, ends.0, ap length ends.1 ∙ length-drop n bytes);
}
