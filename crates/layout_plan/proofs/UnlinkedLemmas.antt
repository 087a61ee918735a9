-- A body without its links, field by field.
use Rattle.std.proofs.Common.{◌≡◌, ℕ, zero, suc, ◌+◌, ◌*◌, ◌≤◌, Bool, true, false, List, [], ◌∷◌, ◌++◌, length, map}
use Rattle.std.proofs.Common.{take, drop, replicate, Some, refl, sym, ap, ◌∙◌, subst, arith, append_assoc, append-nil}
use Rattle.std.proofs.Common.{◌-◌, add-one, true≢false}
use Rattle.std.specs.Prelude.{slice_get, slice_set}
use Rattle.std.specs.Option.{option_map}
use Rattle.std.proofs.lemmas.List.{length-append, length-map, length-replicate, length-drop, length-take-le, take_at}
use Rattle.std.proofs.lemmas.List.{drop_at}
use Rattle.std.proofs.lemmas.List.{map-append, take_all, take-append-drop, take-map}
use Rattle.std.proofs.lemmas.List.{replicate-append-replicate}
use Rattle.std.proofs.lemmas.Option.{same_Some, slice_get-map}
use Rattle.scalar_types.specs.declared.Order.{Order}
use Rattle.scalar_types.specs.declared.Order.TheVariants.{Big, Little}
use Rattle.type_text.specs.declared.types.Link.{Link as StructLink}
use Rattle.record_values.specs.declared.values.Value.{Value}
use Rattle.record_values.specs.declared.values.Value.TheVariants as value
use Rattle.record_values.specs.Spelling.{IsLink, AreItems}
use Rattle.record_values.specs.Links.{links_of, links_in, linked_value, with_links}
use Rattle.layout_plan.specs.declared.fields.Form.{Form}
use Rattle.layout_plan.specs.declared.fields.Form.TheVariants.{Number, Pair, Text, Link}
use Rattle.layout_plan.specs.declared.fields.Count.{Count}
use Rattle.layout_plan.specs.declared.fields.Field.{Field}
use Rattle.layout_plan.specs.declared.lent.Placed.{Placed}
use Rattle.layout_plan.specs.Body.{number_of, IsField, AreFields, IsBody, HasBody}
use Rattle.layout_plan.specs.Layout.{IsLayout}
use Rattle.layout_plan.specs.Lent.{IsPlaced, IsLinkField}
use Rattle.layout_plan.specs.Links.{is_link_form, is_link, IsReplaceable}
use Rattle.layout_plan.specs.Unlinked.{null_link, nulls, IsUnlinked, IsLinkNumber}
use Rattle.layout_plan.proofs.BodyLemmas.{bodies-unique}
use Rattle.layout_plan.proofs.LentLemmas.{AreFields-length}
use Rattle.layout_plan.proofs.LinkLemmas.{link-size, field-none}
use Rattle.layout_plan.proofs.ReplaceLemmas.{field-front, body-replaced}
use Rattle.layout_plan.proofs.RewriteLemmas.{IsFieldPlaced, placed-field, slice-length}

-- ---- values without links

-- a value with each link null
abbrev pub null_value : Value → Value
null_value (value.Link old) = value.Link null_link
null_value (value.Links xs) = value.Links (nulls xs)
null_value (value.Num n) = value.Num n
null_value (value.Pair a b) = value.Pair a b
null_value (value.Text text) = value.Text text
null_value (value.Nums xs) = value.Nums xs
null_value (value.Pairs xs) = value.Pairs xs
null_value (value.Texts xs) = value.Texts xs
null_value (value.Bytes xs) = value.Bytes xs

value-nulls : (v : Value) → linked_value v (nulls (links_of v)) ≡ null_value v
value-nulls (value.Link old) = refl
value-nulls (value.Links xs) = refl
value-nulls (value.Num n) = refl
value-nulls (value.Pair a b) = refl
value-nulls (value.Text text) = refl
value-nulls (value.Nums xs) = refl
value-nulls (value.Pairs xs) = refl
value-nulls (value.Texts xs) = refl
value-nulls (value.Bytes xs) = refl

-- values with as many null links as they have links
values-nulls : (values : List Value) → with_links values (nulls (links_in values)) ≡ map null_value values
values-nulls [] = refl
values-nulls (v ∷ vs) =
    let first = nulls (links_of v) in
    let size = length-map (links_of v) (λ link. null_link) in
    ap (with_links (v ∷ vs)) (map-append (λ link. null_link) (links_of v) (links_in vs))
    ∙ (λ i. linked_value v (take_at first (nulls (links_in vs)) (length (links_of v)) size i)
    ∷ with_links vs (drop_at first (nulls (links_in vs)) (length (links_of v)) size i))
    ∙ (λ i. value-nulls v i ∷ values-nulls vs i)

number-null : (v : Value) → number_of (null_value v) ≡ number_of v
number-null (value.Link old) = refl
number-null (value.Links xs) = refl
number-null (value.Num n) = refl
number-null (value.Pair a b) = refl
number-null (value.Text text) = refl
number-null (value.Nums xs) = refl
number-null (value.Pairs xs) = refl
number-null (value.Texts xs) = refl
number-null (value.Bytes xs) = refl

numbers-null : (values : List Value) → map number_of (map null_value values) ≡ map number_of values
numbers-null [] = refl
numbers-null (v ∷ vs) = λ i. number-null v i ∷ numbers-null vs i

-- a value without links is as it was
null-none : (v : Value) → links_of v ≡ [] → null_value v ≡ v
null-none (value.Link old) none = absurd cc
null-none (value.Links xs) none = ap (λ xs. value.Links (nulls xs)) none ∙ ap value.Links (sym none)
null-none (value.Num n) none = refl
null-none (value.Pair a b) none = refl
null-none (value.Text text) none = refl
null-none (value.Nums xs) none = refl
null-none (value.Pairs xs) none = refl
null-none (value.Texts xs) none = refl
null-none (value.Bytes xs) none = refl

-- ---- zero bytes spell null links

zeros-link : (order : Order) → IsLink order null_link (replicate 6 0)
zeros-link Big = record {
  front = 0 ∷ 0 ∷ [];
  back = 0 ∷ 0 ∷ 0 ∷ 0 ∷ [];
  split = refl;
  class = record { size = refl; value = refl };
  instance = record { size = refl; value = refl };
}
zeros-link Little = record {
  front = 0 ∷ 0 ∷ [];
  back = 0 ∷ 0 ∷ 0 ∷ 0 ∷ [];
  split = refl;
  class = record { size = refl; value = refl };
  instance = record { size = refl; value = refl };
}

zeros-links : (order : Order) (links : List StructLink) (bytes : List ℕ) → AreItems (IsLink order) links bytes
    → AreItems (IsLink order) (nulls links) (replicate (length bytes) 0)
zeros-links order [] bytes items = ap (λ (bytes : List ℕ). replicate (length bytes) 0) items
zeros-links order (l ∷ ls) bytes (front, rest, split, here, others) = (
  replicate 6 0,
  replicate (length rest) 0,
  ap (λ n. replicate n 0) many ∙ sym (replicate-append-replicate 6 (length rest) 0),
  zeros-link order,
  zeros-links order ls rest others,
)
  where
    many : length bytes ≡ 6 + length rest
    many = omega (arith, ap length split, length-append front rest, link-size order l front here)

-- zero bytes, as many as spell a value of links, spell it with each link null
field-zeros : (order : Order) (numbers : List ℕ) (form : Form) (counts : List Count) (v : Value) (bytes : List ℕ)
    → is_link_form form ≡ true → IsField order numbers form counts v bytes
    → IsField order numbers form counts (null_value v) (replicate (length bytes) 0)
field-zeros order numbers Link [] (value.Link old) bytes passes s =
    subst (λ n. IsLink order null_link (replicate n 0)) (sym (link-size order old bytes s)) (zeros-link order)
field-zeros order numbers Link [] v bytes passes s = absurd s
field-zeros order numbers Link (c ∷ cs) (value.Links xs) bytes passes s = record {
  count = length-map xs (λ link. null_link) ∙ s.count;
  items = zeros-links order xs bytes s.items;
}
field-zeros order numbers Link (c ∷ cs) v bytes passes s = absurd s
field-zeros order numbers (Number width) counts v bytes passes s = cc
field-zeros order numbers (Pair width) counts v bytes passes s = cc
field-zeros order numbers Text counts v bytes passes s = cc

-- the bytes of a field without links spell the value as it is
field-alone : (order : Order) (numbers : List ℕ) (form : Form) (counts : List Count) (v : Value) (bytes : List ℕ)
    → is_link_form form ≡ false → IsField order numbers form counts v bytes
    → IsField order numbers form counts (null_value v) bytes
field-alone order numbers form counts v bytes none s =
    subst (λ v. IsField order numbers form counts v bytes)
    (sym (null-none v (field-none order numbers form counts v bytes none s))) s

-- ---- one more field

-- a spelling of fields and of one more
fields-push : (order : Order) (numbers : List ℕ) (fields : List Field) (values : List Value) (bytes one : List ℕ)
    (k : ℕ) (f : Field) (v : Value) → AreFields order numbers (take k fields) (take k values) bytes
    → slice_get fields k ≡ Some f → slice_get values k ≡ Some v → IsField order numbers f.form f.counts v one
    → AreFields order numbers (take (suc k) fields) (take (suc k) values) (bytes ++ one)
fields-push order numbers [] values bytes one k f v s is here spelled = cc
fields-push order numbers (g ∷ gs) [] bytes one k f v s is here spelled = cc
fields-push order numbers (g ∷ gs) (w ∷ ws) bytes one zero f v s is here spelled = (
  one,
  [],
  ap (λ bytes. bytes ++ one) s ∙ sym (append-nil one),
  subst (λ (f : Field). IsField order numbers f.form f.counts w one) (sym (same_Some g f is))
      (subst (λ v. IsField order numbers f.form f.counts v one) (sym (same_Some w v here)) spelled),
  refl,
)
fields-push order numbers (g ∷ gs) (w ∷ ws) bytes one (suc k) f v (front, rest, split, this, others) is here spelled = (
  front,
  rest ++ one,
  ap (λ bytes. bytes ++ one) split ∙ append_assoc front rest one,
  this,
  fields-push order numbers gs ws rest one k f v others is here spelled,
)

-- one spelling of some values stands at the front of bytes
fields-front : (order : Order) (numbers : List ℕ) (fields : List Field) (values : List Value)
    (front other rest more : List ℕ) → AreFields order numbers fields values front
    → AreFields order numbers fields values other → front ++ rest ≡ other ++ more
    → (length front ≡ length other) × (rest ≡ more)
fields-front order numbers [] [] front other rest more s t same =
    (ap length (s ∙ sym t), ap (λ front. front ++ rest) (sym s) ∙ same ∙ ap (λ other. other ++ more) t)
fields-front order numbers [] (v ∷ vs) front other rest more s t same = absurd s
fields-front order numbers (f ∷ fs) [] front other rest more s t same = absurd s
fields-front order numbers (f ∷ fs) (v ∷ vs) front other rest more (a, b, split, here, others)
    (a', b', split', here', others') same =
    let regrouped = sym (append_assoc a b rest) ∙ ap (λ front. front ++ rest) (sym split) ∙ same
    ∙ ap (λ other. other ++ more) split' ∙ append_assoc a' b' more in
    let first = field-front order numbers f v a a' (b ++ rest) (b' ++ more) here here' regrouped in
    let later = fields-front order numbers fs vs b b' rest more others others' first.1 in (
      omega (arith, ap length split, ap length split', length-append a b, length-append a' b', first.0, later.0),
      later.1,
    )

-- ---- the loop over the fields

-- The new bytes spell the first k fields with each link null, and are as long as what spells these in the body.
pub record IsUnlinkedUpTo (order : Order) (fields : List Field) (values : List Value) (body : List ℕ) (k : ℕ)
    (new : List ℕ) : Type 0 where
  pub within : length new ≤ length body
  pub before : AreFields order (map number_of values) (take k fields) (take k values) (take (length new) body)
  pub spelled : AreFields order (map number_of values) (take k fields) (take k (map null_value values)) new

abbrev pub AreUnlinkedUpTo : Order → List Field → List ℕ → ℕ → List ℕ → Type 0
AreUnlinkedUpTo order fields body k new =
    (values : List Value) (tail : List ℕ) → IsBody order fields values tail body
    → IsUnlinkedUpTo order fields values body k new

pub unlinked-none : (order : Order) (fields : List Field) (body new : List ℕ) → new ≡ []
    → AreUnlinkedUpTo order fields body 0 new
unlinked-none order fields body new none values tail is = record {
  within = omega (arith, ap length none);
  before = ap (λ (new : List ℕ). take (length new) body) none;
  spelled = none;
}

-- the next field begins where the new bytes end
pub unlinked-start : (order : Order) (fields : List Field) (body : List ℕ) (k : ℕ) (new : List ℕ) (p : Placed)
    → HasBody order fields body → IsPlaced order fields body k p → AreUnlinkedUpTo order fields body k new
    → p.start ≡ length new
unlinked-start order fields body k new p (values, tail, is) placed so =
    let before = so values tail is in
    let same = fields-front order (map number_of values) (take k fields) (take k values) (take p.start body)
    (take (length new) body) (drop p.start body) (drop (length new) body) (placed.begins values tail is) before.before
    (take-append-drop p.start body ∙ sym (take-append-drop (length new) body)) in
    omega (
      arith,
      same.0,
      length-take-le p.start body (omega (arith, placed.within)),
      length-take-le (length new) body before.within,
    )

-- what stands for a field: its bytes, or for links as many zero bytes
pub record IsPut (field : Field) (bytes one : List ℕ) : Type 0 where
  pub link : is_link field ≡ true → one ≡ replicate (length bytes) 0
  pub other : is_link field ≡ false → one ≡ bytes

put-spelled : (order : Order) (numbers : List ℕ) (f : Field) (v : Value) (bytes one : List ℕ) → IsPut f bytes one
    → IsField order numbers f.form f.counts v bytes
    → IsField order numbers f.form f.counts (null_value v) one × (length one ≡ length bytes)
put-spelled order numbers f v bytes one put s = by (is_link f) refl
  where
    by : (b : Bool) → is_link f ≡ b
        → IsField order numbers f.form f.counts (null_value v) one × (length one ≡ length bytes)
    by true is = (
      subst (IsField order numbers f.form f.counts (null_value v)) (sym (put.link is))
          (field-zeros order numbers f.form f.counts v bytes is s),
      ap length (put.link is) ∙ length-replicate (length bytes) 0,
    )
    by false is = (
      subst (IsField order numbers f.form f.counts (null_value v)) (sym (put.other is))
          (field-alone order numbers f.form f.counts v bytes is s),
      ap length (put.other is),
    )

pub unlinked-more : (order : Order) (fields : List Field) (body : List ℕ) (k : ℕ) (new one : List ℕ) (f : Field)
    (p : Placed) → IsFieldPlaced order fields body k f p → HasBody order fields body
    → IsPut f (take p.length (drop p.start body)) one → AreUnlinkedUpTo order fields body k new
    → AreUnlinkedUpTo order fields body (k + 1) (new ++ one)
unlinked-more order fields body k new one f p at has put so values tail is =
    let before = so values tail is in
    let here = placed-field order fields body k f p values tail at.placed at.is is in
    let both = put-spelled order (map number_of values) f here.value (take p.length (drop p.start body)) one put
    here.spelled in
    let start = unlinked-start order fields body k new p has at.placed so in
    let piece : length (take p.length (drop p.start body)) ≡ p.length =
    length-take-le p.length (drop p.start body) (omega (arith, at.placed.within, length-drop p.start body)) in
    let size : p.start + p.length ≡ length (new ++ one) =
    omega (arith, start, piece, both.1, length-append new one) in
    let null = slice_get-map null_value values k ∙ ap (option_map null_value) here.here in
    record {
      within = omega (arith, size, at.placed.within);
      before = subst (λ n. AreFields order (map number_of values) (take (k + 1) fields) (take (k + 1) values)
          (take n body)) size (at.placed.ends values tail is);
      spelled = subst (λ n. AreFields order (map number_of values) (take n fields) (take n (map null_value values))
          (new ++ one)) (sym (add-one k))
          (fields-push order (map number_of values) fields (map null_value values) new one k f (null_value here.value)
          before.spelled at.is null both.0);
    }

pub unlinked-within : (order : Order) (fields : List Field) (body : List ℕ) (k : ℕ) (new : List ℕ)
    → HasBody order fields body → AreUnlinkedUpTo order fields body k new → length new ≤ length body
unlinked-within order fields body k new (values, tail, is) so = (so values tail is).within

-- a link field, and another one, as the loop puts them
pub unlinked-link : (order : Order) (fields : List Field) (body : List ℕ) (k n : ℕ) (new items : List ℕ) (f : Field)
    (p : Placed) → IsFieldPlaced order fields body k f p → HasBody order fields body → is_link f ≡ true
    → n ≡ length new → items ≡ take (p.start + p.length) new ++ replicate (p.start + p.length - n) 0
    → AreUnlinkedUpTo order fields body k new → AreUnlinkedUpTo order fields body (k + 1) items
unlinked-link order fields body k n new items f p at has is count made so =
    let piece = take p.length (drop p.start body) in
    let start = unlinked-start order fields body k new p has at.placed so in
    let size : length piece ≡ p.length =
    length-take-le p.length (drop p.start body) (omega (arith, at.placed.within, length-drop p.start body)) in
    let front : take (p.start + p.length) new ≡ new = take_all (p.start + p.length) new (omega (arith, start)) in
    let many : p.start + p.length - n ≡ length piece = omega (arith, start, count, size) in
    let same : items ≡ new ++ replicate (length piece) 0 = made ∙ (λ i. front i ++ replicate (many i) 0) in
    subst (AreUnlinkedUpTo order fields body (k + 1)) (sym same)
    (unlinked-more order fields body k new (replicate (length piece) 0) f p at has
    (record { link = λ link. refl; other = λ other. absurd (true≢false (sym is ∙ other)) }) so)

pub unlinked-other : (order : Order) (fields : List Field) (body : List ℕ) (k : ℕ) (new items : List ℕ) (f : Field)
    (p : Placed) → IsFieldPlaced order fields body k f p → HasBody order fields body → is_link f ≡ false
    → items ≡ new ++ take (p.start + p.length - p.start) (drop p.start body)
    → AreUnlinkedUpTo order fields body k new → AreUnlinkedUpTo order fields body (k + 1) items
unlinked-other order fields body k new items f p at has is made so =
    let same : items ≡ new ++ take p.length (drop p.start body) =
    made ∙ ap (λ one. new ++ one) (slice-length p.start p.length body) in
    subst (AreUnlinkedUpTo order fields body (k + 1)) (sym same)
    (unlinked-more order fields body k new (take p.length (drop p.start body)) f p at has
    (record { link = λ link. absurd (true≢false (sym link ∙ is)); other = λ other. refl }) so)

-- all fields, and what stands after them
pub unlinked-all : (order : Order) (fields : List Field) (body : List ℕ) (k : ℕ) (new : List ℕ)
    → HasBody order fields body → length fields ≤ k → AreUnlinkedUpTo order fields body k new
    → IsUnlinked order fields body (new ++ drop (length new) body)
unlinked-all order fields body k new has le so = record {
  size = omega (
    arith,
    unlinked-within order fields body k new has so,
    length-append new (drop (length new) body),
    length-drop (length new) body,
  );
  reads = reads;
}
  where
    reads : (values : List Value) (tail : List ℕ) → IsBody order fields values tail body
        → IsBody order fields (with_links values (nulls (links_in values))) tail (new ++ drop (length new) body)
    reads values tail is =
        let N = map number_of values in
        let same = AreFields-length order N fields values is.front is.spelled in
        let at_end = so values tail is in
        let all_fields = take_all k fields le in
        let before : AreFields order N fields values (take (length new) body) =
        subst (λ fs. AreFields order N fs values (take (length new) body)) all_fields
        (subst (λ vs. AreFields order N (take k fields) vs (take (length new) body))
        (take_all k values (omega (arith, same, le))) at_end.before) in
        let rest = (fields-front order N fields values (take (length new) body) is.front (drop (length new) body) tail
        before is.spelled (take-append-drop (length new) body ∙ is.split)).1 in
        let nulled : AreFields order N fields (map null_value values) new =
        subst (λ fs. AreFields order N fs (map null_value values) new) all_fields
        (subst (λ vs. AreFields order N (take k fields) vs new)
        (take_all k (map null_value values) (omega (arith, same, le, length-map values null_value))) at_end.spelled) in
        subst (λ vs. IsBody order fields vs tail (new ++ drop (length new) body)) (sym (values-nulls values)) (record {
          front = new;
          split = ap (λ tail. new ++ tail) rest;
          spelled = subst (λ ns. AreFields order ns fields (map null_value values) new) (sym (numbers-null values))
              nulled;
          ends = is.ends;
        })

-- ---- the link of a field without dimension

-- the value of such a field is a link
single-link : (order : Order) (numbers : List ℕ) (form : Form) (counts : List Count) (v : Value) (bytes : List ℕ)
    → form ≡ Link → counts ≡ [] → IsField order numbers form counts v bytes
    → (length (links_of v) ≡ 1) × (length bytes ≡ 6)
single-link order numbers Link [] (value.Link link) bytes is single s = (refl, link-size order link bytes s)
single-link order numbers Link [] v bytes is single s = absurd s
single-link order numbers form counts v bytes is single s = absurd cc

-- the field of a plain link, where it is placed
record IsPlainPlaced (order : Order) (fields : List Field) (values : List Value) (body : List ℕ) (k : ℕ)
    (p : Placed) : Type 0 where
  pub field : Field
  pub is : slice_get fields k ≡ Some field
  pub passes : is_link field ≡ true
  pub value : Value
  pub here : slice_get values k ≡ Some value
  pub one : length (links_of value) ≡ 1
  pub six : p.length ≡ 6

plain-placed : (order : Order) (fields : List Field) (body : List ℕ) (k : ℕ) (p : Placed) (values : List Value)
    (tail : List ℕ) → IsLinkField fields k → IsPlaced order fields body k p → IsBody order fields values tail body
    → IsPlainPlaced order fields values body k p
plain-placed order fields body k p values tail plain placed is =
    let here = placed-field order fields body k plain.field p values tail placed plain.is is in
    let both = single-link order (map number_of values) plain.field.form plain.field.counts here.value
    (take p.length (drop p.start body)) plain.form_is plain.single here.spelled in
    record {
      field = plain.field;
      is = plain.is;
      passes = ap is_link_form plain.form_is;
      value = here.value;
      here = here.here;
      one = both.0;
      six = omega (
        arith,
        both.1,
        length-take-le p.length (drop p.start body) (omega (arith, placed.within, length-drop p.start body)),
      );
    }

pub plain-within : (order : Order) (fields : List Field) (body : List ℕ) (k : ℕ) (p : Placed)
    → HasBody order fields body → IsLinkField fields k → IsPlaced order fields body k p → p.start + 6 ≤ length body
plain-within order fields body k p (values, tail, is) plain placed =
    let at = plain-placed order fields body k p values tail plain placed is in
    omega (arith, at.six, placed.within)

pub plain-replaced : (order : Order) (fields : List Field) (body : List ℕ) (field : ℕ) (p : Placed) → IsLayout fields
    → IsLinkField fields field → IsPlaced order fields body field p → (k : ℕ)
    → IsLinkNumber order fields body field k → IsReplaceable order fields body k p.start
plain-replaced order fields body field p layout plain placed k number values tail is link six spelled =
    let at = plain-placed order fields body field p values tail plain placed is in
    let same = (bodies-unique order fields body layout.sound number.values values number.tail tail number.reads is).0 in
    let count : k ≡ length (links_in (take field values)) + 0 =
    omega (arith, number.count ∙ ap (λ values. length (links_in (take field values))) same) in
    let start : p.start + 0 * 6 ≡ p.start = omega arith in
    subst (λ n. IsBody order fields (with_links values (slice_set (links_in values) k link)) tail
    (take n body ++ six ++ drop (n + 6) body)) start
    (body-replaced order fields body tail values field 0 k p.start at.field at.value is (placed.begins values tail is)
    (omega (arith, placed.within)) at.is at.passes at.here (omega (arith, at.one)) count link six spelled)

-- ---- links in place of null ones

links-null : (v : Value) → links_of (null_value v) ≡ nulls (links_of v)
links-null (value.Link old) = refl
links-null (value.Links xs) = refl
links-null (value.Num n) = refl
links-null (value.Pair a b) = refl
links-null (value.Text text) = refl
links-null (value.Nums xs) = refl
links-null (value.Pairs xs) = refl
links-null (value.Texts xs) = refl
links-null (value.Bytes xs) = refl

nulls-in : (values : List Value) → links_in (map null_value values) ≡ nulls (links_in values)
nulls-in [] = refl
nulls-in (v ∷ vs) =
    (λ i. links-null v i ++ nulls-in vs i) ∙ sym (map-append (λ link. null_link) (links_of v) (links_in vs))

-- the links of values without links
pub unlinked-links : (values : List Value)
    → links_in (with_links values (nulls (links_in values))) ≡ nulls (links_in values)
unlinked-links values = ap links_in (values-nulls values) ∙ nulls-in values

-- as many of them stand before a field
pub unlinked-before : (values : List Value) (field : ℕ)
    → length (links_in (take field (with_links values (nulls (links_in values)))))
    ≡ length (links_in (take field values))
unlinked-before values field =
    ap (λ vs. length (links_in (take field vs))) (values-nulls values)
    ∙ ap (λ vs. length (links_in vs)) (take-map null_value field values)
    ∙ ap length (nulls-in (take field values)) ∙ length-map (links_in (take field values)) (λ link. null_link)

value-again : (v : Value) (links : List StructLink) → length links ≡ length (links_of v)
    → linked_value (null_value v) links ≡ linked_value v links
value-again (value.Link old) [] size = absurd (omega (arith, size))
value-again (value.Link old) (link ∷ links) size = refl
value-again (value.Links xs) links size = refl
value-again (value.Num n) links size = refl
value-again (value.Pair a b) links size = refl
value-again (value.Text text) links size = refl
value-again (value.Nums xs) links size = refl
value-again (value.Pairs xs) links size = refl
value-again (value.Texts xs) links size = refl
value-again (value.Bytes xs) links size = refl

values-again : (values : List Value) (links : List StructLink) → length links ≡ length (links_in values)
    → with_links (map null_value values) links ≡ with_links values links
values-again [] links size = refl
values-again (v ∷ vs) links size =
    let n = length (links_of v) in
    let many : length (links_of (null_value v)) ≡ n =
    ap length (links-null v) ∙ length-map (links_of v) (λ link. null_link) in
    let sum : length links ≡ n + length (links_in vs) =
    omega (arith, size, length-append (links_of v) (links_in vs)) in
    let first : length (take n links) ≡ n = length-take-le n links (omega (arith, sum)) in
    let rest : length (drop n links) ≡ length (links_in vs) = omega (arith, sum, length-drop n links) in
    (λ i. linked_value (null_value v) (take (many i) links) ∷ with_links (map null_value vs) (drop (many i) links))
    ∙ (λ i. value-again v (take n links) first i ∷ values-again vs (drop n links) rest i)

-- links put in place of the null ones are put in place of the values' own
pub unlinked-again : (values : List Value) (links : List StructLink) → length links ≡ length (links_in values)
    → with_links (with_links values (nulls (links_in values))) links ≡ with_links values links
unlinked-again values links size = ap (λ vs. with_links vs links) (values-nulls values) ∙ values-again values links size
