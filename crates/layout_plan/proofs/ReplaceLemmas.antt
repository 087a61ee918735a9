-- A link of a body, and another in its place.
use Rattle.std.proofs.Common.{◌≡◌, ℕ, zero, suc, ◌+◌, ◌*◌, ◌/◌, ◌<◌, ◌≤◌, Bool, true, false, cond, List, [], ◌∷◌, ◌++◌}
use Rattle.std.proofs.Common.{length, take, drop, get_or, map, Some, refl, sym, ap, ◌∙◌, subst, arith, append_assoc}
use Rattle.std.proofs.Common.{append-nil}
use Rattle.std.specs.Prelude.{slice_get, slice_set}
use Rattle.std.specs.List.{flat_map}
use Rattle.std.proofs.lemmas.List.{length-append, length-set, length-map, length-take, length-take-le, take_at, drop_at}
use Rattle.std.proofs.lemmas.List.{take-append-drop}
use Rattle.std.proofs.lemmas.Option.{same_Some, slice_get_within}
use Rattle.scalar_types.specs.declared.Order.{Order}
use Rattle.type_text.specs.declared.types.Link.{Link as StructLink}
use Rattle.record_values.specs.declared.values.Value.{Value}
use Rattle.record_values.specs.declared.values.Value.TheVariants as value
use Rattle.record_values.specs.Spelling.{IsLink, AreItems}
use Rattle.record_values.specs.Links.{links_of, links_in, linked_value, with_links}
use Rattle.record_values.proofs.LinkedLemmas.{linked_value-numbers, linked-at}
use Rattle.layout_plan.specs.declared.fields.Form.{Form}
use Rattle.layout_plan.specs.declared.fields.Form.TheVariants.{Number, Pair, Text, Link}
use Rattle.layout_plan.specs.declared.fields.Count.{Count}
use Rattle.layout_plan.specs.declared.fields.Field.{Field}
use Rattle.layout_plan.specs.declared.faults.BodyReason.{BodyReason}
use Rattle.layout_plan.specs.declared.lent.Placed.{Placed}
use Rattle.layout_plan.specs.declared.links.FieldLink.{FieldLink}
use Rattle.layout_plan.specs.Body.{number_of, IsField, AreFields, IsBody}
use Rattle.layout_plan.specs.Reading.{field_in}
use Rattle.layout_plan.specs.Lent.{IsPlaced}
use Rattle.layout_plan.specs.Links.{links_with, is_link_form, is_link, IsReplaceable}
use Rattle.layout_plan.specs.Marks.{numbers_where}
use Rattle.layout_plan.proofs.ExactLemmas.{Ok-same}
use Rattle.layout_plan.proofs.BodyLemmas.{field_in-exact}
use Rattle.layout_plan.proofs.CounterLemmas.{slice_get-take}
use Rattle.layout_plan.proofs.MarkLemmas.{IsNumbered, length-numbers_where}
use Rattle.layout_plan.proofs.LinkLemmas.{IsLinkList, link-size, links-numbered, links_at, links_at-value}
use Rattle.layout_plan.proofs.LinkLemmas.{field_links-length, link-numbered, link-list}

-- Six bytes at a place, in place of which each spelling of a link makes a whole of which P says what it spells.
record IsGap (order : Order) (P : StructLink → List ℕ → Type 0) (at : ℕ) (bytes : List ℕ) : Type 0 where
  pub before : List ℕ
  pub old : List ℕ
  pub after : List ℕ
  pub split : bytes ≡ before ++ old ++ after
  pub start : length before ≡ at
  pub size : length old ≡ 6
  pub filled : (link : StructLink) (six : List ℕ) → IsLink order link six → P link (before ++ six ++ after)

regrouped : (front before six after rest : List ℕ)
    → front ++ (before ++ six ++ after ++ rest) ≡ (front ++ before) ++ six ++ (after ++ rest)
regrouped front before six after rest = simp append_assoc

-- the same in more bytes
gap-in : (order : Order) (P Q : StructLink → List ℕ → Type 0) (front rest whole bytes : List ℕ) (at n : ℕ)
    → whole ≡ front ++ (bytes ++ rest) → n ≡ length front + at
    → ((link : StructLink) (other : List ℕ) → P link other → Q link (front ++ (other ++ rest))) → IsGap order P at bytes
    → IsGap order Q n whole
gap-in order P Q front rest whole bytes at n split is to gap = record {
  before = front ++ gap.before;
  old = gap.old;
  after = gap.after ++ rest;
  split = split ∙ ap (λ bytes. front ++ (bytes ++ rest)) gap.split ∙ regrouped front gap.before gap.old gap.after rest;
  start = omega (arith, length-append front gap.before, gap.start);
  size = gap.size;
  filled = λ link six s. subst (Q link) (regrouped front gap.before six gap.after rest)
      (to link (gap.before ++ six ++ gap.after) (gap.filled link six s));
}

-- what such a gap is filled to
gap-filled : (order : Order) (P : StructLink → List ℕ → Type 0) (at : ℕ) (bytes : List ℕ) → IsGap order P at bytes
    → (link : StructLink) (six : List ℕ) → IsLink order link six → P link (take at bytes ++ six ++ drop (at + 6) bytes)
gap-filled order P at bytes gap link six s =
    subst (P link) (λ i. sym before i ++ six ++ sym after i) (gap.filled link six s)
  where
    before : take at bytes ≡ gap.before
    before = ap (take at) (gap.split ∙ append_assoc gap.before gap.old gap.after)
        ∙ take_at gap.before (gap.old ++ gap.after) at gap.start

    after : drop (at + 6) bytes ≡ gap.after
    after = ap (drop (at + 6)) gap.split
        ∙ drop_at (gap.before ++ gap.old) gap.after (at + 6)
        (omega (arith, length-append gap.before gap.old, gap.start, gap.size))

-- a link of a list
links-gap : (order : Order) (links : List StructLink) (bytes : List ℕ) (n : ℕ) → AreItems (IsLink order) links bytes
    → n < length links → IsGap order
    (λ link other. AreItems (IsLink order) (slice_set links n link) other) (n * 6) bytes
links-gap order [] bytes n s lt = absurd (omega arith)
links-gap order (l ∷ ls) bytes zero (front, rest, split, here, others) lt = record {
  before = [];
  old = front;
  after = rest;
  split = split;
  start = refl;
  size = link-size order l front here;
  filled = λ link six s. (six, rest, refl, s, others);
}
links-gap order (l ∷ ls) bytes (suc n) (front, rest, split, here, others) lt =
    gap-in order (λ link other. AreItems (IsLink order) (slice_set ls n link) other)
    (λ link other. AreItems (IsLink order) (l ∷ slice_set ls n link) other) front [] bytes rest (n * 6) (suc n * 6)
    (split ∙ ap (λ rest. front ++ rest) (sym (append-nil rest))) (omega (arith, link-size order l front here))
    (λ link other s. (
      front,
      other ++ [],
      refl,
      here,
      subst (AreItems (IsLink order) (slice_set ls n link)) (sym (append-nil other)) s,
    ))
    (links-gap order ls rest n others (omega arith))

-- a link of a field
abbrev OtherLink : Value → ℕ → StructLink → Value
OtherLink v n link = linked_value v (slice_set (links_of v) n link)

field-gap : (order : Order) (numbers : List ℕ) (form : Form) (counts : List Count) (v : Value) (bytes : List ℕ) (n : ℕ)
    → is_link_form form ≡ true → IsField order numbers form counts v bytes → n < length (links_of v)
    → IsGap order (λ link other. IsField order numbers form counts (OtherLink v n link) other) (n * 6) bytes
field-gap order numbers Link [] (value.Link old) bytes zero passes s lt = record {
  before = [];
  old = bytes;
  after = [];
  split = sym (append-nil bytes);
  start = refl;
  size = link-size order old bytes s;
  filled = λ link six s. subst (IsLink order link) (sym (append-nil six)) s;
}
field-gap order numbers Link [] (value.Link old) bytes (suc n) passes s lt = absurd (omega arith)
field-gap order numbers Link [] v bytes n passes s lt = absurd s
field-gap order numbers Link (c ∷ cs) (value.Links xs) bytes n passes s lt =
    gap-in order (λ link other. AreItems (IsLink order) (slice_set xs n link) other)
    (λ link other. IsField order numbers Link (c ∷ cs) (value.Links (slice_set xs n link)) other) [] [] bytes bytes
    (n * 6) (n * 6) (sym (append-nil bytes)) (omega arith)
    (λ link other items. record {
      count = length-set xs n link ∙ s.count;
      items = subst (AreItems (IsLink order) (slice_set xs n link)) (sym (append-nil other)) items;
    })
    (links-gap order xs bytes n s.items lt)
field-gap order numbers Link (c ∷ cs) v bytes n passes s lt = absurd s
field-gap order numbers (Number width) counts v bytes n passes s lt = cc
field-gap order numbers (Pair width) counts v bytes n passes s lt = cc
field-gap order numbers Text counts v bytes n passes s lt = cc

-- one spelling of a value stands at the front of bytes
pub field-front : (order : Order) (numbers : List ℕ) (f : Field) (v : Value) (front other rest more : List ℕ)
    → IsField order numbers f.form f.counts v front → IsField order numbers f.form f.counts v other
    → front ++ rest ≡ other ++ more → (length front ≡ length other) × (rest ≡ more)
field-front order numbers f v front other rest more here there same =
    let exact = field_in-exact order numbers f.form f.counts in
    let e = Ok-same {E = BodyReason} (v, rest) (v, more) (sym (exact.again v front rest here)
    ∙ ap (field_in order numbers f.form f.counts) same ∙ exact.again v other more there) in
    let others = ap (λ (z : Value × List ℕ). z.1) e in
    (omega (arith, ap length same, length-append front rest, length-append other more, ap length others), others)

-- a link of a field, after the fields before it
fields-gap : (order : Order) (numbers : List ℕ) (fields : List Field) (values : List Value)
    (bytes tail first more : List ℕ) (i n : ℕ) (f : Field) (v : Value) → AreFields order numbers fields values bytes
    → AreFields order numbers (take i fields) (take i values) first → bytes ++ tail ≡ first ++ more
    → slice_get fields i ≡ Some f → is_link f ≡ true → slice_get values i ≡ Some v → n < length (links_of v)
    → IsGap order (λ link other. AreFields order numbers fields (slice_set values i (OtherLink v n link)) other)
    (length first + n * 6) bytes
fields-gap order numbers [] values bytes tail first more i n f v s before same is passes here lt = cc
fields-gap order numbers (g ∷ gs) [] bytes tail first more i n f v s before same is passes here lt = absurd s
fields-gap order numbers (g ∷ gs) (w ∷ ws) bytes tail first more zero n f v (front, rest, split, this, others) before
    same is passes here lt =
    gap-in order (λ link other. IsField order numbers g.form g.counts (OtherLink w n link) other)
    (λ link other. AreFields order numbers (g ∷ gs) (OtherLink v n link ∷ ws) other) [] rest bytes front (n * 6)
    (length first + n * 6) split (omega (arith, ap length before))
    (λ link other s. (
      other,
      rest,
      refl,
      subst (λ v. IsField order numbers g.form g.counts (OtherLink v n link) other) same_value s,
      others,
    ))
    (field-gap order numbers g.form g.counts w front n link_form this few)
  where
    same_value : w ≡ v
    same_value = same_Some w v here

    link_form : is_link_form g.form ≡ true
    link_form = ap (λ (f : Field). is_link_form f.form) (same_Some g f is) ∙ passes

    few : n < length (links_of w)
    few = omega (arith, lt, ap (λ v. length (links_of v)) same_value)
fields-gap order numbers (g ∷ gs) (w ∷ ws) bytes tail first more (suc i) n f v (front, rest, split, this, others)
    (front', rest', split', this', others') same is passes here lt =
    gap-in order (λ link other. AreFields order numbers gs (slice_set ws i (OtherLink v n link)) other)
    (λ link other. AreFields order numbers (g ∷ gs) (w ∷ slice_set ws i (OtherLink v n link)) other) front [] bytes
    rest (length rest' + n * 6) (length first + n * 6) (split ∙ ap (λ rest. front ++ rest) (sym (append-nil rest)))
    (omega (arith, fronts.0, ap length split', length-append front' rest'))
    (λ link other s. (
      front,
      other ++ [],
      refl,
      this,
      subst (AreFields order numbers gs (slice_set ws i (OtherLink v n link))) (sym (append-nil other)) s,
    ))
    (fields-gap order numbers gs ws rest tail rest' more i n f v others others' fronts.1 is passes here lt)
  where
    fronts : (length front ≡ length front') × (rest ++ tail ≡ rest' ++ more)
    fronts =
        field-front order numbers g w front front' (rest ++ tail) (rest' ++ more) this this'
        (sym (append_assoc front rest tail) ∙ ap (λ bytes. bytes ++ tail) (sym split) ∙ same
        ∙ ap (λ bytes. bytes ++ more) split' ∙ append_assoc front' rest' more)

-- a link of a body
pub body-replaced : (order : Order) (fields : List Field) (bytes tail : List ℕ) (values : List Value) (i n k start : ℕ)
    (f : Field) (v : Value) → (body : IsBody order fields values tail bytes)
    → AreFields order (map number_of values) (take i fields) (take i values) (take start bytes) → start ≤ length bytes
    → slice_get fields i ≡ Some f → is_link f ≡ true → slice_get values i ≡ Some v → n < length (links_of v)
    → k ≡ length (links_in (take i values)) + n → (link : StructLink) (six : List ℕ) → IsLink order link six
    → IsBody order fields (with_links values (slice_set (links_in values) k link)) tail
    (take (start + n * 6) bytes ++ six ++ drop (start + n * 6 + 6) bytes)
body-replaced order fields bytes tail values i n k start f v body before le is passes here lt count =
    gap-filled order P (start + n * 6) bytes
    (gap-in order Q P [] tail bytes body.front (length (take start bytes) + n * 6) (start + n * 6) body.split
    (omega (arith, length-take-le start bytes le)) whole
    (fields-gap order (map number_of values) fields values body.front tail (take start bytes) (drop start bytes) i n f
    v body.spelled before (sym body.split ∙ sym (take-append-drop start bytes)) is passes here lt))
  where
    P : StructLink → List ℕ → Type 0
    P link other = IsBody order fields (with_links values (slice_set (links_in values) k link)) tail other

    Q : StructLink → List ℕ → Type 0
    Q link other =
        AreFields order (map number_of values) fields (slice_set values i (OtherLink v n link)) other

    whole : (link : StructLink) (other : List ℕ) → Q link other → P link (other ++ tail)
    whole link other s =
        let same = ap (λ k. with_links values (slice_set (links_in values) k link)) count
        ∙ linked-at values i n v link here lt in
        subst (λ values. IsBody order fields values tail (other ++ tail)) (sym same) (record {
          front = other;
          split = refl;
          spelled = subst (λ ns. AreFields order ns fields (slice_set values i (OtherLink v n link)) other)
              (sym (linked_value-numbers values i v (slice_set (links_of v) n link) here)) s;
          ends = body.ends;
        })

-- the numbers of the first of some fields, and of the others
numbers_where-append : (such : Field → Bool) (first : ℕ) (fs gs : List Field)
    → numbers_where such first (fs ++ gs) ≡ numbers_where such first fs ++ numbers_where such (first + length fs) gs
numbers_where-append such first [] gs =
    let same : first ≡ first + 0 = omega arith in
    ap (λ n. numbers_where such n gs) same
numbers_where-append such first (f ∷ fs) gs =
    by (such f) (numbers_where-append such (first + 1) fs gs
    ∙ ap (λ n. numbers_where such (first + 1) fs ++ numbers_where such n gs) next)
  where
    next : first + 1 + length fs ≡ first + length (f ∷ fs)
    next = omega arith

    by : (b : Bool) → numbers_where such (first + 1) (fs ++ gs) ≡ numbers_where such (first + 1) fs
        ++ numbers_where such (first + length (f ∷ fs)) gs
        → cond b (first ∷ numbers_where such (first + 1) (fs ++ gs)) (numbers_where such (first + 1) (fs ++ gs))
        ≡ cond b (first ∷ numbers_where such (first + 1) fs) (numbers_where such (first + 1) fs)
        ++ numbers_where such (first + length (f ∷ fs)) gs
    by true e = ap (λ ns. first ∷ ns) e
    by false e = e

-- the numbers before the j-th are those of the fields before its field
numbers_where-before : (such : Field → Bool) (fields : List Field) (j i : ℕ) → IsNumbered such fields j i
    → take j (numbers_where such 0 fields) ≡ numbers_where such 0 (take i fields)
numbers_where-before such fields j i n =
    ap (λ fs. take j (numbers_where such 0 fs)) (sym (take-append-drop i fields))
    ∙ ap (take j) (numbers_where-append such 0 (take i fields) (drop i fields))
    ∙ take_at (numbers_where such 0 (take i fields)) (numbers_where such (0 + length (take i fields)) (drop i fields)) j
    (length-numbers_where such 0 (take i fields) ∙ n.before)

-- the links of the first fields are those of the link fields among them
links-before : (order : Order) (fields : List Field) (values : List Value) (bytes items : List ℕ) (j i : ℕ)
    → items ≡ numbers_where is_link 0 fields → IsNumbered is_link fields j i
    → AreFields order (map number_of values) (take i fields) (take i values) bytes
    → length (flat_map (links_at values) (take j items)) ≡ length (links_in (take i values))
links-before order fields values bytes items j i are n s =
    ap (λ items. length (flat_map (links_at values) (take j items))) are
    ∙ ap (λ items. length (flat_map (links_at values) items)) (numbers_where-before is_link fields j i n)
    ∙ ap length (sym (links-numbered order (map number_of values) (take i fields) (take i values) bytes 0
    (links_at values) s at))
    ∙ field_links-length (take i values)
  where
    at : (m : ℕ) (v : Value) → slice_get (take i values) m ≡ Some v
        → links_at values (0 + m) ≡ links_with (0 + m) (links_of v)
    at m v is =
        let few : m < i = omega (arith, slice_get_within (take i values) m v is, length-take i values) in
        let same : m ≡ 0 + m = omega arith in
        subst (λ m. links_at values m ≡ links_with m (links_of v)) same
        (links_at-value values m v (sym (slice_get-take values m i few) ∙ is))

-- the link that is left of the j-th link field on
pub link-replaced : (order : Order) (fields : List Field) (bytes items : List ℕ) (j k left : ℕ) (p : Placed)
    → items ≡ numbers_where is_link 0 fields → j < length items
    → ((values : List Value) (tail : List ℕ) → IsBody order fields values tail bytes
    → k ≡ length (flat_map (links_at values) (take j items)) + left) → IsPlaced order fields bytes (get_or items j 0) p
    → left < p.length / 6 → IsReplaceable order fields bytes k (p.start + left * 6)
link-replaced order fields bytes items j k left p are lt before placed less values tail body =
    body-replaced order fields bytes tail values i left k p.start n.field placed.value body
    (placed.begins values tail body) (omega (arith, placed.within)) n.is n.passes (placed.here values tail body) few
    (before values tail body
    ∙ ap (λ n. n + left) (links-before order fields values (take p.start bytes) items j i are n
    (placed.begins values tail body)))
  where
    i : ℕ
    i = get_or items j 0

    n : IsNumbered is_link fields j i
    n = link-numbered fields items j are lt

    list : IsLinkList order fields bytes i p
    list = link-list order fields bytes items j p are lt placed

    field_link : StructLink → FieldLink
    field_link link = record { field = i; link = link }

    few : left < length (links_of placed.value)
    few =
        let same = sym (links_at-value values i placed.value (placed.here values tail body))
        ∙ list.are values tail body in
        omega (
          arith,
          list.size,
          ap length same,
          length-map (links_of placed.value) field_link,
          length-map list.links field_link,
        )
