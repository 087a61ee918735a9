-- Plans whose links stand each in a field of its own, and the last of the link fields.
use Rattle.std.proofs.Common.{◌≡◌, ℕ, zero, suc, ◌+◌, ◌-◌, ◌*◌, ◌<◌, ◌≤◌, Bool, true, false, cond, get_or, List, []}
use Rattle.std.proofs.Common.{◌∷◌, ◌++◌, length, drop, Ok, Some, sym, subst}
use Rattle.std.proofs.Common.{take, map, count_by, refl, ap, ◌∙◌, arith, inl, inr}
use Rattle.std.specs.Prelude.{◌&&◌, slice_get}
use Rattle.std.specs.List.{list_all, flat_map}
use Rattle.std.proofs.lemmas.List.{length-append, length-drop, take-take}
use Rattle.std.proofs.lemmas.List.Sums.{count_by_more_yes, sum_by-take-le}
use Rattle.std.proofs.lemmas.Bool.{cases_lt}
use Rattle.std.proofs.lemmas.Option.{slice_get_within, get_or_from_slice_get, same_Some}
use Rattle.scalar_types.specs.declared.Order.{Order}
use Rattle.record_values.specs.declared.values.Value.{Value}
use Rattle.record_values.specs.declared.values.Value.TheVariants as value
use Rattle.record_values.specs.Links.{links_of, links_in}
use Rattle.layout_plan.specs.declared.fields.Form.{Form}
use Rattle.layout_plan.specs.declared.fields.Form.TheVariants.{Number, Pair, Text, Link}
use Rattle.layout_plan.specs.declared.fields.Count.{Count}
use Rattle.layout_plan.specs.declared.fields.Field.{Field}
use Rattle.type_text.specs.declared.types.Link.{Link as StructLink}
use Rattle.layout_plan.specs.declared.faults.BodyReason.{BodyReason}
use Rattle.layout_plan.specs.declared.lent.Placed.{Placed}
use Rattle.layout_plan.specs.declared.links.FieldLink.{FieldLink}
use Rattle.layout_plan.specs.Reading.{link_in}
use Rattle.layout_plan.specs.Lent.{IsPlaced}
use Rattle.layout_plan.specs.Body.{number_of, IsField, AreFields, IsBody}
use Rattle.layout_plan.specs.Links.{is_link_form, is_link, HasLinks, links_with}
use Rattle.layout_plan.specs.Marks.{numbers_where}
use Rattle.layout_plan.specs.Steps.{has_no_counts, is_plain}
use Rattle.layout_plan.specs.Walking.{ArePlaces, AreLinkPlaces}
use Rattle.layout_plan.proofs.ReachLemmas.{ArePlaces-fewer}
use Rattle.layout_plan.proofs.MarkLemmas.{IsNumbered}
use Rattle.layout_plan.proofs.LinkLemmas.{field-none, field-items, link-numbered, links-size, links_at, links_at-more}
use Rattle.layout_plan.proofs.LinkLemmas.{IsLinkList, list-link}
use Rattle.layout_plan.proofs.ExactLemmas.{Ok-same}
use Rattle.layout_plan.proofs.BodyLemmas.{field_in-exact}

both-hold : (a b : Bool) → (a && b) ≡ true → (a ≡ true) × (b ≡ true)
both-hold true true h = (refl, refl)
both-hold true false h = cc
both-hold false true h = cc
both-hold false false h = cc

-- a plain link field has one link
plain-one : (order : Order) (numbers : List ℕ) (form : Form) (counts : List Count) (v : Value) (bytes : List ℕ)
    → is_link_form form ≡ true → cond (is_link_form form) (has_no_counts counts) true ≡ true
    → IsField order numbers form counts v bytes → length (links_of v) ≡ 1
plain-one order numbers Link [] (value.Link link) bytes passes plain s = refl
plain-one order numbers Link [] v bytes passes plain s = absurd s
plain-one order numbers Link (c ∷ cs) v bytes passes plain s = cc
plain-one order numbers (Number width) counts v bytes passes plain s = cc
plain-one order numbers (Pair width) counts v bytes passes plain s = cc
plain-one order numbers Text counts v bytes passes plain s = cc

plain-counted : (order : Order) (numbers : List ℕ) (fields : List Field) (values : List Value) (bytes : List ℕ) (i : ℕ)
    → list_all is_plain fields ≡ true → AreFields order numbers fields values bytes
    → length (numbers_where is_link i fields) ≡ length (links_in values)
plain-counted order numbers [] [] bytes i plain s = refl
plain-counted order numbers [] (v ∷ vs) bytes i plain s = absurd s
plain-counted order numbers (f ∷ fs) [] bytes i plain s = absurd s
plain-counted order numbers (f ∷ fs) (v ∷ vs) bytes i plain (front, rest, split, here, s) =
    by (is_link f) refl (plain-counted order numbers fs vs rest (i + 1) all.1 s)
  where
    all : (is_plain f ≡ true) × (list_all is_plain fs ≡ true)
    all = both-hold (is_plain f) (list_all is_plain fs) plain

    others : List ℕ
    others = numbers_where is_link (i + 1) fs

    by : (b : Bool) → is_link f ≡ b → length others ≡ length (links_in vs)
        → length (cond b (i ∷ others) others) ≡ length (links_of v ++ links_in vs)
    by true passes on =
        omega (
          arith,
          on,
          length-append (links_of v) (links_in vs),
          plain-one order numbers f.form f.counts v front passes all.0 here,
        )
    by false passes on =
        omega (
          arith,
          on,
          length-append (links_of v) (links_in vs),
          ap length (field-none order numbers f.form f.counts v front passes here),
        )

plain-at : (fields : List Field) (i : ℕ) (f : Field) → list_all is_plain fields ≡ true → slice_get fields i ≡ Some f
    → is_plain f ≡ true
plain-at [] i f plain is = absurd (omega (arith, slice_get_within {A = Field} [] i f is))
plain-at (g ∷ gs) zero f plain is =
    ap is_plain (sym (same_Some g f is)) ∙ (both-hold (is_plain g) (list_all is_plain gs) plain).0
plain-at (g ∷ gs) (suc i) f plain is =
    plain-at gs i f (both-hold (is_plain g) (list_all is_plain gs) plain).1 is

-- a plain link takes six bytes
pub plain-size : (order : Order) (fields : List Field) (bytes : List ℕ) (items : List ℕ) (j : ℕ) (p : Placed)
    → items ≡ numbers_where is_link 0 fields → j < length items → list_all is_plain fields ≡ true
    → IsPlaced order fields bytes (get_or items j 0) p → p.length ≡ 6
plain-size order fields bytes items j p are lt plain placed =
    omega (
      arith,
      ap length found.1
          ∙ length-append found.0 (drop (p.start + p.length) bytes),
      length-drop p.start bytes,
      length-drop (p.start + p.length) bytes,
      links-size order (links_of placed.value) found.0
          (field-items order placed.numbers placed.field.form placed.field.counts placed.value found.0 passes found.2),
      plain-one order placed.numbers placed.field.form placed.field.counts placed.value found.0 passes
          (plain-at fields (get_or items j 0) placed.field plain placed.is) found.2,
      placed.within,
    )
  where
    n : IsNumbered is_link fields j (get_or items j 0)
    n = link-numbered fields items j are lt

    passes : is_link_form placed.field.form ≡ true
    passes = ap (λ (f : Field). is_link_form f.form) (same_Some placed.field n.field (sym placed.is ∙ n.is)) ∙ n.passes

    found : (front : List ℕ) × (drop p.start bytes ≡ front ++ drop (p.start + p.length) bytes)
        × IsField order placed.numbers placed.field.form placed.field.counts placed.value front
    found = (field_in-exact order placed.numbers placed.field.form placed.field.counts).found (drop p.start bytes)
        (placed.value, drop (p.start + p.length) bytes) placed.found

-- the one link of a list of one, with its field
one-with : (i : ℕ) (links : List StructLink) (link : StructLink) → length links ≡ 1 → get_or links 0 link ≡ link
    → record { field = i; link = link } ∷ [] ≡ links_with i links
one-with i [] link one is = absurd (omega (arith, one))
one-with i (l ∷ []) link one is = λ k. record { field = i; link = sym is k } ∷ []
one-with i (l ∷ m ∷ ms) link one is = absurd (omega (arith, one))

-- one more plain link
pub plain-links-more : (order : Order) (fields : List Field) (body : List ℕ) (items : List ℕ) (j : ℕ) (p : Placed)
    (link : StructLink) (rest : List ℕ) (xs : List FieldLink) → j < length items
    → IsLinkList order fields body (get_or items j 0) p → p.length ≡ 6
    → link_in order (drop p.start body) ≡ Ok (link, rest)
    → ((values : List Value) (tail : List ℕ) → IsBody order fields values tail body
    → xs ≡ flat_map (links_at values) (take j items)) → (values : List Value) (tail : List ℕ)
    → IsBody order fields values tail body
    → xs ++ record { field = get_or items j 0; link = link } ∷ [] ≡ flat_map (links_at values) (take (j + 1) items)
plain-links-more order fields body items j p link rest xs lt s six read before values tail is =
    let one : length s.links ≡ 1 = omega (arith, s.size, six) in
    let start : p.start + 0 * 6 ≡ p.start = omega arith in
    let there = (list-link order fields body (get_or items j 0) p s 0 link (omega (arith, one))).0 in
    let same = ap (λ (z : StructLink × List ℕ). z.0)
    (Ok-same {E = BodyReason} (get_or s.links 0 link, drop (p.start + 0 * 6 + 6) body) (link, rest) (sym there
    ∙ ap (λ n. link_in order (drop n body)) start ∙ read)) in
    let here = one-with (get_or items j 0) s.links link one same ∙ sym (s.are values tail is) in
    (λ k. before values tail is k ++ here k) ∙ sym (links_at-more values items j lt)

-- a body of plain links has one for each link field
pub plain-links : (order : Order) (fields : List Field) (bytes : List ℕ) (items : List ℕ)
    → items ≡ numbers_where is_link 0 fields → list_all is_plain fields ≡ true
    → HasLinks order fields bytes (length items)
plain-links order fields bytes items are plain values tail body =
    ap length are ∙ plain-counted order (map number_of values) fields values body.front 0 plain body.spelled

-- of fields that are such, a later one has no lower number
numbers-ordered : (such : Field → Bool) (fields : List Field) (j k i l : ℕ) → IsNumbered such fields j i
    → IsNumbered such fields k l → j ≤ k → i ≤ l
numbers-ordered such fields j k i l first last le = elim (cases_lt l i) [
  | inl lt ↦
      let within = slice_get_within fields l last.field last.is in
      let here : such (get_or fields l last.field) ≡ true =
      ap such (get_or_from_slice_get fields l last.field last.field last.is) ∙ last.passes in
      let one = count_by_more_yes such fields l last.field within here in
      let few = sum_by-take-le (λ f. cond (such f) 1 0) (take i fields) (l + 1) in
      let same = ap (count_by such) (take-take (l + 1) i fields (omega arith)) in
      absurd (omega (arith, one, few, same, first.before, last.before))
  | inr le ↦ le
]

-- the places up to the end of the last link field are those up to each
link-places-last : (order : Order) (fields : List Field) (body : List ℕ) (items : List ℕ) (j : ℕ) (ends : List ℕ)
    → items ≡ numbers_where is_link 0 fields → j < length items
    → ArePlaces order fields body (get_or items (length items - 1) 0 + 1) ends
    → ArePlaces order fields body (get_or items j 0 + 1) ends
link-places-last order fields body items j ends are lt places =
    let low = numbers-ordered is_link fields j (length items - 1) (get_or items j 0) (get_or items (length items - 1) 0)
    (link-numbered fields items j are lt) (link-numbered fields items (length items - 1) are (omega arith))
    (omega arith) in
    ArePlaces-fewer order fields body (get_or items (length items - 1) 0 + 1) (get_or items j 0 + 1) ends
    (omega (arith, low)) places

-- the places up to the end of the last link field are those of all
pub link-places-all : (order : Order) (fields : List Field) (body : List ℕ) (items : List ℕ) (ends : List ℕ)
    → items ≡ numbers_where is_link 0 fields
    → ArePlaces order fields body (get_or items (length items - 1) 0 + 1) ends → AreLinkPlaces order fields body ends
link-places-all order fields body items ends are places j lt =
    subst (λ ns. ArePlaces order fields body (get_or ns j 0 + 1) ends) are
    (link-places-last order fields body items j ends are (omega (arith, ap length are)) places)
