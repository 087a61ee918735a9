-- The links of a body, by its fields.
use Rattle.std.proofs.Common.{◌≡◌, ℕ, zero, suc, ◌+◌, ◌-◌, ◌*◌, ◌/◌, ◌<◌, ◌≤◌, Bool, true, false, cond, get_or, List}
use Rattle.std.proofs.Common.{[], ◌∷◌, ◌++◌, length, take, drop, map, Ok, Some, refl, sym, ap, ◌∙◌, subst, arith}
use Rattle.std.proofs.Common.{append_assoc, append-nil, add-zero}
use Rattle.std.specs.Prelude.{slice_get}
use Rattle.std.specs.List.{flat_map}
use Rattle.std.specs.Option.{option_map, option_map_or}
use Rattle.std.proofs.lemmas.List.{length-append, length-drop, length-map, length-take-le, map-append, drop-drop}
use Rattle.std.proofs.lemmas.List.{drop_at, take-append-drop, take-take, take_all, take_more}
use Rattle.std.proofs.lemmas.List.Concat.{get_or-flat_map}
use Rattle.std.proofs.lemmas.List.Folds.{length-flat_map-take}
use Rattle.std.proofs.lemmas.Grind.{flat_map-append}
use Rattle.std.proofs.lemmas.Slice.Zip.{AllZip-map}
use Rattle.std.proofs.lemmas.Option.{same_Some, slice_get-map, slice_get_read, slice_get_within}
use Rattle.scalar_types.specs.declared.Order.{Order}
use Rattle.scalar_types.specs.declared.Width.TheVariants.{One, Two, Four, Eight}
use Rattle.scalar_types.specs.Number.{number}
use Rattle.type_text.specs.declared.types.Link.{Link as StructLink}
use Rattle.record_values.specs.declared.values.Value.{Value}
use Rattle.record_values.specs.declared.values.Value.TheVariants as value
use Rattle.record_values.specs.Spelling.{IsLink, AreItems}
use Rattle.record_values.specs.Links.{links_of, links_in}
use Rattle.layout_plan.specs.declared.fields.Form.{Form}
use Rattle.layout_plan.specs.declared.fields.Form.TheVariants.{Number, Pair, Text, Link}
use Rattle.layout_plan.specs.declared.fields.Count.{Count}
use Rattle.layout_plan.specs.declared.fields.Field.{Field}
use Rattle.layout_plan.specs.declared.faults.BodyReason.{BodyReason}
use Rattle.layout_plan.specs.declared.lent.Placed.{Placed}
use Rattle.layout_plan.specs.declared.links.FieldLink.{FieldLink}
use Rattle.layout_plan.specs.declared.links.LinkPlace.{LinkPlace}
use Rattle.layout_plan.specs.Body.{number_of, IsSingle, IsListed, IsField, AreFields, IsBody, HasBody}
use Rattle.layout_plan.specs.Reading.{Found, and_then, found_map, number_in, link_in}
use Rattle.layout_plan.specs.Lent.{IsPlaced}
use Rattle.layout_plan.specs.Links.{links_with, field_links, HasLink, HasLinks, AreLinks, AreBodyLinks, IsLinkPlaced}
use Rattle.layout_plan.specs.Links.{HasLinkAt, is_link_form, is_link}
use Rattle.layout_plan.specs.Made.{IsMadeOf}
use Rattle.layout_plan.specs.Marks.{numbers_where}
use Rattle.layout_plan.specs.Walking.{ArePlaces, AreLinkPlaces}
use Rattle.layout_plan.proofs.ReachLemmas.{ArePlaces-fewer}
use Rattle.layout_plan.proofs.MarkLemmas.{IsNumbered, numbers_where-at, length-numbers_where}
use Rattle.layout_plan.proofs.ExactLemmas.{Ok-same, bytes_in-enough, link_in-exact}
use Rattle.layout_plan.proofs.BodyLemmas.{field_in-exact}
use Rattle.layout_plan.proofs.LentLemmas.{front-take}

-- a field that is no link has none
single-none : (order : Order) (form : Form) (v : Value) (bytes : List ℕ) → is_link_form form ≡ false
    → IsSingle order form v bytes → links_of v ≡ []
single-none order Link v bytes other s = cc
single-none order (Number width) (value.Num n) bytes other s = refl
single-none order (Pair width) (value.Pair a b) bytes other s = refl
single-none order Text (value.Text text) bytes other s = refl
single-none order form v bytes other s = absurd s

listed-none : (order : Order) (form : Form) (n : ℕ) (v : Value) (bytes : List ℕ) → is_link_form form ≡ false
    → IsListed order form n v bytes → links_of v ≡ []
listed-none order Link n v bytes other s = cc
listed-none order (Number One) n (value.Bytes xs) bytes other s = refl
listed-none order (Number Two) n (value.Nums xs) bytes other s = refl
listed-none order (Number Four) n (value.Nums xs) bytes other s = refl
listed-none order (Number Eight) n (value.Nums xs) bytes other s = refl
listed-none order (Pair width) n (value.Pairs xs) bytes other s = refl
listed-none order Text n (value.Texts xs) bytes other s = refl
listed-none order form n v bytes other s = absurd s

pub field-none : (order : Order) (numbers : List ℕ) (form : Form) (counts : List Count) (v : Value) (bytes : List ℕ)
    → is_link_form form ≡ false → IsField order numbers form counts v bytes → links_of v ≡ []
field-none order numbers form [] v bytes other s = single-none order form v bytes other s
field-none order numbers form (c ∷ cs) v bytes other s = listed-none order form _ v bytes other s

-- the bytes of a link field are its links
link-items : (order : Order) (numbers : List ℕ) (counts : List Count) (v : Value) (bytes : List ℕ)
    → IsField order numbers Link counts v bytes → AreItems (IsLink order) (links_of v) bytes
link-items order numbers [] (value.Link link) bytes s = (bytes, [], sym (append-nil bytes), s, refl)
link-items order numbers [] v bytes s = absurd s
link-items order numbers (c ∷ cs) (value.Links xs) bytes s = s.items
link-items order numbers (c ∷ cs) v bytes s = absurd s

form-link : (form : Form) → is_link_form form ≡ true → form ≡ Link
form-link Link passes = refl
form-link (Number width) passes = cc
form-link (Pair width) passes = cc
form-link Text passes = cc

pub field-items : (order : Order) (numbers : List ℕ) (form : Form) (counts : List Count) (v : Value) (bytes : List ℕ)
    → is_link_form form ≡ true → IsField order numbers form counts v bytes → AreItems (IsLink order) (links_of v) bytes
field-items order numbers form counts v bytes passes s =
    link-items order numbers counts v bytes
    (subst (λ form. IsField order numbers form counts v bytes) (form-link form passes) s)

-- six bytes a link
pub link-size : (order : Order) (link : StructLink) (bytes : List ℕ) → IsLink order link bytes → length bytes ≡ 6
link-size order link bytes s =
    omega (arith, ap length s.split ∙ length-append s.front s.back, s.class.size, s.instance.size)

pub links-size : (order : Order) (links : List StructLink) (bytes : List ℕ) → AreItems (IsLink order) links bytes
    → length bytes ≡ length links * 6
links-size order [] bytes s = ap length s
links-size order (l ∷ ls) bytes (front, rest, split, here, others) =
    omega (
      arith,
      ap length split ∙ length-append front rest,
      link-size order l front here,
      links-size order ls rest others,
    )

-- a link of a list, where it stands
pub link-item : (order : Order) (links : List StructLink) (front rest : List ℕ) (i : ℕ) (d : StructLink)
    → AreItems (IsLink order) links front → i < length links
    → link_in order (drop (i * 6) (front ++ rest)) ≡ Ok (get_or links i d, drop (i * 6 + 6) (front ++ rest))
link-item order [] front rest i d s lt = absurd (omega arith)
link-item order (l ∷ ls) front rest i d (first, others, split, here, s) lt =
    by i lt (λ j below. link-item order ls others rest j d s below)
  where
    whole : front ++ rest ≡ first ++ (others ++ rest)
    whole = ap (λ bytes. bytes ++ rest) split ∙ append_assoc first others rest

    after : drop 6 (front ++ rest) ≡ others ++ rest
    after = ap (drop 6) whole ∙ drop_at first (others ++ rest) 6 (link-size order l first here)

    by : (i : ℕ) → i < length (l ∷ ls)
        → ((j : ℕ) → j < length ls
        → link_in order (drop (j * 6) (others ++ rest)) ≡ Ok (get_or ls j d, drop (j * 6 + 6) (others ++ rest)))
        → link_in order (drop (i * 6) (front ++ rest)) ≡ Ok (get_or (l ∷ ls) i d, drop (i * 6 + 6) (front ++ rest))
    by zero lt later =
        ap (link_in order) whole
        ∙ (link_in-exact order).again l first (others ++ rest) here
        ∙ ap (λ r. Ok (l, r)) (sym after)
    by (suc j) lt later =
        let on : (n : ℕ) → drop n (others ++ rest) ≡ drop (6 + n) (front ++ rest) = λ n. ap (drop n) (sym after)
        ∙ drop-drop n 6 (front ++ rest) in
        let at : 6 + j * 6 ≡ suc j * 6 = omega arith in
        let end : 6 + (j * 6 + 6) ≡ suc j * 6 + 6 = omega arith in
        ap (λ n. link_in order (drop n (front ++ rest))) (sym at)
        ∙ ap (link_in order) (sym (on (j * 6)))
        ∙ later j (omega arith)
        ∙ ap (λ r. Ok (get_or ls j d, r)) (on (j * 6 + 6) ∙ ap (λ n. drop n (front ++ rest)) end)

-- the links of the value at a place, with this number
abbrev pub links_at : List Value → ℕ → List FieldLink
links_at values k = option_map_or (λ v. links_with k (links_of v)) (slice_get values k) []

pub links_at-value : (values : List Value) (k : ℕ) (v : Value) → slice_get values k ≡ Some v
    → links_at values k ≡ links_with k (links_of v)
links_at-value values k v is = ap (λ o. option_map_or (λ v. links_with k (links_of v)) o []) is

-- the links of the fields are those of the link fields
pub links-numbered : (order : Order) (numbers : List ℕ) (fields : List Field) (values : List Value) (bytes : List ℕ)
    (i : ℕ) (at : ℕ → List FieldLink) → AreFields order numbers fields values bytes
    → ((j : ℕ) (v : Value) → slice_get values j ≡ Some v → at (i + j) ≡ links_with (i + j) (links_of v))
    → field_links i values ≡ flat_map at (numbers_where is_link i fields)
links-numbered order numbers [] [] bytes i at s are = refl
links-numbered order numbers [] (v ∷ vs) bytes i at s are = absurd s
links-numbered order numbers (f ∷ fs) [] bytes i at s are = absurd s
links-numbered order numbers (f ∷ fs) (v ∷ vs) bytes i at (front, rest, split, here, s) are =
    by (is_link f) refl (links-numbered order numbers fs vs rest (i + 1) at s later)
  where
    later : (j : ℕ) (w : Value) → slice_get vs j ≡ Some w → at (i + 1 + j) ≡ links_with (i + 1 + j) (links_of w)
    later j w is =
        let on : i + suc j ≡ i + 1 + j = omega arith in
        subst (λ k. at k ≡ links_with k (links_of w)) on (are (suc j) w is)

    first : at i ≡ links_with i (links_of v)
    first = subst (λ k. at k ≡ links_with k (links_of v)) (add-zero i) (are 0 v refl)

    others : List ℕ
    others = numbers_where is_link (i + 1) fs

    by : (b : Bool) → is_link f ≡ b → field_links (i + 1) vs ≡ flat_map at others
        → links_with i (links_of v) ++ field_links (i + 1) vs ≡ flat_map at (cond b (i ∷ others) others)
    by true passes on = λ j. sym first j ++ on j
    by false passes on =
        ap (λ links. links_with i links ++ field_links (i + 1) vs)
        (field-none order numbers f.form f.counts v front passes here) ∙ on

pub body-links : (order : Order) (fields : List Field) (values : List Value) (tail bytes : List ℕ)
    → IsBody order fields values tail bytes
    → field_links 0 values ≡ flat_map (links_at values) (numbers_where is_link 0 fields)
body-links order fields values tail bytes body =
    links-numbered order (map number_of values) fields values body.front 0 (links_at values) body.spelled
    (λ j v is. let same : j ≡ 0 + j = omega arith in
    subst (λ k. links_at values k ≡ links_with k (links_of v)) same (links_at-value values j v is))

-- the links without their fields
links_with-links : (i : ℕ) (links : List StructLink) → map (λ (l : FieldLink). l.link) (links_with i links) ≡ links
links_with-links i [] = refl
links_with-links i (l ∷ ls) = ap (λ ls. l ∷ ls) (links_with-links i ls)

pub field_links-links : (i : ℕ) (values : List Value)
    → map (λ (l : FieldLink). l.link) (field_links i values) ≡ links_in values
field_links-links i [] = refl
field_links-links i (v ∷ vs) =
    map-append (λ (l : FieldLink). l.link) (links_with i (links_of v)) (field_links (i + 1) vs)
    ∙ (λ j. links_with-links i (links_of v) j ++ field_links-links (i + 1) vs j)

pub field_links-length : (values : List Value) → length (field_links 0 values) ≡ length (links_in values)
field_links-length values =
    sym (length-map (field_links 0 values) (λ (l : FieldLink). l.link)) ∙ ap length (field_links-links 0 values)

-- the body has as many links as are listed
pub listed-links : (order : Order) (fields : List Field) (bytes : List ℕ) (links : List FieldLink) (n : ℕ)
    → AreLinks order fields bytes links → length links ≡ n → HasLinks order fields bytes n
listed-links order fields bytes links n are many values tail body =
    sym many ∙ ap length (are values tail body) ∙ field_links-length values

-- the links without their fields are the body's links
pub plain-list : (order : Order) (fields : List Field) (bytes : List ℕ) (links : List StructLink)
    → IsMadeOf (λ (found : FieldLink) link. link ≡ found.link) (AreLinks order fields bytes) links
    → AreBodyLinks order fields bytes links
plain-list order fields bytes links made values tail body =
    AllZip-map (λ (found : FieldLink). found.link) made.items links made.each
    ∙ ap (map (λ (found : FieldLink). found.link)) (made.related values tail body)
    ∙ field_links-links 0 values

-- as many links as there is room for
links-room : (order : Order) (numbers : List ℕ) (fields : List Field) (values : List Value) (bytes : List ℕ)
    → AreFields order numbers fields values bytes → length (links_in values) * 6 ≤ length bytes
links-room order numbers [] [] bytes s = omega arith
links-room order numbers [] (v ∷ vs) bytes s = absurd s
links-room order numbers (f ∷ fs) [] bytes s = absurd s
links-room order numbers (f ∷ fs) (v ∷ vs) bytes (front, rest, split, here, s) =
    omega (
      arith,
      length-append (links_of v) (links_in vs),
      ap length split ∙ length-append front rest,
      links-room order numbers fs vs rest s,
      by (is_link f) refl,
    )
  where
    by : (b : Bool) → is_link f ≡ b → length (links_of v) * 6 ≤ length front
    by true passes = omega (
      arith,
      links-size order (links_of v) front (field-items order numbers f.form f.counts v front passes here),
    )
    by false passes = omega (arith, ap length (field-none order numbers f.form f.counts v front passes here))

pub body-links-room : (order : Order) (fields : List Field) (values : List Value) (tail bytes : List ℕ)
    → IsBody order fields values tail bytes → length (links_in values) * 6 ≤ length bytes
body-links-room order fields values tail bytes body =
    omega (
      arith,
      links-room order (map number_of values) fields values body.front body.spelled,
      ap length body.split
          ∙ length-append body.front tail,
    )

pub HasLink-body : (order : Order) (fields : List Field) (bytes : List ℕ) (k : ℕ) → HasLink order fields bytes k
    → HasBody order fields bytes
HasLink-body order fields bytes k (values, tail, body, lt) = (values, tail, body)

-- the two numbers of a link
pub link_in-numbers : (order : Order) (bytes : List ℕ) (class n : ℕ) → 6 ≤ length bytes
    → class ≡ number order (take 2 bytes) → n ≡ number order (take 4 (drop 2 bytes))
    → link_in order bytes ≡ Ok (record { class = class; instance = n }, drop 6 bytes)
link_in-numbers order bytes class n le is_class is_n =
    ap (λ r. and_then (found_map (number order) r) next) (bytes_in-enough 2 bytes (omega arith))
    ∙ ap (λ r. found_map (make (number order (take 2 bytes))) (found_map (number order) r))
    (bytes_in-enough 4 (drop 2 bytes) (omega (arith, length-drop 2 bytes)))
    ∙ (λ i. Ok (make (sym is_class i) (sym is_n i), drop-drop 4 2 bytes i))
  where
    make : ℕ → ℕ → StructLink
    make class n = record { class = class; instance = n }

    next : ℕ × List ℕ → Found StructLink
    next class = found_map (make class.0) (number_in order Four class.1)

-- the j-th link field, where it is placed
pub record IsLinkList (order : Order) (fields : List Field) (bytes : List ℕ) (i : ℕ) (p : Placed) : Type 0 where
  pub links : List StructLink
  pub items : AreItems (IsLink order) links (take p.length (drop p.start bytes))
  pub size : p.length ≡ length links * 6
  pub within : p.start + p.length ≤ length bytes
  pub are : (values : List Value) (tail : List ℕ) → IsBody order fields values tail bytes
      → links_at values i ≡ links_with i links

pub placed-links : (order : Order) (fields : List Field) (bytes : List ℕ) (j i : ℕ) (p : Placed)
    → IsNumbered is_link fields j i → IsPlaced order fields bytes i p → IsLinkList order fields bytes i p
placed-links order fields bytes j i p n placed = record {
  links = links_of placed.value;
  items = items;
  size = sym size ∙ links-size order (links_of placed.value) (take p.length (drop p.start bytes)) items;
  within = placed.within;
  are = λ values tail body. links_at-value values i placed.value (placed.here values tail body);
}
  where
    passes : is_link_form placed.field.form ≡ true
    passes = ap (λ (f : Field). is_link_form f.form) (same_Some placed.field n.field (sym placed.is ∙ n.is)) ∙ n.passes

    found : (front : List ℕ) × (drop p.start bytes ≡ front ++ drop (p.start + p.length) bytes)
        × IsField order placed.numbers placed.field.form placed.field.counts placed.value front
    found = (field_in-exact order placed.numbers placed.field.form placed.field.counts).found (drop p.start bytes)
        (placed.value, drop (p.start + p.length) bytes) placed.found

    room : p.length ≤ length (drop p.start bytes)
    room = omega (arith, length-drop p.start bytes, placed.within)

    front : found.0 ≡ take p.length (drop p.start bytes)
    front = front-take (drop p.start bytes) found.0 p.length (found.1
        ∙ ap (λ rest. found.0 ++ rest) (sym (drop-drop p.length p.start bytes))) room

    items : AreItems (IsLink order) (links_of placed.value) (take p.length (drop p.start bytes))
    items = subst (AreItems (IsLink order) (links_of placed.value)) front
        (field-items order placed.numbers placed.field.form placed.field.counts placed.value found.0 passes found.2)

    size : length (take p.length (drop p.start bytes)) ≡ p.length
    size = length-take-le p.length (drop p.start bytes) room

-- the j-th link of a list that is placed
pub list-link : (order : Order) (fields : List Field) (bytes : List ℕ) (i : ℕ) (p : Placed)
    (s : IsLinkList order fields bytes i p) (j : ℕ) (d : StructLink) → j < length s.links
    → (link_in order (drop (p.start + j * 6) bytes) ≡ Ok (get_or s.links j d, drop (p.start + j * 6 + 6) bytes))
    × (p.start + j * 6 + 6 ≤ length bytes)
list-link order fields bytes i p s j d lt = (there, omega (arith, s.size, s.within))
  where
    on : (n : ℕ) → drop n (take p.length (drop p.start bytes) ++ drop p.length (drop p.start bytes))
        ≡ drop (p.start + n) bytes
    on n = ap (drop n) (take-append-drop p.length (drop p.start bytes)) ∙ drop-drop n p.start bytes

    there : link_in order (drop (p.start + j * 6) bytes) ≡ Ok (get_or s.links j d, drop (p.start + j * 6 + 6) bytes)
    there =
        let end : p.start + (j * 6 + 6) ≡ p.start + j * 6 + 6 = omega arith in
        ap (link_in order) (sym (on (j * 6)))
        ∙ link-item order s.links (take p.length (drop p.start bytes))
        (drop p.length (drop p.start bytes)) j d s.items lt
        ∙ ap (λ r. Ok (get_or s.links j d, r)) (on (j * 6 + 6) ∙ ap (λ n. drop n bytes) end)

-- a link of a list, with its field
with-at : (i : ℕ) (links : List StructLink) (n : ℕ) (d : StructLink) (e : FieldLink) → n < length links
    → get_or (links_with i links) n e ≡ record { field = i; link = get_or links n d }
with-at i [] n d e lt = absurd (omega arith)
with-at i (l ∷ ls) zero d e lt = refl
with-at i (l ∷ ls) (suc n) d e lt = with-at i ls n d e (omega arith)

links_with-length : (i : ℕ) (links : List StructLink) → length (links_with i links) ≡ length links
links_with-length i [] = refl
links_with-length i (l ∷ ls) = ap suc (links_with-length i ls)

-- one more link field
pub links_at-more : (values : List Value) (items : List ℕ) (j : ℕ) → j < length items
    → flat_map (links_at values) (take (j + 1) items) ≡ flat_map (links_at values) (take j items)
    ++ links_at values (get_or items j 0)
links_at-more values items j lt =
    ap (flat_map (links_at values)) (take_more items j 0 lt)
    ∙ flat_map-append (links_at values) (take j items) (get_or items j 0 ∷ [])
    ∙ ap (λ links. flat_map (links_at values) (take j items) ++ links) (append-nil (links_at values (get_or items j 0)))

-- so many links of the first link fields
abbrev pub AreCountedLinks : Order → List Field → List ℕ → List ℕ → ℕ → ℕ → Type 0
AreCountedLinks order fields bytes items j count =
    (values : List Value) (tail : List ℕ) → IsBody order fields values tail bytes
    → count ≡ length (flat_map (links_at values) (take j items))

pub counted-more : (order : Order) (fields : List Field) (bytes items : List ℕ) (j count : ℕ) (p : Placed)
    → j < length items → AreCountedLinks order fields bytes items j count
    → IsLinkList order fields bytes (get_or items j 0) p
    → AreCountedLinks order fields bytes items (j + 1) (count + p.length / 6)
counted-more order fields bytes items j count p lt before s values tail body =
    let here = ap length (s.are values tail body) ∙ links_with-length (get_or items j 0) s.links in
    let more = ap length (links_at-more values items j lt)
    ∙ length-append (flat_map (links_at values) (take j items)) (links_at values (get_or items j 0)) in
    let each : p.length / 6 ≡ length s.links = omega (arith, s.size) in
    omega (arith, here, more, each, before values tail body)

-- as many as the body has, and no more than there is room for
pub counted-few : (order : Order) (fields : List Field) (bytes items : List ℕ) (j count : ℕ)
    → items ≡ numbers_where is_link 0 fields → HasBody order fields bytes
    → AreCountedLinks order fields bytes items j count → count * 6 ≤ length bytes
counted-few order fields bytes items j count are (values, tail, body) counted =
    let all = ap length (body-links order fields values tail bytes body ∙ ap (flat_map (links_at values)) (sym are)) in
    let front = ap length (sym (flat_map-append (links_at values) (take j items) (drop j items))
    ∙ ap (flat_map (links_at values)) (take-append-drop j items)) in
    let split = length-append (flat_map (links_at values) (take j items)) (flat_map (links_at values) (drop j items)) in
    omega (
      arith,
      counted values tail body,
      all,
      front,
      split,
      field_links-length values,
      body-links-room order fields values tail bytes body,
    )

pub counted-all : (order : Order) (fields : List Field) (bytes items : List ℕ) (j count : ℕ)
    → items ≡ numbers_where is_link 0 fields → length items ≤ j → AreCountedLinks order fields bytes items j count
    → HasLinks order fields bytes count
counted-all order fields bytes items j count are le counted values tail body =
    counted values tail body
    ∙ ap (λ items. length (flat_map (links_at values) items)) (take_all j items le ∙ are)
    ∙ ap length (sym (body-links order fields values tail bytes body))
    ∙ field_links-length values

-- the link that is left of the j-th link field on
pub link-placed : (order : Order) (fields : List Field) (bytes items : List ℕ) (j k left : ℕ) (p : Placed)
    → items ≡ numbers_where is_link 0 fields → j < length items
    → ((values : List Value) (tail : List ℕ) → IsBody order fields values tail bytes
    → k ≡ length (flat_map (links_at values) (take j items)) + left)
    → IsLinkList order fields bytes (get_or items j 0) p → left < p.length / 6
    → IsLinkPlaced order fields bytes k (record { field = get_or items j 0; at = p.start + left * 6 })
link-placed order fields bytes items j k left p are lt before s less values tail body = (
  get_or s.links left null,
  slice_get_read (field_links 0 values) (length (field_links 0 values)) k (this left) refl within (sym here),
  there.0,
  there.1,
)
  where
    null : StructLink
    null = record { class = 0; instance = 0 }

    this : ℕ → FieldLink
    this n = record { field = get_or items j 0; link = get_or s.links n null }

    few : left < length s.links
    few = omega (arith, s.size)

    there : (link_in order (drop (p.start + left * 6) bytes)
        ≡ Ok (get_or s.links left null, drop (p.start + left * 6 + 6) bytes)) × (p.start + left * 6 + 6 ≤ length bytes)
    there = list-link order fields bytes (get_or items j 0) p s left null few

    all : field_links 0 values ≡ flat_map (links_at values) items
    all = body-links order fields values tail bytes body ∙ ap (flat_map (links_at values)) (sym are)

    short : left < length (links_at values (get_or items j 0))
    short = omega (arith, few, ap length (s.are values tail body), links_with-length (get_or items j 0) s.links)

    within : k < length (field_links 0 values)
    within =
        omega (
          arith,
          before values tail body,
          short,
          ap length all,
          length-flat_map-take (links_at values) items j 0 lt,
        )

    here : get_or (field_links 0 values) k (this left) ≡ this left
    here =
        ap (λ links. get_or links k (this left)) all
        ∙ ap (λ k. get_or (flat_map (links_at values) items) k (this left)) (before values tail body)
        ∙ get_or-flat_map (links_at values) items j left 0 (this left) lt short
        ∙ ap (λ links. get_or links left (this left)) (s.are values tail body)
        ∙ with-at (get_or items j 0) s.links left null (this left) few

-- the j-th link field
pub link-numbered : (fields : List Field) (items : List ℕ) (j : ℕ) → items ≡ numbers_where is_link 0 fields
    → j < length items → IsNumbered is_link fields j (get_or items j 0)
link-numbered fields items j are lt =
    numbers_where-at is_link fields j (get_or items j 0) 0
    (omega (arith, ap length are, length-numbers_where is_link 0 fields)) (ap (λ ns. get_or ns j 0) are)

pub link-within : (fields : List Field) (items : List ℕ) (j : ℕ) → items ≡ numbers_where is_link 0 fields
    → j < length items → get_or items j 0 < length fields
link-within fields items j are lt =
    let n = link-numbered fields items j are lt in
    slice_get_within fields (get_or items j 0) n.field n.is

-- one more link of a list
abbrev pub AreFirstLinks : Order → ℕ → List ℕ → ℕ → List FieldLink → Type 0
AreFirstLinks order field bytes i links =
    (items : List StructLink) → AreItems (IsLink order) items bytes → links ≡ links_with field (take i items)

pub first-links-more : (order : Order) (field : ℕ) (bytes : List ℕ) (i : ℕ) (link : StructLink) (rest : List ℕ)
    (links : List FieldLink) → i < length bytes / 6 → link_in order (drop (i * 6) bytes) ≡ Ok (link, rest)
    → AreFirstLinks order field bytes i links
    → AreFirstLinks order field bytes (i + 1) (links ++ record { field = field; link = link } ∷ [])
first-links-more order field bytes i link rest links lt read before items s =
    let size = links-size order items bytes s in
    let few : i < length items = omega arith in
    let here = link-item order items bytes [] i link s few in
    let same = ap (λ (z : StructLink × List ℕ). z.0)
    (Ok-same {E = BodyReason} (link, rest) (get_or items i link, drop (i * 6 + 6) (bytes ++ [])) (sym read
    ∙ ap (λ bytes. link_in order (drop (i * 6) bytes)) (sym (append-nil bytes)) ∙ here)) in
    (λ j. before items s j ++ record { field = field; link = same j } ∷ [])
    ∙ sym (map-append (λ (l : StructLink). field_link l) (take i items) (get_or items i link ∷ []))
    ∙ ap (links_with field) (sym (take_more items i link few))
  where
    field_link : StructLink → FieldLink
    field_link l = record { field = field; link = l }

pub first-links-all : (order : Order) (field : ℕ) (bytes : List ℕ) (i : ℕ) (links : List FieldLink)
    → length bytes / 6 ≤ i → AreFirstLinks order field bytes i links → (items : List StructLink)
    → AreItems (IsLink order) items bytes → links ≡ links_with field items
first-links-all order field bytes i links le before items s =
    before items s ∙ ap (links_with field) (take_all i items (omega (arith, links-size order items bytes s)))

-- the places up to a link field's end
pub link-places : (order : Order) (fields : List Field) (body : List ℕ) (items : List ℕ) (j n : ℕ) (ends : List ℕ)
    → items ≡ numbers_where is_link 0 fields → j < length items → n ≡ length fields → ArePlaces order fields body n ends
    → ArePlaces order fields body (get_or items j 0 + 1) ends
link-places order fields body items j n ends are lt all places =
    ArePlaces-fewer order fields body n (get_or items j 0 + 1) ends
    (omega (arith, link-within fields items j are lt)) places

pub link-place : (order : Order) (fields : List Field) (body : List ℕ) (items : List ℕ) (j : ℕ) (ends : List ℕ)
    → items ≡ numbers_where is_link 0 fields → j < length items → AreLinkPlaces order fields body ends
    → ArePlaces order fields body (get_or items j 0 + 1) ends
link-place order fields body items j ends are lt places =
    subst (λ ns. ArePlaces order fields body (get_or ns j 0 + 1) ends) (sym are)
    (places j (omega (arith, ap length are)))

pub link-places-whole : (order : Order) (fields : List Field) (body : List ℕ) (ends : List ℕ)
    → ArePlaces order fields body (length fields) ends → AreLinkPlaces order fields body ends
link-places-whole order fields body ends places j lt =
    link-places order fields body (numbers_where is_link 0 fields) j (length fields) ends refl lt refl places

-- what is placed by them
pub link-list : (order : Order) (fields : List Field) (body : List ℕ) (items : List ℕ) (j : ℕ) (p : Placed)
    → items ≡ numbers_where is_link 0 fields → j < length items → IsPlaced order fields body (get_or items j 0) p
    → IsLinkList order fields body (get_or items j 0) p
link-list order fields body items j p are lt placed =
    placed-links order fields body j (get_or items j 0) p (link-numbered fields items j are lt) placed

-- the links that are left after one more field
pub left-more : (order : Order) (fields : List Field) (body : List ℕ) (items : List ℕ) (j k left : ℕ) (p : Placed)
    (values : List Value) (tail : List ℕ) → j < length items → IsLinkList order fields body (get_or items j 0) p
    → p.length / 6 ≤ left → IsBody order fields values tail body
    → k ≡ length (flat_map (links_at values) (take j items)) + left
    → k ≡ length (flat_map (links_at values) (take (j + 1) items)) + (left - p.length / 6)
left-more order fields body items j k left p values tail lt s le is before =
    let here = ap length (s.are values tail is) ∙ links_with-length (get_or items j 0) s.links in
    let more = ap length (links_at-more values items j lt)
    ∙ length-append (flat_map (links_at values) (take j items)) (links_at values (get_or items j 0)) in
    let each : p.length / 6 ≡ length s.links = omega (arith, s.size) in
    omega (arith, here, more, each)

-- no link is left after the last field
pub left-none : (order : Order) (fields : List Field) (body : List ℕ) (items : List ℕ) (j k left : ℕ)
    → items ≡ numbers_where is_link 0 fields → length items ≤ j → HasLink order fields body k
    → ((values : List Value) (tail : List ℕ) → IsBody order fields values tail body
    → k ≡ length (flat_map (links_at values) (take j items)) + left) → ⊥
left-none order fields body items j k left are le (values, tail, is, lt) before =
    let all = ap (λ items. length (flat_map (links_at values) items)) (take_all j items le ∙ are)
    ∙ ap length (sym (body-links order fields values tail body is)) ∙ field_links-length values in
    omega (arith, before values tail is, all)

-- the links of one more field
pub fields-links-more : (order : Order) (fields : List Field) (body : List ℕ) (items : List ℕ) (j : ℕ) (p : Placed)
    (n : ℕ) (xs ys : List FieldLink) → j < length items → IsLinkList order fields body (get_or items j 0) p
    → ((values : List Value) (tail : List ℕ) → IsBody order fields values tail body
    → xs ≡ flat_map (links_at values) (take j items))
    → ((links : List StructLink) → AreItems (IsLink order) links (take p.length (take n (drop p.start body)))
    → ys ≡ links_with (get_or items j 0) links) → p.length ≤ n → (values : List Value) (tail : List ℕ)
    → IsBody order fields values tail body → xs ++ ys ≡ flat_map (links_at values) (take (j + 1) items)
fields-links-more order fields body items j p n xs ys lt s before here le values tail is =
    let bytes = take-take p.length n (drop p.start body) le in
    let these = here s.links (subst (AreItems (IsLink order) s.links) (sym bytes) s.items) in
    (λ i. before values tail is i ++ (these ∙ sym (s.are values tail is)) i) ∙ sym (links_at-more values items j lt)

pub fields-links-all : (order : Order) (fields : List Field) (body : List ℕ) (items : List ℕ) (j : ℕ)
    (links : List FieldLink) → items ≡ numbers_where is_link 0 fields → length items ≤ j
    → ((values : List Value) (tail : List ℕ) → IsBody order fields values tail body
    → links ≡ flat_map (links_at values) (take j items)) → AreLinks order fields body links
fields-links-all order fields body items j links are le before values tail is =
    before values tail is
    ∙ ap (flat_map (links_at values)) (take_all j items le ∙ are)
    ∙ sym (body-links order fields values tail body is)

-- the link that is read where it stands
pub link-here : (order : Order) (fields : List Field) (body : List ℕ) (k : ℕ) (p : LinkPlace) (link : StructLink)
    (rest : List ℕ) → IsLinkPlaced order fields body k p → link_in order (drop p.at body) ≡ Ok (link, rest)
    → HasLinkAt order fields body k link
link-here order fields body k p link rest placed read values tail is =
    let t = placed values tail is in
    let same = ap (λ (z : StructLink × List ℕ). z.0)
    (Ok-same {E = BodyReason} (t.0, drop (p.at + 6) body) (link, rest) (sym t.2 ∙ read)) in
    ap (λ links. slice_get links k) (sym (field_links-links 0 values))
    ∙ slice_get-map (λ (l : FieldLink). l.link) (field_links 0 values) k
    ∙ ap (option_map (λ (l : FieldLink). l.link)) t.1
    ∙ ap Some same

pub link-place-room : (order : Order) (fields : List Field) (body : List ℕ) (k : ℕ) (p : LinkPlace)
    → HasLink order fields body k → IsLinkPlaced order fields body k p → p.at + 6 ≤ length body
link-place-room order fields body k p (values, tail, is, lt) placed = (placed values tail is).3
