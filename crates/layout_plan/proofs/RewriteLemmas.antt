-- A body written again, field by field.
use Rattle.std.proofs.Common.{◌≡◌, ℕ, zero, suc, ◌+◌, ◌-◌, ◌*◌, ◌<◌, ◌≤◌, Bool, true, false, cond, get_or, List, []}
use Rattle.std.proofs.Common.{◌∷◌, ◌++◌, length, map, take, drop, All, Some, refl, sym, ap, ◌∙◌, subst, arith}
use Rattle.std.proofs.Common.{append_assoc, append-nil, zero-add, add-one}
use Rattle.std.specs.Prelude.{slice_get, slice_index, if◌then◌else◌}
use Rattle.std.proofs.Math.Seq.{drop-cons}
use Rattle.std.proofs.lemmas.List.{length-append, length-drop, drop-drop, drop_all}
use Rattle.std.proofs.lemmas.List.Elements.{All-head, All-tail}
use Rattle.std.proofs.lemmas.Option.{same_Some, slice_get_within, slice_get_read, get_or_from_slice_get}
use Rattle.scalar_types.specs.declared.Order.{Order}
use Rattle.scalar_types.specs.declared.Order.TheVariants.{Little}
use Rattle.scalar_types.specs.declared.Width.TheVariants.{One, Two, Four, Eight}
use Rattle.type_text.specs.declared.types.Link.{Link as StructLink}
use Rattle.record_values.specs.declared.values.Value.{Value}
use Rattle.record_values.specs.declared.values.Value.TheVariants as value
use Rattle.record_values.specs.Links.{links_of, links_in, linked_value, with_links}
use Rattle.record_values.specs.Spelling.{IsClosedText}
use Rattle.layout_plan.specs.declared.fields.Form.{Form}
use Rattle.layout_plan.specs.declared.fields.Form.TheVariants.{Number, Pair, Text, Link}
use Rattle.layout_plan.specs.declared.fields.Count.{Count}
use Rattle.layout_plan.specs.declared.fields.Count.TheVariants.{Fixed, Of, OfSigned}
use Rattle.layout_plan.specs.declared.fields.Field.{Field}
use Rattle.layout_plan.specs.declared.lent.Placed.{Placed}
use Rattle.layout_plan.specs.Body.{number_of, signed_count, extent_of, item_count, IsListedBy, IsFieldBy, AreFieldsBy}
use Rattle.layout_plan.specs.Body.{IsListed, IsField, AreFields, IsBody, HasBody}
use Rattle.layout_plan.specs.Layout.{IsEarlier, AreSums, IsLayout}
use Rattle.layout_plan.specs.Lent.{IsPlaced}
use Rattle.layout_plan.specs.Links.{HasLinks}
use Rattle.layout_plan.specs.Written.{with_sums_cleared, IsRewritten}
use Rattle.layout_plan.specs.Respelled.{SpellsFew, RespellsField, IsSumNumber}
use Rattle.layout_plan.proofs.BodyLemmas.{field_in-exact}
use Rattle.layout_plan.proofs.CounterLemmas.{AreSound-at}
use Rattle.layout_plan.specs.Walking.{ArePlaces}
use Rattle.layout_plan.proofs.ReachLemmas.{ArePlaces-fewer}
use Rattle.layout_plan.proofs.LinkLemmas.{body-links-room}
use Rattle.layout_plan.proofs.LentLemmas.{AreFields-length, front-take}
use Rattle.layout_plan.proofs.WrittenLemmas.{closed-written}

-- ---- the numbers of the new values

linked_value-number : (v : Value) (links : List StructLink) → number_of (linked_value v links) ≡ number_of v
linked_value-number (value.Link old) (link ∷ links) = refl
linked_value-number (value.Link old) [] = refl
linked_value-number (value.Links old) links = refl
linked_value-number (value.Num n) links = refl
linked_value-number (value.Pair a b) links = refl
linked_value-number (value.Text text) links = refl
linked_value-number (value.Nums xs) links = refl
linked_value-number (value.Pairs xs) links = refl
linked_value-number (value.Texts xs) links = refl
linked_value-number (value.Bytes xs) links = refl

-- other links leave the numbers as they are
linked-numbers : (values : List Value) (links : List StructLink)
    → map number_of (with_links values links) ≡ map number_of values
linked-numbers [] links = refl
linked-numbers (v ∷ vs) links =
    ap (λ n. n ∷ map number_of (with_links vs (drop (length (links_of v)) links)))
    (linked_value-number v (take (length (links_of v)) links))
    ∙ ap (λ ns. number_of v ∷ ns) (linked-numbers vs (drop (length (links_of v)) links))

-- a cleared check sum leaves those before the last as they are
cleared-number : (fields : List Field) (values : List Value) (k : ℕ) → AreSums fields → length fields ≡ length values
    → k + 1 < length fields → slice_index (map number_of (with_sums_cleared fields values)) k
    ≡ slice_index (map number_of values) k
cleared-number [] values k sums same lt = absurd (omega arith)
cleared-number (f ∷ fs) [] k sums same lt = absurd (omega arith)
cleared-number (f ∷ fs) (v ∷ vs) zero sums same lt = by f.is_sum refl
  where
    by : (b : Bool) → f.is_sum ≡ b → number_of (cond b (value.Num 0) v) ≡ number_of v
    by true is = absurd (omega (arith, ap length ((sums.0 is).2), lt))
    by false is = refl
cleared-number (f ∷ fs) (v ∷ vs) (suc k) sums same lt = cleared-number fs vs k sums.1 (omega arith) (omega arith)

-- two lists of numbers that are alike before number i
abbrev AreAlike : ℕ → List ℕ → List ℕ → Type 0
AreAlike i numbers others = (k : ℕ) → k < i → slice_index others k ≡ slice_index numbers k

extent-alike : (i : ℕ) (numbers others : List ℕ) (c : Count) → IsEarlier i c → AreAlike i numbers others
    → extent_of others c ≡ extent_of numbers c
extent-alike i numbers others (Fixed n) earlier alike = refl
extent-alike i numbers others (Of k) earlier alike = alike k earlier
extent-alike i numbers others (OfSigned k width) earlier alike = ap (signed_count width) (alike k earlier)

item_count-alike : (i : ℕ) (numbers others : List ℕ) (counts : List Count) → All (IsEarlier i) counts
    → AreAlike i numbers others → item_count others counts ≡ item_count numbers counts
item_count-alike i numbers others [] earlier alike = refl
item_count-alike i numbers others (c ∷ cs) earlier alike =
    ap (λ n. n * item_count others cs) (extent-alike i numbers others c (All-head (IsEarlier i) c cs earlier) alike)
    ∙ ap (λ n. extent_of numbers c * n)
    (item_count-alike i numbers others cs (All-tail (IsEarlier i) c cs earlier) alike)

field-alike : (R : List ℕ → List ℕ
    → Type 0) (order : Order) (i : ℕ) (numbers others : List ℕ) (form : Form) (counts : List Count) (v : Value)
    (bytes : List ℕ) → All (IsEarlier i) counts → AreAlike i numbers others
    → IsFieldBy R order numbers form counts v bytes → IsFieldBy R order others form counts v bytes
field-alike R order i numbers others form [] v bytes earlier alike s = s
field-alike R order i numbers others form (c ∷ cs) v bytes earlier alike s =
    subst (λ n. IsListedBy R order form n v bytes) (sym (item_count-alike i numbers others (c ∷ cs) earlier alike)) s

-- ---- a field of a body, where it is placed

-- by the count of one spelling and the items of another
listed-both : (order : Order) (form : Form) (n m : ℕ) (v : Value) (bytes others : List ℕ)
    → IsListed order form n v bytes → IsListed order form m v others → IsListed order form n v others
listed-both order (Number One) n m (value.Bytes xs) bytes others s t = record { count = s.count; items = t.items }
listed-both order (Number Two) n m (value.Nums xs) bytes others s t = record { count = s.count; items = t.items }
listed-both order (Number Four) n m (value.Nums xs) bytes others s t = record { count = s.count; items = t.items }
listed-both order (Number Eight) n m (value.Nums xs) bytes others s t = record { count = s.count; items = t.items }
listed-both order (Pair width) n m (value.Pairs xs) bytes others s t = record { count = s.count; items = t.items }
listed-both order Text n m (value.Texts xs) bytes others s t = record { count = s.count; items = t.items }
listed-both order Link n m (value.Links xs) bytes others s t = record { count = s.count; items = t.items }
listed-both order form n m v bytes others s t = absurd s

field-both : (order : Order) (numbers more : List ℕ) (form : Form) (counts : List Count) (v : Value)
    (bytes others : List ℕ) → IsField order numbers form counts v bytes → IsField order more form counts v others
    → IsField order numbers form counts v others
field-both order numbers more form [] v bytes others s t = t
field-both order numbers more form (c ∷ cs) v bytes others s t =
    listed-both order form (item_count numbers (c ∷ cs)) (item_count more (c ∷ cs)) v bytes others s t

-- the value of field k is spelled somewhere
fields-at : (order : Order) (numbers : List ℕ) (fields : List Field) (values : List Value) (bytes : List ℕ) (k : ℕ)
    (f : Field) (v : Value) → AreFields order numbers fields values bytes → slice_get fields k ≡ Some f
    → slice_get values k ≡ Some v → (here : List ℕ) × IsField order numbers f.form f.counts v here
fields-at order numbers [] [] bytes k f v s at is = cc
fields-at order numbers [] (w ∷ ws) bytes k f v s at is = absurd s
fields-at order numbers (g ∷ gs) [] bytes k f v s at is = absurd s
fields-at order numbers (g ∷ gs) (w ∷ ws) bytes zero f v (front, rest, split, here, others) at is = (
  front,
  subst (λ (f : Field). IsField order numbers f.form f.counts v front) (same_Some g f at)
      (subst (λ v. IsField order numbers g.form g.counts v front) (same_Some w v is) here),
)
fields-at order numbers (g ∷ gs) (w ∷ ws) bytes (suc k) f v (front, rest, split, here, others) at is =
    fields-at order numbers gs ws rest k f v others at is

-- what is known of field k of a body
pub record IsFieldAt (order : Order) (fields : List Field) (values : List Value) (k : ℕ) (f : Field)
    (bytes : List ℕ) : Type 0 where
  pub value : Value
  pub is : slice_get fields k ≡ Some f
  pub here : slice_get values k ≡ Some value
  pub spelled : IsField order (map number_of values) f.form f.counts value bytes

pub placed-field : (order : Order) (fields : List Field) (bytes : List ℕ) (k : ℕ) (f : Field) (p : Placed)
    (values : List Value) (tail : List ℕ) → IsPlaced order fields bytes k p → slice_get fields k ≡ Some f
    → IsBody order fields values tail bytes → IsFieldAt order fields values k f (take p.length (drop p.start bytes))
placed-field order fields bytes k f p values tail placed is body = record {
  value = placed.value;
  is = is;
  here = placed.here values tail body;
  spelled = field-both order (map number_of values) placed.numbers f.form f.counts placed.value there.0
      (take p.length (drop p.start bytes)) there.1 piece;
}
  where
    there : (here : List ℕ) × IsField order (map number_of values) f.form f.counts placed.value here
    there = fields-at order (map number_of values) fields values body.front k f placed.value body.spelled is
        (placed.here values tail body)

    found : (front : List ℕ) × (drop p.start bytes ≡ front ++ drop (p.start + p.length) bytes)
        × IsField order placed.numbers placed.field.form placed.field.counts placed.value front
    found = (field_in-exact order placed.numbers placed.field.form placed.field.counts).found (drop p.start bytes)
        (placed.value, drop (p.start + p.length) bytes) placed.found

    front : found.0 ≡ take p.length (drop p.start bytes)
    front = front-take (drop p.start bytes) found.0 p.length (found.1
        ∙ ap (λ rest. found.0 ++ rest) (sym (drop-drop p.length p.start bytes)))
        (omega (arith, length-drop p.start bytes, placed.within))

    piece : IsField order placed.numbers f.form f.counts placed.value (take p.length (drop p.start bytes))
    piece =
        subst (λ (f : Field). IsField order placed.numbers f.form f.counts placed.value
        (take p.length (drop p.start bytes))) (same_Some placed.field f (sym placed.is ∙ is))
        (subst (λ front. IsField order placed.numbers placed.field.form placed.field.counts placed.value
        front) front found.2)

-- ---- field after field

drop-at : {X : Type 0} (xs : List X) (k : ℕ) (x : X) → slice_get xs k ≡ Some x → drop k xs ≡ x ∷ drop (k + 1) xs
drop-at xs k x is =
    drop-cons xs k x (slice_get_within xs k x is)
    ∙ ap (λ y. y ∷ drop (suc k) xs) (get_or_from_slice_get xs k x x is)
    ∙ ap (λ j. x ∷ drop j xs) (sym (add-one k))

-- the values with 0 for the check sum and with the new links
abbrev pub renewed : List Field → List Value → List StructLink → List Value
renewed fields values links = with_links (with_sums_cleared fields values) links

-- the first k fields are written again with so many of the links
pub record AreRewritten (order : Order) (fields : List Field) (values : List Value) (links : List StructLink)
    (k next : ℕ) (new : List ℕ) : Type 0 where
  pub left : next + length (links_in (drop k values)) ≡ length links
  pub goes_on : (more : List ℕ)
      → AreFieldsBy (IsClosedText Little) Little (map number_of (renewed fields values links)) (drop k fields)
      (renewed (drop k fields) (drop k values) (drop next links)) more
      → AreFieldsBy (IsClosedText Little) Little (map number_of (renewed fields values links)) fields
      (renewed fields values links) (new ++ more)

abbrev pub AreRewrittenUpTo : Order → List Field → List ℕ → List StructLink → ℕ → ℕ → List ℕ → Type 0
AreRewrittenUpTo order fields body links k next new =
    (values : List Value) (tail : List ℕ) → IsBody order fields values tail body
    → AreRewritten order fields values links k next new

pub rewritten-none : (order : Order) (fields : List Field) (body : List ℕ) (links : List StructLink)
    → HasLinks order fields body (length links) → AreRewrittenUpTo order fields body links 0 0 []
rewritten-none order fields body links many values tail is = record {
  left = zero-add (length (links_in values)) ∙ sym (many values tail is);
  goes_on = λ more m. m;
}

-- a check sum has no links
cleared-none : (order : Order) (numbers : List ℕ) (form : Form) (counts : List Count) (v : Value) (bytes : List ℕ)
    → form ≡ Number Four → counts ≡ [] → IsField order numbers form counts v bytes → links_of v ≡ []
cleared-none order numbers (Number Four) [] (value.Num n) bytes is single s = refl
cleared-none order numbers (Number Four) [] v bytes is single s = absurd s
cleared-none order numbers form counts v bytes is single s = cc

cleared-links : (order : Order) (numbers : List ℕ) (f : Field) (v : Value) (bytes : List ℕ) → IsSumNumber f
    → IsField order numbers f.form f.counts v bytes → links_of (if f.is_sum then value.Num 0 else v) ≡ links_of v
cleared-links order numbers f v bytes sum s = by f.is_sum refl
  where
    by : (b : Bool) → f.is_sum ≡ b → links_of (cond b (value.Num 0) v) ≡ links_of v
    by true is = sym (cleared-none order numbers f.form f.counts v bytes (sum is).0 (sum is).1 s)
    by false is = refl

pub sums-at : (fields : List Field) (k : ℕ) (f : Field) → AreSums fields → slice_get fields k ≡ Some f → IsSumNumber f
sums-at [] k f sums at = cc
sums-at (g ∷ gs) zero f sums at = subst IsSumNumber (same_Some g f at) (λ is. ((sums.0 is).0, (sums.0 is).1))
sums-at (g ∷ gs) (suc k) f sums at = sums-at gs k f sums.1 at

-- the numbers before a field are those of the old values
renewed-alike : (fields : List Field) (values : List Value) (links : List StructLink) (k : ℕ) → AreSums fields
    → length fields ≡ length values → k < length fields
    → AreAlike k (map number_of values) (map number_of (renewed fields values links))
renewed-alike fields values links k sums same lt j less =
    ap (λ ns. slice_index ns j) (linked-numbers (with_sums_cleared fields values) links)
    ∙ cleared-number fields values j sums same (omega arith)

-- one more field
pub rewritten-more : (order : Order) (fields : List Field) (links : List StructLink) (k next used : ℕ)
    (new one body bytes : List ℕ) (f : Field) (values : List Value) (tail : List ℕ) → IsLayout fields
    → IsBody order fields values tail body → IsFieldAt order fields values k f bytes
    → RespellsField order f bytes (drop next links) used one → AreRewritten order fields values links k next new
    → AreRewritten order fields values links (k + 1) (next + used) (new ++ one)
rewritten-more order fields links k next used new one body bytes f values tail layout is at respells before = record {
  left = omega (
    arith,
    before.left,
    said.0,
    ap (λ vs. length (links_in vs)) rest_values,
    length-append (links_of at.value) (links_in (drop (k + 1) values)),
  );
  goes_on = goes_on;
}
  where
    said : (used ≡ length (links_of at.value))
        × IsFieldBy (IsClosedText Little) Little (map number_of values) f.form f.counts
        (linked_value (if f.is_sum then value.Num 0 else at.value) (take used (drop next links))) one
    said = respells (map number_of values) at.value at.spelled

    same : length fields ≡ length values
    same = AreFields-length order (map number_of values) fields values is.front is.spelled

    rest_fields : drop k fields ≡ f ∷ drop (k + 1) fields
    rest_fields = drop-at fields k f at.is

    rest_values : drop k values ≡ at.value ∷ drop (k + 1) values
    rest_values = drop-at values k at.value at.here

    many : used ≡ length (links_of (if f.is_sum then value.Num 0 else at.value))
    many =
        said.0 ∙ ap length (sym (cleared-links order (map number_of values) f at.value bytes
        (sums-at fields k f layout.sums at.is) at.spelled))

    here : IsFieldBy (IsClosedText Little) Little (map number_of (renewed fields values links)) f.form f.counts
        (linked_value (if f.is_sum then value.Num 0 else at.value)
        (take (length (links_of (if f.is_sum then value.Num 0 else at.value))) (drop next links))) one
    here =
        subst (λ n. IsFieldBy (IsClosedText Little) Little (map number_of (renewed fields values links)) f.form f.counts
        (linked_value (if f.is_sum then value.Num 0 else at.value) (take n (drop next links))) one) many
        (field-alike (IsClosedText Little) Little k (map number_of values)
        (map number_of (renewed fields values links)) f.form f.counts
        (linked_value (if f.is_sum then value.Num 0 else at.value) (take used (drop next links))) one
        (subst (λ i. All (IsEarlier i) f.counts) (zero-add k) (AreSound-at 0 k fields f layout.sound at.is))
        (renewed-alike fields values links k layout.sums same (slice_get_within fields k f at.is)) said.1)

    links_left : drop (next + used) links
        ≡ drop (length (links_of (if f.is_sum then value.Num 0 else at.value))) (drop next links)
    links_left = sym (drop-drop used next links) ∙ ap (λ n. drop n (drop next links)) many

    goes_on : (more : List ℕ)
        → AreFieldsBy (IsClosedText Little) Little (map number_of (renewed fields values links)) (drop (k + 1) fields)
        (renewed (drop (k + 1) fields) (drop (k + 1) values) (drop (next + used) links)) more
        → AreFieldsBy (IsClosedText Little) Little (map number_of (renewed fields values links)) fields
        (renewed fields values links) ((new ++ one) ++ more)
    goes_on more m =
        let N : List ℕ = map number_of (renewed fields values links) in
        let rest = subst (λ links. AreFieldsBy (IsClosedText Little) Little N (drop (k + 1) fields)
        (renewed (drop (k + 1) fields) (drop (k + 1) values) links) more) links_left m in
        let both : AreFieldsBy (IsClosedText Little) Little N (f ∷ drop (k + 1) fields)
        (renewed (f ∷ drop (k + 1) fields) (at.value ∷ drop (k + 1) values) (drop next links)) (one ++ more) =
        (one, more, refl, here, rest) in
        let all = subst (λ fs. AreFieldsBy (IsClosedText Little) Little N fs
        (renewed fs (drop k values) (drop next links)) (one ++ more)) (sym rest_fields)
        (subst (λ vs. AreFieldsBy (IsClosedText Little) Little N (f ∷ drop (k + 1) fields)
        (renewed (f ∷ drop (k + 1) fields) vs (drop next links)) (one ++ more)) (sym rest_values) both) in
        subst (AreFieldsBy (IsClosedText Little) Little N fields (renewed fields values links))
        (sym (append_assoc new one more)) (before.goes_on (one ++ more) all)

-- all fields are written again
pub rewritten-all : (order : Order) (fields : List Field) (body : List ℕ) (links : List StructLink) (k next : ℕ)
    (new : List ℕ) → IsLayout fields → length fields ≤ k → AreRewrittenUpTo order fields body links k next new
    → IsRewritten order fields body links new
rewritten-all order fields body links k next new layout le rewritten values tail is =
    let same = AreFields-length order (map number_of values) fields values is.front is.spelled in
    let end_fields = drop_all k fields le in
    let end_values = drop_all k values (omega arith) in
    let none = subst (λ fs. AreFieldsBy (IsClosedText Little) Little (map number_of (renewed fields values links)) fs
    (renewed fs (drop k values) (drop next links)) []) (sym end_fields)
    (subst (λ vs. AreFieldsBy (IsClosedText Little) Little (map number_of (renewed fields values links)) []
    (renewed [] vs (drop next links)) []) (sym end_values) refl) in
    let whole = subst (AreFieldsBy (IsClosedText Little) Little (map number_of (renewed fields values links)) fields
    (renewed fields values links)) (append-nil new) ((rewritten values tail is).goes_on [] none) in
    closed-written Little fields (renewed fields values links) new layout.sound whole

-- ---- the loop over the fields

-- field k, and where it is placed
pub record IsFieldPlaced (order : Order) (fields : List Field) (body : List ℕ) (k : ℕ) (f : Field)
    (p : Placed) : Type 0 where
  pub is : slice_get fields k ≡ Some f
  pub placed : IsPlaced order fields body k p

pub field-placed : (order : Order) (fields items : List Field) (body : List ℕ) (k count : ℕ) (f : Field) (ends : List ℕ)
    (p : Placed) → items ≡ fields → k < length items → f ≡ get_or items k f → count ≡ length items
    → ArePlaces order fields body count ends
    → ((order : Order) (body : List ℕ) → ArePlaces order fields body (k + 1) ends → IsPlaced order fields body k p)
    → IsFieldPlaced order fields body k f p
field-placed order fields items body k count f ends p same lt is many places placed = record {
  is = subst (λ fields. slice_get fields k ≡ Some f) same (slice_get_read items (length items) k f refl lt is);
  placed = placed order body (ArePlaces-fewer order fields body count (k + 1) ends (omega arith) places);
}

-- there are no more links than there is room for
pub few-links : (order : Order) (fields : List Field) (body : List ℕ) (links : List StructLink) (k next : ℕ)
    (new : List ℕ) → HasBody order fields body → HasLinks order fields body (length links)
    → AreRewrittenUpTo order fields body links k next new → (next ≤ length links) × (length links * 6 ≤ length body)
few-links order fields body links k next new (values, tail, is) many rewritten = (
  omega (arith, (rewritten values tail is).left),
  omega (arith, many values tail is, body-links-room order fields values tail body is),
)

pub few-left : (order : Order) (fields : List Field) (body : List ℕ) (links : List StructLink) (k next : ℕ)
    (new : List ℕ) (f : Field) (p : Placed) → HasBody order fields body → IsFieldPlaced order fields body k f p
    → AreRewrittenUpTo order fields body links k next new
    → SpellsFew order f.form f.counts (take p.length (drop p.start body)) (drop next links)
few-left order fields body links k next new f p (values, tail, is) at rewritten =
    let here = placed-field order fields body k f p values tail at.placed at.is is in
    let left = (rewritten values tail is).left in
    let rest = ap (λ vs. length (links_in vs)) (drop-at values k here.value here.here)
    ∙ length-append (links_of here.value) (links_in (drop (k + 1) values)) in
    (map number_of values, here.value, here.spelled, omega (arith, left, rest, length-drop next links))

pub few-used : (order : Order) (fields : List Field) (body : List ℕ) (links : List StructLink) (k next used : ℕ)
    (new one : List ℕ) (f : Field) (p : Placed) → HasBody order fields body → IsFieldPlaced order fields body k f p
    → RespellsField order f (take p.length (drop p.start body)) (drop next links) used one
    → AreRewrittenUpTo order fields body links k next new → next + used ≤ length links
few-used order fields body links k next used new one f p (values, tail, is) at respells rewritten =
    let here = placed-field order fields body k f p values tail at.placed at.is is in
    let left = (rewritten values tail is).left in
    let rest = ap (λ vs. length (links_in vs)) (drop-at values k here.value here.here)
    ∙ length-append (links_of here.value) (links_in (drop (k + 1) values)) in
    omega (arith, left, rest, (respells (map number_of values) here.value here.spelled).0)

pub rewritten-step : (order : Order) (fields : List Field) (body : List ℕ) (links : List StructLink) (k next used : ℕ)
    (new one : List ℕ) (f : Field) (p : Placed) → IsLayout fields → IsFieldPlaced order fields body k f p
    → RespellsField order f (take p.length (drop p.start body)) (drop next links) used one
    → AreRewrittenUpTo order fields body links k next new
    → AreRewrittenUpTo order fields body links (k + 1) (next + used) (new ++ one)
rewritten-step order fields body links k next used new one f p layout at respells rewritten values tail is =
    rewritten-more order fields links k next used new one body (take p.length (drop p.start body)) f values tail layout
    is (placed-field order fields body k f p values tail at.placed at.is is) respells (rewritten values tail is)

-- the slice of a field
pub slice-length : (start size : ℕ) (bytes : List ℕ)
    → take (start + size - start) (drop start bytes) ≡ take size (drop start bytes)
slice-length start size bytes =
    let same : start + size - start ≡ size = omega arith in
    ap (λ n. take n (drop start bytes)) same
