-- The values that a body of bytes spells are in range, and so are those of its label, with links in range.
use Rattle.std.proofs.Common.{ℕ, ◌<◌, Bool, true, false, cond, List, [], ◌∷◌, length, map, take}
use Rattle.std.proofs.Common.{drop, All, arith}
use Rattle.std.specs.List.{AllByRecursion}
use Rattle.std.proofs.lemmas.List.Elements.{All-nil, All-cons, All-head, All-take, All-drop}
use Rattle.scalar_types.specs.declared.Order.{Order}
use Rattle.scalar_types.specs.declared.Order.TheVariants.{Big, Little}
use Rattle.scalar_types.specs.declared.Width.TheVariants.{One, Two, Four, Eight}
use Rattle.type_text.specs.declared.types.Link.{Link as StructLink}
use Rattle.record_values.specs.declared.values.Value.{Value}
use Rattle.record_values.specs.declared.values.Value.TheVariants as value
use Rattle.record_values.specs.Links.{links_of, linked_value, with_links}
use Rattle.record_values.specs.Spelling.{IsNumber, AreItems}
use Rattle.layout_plan.specs.declared.fields.Form.{Form}
use Rattle.layout_plan.specs.declared.fields.Form.TheVariants.{Number, Pair, Text, Link}
use Rattle.layout_plan.specs.declared.fields.Count.{Count}
use Rattle.layout_plan.specs.declared.fields.Field.{Field}
use Rattle.layout_plan.specs.Body.{number_of, item_count, IsSingle, IsListed, IsField, AreFields, IsBody}
use Rattle.layout_plan.specs.Written.{with_sums_cleared}
use Rattle.frame_content.specs.Labels.{null_link, nullified, unlinked}
use Rattle.canonical_file.specs.Ranges.{IsByte, AreBytes, IsLinkInRange, IsInRange}
use Rattle.canonical_file.proofs.Spelled.{parts_of}

-- a number of one byte, in either order
one-byte : (order : Order) (n : ℕ) (bytes : List ℕ) → AreBytes bytes → IsNumber order One n bytes → n < 256
one-byte order n [] all h = absurd (omega (arith, h.size))
one-byte Big n (b ∷ []) all h =
    let byte : b < 256 = All-head IsByte b [] all in
    omega (arith, h.value, byte)
one-byte Little n (b ∷ []) all h =
    let byte : b < 256 = All-head IsByte b [] all in
    omega (arith, h.value, byte)
one-byte order n (b ∷ c ∷ bs) all h = absurd (omega (arith, h.size))

bytes-range : (order : Order) (xs bytes : List ℕ) → AreBytes bytes → AreItems (IsNumber order One) xs bytes
    → AreBytes xs
bytes-range order [] bytes all items = All-nil IsByte
bytes-range order (x ∷ xs) bytes all (front, rest, split, r, items) =
    let both = parts_of bytes front rest split all in
    All-cons IsByte x xs (one-byte order x front both.0 r) (bytes-range order xs rest both.1 items)

-- ---- the values of a body, their links null

pub null-range : IsLinkInRange null_link
null-range = (omega arith, omega arith)

nulls-range : (links : List StructLink) → All IsLinkInRange (map nullified links)
nulls-range [] = All-nil IsLinkInRange
nulls-range (l ∷ ls) = All-cons IsLinkInRange null_link (map nullified ls) null-range (nulls-range ls)

single-range : (order : Order) (form : Form) (v : Value) (bytes : List ℕ) → IsSingle order form v bytes
    → IsInRange (unlinked v)
single-range order (Number width) (value.Num n) bytes h = tt
single-range order (Pair width) (value.Pair a b) bytes h = tt
single-range order Text (value.Text text) bytes h = tt
single-range order Link (value.Link link) bytes h = null-range
single-range order form v bytes h = absurd h

listed-range : (order : Order) (form : Form) (n : ℕ) (v : Value) (bytes : List ℕ) → AreBytes bytes
    → IsListed order form n v bytes → IsInRange (unlinked v)
listed-range order (Number One) n (value.Bytes xs) bytes all h = bytes-range order xs bytes all h.items
listed-range order (Number Two) n (value.Nums xs) bytes all h = tt
listed-range order (Number Four) n (value.Nums xs) bytes all h = tt
listed-range order (Number Eight) n (value.Nums xs) bytes all h = tt
listed-range order (Pair width) n (value.Pairs xs) bytes all h = tt
listed-range order Text n (value.Texts xs) bytes all h = tt
listed-range order Link n (value.Links links) bytes all h = nulls-range links
listed-range order form n v bytes all h = absurd h

field-range : (order : Order) (numbers : List ℕ) (form : Form) (counts : List Count) (v : Value) (bytes : List ℕ)
    → AreBytes bytes → IsField order numbers form counts v bytes → IsInRange (unlinked v)
field-range order numbers form [] v bytes all h = single-range order form v bytes h
field-range order numbers form (c ∷ cs) v bytes all h =
    listed-range order form (item_count numbers (c ∷ cs)) v bytes all h

fields-range : (order : Order) (numbers : List ℕ) (fs : List Field) (vs : List Value) (bytes : List ℕ) → AreBytes bytes
    → AreFields order numbers fs vs bytes → AllByRecursion IsInRange (map unlinked vs)
fields-range order numbers [] [] bytes all h = tt
fields-range order numbers [] (v ∷ vs) bytes all h = absurd h
fields-range order numbers (f ∷ fs) [] bytes all h = absurd h
fields-range order numbers (f ∷ fs) (v ∷ vs) bytes all (front, rest, split, r, items) =
    let both = parts_of bytes front rest split all in
    (field-range order numbers f.form f.counts v front both.0 r, fields-range order numbers fs vs rest both.1 items)

-- ---- neither the check sum 0 nor links that are in range change this

cleared-range : (fs : List Field) (vs : List Value) → AllByRecursion IsInRange vs
    → AllByRecursion IsInRange (with_sums_cleared fs vs)
cleared-range [] vs all = all
cleared-range (f ∷ fs) [] all = tt
cleared-range (f ∷ fs) (v ∷ vs) all = (by f.is_sum, cleared-range fs vs all.1)
  where
    by : (b : Bool) → IsInRange (cond b (value.Num 0) v)
    by true = tt
    by false = all.0

linked_value-range : (v : Value) (links : List StructLink) → IsInRange v → All IsLinkInRange links
    → IsInRange (linked_value v links)
linked_value-range (value.Link old) [] range all = range
linked_value-range (value.Link old) (l ∷ ls) range all = All-head IsLinkInRange l ls all
linked_value-range (value.Links old) links range all = all
linked_value-range (value.Num n) links range all = tt
linked_value-range (value.Pair a b) links range all = tt
linked_value-range (value.Text text) links range all = tt
linked_value-range (value.Nums xs) links range all = tt
linked_value-range (value.Pairs xs) links range all = tt
linked_value-range (value.Texts xs) links range all = tt
linked_value-range (value.Bytes xs) links range all = range

linked-range : (vs : List Value) (links : List StructLink) → AllByRecursion IsInRange vs → All IsLinkInRange links
    → AllByRecursion IsInRange (with_links vs links)
linked-range [] links all ranges = tt
linked-range (v ∷ vs) links all ranges =
    let n : ℕ = length (links_of v) in (
      linked_value-range v (take n links) all.0 (All-take IsLinkInRange n links ranges),
      linked-range vs (drop n links) all.1 (All-drop IsLinkInRange n links ranges),
    )

-- The values of the label of a body of bytes are in range.
pub label-range : (order : Order) (fields : List Field) (values : List Value) (tail bytes : List ℕ) → AreBytes bytes
    → IsBody order fields values tail bytes → AllByRecursion IsInRange (with_sums_cleared fields (map unlinked values))
label-range order fields values tail bytes all body =
    let both = parts_of bytes body.front tail body.split all in
    cleared-range fields (map unlinked values)
    (fields-range order (map number_of values) fields values body.front both.0 body.spelled)

-- So they are with links in range.
pub linked-label-range : (order : Order) (fields : List Field) (values : List Value) (tail bytes : List ℕ)
    (links : List StructLink) → AreBytes bytes → IsBody order fields values tail bytes → All IsLinkInRange links
    → AllByRecursion IsInRange (with_links (with_sums_cleared fields (map unlinked values)) links)
linked-label-range order fields values tail bytes links all body ranges =
    linked-range (with_sums_cleared fields (map unlinked values)) links
    (label-range order fields values tail bytes all body) ranges
