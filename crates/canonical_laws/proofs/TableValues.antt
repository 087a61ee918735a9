-- The values of a canonical contents table fit its fields, where they are few and small.
use Rattle.std.proofs.Common.{◌≡◌, ◌≢◌, ℕ, zero, suc, ◌+◌, ◌<◌, ◌≤◌, Bool, true, false, Some, List, [], ◌∷◌}
use Rattle.std.proofs.Common.{length, map, drop, flat_map, replicate, All, refl, sym, ◌∙◌, subst, arith, lit<}
use Rattle.std.specs.Prelude.{slice_get}
use Rattle.std.specs.List.{AllByRecursion, AllZip}
use Rattle.std.proofs.lemmas.List.{length-map, length-replicate}
use Rattle.std.proofs.lemmas.List.Elements.{All-nil, All-cons, All-append, All-map, All-weaker, All-replicate}
use Rattle.std.proofs.lemmas.Option.{same_Some, slice_get_within}
use Rattle.scalar_types.specs.declared.Width.{Width}
use Rattle.scalar_types.specs.declared.Width.TheVariants.{One, Two, Four, Eight}
use Rattle.scalar_types.specs.Number.{size_of}
use Rattle.record_values.specs.declared.values.Value.{Value}
use Rattle.record_values.specs.declared.values.Value.TheVariants as value
use Rattle.layout_plan.specs.declared.fields.Form.{Form}
use Rattle.layout_plan.specs.declared.fields.Form.TheVariants.{Number, Pair, Text, Link}
use Rattle.layout_plan.specs.declared.fields.Count.{Count}
use Rattle.layout_plan.specs.declared.fields.Field.{Field}
use Rattle.layout_plan.specs.Body.{number_of, item_count}
use Rattle.layout_plan.proofs.ReadingLemmas.{slice_get-drop, element-within}
use Rattle.file_grammar.specs.Structure.{file_limit}
use Rattle.frame_content.specs.Labels.{null_link}
use Rattle.record_writer.specs.Fit.{FitsWidth, PairFitsWidth, IsShortText, FitsSingle, FitsListed, FitsField, Fits}
use Rattle.contents_table.specs.declared.fit.TableLayout.{TableLayout}
use Rattle.contents_table.specs.declared.names.Listed.{Listed}
use Rattle.contents_table.specs.declared.writing.Tells.{Tells}
use Rattle.contents_table.specs.declared.writing.Tells.TheVariants as told
use Rattle.contents_table.specs.Built.{Built, listed_of, name_in, position_in, numbers_below, IsName, AreNames}
use Rattle.contents_table.specs.Told.{blank_single, blank_listed, blank_by, positions_of, table_values, table_size}
use Rattle.contents_table.specs.Tells.{told_in, field_value, told_number, Suits, IsCounter, IsListOf, AreTold}
use Rattle.contents_table.proofs.ToldValues.{table-length, table-at}
use Rattle.contents_table.proofs.TableSizes.{suits-at, few-at}
use Rattle.canonical_file.specs.Ranges.{IsByte, IsLinkInRange, IsInRange}
use Rattle.canonical_laws.proofs.BuiltFrames.{IsListedWithin, IsBuilt, position-within}

-- ---- fields that tell nothing

zero-fits : (width : Width) → FitsWidth width 0
zero-fits One = lit< tt
zero-fits Two = lit< tt
zero-fits Four = lit< tt
zero-fits Eight = lit< tt

single-blank : (form : Form) → FitsSingle form (blank_single form)
single-blank (Number width) = zero-fits width
single-blank (Pair width) = (zero-fits width, zero-fits width)
single-blank Text = omega arith
single-blank Link = tt

numbers-blank : (width : Width) (n : ℕ)
    → (length (replicate n zero) ≡ n) × All (FitsWidth width) (replicate n zero)
numbers-blank width n = (length-replicate n zero, All-replicate (FitsWidth width) n zero (zero-fits width))

listed-blank : (form : Form) (n : ℕ) → FitsListed form n (blank_listed form n)
listed-blank (Number One) n = length-replicate n zero
listed-blank (Number Two) n = numbers-blank Two n
listed-blank (Number Four) n = numbers-blank Four n
listed-blank (Number Eight) n = numbers-blank Eight n
listed-blank (Pair width) n = (
  length-replicate n (zero, zero),
  All-replicate (PairFitsWidth width) n (zero, zero) (zero-fits width, zero-fits width),
)
listed-blank Text n = (length-replicate n [], All-replicate IsShortText n [] (omega arith))
listed-blank Link n = length-replicate n null_link

blank-fits : (numbers : List ℕ) (form : Form) (counts : List Count)
    → FitsField numbers form counts (blank_by numbers form counts)
blank-fits numbers form [] = single-blank form
blank-fits numbers form (c ∷ cs) = listed-blank form (item_count numbers (c ∷ cs))

-- they are in range
null-range : IsLinkInRange null_link
null-range = (lit< tt, lit< tt)

single-range : (form : Form) → IsInRange (blank_single form)
single-range (Number width) = tt
single-range (Pair width) = tt
single-range Text = tt
single-range Link = null-range

listed-range : (form : Form) (n : ℕ) → IsInRange (blank_listed form n)
listed-range (Number One) n = All-replicate IsByte n zero (lit< tt)
listed-range (Number Two) n = tt
listed-range (Number Four) n = tt
listed-range (Number Eight) n = tt
listed-range (Pair width) n = tt
listed-range Text n = tt
listed-range Link n = All-replicate IsLinkInRange n null_link null-range

blank-range : (numbers : List ℕ) (form : Form) (counts : List Count) → IsInRange (blank_by numbers form counts)
blank-range numbers form [] = single-range form
blank-range numbers form (c ∷ cs) = listed-range form (item_count numbers (c ∷ cs))

-- ---- fields that tell something

wide-fits : (width : Width) (n : ℕ) → 4 ≤ size_of width → n ≤ 4294967295 → FitsWidth width n
wide-fits One n wide small = absurd (omega (arith, wide))
wide-fits Two n wide small = absurd (omega (arith, wide))
wide-fits Four n wide small = omega (arith, small)
wide-fits Eight n wide small = omega (arith, small)

counter-fits : (numbers : List ℕ) (f : Field) (n : ℕ) → IsCounter f → n ≤ 4294967295
    → FitsField numbers f.form f.counts (value.Num n)
counter-fits numbers f n c small =
    let one : FitsField numbers (Number c.width) [] (value.Num n) = wide-fits c.width n c.wide small in
    subst (λ counts. FitsField numbers f.form counts (value.Num n)) (sym c.single)
    (subst (λ form. FitsField numbers form [] (value.Num n)) (sym c.form_is) one)

list-fits : (numbers : List ℕ) (form : Form) (n : ℕ) (f : Field) (v : Value) → IsListOf numbers form n f
    → FitsListed form n v → FitsField numbers f.form f.counts v
list-fits numbers form n f v s fits =
    subst (λ form. FitsField numbers form f.counts v) (sym s.form_is) (by f.counts s.listed s.count)
  where
    by : (counts : List Count) → counts ≢ [] → item_count numbers counts ≡ n → FitsField numbers form counts v
    by [] some count = absurd (some refl)
    by (c ∷ cs) some count = subst (λ m. FitsListed form m v) (sym count) fits

-- a place in a file takes eight bytes at most
place-fits : (size n : ℕ) → size ≤ file_limit → n ≤ size → FitsWidth Eight n
place-fits size n limit within = omega (arith, limit, within)

places-fit : (size : ℕ) (places : List ℕ) → size ≤ file_limit → AllByRecursion (λ at. at ≤ size) places
    → All (FitsWidth Eight) places
places-fit size [] limit all = All-nil (FitsWidth Eight)
places-fit size (at ∷ places) limit all =
    All-cons (FitsWidth Eight) at places (place-fits size at limit all.0) (places-fit size places limit all.1)

map-all : {X Y : Type 0} (P : Y → Type 0) (f : X → Y) → ((x : X) → P (f x)) → (xs : List X) → All P (map f xs)
map-all P f each [] = All-nil P
map-all P f each (x ∷ xs) = All-cons P (f x) (map f xs) (each x) (map-all P f each xs)

flat-all : {X Y : Type 0} (P : Y → Type 0) (f : X → List Y) → ((x : X) → All P (f x)) → (xs : List X)
    → All P (flat_map f xs)
flat-all P f each [] = All-nil P
flat-all P f each (x ∷ xs) = All-append P (f x) (flat_map f xs) (each x) (flat-all P f each xs)

positions-fit : (by_name : Bool) (size frames : ℕ) (listed : List Listed) (names : List (List ℕ)) → size ≤ file_limit
    → AllByRecursion (IsListedWithin size) listed → All (FitsWidth Eight) (positions_of by_name frames listed names)
positions-fit true size frames listed names limit all =
    flat-all (FitsWidth Eight) (λ name. map (position_in listed name) (numbers_below frames))
    (λ name. map-all (FitsWidth Eight) (position_in listed name)
    (λ frame. place-fits size (position_in listed name frame) limit (position-within size listed name frame all))
    (numbers_below frames)) names
positions-fit false size frames listed names limit all =
    flat-all (FitsWidth Eight) (λ frame. map (λ name. position_in listed name frame) names)
    (λ frame. map-all (FitsWidth Eight) (λ name. position_in listed name frame)
    (λ name. place-fits size (position_in listed name frame) limit (position-within size listed name frame all))
    names) (numbers_below frames)

names-fit : (frames : ℕ) (listed : List Listed) → AreNames frames listed → All IsShortText (map name_in listed)
names-fit frames listed names =
    All-map IsShortText name_in listed
    (All-weaker (IsName frames) (λ l. IsShortText l.name) (λ l is. is.short) listed names.names)

-- What a field tells fits it.
field-fits : (numbers : List ℕ) (built : Built) (size : ℕ) (u : Tells) (f : Field) → IsBuilt size built
    → size ≤ file_limit → Suits numbers built u f → told_number built u ≤ 4294967295
    → FitsField numbers f.form f.counts (field_value numbers built u f)
field-fits numbers built size told.Nothing f is limit s few = blank-fits numbers f.form f.counts
field-fits numbers built size told.Frames f is limit s few = counter-fits numbers f (length built.heads) s few
field-fits numbers built size told.Heads f is limit s few =
    list-fits numbers (Number Eight) (length built.heads) f (value.Nums built.heads) s
    (refl, places-fit size built.heads limit is.heads)
field-fits numbers built size (told.Count kind) f is limit s few =
    counter-fits numbers f (length (listed_of built kind)) s few
field-fits numbers built size (told.Names kind) f is limit s few =
    let listed : List Listed = listed_of built kind in
    list-fits numbers Text (length listed) f (value.Texts (map name_in listed)) s
    (length-map listed name_in, names-fit (length built.heads) listed (is.names kind))
field-fits numbers built size (told.Positions kind by_name) f is limit s few =
    let listed : List Listed = listed_of built kind in
    let positions : List ℕ = positions_of by_name (length built.heads) listed (map name_in listed) in
    list-fits numbers (Number Eight) (length positions) f (value.Nums positions) s
    (refl, positions-fit by_name size (length built.heads) listed (map name_in listed) limit (is.places kind))

field-range : (numbers : List ℕ) (built : Built) (u : Tells) (f : Field)
    → IsInRange (field_value numbers built u f)
field-range numbers built told.Nothing f = blank-range numbers f.form f.counts
field-range numbers built told.Frames f = tt
field-range numbers built told.Heads f = tt
field-range numbers built (told.Count kind) f = tt
field-range numbers built (told.Names kind) f = tt
field-range numbers built (told.Positions kind by_name) f = tt

-- ---- all fields

zip-at : {X Y : Type 0} (R : X → Y → Type 0) (xs : List X) (ys : List Y) → length xs ≡ length ys
    → ((k : ℕ) (x : X) (y : Y) → slice_get xs k ≡ Some x → slice_get ys k ≡ Some y → R x y) → AllZip R xs ys
zip-at R [] [] size each = tt
zip-at R [] (y ∷ ys) size each = absurd (omega (arith, size))
zip-at R (x ∷ xs) [] size each = absurd (omega (arith, size))
zip-at R (x ∷ xs) (y ∷ ys) size each =
    (each 0 x y refl refl, zip-at R xs ys (omega (arith, size)) (λ k a b here there. each (suc k) a b here there))

all-at : {X : Type 0} (P : X → Type 0) (xs : List X) → ((k : ℕ) (x : X) → slice_get xs k ≡ Some x → P x)
    → AllByRecursion P xs
all-at P [] each = tt
all-at P (x ∷ xs) each = (each 0 x refl, all-at P xs (λ k y here. each (suc k) y here))

-- the value of a field
pub value-at : (fields : List Field) (layout : TableLayout) (built : Built) (numbers : List ℕ)
    → AreTold fields layout built numbers → (k : ℕ) (f : Field) → slice_get fields k ≡ Some f
    → slice_get (table_values layout fields built) k ≡ Some (field_value numbers built (told_in layout k) f)
value-at fields layout built numbers t k f is =
    let values : List Value = table_values layout fields built in
    (slice_get-drop values k (field_value numbers built (told_in layout k) f) (drop (k + 1) values)
    (table-at fields layout built numbers t k f is)).0

-- The values fit the fields.
pub table-fits : (fields : List Field) (layout : TableLayout) (built : Built) (size : ℕ)
    → AreTold fields layout built (map number_of (table_values layout fields built))
    → table_size layout fields built ≤ 4294967295 → IsBuilt size built → size ≤ file_limit
    → Fits fields (table_values layout fields built)
table-fits fields layout built size t small is limit =
    let values : List Value = table_values layout fields built in
    let numbers : List ℕ = map number_of values in
    zip-at (λ f v. FitsField numbers f.form f.counts v) fields values (sym (table-length fields layout built))
    (λ k f v here there. subst (FitsField numbers f.form f.counts)
    (same_Some (field_value numbers built (told_in layout k) f) v
    (sym (value-at fields layout built numbers t k f here) ∙ there))
    (field-fits numbers built size (told_in layout k) f is limit (suits-at fields layout built numbers t k f here)
    (few-at fields layout built numbers t small k f here)))

-- And they are in range.
pub table-range : (fields : List Field) (layout : TableLayout) (built : Built)
    → AreTold fields layout built (map number_of (table_values layout fields built))
    → AllByRecursion IsInRange (table_values layout fields built)
table-range fields layout built t =
    let values : List Value = table_values layout fields built in
    let numbers : List ℕ = map number_of values in
    all-at IsInRange values (λ k v there.
    let within : k < length fields =
    omega (arith, slice_get_within values k v there, table-length fields layout built) in
    let field = element-within fields k within in
    subst IsInRange (same_Some (field_value numbers built (told_in layout k) field.0) v
    (sym (value-at fields layout built numbers t k field.0 field.1) ∙ there))
    (field-range numbers built (told_in layout k) field.0))
