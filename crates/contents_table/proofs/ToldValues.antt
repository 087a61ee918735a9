-- The values of the canonical table, field by field.
use Rattle.std.proofs.Common.{◌≡◌, ℕ, zero, suc, ◌+◌, ◌==◌, ◌<◌, ◌≤◌, Bool, true, false, cond, List, [], ◌∷◌}
use Rattle.std.proofs.Common.{◌++◌, length, map, take, drop, get_or, find, Option, Some, None, unwrap_or, All}
use Rattle.std.proofs.Common.{refl, sym, ap, ◌∙◌, subst, arith, add-one, zero-add, append_assoc, append-nil}
use Rattle.std.specs.Prelude.{slice_get}
use Rattle.std.specs.Option.{option_map, option_map_or}
use Rattle.std.specs.List.{AllZip, flat_map}
use Rattle.std.proofs.lemmas.List.{take-append-drop, length-take-le, length-map}
use Rattle.std.proofs.lemmas.Option.{slice_get-map, slice_get_within, get_or_from_slice_get}
use Rattle.scalar_types.specs.declared.Width.TheVariants.{One, Two, Four, Eight}
use Rattle.record_values.specs.declared.values.Value.{Value}
use Rattle.layout_plan.specs.declared.fields.Form.{Form}
use Rattle.layout_plan.specs.declared.fields.Form.TheVariants.{Number, Pair, Text, Link}
use Rattle.layout_plan.specs.declared.fields.Count.{Count}
use Rattle.layout_plan.specs.declared.fields.Field.{Field}
use Rattle.layout_plan.specs.Body.{number_of, item_count}
use Rattle.layout_plan.specs.Layout.{IsEarlier}
use Rattle.layout_plan.proofs.BodyLemmas.{item_count-earlier}
use Rattle.layout_plan.proofs.CounterLemmas.{AreSound-at}
use Rattle.layout_plan.proofs.ReadingLemmas.{slice_get-drop}
use Rattle.contents_table.specs.declared.kind.Kind.{Kind}
use Rattle.contents_table.specs.declared.kind.Kind.TheVariants.{Adc, Proc, Sim, Ser}
use Rattle.contents_table.specs.declared.fit.KindFields.{KindFields}
use Rattle.contents_table.specs.declared.fit.TableLayout.{TableLayout}
use Rattle.contents_table.specs.declared.writing.Tells.{Tells}
use Rattle.contents_table.specs.declared.writing.Tells.TheVariants as told
use Rattle.contents_table.specs.Built.{Built, listed_of}
use Rattle.contents_table.specs.Told.{blank_listed, blank_by, told_at, values_after, values_told, kind_told}
use Rattle.contents_table.specs.Told.{kind_told_by, table_told, table_values}
use Rattle.contents_table.specs.Tells.{kind_tells, tells_of, tells, is_of, first_of_number, told_in}
use Rattle.contents_table.specs.Tells.{told_value, told_number, field_value, AreTold}

-- ---- what a field tells is its value

abbrev Alike : Built → Value → ℕ × Value → ℕ × Tells → Type 0
Alike built blank v t = (v.0 ≡ t.0) × (v.1 ≡ told_value built t.1 blank)

first-alike : (built : Built) (blank : Value) (k : ℕ) (vs : List (ℕ × Value)) (ts : List (ℕ × Tells))
    → AllZip (Alike built blank) vs ts
    → told_at vs k blank ≡ told_value built (unwrap_or (first_of_number ts k) told.Nothing) blank
first-alike built blank k [] [] all = refl
first-alike built blank k [] (t ∷ ts) all = absurd all
first-alike built blank k (v ∷ vs) [] all = absurd all
first-alike built blank k (v ∷ vs) (t ∷ ts) all =
    ap (λ i. option_map_or (λ (v : ℕ × Value). v.1)
    (cond (i == k) (Some v) (find (λ (v : ℕ × Value). v.0 == k) vs)) blank)
    all.0.0
    ∙ by (t.0 == k) (first-alike built blank k vs ts all.1)
  where
    by : (b : Bool) → told_at vs k blank ≡ told_value built (unwrap_or (first_of_number ts k) told.Nothing)
        blank
        → option_map_or (λ (v : ℕ × Value). v.1) (cond b (Some v) (find (λ (v : ℕ × Value). v.0 == k) vs))
        blank
        ≡ told_value built
        (unwrap_or (option_map (λ (t : ℕ × Tells). t.1) (cond b (Some t) (find (is_of k) ts))) told.Nothing)
        blank
    by true rest = all.0.1
    by false rest = rest

-- the fields of a kind, and others after them
kind-alike : (built : Built) (blank : Value) (kind : Kind) (k : KindFields) (vs : List (ℕ × Value))
    (ts : List (ℕ × Tells)) → AllZip (Alike built blank) vs ts
    → AllZip (Alike built blank) (kind_told (length built.heads) (listed_of built kind) k ++ vs)
    (kind_tells kind k ++ ts)
kind-alike built blank kind k vs ts all = ((refl, refl), ((refl, refl), ((refl, refl), all)))

-- where the layout lists serial data, or not
serial-alike : (built : Built) (blank : Value) (fields : Option KindFields)
    → AllZip (Alike built blank)
    (option_map_or (kind_told (length built.heads) (listed_of built Ser)) fields [] ++ [])
    (option_map_or (kind_tells Ser) fields [] ++ [])
serial-alike built blank None = tt
serial-alike built blank (Some k) = ((refl, refl), ((refl, refl), ((refl, refl), tt)))

table-alike : (layout : TableLayout) (built : Built) (blank : Value)
    → AllZip (Alike built blank) (table_told layout built) (tells layout)
table-alike layout built blank =
    let values = flat_map (kind_told_by layout built) in
    let tellers = flat_map (tells_of layout) in
    let more = kind-alike built blank in
    let ser = serial-alike built blank layout.ser in
    let sim = more Sim layout.sim (values (Ser ∷ [])) (tellers (Ser ∷ [])) ser in
    let proc = more Proc layout.proc (values (Sim ∷ Ser ∷ [])) (tellers (Sim ∷ Ser ∷ [])) sim in
    let adc = more Adc layout.adc (values (Proc ∷ Sim ∷ Ser ∷ [])) (tellers (Proc ∷ Sim ∷ Ser ∷ [])) proc in
    ((refl, refl), ((refl, refl), adc))

told_at-value : (layout : TableLayout) (built : Built) (k : ℕ) (blank : Value)
    → told_at (table_told layout built) k blank ≡ told_value built (told_in layout k) blank
told_at-value layout built k blank =
    first-alike built blank k (table_told layout built) (tells layout) (table-alike layout built blank)

-- ---- the numbers

listed-number : (form : Form) (n : ℕ) → number_of (blank_listed form n) ≡ 0
listed-number (Number One) n = refl
listed-number (Number Two) n = refl
listed-number (Number Four) n = refl
listed-number (Number Eight) n = refl
listed-number (Pair width) n = refl
listed-number Text n = refl
listed-number Link n = refl

blank-number : (numbers : List ℕ) (form : Form) (counts : List Count)
    → number_of (blank_by numbers form counts) ≡ 0
blank-number numbers (Number width) [] = refl
blank-number numbers (Pair width) [] = refl
blank-number numbers Text [] = refl
blank-number numbers Link [] = refl
blank-number numbers form (c ∷ cs) = listed-number form (item_count numbers (c ∷ cs))

number-told : (built : Built) (t : Tells) (blank : Value) → number_of blank ≡ 0
    → number_of (told_value built t blank) ≡ told_number built t
number-told built told.Nothing blank none = none
number-told built told.Frames blank none = refl
number-told built told.Heads blank none = refl
number-told built (told.Count kind) blank none = refl
number-told built (told.Names kind) blank none = refl
number-told built (told.Positions kind by_name) blank none = refl

-- ---- the values from a field on

values-rest : (ts : List (ℕ × Value)) (numbers : List ℕ) (fields : List Field) (k : ℕ)
    → values_after ts (numbers ++ take k (map number_of (values_after ts numbers fields))) (drop k fields)
    ≡ drop k (values_after ts numbers fields)
unfolding values_after
values-rest ts numbers fields zero = ap (λ ns. values_after ts ns fields) (append-nil numbers)
values-rest ts numbers [] (suc k) = refl
values-rest ts numbers (f ∷ fs) (suc k) =
    let n = number_of (told_at ts (length numbers) (blank_by numbers f.form f.counts)) in
    let vs = values_after ts (numbers ++ n ∷ []) fs in
    ap (λ ns. values_after ts ns (drop k fs)) (sym (append_assoc numbers (n ∷ [])
    (take k (map number_of vs))))
    ∙ values-rest ts (numbers ++ n ∷ []) fs k

pub values-length : (ts : List (ℕ × Value)) (numbers : List ℕ) (fields : List Field)
    → length (values_after ts numbers fields) ≡ length fields
unfolding values_after
values-length ts numbers [] = refl
values-length ts numbers (f ∷ fs) =
    ap suc (values-length ts
    (numbers ++ number_of (told_at ts (length numbers) (blank_by numbers f.form f.counts)) ∷ []) fs)

-- one element less
drop-suc : {X : Type 0} (xs : List X) (k : ℕ) (x : X) (ys : List X) → drop k xs ≡ x ∷ ys
    → drop (suc k) xs ≡ ys
drop-suc [] zero x ys e = cc
drop-suc [] (suc k) x ys e = cc
drop-suc (y ∷ xs) zero x ys e = cc
drop-suc (y ∷ xs) (suc k) x ys e = drop-suc xs k x ys e

drop-one : {X : Type 0} (xs : List X) (k : ℕ) (x : X) (ys : List X) → drop k xs ≡ x ∷ ys
    → drop (k + 1) xs ≡ ys
drop-one xs k x ys e = rw add-one (drop-suc xs k x ys e)

drop-first : {X : Type 0} (xs : List X) (k : ℕ) (x : X) → slice_get xs k ≡ Some x
    → drop k xs ≡ x ∷ drop (suc k) xs
drop-first [] k x is = cc
drop-first (y ∷ xs) zero x is = let same : y ≡ x = cc in ap (λ y. y ∷ xs) same
drop-first (y ∷ xs) (suc k) x is = drop-first xs k x is

pub drop-at : {X : Type 0} (xs : List X) (k : ℕ) (x : X) → slice_get xs k ≡ Some x
    → drop k xs ≡ x ∷ drop (k + 1) xs
drop-at xs k x is = rw add-one (drop-first xs k x is)

-- the values after a field whose numbers and value are these
abbrev after : List (ℕ × Value) → List ℕ → Field → List Field → List Value
after ts numbers f fs =
    values_after ts (numbers ++ number_of (told_at ts (length numbers)
    (blank_by numbers f.form f.counts)) ∷ []) fs

slice_get_some : {X : Type 0} (xs : List X) (k : ℕ) → k < length xs → (x : X) × (slice_get xs k ≡ Some x)
slice_get_some [] k within = absurd (omega (arith, within))
slice_get_some (x ∷ xs) zero within = (x, refl)
slice_get_some (x ∷ xs) (suc k) within = slice_get_some xs k (omega (arith, within))

values_after-cons : (ts : List (ℕ × Value)) (numbers : List ℕ) (f : Field) (fs : List Field)
    → values_after ts numbers (f ∷ fs)
    ≡ told_at ts (length numbers) (blank_by numbers f.form f.counts) ∷ after ts numbers f fs
unfolding values_after
values_after-cons ts numbers f fs = refl

-- the values of a record from a field on
pub values-at : (ts : List (ℕ × Value)) (fields : List Field) (k : ℕ) (f : Field) → slice_get fields k ≡ Some f
    → drop k (values_told ts fields)
    ≡ told_at ts k (blank_by (take k (map number_of (values_told ts fields))) f.form f.counts)
    ∷ drop (k + 1) (values_told ts fields)
values-at ts fields k f is =
    let vs = values_told ts fields in
    let ns = take k (map number_of vs) in
    let blank = blank_by ns f.form f.counts in
    let here : drop k vs ≡ told_at ts (length ns) blank ∷ after ts ns f (drop (k + 1) fields) =
    sym (values-rest ts [] fields k)
    ∙ ap (values_after ts ns) (drop-at fields k f is)
    ∙ values_after-cons ts ns f (drop (k + 1) fields) in
    let long : length ns ≡ k =
    length-take-le k (map number_of vs)
    (omega (arith, length-map vs number_of, values-length ts [] fields, slice_get_within fields k f is)) in
    here
    ∙ ap (λ ws. told_at ts (length ns) blank ∷ ws)
    (sym (drop-one vs k (told_at ts (length ns) blank) (after ts ns f (drop (k + 1) fields)) here))
    ∙ ap (λ i. told_at ts i blank ∷ drop (k + 1) vs) long

-- ---- the canonical table

pub table-length : (fields : List Field) (layout : TableLayout) (built : Built)
    → length (table_values layout fields built) ≡ length fields
table-length fields layout built = values-length (table_told layout built) [] fields

-- the number of a field's value
table-number : (fields : List Field) (layout : TableLayout) (built : Built) (k : ℕ) (f : Field)
    → slice_get fields k ≡ Some f
    → slice_get (map number_of (table_values layout fields built)) k
    ≡ Some (told_number built (told_in layout k))
table-number fields layout built k f is =
    let vs = table_values layout fields built in
    let ns = take k (map number_of vs) in
    let blank = blank_by ns f.form f.counts in
    let at = values-at (table_told layout built) fields k f is in
    let value : slice_get vs k ≡ Some (told_at (table_told layout built) k blank) =
    (slice_get-drop vs k (told_at (table_told layout built) k blank) (drop (k + 1) vs) at).0 in
    slice_get-map number_of vs k
    ∙ ap (option_map number_of) value
    ∙ ap (λ v. Some (number_of v)) (told_at-value layout built k blank)
    ∙ ap Some (number-told built (told_in layout k) blank (blank-number ns f.form f.counts))

-- one more number
numbers-more : (fields : List Field) (layout : TableLayout) (built : Built) (k : ℕ) → k < length fields
    → take (k + 1) (map number_of (table_values layout fields built))
    ≡ take k (map number_of (table_values layout fields built)) ++ told_number built (told_in layout k) ∷ []
numbers-more fields layout built k within =
    let some = slice_get_some fields k within in
    let ns = map number_of (table_values layout fields built) in
    (slice_get-drop ns k (told_number built (told_in layout k)) (drop (k + 1) ns)
    (drop-at ns k (told_number built (told_in layout k))
    (table-number fields layout built k some.0 some.1))).1

pub numbers-push : (fields : List Field) (layout : TableLayout) (built : Built) (k : ℕ) (u : Tells)
    (old new : List ℕ) (n : ℕ) → k < length fields
    → old ≡ take k (map number_of (table_values layout fields built)) → u ≡ told_in layout k
    → n ≡ told_number built u
    → new ≡ old ++ n ∷ [] → new ≡ take (k + 1) (map number_of (table_values layout fields built))
numbers-push fields layout built k u old new n within before tells is more =
    more
    ∙ ap (λ ns. ns ++ n ∷ []) before
    ∙ ap (λ n. take k (map number_of (table_values layout fields built)) ++ n ∷ [])
    (is ∙ ap (told_number built) tells)
    ∙ sym (numbers-more fields layout built k within)

-- the numbers of later fields count nothing
item_count-prefix : (numbers : List ℕ) (k : ℕ) (counts : List Count) → k ≤ length numbers
    → All (IsEarlier k) counts
    → item_count (take k numbers) counts ≡ item_count numbers counts
item_count-prefix numbers k counts within earlier =
    sym (item_count-earlier (take k numbers) (drop k numbers) counts
    (subst (λ k. All (IsEarlier k) counts) (sym (length-take-le k numbers within)) earlier))
    ∙ ap (λ ns. item_count ns counts) (take-append-drop k numbers)

blank-prefix : (numbers : List ℕ) (k : ℕ) (form : Form) (counts : List Count) → k ≤ length numbers
    → All (IsEarlier k) counts → blank_by (take k numbers) form counts ≡ blank_by numbers form counts
blank-prefix numbers k form [] within earlier = refl
blank-prefix numbers k form (c ∷ cs) within earlier =
    ap (blank_listed form) (item_count-prefix numbers k (c ∷ cs) within earlier)

-- the values from a field on
pub table-at : (fields : List Field) (layout : TableLayout) (built : Built) (numbers : List ℕ)
    → AreTold fields layout built numbers → (k : ℕ) (f : Field) → slice_get fields k ≡ Some f
    → drop k (table_values layout fields built)
    ≡ field_value numbers built (told_in layout k) f ∷ drop (k + 1) (table_values layout fields built)
table-at fields layout built numbers t k f is =
    let vs = table_values layout fields built in
    let within : k ≤ length (map number_of vs) =
    omega (
      arith,
      length-map vs number_of,
      table-length fields layout built,
      slice_get_within fields k f
          is,
    ) in
    let earlier = subst (λ i. All (IsEarlier i) f.counts) (zero-add k)
    (AreSound-at 0 k fields f t.sound.sound is) in
    let blank = blank-prefix (map number_of vs) k f.form f.counts within earlier in
    values-at (table_told layout built) fields k f is
    ∙ ap (λ v. v ∷ drop (k + 1) vs)
    (told_at-value layout built k (blank_by (take k (map number_of vs)) f.form f.counts)
    ∙ ap (told_value built (told_in layout k)) (blank
    ∙ ap (λ ns. blank_by ns f.form f.counts) (sym t.numbers_are)))

-- the number that a field has
pub number-at : (fields : List Field) (layout : TableLayout) (built : Built) (numbers : List ℕ)
    → AreTold fields layout built numbers → (k : ℕ) (f : Field) → slice_get fields k ≡ Some f
    → get_or numbers k 0 ≡ told_number built (told_in layout k)
number-at fields layout built numbers t k f is =
    get_or_from_slice_get numbers k (told_number built (told_in layout k)) 0
    (ap (λ ns. slice_get ns k) t.numbers_are ∙ table-number fields layout built k f is)
