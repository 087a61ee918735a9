-- The values of a label, and of the record that is written of it, in the place of those that were read: they fit the
-- same layout, take as many bytes and have as many links.
use Rattle.std.proofs.Common.{◌≡◌, ℕ, ◌+◌, ◌*◌, Bool, true, false, cond, List, [], ◌∷◌, ◌++◌, length, map, take}
use Rattle.std.proofs.Common.{drop, All, refl, sym, ap, ◌∙◌, subst, arith, append_assoc, length-append}
use Rattle.std.proofs.Common.{length-take, length-drop}
use Rattle.std.specs.Prelude.{⊤}
use Rattle.std.specs.List.{AllZip}
use Rattle.std.proofs.lemmas.List.{length-map}
use Rattle.scalar_types.specs.declared.Width.TheVariants.{One, Two, Four, Eight}
use Rattle.type_text.specs.declared.types.Link.{Link as StructLink}
use Rattle.record_values.specs.declared.values.Value.{Value}
use Rattle.record_values.specs.declared.values.Value.TheVariants as value
use Rattle.record_values.specs.Links.{links_of, links_in, linked_value, with_links}
use Rattle.layout_plan.specs.declared.fields.Form.{Form}
use Rattle.layout_plan.specs.declared.fields.Form.TheVariants.{Number, Pair, Text, Link}
use Rattle.layout_plan.specs.declared.fields.Count.{Count}
use Rattle.layout_plan.specs.declared.fields.Field.{Field}
use Rattle.layout_plan.specs.Layout.{IsEarlier, AreSound, AreSums}
use Rattle.layout_plan.specs.Body.{number_of, value_length, values_length}
use Rattle.layout_plan.specs.Written.{with_sums_cleared}
use Rattle.layout_plan.proofs.BodyLemmas.{item_count-earlier}
use Rattle.record_writer.specs.Fit.{FitsListed, FitsField, Fits}
use Rattle.frame_content.specs.Labels.{nullified, unlinked}

-- ---- one value in the place of another

abbrev pub FitsBy : List ℕ → Field → Value → Type 0
FitsBy numbers f v = FitsField numbers f.form f.counts v

-- the second value may stand for the first, by the numbers of the record's fields
pub record StandsFor (numbers : List ℕ) (f : Field) (v w : Value) : Type 0 where
  pub number : f.is_sum ≡ false → number_of w ≡ number_of v
  pub fits : FitsBy numbers f w
  pub size : value_length f.form w ≡ value_length f.form v
  pub many : length (links_of w) ≡ length (links_of v)

-- other links
link-fits : (a b : StructLink) (numbers : List ℕ) (form : Form) (counts : List Count)
    → FitsField numbers form counts (value.Link a) → FitsField numbers form counts (value.Link b)
link-fits a b numbers (Number width) [] h = absurd h
link-fits a b numbers (Pair width) [] h = absurd h
link-fits a b numbers Text [] h = absurd h
link-fits a b numbers Link [] h = tt
link-fits a b numbers (Number One) (c ∷ cs) h = absurd h
link-fits a b numbers (Number Two) (c ∷ cs) h = absurd h
link-fits a b numbers (Number Four) (c ∷ cs) h = absurd h
link-fits a b numbers (Number Eight) (c ∷ cs) h = absurd h
link-fits a b numbers (Pair width) (c ∷ cs) h = absurd h
link-fits a b numbers Text (c ∷ cs) h = absurd h
link-fits a b numbers Link (c ∷ cs) h = absurd h

link-size : (a b : StructLink) (form : Form) → value_length form (value.Link a) ≡ value_length form (value.Link b)
link-size a b (Number width) = refl
link-size a b (Pair width) = refl
link-size a b Text = refl
link-size a b Link = refl

links-fit : (xs ys : List StructLink) (numbers : List ℕ) (form : Form) (counts : List Count) → length ys ≡ length xs
    → FitsField numbers form counts (value.Links xs) → FitsField numbers form counts (value.Links ys)
links-fit xs ys numbers (Number width) [] same h = absurd h
links-fit xs ys numbers (Pair width) [] same h = absurd h
links-fit xs ys numbers Text [] same h = absurd h
links-fit xs ys numbers Link [] same h = absurd h
links-fit xs ys numbers (Number One) (c ∷ cs) same h = absurd h
links-fit xs ys numbers (Number Two) (c ∷ cs) same h = absurd h
links-fit xs ys numbers (Number Four) (c ∷ cs) same h = absurd h
links-fit xs ys numbers (Number Eight) (c ∷ cs) same h = absurd h
links-fit xs ys numbers (Pair width) (c ∷ cs) same h = absurd h
links-fit xs ys numbers Text (c ∷ cs) same h = absurd h
links-fit xs ys numbers Link (c ∷ cs) same h = same ∙ h

links-size : (xs ys : List StructLink) (form : Form) → length ys ≡ length xs
    → value_length form (value.Links ys) ≡ value_length form (value.Links xs)
links-size xs ys (Number width) same = refl
links-size xs ys (Pair width) same = refl
links-size xs ys Text same = refl
links-size xs ys Link same = ap (λ n. n * 6) same

itself : (numbers : List ℕ) (f : Field) (v : Value) → FitsBy numbers f v → StandsFor numbers f v v
itself numbers f v fit = record { number = λ other. refl; fits = fit; size = refl; many = refl }

linked-stands : (numbers : List ℕ) (f : Field) (v : Value) (links : List StructLink) → FitsBy numbers f v
    → length links ≡ length (links_of v) → StandsFor numbers f v (linked_value v links)
linked-stands numbers f (value.Link old) [] fit same = itself numbers f (value.Link old) fit
linked-stands numbers f (value.Link old) (l ∷ ls) fit same = record {
  number = λ other. refl;
  fits = link-fits old l numbers f.form f.counts fit;
  size = link-size l old f.form;
  many = refl;
}
linked-stands numbers f (value.Links old) links fit same = record {
  number = λ other. refl;
  fits = links-fit old links numbers f.form f.counts same fit;
  size = links-size old links f.form same;
  many = same;
}
linked-stands numbers f (value.Num n) links fit same = itself numbers f (value.Num n) fit
linked-stands numbers f (value.Pair a b) links fit same = itself numbers f (value.Pair a b) fit
linked-stands numbers f (value.Text text) links fit same = itself numbers f (value.Text text) fit
linked-stands numbers f (value.Nums xs) links fit same = itself numbers f (value.Nums xs) fit
linked-stands numbers f (value.Pairs xs) links fit same = itself numbers f (value.Pairs xs) fit
linked-stands numbers f (value.Texts xs) links fit same = itself numbers f (value.Texts xs) fit
linked-stands numbers f (value.Bytes xs) links fit same = itself numbers f (value.Bytes xs) fit

-- the check sum 0
abbrev SumStands : List ℕ → Form → List Count → Value → Type 0
SumStands numbers form counts v =
    FitsField numbers form counts (value.Num 0) × (value_length form (value.Num 0) ≡ value_length form v)
    × (0 ≡ length (links_of v))

sum-stands : (numbers : List ℕ) (form : Form) (counts : List Count) (v : Value) → form ≡ Number Four → counts ≡ []
    → FitsField numbers form counts v → SumStands numbers form counts v
sum-stands numbers (Number Four) [] (value.Num n) is single fit = (omega arith, refl, refl)
sum-stands numbers (Number Four) [] v is single fit = absurd fit
sum-stands numbers form counts v is single fit = cc

cleared-stands : (numbers : List ℕ) (f : Field) (v : Value)
    → (f.is_sum ≡ true → (f.form ≡ Number Four) × (f.counts ≡ [])) → FitsBy numbers f v
    → StandsFor numbers f v (cond f.is_sum (value.Num 0) v)
cleared-stands numbers f v sum fit = by f.is_sum refl
  where
    none : f.is_sum ≡ true → f.is_sum ≡ false → number_of (value.Num 0) ≡ number_of v
    none is other = cc

    by : (b : Bool) → f.is_sum ≡ b → StandsFor numbers f v (cond b (value.Num 0) v)
    by false other = itself numbers f v fit
    by true is =
        let parts = sum-stands numbers f.form f.counts v (sum is).0 (sum is).1 fit in
        record { number = none is; fits = parts.0; size = parts.1; many = parts.2 }

stands-then : (numbers : List ℕ) (f : Field) (u v w : Value) → StandsFor numbers f u v → StandsFor numbers f v w
    → StandsFor numbers f u w
stands-then numbers f u v w one two = record {
  number = λ other. two.number other ∙ one.number other;
  fits = two.fits;
  size = two.size ∙ one.size;
  many = two.many ∙ one.many;
}

-- ---- the values of a record

-- each value of the second list may stand for the one of the first
abbrev pub AllStandFor : List ℕ → List Field → List Value → List Value → Type 0
AllStandFor numbers [] [] [] = ⊤
AllStandFor numbers (f ∷ fs) (v ∷ vs) (w ∷ ws) = StandsFor numbers f v w × AllStandFor numbers fs vs ws
AllStandFor numbers fields values others = ⊥

pub all-fit : (numbers : List ℕ) (fs : List Field) (vs ws : List Value) → AllStandFor numbers fs vs ws
    → AllZip (FitsBy numbers) fs ws
all-fit numbers [] [] [] all = tt
all-fit numbers (f ∷ fs) (v ∷ vs) (w ∷ ws) all = (all.0.fits, all-fit numbers fs vs ws all.1)
all-fit numbers fs vs ws all = absurd all

all-then : (numbers : List ℕ) (fs : List Field) (us vs ws : List Value) → AllStandFor numbers fs us vs
    → AllStandFor numbers fs vs ws → AllStandFor numbers fs us ws
all-then numbers [] [] [] [] one two = tt
all-then numbers [] [] [] (w ∷ ws) one two = absurd two
all-then numbers (f ∷ fs) (u ∷ us) (v ∷ vs) (w ∷ ws) one two =
    (stands-then numbers f u v w one.0 two.0, all-then numbers fs us vs ws one.1 two.1)
all-then numbers (f ∷ fs) (u ∷ us) (v ∷ vs) [] one two = absurd two
all-then numbers fs us vs ws one two = absurd one

unlinked-all : (numbers : List ℕ) (fs : List Field) (vs : List Value) → AllZip (FitsBy numbers) fs vs
    → AllStandFor numbers fs vs (map unlinked vs)
unlinked-all numbers [] [] fit = tt
unlinked-all numbers [] (v ∷ vs) fit = absurd fit
unlinked-all numbers (f ∷ fs) [] fit = absurd fit
unlinked-all numbers (f ∷ fs) (v ∷ vs) fit = (
  linked-stands numbers f v (map nullified (links_of v)) fit.0 (length-map (links_of v) nullified),
  unlinked-all numbers fs vs fit.1,
)

cleared-all : (numbers : List ℕ) (fs : List Field) (vs : List Value) → AreSums fs → AllZip (FitsBy numbers) fs vs
    → AllStandFor numbers fs vs (with_sums_cleared fs vs)
cleared-all numbers [] [] sums fit = tt
cleared-all numbers [] (v ∷ vs) sums fit = absurd fit
cleared-all numbers (f ∷ fs) [] sums fit = absurd fit
cleared-all numbers (f ∷ fs) (v ∷ vs) sums fit = (
  cleared-stands numbers f v (λ is. ((sums.0 is).0, (sums.0 is).1)) fit.0,
  cleared-all numbers fs vs sums.1 fit.1,
)

linked-all : (numbers : List ℕ) (fs : List Field) (vs : List Value) (links : List StructLink)
    → AllZip (FitsBy numbers) fs vs → length links ≡ length (links_in vs)
    → AllStandFor numbers fs vs (with_links vs links)
linked-all numbers [] [] links fit same = tt
linked-all numbers [] (v ∷ vs) links fit same = absurd fit
linked-all numbers (f ∷ fs) [] links fit same = absurd fit
linked-all numbers (f ∷ fs) (v ∷ vs) links fit same =
    let n : ℕ = length (links_of v) in
    let total : length links ≡ n + length (links_in vs) = same ∙ length-append (links_of v) (links_in vs) in (
      linked-stands numbers f v (take n links) fit.0 (omega (arith, total, length-take n links)),
      linked-all numbers fs vs (drop n links) fit.1 (omega (arith, total, length-drop n links)),
    )

-- ---- what they have in common

pub all-lengths : (numbers : List ℕ) (fs : List Field) (vs ws : List Value) → AllStandFor numbers fs vs ws
    → values_length fs ws ≡ values_length fs vs
all-lengths numbers [] [] [] all = refl
all-lengths numbers (f ∷ fs) (v ∷ vs) (w ∷ ws) all = λ i. all.0.size i + all-lengths numbers fs vs ws all.1 i
all-lengths numbers fs vs ws all = absurd all

pub all-links : (numbers : List ℕ) (fs : List Field) (vs ws : List Value) → AllStandFor numbers fs vs ws
    → length (links_in ws) ≡ length (links_in vs)
all-links numbers [] [] [] all = refl
all-links numbers (f ∷ fs) (v ∷ vs) (w ∷ ws) all =
    let here = all.0.many in
    let rest = all-links numbers fs vs ws all.1 in
    omega (arith, here, rest, length-append (links_of v) (links_in vs), length-append (links_of w) (links_in ws))
all-links numbers fs vs ws all = absurd all

-- numbers behind those that a field is counted by change nothing
field-moved : (numbers more others : List ℕ) (form : Form) (counts : List Count) (v : Value)
    → All (IsEarlier (length numbers)) counts → FitsField (numbers ++ more) form counts v
    → FitsField (numbers ++ others) form counts v
field-moved numbers more others form [] v earlier fit = fit
field-moved numbers more others form (c ∷ cs) v earlier fit =
    subst (λ n. FitsListed form n v)
    (item_count-earlier numbers more (c ∷ cs) earlier ∙ sym (item_count-earlier numbers others (c ∷ cs) earlier)) fit

-- so values that stand for others fit by their own numbers: a check sum, which alone has another, is the last field
moved : (before : List ℕ) (fs : List Field) (vs ws : List Value) → AreSound (length before) fs → AreSums fs
    → (numbers : List ℕ) → numbers ≡ before ++ map number_of vs → AllStandFor numbers fs vs ws
    → AllZip (FitsBy (before ++ map number_of ws)) fs ws
moved before [] [] [] sound sums numbers is all = tt
moved before (f ∷ fs) (v ∷ vs) (w ∷ ws) sound sums numbers is all = (
  field-moved before (map number_of (v ∷ vs)) (map number_of (w ∷ ws)) f.form f.counts w sound.0
      (subst (λ ns. FitsBy ns f w) is all.0.fits),
  by f.is_sum refl (λ same. on same
      (moved (before ++ number_of w ∷ []) fs vs ws (subst (λ n. AreSound n fs) (sym size) sound.1) sums.1 numbers
      (split same) all.1)),
)
  where
    last : (gs : List Field) (xs ys : List Value) → gs ≡ [] → AllStandFor numbers gs xs ys
        → AllZip (FitsBy (before ++ map number_of (w ∷ ws))) gs ys
    last [] [] [] none rest = tt
    last (g ∷ gs) xs ys none rest = cc
    last gs xs ys none rest = absurd rest

    size : length (before ++ number_of w ∷ []) ≡ length before + 1
    size = length-append before (number_of w ∷ [])

    split : number_of w ≡ number_of v → numbers ≡ before ++ number_of w ∷ [] ++ map number_of vs
    split same =
        is ∙ ap (λ n. before ++ n ∷ map number_of vs) (sym same)
        ∙ sym (append_assoc before (number_of w ∷ []) (map number_of vs))

    on : number_of w ≡ number_of v
        → AllZip (FitsBy (before ++ number_of w ∷ [] ++ map number_of ws)) fs ws
        → AllZip (FitsBy (before ++ map number_of (w ∷ ws))) fs ws
    on same rest =
        subst (λ ns. AllZip (FitsBy ns) fs ws) (append_assoc before (number_of w ∷ []) (map number_of ws)) rest

    by : (b : Bool) → f.is_sum ≡ b
        → (number_of w ≡ number_of v → AllZip (FitsBy (before ++ map number_of (w ∷ ws))) fs ws)
        → AllZip (FitsBy (before ++ map number_of (w ∷ ws))) fs ws
    by true sum on = last fs vs ws (sums.0 sum).2 all.1
    by false other on = on (all.0.number other)
moved before fs vs ws sound sums numbers is all = absurd all

pub stands-fit : (fs : List Field) (vs ws : List Value) → AreSound 0 fs → AreSums fs
    → AllStandFor (map number_of vs) fs vs ws → Fits fs ws
stands-fit fs vs ws sound sums all = moved [] fs vs ws sound sums (map number_of vs) refl all

-- ---- labels and records

-- The values of a label stand for those that were read.
pub label-stands : (fs : List Field) (vs : List Value) → AreSums fs → Fits fs vs
    → AllStandFor (map number_of vs) fs vs (with_sums_cleared fs (map unlinked vs))
label-stands fs vs sums fit =
    let numbers : List ℕ = map number_of vs in
    let us : List Value = map unlinked vs in
    let plain = unlinked-all numbers fs vs fit in
    all-then numbers fs vs us (with_sums_cleared fs us) plain
    (cleared-all numbers fs us sums (all-fit numbers fs vs us plain))

-- And so do the same with as many links.
pub linked-label-stands : (fs : List Field) (vs : List Value) (links : List StructLink) → AreSums fs → Fits fs vs
    → length links ≡ length (links_in vs)
    → AllStandFor (map number_of vs) fs vs (with_links (with_sums_cleared fs (map unlinked vs)) links)
linked-label-stands fs vs links sums fit same =
    let numbers : List ℕ = map number_of vs in
    let cs : List Value = with_sums_cleared fs (map unlinked vs) in
    let label = label-stands fs vs sums fit in
    all-then numbers fs vs cs (with_links cs links) label
    (linked-all numbers fs cs links (all-fit numbers fs vs cs label) (same ∙ sym (all-links numbers fs vs cs label)))
