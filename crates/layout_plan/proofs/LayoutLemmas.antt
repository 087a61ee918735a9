-- The fields of a layout, one element after another.
use Rattle.std.proofs.Common.{◌≡◌, ℕ, suc, ◌+◌, ◌-◌, ◌<◌, ◌≤◌, ◌==◌, ◌&&◌, Bool, true, false, cond, List, [], ◌∷◌, ◌++◌}
use Rattle.std.proofs.Common.{length, take, drop, get_or, Option, Some, None, All, Vec, Bor, refl, sym, ap, ◌∙◌, subst}
use Rattle.std.proofs.Common.{arith, append_assoc, append-nil, option_and_then, is_some, add-zero, zero-add}
use Rattle.std.specs.Prelude.{codes}
use Rattle.std.specs.Option.{option_map, option_map_or, option_copied}
use Rattle.std.specs.Str.{bytes_eq}
use Rattle.std.specs.HashMap.{HashMap, Updates}
use Rattle.std.specs.Map.{KeepsOthers, lookup}
use Rattle.std.proofs.Math.ListN.{drop_of_length-le}
use Rattle.std.proofs.lemmas.List.Elements.{All-cons}
use Rattle.std.proofs.lemmas.List.{length-append, length-drop, take_more, at_drop_more}
use Rattle.std.proofs.lemmas.Bool.{eq-eqb, ne_eqb}
use Rattle.std.proofs.lemmas.Slice.Eq.{bytes_eq-Decides}
use Rattle.scalar_types.specs.declared.Width.TheVariants.{One, Two, Four, Eight}
use Rattle.type_text.specs.declared.types.Base.{Base}
use Rattle.type_text.specs.declared.types.Base.TheVariants.{Int1S, Int1U, Int2S, Int2U, Int4S, Int4U, Int8S, Int8U}
use Rattle.type_text.specs.declared.types.ElementType.{ElementType}
use Rattle.type_text.specs.declared.types.Dim.{Dim}
use Rattle.type_text.specs.declared.types.Dim.TheVariants.{Numeral, Named}
use Rattle.dictionary.specs.declared.entries.Element.{Element}
use Rattle.dictionary.specs.Named.{first_named}
use Rattle.layout_plan.specs.declared.fields.Form.{Form}
use Rattle.layout_plan.specs.declared.fields.Form.TheVariants.{Number}
use Rattle.layout_plan.specs.declared.fields.Count.{Count}
use Rattle.layout_plan.specs.declared.fields.Count.TheVariants.{Fixed, Of, OfSigned}
use Rattle.layout_plan.specs.declared.fields.Field.{Field}
use Rattle.layout_plan.specs.Layout.{form_of, counted_by, counted_by_type, named_count, count_in, count_of, counts_of}
use Rattle.layout_plan.specs.Layout.{has_no_dims, is_int_4u, is_check_sum, is_last, field_of_type, field_of}
use Rattle.layout_plan.specs.Layout.{fields_after, layout_of, IsEarlier, AreSound, AreSums, IsLayout}
use Rattle.layout_plan.specs.BodyLaws.{LayoutsAreSound}
use Rattle.layout_plan.specs.Names.{held_at, count_at, HoldsNames}

-- these items before the others
abbrev pub prefixed : {X : Type 0} → List X → Option (List X) → Option (List X)
prefixed xs others = option_map (λ ys. xs ++ ys) others

-- an item before the others, where all are there
abbrev pub with_first : {X : Type 0} → Option X → Option (List X) → Option (List X)
with_first x others = option_and_then (λ y. option_map (λ ys. y ∷ ys) others) x

pub prefixed-none : {X : Type 0} (o : Option (List X)) → prefixed [] o ≡ o
prefixed-none None = refl
prefixed-none (Some ys) = refl

pub prefixed-more : {X : Type 0} (xs : List X) (x : X) (o : Option (List X))
    → prefixed xs (with_first (Some x) o) ≡ prefixed (xs ++ x ∷ []) o
prefixed-more xs x None = refl
prefixed-more xs x (Some ys) = ap Some (sym (append_assoc xs (x ∷ []) ys))

pub prefixed-all : {X : Type 0} (xs : List X) → prefixed xs (Some []) ≡ Some xs
prefixed-all xs = ap Some (append-nil xs)

-- the layout as far as it is compiled: the fields of the first i elements, before those of the others, are those of all
pub record IsCompiled {A S : Type 0} (elements : List Element) (i : ℕ) (fields : List Field)
    (names : HashMap (Vec ℕ A) (Option Count) S) : Type 0 where
  pub done : prefixed fields (fields_after (take i elements) (drop i elements)) ≡ layout_of elements
  pub held : HoldsNames names (take i elements)

Some-same : {X : Type 0} (x y : X) → Some x ≡ Some y → x ≡ y
Some-same x y e = cc

-- the first of a name, with one more element at the end
first_named-other : (i : ℕ) (es : List Element) (e : Element) (name : List ℕ) → bytes_eq name e.name ≡ false
    → first_named i (es ++ e ∷ []) name ≡ first_named i es name
first_named-other i [] e name other =
    ap (λ b. cond {A = Option (ℕ × Element)} b (Some (i, e)) None) other
first_named-other i (x ∷ es) e name other =
    ap (λ o. cond (bytes_eq name x.name) (Some (i, x)) o) (first_named-other (i + 1) es e name other)

first_named-held : (i : ℕ) (es : List Element) (e : Element) (name : List ℕ) (p : ℕ × Element)
    → first_named i es name ≡ Some p → first_named i (es ++ e ∷ []) name ≡ Some p
first_named-held i [] e name p h = cc
first_named-held i (x ∷ es) e name p h = by (bytes_eq name x.name) (first_named-held (i + 1) es e name p) h
  where
    by : (b : Bool) → (first_named (i + 1) es name ≡ Some p → first_named (i + 1) (es ++ e ∷ []) name ≡ Some p)
        → cond b (Some (i, x)) (first_named (i + 1) es name) ≡ Some p
        → cond b (Some (i, x)) (first_named (i + 1) (es ++ e ∷ []) name) ≡ Some p
    by true others h = h
    by false others h = others h

first_named-new : (i : ℕ) (es : List Element) (e : Element) (name : List ℕ) → bytes_eq name e.name ≡ true
    → first_named i es name ≡ None → first_named i (es ++ e ∷ []) name ≡ Some (i + length es, e)
first_named-new i [] e name same h =
    ap (λ b. cond {A = Option (ℕ × Element)} b (Some (i, e)) None) same ∙ ap (λ k. Some (k, e)) (sym (add-zero i))
first_named-new i (x ∷ es) e name same h = by (bytes_eq name x.name) (first_named-new (i + 1) es e name same) h
  where
    by : (b : Bool) → (first_named (i + 1) es name ≡ None
        → first_named (i + 1) (es ++ e ∷ []) name ≡ Some (i + 1 + length es, e))
        → cond b (Some (i, x)) (first_named (i + 1) es name) ≡ None
        → cond b (Some (i, x)) (first_named (i + 1) (es ++ e ∷ []) name) ≡ Some (i + suc (length es), e)
    by true others h = cc
    by false others h = others h ∙ ap (λ k. Some (k, e)) (omega arith)

bytes_eq-other : (a b c : List ℕ) → bytes_eq a b ≡ true → bytes_eq a c ≡ bytes_eq b c
bytes_eq-other a b c e = ap (λ x. bytes_eq x c) ((bytes_eq-Decides a b).0 e)

apart : (a b c : List ℕ) → bytes_eq a b ≡ false → bytes_eq b c ≡ true → bytes_eq a c ≡ false
apart a b c other same = sym (ap (bytes_eq a) ((bytes_eq-Decides b c).0 same)) ∙ other

map-None : {X Y : Type 0} (f : X → Y) (o : Option X) → option_map f o ≡ None → o ≡ None
map-None f None e = refl
map-None f (Some x) e = cc

map-Some : {X Y : Type 0} (f : X → Y) (o : Option X) → is_some (option_map f o) ≡ true → (x : X) × (o ≡ Some x)
map-Some f None e = cc
map-Some f (Some x) e = (x, refl)

-- an element of a name that is held changes nothing
pub HoldsNames-kept : {A S : Type 0} (names : HashMap (Vec ℕ A) (Option Count) S) (earlier : List Element) (e : Element)
    → is_some (held_at names e.name) ≡ true → HoldsNames names earlier → HoldsNames names (earlier ++ e ∷ [])
HoldsNames-kept names earlier e held holds name = by (bytes_eq name e.name) refl
  where
    by : (b : Bool) → bytes_eq name e.name ≡ b
        → held_at names name ≡ option_map named_count (first_named 0 (earlier ++ e ∷ []) name)
    by false other =
        holds name ∙ ap (option_map named_count) (sym (first_named-other 0 earlier e name other))
    by true same =
        let is = (bytes_eq-Decides name e.name).0 same in
        let found = map-Some named_count (first_named 0 earlier name) (sym (ap is_some (holds name))
        ∙ ap (λ n. is_some (held_at names n)) is ∙ held) in
        holds name ∙ ap (option_map named_count) (found.1 ∙ sym (first_named-held 0 earlier e name found.0 found.1))

-- and one of another name is put at the end
pub HoldsNames-put : {A S : Type 0} (old new : HashMap (Vec ℕ A) (Option Count) S) (key : Vec ℕ A)
    (earlier : List Element) (e : Element) (count : Option Count) → count ≡ named_count (length earlier, e)
    → key.items ≡ e.name → held_at old e.name ≡ None
    → Updates (λ x y. bytes_eq x.items y.items) old new key (Some count) → HoldsNames old earlier
    → HoldsNames new (earlier ++ e ∷ [])
unfolding KeepsOthers
HoldsNames-put old new key earlier e count counts is absent updates holds name = by (bytes_eq name e.name) refl
  where
    by : (b : Bool) → bytes_eq name e.name ≡ b
        → held_at new name ≡ option_map named_count (first_named 0 (earlier ++ e ∷ []) name)
    by false other =
        updates.3 (λ k. bytes_eq name k.items) (λ x y h. bytes_eq-other name x.items y.items h)
        (λ k h. apart name key.items k.items (ap (bytes_eq name) is ∙ other) h)
        ∙ holds name
        ∙ ap (option_map named_count) (sym (first_named-other 0 earlier e name other))
    by true same =
        let here = (bytes_eq-Decides name e.name).0 same in
        let none = map-None named_count (first_named 0 earlier name) (sym (holds name)
        ∙ ap (held_at old) here ∙ absent) in
        ap (held_at new) (here ∙ sym is) ∙ updates.1 ∙ ap Some counts
        ∙ ap (λ k. Some (named_count (k, e))) (sym (zero-add (length earlier)))
        ∙ ap (option_map named_count) (sym (first_named-new 0 earlier e name same none))

-- what a look-up through a reference finds
pub copied-is_some : {X : Type 0} (o : Option (Bor X)) → is_some (option_copied o) ≡ is_some o
copied-is_some None = refl
copied-is_some (Some x) = refl

pub copied-None : {X : Type 0} (o : Option (Bor X)) → is_some o ≡ false → option_copied o ≡ None
copied-None None e = refl
copied-None (Some x) e = cc

and_then-map : {X : Type 0} (f : X → Option Count) (o : Option X)
    → option_and_then (λ (count : Option Count). count) (option_map f o) ≡ option_and_then f o
and_then-map f None = refl
and_then-map f (Some x) = refl

-- a map that holds the names counts as they do
count_at-held : {A S : Type 0} (names : HashMap (Vec ℕ A) (Option Count) S) (earlier : List Element)
    → HoldsNames names earlier → count_at names ≡ count_in earlier
count_at-held names earlier holds = λ i name.
    (ap (option_and_then (λ (count : Option Count). count)) (holds name)
    ∙ and_then-map named_count (first_named 0 earlier name)) i

-- no element yet
pub IsCompiled-none : {A S : Type 0} (elements : List Element) (names : HashMap (Vec ℕ A) (Option Count) S)
    → names.entries ≡ [] → IsCompiled elements 0 [] names
unfolding layout_of
IsCompiled-none elements names empty = record { done = prefixed-none (fields_after [] elements); held = held }
  where
    held : HoldsNames names []
    held name = ap (lookup (λ key. bytes_eq name key.items)) empty

-- the last element is the one at the end
pub is_last-drop : (elements : List Element) (i : ℕ) → i < length elements
    → is_last (drop (i + 1) elements) ≡ (i + 1 == length elements)
is_last-drop elements i lt = by (drop (i + 1) elements) (length-drop (i + 1) elements)
  where
    by : (rest : List Element) → length rest ≡ length elements - (i + 1) → is_last rest ≡ (i + 1 == length elements)
    by [] size = sym (eq-eqb (i + 1) (length elements) (omega arith))
    by (e ∷ es) size = sym (ne_eqb (i + 1) (length elements) (λ same. omega arith))

-- the fields of the elements from one on
fields_after-drop : (elements : List Element) (i : ℕ) (e : Element) → i < length elements → e ≡ get_or elements i e
    → fields_after (take i elements) (drop i elements)
    ≡ with_first (field_of (count_in (take i elements)) (is_last (drop (i + 1) elements)) e)
    (fields_after (take (i + 1) elements) (drop (i + 1) elements))
fields_after-drop elements i e lt is =
    at_drop_more (fields_after (take i elements)) elements i e lt
    ∙ ap (λ x. fields_after (take i elements) (x ∷ drop (i + 1) elements)) (sym is)
    ∙ ap (λ front. with_first (field_of (count_in (take i elements)) (is_last (drop (i + 1) elements)) e)
    (fields_after front (drop (i + 1) elements))) (ap (λ x. take i elements ++ x ∷ []) is
    ∙ sym (take_more elements i e lt))

-- one more element, which has a field
pub IsCompiled-more : {A S : Type 0} (elements : List Element) (i : ℕ) (fields : List Field)
    (names new : HashMap (Vec ℕ A) (Option Count) S) (e : Element) (f : Field) (last : Bool)
    → IsCompiled elements i fields names → i < length elements → e ≡ get_or elements i e
    → last ≡ (i + 1 == length elements) → field_of (count_at names) last e ≡ Some f
    → HoldsNames new (take i elements ++ e ∷ []) → IsCompiled elements (i + 1) (fields ++ f ∷ []) new
IsCompiled-more elements i fields names new e f last before lt is at_end has holds = record {
  done = sym (prefixed-more fields f others)
      ∙ ap (λ o. prefixed fields (with_first o others)) (sym has
      ∙ (λ j. field_of (count_at-held names (take i elements) before.held j)
      ((at_end ∙ sym (is_last-drop elements i lt)) j) e))
      ∙ ap (prefixed fields) (sym (fields_after-drop elements i e lt is)) ∙ before.done;
  held = subst (HoldsNames new) (ap (λ x. take i elements ++ x ∷ []) is ∙ sym (take_more elements i e lt)) holds;
}
  where
    others : Option (List Field)
    others = fields_after (take (i + 1) elements) (drop (i + 1) elements)

-- an element that has none
pub IsCompiled-stops : {A S : Type 0} (elements : List Element) (i : ℕ) (fields : List Field)
    (names : HashMap (Vec ℕ A) (Option Count) S) (e : Element) (last : Bool) → IsCompiled elements i fields names
    → i < length elements → e ≡ get_or elements i e → last ≡ (i + 1 == length elements)
    → field_of (count_at names) last e ≡ None → layout_of elements ≡ None
IsCompiled-stops elements i fields names e last before lt is at_end has =
    sym before.done
    ∙ ap (prefixed fields) (fields_after-drop elements i e lt is
    ∙ ap (λ o. with_first o (fields_after (take (i + 1) elements) (drop (i + 1) elements)))
    (sym (λ j. field_of (count_at-held names (take i elements) before.held j)
    ((at_end ∙ sym (is_last-drop elements i lt)) j) e) ∙ has))

-- all elements
pub IsCompiled-all : {A S : Type 0} (elements : List Element) (i : ℕ) (fields : List Field)
    (names : HashMap (Vec ℕ A) (Option Count) S) → IsCompiled elements i fields names → length elements ≤ i
    → layout_of elements ≡ Some fields
IsCompiled-all elements i fields names before le =
    sym before.done
    ∙ ap (λ rest. prefixed fields (fields_after (take i elements) rest)) (drop_of_length-le elements le)
    ∙ prefixed-all fields

-- a counter is an earlier element
first_named-below : (i : ℕ) (es : List Element) (name : List ℕ) (p : ℕ × Element) → first_named i es name ≡ Some p
    → p.0 < i + length es
first_named-below i [] name p h = cc
first_named-below i (x ∷ es) name p h = by (bytes_eq name x.name) (first_named-below (i + 1) es name p) h
  where
    by : (b : Bool) → (first_named (i + 1) es name ≡ Some p → p.0 < i + 1 + length es)
        → cond b (Some (i, x)) (first_named (i + 1) es name) ≡ Some p → p.0 < i + suc (length es)
    by true others h = subst (λ (q : ℕ × Element). q.0 < i + suc (length es)) (Some-same (i, x) p h) (omega arith)
    by false others h = let lt = others h in omega arith

and_then-Some : {X Y : Type 0} (o : Option X) (f : X → Option Y) (y : Y) → option_and_then f o ≡ Some y → (x : X)
    × (o ≡ Some x) × (f x ≡ Some y)
and_then-Some None f y e = cc
and_then-Some (Some x) f y e = (x, refl, e)

map-Some-is : {X Y : Type 0} (f : X → Y) (o : Option X) (y : Y) → option_map f o ≡ Some y → (x : X)
    × (o ≡ Some x) × (f x ≡ y)
map-Some-is f None y e = cc
map-Some-is f (Some x) y e = (x, refl, Some-same (f x) y e)

counted_by-earlier : (n k : ℕ) (base : Base) (c : Count) → k < n → counted_by k base ≡ Some c → IsEarlier n c
counted_by-earlier n k Int1S c lt e = subst (IsEarlier n) (Some-same (OfSigned k One) c e) lt
counted_by-earlier n k Int1U c lt e = subst (IsEarlier n) (Some-same (Of k) c e) lt
counted_by-earlier n k Int2S c lt e = subst (IsEarlier n) (Some-same (OfSigned k Two) c e) lt
counted_by-earlier n k Int2U c lt e = subst (IsEarlier n) (Some-same (Of k) c e) lt
counted_by-earlier n k Int4S c lt e = subst (IsEarlier n) (Some-same (OfSigned k Four) c e) lt
counted_by-earlier n k Int4U c lt e = subst (IsEarlier n) (Some-same (Of k) c e) lt
counted_by-earlier n k Int8S c lt e = subst (IsEarlier n) (Some-same (OfSigned k Eight) c e) lt
counted_by-earlier n k Int8U c lt e = subst (IsEarlier n) (Some-same (Of k) c e) lt
counted_by-earlier n k base c lt e = cc

count_in-earlier : (earlier : List Element) (name : List ℕ) (c : Count) → count_in earlier name ≡ Some c
    → IsEarlier (length earlier) c
count_in-earlier earlier name c h =
    let m = and_then-Some (first_named 0 earlier name) named_count c h in
    let t = and_then-Some m.0.1.ty (counted_by_type m.0.0) c m.2 in
    by m.0.0 t.0 (has_no_dims t.0.dims) (let lt = first_named-below 0 earlier name m.0 m.1 in
    omega (arith, zero-add (length earlier))) t.2
  where
    by : (k : ℕ) (ty : ElementType) (b : Bool) → k < length earlier → cond b (counted_by k ty.base) None ≡ Some c
        → IsEarlier (length earlier) c
    by k ty true lt e = counted_by-earlier (length earlier) k ty.base c lt e
    by k ty false lt e = cc

count_of-earlier : (named : List ℕ → Option Count) (n : ℕ)
    → ((name : List ℕ) (c : Count) → named name ≡ Some c → IsEarlier n c) → (d : Dim) (c : Count)
    → count_of named d ≡ Some c → IsEarlier n c
count_of-earlier named n below (Numeral m) c h = subst (IsEarlier n) (Some-same (Fixed m) c h) tt
count_of-earlier named n below (Named name) c h = below name c h

counts_of-earlier : (named : List ℕ → Option Count) (n : ℕ)
    → ((name : List ℕ) (c : Count) → named name ≡ Some c → IsEarlier n c) → (dims : List Dim) (cs : List Count)
    → counts_of named dims ≡ Some cs → All (IsEarlier n) cs
counts_of-earlier named n below [] cs h =
    subst (All (IsEarlier n)) (Some-same [] cs h) (λ k d lt. absurd (omega arith))
counts_of-earlier named n below (d ∷ ds) cs h =
    let m = and_then-Some (count_of named d) (λ c. option_map (λ cs. c ∷ cs) (counts_of named ds)) cs h in
    let t = map-Some-is (λ cs. m.0 ∷ cs) (counts_of named ds) cs m.2 in
    subst (All (IsEarlier n)) t.2
    (All-cons (IsEarlier n) m.0 t.0 (count_of-earlier named n below d m.0 m.1)
    (counts_of-earlier named n below ds t.0 t.1))

field_of-earlier : (named : List ℕ → Option Count) (n : ℕ)
    → ((name : List ℕ) (c : Count) → named name ≡ Some c → IsEarlier n c) → (last : Bool) (e : Element) (f : Field)
    → field_of named last e ≡ Some f → All (IsEarlier n) f.counts
field_of-earlier named n below last e f h =
    let m = and_then-Some e.ty (field_of_type named (last && is_check_sum e)) f h in
    let t = map-Some-is (λ (counts : List Count). field (form_of m.0.base) counts) (counts_of named m.0.dims) f m.2 in
    subst (λ (f : Field). All (IsEarlier n) f.counts) t.2 (counts_of-earlier named n below m.0.dims t.0 t.1)
  where
    field : Form → List Count → Field
    field form counts = record { form = form; counts = counts; is_sum = last && is_check_sum e }

-- the fields of a layout are as many as its elements, and each counts by earlier ones
fields_after-sound : (earlier es : List Element) (fs : List Field) → fields_after earlier es ≡ Some fs
    → AreSound (length earlier) fs × (length fs ≡ length es)
fields_after-sound earlier [] fs h =
    subst (λ fs. AreSound (length earlier) fs × (length fs ≡ 0)) (Some-same [] fs h) (tt, refl)
fields_after-sound earlier (e ∷ es) fs h =
    let m = and_then-Some (field_of (count_in earlier) (is_last es) e)
    (λ f. option_map (λ fs. f ∷ fs) (fields_after (earlier ++ e ∷ []) es)) fs h in
    let t = map-Some-is (λ fs. m.0 ∷ fs) (fields_after (earlier ++ e ∷ []) es) fs m.2 in
    let others = fields_after-sound (earlier ++ e ∷ []) es t.0 t.1 in
    subst (λ fs. AreSound (length earlier) fs
    × (length fs ≡ suc (length es))) t.2 (
      (
        field_of-earlier (count_in earlier) (length earlier) (count_in-earlier earlier) (is_last es) e m.0 m.1,
        subst (λ i. AreSound i t.0) (length-append earlier (e ∷ [])) others.0,
      ),
      ap suc others.1,
    )

-- the counts of no dimension
counts_of-none : (named : List ℕ → Option Count) (dims : List Dim) (cs : List Count) → has_no_dims dims ≡ true
    → counts_of named dims ≡ Some cs → cs ≡ []
counts_of-none named [] cs none h = sym (Some-same [] cs h)
counts_of-none named (d ∷ ds) cs none h = cc

int_4u-form : (base : Base) → is_int_4u base ≡ true → form_of base ≡ Number Four
int_4u-form Int4U is = refl
int_4u-form base is = cc

-- a field that is a check sum
field_of-sum : (named : List ℕ → Option Count) (last : Bool) (e : Element) (f : Field) → field_of named last e ≡ Some f
    → f.is_sum ≡ true → (last ≡ true) × (f.form ≡ Number Four) × (f.counts ≡ [])
field_of-sum named last e f h sum =
    let m = and_then-Some e.ty (field_of_type named (last && is_check_sum e)) f h in
    let t = map-Some-is (λ (counts : List Count). field (form_of m.0.base) counts) (counts_of named m.0.dims) f m.2 in
    let both = and_parts last (is_check_sum e) (ap (λ (f : Field). f.is_sum) t.2 ∙ sum) in
    let typed = and_parts (bytes_eq e.name (codes "chkSum"))
    (option_map_or (λ (ty : ElementType). is_int_4u ty.base && has_no_dims ty.dims) e.ty false) both.1 in
    let parts = and_parts (is_int_4u m.0.base) (has_no_dims m.0.dims)
    (sym (ap (λ o. option_map_or (λ (ty : ElementType). is_int_4u ty.base && has_no_dims ty.dims) o false)
    m.1) ∙ typed.1) in (
      both.0,
      sym (ap (λ (f : Field). f.form) t.2) ∙ int_4u-form m.0.base parts.0,
      sym (ap (λ (f : Field). f.counts) t.2)
          ∙ counts_of-none named m.0.dims t.0 parts.1 t.1,
    )
  where
    field : Form → List Count → Field
    field form counts = record { form = form; counts = counts; is_sum = last && is_check_sum e }

    and_parts : (a b : Bool) → (a && b) ≡ true → (a ≡ true) × (b ≡ true)
    and_parts true b h = (refl, h)
    and_parts false b h = cc

is_last-none : (es : List Element) (fs : List Field) → is_last es ≡ true → length fs ≡ length es → fs ≡ []
is_last-none [] [] last size = refl
is_last-none [] (f ∷ fs) last size = absurd (omega arith)
is_last-none (e ∷ es) fs last size = cc

fields_after-sums : (earlier es : List Element) (fs : List Field) → fields_after earlier es ≡ Some fs → AreSums fs
fields_after-sums earlier [] fs h = subst AreSums (Some-same [] fs h) tt
fields_after-sums earlier (e ∷ es) fs h =
    let m = and_then-Some (field_of (count_in earlier) (is_last es) e)
    (λ f. option_map (λ fs. f ∷ fs) (fields_after (earlier ++ e ∷ []) es)) fs h in
    let t = map-Some-is (λ fs. m.0 ∷ fs) (fields_after (earlier ++ e ∷ []) es) fs m.2 in
    subst AreSums t.2 (
      λ sum. let s = field_of-sum (count_in earlier) (is_last es) e m.0 m.1 sum in
          (s.1, s.2, is_last-none es t.0 s.0 (fields_after-sound (earlier ++ e ∷ []) es t.0 t.1).1),
      fields_after-sums (earlier ++ e ∷ []) es t.0 t.1,
    )

pub layout_of-IsLayout : (elements : List Element) (fields : List Field) → layout_of elements ≡ Some fields
    → length elements ≤ 4096 → IsLayout fields
unfolding layout_of
layout_of-IsLayout elements fields h le =
    let s = fields_after-sound [] elements fields h in
    record { sound = s.0; sums = fields_after-sums [] elements fields h; short = omega arith }

pub layout_of-sound : LayoutsAreSound
unfolding layout_of
layout_of-sound elements fields h = (fields_after-sound [] elements fields h).0
