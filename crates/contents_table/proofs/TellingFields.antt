-- What the fields are that tell something, in a layout that is fit.
use Rattle.std.proofs.Common.{◌≡◌, ℕ, zero, suc, ◌==◌, ◌<◌, ◌⊎◌, Bool, true, false, cond, List, [], ◌∷◌, ◌++◌}
use Rattle.std.proofs.Common.{find, Option, Some, None, IfSome, unwrap_or, All, refl, sym, ap, ◌∙◌, subst}
use Rattle.std.proofs.Common.{inl, inr, arith, eq-eqb, eqb-true}
use Rattle.std.specs.Prelude.{slice_get}
use Rattle.std.specs.Option.{option_map, option_map_or}
use Rattle.std.specs.List.{AllByRecursion}
use Rattle.std.proofs.lemmas.Bool.{cases_lt}
use Rattle.std.proofs.lemmas.Option.{same_Some, slice_get_within, get_or_from_slice_get}
use Rattle.scalar_types.specs.declared.Width.TheVariants.{Four, Eight}
use Rattle.layout_plan.specs.declared.fields.Form.{Form}
use Rattle.layout_plan.specs.declared.fields.Form.TheVariants.{Number, Text}
use Rattle.layout_plan.specs.declared.fields.Count.{Count}
use Rattle.layout_plan.specs.declared.fields.Count.TheVariants.{Of}
use Rattle.layout_plan.specs.declared.fields.Field.{Field}
use Rattle.contents_table.specs.declared.kind.Kind.{Kind}
use Rattle.contents_table.specs.declared.kind.Kind.TheVariants.{Adc, Proc, Sim, Ser}
use Rattle.contents_table.specs.declared.fit.KindFields.{KindFields}
use Rattle.contents_table.specs.declared.fit.TableLayout.{TableLayout}
use Rattle.contents_table.specs.declared.writing.Tells.{Tells}
use Rattle.contents_table.specs.declared.writing.Tells.TheVariants as told
use Rattle.contents_table.specs.Fit.{fields_of, IsListField, position_counts, IsKindLayout, counters_of}
use Rattle.contents_table.specs.Fit.{AreDistinct, IsWideField, IsTableLayout}
use Rattle.contents_table.specs.Tells.{kind_tells, tells, is_of, first_of_number, told_in, IsCounter}
use Rattle.contents_table.proofs.RowPositions.{All-at}

-- ---- the form of a field that tells something

-- the layout lists the kind, with fields of which P holds
abbrev Lists : TableLayout → Kind → (KindFields → Type 0) → Type 0
Lists layout kind P = (kf : KindFields) × (fields_of layout kind ≡ Some kf) × P kf

abbrev IsList : Form → List Count → Field → Type 0
IsList form counts f = (f.form ≡ form) × (f.counts ≡ counts)

-- field j is one that may tell this
abbrev pub Shape : TableLayout → ℕ → Field → Tells → Type 0
Shape layout j f told.Nothing = ⊥
Shape layout j f told.Frames = (j ≡ layout.frames) × IsCounter f
Shape layout j f told.Heads = IsList (Number Eight) (Of layout.frames ∷ []) f
Shape layout j f (told.Count kind) = Lists layout kind (λ kf. (j ≡ kf.count) × IsCounter f)
Shape layout j f (told.Names kind) = Lists layout kind (λ kf. IsList Text (Of kf.count ∷ []) f)
Shape layout j f (told.Positions kind by_name) =
    Lists layout kind
    (λ kf. IsList (Number Eight) (position_counts layout.frames kf) f × (kf.by_name ≡ by_name))

abbrev HasShape : List Field → TableLayout → ℕ × Tells → Type 0
HasShape fields layout t = (f : Field) → slice_get fields t.0 ≡ Some f → Shape layout t.0 f t.1

same_field : (fields : List Field) (k : ℕ) (f g : Field) → slice_get fields k ≡ Some f
    → slice_get fields k ≡ Some g
    → f ≡ g
same_field fields k f g is also = same_Some f g (sym is ∙ also)

counter-of : (fields : List Field) (k : ℕ) (f : Field) → slice_get fields k ≡ Some f → IsWideField fields k
    → IsCounter f
counter-of fields k f is (inl s) =
    subst IsCounter (same_field fields k s.field f s.is is)
    (record { width = Four; wide = omega arith; form_is = s.form_is; single = s.single })
counter-of fields k f is (inr s) =
    subst IsCounter (same_field fields k s.field f s.is is)
    (record { width = Eight; wide = omega arith; form_is = s.form_is; single = s.single })

list-of : (fields : List Field) (k : ℕ) (form : Form) (counts : List Count) (f : Field)
    → slice_get fields k ≡ Some f
    → IsListField fields k form counts → IsList form counts f
list-of fields k form counts f is s =
    subst (IsList form counts) (same_field fields k s.field f s.is is) (s.form_is, s.counts_are)

both : {X : Type 0} (P : X → Type 0) (xs ys : List X) → AllByRecursion P xs → AllByRecursion P ys
    → AllByRecursion P (xs ++ ys)
both P [] ys all more = more
both P (x ∷ xs) ys all more = (all.0, both P xs ys all.1 more)

kind-shapes : (fields : List Field) (layout : TableLayout) (kind : Kind) (kf : KindFields)
    → fields_of layout kind ≡ Some kf → IsKindLayout fields layout.frames kf → IsWideField fields kf.count
    → AllByRecursion (HasShape fields layout) (kind_tells kind kf)
kind-shapes fields layout kind kf e s wide = (
  λ f is. (kf, e, (refl, counter-of fields kf.count f is wide)),
  (
    λ f is. (kf, e, list-of fields kf.names Text (Of kf.count ∷ []) f is s.names),
    (
      λ f is. (
        kf,
        e,
        (
          list-of fields kf.positions (Number Eight) (position_counts layout.frames kf) f is s.positions,
          refl,
        ),
      ),
      tt,
    ),
  ),
)

-- where the layout lists serial data, or not
serial-shapes : (fields : List Field) (layout : TableLayout) (o : Option KindFields) → layout.ser ≡ o
    → IfSome o (IsKindLayout fields layout.frames) → IfSome o
    (λ (kf : KindFields). IsWideField fields kf.count)
    → AllByRecursion (HasShape fields layout) (option_map_or (kind_tells Ser) o [])
serial-shapes fields layout None e s wide = tt
serial-shapes fields layout (Some kf) e s wide = kind-shapes fields layout Ser kf e s wide

serial-wide : (fields : List Field) (layout : TableLayout) (o : Option KindFields) → layout.ser ≡ o
    → All (IsWideField fields) (counters_of layout)
    → IfSome o (λ (kf : KindFields). IsWideField fields kf.count)
serial-wide fields layout None e wide = tt
serial-wide fields layout (Some kf) e wide =
    All-at (IsWideField fields) (counters_of layout) 4 kf.count wide (rw e refl)

shapes : (fields : List Field) (layout : TableLayout) → IsTableLayout fields layout
    → AllByRecursion (HasShape fields layout) (tells layout)
shapes fields layout t =
    let P = HasShape fields layout in
    let wide = All-at (IsWideField fields) (counters_of layout) in
    let ser = serial-shapes fields layout layout.ser refl t.ser
    (serial-wide fields layout layout.ser refl t.wide) in
    let sim = kind-shapes fields layout Sim layout.sim refl t.sim (wide 3 layout.sim.count t.wide refl) in
    let proc = kind-shapes fields layout Proc layout.proc refl t.proc
    (wide 2 layout.proc.count t.wide refl) in
    let adc = kind-shapes fields layout Adc layout.adc refl t.adc (wide 1 layout.adc.count t.wide refl) in
    let serial = option_map_or (kind_tells Ser) layout.ser [] in (
      λ f is. (refl, counter-of fields layout.frames f is (wide 0 layout.frames t.wide refl)),
      (
        λ f is. list-of fields layout.heads (Number Eight) (Of layout.frames ∷ []) f is t.heads,
        both P (kind_tells Adc layout.adc)
            (kind_tells Proc layout.proc ++ (kind_tells Sim layout.sim ++ (serial ++ []))) adc
            (both P (kind_tells Proc layout.proc) (kind_tells Sim layout.sim ++ (serial ++ [])) proc
            (both P (kind_tells Sim layout.sim) (serial ++ []) sim (both P serial [] ser tt))),
      ),
    )

-- ---- what a field of a number tells

-- P holds of the first of a number, where there is one
first-of : (P : ℕ → Tells → Type 0) (ts : List (ℕ × Tells)) (k : ℕ)
    → AllByRecursion (λ (t : ℕ × Tells). P t.0 t.1) ts
    → (first_of_number ts k ≡ None) ⊎ ((t : Tells) × (first_of_number ts k ≡ Some t) × P k t)
first-of P [] k all = inl refl
first-of P (t ∷ ts) k all = by (t.0 == k) refl (first-of P ts k all.1)
  where
    Found : Option Tells → Type 0
    Found o = (o ≡ None) ⊎ ((t : Tells) × (o ≡ Some t) × P k t)

    by : (b : Bool) → (t.0 == k) ≡ b → Found (first_of_number ts k)
        → Found (option_map (λ (t : ℕ × Tells). t.1) (cond b (Some t) (find (is_of k) ts)))
    by true e rest = inr (t.1, refl, subst (λ k. P k t.1) (eqb-true t.0 k e) all.0)
    by false e rest = rest

-- there is one
first-there : (ts : List (ℕ × Tells)) (i : ℕ) (t : ℕ × Tells) → slice_get ts i ≡ Some t
    → first_of_number ts t.0 ≡ None → ⊥
first-there [] i t is none = cc
first-there (u ∷ ts) zero t is none =
    let same : u ≡ t = same_Some u t is in
    let yes : (u.0 == t.0) ≡ true = eq-eqb u.0 t.0 (ap (λ (t : ℕ × Tells). t.0) same) in
    let found = rw yes at none in
    cc
first-there (u ∷ ts) (suc i) t is none = by (u.0 == t.0) none (first-there ts i t is)
  where
    by : (b : Bool) → option_map (λ (t : ℕ × Tells). t.1) (cond b (Some u) (find (is_of t.0) ts)) ≡ None
        → (first_of_number ts t.0 ≡ None → ⊥) → ⊥
    by true none rest = cc
    by false none rest = rest none

-- what a field tells is as it may
pub shape-at : (fields : List Field) (layout : TableLayout) → IsTableLayout fields layout
    → (k : ℕ) (f : Field)
    → slice_get fields k ≡ Some f → (told_in layout k ≡ told.Nothing) ⊎ Shape layout k f (told_in layout k)
shape-at fields layout t k f is =
    elim (first-of (λ j u. (f : Field) → slice_get fields j ≡ Some f → Shape layout j f u) (tells layout) k
    (shapes fields layout t)) [
      | inl none ↦ inl (ap (λ o. unwrap_or o told.Nothing) none)
      | inr found ↦ inr (subst (Shape layout k f) (sym (ap (λ o. unwrap_or o told.Nothing) found.1))
          (found.2 f is))
    ]

-- where one of the fields that tell has this number
shape-of : (fields : List Field) (layout : TableLayout) → IsTableLayout fields layout → (i k : ℕ) (u : Tells)
    → slice_get (tells layout) i ≡ Some (k, u) → (f : Field) → slice_get fields k ≡ Some f
    → Shape layout k f (told_in layout k)
shape-of fields layout t i k u at f is =
    elim (first-of (λ j u. (f : Field) → slice_get fields j ≡ Some f → Shape layout j f u) (tells layout) k
    (shapes fields layout t)) [
      | inl none ↦ absurd (first-there (tells layout) i (k, u) at none)
      | inr found ↦ subst (Shape layout k f) (sym (ap (λ o. unwrap_or o told.Nothing) found.1)) (found.2 f is)
    ]

-- ---- the counters are apart

-- where the counter of a kind stands among them, and back
abbrev place_of : Kind → ℕ
place_of Adc = 1
place_of Proc = 2
place_of Sim = 3
place_of Ser = 4

abbrev kind_at : ℕ → Kind
kind_at (suc zero) = Adc
kind_at (suc (suc zero)) = Proc
kind_at (suc (suc (suc zero))) = Sim
kind_at n = Ser

kind_at-place : (kind : Kind) → kind_at (place_of kind) ≡ kind
kind_at-place Adc = refl
kind_at-place Proc = refl
kind_at-place Sim = refl
kind_at-place Ser = refl

counter-at : (layout : TableLayout) (kind : Kind) (kf : KindFields) → fields_of layout kind ≡ Some kf
    → slice_get (counters_of layout) (place_of kind) ≡ Some kf.count
counter-at layout Adc kf e = ap (λ (k : KindFields). Some k.count) (same_Some layout.adc kf e)
counter-at layout Proc kf e = ap (λ (k : KindFields). Some k.count) (same_Some layout.proc kf e)
counter-at layout Sim kf e = ap (λ (k : KindFields). Some k.count) (same_Some layout.sim kf e)
counter-at layout Ser kf e = rw e refl

apart : {X : Type 0} (xs : List X) (i j : ℕ) (x y : X) → AreDistinct xs → slice_get xs i ≡ Some x
    → slice_get xs j ≡ Some y → x ≡ y → i < j → ⊥
apart xs i j x y distinct at also same lt =
    distinct i j x lt (slice_get_within xs j y also)
    (get_or_from_slice_get xs i x x at ∙ same ∙ sym (get_or_from_slice_get xs j y x also))

same-place : {X : Type 0} (xs : List X) (i j : ℕ) (x y : X) → AreDistinct xs → slice_get xs i ≡ Some x
    → slice_get xs j ≡ Some y → x ≡ y → i ≡ j
same-place xs i j x y distinct at also same = elim (cases_lt i j) [
  | inl lt ↦ absurd (apart xs i j x y distinct at also same lt)
  | inr le ↦ elim (cases_lt j i) [
    | inl lt ↦ absurd (apart xs j i y x distinct also at (sym same) lt)
    | inr ge ↦ omega arith
  ]
]

same-kind : (fields : List Field) (layout : TableLayout) → IsTableLayout fields layout → (kind other : Kind)
    (kf of : KindFields) → fields_of layout kind ≡ Some kf → fields_of layout other ≡ Some of
    → kf.count ≡ of.count
    → kind ≡ other
same-kind fields layout t kind other kf of e also same =
    sym (kind_at-place kind)
    ∙ ap kind_at (same-place (counters_of layout) (place_of kind) (place_of other) kf.count of.count
    t.counters
    (counter-at layout kind kf e) (counter-at layout other of also) same)
    ∙ kind_at-place other

no-frames : (fields : List Field) (layout : TableLayout) → IsTableLayout fields layout → (kind : Kind)
    (kf : KindFields) → fields_of layout kind ≡ Some kf → kf.count ≡ layout.frames → ⊥
no-frames fields layout t kind kf e same =
    no kind (same-place (counters_of layout) 0 (place_of kind) layout.frames kf.count t.counters refl
    (counter-at layout kind kf e) (sym same))
  where
    no : (kind : Kind) → 0 ≡ place_of kind → ⊥
    no Adc e = cc
    no Proc e = cc
    no Sim e = cc
    no Ser e = cc

-- ---- so each tells what it has to

-- positions have two dimensions
two-counts : (frames : ℕ) (kf : KindFields) (by_name : Bool) → kf.by_name ≡ by_name
    → (c d : Count) × (position_counts frames kf ≡ c ∷ d ∷ [])
two-counts frames kf true e = (Of kf.count, Of frames, rw e refl)
two-counts frames kf false e = (Of frames, Of kf.count, rw e refl)

two : (layout : TableLayout) (kf : KindFields) (f : Field) → f.counts ≡ position_counts layout.frames kf
    → (c d : Count) × (f.counts ≡ c ∷ d ∷ [])
two layout kf f counts =
    let cs = two-counts layout.frames kf kf.by_name refl in
    (cs.0, cs.1, counts ∙ cs.2)

is-count : (fields : List Field) (layout : TableLayout) → IsTableLayout fields layout → (kind : Kind)
    (kf : KindFields) → fields_of layout kind ≡ Some kf → (f : Field) → f.counts ≡ [] → (u : Tells)
    → Shape layout kf.count f u → u ≡ told.Count kind
is-count fields layout t kind kf e f single told.Nothing s = absurd s
is-count fields layout t kind kf e f single told.Frames s = absurd (no-frames fields layout t kind kf e s.0)
is-count fields layout t kind kf e f single told.Heads s = cc
is-count fields layout t kind kf e f single (told.Count other) (of, also, (same, counter)) =
    ap told.Count (sym (same-kind fields layout t kind other kf of e also same))
is-count fields layout t kind kf e f single (told.Names other) (of, also, (form, counts)) = cc
is-count fields layout t kind kf e f single (told.Positions other by_name) (of, also, (list, same)) =
    let counts = two layout of f list.1 in
    cc

is-heads : (layout : TableLayout) (j : ℕ) (f : Field) → IsList (Number Eight) (Of layout.frames ∷ []) f
    → (u : Tells)
    → Shape layout j f u → u ≡ told.Heads
is-heads layout j f list told.Nothing s = absurd s
is-heads layout j f list told.Frames s = let single = s.1.single in cc
is-heads layout j f list told.Heads s = refl
is-heads layout j f list (told.Count other) (of, also, (same, counter)) = let single = counter.single in cc
is-heads layout j f list (told.Names other) (of, also, (form, counts)) = cc
is-heads layout j f list (told.Positions other by_name) (of, also, (positions, same)) =
    let counts = two layout of f positions.1 in
    cc

is-names : (fields : List Field) (layout : TableLayout) → IsTableLayout fields layout → (kind : Kind)
    (kf : KindFields) → fields_of layout kind ≡ Some kf → (j : ℕ) (f : Field)
    → IsList Text (Of kf.count ∷ []) f
    → (u : Tells) → Shape layout j f u → u ≡ told.Names kind
is-names fields layout t kind kf e j f list told.Nothing s = absurd s
is-names fields layout t kind kf e j f list told.Frames s = let single = s.1.single in cc
is-names fields layout t kind kf e j f list told.Heads s = cc
is-names fields layout t kind kf e j f list (told.Count other) (of, also, (same, counter)) =
    let single = counter.single in
    cc
is-names fields layout t kind kf e j f list (told.Names other) (of, also, (form, counts)) =
    let same : kf.count ≡ of.count = cc in
    ap told.Names (sym (same-kind fields layout t kind other kf of e also same))
is-names fields layout t kind kf e j f list (told.Positions other by_name) (of, also, (positions, same)) = cc

-- the places of a kind's fields among those that tell
counter-in : (layout : TableLayout) (kind : Kind) (kf : KindFields) → fields_of layout kind ≡ Some kf
    → (i : ℕ) × (slice_get (tells layout) i ≡ Some (kf.count, told.Count kind))
counter-in layout Adc kf e = (
  2,
  ap (λ (k : KindFields). Some (k.count, told.Count Adc))
      (same_Some layout.adc kf e),
)
counter-in layout Proc kf e = (
  5,
  ap (λ (k : KindFields). Some (k.count, told.Count Proc))
      (same_Some layout.proc kf e),
)
counter-in layout Sim kf e = (
  8,
  ap (λ (k : KindFields). Some (k.count, told.Count Sim))
      (same_Some layout.sim kf e),
)
counter-in layout Ser kf e = (11, rw e refl)

names-in : (layout : TableLayout) (kind : Kind) (kf : KindFields) → fields_of layout kind ≡ Some kf
    → (i : ℕ) × (slice_get (tells layout) i ≡ Some (kf.names, told.Names kind))
names-in layout Adc kf e = (
  3,
  ap (λ (k : KindFields). Some (k.names, told.Names Adc))
      (same_Some layout.adc kf e),
)
names-in layout Proc kf e = (
  6,
  ap (λ (k : KindFields). Some (k.names, told.Names Proc))
      (same_Some layout.proc kf e),
)
names-in layout Sim kf e = (
  9,
  ap (λ (k : KindFields). Some (k.names, told.Names Sim))
      (same_Some layout.sim kf e),
)
names-in layout Ser kf e = (12, rw e refl)

-- what is known of a kind that is listed
kind-layout : (fields : List Field) (layout : TableLayout) → IsTableLayout fields layout → (kind : Kind)
    (kf : KindFields) → fields_of layout kind ≡ Some kf → IsKindLayout fields layout.frames kf
kind-layout fields layout t Adc kf e = subst (IsKindLayout fields layout.frames) (same_Some layout.adc kf e)
    t.adc
kind-layout fields layout t Proc kf e = subst (IsKindLayout fields layout.frames) (same_Some layout.proc kf e)
    t.proc
kind-layout fields layout t Sim kf e = subst (IsKindLayout fields layout.frames) (same_Some layout.sim kf e)
    t.sim
kind-layout fields layout t Ser kf e =
    subst (λ (o : Option KindFields). IfSome o (IsKindLayout fields layout.frames)) e t.ser

-- the number of frames, the places of frames, and of each kind the number of names and the names
pub frames-told : (layout : TableLayout) → told_in layout layout.frames ≡ told.Frames
frames-told layout = rw (eq-eqb layout.frames layout.frames refl) refl

pub heads-told : (fields : List Field) (layout : TableLayout) → IsTableLayout fields layout
    → (f : Field) × (slice_get fields layout.heads ≡ Some f) × (f.form ≡ Number Eight)
    × (told_in layout layout.heads ≡ told.Heads)
heads-told fields layout t =
    let h = t.heads in (
      h.field,
      h.is,
      h.form_is,
      is-heads layout layout.heads h.field (h.form_is, h.counts_are) (told_in layout layout.heads)
          (shape-of fields layout t 1 layout.heads told.Heads refl h.field h.is),
    )

pub count-told : (fields : List Field) (layout : TableLayout) → IsTableLayout fields layout → (kind : Kind)
    (kf : KindFields) → fields_of layout kind ≡ Some kf
    → (f : Field) × (slice_get fields kf.count ≡ Some f) × (told_in layout kf.count ≡ told.Count kind)
count-told fields layout t kind kf e =
    let s = (kind-layout fields layout t kind kf e).count.1 in
    let at = counter-in layout kind kf e in (
      s.field,
      s.is,
      is-count fields layout t kind kf e s.field s.single (told_in layout kf.count)
          (shape-of fields layout t at.0 kf.count (told.Count kind) at.1 s.field s.is),
    )

pub names-told : (fields : List Field) (layout : TableLayout) → IsTableLayout fields layout → (kind : Kind)
    (kf : KindFields) → fields_of layout kind ≡ Some kf
    → (f : Field) × (slice_get fields kf.names ≡ Some f) × (f.form ≡ Text)
    × (told_in layout kf.names ≡ told.Names kind)
names-told fields layout t kind kf e =
    let s = (kind-layout fields layout t kind kf e).names in
    let at = names-in layout kind kf e in (
      s.field,
      s.is,
      s.form_is,
      is-names fields layout t kind kf e kf.names s.field (s.form_is, s.counts_are) (told_in layout kf.names)
          (shape-of fields layout t at.0 kf.names (told.Names kind) at.1 s.field s.is),
    )
