-- The field of a kind's positions tells these, in a layout that is fit for a contents table.
use Rattle.std.proofs.Common.{◌≡◌, ℕ, zero, suc, ◌==◌, Bool, true, false, cond, Option, Some, None, List, [], ◌∷◌, ◌++◌}
use Rattle.std.proofs.Common.{inl, inr, find, unwrap_or, refl, sym, ap, ◌∙◌, subst, eq-eqb}
use Rattle.std.specs.Prelude.{slice_get, IfSome}
use Rattle.std.specs.List.{AllByRecursion}
use Rattle.std.specs.Option.{option_map, option_map_or}
use Rattle.std.proofs.lemmas.Option.{none-some, same_Some}
use Rattle.scalar_types.specs.declared.Width.TheVariants.{Eight}
use Rattle.layout_plan.specs.declared.fields.Form.TheVariants.{Number}
use Rattle.layout_plan.specs.declared.fields.Count.{Count}
use Rattle.layout_plan.specs.declared.fields.Count.TheVariants.{Of}
use Rattle.layout_plan.specs.declared.fields.Field.{Field}
use Rattle.contents_table.specs.declared.kind.Kind.{Kind}
use Rattle.contents_table.specs.declared.kind.Kind.TheVariants.{Adc, Proc, Sim, Ser}
use Rattle.contents_table.specs.declared.fit.KindFields.{KindFields}
use Rattle.contents_table.specs.declared.fit.TableLayout.{TableLayout}
use Rattle.contents_table.specs.declared.writing.Tells.{Tells}
use Rattle.contents_table.specs.declared.writing.Tells.TheVariants as told
use Rattle.contents_table.specs.Fit.{fields_of, position_counts, IsKindLayout, IsTableLayout}
use Rattle.contents_table.specs.Tells.{kind_tells, tells_of, tells, is_of, first_of_number, told_in}
use Rattle.contents_table.proofs.TellingFields.{Shape, shape-at, frames-told, count-told}

-- ---- a field that is among those that tell something does

abbrev TellsSome : ℕ × Tells → Type 0
TellsSome t = t.1 ≡ told.Nothing → ⊥

first-some : (ts : List (ℕ × Tells)) (i k : ℕ) (u : Tells) → slice_get ts i ≡ Some (k, u)
    → AllByRecursion TellsSome ts → unwrap_or (first_of_number ts k) told.Nothing ≡ told.Nothing → ⊥
first-some [] i k u at all nothing = none-some (k, u) at
first-some (t ∷ ts) i k u at all nothing =
    by (t.0 == k) refl nothing i at (λ j there rest. first-some ts j k u there all.1 rest)
  where
    by : (b : Bool) → (t.0 == k) ≡ b
        → unwrap_or (option_map (λ (t : ℕ × Tells). t.1) (cond b (Some t) (find (is_of k) ts))) told.Nothing
        ≡ told.Nothing
        → (i : ℕ) → slice_get (t ∷ ts) i ≡ Some (k, u)
        → ((j : ℕ) → slice_get ts j ≡ Some (k, u)
        → unwrap_or (first_of_number ts k) told.Nothing ≡ told.Nothing → ⊥) → ⊥
    by true is nothing i at later = all.0 nothing
    by false is nothing zero at later =
        let same : t.0 ≡ k = ap (λ (t : ℕ × Tells). t.0) (same_Some t (k, u) at) in
        let other : (t.0 == k) ≡ true = eq-eqb t.0 k same in
        cc
    by false is nothing (suc i) at later = later i at nothing

-- those of a kind do, with others that do
kind-tell : (kind : Kind) (kf : KindFields) (ts : List (ℕ × Tells)) → AllByRecursion TellsSome ts
    → AllByRecursion TellsSome (kind_tells kind kf ++ ts)
kind-tell kind kf ts all = (λ e. cc, (λ e. cc, (λ e. cc, all)))

-- all of them do
all-tell : (layout : TableLayout) → AllByRecursion TellsSome (tells layout)
all-tell layout =
    let rest : Kind → List (ℕ × Tells) = tells_of layout in
    let ser : List (ℕ × Tells) = rest Ser ++ [] in
    let sim : List (ℕ × Tells) = rest Sim ++ ser in
    let proc : List (ℕ × Tells) = rest Proc ++ sim in (
      λ e. cc,
      (
        λ e. cc,
        kind-tell Adc layout.adc proc
            (kind-tell Proc layout.proc sim (kind-tell Sim layout.sim ser (serial layout.ser))),
      ),
    )
  where
    serial : (o : Option KindFields) → AllByRecursion TellsSome (option_map_or (kind_tells Ser) o [] ++ [])
    serial None = tt
    serial (Some k) = kind-tell Ser k [] tt

-- where the positions of a kind stand among them
positions-in : (layout : TableLayout) (kind : Kind) (kf : KindFields) → fields_of layout kind ≡ Some kf
    → (i : ℕ) × (slice_get (tells layout) i ≡ Some (kf.positions, told.Positions kind kf.by_name))
positions-in layout Adc kf e =
    (4, ap (λ (k : KindFields). Some (k.positions, told.Positions Adc k.by_name)) (same_Some layout.adc kf e))
positions-in layout Proc kf e =
    (7, ap (λ (k : KindFields). Some (k.positions, told.Positions Proc k.by_name)) (same_Some layout.proc kf e))
positions-in layout Sim kf e =
    (10, ap (λ (k : KindFields). Some (k.positions, told.Positions Sim k.by_name)) (same_Some layout.sim kf e))
positions-in layout Ser kf e = (13, rw e refl)

-- ---- their dimensions tell the kind

-- the counters of two kinds whose positions have the same dimensions
same-counter : (a b : Bool) (frames m n : ℕ)
    → cond a (Of m ∷ Of frames ∷ []) (Of frames ∷ Of m ∷ []) ≡ cond b (Of n ∷ Of frames ∷ []) (Of frames ∷ Of n ∷ [])
    → (m ≡ frames → ⊥) → (n ≡ frames → ⊥) → m ≡ n
same-counter true true frames m n same apart other = cc
same-counter true false frames m n same apart other = let is : m ≡ frames = cc in absurd (apart is)
same-counter false true frames m n same apart other = let is : n ≡ frames = cc in absurd (other is)
same-counter false false frames m n same apart other = cc

-- the counter of a kind is not that of the frames
no-frames : (fields : List Field) (layout : TableLayout) → IsTableLayout fields layout → (kind : Kind)
    (kf : KindFields) → fields_of layout kind ≡ Some kf → kf.count ≡ layout.frames → ⊥
no-frames fields layout t kind kf e same =
    let count = count-told fields layout t kind kf e in
    let tells : told.Count kind ≡ told.Frames =
    sym count.2 ∙ ap (told_in layout) same ∙ frames-told layout in
    cc

-- two kinds with one counter are one
same-kind : (fields : List Field) (layout : TableLayout) → IsTableLayout fields layout → (kind other : Kind)
    (kf of : KindFields) → fields_of layout kind ≡ Some kf → fields_of layout other ≡ Some of
    → kf.count ≡ of.count → other ≡ kind
same-kind fields layout t kind other kf of e also same =
    let one = count-told fields layout t kind kf e in
    let two = count-told fields layout t other of also in
    let tells : told.Count other ≡ told.Count kind = sym two.2 ∙ ap (told_in layout) (sym same) ∙ one.2 in
    cc

-- positions have two dimensions
two-counts : (frames : ℕ) (kf : KindFields) → (c d : Count) × (position_counts frames kf ≡ c ∷ d ∷ [])
two-counts frames kf = by kf.by_name
  where
    by : (b : Bool) → (c d : Count)
        × (cond b (Of kf.count ∷ Of frames ∷ []) (Of frames ∷ Of kf.count ∷ []) ≡ c ∷ d ∷ [])
    by true = (Of kf.count, Of frames, refl)
    by false = (Of frames, Of kf.count, refl)

is-positions : (fields : List Field) (layout : TableLayout) → IsTableLayout fields layout → (kind : Kind)
    (kf : KindFields) → fields_of layout kind ≡ Some kf → (j : ℕ) (f : Field) → f.form ≡ Number Eight
    → f.counts ≡ position_counts layout.frames kf → (u : Tells) → Shape layout j f u
    → u ≡ told.Positions kind kf.by_name
is-positions fields layout t kind kf e j f form counts told.Nothing s = absurd s
is-positions fields layout t kind kf e j f form counts told.Frames s =
    let two = two-counts layout.frames kf in
    let single = s.1.single in
    let listed = two.2 in
    cc
is-positions fields layout t kind kf e j f form counts told.Heads s =
    let two = two-counts layout.frames kf in
    let one = s.1 in
    let listed = two.2 in
    cc
is-positions fields layout t kind kf e j f form counts (told.Count other) (of, also, (same, counter)) =
    let two = two-counts layout.frames kf in
    let single = counter.single in
    let listed = two.2 in
    cc
is-positions fields layout t kind kf e j f form counts (told.Names other) (of, also, (text, names)) = cc
is-positions fields layout t kind kf e j f form counts (told.Positions other by_name) (of, also, (list, same)) =
    let apart = no-frames fields layout t kind kf e in
    let different = no-frames fields layout t other of also in
    let counter : kf.count ≡ of.count =
    same-counter kf.by_name of.by_name layout.frames kf.count of.count (sym counts ∙ list.1) apart different in
    let kinds : other ≡ kind = same-kind fields layout t kind other kf of e also counter in
    let fields_are : of ≡ kf =
    same_Some of kf (sym also ∙ ap (fields_of layout) kinds ∙ e) in
    let by_names : by_name ≡ kf.by_name = sym same ∙ ap (λ (k : KindFields). k.by_name) fields_are in
    λ i. told.Positions (kinds i) (by_names i)

-- what is known of a kind that is listed
kind-layout : (fields : List Field) (layout : TableLayout) → IsTableLayout fields layout → (kind : Kind)
    (kf : KindFields) → fields_of layout kind ≡ Some kf → IsKindLayout fields layout.frames kf
kind-layout fields layout t Adc kf e = subst (IsKindLayout fields layout.frames) (same_Some layout.adc kf e) t.adc
kind-layout fields layout t Proc kf e = subst (IsKindLayout fields layout.frames) (same_Some layout.proc kf e) t.proc
kind-layout fields layout t Sim kf e = subst (IsKindLayout fields layout.frames) (same_Some layout.sim kf e) t.sim
kind-layout fields layout t Ser kf e =
    subst (λ (o : Option KindFields). IfSome o (IsKindLayout fields layout.frames)) e t.ser

-- The positions of a kind.
pub positions-told : (fields : List Field) (layout : TableLayout) → IsTableLayout fields layout → (kind : Kind)
    (kf : KindFields) → fields_of layout kind ≡ Some kf → (f : Field) × (slice_get fields kf.positions ≡ Some f)
    × (told_in layout kf.positions ≡ told.Positions kind kf.by_name)
positions-told fields layout t kind kf e =
    let s = (kind-layout fields layout t kind kf e).positions in
    let at = positions-in layout kind kf e in (
      s.field,
      s.is,
      elim (shape-at fields layout t kf.positions s.field s.is) [
        | inl nothing ↦ absurd (first-some (tells layout) at.0 kf.positions (told.Positions kind kf.by_name) at.1
            (all-tell layout) nothing)
        | inr shape ↦ is-positions fields layout t kind kf e kf.positions s.field s.form_is s.counts_are
            (told_in layout kf.positions) shape
      ],
    )
