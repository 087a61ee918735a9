-- The values of a canonical contents table list what it was built from, and so the table is good.
use Rattle.std.proofs.Common.{◌≡◌, ℕ, Bool, true, false, ◌||◌, Option, Some, None, List, [], ◌∷◌, ◌++◌, length}
use Rattle.std.proofs.Common.{map, refl, sym, ap, ◌∙◌, append_assoc}
use Rattle.std.specs.Prelude.{slice_get, IfSome}
use Rattle.std.specs.List.{list_any, list_all}
use Rattle.std.specs.Option.{option_map, option_map_or}
use Rattle.std.specs.Str.{bytes_eq}
use Rattle.std.proofs.lemmas.Bool.{and_from}
use Rattle.std.proofs.lemmas.Slice.Eq.{bytes_eq-Decides}
use Rattle.layout_plan.specs.declared.fields.Field.{Field}
use Rattle.layout_plan.specs.Body.{number_of}
use Rattle.contents_table.specs.declared.kind.Kind.{Kind}
use Rattle.contents_table.specs.declared.kind.Kind.TheVariants.{Adc, Proc, Sim, Ser}
use Rattle.contents_table.specs.declared.fit.KindFields.{KindFields}
use Rattle.contents_table.specs.declared.fit.TableLayout.{TableLayout}
use Rattle.contents_table.specs.declared.names.Listed.{Listed}
use Rattle.contents_table.specs.declared.writing.Tells.{Tells}
use Rattle.contents_table.specs.declared.writing.Tells.TheVariants as told
use Rattle.contents_table.specs.Fit.{fields_of}
use Rattle.contents_table.specs.Built.{Built, listed_of, name_in, are_distinct}
use Rattle.contents_table.specs.Told.{positions_of, table_values}
use Rattle.contents_table.specs.Tells.{told_in, field_value, AreTold}
use Rattle.contents_table.specs.Listed.{texts_of, numbers_of, number_at, texts_at, numbers_at, kind_table}
use Rattle.contents_table.specs.Listed.{table_of, is_listed, IsGoodKind, IsGoodOf, IsGood}
use Rattle.contents_table.proofs.TellingFields.{frames-told, heads-told, names-told}
use Rattle.canonical_laws.proofs.BuiltFrames.{IsBuilt}
use Rattle.canonical_laws.proofs.TableValues.{value-at}
use Rattle.canonical_laws.proofs.TablePositions.{positions-told}

-- ---- each name is listed

-- a list has what stands in it
any-in : (test : List ℕ → Bool) (front : List (List ℕ)) (name : List ℕ) (more : List (List ℕ)) → test name ≡ true
    → list_any test (front ++ name ∷ more) ≡ true
any-in test [] name more here = ap (λ b. b || list_any test more) here
any-in test (other ∷ front) name more here =
    elim (test other) as (λ b. (b || list_any test (front ++ name ∷ more)) ≡ true) [
      | true ↦ refl
      | false ↦ any-in test front name more here
    ]

-- the names behind some of the list are all in it
listed-from : (names front : List (List ℕ)) (listed : List Listed) → names ≡ front ++ map name_in listed
    → list_all (is_listed names) listed ≡ true
listed-from names front [] is = refl
listed-from names front (l ∷ more) is =
    let here : list_any (bytes_eq l.name) names ≡ true =
    ap (list_any (bytes_eq l.name)) is
    ∙ any-in (bytes_eq l.name) front l.name (map name_in more) ((bytes_eq-Decides l.name l.name).1 refl) in
    let split : front ++ (l.name ∷ map name_in more) ≡ (front ++ l.name ∷ []) ++ map name_in more =
    sym (append_assoc front (l.name ∷ []) (map name_in more)) in
    and_from (is_listed names l) (list_all (is_listed names) more) here
    (listed-from names (front ++ l.name ∷ []) more (is ∙ split))

all-listed : (listed : List Listed) → list_all (is_listed (map name_in listed)) listed ≡ true
all-listed listed = listed-from (map name_in listed) [] listed refl

-- ---- what the values list

-- What is known of the fields and the values of a table.
pub record IsTold (fields : List Field) (layout : TableLayout) (built : Built) : Type 0 where
  pub told : AreTold fields layout built (map number_of (table_values layout fields built))
  pub size : ℕ
  pub is : IsBuilt size built

-- the value of a field that tells this
value-told : (fields : List Field) (layout : TableLayout) (built : Built) (u : Tells) (k : ℕ) (f : Field)
    → IsTold fields layout built → slice_get fields k ≡ Some f → told_in layout k ≡ u
    → slice_get (table_values layout fields built) k
    ≡ Some (field_value (map number_of (table_values layout fields built)) built u f)
value-told fields layout built u k f t is tells =
    let numbers : List ℕ = map number_of (table_values layout fields built) in
    value-at fields layout built numbers t.told k f is ∙ ap (λ u. Some (field_value numbers built u f)) tells

-- the number of frames, and their places
pub frames-back : (fields : List Field) (layout : TableLayout) (built : Built) → IsTold fields layout built
    → number_at (table_values layout fields built) layout.frames ≡ length built.heads
frames-back fields layout built t =
    let s = t.told.fit.frames.1 in
    ap (λ o. option_map_or number_of o 0)
    (value-told fields layout built told.Frames layout.frames s.field t s.is (frames-told layout))

heads-back : (fields : List Field) (layout : TableLayout) (built : Built) → IsTold fields layout built
    → numbers_at (table_values layout fields built) layout.heads ≡ built.heads
heads-back fields layout built t =
    let h = heads-told fields layout t.told.fit in
    ap (λ o. option_map_or numbers_of o []) (value-told fields layout built told.Heads layout.heads h.0 t h.1 h.3)

-- the names of a kind, and their positions
names-back : (fields : List Field) (layout : TableLayout) (built : Built) → IsTold fields layout built → (kind : Kind)
    (kf : KindFields) → fields_of layout kind ≡ Some kf
    → texts_at (table_values layout fields built) kf.names ≡ map name_in (listed_of built kind)
names-back fields layout built t kind kf e =
    let h = names-told fields layout t.told.fit kind kf e in
    ap (λ o. option_map_or texts_of o []) (value-told fields layout built (told.Names kind) kf.names h.0 t h.1 h.3)

positions-back : (fields : List Field) (layout : TableLayout) (built : Built) → IsTold fields layout built
    → (kind : Kind) (kf : KindFields) → fields_of layout kind ≡ Some kf
    → numbers_at (table_values layout fields built) kf.positions
    ≡ positions_of kf.by_name (length built.heads) (listed_of built kind) (map name_in (listed_of built kind))
positions-back fields layout built t kind kf e =
    let h = positions-told fields layout t.told.fit kind kf e in
    ap (λ o. option_map_or numbers_of o [])
    (value-told fields layout built (told.Positions kind kf.by_name) kf.positions h.0 t h.1 h.2)

-- ---- the table is good

kind-good : (fields : List Field) (layout : TableLayout) (built : Built) → IsTold fields layout built → (kind : Kind)
    (kf : KindFields) → fields_of layout kind ≡ Some kf
    → IsGoodKind (listed_of built kind) (kind_table (table_values layout fields built) layout.frames kf)
kind-good fields layout built t kind kf e =
    let listed : List Listed = listed_of built kind in
    let frames = frames-back fields layout built t in
    let names = names-back fields layout built t kind kf e in
    record {
      distinct = ap are_distinct names ∙ (t.is.names kind).distinct;
      whole = ap (λ ns. list_all (is_listed ns) listed) names ∙ all-listed listed;
      positions = positions-back fields layout built t kind kf e
          ∙ (λ i. positions_of kf.by_name (sym frames i) listed (sym names i));
    }

-- What is read of the values is good.
pub table-good : (fields : List Field) (layout : TableLayout) (built : Built) → IsTold fields layout built
    → IsGood (table_of layout (table_values layout fields built)) built
table-good fields layout built t = record { heads = heads-back fields layout built t; kinds = kinds }
  where
    serial : (o : Option KindFields) → layout.ser ≡ o
        → IfSome (option_map (kind_table (table_values layout fields built) layout.frames) o) (IsGoodKind built.ser)
    serial None e = tt
    serial (Some kf) e = kind-good fields layout built t Ser kf e

    kinds : (kind : Kind) → IsGoodOf (table_of layout (table_values layout fields built)) built kind
    kinds Adc = kind-good fields layout built t Adc layout.adc refl
    kinds Proc = kind-good fields layout built t Proc layout.proc refl
    kinds Sim = kind-good fields layout built t Sim layout.sim refl
    kinds Ser = serial layout.ser refl
