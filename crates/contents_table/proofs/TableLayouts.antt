-- What the fields of a fit layout are.
use Rattle.std.proofs.Common.{◌≡◌, ◌↔◌, ℕ, Bool, true, false, ◌&&◌, ◌||◌, cond, List, [], ◌∷◌, map, All, Option, Some}
use Rattle.std.proofs.Common.{None, refl, sym, ap, ◌∙◌, subst, arith}
use Rattle.std.specs.Prelude.{◌≢◌, not, is_some, slice_get, IfSome, IsSome, IsTrue}
use Rattle.std.specs.List.{list_all}
use Rattle.std.specs.Option.{option_map_or}
use Rattle.std.specs.Str.{bytes_eq}
use Rattle.std.proofs.lemmas.Bool.{false≢true, and_parts, not-true, both_ways}
use Rattle.std.proofs.lemmas.List.Elements.{All-cons}
use Rattle.std.proofs.lemmas.List.Kept.{AllPairs-cons}
use Rattle.std.proofs.lemmas.Option.{same_Some}
use Rattle.std.proofs.lemmas.Slice.Eq.{bytes_eq-Decides}
use Rattle.scalar_types.specs.declared.Width.TheVariants.{Eight}
use Rattle.type_text.specs.declared.types.Base.TheVariants.{Int8U, Str}
use Rattle.dictionary.specs.declared.entries.Element.{Element}
use Rattle.dictionary.specs.declared.entries.Entry.{Entry}
use Rattle.layout_plan.specs.declared.fields.Form.TheVariants.{Number}
use Rattle.layout_plan.specs.declared.fields.Count.TheVariants.{Of}
use Rattle.layout_plan.specs.declared.fields.Field.{Field}
use Rattle.layout_plan.specs.Layout.{layout_of}
use Rattle.file_grammar.specs.Closing.{is_count, is_size, has_named, field_named}
use Rattle.contents_table.specs.declared.kind.Kind.{Kind}
use Rattle.contents_table.specs.declared.kind.Kind.TheVariants.{Adc, Proc, Sim, Ser}
use Rattle.contents_table.specs.declared.fit.KindFields.{KindFields}
use Rattle.contents_table.specs.declared.fit.TableLayout.{TableLayout}
use Rattle.contents_table.specs.Channels.{is_text}
use Rattle.contents_table.specs.Fit.{count_field, names_field, positions_field, frames_field, heads_field, has_list}
use Rattle.contents_table.specs.Fit.{has_positions_by_name, has_positions_by_frame, lists, lacks, has_table, is_fit}
use Rattle.contents_table.specs.Fit.{kind_fields, table_layout, IsListField, IsKindLayout, IsTableLayout, AreDistinct}
use Rattle.contents_table.specs.Fit.{IsWideField}
use Rattle.contents_table.proofs.FirstNamed.{named-at, number-is}
use Rattle.contents_table.proofs.NamedLists.{sizes, texts}
use Rattle.contents_table.proofs.LayoutFields.{number-field, wide-field, list-field, counter-named, AreCounters}

-- ---- the fields of a kind

-- what a listed kind has
record IsListed (es : List Element) (kind : Kind) : Type 0 where
  pub count : has_named es (count_field kind) is_count ≡ true
  pub names : has_list es (names_field kind) is_text (count_field kind ∷ []) ≡ true
  pub positions : (has_positions_by_name es kind || has_positions_by_frame es kind) ≡ true

listed-is : (es : List Element) (kind : Kind) → lists es kind ≡ true → IsListed es kind
listed-is es kind t =
    let a = and_parts (has_named es (count_field kind) is_count)
    (has_list es (names_field kind) is_text (count_field kind ∷ [])
    && (has_positions_by_name es kind || has_positions_by_frame es kind)) t in
    let b = and_parts (has_list es (names_field kind) is_text (count_field kind ∷ []))
    (has_positions_by_name es kind || has_positions_by_frame es kind) a.1 in
    record { count = a.0; names = b.0; positions = b.1 }

module _ (es : List Element) (fs : List Field) (layout : layout_of es ≡ Some fs)
    (frames : has_named es frames_field is_count ≡ true) where
  kind-layout : (kind : Kind) → IsListed es kind
      → IsKindLayout fs (field_named es frames_field) (kind_fields es kind)
  kind-layout kind listed = record {
    count = number-field es fs (count_field kind) layout listed.count;
    names = list-field es fs (names_field kind) is_text Str (count_field kind ∷ []) layout texts
        (listed.count, tt) listed.names;
    positions = by (has_positions_by_name es kind) refl listed.positions;
  }
    where
      count : ℕ
      count = field_named es (count_field kind)

      number : ℕ
      number = field_named es frames_field

      by : (b : Bool) → has_positions_by_name es kind ≡ b → (b || has_positions_by_frame es kind) ≡ true
          → IsListField fs (field_named es (positions_field kind)) (Number Eight)
          (cond b (Of count ∷ Of number ∷ []) (Of number ∷ Of count ∷ []))
      by true is t =
          list-field es fs (positions_field kind) is_size Int8U (count_field kind ∷ frames_field ∷ []) layout
          sizes (listed.count, (frames, tt)) is
      by false is t =
          list-field es fs (positions_field kind) is_size Int8U (frames_field ∷ count_field kind ∷ []) layout
          sizes (frames, (listed.count, tt)) t

-- ---- fields of different names

numbers-apart : (es : List Element) (a b : List ℕ) → has_named es a is_count ≡ true
    → has_named es b is_count ≡ true → bytes_eq a b ≡ false → field_named es a ≢ field_named es b
numbers-apart es a b has_a has_b apart same =
    let first = counter-named es a has_a in
    let second = counter-named es b has_b in
    let at_a = named-at es a first.0.0 first.0.1 first.1 in
    let at_b = named-at es b second.0.0 second.0.1 second.1 in
    let places : first.0.0 ≡ second.0.0 =
    number-is es a first.0 first.1 ∙ same ∙ sym (number-is es b second.0 second.1) in
    let elements : first.0.1 ≡ second.0.1 =
    same_Some first.0.1 second.0.1 (sym at_a.0 ∙ ap (slice_get es) places ∙ at_b.0) in
    let names : a ≡ b =
    (bytes_eq-Decides a first.0.1.name).0 at_a.1 ∙ ap (λ (e : Element). e.name) elements
    ∙ sym ((bytes_eq-Decides b second.0.1.name).0 at_b.1) in
    both_ways (bytes_eq a b) apart ((bytes_eq-Decides a b).1 names)

-- no two of these names are the same
abbrev differs : List ℕ → List ℕ → Bool
differs name other = not (bytes_eq name other)

abbrev are_apart : List (List ℕ) → Bool
are_apart [] = true
are_apart (name ∷ names) = list_all (differs name) names && are_apart names

numbers-others : (es : List Element) (name : List ℕ) (names : List (List ℕ))
    → has_named es name is_count ≡ true → AreCounters es names → list_all (differs name) names ≡ true
    → All (λ k. field_named es name ≢ k) (map (field_named es) names)
numbers-others es name [] has counters t = λ k d lt. absurd (omega arith)
numbers-others es name (other ∷ names) has counters t =
    let both = and_parts (differs name other) (list_all (differs name) names) t in
    All-cons (λ k. field_named es name ≢ k) (field_named es other) (map (field_named es) names)
    (numbers-apart es name other has counters.0 (not-true (bytes_eq name other) both.0))
    (numbers-others es name names has counters.1 both.1)

numbers-distinct : (es : List Element) (names : List (List ℕ)) → AreCounters es names → are_apart names ≡ true
    → AreDistinct (map (field_named es) names)
numbers-distinct es [] counters t = λ i j d lt under. absurd (omega arith)
numbers-distinct es (name ∷ names) counters t =
    let both = and_parts (list_all (differs name) names) (are_apart names) t in
    AllPairs-cons (λ x y. x ≢ y) (field_named es name) (map (field_named es) names)
    (numbers-others es name names counters.0 counters.1 both.0) (numbers-distinct es names counters.1 both.1)

-- ---- all fields

-- what a layout with the fields of a table has
record HasTable (es : List Element) : Type 0 where
  pub frames : has_named es frames_field is_count ≡ true
  pub heads : has_list es heads_field is_size (frames_field ∷ []) ≡ true
  pub adc : IsListed es Adc
  pub proc : IsListed es Proc
  pub sim : IsListed es Sim

has-table : (es : List Element) → has_table es ≡ true → HasTable es
has-table es t =
    let heads = has_list es heads_field is_size (frames_field ∷ []) in
    let three = list_all (lists es) (Adc ∷ Proc ∷ Sim ∷ []) in
    let serial = lists es Ser || lacks es Ser in
    let a = and_parts (has_named es frames_field is_count) (heads && (three && serial)) t in
    let b = and_parts heads (three && serial) a.1 in
    let c = and_parts three serial b.1 in
    let d = and_parts (lists es Adc) (lists es Proc && (lists es Sim && true)) c.0 in
    let e = and_parts (lists es Proc) (lists es Sim && true) d.1 in
    let f = and_parts (lists es Sim) true e.1 in
    record {
      frames = a.0;
      heads = b.0;
      adc = listed-is es Adc d.0;
      proc = listed-is es Proc e.0;
      sim = listed-is es Sim f.0;
    }

-- the numbers that count in a table, where serial data are listed or not
serial-counters : (es : List Element) → HasTable es → (listed : Bool) → lists es Ser ≡ listed
    → AreDistinct (field_named es frames_field ∷ field_named es (count_field Adc)
    ∷ field_named es (count_field Proc) ∷ field_named es (count_field Sim)
    ∷ option_map_or (λ (k : KindFields). k.count ∷ []) (cond listed (Some (kind_fields es Ser)) None) [])
serial-counters es has true t =
    numbers-distinct es
    (frames_field ∷ count_field Adc ∷ count_field Proc ∷ count_field Sim ∷ count_field Ser ∷ [])
    (has.frames, (has.adc.count, (has.proc.count, (has.sim.count, ((listed-is es Ser t).count, tt))))) refl
serial-counters es has false t =
    numbers-distinct es (frames_field ∷ count_field Adc ∷ count_field Proc ∷ count_field Sim ∷ [])
    (has.frames, (has.adc.count, (has.proc.count, (has.sim.count, tt)))) refl

-- each of them has 4 or 8 bytes
all-wide : (es : List Element) (fs : List Field) (names : List (List ℕ)) → layout_of es ≡ Some fs
    → AreCounters es names → All (IsWideField fs) (map (field_named es) names)
all-wide es fs [] layout counters = λ k d lt. absurd (omega arith)
all-wide es fs (name ∷ names) layout counters =
    All-cons (IsWideField fs) (field_named es name) (map (field_named es) names)
    (wide-field es fs name layout counters.0) (all-wide es fs names layout counters.1)

serial-wide : (es : List Element) (fs : List Field) → layout_of es ≡ Some fs → HasTable es → (listed : Bool)
    → lists es Ser ≡ listed
    → All (IsWideField fs) (field_named es frames_field ∷ field_named es (count_field Adc)
    ∷ field_named es (count_field Proc) ∷ field_named es (count_field Sim)
    ∷ option_map_or (λ (k : KindFields). k.count ∷ []) (cond listed (Some (kind_fields es Ser)) None) [])
serial-wide es fs layout has true t =
    all-wide es fs
    (frames_field ∷ count_field Adc ∷ count_field Proc ∷ count_field Sim ∷ count_field Ser ∷ []) layout
    (has.frames, (has.adc.count, (has.proc.count, (has.sim.count, ((listed-is es Ser t).count, tt)))))
serial-wide es fs layout has false t =
    all-wide es fs (frames_field ∷ count_field Adc ∷ count_field Proc ∷ count_field Sim ∷ []) layout
    (has.frames, (has.adc.count, (has.proc.count, (has.sim.count, tt))))

serial-layout : (es : List Element) (fs : List Field) → layout_of es ≡ Some fs → HasTable es → (listed : Bool)
    → lists es Ser ≡ listed → IfSome (cond listed (Some (kind_fields es Ser)) None)
    (IsKindLayout fs (field_named es frames_field))
serial-layout es fs layout has true t = kind-layout es fs layout has.frames Ser (listed-is es Ser t)
serial-layout es fs layout has false t = tt

-- the fields of a table in a readable layout are what they have to be
pub table-layout : (es : List Element) (fs : List Field) → layout_of es ≡ Some fs → has_table es ≡ true
    → IsTableLayout fs (table_layout es)
table-layout es fs layout t =
    let has = has-table es t in
    record {
      frames = number-field es fs frames_field layout has.frames;
      heads = list-field es fs heads_field is_size Int8U (frames_field ∷ []) layout sizes (has.frames, tt)
          has.heads;
      adc = kind-layout es fs layout has.frames Adc has.adc;
      proc = kind-layout es fs layout has.frames Proc has.proc;
      sim = kind-layout es fs layout has.frames Sim has.sim;
      ser = serial-layout es fs layout has (lists es Ser) refl;
      counters = serial-counters es has (lists es Ser) refl;
      wide = serial-wide es fs layout has (lists es Ser) refl;
    }

-- ---- the answer

-- what is told of an entry with this layout
pub record IsFitTold (e : Entry) (fs : List Field) (told : Option TableLayout) : Type 0 where
  pub fit : IsSome told ↔ IsTrue (is_fit e)
  pub fields : IfSome told (λ layout. layout ≡ table_layout e.elements)
  pub sound : IfSome told (IsTableLayout fs)

pub fit-told : (e : Entry) (fs : List Field) (es : List Element) (told : Option TableLayout) → es ≡ e.elements
    → layout_of e.elements ≡ Some fs → told ≡ cond (has_table es) (Some (table_layout es)) None
    → IsFitTold e fs told
fit-told e fs es told same layout is =
    by (has_table e.elements) refl (is ∙ ap (λ es. cond (has_table es) (Some (table_layout es)) None) same)
  where
    readable : is_some (layout_of e.elements) ≡ true
    readable = ap is_some layout

    by : (b : Bool) → has_table e.elements ≡ b → told ≡ cond b (Some (table_layout e.elements)) None
        → IsFitTold e fs told
    by true t is =
        subst (IsFitTold e fs) (sym is) (record {
          fit = (λ some. λ i. readable i && t i, λ fit. refl);
          fields = refl;
          sound = table-layout e.elements fs layout t;
        })
    by false t is =
        subst (IsFitTold e fs) (sym is) (record {
          fit = (
            λ some. absurd (false≢true some),
            λ fit. absurd (both_ways (has_table e.elements) t
                (and_parts (is_some (layout_of e.elements)) (has_table e.elements) fit).1),
          );
          fields = tt;
          sound = tt;
        })
