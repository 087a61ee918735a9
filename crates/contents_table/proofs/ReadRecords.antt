-- Records that read by the layouts of a dictionary: their entries, and their labels.
use Rattle.std.proofs.Common.{◌≡◌, ℕ, Bool, true, false, cond, List, [], ◌∷◌, map, find, Option, Some, None}
use Rattle.std.proofs.Common.{IsSomeAnd, refl, sym, ap, ◌∙◌, subst, eq-eqb}
use Rattle.std.specs.Prelude.{◌==◌, option_and_then}
use Rattle.std.specs.Option.{option_map, option_map_or}
use Rattle.std.specs.Result.{result_ok}
use Rattle.std.specs.Str.{bytes_eq}
use Rattle.std.proofs.lemmas.Bool.{eqb-true, ne_eqb, false≢true}
use Rattle.std.proofs.lemmas.Option.{same_Some, none-some, option_and_then_some}
use Rattle.std.proofs.lemmas.Slice.Eq.{bytes_eq-Decides}
use Rattle.scalar_types.specs.declared.Order.{Order}
use Rattle.record_values.specs.declared.values.Value.{Value}
use Rattle.dictionary.specs.declared.entries.Entry.{Entry}
use Rattle.dictionary.specs.Dictionary.{entry_of, class_named, IsDictionary}
use Rattle.layout_plan.specs.declared.fields.Field.{Field}
use Rattle.layout_plan.specs.Body.{IsBody}
use Rattle.layout_plan.specs.Layout.{layout_of, IsLayout}
use Rattle.layout_plan.specs.Plans.{plan_of}
use Rattle.layout_plan.specs.Written.{with_sums_cleared}
use Rattle.layout_plan.proofs.BodyLemmas.{body_in-again}
use Rattle.layout_plan.proofs.LayoutLemmas.{layout_of-IsLayout}
use Rattle.link_graph.specs.Collected.{Bodied}
use Rattle.link_graph.specs.Graph.{Layouts, ReadsBy}
use Rattle.file_grammar.specs.Record.{Reading, layout_in, reading_by}
use Rattle.frame_content.specs.Labels.{Label, label_by, unlinked, printed_entry}
use Rattle.frame_content.specs.Frames.{reading_in, values_in, label_of}
use Rattle.contents_table.specs.declared.layouts.ChannelLayouts.{ChannelLayouts}
use Rattle.contents_table.specs.Layouts.{AreOf, elements_named}

-- the plans are those of a dictionary
pub record ArePlansOf (held : List Entry) (plans : Layouts) : Type 0 where
  pub sound : IsDictionary held
  pub plans_are : (class : ℕ) → plan_of plans class ≡ layout_in held class

pub plans-of : (held : List Entry) (plans : Layouts) (layouts : ChannelLayouts) → AreOf held plans layouts
    → ArePlansOf held plans
plans-of held plans layouts are = record { sound = are.sound; plans_are = are.plans_are }

-- what a record that reads holds
pub record IsReadRecord (held : List Entry) (order : Order) (r : Bodied) : Type 0 where
  pub entry : Entry
  pub there : entry_of held r.node.class ≡ Some entry
  pub fields : List Field
  pub layout : layout_of entry.elements ≡ Some fields
  pub layout_is : layout_in held r.node.class ≡ Some fields
  pub sound : IsLayout fields
  pub values : List Value
  pub tail : List ℕ
  pub body : IsBody order fields values tail r.body
  pub values_are : values_in order held r ≡ values
  pub label_is : label_of order held r
      ≡ record { entry = printed_entry entry; values = with_sums_cleared fields (map unlinked values) }

pub read-record : (held : List Entry) (plans : Layouts) (order : Order) (r : Bodied) → ArePlansOf held plans
    → ReadsBy plans order r → IsReadRecord held order r
read-record held plans order r are reads =
    let layout_is : layout_in held r.node.class ≡ Some reads.fields =
    sym (are.plans_are r.node.class) ∙ reads.plan in
    option_and_then_some (λ (e : Entry). layout_of e.elements) (entry_of held r.node.class) reads.fields layout_is
    (λ entry there layout. made layout_is entry there layout)
  where
    made : layout_in held r.node.class ≡ Some reads.fields → (entry : Entry)
        → entry_of held r.node.class ≡ Some entry
        → layout_of entry.elements ≡ Some reads.fields → IsReadRecord held order r
    made layout_is entry there layout =
        let sound = layout_of-IsLayout entry.elements reads.fields layout
        (are.sound.entries r.node.class entry there).short in
        let values : List Value = reads.reads.0 in
        let tail : List ℕ = reads.reads.1 in
        let read : reading_in order held r ≡ Some (record { fields = reads.fields; values = values; tail = tail }) =
        ap (option_and_then (reading_by order r.body)) layout_is
        ∙ ap (λ found. option_map (λ (found : List Value × List ℕ). record {
          fields = reads.fields;
          values = found.0;
          tail = found.1;
        }) (result_ok found)) (body_in-again order reads.fields sound.sound r.body values tail reads.reads.2) in
        record {
          entry = entry;
          there = there;
          fields = reads.fields;
          layout = layout;
          layout_is = layout_is;
          sound = sound;
          values = values;
          tail = tail;
          body = reads.reads.2;
          values_are = ap (λ o. option_map_or (λ (reading : Reading). reading.values) o []) read;
          label_is = λ i. label_by (there i) (read i);
        }

-- ---- classes and names

-- what is found passes
pub find-passes : {X : Type 0} (p : X → Bool) (xs : List X) (x : X) → find p xs ≡ Some x → p x ≡ true
find-passes p [] x e = absurd (none-some x e)
find-passes p (y ∷ ys) x e = by (p y) refl (find-passes p ys x) e
  where
    by : (b : Bool) → p y ≡ b → (find p ys ≡ Some x → p x ≡ true) → cond b (Some y) (find p ys) ≡ Some x
        → p x ≡ true
    by true passes later e = ap p (sym (same_Some y x e)) ∙ passes
    by false passes later e = later e

-- an entry is found by its class
pub entry-class : (held : List Entry) (class : ℕ) (e : Entry) → entry_of held class ≡ Some e → class ≡ e.class
entry-class held class e there =
    eqb-true class e.class (find-passes (λ (e : Entry). class == e.class) held e there)

-- whether a class has the name
abbrev pub has_class : ℕ → Option ℕ → Bool
has_class class named = option_map_or (λ n. class == n) named false

pub class-has : (class : ℕ) (named : Option ℕ) → has_class class named ≡ true → named ≡ Some class
class-has class None e = absurd (false≢true e)
class-has class (Some n) e = ap Some (sym (eqb-true class n e))

-- the record of a class has a name exactly where the name is of the class
pub named-class : (held : List Entry) (order : Order) (r : Bodied) (name : List ℕ) → IsDictionary held
    → IsReadRecord held order r
    → bytes_eq name (label_of order held r).entry.name ≡ has_class r.node.class (class_named held name)
named-class held order r name sound read =
    ap (λ (l : Label). bytes_eq name l.entry.name) read.label_is ∙ by (bytes_eq name read.entry.name) refl
  where
    named : bytes_eq name read.entry.name ≡ true → class_named held name ≡ Some r.node.class
    named is =
        ap (class_named held) ((bytes_eq-Decides name read.entry.name).0 is)
        ∙ (sound.entries r.node.class read.entry read.there).name
        ∙ ap Some (sym (entry-class held r.node.class read.entry read.there))

    other : bytes_eq name read.entry.name ≡ false → (o : Option ℕ) → class_named held name ≡ o
        → false ≡ has_class r.node.class o
    other is None found = refl
    other is (Some class) found = sym (ne_eqb r.node.class class apart)
      where
        same : r.node.class ≡ class → IsSomeAnd (entry_of held class) (λ e. e.name ≡ name)
            → read.entry.name ≡ name
        same e there =
            subst (λ o. IsSomeAnd o (λ (e : Entry). e.name ≡ name))
            (ap (entry_of held) (sym e) ∙ read.there) there

        apart : r.node.class ≡ class → ⊥
        apart e =
            false≢true (sym is ∙ (bytes_eq-Decides name read.entry.name).1
            (sym (same e (sound.names name class found))))

    by : (b : Bool) → bytes_eq name read.entry.name ≡ b → b ≡ has_class r.node.class (class_named held name)
    by true is = sym (ap (has_class r.node.class) (named is) ∙ eq-eqb r.node.class r.node.class refl)
    by false is = other is (class_named held name) refl

-- the elements of a record are those of its structure
pub elements-record : (held : List Entry) (order : Order) (r : Bodied) (name : List ℕ)
    (read : IsReadRecord held order r)
    → class_named held name ≡ Some r.node.class → elements_named held name ≡ Some read.entry.elements
elements-record held order r name read named =
    ap (λ o. option_map (λ (e : Entry). e.elements) (option_and_then (entry_of held) o)) named
    ∙ ap (option_map (λ (e : Entry). e.elements)) read.there
