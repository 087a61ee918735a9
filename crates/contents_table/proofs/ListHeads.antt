-- The heads of the lists of channels, and what hangs on a channel, by the layouts of a dictionary.
use Rattle.std.proofs.Common.{◌≡◌, ℕ, Bool, true, false, cond, List, [], ◌∷◌, map, Option, Some, None, IfSome}
use Rattle.std.proofs.Common.{refl, sym, ap, ◌∙◌, subst, ◌+◌}
use Rattle.std.specs.Prelude.{option_and_then, slice_get, All}
use Rattle.std.specs.Option.{option_map}
use Rattle.std.specs.Str.{bytes_eq}
use Rattle.std.proofs.lemmas.Bool.{false≢true}
use Rattle.std.proofs.lemmas.Option.{none-some, same_Some, option_and_then_some, cond_some}
use Rattle.type_text.specs.declared.types.Base.{Base}
use Rattle.type_text.specs.declared.types.Base.TheVariants.{Ptr, Str}
use Rattle.dictionary.specs.declared.entries.Element.{Element}
use Rattle.dictionary.specs.declared.entries.Entry.{Entry}
use Rattle.dictionary.specs.Dictionary.{entry_of, class_named, IsDictionary}
use Rattle.dictionary.specs.Named.{first_named}
use Rattle.layout_plan.specs.declared.fields.Form.{Form}
use Rattle.layout_plan.specs.declared.fields.Form.TheVariants.{Link, Text}
use Rattle.layout_plan.specs.Layout.{form_of}
use Rattle.layout_plan.specs.Lent.{IsSingleField, IsLinkField}
use Rattle.layout_plan.specs.Plans.{plan_of}
use Rattle.link_graph.specs.Collected.{Bodied, Collected}
use Rattle.link_graph.specs.Graph.{Layouts, ReadsBy}
use Rattle.file_grammar.specs.Closing.{single_base, is_single}
use Rattle.frame_content.specs.Labels.{Label, printed_element}
use Rattle.frame_content.specs.Frames.{Row, frame_of, label_at}
use Rattle.contents_table.specs.declared.kind.Kind.{Kind}
use Rattle.contents_table.specs.declared.kind.Kind.TheVariants.{Adc, Proc, Sim, Ser}
use Rattle.contents_table.specs.declared.layouts.Head.{Head}
use Rattle.contents_table.specs.declared.layouts.ListLayout.{ListLayout}
use Rattle.contents_table.specs.declared.layouts.ChannelLayouts.{ChannelLayouts}
use Rattle.contents_table.specs.Channels.{structure_of, is_link_to, is_link, is_text, head_field, number_where}
use Rattle.contents_table.specs.Channels.{field_where}
use Rattle.contents_table.specs.Channels.{next_field, name_field, target, head}
use Rattle.contents_table.specs.Layouts.{AreOf, elements_named, head_to, head_in, upper_of, list_by, list_of}
use Rattle.contents_table.specs.Layouts.{list_in}
use Rattle.contents_table.specs.Layouts.{layouts_of, HasPlainLink, IsNamed}
use Rattle.contents_table.proofs.ElementFields.{single-base, passes_by, single-field}
use Rattle.contents_table.proofs.FirstNamed.{named-at}
use Rattle.contents_table.proofs.Positions.{position-found, position-map}
use Rattle.contents_table.proofs.ReadRecords.{ArePlansOf, elements-record}
use Rattle.contents_table.proofs.SomeValues.{some-and}
use Rattle.contents_table.proofs.LinkEnds.{IsRecord, record-at, row-record, target-unnamed}

-- ---- elements with printed types

pub first-printed : (i : ℕ) (es : List Element) (name : List ℕ) → first_named i (map printed_element es) name
    ≡ option_map (λ (p : ℕ × Element). (p.0, printed_element p.1)) (first_named i es name)
first-printed i [] name = refl
first-printed i (e ∷ es) name = by (bytes_eq name e.name) (first-printed (i + 1) es name)
  where
    by : (b : Bool) → first_named (i + 1) (map printed_element es) name
        ≡ option_map (λ (p : ℕ × Element). (p.0, printed_element p.1)) (first_named (i + 1) es name)
        → cond b (Some (i, printed_element e)) (first_named (i + 1) (map printed_element es) name)
        ≡ option_map (λ (p : ℕ × Element). (p.0, printed_element p.1))
        (cond b (Some (i, e)) (first_named (i + 1) es name))
    by true later = refl
    by false later = later

pub field-printed : (passes : Base → Bool) (name : List ℕ) (es : List Element)
    → field_where passes name (map printed_element es) ≡ field_where passes name es
field-printed passes name es =
    ap (option_and_then (number_where passes)) (first-printed 0 es name) ∙ by (first_named 0 es name)
  where
    by : (o : Option (ℕ × Element))
        → option_and_then (number_where passes) (option_map (λ (p : ℕ × Element). (p.0, printed_element p.1)) o)
        ≡ option_and_then (number_where passes) o
    by None = refl
    by (Some p) = refl

pub head-printed : (name : List ℕ) (es : List Element) → head_field name (map printed_element es) ≡ head_field name es
head-printed name es = position-map (is_single (is_link_to name)) printed_element es

-- the elements of a record's label
pub elements-at : (held : List Entry) (s : Collected) (n : ℕ) (r : Bodied) (record-of : IsRecord held s n r)
    → (label_at (frame_of held s) n).entry.elements ≡ map printed_element record-of.read.entry.elements
elements-at held s n r record-of =
    ap (λ (row : Row). row.label.entry.elements) (row-record held s n r record-of.at)
    ∙ ap (λ (label : Label). label.entry.elements) record-of.read.label_is

-- ---- plain links and texts among elements

-- the element of a number has no dimension, and a base that passes
pub record IsSingleElement (passes : Base → Bool) (es : List Element) (k : ℕ) : Type 0 where
  pub element : Element
  pub is : slice_get es k ≡ Some element
  pub base : Base
  pub base_is : single_base element ≡ Some base
  pub passing : passes base ≡ true

single-element : (passes : Base → Bool) (es : List Element) (k : ℕ) (e : Element) → slice_get es k ≡ Some e
    → is_single passes e ≡ true → IsSingleElement passes es k
single-element passes es k e is single = by (single_base e) refl (sym (single-base passes e) ∙ single)
  where
    by : (o : Option Base) → single_base e ≡ o → passes_by passes o ≡ true → IsSingleElement passes es k
    by None base_is passing = absurd (false≢true passing)
    by (Some base) base_is passing =
        record { element = e; is = is; base = base; base_is = base_is; passing = passing }

pub field-element : (passes : Base → Bool) (name : List ℕ) (es : List Element) (k : ℕ)
    → field_where passes name es ≡ Some k → IsSingleElement passes es k
field-element passes name es k found =
    option_and_then_some (number_where passes) (first_named 0 es name) k found (λ p first number.
    let parts = cond_some (is_single passes p.1) p.0 k number in
    single-element passes es k p.1 (ap (slice_get es) (sym parts.1) ∙ (named-at es name p.0 p.1 first).0) parts.0)

pub head-element : (name : List ℕ) (es : List Element) (k : ℕ) → head_field name es ≡ Some k
    → IsSingleElement (is_link_to name) es k
head-element name es k found =
    let first = position-found (is_single (is_link_to name)) es k found in
    single-element (is_link_to name) es k first.element first.is first.passes

pub form-link : (base : Base) → is_link base ≡ true → form_of base ≡ Link
form-link (Ptr to) e = refl
form-link base e = absurd (false≢true e)

pub form-link-to : (name : List ℕ) (base : Base) → is_link_to name base ≡ true → form_of base ≡ Link
form-link-to name (Ptr to) e = refl
form-link-to name base e = absurd (false≢true e)

pub form-text : (base : Base) → is_text base ≡ true → form_of base ≡ Text
form-text Str e = refl
form-text base e = absurd (false≢true e)

-- its field
pub element-field : (passes : Base → Bool) (form : Form)
    → ((base : Base) → passes base ≡ true → form_of base ≡ form)
    → (held : List Entry) (s : Collected) (n : ℕ) (r : Bodied) (record-of : IsRecord held s n r) (k : ℕ)
    → IsSingleElement passes record-of.read.entry.elements k → IsSingleField record-of.read.fields k form
element-field passes form forms held s n r record-of k single =
    subst (IsSingleField record-of.read.fields k) (forms single.base single.passing)
    (single-field record-of.read.entry.elements record-of.read.fields k single.element single.base
    record-of.read.layout
    single.is single.base_is)

pub has-plain-link : (passes : Base → Bool) → ((base : Base) → passes base ≡ true → form_of base ≡ Link)
    → (held : List Entry) (plans : Layouts) (s : Collected) (n : ℕ) (r : Bodied) → ArePlansOf held plans
    → (record-of : IsRecord held s n r) (k : ℕ) → IsSingleElement passes record-of.read.entry.elements k
    → HasPlainLink plans s n k
has-plain-link passes forms held plans s n r are record-of k single =
    subst (λ o. IfSome o (λ (r : Bodied). IfSome (plan_of plans r.node.class) (λ fields. IsLinkField fields k)))
    (sym record-of.at)
    (subst (λ o. IfSome o (λ fields. IsLinkField fields k))
    (sym (are.plans_are r.node.class ∙ record-of.read.layout_is))
    (element-field passes Link forms held s n r record-of k single))

-- ---- the record of a name

-- a record of the structure of a name
pub record IsNamedRecord (held : List Entry) (s : Collected) (name : List ℕ) (n : ℕ) : Type 0 where
  pub r : Bodied
  pub record_of : IsRecord held s n r
  pub named : class_named held name ≡ Some r.node.class
  pub elements : elements_named held name ≡ Some record_of.read.entry.elements

pub named-at-record : (held : List Entry) (plans : Layouts) (s : Collected) (name : List ℕ) (n : ℕ)
    → ArePlansOf held plans → All (ReadsBy plans s.order) s.nodes → IsNamed held s name n
    → IsNamedRecord held s name n
named-at-record held plans s name n are reads named =
    let found = some-and (slice_get s.nodes n) (λ (r : Bodied). class_named held name ≡ Some r.node.class) named in
    let record-of = record-at held plans s n found.0 are reads found.1 in
    record {
      r = found.0;
      record_of = record-of;
      named = found.2;
      elements = elements-record held s.order found.0 name record-of.read found.2;
    }

-- ---- heads

abbrev pub target_by : List Entry → Collected → List ℕ → ℕ → Option Head → Option ℕ
target_by held s name n to = option_and_then (λ (h : Head). target (frame_of held s) name n (Some h.field)) to

-- the head of a list is where the layouts have it
pub head-is : (held : List Entry) (plans : Layouts) (s : Collected) (upper name : List ℕ) (n : ℕ)
    → ArePlansOf held plans → All (ReadsBy plans s.order) s.nodes → bytes_eq name [] ≡ false
    → IsNamed held s upper n
    → head (frame_of held s) name n ≡ target_by held s name n (head_in held upper name)
head-is held plans s upper name n are reads some named =
    ap (λ (es : List Element). target (frame_of held s) name n (head_field name es))
    (elements-at held s n at.r at.record_of)
    ∙ ap (target (frame_of held s) name n) (head-printed name es)
    ∙ by (class_named held name) refl
  where
    at : IsNamedRecord held s upper n
    at = named-at-record held plans s upper n are reads named

    es : List Element
    es = at.record_of.read.entry.elements

    found : (class : ℕ) (o : Option ℕ) → target (frame_of held s) name n o
        ≡ target_by held s name n (option_map (λ field. record { field = field; class = class }) o)
    found class None = refl
    found class (Some field) = refl

    by : (o : Option ℕ) → class_named held name ≡ o → target (frame_of held s) name n (head_field name es)
        ≡ target_by held s name n
        (option_and_then (λ class. option_and_then (head_to held name class) (elements_named held upper)) o)
    by None none = target-unnamed held plans s n name (head_field name es) are reads some none
    by (Some class) is =
        found class (head_field name es)
        ∙ ap (λ o. target_by held s name n (option_and_then (head_to held name class) o)) (sym at.elements)

-- the head names the class of the structure
pub head-class : (held : List Entry) (upper name : List ℕ) (to : Head) → head_in held upper name ≡ Some to
    → class_named held name ≡ Some to.class
head-class held upper name to is =
    option_and_then_some (λ class. option_and_then (head_to held name class) (elements_named held upper))
    (class_named held name) to is (λ class named found.
    option_and_then_some (head_to held name class) (elements_named held upper) to found (λ es there made.
    named ∙ of-class class (head_field name es) made))
  where
    of-class : (class : ℕ) (o : Option ℕ) → option_map (λ field. record { field = field; class = class }) o
        ≡ Some to
        → Some class ≡ Some to.class
    of-class class None made = absurd (none-some to made)
    of-class class (Some field) made = ap (option_map (λ (h : Head). h.class)) made

-- and a plain link of the upper record
pub head-link : (held : List Entry) (plans : Layouts) (s : Collected) (upper name : List ℕ) (n : ℕ) (to : Head)
    → ArePlansOf held plans → All (ReadsBy plans s.order) s.nodes → IsNamed held s upper n
    → head_in held upper name ≡ Some to → HasPlainLink plans s n to.field
head-link held plans s upper name n to are reads named is =
    option_and_then_some (λ class. option_and_then (head_to held name class) (elements_named held upper))
    (class_named held name) to is (λ class there found.
    of-field class (head_field name es) refl
    (ap (option_and_then (head_to held name class)) (sym at.elements) ∙ found))
  where
    at : IsNamedRecord held s upper n
    at = named-at-record held plans s upper n are reads named

    es : List Element
    es = at.record_of.read.entry.elements

    of-field : (class : ℕ) (o : Option ℕ) → head_field name es ≡ o
        → option_map (λ field. record { field = field; class = class }) o ≡ Some to
        → HasPlainLink plans s n to.field
    of-field class None is made = absurd (none-some to made)
    of-field class (Some field) is made =
        let same : field ≡ to.field =
        ap (λ (h : Head). h.field) (same_Some (record { field = field; class = class }) to made) in
        has-plain-link (is_link_to name) (form-link-to name) held plans s n at.r are at.record_of to.field
        (head-element name es to.field (is ∙ ap Some same))

-- ---- the layout of a kind

pub list-layout : (held : List Entry) (plans : Layouts) (layouts : ChannelLayouts) (kind : Kind)
    → AreOf held plans layouts → list_in layouts kind ≡ list_of held kind
list-layout held plans layouts kind are = ap (λ (l : ChannelLayouts). list_in l kind) are.layouts_are ∙ by kind
  where
    by : (kind : Kind) → list_in (layouts_of held) kind ≡ list_of held kind
    by Adc = refl
    by Proc = refl
    by Sim = refl
    by Ser = refl

-- what the layout of a kind has
pub record IsListOf (held : List Entry) (kind : Kind) (list : ListLayout) : Type 0 where
  pub head_is : head_in held (upper_of kind) (structure_of kind) ≡ Some list.head
  pub elements : List Element
  pub elements_are : elements_named held (structure_of kind) ≡ Some elements
  pub next_is : list.next ≡ next_field elements
  pub name_is : list.name ≡ name_field elements

pub list-has : (held : List Entry) (kind : Kind) (list : ListLayout) → list_of held kind ≡ Some list
    → IsListOf held kind list
list-has held kind list is =
    option_and_then_some (λ head. option_map (list_by head) (elements_named held (structure_of kind)))
    (head_in held (upper_of kind) (structure_of kind)) list is (λ head there made.
    by head there (elements_named held (structure_of kind)) refl made)
  where
    by : (to : Head) → head_in held (upper_of kind) (structure_of kind) ≡ Some to → (o : Option (List Element))
        → elements_named held (structure_of kind) ≡ o → option_map (list_by to) o ≡ Some list
        → IsListOf held kind list
    by to there None are made = absurd (none-some list made)
    by to there (Some es) are made =
        let same = same_Some (list_by to es) list made in
        record {
          head_is = there ∙ ap Some (ap (λ (l : ListLayout). l.head) same);
          elements = es;
          elements_are = are;
          next_is = sym (ap (λ (l : ListLayout). l.next) same);
          name_is = sym (ap (λ (l : ListLayout). l.name) same);
        }

-- a kind without layout has no head
pub list-none : (held : List Entry) (kind : Kind) → IsDictionary held → list_of held kind ≡ None
    → head_in held (upper_of kind) (structure_of kind) ≡ None
list-none held kind sound none = by (head_in held (upper_of kind) (structure_of kind)) refl none
  where
    there : (to : Head) → head_in held (upper_of kind) (structure_of kind) ≡ Some to → (e : Entry)
        × (elements_named held (structure_of kind) ≡ Some e.elements)
    there to is =
        let named = head-class held (upper_of kind) (structure_of kind) to is in
        let found = some-and (entry_of held to.class) (λ (e : Entry). e.name ≡ structure_of kind)
        (sound.names (structure_of kind) to.class named) in (
          found.0,
          ap (λ o. option_map (λ (e : Entry). e.elements) (option_and_then (entry_of held) o)) named
              ∙ ap (option_map (λ (e : Entry). e.elements)) found.1,
        )

    by : (o : Option Head) → head_in held (upper_of kind) (structure_of kind) ≡ o
        → option_and_then (λ to. option_map (list_by to) (elements_named held (structure_of kind))) o ≡ None
        → o ≡ None
    by None is none = refl
    by (Some to) is none =
        let e = there to is in
        absurd (none-some (list_by to e.0.elements) (sym none ∙ ap (option_map (list_by to)) e.1))

-- a structure has a name
pub structure-some : (kind : Kind) → bytes_eq (structure_of kind) [] ≡ false
structure-some Adc = refl
structure-some Proc = refl
structure-some Sim = refl
structure-some Ser = refl
