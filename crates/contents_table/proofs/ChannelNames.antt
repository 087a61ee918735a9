-- The names of channels, by the layouts of a dictionary.
use Rattle.std.proofs.Common.{◌≡◌, ℕ, ◌<◌, Bool, true, false, cond, List, [], length, map, Option, Some, None}
use Rattle.std.proofs.Common.{refl, sym, ap, ◌∙◌, subst, arith}
use Rattle.std.specs.Prelude.{option_and_then, slice_get, All, Contains, codes}
use Rattle.std.specs.Option.{option_map}
use Rattle.std.specs.Str.{bytes_eq}
use Rattle.std.proofs.lemmas.Option.{same_Some, option_and_then_some, get_or_from_slice_get}
use Rattle.scalar_types.specs.declared.Order.{Order}
use Rattle.record_values.specs.declared.values.Value.{Value}
use Rattle.record_values.specs.declared.values.Value.TheVariants as value
use Rattle.dictionary.specs.declared.entries.Entry.{Entry}
use Rattle.layout_plan.specs.declared.fields.Field.{Field}
use Rattle.layout_plan.specs.declared.fields.Form.TheVariants.{Text}
use Rattle.layout_plan.specs.Body.{number_of, HasBody}
use Rattle.layout_plan.specs.Lent.{IsTextField, IsSingleField, HasTextAt}
use Rattle.layout_plan.specs.Plans.{plan_of}
use Rattle.layout_plan.proofs.ReadingLemmas.{element-within}
use Rattle.link_graph.specs.declared.nodes.Node.{Node}
use Rattle.link_graph.specs.Collected.{Bodied, Collected}
use Rattle.link_graph.specs.Graph.{Layouts, ReadsBy}
use Rattle.link_graph.proofs.FirstLoose.{read-at, read-by, not-unread}
use Rattle.frame_content.specs.Labels.{Label}
use Rattle.frame_content.specs.Frames.{Row, Frame, frame_of, label_at, no_row}
use Rattle.contents_table.specs.declared.kind.Kind.{Kind}
use Rattle.contents_table.specs.declared.layouts.ListLayout.{ListLayout}
use Rattle.contents_table.specs.declared.layouts.ChannelLayouts.{ChannelLayouts}
use Rattle.contents_table.specs.Channels.{structure_of, is_under_raw_data, frame_header, raw_data, is_frame_header}
use Rattle.contents_table.specs.Channels.{is_text, name_field, head, header_of, upper, first_channel, channels}
use Rattle.contents_table.specs.Channels.{text_of, name_of}
use Rattle.contents_table.specs.Layouts.{AreOf, upper_of, list_in, IsNamed}
use Rattle.contents_table.proofs.Positions.{position-found}
use Rattle.contents_table.proofs.ReadRecords.{plans-of}
use Rattle.contents_table.proofs.RecordValues.{text-kept}
use Rattle.contents_table.proofs.LinkEnds.{row-record, named-record, value-read}
use Rattle.contents_table.proofs.ListHeads.{IsNamedRecord, named-at-record, elements-at, field-printed}
use Rattle.contents_table.proofs.ListHeads.{field-element}
use Rattle.contents_table.proofs.ListHeads.{element-field, form-text, structure-some}
use Rattle.contents_table.proofs.ChannelLinks.{list-of, first-none}
use Rattle.contents_table.proofs.ChannelWalk.{no-channels, target-name, channel-named}

-- ---- channels are records of their structure

pub channel-record : (held : List Entry) (plans : Layouts) (layouts : ChannelLayouts) (s : Collected) (kind : Kind)
    (n : ℕ) → AreOf held plans layouts → All (ReadsBy plans s.order) s.nodes
    → Contains (channels (frame_of held s) kind) n → IsNamed held s (structure_of kind) n
channel-record held plans layouts s kind n are reads is =
    named-record held plans s n (structure_of kind) (plans-of held plans layouts are) reads (structure-some kind)
    (channel-named (frame_of held s) kind n is)

-- a record that is there reads by the plan of its class
pub body-read : (plans : Layouts) (s : Collected) (n : ℕ) (order : Order) (fields : List Field) (node : Node)
    (body : List ℕ) → All (ReadsBy plans s.order) s.nodes → n < length s.nodes
    → option_map (λ (r : Bodied). r.node) (slice_get s.nodes n) ≡ Some node
    → option_map (λ (r : Bodied). r.body) (slice_get s.nodes n) ≡ Some body → Some fields ≡ plan_of plans node.class
    → order ≡ s.order → HasBody order fields body
body-read plans s n order fields node body reads lt is_node is_body plan same =
    subst (λ (order : Order). HasBody order fields body) (sym same)
    (read-by plans s.order node body fields (read-at plans s.order s.nodes n node body reads lt is_node is_body)
    (sym plan))

pub plan-there : (plans : Layouts) (s : Collected) (n : ℕ) (node : Node) → All (ReadsBy plans s.order) s.nodes
    → n < length s.nodes → option_map (λ (r : Bodied). r.node) (slice_get s.nodes n) ≡ Some node
    → None ≡ plan_of plans node.class → ⊥
plan-there plans s n node reads lt is_node none =
    let r = element-within s.nodes n lt in
    let body = ap (option_map (λ (r : Bodied). r.body)) r.1 in
    not-unread plans s.order node r.0.body
    (read-at plans s.order s.nodes n node r.0.body reads lt is_node body) (sym none)

-- the record above them has its name
upper-name : (f : Frame) (kind : Kind) (n : ℕ) → upper f kind ≡ Some n
    → bytes_eq (upper_of kind) (label_at f n).entry.name ≡ true
upper-name f kind n is = by (is_under_raw_data kind) is
  where
    header : header_of f ≡ Some n → bytes_eq frame_header (label_at f n).entry.name ≡ true
    header found =
        let first = position-found is_frame_header f.rows n found in
        ap (λ (row : Row). bytes_eq frame_header row.label.entry.name)
        (get_or_from_slice_get f.rows n first.element no_row first.is) ∙ first.passes

    by : (b : Bool) → cond b (option_and_then (head f raw_data) (header_of f)) (header_of f) ≡ Some n
        → bytes_eq (cond b raw_data frame_header) (label_at f n).entry.name ≡ true
    by true is =
        option_and_then_some (head f raw_data) (header_of f) n is (λ m there led. target-name f raw_data m _ n led)
    by false is = header is

upper-some : (kind : Kind) → bytes_eq (upper_of kind) [] ≡ false
upper-some kind = by (is_under_raw_data kind)
  where
    by : (b : Bool) → bytes_eq (cond b raw_data frame_header) [] ≡ false
    by true = refl
    by false = refl

-- a kind without layout has no channel
pub unlisted-none : (held : List Entry) (plans : Layouts) (layouts : ChannelLayouts) (s : Collected) (kind : Kind)
    → AreOf held plans layouts → All (ReadsBy plans s.order) s.nodes → None ≡ list_in layouts kind
    → channels (frame_of held s) kind ≡ []
unlisted-none held plans layouts s kind are reads none =
    no-channels (frame_of held s) kind (by (upper (frame_of held s) kind) refl)
  where
    by : (o : Option ℕ) → upper (frame_of held s) kind ≡ o → first_channel (frame_of held s) kind ≡ None
    by None is = ap (option_and_then (head (frame_of held s) (structure_of kind))) is
    by (Some n) is =
        first-none held plans layouts s kind n are reads (sym is)
        (named-record held plans s n (upper_of kind) (plans-of held plans layouts are) reads (upper-some kind)
        (upper-name (frame_of held s) kind n is)) none

pub none-unlisted : (held : List Entry) (plans : Layouts) (layouts : ChannelLayouts) (s : Collected)
    (kind : Kind) (n : ℕ)
    → AreOf held plans layouts → All (ReadsBy plans s.order) s.nodes → None ≡ list_in layouts kind
    → Contains (channels (frame_of held s) kind) n → ⊥
none-unlisted held plans layouts s kind n are reads none is =
    let there = subst (λ ns. Contains ns n) (unlisted-none held plans layouts s kind are reads none) is in
    absurd (omega (arith, there.1))

-- ---- the name of a channel

-- where the layout of the kind has it
pub name-field-is : (held : List Entry) (plans : Layouts) (layouts : ChannelLayouts) (s : Collected) (kind : Kind)
    (n : ℕ) (list : ListLayout) → (are : AreOf held plans layouts) → (reads : All (ReadsBy plans s.order) s.nodes)
    → (at : IsNamedRecord held s (structure_of kind) n) → Some list ≡ list_in layouts kind
    → list.name ≡ name_field at.record_of.read.entry.elements
name-field-is held plans layouts s kind n list are reads at some =
    let layout = list-of held plans layouts kind list are some in
    layout.name_is
    ∙ ap name_field (same_Some layout.elements at.record_of.read.entry.elements
    (sym layout.elements_are ∙ at.elements))

pub name-is : (held : List Entry) (plans : Layouts) (layouts : ChannelLayouts) (s : Collected) (kind : Kind) (n : ℕ)
    (list : ListLayout) → AreOf held plans layouts → All (ReadsBy plans s.order) s.nodes
    → IsNamed held s (structure_of kind) n → Some list ≡ list_in layouts kind
    → name_of (label_at (frame_of held s) n)
    ≡ option_and_then text_of (option_and_then (slice_get (label_at (frame_of held s) n).values) list.name)
name-is held plans layouts s kind n list are reads named some =
    let at = named-at-record held plans s (structure_of kind) n (plans-of held plans layouts are) reads named in
    ap (λ o. option_and_then text_of (option_and_then (slice_get (label_at (frame_of held s) n).values) o))
    (ap name_field (elements-at held s n at.r at.record_of)
    ∙ field-printed is_text (codes "name") at.record_of.read.entry.elements
    ∙ sym (name-field-is held plans layouts s kind n list are reads at some))

-- the field is a text without dimension
name-field : (held : List Entry) (plans : Layouts) (layouts : ChannelLayouts) (s : Collected) (kind : Kind) (n : ℕ)
    (list : ListLayout) (field : ℕ) → (are : AreOf held plans layouts)
    → (reads : All (ReadsBy plans s.order) s.nodes)
    → (at : IsNamedRecord held s (structure_of kind) n) → Some list ≡ list_in layouts kind → list.name ≡ Some field
    → IsTextField at.record_of.read.fields field
name-field held plans layouts s kind n list field are reads at some name =
    element-field is_text Text form-text held s n at.r at.record_of field
    (field-element is_text (codes "name") at.record_of.read.entry.elements field
    (sym (name-field-is held plans layouts s kind n list are reads at some) ∙ name))

-- by the plan of the record's class
pub name-text : (held : List Entry) (plans : Layouts) (layouts : ChannelLayouts) (s : Collected) (kind : Kind)
    (n : ℕ)
    (list : ListLayout) (field : ℕ) (fields : List Field) (node : Node) → AreOf held plans layouts
    → All (ReadsBy plans s.order) s.nodes → IsNamed held s (structure_of kind) n → Some list ≡ list_in layouts kind
    → list.name ≡ Some field → option_map (λ (r : Bodied). r.node) (slice_get s.nodes n) ≡ Some node
    → Some fields ≡ plan_of plans node.class → IsTextField fields field
name-text held plans layouts s kind n list field fields node are reads named some name is_node plan =
    subst (λ fields. IsTextField fields field)
    (same_Some at.record_of.read.fields fields
    (sym at.record_of.read.layout_is ∙ sym (are.plans_are at.r.node.class)
    ∙ ap (λ (n : Node). plan_of plans n.class) node_is ∙ sym plan))
    (name-field held plans layouts s kind n list field are reads at some name)
  where
    at : IsNamedRecord held s (structure_of kind) n
    at = named-at-record held plans s (structure_of kind) n (plans-of held plans layouts are) reads named

    node_is : at.r.node ≡ node
    node_is =
        same_Some at.r.node node (ap (option_map (λ (r : Bodied). r.node)) (sym at.record_of.at) ∙ is_node)

-- the text of the body is the name
pub name-told : (held : List Entry) (plans : Layouts) (layouts : ChannelLayouts) (s : Collected) (kind : Kind)
    (n : ℕ)
    (list : ListLayout) (field : ℕ) (order : Order) (fields : List Field) (node : Node) (body text : List ℕ)
    → AreOf held plans layouts → All (ReadsBy plans s.order) s.nodes → IsNamed held s (structure_of kind) n
    → Some list ≡ list_in layouts kind → list.name ≡ Some field
    → option_map (λ (r : Bodied). r.node) (slice_get s.nodes n) ≡ Some node
    → option_map (λ (r : Bodied). r.body) (slice_get s.nodes n) ≡ Some body → Some fields ≡ plan_of plans node.class
    → order ≡ s.order → HasTextAt order fields body field text
    → Some text ≡ name_of (label_at (frame_of held s) n)
name-told held plans layouts s kind n list field order fields node body text are reads named some name is_node
    is_body
    plan same told =
    sym (name-is held plans layouts s kind n list are reads named some
    ∙ ap (λ o. option_and_then text_of (option_and_then (slice_get (label_at (frame_of held s) n).values) o)) name
    ∙ ap (λ (label : Label). option_and_then text_of (slice_get label.values field))
    (ap (λ (row : Row). row.label) (row-record held s n at.r at.record_of.at) ∙ at.record_of.read.label_is)
    ∙ ap (option_and_then text_of)
    (text-kept s.order (map number_of read-values) at.record_of.read.fields read-values
    at.record_of.read.body.front field
    single.field text at.record_of.read.sound.sums at.record_of.read.body.spelled single.is single.form_is is))
  where
    at : IsNamedRecord held s (structure_of kind) n
    at = named-at-record held plans s (structure_of kind) n (plans-of held plans layouts are) reads named

    read-values : List Value
    read-values = at.record_of.read.values

    single : IsSingleField at.record_of.read.fields field Text
    single = name-field held plans layouts s kind n list field are reads at some name

    is : slice_get read-values field ≡ Some (value.Text text)
    is =
        value-read held plans s n at.r field (value.Text text) order fields node body
        (plans-of held plans layouts are)
        at.record_of is_node is_body plan same told
