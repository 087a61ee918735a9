-- From the record above a list of channels to its first channel, and from one channel to the next, by the layouts of
-- a dictionary.
use Rattle.std.proofs.Common.{◌≡◌, ℕ, List, Some, None, sym, ap, ◌∙◌}
use Rattle.std.specs.Prelude.{option_and_then, All, codes}
use Rattle.std.proofs.lemmas.Option.{same_Some}
use Rattle.dictionary.specs.declared.entries.Element.{Element}
use Rattle.dictionary.specs.declared.entries.Entry.{Entry}
use Rattle.dictionary.specs.Dictionary.{class_named}
use Rattle.link_graph.specs.Collected.{Collected}
use Rattle.link_graph.specs.Graph.{Layouts, ReadsBy}
use Rattle.frame_content.specs.Frames.{frame_of}
use Rattle.contents_table.specs.declared.kind.Kind.{Kind}
use Rattle.contents_table.specs.declared.layouts.ListLayout.{ListLayout}
use Rattle.contents_table.specs.declared.layouts.ChannelLayouts.{ChannelLayouts}
use Rattle.contents_table.specs.Channels.{structure_of, is_link, next_field, head, target, upper, first_channel}
use Rattle.contents_table.specs.Channels.{next_channel}
use Rattle.contents_table.specs.Layouts.{AreOf, head_in, upper_of, list_in, HasPlainLink, IsNamed}
use Rattle.contents_table.proofs.ReadRecords.{plans-of}
use Rattle.contents_table.proofs.ListHeads.{target_by, head-is, head-link, head-class, structure-some}
use Rattle.contents_table.proofs.ListHeads.{list-layout, list-has}
use Rattle.contents_table.proofs.ListHeads.{list-none, IsListOf, IsNamedRecord, named-at-record, elements-at}
use Rattle.contents_table.proofs.ListHeads.{field-printed}
use Rattle.contents_table.proofs.ListHeads.{field-element, has-plain-link, form-link}

-- the layout of a kind is that of the dictionary
pub list-of : (held : List Entry) (plans : Layouts) (layouts : ChannelLayouts) (kind : Kind) (list : ListLayout)
    → AreOf held plans layouts → Some list ≡ list_in layouts kind → IsListOf held kind list
list-of held plans layouts kind list are is =
    list-has held kind list (sym (is ∙ list-layout held plans layouts kind are))

-- ---- the first channel

first-by : (held : List Entry) (plans : Layouts) (layouts : ChannelLayouts) (s : Collected) (kind : Kind) (n : ℕ)
    → AreOf held plans layouts → All (ReadsBy plans s.order) s.nodes → Some n ≡ upper (frame_of held s) kind
    → IsNamed held s (upper_of kind) n
    → first_channel (frame_of held s) kind
    ≡ target_by held s (structure_of kind) n (head_in held (upper_of kind) (structure_of kind))
first-by held plans layouts s kind n are reads is named =
    ap (option_and_then (head (frame_of held s) (structure_of kind))) (sym is)
    ∙ head-is held plans s (upper_of kind) (structure_of kind) n (plans-of held plans layouts are) reads
    (structure-some kind) named

pub first-none : (held : List Entry) (plans : Layouts) (layouts : ChannelLayouts) (s : Collected) (kind : Kind)
    (n : ℕ)
    → AreOf held plans layouts → All (ReadsBy plans s.order) s.nodes → Some n ≡ upper (frame_of held s) kind
    → IsNamed held s (upper_of kind) n → None ≡ list_in layouts kind → first_channel (frame_of held s) kind ≡ None
first-none held plans layouts s kind n are reads is named none =
    first-by held plans layouts s kind n are reads is named
    ∙ ap (target_by held s (structure_of kind) n)
    (list-none held kind are.sound (sym (none ∙ list-layout held plans layouts kind are)))

pub first-some : (held : List Entry) (plans : Layouts) (layouts : ChannelLayouts) (s : Collected) (kind : Kind)
    (n : ℕ)
    (list : ListLayout) → AreOf held plans layouts → All (ReadsBy plans s.order) s.nodes
    → Some n ≡ upper (frame_of held s) kind → IsNamed held s (upper_of kind) n → Some list ≡ list_in layouts kind
    → first_channel (frame_of held s) kind ≡ target (frame_of held s) (structure_of kind) n (Some list.head.field)
first-some held plans layouts s kind n list are reads is named some =
    first-by held plans layouts s kind n are reads is named
    ∙ ap (target_by held s (structure_of kind) n) (list-of held plans layouts kind list are some).head_is

pub first-link : (held : List Entry) (plans : Layouts) (layouts : ChannelLayouts) (s : Collected) (kind : Kind)
    (n : ℕ)
    (list : ListLayout) → AreOf held plans layouts → All (ReadsBy plans s.order) s.nodes
    → IsNamed held s (upper_of kind) n → Some list ≡ list_in layouts kind → HasPlainLink plans s n list.head.field
first-link held plans layouts s kind n list are reads named some =
    head-link held plans s (upper_of kind) (structure_of kind) n list.head
    (plans-of held plans layouts are) reads named
    (list-of held plans layouts kind list are some).head_is

pub list-class : (held : List Entry) (plans : Layouts) (layouts : ChannelLayouts) (kind : Kind) (list : ListLayout)
    → AreOf held plans layouts → Some list ≡ list_in layouts kind
    → class_named held (structure_of kind) ≡ Some list.head.class
list-class held plans layouts kind list are some =
    head-class held (upper_of kind) (structure_of kind) list.head
    (list-of held plans layouts kind list are some).head_is

-- ---- the next channel

-- the elements of a channel are those by which its layout is found
pub channel-elements : (held : List Entry) (s : Collected) (kind : Kind) (n : ℕ) (list : ListLayout)
    (at : IsNamedRecord held s (structure_of kind) n) (layout : IsListOf held kind list)
    → layout.elements ≡ at.record_of.read.entry.elements
channel-elements held s kind n list at layout =
    same_Some layout.elements at.record_of.read.entry.elements (sym layout.elements_are ∙ at.elements)

pub next-is : (held : List Entry) (plans : Layouts) (layouts : ChannelLayouts) (s : Collected) (kind : Kind) (n : ℕ)
    (list : ListLayout) → AreOf held plans layouts → All (ReadsBy plans s.order) s.nodes
    → IsNamed held s (structure_of kind) n → Some list ≡ list_in layouts kind
    → next_channel (frame_of held s) (structure_of kind) n ≡ target (frame_of held s)
    (structure_of kind) n list.next
next-is held plans layouts s kind n list are reads named some =
    let at = named-at-record held plans s (structure_of kind) n (plans-of held plans layouts are) reads named in
    let layout = list-of held plans layouts kind list are some in
    let same = channel-elements held s kind n list at layout in
    ap (λ (es : List Element). target (frame_of held s) (structure_of kind) n (next_field es))
    (elements-at held s n at.r at.record_of)
    ∙ ap (target (frame_of held s) (structure_of kind) n)
    (field-printed is_link (codes "next") at.record_of.read.entry.elements ∙ ap next_field (sym same)
    ∙ sym layout.next_is)

pub next-link : (held : List Entry) (plans : Layouts) (layouts : ChannelLayouts) (s : Collected) (kind : Kind)
    (n : ℕ)
    (list : ListLayout) (field : ℕ) → AreOf held plans layouts → All (ReadsBy plans s.order) s.nodes
    → IsNamed held s (structure_of kind) n → Some list ≡ list_in layouts kind → list.next ≡ Some field
    → HasPlainLink plans s n field
next-link held plans layouts s kind n list field are reads named some next =
    let of-plans = plans-of held plans layouts are in
    let at = named-at-record held plans s (structure_of kind) n of-plans reads named in
    let layout = list-of held plans layouts kind list are some in
    let same = channel-elements held s kind n list at layout in
    let found : next_field at.record_of.read.entry.elements ≡ Some field =
    ap next_field (sym same) ∙ sym layout.next_is ∙ next in
    has-plain-link is_link form-link held plans s n at.r of-plans at.record_of field
    (field-element is_link (codes "next") at.record_of.read.entry.elements field found)
