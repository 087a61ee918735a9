-- The fields that channels hang on, in the elements of the records that have them.
use Rattle.std.proofs.Common.{◌≡◌, ℕ, List, Option, Some, None, IsSome, IfSome, IsSomeAnd, refl, sym, ap, ◌∙◌, subst}
use Rattle.std.specs.Prelude.{option_and_then, All, codes}
use Rattle.std.proofs.lemmas.Bool.{false≢true}
use Rattle.std.proofs.lemmas.Option.{none-some, option_and_then_some}
use Rattle.dictionary.specs.declared.entries.Element.{Element}
use Rattle.dictionary.specs.declared.entries.Entry.{Entry}
use Rattle.dictionary.specs.Dictionary.{class_named}
use Rattle.link_graph.specs.Collected.{Collected}
use Rattle.link_graph.specs.Graph.{Layouts, ReadsBy}
use Rattle.contents_table.specs.declared.kind.Kind.{Kind}
use Rattle.contents_table.specs.declared.layouts.Head.{Head}
use Rattle.contents_table.specs.declared.layouts.ListLayout.{ListLayout}
use Rattle.contents_table.specs.declared.layouts.ChannelLayouts.{ChannelLayouts}
use Rattle.contents_table.specs.Channels.{structure_of, is_link, head_field, next_field, raw_data, frame_header}
use Rattle.contents_table.specs.Layouts.{AreOf, elements_named, head_to, head_in, upper_of, list_in, IsNamed, IsUnder}
use Rattle.contents_table.specs.Layouts.{IsRawData, IsHeadField, IsNextField, HasPlainLink}
use Rattle.contents_table.proofs.SomeValues.{map-some}
use Rattle.contents_table.proofs.ReadRecords.{plans-of}
use Rattle.contents_table.proofs.ListHeads.{IsNamedRecord, named-at-record, elements-at, head-printed, field-printed}
use Rattle.contents_table.proofs.ListHeads.{IsListOf, head-is, head-link, target_by}
use Rattle.contents_table.proofs.UpperRecords.{raw-layout}
use Rattle.contents_table.proofs.ChannelLinks.{list-of, first-none, next-link, channel-elements}

-- a head of the layouts is the field of the record
head-at : (held : List Entry) (plans : Layouts) (layouts : ChannelLayouts) (s : Collected) (upper name : List ℕ)
    (n : ℕ) (to : Head) → AreOf held plans layouts → All (ReadsBy plans s.order) s.nodes → IsNamed held s upper n
    → head_in held upper name ≡ Some to → IsHeadField held plans s name n to.field
head-at held plans layouts s upper name n to are reads named is = record {
  field_is = ap (head_field name) (elements-at held s n at.r at.record_of) ∙ head-printed name es ∙ found;
  plain = head-link held plans s upper name n to (plans-of held plans layouts are) reads named is;
}
  where
    at : IsNamedRecord held s upper n
    at = named-at-record held plans s upper n (plans-of held plans layouts are) reads named

    es : List Element
    es = at.record_of.read.entry.elements

    found : head_field name es ≡ Some to.field
    found =
        option_and_then_some (λ class. option_and_then (head_to held name class) (elements_named held upper))
        (class_named held name) to is (λ class there made.
        let field = map-some (λ field. record { field = field; class = class }) (head_field name es) to
        (ap (option_and_then (head_to held name class)) (sym at.elements) ∙ made) in
        field.1 ∙ ap Some (ap (λ (h : Head). h.field) field.2))

-- the kind has a layout where the frame has a channel of it
list-there : (held : List Entry) (plans : Layouts) (layouts : ChannelLayouts) (s : Collected) (kind : Kind) (n k : ℕ)
    → IsUnder held plans layouts s kind n k → list_in layouts kind ≡ None → ⊥
list-there held plans layouts s kind n k under none =
    false≢true (subst IsSome (first-none held plans layouts s kind n under.are under.reads (sym under.upper_is)
    under.upper_named (sym none)) under.first)

pub head-none : (held : List Entry) (plans : Layouts) (layouts : ChannelLayouts) (s : Collected) (kind : Kind)
    (n k : ℕ) (result : Option ℕ) → list_in layouts kind ≡ None → IsUnder held plans layouts s kind n k
    → IsSomeAnd result (IsHeadField held plans s (structure_of kind) n)
head-none held plans layouts s kind n k result none under =
    absurd (list-there held plans layouts s kind n k under none)

pub head-there : (held : List Entry) (plans : Layouts) (layouts : ChannelLayouts) (s : Collected) (kind : Kind)
    (n k : ℕ) (list : ListLayout) → Some list ≡ list_in layouts kind → IsUnder held plans layouts s kind n k
    → IsHeadField held plans s (structure_of kind) n list.head.field
head-there held plans layouts s kind n k list is under =
    head-at held plans layouts s (upper_of kind) (structure_of kind) n list.head under.are under.reads
    under.upper_named (list-of held plans layouts kind list under.are is).head_is

pub next-none : (held : List Entry) (plans : Layouts) (layouts : ChannelLayouts) (s : Collected) (kind : Kind)
    (n k : ℕ) (result : Option ℕ) → list_in layouts kind ≡ None → IsUnder held plans layouts s kind n k
    → IsNextField held plans s k result
next-none held plans layouts s kind n k result none under =
    absurd (list-there held plans layouts s kind n k under none)

pub next-there : (held : List Entry) (plans : Layouts) (layouts : ChannelLayouts) (s : Collected) (kind : Kind)
    (n k : ℕ) (list : ListLayout) → Some list ≡ list_in layouts kind → IsUnder held plans layouts s kind n k
    → IsNextField held plans s k list.next
next-there held plans layouts s kind n k list is under = record {
  field_is = layout.next_is ∙ ap next_field same
      ∙ sym (ap next_field (elements-at held s k at.r at.record_of)
      ∙ field-printed is_link (codes "next") at.record_of.read.entry.elements);
  plain = by list.next refl;
}
  where
    at : IsNamedRecord held s (structure_of kind) k
    at = named-at-record held plans s (structure_of kind) k (plans-of held plans layouts under.are) under.reads
        under.named

    layout : IsListOf held kind list
    layout = list-of held plans layouts kind list under.are is

    same : layout.elements ≡ at.record_of.read.entry.elements
    same = channel-elements held s kind k list at layout

    by : (o : Option ℕ) → list.next ≡ o → IfSome o (HasPlainLink plans s k)
    by None next = tt
    by (Some field) next =
        next-link held plans layouts s kind k list field under.are under.reads under.named is next

pub raw-none : (held : List Entry) (plans : Layouts) (layouts : ChannelLayouts) (s : Collected) (n m : ℕ)
    (result : Option ℕ) → layouts.raw_data ≡ None → IsRawData held plans layouts s n m
    → IsSomeAnd result (IsHeadField held plans s raw_data n)
raw-none held plans layouts s n m result none raw =
    absurd (none-some m (sym (ap (target_by held s raw_data n) none)
    ∙ ap (λ (l : ChannelLayouts). target_by held s raw_data n l.raw_data) raw.are.layouts_are
    ∙ sym (head-is held plans s frame_header raw_data n (plans-of held plans layouts raw.are) raw.reads refl raw.named)
    ∙ raw.leads))

pub raw-there : (held : List Entry) (plans : Layouts) (layouts : ChannelLayouts) (s : Collected) (n m : ℕ)
    (to : Head) → layouts.raw_data ≡ Some to → IsRawData held plans layouts s n m
    → IsHeadField held plans s raw_data n to.field
raw-there held plans layouts s n m to is raw =
    head-at held plans layouts s frame_header raw_data n to raw.are raw.reads raw.named
    (raw-layout held plans layouts to raw.are is)
