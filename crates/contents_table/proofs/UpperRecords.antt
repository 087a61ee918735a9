-- The record under which a kind's channels are, by the layouts of a dictionary.
use Rattle.std.proofs.Common.{◌≡◌, ◌<◌, length, ℕ, Bool, true, false, cond, List, position, Option, Some, None, IfSome}
use Rattle.std.proofs.Common.{IsSomeAnd}
use Rattle.std.proofs.Common.{refl, sym, ap, ◌∙◌, subst}
use Rattle.std.specs.Prelude.{◌==◌, option_and_then, slice_get, All}
use Rattle.std.proofs.lemmas.Bool.{eqb-true, cond-true, cond-false}
use Rattle.std.proofs.lemmas.Option.{slice_get_within}
use Rattle.dictionary.specs.declared.entries.Entry.{Entry}
use Rattle.dictionary.specs.Dictionary.{class_named}
use Rattle.link_graph.specs.Collected.{Bodied, Collected}
use Rattle.link_graph.specs.Graph.{Layouts, ReadsBy}
use Rattle.frame_content.specs.Frames.{frame_of}
use Rattle.contents_table.specs.declared.kind.Kind.{Kind}
use Rattle.contents_table.specs.declared.layouts.Head.{Head}
use Rattle.contents_table.specs.declared.layouts.ChannelLayouts.{ChannelLayouts}
use Rattle.contents_table.specs.Channels.{is_under_raw_data, frame_header, raw_data, head, header_of, upper}
use Rattle.contents_table.specs.Layouts.{AreOf, head_in, upper_of, IsOfClass, IsNamed}
use Rattle.contents_table.proofs.Positions.{position-found}
use Rattle.contents_table.proofs.SomeValues.{some-and}
use Rattle.contents_table.proofs.ReadRecords.{plans-of}
use Rattle.contents_table.proofs.LinkEnds.{header-is}
use Rattle.contents_table.proofs.ListHeads.{target_by, head-is}

-- a record of the class of a name is of the name
class-name : (held : List Entry) (s : Collected) (name : List ℕ) (class n : ℕ) → class_named held name ≡ Some class
    → IsOfClass s class n → IsNamed held s name n
class-name held s name class n named is = by (slice_get s.nodes n) is
  where
    by : (o : Option Bodied) → IsSomeAnd o (λ (r : Bodied). r.node.class ≡ class)
        → IsSomeAnd o (λ (r : Bodied). class_named held name ≡ Some r.node.class)
    by None is = is
    by (Some r) is = named ∙ ap Some (sym is)

pub named-found : (held : List Entry) (s : Collected) (name : List ℕ) (class : ℕ) (found : Option ℕ)
    → class_named held name ≡ Some class → IfSome found (IsOfClass s class) → IfSome found (IsNamed held s name)
named-found held s name class None named is = tt
named-found held s name class (Some n) named is = class-name held s name class n named is

-- and is there
pub class-within : (s : Collected) (class : ℕ) (found : Option ℕ) → IfSome found (IsOfClass s class)
    → IfSome found (λ n. n < length s.nodes)
class-within s class None is = tt
class-within s class (Some n) is =
    let r = some-and (slice_get s.nodes n) (λ (r : Bodied). r.node.class ≡ class) is in
    slice_get_within s.nodes n r.0 r.1

-- ---- FrameH

abbrev pub first_of_class : Collected → ℕ → Option ℕ
first_of_class s class = position (λ (r : Bodied). r.node.class == class) s.nodes

pub first-within : (s : Collected) (class n : ℕ) → Some n ≡ first_of_class s class → n < length s.nodes
first-within s class n found =
    let first = position-found (λ (r : Bodied). r.node.class == class) s.nodes n (sym found) in
    slice_get_within s.nodes n first.element first.is

pub header-layout : (held : List Entry) (plans : Layouts) (layouts : ChannelLayouts) (s : Collected)
    → AreOf held plans layouts → All (ReadsBy plans s.order) s.nodes
    → header_of (frame_of held s) ≡ option_and_then (first_of_class s) layouts.frame_header
header-layout held plans layouts s are reads =
    header-is held plans s (plans-of held plans layouts are) reads
    ∙ ap (λ (l : ChannelLayouts). option_and_then (first_of_class s) l.frame_header) (sym are.layouts_are)

pub header-named : (held : List Entry) (plans : Layouts) (layouts : ChannelLayouts) (s : Collected) (class : ℕ)
    (found : Option ℕ) → AreOf held plans layouts → layouts.frame_header ≡ Some class → found ≡ first_of_class s class
    → IfSome found (IsNamed held s frame_header)
header-named held plans layouts s class None are layout found = tt
header-named held plans layouts s class (Some n) are layout found =
    class-name held s frame_header class n (ap (λ (l : ChannelLayouts). l.frame_header) (sym are.layouts_are) ∙ layout)
    (let first = position-found (λ (r : Bodied). r.node.class == class) s.nodes n (sym found) in
    subst (λ o. IsSomeAnd o (λ (r : Bodied). r.node.class ≡ class)) (sym first.is)
    (eqb-true first.element.node.class class first.passes))

-- a record is the first FrameH
pub record IsHeader (held : List Entry) (s : Collected) (n : ℕ) : Type 0 where
  pub is : header_of (frame_of held s) ≡ Some n
  pub named : IsNamed held s frame_header n

pub header-at : (held : List Entry) (plans : Layouts) (layouts : ChannelLayouts) (s : Collected) (class n : ℕ)
    → AreOf held plans layouts → All (ReadsBy plans s.order) s.nodes → layouts.frame_header ≡ Some class
    → Some n ≡ first_of_class s class → IsHeader held s n
header-at held plans layouts s class n are reads layout found = record {
  is = header-layout held plans layouts s are reads ∙ ap (option_and_then (first_of_class s)) layout ∙ sym found;
  named = header-named held plans layouts s class (Some n) are layout found;
}

-- ---- the upper record

-- without FrameH there is none
pub upper-none : (held : List Entry) (plans : Layouts) (layouts : ChannelLayouts) (s : Collected) (kind : Kind)
    → AreOf held plans layouts → All (ReadsBy plans s.order) s.nodes
    → option_and_then (first_of_class s) layouts.frame_header ≡ None → upper (frame_of held s) kind ≡ None
upper-none held plans layouts s kind are reads none =
    ap (λ o. cond (is_under_raw_data kind) (option_and_then (head (frame_of held s) raw_data) o) o)
    (header-layout held plans layouts s are reads ∙ none)
    ∙ by (is_under_raw_data kind)
  where
    by : (b : Bool) → ◌≡◌ {A = Option ℕ} (cond b None None) None
    by true = refl
    by false = refl

-- it is FrameH itself
pub upper-header : (held : List Entry) (s : Collected) (kind : Kind) (n : ℕ) → IsHeader held s n
    → false ≡ is_under_raw_data kind → Some n ≡ upper (frame_of held s) kind
upper-header held s kind n header not_raw =
    sym (cond-false (is_under_raw_data kind) (option_and_then (head (frame_of held s) raw_data)
    (header_of (frame_of held s))) (header_of (frame_of held s)) (sym not_raw) ∙ header.is)

pub header-upper : (held : List Entry) (s : Collected) (kind : Kind) (n : ℕ) → IsHeader held s n
    → false ≡ is_under_raw_data kind → IsNamed held s (upper_of kind) n
header-upper held s kind n header not_raw =
    subst (λ name. IsNamed held s name n)
    (sym (cond-false (is_under_raw_data kind) raw_data frame_header (sym not_raw))) header.named

-- or the FrRawData under it
pub upper-raw : (held : List Entry) (plans : Layouts) (layouts : ChannelLayouts) (s : Collected) (kind : Kind)
    (n : ℕ)
    → AreOf held plans layouts → All (ReadsBy plans s.order) s.nodes → IsHeader held s n
    → true ≡ is_under_raw_data kind
    → upper (frame_of held s) kind ≡ target_by held s raw_data n layouts.raw_data
upper-raw held plans layouts s kind n are reads header raw =
    cond-true (is_under_raw_data kind) (option_and_then (head (frame_of held s) raw_data)
    (header_of (frame_of held s))) (header_of (frame_of held s)) (sym raw)
    ∙ ap (option_and_then (head (frame_of held s) raw_data)) header.is
    ∙ head-is held plans s frame_header raw_data n (plans-of held plans layouts are) reads refl header.named
    ∙ ap (λ (l : ChannelLayouts). target_by held s raw_data n l.raw_data) (sym are.layouts_are)

pub raw-layout : (held : List Entry) (plans : Layouts) (layouts : ChannelLayouts) (to : Head)
    → AreOf held plans layouts
    → layouts.raw_data ≡ Some to → head_in held frame_header raw_data ≡ Some to
raw-layout held plans layouts to are is = ap (λ (l : ChannelLayouts). l.raw_data) (sym are.layouts_are) ∙ is
