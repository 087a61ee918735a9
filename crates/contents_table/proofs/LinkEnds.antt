-- Where the plain links of a frame's records lead.
use Rattle.std.proofs.Common.{◌≡◌, ℕ, ◌<◌, ◌≤◌, Bool, true, false, cond, inl, inr, List, [], length, take, map}
use Rattle.std.proofs.Common.{position}
use Rattle.std.proofs.Common.{Option, Some, None, IfSome, IsSomeAnd, refl, sym, ap, ◌∙◌, subst, arith}
use Rattle.std.specs.Prelude.{◌==◌, option_and_then, slice_get, All}
use Rattle.std.specs.Option.{option_map}
use Rattle.std.specs.Str.{bytes_eq}
use Rattle.std.proofs.lemmas.Bool.{eqb-true, and_parts, false≢true, cond-false}
use Rattle.std.proofs.lemmas.List.{length-map, get_or_past}
use Rattle.std.proofs.lemmas.List.Elements.{All-get_or, All-weaker}
use Rattle.std.proofs.lemmas.Option.{none-some, same_Some, slice_get-map, slice_get_within, slice_get_cases}
use Rattle.std.proofs.lemmas.Option.{get_or_from_slice_get}
use Rattle.scalar_types.specs.declared.Order.{Order}
use Rattle.type_text.specs.declared.types.Link.{Link}
use Rattle.record_values.specs.declared.values.Value.{Value}
use Rattle.record_values.specs.declared.values.Value.TheVariants as value
use Rattle.record_values.specs.Links.{links_in}
use Rattle.dictionary.specs.declared.entries.Entry.{Entry}
use Rattle.dictionary.specs.Dictionary.{class_named, IsDictionary}
use Rattle.layout_plan.specs.declared.fields.Field.{Field}
use Rattle.layout_plan.specs.Body.{number_of, IsBody}
use Rattle.layout_plan.specs.Lent.{HasValueAt, HasPlainLinkAt}
use Rattle.layout_plan.specs.Plans.{plan_of}
use Rattle.layout_plan.proofs.ReadingLemmas.{element-within}
use Rattle.link_graph.specs.declared.nodes.Node.{Node}
use Rattle.link_graph.specs.Collected.{Bodied, Collected, is_named, place_of, target_of}
use Rattle.link_graph.specs.Graph.{Layouts, ReadsBy}
use Rattle.frame_content.specs.Frames.{Row, frame_of, row_of, row_at, label_at, no_row}
use Rattle.contents_table.specs.Channels.{link_number, end_of_link, if_named, target, frame_header}
use Rattle.contents_table.specs.Channels.{is_frame_header, header_of}
use Rattle.contents_table.specs.Layouts.{IsOfClass, IsNamed}
use Rattle.contents_table.proofs.Positions.{position-found, position-map, position-same, position-never}
use Rattle.contents_table.proofs.ReadRecords.{ArePlansOf, IsReadRecord, read-record, named-class, has_class}
use Rattle.contents_table.proofs.ReadRecords.{class-has}
use Rattle.contents_table.proofs.SomeValues.{some-and}
use Rattle.contents_table.proofs.RecordValues.{links-before, link-after}

-- ---- the record of a number

-- a record of a segment that reads
pub record IsRecord (held : List Entry) (s : Collected) (n : ℕ) (r : Bodied) : Type 0 where
  pub at : slice_get s.nodes n ≡ Some r
  pub read : IsReadRecord held s.order r

pub record-at : (held : List Entry) (plans : Layouts) (s : Collected) (n : ℕ) (r : Bodied) → ArePlansOf held plans
    → All (ReadsBy plans s.order) s.nodes → slice_get s.nodes n ≡ Some r → IsRecord held s n r
record-at held plans s n r are reads at = record {
  at = at;
  read = read-record held plans s.order r are (subst (ReadsBy plans s.order)
      (get_or_from_slice_get s.nodes n r r at)
      (All-get_or (ReadsBy plans s.order) s.nodes n r (slice_get_within s.nodes n r at) reads));
}

-- the row of a number is that of its record
pub row-record : (held : List Entry) (s : Collected) (n : ℕ) (r : Bodied) → slice_get s.nodes n ≡ Some r
    → row_at (frame_of held s) n ≡ row_of s.order held s.nodes r
row-record held s n r at =
    get_or_from_slice_get (map (row_of s.order held s.nodes) s.nodes) n (row_of s.order held s.nodes r) no_row
    (slice_get-map (row_of s.order held s.nodes) s.nodes n ∙ ap (option_map (row_of s.order held s.nodes)) at)

-- what is told of a field of its body
pub value-read : (held : List Entry) (plans : Layouts) (s : Collected) (n : ℕ) (r : Bodied) (k : ℕ) (v : Value)
    (order : Order) (fields : List Field) (node : Node) (body : List ℕ) → ArePlansOf held plans
    → (record-of : IsRecord held s n r) → option_map (λ (r : Bodied). r.node) (slice_get s.nodes n) ≡ Some node
    → option_map (λ (r : Bodied). r.body) (slice_get s.nodes n) ≡ Some body → Some fields ≡ plan_of plans node.class
    → order ≡ s.order → HasValueAt order fields body k v → slice_get record-of.read.values k ≡ Some v
value-read held plans s n r k v order fields node body are record-of is_node is_body plan same told =
    told read.values read.tail
    (subst (λ (order : Order). IsBody order fields read.values read.tail body) (sym same)
    (subst (λ fields. IsBody s.order fields read.values read.tail body) fields_are
    (subst (IsBody s.order read.fields read.values read.tail) body_is read.body)))
  where
    read : IsReadRecord held s.order r
    read = record-of.read

    node_is : r.node ≡ node
    node_is = same_Some r.node node (ap (option_map (λ (r : Bodied). r.node)) (sym record-of.at) ∙ is_node)

    body_is : r.body ≡ body
    body_is = same_Some r.body body (ap (option_map (λ (r : Bodied). r.body)) (sym record-of.at) ∙ is_body)

    fields_are : read.fields ≡ fields
    fields_are =
        same_Some read.fields fields
        (sym read.layout_is ∙ sym (are.plans_are r.node.class) ∙ ap (λ (n : Node). plan_of plans n.class) node_is
        ∙ sym plan)

-- whether it has the name
pub name-record : (held : List Entry) (s : Collected) (n : ℕ) (r : Bodied) (name : List ℕ) → IsDictionary held
    → IsRecord held s n r
    → bytes_eq name (label_at (frame_of held s) n).entry.name ≡ has_class r.node.class (class_named held name)
name-record held s n r name sound record-of =
    ap (λ (row : Row). bytes_eq name row.label.entry.name) (row-record held s n r record-of.at)
    ∙ named-class held s.order r name sound record-of.read

-- there is no record past the last one, and what stands for it has no name
row-past : (held : List Entry) (s : Collected) (n : ℕ) → length s.nodes ≤ n → row_at (frame_of held s) n ≡ no_row
row-past held s n le =
    get_or_past (map (row_of s.order held s.nodes) s.nodes) n no_row
    (omega (arith, le, length-map s.nodes (row_of s.order held s.nodes)))

-- a record with a name that is not empty is there, and is of the class of that name
pub named-record : (held : List Entry) (plans : Layouts) (s : Collected) (n : ℕ) (name : List ℕ)
    → ArePlansOf held plans → All (ReadsBy plans s.order) s.nodes → bytes_eq name [] ≡ false
    → bytes_eq name (label_at (frame_of held s) n).entry.name ≡ true → IsNamed held s name n
named-record held plans s n name are reads some is = elim (slice_get_cases s.nodes n).1 [
  | inl (r, lt, at, same) ↦
      let named : has_class r.node.class (class_named held name) ≡ true =
      sym (name-record held s n r name are.sound (record-at held plans s n r are reads at)) ∙ is in
      subst (λ o. IsSomeAnd o (λ (r : Bodied). class_named held name ≡ Some r.node.class)) (sym at)
      (class-has r.node.class (class_named held name) named)
  | inr (le, past) ↦
      absurd (false≢true (sym some
      ∙ ap (λ (row : Row). bytes_eq name row.label.entry.name) (sym (row-past held s n le)) ∙ is))
]

-- where the name has no class, there is none
unnamed-record : (held : List Entry) (plans : Layouts) (s : Collected) (name : List ℕ) (n : ℕ)
    → ArePlansOf held plans → All (ReadsBy plans s.order) s.nodes → bytes_eq name [] ≡ false
    → class_named held name ≡ None → if_named (frame_of held s) name n ≡ None
unnamed-record held plans s name n are reads some none =
    cond-false (bytes_eq name (label_at (frame_of held s) n).entry.name) (Some n) None
    (elim (slice_get_cases s.nodes n).1 [
      | inl (r, lt, at, same) ↦
          name-record held s n r name are.sound (record-at held plans s n r are reads at)
          ∙ ap (has_class r.node.class) none
      | inr (le, past) ↦ ap (λ (row : Row). bytes_eq name row.label.entry.name) (row-past held s n le) ∙ some
    ])

-- ---- the record that a link leads to

pub target-class : (s : Collected) (link : Link) (m : ℕ) → target_of s.nodes link ≡ Some m
    → IsOfClass s link.class m
target-class s link m e = by (link.class == 0) e
  where
    by : (b : Bool) → cond b None (place_of s.nodes link) ≡ Some m → IsOfClass s link.class m
    by true e = absurd (none-some m e)
    by false e =
        let found = position-found (λ (r : Bodied). is_named link r.node) s.nodes m e in
        let node = found.element.node in
        subst (λ o. IsSomeAnd o (λ (r : Bodied). r.node.class ≡ link.class)) (sym found.is)
        (eqb-true node.class link.class
        (and_parts (node.class == link.class) (node.instance == link.instance) found.passes).0)

pub target-of-class : (s : Collected) (link : Link) (class : ℕ) (found : Option ℕ) → found ≡ target_of s.nodes link
    → link.class ≡ class → IfSome found (IsOfClass s class)
target-of-class s link class None found is = tt
target-of-class s link class (Some m) found is =
    subst (λ class. IsOfClass s class m) is (target-class s link m (sym found))

-- the link of a field leads to its target
end-of-link : (held : List Entry) (s : Collected) (n : ℕ) (r : Bodied) (field : ℕ) (link : Link)
    (record-of : IsRecord held s n r) → slice_get record-of.read.values field ≡ Some (value.Link link)
    → end_of_link (frame_of held s) n field ≡ target_of s.nodes link
end-of-link held s n r field link record-of is =
    ap (λ (row : Row). option_and_then (λ to. to) (slice_get row.links (link_number row.label field)))
    (row-record held s n r record-of.at)
    ∙ (λ i. at (links_in (read.values_are i)) (link_number (read.label_is i) field))
    ∙ ap (at (links_in read.values))
    (links-before s.order (map number_of read.values) read.fields read.values read.body.front field read.sound.sums
    read.body.spelled)
    ∙ ap (option_and_then (λ to. to))
    (slice_get-map (target_of s.nodes) (links_in read.values) (length (links_in (take field read.values)))
    ∙ ap (option_map (target_of s.nodes)) (link-after read.values field link is))
  where
    read : IsReadRecord held s.order r
    read = record-of.read

    at : List Link → ℕ → Option ℕ
    at links k = option_and_then (λ to. to) (slice_get (map (target_of s.nodes) links) k)

pub target-is : (held : List Entry) (plans : Layouts) (s : Collected) (n : ℕ) (r : Bodied) (field : ℕ) (link : Link)
    (name : List ℕ) (class : ℕ) → ArePlansOf held plans → All (ReadsBy plans s.order) s.nodes
    → (record-of : IsRecord held s n r) → slice_get record-of.read.values field ≡ Some (value.Link link)
    → class_named held name ≡ Some class
    → target (frame_of held s) name n (Some field) ≡ cond (link.class == class) (target_of s.nodes link) None
target-is held plans s n r field link name class are reads record-of is named =
    ap (option_and_then (if_named (frame_of held s) name)) (end-of-link held s n r field link record-of is)
    ∙ by (target_of s.nodes link) refl
  where
    none : (b : Bool) → ◌≡◌ {A = Option ℕ} None (cond b None None)
    none true = refl
    none false = refl

    by : (o : Option ℕ) → target_of s.nodes link ≡ o
        → option_and_then (if_named (frame_of held s) name) o ≡ cond (link.class == class) o None
    by None e = none (link.class == class)
    by (Some m) e =
        let to = some-and (slice_get s.nodes m) (λ (r : Bodied). r.node.class ≡ link.class)
        (target-class s link m e) in
        ap (λ b. cond b (Some m) None)
        (name-record held s m to.0 name are.sound (record-at held plans s m to.0 are reads to.1)
        ∙ ap (has_class to.0.node.class) named ∙ ap (λ c. c == class) to.2)

-- the same by what is told of the record
pub target-told : (held : List Entry) (plans : Layouts) (s : Collected) (n field : ℕ) (link : Link) (name : List ℕ)
    (class : ℕ) (order : Order) (fields : List Field) (node : Node) (body : List ℕ) → ArePlansOf held plans
    → All (ReadsBy plans s.order) s.nodes → n < length s.nodes
    → option_map (λ (r : Bodied). r.node) (slice_get s.nodes n) ≡ Some node
    → option_map (λ (r : Bodied). r.body) (slice_get s.nodes n) ≡ Some body → Some fields ≡ plan_of plans node.class
    → order ≡ s.order → HasPlainLinkAt order fields body field link → class_named held name ≡ Some class
    → target (frame_of held s) name n (Some field) ≡ cond (link.class == class) (target_of s.nodes link) None
target-told held plans s n field link name class order fields node body are reads lt is_node is_body plan same told
    named =
    let r = element-within s.nodes n lt in
    let record-of = record-at held plans s n r.0 are reads r.1 in
    target-is held plans s n r.0 field link name class are reads record-of
    (value-read held plans s n r.0 field (value.Link link) order fields node body are record-of is_node is_body plan
    same told) named

-- one to a structure that is not in the dictionary leads nowhere
pub target-unnamed : (held : List Entry) (plans : Layouts) (s : Collected) (n : ℕ) (name : List ℕ)
    (field : Option ℕ)
    → ArePlansOf held plans → All (ReadsBy plans s.order) s.nodes → bytes_eq name [] ≡ false
    → class_named held name ≡ None → target (frame_of held s) name n field ≡ None
target-unnamed held plans s n name field are reads some none =
    by (option_and_then (end_of_link (frame_of held s) n) field)
  where
    by : (o : Option ℕ) → option_and_then (if_named (frame_of held s) name) o ≡ None
    by None = refl
    by (Some m) = unnamed-record held plans s name m are reads some none

-- ---- the record that describes the frame

pub header-is : (held : List Entry) (plans : Layouts) (s : Collected) → ArePlansOf held plans
    → All (ReadsBy plans s.order) s.nodes
    → header_of (frame_of held s)
    ≡ option_and_then (λ class. position (λ (r : Bodied). r.node.class == class) s.nodes)
    (class_named held frame_header)
header-is held plans s are reads =
    position-map is_frame_header (row_of s.order held s.nodes) s.nodes
    ∙ position-same (λ (r : Bodied). is_frame_header (row_of s.order held s.nodes r))
    (λ (r : Bodied). has_class r.node.class (class_named held frame_header)) s.nodes
    (All-weaker (ReadsBy plans s.order)
    (λ (r : Bodied). is_frame_header (row_of s.order held s.nodes r)
    ≡ has_class r.node.class (class_named held frame_header))
    (λ r one. named-class held s.order r frame_header are.sound (read-record held plans s.order r are one))
    s.nodes reads)
    ∙ by (class_named held frame_header)
  where
    by : (o : Option ℕ) → position (λ (r : Bodied). has_class r.node.class o) s.nodes
        ≡ option_and_then (λ class. position (λ (r : Bodied). r.node.class == class) s.nodes) o
    by None = position-never (λ (r : Bodied). false) s.nodes (λ k d lt. refl)
    by (Some class) = refl
