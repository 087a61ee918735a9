-- Records that are written are those of the frame in its order.
use Rattle.std.proofs.Common.{◌≡◌, ℕ, Some, Ok, List, [], ◌++◌, length, map, unwrap_or, refl, sym}
use Rattle.std.proofs.Common.{ap, ◌∙◌, subst, arith}
use Rattle.std.specs.Prelude.{◌≤◌, ◌+◌, IsSomeAnd, slice_get}
use Rattle.std.specs.Option.{option_map_or}
use Rattle.std.specs.Result.{result_ok}
use Rattle.std.proofs.lemmas.List.{length-map, drop_at}
use Rattle.std.proofs.lemmas.List.Elements.{All-drop}
use Rattle.std.proofs.lemmas.Option.{same_Some, slice_get_within}
use Rattle.scalar_types.specs.declared.Order.{Order}
use Rattle.scalar_types.specs.declared.Order.TheVariants.{Little}
use Rattle.frame_head.specs.Structure.{common_bytes}
use Rattle.type_text.specs.declared.types.Link.{Link}
use Rattle.record_values.specs.declared.values.Value.{Value}
use Rattle.record_values.specs.Values.{number_of as value_number}
use Rattle.record_values.specs.Links.{links_in, with_links}
use Rattle.dictionary.specs.declared.entries.Entry.{Entry}
use Rattle.layout_plan.specs.declared.fields.Field.{Field}
use Rattle.layout_plan.specs.Body.{IsBody}
use Rattle.layout_plan.specs.Reading.{body_in}
use Rattle.layout_plan.specs.Layout.{layout_of, AreSound}
use Rattle.layout_plan.specs.Plans.{plan_of}
use Rattle.layout_plan.specs.Written.{with_sums_cleared}
use Rattle.layout_plan.proofs.BodyLemmas.{body_in-again}
use Rattle.rooted_graph.specs.BreadthOrder.{number_of}
use Rattle.rooted_graph.specs.InOrder.{renumbered}
use Rattle.link_graph.specs.Collected.{Bodied, Collected, target_of}
use Rattle.link_graph.specs.Graph.{Layouts, ReadsBy, links_by}
use Rattle.frame_content.specs.Labels.{Label, no_label, unlinked, nullified, printed_entry}
use Rattle.frame_content.specs.Frames.{Row, Frame, row_at, label_of, frame_of}
use Rattle.contents_table.proofs.ReadRecords.{ArePlansOf, IsReadRecord, read-record, entry-class}
use Rattle.canonical_file.specs.Bytes.{body_bytes, structure_bytes}
use Rattle.canonical_file.specs.Ranges.{IsByte, AreBytes}
use Rattle.canonical_file.specs.Ordered.{new_link, new_values, instance_at}
use Rattle.canonical_file.specs.Records.{entry_fields, record_bytes, row_record, end_record}
use Rattle.canonical_file.proofs.Printing.{layout-printed}
use Rattle.canonical_file.proofs.RenumberedLinks.{row-in_order}
use Rattle.canonical_file.proofs.Spelled.{written-is}
use Rattle.canonical_writer.specs.Alike.{ReadAgain}
use Rattle.canonical_writer.specs.NewLinks.{classes_of, AreNewLinks, link_of, link_to}
use Rattle.canonical_writer.specs.Parts.{IsRecordOf, CanBeWritten, frame_in_order}
use Rattle.canonical_writer.proofs.FrameLinks.{IsReadSegment, record-read, row-is, link-in_order, links-there}
use Rattle.canonical_writer.proofs.RelinkedValues.{cleared-few, linked-again, linked-null}
use Rattle.canonical_writer.proofs.SegmentOrders.{breadth-within}

-- ---- what a record holds, as it is written

-- the bytes of a body are bytes
body-bytes : (class instance : ℕ) (again bytes : List ℕ) → AreBytes bytes → bytes ≡ structure_bytes class instance again
    → AreBytes again
body-bytes class instance again bytes all is =
    let head : List ℕ = common_bytes Little
    (record { length = 14 + length again; check = 0; class = class; instance = instance }) in
    subst AreBytes (drop_at head again (length head) refl)
    (All-drop IsByte (length head) (head ++ again) (subst AreBytes is all))

-- the links of a body are those of its values
pub links-read : (order : Order) (fields : List Field) (values : List Value) (tail body : List ℕ) → AreSound 0 fields
    → IsBody order fields values tail body → links_by order fields body ≡ links_in values
links-read order fields values tail body sound is =
    ap (λ found. option_map_or (λ (x : List Value × List ℕ). links_in x.0) (result_ok found) [])
    (body_in-again order fields sound body values tail is)

-- the bytes of a record are its values, with these links
written-by : (held : List Entry) (order : Order) (r : Bodied) (read : IsReadRecord held order r) (links : Link → Link)
    (class instance : ℕ) (fields : List Field) (bytes : List ℕ) → fields ≡ read.fields → AreBytes bytes
    → IsRecordOf order fields links class instance r.body bytes
    → bytes ≡ structure_bytes class instance
    (body_bytes read.fields (with_links (with_sums_cleared read.fields read.values) (map links (links_in read.values))))
written-by held order r read links class instance fields bytes same all is =
    let written = subst (λ fields. IsRecordOf order fields links class instance r.body bytes) same is in
    let values : List Value = with_links (with_sums_cleared read.fields read.values)
    (map links (links_by order read.fields r.body)) in
    written.is
    ∙ ap (structure_bytes class instance) (written-is read.fields values written.again
    (body-bytes class instance written.again bytes all written.is)
    (written.rewritten read.values read.tail read.body)
    ∙ ap (λ ls. body_bytes read.fields (with_links (with_sums_cleared read.fields read.values) (map links ls)))
    (links-read order read.fields read.values read.tail r.body read.sound.sound read.body))

-- and read as these values again
read-by : (held : List Entry) (order : Order) (r : Bodied) (read : IsReadRecord held order r) (links : Link → Link)
    (class instance : ℕ) (fields : List Field) (bytes : List ℕ) → fields ≡ read.fields → AreBytes bytes
    → IsRecordOf order fields links class instance r.body bytes
    → ReadAgain read.fields (with_links (with_sums_cleared read.fields read.values) (map links (links_in read.values)))
read-by held order r read links class instance fields bytes same all is =
    let written = subst (λ fields. IsRecordOf order fields links class instance r.body bytes) same is in
    let values : List Value = with_links (with_sums_cleared read.fields read.values)
    (map links (links_by order read.fields r.body)) in
    let again = written.rewritten read.values read.tail read.body in
    subst (λ ls. ReadAgain read.fields (with_links (with_sums_cleared read.fields read.values) (map links ls)))
    (links-read order read.fields read.values read.tail r.body read.sound.sound read.body)
    (subst (λ bytes. body_in Little read.fields bytes ≡ Ok (values, []))
    (written-is read.fields values written.again (body-bytes class instance written.again bytes all written.is) again)
    again.again)

-- the fields of an entry as it is printed
pub fields-printed : (e : Entry) (fields : List Field) → layout_of e.elements ≡ Some fields
    → fields ≡ entry_fields (printed_entry e)
fields-printed e fields layout = sym (ap (λ o. unwrap_or o []) (layout-printed e.elements ∙ layout))

-- a record of a class by the entry held
record-by : (e : Entry) (class instance : ℕ) (fields : List Field) (values : List Value)
    → layout_of e.elements ≡ Some fields → class ≡ e.class
    → structure_bytes class instance (body_bytes fields values)
    ≡ record_bytes (record { entry = printed_entry e; instance = instance; values = values })
record-by e class instance fields values layout same =
    let is = fields-printed e fields layout in
    λ i. structure_bytes (same i) instance (body_bytes (is i) values)

-- ---- a record of the order

-- what is known of a segment that can be written
pub read-segment : (held : List Entry) (plans : Layouts) (s : Collected) (numbers : List ℕ) → ArePlansOf held plans
    → CanBeWritten held plans s numbers → IsReadSegment held plans s numbers
read-segment held plans s numbers are can = record {
  plans_of = are;
  bodies = can.bodies;
  within = breadth-within plans s numbers can.breadth;
}

-- the row of a record in the order, by what the record holds
pub row-shown : (held : List Entry) (s : Collected) (numbers : List ℕ) (n k : ℕ) (r : Bodied)
    (read : IsReadRecord held s.order r) → slice_get s.nodes n ≡ Some r → number_of numbers n ≡ Some k
    → row_at (frame_in_order held s numbers) k ≡ record {
      label = record {
        entry = printed_entry read.entry;
        values = with_sums_cleared read.fields (map unlinked read.values);
      };
      links = map (renumbered numbers) (map (target_of s.nodes) (links_in read.values));
    }
row-shown held s numbers n k r read there number =
    row-in_order (frame_of held s) numbers n k number
    ∙ ap (λ (r : Row). record { label = r.label; links = map (renumbered numbers) r.links }) (row-is held s n r there)
    ∙ (λ i. record {
      label = read.label_is i;
      links = map (renumbered numbers) (map (target_of s.nodes) (links_in (read.values_are i)));
    })

-- the values of the record with the links that are written
values-written : (held : List Entry) (plans : Layouts) (s : Collected) (numbers : List ℕ) (links : List Link)
    (fields : List Field) (values : List Value) → IsReadSegment held plans s numbers
    → AreNewLinks (classes_of s.nodes) numbers links
    → with_links (with_sums_cleared fields values) (map (link_to s.nodes links) (links_in values))
    ≡ with_links (with_sums_cleared fields (map unlinked values)) (map (new_link (frame_in_order held s numbers))
    (map (renumbered numbers) (map (target_of s.nodes) (links_in values))))
values-written held plans s numbers links fields values is are =
    let new : List Link = map (link_to s.nodes links) (links_in values) in
    let few : length (links_in (with_sums_cleared fields values)) ≤ length new =
    omega (arith, cleared-few fields values, length-map (links_in values) (link_to s.nodes links)) in
    sym (linked-again fields values new few)
    ∙ ap (with_links (with_sums_cleared fields (map unlinked values)))
    (sym (links-there held plans s numbers links (links_in values) is are))

-- the fields of a class are those that its plan has
fields-same : (held : List Entry) (plans : Layouts) (order : Order) (r : Bodied) (fields : List Field)
    (read : IsReadRecord held order r) → ArePlansOf held plans → plan_of plans r.node.class ≡ Some fields
    → fields ≡ read.fields
fields-same held plans order r fields read are plan =
    same_Some fields read.fields (sym plan ∙ are.plans_are r.node.class ∙ read.layout_is)

-- What is written of the record of a number is the record of its place in the order.
pub row-written : (held : List Entry) (plans : Layouts) (s : Collected) (numbers : List ℕ) (links : List Link)
    (n k : ℕ) (r : Bodied) (fields : List Field) (bytes : List ℕ) → ArePlansOf held plans
    → CanBeWritten held plans s numbers → AreNewLinks (classes_of s.nodes) numbers links
    → number_of numbers n ≡ Some k → slice_get s.nodes n ≡ Some r → plan_of plans r.node.class ≡ Some fields
    → AreBytes bytes
    → IsRecordOf s.order fields (link_to s.nodes links) r.node.class (link_of links n).instance r.body bytes
    → bytes ≡ record_bytes (row_record (frame_in_order held s numbers)
    (k, row_at (frame_in_order held s numbers) k))
row-written held plans s numbers links n k r fields bytes are can links_are number there plan all written =
    let is = read-segment held plans s numbers are can in
    let read = record-read held plans s numbers n r is there in
    let f : Frame = frame_in_order held s numbers in
    let class = r.node.class in
    let instance : (link_of links n).instance ≡ instance_at f k =
    ap (λ (l : Link). l.instance)
    (sym (link-in_order held plans s numbers links n is links_are (slice_get_within s.nodes n r there))
    ∙ ap (new_link f) number) in
    written-by held s.order r read (link_to s.nodes links) class (link_of links n).instance fields bytes
    (fields-same held plans s.order r fields read are plan) all written
    ∙ (λ i. structure_bytes class (instance i) (body_bytes read.fields
    (values-written held plans s numbers links read.fields read.values is links_are i)))
    ∙ record-by read.entry class (instance_at f k) read.fields
    (with_links (with_sums_cleared read.fields (map unlinked read.values)) (map (new_link f)
    (map (renumbered numbers) (map (target_of s.nodes) (links_in read.values))))) read.layout
    (entry-class held class read.entry read.there)
    ∙ ap (λ row. record_bytes (row_record f (k, row))) (sym (row-shown held s numbers n k r read there number))

-- Its body reads as its values.
pub row-reads : (held : List Entry) (plans : Layouts) (s : Collected) (numbers : List ℕ) (links : List Link)
    (n k : ℕ) (r : Bodied) (fields : List Field) (bytes : List ℕ) → ArePlansOf held plans
    → CanBeWritten held plans s numbers → AreNewLinks (classes_of s.nodes) numbers links
    → number_of numbers n ≡ Some k → slice_get s.nodes n ≡ Some r → plan_of plans r.node.class ≡ Some fields
    → AreBytes bytes
    → IsRecordOf s.order fields (link_to s.nodes links) r.node.class (link_of links n).instance r.body bytes
    → ReadAgain (entry_fields (row_at (frame_in_order held s numbers) k).label.entry)
    (new_values (frame_in_order held s numbers) (row_at (frame_in_order held s numbers) k))
row-reads held plans s numbers links n k r fields bytes are can links_are number there plan all written =
    let is = read-segment held plans s numbers are can in
    let read = record-read held plans s numbers n r is there in
    let f : Frame = frame_in_order held s numbers in
    let new : List Link =
    map (new_link f) (map (renumbered numbers) (map (target_of s.nodes) (links_in read.values))) in
    subst (λ (row : Row). ReadAgain (entry_fields row.label.entry) (new_values f row))
    (sym (row-shown held s numbers n k r read there number))
    (subst (λ fs. ReadAgain fs (with_links (with_sums_cleared read.fields (map unlinked read.values)) new))
    (fields-printed read.entry read.fields read.layout)
    (subst (ReadAgain read.fields) (values-written held plans s numbers links read.fields read.values is links_are)
    (read-by held s.order r read (link_to s.nodes links) r.node.class (link_of links n).instance fields bytes
    (fields-same held plans s.order r fields read are plan) all written)))

-- ---- the end record

-- What is written of the end record is that of the frame.
pub end-written : (held : List Entry) (plans : Layouts) (s : Collected) (numbers : List ℕ) (r : Bodied)
    (fields : List Field) (bytes : List ℕ) → ArePlansOf held plans → CanBeWritten held plans s numbers
    → s.end_record ≡ Some r → plan_of plans r.node.class ≡ Some fields → AreBytes bytes
    → IsRecordOf s.order fields nullified r.node.class 0 r.body bytes
    → bytes ≡ record_bytes (end_record (frame_in_order held s numbers))
end-written held plans s numbers r fields bytes are can there plan all written =
    let reads : ReadsBy plans s.order r = subst (λ o. IsSomeAnd o (ReadsBy plans s.order)) there can.end in
    let read = read-record held plans s.order r are reads in
    let class = r.node.class in
    let label : (frame_of held s).end
    ≡ record { entry = printed_entry read.entry; values = with_sums_cleared read.fields (map unlinked read.values) } =
    ap (λ o. option_map_or (label_of s.order held) o no_label) there ∙ read.label_is in
    written-by held s.order r read nullified class 0 fields bytes
    (fields-same held plans s.order r fields read are plan) all written
    ∙ ap (λ values. structure_bytes class 0 (body_bytes read.fields values))
    (linked-null s.order (map value_number read.values) read.fields read.values read.body.front read.sound.sums
    read.body.spelled)
    ∙ record-by read.entry class 0 read.fields (with_sums_cleared read.fields (map unlinked read.values)) read.layout
    (entry-class held class read.entry read.there)
    ∙ ap (λ (l : Label). record_bytes (record { entry = l.entry; instance = 0; values = l.values })) (sym label)

-- Its body reads as its values.
pub end-reads : (held : List Entry) (plans : Layouts) (s : Collected) (numbers : List ℕ) (r : Bodied)
    (fields : List Field) (bytes : List ℕ) → ArePlansOf held plans → CanBeWritten held plans s numbers
    → s.end_record ≡ Some r → plan_of plans r.node.class ≡ Some fields → AreBytes bytes
    → IsRecordOf s.order fields nullified r.node.class 0 r.body bytes
    → ReadAgain (entry_fields (frame_in_order held s numbers).end.entry) (frame_in_order held s numbers).end.values
end-reads held plans s numbers r fields bytes are can there plan all written =
    let reads : ReadsBy plans s.order r = subst (λ o. IsSomeAnd o (ReadsBy plans s.order)) there can.end in
    let read = read-record held plans s.order r are reads in
    let label : (frame_of held s).end
    ≡ record { entry = printed_entry read.entry; values = with_sums_cleared read.fields (map unlinked read.values) } =
    ap (λ o. option_map_or (label_of s.order held) o no_label) there ∙ read.label_is in
    subst (λ (l : Label). ReadAgain (entry_fields l.entry) l.values) (sym label)
    (subst (λ fs. ReadAgain fs (with_sums_cleared read.fields (map unlinked read.values)))
    (fields-printed read.entry read.fields read.layout)
    (subst (ReadAgain read.fields) (linked-null s.order (map value_number read.values) read.fields read.values
    read.body.front read.sound.sums read.body.spelled)
    (read-by held s.order r read nullified r.node.class 0 fields bytes
    (fields-same held plans s.order r fields read are plan) all written)))
