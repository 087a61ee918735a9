-- Records of two frames with one entry and one body are alike exactly where their links are written alike.
use Rattle.std.proofs.Common.{◌≡◌, ◌↔◌, ℕ, Bool, true, List, [], Some, IfSome, Result, Ok, map, sym, ap, ◌∙◌, subst}
use Rattle.std.specs.Prelude.{slice_get}
use Rattle.std.specs.Option.{option_map, option_map_or}
use Rattle.std.proofs.lemmas.List.{length-map}
use Rattle.std.proofs.lemmas.Option.{same_Some, slice_get_within}
use Rattle.scalar_types.specs.declared.Order.{Order}
use Rattle.type_text.specs.declared.types.Link.{Link}
use Rattle.record_values.specs.declared.values.Value.{Value}
use Rattle.record_values.specs.Values.{number_of as value_number}
use Rattle.record_values.specs.Links.{links_in, with_links}
use Rattle.dictionary.specs.declared.entries.Entry.{Entry}
use Rattle.layout_plan.specs.declared.fields.Field.{Field}
use Rattle.layout_plan.specs.declared.faults.BodyFault.{BodyFault}
use Rattle.layout_plan.specs.Reading.{body_in}
use Rattle.layout_plan.specs.Written.{with_sums_cleared}
use Rattle.layout_plan.proofs.BodyLemmas.{body_in-again}
use Rattle.link_graph.specs.declared.nodes.Node.{Node}
use Rattle.link_graph.specs.Collected.{Bodied}
use Rattle.link_graph.specs.Graph.{ReadsBy, links_by, links_of}
use Rattle.frame_content.specs.Labels.{Label, no_label, unlinked, printed_entry}
use Rattle.frame_content.specs.Frames.{label_of}
use Rattle.contents_table.proofs.ReadRecords.{IsReadRecord}
use Rattle.contents_table.proofs.SomeValues.{map-some}
use Rattle.canonical_file.specs.Ordered.{new_link, new_values}
use Rattle.canonical_file.specs.Records.{entry_fields, record_bytes}
use Rattle.canonical_writer.specs.declared.frame_part.FrameSource.{FrameSource}
use Rattle.canonical_writer.specs.Alike.{HaveOneBody, RecordsAreAlike}
use Rattle.canonical_writer.specs.Filled.{frame_of, IsSource, IsPlacedAt, record_at, last_record}
use Rattle.canonical_writer.specs.NewLinks.{LeadAlike, link_of, link_to}
use Rattle.canonical_writer.proofs.FrameLinks.{IsReadSegment, record-read, link-in_order, links-there}
use Rattle.canonical_writer.proofs.FrameUses.{row-entry, end-read, end-entry}
use Rattle.canonical_writer.proofs.LinkedRows.{values-told, label-many}
use Rattle.canonical_writer.proofs.RecordBytes.{source-plans}
use Rattle.canonical_writer.proofs.WrittenRecords.{fields-printed, links-read, read-segment, row-shown}

-- ---- one body by one entry

-- what two bodies hold
record HoldOne (fields others : List Field) (values also : List Value) : Type 0 where
  fields_are : fields ≡ others
  values_are : values ≡ also

-- one body in one order, by one entry as it is printed, holds the same values
body-holds : (held also : List Entry) (order other : Order) (r s : Bodied) (one : IsReadRecord held order r)
    (two : IsReadRecord also other s) → order ≡ other → r.body ≡ s.body
    → printed_entry one.entry ≡ printed_entry two.entry
    → HoldOne one.fields two.fields one.values two.values
body-holds held also order other r s one two orders bodies entries = record { fields_are = fields; values_are = values }
  where
    fields : one.fields ≡ two.fields
    fields =
        fields-printed one.entry one.fields one.layout ∙ ap entry_fields entries
        ∙ sym (fields-printed two.entry two.fields two.layout)

    values : one.values ≡ two.values
    values =
        let both : ◌≡◌ {A = Result (List Value × List ℕ) BodyFault} (Ok (one.values, one.tail))
        (Ok (two.values, two.tail)) =
        sym (body_in-again order one.fields one.sound.sound r.body one.values one.tail one.body)
        ∙ (λ i. body_in (orders i) (fields i) (bodies i))
        ∙ body_in-again other two.fields two.sound.sound s.body two.values two.tail two.body in
        let pairs : ◌≡◌ {A = List Value × List ℕ} (one.values, one.tail) (two.values, two.tail) = cc in
        ap (λ (p : List Value × List ℕ). p.0) pairs

-- ---- records in their order

-- what is known of the segment of a source
source-segment : (source : FrameSource) → IsSource source
    → IsReadSegment source.dictionary.now source.plans.now source.segment.now source.order.now
source-segment source is =
    read-segment source.dictionary.now source.plans.now source.segment.now source.order.now (source-plans source is)
    is.can

-- the instance of the record of a number is that of its new link
row-instance : (source : FrameSource) (links : List Link) (n k : ℕ) (r : Bodied) → IsPlacedAt source links n k
    → slice_get source.segment.now.nodes n ≡ Some r → (record_at source k).instance ≡ (link_of links n).instance
row-instance source links n k r placed there =
    let held = source.dictionary.now in let s = source.segment.now in
    ap (λ (l : Link). l.instance)
    (sym (ap (new_link (frame_of source)) placed.number)
    ∙ link-in_order held source.plans.now s source.order.now links n (source-segment source placed.source_is)
    placed.links_are (slice_get_within s.nodes n r there))

-- its values are those of its label, with the new links to where its own lead
row-values : (source : FrameSource) (links : List Link) (n k : ℕ) (r : Bodied) → IsPlacedAt source links n k
    → slice_get source.segment.now.nodes n ≡ Some r
    → (read : IsReadRecord source.dictionary.now source.segment.now.order r)
    → (record_at source k).values ≡ with_links (with_sums_cleared read.fields (map unlinked read.values))
    (map (link_to source.segment.now.nodes links) (links_in read.values))
row-values source links n k r placed there read =
    let held = source.dictionary.now in let s = source.segment.now in
    ap (new_values (frame_of source)) (row-shown held s source.order.now n k r read there placed.number)
    ∙ ap (with_links (with_sums_cleared read.fields (map unlinked read.values)))
    (links-there held source.plans.now s source.order.now links (links_in read.values)
    (source-segment source placed.source_is) placed.links_are)

-- its links are these
row-links : (source : FrameSource) (links : List Link) (n k : ℕ) (r : Bodied) → IsPlacedAt source links n k
    → slice_get source.segment.now.nodes n ≡ Some r
    → (read : IsReadRecord source.dictionary.now source.segment.now.order r)
    → links_in (record_at source k).values
    ≡ map (link_to source.segment.now.nodes links) (links_in read.values)
row-links source links n k r placed there read =
    let s = source.segment.now in
    let new : List Link = map (link_to s.nodes links) (links_in read.values) in
    let many = label-many s.order (map value_number read.values) read.fields read.values read.body.front
    read.sound.sums read.body.spelled in
    ap links_in (row-values source links n k r placed there read)
    ∙ (values-told (with_sums_cleared read.fields (map unlinked read.values)) new
    (length-map (links_in read.values) (link_to s.nodes links) ∙ sym many)).0

-- the links that are read of it by its plan
plan-links : (source : FrameSource) (r : Bodied) → IsSource source
    → (read : IsReadRecord source.dictionary.now source.segment.now.order r)
    → links_of source.plans.now source.segment.now.order r ≡ links_in read.values
plan-links source r is read =
    let order = source.segment.now.order in
    ap (λ o. option_map_or (λ (fields : List Field). links_by order fields r.body) o [])
    (is.plans_are r.node.class ∙ read.layout_is)
    ∙ links-read order read.fields read.values read.tail r.body read.sound.sound read.body

-- Records with one entry, one body and one instance are alike where their links are written alike.
pub rows-alike : (first second : FrameSource) (links others : List Link) (n m k : ℕ) (r s : Bodied)
    → IsPlacedAt first links n k → IsPlacedAt second others m k
    → slice_get first.segment.now.nodes n ≡ Some r → slice_get second.segment.now.nodes m ≡ Some s
    → first.segment.now.order ≡ second.segment.now.order → r.body ≡ s.body
    → (link_of links n).instance ≡ (link_of others m).instance
    → (record_at first k).entry ≡ (record_at second k).entry
    → LeadAlike first.segment.now.nodes links second.segment.now.nodes others
    (links_of first.plans.now first.segment.now.order r)
    ↔ RecordsAreAlike (record_at first k) (record_at second k)
rows-alike first second links others n m k r s placed also there beside orders bodies instances entries = (
  λ lead.
      let values = row-values first links n k r placed there one
      ∙ (λ i. with_links (with_sums_cleared (same.fields_are i) (map unlinked (same.values_are i))) (written lead i))
      ∙ sym (row-values second others m k s also beside two) in
      let instance = row-instance first links n k r placed there ∙ instances
      ∙ sym (row-instance second others m k s also beside) in
      record {
        entry = entries;
        values = values;
        bytes = λ i. record_bytes (record { entry = entries i; instance = instance i; values = values i });
      },
  λ alike.
      ap (map (link_to first.segment.now.nodes links)) read
      ∙ sym (row-links first links n k r placed there one) ∙ ap links_in alike.values
      ∙ row-links second others m k s also beside two
      ∙ ap (map (link_to second.segment.now.nodes others)) (ap links_in (sym same.values_are) ∙ sym read),
)
  where
    one : IsReadRecord first.dictionary.now first.segment.now.order r
    one =
        record-read first.dictionary.now first.plans.now first.segment.now first.order.now n r
        (source-segment first placed.source_is) there

    two : IsReadRecord second.dictionary.now second.segment.now.order s
    two =
        record-read second.dictionary.now second.plans.now second.segment.now second.order.now m s
        (source-segment second also.source_is) beside

    same : HoldOne one.fields two.fields one.values two.values
    same =
        body-holds first.dictionary.now second.dictionary.now first.segment.now.order second.segment.now.order r s one
        two orders bodies
        (sym (row-entry first links n k r placed there one) ∙ entries ∙ row-entry second others m k s also beside two)

    read : links_of first.plans.now first.segment.now.order r ≡ links_in one.values
    read = plan-links first r placed.source_is one

    written : LeadAlike first.segment.now.nodes links second.segment.now.nodes others
        (links_of first.plans.now first.segment.now.order r)
        → map (link_to first.segment.now.nodes links) (links_in one.values)
        ≡ map (link_to second.segment.now.nodes others) (links_in two.values)
    written lead =
        ap (map (link_to first.segment.now.nodes links)) (sym read) ∙ lead
        ∙ ap (map (link_to second.segment.now.nodes others)) (read ∙ ap links_in same.values_are)

-- The test of the links tells of the records of two numbers whether they are alike.
pub found-alike : (first second : FrameSource) (links others : List Link) (n m k : ℕ) (node other : Node) (test : Bool)
    → IsPlacedAt first links n k → IsPlacedAt second others m k
    → option_map (λ (r : Bodied). r.node) (slice_get first.segment.now.nodes n) ≡ Some node
    → option_map (λ (r : Bodied). r.node) (slice_get second.segment.now.nodes m) ≡ Some other
    → HaveOneBody first.segment.now links n second.segment.now others m
    → (record_at first k).entry ≡ (record_at second k).entry
    → IfSome (slice_get first.segment.now.nodes n) (λ (r : Bodied). (test ≡ true)
    ↔ LeadAlike first.segment.now.nodes links second.segment.now.nodes others
    (links_of first.plans.now first.segment.now.order r))
    → (test ≡ true) ↔ RecordsAreAlike (record_at first k) (record_at second k)
found-alike first second links others n m k node other test placed also is_node is_other one entries told =
    let s = first.segment.now in let t = second.segment.now in
    let found = map-some (λ (r : Bodied). r.node) (slice_get s.nodes n) node is_node in
    let beside = map-some (λ (r : Bodied). r.node) (slice_get t.nodes m) other is_other in
    let bodies : found.0.body ≡ beside.0.body = same_Some found.0.body beside.0.body
    (sym (ap (option_map (λ (r : Bodied). r.body)) found.1) ∙ one.body
    ∙ ap (option_map (λ (r : Bodied). r.body)) beside.1) in
    let exact = rows-alike first second links others n m k found.0 beside.0 placed also found.1 beside.1 one.order
    bodies one.instance entries in
    let lead = subst (λ o. IfSome o (λ (r : Bodied). (test ≡ true)
    ↔ LeadAlike s.nodes links t.nodes others (links_of first.plans.now s.order r))) found.1 told in
    (λ is. exact.0 (lead.0 is), λ alike. lead.1 (exact.1 alike))

-- ---- end records

-- the label of an end record
end-label : (source : FrameSource) (r : Bodied) → source.segment.now.end_record ≡ Some r
    → (read : IsReadRecord source.dictionary.now source.segment.now.order r)
    → (frame_of source).end
    ≡ record { entry = printed_entry read.entry; values = with_sums_cleared read.fields (map unlinked read.values) }
end-label source r there read =
    ap (λ o. option_map_or (label_of source.segment.now.order source.dictionary.now) o no_label) there ∙ read.label_is

-- End records with one entry and one body are alike.
pub ends-alike : (first second : FrameSource) (r s : Bodied) → IsSource first → IsSource second
    → first.segment.now.end_record ≡ Some r → second.segment.now.end_record ≡ Some s
    → ReadsBy first.plans.now first.segment.now.order r → ReadsBy second.plans.now second.segment.now.order s
    → first.segment.now.order ≡ second.segment.now.order → r.body ≡ s.body
    → (last_record first).entry ≡ (last_record second).entry
    → RecordsAreAlike (last_record first) (last_record second)
ends-alike first second r s is also there beside reads other orders bodies entries =
    let values : (last_record first).values ≡ (last_record second).values =
    ap (λ (l : Label). l.values) (end-label first r there one)
    ∙ (λ i. with_sums_cleared (same.fields_are i) (map unlinked (same.values_are i)))
    ∙ sym (ap (λ (l : Label). l.values) (end-label second s beside two)) in
    record {
      entry = entries;
      values = values;
      bytes = λ i. record_bytes (record { entry = entries i; instance = 0; values = values i });
    }
  where
    one : IsReadRecord first.dictionary.now first.segment.now.order r
    one = end-read first r is reads

    two : IsReadRecord second.dictionary.now second.segment.now.order s
    two = end-read second s also other

    same : HoldOne one.fields two.fields one.values two.values
    same =
        body-holds first.dictionary.now second.dictionary.now first.segment.now.order second.segment.now.order r s one
        two orders bodies (sym (end-entry first r there one) ∙ entries ∙ end-entry second s beside two)
