-- The bytes of the records of a source, each as it is written alone.
use Rattle.std.proofs.Common.{◌≡◌, ℕ, List, [], Some, IfSome, sym, ap, ◌∙◌, subst}
use Rattle.std.specs.Prelude.{slice_get}
use Rattle.std.specs.Option.{option_map, option_map_or}
use Rattle.type_text.specs.declared.types.Link.{Link}
use Rattle.layout_plan.specs.declared.fields.Field.{Field}
use Rattle.layout_plan.specs.Plans.{plan_of}
use Rattle.link_graph.specs.declared.nodes.Node.{Node}
use Rattle.link_graph.specs.Collected.{Bodied}
use Rattle.link_graph.specs.Graph.{ReadsBy}
use Rattle.frame_content.specs.Labels.{nullified}
use Rattle.contents_table.proofs.ReadRecords.{ArePlansOf}
use Rattle.contents_table.proofs.SomeValues.{map-some, some-and}
use Rattle.canonical_file.specs.Ranges.{AreBytes}
use Rattle.canonical_writer.specs.declared.frame_part.FrameSource.{FrameSource}
use Rattle.canonical_writer.specs.Alike.{IsWrittenAs}
use Rattle.canonical_writer.specs.NewLinks.{link_of, link_to}
use Rattle.canonical_writer.specs.Parts.{IsRecordOf}
use Rattle.canonical_writer.specs.Filled.{IsSource, IsPlacedAt, record_at, last_record}
use Rattle.canonical_writer.proofs.WrittenRecords.{row-written, row-reads, end-written, end-reads}

-- its plans are those of its entries
pub source-plans : (source : FrameSource) → IsSource source → ArePlansOf source.dictionary.now source.plans.now
source-plans source is = record { sound = is.sound; plans_are = is.plans_are }

-- what is written of the record of a number
pub row-bytes : (source : FrameSource) (links : List Link) (n k : ℕ) (node : Node) (fields : List Field)
    (items : List ℕ) → IsPlacedAt source links n k
    → option_map (λ (r : Bodied). r.node) (slice_get source.segment.now.nodes n) ≡ Some node
    → Some fields ≡ plan_of source.plans.now node.class → AreBytes items
    → IfSome (slice_get source.segment.now.nodes n)
    (λ (r : Bodied). IsRecordOf source.segment.now.order fields (link_to source.segment.now.nodes links) r.node.class
    (link_of links n).instance r.body items)
    → IsWrittenAs (record_at source k) items
row-bytes source links n k node fields items placed is_node plan bytes written =
    let s = source.segment.now in let held = source.dictionary.now in let plans = source.plans.now in
    let found = map-some (λ (r : Bodied). r.node) (slice_get s.nodes n) node is_node in
    let are = source-plans source placed.source_is in let can = placed.source_is.can in
    let plan_is = ap (λ (x : Node). plan_of plans x.class) found.2 ∙ sym plan in
    let is_record = subst (λ o. IfSome o (λ (r : Bodied). IsRecordOf s.order fields (link_to s.nodes links) r.node.class
    (link_of links n).instance r.body items)) found.1 written in
    record {
      is = row-written held plans s source.order.now links n k found.0 fields items are can placed.links_are
          placed.number found.1 plan_is bytes is_record;
      reads = row-reads held plans s source.order.now links n k found.0 fields items are can placed.links_are
          placed.number found.1 plan_is bytes is_record;
    }

-- what is written of the end record
pub end-bytes : (source : FrameSource) (class : ℕ) (fields : List Field) (body items : List ℕ) → IsSource source
    → IfSome source.segment.now.end_record (λ (r : Bodied). r.node.class ≡ class)
    → body ≡ option_map_or (λ (r : Bodied). r.body) source.segment.now.end_record []
    → Some fields ≡ plan_of source.plans.now class → AreBytes items
    → IsRecordOf source.segment.now.order fields nullified class 0 body items
    → IsWrittenAs (last_record source) items
end-bytes source class fields body items is named is_body plan bytes written =
    let s = source.segment.now in let held = source.dictionary.now in let plans = source.plans.now in
    let found = some-and s.end_record (ReadsBy plans s.order) is.can.end in
    let r : Bodied = found.0 in let are = source-plans source is in
    let same : r.node.class ≡ class = subst (λ o. IfSome o (λ (r : Bodied). r.node.class ≡ class)) found.1 named in
    let body_is : body ≡ r.body = is_body ∙ ap (λ o. option_map_or (λ (r : Bodied). r.body) o []) found.1 in
    let plan_is = ap (plan_of plans) same ∙ sym plan in
    let is_record = subst (λ class. IsRecordOf s.order fields nullified class 0 r.body items) (sym same)
    (subst (λ body. IsRecordOf s.order fields nullified class 0 body items) body_is written) in
    record {
      is = end-written held plans s source.order.now r fields items are is.can found.1 plan_is bytes is_record;
      reads = end-reads held plans s source.order.now r fields items are is.can found.1 plan_is bytes is_record;
    }
