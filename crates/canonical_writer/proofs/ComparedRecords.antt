-- Records of two files are alike where they have one entry and are written as the same bytes.
use Rattle.std.proofs.Common.{◌≡◌, ◌↔◌, ℕ, ◌+◌, ◌<◌, Bool, true, List, [], Some, Result, Ok, IsSomeAnd, length, drop}
use Rattle.std.proofs.Common.{sym, ap, ◌∙◌}
use Rattle.std.proofs.Common.{subst}
use Rattle.std.specs.Prelude.{slice_get}
use Rattle.std.specs.Option.{option_map}
use Rattle.std.specs.Str.{bytes_eq}
use Rattle.std.proofs.lemmas.List.{drop_at}
use Rattle.std.proofs.lemmas.Slice.Eq.{bytes_eq-Decides}
use Rattle.scalar_types.specs.declared.Order.TheVariants.{Little}
use Rattle.frame_head.specs.declared.structure.Common.{Common}
use Rattle.frame_head.specs.Structure.{common_bytes}
use Rattle.frame_head.proofs.CommonBytes.{common_bytes-length}
use Rattle.type_text.specs.declared.types.Link.{Link}
use Rattle.record_values.specs.declared.values.Value.{Value}
use Rattle.dictionary.specs.declared.entries.Entry.{Entry}
use Rattle.dictionary.specs.Dictionary.{entry_of}
use Rattle.layout_plan.specs.declared.faults.BodyFault.{BodyFault}
use Rattle.layout_plan.specs.Reading.{body_in}
use Rattle.rooted_graph.proofs.Places.{number_at}
use Rattle.link_graph.specs.declared.nodes.Node.{Node}
use Rattle.link_graph.specs.Collected.{Bodied}
use Rattle.frame_content.specs.Labels.{printed_entry}
use Rattle.contents_table.proofs.ReadRecords.{entry-class}
use Rattle.contents_table.proofs.LinkEnds.{record-at}
use Rattle.contents_table.proofs.SomeValues.{map-some}
use Rattle.canonical_file.specs.Bytes.{body_bytes}
use Rattle.canonical_file.specs.Records.{Record, entry_fields, record_bytes}
use Rattle.canonical_writer.specs.declared.frame_part.FrameSource.{FrameSource}
use Rattle.canonical_writer.specs.Alike.{HaveOneEntry, IsWrittenAs, RecordsAreAlike}
use Rattle.canonical_writer.specs.Filled.{IsSource, IsPlacedAt, record_at, last_record}
use Rattle.canonical_writer.proofs.FrameUses.{row-entry, end-there, end-read, end-entry}
use Rattle.canonical_writer.proofs.RecordBytes.{source-plans}
use Rattle.canonical_writer.proofs.SegmentOrders.{breadth-within}

-- ---- entries

-- the record has the entry that is held of a class
pub record HasEntry (held : List Entry) (class : ℕ) (r : Record) : Type 0 where
  pub entry : Entry
  pub there : entry_of held class ≡ Some entry
  pub is : r.entry ≡ printed_entry entry

pub row-has : (source : FrameSource) (links : List Link) (n k : ℕ) (node : Node) → IsPlacedAt source links n k
    → option_map (λ (r : Bodied). r.node) (slice_get source.segment.now.nodes n) ≡ Some node
    → HasEntry source.dictionary.now node.class (record_at source k)
row-has source links n k node placed is_node =
    let s = source.segment.now in let held = source.dictionary.now in
    let found = map-some (λ (r : Bodied). r.node) (slice_get s.nodes n) node is_node in
    let read = (record-at held source.plans.now s n found.0 (source-plans source placed.source_is)
    placed.source_is.can.bodies found.1).read in
    record {
      entry = read.entry;
      there = ap (λ (x : Node). entry_of held x.class) (sym found.2) ∙ read.there;
      is = row-entry source links n k found.0 placed found.1 read;
    }

pub end-has : (source : FrameSource) (node : Node) → IsSource source
    → option_map (λ (r : Bodied). r.node) source.segment.now.end_record ≡ Some node
    → HasEntry source.dictionary.now node.class (last_record source)
end-has source node is is_node =
    let found = end-there source node is is_node in
    let read = end-read source found.0 is found.3 in
    record {
      entry = read.entry;
      there = ap (λ (x : Node). entry_of source.dictionary.now x.class) (sym found.2) ∙ read.there;
      is = end-entry source found.0 found.1 read;
    }

-- records with one entry are of one class
pub one-class : (held other : List Entry) (class also : ℕ) (r s : Record) → HasEntry held class r
    → HasEntry other also s → r.entry ≡ s.entry → class ≡ also
one-class held other class also r s one two same =
    entry-class held class one.entry one.there ∙ ap (λ (e : Entry). e.class) (sym one.is ∙ same ∙ two.is)
    ∙ sym (entry-class other also two.entry two.there)

-- records of one class have one entry where both files have
pub one-entry : (held other : List Entry) (class : ℕ) (r s : Record) → HasEntry held class r → HasEntry other class s
    → HaveOneEntry held other class → r.entry ≡ s.entry
one-entry held other class r s one two have =
    let both : IsSomeAnd (Some one.entry) (λ e. IsSomeAnd (Some two.entry) (λ o. printed_entry e ≡ printed_entry o)) =
    subst (λ found. IsSomeAnd (Some one.entry) (λ e. IsSomeAnd found (λ o. printed_entry e ≡ printed_entry o)))
    two.there
    (subst (λ found. IsSomeAnd found (λ e. IsSomeAnd (entry_of other class) (λ o. printed_entry e ≡ printed_entry o)))
    one.there have) in
    one.is ∙ both ∙ sym two.is

pub entry-one : (held other : List Entry) (class : ℕ) (r s : Record) → HasEntry held class r → HasEntry other class s
    → r.entry ≡ s.entry → HaveOneEntry held other class
entry-one held other class r s one two same =
    subst (λ found. IsSomeAnd found (λ e. IsSomeAnd (entry_of other class) (λ o. printed_entry e ≡ printed_entry o)))
    (sym one.there)
    (subst (λ found. IsSomeAnd (Some one.entry) (λ e. IsSomeAnd found (λ o. printed_entry e ≡ printed_entry o)))
    (sym two.there) (sym one.is ∙ same ∙ two.is))

-- ---- bytes

-- records that are written so hold the same values
values-same : (r s : Record) (xs ys : List ℕ) → IsWrittenAs r xs → IsWrittenAs s ys → r.entry ≡ s.entry → xs ≡ ys
    → r.values ≡ s.values
values-same r s xs ys one two entry same =
    let both : ◌≡◌ {A = Result (List Value × List ℕ) BodyFault} (Ok (r.values, [])) (Ok (s.values, [])) =
    sym one.reads ∙ (λ i. body_in Little (entry_fields (entry i)) (bodies i)) ∙ two.reads in
    let pairs : ◌≡◌ {A = List Value × List ℕ} (r.values, []) (s.values, []) = cc in
    ap (λ (p : List Value × List ℕ). p.0) pairs
  where
    body : Record → List ℕ
    body r = body_bytes (entry_fields r.entry) r.values

    behind : (r : Record) → drop 14 (record_bytes r) ≡ body r
    behind r =
        let common : Common = record {
          length = 14 + length (body r);
          check = 0;
          class = r.entry.class;
          instance = r.instance;
        } in
        drop_at (common_bytes Little common) (body r) 14 (common_bytes-length Little common)

    bodies : body r ≡ body s
    bodies = sym (behind r) ∙ ap (drop 14) (sym one.is ∙ same ∙ two.is) ∙ behind s

-- records with one entry are alike where their bytes are
pub bytes-alike : (r s : Record) (xs ys : List ℕ) (test : Bool) → r.entry ≡ s.entry → IsWrittenAs r xs
    → IsWrittenAs s ys → test ≡ bytes_eq xs ys → (test ≡ true) ↔ RecordsAreAlike r s
bytes-alike r s xs ys test entry one two is =
    let exact = bytes_eq-Decides xs ys in (
      λ t. let same = exact.0 (sym is ∙ t) in record {
        entry = entry;
        values = values-same r s xs ys one two entry same;
        bytes = sym one.is ∙ same ∙ two.is;
      },
      λ alike. is ∙ exact.1 (one.is ∙ alike.bytes ∙ sym two.is),
    )

-- ---- numbers

-- the number of a record in the order is that of a record
pub placed-within : (source : FrameSource) (links : List Link) (n k : ℕ) → IsPlacedAt source links n k
    → n < length source.segment.now.nodes
placed-within source links n k placed =
    let number = number_at source.order.now n k placed.number in
    subst (λ m. m < length source.segment.now.nodes) number.1
    (breadth-within source.plans.now source.segment.now source.order.now placed.source_is.can.breadth k 0 number.0)
