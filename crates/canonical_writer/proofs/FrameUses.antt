-- The records of a source as they are written after their entries.
use Rattle.std.proofs.Common.{◌≡◌, ℕ, ◌+◌, true, List, [], ◌∷◌, ◌++◌, length, Option, Some, IfSome, IsSomeAnd}
use Rattle.std.proofs.Common.{set, sym, ap, ◌∙◌, subst, append-nil, append_assoc}
use Rattle.std.specs.Prelude.{slice_get}
use Rattle.std.specs.Option.{option_map, option_map_or}
use Rattle.std.proofs.lemmas.List.{get_or-map, length-append}
use Rattle.std.proofs.lemmas.List.Elements.{All-tail}
use Rattle.type_text.specs.declared.types.Link.{Link}
use Rattle.dictionary.specs.declared.entries.Entry.{Entry}
use Rattle.dictionary.specs.Dictionary.{entry_of}
use Rattle.layout_plan.specs.declared.fields.Field.{Field}
use Rattle.layout_plan.specs.Plans.{plan_of}
use Rattle.link_graph.specs.declared.nodes.Node.{Node}
use Rattle.link_graph.specs.Collected.{Bodied}
use Rattle.link_graph.specs.Graph.{ReadsBy}
use Rattle.rooted_graph.proofs.Places.{number_at}
use Rattle.frame_content.specs.Labels.{Label, no_label, nullified, printed_entry}
use Rattle.frame_content.specs.Frames.{Frame, Row, no_row, label_at, label_of}
use Rattle.frame_content.specs.Frames.{frame_of as segment_frame}
use Rattle.contents_table.proofs.ReadRecords.{IsReadRecord, read-record}
use Rattle.contents_table.proofs.LinkEnds.{record-at, row-record}
use Rattle.contents_table.proofs.SomeValues.{map-some}
use Rattle.canonical_file.specs.declared.closing.Closing.{Closing}
use Rattle.canonical_file.specs.Ranges.{IsByte, AreBytes}
use Rattle.canonical_file.specs.Ordered.{row_in}
use Rattle.canonical_file.specs.Records.{record_bytes, new_entry}
use Rattle.canonical_file.specs.Splices.{clashes}
use Rattle.canonical_writer.specs.declared.frame_part.FrameSource.{FrameSource}
use Rattle.canonical_writer.specs.declared.frame_part.FramePart.{FramePart}
use Rattle.canonical_writer.specs.NewLinks.{link_of, link_to}
use Rattle.canonical_writer.specs.Parts.{IsRecordOf, IsReady, IsShortEntry}
use Rattle.canonical_writer.specs.Filled.{IsSource, IsPlacedAt, Uses, UsesRecord, record_at, last_record}
use Rattle.canonical_writer.specs.Filled.{place_after}
use Rattle.canonical_writer.proofs.RecordBytes.{source-plans, row-bytes, end-bytes}

-- the entry of a record in the order is that of its class
pub row-entry : (source : FrameSource) (links : List Link) (n k : ℕ) (r : Bodied) → IsPlacedAt source links n k
    → slice_get source.segment.now.nodes n ≡ Some r
    → (read : IsReadRecord source.dictionary.now source.segment.now.order r)
    → (record_at source k).entry ≡ printed_entry read.entry
row-entry source links n k r placed there read =
    let held = source.dictionary.now in let s = source.segment.now in let f : Frame = segment_frame held s in
    let number = number_at source.order.now n k placed.number in
    ap (λ (row : Row). row.label.entry)
    (get_or-map (row_in f source.order.now) source.order.now k 0 no_row number.0)
    ∙ ap (λ n. (label_at f n).entry) number.1
    ∙ ap (λ (row : Row). row.label.entry) (row-record held s n r there)
    ∙ ap (λ (l : Label). l.entry) read.label_is

-- bytes behind an entry
pub uses-more : (closing : Option Closing) (used after held : List Entry) (e : Entry) (items : List ℕ)
    (old mid new : FramePart) → Uses closing used after held e [] old mid → new.bytes.items ≡ mid.bytes.items ++ items
    → new.met ≡ mid.met → Uses closing used after held e items old new
uses-more closing used after held e items old mid new uses more met = record {
  bytes_are = more ∙ ap (λ xs. xs ++ items)
      (uses.bytes_are ∙ ap (λ xs. old.bytes.items ++ xs) (append-nil (new_entry used e)))
      ∙ append_assoc old.bytes.items (new_entry used e) items;
  entries = uses.entries;
  no_clash = uses.no_clash;
  ready = subst (λ m. IsReady m closing after held) (sym met) uses.ready;
}

-- what an entry of a class does in a source
abbrev pub UsesClass : Option Closing → List Entry → List Entry → FrameSource → ℕ → FramePart → FramePart → Type 0
UsesClass closing used after source class old mid =
    (e : Entry) → entry_of source.dictionary.now class ≡ Some e → IsShortEntry e
    → Uses closing used after source.dictionary.now (printed_entry e) [] old mid

-- A record is used.
pub row-uses : (closing : Option Closing) (used after : List Entry) (source : FrameSource) (links : List Link) (n k : ℕ)
    (node : Node) (fields : List Field) (items : List ℕ) (old mid new : FramePart) → IsPlacedAt source links n k
    → option_map (λ (r : Bodied). r.node) (slice_get source.segment.now.nodes n) ≡ Some node
    → Some fields ≡ plan_of source.plans.now node.class
    → UsesClass closing used after source node.class old mid
    → new.bytes.items ≡ mid.bytes.items ++ items → new.met ≡ mid.met → AreBytes items
    → IfSome (slice_get source.segment.now.nodes n)
    (λ (r : Bodied). IsRecordOf source.segment.now.order fields (link_to source.segment.now.nodes links) r.node.class
    (link_of links n).instance r.body items)
    → UsesRecord closing used after source.dictionary.now (record_at source k) old new
row-uses closing used after source links n k node fields items old mid new placed is_node plan uses more met bytes written =
    let s = source.segment.now in let held = source.dictionary.now in
    let found = map-some (λ (r : Bodied). r.node) (slice_get s.nodes n) node is_node in
    let r : Bodied = found.0 in let there = found.1 in
    let read = (record-at held source.plans.now s n r (source-plans source placed.source_is) placed.source_is.can.bodies
    there).read in
    let e : Entry = read.entry in
    let entry_is = row-entry source links n k r placed there read in
    let class_is : entry_of held node.class ≡ Some e = ap (λ (x : Node). entry_of held x.class) (sym found.2)
    ∙ read.there in
    let one = uses e class_is (placed.source_is.can.texts node.class e class_is) in
    let two = uses-more closing used after held (printed_entry e) items old mid new one more met in
    let items_are : items ≡ record_bytes (record_at source k) =
    (row-bytes source links n k node fields items placed is_node plan bytes written).is in
    subst (λ (e : Entry). Uses closing used after held e (record_bytes (record_at source k)) old new) (sym entry_is)
    (subst (λ xs. Uses closing used after held (printed_entry e) xs old new) items_are two)

-- where it stands
pub row-place : (closing : Option Closing) (used after : List Entry) (source : FrameSource) (links : List Link)
    (n k at : ℕ) (node : Node) (old mid : FramePart) (places : List ℕ) → IsPlacedAt source links n k
    → option_map (λ (r : Bodied). r.node) (slice_get source.segment.now.nodes n) ≡ Some node
    → UsesClass closing used after source node.class old mid
    → places ≡ set old.places.items n (at + length mid.bytes.items)
    → places ≡ set old.places.items n (place_after at used (record_at source k) old)
row-place closing used after source links n k at node old mid places placed is_node uses are =
    let s = source.segment.now in let held = source.dictionary.now in
    let found = map-some (λ (r : Bodied). r.node) (slice_get s.nodes n) node is_node in
    let r : Bodied = found.0 in let there = found.1 in
    let read = (record-at held source.plans.now s n r (source-plans source placed.source_is) placed.source_is.can.bodies
    there).read in
    let e : Entry = read.entry in
    let class_is : entry_of held node.class ≡ Some e = ap (λ (x : Node). entry_of held x.class) (sym found.2)
    ∙ read.there in
    let one = uses e class_is (placed.source_is.can.texts node.class e class_is) in
    let entry_is = row-entry source links n k r placed there read in
    let size : length mid.bytes.items ≡ length old.bytes.items + length (new_entry used (printed_entry e)) =
    ap length one.bytes_are
    ∙ length-append old.bytes.items (new_entry used (printed_entry e) ++ [])
    ∙ ap (λ xs. length old.bytes.items + length xs) (append-nil (new_entry used (printed_entry e))) in
    are ∙ ap (λ m. set old.places.items n (at + m))
    (size ∙ ap (λ (e : Entry). length old.bytes.items + length (new_entry used e)) (sym entry_is))

-- an entry of a record's class that clashes is the record's
pub row-clash : (used : List Entry) (source : FrameSource) (links : List Link) (n k class : ℕ) (node : Node)
    → IsPlacedAt source links n k
    → option_map (λ (r : Bodied). r.node) (slice_get source.segment.now.nodes n) ≡ Some node
    → ((e : Entry) → entry_of source.dictionary.now node.class ≡ Some e
    → (class ≡ e.class) × (clashes used (printed_entry e) ≡ true))
    → (class ≡ (record_at source k).entry.class) × (clashes used (record_at source k).entry ≡ true)
row-clash used source links n k class node placed is_node clash =
    let s = source.segment.now in let held = source.dictionary.now in
    let found = map-some (λ (r : Bodied). r.node) (slice_get s.nodes n) node is_node in
    let r : Bodied = found.0 in let there = found.1 in
    let read = (record-at held source.plans.now s n r (source-plans source placed.source_is) placed.source_is.can.bodies
    there).read in
    let e : Entry = read.entry in
    let class_is : entry_of held node.class ≡ Some e = ap (λ (x : Node). entry_of held x.class) (sym found.2)
    ∙ read.there in
    let entry_is = row-entry source links n k r placed there read in
    let told = clash e class_is in
    (told.0 ∙ ap (λ (e : Entry). e.class) (sym entry_is), ap (clashes used) entry_is ∙ told.1)

-- what stands behind others among bytes are bytes
pub bytes-behind : (front items whole : List ℕ) → whole ≡ front ++ items → AreBytes whole → AreBytes items
bytes-behind front items whole is all = behind front (subst AreBytes is all)
  where
    behind : (front : List ℕ) → AreBytes (front ++ items) → AreBytes items
    behind [] all = all
    behind (x ∷ xs) all = behind xs (All-tail IsByte x (xs ++ items) all)

-- ---- the end record

pub end-there : (source : FrameSource) (node : Node) → IsSource source
    → option_map (λ (r : Bodied). r.node) source.segment.now.end_record ≡ Some node
    → (r : Bodied) × (source.segment.now.end_record ≡ Some r) × (r.node ≡ node)
    × ReadsBy source.plans.now source.segment.now.order r
end-there source node is is_node =
    let s = source.segment.now in let plans = source.plans.now in
    let found = map-some (λ (r : Bodied). r.node) s.end_record node is_node in
    (found.0, found.1, found.2, subst (λ o. IsSomeAnd o (ReadsBy plans s.order)) found.1 is.can.end)

pub end-read : (source : FrameSource) (r : Bodied) → IsSource source
    → ReadsBy source.plans.now source.segment.now.order r
    → IsReadRecord source.dictionary.now source.segment.now.order r
end-read source r is reads =
    read-record source.dictionary.now source.plans.now source.segment.now.order r (source-plans source is) reads

-- its entry is that of its class
pub end-entry : (source : FrameSource) (r : Bodied) → source.segment.now.end_record ≡ Some r
    → (read : IsReadRecord source.dictionary.now source.segment.now.order r)
    → (last_record source).entry ≡ printed_entry read.entry
end-entry source r there read =
    let s = source.segment.now in let held = source.dictionary.now in
    ap (λ o. (option_map_or (label_of s.order held) o no_label).entry) there ∙ ap (λ (l : Label). l.entry) read.label_is

-- The end record is used.
pub end-uses : (closing : Option Closing) (used after : List Entry) (source : FrameSource) (node : Node)
    (fields : List Field) (body items : List ℕ) (old mid new : FramePart) → IsSource source
    → option_map (λ (r : Bodied). r.node) source.segment.now.end_record ≡ Some node
    → body ≡ option_map_or (λ (r : Bodied). r.body) source.segment.now.end_record []
    → Some fields ≡ plan_of source.plans.now node.class
    → UsesClass closing used after source node.class old mid
    → new.bytes.items ≡ mid.bytes.items ++ items → new.met ≡ mid.met → AreBytes items
    → IsRecordOf source.segment.now.order fields nullified node.class 0 body items
    → UsesRecord closing used after source.dictionary.now (last_record source) old new
end-uses closing used after source node fields body items old mid new is is_node is_body plan uses more met bytes written =
    let s = source.segment.now in let held = source.dictionary.now in
    let found = end-there source node is is_node in
    let r : Bodied = found.0 in
    let read = end-read source r is found.3 in
    let e : Entry = read.entry in
    let class_is : entry_of held node.class ≡ Some e = ap (λ (x : Node). entry_of held x.class) (sym found.2)
    ∙ read.there in
    let two = uses-more closing used after held (printed_entry e) items old mid new
    (uses e class_is (is.can.texts node.class e class_is)) more met in
    let named = subst (λ o. IfSome o (λ (r : Bodied). r.node.class ≡ node.class)) (sym found.1)
    (ap (λ (x : Node). x.class) found.2) in
    let items_are : items ≡ record_bytes (last_record source) =
    (end-bytes source node.class fields body items is named is_body plan bytes written).is in
    subst (λ (e : Entry). Uses closing used after held e (record_bytes (last_record source)) old new)
    (sym (end-entry source r found.1 read))
    (subst (λ xs. Uses closing used after held (printed_entry e) xs old new) items_are two)

pub end-clash : (used : List Entry) (source : FrameSource) (class : ℕ) (node : Node) → IsSource source
    → option_map (λ (r : Bodied). r.node) source.segment.now.end_record ≡ Some node
    → ((e : Entry) → entry_of source.dictionary.now node.class ≡ Some e
    → (class ≡ e.class) × (clashes used (printed_entry e) ≡ true))
    → (class ≡ (last_record source).entry.class) × (clashes used (last_record source).entry ≡ true)
end-clash used source class node is is_node clash =
    let s = source.segment.now in let held = source.dictionary.now in
    let found = end-there source node is is_node in
    let r : Bodied = found.0 in
    let read = end-read source r is found.3 in
    let entry_is = end-entry source r found.1 read in
    let told = clash read.entry (ap (λ (x : Node). entry_of held x.class) (sym found.2) ∙ read.there) in
    (told.0 ∙ ap (λ (e : Entry). e.class) (sym entry_is), ap (clashes used) entry_is ∙ told.1)
