-- A written record reads back as the row that it was written from: its label, and its links.
use Rattle.std.proofs.Common.{◌≡◌, ℕ, ◌<◌, ◌≤◌, Option, Some, None, List, [], ◌∷◌, length, map, All, refl, ap, ◌∙◌}
use Rattle.std.proofs.Common.{sym}
use Rattle.std.proofs.Common.{arith}
use Rattle.std.proofs.lemmas.Bool.{cond-false, ne_eqb}
use Rattle.std.proofs.lemmas.List.{length-map}
use Rattle.std.proofs.lemmas.List.Elements.{All-head, All-tail}
use Rattle.scalar_types.specs.declared.Order.TheVariants.{Little}
use Rattle.type_text.specs.declared.types.Link.{Link}
use Rattle.record_values.specs.Links.{links_in, with_links}
use Rattle.dictionary.specs.declared.entries.Entry.{Entry}
use Rattle.dictionary.specs.Dictionary.{entry_of}
use Rattle.layout_plan.specs.declared.fields.Field.{Field}
use Rattle.layout_plan.specs.Written.{with_sums_cleared}
use Rattle.link_graph.specs.declared.nodes.Root.{Root}
use Rattle.link_graph.specs.Collected.{Bodied, target_of}
use Rattle.link_graph.specs.Table.{IsWithin}
use Rattle.file_grammar.specs.Record.{values_of}
use Rattle.frame_content.specs.Labels.{Label, unlinked, label_by}
use Rattle.frame_content.specs.Frames.{Row, Frame, row_at, label_at, reading_in, values_in, label_of, row_of}
use Rattle.canonical_file.specs.Ordered.{class_at, new_link}
use Rattle.canonical_file.specs.Records.{Record, entry_fields, end_record}
use Rattle.canonical_laws.specs.Writable.{IsWritable, IsLabel, IsRow, record_at}
use Rattle.canonical_laws.proofs.Instances.{AreAs, target-found}
use Rattle.canonical_laws.proofs.LinksWithin.{links-linked, unlinked-linked}
use Rattle.canonical_laws.proofs.WrittenRecords.{record_body, record_structure, fields-layout, reading_back}
use Rattle.canonical_laws.proofs.WrittenRecords.{record-reads}
use Rattle.canonical_laws.proofs.WrittenRecords.{values-read}

-- a written record among those of a frame
abbrev pub written_node : ℕ → Root → Record → Bodied
written_node at root r = record {
  node = record { at = at; class = r.entry.class; instance = r.instance; root = root };
  body = record_body r;
}

-- ---- labels

values-back : (l : Label) (fields : List Field) (links : List Link) → entry_fields l.entry ≡ fields → IsLabel l
    → length links ≡ length (links_in l.values)
    → with_sums_cleared fields (map unlinked (with_links l.values links)) ≡ l.values
values-back l fields links is label size =
    ap (with_sums_cleared fields) (unlinked-linked l.values links size)
    ∙ ap (λ fs. with_sums_cleared fs (map unlinked l.values)) (sym is)
    ∙ label.values

-- the label that is read is the one that was written
label-back : (held : List Entry) (at : ℕ) (root : Root) (r : Record) (l : Label) (links : List Link) → IsLabel l
    → r.entry ≡ l.entry → r.values ≡ with_links l.values links → length links ≡ length (links_in l.values)
    → IsWritable r
    → entry_of held r.entry.class ≡ Some r.entry → label_of Little held (written_node at root r) ≡ l
label-back held at root r l links label entry values size w is =
    let read : reading_in Little held (written_node at root r) ≡ Some (reading_back r w) =
    record-reads held at r w is in
    let fields : entry_fields l.entry ≡ w.layout = ap entry_fields (sym entry) ∙ fields-layout r w in
    let cleared_is : with_sums_cleared w.layout (map unlinked r.values) ≡ l.values =
    ap (λ vs. with_sums_cleared w.layout (map unlinked vs)) values ∙ values-back l w.layout links fields label size in
    (λ i. label_by (is i) (read i))
    ∙ (λ i. label_by (Some (entry i)) (Some (reading_back r w)))
    ∙ (λ i. record { entry = label.entry i; values = cleared_is i })

-- ---- links

link-back : (f : Frame) (nodes : List Bodied) → AreAs f nodes → ((k : ℕ) → k < length f.rows → 3 ≤ class_at f k)
    → (link : Option ℕ) → IsWithin (length f.rows) link → target_of nodes (new_link f link) ≡ link
link-back f nodes are low None within = refl
link-back f nodes are low (Some k) within =
    cond-false _ _ _ (ne_eqb (class_at f k) 0 (λ none. omega (arith, none, low k within)))
    ∙ target-found f nodes k are within

pub links-back : (f : Frame) (nodes : List Bodied) → AreAs f nodes
    → ((k : ℕ) → k < length f.rows → 3 ≤ class_at f k) → (links : List (Option ℕ))
    → All (IsWithin (length f.rows)) links → map (target_of nodes) (map (new_link f) links) ≡ links
links-back f nodes are low [] all = refl
links-back f nodes are low (link ∷ links) all =
    let within = IsWithin (length f.rows) in
    λ i. link-back f nodes are low link (All-head within link links all) i
    ∷ links-back f nodes are low links (All-tail within link links all) i

-- ---- rows

-- there are as many links as the values have
links-size : (f : Frame) (x : Row) → IsRow (length f.rows) x
    → length (map (new_link f) x.links) ≡ length (links_in x.label.values)
links-size f x row = length-map x.links (new_link f) ∙ row.as_many

-- the links read are those to the rows
pub links-read : (held : List Entry) (f : Frame) (k at : ℕ) → IsRow (length f.rows) (row_at f k)
    → IsWritable (record_at f k) → entry_of held (class_at f k) ≡ Some (label_at f k).entry
    → links_in (values_of Little held (record_structure at (record_at f k))) ≡ map (new_link f) (row_at f k).links
links-read held f k at row w is =
    ap links_in (values-read held at (record_at f k) w is)
    ∙ links-linked (label_at f k).values (map (new_link f) (row_at f k).links) (links-size f (row_at f k) row)

-- A row that is written reads back as that row.
pub row-back : (held : List Entry) (f : Frame) (nodes : List Bodied) (k at : ℕ) (root : Root) → AreAs f nodes
    → ((j : ℕ) → j < length f.rows → 3 ≤ class_at f j) → IsRow (length f.rows) (row_at f k)
    → IsWritable (record_at f k) → entry_of held (class_at f k) ≡ Some (label_at f k).entry
    → row_of Little held nodes (written_node at root (record_at f k)) ≡ row_at f k
row-back held f nodes k at root are low row w is =
    let x : Row = row_at f k in
    let links : List Link = map (new_link f) x.links in
    let r : Record = record_at f k in
    let label : label_of Little held (written_node at root r) ≡ x.label =
    label-back held at root r x.label links row.label refl refl (links-size f x row) w is in
    let targets : map (target_of nodes) (links_in (values_in Little held (written_node at root r))) ≡ x.links =
    ap (map (target_of nodes)) (links-read held f k at row w is) ∙ links-back f nodes are low x.links row.within in
    λ i. record { label = label i; links = targets i }

-- So does an end record, whose links are null.
pub end-back : (held : List Entry) (f : Frame) (at : ℕ) (root : Root) → IsLabel f.end → IsWritable (end_record f)
    → entry_of held f.end.entry.class ≡ Some f.end.entry
    → label_of Little held (written_node at root (end_record f)) ≡ f.end
end-back held f at root label w is =
    let read : reading_in Little held (written_node at root (end_record f)) ≡ Some (reading_back (end_record f) w) =
    record-reads held at (end_record f) w is in
    let values : with_sums_cleared w.layout (map unlinked f.end.values) ≡ f.end.values =
    ap (λ fs. with_sums_cleared fs (map unlinked f.end.values)) (sym (fields-layout (end_record f) w)) ∙ label.values in
    (λ i. label_by (is i) (read i)) ∙ (λ i. record { entry = label.entry i; values = values i })
