-- Frames of two sources are written alike where their records are.
use Rattle.std.proofs.Common.{◌≡◌, ℕ, ◌+◌, ◌<◌, ◌⊎◌, inl, inr, Option, Some, None, List, length, map, take}
use Rattle.std.proofs.Common.{get_or, count_by, All, refl, sym, ap, ◌∙◌, subst, arith}
use Rattle.std.specs.Prelude.{slice_get}
use Rattle.std.proofs.lemmas.List.{length-map}
use Rattle.std.proofs.lemmas.List.Elements.{All-map}
use Rattle.std.proofs.lemmas.Option.{slice_get-get_or}
use Rattle.record_values.specs.Values.{number_of as value_number}
use Rattle.record_values.specs.Links.{links_in, with_links}
use Rattle.rooted_graph.specs.BreadthOrder.{number_of}
use Rattle.rooted_graph.specs.InOrder.{renumbered}
use Rattle.rooted_graph.proofs.Places.{number_at}
use Rattle.link_graph.specs.Collected.{Bodied, target_of}
use Rattle.link_graph.specs.Table.{IsWithin}
use Rattle.frame_content.specs.Labels.{Label}
use Rattle.frame_content.specs.Frames.{Frame, no_row, row_at}
use Rattle.canonical_file.specs.Ordered.{class_of, is_of_class, new_link}
use Rattle.canonical_file.specs.Records.{Record, row_record, record_bytes}
use Rattle.canonical_writer.specs.declared.frame_part.FrameSource.{FrameSource}
use Rattle.canonical_writer.specs.declared.comparing.Comparison.{Comparison}
use Rattle.canonical_writer.specs.Alike.{AreWrittenAlike, RecordsAreAlike}
use Rattle.canonical_writer.specs.Filled.{frame_of, IsSource, record_at, last_record}
use Rattle.canonical_writer.specs.NewLinks.{AreNewLinks, classes_of}
use Rattle.canonical_writer.proofs.AlikeRows.{IsFrameRow, map-same, rows-same}
use Rattle.canonical_writer.proofs.Filling.{rows-size, number-in_order}
use Rattle.canonical_writer.proofs.FrameLinks.{record-read}
use Rattle.canonical_writer.proofs.RecordBytes.{source-plans}
use Rattle.canonical_writer.proofs.LinkedRows.{label-null, label-many}
use Rattle.canonical_writer.proofs.SegmentOrders.{no_record, breadth-within}
use Rattle.canonical_writer.proofs.WrittenRecords.{read-segment, row-shown}

-- ---- the rows of a source

renumbered-within : (numbers : List ℕ) (link : Option ℕ) → IsWithin (length numbers) (renumbered numbers link)
renumbered-within numbers None = tt
renumbered-within numbers (Some m) = by (number_of numbers m) refl
  where
    by : (o : Option ℕ) → number_of numbers m ≡ o → IsWithin (length numbers) o
    by None is = tt
    by (Some k) is = (number_at numbers m k is).0

row-known : (source : FrameSource) (k : ℕ) → IsSource source → k < length source.order.now
    → IsFrameRow (length (frame_of source).rows) (row_at (frame_of source) k)
row-known source k is inside =
    let held = source.dictionary.now in let s = source.segment.now in let numbers = source.order.now in
    let n : ℕ = get_or numbers k 0 in
    let r : Bodied = get_or s.nodes n no_record in
    let there : slice_get s.nodes n ≡ Some r =
    slice_get-get_or s.nodes n no_record (breadth-within source.plans.now s numbers is.can.breadth k 0 inside) in
    let read = record-read held source.plans.now s numbers n r
    (read-segment held source.plans.now s numbers (source-plans source is) is.can) there in
    let targets : List (Option ℕ) = map (target_of s.nodes) (links_in read.values) in
    subst (IsFrameRow (length (frame_of source).rows))
    (sym (row-shown held s numbers n k r read there (number-in_order source k is inside))) (record {
      low = (is.sound.entries r.node.class read.entry read.there).low;
      null = label-null read.fields read.values;
      as_many = length-map targets (renumbered numbers) ∙ length-map (links_in read.values) (target_of s.nodes)
          ∙ sym (label-many s.order (map value_number read.values) read.fields read.values read.body.front
          read.sound.sums read.body.spelled);
      within = subst (λ count. All (IsWithin count) (map (renumbered numbers) targets)) (sym (rows-size source))
          (All-map (IsWithin (length numbers)) (renumbered numbers) targets
          (λ j d within. renumbered-within numbers (get_or targets j d)));
    })

-- ---- frames that are written alike

pub frames-alike : (first second : FrameSource) → IsSource first → IsSource second
    → length first.order.now ≡ length second.order.now
    → ((k : ℕ) → k < length first.order.now → RecordsAreAlike (record_at first k) (record_at second k))
    → RecordsAreAlike (last_record first) (last_record second)
    → AreWrittenAlike (frame_of first) (frame_of second)
frames-alike first second is also size rows end =
    let one = rows-size first in let two = rows-size second in (
      rows-same (frame_of first) (frame_of second) (record {
        size = one ∙ size ∙ sym two;
        rows = λ k within. row-known first k is (omega (arith, one, within));
        others = λ k within. row-known second k also (omega (arith, two, within));
        alike = λ k within. let alike = rows k (omega (arith, one, within)) in
            record { entry = alike.entry; values = alike.values };
      }),
      λ i. record { entry = end.entry i; values = end.values i },
    )

-- the records of frames with the same rows
link-same : (f g : Frame) → f.rows ≡ g.rows → (link : Option ℕ) → new_link f link ≡ new_link g link
link-same f g same None = refl
link-same f g same (Some k) = λ i. record {
  class = class_of (get_or (same i) k no_row);
  instance = count_by (is_of_class (class_of (get_or (same i) k no_row))) (take k (same i));
}

record-same : (f g : Frame) (k : ℕ) → f.rows ≡ g.rows → row_record f (k, row_at f k) ≡ row_record g (k, row_at g k)
record-same f g k same =
    let links : map (new_link f) (row_at f k).links ≡ map (new_link g) (row_at g k).links =
    map-same (new_link f) (new_link g) (row_at f k).links (link-same f g same)
    ∙ ap (λ rows. map (new_link g) (get_or rows k no_row).links) same in
    λ i. record {
      entry = (get_or (same i) k no_row).label.entry;
      instance = count_by (is_of_class (class_of (get_or (same i) k no_row))) (take k (same i));
      values = with_links (get_or (same i) k no_row).label.values (links i);
    }

pub alike-records : (first second : FrameSource) (k : ℕ) → AreWrittenAlike (frame_of first) (frame_of second)
    → RecordsAreAlike (record_at first k) (record_at second k)
alike-records first second k alike =
    let same = record-same (frame_of first) (frame_of second) k alike.0 in
    record {
      entry = ap (λ (r : Record). r.entry) same;
      values = ap (λ (r : Record). r.values) same;
      bytes = ap record_bytes same;
    }

pub alike-ends : (first second : FrameSource) → AreWrittenAlike (frame_of first) (frame_of second)
    → RecordsAreAlike (last_record first) (last_record second)
alike-ends first second alike =
    let same : last_record first ≡ last_record second =
    ap (λ (l : Label). record { entry = l.entry; instance = 0; values = l.values }) alike.1 in
    record {
      entry = ap (λ (r : Record). r.entry) same;
      values = ap (λ (r : Record). r.values) same;
      bytes = ap record_bytes same;
    }

-- ---- record by record

-- the first records are alike, and the links to be written of both frames are those of their orders
pub record AreAlikeTo (first second : FrameSource) (comparison : Comparison) (count : ℕ) : Type 0 where
  pub links : AreNewLinks (classes_of first.segment.now.nodes) first.order.now comparison.first.links
  pub others : AreNewLinks (classes_of second.segment.now.nodes) second.order.now comparison.second.links
  pub records : (k : ℕ) → k < count → RecordsAreAlike (record_at first k) (record_at second k)

pub alike-none : (first second : FrameSource) (comparison : Comparison)
    → AreNewLinks (classes_of first.segment.now.nodes) first.order.now comparison.first.links
    → AreNewLinks (classes_of second.segment.now.nodes) second.order.now comparison.second.links
    → AreAlikeTo first second comparison 0
alike-none first second comparison links others =
    record { links = links; others = others; records = λ k none. absurd (omega arith) }

pub alike-more : (first second : FrameSource) (old new : Comparison) (count : ℕ)
    → AreAlikeTo first second old count → new.first.links ≡ old.first.links → new.second.links ≡ old.second.links
    → RecordsAreAlike (record_at first count) (record_at second count) → AreAlikeTo first second new (count + 1)
alike-more first second old new count were links others alike = record {
  links = subst (AreNewLinks (classes_of first.segment.now.nodes) first.order.now) (sym links) were.links;
  others = subst (AreNewLinks (classes_of second.segment.now.nodes) second.order.now) (sym others) were.others;
  records = λ k below. elim (below_or k below) [
    | inl before ↦ were.records k before
    | inr last ↦ subst (λ j. RecordsAreAlike (record_at first j) (record_at second j)) (sym last) alike
  ];
}
  where
    below_or : (j : ℕ) → j < count + 1 → (j < count) ⊎ (j ≡ count)
    below_or j below = grind arith
