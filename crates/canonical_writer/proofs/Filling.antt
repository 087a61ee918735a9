-- A part that is filled record by record.
use Rattle.std.proofs.Common.{◌≡◌, ℕ, ◌+◌, ◌<◌, true, false, List, [], ◌∷◌, ◌++◌, length, take, drop, Option, Some}
use Rattle.std.proofs.Common.{None}
use Rattle.std.proofs.Common.{get_or, set, suc, refl, sym, ap, ◌∙◌, subst, arith, inl, inr, ◌⊎◌}
use Rattle.std.specs.Prelude.{slice_get, nat_eq}
use Rattle.std.specs.List.{IsDistinct}
use Rattle.std.proofs.lemmas.List.{length-map, length-set, get_or-set_same, get_or-set_other}
use Rattle.std.proofs.lemmas.Option.{same_Some}
use Rattle.type_text.specs.declared.types.Link.{Link}
use Rattle.dictionary.specs.declared.entries.Entry.{Entry}
use Rattle.rooted_graph.specs.BreadthOrder.{number_of, roots_and_targets}
use Rattle.rooted_graph.proofs.Firsts.{first_occurrences_distinct}
use Rattle.rooted_graph.proofs.Places.{number_at, number_distinct}
use Rattle.link_graph.specs.Graph.{graph_of}
use Rattle.frame_content.specs.Frames.{Frame}
use Rattle.frame_content.specs.Frames.{frame_of as segment_frame}
use Rattle.canonical_file.specs.declared.closing.Closing.{Closing}
use Rattle.canonical_file.specs.Ordered.{row_in}
use Rattle.canonical_file.specs.Records.{Record, records_of, entries_after, pieces_of, record_places}
use Rattle.canonical_file.specs.Records.{with_record, new_entry, record_bytes}
use Rattle.contents_table.specs.Built.{place_of}
use Rattle.canonical_file.specs.Splices.{clashes, clash_from, clash_of, entries_used}
use Rattle.canonical_writer.specs.declared.frame_part.FrameSource.{FrameSource}
use Rattle.canonical_writer.specs.declared.frame_part.FramePart.{FramePart}
use Rattle.canonical_writer.specs.NewLinks.{AreNewLinks, classes_of}
use Rattle.canonical_writer.specs.Parts.{IsReady}
use Rattle.canonical_writer.specs.Filled.{frame_of, IsSource, IsFilled, IsPlacedAt, UsesRecord, record_at, last_record}
use Rattle.canonical_writer.specs.Filled.{place_after}
use Rattle.canonical_writer.proofs.Pieces.{bytes_of, bytes-push, entries-push, clash-behind, clash-here, clash-push}
use Rattle.canonical_writer.proofs.Pieces.{place-behind}
use Rattle.canonical_writer.proofs.FrameRecords.{row_records, record-at, split-at, take-step, records-front}
use Rattle.canonical_writer.proofs.SegmentOrders.{breadth-within}

-- ---- records that were used

-- The part and the entries after these records, none of which clashes.
pub record HasUsed (closing : Option Closing) (used after held : List Entry) (records : List Record)
    (part : FramePart) :
    Type 0 where
  pub bytes : part.bytes.items ≡ bytes_of used records
  pub entries : after ≡ entries_after used records
  pub no_clash : clash_from closing used records ≡ None
  pub ready : IsReady part.met closing after held

used-none : (closing : Option Closing) (used held : List Entry) (part : FramePart) → part.bytes.items ≡ []
    → IsReady part.met closing used held → HasUsed closing used used held [] part
used-none closing used held part empty ready =
    record { bytes = empty; entries = refl; no_clash = refl; ready = ready }

used-more : (closing : Option Closing) (used mid after held : List Entry) (records : List Record) (r : Record)
    (old new : FramePart) → HasUsed closing used mid held records old → UsesRecord closing mid after held r old new
    → HasUsed closing used after held (records ++ r ∷ []) new
used-more closing used mid after held records r old new was uses =
    let same : mid ≡ entries_after used records = was.entries in
    record {
      bytes = uses.bytes_are ∙ (λ i. was.bytes i ++ (new_entry (same i) r.entry ++ record_bytes r))
          ∙ sym (bytes-push used records r);
      entries = uses.entries ∙ ap (λ es. with_record es r) same ∙ sym (entries-push used records r);
      no_clash = clash-push closing used records r was.no_clash
          (subst (λ es. clashes (entries_used es closing) r.entry ≡ false) same uses.no_clash);
      ready = uses.ready;
    }

-- a record that clashes then is the first that does
clash-first : (closing : Option Closing) (used mid held : List Entry) (records : List Record) (r : Record)
    (others : List Record) (part : FramePart) → HasUsed closing used mid held records part
    → clashes (entries_used mid closing) r.entry ≡ true
    → clash_from closing used (records ++ r ∷ others) ≡ Some r.entry.class
clash-first closing used mid held records r others part was clash =
    clash-behind closing used records (r ∷ others) was.no_clash
    ∙ clash-here closing (entries_after used records) r others
    (subst (λ es. clashes (entries_used es closing) r.entry ≡ true) was.entries clash)

-- ---- the records of a source

-- the records up to a place in the order stand where their pieces have them
abbrev pub ArePlacedTo : ℕ → List Entry → FrameSource → ℕ → List ℕ → Type 0
ArePlacedTo at used source count places =
    (n k : ℕ) → number_of source.order.now n ≡ Some k → k < count
    → place_of places n ≡ place_of (record_places at (pieces_of used (records_of (frame_of source)))) k

-- what stands after the first records of the order
pub record IsFilledTo (at : ℕ) (closing : Option Closing) (used after : List Entry) (source : FrameSource) (count : ℕ)
    (part : FramePart) : Type 0 where
  pub used_are : HasUsed closing used after source.dictionary.now (take count (records_of (frame_of source))) part
  pub links_are : AreNewLinks (classes_of source.segment.now.nodes) source.order.now part.links
  pub size : length part.places.items ≡ length source.segment.now.nodes
  pub places : ArePlacedTo at used source count part.places.items

pub filled-none : (at : ℕ) (closing : Option Closing) (used : List Entry) (source : FrameSource) (part : FramePart)
    → part.bytes.items ≡ [] → IsReady part.met closing used source.dictionary.now
    → AreNewLinks (classes_of source.segment.now.nodes) source.order.now part.links
    → length part.places.items ≡ length source.segment.now.nodes → IsFilledTo at closing used used source 0 part
filled-none at closing used source part empty ready links size = record {
  used_are = used-none closing used source.dictionary.now part empty ready;
  links_are = links;
  size = size;
  places = λ n k number none. absurd (omega arith);
}

pub rows-size : (source : FrameSource) → length (frame_of source).rows ≡ length source.order.now
rows-size source =
    length-map source.order.now (row_in (segment_frame source.dictionary.now source.segment.now) source.order.now)

-- the number of a place in the order
pub number-in_order : (source : FrameSource) (k : ℕ) → IsSource source → k < length source.order.now
    → number_of source.order.now (get_or source.order.now k 0) ≡ Some k
number-in_order source k is within =
    number_distinct source.order.now k (subst (IsDistinct nat_eq) (sym is.can.breadth.first)
    (first_occurrences_distinct (roots_and_targets (graph_of source.plans.now source.segment.now) source.order.now)))
    within

-- the record of a place in the order
pub placed-at : (source : FrameSource) (k : ℕ) (links : List Link) → IsSource source → k < length source.order.now
    → AreNewLinks (classes_of source.segment.now.nodes) source.order.now links
    → IsPlacedAt source links (get_or source.order.now k 0) k
placed-at source k links is within are =
    record { source_is = is; number = number-in_order source k is within; links_are = are }

record-of : (source : FrameSource) (k : ℕ) → k < length source.order.now
    → slice_get (records_of (frame_of source)) k ≡ Some (record_at source k)
record-of source k within = record-at (frame_of source) k (omega (arith, rows-size source, within))

-- one record more
pub filled-more : (at : ℕ) (closing : Option Closing) (used mid after : List Entry) (source : FrameSource) (k n : ℕ)
    (old new : FramePart) → IsFilledTo at closing used mid source k old → IsPlacedAt source old.links n k
    → UsesRecord closing mid after source.dictionary.now (record_at source k) old new
    → new.places.items ≡ set old.places.items n (place_after at mid (record_at source k) old)
    → new.links ≡ old.links → IsFilledTo at closing used after source (k + 1) new
filled-more at closing used mid after source k n old new was placed uses put links =
    let f : Frame = frame_of source in let r : Record = record_at source k in
    let held = source.dictionary.now in let s = source.segment.now in
    let number = number_at source.order.now n k placed.number in
    let there = record-of source k number.0 in
    let within : n < length old.places.items =
    subst (λ m. m < length old.places.items) number.1
    (subst (λ count. get_or source.order.now k 0 < count) (sym was.size)
    (breadth-within source.plans.now s source.order.now placed.source_is.can.breadth k 0 number.0)) in
    let here : place_of (record_places at (pieces_of used (records_of f))) k ≡ place_after at mid r old =
    place-behind used (records_of f) at k r there
    ∙ (λ i. at + (length (sym was.used_are.bytes i) + length (new_entry (sym was.used_are.entries i) r.entry))) in
    record {
      used_are = subst (λ rs. HasUsed closing used after held rs new) (sym (take-step (records_of f) k r there))
          (used-more closing used mid after held (take k (records_of f)) r old new was.used_are uses);
      links_are = subst (AreNewLinks (classes_of s.nodes) source.order.now) (sym links) was.links_are;
      size = ap length put ∙ length-set old.places.items n (place_after at mid r old) ∙ was.size;
      places = λ m j other below.
          let place : ℕ = place_after at mid r old in
          let by : (j < k) ⊎ (j ≡ k) → place_of new.places.items m
          ≡ place_of (record_places at (pieces_of used (records_of f))) j = λ which. elim which [
            | inl before ↦
                let apart : m ≡ n → ⊥ = λ same. absurd (omega (
                  arith,
                  same_Some j k (sym other
                      ∙ ap (number_of source.order.now) same ∙ placed.number),
                )) in
                ap (λ ps. place_of ps m) put ∙ get_or-set_other old.places.items n m place 0 apart
                ∙ was.places m j other before
            | inr last ↦
                let same : m ≡ n = sym (number_at source.order.now m j other).1
                ∙ ap (λ i. get_or source.order.now i 0) last ∙ number.1 in
                ap (λ ps. place_of ps m) put ∙ ap (λ m. place_of (set old.places.items n place) m) same
                ∙ get_or-set_same old.places.items n place 0 within ∙ sym here
                ∙ ap (λ i. place_of (record_places at (pieces_of used (records_of f))) i) (sym last)
          ] in
          by (below_or j k below);
    }
  where
    below_or : (j k : ℕ) → j < k + 1 → (j < k) ⊎ (j ≡ k)
    below_or j k below = grind arith

-- a record that clashes is the first that does
pub filled-clash : (at : ℕ) (closing : Option Closing) (used mid : List Entry) (source : FrameSource) (k class : ℕ)
    (part : FramePart) → IsFilledTo at closing used mid source k part → k < length source.order.now
    → (class ≡ (record_at source k).entry.class)
    × (clashes (entries_used mid closing) (record_at source k).entry ≡ true)
    → clash_of closing used (frame_of source) ≡ Some class
filled-clash at closing used mid source k class part was within clash =
    let rs : List Record = records_of (frame_of source) in let r : Record = record_at source k in
    ap (clash_from closing used) (split-at rs k r (record-of source k within))
    ∙ clash-first closing used mid source.dictionary.now (take k rs) r (drop (suc k) rs) part was.used_are clash.1
    ∙ ap Some (sym clash.0)

-- all but the end record
rows-used : (at : ℕ) (closing : Option Closing) (used mid : List Entry) (source : FrameSource) (count : ℕ)
    (part : FramePart) → IsFilledTo at closing used mid source count part → count ≡ length source.order.now
    → HasUsed closing used mid source.dictionary.now (row_records (frame_of source)) part
rows-used at closing used mid source count part was all =
    subst (λ rs. HasUsed closing used mid source.dictionary.now rs part)
    (ap (λ n. take n (records_of (frame_of source))) (all ∙ sym (rows-size source)) ∙ records-front (frame_of source))
    was.used_are

-- and then the end record
pub filled-all : (at : ℕ) (closing : Option Closing) (used mid after : List Entry) (source : FrameSource) (count : ℕ)
    (old new : FramePart) → IsFilledTo at closing used mid source count old → count ≡ length source.order.now
    → UsesRecord closing mid after source.dictionary.now (last_record source) old new → new.places ≡ old.places
    → IsFilled at closing used after source new
filled-all at closing used mid after source count old new was all uses places =
    let rows = rows-used at closing used mid source count old was all in
    let done = used-more closing used mid after source.dictionary.now (row_records (frame_of source))
    (last_record source)
    old new rows uses in
    record {
      bytes = done.bytes;
      entries = done.entries;
      places = λ n k number. ap (λ (v : _). place_of v.items n) places
          ∙ was.places n k number (omega (arith, all, (number_at source.order.now n k number).0));
      no_clash = done.no_clash;
      ready = done.ready;
    }

pub last-clash : (at : ℕ) (closing : Option Closing) (used mid : List Entry) (source : FrameSource) (count class : ℕ)
    (part : FramePart) → IsFilledTo at closing used mid source count part → count ≡ length source.order.now
    → (class ≡ (last_record source).entry.class)
    × (clashes (entries_used mid closing) (last_record source).entry ≡ true)
    → clash_of closing used (frame_of source) ≡ Some class
last-clash at closing used mid source count class part was all clash =
    clash-first closing used mid source.dictionary.now (row_records (frame_of source)) (last_record source) [] part
    (rows-used at closing used mid source count part was all) clash.1
    ∙ ap Some (sym clash.0)
