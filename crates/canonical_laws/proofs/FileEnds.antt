-- The end of a canonical file: the entry of FrEndOfFile and its record.
use Rattle.std.proofs.Common.{◌≡◌, ℕ, ◌+◌, ◌^◌, ◌<◌, ◌≤◌, true, false, Some, None, List, [], ◌∷◌, ◌++◌, length, map}
use Rattle.std.proofs.Common.{codes, refl, sym, ap, ◌∙◌, subst, arith, inr, append-nil}
use Rattle.std.specs.Prelude.{unwrap_or}
use Rattle.std.specs.List.{AllByRecursion}
use Rattle.std.specs.Option.{option_map_or}
use Rattle.scalar_types.specs.declared.Order.TheVariants.{Little}
use Rattle.record_values.specs.declared.values.Value.{Value}
use Rattle.dictionary.specs.declared.entries.Element.{Element}
use Rattle.dictionary.specs.declared.entries.Entry.{Entry}
use Rattle.dictionary.specs.Dictionary.{entry_of, class_named}
use Rattle.layout_plan.specs.Layout.{layout_of}
use Rattle.layout_plan.specs.Body.{number_of}
use Rattle.record_writer.specs.Fit.{Fits}
use Rattle.file_grammar.specs.declared.kind.Kind.{Kind}
use Rattle.file_grammar.specs.declared.kind.Kind.TheVariants.{FrEndOfFile}
use Rattle.file_grammar.specs.Structure.{Structure, end_of, record_limit, file_limit, StandsWhole}
use Rattle.file_grammar.specs.Kind.{kind_of}
use Rattle.file_grammar.specs.Record.{values_of, weight_of}
use Rattle.file_grammar.specs.Closing.{number_named}
use Rattle.file_grammar.specs.Item.{Item, OtherItem, Before, after_kind}
use Rattle.file_grammar.specs.MayStand.{FileEndMayStand, KindMayStand, MayStand, Stand}
use Rattle.item_reader.proofs.Growing.{entry_of-own}
use Rattle.contents_table.specs.Told.{values_told}
use Rattle.file_content.specs.Stored.{frame_of_kind, frame_ended, table_of_kind, table_here, elements_of, seek_of_kind}
use Rattle.file_content.specs.Stored.{seek_told}
use Rattle.canonical_file.specs.Ranges.{IsInRange}
use Rattle.canonical_file.specs.Bytes.{body_bytes, entry_bytes}
use Rattle.canonical_file.specs.Records.{Record, entry_fields}
use Rattle.canonical_file.specs.Written.{end_told, end_bytes}
use Rattle.canonical_file.proofs.EndSizes.{end-length}
use Rattle.canonical_laws.specs.Writable.{IsWritable, IsWritableFileEnd}
use Rattle.canonical_laws.proofs.Holding.{Holds, holds-left, holds-right, length-structure}
use Rattle.canonical_laws.proofs.WrittenRecords.{record_structure, record-size, record-stands, record-reads}
use Rattle.canonical_laws.proofs.WrittenRecords.{reading_back}
use Rattle.canonical_laws.proofs.WrittenRecords.{values-read, kind-held, past_entry, entry_item, entry-after}
use Rattle.canonical_laws.proofs.WrittenRecords.{entry-may_stand}
use Rattle.canonical_laws.proofs.PlainFields.{plain_fields, layout-plain, plain_values, values-plain, fits-plain}
use Rattle.canonical_laws.proofs.PlainFields.{range-plain}
use Rattle.canonical_laws.proofs.PlainFields.{size-plain}
use Rattle.canonical_laws.proofs.FileEndTold.{closes-parts, end-fits, end-range, end-small, end-told}
use Rattle.canonical_laws.proofs.FrameEnds.{brings, frames_from}

-- the record, and what it tells
abbrev pub end_values : Entry → ℕ → ℕ → ℕ → List Value
end_values e n bytes seek = values_told (end_told e.elements n bytes seek) (entry_fields e)

abbrev pub file_end : Entry → ℕ → ℕ → ℕ → Record
file_end e n bytes seek = record { entry = e; instance = 0; values = end_values e n bytes seek }

-- ---- its layout

layout : (dictionary : List Entry) (e : Entry) → IsWritableFileEnd dictionary e
    → layout_of e.elements ≡ Some (plain_fields e.elements)
layout dictionary e w = layout-plain e.elements (closes-parts e.elements w.closes).singles

fields : (dictionary : List Entry) (e : Entry) → IsWritableFileEnd dictionary e
    → entry_fields e ≡ plain_fields e.elements
fields dictionary e w = ap (λ o. unwrap_or o []) (layout dictionary e w)

values : (dictionary : List Entry) (e : Entry) (n bytes seek : ℕ) → IsWritableFileEnd dictionary e
    → end_values e n bytes seek ≡ plain_values (end_told e.elements n bytes seek) 0 e.elements
values dictionary e n bytes seek w =
    let told = end_told e.elements n bytes seek in
    ap (values_told told) (fields dictionary e w) ∙ values-plain told [] e.elements

body : (dictionary : List Entry) (e : Entry) (n bytes seek : ℕ) → IsWritableFileEnd dictionary e
    → body_bytes (entry_fields e) (end_values e n bytes seek)
    ≡ body_bytes (plain_fields e.elements) (plain_values (end_told e.elements n bytes seek) 0 e.elements)
body dictionary e n bytes seek w =
    λ i. body_bytes (fields dictionary e w i) (values dictionary e n bytes seek w i)

-- ---- its size

end-short : (dictionary : List Entry) (e : Entry) (n bytes seek : ℕ) → IsWritableFileEnd dictionary e
    → length (end_bytes e n bytes seek) ≤ record_limit
end-short dictionary e n bytes seek w =
    omega (
      arith,
      length-structure e.class 0 (body_bytes (entry_fields e) (end_values e n bytes seek)),
      ap length (body dictionary e n bytes seek w),
      size-plain (end_told e.elements n bytes seek) 0 e.elements (end-small e.elements n bytes seek),
      w.entry.short,
    )

-- ---- that it stands

-- The numbers fit their fields.
pub record AreEndNumbers (n bytes seek : ℕ) : Type 0 where
  pub few : n < 256 ^ 4
  pub short : bytes < 256 ^ 8
  pub near : seek < 256 ^ 8

pub end-writable : (dictionary : List Entry) (e : Entry) (n bytes seek : ℕ) → IsWritableFileEnd dictionary e
    → AreEndNumbers n bytes seek → IsWritable (file_end e n bytes seek)
end-writable dictionary e n bytes seek w numbers =
    let all : List Element = e.elements in
    let told = end_told all n bytes seek in
    let same = values dictionary e n bytes seek w in
    let fits : Fits (plain_fields all) (plain_values told 0 all) =
    fits-plain told 0 all (map number_of (plain_values told 0 all))
    (end-fits all n bytes seek (closes-parts all w.closes) numbers.few numbers.short numbers.near) in
    record {
      entry = w.entry;
      layout = plain_fields all;
      is = layout dictionary e w;
      fits = subst (Fits (plain_fields all)) (sym same) fits;
      range = subst (AllByRecursion IsInRange) (sym same) (range-plain told 0 all (end-range all n bytes seek));
      instance = omega arith;
      short = end-short dictionary e n bytes seek w;
    }

abbrev pub closed_by : Before → Structure → Before
closed_by b s = record b { place = end_of s; closed = true }

-- What is known where the record is to stand, with its entry before it.
pub record EndsFile (dictionary : List Entry) (file : List ℕ) (b : Before) (e : Entry) (n bytes seek : ℕ) : Type 0 where
  pub writable : IsWritableFileEnd dictionary e
  pub class : entry_of b.dictionary e.class ≡ None
  pub name : class_named b.dictionary e.name ≡ None
  pub few_entries : length b.dictionary < 256 ^ 4
  pub unclosed : b.closed ≡ false
  pub frame : b.frame ≡ []
  pub frames : n ≡ b.frames
  pub ends : bytes ≡ b.place + (length (entry_bytes (length b.dictionary) e) + length (end_bytes e 0 0 0))
  pub numbers : AreEndNumbers n bytes seek
  pub limit : length file ≤ file_limit
  pub holds : Holds file b.place (entry_bytes (length b.dictionary) e ++ end_bytes e n bytes seek)

abbrev pub end_structure : Before → Entry → ℕ → ℕ → ℕ → Structure
end_structure b e n bytes seek = record_structure (past_entry None b e).place (file_end e n bytes seek)

abbrev pub end_items : Before → Entry → ℕ → ℕ → ℕ → List Item
end_items b e n bytes seek = entry_item b e ∷ OtherItem (end_structure b e n bytes seek) ∷ []

abbrev pub after_file : Before → Entry → ℕ → ℕ → ℕ → Before
after_file b e n bytes seek = closed_by (past_entry None b e) (end_structure b e n bytes seek)

-- where the record stands
record-here : (dictionary : List Entry) (file : List ℕ) (b : Before) (e : Entry) (n bytes seek : ℕ)
    → EndsFile dictionary file b e n bytes seek → StandsWhole Little file (end_structure b e n bytes seek)
record-here dictionary file b e n bytes seek may =
    let entry : List ℕ = entry_bytes (length b.dictionary) e in
    record-stands file (past_entry None b e).place (file_end e n bytes seek)
    (end-writable dictionary e n bytes seek may.writable may.numbers) may.limit
    (holds-right file b.place entry (end_bytes e n bytes seek) may.holds)

-- the file ends where it tells
pub end-place : (dictionary : List Entry) (file : List ℕ) (b : Before) (e : Entry) (n bytes seek : ℕ)
    → EndsFile dictionary file b e n bytes seek → bytes ≡ (after_file b e n bytes seek).place
end-place dictionary file b e n bytes seek may =
    omega (
      arith,
      may.ends,
      record-size (past_entry None b e).place (file_end e n bytes seek),
      end-length e n bytes seek may.writable.closes,
    )

end-may : (dictionary : List Entry) (file : List ℕ) (b : Before) (e : Entry) (n bytes seek : ℕ)
    → EndsFile dictionary file b e n bytes seek
    → FileEndMayStand Little (past_entry None b e) (end_structure b e n bytes seek)
end-may dictionary file b e n bytes seek may =
    let w = may.writable in
    let next : Before = past_entry None b e in
    let r : Record = file_end e n bytes seek in
    let writable : IsWritable r = end-writable dictionary e n bytes seek w may.numbers in
    let held : entry_of next.dictionary e.class ≡ Some e = entry_of-own b.dictionary e may.class in
    let told = end-told e.elements n bytes seek (closes-parts e.elements w.closes) in
    let same = values dictionary e n bytes seek w in
    let size = end-place dictionary file b e n bytes seek may in
    record {
      reading = reading_back r writable;
      reads = record-reads next.dictionary next.place r writable held;
      entry = e;
      held = held;
      layout = w.closes;
      frame = may.frame;
      frames = ap (λ vs. number_named e.elements vs (codes "nFrames")) same ∙ told.frames ∙ may.frames;
      bytes = inr (ap (λ vs. number_named e.elements vs (codes "nBytes")) same ∙ told.bytes_are ∙ size);
    }

-- The entry and the record stand, and close the file.
pub end-stands : (dictionary : List Entry) (file : List ℕ) (b : Before) (e : Entry) (n bytes seek : ℕ)
    → EndsFile dictionary file b e n bytes seek
    → Stand Little file b (end_items b e n bytes seek) (after_file b e n bytes seek)
end-stands dictionary file b e n bytes seek may =
    let w = may.writable in
    let next : Before = past_entry None b e in
    let s : Structure = end_structure b e n bytes seek in
    let entry : List ℕ = entry_bytes (length b.dictionary) e in
    let here = record-here dictionary file b e n bytes seek may in
    let held : entry_of next.dictionary e.class ≡ Some e = entry_of-own b.dictionary e may.class in
    let kind : kind_of next.dictionary s.class ≡ FrEndOfFile = kind-held next.dictionary e w.entry.low held ∙ w.kind in
    let first : MayStand Little file b (entry_item b e) =
    entry-may_stand file b e s w.entry may.unclosed may.class may.name may.few_entries may.limit
    (holds-left file b.place entry (end_bytes e n bytes seek) may.holds) here refl
    (λ two. omega (arith, two, w.entry.low)) in
    let P : Kind → Type 0 = λ k. KindMayStand k Little next s in
    let second : MayStand Little file next (OtherItem s) = (
      may.unclosed,
      record {
        here = refl;
        stands = here;
        entry = e;
        held = held;
        kind = subst P (sym kind) (end-may dictionary file b e n bytes seek may);
      },
    ) in
    let last : after_file b e n bytes seek ≡ after_kind (kind_of next.dictionary s.class) next s
    (weight_of Little next.dictionary s) =
    ap (λ k. after_kind k next s (weight_of Little next.dictionary s)) (sym kind) in
    let Q : Before → Type 0 = λ x. Stand Little file x (OtherItem s ∷ []) (after_file b e n bytes seek) in
    (first, subst Q (sym (entry-after b e w.entry may.class may.name)) (second, last))

-- ---- what they bring

-- What the record does.
end-brings : {X : Type 0} (from : Before → Structure → List X) (dictionary : List Entry) (file : List ℕ) (b : Before)
    (e : Entry) (n bytes seek : ℕ) → EndsFile dictionary file b e n bytes seek
    → brings from b (end_items b e n bytes seek) ≡ from (past_entry None b e) (end_structure b e n bytes seek)
end-brings from dictionary file b e n bytes seek may =
    let s : Structure = end_structure b e n bytes seek in
    ap (λ x. from x s ++ []) (entry-after b e may.writable.entry may.class may.name)
    ∙ append-nil (from (past_entry None b e) s)

-- the record is of its kind
end-kind : (dictionary : List Entry) (file : List ℕ) (b : Before) (e : Entry) (n bytes seek : ℕ)
    → EndsFile dictionary file b e n bytes seek → kind_of (past_entry None b e).dictionary e.class ≡ FrEndOfFile
end-kind dictionary file b e n bytes seek may =
    let w = may.writable in
    kind-held (past_entry None b e).dictionary e w.entry.low (entry_of-own b.dictionary e may.class) ∙ w.kind

-- no frame, and no contents table
pub end-frames : (dictionary : List Entry) (file : List ℕ) (b : Before) (e : Entry) (n bytes seek : ℕ)
    → EndsFile dictionary file b e n bytes seek → frames_from b (end_items b e n bytes seek) ≡ []
end-frames dictionary file b e n bytes seek may =
    let next : Before = past_entry None b e in
    end-brings frame_ended dictionary file b e n bytes seek may
    ∙ ap (λ k. frame_of_kind k next (end_structure b e n bytes seek)) (end-kind dictionary file b e n bytes seek may)

pub end-tables : (dictionary : List Entry) (file : List ℕ) (b : Before) (e : Entry) (n bytes seek : ℕ)
    → EndsFile dictionary file b e n bytes seek → brings table_here b (end_items b e n bytes seek) ≡ []
end-tables dictionary file b e n bytes seek may =
    let next : Before = past_entry None b e in
    end-brings table_here dictionary file b e n bytes seek may
    ∙ ap (λ k. table_of_kind k next (end_structure b e n bytes seek)) (end-kind dictionary file b e n bytes seek may)

-- the way back to the table
pub end-seeks : (dictionary : List Entry) (file : List ℕ) (b : Before) (e : Entry) (n bytes seek : ℕ)
    → EndsFile dictionary file b e n bytes seek
    → brings (seek_told Little) b (end_items b e n bytes seek) ≡ seek ∷ []
end-seeks dictionary file b e n bytes seek may =
    let w = may.writable in
    let next : Before = past_entry None b e in
    let s : Structure = end_structure b e n bytes seek in
    let held : entry_of next.dictionary e.class ≡ Some e = entry_of-own b.dictionary e may.class in
    let writable = end-writable dictionary e n bytes seek w may.numbers in
    let read : values_of Little next.dictionary s ≡ end_values e n bytes seek =
    values-read next.dictionary next.place (file_end e n bytes seek) writable held in
    let told = end-told e.elements n bytes seek (closes-parts e.elements w.closes) in
    let elements : elements_of next.dictionary e.class ≡ e.elements =
    ap (λ o. option_map_or (λ (x : Entry). x.elements) o []) held in
    end-brings (seek_told Little) dictionary file b e n bytes seek may
    ∙ ap (λ k. seek_of_kind Little k next s) (end-kind dictionary file b e n bytes seek may)
    ∙ (λ i. number_named (elements i) (read i) (codes "seekTOC") ∷ [])
    ∙ ap (λ vs. number_named e.elements vs (codes "seekTOC") ∷ []) (values dictionary e n bytes seek w)
    ∙ ap (λ m. m ∷ []) told.seek_is
