-- The canonical head of one frame that can be written is within the limit of files: its entries are few, each is of few
-- elements, and its records together are within the limit of records.
use Rattle.std.proofs.Common.{ℕ, ◌+◌, ◌*◌, ◌≤◌, Option, Some, None, List, [], ◌∷◌, length, flat_map, sum_by, refl}
use Rattle.std.proofs.Common.{arith, length-append}
use Rattle.std.specs.List.{AllByRecursion}
use Rattle.std.proofs.lemmas.List.Sums.{sum_by-cons}
use Rattle.frame_head.specs.Header.{header_bytes}
use Rattle.frame_head.proofs.HeaderBytes.{header_bytes-length}
use Rattle.dictionary.specs.declared.entries.Element.{Element}
use Rattle.dictionary.specs.declared.entries.Entry.{Entry}
use Rattle.dictionary.specs.Dictionary.{entry_of}
use Rattle.file_grammar.specs.Structure.{record_limit, file_limit}
use Rattle.frame_content.specs.Frames.{Frame}
use Rattle.canonical_file.specs.Bytes.{structure_bytes, element_body, head_body, elements_bytes, entry_bytes}
use Rattle.canonical_file.specs.Records.{Record, record_bytes, end_record, records_of, unless_held, new_entry, added_by}
use Rattle.canonical_file.specs.Records.{with_record, entries_after, piece_bytes, piece_of, pieces_of}
use Rattle.canonical_file.specs.Written.{header_alone, frame_part, after_frames, canonical_head}
use Rattle.canonical_laws.specs.Writable.{IsWritableElement, IsWritableEntry, IsWritableFrame, size_of_record}
use Rattle.canonical_laws.proofs.Holding.{length-structure}
use Rattle.canonical_laws.proofs.WrittenEntries.{element-short, head-short}
use Rattle.canonical_laws.proofs.AgreeingEntries.{all-push}
use Rattle.canonical_laws.proofs.RowsFollow.{records_from, all-records}
use Rattle.canonical_laws.proofs.FrameEntries.{few-needed}
use Rattle.canonical_laws.proofs.Heads.{part_bytes}
use Rattle.canonical_laws.proofs.WholeFiles.{AreWritten, needed}

-- each element is within the limit of records
elements-short : (k : ℕ) (es : List Element) → AllByRecursion IsWritableElement es
    → length (elements_bytes k es) ≤ length es * record_limit
elements-short k [] all = omega arith
elements-short k (e ∷ es) all =
    omega (
      arith,
      elements-short (k + 1) es all.1,
      element-short e all.0,
      length-append (structure_bytes 2 k (element_body e)) (elements_bytes (k + 1) es),
      length-structure 2 k (element_body e),
    )

-- more bytes than any entry has
abbrev entry_limit : ℕ
entry_limit = 17596481007615

entry-short : (k : ℕ) (e : Entry) → IsWritableEntry e → length (entry_bytes k e) ≤ entry_limit
entry-short k e w =
    omega (
      arith,
      elements-short 0 e.elements w.elements,
      w.short,
      head-short e w,
      length-append (structure_bytes 1 k (head_body e)) (elements_bytes 0 e.elements),
      length-structure 1 k (head_body e),
    )

-- an entry is written where one more stands then
new-short : (o : Option Entry) (es : List Entry) (e : Entry) → IsWritableEntry e
    → length (unless_held o es e) + length es * entry_limit ≤ length (added_by o es e) * entry_limit
new-short (Some old) es e w = omega arith
new-short None es e w = omega (arith, entry-short (length es) e w, length-append es (e ∷ []))

abbrev HasWritableEntry : Record → Type 0
HasWritableEntry r = IsWritableEntry r.entry

-- the pieces of records are the records, and an entry for each that stands more
pieces-short : (es : List Entry) (rs : List Record) → AllByRecursion HasWritableEntry rs
    → length (flat_map piece_bytes (pieces_of es rs)) + length es * entry_limit
    ≤ length (entries_after es rs) * entry_limit + sum_by size_of_record rs
pieces-short es [] all = omega arith
pieces-short es (r ∷ rs) all =
    let next : List Entry = with_record es r in
    omega (
      arith,
      new-short (entry_of es r.entry.class) es r.entry all.0,
      pieces-short next rs all.1,
      sum_by-cons size_of_record r rs,
      length-append (piece_bytes (piece_of es r)) (flat_map piece_bytes (pieces_of next rs)),
      length-append (new_entry es r.entry) (record_bytes r),
    )

-- The head of one frame is within the limit.
pub alone-short : (dictionary : List Entry) (f : Frame) → AreWritten dictionary (f ∷ [])
    → length (canonical_head (f ∷ [])) ≤ file_limit
alone-short dictionary f all =
    let w : IsWritableFrame dictionary f = all.frames.0 in
    let rs : List Record = records_of f in
    let entries : AllByRecursion HasWritableEntry rs =
    all-push HasWritableEntry (records_from f 0 f.rows) (end_record f)
    (all-records HasWritableEntry f 0 f.rows (λ k less. (w.rows k less).writable.entry) (omega arith) refl)
    w.end.writable.entry in
    omega (
      arith,
      pieces-short [] rs entries,
      few-needed dictionary (after_frames header_alone (f ∷ [])).entries all.sound (needed dictionary (f ∷ []) all),
      w.load,
      length-append header_bytes (part_bytes header_alone (f ∷ [])),
      header_bytes-length,
      length-append (frame_part header_alone f) [],
    )
