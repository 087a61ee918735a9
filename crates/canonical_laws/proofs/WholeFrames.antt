-- What is written of a frame is a frame of the file, and reads back as it was written.
use Rattle.std.proofs.Common.{◌≡◌, ℕ, ◌+◌, ◌^◌, ◌<◌, ◌≤◌, false, Option, List, [], ◌∷◌, ◌++◌, length, map, refl, sym}
use Rattle.std.proofs.Common.{ap}
use Rattle.std.proofs.Common.{Some, ◌∙◌, subst, arith, add-zero, append-nil, length-append}
use Rattle.std.specs.Prelude.{sum_by}
use Rattle.std.specs.List.{AllByRecursion}
use Rattle.std.proofs.lemmas.List.Sums.{sum_by-cons, sum_by-append}
use Rattle.scalar_types.specs.declared.Order.TheVariants.{Little}
use Rattle.dictionary.specs.declared.entries.Entry.{Entry}
use Rattle.dictionary.specs.Dictionary.{entry_of, IsDictionary}
use Rattle.file_grammar.specs.Structure.{Structure, file_limit}
use Rattle.file_grammar.specs.declared.kind.Kind.TheVariants.{FrEndOfFrame}
use Rattle.file_grammar.specs.Kind.{kind_of, is_target_kind}
use Rattle.file_grammar.specs.Item.{Item, Before}
use Rattle.file_grammar.specs.MayStand.{frames_limit, Stand}
use Rattle.item_reader.specs.Roles.{root_of}
use Rattle.frame_content.specs.Frames.{Frame, label_at}
use Rattle.canonical_file.specs.Ordered.{class_at}
use Rattle.canonical_file.specs.Records.{Record, record_bytes, end_record, records_of, new_entry, with_record}
use Rattle.canonical_file.specs.Records.{entries_after}
use Rattle.file_content.specs.Stored.{frame_of_kind, frame_ended, table_of_kind, table_here, seek_of_kind, seek_told}
use Rattle.file_content.specs.Contents.{content_frame}
use Rattle.canonical_laws.specs.Writable.{IsWritable, IsWritableFrame, size_of_record, as_read}
use Rattle.canonical_laws.proofs.Holding.{Holds, holds-left, holds-right, holds-at}
use Rattle.canonical_laws.proofs.WrittenRecords.{record_structure, record-size, kind-held, Agrees, entry-before}
use Rattle.canonical_laws.proofs.WrittenRecords.{piece-stands}
use Rattle.canonical_laws.proofs.RowsBack.{end-back}
use Rattle.canonical_laws.proofs.AgreeingEntries.{AreIn, agrees-in, added-in, entries-longer}
use Rattle.canonical_laws.proofs.RecordsInTurn.{stand-append, bytes_of, before_record, after_piece, after_pieces}
use Rattle.canonical_laws.proofs.RecordsInTurn.{piece_items}
use Rattle.canonical_laws.proofs.RecordsInTurn.{items_of, AllFollow, place-after_piece, records-stand}
use Rattle.canonical_laws.proofs.RecordsInTurn.{dictionary-after}
use Rattle.canonical_laws.proofs.RecordsInTurn.{load-after, frames-after, place-after, bytes-append, entries-append}
use Rattle.canonical_laws.proofs.RowsFollow.{stays-added, own-added, Going, records_from, all-records}
use Rattle.canonical_laws.proofs.RowsFollow.{RowsFollow, rows-follow}
use Rattle.canonical_laws.proofs.FrameEnds.{MayEnd, with_end, end-stands, brings, frames_from, brings-append, brings-by}
use Rattle.canonical_laws.proofs.FrameEnds.{BringsNone, rows-end_none, row-brings, rows-no_table, rows-no_seek}
use Rattle.canonical_laws.proofs.FrameEnds.{stored_frame}
use Rattle.canonical_laws.proofs.FrameRecords.{nodes_of, Gone, gone-linked, gone-header, gone-back, gone-marked}
use Rattle.canonical_laws.proofs.RootsByName.{roots-agree}

-- What stands between frames.
pub record IsBetween (dictionary : List Entry) (b : Before) : Type 0 where
  pub entries : AreIn dictionary b.dictionary
  pub frame : b.frame ≡ []
  pub load : b.load ≡ 0
  pub unclosed : b.closed ≡ false
  pub no_table : b.table ≡ false

-- ---- rows bring nothing

rows-bring : {X : Type 0} (from : Before → Structure → List X) → BringsNone is_target_kind from → (file : List ℕ)
    (b : Before) (rs : List Record) → AllByRecursion IsWritable rs → AllFollow b rs → length file ≤ file_limit
    → Holds file b.place (bytes_of b.dictionary rs) → brings from b (items_of b rs) ≡ []
rows-bring from none file b [] all follow limit h = refl
rows-bring from none file b (r ∷ rs) all follow limit h =
    let piece : List ℕ = new_entry b.dictionary r.entry ++ record_bytes r in
    let more : List ℕ = bytes_of (with_record b.dictionary r) rs in
    let o = entry_of b.dictionary r.entry.class in
    let mid : Before = before_record b r in
    let next : Before = after_piece b r in
    let may = follow.1 in
    let one : brings from b (piece_items b r) ≡ [] =
    brings-by from o b r all.0.entry refl follow.0
    ∙ ap (λ xs. xs ++ []) (row-brings from none mid mid.place r all.0.entry.low may.held may.kind) in
    let others : brings from next (items_of next rs) ≡ [] =
    rows-bring from none file next rs all.1 follow.3 limit
    (holds-at file (b.place + length piece) next.place more (place-after_piece b r)
    (holds-right file b.place piece more h)) in
    brings-append from file b next (piece_items b r) (items_of next rs)
    (piece-stands o file b r refl follow.0 all.0 may follow.2 limit (holds-left file b.place piece more h))
    ∙ (λ i. one i ++ others i)

-- ---- what stands after them, and after the end

abbrev pub rows_of : Frame → List Record
rows_of f = records_from f 0 f.rows

-- what stands after the rows, once the end record's entry does, and after it
abbrev pub after_rows : Before → Frame → Before
after_rows b f = after_pieces b (rows_of f)

abbrev pub before_end : Before → Frame → Before
before_end b f = before_record (after_rows b f) (end_record f)

abbrev pub end_structure : Before → Frame → Structure
end_structure b f = record_structure (before_end b f).place (end_record f)

abbrev pub after_end : Before → Frame → Before
after_end b f = with_end (before_end b f) (end_structure b f)

abbrev pub frame_items : Before → Frame → List Item
frame_items b f = items_of b (rows_of f) ++ piece_items (after_rows b f) (end_record f)

-- The frame stands, is the one frame of its items, and reads back as it was written.
pub record FrameStands (dictionary : List Entry) (file : List ℕ) (b : Before) (f : Frame) : Type 0 where
  pub stand : Stand Little file b (frame_items b f) (after_end b f)
  pub frames : map (content_frame Little) (frames_from b (frame_items b f)) ≡ as_read f ∷ []
  pub between : IsBetween dictionary (after_end b f)
  pub entries : (after_end b f).dictionary ≡ entries_after b.dictionary (records_of f)
  pub place : (after_end b f).place ≡ b.place + length (bytes_of b.dictionary (records_of f))
  pub count : (after_end b f).frames ≡ b.frames + 1
  pub tables : brings table_here b (frame_items b f) ≡ []
  pub seeks : brings (seek_told Little) b (frame_items b f) ≡ []

-- What is known of a frame that is to stand at a place.
pub record MayStandAt (dictionary : List Entry) (file : List ℕ) (b : Before) (f : Frame) : Type 0 where
  pub sound : IsDictionary dictionary
  pub writable : IsWritableFrame dictionary f
  pub between : IsBetween dictionary b
  pub below : b.frames < frames_limit
  pub few : length (entries_after b.dictionary (records_of f)) < 256 ^ 4
  pub limit : length file ≤ file_limit
  pub holds : Holds file b.place (bytes_of b.dictionary (records_of f))

-- the sizes of the records are those of the rows and that of the end
sizes : (f : Frame)
    → sum_by size_of_record (records_of f) ≡ sum_by size_of_record (rows_of f) + length (record_bytes (end_record f))
sizes f =
    let e : Record = end_record f in
    sum_by-append size_of_record (rows_of f) (e ∷ [])
    ∙ ap (λ n. sum_by size_of_record (rows_of f) + n)
    (sum_by-cons size_of_record e [] ∙ add-zero (length (record_bytes e)))

start : (dictionary : List Entry) (f : Frame) (b : Before) → IsBetween dictionary b → Going dictionary f 0 b
start dictionary f b between = record {
  within = omega arith;
  entries = between.entries;
  size = ap length between.frame;
  is = λ k d less. absurd (omega (arith, less));
  held = λ k less. absurd (omega (arith, less));
  unclosed = between.unclosed;
  no_table = between.no_table;
}

few-rows : (dictionary : List Entry) (file : List ℕ) (b : Before) (f : Frame) → MayStandAt dictionary file b f
    → length (entries_after b.dictionary (rows_of f)) < 256 ^ 4
few-rows dictionary file b f may =
    omega (
      arith,
      may.few,
      ap length (entries-append b.dictionary (rows_of f) (end_record f ∷ [])),
      entries-longer (entries_after b.dictionary (rows_of f)) (end_record f ∷ []),
    )

-- the rows may follow, and their records can be written
pub follow : (dictionary : List Entry) (file : List ℕ) (b : Before) (f : Frame) → MayStandAt dictionary file b f
    → RowsFollow dictionary f b (rows_of f)
follow dictionary file b f may =
    rows-follow dictionary f 0 f.rows b may.sound may.writable.rows (start dictionary f b may.between) refl
    (omega (arith, sizes f, may.writable.load, may.between.load)) (few-rows dictionary file b f may)

all-writable : (dictionary : List Entry) (f : Frame) → IsWritableFrame dictionary f
    → AllByRecursion IsWritable (rows_of f)
all-writable dictionary f w =
    all-records IsWritable f 0 f.rows (λ k less. (w.rows k less).writable) (omega arith) refl

-- the bytes of the frame are those of its rows, and those of its end
abbrev end_bytes : Before → Frame → List ℕ
end_bytes b f = new_entry (after_rows b f).dictionary f.end.entry ++ record_bytes (end_record f)

bytes-split : (b : Before) (f : Frame)
    → bytes_of b.dictionary (records_of f) ≡ bytes_of b.dictionary (rows_of f) ++ end_bytes b f
bytes-split b f =
    let e : Record = end_record f in
    let front : List ℕ = bytes_of b.dictionary (rows_of f) in
    bytes-append b.dictionary (rows_of f) (e ∷ [])
    ∙ ap (λ es. front ++ bytes_of es (e ∷ [])) (sym (dictionary-after b (rows_of f)))
    ∙ ap (λ bytes. front ++ bytes) (append-nil (end_bytes b f))

-- ---- the entries before the end

-- the end's entry agrees with those that stand after the rows
end-agrees : (dictionary : List Entry) (file : List ℕ) (b : Before) (f : Frame) → MayStandAt dictionary file b f
    → Agrees (entry_of (after_rows b f).dictionary f.end.entry.class) (after_rows b f).dictionary f.end.entry
end-agrees dictionary file b f may =
    agrees-in dictionary (after_rows b f).dictionary f.end.entry may.sound
    (follow dictionary file b f may).going.entries may.writable.end.held

end-held : (dictionary : List Entry) (file : List ℕ) (b : Before) (f : Frame) → MayStandAt dictionary file b f
    → entry_of (before_end b f).dictionary f.end.entry.class ≡ Some f.end.entry
end-held dictionary file b f may =
    own-added (entry_of (after_rows b f).dictionary f.end.entry.class) (after_rows b f).dictionary f.end.entry refl
    (end-agrees dictionary file b f may)

gone : (dictionary : List Entry) (file : List ℕ) (b : Before) (f : Frame) → MayStandAt dictionary file b f
    → Gone dictionary (before_end b f).dictionary f (after_rows b f)
gone dictionary file b f may =
    let going = (follow dictionary file b f may).going in
    let mid : Before = after_rows b f in
    record {
      writable = may.writable.rows;
      going = going;
      entries = λ k less. stays-added (entry_of mid.dictionary f.end.entry.class) mid.dictionary f.end.entry
          (class_at f k) (label_at f k).entry (going.held k less);
    }

-- ---- the end

end-may : (dictionary : List Entry) (file : List ℕ) (b : Before) (f : Frame) → MayStandAt dictionary file b f
    → MayEnd (before_end b f) (end_record f)
end-may dictionary file b f may =
    let all = gone dictionary file b f may in
    let held : List Entry = (before_end b f).dictionary in
    let w = may.writable in
    record {
      held = end-held dictionary file b f may;
      unclosed = all.going.unclosed;
      no_table = all.going.no_table;
      kind = w.end.kind;
      header = gone-header dictionary held f (after_rows b f) all w.header w.header_within w.header_is;
      linked = gone-linked dictionary held f (after_rows b f) all;
      frames = omega (arith, may.below, frames-after b (rows_of f));
      load = omega (arith, load-after b (rows_of f), may.between.load, sizes f, w.load);
    }

end-part : (dictionary : List Entry) (file : List ℕ) (b : Before) (f : Frame) → MayStandAt dictionary file b f
    → Stand Little file (after_rows b f) (piece_items (after_rows b f) (end_record f)) (after_end b f)
end-part dictionary file b f may =
    let e : Record = end_record f in
    let mid : Before = after_rows b f in
    let front : List ℕ = bytes_of b.dictionary (rows_of f) in
    let entry : List ℕ = new_entry mid.dictionary f.end.entry in
    let whole : Holds file b.place (front ++ end_bytes b f) = subst (Holds file b.place) (bytes-split b f) may.holds in
    let right : Holds file mid.place (end_bytes b f) =
    holds-at file (b.place + length front) mid.place (end_bytes b f) (place-after b (rows_of f))
    (holds-right file b.place front (end_bytes b f) whole) in
    let ended = end-stands file (before_end b f) e may.writable.end.writable (end-may dictionary file b f may) may.limit
    (holds-right file mid.place entry (record_bytes e) right) in
    let few : length mid.dictionary < 256 ^ 4 =
    omega (arith, few-rows dictionary file b f may, ap length (dictionary-after b (rows_of f))) in
    entry-before (entry_of mid.dictionary f.end.entry.class) file mid (after_end b f) e refl
    (end-agrees dictionary file b f may) may.writable.end.writable
    (follow dictionary file b f may).going.unclosed few may.limit right ended

-- the frame that it ends reads back
pub reads-back : (dictionary : List Entry) (file : List ℕ) (b : Before) (f : Frame) → MayStandAt dictionary file b f
    → content_frame Little (stored_frame (before_end b f) (end_structure b f)) ≡ as_read f
reads-back dictionary file b f may =
    let all = gone dictionary file b f may in
    let held : List Entry = (before_end b f).dictionary in
    let mid : Before = after_rows b f in
    let rows = gone-back dictionary held f mid all in
    let roots = roots-agree f (nodes_of held mid) (gone-marked dictionary held f mid all) in
    let end = end-back held f (before_end b f).place (root_of held f.end.entry.class) may.writable.end.label
    may.writable.end.writable (end-held dictionary file b f may) in
    λ i. record { rows = rows i; roots = roots i; end = end i }

-- what its rows bring, and what its end does
frame-brings : {X : Type 0} (from : Before → Structure → List X) → BringsNone is_target_kind from
    → (dictionary : List Entry) (file : List ℕ) (b : Before) (f : Frame) → MayStandAt dictionary file b f
    → brings from b (frame_items b f) ≡ from (before_end b f) (end_structure b f) ++ []
frame-brings from none dictionary file b f may =
    let rs : List Record = rows_of f in
    let e : Record = end_record f in
    let mid : Before = after_rows b f in
    let front : List ℕ = bytes_of b.dictionary rs in
    let writable = all-writable dictionary f may.writable in
    let follows = follow dictionary file b f may in
    let whole : Holds file b.place (front ++ end_bytes b f) = subst (Holds file b.place) (bytes-split b f) may.holds in
    let left : Holds file b.place front = holds-left file b.place front (end_bytes b f) whole in
    let ends = brings-by from (entry_of mid.dictionary f.end.entry.class) mid e may.writable.end.writable.entry refl
    (end-agrees dictionary file b f may) in
    brings-append from file b mid (items_of b rs) (piece_items mid e)
    (records-stand file b rs writable follows.follow may.limit left)
    ∙ (λ i. rows-bring from none file b rs writable follows.follow may.limit left i ++ ends i)

-- the end is of its kind
end-kind : (dictionary : List Entry) (file : List ℕ) (b : Before) (f : Frame) → MayStandAt dictionary file b f
    → kind_of (before_end b f).dictionary f.end.entry.class ≡ FrEndOfFrame
end-kind dictionary file b f may =
    let w = may.writable.end in
    kind-held (before_end b f).dictionary f.end.entry w.writable.entry.low (end-held dictionary file b f may) ∙ w.kind

-- The frame is the one of its items.
pub frame-stored : (dictionary : List Entry) (file : List ℕ) (b : Before) (f : Frame)
    → MayStandAt dictionary file b f
    → frames_from b (frame_items b f) ≡ stored_frame (before_end b f) (end_structure b f) ∷ []
frame-stored dictionary file b f may =
    frame-brings frame_ended rows-end_none dictionary file b f may
    ∙ ap (λ k. frame_of_kind k (before_end b f) (end_structure b f) ++ []) (end-kind dictionary file b f may)

-- The whole frame.
pub frame-stands : (dictionary : List Entry) (file : List ℕ) (b : Before) (f : Frame)
    → MayStandAt dictionary file b f → FrameStands dictionary file b f
frame-stands dictionary file b f may =
    let rs : List Record = rows_of f in
    let e : Record = end_record f in
    let mid : Before = after_rows b f in
    let next : Before = before_end b f in
    let o : Option Entry = entry_of mid.dictionary f.end.entry.class in
    let front : List ℕ = bytes_of b.dictionary rs in
    let writable = all-writable dictionary f may.writable in
    let w = may.writable.end in
    let follows = follow dictionary file b f may in
    let whole : Holds file b.place (front ++ end_bytes b f) = subst (Holds file b.place) (bytes-split b f) may.holds in
    let left : Holds file b.place front = holds-left file b.place front (end_bytes b f) whole in
    let rows : Stand Little file b (items_of b rs) mid =
    records-stand file b rs writable follows.follow may.limit left in
    let s : Structure = end_structure b f in
    let kind = end-kind dictionary file b f may in
    let tables : brings table_here b (frame_items b f) ≡ [] =
    frame-brings table_here rows-no_table dictionary file b f may ∙ ap (λ k. table_of_kind k next s ++ []) kind in
    let seeks : brings (seek_told Little) b (frame_items b f) ≡ [] =
    frame-brings (seek_told Little) rows-no_seek dictionary file b f may
    ∙ ap (λ k. seek_of_kind Little k next s ++ []) kind in
    record {
      stand = stand-append Little file b mid (after_end b f) (items_of b rs) (piece_items mid e) rows
          (end-part dictionary file b f may);
      frames = ap (map (content_frame Little)) (frame-stored dictionary file b f may)
          ∙ ap (λ (g : Frame). g ∷ []) (reads-back dictionary file b f may);
      between = record {
        entries = added-in dictionary mid.dictionary o f.end.entry follows.going.entries w.held;
        frame = refl;
        load = refl;
        unclosed = follows.going.unclosed;
        no_table = follows.going.no_table;
      };
      entries = ap (λ es. with_record es e) (dictionary-after b rs) ∙ sym (entries-append b.dictionary rs (e ∷ []));
      place = omega (
        arith,
        place-after b rs,
        ap length (bytes-split b f),
        length-append front (end_bytes b f),
        length-append (new_entry mid.dictionary f.end.entry) (record_bytes e),
        record-size next.place e,
      );
      count = ap (λ n. n + 1) (frames-after b rs);
      tables = tables;
      seeks = seeks;
    }
