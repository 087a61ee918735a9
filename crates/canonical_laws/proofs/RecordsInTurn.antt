-- The records of a frame one after another, each with its entry before it where that is new.
use Rattle.std.proofs.Common.{◌≡◌, ℕ, ◌+◌, ◌^◌, ◌<◌, ◌≤◌, List, [], ◌∷◌, ◌++◌, length, fold, flat_map, refl, sym, ap}
use Rattle.std.proofs.Common.{◌∙◌}
use Rattle.std.proofs.Common.{subst, arith, add-zero, length-append}
use Rattle.std.specs.Prelude.{⊤}
use Rattle.std.specs.List.{AllByRecursion}
use Rattle.std.proofs.lemmas.List.Concat.{flat_map-append}
use Rattle.std.proofs.lemmas.List.Sums.{sum_by-cons}
use Rattle.std.specs.Prelude.{sum_by}
use Rattle.scalar_types.specs.declared.Order.{Order}
use Rattle.scalar_types.specs.declared.Order.TheVariants.{Little}
use Rattle.dictionary.specs.declared.entries.Entry.{Entry}
use Rattle.dictionary.specs.Dictionary.{entry_of}
use Rattle.file_grammar.specs.Structure.{file_limit}
use Rattle.file_grammar.specs.Item.{Item, Before, after}
use Rattle.file_grammar.specs.MayStand.{Stand}
use Rattle.canonical_file.specs.Records.{Record, record_bytes, new_entry, with_record, entries_after, piece_of}
use Rattle.canonical_file.specs.Records.{piece_bytes, pieces_of}
use Rattle.canonical_laws.specs.Writable.{IsWritable, size_of_record}
use Rattle.canonical_laws.proofs.Holding.{Holds, holds-left, holds-right, holds-at}
use Rattle.canonical_laws.proofs.WrittenRecords.{MayFollow, Agrees, record-size, past_entry, after_record, items_by}
use Rattle.canonical_laws.proofs.WrittenRecords.{piece-stands}

-- chains of items one after another
pub stand-append : (order : Order) (file : List ℕ) (b mid last : Before) (items more : List Item)
    → Stand order file b items mid → Stand order file mid more last → Stand order file b (items ++ more) last
stand-append order file b mid last [] more first second = subst (λ x. Stand order file x more last) first second
stand-append order file b mid last (item ∷ items) more first second =
    (first.0, stand-append order file (after order b item) mid last items more first.1 second)

-- ---- what records are and what stands after them

abbrev pub bytes_of : List Entry → List Record → List ℕ
bytes_of entries rs = flat_map piece_bytes (pieces_of entries rs)

-- what stands once the entry of a record does, after the record, and after some
abbrev pub before_record : Before → Record → Before
before_record b r = past_entry (entry_of b.dictionary r.entry.class) b r.entry

abbrev pub after_piece : Before → Record → Before
after_piece b r = after_record (before_record b r) r

abbrev pub after_pieces : Before → List Record → Before
after_pieces b rs = fold after_piece b rs

abbrev pub piece_items : Before → Record → List Item
piece_items b r = items_by (entry_of b.dictionary r.entry.class) b r

abbrev pub items_of : Before → List Record → List Item
items_of b [] = []
items_of b (r ∷ rs) = piece_items b r ++ items_of (after_piece b r) rs

-- Each record may follow those before it.
abbrev pub AllFollow : Before → List Record → Type 0
AllFollow b [] = ⊤
AllFollow b (r ∷ rs) =
    Agrees (entry_of b.dictionary r.entry.class) b.dictionary r.entry × MayFollow (before_record b r) r
    × (length b.dictionary < 256 ^ 4) × AllFollow (after_piece b r) rs

-- ---- that they stand

-- the place after a record
pub place-after_piece : (b : Before) (r : Record)
    → b.place + length (piece_bytes (piece_of b.dictionary r)) ≡ (after_piece b r).place
place-after_piece b r =
    let entry : List ℕ = new_entry b.dictionary r.entry in
    omega (arith, length-append entry (record_bytes r), record-size (b.place + length entry) r)

-- The bytes of such records are these items.
pub records-stand : (file : List ℕ) (b : Before) (rs : List Record) → AllByRecursion IsWritable rs → AllFollow b rs
    → length file ≤ file_limit → Holds file b.place (bytes_of b.dictionary rs)
    → Stand Little file b (items_of b rs) (after_pieces b rs)
records-stand file b [] all follow limit h = refl
records-stand file b (r ∷ rs) all follow limit h =
    let piece : List ℕ = piece_bytes (piece_of b.dictionary r) in
    let more : List ℕ = bytes_of (with_record b.dictionary r) rs in
    let next : Before = after_piece b r in
    stand-append Little file b next (after_pieces next rs) (piece_items b r) (items_of next rs)
    (piece-stands (entry_of b.dictionary r.entry.class) file b r refl follow.0 all.0 follow.1 follow.2 limit
    (holds-left file b.place piece more h))
    (records-stand file next rs all.1 follow.3 limit
    (holds-at file (b.place + length piece) next.place more (place-after_piece b r)
    (holds-right file b.place piece more h)))

-- ---- what stands after them

pub dictionary-after : (b : Before) (rs : List Record)
    → (after_pieces b rs).dictionary ≡ entries_after b.dictionary rs
dictionary-after b [] = refl
dictionary-after b (r ∷ rs) = dictionary-after (after_piece b r) rs

pub load-after : (b : Before) (rs : List Record) → (after_pieces b rs).load ≡ b.load + sum_by size_of_record rs
load-after b [] = sym (add-zero b.load)
load-after b (r ∷ rs) = omega (arith, load-after (after_piece b r) rs, sum_by-cons size_of_record r rs)

pub frames-after : (b : Before) (rs : List Record) → (after_pieces b rs).frames ≡ b.frames
frames-after b [] = refl
frames-after b (r ∷ rs) = frames-after (after_piece b r) rs

pub place-after : (b : Before) (rs : List Record)
    → b.place + length (bytes_of b.dictionary rs) ≡ (after_pieces b rs).place
place-after b [] = add-zero b.place
place-after b (r ∷ rs) =
    omega (
      arith,
      place-after_piece b r,
      place-after (after_piece b r) rs,
      length-append (piece_bytes (piece_of b.dictionary r)) (bytes_of (with_record b.dictionary r) rs),
    )

-- ---- records behind others

pub pieces-append : (entries : List Entry) (rs ss : List Record)
    → pieces_of entries (rs ++ ss) ≡ pieces_of entries rs ++ pieces_of (entries_after entries rs) ss
pieces-append entries [] ss = refl
pieces-append entries (r ∷ rs) ss = ap (λ ps. piece_of entries r ∷ ps) (pieces-append (with_record entries r) rs ss)

pub bytes-append : (entries : List Entry) (rs ss : List Record)
    → bytes_of entries (rs ++ ss) ≡ bytes_of entries rs ++ bytes_of (entries_after entries rs) ss
bytes-append entries rs ss =
    ap (flat_map piece_bytes) (pieces-append entries rs ss)
    ∙ flat_map-append piece_bytes (pieces_of entries rs) (pieces_of (entries_after entries rs) ss)

pub entries-append : (entries : List Entry) (rs ss : List Record)
    → entries_after entries (rs ++ ss) ≡ entries_after (entries_after entries rs) ss
entries-append entries [] ss = refl
entries-append entries (r ∷ rs) ss = entries-append (with_record entries r) rs ss
