-- The contents table of a canonical file: its entry, and its record where that is within the limit.
use Rattle.std.proofs.Common.{◌≡◌, ℕ, ◌+◌, ◌^◌, ◌<◌, ◌≤◌, Bool, true, false, cond, Some, None, List, [], ◌∷◌, ◌++◌}
use Rattle.std.proofs.Common.{length, refl, sym, ap, ◌∙◌, subst, arith, append-nil, length-append}
use Rattle.scalar_types.specs.declared.Order.TheVariants.{Little}
use Rattle.dictionary.specs.declared.entries.Entry.{Entry}
use Rattle.dictionary.specs.Dictionary.{entry_of, class_named}
use Rattle.file_grammar.specs.declared.kind.Kind.{Kind}
use Rattle.file_grammar.specs.declared.kind.Kind.TheVariants.{FrTOC}
use Rattle.file_grammar.specs.Structure.{Structure, end_of, record_limit, file_limit, StandsWhole}
use Rattle.file_grammar.specs.Kind.{kind_of}
use Rattle.file_grammar.specs.Record.{weight_of}
use Rattle.file_grammar.specs.Item.{Item, OtherItem, Before, after_kind}
use Rattle.file_grammar.specs.MayStand.{KindMayStand, MayStand, Stand}
use Rattle.item_reader.proofs.Growing.{entry_of-own}
use Rattle.canonical_file.specs.Bytes.{entry_bytes}
use Rattle.canonical_file.specs.Records.{Record, record_bytes}
use Rattle.canonical_laws.specs.Writable.{IsWritableTable}
use Rattle.canonical_laws.proofs.Holding.{Holds, holds-left, holds-right, length-structure, stands-held}
use Rattle.canonical_laws.proofs.WrittenRecords.{record_body, record_structure, record-size, kind-held, past_entry}
use Rattle.canonical_laws.proofs.WrittenRecords.{entry_item}
use Rattle.canonical_laws.proofs.WrittenRecords.{record_item, entry-after, entry-may_stand}
use Rattle.canonical_laws.proofs.FrameEnds.{brings}

-- the bytes of the record, where there is one
abbrev pub table_bytes : Bool → Record → List ℕ
table_bytes fits r = cond fits (record_bytes r) []

abbrev pub table_items : Bool → Before → Record → List Item
table_items true b r = entry_item b r.entry ∷ record_item (past_entry None b r.entry) r ∷ []
table_items false b r = entry_item b r.entry ∷ []

abbrev pub past_table : Bool → Before → Record → Before
past_table true b r = record (past_entry None b r.entry) {
  place = end_of (record_structure (past_entry None b r.entry).place r);
  table = true;
}
past_table false b r = past_entry None b r.entry

-- What stands after it.
pub record TableFacts (fits : Bool) (b : Before) (r : Record) : Type 0 where
  pub dictionary : (past_table fits b r).dictionary ≡ b.dictionary ++ r.entry ∷ []
  pub frame : (past_table fits b r).frame ≡ b.frame
  pub closed : (past_table fits b r).closed ≡ b.closed
  pub count : (past_table fits b r).frames ≡ b.frames
  pub place : (past_table fits b r).place
      ≡ b.place + length (entry_bytes (length b.dictionary) r.entry ++ table_bytes fits r)

pub table-facts : (fits : Bool) (b : Before) (r : Record) → TableFacts fits b r
table-facts true b r = record {
  dictionary = refl;
  frame = refl;
  closed = refl;
  count = refl;
  place = omega (
    arith,
    record-size (past_entry None b r.entry).place r,
    length-append (entry_bytes (length b.dictionary) r.entry) (record_bytes r),
  );
}
table-facts false b r = record {
  dictionary = refl;
  frame = refl;
  closed = refl;
  count = refl;
  place = ap (λ (bytes : List ℕ). b.place + length bytes)
      (sym (append-nil (entry_bytes (length b.dictionary) r.entry)));
}

-- What is known where the table is to stand; the structure `next` comes after it.
pub record HasTable (dictionary : List Entry) (fits : Bool) (file : List ℕ) (b : Before) (r : Record)
    (next : Structure) : Type 0 where
  pub writable : IsWritableTable dictionary r.entry
  pub first : r.instance ≡ 0
  pub class : entry_of b.dictionary r.entry.class ≡ None
  pub name : class_named b.dictionary r.entry.name ≡ None
  pub few_entries : length b.dictionary < 256 ^ 4
  pub unclosed : b.closed ≡ false
  pub frame : b.frame ≡ []
  pub no_table : b.table ≡ false
  pub short : fits ≡ true → length (record_bytes r) ≤ record_limit
  pub limit : length file ≤ file_limit
  pub holds : Holds file b.place (entry_bytes (length b.dictionary) r.entry ++ table_bytes fits r)
  pub stands : StandsWhole Little file next
  pub place : next.at ≡ (past_table fits b r).place
  pub other : next.class ≡ 2 → ⊥

pub table-stands : (dictionary : List Entry) (fits : Bool) (file : List ℕ) (b : Before) (r : Record) (next : Structure)
    → HasTable dictionary fits file b r next → Stand Little file b (table_items fits b r) (past_table fits b r)
table-stands dictionary true file b r next may =
    let w = may.writable in
    let mid : Before = past_entry None b r.entry in
    let entry : List ℕ = entry_bytes (length b.dictionary) r.entry in
    let s : Structure = record_structure mid.place r in
    let right : Holds file mid.place (record_bytes r) = holds-right file b.place entry (record_bytes r) may.holds in
    let here : StandsWhole Little file s =
    stands-held file mid.place r.entry.class r.instance (record_body r) right (omega (arith, may.first))
    (omega (arith, may.short refl, length-structure r.entry.class r.instance (record_body r))) may.limit in
    let held : entry_of mid.dictionary r.entry.class ≡ Some r.entry = entry_of-own b.dictionary r.entry may.class in
    let kind : kind_of mid.dictionary s.class ≡ FrTOC = kind-held mid.dictionary r.entry w.entry.low held ∙ w.kind in
    let P : Kind → Type 0 = λ k. KindMayStand k Little mid s in
    let second : MayStand Little file mid (OtherItem s) = (
      may.unclosed,
      record {
        here = refl;
        stands = here;
        entry = r.entry;
        held = held;
        kind = subst P (sym kind) (may.frame, may.no_table);
      },
    ) in
    let last : past_table true b r ≡ after_kind (kind_of mid.dictionary s.class) mid s
    (weight_of Little mid.dictionary s) =
    ap (λ k. after_kind k mid s (weight_of Little mid.dictionary s)) (sym kind) in
    let first : MayStand Little file b (entry_item b r.entry) =
    entry-may_stand file b r.entry s w.entry may.unclosed may.class may.name may.few_entries may.limit
    (holds-left file b.place entry (record_bytes r) may.holds) here refl (λ two. omega (arith, two, w.entry.low)) in
    let Q : Before → Type 0 = λ x. Stand Little file x (OtherItem s ∷ []) (past_table true b r) in
    (first, subst Q (sym (entry-after b r.entry w.entry may.class may.name)) (second, last))
table-stands dictionary false file b r next may =
    let w = may.writable in
    let entry : List ℕ = entry_bytes (length b.dictionary) r.entry in (
      entry-may_stand file b r.entry next w.entry may.unclosed may.class may.name may.few_entries may.limit
          (holds-left file b.place entry [] may.holds) may.stands may.place may.other,
      sym (entry-after b r.entry w.entry may.class may.name),
    )

-- ---- what they bring

-- What the record does, where it stands.
pub table-brings : {X : Type 0} (from : Before → Structure → List X) (dictionary : List Entry) (fits : Bool)
    (b : Before) (r : Record) → IsWritableTable dictionary r.entry → entry_of b.dictionary r.entry.class ≡ None
    → class_named b.dictionary r.entry.name ≡ None
    → brings from b (table_items fits b r)
    ≡ cond fits (from (past_entry None b r.entry) (record_structure (past_entry None b r.entry).place r)) []
table-brings from dictionary true b r w class name =
    let mid : Before = past_entry None b r.entry in
    let s : Structure = record_structure mid.place r in
    ap (λ x. from x s ++ []) (entry-after b r.entry w.entry class name) ∙ append-nil (from mid s)
table-brings from dictionary false b r w class name = refl

-- the record is of its kind
pub table-kind : (dictionary : List Entry) (b : Before) (r : Record) → IsWritableTable dictionary r.entry
    → entry_of b.dictionary r.entry.class ≡ None → kind_of (past_entry None b r.entry).dictionary r.entry.class ≡ FrTOC
table-kind dictionary b r w class =
    kind-held (past_entry None b r.entry).dictionary r.entry w.entry.low (entry_of-own b.dictionary r.entry class)
    ∙ w.kind
