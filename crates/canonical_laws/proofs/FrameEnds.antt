-- The end record of a frame, and the frames that items bring.
use Rattle.std.proofs.Common.{◌≡◌, ℕ, ◌+◌, ◌<◌, ◌≤◌, Bool, true, false, Option, Some, None, List, [], ◌∷◌, ◌++◌}
use Rattle.std.proofs.Common.{length, map, refl}
use Rattle.std.proofs.Common.{sym}
use Rattle.std.proofs.Common.{ap, ◌∙◌, subst, append_assoc}
use Rattle.std.proofs.lemmas.Bool.{false≢true}
use Rattle.scalar_types.specs.declared.Order.TheVariants.{Little}
use Rattle.dictionary.specs.declared.entries.Entry.{Entry}
use Rattle.dictionary.specs.Dictionary.{entry_of}
use Rattle.file_grammar.specs.declared.kind.Kind.{Kind}
use Rattle.file_grammar.specs.declared.kind.Kind.TheVariants.{FrSH, FrSE, FrameH, FrEndOfFrame, FrTOC, FrEndOfFile}
use Rattle.file_grammar.specs.declared.kind.Kind.TheVariants.{Other}
use Rattle.file_grammar.specs.Structure.{Structure, end_of, record_limit, file_limit}
use Rattle.file_grammar.specs.Kind.{kind_named, kind_of, is_target_kind}
use Rattle.file_grammar.specs.Record.{weight_of, AreLinked}
use Rattle.file_grammar.specs.Item.{Item, Before, after_kind, after}
use Rattle.file_grammar.specs.MayStand.{frames_limit, RecordMayStand, HasHeader, KindMayStand, Stand}
use Rattle.item_reader.specs.State.{bodied_of}
use Rattle.canonical_file.specs.Records.{Record, record_bytes}
use Rattle.file_content.specs.Stored.{StoredFrame, structures_brought, brought_in, frame_of_kind, frame_ended}
use Rattle.file_content.specs.Stored.{table_of_kind}
use Rattle.file_content.specs.Stored.{table_here, seek_of_kind, seek_told}
use Rattle.canonical_laws.specs.Writable.{IsWritableEntry, IsWritable}
use Rattle.canonical_laws.proofs.Holding.{Holds}
use Rattle.canonical_laws.proofs.WrittenRecords.{record_structure, record-stands, kind-held, IsRowKind}
use Rattle.canonical_laws.proofs.WrittenRecords.{frame_record, past_entry, record_item, items_by, Agrees, entry-after}
use Rattle.canonical_laws.proofs.WrittenRecords.{past-held}

-- ---- the end record

-- What must hold of a record that is to end a frame.
pub record MayEnd (b : Before) (r : Record) : Type 0 where
  pub held : entry_of b.dictionary r.entry.class ≡ Some r.entry
  pub unclosed : b.closed ≡ false
  pub no_table : b.table ≡ false
  pub kind : kind_named r.entry.name ≡ FrEndOfFrame
  pub header : HasHeader b.dictionary b.frame
  pub linked : AreLinked Little b.dictionary b.frame b.frame
  pub frames : b.frames < frames_limit
  pub load : b.load + length (record_bytes r) ≤ record_limit

abbrev pub with_end : Before → Structure → Before
with_end b s = record b {
  place = end_of s;
  frame = [];
  load = 0;
  frames = b.frames + 1;
  records = b.records + 1;
}

pub end-stands : (file : List ℕ) (b : Before) (r : Record) → IsWritable r → MayEnd b r → length file ≤ file_limit
    → Holds file b.place (record_bytes r)
    → Stand Little file b (record_item b r ∷ []) (with_end b (record_structure b.place r))
end-stands file b r w may limit h =
    let s : Structure = record_structure b.place r in
    let kind : kind_of b.dictionary s.class ≡ FrEndOfFrame =
    kind-held b.dictionary r.entry w.entry.low may.held ∙ may.kind in
    let stands : RecordMayStand Little b s = frame_record b r w may.held may.no_table may.load in
    let P : Kind → Type 0 = λ k. KindMayStand k Little b s in (
      (
        may.unclosed,
        record {
          here = refl;
          stands = record-stands file b.place r w limit h;
          entry = r.entry;
          held = may.held;
          kind = subst P (sym kind) (stands, may.header, may.linked, may.frames);
        },
      ),
      ap (λ k. after_kind k b s (weight_of Little b.dictionary s)) (sym kind),
    )

-- ---- what items bring

-- What items bring, by what stands before each; and their frames.
abbrev pub brings : {X : Type 0} → (Before → Structure → List X) → Before → List Item → List X
brings from b items = brought_in from Little b items

abbrev pub frames_from : Before → List Item → List StoredFrame
frames_from b items = brings frame_ended b items

pub brings-append : {X : Type 0} (from : Before → Structure → List X) (file : List ℕ) (b mid : Before)
    (items more : List Item) → Stand Little file b items mid
    → brings from b (items ++ more) ≡ brings from b items ++ brings from mid more
brings-append from file b mid [] more stand = ap (λ x. brings from x more) (sym stand)
brings-append from file b mid (item ∷ items) more stand =
    let next : Before = after Little b item in
    ap (λ xs. structures_brought from b item ++ xs) (brings-append from file next mid items more stand.1)
    ∙ sym (append_assoc (structures_brought from b item) (brings from next items) (brings from mid more))

-- a record with its entry brings what the record does
pub brings-by : {X : Type 0} (from : Before → Structure → List X) (o : Option Entry) (b : Before) (r : Record)
    → IsWritableEntry r.entry → entry_of b.dictionary r.entry.class ≡ o → Agrees o b.dictionary r.entry
    → brings from b (items_by o b r)
    ≡ from (past_entry o b r.entry) (record_structure (past_entry o b r.entry).place r) ++ []
brings-by from (Some old) b r w is agrees =
    let s : Structure = record_structure (past_entry (Some old) b r.entry).place r in
    ap (λ x. from x s ++ []) (sym (past-held old b r.entry))
brings-by from None b r w is agrees =
    let s : Structure = record_structure (past_entry None b r.entry).place r in
    ap (λ x. from x s ++ []) (entry-after b r.entry w is agrees)

-- ---- what records do not bring

-- structures of kinds that pass bring nothing
abbrev pub BringsNone : {X : Type 0} → (Kind → Bool) → (Before → Structure → List X) → Type 0
BringsNone passes from =
    (b : Before) (s : Structure) → passes (kind_of b.dictionary s.class) ≡ true → from b s ≡ []

-- a row ends no frame
pub rows-end_none : BringsNone is_target_kind frame_ended
rows-end_none b s is = by (kind_of b.dictionary s.class) is
  where
    by : (kind : Kind) → is_target_kind kind ≡ true → frame_of_kind kind b s ≡ []
    by Other is = refl
    by FrameH is = refl
    by FrEndOfFrame is = absurd (false≢true is)
    by FrTOC is = refl
    by FrEndOfFile is = refl
    by FrSH is = refl
    by FrSE is = refl

-- nor is it a contents table
pub rows-no_table : BringsNone is_target_kind table_here
rows-no_table b s is = by (kind_of b.dictionary s.class) is
  where
    by : (kind : Kind) → is_target_kind kind ≡ true → table_of_kind kind b s ≡ []
    by Other is = refl
    by FrameH is = refl
    by FrEndOfFrame is = refl
    by FrTOC is = absurd (false≢true is)
    by FrEndOfFile is = refl
    by FrSH is = refl
    by FrSE is = refl

-- nor tells it of one
pub rows-no_seek : BringsNone is_target_kind (seek_told Little)
rows-no_seek b s is = by (kind_of b.dictionary s.class) is
  where
    by : (kind : Kind) → is_target_kind kind ≡ true → seek_of_kind Little kind b s ≡ []
    by Other is = refl
    by FrameH is = refl
    by FrEndOfFrame is = refl
    by FrTOC is = refl
    by FrEndOfFile is = absurd (false≢true is)
    by FrSH is = refl
    by FrSE is = refl

row-kind : (kind : Kind) (b : Before) → IsRowKind kind b → is_target_kind kind ≡ true
row-kind Other b is = refl
row-kind FrameH b is = refl
row-kind FrEndOfFrame b is = absurd is
row-kind FrTOC b is = absurd is
row-kind FrEndOfFile b is = absurd is
row-kind FrSH b is = absurd is
row-kind FrSE b is = absurd is

-- a row brings nothing
pub row-brings : {X : Type 0} (from : Before → Structure → List X) → BringsNone is_target_kind from → (b : Before)
    (at : ℕ) (r : Record) → 3 ≤ r.entry.class → entry_of b.dictionary r.entry.class ≡ Some r.entry
    → IsRowKind (kind_named r.entry.name) b → from b (record_structure at r) ≡ []
row-brings from none b at r low held kind =
    none b (record_structure at r)
    (ap is_target_kind (kind-held b.dictionary r.entry low held) ∙ row-kind (kind_named r.entry.name) b kind)

-- the frame that an end record ends
abbrev pub stored_frame : Before → Structure → StoredFrame
stored_frame b s = record {
  held = b.dictionary;
  nodes = map (bodied_of b.dictionary) b.frame;
  end = bodied_of b.dictionary s;
}
