-- A written record, with its entry before it, may stand in the file, and its body reads as what was written.
use Rattle.std.proofs.Common.{◌≡◌, ℕ, ◌+◌, ◌^◌, ◌<◌, ◌≤◌, false, Option, Some, None, Ok, is_ok, is_some, List, [], ◌∷◌}
use Rattle.std.proofs.Common.{◌++◌, length, refl, sym, ap, ◌∙◌, subst, arith, add-zero}
use Rattle.std.specs.Prelude.{⊤, option_and_then, unwrap_or}
use Rattle.std.specs.Option.{option_map_or}
use Rattle.std.proofs.lemmas.Bool.{cond-false, ne_eqb, le-ltb, or_from}
use Rattle.scalar_types.specs.declared.Order.TheVariants.{Little}
use Rattle.dictionary.specs.declared.entries.Entry.{Entry}
use Rattle.dictionary.specs.Dictionary.{entry_of, class_named, is_built_in, is_out_of_range, step_by, step}
use Rattle.layout_plan.specs.declared.fields.Field.{Field}
use Rattle.layout_plan.specs.Layout.{layout_of}
use Rattle.layout_plan.specs.Body.{values_length}
use Rattle.layout_plan.specs.Written.{IsWritten}
use Rattle.layout_plan.proofs.LayoutLemmas.{layout_of-sound}
use Rattle.file_grammar.specs.declared.kind.Kind.{Kind}
use Rattle.file_grammar.specs.declared.kind.Kind.TheVariants.{FrSH, FrSE, FrameH, FrEndOfFrame, FrTOC, FrEndOfFile}
use Rattle.file_grammar.specs.declared.kind.Kind.TheVariants.{Other}
use Rattle.file_grammar.specs.Structure.{Structure, size_of, end_of, record_limit, file_limit, StandsWhole}
use Rattle.file_grammar.specs.Kind.{kind_named, kind_of}
use Rattle.file_grammar.specs.Record.{Reading, reading_by, reading_of, values_of, weight_of}
use Rattle.file_grammar.specs.Item.{Item, EntryItem, OtherItem, Before, dictionary_by, after_kind, after}
use Rattle.file_grammar.specs.MayStand.{RecordMayStand, IsNewIn, HasHeader, KindMayStand, MayStand, Stand}
use Rattle.file_grammar.proofs.Bodies.{reading-again}
use Rattle.canonical_file.specs.Bytes.{body_bytes, entry_bytes}
use Rattle.canonical_file.specs.Records.{Record, entry_fields, record_bytes, unless_held, added_by}
use Rattle.canonical_file.proofs.Spelled.{body-written}
use Rattle.canonical_laws.specs.Writable.{IsWritableEntry, IsWritable}
use Rattle.canonical_laws.proofs.Holding.{Holds, holds-left, holds-right, length-structure, stands-held}
use Rattle.canonical_laws.proofs.WrittenEntries.{head_structure, run_at, entry-size, entry-stands}

-- ---- a record

abbrev pub record_body : Record → List ℕ
record_body r = body_bytes (entry_fields r.entry) r.values

abbrev pub record_structure : ℕ → Record → Structure
record_structure at r = record { at = at; class = r.entry.class; instance = r.instance; body = record_body r }

pub fields-layout : (r : Record) (w : IsWritable r) → entry_fields r.entry ≡ w.layout
fields-layout r w = ap (λ o. unwrap_or o []) w.is

record-written : (r : Record) (w : IsWritable r) → IsWritten Little w.layout r.values (record_body r)
record-written r w =
    subst (λ fields. IsWritten Little w.layout r.values (body_bytes fields r.values)) (sym (fields-layout r w))
    (body-written w.layout r.values (layout_of-sound r.entry.elements w.layout w.is) w.fits w.range)

pub record-size : (at : ℕ) (r : Record) → size_of (record_structure at r) ≡ length (record_bytes r)
record-size at r = sym (length-structure r.entry.class r.instance (record_body r))

pub record-stands : (file : List ℕ) (at : ℕ) (r : Record) → IsWritable r → length file ≤ file_limit
    → Holds file at (record_bytes r) → StandsWhole Little file (record_structure at r)
record-stands file at r w limit h =
    stands-held file at r.entry.class r.instance (record_body r) h w.instance (omega (arith, record-size at r, w.short))
    limit

-- what is read of a record that was written
abbrev pub reading_back : (r : Record) → IsWritable r → Reading
reading_back r w = record { fields = w.layout; values = r.values; tail = [] }

-- What is written is read: the values, and no tail.
pub record-reads : (held : List Entry) (at : ℕ) (r : Record) (w : IsWritable r)
    → entry_of held r.entry.class ≡ Some r.entry
    → reading_of Little held (record_structure at r) ≡ Some (reading_back r w)
record-reads held at r w is =
    let read : List Field → Option Reading = reading_by Little (record_body r) in
    ap (λ o. option_and_then read (option_and_then (λ (e : Entry). layout_of e.elements) o)) is
    ∙ ap (option_and_then read) w.is
    ∙ reading-again Little (record_body r) w.layout r.values [] (layout_of-sound r.entry.elements w.layout w.is)
    (record-written r w).body

pub values-read : (held : List Entry) (at : ℕ) (r : Record) → IsWritable r
    → entry_of held r.entry.class ≡ Some r.entry → values_of Little held (record_structure at r) ≡ r.values
values-read held at r w is =
    ap (λ o. option_map_or (λ (reading : Reading). reading.values) o []) (record-reads held at r w is)

pub record-weighs : (held : List Entry) (at : ℕ) (r : Record) → IsWritable r
    → entry_of held r.entry.class ≡ Some r.entry
    → weight_of Little held (record_structure at r) ≡ length (record_bytes r)
record-weighs held at r w is =
    let weigh : Reading → ℕ =
    λ reading. 14 + (values_length reading.fields reading.values + length reading.tail) in
    let size : ℕ = size_of (record_structure at r) in
    let weight : weight_of Little held (record_structure at r) ≡ 14 + (values_length w.layout r.values + 0) =
    ap (λ o. option_map_or weigh o size) (record-reads held at r w is) in
    omega (arith, weight, (record-written r w).size, record-size at r)

-- ---- kinds

pub kind-held : (held : List Entry) (e : Entry) → 3 ≤ e.class → entry_of held e.class ≡ Some e
    → kind_of held e.class ≡ kind_named e.name
kind-held held e low is =
    cond-false _ _ _ (ne_eqb e.class 1 (λ same. omega (arith, low, same)))
    ∙ cond-false _ _ _ (ne_eqb e.class 2 (λ same. omega (arith, low, same)))
    ∙ ap (λ o. option_map_or (λ (e : Entry). kind_named e.name) o Other) is

-- a record that is no end of a frame, and no second FrameH
abbrev pub IsRowKind : Kind → Before → Type 0
IsRowKind Other b = ⊤
IsRowKind FrameH b = HasHeader b.dictionary b.frame → ⊥
IsRowKind FrEndOfFrame b = ⊥
IsRowKind FrTOC b = ⊥
IsRowKind FrEndOfFile b = ⊥
IsRowKind FrSH b = ⊥
IsRowKind FrSE b = ⊥

row-may_stand : (kind : Kind) (b : Before) (s : Structure) → IsRowKind kind b → RecordMayStand Little b s
    → IsNewIn b.frame s → KindMayStand kind Little b s
row-may_stand Other b s is may new = (may, new)
row-may_stand FrameH b s is may new = (may, new, is)
row-may_stand FrEndOfFrame b s is may new = absurd is
row-may_stand FrTOC b s is may new = absurd is
row-may_stand FrEndOfFile b s is may new = absurd is
row-may_stand FrSH b s is may new = absurd is
row-may_stand FrSE b s is may new = absurd is

abbrev pub with_row : Before → Structure → ℕ → Before
with_row b s weight = record b {
  place = end_of s;
  frame = b.frame ++ s ∷ [];
  load = b.load + weight;
  records = b.records + 1;
}

row-after : (kind : Kind) (b : Before) (s : Structure) (weight : ℕ) → IsRowKind kind b
    → after_kind kind b s weight ≡ with_row b s weight
row-after Other b s weight is = refl
row-after FrameH b s weight is = refl
row-after FrEndOfFrame b s weight is = absurd is
row-after FrTOC b s weight is = absurd is
row-after FrEndOfFile b s weight is = absurd is
row-after FrSH b s weight is = absurd is
row-after FrSE b s weight is = absurd is

-- ---- a record of a frame, where its entry stands

-- What must hold of a record that is to stand after these.
pub record MayFollow (b : Before) (r : Record) : Type 0 where
  pub held : entry_of b.dictionary r.entry.class ≡ Some r.entry
  pub unclosed : b.closed ≡ false
  pub no_table : b.table ≡ false
  pub kind : IsRowKind (kind_named r.entry.name) b
  pub new : IsNewIn b.frame (record_structure b.place r)
  pub load : b.load + length (record_bytes r) ≤ record_limit

abbrev pub after_record : Before → Record → Before
after_record b r = with_row b (record_structure b.place r) (length (record_bytes r))

-- it is a record of a frame
pub frame_record : (b : Before) (r : Record) → IsWritable r → entry_of b.dictionary r.entry.class ≡ Some r.entry
    → b.table ≡ false → b.load + length (record_bytes r) ≤ record_limit
    → RecordMayStand Little b (record_structure b.place r)
frame_record b r w held no_table load =
    let weight = record-weighs b.dictionary b.place r w held in
    record {
      reading = reading_back r w;
      reads = record-reads b.dictionary b.place r w held;
      weight = omega (arith, weight, w.short);
      load = omega (arith, weight, load);
      table = no_table;
    }

pub row-stands : (file : List ℕ) (b : Before) (r : Record) → IsWritable r → MayFollow b r → length file ≤ file_limit
    → Holds file b.place (record_bytes r)
    → Stand Little file b (OtherItem (record_structure b.place r) ∷ []) (after_record b r)
row-stands file b r w may limit h =
    let s : Structure = record_structure b.place r in
    let named : Kind = kind_named r.entry.name in
    let kind : kind_of b.dictionary s.class ≡ named = kind-held b.dictionary r.entry w.entry.low may.held in
    let weight : weight_of Little b.dictionary s ≡ length (record_bytes r) =
    record-weighs b.dictionary b.place r w may.held in
    let stands : RecordMayStand Little b s = frame_record b r w may.held may.no_table may.load in
    let P : Kind → Type 0 = λ k. KindMayStand k Little b s in
    let next : after Little b (OtherItem s) ≡ after_record b r =
    (λ i. after_kind (kind i) b s (weight i)) ∙ row-after named b s (length (record_bytes r)) may.kind in (
      (
        may.unclosed,
        record {
          here = refl;
          stands = record-stands file b.place r w limit h;
          entry = r.entry;
          held = may.held;
          kind = subst P (sym kind) (row-may_stand named b s may.kind stands may.new);
        },
      ),
      sym next,
    )

-- ---- entries of classes that do not stand yet

step-new : (held : List Entry) (e : Entry) → IsWritableEntry e → entry_of held e.class ≡ None
    → class_named held e.name ≡ None → step held e ≡ Ok (held ++ e ∷ [])
unfolding step
step-new held e w class name =
    let built_in : is_built_in e.class ≡ false =
    or_from _ _ (ne_eqb e.class 1 (λ same. omega (arith, w.low, same)))
    (ne_eqb e.class 2 (λ same. omega (arith, w.low, same))) in
    let range : is_out_of_range e.class ≡ false =
    or_from _ _ (ne_eqb e.class 0 (λ same. omega (arith, w.low, same))) (le-ltb 255 e.class w.high) in
    cond-false _ _ _ built_in
    ∙ cond-false _ _ _ range
    ∙ ap (λ o. step_by o held e) class
    ∙ cond-false _ _ _ (ap is_some name)
    ∙ cond-false _ _ _ (le-ltb 4096 (length e.elements) w.short)

-- what stands once the entry does, where this one stands of its class already, or none
abbrev pub past_entry : Option Entry → Before → Entry → Before
past_entry o b e = record b {
  place = b.place + length (unless_held o b.dictionary e);
  dictionary = added_by o b.dictionary e;
}

abbrev pub entry_item : Before → Entry → Item
entry_item b e = EntryItem (head_structure b.place (length b.dictionary) e) (run_at b.place e) e

-- The entry that stands of the class is this one; or none stands, and its name is new too.
abbrev pub Agrees : Option Entry → List Entry → Entry → Type 0
Agrees (Some old) held e = old ≡ e
Agrees None held e = class_named held e.name ≡ None

pub entry-after : (b : Before) (e : Entry) → IsWritableEntry e → entry_of b.dictionary e.class ≡ None
    → class_named b.dictionary e.name ≡ None → after Little b (entry_item b e) ≡ past_entry None b e
entry-after b e w class name =
    let new : step b.dictionary e ≡ Ok (b.dictionary ++ e ∷ []) = step-new b.dictionary e w class name in
    λ i. record b {
      place = entry-size b.place (length b.dictionary) e i;
      dictionary = dictionary_by b.dictionary (new i);
    }

pub entry-may_stand : (file : List ℕ) (b : Before) (e : Entry) (next : Structure) → IsWritableEntry e
    → b.closed ≡ false → entry_of b.dictionary e.class ≡ None → class_named b.dictionary e.name ≡ None
    → length b.dictionary < 256 ^ 4 → length file ≤ file_limit
    → Holds file b.place (entry_bytes (length b.dictionary) e) → StandsWhole Little file next
    → next.at ≡ (past_entry None b e).place → (next.class ≡ 2 → ⊥) → MayStand Little file b (entry_item b e)
entry-may_stand file b e next w unclosed class name few limit h stands place other = (
  unclosed,
  record {
    here = refl;
    described = entry-stands file b.place (length b.dictionary) e next w few limit h stands place other;
    taken = ap is_ok (step-new b.dictionary e w class name);
  },
)

-- ---- a record with its entry before it

abbrev pub record_item : Before → Record → Item
record_item b r = OtherItem (record_structure b.place r)

abbrev pub items_by : Option Entry → Before → Record → List Item
items_by (Some old) b r = record_item (past_entry (Some old) b r.entry) r ∷ []
items_by None b r = entry_item b r.entry ∷ record_item (past_entry None b r.entry) r ∷ []

-- nothing changes where the entry stands already
pub past-held : (old : Entry) (b : Before) (e : Entry) → past_entry (Some old) b e ≡ b
past-held old b e = ap (λ n. record b { place = n }) (add-zero b.place)

-- Where the record may stand once its entry does, the entry and the record may stand.
pub entry-before : (o : Option Entry) (file : List ℕ) (b last : Before) (r : Record)
    → entry_of b.dictionary r.entry.class ≡ o → Agrees o b.dictionary r.entry → IsWritable r → b.closed ≡ false
    → length b.dictionary < 256 ^ 4 → length file ≤ file_limit
    → Holds file b.place (unless_held o b.dictionary r.entry ++ record_bytes r)
    → Stand Little file (past_entry o b r.entry) (record_item (past_entry o b r.entry) r ∷ []) last
    → Stand Little file b (items_by o b r) last
entry-before (Some old) file b last r class agrees w unclosed few limit h stand =
    let P : Before → Type 0 =
    λ x. Stand Little file x (record_item (past_entry (Some old) b r.entry) r ∷ []) last in
    subst P (past-held old b r.entry) stand
entry-before None file b last r class agrees w unclosed few limit h stand =
    let next : Before = past_entry None b r.entry in
    let bytes : List ℕ = entry_bytes (length b.dictionary) r.entry in
    let right : Holds file next.place (record_bytes r) = holds-right file b.place bytes (record_bytes r) h in
    let entry = entry-may_stand file b r.entry (record_structure next.place r) w.entry unclosed class agrees few limit
    (holds-left file b.place bytes (record_bytes r) h) (record-stands file next.place r w limit right) refl
    (λ two. omega (arith, two, w.entry.low)) in
    let P : Before → Type 0 = λ x. Stand Little file x (record_item next r ∷ []) last in
    (entry, subst P (sym (entry-after b r.entry w.entry class agrees)) stand)

pub piece-stands : (o : Option Entry) (file : List ℕ) (b : Before) (r : Record)
    → entry_of b.dictionary r.entry.class ≡ o → Agrees o b.dictionary r.entry → IsWritable r
    → MayFollow (past_entry o b r.entry) r → length b.dictionary < 256 ^ 4 → length file ≤ file_limit
    → Holds file b.place (unless_held o b.dictionary r.entry ++ record_bytes r)
    → Stand Little file b (items_by o b r) (after_record (past_entry o b r.entry) r)
piece-stands o file b r class agrees w may few limit h =
    let next : Before = past_entry o b r.entry in
    let right = holds-right file b.place (unless_held o b.dictionary r.entry) (record_bytes r) h in
    entry-before o file b (after_record next r) r class agrees w may.unclosed few limit h
    (row-stands file next r w may limit right)
