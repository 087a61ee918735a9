-- The contents table of a canonical file is good, where its record is written.
use Rattle.std.proofs.Common.{◌≡◌, ℕ, zero, suc, ◌+◌, ◌<◌, ◌≤◌, Bool, true, false, cond, Option, Some, None, List, []}
use Rattle.std.proofs.Common.{inl, inr, length, refl, sym, ap, ◌∙◌, subst, arith, eq-eqb, lit<}
use Rattle.std.specs.Prelude.{option_and_then, unwrap_or, is_some, IfSome}
use Rattle.std.specs.List.{last_or}
use Rattle.std.proofs.lemmas.Bool.{cond-true, and_parts, leb-true, false≢true}
use Rattle.scalar_types.specs.declared.Order.{Order}
use Rattle.scalar_types.specs.declared.Order.TheVariants.{Little}
use Rattle.record_values.specs.declared.values.Value.{Value}
use Rattle.dictionary.specs.declared.entries.Entry.{Entry}
use Rattle.dictionary.specs.Dictionary.{entry_of}
use Rattle.layout_plan.specs.declared.fields.Field.{Field}
use Rattle.layout_plan.specs.Layout.{layout_of, IsLayout}
use Rattle.layout_plan.proofs.LayoutLemmas.{layout_of-IsLayout}
use Rattle.record_writer.specs.Fit.{Fits}
use Rattle.file_grammar.specs.Structure.{record_limit, file_limit}
use Rattle.file_grammar.specs.Item.{Before, nothing_yet}
use Rattle.file_grammar.proofs.Prefixes.{items_unique}
use Rattle.item_reader.proofs.Growing.{entry_of-own}
use Rattle.frame_content.specs.Frames.{Frame}
use Rattle.contents_table.specs.declared.fit.TableLayout.{TableLayout}
use Rattle.contents_table.specs.Fit.{has_table, is_fit, table_layout, IsTableLayout}
use Rattle.contents_table.specs.Built.{Built}
use Rattle.contents_table.specs.Told.{table_values, table_size}
use Rattle.contents_table.specs.Listed.{Table, table_of}
use Rattle.contents_table.proofs.TableLayouts.{table-layout}
use Rattle.file_content.specs.declared.state.TableState.{TableState}
use Rattle.file_content.specs.declared.state.TableState.TheVariants as state
use Rattle.file_content.specs.declared.contents.Contents.{Contents}
use Rattle.file_content.specs.Stored.{StoredTable, frames_in, table_in, seek_in}
use Rattle.file_content.specs.Contents.{built_of, listed_by, if_frames, IsJudged, is_listed, if_led, IsStateOf, IsState}
use Rattle.file_content.specs.Contents.{seek_or_none, AreContents}
use Rattle.canonical_file.specs.declared.closing.Closing.{Closing}
use Rattle.canonical_file.specs.Records.{Record, entry_fields, record_bytes}
use Rattle.canonical_file.specs.Written.{Written, header_alone, after_frames, table_record, table_piece, after_table}
use Rattle.canonical_file.specs.Written.{end_size}
use Rattle.canonical_file.specs.Written.{way_back, canonical_file}
use Rattle.canonical_laws.specs.Writable.{IsWritable, IsWritableFileEnd, IsWritableTable}
use Rattle.canonical_laws.specs.Laws.{WrittenTablesAreGood}
use Rattle.canonical_laws.proofs.Holding.{length-structure}
use Rattle.canonical_laws.proofs.WrittenRecords.{record_body, record_structure, record-size, record-reads, past_entry}
use Rattle.canonical_laws.proofs.Heads.{after_all}
use Rattle.canonical_laws.proofs.TableParts.{past_table}
use Rattle.canonical_laws.proofs.ClosingParts.{fits, past-table, told_seek, has-table}
use Rattle.canonical_laws.proofs.ClosingBrings.{stored_table}
use Rattle.canonical_laws.proofs.WholeFiles.{AreWritten, closes, file_items, file_last, file-stands}
use Rattle.canonical_laws.proofs.BuiltFrames.{IsBuilt, frames-built, nothing-built, heads-counted}
use Rattle.canonical_laws.proofs.BodySizes.{table-bytes_size}
use Rattle.canonical_laws.proofs.TableValues.{table-fits, table-range}
use Rattle.canonical_laws.proofs.TablesBack.{IsTold, frames-back, table-good}

-- ---- the layout of a table

-- The layout of an entry that is fit for a contents table.
record HasLayout (e : Entry) : Type 0 where
  fields : List Field
  is : layout_of e.elements ≡ Some fields
  fit : has_table e.elements ≡ true

has-layout : (e : Entry) → is_fit e ≡ true → HasLayout e
has-layout e fit =
    let parts = and_parts (is_some (layout_of e.elements)) (has_table e.elements) fit in
    by (layout_of e.elements) refl parts.0 parts.1
  where
    by : (o : Option (List Field)) → layout_of e.elements ≡ o → is_some o ≡ true → has_table e.elements ≡ true
        → HasLayout e
    by None is some table = absurd (false≢true some)
    by (Some fields) is some table = record { fields = fields; is = is; fit = table }

layout-fields : (e : Entry) (l : HasLayout e) → entry_fields e ≡ l.fields
layout-fields e l = ap (λ o. unwrap_or o []) l.is

-- what is known of the fields and of the values
table-told : (dictionary : List Entry) (e : Entry) (size : ℕ) (built : Built) → IsWritableTable dictionary e
    → IsBuilt size built → IsTold (entry_fields e) (table_layout e.elements) built
table-told dictionary e size built w is =
    let l = has-layout e w.fit in
    let same = sym (layout-fields e l) in
    record {
      told = record {
        fit = subst (λ fields. IsTableLayout fields (table_layout e.elements)) same
            (table-layout e.elements l.fields l.is l.fit);
        sound = subst IsLayout same (layout_of-IsLayout e.elements l.fields l.is w.entry.short);
        numbers_are = refl;
      };
      size = size;
      is = is;
    }

-- ---- its record

-- What is known of a contents table's record that is written.
record IsTableRecord (dictionary held : List Entry) (size : ℕ) (built : Built) (e : Entry) : Type 0 where
  writable : IsWritableTable dictionary e
  held_is : entry_of held e.class ≡ Some e
  short : length (record_bytes (table_record built e)) ≤ record_limit
  built_is : IsBuilt size built
  limit : size ≤ file_limit

-- it can be written
record-writable : (dictionary held : List Entry) (size : ℕ) (built : Built) (e : Entry)
    → IsTableRecord dictionary held size built e → IsWritable (table_record built e)
record-writable dictionary held size built e t =
    let l = has-layout e t.writable.fit in
    let fields : List Field = entry_fields e in
    let layout : TableLayout = table_layout e.elements in
    let values : List Value = table_values layout fields built in
    let told = (table-told dictionary e size built t.writable t.built_is).told in
    let small : table_size layout fields built ≤ 4294967295 = omega (arith, t.short, table-bytes_size built e) in
    record {
      entry = t.writable.entry;
      layout = l.fields;
      is = l.is;
      fits = subst (λ fields. Fits fields values) (layout-fields e l)
          (table-fits fields layout built size told small t.built_is t.limit);
      range = table-range fields layout built told;
      instance = lit< tt;
      short = t.short;
    }

-- the table as it stands at a place
abbrev table_at : List Entry → ℕ → Built → Entry → StoredTable
table_at held at built e = record { held = held; structure = record_structure at (table_record built e) }

abbrev table_read : Built → Entry → Table
table_read built e =
    table_of (table_layout e.elements) (table_values (table_layout e.elements) (entry_fields e) built)

-- what it lists is read
table-listed : (dictionary held : List Entry) (size at frames : ℕ) (built : Built) (e : Entry)
    → IsTableRecord dictionary held size built e → length built.heads ≡ frames
    → is_listed Little frames (table_at held at built e) ≡ Some (table_read built e)
table-listed dictionary held size at frames built e t count =
    let r : Record = table_record built e in
    let w = record-writable dictionary held size built e t in
    let reads = record-reads held at r w t.held_is in
    let told = table-told dictionary e size built t.writable t.built_is in
    let same : (table_read built e).frames ≡ frames =
    frames-back (entry_fields e) (table_layout e.elements) built told ∙ count in
    (λ i. option_and_then (if_frames frames) (option_and_then (listed_by (reads i)) (t.held_is i)))
    ∙ ap (option_and_then (if_frames frames)) (cond-true _ _ _ t.writable.fit)
    ∙ cond-true _ _ _ (eq-eqb (table_read built e).frames frames same)

-- so it is good
table-judged : (dictionary held : List Entry) (size at frames : ℕ) (built : Built) (e : Entry) (s : TableState)
    → IsTableRecord dictionary held size built e → length built.heads ≡ frames
    → IsJudged (is_listed Little frames (table_at held at built e)) built s → s ≡ state.Good
table-judged dictionary held size at frames built e s t count judged =
    good (subst (λ o. IsJudged o built s) (table-listed dictionary held size at frames built e t count) judged)
  where
    good : IsJudged (Some (table_read built e)) built s → s ≡ state.Good
    good (inl is) = is.0
    good (inr is) =
        absurd (is.1 (table-good (entry_fields e) (table_layout e.elements) built
        (table-told dictionary e size built t.writable t.built_is)))

-- ---- the way back leads to it

-- what is judged where the end leads to a table
led : (order : Order) (bytes frames : ℕ) (built : Built) (o : Option StoredTable) (t : StoredTable) (seek : ℕ)
    (s : TableState) → o ≡ Some t → 0 < seek → t.structure.at + seek ≡ bytes
    → IsState order bytes frames built o seek s → IsJudged (is_listed order frames t) built s
led order bytes frames built o t zero s is some place state = absurd (omega (arith, some))
led order bytes frames built o t (suc n) s is some place state =
    subst (λ o. IsStateOf order frames built o s)
    (ap (option_and_then (if_led bytes (suc n))) is
    ∙ cond-true _ _ _ (eq-eqb (t.structure.at + suc n) bytes place))
    state

way-back : (behind length : ℕ) → 0 < length → way_back behind length ≡ length + behind
way-back behind zero some = absurd (omega (arith, some))
way-back behind (suc n) some = refl

-- ---- the file

-- the record of the table, where it is written
written-fits : (w : Written) (e t : Entry)
    → ((table_piece w (record { end = e; table = Some t })).record_itself ≡ [] → ⊥) → fits w t ≡ true
written-fits w e t some = by (fits w t) refl
  where
    by : (b : Bool) → fits w t ≡ b → fits w t ≡ true
    by true is = is
    by false is = absurd (some (ap (λ b. cond b (record_bytes (table_record w.built t)) []) is))

-- Where its record is written the table is good.
table-in_file : (dictionary : List Entry) (fs : List Frame) (e t : Entry) (c : Contents) → AreWritten dictionary fs
    → IsWritableFileEnd dictionary e → IsWritableTable dictionary t
    → length (canonical_file (record { end = e; table = Some t }) fs) ≤ file_limit
    → AreContents (canonical_file (record { end = e; table = Some t }) fs) c
    → fits (after_frames header_alone fs) t ≡ true → c.table ≡ state.Good
table-in_file dictionary fs e t c all end table limit contents written =
    let closing : Closing = record { end = e; table = Some t } in
    let file : List ℕ = canonical_file closing fs in
    let w : Written = after_frames header_alone fs in
    let b : Before = after_all nothing_yet fs in
    let r : Record = table_record w.built t in
    let at : ℕ = (past_entry None b t).place in
    let held : List Entry = (past_entry None b t).dictionary in
    let stored : StoredTable = stored_table w b t in
    let seek : ℕ = told_seek w e (Some t) in
    let after : Written = after_table w closing in
    let may = closes dictionary fs e (Some t) all end table limit in
    let past = past-table dictionary file w b e (Some t) may in
    let stands = file-stands dictionary fs e (Some t) all end table limit in
    let same = items_unique file c.order Little contents.items (file_items fs e (Some t)) contents.last
    (file_last fs e (Some t)) contents.well_formed stands.well_formed in
    let tables : table_in c.order contents.items ≡ Some stored =
    (λ i. table_in (same.0 i) (same.1 i))
    ∙ ap (last_or None) (stands.tables ∙ cond-true _ _ _ written) in
    let seeks : seek_in c.order contents.items ≡ Some seek =
    (λ i. seek_in (same.0 i) (same.1 i)) ∙ ap (last_or None) stands.seeks in
    let frames : c.frames ≡ w.frames =
    contents.frames_are ∙ ap (λ (x : Before). x.frames) same.2 ∙ stands.count in
    let channels : c.channels ≡ w.built =
    contents.channels_are ∙ (λ i. built_of (same.0 i) (frames_in (same.0 i) (same.1 i))) ∙ stands.channels in
    let size = length-structure r.entry.class r.instance (record_body r) in
    let short : length (record_bytes r) ≤ record_limit = leb-true (length (record_bytes r)) record_limit written in
    let long : length (table_piece w closing).record_itself ≡ length (record_bytes r) =
    ap (λ b. length (cond b (record_bytes r) [])) written in
    let behind : ℕ = end_size after e in
    let back : seek ≡ length (record_bytes r) + behind =
    ap (way_back behind) long ∙ way-back behind (length (record_bytes r)) (omega (arith, size)) in
    let ends : after.size ≡ at + length (record_bytes r) =
    past.tells.size ∙ ap (λ b. (past_table b (after_all nothing_yet fs) r).place) written
    ∙ ap (λ n. at + n) (record-size at r) in
    let place : at + seek ≡ c.bytes = omega (arith, ends, back, may.whole, contents.bytes_are) in
    let built : IsBuilt w.size w.built = frames-built dictionary header_alone fs all.frames (nothing-built 40) in
    let is : IsTableRecord dictionary held w.size w.built t = record {
      writable = table;
      held_is = entry_of-own b.dictionary t (has-table dictionary file w b e t may).class;
      short = short;
      built_is = built;
      limit = omega (arith, may.whole, limit);
    } in
    let count : length w.built.heads ≡ w.frames = heads-counted header_alone fs refl in
    let Led : ℕ → Type 0 =
    λ n. IsState c.order c.bytes c.frames c.channels (table_in c.order contents.items) n c.table in
    let judged : IsJudged (is_listed c.order c.frames stored) c.channels c.table =
    led c.order c.bytes c.frames c.channels (table_in c.order contents.items) stored seek c.table tables
    (omega (arith, back, size)) place (subst Led (ap seek_or_none seeks) contents.table_is) in
    let Ordered : Order → Type 0 = λ order. IsJudged (is_listed order c.frames stored) c.channels c.table in
    let Counted : ℕ → Type 0 = λ n. IsJudged (is_listed Little n stored) c.channels c.table in
    let Built_of : Built → Type 0 = λ built. IsJudged (is_listed Little w.frames stored) built c.table in
    table-judged dictionary held w.size at w.frames w.built t c.table is count
    (subst Built_of channels (subst Counted frames (subst Ordered same.0 judged)))

pub good_tables : WrittenTablesAreGood
good_tables dictionary fs closing c sound frames writable few limit contents some =
    by closing.end closing.table writable.end writable.table limit contents some
  where
    by : (e : Entry) (table : Option Entry) → IsWritableFileEnd dictionary e → IfSome table (IsWritableTable dictionary)
        → length (canonical_file (record { end = e; table = table }) fs) ≤ file_limit
        → AreContents (canonical_file (record { end = e; table = table }) fs) c
        → ((table_piece (after_frames header_alone fs) (record { end = e; table = table })).record_itself ≡ [] → ⊥)
        → c.table ≡ state.Good
    by e None end table limit contents some = absurd (some refl)
    by e (Some t) end table limit contents some =
        table-in_file dictionary fs e t c
        (record { sound = sound; frames = frames; few = few }) end table limit contents
        (written-fits (after_frames header_alone fs) e t some)
