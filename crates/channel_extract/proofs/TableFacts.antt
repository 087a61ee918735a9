-- What is known of the contents table that the end of a file leads to.
use Rattle.std.proofs.Common.{◌≡◌, ℕ, zero, suc, Bool, true, false, Option, Some, None, List, refl, sym, ap, ◌∙◌}
use Rattle.std.specs.Prelude.{if◌then◌else◌, ◌==◌, option_and_then}
use Rattle.std.specs.Option.{option_map}
use Rattle.std.proofs.lemmas.Bool.{eqb-true}
use Rattle.std.proofs.lemmas.Option.{same_Some, none-some, option_and_then_some}
use Rattle.scalar_types.specs.declared.Order.{Order}
use Rattle.record_values.specs.declared.values.Value.{Value}
use Rattle.dictionary.specs.declared.entries.Entry.{Entry}
use Rattle.dictionary.specs.Dictionary.{entry_of}
use Rattle.file_grammar.specs.Record.{Reading, reading_by, layout_in}
use Rattle.contents_table.specs.declared.kind.Kind.{Kind}
use Rattle.contents_table.specs.declared.kind.Kind.TheVariants.{Adc, Proc, Sim, Ser}
use Rattle.contents_table.specs.declared.fit.KindFields.{KindFields}
use Rattle.contents_table.specs.declared.fit.TableLayout.{TableLayout}
use Rattle.contents_table.specs.Fit.{is_fit, table_layout}
use Rattle.contents_table.specs.Listed.{KindTable, Table, number_at, kind_table, table_of, table_of_kind}
use Rattle.file_content.specs.Stored.{StoredTable}
use Rattle.file_content.specs.Contents.{table_by, listed_by, if_frames, is_listed, if_led}
use Rattle.channel_extract.specs.Listing.{table_led}

-- it lists so many frames, as its layout and its values tell it
pub record IsTableOf (frames : ℕ) (t : Table) : Type 0 where
  pub frames_are : t.frames ≡ frames
  pub layout : TableLayout
  pub values : List Value
  pub is : t ≡ table_of layout values

if-some : (b : Bool) (t u : Table) → (if b then Some t else None) ≡ Some u → (b ≡ true) × (t ≡ u)
if-some true t u is = (refl, same_Some t u is)
if-some false t u is = absurd (none-some u is)

listed-facts : (e : Entry) (b : Bool) (reading : Option Reading) (u : Table)
    → (if b then option_map (table_by e) reading else None) ≡ Some u
    → (r : Reading) × (table_of (table_layout e.elements) r.values ≡ u)
listed-facts e true (Some r) u is = (r, same_Some (table_by e r) u is)
listed-facts e true None u is = absurd (none-some u is)
listed-facts e false reading u is = absurd (none-some u is)

stored-facts : (order : Order) (frames : ℕ) (s : StoredTable) (t : Table) → is_listed order frames s ≡ Some t
    → IsTableOf frames t
stored-facts order frames s t found =
    let reading = option_and_then (reading_by order s.structure.body) (layout_in s.held s.structure.class) in
    option_and_then_some (if_frames frames)
    (option_and_then (listed_by reading) (entry_of s.held s.structure.class)) t found (λ u there counted.
    let same = if-some (u.frames == frames) u t counted in
    option_and_then_some (listed_by reading) (entry_of s.held s.structure.class) u there (λ e held listed.
    let is = listed-facts e (is_fit e) reading u listed in
    record {
      frames_are = ap (λ (x : Table). x.frames) (sym same.1) ∙ eqb-true u.frames frames same.0;
      layout = table_layout e.elements;
      values = is.0.values;
      is = sym (is.1 ∙ same.1);
    }))

pub table-facts : (order : Order) (bytes frames : ℕ) (table : Option StoredTable) (seek : ℕ) (t : Table)
    → table_led order bytes frames table seek ≡ Some t → IsTableOf frames t
table-facts order bytes frames table zero t is = absurd (none-some t is)
table-facts order bytes frames table (suc n) t is =
    option_and_then_some (is_listed order frames) (option_and_then (if_led bytes (suc n)) table) t is
    (λ s there found. stored-facts order frames s t found)

-- ---- what it lists of a kind

kind-frames : (layout : TableLayout) (values : List Value) (kind : Kind) (t : KindTable)
    → table_of_kind (table_of layout values) kind ≡ Some t → t.frames ≡ number_at values layout.frames
kind-frames layout values Adc t is =
    ap (λ (x : KindTable). x.frames) (sym (same_Some (kind_table values layout.frames layout.adc) t is))
kind-frames layout values Proc t is =
    ap (λ (x : KindTable). x.frames) (sym (same_Some (kind_table values layout.frames layout.proc) t is))
kind-frames layout values Sim t is =
    ap (λ (x : KindTable). x.frames) (sym (same_Some (kind_table values layout.frames layout.sim) t is))
kind-frames layout values Ser t is = by layout.ser is
  where
    by : (fields : Option KindFields) → option_map (kind_table values layout.frames) fields ≡ Some t
        → t.frames ≡ number_at values layout.frames
    by None is = absurd (none-some t is)
    by (Some k) is = ap (λ (x : KindTable). x.frames) (sym (same_Some (kind_table values layout.frames k) t is))

-- as many frames as the whole table
pub kind-counted : (frames : ℕ) (table : Table) (kind : Kind) (t : KindTable) → IsTableOf frames table
    → table_of_kind table kind ≡ Some t → t.frames ≡ frames
kind-counted frames table kind t of lists =
    kind-frames of.layout of.values kind t (ap (λ (x : Table). table_of_kind x kind) (sym of.is) ∙ lists)
    ∙ ap (λ (x : Table). x.frames) (sym of.is) ∙ of.frames_are
