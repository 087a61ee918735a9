-- The fields of a table, found one after another.
use Rattle.std.proofs.Common.{◌≡◌, ℕ, Bool, true, false, ◌&&◌, ◌||◌, cond, List, [], ◌∷◌, Option, Some, None}
use Rattle.std.proofs.Common.{refl, sym, ap, ◌∙◌}
use Rattle.std.specs.Prelude.{not, is_some}
use Rattle.std.specs.Option.{option_map_or}
use Rattle.std.proofs.lemmas.Bool.{and_left}
use Rattle.std.proofs.lemmas.Option.{same_Some, none-some, cond_some}
use Rattle.dictionary.specs.declared.entries.Element.{Element}
use Rattle.dictionary.specs.Named.{first_named}
use Rattle.file_grammar.specs.Closing.{is_single, is_count, is_size, has_named, field_named}
use Rattle.contents_table.specs.declared.kind.Kind.{Kind}
use Rattle.contents_table.specs.declared.kind.Kind.TheVariants.{Adc, Proc, Sim, Ser}
use Rattle.contents_table.specs.declared.fit.KindFields.{KindFields}
use Rattle.contents_table.specs.Channels.{is_text}
use Rattle.contents_table.specs.Fit.{count_field, names_field, frames_field, heads_field, has_list, has_field}
use Rattle.contents_table.specs.Fit.{has_positions_by_name, has_positions_by_frame, lists, lacks, has_table}
use Rattle.contents_table.specs.Fit.{kind_fields, table_layout, count_named, list_named, serial_fields}

-- ---- a choice of what is found

pub some-where : {X : Type 0} (b : Bool) (x y : X) → Some x ≡ cond b (Some y) None → (b ≡ true) × (x ≡ y)
some-where b x y found = let both = cond_some b y x (sym found) in (both.0, sym both.1)

pub none-where : {X : Type 0} (b : Bool) (y : X) → None ≡ cond b (Some y) None → b ≡ false
none-where true y found = absurd (none-some y found)
none-where false y found = refl

-- ---- serial data

unlisted-count : (es : List Element) (kind : Kind) → has_field es (count_field kind) ≡ false
    → has_named es (count_field kind) is_count ≡ false
unlisted-count es kind absent = by (first_named 0 es (count_field kind)) absent
  where
    by : (o : Option (ℕ × Element)) → is_some o ≡ false
        → option_map_or (λ (found : ℕ × Element). is_single is_count found.1) o false ≡ false
    by None absent = refl
    by (Some found) absent = cc

-- a kind of which there is no field is not listed
pub lacks-unlisted : (es : List Element) (kind : Kind) → lacks es kind ≡ true → lists es kind ≡ false
lacks-unlisted es kind none =
    and_left (has_named es (count_field kind) is_count)
    (has_list es (names_field kind) is_text (count_field kind ∷ [])
    && (has_positions_by_name es kind || has_positions_by_frame es kind))
    (unlisted-count es kind (absent (has_field es (count_field kind)) _ none))
  where
    absent : (b others : Bool) → not (b || others) ≡ true → b ≡ false
    absent true others none = cc
    absent false others none = refl

-- what is found of serial data
record IsSerial (es : List Element) (ser : Option KindFields) : Type 0 where
  pub listed : (lists es Ser || lacks es Ser) ≡ true
  pub is : ser ≡ cond (lists es Ser) (Some (kind_fields es Ser)) None

serial-is : (es : List Element) (ser : Option KindFields) → Some ser ≡ serial_fields es → IsSerial es ser
serial-is es ser found = by (lacks es Ser) refl found
  where
    chosen : Bool → Option KindFields
    chosen b = cond b (Some (kind_fields es Ser)) None

    by : (lacking : Bool) → lacks es Ser ≡ lacking
        → Some ser ≡ cond lacking (Some None) (cond (lists es Ser) (Some (Some (kind_fields es Ser))) None)
        → IsSerial es ser
    by true lacking found =
        let none = lacks-unlisted es Ser lacking in
        record { listed = λ i. none i || lacking i; is = same_Some ser None found ∙ sym (ap chosen none) }
    by false lacking found =
        let both = some-where (lists es Ser) ser (Some (kind_fields es Ser)) found in
        record { listed = λ i. both.0 i || lacks es Ser; is = both.1 ∙ sym (ap chosen both.0) }

serial-none : (es : List Element) → None ≡ serial_fields es → (lists es Ser || lacks es Ser) ≡ false
serial-none es found = by (lacks es Ser) (lists es Ser) found
  where
    by : (lacking listed : Bool)
        → None ≡ cond lacking (Some None) (cond listed (Some (Some (kind_fields es Ser))) None)
        → (listed || lacking) ≡ false
    by true listed found = absurd (none-some None found)
    by false true found = absurd (none-some (Some (kind_fields es Ser)) found)
    by false false found = refl

-- ---- all fields

-- the tests of a table in the order in which its fields are looked for
abbrev all_found : (frames heads adc proc sim ser : Bool) → Bool
all_found frames heads adc proc sim ser = frames && (heads && ((adc && (proc && (sim && true))) && ser))

-- what is found before the simulated data
pub record AreFirst (es : List Element) (frames heads : ℕ) (adc proc : KindFields) : Type 0 where
  pub frames_found : Some frames ≡ count_named es frames_field
  pub heads_found : Some heads ≡ list_named es heads_field is_size (frames_field ∷ [])
  pub adc_found : Some adc ≡ cond (lists es Adc) (Some (kind_fields es Adc)) None
  pub proc_found : Some proc ≡ cond (lists es Proc) (Some (kind_fields es Proc)) None

module _ (es : List Element) (frames heads : ℕ) (adc proc : KindFields)
    (first : AreFirst es frames heads adc proc) where
  frames-is : (has_named es frames_field is_count ≡ true) × (frames ≡ field_named es frames_field)
  frames-is =
      some-where (has_named es frames_field is_count) frames (field_named es frames_field) first.frames_found

  heads-is : (has_list es heads_field is_size (frames_field ∷ []) ≡ true)
      × (heads ≡ field_named es heads_field)
  heads-is =
      some-where (has_list es heads_field is_size (frames_field ∷ [])) heads (field_named es heads_field)
      first.heads_found

  adc-is : (lists es Adc ≡ true) × (adc ≡ kind_fields es Adc)
  adc-is = some-where (lists es Adc) adc (kind_fields es Adc) first.adc_found

  proc-is : (lists es Proc ≡ true) × (proc ≡ kind_fields es Proc)
  proc-is = some-where (lists es Proc) proc (kind_fields es Proc) first.proc_found

  tested : (sim ser : Bool) → lists es Sim ≡ sim → (lists es Ser || lacks es Ser) ≡ ser
      → has_table es ≡ all_found true true true true sim ser
  tested sim ser sim_is ser_is = λ i.
      all_found (frames-is.0 i) (heads-is.0 i) (adc-is.0 i) (proc-is.0 i) (sim_is i) (ser_is i)

  without : has_table es ≡ false → cond (has_table es) (Some (table_layout es)) None ≡ None
  without unfit = ap (λ b. cond b (Some (table_layout es)) None) unfit

  pub table-no_sim : None ≡ cond (lists es Sim) (Some (kind_fields es Sim)) None
      → cond (has_table es) (Some (table_layout es)) None ≡ None
  table-no_sim none =
      let sim_is = none-where (lists es Sim) (kind_fields es Sim) none in
      without (tested false (lists es Ser || lacks es Ser) sim_is refl)

  module _ (sim : KindFields)
      (sim_found : Some sim ≡ cond (lists es Sim) (Some (kind_fields es Sim)) None) where
    sim-is : (lists es Sim ≡ true) × (sim ≡ kind_fields es Sim)
    sim-is = some-where (lists es Sim) sim (kind_fields es Sim) sim_found

    pub table-no_ser : None ≡ serial_fields es → cond (has_table es) (Some (table_layout es)) None ≡ None
    table-no_ser none = without (tested true false sim-is.0 (serial-none es none))

    pub table-found : (ser : Option KindFields) → Some ser ≡ serial_fields es
        → Some (record { frames = frames; heads = heads; adc = adc; proc = proc; sim = sim; ser = ser })
        ≡ cond (has_table es) (Some (table_layout es)) None
    table-found ser found =
        let serial = serial-is es ser found in
        let same : record { frames = frames; heads = heads; adc = adc; proc = proc; sim = sim; ser = ser }
        ≡ table_layout es =
        λ i. record {
          frames = frames-is.1 i;
          heads = heads-is.1 i;
          adc = adc-is.1 i;
          proc = proc-is.1 i;
          sim = sim-is.1 i;
          ser = serial.is i;
        } in
        let all = tested true true sim-is.0 serial.listed in
        ap Some same ∙ sym (ap (λ b. cond b (Some (table_layout es)) None) all)
