-- A record of a file of bytes, written again with other links: it can be, and is no longer than the record weighs.
use Rattle.std.proofs.Common.{◌≡◌, ℕ, ◌+◌, ◌^◌, ◌<◌, ◌≤◌, Some, List, length, map, All}
use Rattle.std.proofs.Common.{sym, ap, ◌∙◌, subst, arith, length-append}
use Rattle.std.specs.List.{AllByRecursion}
use Rattle.scalar_types.specs.declared.Order.{Order}
use Rattle.scalar_types.specs.declared.Order.TheVariants.{Little}
use Rattle.type_text.specs.declared.types.Link.{Link as StructLink}
use Rattle.record_values.specs.declared.values.Value.{Value}
use Rattle.record_values.specs.Links.{links_in, with_links}
use Rattle.dictionary.specs.declared.entries.Entry.{Entry}
use Rattle.layout_plan.specs.declared.fields.Field.{Field}
use Rattle.layout_plan.specs.Layout.{IsLayout, layout_of}
use Rattle.layout_plan.specs.Body.{number_of, IsBody, values_length}
use Rattle.layout_plan.specs.Written.{with_sums_cleared, IsWritten}
use Rattle.layout_plan.proofs.LayoutLemmas.{layout_of-IsLayout}
use Rattle.record_writer.specs.Fit.{Fits}
use Rattle.record_writer.proofs.FitLemmas.{body_fits}
use Rattle.frame_head.specs.declared.structure.Common.{Common}
use Rattle.frame_head.specs.Structure.{common_bytes}
use Rattle.frame_head.proofs.CommonBytes.{common_bytes-length}
use Rattle.file_grammar.specs.Structure.{record_limit}
use Rattle.file_grammar.specs.Record.{Reading}
use Rattle.frame_content.specs.Labels.{unlinked, printed_entry}
use Rattle.canonical_file.specs.Ranges.{AreBytes, IsLinkInRange, IsInRange}
use Rattle.canonical_file.specs.Bytes.{body_bytes}
use Rattle.canonical_file.specs.Records.{Record, entry_fields}
use Rattle.canonical_file.proofs.Spelled.{body-written}
use Rattle.canonical_laws.specs.Writable.{IsWritableEntry, IsWritable, size_of_record}
use Rattle.canonical_file.proofs.Printing.{layout-printed}
use Rattle.canonical_laws.proofs.LabelFits.{AllStandFor, stands-fit, all-lengths, label-stands, linked-label-stands}
use Rattle.canonical_laws.proofs.LabelRanges.{label-range, linked-label-range}
use Rattle.canonical_laws.proofs.LabelsOnce.{fields-printed}
use Rattle.canonical_laws.proofs.SourceEntries.{entry-printed}

-- ---- a body that reads

-- What is known of a body of bytes that reads by the layout of an entry.
pub record IsSourceBody (order : Order) (e : Entry) (reading : Reading) (body : List ℕ) : Type 0 where
  pub entry : IsWritableEntry e
  pub layout : layout_of e.elements ≡ Some reading.fields
  pub spelled : IsBody order reading.fields reading.values reading.tail body
  pub bytes : AreBytes body

pub is-layout : {order : Order} {e : Entry} {reading : Reading} {body : List ℕ} → IsSourceBody order e reading body
    → IsLayout reading.fields
is-layout {order} {e} {reading} {body} is = layout_of-IsLayout e.elements reading.fields is.layout is.entry.short

pub source-fits : {order : Order} {e : Entry} {reading : Reading} {body : List ℕ} → IsSourceBody order e reading body
    → Fits reading.fields reading.values
source-fits {order} {e} {reading} {body} is =
    body_fits order reading.fields reading.values reading.tail body is.bytes is.spelled

-- ---- the record of such a body, with other values in the place of its own

abbrev pub new_record : Entry → ℕ → List Value → Record
new_record e instance values = record { entry = printed_entry e; instance = instance; values = values }

abbrev pub StandIn : Reading → List Value → Type 0
StandIn reading values = AllStandFor (map number_of reading.values) reading.fields reading.values values

abbrev pub canonical_length : Reading → ℕ
canonical_length reading = 14 + values_length reading.fields reading.values

abbrev pub AreReady : Reading → List Value → Type 0
AreReady reading values = StandIn reading values × AllByRecursion IsInRange values

pub new-size : {order : Order} {e : Entry} {reading : Reading} {body : List ℕ} → IsSourceBody order e reading body
    → (instance : ℕ) (values : List Value) → AreReady reading values
    → size_of_record (new_record e instance values) ≡ canonical_length reading
new-size {order} {e} {reading} {body} is instance values ready =
    let fs : List Field = reading.fields in
    let sound = is-layout is in
    let fits = stands-fit fs reading.values values sound.sound sound.sums ready.0 in
    let written : IsWritten Little fs values (body_bytes fs values) = body-written fs values sound.sound fits ready.1 in
    let size : length (body_bytes (entry_fields (printed_entry e)) values) ≡ values_length fs reading.values =
    ap (λ gs. length (body_bytes gs values)) (fields-printed e fs is.layout) ∙ written.size
    ∙ all-lengths (map number_of reading.values) fs reading.values values ready.0 in
    let own : List ℕ = body_bytes (entry_fields (printed_entry e)) values in
    let head : Common = record { length = 14 + length own; check = 0; class = e.class; instance = instance } in
    omega (arith, common_bytes-length Little head, size, length-append (common_bytes Little head) own)

pub new-writable : {order : Order} {e : Entry} {reading : Reading} {body : List ℕ} → IsSourceBody order e reading body
    → (instance : ℕ) (values : List Value) → AreReady reading values → instance < 256 ^ 4
    → canonical_length reading ≤ record_limit → IsWritable (new_record e instance values)
new-writable {order} {e} {reading} {body} is instance values ready few small =
    let sound = is-layout is in
    record {
      entry = entry-printed e is.entry;
      layout = reading.fields;
      is = layout-printed e.elements ∙ is.layout;
      fits = stands-fit reading.fields reading.values values sound.sound sound.sums ready.0;
      range = ready.1;
      instance = few;
      short = subst (λ n. n ≤ record_limit) (sym (new-size is instance values ready)) small;
    }

-- ---- the values of its label, with other links or without

pub ready-plain : {order : Order} {e : Entry} {reading : Reading} {body : List ℕ} → IsSourceBody order e reading body
    → AreReady reading (with_sums_cleared reading.fields (map unlinked reading.values))
ready-plain {order} {e} {reading} {body} is = (
  label-stands reading.fields reading.values (is-layout is).sums (source-fits is),
  label-range order reading.fields reading.values reading.tail body is.bytes is.spelled,
)

pub ready-linked : {order : Order} {e : Entry} {reading : Reading} {body : List ℕ} → IsSourceBody order e reading body
    → (links : List StructLink) → length links ≡ length (links_in reading.values) → All IsLinkInRange links
    → AreReady reading (with_links (with_sums_cleared reading.fields (map unlinked reading.values)) links)
ready-linked {order} {e} {reading} {body} is links many range = (
  linked-label-stands reading.fields reading.values links (is-layout is).sums (source-fits is) many,
  linked-label-range order reading.fields reading.values reading.tail body links is.bytes is.spelled range,
)
