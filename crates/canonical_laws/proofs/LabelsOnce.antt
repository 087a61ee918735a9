-- What is made a label is one: its entry is printed, its links are null and its check sum is 0.
use Rattle.std.proofs.Common.{◌≡◌, Bool, true, false, cond, Some, List, [], ◌∷◌, map, refl, ap, ◌∙◌}
use Rattle.std.specs.Prelude.{unwrap_or}
use Rattle.type_text.specs.declared.types.Link.{Link}
use Rattle.record_values.specs.declared.values.Value.{Value}
use Rattle.record_values.specs.declared.values.Value.TheVariants as value
use Rattle.dictionary.specs.declared.entries.Entry.{Entry}
use Rattle.layout_plan.specs.declared.fields.Field.{Field}
use Rattle.layout_plan.specs.Layout.{layout_of}
use Rattle.layout_plan.specs.Written.{with_sums_cleared}
use Rattle.file_grammar.specs.Record.{Reading}
use Rattle.frame_content.specs.Labels.{nullified, unlinked, printed_entry, label_by}
use Rattle.canonical_file.specs.Records.{entry_fields}
use Rattle.canonical_laws.specs.Writable.{IsLabel}
use Rattle.canonical_file.proofs.Printing.{layout-printed, entry-twice}

nullified-twice : (links : List Link) → map nullified (map nullified links) ≡ map nullified links
nullified-twice [] = refl
nullified-twice (l ∷ ls) = λ i. nullified l ∷ nullified-twice ls i

unlinked-twice : (v : Value) → unlinked (unlinked v) ≡ unlinked v
unlinked-twice (value.Link link) = refl
unlinked-twice (value.Links links) = ap value.Links (nullified-twice links)
unlinked-twice (value.Num n) = refl
unlinked-twice (value.Pair a b) = refl
unlinked-twice (value.Text text) = refl
unlinked-twice (value.Nums xs) = refl
unlinked-twice (value.Pairs xs) = refl
unlinked-twice (value.Texts xs) = refl
unlinked-twice (value.Bytes xs) = refl

all-twice : (vs : List Value) → map unlinked (map unlinked vs) ≡ map unlinked vs
all-twice [] = refl
all-twice (v ∷ vs) = λ i. unlinked-twice v i ∷ all-twice vs i

cleared-twice : (fs : List Field) (vs : List Value)
    → with_sums_cleared fs (map unlinked (with_sums_cleared fs (map unlinked vs)))
    ≡ with_sums_cleared fs (map unlinked vs)
cleared-twice [] vs = all-twice vs
cleared-twice (f ∷ fs) [] = refl
cleared-twice (f ∷ fs) (v ∷ vs) = λ i. by f.is_sum i ∷ cleared-twice fs vs i
  where
    by : (b : Bool)
        → cond b (value.Num 0) (unlinked (cond b (value.Num 0) (unlinked v))) ≡ cond b (value.Num 0) (unlinked v)
    by true = refl
    by false = unlinked-twice v

-- the fields of an entry that is printed
pub fields-printed : (e : Entry) (fs : List Field) → layout_of e.elements ≡ Some fs
    → entry_fields (printed_entry e) ≡ fs
fields-printed e fs layout = ap (λ o. unwrap_or o []) (layout-printed e.elements ∙ layout)

-- The label of a body that reads by the layout of an entry.
pub label-is : (e : Entry) (reading : Reading) → layout_of e.elements ≡ Some reading.fields
    → IsLabel (label_by (Some e) (Some reading))
label-is e reading layout = record {
  entry = entry-twice e;
  values =
      ap (λ fs. with_sums_cleared fs (map unlinked (with_sums_cleared reading.fields (map unlinked reading.values))))
      (fields-printed e reading.fields layout)
      ∙ cleared-twice reading.fields reading.values;
}
