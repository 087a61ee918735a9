-- Records under the entries that are used first: the same bytes and entries are written of them.
use Rattle.std.proofs.Common.{◌≡◌, ℕ, Bool, true, false, cond, Option, Some, None, IfSome, List, [], ◌∷◌, ◌++◌, map}
use Rattle.std.proofs.Common.{refl, sym, ap, ◌∙◌, append_assoc, append-nil}
use Rattle.std.specs.Prelude.{◌==◌, unwrap_or}
use Rattle.std.specs.List.{AllByRecursion}
use Rattle.std.specs.Option.{option_or}
use Rattle.std.proofs.lemmas.Bool.{eqb-true, eq-eqb}
use Rattle.std.proofs.lemmas.List.Folds.{find-append}
use Rattle.std.proofs.lemmas.Option.{none-some, same_Some}
use Rattle.record_values.specs.declared.values.Value.{Value}
use Rattle.dictionary.specs.declared.entries.Entry.{Entry}
use Rattle.dictionary.specs.Dictionary.{entry_of}
use Rattle.canonical_file.specs.Bytes.{body_bytes, structure_bytes}
use Rattle.canonical_file.specs.Records.{Record, entry_fields, record_bytes, unless_held, new_entry, added_by}
use Rattle.canonical_file.specs.Records.{with_entry}
use Rattle.canonical_file.specs.Records.{with_record, entries_after, pieces_of}
use Rattle.canonical_file.specs.Splices.{entry_under}
use Rattle.canonical_file.proofs.Bare.{bare_entry, entry-fields-bare}

abbrev pub record_under : List Entry → Record → Record
record_under entries r = record r { entry = entry_under entries r.entry }

-- the entry of each record is the one used of its class, but for comments and texts of types
abbrev pub IsAlike : Entry → Entry → Type 0
IsAlike used e = bare_entry used ≡ bare_entry e

abbrev pub Agree : List Entry → List Record → Type 0
Agree entries [] = Unit {0}
Agree entries (r ∷ rs) =
    IfSome (entry_of entries r.entry.class) (λ old. IsAlike old r.entry) × Agree (with_record entries r) rs

-- ---- entries of a class

class-found : (entries : List Entry) (class : ℕ) (e : Entry) → entry_of entries class ≡ Some e → e.class ≡ class
class-found [] class e is = absurd (none-some e is)
class-found (x ∷ xs) class e is = by (class == x.class) refl is (class-found xs class e)
  where
    by : (b : Bool) → (class == x.class) ≡ b → cond b (Some x) (entry_of xs class) ≡ Some e
        → (entry_of xs class ≡ Some e → e.class ≡ class) → e.class ≡ class
    by true same is later =
        ap (λ (e : Entry). e.class) (sym (same_Some x e is)) ∙ sym (eqb-true class x.class same)
    by false other is later = later is

-- the entry under others is of the same class
pub class-under : (entries : List Entry) (e : Entry) → (entry_under entries e).class ≡ e.class
class-under entries e = by (entry_of entries e.class) refl
  where
    by : (found : Option Entry) → entry_of entries e.class ≡ found → (unwrap_or found e).class ≡ e.class
    by None is = refl
    by (Some used) is = class-found entries e.class used is

-- entries that stand stay in front
pub found-front : (front rest : List Entry) (class : ℕ) (e : Entry) → entry_of front class ≡ Some e
    → entry_of (front ++ rest) class ≡ Some e
found-front front rest class e is =
    find-append (λ (e : Entry). class == e.class) front rest
    ∙ ap (λ found. option_or found (entry_of rest class)) is

pub found-pushed : (front : List Entry) (e : Entry) → entry_of front e.class ≡ None
    → entry_of (front ++ e ∷ []) e.class ≡ Some e
found-pushed front e none =
    find-append (λ (x : Entry). e.class == x.class) front (e ∷ [])
    ∙ ap (λ found. option_or found (entry_of (e ∷ []) e.class)) none
    ∙ ap (λ b. cond b (Some e) None) (eq-eqb e.class e.class refl)

with_entry-front : (entries : List Entry) (e : Entry) → (more : List Entry) × (with_entry entries e ≡ entries ++ more)
with_entry-front entries e = by (entry_of entries e.class)
  where
    by : (found : Option Entry) → (more : List Entry) × (added_by found entries e ≡ entries ++ more)
    by None = (e ∷ [], refl)
    by (Some old) = ([], sym (append-nil entries))

pub entries-front : (entries : List Entry) (records : List Record) → (more : List Entry)
    × (entries_after entries records ≡ entries ++ more)
entries-front entries [] = ([], sym (append-nil entries))
entries-front entries (r ∷ rs) =
    let one = with_entry-front entries r.entry in
    let later = entries-front (with_record entries r) rs in
    (one.0 ++ later.0, later.1 ∙ ap (λ front. front ++ later.0) one.1 ∙ append_assoc entries one.0 later.0)

-- ---- one record

-- a record is written alike under entries of which one agrees with its own
record IsUnder (entries all : List Entry) (e : Entry) : Type 0 where
  used : Entry
  is : entry_under all e ≡ used
  alike : IsAlike used e
  entry : new_entry entries used ≡ new_entry entries e
  more : with_entry entries used ≡ with_entry entries e

under : (entries all rest : List Entry) (e : Entry) → all ≡ with_entry entries e ++ rest
    → IfSome (entry_of entries e.class) (λ old. IsAlike old e) → IsUnder entries all e
under entries all rest e split agrees = by (entry_of entries e.class) refl agrees
  where
    by : (found : Option Entry) → entry_of entries e.class ≡ found → IfSome found (λ old. IsAlike old e)
        → IsUnder entries all e
    by None none agrees = record {
      used = e;
      is = ap (λ found. unwrap_or found e)
          (ap (λ all. entry_of all e.class) (split ∙ ap (λ found. added_by found entries e ++ rest) none)
          ∙ found-front (entries ++ e ∷ []) rest e.class e (found-pushed entries e none));
      alike = refl;
      entry = refl;
      more = refl;
    }
    by (Some old) found agrees =
        let class : old.class ≡ e.class = ap (λ (e : Entry). e.class) agrees in
        let again : entry_of entries old.class ≡ Some old = ap (entry_of entries) class ∙ found in
        record {
          used = old;
          is = ap (λ found. unwrap_or found e)
              (ap (λ all. entry_of all e.class) (split ∙ ap (λ found. added_by found entries e ++ rest) found)
              ∙ found-front entries rest e.class old found);
          alike = agrees;
          entry = ap (λ found. unless_held found entries old) again
              ∙ sym (ap (λ found. unless_held found entries e) found);
          more = ap (λ found. added_by found entries old) again ∙ sym (ap (λ found. added_by found entries e) found);
        }

record-alike : (a b : Entry) (instance : ℕ) (values : List Value) → IsAlike a b
    → record_bytes (record { entry = a; instance = instance; values = values })
    ≡ record_bytes (record { entry = b; instance = instance; values = values })
record-alike a b instance values alike =
    let fields : entry_fields a ≡ entry_fields b =
    sym (entry-fields-bare a) ∙ ap entry_fields alike ∙ entry-fields-bare b in
    λ i. structure_bytes (alike i).class instance (body_bytes (fields i) values)

-- ---- records one after another

pub record AreUnder (entries all : List Entry) (records : List Record) : Type 0 where
  pub pieces : pieces_of entries (map (record_under all) records) ≡ pieces_of entries records
  pub entries_are : entries_after entries (map (record_under all) records) ≡ entries_after entries records
  pub alike : AllByRecursion (λ (r : Record). IsAlike (entry_under all r.entry) r.entry) records

pub are-under : (entries all rest : List Entry) (records : List Record) → all ≡ entries_after entries records ++ rest
    → Agree entries records → AreUnder entries all records
are-under entries all rest [] split agree = record { pieces = refl; entries_are = refl; alike = tt }
are-under entries all rest (r ∷ rs) split agree =
    let front = entries-front (with_record entries r) rs in
    let one = under entries all (front.0 ++ rest) r.entry
    (split ∙ ap (λ xs. xs ++ rest) front.1 ∙ append_assoc (with_record entries r) front.0 rest) agree.0 in
    let later = are-under (with_record entries r) all rest rs split agree.1 in
    let more : with_record entries (record_under all r) ≡ with_record entries r =
    ap (with_entry entries) one.is ∙ one.more in
    let entry : new_entry entries (entry_under all r.entry) ≡ new_entry entries r.entry =
    ap (new_entry entries) one.is ∙ one.entry in
    let alike : IsAlike (entry_under all r.entry) r.entry = ap bare_entry one.is ∙ one.alike in
    let bytes = record-alike (entry_under all r.entry) r.entry r.instance r.values alike in
    record {
      pieces = λ i. record { entry = entry i; record_itself = bytes i }
          ∷ (ap (λ entries. pieces_of entries (map (record_under all) rs)) more ∙ later.pieces) i;
      entries_are = ap (λ entries. entries_after entries (map (record_under all) rs)) more ∙ later.entries_are;
      alike = (alike, later.alike);
    }
