-- A written entry is an entry of the file, and reads back as itself.
use Rattle.std.proofs.Common.{◌≡◌, ℕ, ◌+◌, ◌^◌, ◌<◌, ◌≤◌, List, [], ◌∷◌, ◌++◌, length, map, sum_by, refl, sym, ap, ◌∙◌}
use Rattle.std.proofs.Common.{subst, arith, inr, append-nil, length-append}
use Rattle.std.specs.List.{AllByRecursion}
use Rattle.std.proofs.lemmas.List.Sums.{sum_by-cons}
use Rattle.scalar_types.specs.declared.Order.TheVariants.{Little}
use Rattle.record_values.specs.declared.values.Value.{Value}
use Rattle.record_values.specs.declared.values.Value.TheVariants as value
use Rattle.dictionary.specs.declared.entries.Element.{Element}
use Rattle.dictionary.specs.declared.entries.Entry.{Entry}
use Rattle.layout_plan.specs.declared.fields.Field.{Field}
use Rattle.layout_plan.specs.Body.{number_of, AreFields, IsBody}
use Rattle.layout_plan.specs.BuiltIn.{structure_fields, element_fields}
use Rattle.layout_plan.specs.Written.{IsWritten}
use Rattle.file_grammar.specs.Structure.{Structure, size_of, record_limit, file_limit, StandsWhole}
use Rattle.file_grammar.specs.Described.{IsElement, AreElements, IsEntry}
use Rattle.file_grammar.proofs.Bodies.{structure_fields-sound, element_fields-sound}
use Rattle.file_grammar.proofs.SameItems.{same_structure}
use Rattle.canonical_file.specs.Bytes.{body_bytes, structure_bytes, four_zeros, element_body, head_body}
use Rattle.canonical_file.specs.Bytes.{elements_bytes}
use Rattle.canonical_file.specs.Bytes.{entry_bytes}
use Rattle.canonical_file.proofs.Spelled.{body-written}
use Rattle.canonical_laws.specs.Writable.{IsWritableElement, IsWritableEntry}
use Rattle.canonical_laws.proofs.Holding.{Holds, holds-left, holds-right, holds-at, length-structure, stands-held}

-- a body that is written, with the four zero bytes
with_zeros : (fields : List Field) (values : List Value) (bytes : List ℕ) → IsWritten Little fields values bytes
    → IsBody Little fields values four_zeros (bytes ++ four_zeros)
with_zeros fields values bytes written =
    let whole : written.body.front ≡ bytes = sym (written.body.split ∙ append-nil written.body.front) in
    record {
      front = bytes;
      split = refl;
      spelled = subst (AreFields Little (map number_of values) fields values) whole written.body.spelled;
      ends = inr refl;
    }

-- ---- elements

abbrev element_values : Element → List Value
element_values e = value.Text e.name ∷ value.Text e.text ∷ value.Text e.comment ∷ []

element-written : (e : Element) → IsWritableElement e
    → IsWritten Little element_fields (element_values e) (body_bytes element_fields (element_values e))
element-written e w =
    body-written element_fields (element_values e) element_fields-sound (w.name, (w.text, (w.comment, tt)))
    (tt, (tt, (tt, tt)))

pub element-short : (e : Element) → IsWritableElement e → 14 + length (element_body e) ≤ record_limit
element-short e w =
    let name : length e.name ≤ 65534 = w.name in
    let text : length e.text ≤ 65534 = w.text in
    let comment : length e.comment ≤ 65534 = w.comment in
    omega (
      arith,
      (element-written e w).size,
      length-append (body_bytes element_fields (element_values e)) four_zeros,
    )

abbrev pub element_structure : ℕ → ℕ → Element → Structure
element_structure at k e = record { at = at; class = 2; instance = k; body = element_body e }

element-stands : (file : List ℕ) (at k : ℕ) (e : Element) → IsWritableElement e → k < 256 ^ 4
    → length file ≤ file_limit → Holds file at (structure_bytes 2 k (element_body e))
    → IsElement Little file (element_structure at k e) e
element-stands file at k e w few limit h = record {
  stands = stands-held file at 2 k (element_body e) h few (element-short e w) limit;
  class = refl;
  tail = four_zeros;
  body = with_zeros element_fields (element_values e) (body_bytes element_fields (element_values e))
      (element-written e w);
  type = w.read;
}

-- the place after an element
abbrev after_element : ℕ → Element → ℕ
after_element at e = at + (14 + length (element_body e))

-- the run of elements from a place on
abbrev pub run_of : ℕ → ℕ → List Element → List Structure
run_of at k [] = []
run_of at k (e ∷ es) = element_structure at k e ∷ run_of (after_element at e) (k + 1) es

elements-stand : (file : List ℕ) (at k : ℕ) (es : List Element) → AllByRecursion IsWritableElement es
    → k + length es ≤ 256 ^ 4 → length file ≤ file_limit → Holds file at (elements_bytes k es)
    → AreElements Little file at (run_of at k es) es
elements-stand file at k [] all few limit h = tt
elements-stand file at k (e ∷ es) all few limit h =
    let bytes : List ℕ = structure_bytes 2 k (element_body e) in
    let more : List ℕ = elements_bytes (k + 1) es in
    let rest = holds-at file (at + length bytes) (after_element at e) more
    (ap (λ n. at + n) (length-structure 2 k (element_body e))) (holds-right file at bytes more h) in (
      refl,
      element-stands file at k e all.0 (omega arith) limit (holds-left file at bytes more h),
      elements-stand file (after_element at e) (k + 1) es all.1 (omega arith) limit rest,
    )

run-size : (at k : ℕ) (es : List Element) → sum_by size_of (run_of at k es) ≡ length (elements_bytes k es)
run-size at k [] = refl
run-size at k (e ∷ es) =
    let next : ℕ = after_element at e in
    omega (
      arith,
      sum_by-cons size_of (element_structure at k e) (run_of next (k + 1) es),
      run-size next (k + 1) es,
      length-append (structure_bytes 2 k (element_body e)) (elements_bytes (k + 1) es),
      length-structure 2 k (element_body e),
    )

-- ---- entries

abbrev head_values : Entry → List Value
head_values e = value.Text e.name ∷ value.Num e.class ∷ value.Text e.comment ∷ []

head-written : (e : Entry) → IsWritableEntry e
    → IsWritten Little structure_fields (head_values e) (body_bytes structure_fields (head_values e))
head-written e w =
    let class : e.class < 256 ^ 2 = omega (arith, w.high) in
    body-written structure_fields (head_values e) structure_fields-sound (w.name, (class, (w.comment, tt)))
    (tt, (tt, (tt, tt)))

pub head-short : (e : Entry) → IsWritableEntry e → 14 + length (head_body e) ≤ record_limit
head-short e w =
    let name : length e.name ≤ 65534 = w.name in
    let comment : length e.comment ≤ 65534 = w.comment in
    omega (arith, (head-written e w).size, length-append (body_bytes structure_fields (head_values e)) four_zeros)

abbrev pub head_structure : ℕ → ℕ → Entry → Structure
head_structure at k e = record { at = at; class = 1; instance = k; body = head_body e }

-- where the elements of an entry begin
abbrev pub after_head : ℕ → Entry → ℕ
after_head at e = at + (14 + length (head_body e))

-- its structures, behind the first
abbrev pub run_at : ℕ → Entry → List Structure
run_at at e = run_of (after_head at e) 0 e.elements

pub entry-size : (at k : ℕ) (e : Entry)
    → after_head at e + sum_by size_of (run_at at e) ≡ at + length (entry_bytes k e)
entry-size at k e =
    omega (
      arith,
      run-size (after_head at e) 0 e.elements,
      length-append (structure_bytes 1 k (head_body e)) (elements_bytes 0 e.elements),
      length-structure 1 k (head_body e),
    )

-- What is written of an entry is that entry in the file, where a structure that is no FrSE stands after it.
pub entry-stands : (file : List ℕ) (at k : ℕ) (e : Entry) (next : Structure) → IsWritableEntry e → k < 256 ^ 4
    → length file ≤ file_limit → Holds file at (entry_bytes k e) → StandsWhole Little file next
    → next.at ≡ at + length (entry_bytes k e) → (next.class ≡ 2 → ⊥)
    → IsEntry Little file (head_structure at k e) (run_at at e) e
entry-stands file at k e next w few limit h stands place other =
    let bytes : List ℕ = structure_bytes 1 k (head_body e) in
    let more : List ℕ = elements_bytes 0 e.elements in
    let rest = holds-at file (at + length bytes) (after_head at e) more
    (ap (λ n. at + n) (length-structure 1 k (head_body e))) (holds-right file at bytes more h) in
    record {
      stands = stands-held file at 1 k (head_body e) (holds-left file at bytes more h) few (head-short e w) limit;
      class = refl;
      tail = four_zeros;
      body = with_zeros structure_fields (head_values e) (body_bytes structure_fields (head_values e))
          (head-written e w);
      elements = elements-stand file (after_head at e) 0 e.elements w.elements (omega (arith, w.short)) limit rest;
      longest = λ s d here is.
          let same : s ≡ next = same_structure Little file s next is.stands stands
          (here ∙ entry-size at k e ∙ sym place) in
          other (sym (ap (λ (t : Structure). t.class) same) ∙ is.class);
    }
