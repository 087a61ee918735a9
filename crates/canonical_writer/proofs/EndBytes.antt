-- The body of FrEndOfFile, field by field.
use Rattle.std.proofs.Common.{◌≡◌, ℕ, suc, ◌+◌, ◌<◌, List, [], ◌∷◌, ◌++◌, length, drop, get_or, sum_by}
use Rattle.std.proofs.Common.{Some, Result, Ok, Err, OnOk, refl, sym, ap, ◌∙◌, subst, arith, append_assoc}
use Rattle.std.specs.Prelude.{slice_get}
use Rattle.std.proofs.lemmas.List.{length-append, length_push}
use Rattle.std.proofs.lemmas.List.Sums.{sum_by-cons}
use Rattle.std.proofs.lemmas.Option.{slice_get-get_or}
use Rattle.scalar_types.specs.declared.Order.TheVariants.{Little}
use Rattle.scalar_types.specs.declared.Width.{Width}
use Rattle.scalar_types.specs.declared.Width.TheVariants.{Two, Four}
use Rattle.scalar_types.proofs.NumberBytes.{bytes_of-length}
use Rattle.type_text.specs.declared.types.Link.{Link as StructLink}
use Rattle.record_values.specs.declared.values.Value.{Value}
use Rattle.record_values.specs.Values.{number_of}
use Rattle.record_values.specs.Spelling.{IsNumber, IsLink}
use Rattle.layout_plan.specs.declared.fields.Form.{Form}
use Rattle.layout_plan.specs.declared.fields.Form.TheVariants.{Number, Pair, Text, Link}
use Rattle.layout_plan.specs.declared.fields.Field.{Field}
use Rattle.layout_plan.specs.Appends.{Appends}
use Rattle.layout_plan.proofs.AppendLemmas.{Appends-more, Appends-as}
use Rattle.contents_table.specs.Told.{blank_by, told_at, values_after, values_told}
use Rattle.contents_table.specs.Tells.{item_length}
use Rattle.canonical_file.specs.Ranges.{AreBytes}
use Rattle.canonical_file.specs.Bytes.{number_bytes, pair_bytes, text_bytes, link_bytes, value_bytes, body_bytes}
use Rattle.canonical_writer.specs.declared.end_values.EndOfFile.{EndOfFile}
use Rattle.canonical_writer.specs.declared.end_values.EndFields.{EndFields}
use Rattle.canonical_writer.specs.EndOfFile.{told_of, single_told, number_in, FitsField, FitsEnd}
use Rattle.canonical_writer.proofs.EntryBytes.{IsTextOf, number-appended, bytes-before}

-- ---- one item

single-size : (form : Form) (n : ℕ) → length (value_bytes form (single_told form n)) ≡ item_length form
single-size (Number width) n = bytes_of-length Little width n
single-size (Pair width) n =
    omega (arith, length-append (number_bytes width 0) (number_bytes width 0), bytes_of-length Little width 0)
single-size Text n =
    omega (
      arith,
      length-append (number_bytes Two 1 ++ []) (0 ∷ []),
      length-append (number_bytes Two 1) [],
      bytes_of-length Little Two 1,
    )
single-size Link n =
    omega (
      arith,
      length-append (number_bytes Two 0) (number_bytes Four 0),
      bytes_of-length Little Two 0,
      bytes_of-length Little Four 0,
    )

-- two numbers are appended
pub pair-last : {A E : Type 0} (r : Result A E) (width : Width) (old mid new : List ℕ) → AreBytes new
    → Appends (IsNumber Little width 0) old mid → Appends (λ bytes. OnOk r (IsNumber Little width 0 bytes)) mid new
    → Appends (λ bytes. OnOk r (bytes ≡ pair_bytes width (0, 0))) old new
pair-last (Ok x) width old mid new bytes first second =
    Appends-more (λ xs. xs ≡ number_bytes width 0) (λ xs. xs ≡ number_bytes width 0)
    (λ xs. xs ≡ pair_bytes width (0, 0))
    old mid new (number-appended width 0 old mid (bytes-before mid new second bytes) first)
    (number-appended width 0 mid new bytes second) (λ xs ys is are i. is i ++ are i)
pair-last (Err x) width old mid new bytes first second =
    Appends-more (IsNumber Little width 0) (λ xs. Unit {0}) (λ xs. Unit {0}) old mid new first second (λ xs ys is t. tt)

pub text-last : {A E : Type 0} (r : Result A E) (old new : List ℕ)
    → Appends (λ bytes. OnOk r (IsTextOf [] bytes)) old new
    → Appends (λ bytes. OnOk r (bytes ≡ text_bytes [])) old new
text-last (Ok x) old new part =
    Appends-as (IsTextOf []) (λ xs. xs ≡ text_bytes []) old new part (λ xs is. is (omega arith))
text-last (Err x) old new part = Appends-as (λ xs. Unit {0}) (λ xs. Unit {0}) old new part (λ xs t. tt)

pub link-last : {A E : Type 0} (r : Result A E) (link : StructLink) (old new : List ℕ) → AreBytes new
    → Appends (λ bytes. OnOk r (IsLink Little link bytes)) old new
    → Appends (λ bytes. OnOk r (bytes ≡ link_bytes link)) old new
link-last (Ok x) link old new bytes part =
    let first : Appends (IsNumber Little Two link.class) old (old ++ part.related.front) =
    record { items = part.related.front; whole = refl; related = part.related.class } in
    let whole : new ≡ (old ++ part.related.front) ++ part.related.back = part.whole
    ∙ ap (λ xs. old ++ xs) part.related.split
    ∙ sym (append_assoc old part.related.front part.related.back) in
    let second : Appends (IsNumber Little Four link.instance) (old ++ part.related.front) new =
    record { items = part.related.back; whole = whole; related = part.related.instance } in
    Appends-more (λ xs. xs ≡ number_bytes Two link.class) (λ xs. xs ≡ number_bytes Four link.instance)
    (λ xs. xs ≡ link_bytes link) old (old ++ part.related.front) new
    (number-appended Two link.class old (old ++ part.related.front)
    (bytes-before (old ++ part.related.front) new second bytes) first)
    (number-appended Four link.instance (old ++ part.related.front) new bytes second) (λ xs ys is are i. is i ++ are i)
link-last (Err x) link old new bytes part = Appends-as (λ xs. Unit {0}) (λ xs. Unit {0}) old new part (λ xs t. tt)

-- an item of a form that is known
pub item-last : {A E : Type 0} (r : Result A E) (form own : Form) (n : ℕ) (old new : List ℕ) → form ≡ own
    → Appends (λ bytes. OnOk r (bytes ≡ value_bytes own (single_told own n))) old new
    → Appends (λ bytes. OnOk r (bytes ≡ value_bytes form (single_told form n))) old new
item-last r form own n old new is part =
    subst (λ form. Appends (λ bytes. OnOk r (bytes ≡ value_bytes form (single_told form n))) old new) (sym is) part

-- ---- all fields

-- what the fields tell from this number on
abbrev pub told_from : EndFields → EndOfFile → ℕ → List Field → List Value
told_from told end k [] = []
told_from told end k (f ∷ fs) = single_told f.form (number_in told end k) ∷ told_from told end (k + 1) fs

further : (n m j : ℕ) → m ≡ n + 1 → n + suc j ≡ m + j
further n m j longer = omega arith

values-from : (told : EndFields) (end : EndOfFile) (numbers : List ℕ) (fs : List Field)
    → ((j : ℕ) (f : Field) → slice_get fs j ≡ Some f → FitsField told end (length numbers + j) f)
    → values_after (told_of told end) numbers fs ≡ told_from told end (length numbers) fs
unfolding values_after
values-from told end numbers [] fits = refl
values-from told end numbers (f ∷ fs) fits =
    let v = told_at (told_of told end) (length numbers) (blank_by numbers f.form f.counts) in
    let at : length numbers + 0 ≡ length numbers = omega arith in
    let first = subst (λ k. FitsField told end k f) at (fits 0 f refl) in
    let here : v ≡ single_told f.form (number_in told end (length numbers)) =
    ap (λ counts. told_at (told_of told end) (length numbers) (blank_by numbers f.form counts)) first.single
    ∙ first.value in
    let longer = length_push numbers (number_of v) in
    let rest = values-from told end (numbers ++ number_of v ∷ []) fs
    (λ j g is. subst (λ k. FitsField told end k g)
    (further (length numbers) (length (numbers ++ number_of v ∷ [])) j longer)
    (fits (suc j) g is)) in
    λ i. here i ∷ (rest ∙ ap (λ k. told_from told end k fs) longer) i

pub values-told : (told : EndFields) (end : EndOfFile) (fields : List Field) → FitsEnd fields told end
    → values_told (told_of told end) fields ≡ told_from told end 0 fields
values-told told end fields fits =
    values-from told end [] fields (λ j f is. subst (λ k. FitsField told end k f) (omega arith) (fits j f is))

-- the bytes of an item of each field
abbrev pub items_size : List Field → ℕ
items_size fields = sum_by (λ (f : Field). item_length f.form) fields

size-from : (told : EndFields) (end : EndOfFile) (k : ℕ) (fs : List Field)
    → length (body_bytes fs (told_from told end k fs)) ≡ items_size fs
size-from told end k [] = refl
size-from told end k (f ∷ fs) =
    omega (
      arith,
      length-append (value_bytes f.form (single_told f.form (number_in told end k)))
          (body_bytes fs (told_from told end (k + 1) fs)),
      single-size f.form (number_in told end k),
      size-from told end (k + 1) fs,
      sum_by-cons (λ (f : Field). item_length f.form) f fs,
    )

pub end-size : (told : EndFields) (end : EndOfFile) (fields : List Field) → FitsEnd fields told end
    → items_size fields ≡ length (body_bytes fields (values_told (told_of told end) fields))
end-size told end fields fits =
    sym (ap (λ vs. length (body_bytes fields vs)) (values-told told end fields fits) ∙ size-from told end 0 fields)

-- ---- in the loop

-- The bytes are those of the fields before this number.
abbrev pub IsBodyBefore : EndFields → EndOfFile → List Field → ℕ → List ℕ → Type 0
IsBodyBefore told end fields k bytes =
    bytes ++ body_bytes (drop k fields) (told_from told end k (drop k fields))
    ≡ body_bytes fields (values_told (told_of told end) fields)

pub body-none : (told : EndFields) (end : EndOfFile) (fields : List Field) → FitsEnd fields told end
    → IsBodyBefore told end fields 0 []
body-none told end fields fits = ap (body_bytes fields) (sym (values-told told end fields fits))

-- the field of a number fits what it tells
pub fits-at : (told : EndFields) (end : EndOfFile) (fields : List Field) (k : ℕ) (f : Field) → FitsEnd fields told end
    → k < length fields → f ≡ get_or fields k f → FitsField told end k f
fits-at told end fields k f fits within is = fits k f (slice_get-get_or fields k f within ∙ ap Some (sym is))
