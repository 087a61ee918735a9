-- The layout that FrEndOfFile has to have: each field is a single item, and the three that tell something are wide
-- enough.
use Rattle.std.proofs.Common.{◌≡◌, ℕ, zero, suc, ◌^◌, ◌<◌, ◌≤◌, Bool, true, false, ◌&&◌, ◌==◌, cond, eqb}
use Rattle.std.proofs.Common.{List, [], ◌∷◌, ◌++◌, Option, Some, None, refl, sym, ap, ◌∙◌, subst, arith}
use Rattle.std.specs.Prelude.{codes, slice_get, option_and_then}
use Rattle.std.specs.List.{AllZip, list_all}
use Rattle.std.specs.Option.{option_map, option_map_or}
use Rattle.std.proofs.lemmas.Bool.{false≢true, and_parts, eqb-true, eq-eqb}
use Rattle.std.proofs.lemmas.Option.{none-some, same_Some}
use Rattle.scalar_types.specs.declared.Width.{Width}
use Rattle.scalar_types.specs.declared.Width.TheVariants.{One, Two, Four, Eight}
use Rattle.scalar_types.specs.Number.{size_of}
use Rattle.type_text.specs.declared.types.Base.{Base}
use Rattle.type_text.specs.declared.types.Base.TheVariants.{Int4U, Int8U}
use Rattle.type_text.specs.declared.types.Dim.{Dim}
use Rattle.type_text.specs.declared.types.ElementType.{ElementType}
use Rattle.record_values.specs.declared.values.Value.{Value}
use Rattle.record_values.specs.declared.values.Value.TheVariants as value
use Rattle.dictionary.specs.declared.entries.Element.{Element}
use Rattle.dictionary.specs.Named.{first_named}
use Rattle.layout_plan.specs.declared.fields.Form.{Form}
use Rattle.layout_plan.specs.declared.fields.Form.TheVariants.{Number, Pair, Text, Link}
use Rattle.layout_plan.specs.declared.fields.Count.{Count}
use Rattle.layout_plan.specs.declared.fields.Field.{Field}
use Rattle.layout_plan.specs.Layout.{form_of, has_no_dims, counts_of, count_in, is_check_sum, is_last, field_of_type}
use Rattle.layout_plan.specs.Layout.{field_of, fields_after, layout_of}
use Rattle.file_grammar.specs.Closing.{is_single, is_any, is_count, is_size, has_named, closes, field_named}
use Rattle.contents_table.specs.Told.{blank_single}
use Rattle.contents_table.proofs.FirstNamed.{named-at}
use Rattle.canonical_writer.specs.declared.end_values.EndOfFile.{EndOfFile}
use Rattle.canonical_writer.specs.declared.end_values.EndFields.{EndFields}
use Rattle.canonical_writer.specs.EndOfFile.{single_told, number_in, FitsForm, FitsField, FitsEnd}

-- ---- the fields of single elements

-- the field is a single item of the element's base
record IsOf (e : Element) (f : Field) : Type 0 where
  ty : ElementType
  is : e.ty ≡ Some ty
  form : f.form ≡ form_of ty.base
  single : f.counts ≡ []

no-counts : (named : List ℕ → Option Count) (dims : List Dim) → has_no_dims dims ≡ true → counts_of named dims ≡ Some []
no-counts named [] none = refl
no-counts named (d ∷ ds) none = absurd (false≢true none)

single-field : (named : List ℕ → Option Count) (last : Bool) (e : Element) → is_single is_any e ≡ true → (f : Field)
    × (field_of named last e ≡ Some f) × IsOf e f
single-field named last e single = by e.ty refl single
  where
    by : (o : Option ElementType) → e.ty ≡ o
        → option_map_or (λ (ty : ElementType). is_any ty.base && has_no_dims ty.dims) o false ≡ true → (f : Field)
        × (option_and_then (field_of_type named (last && is_check_sum e)) o ≡ Some f) × IsOf e f
    by None is single = absurd (false≢true single)
    by (Some ty) is single =
        let whole : List Count → Field =
        λ counts. record { form = form_of ty.base; counts = counts; is_sum = last && is_check_sum e } in (
          whole [],
          ap (option_map whole) (no-counts named ty.dims single),
          record { ty = ty; is = is; form = refl; single = refl },
        )

single-fields : (earlier es : List Element) → list_all (is_single is_any) es ≡ true → (fs : List Field)
    × (fields_after earlier es ≡ Some fs) × AllZip IsOf es fs
single-fields earlier [] single = ([], refl, tt)
single-fields earlier (e ∷ es) single =
    let parts = and_parts (is_single is_any e) (list_all (is_single is_any) es) single in
    let one = single-field (count_in earlier) (is_last es) e parts.0 in
    let rest = single-fields (earlier ++ e ∷ []) es parts.1 in
    (one.0 ∷ rest.0, (λ i. option_and_then (λ f. option_map (λ fs. f ∷ fs) (rest.1 i)) (one.1 i)), (one.2, rest.2))

zip-at : {A B : Type 0} (R : A → B → Type 0) (xs : List A) (ys : List B) (k : ℕ) (y : B) → AllZip R xs ys
    → slice_get ys k ≡ Some y → (x : A) × (slice_get xs k ≡ Some x) × R x y
zip-at R xs [] k y all is = absurd (none-some y is)
zip-at R [] (z ∷ zs) k y all is = absurd all
zip-at R (x ∷ xs) (z ∷ zs) zero y all is = (x, refl, subst (R x) (same_Some z y is) all.0)
zip-at R (x ∷ xs) (z ∷ zs) (suc k) y all is = zip-at R xs zs k y all.1 is

-- ---- the fields that tell something

-- the element of a name passes
named-passes : (passes : Base → Bool) (es : List Element) (name : List ℕ) (e : Element) (f : Field)
    → has_named es name passes ≡ true → slice_get es (field_named es name) ≡ Some e → IsOf e f → (base : Base)
    × (passes base ≡ true) × (f.form ≡ form_of base)
named-passes passes es name e f has at of = by (first_named 0 es name) refl has
    (subst (λ k. slice_get es k ≡ Some e) refl at)
  where
    first : (b c : Bool) → (b && c) ≡ true → b ≡ true
    first b c both = (and_parts b c both).0

    by : (found : Option (ℕ × Element)) → first_named 0 es name ≡ found
        → option_map_or (λ found. is_single passes found.1) found false ≡ true
        → slice_get es (option_map_or (λ found. found.0) found 0) ≡ Some e → (base : Base)
        × (passes base ≡ true) × (f.form ≡ form_of base)
    by None is has at = absurd (false≢true has)
    by (Some p) is has at =
        let same : p.1 ≡ e = same_Some p.1 e (sym (named-at es name p.0 p.1 is).0 ∙ at) in
        let passing : option_map_or (λ (ty : ElementType). passes ty.base && has_no_dims ty.dims) (Some of.ty) false
        ≡ true =
        ap (λ o. option_map_or (λ (ty : ElementType). passes ty.base && has_no_dims ty.dims) o false)
        (sym (ap (λ (e : Element). e.ty) same ∙ of.is)) ∙ has in
        (of.ty.base, first (passes of.ty.base) (has_no_dims of.ty.dims) passing, of.form)

-- the form is that of a number, which has room for this one
record HasRoom (form : Form) (n : ℕ) : Type 0 where
  width : Width
  is : form ≡ Number width
  wide : n < 256 ^ size_of width

count-room : (base : Base) (n : ℕ) → n ≤ 1000000 → is_count base ≡ true → HasRoom (form_of base) n
count-room Int4U n few t = record { width = Four; is = refl; wide = omega arith }
count-room Int8U n few t = record { width = Eight; is = refl; wide = omega arith }
count-room base n few t = absurd (false≢true t)

size-room : (base : Base) (n : ℕ) → n < 2 ^ 64 → is_size base ≡ true → HasRoom (form_of base) n
size-room Int8U n fits t = record { width = Eight; is = refl; wide = fits }
size-room base n fits t = absurd (false≢true t)

-- ---- what each field tells

blank-told : (form : Form) → blank_single form ≡ single_told form 0
blank-told (Number width) = refl
blank-told (Pair width) = refl
blank-told Text = refl
blank-told Link = refl

blank-fits : (form : Form) → FitsForm form 0
blank-fits (Number One) = omega arith
blank-fits (Number Two) = omega arith
blank-fits (Number Four) = omega arith
blank-fits (Number Eight) = omega arith
blank-fits (Pair width) = tt
blank-fits Text = tt
blank-fits Link = tt

abbrev Tells : Form → Value → ℕ → Type 0
Tells form v n = (v ≡ single_told form n) × FitsForm form n

told-room : (form : Form) (n : ℕ) → HasRoom form n → Tells form (value.Num n) n
told-room form n room = (
  sym (ap (λ form. single_told form n) room.is),
  subst (λ form. FitsForm form n) (sym room.is) room.wide,
)

eqb-flip : (m n : ℕ) → eqb m n ≡ eqb n m
eqb-flip m n = by (eqb m n) refl (eqb n m) refl
  where
    by : (b : Bool) → eqb m n ≡ b → (c : Bool) → eqb n m ≡ c → b ≡ c
    by true is true are = refl
    by false is false are = refl
    by true is false are = absurd (false≢true (sym are ∙ eq-eqb n m (sym (eqb-true m n is))))
    by false is true are = absurd (false≢true (sym is ∙ eq-eqb m n (sym (eqb-true n m are))))

field-fits : (told : EndFields) (end : EndOfFile) (k : ℕ) (f : Field) → f.counts ≡ []
    → (told.frames ≡ k → HasRoom f.form end.frames) → (told.bytes ≡ k → HasRoom f.form end.bytes)
    → (told.seek ≡ k → HasRoom f.form end.seek) → FitsField told end k f
field-fits told end k f single frames bytes seek =
    let all = by (told.frames == k) refl (told.bytes == k) refl (told.seek == k) refl in
    let n : number_by (told.frames == k) (told.bytes == k) (told.seek == k) ≡ number_in told end k =
    λ i. number_by (eqb-flip told.frames k i) (eqb-flip told.bytes k i) (eqb-flip told.seek k i) in
    record {
      single = single;
      value = all.0 ∙ ap (single_told f.form) n;
      wide = subst (FitsForm f.form) n all.1;
    }
  where
    number_by : Bool → Bool → Bool → ℕ
    number_by x y z = cond x end.frames (cond y end.bytes (cond z end.seek 0))

    found : Bool → Bool → Bool → Value
    found x y z =
        option_map_or (λ (t : ℕ × Value). t.1)
        (cond x (Some (told.frames, value.Num end.frames))
        (cond y (Some (told.bytes, value.Num end.bytes)) (cond z (Some (told.seek, value.Num end.seek)) None)))
        (blank_single f.form)

    by : (x : Bool) → (told.frames == k) ≡ x → (y : Bool) → (told.bytes == k) ≡ y → (z : Bool) → (told.seek == k) ≡ z
        → Tells f.form (found x y z) (number_by x y z)
    by true is y second z third = told-room f.form end.frames (frames (eqb-true told.frames k is))
    by false first true is z third = told-room f.form end.bytes (bytes (eqb-true told.bytes k is))
    by false first false second true is = told-room f.form end.seek (seek (eqb-true told.seek k is))
    by false first false second false third = (blank-told f.form, blank-fits f.form)

-- The layout is readable, and fits whatever is told.
pub record IsEndLayout (es : List Element) : Type 0 where
  pub fields : List Field
  pub layout : layout_of es ≡ Some fields
  pub fits : (told : EndFields) (end : EndOfFile) → told.frames ≡ field_named es (codes "nFrames")
      → told.bytes ≡ field_named es (codes "nBytes") → told.seek ≡ field_named es (codes "seekTOC")
      → end.frames ≤ 1000000 → end.bytes < 2 ^ 64 → end.seek < 2 ^ 64 → FitsEnd fields told end

pub end-layout : (es : List Element) → closes es ≡ true → IsEndLayout es
unfolding layout_of
end-layout es closing = record {
  fields = made.0;
  layout = made.1;
  fits = λ told end frames bytes seek few small back k f at.
      let of = zip-at IsOf es made.0 k f made.2 at in
      field-fits told end k f of.2.single
      (λ is. let base = named-passes is_count es (codes "nFrames") of.0 f three.0
      (subst (λ k. slice_get es k ≡ Some of.0) (sym is ∙ frames) of.1) of.2 in
      subst (λ form. HasRoom form end.frames) (sym base.2) (count-room base.0 end.frames few base.1))
      (λ is. let base = named-passes is_size es (codes "nBytes") of.0 f three.1
      (subst (λ k. slice_get es k ≡ Some of.0) (sym is ∙ bytes) of.1) of.2 in
      subst (λ form. HasRoom form end.bytes) (sym base.2) (size-room base.0 end.bytes small base.1))
      (λ is. let base = named-passes is_size es (codes "seekTOC") of.0 f three.2
      (subst (λ k. slice_get es k ≡ Some of.0) (sym is ∙ seek) of.1) of.2 in
      subst (λ form. HasRoom form end.seek) (sym base.2) (size-room base.0 end.seek back base.1));
}
  where
    Named : List ℕ → (Base → Bool) → Type 0
    Named name passes = has_named es name passes ≡ true

    parts : (list_all (is_single is_any) es ≡ true)
        × ((has_named es (codes "nFrames") is_count
        && (has_named es (codes "nBytes") is_size && has_named es (codes "seekTOC") is_size)) ≡ true)
    parts = and_parts (list_all (is_single is_any) es) _ closing

    three : Named (codes "nFrames") is_count × Named (codes "nBytes") is_size × Named (codes "seekTOC") is_size
    three =
        let first = and_parts (has_named es (codes "nFrames") is_count) _ parts.1 in
        let rest = and_parts (has_named es (codes "nBytes") is_size) (has_named es (codes "seekTOC") is_size) first.1 in
        (first.0, rest.0, rest.1)

    made : (fs : List Field) × (fields_after [] es ≡ Some fs) × AllZip IsOf es fs
    made = single-fields [] es parts.0

pub end-fits : (es : List Element) (fields : List Field) (told : EndFields) (end : EndOfFile) → closes es ≡ true
    → layout_of es ≡ Some fields → told.frames ≡ field_named es (codes "nFrames")
    → told.bytes ≡ field_named es (codes "nBytes") → told.seek ≡ field_named es (codes "seekTOC")
    → end.frames ≤ 1000000 → end.bytes < 2 ^ 64 → end.seek < 2 ^ 64 → FitsEnd fields told end
end-fits es fields told end closing layout frames bytes seek few small back =
    let own = end-layout es closing in
    subst (λ fs. FitsEnd fs told end) (same_Some own.fields fields (sym own.layout ∙ layout))
    (own.fits told end frames bytes seek few small back)
