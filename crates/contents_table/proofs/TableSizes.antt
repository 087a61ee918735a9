-- The items and the bytes of the canonical table's fields.
use Rattle.std.proofs.Common.{◌≡◌, ℕ, zero, suc, ◌+◌, ◌*◌, ◌<◌, ◌≤◌, Bool, true, false, List, [], ◌∷◌, length}
use Rattle.std.proofs.Common.{map, drop, sum_by, get_or, Some, refl, sym, ap, ◌∙◌, inl, inr, arith}
use Rattle.std.specs.Prelude.{slice_get, if◌then◌else◌}
use Rattle.std.specs.List.{flat_map}
use Rattle.std.proofs.Math.Nat.{suc-mul, zero-mul, le-mul_of_pos_right}
use Rattle.std.proofs.lemmas.List.{length-map, length-append, length-replicate}
use Rattle.std.proofs.lemmas.List.Sums.{sum_by-cons}
use Rattle.std.proofs.lemmas.List.Folds.{sum_by-replicate}
use Rattle.scalar_types.specs.declared.Width.TheVariants.{One, Two, Four, Eight}
use Rattle.scalar_types.specs.Number.{size_of}
use Rattle.record_values.specs.declared.values.Value.{Value}
use Rattle.record_values.specs.declared.values.Value.TheVariants as value
use Rattle.layout_plan.specs.declared.fields.Form.{Form}
use Rattle.layout_plan.specs.declared.fields.Form.TheVariants.{Number, Pair, Text, Link}
use Rattle.layout_plan.specs.declared.fields.Count.{Count}
use Rattle.layout_plan.specs.declared.fields.Count.TheVariants.{Of}
use Rattle.layout_plan.specs.declared.fields.Field.{Field}
use Rattle.layout_plan.specs.Body.{item_count, text_length, value_length, values_length}
use Rattle.frame_content.specs.Labels.{null_link}
use Rattle.record_writer.proofs.Rests.{values_length-step, values_length-end}
use Rattle.contents_table.specs.declared.kind.Kind.{Kind}
use Rattle.contents_table.specs.declared.fit.KindFields.{KindFields}
use Rattle.contents_table.specs.declared.fit.TableLayout.{TableLayout}
use Rattle.contents_table.specs.declared.names.Listed.{Listed}
use Rattle.contents_table.specs.declared.writing.Tells.{Tells}
use Rattle.contents_table.specs.declared.writing.Tells.TheVariants as told
use Rattle.contents_table.specs.Built.{Built, listed_of, name_in, position_in, numbers_below}
use Rattle.contents_table.specs.Fit.{fields_of, position_counts}
use Rattle.contents_table.specs.Told.{blank_single, blank_listed, blank_by, positions_of, table_values}
use Rattle.contents_table.specs.Told.{table_size}
use Rattle.contents_table.specs.Tells.{told_in, field_value, told_number, item_length, Suits, IsCounter}
use Rattle.contents_table.specs.Tells.{IsListOf, AreTold}
use Rattle.contents_table.proofs.ToldValues.{drop-at, table-at, number-at}
use Rattle.contents_table.proofs.TellingFields.{Shape, shape-at, frames-told, heads-told, count-told}
use Rattle.contents_table.proofs.TellingFields.{names-told}
use Rattle.contents_table.proofs.Items.{length-numbers_below}

-- ---- how many positions there are

-- parts of the same length
length-parts : {X Y : Type 0} (f : X → List Y) (n : ℕ) → ((x : X) → length (f x) ≡ n) → (xs : List X)
    → length (flat_map f xs) ≡ length xs * n
length-parts f n each [] = sym (zero-mul n)
length-parts f n each (x ∷ xs) =
    omega (
      arith,
      length-append (f x) (flat_map f xs),
      each x,
      length-parts f n each xs,
      suc-mul (length xs)
          n,
    )

length-by-name : (frames : ℕ) (listed : List Listed) (names : List (List ℕ))
    → length (positions_of true frames listed names) ≡ length names * frames
length-by-name frames listed names =
    length-parts (λ name. map (position_in listed name) (numbers_below frames)) frames
    (λ name. length-map (numbers_below frames) (position_in listed name) ∙ length-numbers_below frames) names

length-by-frame : (frames : ℕ) (listed : List Listed) (names : List (List ℕ))
    → length (positions_of false frames listed names) ≡ frames * length names
length-by-frame frames listed names =
    length-parts (λ frame. map (λ name. position_in listed name frame) names) (length names)
    (λ frame. length-map names (λ name. position_in listed name frame)) (numbers_below frames)
    ∙ ap (λ n. n * length names) (length-numbers_below frames)

mul-one : (n : ℕ) → n * 1 ≡ n
mul-one n = omega arith

-- the bytes of the last fields
rest-within : (k : ℕ) (fields : List Field) (values : List Value)
    → values_length (drop k fields) (drop k values) ≤ values_length fields values
rest-within zero fields values = omega arith
rest-within (suc k) [] [] = omega arith
rest-within (suc k) [] (v ∷ vs) = omega arith
rest-within (suc k) (f ∷ fs) [] = omega (arith, values_length-end (drop k fs) [] (inr refl))
rest-within (suc k) (f ∷ fs) (v ∷ vs) = omega (arith, rest-within k fs vs)

-- names take three bytes at least
texts-within : (texts : List (List ℕ)) → length texts ≤ sum_by text_length texts
texts-within [] = omega arith
texts-within (text ∷ texts) = omega (arith, sum_by-cons text_length text texts, texts-within texts)

-- each item takes a byte at least
item_length-some : (form : Form) → 0 < item_length form
item_length-some (Number One) = omega arith
item_length-some (Number Two) = omega arith
item_length-some (Number Four) = omega arith
item_length-some (Number Eight) = omega arith
item_length-some (Pair One) = omega arith
item_length-some (Pair Two) = omega arith
item_length-some (Pair Four) = omega arith
item_length-some (Pair Eight) = omega arith
item_length-some Text = omega arith
item_length-some Link = omega arith

listed-length : (form : Form) (n : ℕ) → value_length form (blank_listed form n) ≡ n * item_length form
listed-length (Number One) n = ap (λ n. n * 1) (length-replicate n zero)
listed-length (Number Two) n = ap (λ n. n * 2) (length-replicate n zero)
listed-length (Number Four) n = ap (λ n. n * 4) (length-replicate n zero)
listed-length (Number Eight) n = ap (λ n. n * 8) (length-replicate n zero)
listed-length (Pair width) n = ap (λ n. n * (2 * size_of width)) (length-replicate n (zero, zero))
listed-length Text n = sum_by-replicate text_length n []
listed-length Link n = ap (λ n. n * 6) (length-replicate n null_link)

single-length : (form : Form) → value_length form (blank_single form) ≡ 1 * item_length form
single-length (Number width) = omega arith
single-length (Pair width) = omega arith
single-length Text = refl
single-length Link = refl

blank-length : (numbers : List ℕ) (form : Form) (counts : List Count)
    → value_length form (blank_by numbers form counts) ≡ item_count numbers counts * item_length form
blank-length numbers form [] = single-length form
blank-length numbers form (c ∷ cs) = listed-length form (item_count numbers (c ∷ cs))

-- a field has at least as many bytes as items
counter-within : (numbers : List ℕ) (f : Field) (n : ℕ) → IsCounter f
    → item_count numbers f.counts ≤ value_length f.form (value.Num n)
counter-within numbers f n c =
    let count : item_count numbers f.counts ≡ 1 = ap (item_count numbers) c.single in
    let size : value_length f.form (value.Num n) ≡ size_of c.width =
    ap (λ form. value_length form (value.Num n)) c.form_is in
    omega (arith, count, size, c.wide)

numbers-within : (numbers : List ℕ) (f : Field) (xs : List ℕ) → IsListOf numbers (Number Eight) (length xs) f
    → item_count numbers f.counts ≤ value_length f.form (value.Nums xs)
numbers-within numbers f xs s =
    let size : value_length f.form (value.Nums xs) ≡ length xs * 8 =
    ap (λ form. value_length form (value.Nums xs)) s.form_is in
    omega (arith, s.count, size)

items-within : (numbers : List ℕ) (built : Built) (u : Tells) (f : Field) → Suits numbers built u f
    → item_count numbers f.counts ≤ value_length f.form (field_value numbers built u f)
items-within numbers built told.Nothing f s =
    let some = le-mul_of_pos_right (item_count numbers f.counts) (item_length-some f.form) in
    omega (arith, some, blank-length numbers f.form f.counts)
items-within numbers built told.Frames f s = counter-within numbers f (length built.heads) s
items-within numbers built told.Heads f s = numbers-within numbers f built.heads s
items-within numbers built (told.Count kind) f s = counter-within numbers f (length (listed_of built kind)) s
items-within numbers built (told.Names kind) f s =
    let names = map name_in (listed_of built kind) in
    let size : value_length f.form (value.Texts names) ≡ sum_by text_length names =
    ap (λ form. value_length form (value.Texts names)) s.form_is in
    omega (arith, s.count, size, texts-within names, length-map (listed_of built kind) name_in)
items-within numbers built (told.Positions kind by_name) f s =
    numbers-within numbers f
    (positions_of by_name (length built.heads) (listed_of built kind) (map name_in (listed_of built kind))) s

-- the dimensions of positions
abbrev counts_by : ℕ → KindFields → Bool → List Count
counts_by frames kf by_name =
    if by_name then Of kf.count ∷ Of frames ∷ [] else Of frames ∷ Of kf.count ∷ []

positions-listed : (frames : ℕ) (kf : KindFields) (by_name : Bool) → kf.by_name ≡ by_name
    → position_counts frames kf ≡ [] → ⊥
positions-listed frames kf true e none = let counts = rw e at none in cc
positions-listed frames kf false e none = let counts = rw e at none in cc

-- ---- each field suits what it tells

module _ (fields : List Field) (layout : TableLayout) (built : Built) (numbers : List ℕ)
    (t : AreTold fields layout built numbers) where
  frames-number : get_or numbers layout.frames 0 ≡ length built.heads
  frames-number =
      number-at fields layout built numbers t layout.frames t.fit.frames.1.field t.fit.frames.1.is
      ∙ ap (told_number built) (frames-told layout)

  count-number : (kind : Kind) (kf : KindFields) → fields_of layout kind ≡ Some kf
      → get_or numbers kf.count 0 ≡ length (listed_of built kind)
  count-number kind kf e =
      let c = count-told fields layout t.fit kind kf e in
      number-at fields layout built numbers t kf.count c.0 c.1 ∙ ap (told_number built) c.2

  positions-number : (kind : Kind) (kf : KindFields) → fields_of layout kind ≡ Some kf → (by_name : Bool)
      → kf.by_name ≡ by_name
      → item_count numbers (position_counts layout.frames kf)
      ≡ length (positions_of by_name (length built.heads) (listed_of built kind)
      (map name_in (listed_of built kind)))
  positions-number kind kf e true by_name =
      let names = map name_in (listed_of built kind) in
      let count = count-number kind kf e ∙ sym (length-map (listed_of built kind) name_in) in
      ap (λ b. item_count numbers (counts_by layout.frames kf b)) by_name
      ∙ (λ i. count i * (frames-number i * 1))
      ∙ ap (λ n. length names * n) (mul-one (length built.heads))
      ∙ sym (length-by-name (length built.heads) (listed_of built kind) names)
  positions-number kind kf e false by_name =
      let names = map name_in (listed_of built kind) in
      let count = count-number kind kf e ∙ sym (length-map (listed_of built kind) name_in) in
      ap (λ b. item_count numbers (counts_by layout.frames kf b)) by_name
      ∙ (λ i. frames-number i * (count i * 1))
      ∙ ap (λ n. length built.heads * n) (mul-one (length names))
      ∙ sym (length-by-frame (length built.heads) (listed_of built kind) names)

  shape-suits : (k : ℕ) (f : Field) (u : Tells) → Shape layout k f u → Suits numbers built u f
  shape-suits k f told.Nothing s = tt
  shape-suits k f told.Frames s = s.1
  shape-suits k f told.Heads s = record {
    form_is = s.0;
    listed = λ none. cc;
    count = ap (item_count numbers) s.1 ∙ ap (λ n. n * 1) frames-number ∙ mul-one (length built.heads);
  }
  shape-suits k f (told.Count kind) (kf, e, s) = s.1
  shape-suits k f (told.Names kind) (kf, e, s) = record {
    form_is = s.0;
    listed = λ none. cc;
    count = ap (item_count numbers) s.1 ∙ ap (λ n. n * 1) (count-number kind kf e)
        ∙ mul-one (length (listed_of built kind));
  }
  shape-suits k f (told.Positions kind by_name) (kf, e, s) =
      record {
        form_is = s.0.0;
        listed = λ none. positions-listed layout.frames kf by_name s.1 (sym s.0.1 ∙ none);
        count = ap (item_count numbers) s.0.1 ∙ positions-number kind kf e by_name s.1;
      }

  pub suits-at : (k : ℕ) (f : Field) → slice_get fields k ≡ Some f → Suits numbers built (told_in layout k) f
  suits-at k f is = elim (shape-at fields layout t.fit k f is) [
    | inl none ↦ rw none tt
    | inr s ↦ shape-suits k f (told_in layout k) s
  ]

  -- ---- the bytes of a field are within those of the record

  pub size-at : (k : ℕ) (f : Field) → slice_get fields k ≡ Some f
      → values_length (drop k fields) (drop k (table_values layout fields built))
      ≡ value_length f.form (field_value numbers built (told_in layout k) f)
      + values_length (drop (k + 1) fields) (drop (k + 1) (table_values layout fields built))
  size-at k f is =
      values_length-step (drop k fields) (drop k (table_values layout fields built)) f
      (field_value numbers built (told_in layout k) f) (drop (k + 1) fields)
      (drop (k + 1) (table_values layout fields built))
      (drop-at fields k f is, table-at fields layout built numbers t k f is)

  pub size-within : (k : ℕ) (f : Field) → slice_get fields k ≡ Some f
      → value_length f.form (field_value numbers built (told_in layout k) f)
      ≤ values_length fields (table_values layout fields built)
  size-within k f is =
      omega (arith, size-at k f is, rest-within k fields (table_values layout fields built))

  -- the frames and the names are few where the record is small
  frames-few : table_size layout fields built ≤ 4294967295 → length built.heads ≤ 4294967295
  frames-few small =
      let h = heads-told fields layout t.fit in
      let size : value_length h.0.form (field_value numbers built (told_in layout layout.heads) h.0)
      ≡ length built.heads * 8 =
      ap (λ form. value_length form (field_value numbers built (told_in layout layout.heads) h.0)) h.2
      ∙ ap (λ u. value_length (Number Eight) (field_value numbers built u h.0)) h.3 in
      omega (arith, size, size-within layout.heads h.0 h.1)

  names-few : table_size layout fields built ≤ 4294967295 → (kind : Kind) (kf : KindFields)
      → fields_of layout kind ≡ Some kf → length (listed_of built kind) ≤ 4294967295
  names-few small kind kf e =
      let names = map name_in (listed_of built kind) in
      let h = names-told fields layout t.fit kind kf e in
      let size : value_length h.0.form (field_value numbers built (told_in layout kf.names) h.0)
      ≡ sum_by text_length names =
      ap (λ form. value_length form (field_value numbers built (told_in layout kf.names) h.0)) h.2
      ∙ ap (λ u. value_length Text (field_value numbers built u h.0)) h.3 in
      omega (
        arith,
        size,
        size-within kf.names h.0 h.1,
        texts-within names,
        length-map (listed_of built kind) name_in,
      )

  shape-few : table_size layout fields built ≤ 4294967295 → (k : ℕ) (f : Field) (u : Tells)
      → Shape layout k f u
      → told_number built u ≤ 4294967295
  shape-few small k f told.Nothing s = omega arith
  shape-few small k f told.Frames s = frames-few small
  shape-few small k f told.Heads s = omega arith
  shape-few small k f (told.Count kind) (kf, e, s) = names-few small kind kf e
  shape-few small k f (told.Names kind) s = omega arith
  shape-few small k f (told.Positions kind by_name) s = omega arith

  pub few-at : table_size layout fields built ≤ 4294967295 → (k : ℕ) (f : Field) → slice_get fields k ≡ Some f
      → told_number built (told_in layout k) ≤ 4294967295
  few-at small k f is = elim (shape-at fields layout t.fit k f is) [
    | inl none ↦ rw none (omega arith)
    | inr s ↦ shape-few small k f (told_in layout k) s
  ]

  -- so are the items of a field
  pub room-at : table_size layout fields built ≤ 4294967295 → (k : ℕ) (f : Field)
      → slice_get fields k ≡ Some f
      → item_count numbers f.counts ≤ 4294967295
  room-at small k f is =
      omega (
        arith,
        size-within k f is,
        items-within numbers built (told_in layout k) f (suits-at k f is),
      )
