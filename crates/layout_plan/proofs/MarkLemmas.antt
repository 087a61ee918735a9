-- The marks of fields, and the numbers of those that are such.
use Rattle.std.proofs.Common.{◌≡◌, ℕ, zero, suc, ◌+◌, ◌-◌, ◌*◌, ◌<◌, ◌≤◌, ◌⊎◌, Bool, true, false, cond, is_none, List}
use Rattle.std.proofs.Common.{[], ◌∷◌, ◌++◌, length, take, drop, get_or, count_by, Option, Some, None, refl, sym, ap}
use Rattle.std.proofs.Common.{◌∙◌, subst, arith, append_assoc, inl, inr}
use Rattle.std.specs.Prelude.{slice_get}
use Rattle.std.specs.Option.{option_map_or}
use Rattle.std.proofs.lemmas.List.{at_drop_more, take_all, length-take-le}
use Rattle.std.proofs.lemmas.List.Sums.{sum_by-cons, count_by-le-length}
use Rattle.std.proofs.lemmas.Option.{same_Some}
use Rattle.scalar_types.specs.declared.Width.TheVariants.{One, Two, Four, Eight}
use Rattle.layout_plan.specs.declared.fields.Form.{Form}
use Rattle.layout_plan.specs.declared.fields.Form.TheVariants.{Number, Pair, Text, Link}
use Rattle.layout_plan.specs.declared.fields.Count.{Count}
use Rattle.layout_plan.specs.declared.fields.Field.{Field}
use Rattle.layout_plan.specs.declared.marks.Mark.{Mark}
use Rattle.layout_plan.specs.Marks.{fixed_width, is_varied, numbers_where, past, marks_from, mark_from, first_mark}
use Rattle.layout_plan.specs.Marks.{mark_of}
use Rattle.layout_plan.proofs.FixedLemmas.{fixed-list}

-- the width of a field, where it is fixed
abbrev pub width_of : Field → Option ℕ
width_of f = fixed_width f.form f.counts

mark_from-more : (m : Mark) (fields : List Field) (i : ℕ) (f : Field) → slice_get fields i ≡ Some f
    → mark_from m fields (suc i) ≡ past (mark_from m fields i) (width_of f)
mark_from-more m [] i f is = cc
mark_from-more m (g ∷ fs) zero f is = ap (λ h. past m (width_of h)) (same_Some g f is)
mark_from-more m (g ∷ fs) (suc i) f is = mark_from-more (past m (width_of g)) fs i f is

-- one field on
pub mark_of-more : (fields : List Field) (i : ℕ) (f : Field) → slice_get fields i ≡ Some f
    → mark_of fields (i + 1) ≡ past (mark_of fields i) (width_of f)
mark_of-more fields i f is =
    let more : i + 1 ≡ suc i = omega arith in
    ap (mark_of fields) more ∙ mark_from-more first_mark fields i f is

-- a later mark: after more varied fields, or after as many and no fewer bytes
abbrev pub IsLater : Mark → Mark → Type 0
IsLater m n = (m.varied < n.varied) ⊎ ((m.varied ≡ n.varied) × (m.skip ≤ n.skip))

IsLater-trans : (k m n : Mark) → IsLater k m → IsLater m n → IsLater k n
IsLater-trans k m n (inl a) (inl b) = inl (omega arith)
IsLater-trans k m n (inl a) (inr b) = inl (omega (arith, b.0))
IsLater-trans k m n (inr a) (inl b) = inl (omega (arith, a.0))
IsLater-trans k m n (inr a) (inr b) = inr (a.0 ∙ b.0, omega (arith, a.1, b.1))

past-later : (m : Mark) (width : Option ℕ) → IsLater m (past m width)
past-later m (Some width) = inr (refl, omega arith)
past-later m None = inl (omega arith)

mark_from-later : (m : Mark) (fields : List Field) (i : ℕ) → IsLater (mark_from m fields i) (mark_from m fields (suc i))
mark_from-later m [] zero = inr (refl, omega arith)
mark_from-later m [] (suc i) = inr (refl, omega arith)
mark_from-later m (f ∷ fs) zero = past-later m (width_of f)
mark_from-later m (f ∷ fs) (suc i) = mark_from-later (past m (width_of f)) fs i

mark_of-after : (fields : List Field) (n i k : ℕ) → k ≡ n + i → IsLater (mark_of fields i) (mark_of fields k)
mark_of-after fields zero i k is =
    let same : i ≡ k = omega arith in
    subst (λ k. IsLater (mark_of fields i) (mark_of fields k)) same (inr (refl, omega arith))
mark_of-after fields (suc n) i k is =
    let more : suc (n + i) ≡ k = omega arith in
    subst (λ k. IsLater (mark_of fields i) (mark_of fields k)) more
    (IsLater-trans (mark_of fields i) (mark_of fields (n + i)) (mark_of fields (suc (n + i)))
    (mark_of-after fields n i (n + i) refl) (mark_from-later first_mark fields (n + i)))

pub mark_of-later : (fields : List Field) (i k : ℕ) → i ≤ k → IsLater (mark_of fields i) (mark_of fields k)
mark_of-later fields i k le = mark_of-after fields (k - i) i k (omega arith)

pub IsLater-varied : (m n : Mark) → IsLater m n → m.varied ≤ n.varied
IsLater-varied m n (inl a) = omega arith
IsLater-varied m n (inr a) = omega (arith, a.0)

pub IsLater-skip : (m n : Mark) → IsLater m n → m.varied ≡ n.varied → m.skip ≤ n.skip
IsLater-skip m n (inl a) same = absurd (omega arith)
IsLater-skip m n (inr a) same = a.1

-- the kept marks
pub marks_from-at : (m : Mark) (fields : List Field) (k : ℕ) (d : Mark) → k ≤ length fields
    → get_or (marks_from m fields) k d ≡ mark_from m fields k
marks_from-at m [] zero d le = refl
marks_from-at m [] (suc k) d le = absurd (omega arith)
marks_from-at m (f ∷ fs) zero d le = refl
marks_from-at m (f ∷ fs) (suc k) d le = marks_from-at (past m (width_of f)) fs k d (omega arith)

pub length-marks_from : (m : Mark) (fields : List Field) → length (marks_from m fields) ≡ length fields + 1
length-marks_from m [] = refl
length-marks_from m (f ∷ fs) = omega (arith, length-marks_from (past m (width_of f)) fs)

-- as many varied fields stand before a mark as it counts
past-varied : (m : Mark) (width : Option ℕ) → (past m width).varied ≡ m.varied + cond (is_none width) 1 0
past-varied m (Some width) = omega arith
past-varied m None = refl

mark_from-varied : (m : Mark) (fields : List Field) (k : ℕ)
    → (mark_from m fields k).varied ≡ m.varied + count_by is_varied (take k fields)
mark_from-varied m fields zero = omega arith
mark_from-varied m [] (suc k) = omega arith
mark_from-varied m (f ∷ fs) (suc k) =
    omega (
      arith,
      mark_from-varied (past m (width_of f)) fs k,
      past-varied m (width_of f),
      sum_by-cons (λ g. cond (is_varied g) 1 0) f (take k fs),
    )

pub mark_of-varied : (fields : List Field) (k : ℕ) → (mark_of fields k).varied ≡ count_by is_varied (take k fields)
mark_of-varied fields k = mark_from-varied first_mark fields k ∙ omega arith

-- no more varied fields than fields
pub mark_of-few : (fields : List Field) (k : ℕ) → k ≤ length fields → (mark_of fields k).varied ≤ k
mark_of-few fields k le =
    omega (arith, mark_of-varied fields k, count_by-le-length is_varied (take k fields), length-take-le k fields le)

-- the numbers of the fields that are such
pub length-numbers_where : (such : Field → Bool) (i : ℕ) (fields : List Field)
    → length (numbers_where such i fields) ≡ count_by such fields
length-numbers_where such i [] = refl
length-numbers_where such i (f ∷ fs) =
    by (such f) (length-numbers_where such (i + 1) fs) ∙ sym (sum_by-cons (λ g. cond (such g) 1 0) f fs)
  where
    by : (b : Bool) → length (numbers_where such (i + 1) fs) ≡ count_by such fs
        → length (cond b (i ∷ numbers_where such (i + 1) fs) (numbers_where such (i + 1) fs)) ≡ cond b 1 0
        + count_by such fs
    by true others = omega arith
    by false others = omega arith

-- all varied fields stand before the end
pub mark_of-all : (fields : List Field)
    → (mark_of fields (length fields)).varied ≡ length (numbers_where is_varied 0 fields)
mark_of-all fields =
    mark_of-varied fields (length fields)
    ∙ ap (count_by is_varied) (take_all (length fields) fields (omega arith))
    ∙ sym (length-numbers_where is_varied 0 fields)

-- the j-th number is that of the field after j others that are such
pub record IsNumbered (such : Field → Bool) (fields : List Field) (j i : ℕ) : Type 0 where
  pub field : Field
  pub is : slice_get fields i ≡ Some field
  pub passes : such field ≡ true
  pub before : count_by such (take i fields) ≡ j

-- where the numbers of some fields have number j: so many fields on
abbrev AreNumbered : (Field → Bool) → ℕ → List Field → List ℕ → ℕ → ℕ → Type 0
AreNumbered such first fields numbers d j =
    (i : ℕ) × (get_or numbers j d ≡ first + i) × IsNumbered such fields j i

numbers_where-from : (such : Field → Bool) (first : ℕ) (fields : List Field) (d j : ℕ)
    → j < length (numbers_where such first fields) → AreNumbered such first fields (numbers_where such first fields) d j
numbers_where-from such first [] d j lt = absurd (omega arith)
numbers_where-from such first (f ∷ fs) d j lt = by (such f) refl j (numbers_where-from such (first + 1) fs d) lt
  where
    numbers : Bool → List ℕ
    numbers b = cond b (first ∷ numbers_where such (first + 1) fs) (numbers_where such (first + 1) fs)

    later : (b : Bool) → such f ≡ b → (j k : ℕ) → k ≡ cond b 1 0 + j → (i : ℕ) → IsNumbered such fs j i
        → IsNumbered such (f ∷ fs) k (suc i)
    later b passes j k more i n = record {
      field = n.field;
      is = n.is;
      passes = n.passes;
      before = sum_by-cons (λ g. cond (such g) 1 0) f (take i fs) ∙ (λ t. cond (passes t) 1 0 + n.before t) ∙ sym more;
    }

    by : (b : Bool) → such f ≡ b → (j : ℕ)
        → ((j : ℕ) → j < length (numbers_where such (first + 1) fs)
        → AreNumbered such (first + 1) fs (numbers_where such (first + 1) fs) d j) → j < length (numbers b)
        → AreNumbered such first (f ∷ fs) (numbers b) d j
    by true passes zero others lt =
        (0, omega arith, record { field = f; is = refl; passes = passes; before = refl })
    by true passes (suc j) others lt =
        let n = others j (omega arith) in
        (suc n.0, omega (arith, n.1), later true passes j (suc j) (omega arith) n.0 n.2)
    by false passes j others lt =
        let n = others j lt in
        (suc n.0, omega (arith, n.1), later false passes j j (omega arith) n.0 n.2)

pub numbers_where-at : (such : Field → Bool) (fields : List Field) (j i d : ℕ) → j < count_by such fields
    → i ≡ get_or (numbers_where such 0 fields) j d → IsNumbered such fields j i
numbers_where-at such fields j i d lt is =
    let n = numbers_where-from such 0 fields d j (omega (arith, length-numbers_where such 0 fields)) in
    subst (IsNumbered such fields j) (omega (arith, n.1)) n.2

-- the marks as far as they are made: with those of the other fields they are all
pub record AreMarksSoFar (fields : List Field) (i : ℕ) (marks : List Mark) (mark : Mark) : Type 0 where
  pub marks_are : marks ++ marks_from mark (drop i fields) ≡ marks_from first_mark fields
  pub few : mark.varied ≤ i
  pub small : mark.skip ≤ 4096 * i

-- the same of the numbers of the fields that are such
pub record AreNumbersSoFar (such : Field → Bool) (fields : List Field) (i : ℕ) (numbers : List ℕ) : Type 0 where
  pub numbers_are : numbers ++ numbers_where such i (drop i fields) ≡ numbers_where such 0 fields

noted : (such : Field → Bool) (i : ℕ) (f : Field) (fs : List Field) (numbers : List ℕ)
    → (numbers ++ cond (such f) (i ∷ []) []) ++ numbers_where such (i + 1) fs ≡ numbers ++ numbers_where such i (f ∷ fs)
noted such i f fs numbers = append_assoc numbers (cond (such f) (i ∷ []) []) (numbers_where such (i + 1) fs)
    ∙ ap (λ ns. numbers ++ ns) (by (such f))
  where
    by : (b : Bool) → cond b (i ∷ []) [] ++ numbers_where such (i + 1) fs
        ≡ cond b (i ∷ numbers_where such (i + 1) fs) (numbers_where such (i + 1) fs)
    by true = refl
    by false = refl

-- a field of fixed width has 4,096 bytes at most
pub fixed_width-small : (form : Form) (counts : List Count)
    → option_map_or (λ width. width) (fixed_width form counts) 0 ≤ 4096
fixed_width-small (Number One) [] = omega arith
fixed_width-small (Number Two) [] = omega arith
fixed_width-small (Number Four) [] = omega arith
fixed_width-small (Number Eight) [] = omega arith
fixed_width-small (Pair One) [] = omega arith
fixed_width-small (Pair Two) [] = omega arith
fixed_width-small (Pair Four) [] = omega arith
fixed_width-small (Pair Eight) [] = omega arith
fixed_width-small Text [] = omega arith
fixed_width-small Link [] = omega arith
fixed_width-small form (c ∷ cs) = by (fixed_width form (c ∷ cs)) refl
  where
    by : (o : Option ℕ) → fixed_width form (c ∷ cs) ≡ o → option_map_or (λ width. width) o 0 ≤ 4096
    by None is = omega arith
    by (Some width) is = let s = fixed-list form c cs width is in omega (arith, s.same, s.few)

past-small : (m : Mark) (width : Option ℕ) → option_map_or (λ width. width) width 0 ≤ 4096
    → (past m width).skip ≤ m.skip + 4096
past-small m (Some width) le = omega arith
past-small m None le = omega arith

-- what is left begins with the next field
pub field-from : (fields : List Field) (i : ℕ) (f : Field) → i < length fields → f ≡ get_or fields i f
    → drop i fields ≡ f ∷ drop (i + 1) fields
field-from fields i f lt is =
    at_drop_more (λ fs. fs) fields i f lt ∙ ap (λ g. g ∷ drop (i + 1) fields) (sym is)

-- one more field
pub AreMarksSoFar-more : (fields : List Field) (i : ℕ) (marks : List Mark) (mark : Mark) (f : Field)
    → AreMarksSoFar fields i marks mark → i < length fields → f ≡ get_or fields i f
    → AreMarksSoFar fields (i + 1) (marks ++ mark ∷ []) (past mark (width_of f))
AreMarksSoFar-more fields i marks mark f before lt is = record {
  marks_are = append_assoc marks (mark ∷ []) (marks_from (past mark (width_of f)) (drop (i + 1) fields))
      ∙ ap (λ fs. marks ++ marks_from mark fs) (sym (field-from fields i f lt is)) ∙ before.marks_are;
  few = omega (arith, before.few, past-varied mark (width_of f), below (is_none (width_of f)));
  small = omega (arith, before.small, past-small mark (width_of f) (fixed_width-small f.form f.counts));
}
  where
    below : (b : Bool) → cond b 1 0 ≤ 1
    below true = omega arith
    below false = omega arith

pub AreNumbersSoFar-more : (such : Field → Bool) (fields : List Field) (i : ℕ) (numbers : List ℕ) (f : Field)
    → AreNumbersSoFar such fields i numbers → i < length fields → f ≡ get_or fields i f
    → AreNumbersSoFar such fields (i + 1) (numbers ++ cond (such f) (i ∷ []) [])
AreNumbersSoFar-more such fields i numbers f before lt is = record {
  numbers_are = noted such i f (drop (i + 1) fields) numbers
      ∙ ap (λ fs. numbers ++ numbers_where such i fs) (sym (field-from fields i f lt is)) ∙ before.numbers_are;
}

pub numbers_where-varied : (such : Field → Bool) (i : ℕ) (f : Field) (fs : List Field) (b : Bool) → such f ≡ b
    → numbers_where such i (f ∷ fs) ≡ cond b (i ∷ numbers_where such (i + 1) fs) (numbers_where such (i + 1) fs)
numbers_where-varied such i f fs b is =
    ap (λ b. cond b (i ∷ numbers_where such (i + 1) fs) (numbers_where such (i + 1) fs)) is
