-- Fields that tell nothing are spelled by zeros, or by texts of which each is empty.
use Rattle.std.proofs.Common.{◌≡◌, ◌≢◌, ℕ, zero, suc, ◌+◌, ◌*◌, List, [], ◌∷◌, ◌++◌, replicate, Result, Ok}
use Rattle.std.proofs.Common.{Err, OnOk, refl, sym, ap, ◌∙◌, subst, arith, append-nil}
use Rattle.std.proofs.Math.Nat.{suc-mul, zero-mul}
use Rattle.std.proofs.lemmas.List.{length-replicate, replicate-append-replicate}
use Rattle.scalar_types.specs.declared.Order.TheVariants.{Little}
use Rattle.scalar_types.specs.declared.Width.{Width}
use Rattle.scalar_types.specs.declared.Width.TheVariants.{One, Two, Four, Eight}
use Rattle.scalar_types.specs.Number.{size_of}
use Rattle.record_values.specs.Spelling.{IsNumber, IsPair, IsLink, IsClosedText, AreItems}
use Rattle.layout_plan.specs.declared.fields.Form.{Form}
use Rattle.layout_plan.specs.declared.fields.Form.TheVariants.{Number, Pair, Text, Link}
use Rattle.layout_plan.specs.declared.fields.Count.{Count}
use Rattle.layout_plan.specs.Appends.{Appends}
use Rattle.layout_plan.specs.Body.{item_count, AreCounted, IsSingleBy, IsListedBy, IsFieldBy}
use Rattle.layout_plan.proofs.AppendLemmas.{Appends-as}
use Rattle.frame_content.specs.Labels.{null_link}
use Rattle.contents_table.specs.Told.{blank_single, blank_listed, blank_by}
use Rattle.contents_table.specs.Tells.{item_length}

abbrev zeros : ℕ → List ℕ
zeros n = replicate n 0

-- zeros one after another
zeros-more : (n size : ℕ) → zeros (suc n * size) ≡ zeros size ++ zeros (n * size)
zeros-more n size =
    let all : suc n * size ≡ size + n * size = omega (arith, suc-mul n size) in
    ap zeros all ∙ sym (replicate-append-replicate size (n * size) 0)

-- items of which each is spelled by zeros
zero-items : {X : Type 0} (R : X → List ℕ → Type 0) (x : X) (size : ℕ) → R x (zeros size) → (n : ℕ)
    → AreItems R (replicate n x) (zeros (n * size))
zero-items R x size r zero = ap zeros (zero-mul size)
zero-items R x size r (suc n) =
    (zeros size, zeros (n * size), zeros-more n size, r, zero-items R x size r n)

zero-counted : {X : Type 0} (R : X → List ℕ → Type 0) (x : X) (size : ℕ) → R x (zeros size) → (n : ℕ)
    → AreCounted R n (replicate n x) (zeros (n * size))
zero-counted R x size r n = record { count = length-replicate n x; items = zero-items R x size r n }

zero-number : (width : Width) → IsNumber Little width 0 (zeros (size_of width))
zero-number One = record { size = refl; value = refl }
zero-number Two = record { size = refl; value = refl }
zero-number Four = record { size = refl; value = refl }
zero-number Eight = record { size = refl; value = refl }

zero-pair : (width : Width) → IsPair Little width (0, 0) (zeros (2 * size_of width))
zero-pair One = record {
  front = zeros 1;
  back = zeros 1;
  split = refl;
  first = zero-number One;
  second = zero-number One;
}
zero-pair Two = record {
  front = zeros 2;
  back = zeros 2;
  split = refl;
  first = zero-number Two;
  second = zero-number Two;
}
zero-pair Four = record {
  front = zeros 4;
  back = zeros 4;
  split = refl;
  first = zero-number Four;
  second = zero-number Four;
}
zero-pair Eight = record {
  front = zeros 8;
  back = zeros 8;
  split = refl;
  first = zero-number Eight;
  second = zero-number Eight;
}

zero-link : IsLink Little null_link (zeros 6)
zero-link = record {
  front = zeros 2;
  back = zeros 4;
  split = refl;
  class = zero-number Two;
  instance = zero-number Four;
}

single-blank : (form : Form) → form ≢ Text
    → IsSingleBy (IsClosedText Little) Little form (blank_single form) (zeros (item_length form))
single-blank (Number width) plain = zero-number width
single-blank (Pair width) plain = zero-pair width
single-blank Text plain = absurd (plain refl)
single-blank Link plain = zero-link

listed-blank : (form : Form) (n : ℕ) → form ≢ Text
    → IsListedBy (IsClosedText Little) Little form n (blank_listed form n) (zeros (n * item_length form))
listed-blank (Number One) n plain = zero-counted (IsNumber Little One) 0 1 (zero-number One) n
listed-blank (Number Two) n plain = zero-counted (IsNumber Little Two) 0 2 (zero-number Two) n
listed-blank (Number Four) n plain = zero-counted (IsNumber Little Four) 0 4 (zero-number Four) n
listed-blank (Number Eight) n plain = zero-counted (IsNumber Little Eight) 0 8 (zero-number Eight) n
listed-blank (Pair width) n plain = zero-counted (IsPair Little width) (0, 0) (2 * size_of width)
    (zero-pair width) n
listed-blank Text n plain = absurd (plain refl)
listed-blank Link n plain = zero-counted (IsLink Little) null_link 6 zero-link n

zeros-blank : (numbers : List ℕ) (form : Form) (counts : List Count) → form ≢ Text
    → IsFieldBy (IsClosedText Little) Little numbers form counts (blank_by numbers form counts)
    (zeros (item_count numbers counts * item_length form))
zeros-blank numbers form [] plain =
    let one : item_length form ≡ 1 * item_length form = omega arith in
    subst (λ n. IsSingleBy (IsClosedText Little) Little form (blank_single form) (zeros n)) one
    (single-blank form plain)
zeros-blank numbers form (c ∷ cs) plain = listed-blank form (item_count numbers (c ∷ cs)) plain

texts-blank : (numbers : List ℕ) (counts : List Count) (bytes : List ℕ)
    → AreItems (IsClosedText Little) (replicate (item_count numbers counts) []) bytes
    → IsFieldBy (IsClosedText Little) Little numbers Text counts (blank_by numbers Text counts) bytes
texts-blank numbers [] bytes (front, rest, split, text, none) =
    let whole : front ≡ bytes = sym (split ∙ ap (λ r. front ++ r) none ∙ append-nil front) in
    subst (IsClosedText Little []) whole text
texts-blank numbers (c ∷ cs) bytes items =
    record { count = length-replicate (item_count numbers (c ∷ cs)) []; items = items }

-- a field of zeros is appended
pub appends_zeros : {A E : Type 0} (r : Result A E) (numbers : List ℕ) (form : Form) (counts : List Count)
    (n : ℕ) (old new : List ℕ) → form ≢ Text → n ≡ item_count numbers counts * item_length form
    → Appends (λ bytes. OnOk r (bytes ≡ replicate n 0)) old new
    → Appends
    (λ bytes. OnOk r (IsFieldBy (IsClosedText Little) Little numbers form counts
    (blank_by numbers form counts) bytes))
    old new
appends_zeros (Ok x) numbers form counts n old new plain is part =
    Appends-as (λ bytes. bytes ≡ replicate n 0)
    (IsFieldBy (IsClosedText Little) Little numbers form counts (blank_by numbers form counts)) old new part
    (λ bytes zeros. rw (zeros, is) (zeros-blank numbers form counts plain))
appends_zeros (Err e) numbers form counts n old new plain is part = part

-- a field of empty texts is appended
pub appends_texts : {A E : Type 0} (r : Result A E) (numbers : List ℕ) (form : Form) (counts : List Count)
    (n : ℕ) (old new : List ℕ) → form ≡ Text → n ≡ item_count numbers counts
    → Appends (λ bytes. OnOk r (AreItems (IsClosedText Little) (replicate n []) bytes)) old new
    → Appends
    (λ bytes. OnOk r (IsFieldBy (IsClosedText Little) Little numbers form counts
    (blank_by numbers form counts) bytes))
    old new
appends_texts (Ok x) numbers form counts n old new text is part =
    Appends-as (AreItems (IsClosedText Little) (replicate n []))
    (IsFieldBy (IsClosedText Little) Little numbers form counts (blank_by numbers form counts)) old new part
    (λ bytes items. rw text (texts-blank numbers counts bytes (rw is at items)))
appends_texts (Err e) numbers form counts n old new text is part = part
