-- Items read one after another, and the items that are left.
use Rattle.std.proofs.Common.{◌≡◌, ℕ, zero, suc, ◌+◌, ◌-◌, ◌*◌, ◌<◌, ◌≤◌, List, [], ◌∷◌, length, take, drop, get_or}
use Rattle.std.proofs.Common.{Ok, Some, IsOk, refl, sym, ap, ◌∙◌, subst, arith}
use Rattle.std.specs.Prelude.{slice_get}
use Rattle.std.proofs.lemmas.List.{length-append, take_at, drop_at, drop-drop}
use Rattle.std.proofs.Math.Nat.{zero-mul, suc-mul}
use Rattle.scalar_types.specs.declared.Order.{Order}
use Rattle.scalar_types.specs.declared.Width.{Width}
use Rattle.scalar_types.specs.declared.Width.TheVariants.{Eight}
use Rattle.scalar_types.specs.Number.{number, size_of}
use Rattle.layout_plan.specs.declared.faults.BodyReason.{BodyReason}
use Rattle.layout_plan.specs.Reading.{Found, found_map, number_in, text_in, items_in}
use Rattle.contents_table.specs.Views.{AreNumbers, AreTexts, numbers_by, texts_by}
use Rattle.layout_plan.proofs.ExactLemmas.{Ok-same, and_then-Ok, found_map-Ok, number_in-exact}
use Rattle.layout_plan.proofs.SpelledLemmas.{items_in-suc, items_in-zero}
use Rattle.layout_plan.proofs.ReadingLemmas.{slice_get-drop, element-at}

-- the first of some items, and the others
pub record AreMore {X : Type 0} (item : List ℕ → Found X) (n : ℕ) (bytes : List ℕ) (xs : List X)
    (rest : List ℕ) : Type 0 where
  pub first : X
  pub others : List X
  pub after : List ℕ
  pub reads : item bytes ≡ Ok (first, after)
  pub follow : items_in item n after ≡ Ok (others, rest)
  pub are : xs ≡ first ∷ others

pub items-more : {X : Type 0} (item : List ℕ → Found X) (n : ℕ) (bytes : List ℕ) (xs : List X) (rest : List ℕ)
    → items_in item (suc n) bytes ≡ Ok (xs, rest) → AreMore item n bytes xs rest
items-more {X} item n bytes xs rest e =
    by (and_then-Ok (item bytes) (λ (x : X × List ℕ). found_map (λ ys. x.0 ∷ ys) (items_in item n x.1)) (xs, rest)
    (sym (items_in-suc item n (suc n) bytes refl) ∙ e))
  where
    on : (x : X × List ℕ) → item bytes ≡ Ok x → (y : List X × List ℕ) × (items_in item n x.1 ≡ Ok y)
        × ◌≡◌ {A = List X × List ℕ} (x.0 ∷ y.0, y.1) (xs, rest) → AreMore item n bytes xs rest
    on x reads (y, follow, same) = record {
      first = x.0;
      others = y.0;
      after = x.1;
      reads = reads;
      follow = follow ∙ ap (λ (z : List X × List ℕ). Ok (y.0, z.1)) same;
      are = sym (ap (λ (z : List X × List ℕ). z.0) same);
    }

    by : (x : X × List ℕ) × (item bytes ≡ Ok x) × (found_map (λ ys. x.0 ∷ ys) (items_in item n x.1) ≡ Ok (xs, rest))
        → AreMore item n bytes xs rest
    by (x, reads, more) = on x reads (found_map-Ok (λ ys. x.0 ∷ ys) (items_in item n x.1) (xs, rest) more)

-- how many items are read
pub items-length : {X : Type 0} (item : List ℕ → Found X) (n : ℕ) (bytes : List ℕ) (xs : List X) (rest : List ℕ)
    → items_in item n bytes ≡ Ok (xs, rest) → length xs ≡ n
items-length {X} item zero bytes xs rest e =
    sym (ap (λ (z : List X × List ℕ). length z.0)
    (Ok-same {E = BodyReason} ([], bytes) (xs, rest) (sym (items_in-zero item 0 bytes refl) ∙ e)))
items-length item (suc n) bytes xs rest e =
    let m = items-more item n bytes xs rest e in
    ap length m.are ∙ ap suc (items-length item n m.after m.others rest m.follow)

-- of n items, those from number k on are left, and nothing after them
pub record AreLeft {X : Type 0} (item : List ℕ → Found X) (n : ℕ) (xs : List X) (k : ℕ) (rest : List ℕ) : Type 0 where
  pub count : length xs ≡ n
  pub left : items_in item (n - k) rest ≡ Ok (drop k xs, [])

pub AreLeft-all : {X : Type 0} (item : List ℕ → Found X) (n : ℕ) (xs ys : List X) (bytes : List ℕ) → xs ≡ ys
    → items_in item n bytes ≡ Ok (xs, []) → AreLeft item n ys 0 bytes
AreLeft-all item n xs ys bytes same e = record {
  count = sym (ap length same) ∙ items-length item n bytes xs [] e;
  left = ap (λ k. items_in item k bytes) (omega arith) ∙ e ∙ ap (λ zs. Ok (zs, [])) same;
}

-- item k stands at the front of what is left
pub record IsNext {X : Type 0} (item : List ℕ → Found X) (n : ℕ) (xs : List X) (k : ℕ) (rest : List ℕ) : Type 0 where
  pub next : X
  pub after : List ℕ
  pub reads : item rest ≡ Ok (next, after)
  pub is : slice_get xs k ≡ Some next
  pub left : AreLeft item n xs (k + 1) after

pub AreLeft-next : {X : Type 0} (item : List ℕ → Found X) (n : ℕ) (xs : List X) (k : ℕ) (rest : List ℕ) → k < n
    → AreLeft item n xs k rest → IsNext item n xs k rest
AreLeft-next {X} item n xs k rest lt left =
    let m = items-more item (n - (k + 1)) rest (drop k xs) []
    (ap (λ n. items_in item n rest) (omega arith) ∙ left.left) in
    let is = (slice_get-drop xs k m.first m.others m.are).0 in
    let same : m.first ∷ m.others ≡ m.first ∷ drop (k + 1) xs = sym m.are ∙ (element-at xs k m.first is).from in
    let others : m.others ≡ drop (k + 1) xs = cc in
    record {
      next = m.first;
      after = m.after;
      reads = m.reads;
      is = is;
      left = record { count = left.count; left = m.follow ∙ ap (λ ys. Ok (ys, [])) others };
    }

pub AreLeft-reads : {X : Type 0} (item : List ℕ → Found X) (n : ℕ) (xs : List X) (k : ℕ) (rest : List ℕ) → k < n
    → AreLeft item n xs k rest → IsOk (item rest)
AreLeft-reads {X} item n xs k rest lt left =
    let next = AreLeft-next item n xs k rest lt left in
    subst (λ (r : Found X). IsOk r) (sym next.reads) refl

-- the item that was read is the next
pub AreLeft-after : {X : Type 0} (item : List ℕ → Found X) (n : ℕ) (xs : List X) (k : ℕ) (rest : List ℕ) (x : X)
    (after : List ℕ) → k < n → AreLeft item n xs k rest → item rest ≡ Ok (x, after) → (slice_get xs k ≡ Some x)
    × AreLeft item n xs (k + 1) after
AreLeft-after {X} item n xs k rest x after lt left e =
    let next = AreLeft-next item n xs k rest lt left in
    let same = Ok-same {E = BodyReason} (next.next, next.after) (x, after) (sym next.reads ∙ e) in (
      next.is ∙ ap (λ (z : X × List ℕ). Some z.0) same,
      subst (AreLeft item n xs (k + 1)) (ap (λ (z : X × List ℕ). z.1) same) next.left,
    )

-- a number among others of one width
pub record IsNumberAt (order : Order) (width : Width) (bytes : List ℕ) (k n : ℕ) : Type 0 where
  pub within : k * size_of width + size_of width ≤ length bytes
  pub is : n ≡ number order (take (size_of width) (drop (k * size_of width) bytes))

pub number-at : (order : Order) (width : Width) (n : ℕ) (bytes : List ℕ) (xs : List ℕ) (rest : List ℕ) (k : ℕ)
    → items_in (number_in order width) n bytes ≡ Ok (xs, rest) → k < n
    → IsNumberAt order width bytes k (get_or xs k 0)
number-at order width zero bytes xs rest k e lt = absurd (omega arith)
number-at order width (suc n) bytes xs rest zero e lt =
    let m = items-more (number_in order width) n bytes xs rest e in
    let f = (number_in-exact order width).found bytes (m.first, m.after) m.reads in
    record {
      within = omega (arith, ap length f.1 ∙ length-append f.0 m.after, f.2.size, zero-mul (size_of width));
      is = ap (λ ys. get_or ys 0 0) m.are ∙ sym f.2.value ∙ ap (number order)
          (sym (take_at f.0 m.after (size_of width) f.2.size)
          ∙ ap (take (size_of width)) (sym f.1 ∙ ap (λ j. drop j bytes) (sym (zero-mul (size_of width)))));
    }
number-at order width (suc n) bytes xs rest (suc k) e lt =
    let m = items-more (number_in order width) n bytes xs rest e in
    let f = (number_in-exact order width).found bytes (m.first, m.after) m.reads in
    let at = number-at order width n m.after m.others rest k m.follow (omega arith) in
    let size = size_of width in
    let row : suc k * size ≡ size + k * size = omega (arith, suc-mul k size) in
    let later : drop (k * size) m.after ≡ drop (suc k * size) bytes =
    ap (drop (k * size)) (sym (drop_at f.0 m.after size f.2.size) ∙ ap (drop size) (sym f.1))
    ∙ drop-drop (k * size) size bytes ∙ ap (λ j. drop j bytes) (sym row) in
    record {
      within = omega (arith, ap length f.1 ∙ length-append f.0 m.after, f.2.size, row, at.within);
      is = ap (λ ys. get_or ys (suc k) 0) m.are ∙ at.is ∙ ap (λ ys. number order (take size ys)) later;
    }

-- how many texts are listed
pub listed-length : (order : Order) (n : ℕ) (bytes : List ℕ) → AreTexts order n bytes
    → length (texts_by order n bytes) ≡ n
listed-length order n bytes are = items-length (text_in order) n bytes (texts_by order n bytes) [] are

pub listed_number-at : (order : Order) (n : ℕ) (bytes : List ℕ) (k : ℕ) → AreNumbers order n bytes → k < n
    → IsNumberAt order Eight bytes k (get_or (numbers_by order n bytes) k 0)
listed_number-at order n bytes k are lt = number-at order Eight n bytes (numbers_by order n bytes) [] k are lt
