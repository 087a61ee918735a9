-- Bytes that spell again what other bytes spell.
use Rattle.std.proofs.Common.{◌≡◌, ℕ, ◌+◌, ◌-◌, ◌*◌, ◌/◌, ◌^◌, ◌<◌, ◌≤◌, true, false, suc, get_or, add-one, List, []}
use Rattle.std.proofs.Common.{◌∷◌, ◌++◌, length, take, drop, refl, sym, ap, ◌∙◌, subst, inl, inr, arith, append_assoc}
use Rattle.std.proofs.Common.{append-nil}
use Rattle.std.specs.Prelude.{if◌then◌else◌}
use Rattle.std.proofs.lemmas.List.{length-append, length-drop, length-take-le, drop_at, drop-drop, take_at, drop_all}
use Rattle.std.proofs.Math.Seq.{drop-cons, take-add}
use Rattle.scalar_types.specs.declared.Order.{Order}
use Rattle.scalar_types.specs.declared.Order.TheVariants.{Big, Little}
use Rattle.scalar_types.specs.declared.Width.{Width}
use Rattle.scalar_types.specs.declared.Width.TheVariants.{One, Two, Four, Eight}
use Rattle.scalar_types.specs.Number.{number, size_of, bytes_of}
use Rattle.scalar_types.proofs.NumberBytes.{number-from_bytes}
use Rattle.type_text.specs.declared.types.Link.{Link as StructLink}
use Rattle.record_values.specs.declared.values.Value.{Value}
use Rattle.record_values.specs.declared.values.Value.TheVariants as value
use Rattle.record_values.specs.Links.{links_of, linked_value}
use Rattle.record_values.specs.Spelling.{IsNumber, IsPair, IsText, IsClosedText, IsLink, AreItems}
use Rattle.layout_plan.specs.declared.fields.Form.{Form}
use Rattle.layout_plan.specs.declared.fields.Form.TheVariants.{Number, Pair, Text, Link}
use Rattle.layout_plan.specs.declared.fields.Count.{Count}
use Rattle.layout_plan.specs.declared.fields.Field.{Field}
use Rattle.layout_plan.specs.Body.{AreCounted, IsSingleBy, IsField, IsFieldBy}
use Rattle.layout_plan.specs.Respelled.{Respells, BeginsText, RespellsText, SpellsFew, RespellsForm, RespellsField}
use Rattle.layout_plan.specs.Respelled.{IsSumNumber}
use Rattle.layout_plan.proofs.LinkLemmas.{links-size, field-items}

-- ---- item after item

-- the items that the rest of the bytes spells are left: with their new bytes the new ones spell all
pub record AreLeft {X : Type 0} (R S : X → List ℕ → Type 0) (xs : List X) (rest new : List ℕ) : Type 0 where
  pub left : List X
  pub items : AreItems R left rest
  pub goes_on : (more : List ℕ) → AreItems S left more → AreItems S xs (new ++ more)

abbrev pub RespellsUpTo : {X : Type 0} → (X → List ℕ → Type 0) → (X → List ℕ → Type 0) → List ℕ → List ℕ
    → List ℕ → Type 0
RespellsUpTo {X} R S bytes rest new = (xs : List X) → AreItems R xs bytes → AreLeft R S xs rest new

pub respells-none : {X : Type 0} (R S : X → List ℕ → Type 0) (bytes : List ℕ) → RespellsUpTo R S bytes bytes []
respells-none R S bytes xs items = record { left = xs; items = items; goes_on = λ more m. m }

-- the new bytes spell the item at the front of the bytes, and these are after it
abbrev pub RespellsFirst : {X : Type 0} → (X → List ℕ → Type 0) → (X → List ℕ → Type 0) → List ℕ → List ℕ
    → List ℕ → Type 0
RespellsFirst {X} R S bytes after new =
    (x : X) (front rest : List ℕ) → bytes ≡ front ++ rest → R x front → (rest ≡ after) × S x new

left-more : {X : Type 0} (R S : X → List ℕ → Type 0) (xs left : List X) (rest after new one : List ℕ) → 0 < length rest
    → AreItems R left rest → ((more : List ℕ) → AreItems S left more → AreItems S xs (new ++ more))
    → RespellsFirst R S rest after one → AreLeft R S xs after (new ++ one)
left-more R S xs [] rest after new one lt items goes_on first = absurd (omega (arith, ap length items))
left-more R S xs (x ∷ left) rest after new one lt (front, others, split, r, items) goes_on first =
    let here = first x front others split r in
    record {
      left = left;
      items = subst (AreItems R left) here.0 items;
      goes_on = λ more m. subst (AreItems S xs) (sym (append_assoc new one more))
          (goes_on (one ++ more) (one, more, refl, here.1, m));
    }

pub respells-more : {X : Type 0} (R S : X → List ℕ → Type 0) (bytes rest after new one : List ℕ) → 0 < length rest
    → RespellsUpTo R S bytes rest new → RespellsFirst R S rest after one → RespellsUpTo R S bytes after (new ++ one)
respells-more R S bytes rest after new one lt before first xs items =
    let b = before xs items in
    left-more R S xs b.left rest after new one lt b.items b.goes_on first

left-all : {X : Type 0} (R S : X → List ℕ → Type 0) (xs left : List X) (rest new : List ℕ)
    → ((x : X) (front : List ℕ) → R x front → length rest < length front) → AreItems R left rest
    → ((more : List ℕ) → AreItems S left more → AreItems S xs (new ++ more)) → AreItems S xs new
left-all R S xs [] rest new short items goes_on = subst (AreItems S xs) (append-nil new) (goes_on [] refl)
left-all R S xs (x ∷ left) rest new short (front, others, split, r, items) goes_on =
    absurd (omega (arith, short x front r, ap length split ∙ length-append front others))

-- no item is left, since each has more bytes than are
pub respells-all : {X : Type 0} (R S : X → List ℕ → Type 0) (bytes rest new : List ℕ)
    → ((x : X) (front : List ℕ) → R x front → length rest < length front) → RespellsUpTo R S bytes rest new
    → Respells R S bytes new
respells-all R S bytes rest new short before xs items =
    let b = before xs items in
    left-all R S xs b.left rest new short b.items b.goes_on

-- the same of items that are known
abbrev pub SpellsUpTo : {X : Type 0} → (X → List ℕ → Type 0) → List X → ℕ → List ℕ → Type 0
SpellsUpTo S xs i new = (more : List ℕ) → AreItems S (drop i xs) more → AreItems S xs (new ++ more)

pub spells-more : {X : Type 0} (S : X → List ℕ → Type 0) (xs : List X) (i : ℕ) (d x : X) (new one : List ℕ)
    → i < length xs → x ≡ get_or xs i d → SpellsUpTo S xs i new → S x one → SpellsUpTo S xs (i + 1) (new ++ one)
spells-more S xs i d x new one lt is before s more m =
    let here : drop i xs ≡ x ∷ drop (i + 1) xs = drop-cons xs i d lt ∙ ap (λ y. y ∷ drop (suc i) xs) (sym is)
    ∙ ap (λ k. x ∷ drop k xs) (sym (add-one i)) in
    subst (AreItems S xs) (sym (append_assoc new one more))
    (before (one ++ more) (subst (λ xs. AreItems S xs (one ++ more)) (sym here) (one, more, refl, s, m)))

pub spells-all : {X : Type 0} (S : X → List ℕ → Type 0) (xs : List X) (i : ℕ) (new : List ℕ) → length xs ≤ i
    → SpellsUpTo S xs i new → AreItems S xs new
spells-all S xs i new le before =
    subst (AreItems S xs) (append-nil new) (before [] (subst (λ xs. AreItems S xs []) (sym (drop_all i xs le)) refl))

-- the first of the items that are left
first-left : {X : Type 0} (R : X → List ℕ → Type 0) (left : List X) (rest : List ℕ) → 0 < length rest
    → AreItems R left rest → (x : X) × (front after : List ℕ) × (rest ≡ front ++ after) × R x front
first-left R [] rest lt items = absurd (omega (arith, ap length items))
first-left R (x ∷ left) rest lt (front, after, split, r, items) = (x, front, after, split, r)

-- ---- numbers

-- bytes spell again what they spell
pub respells-same : {X : Type 0} (R : X → List ℕ → Type 0) (bytes new : List ℕ) → new ≡ bytes → Respells R R bytes new
respells-same R bytes new same xs items = subst (AreItems R xs) (sym same) items

one-order : (width : Width) (n : ℕ) (bytes : List ℕ) → size_of width ≡ 1 → IsNumber Big width n bytes
    → IsNumber Little width n bytes
one-order width n [] one s = absurd (omega (arith, s.size))
one-order width n (b ∷ []) one s = record { size = s.size; value = omega (arith, s.value) }
one-order width n (b ∷ c ∷ bs) one s = absurd (omega (arith, s.size))

items-one : (width : Width) → size_of width ≡ 1 → (xs bytes : List ℕ) → AreItems (IsNumber Big width) xs bytes
    → AreItems (IsNumber Little width) xs bytes
items-one width one [] bytes s = s
items-one width one (x ∷ xs) bytes (front, rest, split, here, others) =
    (front, rest, split, one-order width x front one here, items-one width one xs rest others)

-- numbers of one byte are spelled alike in both orders
pub respells-one : (width : Width) (bytes new : List ℕ) → size_of width ≡ 1 → new ≡ bytes
    → Respells (IsNumber Big width) (IsNumber Little width) bytes new
respells-one width bytes new one same xs items =
    items-one width one xs new (subst (AreItems (IsNumber Big width) xs) (sym same) items)

pub size-low : (width : Width) → 0 < size_of width
size-low One = omega arith
size-low Two = omega arith
size-low Four = omega arith
size-low Eight = omega arith

-- the bytes that are written of a number
pub number-written : (order : Order) (width : Width) (n size : ℕ) (bytes : List ℕ) → size ≡ size_of width
    → size ≤ length bytes → n < 256 ^ size_of width → take (size_of width) bytes ≡ bytes_of order width n
    → IsNumber order width n (take size bytes)
number-written order width n size bytes sized le fits are = record {
  size = length-take-le size bytes le ∙ sized;
  value = ap (λ k. number order (take k bytes)) sized
      ∙ number-from_bytes order width n (take (size_of width) bytes) fits are;
}

-- the number at the front
pub respells-number : (width : Width) (rest new : List ℕ) (n : ℕ) → n ≡ number Big (take (size_of width) rest)
    → IsNumber Little width n new
    → RespellsFirst (IsNumber Big width) (IsNumber Little width) rest (drop (size_of width) rest) new
respells-number width rest new n read spelled x front others split s =
    let after = drop_at front others (size_of width) s.size in
    let here = take_at front others (size_of width) s.size in
    let same : n ≡ x = read ∙ ap (λ bytes. number Big (take (size_of width) bytes)) split
    ∙ ap (number Big) here ∙ s.value in
    (sym (ap (drop (size_of width)) split ∙ after), subst (λ n. IsNumber Little width n new) same spelled)

-- so many numbers of a width have room
numbers-room : (width : Width) (n i : ℕ) → i < n / size_of width
    → (i * size_of width + size_of width ≡ (i + 1) * size_of width) × (i * size_of width + size_of width ≤ n)
numbers-room One n i lt = (omega arith, omega arith)
numbers-room Two n i lt = (omega arith, omega arith)
numbers-room Four n i lt = (omega arith, omega arith)
numbers-room Eight n i lt = (omega arith, omega arith)

numbers-end : (width : Width) (n i : ℕ) → n / size_of width ≤ i → n - i * size_of width < size_of width
numbers-end One n i le = omega arith
numbers-end Two n i le = omega arith
numbers-end Four n i le = omega arith
numbers-end Eight n i le = omega arith

-- one more number
pub numbers-more : (width : Width) (bytes new one : List ℕ) (i size n : ℕ) → size ≡ size_of width
    → i < length bytes / size → n ≡ number Big (take (size_of width) (drop (i * size) bytes))
    → IsNumber Little width n one
    → RespellsUpTo (IsNumber Big width) (IsNumber Little width) bytes (drop (i * size_of width) bytes) new
    → RespellsUpTo (IsNumber Big width) (IsNumber Little width) bytes
    (drop ((i + 1) * size_of width) bytes) (new ++ one)
numbers-more width bytes new one i size n sized lt read spelled before =
    let room = numbers-room width (length bytes) i (subst (λ s. i < length bytes / s) sized lt) in
    let rest : List ℕ = drop (i * size_of width) bytes in
    let n_is : n ≡ number Big (take (size_of width) rest) = read
    ∙ ap (λ s. number Big (take (size_of width) (drop (i * s) bytes))) sized in
    let after : drop (size_of width) rest ≡ drop ((i + 1) * size_of width) bytes =
    drop-drop (size_of width) (i * size_of width) bytes ∙ ap (λ k. drop k bytes) room.0 in
    subst (λ after. RespellsUpTo (IsNumber Big width) (IsNumber Little width) bytes after (new ++ one)) after
    (respells-more (IsNumber Big width) (IsNumber Little width) bytes rest (drop (size_of width) rest) new one
    (omega (arith, length-drop (i * size_of width) bytes, room.1, size-low width)) before
    (respells-number width rest one n n_is spelled))

pub numbers-all : (width : Width) (bytes new : List ℕ) (i size : ℕ) → size ≡ size_of width → length bytes / size ≤ i
    → RespellsUpTo (IsNumber Big width) (IsNumber Little width) bytes (drop (i * size_of width) bytes) new
    → Respells (IsNumber Big width) (IsNumber Little width) bytes new
numbers-all width bytes new i size sized le =
    respells-all (IsNumber Big width) (IsNumber Little width) bytes (drop (i * size_of width) bytes) new
    (λ x front r. omega (
      arith,
      r.size,
      length-drop (i * size_of width) bytes,
      numbers-end width (length bytes) i (subst (λ s. length bytes / s ≤ i) sized le),
    ))

-- ---- pairs are numbers

flat : List (ℕ × ℕ) → List ℕ
flat [] = []
flat (p ∷ ps) = p.0 ∷ p.1 ∷ flat ps

pairs-flat : (order : Order) (width : Width) (ps : List (ℕ × ℕ)) (bytes : List ℕ)
    → AreItems (IsPair order width) ps bytes → AreItems (IsNumber order width) (flat ps) bytes
unfolding flat
pairs-flat order width [] bytes s = s
pairs-flat order width (p ∷ ps) bytes (front, rest, split, s, others) = (
  s.front,
  s.back ++ rest,
  split ∙ ap (λ front. front ++ rest) s.split ∙ append_assoc s.front s.back rest,
  s.first,
  (s.back, rest, refl, s.second, pairs-flat order width ps rest others),
)

flat-pairs : (order : Order) (width : Width) (ps : List (ℕ × ℕ)) (bytes : List ℕ)
    → AreItems (IsNumber order width) (flat ps) bytes → AreItems (IsPair order width) ps bytes
unfolding flat
flat-pairs order width [] bytes s = s
flat-pairs order width (p ∷ ps) bytes (front, rest, split, first, (back, after, split', second, others)) = (
  front ++ back,
  after,
  split ∙ ap (λ rest. front ++ rest) split' ∙ sym (append_assoc front back after),
  record {
    front = front;
    back = back;
    split = refl;
    first = first;
    second = second;
  },
  flat-pairs order width ps after others,
)

respells-pairs : (order : Order) (width : Width) (bytes new : List ℕ)
    → Respells (IsNumber order width) (IsNumber Little width) bytes new
    → Respells (IsPair order width) (IsPair Little width) bytes new
respells-pairs order width bytes new respells ps items =
    flat-pairs Little width ps new (respells (flat ps) (pairs-flat order width ps bytes items))

-- ---- texts

pub text-low : (order : Order) (text front : List ℕ) → IsText order text front → 2 ≤ length front
text-low order text front (inl s) =
    omega (arith, ap length s.split ∙ length-append (s.front ++ text) (0 ∷ []), length-append s.front text, s.size.size)
text-low order text front (inr s) = omega (arith, s.size.size)

-- the text at the front of what is left
pub begins-text : (order : Order) (bytes rest new : List ℕ) → (texts : List (List ℕ))
    × AreItems (IsText order) texts bytes → 0 < length rest
    → RespellsUpTo (IsText order) (IsClosedText Little) bytes rest new → BeginsText order rest
begins-text order bytes rest new (texts, items) lt before =
    let b = before texts items in
    first-left (IsText order) b.left rest lt b.items

pub respells-text : (order : Order) (bytes new : List ℕ) (size : ℕ) → RespellsText order bytes size new
    → RespellsFirst (IsText order) (IsClosedText Little) bytes (drop size bytes) new
respells-text order bytes new size r text front rest split s =
    let here = r text front rest split s in
    (sym (ap (drop size) split ∙ drop_at front rest size (sym here.0)), here.1)

-- one more text
pub texts-more : (order : Order) (bytes new one : List ℕ) (at size : ℕ) → at < length bytes
    → RespellsText order (drop at bytes) size one
    → RespellsUpTo (IsText order) (IsClosedText Little) bytes (drop at bytes) new
    → RespellsUpTo (IsText order) (IsClosedText Little) bytes (drop (at + size) bytes) (new ++ one)
texts-more order bytes new one at size lt text before =
    subst (λ after. RespellsUpTo (IsText order) (IsClosedText Little) bytes after (new ++ one))
    (drop-drop size at bytes)
    (respells-more (IsText order) (IsClosedText Little) bytes (drop at bytes) (drop size (drop at bytes)) new one
    (omega (arith, length-drop at bytes)) before (respells-text order (drop at bytes) one size text))

pub texts-all : (order : Order) (bytes new : List ℕ) (at : ℕ) → length bytes ≤ at
    → RespellsUpTo (IsText order) (IsClosedText Little) bytes (drop at bytes) new
    → Respells (IsText order) (IsClosedText Little) bytes new
texts-all order bytes new at le =
    respells-all (IsText order) (IsClosedText Little) bytes (drop at bytes) new
    (λ text front s. omega (arith, length-drop at bytes, text-low order text front s))

-- how long a text is, by its first two bytes
text-size : (order : Order) (bytes text front rest : List ℕ) (n : ℕ) → n ≡ number order (take 2 bytes)
    → bytes ≡ front ++ rest → IsText order text front → (length front ≡ n + 2) × (n ≡ 0 → text ≡ [])
    × (0 < n → IsClosedText order text front)
text-size order bytes text front rest n read split (inl s) =
    let whole : bytes ≡ s.front ++ ((text ++ 0 ∷ []) ++ rest) = split
    ∙ ap (λ front. front ++ rest) (s.split ∙ append_assoc s.front text (0 ∷ []))
    ∙ append_assoc s.front (text ++ 0 ∷ []) rest in
    let is : n ≡ length text + 1 = read ∙ ap (λ bytes. number order (take 2 bytes)) whole
    ∙ ap (number order) (take_at s.front ((text ++ 0 ∷ []) ++ rest) 2 s.size.size) ∙ s.size.value in (
      omega (
        arith,
        is,
        ap length s.split ∙ length-append (s.front ++ text) (0 ∷ []),
        length-append s.front text,
        s.size.size,
      ),
      λ zero. absurd (omega (arith, is, zero)),
      λ low. s,
    )
text-size order bytes text front rest n read split (inr s) =
    let is : n ≡ 0 = read ∙ ap (λ bytes. number order (take 2 bytes)) split
    ∙ ap (number order) (take_at front rest 2 s.size.size) ∙ s.size.value in
    (omega (arith, is, s.size.size), λ zero. s.empty, λ low. absurd (omega (arith, is, low)))

pub text-room : (order : Order) (bytes : List ℕ) (n : ℕ) → n ≡ number order (take 2 bytes) → BeginsText order bytes
    → n + 2 ≤ length bytes
text-room order bytes n read (text, front, rest, split, s) =
    omega (arith, (text-size order bytes text front rest n read split s).0, ap length split ∙ length-append front rest)

pub text-begins : (order : Order) (bytes : List ℕ) → BeginsText order bytes → 2 ≤ length bytes
text-begins order bytes (text, front, rest, split, s) =
    omega (arith, text-low order text front s, ap length split ∙ length-append front rest)

-- the empty text is closed
pub text-empty : (order : Order) (bytes new : List ℕ) (n : ℕ) → n ≡ number order (take 2 bytes) → n ≡ 0
    → new ≡ 1 ∷ 0 ∷ 0 ∷ [] → RespellsText order bytes 2 new
text-empty order bytes new n read zero is text front rest split s =
    let size = text-size order bytes text front rest n read split s in (
      omega (arith, size.0, zero),
      record {
        front = 1 ∷ 0 ∷ [];
        split = is ∙ ap (λ text. 1 ∷ 0 ∷ [] ++ text ++ 0 ∷ []) (sym (size.1 zero));
        size = record { size = refl; value = ap (λ text. length text + 1) (sym (size.1 zero)) };
      },
    )

-- a closed text keeps its bytes behind its length
pub text-kept : (order : Order) (bytes front' kept : List ℕ) (n : ℕ) → n ≡ number order (take 2 bytes) → 0 < n
    → IsNumber Little Two n front' → kept ≡ take n (drop 2 bytes) → RespellsText order bytes (2 + n) (front' ++ kept)
text-kept order bytes front' kept n read low number_is is text front rest split s =
    let size = text-size order bytes text front rest n read split s in
    let closed = size.2 low in
    let long : n ≡ length text + 1 =
    omega (
      arith,
      size.0,
      ap length closed.split ∙ length-append (closed.front ++ text) (0 ∷ []),
      length-append closed.front text,
      closed.size.size,
    ) in
    let whole : bytes ≡ closed.front ++ ((text ++ 0 ∷ []) ++ rest) = split
    ∙ ap (λ front. front ++ rest) (closed.split ∙ append_assoc closed.front text (0 ∷ []))
    ∙ append_assoc closed.front (text ++ 0 ∷ []) rest in
    let here : kept ≡ text ++ 0 ∷ [] = is ∙ ap (λ bytes. take n (drop 2 bytes)) whole
    ∙ ap (take n) (drop_at closed.front ((text ++ 0 ∷ []) ++ rest) 2 closed.size.size)
    ∙ take_at (text ++ 0 ∷ []) rest n (length-append text (0 ∷ []) ∙ sym long) in (
      omega (arith, size.0),
      record {
        front = front';
        split = ap (λ kept. front' ++ kept) here ∙ sym (append_assoc front' text (0 ∷ []));
        size = subst (λ n. IsNumber Little Two n front') long number_is;
      },
    )

-- a text that is closed is spelled by the same bytes again
pub text-same : (bytes : List ℕ) (n : ℕ) → n ≡ number Little (take 2 bytes) → 0 < n
    → RespellsText Little bytes (2 + n) (take (2 + n) bytes)
text-same bytes n read low text front rest split s =
    let size = text-size Little bytes text front rest n read split s in
    let long : length front ≡ 2 + n = omega (arith, size.0) in (
      sym long,
      subst (IsClosedText Little text) (sym (ap (take (2 + n)) split ∙ take_at front rest (2 + n) long)) (size.2 low),
    )

pub texts-same : (bytes : List ℕ) (at n : ℕ) → at < length bytes → n ≡ number Little (take 2 (drop at bytes)) → 0 < n
    → RespellsUpTo (IsText Little) (IsClosedText Little) bytes (drop at bytes) (take at bytes)
    → RespellsUpTo (IsText Little) (IsClosedText Little) bytes (drop (at + (2 + n)) bytes) (take (at + (2 + n)) bytes)
texts-same bytes at n lt read low before =
    subst (RespellsUpTo (IsText Little) (IsClosedText Little) bytes (drop (at + (2 + n)) bytes))
    (sym (take-add at (2 + n) bytes))
    (texts-more Little bytes (take at bytes) (take (2 + n) (drop at bytes)) at (2 + n) lt
    (text-same (drop at bytes) n read low) before)

-- ---- links

pub link-written : (link : StructLink) (front back : List ℕ) → IsNumber Little Two link.class front
    → IsNumber Little Four link.instance back → IsLink Little link (front ++ back)
link-written link front back class instance =
    record { front = front; back = back; split = refl; class = class; instance = instance }

-- ---- one item or a list of them

single-items : {X : Type 0} (R : X → List ℕ → Type 0) (x : X) (bytes : List ℕ) → R x bytes → AreItems R (x ∷ []) bytes
single-items R x bytes r = (bytes, [], sym (append-nil bytes), r, refl)

items-single : {X : Type 0} (R : X → List ℕ → Type 0) (x : X) (bytes : List ℕ) → AreItems R (x ∷ []) bytes → R x bytes
items-single R x bytes (front, rest, split, r, none) =
    subst (R x) (sym (split ∙ ap (λ rest. front ++ rest) none ∙ append-nil front)) r

respells-single : {X : Type 0} (R S : X → List ℕ → Type 0) (x : X) (bytes new : List ℕ) → Respells R S bytes new
    → R x bytes → S x new
respells-single R S x bytes new respells r = items-single S x new (respells (x ∷ []) (single-items R x bytes r))

respells-counted : {X : Type 0} (R S : X → List ℕ → Type 0) (n : ℕ) (xs : List X) (bytes new : List ℕ)
    → Respells R S bytes new → AreCounted R n xs bytes → AreCounted S n xs new
respells-counted R S n xs bytes new respells s = record { count = s.count; items = respells xs s.items }

-- what is said of a field's new bytes
Said : Order → List ℕ → Form → List Count → List StructLink → ℕ → Value → List ℕ → Type 0
Said order numbers form counts links used v new =
    (used ≡ length (links_of v))
    × IsFieldBy (IsClosedText Little) Little numbers form counts (linked_value v (take used links)) new

-- ---- by form

numbers-form : (order : Order) (width : Width) (numbers : List ℕ) (counts : List Count) (bytes new : List ℕ)
    (links : List StructLink) → Respells (IsNumber order width) (IsNumber Little width) bytes new → (v : Value)
    → IsField order numbers (Number width) counts v bytes → Said order numbers (Number width) counts links 0 v new
unfolding Said
numbers-form order width numbers [] bytes new links r (value.Num n) s =
    (refl, respells-single (IsNumber order width) (IsNumber Little width) n bytes new r s)
numbers-form order width numbers [] bytes new links r v s = absurd s
numbers-form order One numbers (c ∷ cs) bytes new links r (value.Bytes xs) s =
    (refl, respells-counted (IsNumber order One) (IsNumber Little One) _ xs bytes new r s)
numbers-form order Two numbers (c ∷ cs) bytes new links r (value.Nums xs) s =
    (refl, respells-counted (IsNumber order Two) (IsNumber Little Two) _ xs bytes new r s)
numbers-form order Four numbers (c ∷ cs) bytes new links r (value.Nums xs) s =
    (refl, respells-counted (IsNumber order Four) (IsNumber Little Four) _ xs bytes new r s)
numbers-form order Eight numbers (c ∷ cs) bytes new links r (value.Nums xs) s =
    (refl, respells-counted (IsNumber order Eight) (IsNumber Little Eight) _ xs bytes new r s)
numbers-form order width numbers (c ∷ cs) bytes new links r v s = absurd s

pairs-form : (order : Order) (width : Width) (numbers : List ℕ) (counts : List Count) (bytes new : List ℕ)
    (links : List StructLink) → Respells (IsPair order width) (IsPair Little width) bytes new → (v : Value)
    → IsField order numbers (Pair width) counts v bytes → Said order numbers (Pair width) counts links 0 v new
unfolding Said
pairs-form order width numbers [] bytes new links r (value.Pair a b) s =
    (refl, respells-single (IsPair order width) (IsPair Little width) (a, b) bytes new r s)
pairs-form order width numbers [] bytes new links r v s = absurd s
pairs-form order width numbers (c ∷ cs) bytes new links r (value.Pairs xs) s =
    (refl, respells-counted (IsPair order width) (IsPair Little width) _ xs bytes new r s)
pairs-form order width numbers (c ∷ cs) bytes new links r v s = absurd s

texts-form : (order : Order) (numbers : List ℕ) (counts : List Count) (bytes new : List ℕ) (links : List StructLink)
    → Respells (IsText order) (IsClosedText Little) bytes new → (v : Value) → IsField order numbers Text counts v bytes
    → Said order numbers Text counts links 0 v new
unfolding Said
texts-form order numbers [] bytes new links r (value.Text text) s =
    (refl, respells-single (IsText order) (IsClosedText Little) text bytes new r s)
texts-form order numbers [] bytes new links r v s = absurd s
texts-form order numbers (c ∷ cs) bytes new links r (value.Texts xs) s =
    (refl, respells-counted (IsText order) (IsClosedText Little) _ xs bytes new r s)
texts-form order numbers (c ∷ cs) bytes new links r v s = absurd s

links-count : (order : Order) (numbers : List ℕ) (counts : List Count) (v : Value) (bytes : List ℕ)
    → IsField order numbers Link counts v bytes → length bytes ≡ length (links_of v) * 6
links-count order numbers counts v bytes s =
    links-size order (links_of v) bytes (field-items order numbers Link counts v bytes refl s)

linked-one : (old : StructLink) (links : List StructLink) (new : List ℕ) → length links ≡ 1
    → AreItems (IsLink Little) links new
    → IsSingleBy (IsClosedText Little) Little Link (linked_value (value.Link old) links) new
linked-one old [] new size items = cc
linked-one old (l ∷ []) new size items = items-single (IsLink Little) l new items
linked-one old (l ∷ m ∷ ls) new size items = absurd (omega (arith, size))

links-form : (order : Order) (numbers : List ℕ) (counts : List Count) (bytes new : List ℕ) (links : List StructLink)
    (used : ℕ) → used ≡ length bytes / 6 → used ≤ length links → AreItems (IsLink Little) (take used links) new
    → (v : Value) → IsField order numbers Link counts v bytes → Said order numbers Link counts links used v new
unfolding Said
links-form order numbers [] bytes new links used is le items (value.Link old) s =
    let many : used ≡ 1 = omega (arith, is, links-count order numbers [] (value.Link old) bytes s) in
    (many, linked-one old (take used links) new (length-take-le used links le ∙ many) items)
links-form order numbers [] bytes new links used is le items v s = absurd s
links-form order numbers (c ∷ cs) bytes new links used is le items (value.Links xs) s =
    let many : used ≡ length xs = omega (arith, is, links-count order numbers (c ∷ cs) (value.Links xs) bytes s) in
    (many, record { count = length-take-le used links le ∙ many ∙ s.count; items = items })
links-form order numbers (c ∷ cs) bytes new links used is le items v s = absurd s

-- the bytes of a text field are its texts
text-items : (order : Order) (numbers : List ℕ) (counts : List Count) (v : Value) (bytes : List ℕ)
    → IsField order numbers Text counts v bytes → (texts : List (List ℕ)) × AreItems (IsText order) texts bytes
text-items order numbers [] (value.Text text) bytes s = (text ∷ [], single-items (IsText order) text bytes s)
text-items order numbers [] v bytes s = absurd s
text-items order numbers (c ∷ cs) (value.Texts xs) bytes s = (xs, s.items)
text-items order numbers (c ∷ cs) v bytes s = absurd s

pub few-texts : (order : Order) (form : Form) (counts : List Count) (bytes : List ℕ) (links : List StructLink)
    → form ≡ Text → SpellsFew order form counts bytes links → (texts : List (List ℕ))
    × AreItems (IsText order) texts bytes
few-texts order form counts bytes links is (numbers, v, s, le) =
    text-items order numbers counts v bytes (subst (λ form. IsField order numbers form counts v bytes) is s)

-- a link field takes no more links than there are
pub few-links : (order : Order) (form : Form) (counts : List Count) (bytes : List ℕ) (links : List StructLink)
    → form ≡ Link → SpellsFew order form counts bytes links → length bytes / 6 ≤ length links
few-links order form counts bytes links is (numbers, v, s, le) =
    let size = links-count order numbers counts v bytes
    (subst (λ form. IsField order numbers form counts v bytes) is s) in
    omega (arith, size, le)

pub respells-numbers : (order : Order) (width : Width) (form : Form) (counts : List Count) (bytes new : List ℕ)
    (links : List StructLink) → form ≡ Number width → Respells (IsNumber order width) (IsNumber Little width) bytes new
    → RespellsForm order form counts bytes links 0 new
unfolding Said
respells-numbers order width form counts bytes new links is r =
    subst (λ form. RespellsForm order form counts bytes links 0 new) (sym is)
    (λ numbers v s. numbers-form order width numbers counts bytes new links r v s)

pub respells-complex : (order : Order) (width : Width) (form : Form) (counts : List Count) (bytes new : List ℕ)
    (links : List StructLink) → form ≡ Pair width → Respells (IsNumber order width) (IsNumber Little width) bytes new
    → RespellsForm order form counts bytes links 0 new
unfolding Said
respells-complex order width form counts bytes new links is r =
    subst (λ form. RespellsForm order form counts bytes links 0 new) (sym is)
    (λ numbers v s. pairs-form order width numbers counts bytes new links
    (respells-pairs order width bytes new r) v s)

pub respells-texts : (order : Order) (form : Form) (counts : List Count) (bytes new : List ℕ) (links : List StructLink)
    → form ≡ Text → Respells (IsText order) (IsClosedText Little) bytes new
    → RespellsForm order form counts bytes links 0 new
unfolding Said
respells-texts order form counts bytes new links is r =
    subst (λ form. RespellsForm order form counts bytes links 0 new) (sym is)
    (λ numbers v s. texts-form order numbers counts bytes new links r v s)

pub respells-links : (order : Order) (form : Form) (counts : List Count) (bytes new : List ℕ) (links : List StructLink)
    (used : ℕ) → form ≡ Link → used ≡ length bytes / 6 → used ≤ length links
    → AreItems (IsLink Little) (take used links) new → RespellsForm order form counts bytes links used new
unfolding Said
respells-links order form counts bytes new links used is many le items =
    subst (λ form. RespellsForm order form counts bytes links used new) (sym is)
    (λ numbers v s. links-form order numbers counts bytes new links used many le items v s)

-- ---- a check sum

sum-field : (order : Order) (numbers : List ℕ) (form : Form) (counts : List Count) (v : Value) (bytes new : List ℕ)
    → form ≡ Number Four → counts ≡ [] → new ≡ 0 ∷ 0 ∷ 0 ∷ 0 ∷ [] → IsField order numbers form counts v bytes
    → (0 ≡ length (links_of v)) × IsFieldBy (IsClosedText Little) Little numbers form counts (value.Num 0) new
sum-field order numbers (Number Four) [] (value.Num n) bytes new is single zeros s =
    (refl, record { size = ap length zeros; value = ap (number Little) zeros })
sum-field order numbers (Number Four) [] v bytes new is single zeros s = absurd s
sum-field order numbers form counts v bytes new is single zeros s = cc

pub respells-sum : (order : Order) (f : Field) (bytes new : List ℕ) (links : List StructLink) → f.is_sum ≡ true
    → IsSumNumber f → new ≡ 0 ∷ 0 ∷ 0 ∷ 0 ∷ [] → RespellsField order f bytes links 0 new
respells-sum order f bytes new links sum is zeros numbers v s =
    let here = is sum in
    subst (λ b. (0 ≡ length (links_of v))
    × IsFieldBy (IsClosedText Little) Little numbers f.form f.counts
    (linked_value (if b then value.Num 0 else v) (take 0 links)) new) (sym sum)
    (sum-field order numbers f.form f.counts v bytes new here.0 here.1 zeros s)

-- a field that is none
pub respells-other : (order : Order) (f : Field) (bytes new : List ℕ) (links : List StructLink) (used : ℕ)
    → f.is_sum ≡ false → RespellsForm order f.form f.counts bytes links used new
    → RespellsField order f bytes links used new
respells-other order f bytes new links used other r numbers v s =
    subst (λ b. (used ≡ length (links_of v))
    × IsFieldBy (IsClosedText Little) Little numbers f.form f.counts
    (linked_value (if b then value.Num 0 else v) (take used links)) new) (sym other) (r numbers v s)
