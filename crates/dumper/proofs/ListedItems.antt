-- A list printed item by item.
use Rattle.std.proofs.Common.{◌≡◌, ℕ, ◌+◌, ◌-◌, ◌<◌, ◌≤◌, Bool, true, false, List, [], ◌∷◌, ◌++◌, length, take}
use Rattle.std.proofs.Common.{drop, map, Result, Ok, Err, IfOk, refl, sym, ap, ◌∙◌, subst, arith, append_assoc}
use Rattle.std.proofs.Common.{append-nil}
use Rattle.std.specs.Prelude.{codes}
use Rattle.std.specs.List.{join_with_byte}
use Rattle.std.proofs.lemmas.List.{length-append, length-drop, length-map, drop_at, drop-drop, map-append, take_rest}
use Rattle.std.proofs.lemmas.Result.{IfOk-at_ok}
use Rattle.std.proofs.lemmas.Simd.{map-map}
use Rattle.scalar_types.specs.declared.Order.{Order}
use Rattle.scalar_types.specs.declared.Order.TheVariants.{Big, Little}
use Rattle.scalar_types.specs.declared.Width.TheVariants.{One, Two, Four, Eight}
use Rattle.type_text.specs.declared.types.Base.{Base}
use Rattle.record_values.specs.declared.values.Value.{Value}
use Rattle.record_values.specs.declared.values.Value.TheVariants as value
use Rattle.record_values.specs.Spelling.{IsNumber, IsPair, IsText, IsLink, AreItems}
use Rattle.layout_plan.specs.declared.fields.Form.{Form}
use Rattle.layout_plan.specs.declared.fields.Form.TheVariants.{Number, Pair, Text, Link}
use Rattle.layout_plan.specs.declared.fields.Count.{Count}
use Rattle.layout_plan.specs.Body.{item_count, IsSingle, IsListed, IsField}
use Rattle.frame_outside.specs.Sink.{Output}
use Rattle.frame_outside.specs.declared.traits.ShelfError.{ShelfError}
use Rattle.dumper.specs.Printed.{value_text, list_text}
use Rattle.dumper.specs.Page.{Carries, CarriesOrStops}
use Rattle.dumper.specs.Items.{BeginsItem, OfItem, AreSingles, items_of, blank_before, next_text}
use Rattle.dumper.proofs.Pages.{prints-then, prints-stopped, prints-is, carried, carried-then, carries-is}
use Rattle.dumper.proofs.FrontItems.{single-low, size-bounds}

-- ---- pieces with a blank between them

-- a piece more, after a blank
join-more : (pieces : List (List ℕ)) (piece : List ℕ) → 0 < length pieces
    → join_with_byte 32 (pieces ++ piece ∷ []) ≡ join_with_byte 32 pieces ++ (32 ∷ piece)
join-more [] piece low = absurd (omega arith)
join-more (p ∷ []) piece low = refl
join-more (p ∷ q ∷ ps) piece low =
    ap (λ xs. p ++ (32 ∷ xs)) (join-more (q ∷ ps) piece (omega arith))
    ∙ sym (append_assoc p (32 ∷ join_with_byte 32 (q ∷ ps)) (32 ∷ piece))

-- a piece more, after a blank where it is not the first
join-next : (pieces : List (List ℕ)) (piece : List ℕ) (after : Bool) → (after ≡ true → 0 < length pieces)
    → (after ≡ false → pieces ≡ [])
    → join_with_byte 32 (pieces ++ piece ∷ []) ≡ join_with_byte 32 pieces ++ (blank_before after ++ piece)
join-next pieces piece true later first = join-more pieces piece (later refl)
join-next pieces piece false later first =
    ap (λ ps. join_with_byte 32 (ps ++ piece ∷ [])) (first refl)
    ∙ sym (ap (λ ps. join_with_byte 32 ps ++ piece) (first refl))

-- the front pieces stand in front
join-front : (pieces more : List (List ℕ)) → (after : List ℕ)
    × (join_with_byte 32 (pieces ++ more) ≡ join_with_byte 32 pieces ++ after)
join-front [] more = (join_with_byte 32 more, refl)
join-front (p ∷ []) [] = ([], sym (append-nil p))
join-front (p ∷ []) (m ∷ ms) = (32 ∷ join_with_byte 32 (m ∷ ms), refl)
join-front (p ∷ q ∷ ps) more =
    let front = join-front (q ∷ ps) more in (
      front.0,
      ap (λ xs. p ++ (32 ∷ xs)) front.1 ∙ sym (append_assoc p (32 ∷ join_with_byte 32 (q ∷ ps)) front.0),
    )

-- ---- the items of a list

-- items are spelled as others that they are made of
map-items : {X Y : Type 0} (R : X → List ℕ → Type 0) (S : Y → List ℕ → Type 0) (f : X → Y)
    → ((x : X) (bytes : List ℕ) → R x bytes → S (f x) bytes) → (xs : List X) (bytes : List ℕ) → AreItems R xs bytes
    → AreItems S (map f xs) bytes
map-items R S f same [] bytes s = s
map-items R S f same (x ∷ xs) bytes (front, rest, split, here, others) =
    (front, rest, split, same x front here, map-items R S f same xs rest others)

-- a list that is not one of bytes is its items
listed-items : (order : Order) (form : Form) (n : ℕ) (v : Value) (bytes : List ℕ) → (form ≡ Number One → ⊥)
    → IsListed order form n v bytes → AreSingles order form (items_of v) bytes
listed-items order (Number One) n v bytes other s = absurd (other refl)
listed-items order (Number Two) n (value.Nums xs) bytes other s =
    map-items (IsNumber order Two) (IsSingle order (Number Two)) value.Num (λ x b r. r) xs bytes s.items
listed-items order (Number Four) n (value.Nums xs) bytes other s =
    map-items (IsNumber order Four) (IsSingle order (Number Four)) value.Num (λ x b r. r) xs bytes s.items
listed-items order (Number Eight) n (value.Nums xs) bytes other s =
    map-items (IsNumber order Eight) (IsSingle order (Number Eight)) value.Num (λ x b r. r) xs bytes s.items
listed-items order (Pair width) n (value.Pairs xs) bytes other s =
    map-items (IsPair order width) (IsSingle order (Pair width)) (λ (pair : ℕ × ℕ). value.Pair pair.0 pair.1)
    (λ x b r. r) xs bytes s.items
listed-items order Text n (value.Texts xs) bytes other s =
    map-items (IsText order) (IsSingle order Text) value.Text (λ x b r. r) xs bytes s.items
listed-items order Link n (value.Links xs) bytes other s =
    map-items (IsLink order) (IsSingle order Link) value.Link (λ x b r. r) xs bytes s.items
listed-items order form n v bytes other s = absurd s

-- its text is that of its items
listed-text : (base : Base) (order : Order) (form : Form) (n : ℕ) (v : Value) (bytes : List ℕ)
    → (form ≡ Number One → ⊥) → IsListed order form n v bytes
    → list_text (value_text base) (items_of v) ≡ value_text base v
listed-text base order form n (value.Nums xs) bytes other s =
    ap (λ pieces. codes "[" ++ (join_with_byte 32 pieces ++ codes "]"))
    (map-map (value_text base) value.Num xs)
listed-text base order form n (value.Pairs xs) bytes other s =
    ap (λ pieces. codes "[" ++ (join_with_byte 32 pieces ++ codes "]"))
    (map-map (value_text base) (λ (pair : ℕ × ℕ). value.Pair pair.0 pair.1) xs)
listed-text base order form n (value.Texts xs) bytes other s =
    ap (λ pieces. codes "[" ++ (join_with_byte 32 pieces ++ codes "]"))
    (map-map (value_text base) value.Text xs)
listed-text base order form n (value.Links xs) bytes other s =
    ap (λ pieces. codes "[" ++ (join_with_byte 32 pieces ++ codes "]"))
    (map-map (value_text base) value.Link xs)
listed-text base order (Number One) n v bytes other s = absurd (other refl)
listed-text base order form n v bytes other s = absurd s

-- ---- lists of bytes

-- a number of one byte is that byte
one-byte : (order : Order) (n : ℕ) (bytes : List ℕ) → IsNumber order One n bytes → n ∷ [] ≡ bytes
one-byte order n [] s = absurd (omega (arith, s.size))
one-byte Big n (b ∷ []) s =
    let same : n ≡ b = omega (arith, s.value) in
    ap (λ x. x ∷ []) same
one-byte Little n (b ∷ []) s =
    let same : n ≡ b = omega (arith, s.value) in
    ap (λ x. x ∷ []) same
one-byte order n (b ∷ c ∷ bs) s = absurd (omega (arith, s.size))

-- numbers of one byte each are the bytes
bytes-are : (order : Order) (xs bytes : List ℕ) → AreItems (IsNumber order One) xs bytes → xs ≡ bytes
bytes-are order [] bytes s = sym s
bytes-are order (x ∷ xs) bytes (front, rest, split, here, others) =
    ap (λ ys. x ∷ ys) (bytes-are order xs rest others) ∙ ap (λ ys. ys ++ rest) (one-byte order x front here) ∙ sym split

-- a list of one-byte numbers is the bytes
listed-bytes : (order : Order) (n : ℕ) (v : Value) (bytes : List ℕ) → IsListed order (Number One) n v bytes
    → value.Bytes bytes ≡ v
listed-bytes order n (value.Bytes xs) bytes s = ap value.Bytes (sym (bytes-are order xs bytes s.items))
listed-bytes order n v bytes s = absurd s

-- ---- the value of a field with dimensions

-- a field with dimensions has a list
field-listed : (order : Order) (numbers : List ℕ) (form : Form) (counts : List Count) (v : Value) (bytes : List ℕ)
    → (counts ≡ [] → ⊥) → IsField order numbers form counts v bytes
    → IsListed order form (item_count numbers counts) v bytes
field-listed order numbers form [] v bytes some s = absurd (some refl)
field-listed order numbers form (c ∷ cs) v bytes some s = s

-- of one-byte numbers: the bytes
pub field-bytes : (order : Order) (numbers : List ℕ) (form : Form) (counts : List Count) (v : Value) (bytes : List ℕ)
    → (counts ≡ [] → ⊥) → form ≡ Number One → IsField order numbers form counts v bytes → value.Bytes bytes ≡ v
field-bytes order numbers form counts v bytes some is s =
    let n = item_count numbers counts in
    listed-bytes order n v bytes
    (subst (λ form. IsListed order form n v bytes) is (field-listed order numbers form counts v bytes some s))

-- of others: items one after another
pub field-items : (order : Order) (numbers : List ℕ) (form : Form) (counts : List Count) (v : Value) (bytes : List ℕ)
    → (counts ≡ [] → ⊥) → (form ≡ Number One → ⊥) → IsField order numbers form counts v bytes
    → AreSingles order form (items_of v) bytes
field-items order numbers form counts v bytes some other s =
    listed-items order form (item_count numbers counts) v bytes other
    (field-listed order numbers form counts v bytes some s)

-- whose texts stand in brackets
pub field-text : (base : Base) (order : Order) (numbers : List ℕ) (form : Form) (counts : List Count) (v : Value)
    (bytes : List ℕ) → (counts ≡ [] → ⊥) → (form ≡ Number One → ⊥) → IsField order numbers form counts v bytes
    → list_text (value_text base) (items_of v) ≡ value_text base v
field-text base order numbers form counts v bytes some other s =
    listed-text base order form (item_count numbers counts) v bytes other
    (field-listed order numbers form counts v bytes some s)

-- ---- item after item

-- The items before a place were printed, with blanks between them, and the bytes from there on spell the others.
pub record PrintedSoFar (old new : Output) (p q : List ℕ) (base : Base) (order : Order) (form : Form)
    (items : List Value) (at : ℕ) (rest : List ℕ) : Type 0 where
  pub done : List Value
  pub left : List Value
  pub split : items ≡ done ++ left
  pub spelled : AreSingles order form left rest
  pub first : at ≡ 0 → done ≡ []
  pub later : 0 < at → 0 < length done
  pub printed : Carries old new p q (codes "[" ++ join_with_byte 32 (map (value_text base) done))

-- no item
pub printed-none : (old new : Output) (p q : List ℕ) (base : Base) (order : Order) (form : Form) (items : List Value)
    (bytes : List ℕ) → Carries old new p q (codes "[") → AreSingles order form items bytes
    → PrintedSoFar old new p q base order form items 0 bytes
printed-none old new p q base order form items bytes printed spelled = record {
  done = [];
  left = items;
  split = refl;
  spelled = spelled;
  first = λ e. refl;
  later = λ low. absurd (omega (arith, low));
  printed = printed;
}

-- the bytes that are left begin with an item
left-begins : (order : Order) (form : Form) (left : List Value) (rest : List ℕ) → AreSingles order form left rest
    → 0 < length rest → BeginsItem order form rest
left-begins order form [] rest s low = absurd (omega (arith, ap length s))
left-begins order form (v ∷ left) rest (front, others, split, here, s) low = (v, front, others, split, here)

-- an item follows, where bytes are left
pub printed-begins : (old new : Output) (p q : List ℕ) (base : Base) (order : Order) (form : Form)
    (items : List Value) (at : ℕ) (rest : List ℕ) → PrintedSoFar old new p q base order form items at rest
    → 0 < length rest → BeginsItem order form rest
printed-begins old new p q base order form items at rest s = left-begins order form s.left rest s.spelled

-- the text of one item more
text-more : (base : Base) (done : List Value) (v : Value) (after : Bool) → (after ≡ true → 0 < length done)
    → (after ≡ false → done ≡ [])
    → (codes "[" ++ join_with_byte 32 (map (value_text base) done)) ++ next_text after base v
    ≡ codes "[" ++ join_with_byte 32 (map (value_text base) (done ++ v ∷ []))
text-more base done v after later first =
    append_assoc (codes "[") (join_with_byte 32 (map (value_text base) done)) (next_text after base v)
    ∙ ap (λ xs. codes "[" ++ xs) (sym (join-next (map (value_text base) done) (value_text base v) after
    (λ e. subst (λ n. 0 < n) (sym (length-map done (value_text base))) (later e))
    (λ e. ap (map (value_text base)) (first e))))
    ∙ ap (λ pieces. codes "[" ++ join_with_byte 32 pieces) (sym (map-append (value_text base) done (v ∷ [])))

-- the text of all items, by that of the front ones
text-front : (base : Base) (done left : List Value) → (after : List ℕ)
    × ((codes "[" ++ join_with_byte 32 (map (value_text base) done)) ++ after
    ≡ list_text (value_text base) (done ++ left))
text-front base done left =
    let front = join-front (map (value_text base) done) (map (value_text base) left) in (
      front.0 ++ codes "]",
      append_assoc (codes "[") (join_with_byte 32 (map (value_text base) done)) (front.0 ++ codes "]")
          ∙ ap (λ xs. codes "[" ++ xs) (sym (append_assoc (join_with_byte 32 (map (value_text base) done)) front.0
          (codes "]")) ∙ ap (λ xs. xs ++ codes "]") (sym front.1
          ∙ ap (join_with_byte 32) (sym (map-append (value_text base) done left)))),
    )

-- An item was printed by way of a page, or why not.
abbrev pub IsTold : Output → Output → List ℕ → List ℕ → Base → Bool → Result ℕ ShelfError → Value → ℕ → Type 0
IsTold mid new q r base after result v long =
    IfOk result (λ size. size ≡ long) × CarriesOrStops mid new q r (next_text after base v) result

-- one more of the items that are left was printed
more-left : (old mid new : Output) (p q r : List ℕ) (base : Base) (order : Order) (form : Form) (items : List Value)
    (at : ℕ) (rest : List ℕ) (size : ℕ) (after : Bool) (result : Result ℕ ShelfError) → (after ≡ true → 0 < at)
    → (after ≡ false → at ≡ 0) → 0 < length rest → result ≡ Ok size
    → OfItem order form rest (IsTold mid new q r base after result)
    → PrintedSoFar old mid p q base order form items at rest
    → PrintedSoFar old new p r base order form items (at + size) (drop size rest)
more-left old mid new p q r base order form items at rest size after result is_later is_first low is of s =
    by s.left s.split s.spelled
  where
    by : (left : List Value) → items ≡ s.done ++ left → AreSingles order form left rest
        → PrintedSoFar old new p r base order form items (at + size) (drop size rest)
    by [] split spelled = absurd (omega (arith, ap length spelled))
    by (v ∷ left) split (front, others, halves, here, spelled) =
        let told = of v front others halves here in
        let long : size ≡ length front = IfOk-at_ok (λ n. n ≡ length front) is told.0 in
        let many = length-append s.done (v ∷ []) in
        let size_low : 0 < size = omega (arith, long, single-low order form v front here) in
        let behind : others ≡ drop size rest = sym (ap (drop size) halves ∙ drop_at front others size (sym long)) in
        record {
          done = s.done ++ v ∷ [];
          left = left;
          split = split ∙ sym (append_assoc s.done (v ∷ []) left);
          spelled = subst (AreSingles order form left) behind spelled;
          first = λ e. absurd (omega (arith, e, size_low));
          later = λ l. omega (arith, many);
          printed = carries-is old new p r
              ((codes "[" ++ join_with_byte 32 (map (value_text base) s.done)) ++ next_text after base v)
              (codes "[" ++ join_with_byte 32 (map (value_text base) (s.done ++ v ∷ [])))
              (text-more base s.done v after (λ e. s.later (is_later e)) (λ e. s.first (is_first e)))
              (carried-then old mid new p q r (codes "[" ++ join_with_byte 32 (map (value_text base) s.done))
              (next_text after base v) s.printed (carried mid new q r (next_text after base v) size result is told.1));
        }

-- one more item was printed
pub printed-more : (old mid new : Output) (p q r : List ℕ) (base : Base) (order : Order) (form : Form)
    (items : List Value) (bytes : List ℕ) (at size : ℕ) (after : Bool) (result : Result ℕ ShelfError)
    → (after ≡ true → 0 < at) → (after ≡ false → at ≡ 0) → at < length bytes → result ≡ Ok size
    → OfItem order form (take (length bytes - at) (drop at bytes)) (IsTold mid new q r base after result)
    → PrintedSoFar old mid p q base order form items at (drop at bytes)
    → PrintedSoFar old new p r base order form items (at + size) (drop (at + size) bytes)
printed-more old mid new p q r base order form items bytes at size after result is_later is_first low is of s =
    subst (PrintedSoFar old new p r base order form items (at + size)) (drop-drop size at bytes)
    (more-left old mid new p q r base order form items at (drop at bytes) size after result is_later is_first
    (omega (arith, length-drop at bytes)) is
    (subst (λ rest. OfItem order form rest (IsTold mid new q r base after result)) (take_rest bytes at) of) s)

-- the bytes of an item are at least one, and no more than there are
pub printed-bounds : (old mid new : Output) (p q r : List ℕ) (base : Base) (order : Order) (form : Form)
    (items : List Value) (bytes : List ℕ) (at size : ℕ) (after : Bool) (result : Result ℕ ShelfError)
    → at < length bytes → result ≡ Ok size
    → OfItem order form (take (length bytes - at) (drop at bytes)) (IsTold mid new q r base after result)
    → PrintedSoFar old mid p q base order form items at (drop at bytes) → (0 < size) × (at + size ≤ length bytes)
printed-bounds old mid new p q r base order form items bytes at size after result low is of s =
    let many = length-drop at bytes in
    let here = size-bounds order form (drop at bytes) size
    (left-begins order form s.left (drop at bytes) s.spelled (omega (arith, many)))
    (λ v front rest split single. IfOk-at_ok (λ n. n ≡ length front) is
    (of v front rest (take_rest bytes at ∙ split) single).0) in
    (here.0, omega (arith, here.1, many))

-- the next of the items that are left was not printed whole
stops-left : {Y : Type 0} (old mid new : Output) (p q r : List ℕ) (base : Base) (order : Order) (form : Form)
    (items : List Value) (at : ℕ) (rest : List ℕ) (after : Bool) (e : ShelfError) (stop : Result ℕ ShelfError)
    (result : Result Y ShelfError) → (after ≡ true → 0 < at) → (after ≡ false → at ≡ 0) → 0 < length rest
    → stop ≡ Err e → result ≡ Err e → OfItem order form rest (IsTold mid new q r base after stop)
    → PrintedSoFar old mid p q base order form items at rest
    → CarriesOrStops old new p r (list_text (value_text base) items) result
stops-left {Y} old mid new p q r base order form items at rest after e stop result is_later is_first low is same of s =
    by s.left s.split s.spelled
  where
    by : (left : List Value) → items ≡ s.done ++ left → AreSingles order form left rest
        → CarriesOrStops old new p r (list_text (value_text base) items) result
    by [] split spelled = absurd (omega (arith, ap length spelled))
    by (v ∷ left) split (front, others, halves, here, spelled) =
        let done : List Value = s.done ++ v ∷ [] in
        let printed : List ℕ = codes "[" ++ join_with_byte 32 (map (value_text base) s.done) in
        let next : List ℕ = next_text after base v in
        let told = of v front others halves here in
        let after_it = text-front base done left in
        let whole : printed ++ (next ++ after_it.0) ≡ list_text (value_text base) items =
        sym (append_assoc printed next after_it.0)
        ∙ ap (λ xs. xs ++ after_it.0) (text-more base s.done v after (λ e. s.later (is_later e))
        (λ e. s.first (is_first e)))
        ∙ after_it.1
        ∙ ap (list_text (value_text base)) (append_assoc s.done (v ∷ []) left ∙ sym split) in
        prints-is old new p r (printed ++ (next ++ after_it.0)) (list_text (value_text base) items) result whole
        (prints-then old mid new p q r printed (next ++ after_it.0) result s.printed
        (prints-stopped mid new q r r next after_it.0 e stop result is same told.1))

-- the next item was not printed whole
pub printed-stopped : {Y : Type 0} (old mid new : Output) (p q r : List ℕ) (base : Base) (order : Order)
    (form : Form) (items : List Value) (bytes : List ℕ) (at : ℕ) (after : Bool) (e : ShelfError)
    (stop : Result ℕ ShelfError) (result : Result Y ShelfError) → (after ≡ true → 0 < at)
    → (after ≡ false → at ≡ 0) → at < length bytes → stop ≡ Err e → result ≡ Err e
    → OfItem order form (take (length bytes - at) (drop at bytes)) (IsTold mid new q r base after stop)
    → PrintedSoFar old mid p q base order form items at (drop at bytes)
    → CarriesOrStops old new p r (list_text (value_text base) items) result
printed-stopped old mid new p q r base order form items bytes at after e stop result is_later is_first low is same of s =
    stops-left old mid new p q r base order form items at (drop at bytes) after e stop result is_later is_first
    (omega (arith, length-drop at bytes)) is same
    (subst (λ rest. OfItem order form rest (IsTold mid new q r base after stop)) (take_rest bytes at) of) s

-- all items were printed, and the bracket closes them
pub printed-all : {X : Type 0} (old mid new : Output) (p q r : List ℕ) (base : Base) (order : Order) (form : Form)
    (items : List Value) (at : ℕ) (rest : List ℕ) (result : Result X ShelfError) → length rest ≡ 0
    → CarriesOrStops mid new q r (codes "]") result → PrintedSoFar old mid p q base order form items at rest
    → CarriesOrStops old new p r (list_text (value_text base) items) result
printed-all {X} old mid new p q r base order form items at rest result none ends s =
    by s.left s.split s.spelled
  where
    by : (left : List Value) → items ≡ s.done ++ left → AreSingles order form left rest
        → CarriesOrStops old new p r (list_text (value_text base) items) result
    by [] split spelled =
        let pieces = join_with_byte 32 (map (value_text base) s.done) in
        prints-is old new p r ((codes "[" ++ pieces) ++ codes "]") (list_text (value_text base) items) result
        (append_assoc (codes "[") pieces (codes "]")
        ∙ ap (list_text (value_text base)) (sym (split ∙ append-nil s.done)))
        (prints-then old mid new p q r (codes "[" ++ pieces) (codes "]") result s.printed ends)
    by (v ∷ left) split (front, others, halves, here, spelled) =
        absurd (omega (
          arith,
          single-low order form v front here,
          none,
          ap length halves ∙ length-append front others,
        ))
