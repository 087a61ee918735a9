-- Each reading of an item finds just the items that are spelled.
use Rattle.std.proofs.Common.{◌≡◌, ℕ, zero, suc, ◌≤◌, ◌<◌, Bool, true, false, cond, List, [], ◌∷◌, ◌++◌, length, take}
use Rattle.std.proofs.Common.{drop, get_or, eqb, Result, Ok, Err, refl, sym, ap, ◌∙◌, subst, arith, append_assoc}
use Rattle.std.proofs.Common.{append-nil, inl, inr}
use Rattle.std.proofs.lemmas.List.{take-append-drop, length-append, length-take-le}
use Rattle.std.proofs.lemmas.Bool.{le-leb, lt-leb, eqb-true, eq-eqb, cases_lt}
use Rattle.std.proofs.Math.Seq.{take-append_seam, drop-append_seam, get_or-append_seam, take-suc, take-length}
use Rattle.scalar_types.specs.declared.Order.{Order}
use Rattle.scalar_types.specs.declared.Width.{Width}
use Rattle.scalar_types.specs.declared.Width.TheVariants.{Two, Four}
use Rattle.scalar_types.specs.Number.{number, size_of}
use Rattle.record_values.specs.Spelling.{IsNumber, IsPair, IsText, IsLink}
use Rattle.type_text.specs.declared.types.Link.{Link as StructLink}
use Rattle.layout_plan.specs.declared.faults.BodyReason.{BodyReason}
use Rattle.layout_plan.specs.declared.faults.BodyReason.TheVariants.{BodyShort, BadText}
use Rattle.layout_plan.specs.Reading.{Found, and_then, found_map, bytes_in, number_in, pair_in, closed_text}
use Rattle.layout_plan.specs.Reading.{text_of_length, text_in, link_in, items_in}
use Rattle.layout_plan.specs.Exact.{IsExact}
use Rattle.layout_plan.specs.Body.{AreCounted}

pub Ok-same : {A E : Type 0} (x y : A) → ◌≡◌ {A = Result A E} (Ok x) (Ok y) → x ≡ y
Ok-same x y e = cc

pub bytes_in-enough : (n : ℕ) (bytes : List ℕ) → n ≤ length bytes → bytes_in n bytes ≡ Ok (take n bytes, drop n bytes)
bytes_in-enough n bytes h =
    ap (λ b. cond {A = Found (List ℕ)} b (Ok (take n bytes, drop n bytes)) (Err BodyShort)) (le-leb n (length bytes) h)

pub bytes_in-few : (n : ℕ) (bytes : List ℕ) → length bytes < n → bytes_in n bytes ≡ Err BodyShort
bytes_in-few n bytes h =
    ap (λ b. cond {A = Found (List ℕ)} b (Ok (take n bytes, drop n bytes)) (Err BodyShort)) (lt-leb n (length bytes) h)

bytes_in-again : (n : ℕ) (front rest : List ℕ) → length front ≡ n → bytes_in n (front ++ rest) ≡ Ok (front, rest)
bytes_in-again n front rest h =
    subst (λ k. bytes_in k (front ++ rest) ≡ Ok (front, rest)) h
    (bytes_in-enough (length front) (front ++ rest) (omega (arith, length-append front rest))
    ∙ ap Ok (λ i. (take-append_seam front rest i, drop-append_seam front rest i)))

bytes_in-found : (n : ℕ) (bytes : List ℕ) (x : List ℕ × List ℕ) → bytes_in n bytes ≡ Ok x → (bytes ≡ x.0 ++ x.1)
    × (length x.0 ≡ n)
bytes_in-found n bytes x e = elim (cases_lt (length bytes) n) [
  | inl few ↦ absurd (apart (sym (bytes_in-few n bytes few) ∙ e))
  | inr enough ↦ by (Ok-same {E = BodyReason} _ x (sym (bytes_in-enough n bytes enough) ∙ e)) enough
]
  where
    apart : ◌≡◌ {A = Found (List ℕ)} (Err BodyShort) (Ok x) → ⊥
    apart f = cc

    by : (take n bytes, drop n bytes) ≡ x → n ≤ length bytes → (bytes ≡ x.0 ++ x.1) × (length x.0 ≡ n)
    by same enough =
        subst (λ (y : List ℕ × List ℕ). (bytes ≡ y.0 ++ y.1)
        × (length y.0 ≡ n)) same (sym (take-append-drop n bytes), length-take-le n bytes enough)

-- what is found by going on
pub and_then-Ok : {A B E : Type 0} (r : Result A E) (f : A → Result B E) (y : B) → and_then r f ≡ Ok y → (x : A)
    × (r ≡ Ok x) × (f x ≡ Ok y)
and_then-Ok (Ok x) f y e = (x, refl, e)
and_then-Ok (Err r) f y e = cc

pub found_map-Ok : {A B E : Type 0} (f : A → B) (r : Result (A × List ℕ) E) (y : B × List ℕ) → found_map f r ≡ Ok y
    → (x : A × List ℕ) × (r ≡ Ok x) × ((f x.0, x.1) ≡ y)
found_map-Ok {E} f (Ok x) y e = (x, refl, Ok-same {E = E} (f x.0, x.1) y e)
found_map-Ok f (Err r) y e = cc

-- a relation that says the same
pub exact-as : {X E : Type 0} {item : List ℕ → Result (X × List ℕ) E} (R S : X → List ℕ → Type 0) → IsExact item R
    → ((x : X) (front : List ℕ) → R x front → S x front) → ((x : X) (front : List ℕ) → S x front → R x front)
    → IsExact item S
exact-as R S exact to from = record {
  found = λ bytes x e. let f = exact.found bytes x e in (f.0, f.1, to x.0 f.0 f.2);
  again = λ x front rest s. exact.again x front rest (from x front s);
}

pub found_map-exact : {X Y E : Type 0} (f : X → Y) (item : List ℕ → Result (X × List ℕ) E) (R : X → List ℕ
    → Type 0) (S : Y → List ℕ → Type 0) → IsExact item R → ((x : X) (front : List ℕ) → R x front → S (f x) front)
    → ((y : Y) (front : List ℕ) → S y front → (x : X) × (f x ≡ y) × R x front)
    → IsExact (λ bytes. found_map f (item bytes)) S
found_map-exact {X} {Y} {E} f item R S exact to from = record { found = found; again = again }
  where
    found : (bytes : List ℕ) (y : Y × List ℕ) → found_map f (item bytes) ≡ Ok y → (front : List ℕ)
        × (bytes ≡ front ++ y.1) × S y.0 front
    found bytes y e =
        let m = found_map-Ok f (item bytes) y e in
        let g = exact.found bytes m.0 m.1 in
        subst (λ (z : Y × List ℕ). (front : List ℕ) × (bytes ≡ front ++ z.1)
        × S z.0 front) m.2 (g.0, g.1, to m.0.0 g.0 g.2)

    again : (y : Y) (front rest : List ℕ) → S y front → found_map f (item (front ++ rest)) ≡ Ok (y, rest)
    again y front rest s =
        let g = from y front s in
        ap (found_map f) (exact.again g.0 front rest g.2) ∙ ap (λ z. Ok (z, rest)) g.1

-- one item, and then another
abbrev pub Follows : {X Y : Type 0} → (X → List ℕ → Type 0) → (X → Y → List ℕ → Type 0) → Y → List ℕ → Type 0
Follows {X} R Q y bytes = (x : X) × (front rest : List ℕ) × (bytes ≡ front ++ rest) × R x front × Q x y rest

pub and_then-exact : {X Y E : Type 0} (item : List ℕ → Result (X × List ℕ) E) (R : X → List ℕ → Type 0) (next : X
    → List ℕ → Result (Y × List ℕ) E) (Q : X → Y → List ℕ → Type 0) → IsExact item R
    → ((x : X) → IsExact (next x) (Q x)) → IsExact (λ bytes. and_then (item bytes) (λ x. next x.0 x.1)) (Follows R Q)
and_then-exact {X} {Y} {E} item R next Q exact exacts = record { found = found; again = again }
  where
    found : (bytes : List ℕ) (y : Y × List ℕ) → and_then (item bytes) (λ x. next x.0 x.1) ≡ Ok y → (front : List ℕ)
        × (bytes ≡ front ++ y.1) × Follows R Q y.0 front
    found bytes y e =
        let m = and_then-Ok (item bytes) (λ (x : X × List ℕ). next x.0 x.1) y e in
        let first = exact.found bytes m.0 m.1 in
        let second = (exacts m.0.0).found m.0.1 y m.2 in (
          first.0 ++ second.0,
          first.1 ∙ ap (λ rest. first.0 ++ rest) second.1 ∙ sym (append_assoc first.0 second.0 y.1),
          (m.0.0, first.0, second.0, refl, first.2, second.2),
        )

    again : (y : Y) (front rest : List ℕ) → Follows R Q y front
        → and_then (item (front ++ rest)) (λ x. next x.0 x.1) ≡ Ok (y, rest)
    again y front rest (x, first, second, split, r, q) =
        ap (λ bytes. and_then (item bytes) (λ (x : X × List ℕ). next x.0 x.1)) (ap (λ bytes. bytes ++ rest) split
        ∙ append_assoc first second rest)
        ∙ ap (λ a. and_then a (λ (x : X × List ℕ). next x.0 x.1)) (exact.again x first (second ++ rest) r)
        ∙ (exacts x).again y second rest q

pub number_in-exact : (order : Order) (width : Width) → IsExact (number_in order width) (IsNumber order width)
number_in-exact order width = record { found = found; again = again }
  where
    found : (bytes : List ℕ) (x : ℕ × List ℕ) → number_in order width bytes ≡ Ok x → (front : List ℕ)
        × (bytes ≡ front ++ x.1) × IsNumber order width x.0 front
    found bytes x e =
        let m = found_map-Ok (number order) (bytes_in (size_of width) bytes) x e in
        let g = bytes_in-found (size_of width) bytes m.0 m.1 in
        subst (λ (z : ℕ × List ℕ). (front : List ℕ) × (bytes ≡ front ++ z.1)
        × IsNumber order width z.0 front) m.2 (m.0.0, g.0, record { size = g.1; value = refl })

    again : (x : ℕ) (front rest : List ℕ) → IsNumber order width x front
        → number_in order width (front ++ rest) ≡ Ok (x, rest)
    again x front rest r =
        ap (found_map (number order)) (bytes_in-again (size_of width) front rest r.size)
        ∙ ap (λ z. Ok (z, rest)) r.value

pub pair_in-exact : (order : Order) (width : Width) → IsExact (pair_in order width) (IsPair order width)
pair_in-exact order width = exact-as (Follows R Q) (IsPair order width) chain to from
  where
    R : ℕ → List ℕ → Type 0
    R = IsNumber order width

    Q : ℕ → ℕ × ℕ → List ℕ → Type 0
    Q a p rest = (a ≡ p.0) × IsNumber order width p.1 rest

    chain : IsExact (pair_in order width) (Follows R Q)
    chain =
        and_then-exact (number_in order width) R (λ a bytes. found_map (λ b. (a, b)) (number_in order width bytes)) Q
        (number_in-exact order width)
        (λ a. found_map-exact (λ b. (a, b)) (number_in order width) R (Q a) (number_in-exact order width)
        (λ b front r. (refl, r)) (λ p front q. (p.1, (λ i. (q.0 i, p.1)), q.1)))

    to : (p : ℕ × ℕ) (bytes : List ℕ) → Follows R Q p bytes → IsPair order width p bytes
    to p bytes (x, front, rest, split, r, q) = record {
      front = front;
      back = rest;
      split = split;
      first = subst (λ n. IsNumber order width n front) q.0 r;
      second = q.1;
    }

    from : (p : ℕ × ℕ) (bytes : List ℕ) → IsPair order width p bytes → Follows R Q p bytes
    from p bytes s = (p.0, s.front, s.back, s.split, s.first, (refl, s.second))

pub link_in-exact : (order : Order) → IsExact (link_in order) (IsLink order)
link_in-exact order = exact-as (Follows R Q) (IsLink order) chain to from
  where
    R : ℕ → List ℕ → Type 0
    R = IsNumber order Two

    Q : ℕ → StructLink → List ℕ → Type 0
    Q class link rest = (class ≡ link.class) × IsNumber order Four link.instance rest

    make : ℕ → ℕ → StructLink
    make class n = record { class = class; instance = n }

    chain : IsExact (link_in order) (Follows R Q)
    chain =
        and_then-exact (number_in order Two) R (λ class bytes. found_map (make class) (number_in order Four bytes)) Q
        (number_in-exact order Two)
        (λ class. found_map-exact (make class) (number_in order Four) (IsNumber order Four) (Q class)
        (number_in-exact order Four) (λ n front r. (refl, r))
        (λ link front q. (link.instance, (λ i. make (q.0 i) link.instance), q.1)))

    to : (link : StructLink) (bytes : List ℕ) → Follows R Q link bytes → IsLink order link bytes
    to link bytes (x, front, rest, split, r, q) = record {
      front = front;
      back = rest;
      split = split;
      class = subst (λ n. IsNumber order Two n front) q.0 r;
      instance = q.1;
    }

    from : (link : StructLink) (bytes : List ℕ) → IsLink order link bytes → Follows R Q link bytes
    from link bytes s = (link.class, s.front, s.back, s.split, s.class, (refl, s.instance))

-- the bytes of a text after its length
abbrev IsTextOfLength : ℕ → List ℕ → List ℕ → Type 0
IsTextOfLength zero text bytes = (text ≡ []) × (bytes ≡ [])
IsTextOfLength (suc n) text bytes = (bytes ≡ text ++ 0 ∷ []) × (length text ≡ n)

pub nothing-exact : {X E : Type 0}
    → IsExact {X = List X} {E = E} (λ bytes. Ok ([], bytes)) (λ xs front. (xs ≡ []) × (front ≡ []))
nothing-exact {X} {E} = record {
  found = λ bytes x e. let same = Ok-same {A = List X × List ℕ} {E = E} ([], bytes) x e in
      ([], ap (λ (y : List X × List ℕ). y.1) same, (sym (ap (λ (y : List X × List ℕ). y.0) same), refl));
  again = λ xs front rest s. λ i. Ok (sym s.0 i, s.1 i ++ rest);
}

pub closed_text-found : (n : ℕ) (x y : List ℕ × List ℕ) → length x.0 ≡ suc n → closed_text n x ≡ Ok y
    → (x.0 ≡ y.0 ++ 0 ∷ []) × (length y.0 ≡ n) × (x.1 ≡ y.1)
closed_text-found n x y size e = by (eqb (get_or x.0 n 0) 0) refl
  where
    by : (b : Bool) → eqb (get_or x.0 n 0) 0 ≡ b → (x.0 ≡ y.0 ++ 0 ∷ []) × (length y.0 ≡ n) × (x.1 ≡ y.1)
    by true is =
        let same = Ok-same {E = BodyReason} (take n x.0, x.1) y
        (sym (ap (λ b. cond {A = Found (List ℕ)} b (Ok (take n x.0, x.1)) (Err BadText)) is) ∙ e) in
        let whole : x.0 ≡ take n x.0 ++ get_or x.0 n 0 ∷ [] = sym (take-length x.0) ∙ ap (λ k. take k x.0) size
        ∙ take-suc x.0 n 0 (omega arith) in
        subst (λ (z : List ℕ × List ℕ). (x.0 ≡ z.0 ++ 0 ∷ []) × (length z.0 ≡ n)
        × (x.1 ≡ z.1)) same (
          whole ∙ ap (λ b. take n x.0 ++ b ∷ []) (eqb-true (get_or x.0 n 0) 0 is),
          length-take-le n x.0 (omega arith),
          refl,
        )
    by false is =
        absurd (apart (sym (ap (λ b. cond {A = Found (List ℕ)} b (Ok (take n x.0, x.1)) (Err BadText)) is) ∙ e))
      where
        apart : ◌≡◌ {A = Found (List ℕ)} (Err BadText) (Ok y) → ⊥
        apart f = cc

closed_text-again : (n : ℕ) (text rest : List ℕ) → length text ≡ n
    → closed_text n (text ++ 0 ∷ [], rest) ≡ Ok (text, rest)
closed_text-again n text rest size =
    subst (λ k. closed_text k (text ++ 0 ∷ [], rest) ≡ Ok (text, rest)) size
    (ap (λ b. cond {A = Found (List ℕ)} b (Ok (take (length text) (text ++ 0 ∷ []), rest)) (Err BadText))
    (eq-eqb (get_or (text ++ 0 ∷ []) (length text) 0) 0 (get_or-append_seam text 0 [] 0))
    ∙ ap (λ t. Ok (t, rest)) (take-append_seam text (0 ∷ [])))

text_of_length-exact : (n : ℕ) → IsExact (λ bytes. text_of_length (n, bytes)) (IsTextOfLength n)
text_of_length-exact zero = nothing-exact
text_of_length-exact (suc n) = record { found = found; again = again }
  where
    found : (bytes : List ℕ) (y : List ℕ × List ℕ) → text_of_length (suc n, bytes) ≡ Ok y → (front : List ℕ)
        × (bytes ≡ front ++ y.1) × IsTextOfLength (suc n) y.0 front
    found bytes y e =
        let m = and_then-Ok (bytes_in (suc n) bytes) (closed_text n) y e in
        let g = bytes_in-found (suc n) bytes m.0 m.1 in
        let t = closed_text-found n m.0 y g.1 m.2 in
        (m.0.0, g.0 ∙ ap (λ rest. m.0.0 ++ rest) t.2, (t.0, t.1))

    again : (text front rest : List ℕ) → IsTextOfLength (suc n) text front
        → text_of_length (suc n, front ++ rest) ≡ Ok (text, rest)
    again text front rest s =
        ap (λ x. and_then x (closed_text n))
        (bytes_in-again (suc n) front rest (ap length s.0 ∙ omega (arith, length-append text (0 ∷ []), s.1)))
        ∙ ap (λ front. closed_text n (front, rest)) s.0
        ∙ closed_text-again n text rest s.1

pub text_in-exact : (order : Order) → IsExact (text_in order) (IsText order)
text_in-exact order =
    exact-as (Follows R IsTextOfLength) (IsText order)
    (and_then-exact (number_in order Two) R (λ n bytes. text_of_length (n, bytes)) IsTextOfLength
    (number_in-exact order Two) text_of_length-exact) to from
  where
    R : ℕ → List ℕ → Type 0
    R = IsNumber order Two

    to : (text bytes : List ℕ) → Follows R IsTextOfLength text bytes → IsText order text bytes
    to text bytes (zero, front, rest, split, r, q) =
        inr (record {
          size = subst (IsNumber order Two 0)
              (sym (split ∙ ap (λ rest. front ++ rest) q.1 ∙ append-nil front)) r;
          empty = q.0;
        })
    to text bytes (suc n, front, rest, split, r, q) =
        inl (record {
          front = front;
          split = split ∙ ap (λ rest. front ++ rest) q.0 ∙ sym (append_assoc front text (0 ∷ []));
          size = subst (λ n. IsNumber order Two n front) (omega (arith, q.1)) r;
        })

    from : (text bytes : List ℕ) → IsText order text bytes → Follows R IsTextOfLength text bytes
    from text bytes (inl s) = (
      suc (length text),
      s.front,
      text ++ 0 ∷ [],
      s.split ∙ append_assoc s.front text (0 ∷ []),
      subst (λ n. IsNumber order Two n s.front) (omega arith) s.size,
      (refl, refl),
    )
    from text bytes (inr s) = (0, bytes, [], sym (append-nil bytes), s.size, (s.empty, refl))

pub items_in-exact : {X : Type 0} (item : List ℕ → Found X) (R : X → List ℕ → Type 0) → IsExact item R → (n : ℕ)
    → IsExact (items_in item n) (AreCounted R n)
unfolding items_in
items_in-exact {X} item R exact zero =
    exact-as (λ xs front. (xs ≡ []) × (front ≡ [])) (AreCounted R zero) nothing-exact to from
  where
    to : (xs : List X) (front : List ℕ) → (xs ≡ []) × (front ≡ []) → AreCounted R zero xs front
    to xs front s =
        subst (λ xs. AreCounted R zero xs front) (sym s.0) (record { count = refl; items = s.1 })

    from : (xs : List X) (front : List ℕ) → AreCounted R zero xs front → (xs ≡ []) × (front ≡ [])
    from [] front s = (refl, s.items)
    from (x ∷ xs) front s = absurd (omega (arith, s.count))
items_in-exact {X} item R exact (suc n) =
    exact-as (Follows R Q) (AreCounted R (suc n))
    (and_then-exact item R (λ x bytes. found_map (λ xs. x ∷ xs) (items_in item n bytes)) Q exact
    (λ x. found_map-exact (λ xs. x ∷ xs) (items_in item n) (AreCounted R n) (Q x) (items_in-exact item R exact n)
    (λ xs front r. (xs, refl, r)) (λ xs front q. q))) to from
  where
    Q : X → List X → List ℕ → Type 0
    Q x xs' rest = (xs : List X) × (x ∷ xs ≡ xs') × AreCounted R n xs rest

    to : (xs : List X) (front : List ℕ) → Follows R Q xs front → AreCounted R (suc n) xs front
    to xs' bytes (x, front, rest, split, r, (xs, same, q)) =
        subst (λ xs. AreCounted R (suc n) xs bytes) same
        (record { count = ap suc q.count; items = (front, rest, split, r, q.items) })

    from : (xs : List X) (front : List ℕ) → AreCounted R (suc n) xs front → Follows R Q xs front
    from [] bytes s = absurd (omega (arith, s.count))
    from (x ∷ xs) bytes s = (
      x,
      s.items.0,
      s.items.1,
      s.items.2,
      s.items.3,
      (xs, refl, record { count = omega (arith, s.count); items = s.items.4 }),
    )
