-- Why a field has no spelling, by what further bytes would do.
use Rattle.std.proofs.Common.{◌≡◌, ℕ, zero, suc, ◌+◌, ◌-◌, ◌<◌, ◌≤◌, ◌⊎◌, Bool, true, false, cond, eqb, get_or}
use Rattle.std.proofs.Common.{replicate, List, [], ◌∷◌, ◌++◌, length, take, drop, map, Result, Ok, Err, Some, refl, sym}
use Rattle.std.proofs.Common.{ap, ◌∙◌, subst, arith, append_assoc, append-nil, inl, inr}
use Rattle.std.specs.Prelude.{slice_get}
use Rattle.std.specs.Result.{result_err}
use Rattle.std.proofs.lemmas.List.{length-append, length-take, length-replicate, get_or-append_right, get_or-replicate}
use Rattle.std.proofs.lemmas.List.{take-append-le, drop-append-le, take_at, drop_at}
use Rattle.std.proofs.lemmas.Bool.{cases_lt, eq-eqb}
use Rattle.std.proofs.lemmas.Option.{same_Some, slice_get_within}
use Rattle.scalar_types.specs.declared.Order.{Order}
use Rattle.scalar_types.specs.declared.Width.{Width}
use Rattle.scalar_types.specs.declared.Width.TheVariants.{One, Two, Four, Eight}
use Rattle.scalar_types.specs.Number.{number, size_of}
use Rattle.type_text.specs.declared.types.Link.{Link as StructLink}
use Rattle.record_values.specs.declared.values.Value.{Value}
use Rattle.record_values.specs.declared.values.Value.TheVariants as value
use Rattle.layout_plan.specs.declared.fields.Form.{Form}
use Rattle.layout_plan.specs.declared.fields.Form.TheVariants.{Number, Pair, Text, Link}
use Rattle.layout_plan.specs.declared.fields.Count.{Count}
use Rattle.layout_plan.specs.declared.fields.Field.{Field}
use Rattle.layout_plan.specs.declared.faults.BodyReason.{BodyReason}
use Rattle.layout_plan.specs.declared.faults.BodyReason.TheVariants.{BodyShort, BodyLong, BadText}
use Rattle.layout_plan.specs.declared.faults.BodyFault.{BodyFault}
use Rattle.layout_plan.specs.Layout.{AreSound}
use Rattle.layout_plan.specs.Body.{number_of, item_count, AreFields, IsTail}
use Rattle.layout_plan.specs.BodyLaws.{BeginsWith, IsCutOff, StopsAt, GoesOn, HasFault, FaultsAreTold}
use Rattle.layout_plan.specs.Reading.{Found, and_then, found_map, bytes_in, number_in, pair_in, closed_text}
use Rattle.layout_plan.specs.Reading.{text_of_length, text_in, link_in, items_in, single_in, listed_in, field_in}
use Rattle.layout_plan.specs.Reading.{at_field, fields_in, whole_body, body_in}
use Rattle.layout_plan.proofs.ExactLemmas.{Ok-same, bytes_in-enough, bytes_in-few, and_then-Ok, found_map-Ok}
use Rattle.layout_plan.proofs.BodyLemmas.{field_in-exact, fields_in-exact, ended-Ok, ended-Err}
use Rattle.layout_plan.proofs.ReadingLemmas.{fields_in-stops, fields_in-length}
use Rattle.layout_plan.proofs.WalkLemmas.{fields_in-fault}
use Rattle.layout_plan.proofs.LentLemmas.{AreSound-take}

-- why nothing is found by going on
and_then-Err : {A B E : Type 0} (r : Result A E) (f : A → Result B E) (e : E) → and_then r f ≡ Err e → (r ≡ Err e)
    ⊎ ((x : A) × (r ≡ Ok x) × (f x ≡ Err e))
and_then-Err (Ok x) f e h = inr (x, refl, h)
and_then-Err (Err d) f e h = let same : d ≡ e = cc in inl (ap Err same)

found_map-Err : {A B E : Type 0} (f : A → B) (r : Result (A × List ℕ) E) (e : E) → found_map f r ≡ Err e → r ≡ Err e
found_map-Err f (Ok x) e h = cc
found_map-Err f (Err d) e h = let same : d ≡ e = cc in ap Err same

Ok-Err : {A E : Type 0} (r : Result A E) (x : A) (e : E) → r ≡ Ok x → r ≡ Err e → ⊥
Ok-Err {A} {E} r x e is other = apart (sym is ∙ other)
  where
    apart : ◌≡◌ {A = Result A E} (Ok x) (Err e) → ⊥
    apart f = cc

-- What further bytes do to a reading: what is found stays, what is short can be filled up, and a bad text stays bad.
record IsContinued {X : Type 0} (item : List ℕ → Found X) : Type 0 where
  pub found : (bytes more : List ℕ) (x : X × List ℕ) → item bytes ≡ Ok x → item (bytes ++ more) ≡ Ok (x.0, x.1 ++ more)
  pub short : (bytes : List ℕ) → item bytes ≡ Err BodyShort → (more : List ℕ) × (x : X)
      × (item (bytes ++ more) ≡ Ok (x, []))
  pub some : (bytes : List ℕ) × (x : X) × (item bytes ≡ Ok (x, []))
  pub bad : (bytes more : List ℕ) → item bytes ≡ Err BadText → item (bytes ++ more) ≡ Err BadText
  pub ends : (bytes : List ℕ) → item bytes ≡ Err BodyLong → ⊥

nothing-continued : {X : Type 0} (x : X) → IsContinued (λ bytes. Ok (x, bytes))
nothing-continued {X} x = record {
  found = λ bytes more y e. ap (λ (z : X × List ℕ). Ok (z.0, z.1 ++ more)) (Ok-same {E = BodyReason} (x, bytes) y e);
  short = λ bytes e. absurd (Ok-Err {E = BodyReason} (Ok (x, bytes)) (x, bytes) BodyShort refl e);
  some = ([], x, refl);
  bad = λ bytes more e. absurd (Ok-Err {E = BodyReason} (Ok (x, bytes)) (x, bytes) BadText refl e);
  ends = λ bytes e. Ok-Err {E = BodyReason} (Ok (x, bytes)) (x, bytes) BodyLong refl e;
}

found_map-continued : {X Y : Type 0} (f : X → Y) (item : List ℕ → Found X) → IsContinued item
    → IsContinued (λ bytes. found_map f (item bytes))
found_map-continued {X} {Y} f item c = record {
  found = λ bytes more y e. let m = found_map-Ok f (item bytes) y e in
      ap (found_map f) (c.found bytes more m.0 m.1) ∙ ap (λ (z : Y × List ℕ). Ok (z.0, z.1 ++ more)) m.2;
  short = λ bytes e. let s = c.short bytes (found_map-Err f (item bytes) BodyShort e) in
      (s.0, f s.1, ap (found_map f) s.2);
  some = (c.some.0, f c.some.1, ap (found_map f) c.some.2);
  bad = λ bytes more e. ap (found_map f) (c.bad bytes more (found_map-Err f (item bytes) BadText e));
  ends = λ bytes e. c.ends bytes (found_map-Err f (item bytes) BodyLong e);
}

and_then-continued : {X Y : Type 0} (item : List ℕ → Found X) (next : X → List ℕ → Found Y) → IsContinued item
    → ((x : X) → IsContinued (next x)) → IsContinued (λ bytes. and_then (item bytes) (λ x. next x.0 x.1))
and_then-continued {X} {Y} item next c cs = record { found = found; short = short; some = some; bad = bad; ends = ends }
  where
    found : (bytes more : List ℕ) (y : Y × List ℕ) → and_then (item bytes) (λ x. next x.0 x.1) ≡ Ok y
        → and_then (item (bytes ++ more)) (λ x. next x.0 x.1) ≡ Ok (y.0, y.1 ++ more)
    found bytes more y e =
        let m = and_then-Ok (item bytes) (λ (x : X × List ℕ). next x.0 x.1) y e in
        ap (λ r. and_then r (λ (x : X × List ℕ). next x.0 x.1)) (c.found bytes more m.0 m.1)
        ∙ (cs m.0.0).found m.0.1 more y m.2

    filled : (bytes more : List ℕ) (x : X) → item bytes ≡ Ok (x, []) → (y : Y) → next x more ≡ Ok (y, [])
        → and_then (item (bytes ++ more)) (λ x. next x.0 x.1) ≡ Ok (y, [])
    filled bytes more x e y h =
        ap (λ r. and_then r (λ (x : X × List ℕ). next x.0 x.1)) (c.found bytes more (x, []) e) ∙ h

    short : (bytes : List ℕ) → and_then (item bytes) (λ x. next x.0 x.1) ≡ Err BodyShort → (more : List ℕ) × (y : Y)
        × (and_then (item (bytes ++ more)) (λ x. next x.0 x.1) ≡ Ok (y, []))
    short bytes e = elim (and_then-Err (item bytes) (λ (x : X × List ℕ). next x.0 x.1) BodyShort e) [
      | inl first ↦
          let s = c.short bytes first in
          let t = (cs s.1).some in (
            s.0 ++ t.0,
            t.1,
            ap (λ bytes. and_then (item bytes) (λ (x : X × List ℕ). next x.0 x.1))
                (sym (append_assoc bytes s.0 t.0)) ∙ filled (bytes ++ s.0) t.0 s.1 s.2 t.1 t.2,
          )
      | inr then ↦
          let t = (cs then.0.0).short then.0.1 then.2 in
          (t.0, t.1, ap (λ r. and_then r (λ (x : X × List ℕ). next x.0 x.1)) (c.found bytes t.0 then.0 then.1) ∙ t.2)
    ]

    some : (bytes : List ℕ) × (y : Y) × (and_then (item bytes) (λ x. next x.0 x.1) ≡ Ok (y, []))
    some =
        let t = (cs c.some.1).some in
        (c.some.0 ++ t.0, t.1, filled c.some.0 t.0 c.some.1 c.some.2 t.1 t.2)

    bad : (bytes more : List ℕ) → and_then (item bytes) (λ x. next x.0 x.1) ≡ Err BadText
        → and_then (item (bytes ++ more)) (λ x. next x.0 x.1) ≡ Err BadText
    bad bytes more e = elim (and_then-Err (item bytes) (λ (x : X × List ℕ). next x.0 x.1) BadText e) [
      | inl first ↦ ap (λ r. and_then r (λ (x : X × List ℕ). next x.0 x.1)) (c.bad bytes more first)
      | inr then ↦
          ap (λ r. and_then r (λ (x : X × List ℕ). next x.0 x.1)) (c.found bytes more then.0 then.1)
          ∙ (cs then.0.0).bad then.0.1 more then.2
    ]

    ends : (bytes : List ℕ) → and_then (item bytes) (λ x. next x.0 x.1) ≡ Err BodyLong → ⊥
    ends bytes e = elim (and_then-Err (item bytes) (λ (x : X × List ℕ). next x.0 x.1) BodyLong e) [
      | inl first ↦ c.ends bytes first
      | inr then ↦ (cs then.0.0).ends then.0.1 then.2
    ]

-- the reasons are three
bad≢short : BadText ≡ BodyShort → ⊥
bad≢short e = cc

long≢short : BodyLong ≡ BodyShort → ⊥
long≢short e = cc

long≢bad : BodyLong ≡ BadText → ⊥
long≢bad e = cc

-- so many bytes are there or not
bytes_in-Err : (n : ℕ) (bytes : List ℕ) (reason : BodyReason) → bytes_in n bytes ≡ Err reason → (reason ≡ BodyShort)
    × (length bytes < n)
bytes_in-Err n bytes reason e = elim (cases_lt (length bytes) n) [
  | inl few ↦ (same (sym e ∙ bytes_in-few n bytes few), few)
  | inr enough ↦ absurd (Ok-Err (bytes_in n bytes) (take n bytes, drop n bytes) reason
      (bytes_in-enough n bytes enough) e)
]
  where
    same : ◌≡◌ {A = Found (List ℕ)} (Err reason) (Err BodyShort) → reason ≡ BodyShort
    same f = cc

bytes_in-found : (n : ℕ) (bytes more : List ℕ) (x : List ℕ × List ℕ) → bytes_in n bytes ≡ Ok x
    → bytes_in n (bytes ++ more) ≡ Ok (x.0, x.1 ++ more)
bytes_in-found n bytes more x e = elim (cases_lt (length bytes) n) [
  | inl few ↦ absurd (Ok-Err (bytes_in n bytes) x BodyShort e (bytes_in-few n bytes few))
  | inr enough ↦
      bytes_in-enough n (bytes ++ more) (omega (arith, length-append bytes more))
      ∙ (λ i. Ok (take-append-le n bytes more enough i, drop-append-le n bytes more enough i))
      ∙ ap (λ (z : List ℕ × List ℕ). Ok (z.0, z.1 ++ more))
      (Ok-same {E = BodyReason} (take n bytes, drop n bytes) x (sym (bytes_in-enough n bytes enough) ∙ e))
]

-- bytes that lack some, with zeros after them
zeros : ℕ → List ℕ → List ℕ
zeros n bytes = replicate (n - length bytes) 0

bytes_in-whole : (n : ℕ) (bytes : List ℕ) → length bytes ≡ n → bytes_in n bytes ≡ Ok (bytes, [])
bytes_in-whole n bytes size =
    bytes_in-enough n bytes (omega arith)
    ∙ (λ i. Ok (
      (ap (take n) (sym (append-nil bytes)) ∙ take_at bytes [] n size) i,
      (ap (drop n) (sym (append-nil bytes)) ∙ drop_at bytes [] n size) i,
    ))

bytes_in-filled : (n : ℕ) (bytes : List ℕ) → length bytes ≤ n
    → bytes_in n (bytes ++ zeros n bytes) ≡ Ok (bytes ++ zeros n bytes, [])
unfolding zeros
bytes_in-filled n bytes le =
    bytes_in-whole n (bytes ++ zeros n bytes)
    (omega (arith, length-append bytes (zeros n bytes), length-replicate {A = ℕ} (n - length bytes) 0))

bytes_in-continued : (n : ℕ) → IsContinued (bytes_in n)
bytes_in-continued n = record {
  found = bytes_in-found n;
  short = λ bytes e. let few = (bytes_in-Err n bytes BodyShort e).1 in
      (zeros n bytes, bytes ++ zeros n bytes, bytes_in-filled n bytes (omega arith));
  some = (zeros n [], zeros n [], bytes_in-filled n [] (omega arith));
  bad = λ bytes more e. absurd (bad≢short (bytes_in-Err n bytes BadText e).0);
  ends = λ bytes e. long≢short (bytes_in-Err n bytes BodyLong e).0;
}

number_in-continued : (order : Order) (width : Width) → IsContinued (number_in order width)
number_in-continued order width =
    found_map-continued (number order) (bytes_in (size_of width)) (bytes_in-continued (size_of width))

pair_in-continued : (order : Order) (width : Width) → IsContinued (pair_in order width)
pair_in-continued order width =
    and_then-continued (number_in order width) (λ a bytes. found_map (λ b. (a, b)) (number_in order width bytes))
    (number_in-continued order width)
    (λ a. found_map-continued (λ b. (a, b)) (number_in order width) (number_in-continued order width))

link_in-continued : (order : Order) → IsContinued (link_in order)
link_in-continued order =
    and_then-continued (number_in order Two) (λ class bytes. found_map (make class) (number_in order Four bytes))
    (number_in-continued order Two)
    (λ class. found_map-continued (make class) (number_in order Four) (number_in-continued order Four))
  where
    make : ℕ → ℕ → StructLink
    make class n = record { class = class; instance = n }

-- the closing zero of a text, whatever comes after it
closed_text-found : (n : ℕ) (x y : List ℕ × List ℕ) (more : List ℕ) → closed_text n x ≡ Ok y
    → closed_text n (x.0, x.1 ++ more) ≡ Ok (y.0, y.1 ++ more)
closed_text-found n x y more e = by (eqb (get_or x.0 n 0) 0) e
  where
    by : (b : Bool) → cond {A = Found (List ℕ)} b (Ok (take n x.0, x.1)) (Err BadText) ≡ Ok y
        → cond {A = Found (List ℕ)} b (Ok (take n x.0, x.1 ++ more)) (Err BadText) ≡ Ok (y.0, y.1 ++ more)
    by true e = ap (λ (z : List ℕ × List ℕ). Ok (z.0, z.1 ++ more)) (Ok-same {E = BodyReason} (take n x.0, x.1) y e)
    by false e = cc

closed_text-Err : (n : ℕ) (x : List ℕ × List ℕ) (more : List ℕ) (reason : BodyReason) → closed_text n x ≡ Err reason
    → (reason ≡ BadText) × (closed_text n (x.0, x.1 ++ more) ≡ Err BadText)
closed_text-Err n x more reason e = by (eqb (get_or x.0 n 0) 0) e
  where
    by : (b : Bool) → cond {A = Found (List ℕ)} b (Ok (take n x.0, x.1)) (Err BadText) ≡ Err reason → (reason ≡ BadText)
        × (cond {A = Found (List ℕ)} b (Ok (take n x.0, x.1 ++ more)) (Err BadText) ≡ Err BadText)
    by true e = absurd (Ok-Err {E = BodyReason} (Ok (take n x.0, x.1)) (take n x.0, x.1) reason refl e)
    by false e = let same : reason ≡ BadText = cc in (same, refl)

-- a text that lacks bytes, with zeros after them
text-filled : (n : ℕ) (bytes : List ℕ) → length bytes ≤ n → (text : List ℕ)
    × (text_of_length (suc n, bytes ++ zeros (suc n) bytes) ≡ Ok (text, []))
unfolding zeros
text-filled n bytes le = (
  take n whole,
  ap (λ r. and_then r (closed_text n)) (bytes_in-filled (suc n) bytes (omega arith))
      ∙ ap (λ b. cond {A = Found (List ℕ)} b (Ok (take n whole, [])) (Err BadText)) (eq-eqb (get_or whole n 0) 0 last),
)
  where
    whole : List ℕ
    whole = bytes ++ zeros (suc n) bytes

    last : get_or whole n 0 ≡ 0
    last =
        get_or-append_right bytes (zeros (suc n) bytes) (length bytes) n 0 refl le
        ∙ get_or-replicate {A = ℕ} (suc n - length bytes) (n - length bytes) 0 0 (omega arith)

text_of_length-continued : (n : ℕ) → IsContinued (λ bytes. text_of_length (n, bytes))
text_of_length-continued zero = nothing-continued []
text_of_length-continued (suc n) = record { found = found; short = short; some = some; bad = bad; ends = ends }
  where
    found : (bytes more : List ℕ) (y : List ℕ × List ℕ) → text_of_length (suc n, bytes) ≡ Ok y
        → text_of_length (suc n, bytes ++ more) ≡ Ok (y.0, y.1 ++ more)
    found bytes more y e =
        let m = and_then-Ok (bytes_in (suc n) bytes) (closed_text n) y e in
        ap (λ r. and_then r (closed_text n)) (bytes_in-found (suc n) bytes more m.0 m.1)
        ∙ closed_text-found n m.0 y more m.2

    short : (bytes : List ℕ) → text_of_length (suc n, bytes) ≡ Err BodyShort → (more : List ℕ) × (text : List ℕ)
        × (text_of_length (suc n, bytes ++ more) ≡ Ok (text, []))
    short bytes e = elim (and_then-Err (bytes_in (suc n) bytes) (closed_text n) BodyShort e) [
      | inl first ↦
          let few = (bytes_in-Err (suc n) bytes BodyShort first).1 in
          let t = text-filled n bytes (omega arith) in
          (zeros (suc n) bytes, t.0, t.1)
      | inr then ↦ absurd (bad≢short (sym (closed_text-Err n then.0 [] BodyShort then.2).0))
    ]

    some : (bytes : List ℕ) × (text : List ℕ) × (text_of_length (suc n, bytes) ≡ Ok (text, []))
    some = let t = text-filled n [] (omega arith) in (zeros (suc n) [], t.0, t.1)

    bad : (bytes more : List ℕ) → text_of_length (suc n, bytes) ≡ Err BadText
        → text_of_length (suc n, bytes ++ more) ≡ Err BadText
    bad bytes more e = elim (and_then-Err (bytes_in (suc n) bytes) (closed_text n) BadText e) [
      | inl first ↦ absurd (bad≢short (bytes_in-Err (suc n) bytes BadText first).0)
      | inr then ↦
          ap (λ r. and_then r (closed_text n)) (bytes_in-found (suc n) bytes more then.0 then.1)
          ∙ (closed_text-Err n then.0 more BadText then.2).1
    ]

    ends : (bytes : List ℕ) → text_of_length (suc n, bytes) ≡ Err BodyLong → ⊥
    ends bytes e = elim (and_then-Err (bytes_in (suc n) bytes) (closed_text n) BodyLong e) [
      | inl first ↦ long≢short (bytes_in-Err (suc n) bytes BodyLong first).0
      | inr then ↦ long≢bad (closed_text-Err n then.0 [] BodyLong then.2).0
    ]

text_in-continued : (order : Order) → IsContinued (text_in order)
text_in-continued order =
    and_then-continued (number_in order Two) (λ n bytes. text_of_length (n, bytes)) (number_in-continued order Two)
    text_of_length-continued

items_in-continued : {X : Type 0} (item : List ℕ → Found X) → IsContinued item → (n : ℕ) → IsContinued (items_in item n)
unfolding items_in
items_in-continued item c zero = nothing-continued []
items_in-continued item c (suc n) =
    and_then-continued item (λ x bytes. found_map (λ xs. x ∷ xs) (items_in item n bytes)) c
    (λ x. found_map-continued (λ xs. x ∷ xs) (items_in item n) (items_in-continued item c n))

single_in-continued : (order : Order) (form : Form) → IsContinued (single_in order form)
single_in-continued order (Number width) =
    found_map-continued value.Num (number_in order width) (number_in-continued order width)
single_in-continued order (Pair width) =
    found_map-continued (λ (p : ℕ × ℕ). value.Pair p.0 p.1) (pair_in order width) (pair_in-continued order width)
single_in-continued order Text =
    found_map-continued value.Text (text_in order) (text_in-continued order)
single_in-continued order Link =
    found_map-continued value.Link (link_in order) (link_in-continued order)

wide-continued : (order : Order) (width : Width) (n : ℕ)
    → IsContinued (λ bytes. found_map value.Nums (items_in (number_in order width) n bytes))
wide-continued order width n =
    found_map-continued value.Nums (items_in (number_in order width) n)
    (items_in-continued (number_in order width) (number_in-continued order width) n)

listed_in-continued : (order : Order) (form : Form) (n : ℕ) → IsContinued (listed_in order form n)
listed_in-continued order (Number One) n =
    found_map-continued value.Bytes (items_in (number_in order One) n)
    (items_in-continued (number_in order One) (number_in-continued order One) n)
listed_in-continued order (Number Two) n = wide-continued order Two n
listed_in-continued order (Number Four) n = wide-continued order Four n
listed_in-continued order (Number Eight) n = wide-continued order Eight n
listed_in-continued order (Pair width) n =
    found_map-continued value.Pairs (items_in (pair_in order width) n)
    (items_in-continued (pair_in order width) (pair_in-continued order width) n)
listed_in-continued order Text n =
    found_map-continued value.Texts (items_in (text_in order) n)
    (items_in-continued (text_in order) (text_in-continued order) n)
listed_in-continued order Link n =
    found_map-continued value.Links (items_in (link_in order) n)
    (items_in-continued (link_in order) (link_in-continued order) n)

field_in-continued : (order : Order) (numbers : List ℕ) (form : Form) (counts : List Count)
    → IsContinued (field_in order numbers form counts)
field_in-continued order numbers form [] = single_in-continued order form
field_in-continued order numbers form (c ∷ cs) = listed_in-continued order form (item_count numbers (c ∷ cs))

-- a front spells the field exactly where the reading finds it
begins-found : (order : Order) (numbers : List ℕ) (f : Field) (bytes : List ℕ) (x : Value × List ℕ)
    → field_in order numbers f.form f.counts bytes ≡ Ok x → BeginsWith order numbers f bytes
begins-found order numbers f bytes x e =
    let g = (field_in-exact order numbers f.form f.counts).found bytes x e in
    (x.0, g.0, x.1, g.1, g.2)

begins-refused : (order : Order) (numbers : List ℕ) (f : Field) (bytes : List ℕ) (reason : BodyReason)
    → field_in order numbers f.form f.counts bytes ≡ Err reason → BeginsWith order numbers f bytes → ⊥
begins-refused order numbers f bytes reason e (v, front, rest, split, s) =
    Ok-Err (field_in order numbers f.form f.counts bytes) (v, rest) reason
    (ap (field_in order numbers f.form f.counts) split
    ∙ (field_in-exact order numbers f.form f.counts).again v front rest s) e

-- what a field's reason says
abbrev IsReason : Order → List ℕ → Field → List ℕ → BodyReason → Type 0
IsReason order numbers f bytes BodyShort = IsCutOff order numbers f bytes
IsReason order numbers f bytes BadText = IsCutOff order numbers f bytes → ⊥
IsReason order numbers f bytes BodyLong = ⊥

reason-told : (order : Order) (numbers : List ℕ) (f : Field) (bytes : List ℕ) (reason : BodyReason)
    → field_in order numbers f.form f.counts bytes ≡ Err reason → IsReason order numbers f bytes reason
reason-told order numbers f bytes BodyShort e =
    let s = (field_in-continued order numbers f.form f.counts).short bytes e in
    (s.0, begins-found order numbers f (bytes ++ s.0) (s.1, []) s.2)
reason-told order numbers f bytes BadText e = λ cut.
    begins-refused order numbers f (bytes ++ cut.0) BadText
    ((field_in-continued order numbers f.form f.counts).bad bytes cut.0 e) cut.1
reason-told order numbers f bytes BodyLong e = (field_in-continued order numbers f.form f.counts).ends bytes e

reason-same : (order : Order) (numbers : List ℕ) (f : Field) (bytes : List ℕ) (first other : BodyReason)
    → IsReason order numbers f bytes first → IsReason order numbers f bytes other → first ≡ other
reason-same order numbers f bytes BodyShort BodyShort s t = refl
reason-same order numbers f bytes BodyShort BadText s t = absurd (t s)
reason-same order numbers f bytes BadText BodyShort s t = absurd (s t)
reason-same order numbers f bytes BadText BadText s t = refl
reason-same order numbers f bytes BodyLong other s t = absurd s
reason-same order numbers f bytes first BodyLong s t = absurd t

fault-by : (order : Order) (fields : List Field) (bytes : List ℕ) (k : ℕ) (reason : BodyReason)
    (s : StopsAt order fields bytes k) → IsReason order (map number_of s.values) s.field s.rest reason
    → HasFault order fields bytes k reason
fault-by order fields bytes k BodyShort s is = (s, is)
fault-by order fields bytes k BadText s is = (s, is)
fault-by order fields bytes k BodyLong s is = absurd is

-- where the reading of fields stops
record IsStop (order : Order) (numbers : List ℕ) (fields : List Field) (bytes : List ℕ)
    (fault : BodyFault) : Type 0 where
  pub values : List Value
  pub rest : List ℕ
  pub field : Field
  pub at : fault.field ≡ length numbers + length values
  pub reads : fields_in order numbers (take (length values) fields) bytes ≡ Ok (values, rest)
  pub is : slice_get fields (length values) ≡ Some field
  pub stops : field_in order (numbers ++ map number_of values) field.form field.counts rest ≡ Err fault.reason

at_field-Err : {X : Type 0} (i : ℕ) (r : Found X) (fault : BodyFault) → at_field i r ≡ Err fault
    → (r ≡ Err fault.reason) × (fault.field ≡ i)
at_field-Err i (Ok x) fault e = cc
at_field-Err {X} i (Err reason) fault e =
    let same : record { field = i; reason = reason } ≡ fault = cc in
    (ap (λ (f : BodyFault). Err f.reason) same, sym (ap (λ (f : BodyFault). f.field) same))

fields_in-stop : (order : Order) (numbers : List ℕ) (fields : List Field) (bytes : List ℕ) (fault : BodyFault)
    → fields_in order numbers fields bytes ≡ Err fault → IsStop order numbers fields bytes fault
fields_in-stop order numbers [] bytes fault e =
    absurd (Ok-Err {E = BodyFault} (Ok ([], bytes)) ([], bytes) fault refl e)
fields_in-stop order numbers (f ∷ fs) bytes fault e =
    elim (and_then-Err (at_field (length numbers) (field_in order numbers f.form f.counts bytes)) next fault e) [
      | inl first ↦
          let a = at_field-Err (length numbers) (field_in order numbers f.form f.counts bytes) fault first in
          record {
            values = [];
            rest = bytes;
            field = f;
            at = omega (arith, a.1);
            reads = refl;
            is = refl;
            stops = ap (λ ns. field_in order ns f.form f.counts bytes) (append-nil numbers) ∙ a.0;
          }
      | inr then ↦
          later then.0 then.1 (fields_in-stop order (numbers ++ number_of then.0.0 ∷ []) fs then.0.1 fault
          (found_map-Err (λ vs. then.0.0 ∷ vs)
          (fields_in order (numbers ++ number_of then.0.0 ∷ []) fs then.0.1) fault then.2))
    ]
  where
    next : Value × List ℕ → Result (List Value × List ℕ) BodyFault
    next v = found_map (λ vs. v.0 ∷ vs) (fields_in order (numbers ++ number_of v.0 ∷ []) fs v.1)

    later : (v : Value × List ℕ) → at_field (length numbers) (field_in order numbers f.form f.counts bytes) ≡ Ok v
        → IsStop order (numbers ++ number_of v.0 ∷ []) fs v.1 fault → IsStop order numbers (f ∷ fs) bytes fault
    later v e s = record {
      values = v.0 ∷ s.values;
      rest = s.rest;
      field = s.field;
      at = omega (arith, s.at, length-append numbers (number_of v.0 ∷ []));
      reads = ap (λ r. and_then r
          (λ (v : Value × List ℕ). found_map (λ vs. v.0 ∷ vs)
          (fields_in order (numbers ++ number_of v.0 ∷ []) (take (length s.values) fs) v.1))) e
          ∙ ap (found_map (λ vs. v.0 ∷ vs)) s.reads;
      is = s.is;
      stops = ap (λ ns. field_in order ns s.field.form s.field.counts s.rest)
          (sym (append_assoc numbers (number_of v.0 ∷ []) (map number_of s.values))) ∙ s.stops;
    }

-- a body's fault is told
stop-told : (order : Order) (fields : List Field) (bytes : List ℕ) (fault : BodyFault) → AreSound 0 fields
    → IsStop order [] fields bytes fault → HasFault order fields bytes fault.field fault.reason
stop-told order fields bytes fault sound s =
    let at : length s.values ≡ fault.field = omega (arith, s.at) in
    subst (λ k. HasFault order fields bytes k fault.reason) at
    (fault-by order fields bytes (length s.values) fault.reason stopped
    (reason-told order (map number_of s.values) s.field s.rest fault.reason s.stops))
  where
    g : (front : List ℕ) × (bytes ≡ front ++ s.rest)
        × AreFields order (map number_of s.values) (take (length s.values) fields) s.values front
    g = (fields_in-exact order [] (take (length s.values) fields)
        (AreSound-take 0 (length s.values) fields sound)).found bytes (s.values, s.rest) s.reads

    stopped : StopsAt order fields bytes (length s.values)
    stopped = record {
      values = s.values;
      front = g.0;
      rest = s.rest;
      field = s.field;
      split = g.1;
      spelled = g.2;
      is = s.is;
      stops = begins-refused order (map number_of s.values) s.field s.rest fault.reason s.stops;
    }

long-told : (order : Order) (fields : List Field) (bytes : List ℕ) (fault : BodyFault) (x : List Value × List ℕ)
    → AreSound 0 fields → fields_in order [] fields bytes ≡ Ok x → whole_body (length fields) x ≡ Err fault
    → HasFault order fields bytes fault.field fault.reason
long-told order fields bytes fault x sound e h =
    subst (λ (fault : BodyFault). HasFault order fields bytes fault.field fault.reason)
    (same (sym (ended-Err (length fields) x (λ none. no_tail (inl none)) (λ four. no_tail (inr four))) ∙ h))
    (record { values = x.0; front = g.0; rest = x.1; split = g.1; spelled = g.2; no_tail = no_tail }, refl)
  where
    g : (front : List ℕ) × (bytes ≡ front ++ x.1) × AreFields order (map number_of x.0) fields x.0 front
    g = (fields_in-exact order [] fields sound).found bytes x e

    no_tail : IsTail x.1 → ⊥
    no_tail t = Ok-Err (whole_body (length fields) x) x fault (ended-Ok (length fields) x t) h

    same : ◌≡◌ {A = Result (List Value × List ℕ) BodyFault} (Err (record { field = length fields; reason = BodyLong }))
        (Err fault) → record { field = length fields; reason = BodyLong } ≡ fault
    same f = cc

body-told : (order : Order) (fields : List Field) (bytes : List ℕ) (fault : BodyFault) → AreSound 0 fields
    → body_in order fields bytes ≡ Err fault → HasFault order fields bytes fault.field fault.reason
unfolding body_in
body-told order fields bytes fault sound e =
    elim (and_then-Err (fields_in order [] fields bytes) (whole_body (length fields)) fault e) [
      | inl first ↦ stop-told order fields bytes fault sound (fields_in-stop order [] fields bytes fault first)
      | inr then ↦ long-told order fields bytes fault then.0 sound then.1 then.2
    ]

-- what is told of a body's fault finds it
stop-found : (order : Order) (fields : List Field) (bytes : List ℕ) (k : ℕ) (reason : BodyReason) → AreSound 0 fields
    → (s : StopsAt order fields bytes k) → IsReason order (map number_of s.values) s.field s.rest reason
    → body_in order fields bytes ≡ Err (record { field = k; reason = reason })
stop-found order fields bytes k reason sound s why =
    by (field_in order (map number_of s.values) s.field.form s.field.counts s.rest) refl
  where
    reads : fields_in order [] (take k fields) bytes ≡ Ok (s.values, s.rest)
    reads =
        ap (fields_in order [] (take k fields)) s.split
        ∙ (fields_in-exact order [] (take k fields) (AreSound-take 0 k fields sound)).again s.values s.front
        s.rest s.spelled

    count : length s.values ≡ k
    count =
        omega (
          arith,
          fields_in-length order [] (take k fields) bytes s.values s.rest reads,
          length-take k fields,
          slice_get_within fields k s.field s.is,
        )

    fault : BodyReason → BodyFault
    fault reason = record { field = k; reason = reason }

    by : (r : Found Value) → field_in order (map number_of s.values) s.field.form s.field.counts s.rest ≡ r
        → body_in order fields bytes ≡ Err (record { field = k; reason = reason })
    by (Ok x) e = absurd (s.stops (begins-found order (map number_of s.values) s.field s.rest x e))
    by (Err other) e =
        let same = reason-same order (map number_of s.values) s.field s.rest other reason
        (reason-told order (map number_of s.values) s.field s.rest other e) why in
        fields_in-fault order fields bytes (fault other)
        (fields_in-stops order fields k s.field bytes s.rest s.values other s.is count reads e)
        ∙ ap (λ reason. Err (fault reason)) same

long-found : (order : Order) (fields : List Field) (bytes : List ℕ) (k : ℕ) → AreSound 0 fields
    → GoesOn order fields bytes → k ≡ length fields
    → body_in order fields bytes ≡ Err (record { field = k; reason = BodyLong })
unfolding body_in
long-found order fields bytes k sound s is =
    ap (λ bytes. and_then (fields_in order [] fields bytes) (whole_body (length fields))) s.split
    ∙ ap (λ r. and_then r (whole_body (length fields)))
    ((fields_in-exact order [] fields sound).again s.values s.front s.rest s.spelled)
    ∙ ended-Err (length fields) (s.values, s.rest) (λ none. s.no_tail (inl none)) (λ four. s.no_tail (inr four))
    ∙ ap (λ k. Err (fault k)) (sym is)
  where
    fault : ℕ → BodyFault
    fault k = record { field = k; reason = BodyLong }

body-found : (order : Order) (fields : List Field) (bytes : List ℕ) (k : ℕ) (reason : BodyReason) → AreSound 0 fields
    → HasFault order fields bytes k reason → body_in order fields bytes ≡ Err (record { field = k; reason = reason })
body-found order fields bytes k BodyShort sound h = stop-found order fields bytes k BodyShort sound h.0 h.1
body-found order fields bytes k BadText sound h = stop-found order fields bytes k BadText sound h.0 h.1
body-found order fields bytes k BodyLong sound h = long-found order fields bytes k sound h.0 h.1

pub faults-told : FaultsAreTold
faults-told order fields bytes fault sound = (
  λ e. body-told order fields bytes fault sound (by (body_in order fields bytes) e),
  λ h. ap result_err (body-found order fields bytes fault.field fault.reason sound h),
)
  where
    by : (r : Result (List Value × List ℕ) BodyFault) → result_err r ≡ Some fault → r ≡ Err fault
    by (Ok x) e = cc
    by (Err other) e = ap Err (same_Some other fault e)
