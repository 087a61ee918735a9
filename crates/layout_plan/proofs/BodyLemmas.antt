-- A body's reading finds just the values and tail that it spells.
use Rattle.std.proofs.Common.{◌≡◌, ℕ, suc, ◌*◌, ◌↔◌, ◌==◌, ◌⊎◌, if◌then◌else◌, Bool, true, false, ◌||◌, List, [], ◌∷◌}
use Rattle.std.proofs.Common.{◌++◌, length, map, All, Result, Ok, Err, None, refl, sym, ap, ◌∙◌, subst, arith}
use Rattle.std.proofs.Common.{append_assoc, inl, inr}
use Rattle.std.proofs.lemmas.List.{length-append}
use Rattle.std.proofs.Math.ListN.{get_or-append}
use Rattle.std.proofs.lemmas.Bool.{eqb-true, eq-eqb, ne_eqb, or_cases}
use Rattle.scalar_types.specs.declared.Order.{Order}
use Rattle.scalar_types.specs.declared.Width.{Width}
use Rattle.scalar_types.specs.declared.Width.TheVariants.{One, Two, Four, Eight}
use Rattle.type_text.specs.declared.types.Link.{Link as StructLink}
use Rattle.record_values.specs.declared.values.Value.{Value}
use Rattle.record_values.specs.declared.values.Value.TheVariants as value
use Rattle.record_values.specs.Spelling.{IsNumber, IsPair, IsText, IsLink}
use Rattle.layout_plan.specs.declared.fields.Form.{Form}
use Rattle.layout_plan.specs.declared.fields.Form.TheVariants.{Number, Pair, Text, Link}
use Rattle.layout_plan.specs.declared.fields.Count.{Count}
use Rattle.layout_plan.specs.declared.fields.Count.TheVariants.{Fixed, Of, OfSigned}
use Rattle.layout_plan.specs.declared.fields.Field.{Field}
use Rattle.layout_plan.specs.declared.faults.BodyReason.TheVariants.{BodyLong}
use Rattle.layout_plan.specs.declared.faults.BodyFault.{BodyFault}
use Rattle.layout_plan.specs.Layout.{IsEarlier, AreSound}
use Rattle.layout_plan.specs.Body.{number_of, signed_count, extent_of, item_count, AreCounted, IsSingle, IsListed}
use Rattle.layout_plan.specs.Body.{IsField, AreFields, IsTail, IsBody, HasBody}
use Rattle.layout_plan.specs.BodyLaws.{FaultOrBody, BodiesAreUnique}
use Rattle.std.specs.Result.{result_err}
use Rattle.layout_plan.specs.Reading.{Found, and_then, found_map, number_in, pair_in, text_in, link_in, items_in}
use Rattle.layout_plan.specs.Reading.{single_in, listed_in, field_in, at_field, fields_in, whole_body, body_in}
use Rattle.layout_plan.specs.Reading.{fault_of}
use Rattle.layout_plan.specs.Exact.{IsExact}
use Rattle.layout_plan.proofs.ExactLemmas.{Ok-same, and_then-Ok, exact-as, found_map-exact, and_then-exact, Follows}
use Rattle.layout_plan.proofs.ExactLemmas.{nothing-exact, number_in-exact, pair_in-exact, text_in-exact, link_in-exact}
use Rattle.layout_plan.proofs.ExactLemmas.{items_in-exact}

pub single_in-exact : (order : Order) (form : Form) → IsExact (single_in order form) (IsSingle order form)
single_in-exact order (Number width) =
    found_map-exact value.Num (number_in order width) (IsNumber order width) (IsSingle order (Number width))
    (number_in-exact order width) (λ n front r. r) from
  where
    from : (v : Value) (front : List ℕ) → IsSingle order (Number width) v front → (n : ℕ) × (value.Num n ≡ v)
        × IsNumber order width n front
    from (value.Num n) front s = (n, refl, s)
    from v front s = absurd s
single_in-exact order (Pair width) =
    found_map-exact (λ (p : ℕ × ℕ). value.Pair p.0 p.1) (pair_in order width) (IsPair order width)
    (IsSingle order (Pair width)) (pair_in-exact order width) (λ p front r. r) from
  where
    from : (v : Value) (front : List ℕ) → IsSingle order (Pair width) v front → (p : ℕ × ℕ) × (value.Pair p.0 p.1 ≡ v)
        × IsPair order width p front
    from (value.Pair a b) front s = ((a, b), refl, s)
    from v front s = absurd s
single_in-exact order Text =
    found_map-exact value.Text (text_in order) (IsText order) (IsSingle order Text) (text_in-exact order)
    (λ text front r. r) from
  where
    from : (v : Value) (front : List ℕ) → IsSingle order Text v front → (text : List ℕ) × (value.Text text ≡ v)
        × IsText order text front
    from (value.Text text) front s = (text, refl, s)
    from v front s = absurd s
single_in-exact order Link =
    found_map-exact value.Link (link_in order) (IsLink order) (IsSingle order Link) (link_in-exact order)
    (λ link front r. r) from
  where
    from : (v : Value) (front : List ℕ) → IsSingle order Link v front → (link : _) × (value.Link link ≡ v)
        × IsLink order link front
    from (value.Link link) front s = (link, refl, s)
    from v front s = absurd s

-- the reading of numbers of more than one byte
wide-exact : (order : Order) (width : Width) (n : ℕ) (S : Value → List ℕ → Type 0)
    → ((xs : List ℕ) (front : List ℕ) → AreCounted (IsNumber order width) n xs front → S (value.Nums xs) front)
    → ((v : Value) (front : List ℕ) → S v front → (xs : List ℕ) × (value.Nums xs ≡ v)
    × AreCounted (IsNumber order width) n xs front)
    → IsExact (λ bytes. found_map value.Nums (items_in (number_in order width) n bytes)) S
wide-exact order width n S to from =
    found_map-exact value.Nums (items_in (number_in order width) n) (AreCounted (IsNumber order width) n) S
    (items_in-exact (number_in order width) (IsNumber order width) (number_in-exact order width) n) to from

pub listed_in-exact : (order : Order) (form : Form) (n : ℕ) → IsExact (listed_in order form n) (IsListed order form n)
listed_in-exact order (Number One) n =
    found_map-exact value.Bytes (items_in (number_in order One) n) (AreCounted (IsNumber order One) n)
    (IsListed order (Number One) n)
    (items_in-exact (number_in order One) (IsNumber order One) (number_in-exact order One) n) (λ xs front r. r) from
  where
    from : (v : Value) (front : List ℕ) → IsListed order (Number One) n v front → (xs : List ℕ) × (value.Bytes xs ≡ v)
        × AreCounted (IsNumber order One) n xs front
    from (value.Bytes xs) front s = (xs, refl, s)
    from v front s = absurd s
listed_in-exact order (Number Two) n = wide-exact order Two n (IsListed order (Number Two) n) (λ xs front r. r) from
  where
    from : (v : Value) (front : List ℕ) → IsListed order (Number Two) n v front → (xs : List ℕ) × (value.Nums xs ≡ v)
        × AreCounted (IsNumber order Two) n xs front
    from (value.Nums xs) front s = (xs, refl, s)
    from v front s = absurd s
listed_in-exact order (Number Four) n = wide-exact order Four n (IsListed order (Number Four) n) (λ xs front r. r) from
  where
    from : (v : Value) (front : List ℕ) → IsListed order (Number Four) n v front → (xs : List ℕ) × (value.Nums xs ≡ v)
        × AreCounted (IsNumber order Four) n xs front
    from (value.Nums xs) front s = (xs, refl, s)
    from v front s = absurd s
listed_in-exact order (Number Eight) n =
    wide-exact order Eight n (IsListed order (Number Eight) n) (λ xs front r. r) from
  where
    from : (v : Value) (front : List ℕ) → IsListed order (Number Eight) n v front → (xs : List ℕ) × (value.Nums xs ≡ v)
        × AreCounted (IsNumber order Eight) n xs front
    from (value.Nums xs) front s = (xs, refl, s)
    from v front s = absurd s
listed_in-exact order (Pair width) n =
    found_map-exact value.Pairs (items_in (pair_in order width) n) (AreCounted (IsPair order width) n)
    (IsListed order (Pair width) n)
    (items_in-exact (pair_in order width) (IsPair order width) (pair_in-exact order width) n) (λ xs front r. r) from
  where
    from : (v : Value) (front : List ℕ) → IsListed order (Pair width) n v front → (xs : List (ℕ × ℕ))
        × (value.Pairs xs ≡ v) × AreCounted (IsPair order width) n xs front
    from (value.Pairs xs) front s = (xs, refl, s)
    from v front s = absurd s
listed_in-exact order Text n =
    found_map-exact value.Texts (items_in (text_in order) n) (AreCounted (IsText order) n) (IsListed order Text n)
    (items_in-exact (text_in order) (IsText order) (text_in-exact order) n) (λ xs front r. r) from
  where
    from : (v : Value) (front : List ℕ) → IsListed order Text n v front → (xs : List (List ℕ)) × (value.Texts xs ≡ v)
        × AreCounted (IsText order) n xs front
    from (value.Texts xs) front s = (xs, refl, s)
    from v front s = absurd s
listed_in-exact order Link n =
    found_map-exact value.Links (items_in (link_in order) n) (AreCounted (IsLink order) n) (IsListed order Link n)
    (items_in-exact (link_in order) (IsLink order) (link_in-exact order) n) (λ xs front r. r) from
  where
    from : (v : Value) (front : List ℕ) → IsListed order Link n v front → (xs : List StructLink) × (value.Links xs ≡ v)
        × AreCounted (IsLink order) n xs front
    from (value.Links xs) front s = (xs, refl, s)
    from v front s = absurd s

pub field_in-exact : (order : Order) (numbers : List ℕ) (form : Form) (counts : List Count)
    → IsExact (field_in order numbers form counts) (IsField order numbers form counts)
field_in-exact order numbers form [] = single_in-exact order form
field_in-exact order numbers form (c ∷ cs) = listed_in-exact order form (item_count numbers (c ∷ cs))

at_field-exact : {X : Type 0} (i : ℕ) (item : List ℕ → Found X) (R : X → List ℕ → Type 0) → IsExact item R
    → IsExact (λ bytes. at_field i (item bytes)) R
at_field-exact {X} i item R exact = record {
  found = λ bytes x e. exact.found bytes x (out (item bytes) x e);
  again = λ x front rest r. ap (at_field i) (exact.again x front rest r);
}
  where
    out : (r : Found X) (x : X × List ℕ) → at_field i r ≡ Ok x → r ≡ Ok x
    out (Ok y) x e = ap Ok (Ok-same {E = BodyFault} y x e)
    out (Err reason) x e = cc

-- what holds of each element holds of the first and of each of the others
All-first : {X : Type 0} (P : X → Type 0) (x : X) (xs : List X) → All P (x ∷ xs) → P x
All-first P x xs h = h 0 x (omega arith)

All-others : {X : Type 0} (P : X → Type 0) (x : X) (xs : List X) → All P (x ∷ xs) → All P xs
All-others P x xs h = λ k d lt. h (suc k) d (omega arith)

-- the numbers of later fields count nothing
extent_of-earlier : (numbers more : List ℕ) (c : Count) → IsEarlier (length numbers) c
    → extent_of (numbers ++ more) c ≡ extent_of numbers c
extent_of-earlier numbers more (Fixed n) h = refl
extent_of-earlier numbers more (Of k) h = get_or-append numbers more 0 k h
extent_of-earlier numbers more (OfSigned k width) h = ap (signed_count width) (get_or-append numbers more 0 k h)

pub item_count-earlier : (numbers more : List ℕ) (counts : List Count) → All (IsEarlier (length numbers)) counts
    → item_count (numbers ++ more) counts ≡ item_count numbers counts
item_count-earlier numbers more [] h = refl
item_count-earlier numbers more (c ∷ cs) h =
    let first = extent_of-earlier numbers more c (All-first (IsEarlier (length numbers)) c cs h) in
    let others = item_count-earlier numbers more cs (All-others (IsEarlier (length numbers)) c cs h) in
    λ i. first i * others i

pub IsField-earlier : (order : Order) (numbers more : List ℕ) (form : Form) (counts : List Count) (v : Value)
    (bytes : List ℕ) → All (IsEarlier (length numbers)) counts → IsField order numbers form counts v bytes
    ↔ IsField order (numbers ++ more) form counts v bytes
IsField-earlier order numbers more form [] v bytes h = (λ s. s, λ s. s)
IsField-earlier order numbers more form (c ∷ cs) v bytes h =
    let same = item_count-earlier numbers more (c ∷ cs) h in
    (subst (λ n. IsListed order form n v bytes) (sym same), subst (λ n. IsListed order form n v bytes) same)

-- the values of fields after those with these numbers
abbrev pub AreFieldsAfter : Order → List ℕ → List Field → List Value → List ℕ → Type 0
AreFieldsAfter order numbers fields values bytes =
    AreFields order (numbers ++ map number_of values) fields values bytes

pub fields_in-exact : (order : Order) (numbers : List ℕ) (fields : List Field) → AreSound (length numbers) fields
    → IsExact (fields_in order numbers fields) (AreFieldsAfter order numbers fields)
fields_in-exact order numbers [] h =
    exact-as (λ vs front. (vs ≡ []) × (front ≡ [])) (AreFieldsAfter order numbers []) nothing-exact to from
  where
    to : (vs : List Value) (front : List ℕ) → (vs ≡ []) × (front ≡ []) → AreFieldsAfter order numbers [] vs front
    to vs front s = subst (λ vs. AreFieldsAfter order numbers [] vs front) (sym s.0) s.1

    from : (vs : List Value) (front : List ℕ) → AreFieldsAfter order numbers [] vs front → (vs ≡ []) × (front ≡ [])
    from [] front s = (refl, s)
    from (v ∷ vs) front s = absurd s
fields_in-exact order numbers (f ∷ fs) h =
    exact-as (Follows R Q) (AreFieldsAfter order numbers (f ∷ fs))
    (and_then-exact (λ bytes. at_field (length numbers) (field_in order numbers f.form f.counts bytes)) R next Q
    (at_field-exact (length numbers) (field_in order numbers f.form f.counts) R
    (field_in-exact order numbers f.form f.counts))
    (others (λ v. fields_in-exact order (numbers ++ number_of v ∷ []) fs (sound v)))) to from
  where
    R : Value → List ℕ → Type 0
    R = IsField order numbers f.form f.counts

    with_number : Value → List ℕ
    with_number v = numbers ++ number_of v ∷ []

    next : Value → List ℕ → Result (List Value × List ℕ) BodyFault
    next v bytes = found_map (λ vs. v ∷ vs) (fields_in order (with_number v) fs bytes)

    Q : Value → List Value → List ℕ → Type 0
    Q v vs' rest = (vs : List Value) × (v ∷ vs ≡ vs') × AreFieldsAfter order (with_number v) fs vs rest

    regrouped : (v : Value) (vs : List Value)
        → (numbers ++ number_of v ∷ []) ++ map number_of vs ≡ numbers ++ map number_of (v ∷ vs)
    regrouped v vs = append_assoc numbers (number_of v ∷ []) (map number_of vs)

    sound : (v : Value) → AreSound (length (with_number v)) fs
    sound v = subst (λ i. AreSound i fs) (sym (length-append numbers (number_of v ∷ []))) h.1

    others : ((v : Value) → IsExact (fields_in order (with_number v) fs) (AreFieldsAfter order (with_number v) fs))
        → (v : Value) → IsExact (next v) (Q v)
    others exact v =
        found_map-exact (λ vs. v ∷ vs) (fields_in order (with_number v) fs) (AreFieldsAfter order (with_number v) fs)
        (Q v) (exact v) (λ vs front r. (vs, refl, r)) (λ vs front q. q)

    to : (vs : List Value) (front : List ℕ) → Follows R Q vs front → AreFieldsAfter order numbers (f ∷ fs) vs front
    to vs' bytes (v, front, rest, split, r, (vs, same, q)) =
        subst (λ vs. AreFieldsAfter order numbers (f ∷ fs) vs bytes) same (
          front,
          rest,
          split,
          (IsField-earlier order numbers (map number_of (v ∷ vs)) f.form f.counts v front h.0).0 r,
          subst (λ ns. AreFields order ns fs vs rest) (regrouped v vs) q,
        )

    from : (vs : List Value) (front : List ℕ) → AreFieldsAfter order numbers (f ∷ fs) vs front → Follows R Q vs front
    from [] bytes s = absurd s
    from (v ∷ vs) bytes (front, rest, split, r, q) = (
      v,
      front,
      rest,
      split,
      (IsField-earlier order numbers (map number_of (v ∷ vs)) f.form f.counts v front h.0).1
          r,
      (vs, refl, subst (λ ns. AreFields order ns fs vs rest) (sym (regrouped v vs)) q),
    )

-- the tail's test
tail_ends : ℕ → Bool
tail_ends n = n == 0 || n == 4

or-right : (b : Bool) → (b || true) ≡ true
or-right true = refl
or-right false = refl

choice : Bool → ℕ → List Value × List ℕ → Result (List Value × List ℕ) BodyFault
choice b n x = if b then Ok x else Err (record { field = n; reason = BodyLong })

ended-choice : (n : ℕ) (x : List Value × List ℕ) → whole_body n x ≡ choice (tail_ends (length x.1)) n x
unfolding choice tail_ends
ended-choice n x = refl

tail_ends-true : (n : ℕ) → (n ≡ 0) ⊎ (n ≡ 4) → tail_ends n ≡ true
unfolding tail_ends
tail_ends-true n (inl e) = ap (λ b. b || n == 4) (eq-eqb n 0 e)
tail_ends-true n (inr e) = ap (λ b. n == 0 || b) (eq-eqb n 4 e) ∙ or-right (n == 0)

pub ended-Ok : (n : ℕ) (x : List Value × List ℕ) → IsTail x.1 → whole_body n x ≡ Ok x
unfolding choice
ended-Ok n x t = ended-choice n x ∙ ap (λ b. choice b n x) (tail_ends-true (length x.1) t)

ended-Err-at : (n : ℕ) (x : List Value × List ℕ) → tail_ends (length x.1) ≡ false
    → whole_body n x ≡ Err (record { field = n; reason = BodyLong })
unfolding choice
ended-Err-at n x t = ended-choice n x ∙ ap (λ b. choice b n x) t

tail_ends-false : (n : ℕ) → (n ≡ 0 → ⊥) → (n ≡ 4 → ⊥) → tail_ends n ≡ false
unfolding tail_ends
tail_ends-false n some other = ap (λ b. b || n == 4) (ne_eqb n 0 some) ∙ ne_eqb n 4 other

pub ended-Err : (n : ℕ) (x : List Value × List ℕ) → (length x.1 ≡ 0 → ⊥) → (length x.1 ≡ 4 → ⊥)
    → whole_body n x ≡ Err (record { field = n; reason = BodyLong })
ended-Err n x some other = ended-Err-at n x (tail_ends-false (length x.1) some other)

tail_ends-tells : (n : ℕ) → tail_ends n ≡ true → (n ≡ 0) ⊎ (n ≡ 4)
unfolding tail_ends
tail_ends-tells n e = elim (or_cases (n == 0) (n == 4) e)
    [ inl a ↦ inl (eqb-true n 0 a) | inr b ↦ inr (eqb-true n 4 b) ]

pub ended-tail : (n : ℕ) (x y : List Value × List ℕ) → whole_body n x ≡ Ok y → IsTail x.1 × (x ≡ y)
unfolding choice
ended-tail n x y e = by (tail_ends (length x.1)) refl (sym (ended-choice n x) ∙ e)
  where
    by : (b : Bool) → tail_ends (length x.1) ≡ b → choice b n x ≡ Ok y → IsTail x.1 × (x ≡ y)
    by true is f = (tail_ends-tells (length x.1) is, Ok-same {E = BodyFault} x y f)
    by false is f = cc

-- A body's reading gives just the values and the tail that the body spells.
pub body_in-found : (order : Order) (fields : List Field) → AreSound 0 fields
    → (bytes : List ℕ) (values : List Value) (tail : List ℕ) → body_in order fields bytes ≡ Ok (values, tail)
    → IsBody order fields values tail bytes
unfolding body_in
body_in-found order fields h bytes values tail e =
    let m = and_then-Ok (fields_in order [] fields bytes) (whole_body (length fields)) (values, tail) e in
    let t = ended-tail (length fields) m.0 (values, tail) m.2 in
    let g = (fields_in-exact order [] fields h).found bytes m.0 m.1 in
    subst (λ (x : List Value × List ℕ). IsBody order fields x.0 x.1 bytes) t.1
    (record { front = g.0; split = g.1; spelled = g.2; ends = t.0 })

pub body_in-again : (order : Order) (fields : List Field) → AreSound 0 fields
    → (bytes : List ℕ) (values : List Value) (tail : List ℕ) → IsBody order fields values tail bytes
    → body_in order fields bytes ≡ Ok (values, tail)
unfolding body_in
body_in-again order fields h bytes values tail b =
    ap (λ bytes. and_then (fields_in order [] fields bytes) (whole_body (length fields))) b.split
    ∙ ap (λ r. and_then r (whole_body (length fields)))
    ((fields_in-exact order [] fields h).again values b.front tail b.spelled)
    ∙ ended-Ok (length fields) (values, tail) b.ends

pub fault-or-body : FaultOrBody
fault-or-body order fields bytes sound = (to, from)
  where
    by : (r : Result (List Value × List ℕ) BodyFault) → result_err r ≡ None → (x : List Value × List ℕ) × (r ≡ Ok x)
    by (Ok x) e = (x, refl)
    by (Err fault) e = cc

    to : fault_of order fields bytes ≡ None → HasBody order fields bytes
    to e =
        let x = by (body_in order fields bytes) e in
        (x.0.0, x.0.1, body_in-found order fields sound bytes x.0.0 x.0.1 x.1)

    from : HasBody order fields bytes → fault_of order fields bytes ≡ None
    from (values, tail, body) = ap result_err (body_in-again order fields sound bytes values tail body)

pub bodies-unique : BodiesAreUnique
bodies-unique order fields bytes sound values others tail end body other =
    let same = Ok-same {E = BodyFault} (values, tail) (others, end)
    (sym (body_in-again order fields sound bytes values tail body)
    ∙ body_in-again order fields sound bytes others end other) in
    (ap (λ (x : List Value × List ℕ). x.0) same, ap (λ (x : List Value × List ℕ). x.1) same)
