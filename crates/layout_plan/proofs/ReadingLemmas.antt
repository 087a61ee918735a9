-- The reading of the first of some fields, and of the others after them.
use Rattle.std.proofs.Common.{◌≡◌, ℕ, zero, suc, ◌+◌, ◌<◌, ◌≤◌, List, [], ◌∷◌, ◌++◌, length, take, drop, map, Result}
use Rattle.std.proofs.Common.{Ok, Err, Some, refl, sym, ap, ◌∙◌, subst, arith, append_assoc, append-nil}
use Rattle.std.specs.Prelude.{slice_get}
use Rattle.std.proofs.lemmas.List.{length-map, take-append-drop}
use Rattle.std.proofs.lemmas.Option.{same_Some, slice_get_within}
use Rattle.scalar_types.specs.declared.Order.{Order}
use Rattle.record_values.specs.declared.values.Value.{Value}
use Rattle.layout_plan.specs.declared.fields.Field.{Field}
use Rattle.layout_plan.specs.declared.faults.BodyReason.{BodyReason}
use Rattle.layout_plan.specs.declared.faults.BodyFault.{BodyFault}
use Rattle.layout_plan.specs.Body.{number_of}
use Rattle.layout_plan.specs.Reading.{Found, and_then, found_map, field_in, at_field, fields_in}
use Rattle.layout_plan.proofs.ExactLemmas.{Ok-same, and_then-Ok, found_map-Ok}
use Rattle.layout_plan.proofs.WalkLemmas.{found_map-none}

-- the reading of the first k fields, and of the others after them
pub record IsSplit (order : Order) (numbers : List ℕ) (fields : List Field) (k : ℕ) (bytes : List ℕ)
    (values : List Value) (rest : List ℕ) : Type 0 where
  pub mid : List ℕ
  pub first : fields_in order numbers (take k fields) bytes ≡ Ok (take k values, mid)
  pub others : fields_in order (numbers ++ map number_of (take k values)) (drop k fields) mid ≡ Ok (drop k values, rest)

at_field-Ok : {X : Type 0} (i : ℕ) (r : Found X) (x : X × List ℕ) → at_field i r ≡ Ok x → r ≡ Ok x
at_field-Ok i (Ok y) x e = ap Ok (Ok-same {E = BodyFault} y x e)
at_field-Ok i (Err reason) x e = cc

pub fields_in-split : (order : Order) (numbers : List ℕ) (fields : List Field) (k : ℕ) (bytes : List ℕ)
    (values : List Value) (rest : List ℕ) → k ≤ length fields → fields_in order numbers fields bytes ≡ Ok (values, rest)
    → IsSplit order numbers fields k bytes values rest
fields_in-split order numbers fields zero bytes values rest le e = record {
  mid = bytes;
  first = refl;
  others = ap (λ ns. fields_in order ns fields bytes) (append-nil numbers) ∙ e;
}
fields_in-split order numbers [] (suc k) bytes values rest le e = absurd (omega arith)
fields_in-split order numbers (f ∷ fs) (suc k) bytes values rest le e =
    let x = and_then-Ok (at_field (length numbers) (field_in order numbers f.form f.counts bytes))
    (λ (v : Value × List ℕ). found_map (λ vs. v.0 ∷ vs) (fields_in order (numbers ++ number_of v.0 ∷ []) fs v.1))
    (values, rest) e in
    let y = found_map-Ok (λ vs. x.0.0 ∷ vs) (fields_in order (numbers ++ number_of x.0.0 ∷ []) fs x.0.1)
    (values, rest) x.2 in
    let s = fields_in-split order (numbers ++ number_of x.0.0 ∷ []) fs k x.0.1 y.0.0 y.0.1 (omega arith) y.1 in
    subst (λ (z : List Value × List ℕ). IsSplit order numbers (f ∷ fs) (suc k) bytes z.0 z.1) y.2 (record {
      mid = s.mid;
      first = ap (λ r. and_then r
          (λ (v : Value × List ℕ). found_map (λ vs. v.0 ∷ vs)
          (fields_in order (numbers ++ number_of v.0 ∷ []) (take k fs) v.1))) x.1
          ∙ ap (found_map (λ vs. x.0.0 ∷ vs)) s.first;
      others = ap (λ ns. fields_in order ns (drop k fs) s.mid)
          (sym (append_assoc numbers (number_of x.0.0 ∷ []) (map number_of (take k y.0.0)))) ∙ s.others;
    })

-- the first of some fields
fields_in-first : (order : Order) (numbers : List ℕ) (f : Field) (fs : List Field) (bytes : List ℕ)
    (values : List Value) (rest : List ℕ) → fields_in order numbers (f ∷ fs) bytes ≡ Ok (values, rest)
    → (x : Value × List ℕ) × (field_in order numbers f.form f.counts bytes ≡ Ok x)
    × ((vs : List Value) × (values ≡ x.0 ∷ vs))
fields_in-first order numbers f fs bytes values rest e =
    let x = and_then-Ok (at_field (length numbers) (field_in order numbers f.form f.counts bytes))
    (λ (v : Value × List ℕ). found_map (λ vs. v.0 ∷ vs) (fields_in order (numbers ++ number_of v.0 ∷ []) fs v.1))
    (values, rest) e in
    let y = found_map-Ok (λ vs. x.0.0 ∷ vs) (fields_in order (numbers ++ number_of x.0.0 ∷ []) fs x.0.1)
    (values, rest) x.2 in (
      x.0,
      at_field-Ok (length numbers) (field_in order numbers f.form f.counts bytes) x.0 x.1,
      (y.0.0, sym (ap (λ (z : List Value × List ℕ). z.0) y.2)),
    )

-- the reading of more fields after some
pub fields_in-on : (order : Order) (numbers : List ℕ) (fs gs : List Field) (bytes mid : List ℕ) (vs : List Value)
    → fields_in order numbers fs bytes ≡ Ok (vs, mid)
    → fields_in order numbers (fs ++ gs) bytes
    ≡ found_map (λ others. vs ++ others) (fields_in order (numbers ++ map number_of vs) gs mid)
fields_in-on order numbers [] gs bytes mid vs e =
    subst (λ (z : List Value × List ℕ). fields_in order numbers gs bytes
    ≡ found_map (λ others. z.0 ++ others) (fields_in order (numbers ++ map number_of z.0) gs z.1))
    (Ok-same {E = BodyFault} ([], bytes) (vs, mid) e) (found_map-none (fields_in order numbers gs bytes)
    ∙ ap (λ ns. found_map (λ others. [] ++ others) (fields_in order ns gs bytes)) (sym (append-nil numbers)))
fields_in-on order numbers (f ∷ fs) gs bytes mid vs e =
    let x = and_then-Ok (at_field (length numbers) (field_in order numbers f.form f.counts bytes))
    (λ (v : Value × List ℕ). found_map (λ vs. v.0 ∷ vs)
    (fields_in order (numbers ++ number_of v.0 ∷ []) fs v.1)) (vs, mid) e in
    let y = found_map-Ok (λ vs. x.0.0 ∷ vs) (fields_in order (numbers ++ number_of x.0.0 ∷ []) fs x.0.1)
    (vs, mid) x.2 in
    subst (λ (z : List Value × List ℕ). fields_in order numbers (f ∷ (fs ++ gs)) bytes
    ≡ found_map (λ others. z.0 ++ others) (fields_in order (numbers ++ map number_of z.0) gs z.1)) y.2
    (ap (λ r. and_then r (λ (v : Value
    × List ℕ). found_map (λ vs. v.0 ∷ vs) (fields_in order (numbers ++ number_of v.0 ∷ []) (fs ++ gs) v.1))) x.1
    ∙ ap (found_map (λ vs. x.0.0 ∷ vs))
    (fields_in-on order (numbers ++ number_of x.0.0 ∷ []) fs gs x.0.1 y.0.1 y.0.0 y.1) ∙ joined x.0.0 y.0.0 _
    ∙ ap (λ ns. found_map (λ others. x.0.0 ∷ (y.0.0 ++ others)) (fields_in order ns gs y.0.1))
    (append_assoc numbers (number_of x.0.0 ∷ []) (map number_of y.0.0)))
  where
    joined : (v : Value) (vs : List Value) (r : Result (List Value × List ℕ) BodyFault)
        → found_map (λ vs. v ∷ vs) (found_map (λ others. vs ++ others) r) ≡ found_map (λ others. v ∷ (vs ++ others)) r
    joined v vs (Ok z) = refl
    joined v vs (Err fault) = refl

-- the list before and after an element
pub slice_get-drop : {X : Type 0} (xs : List X) (k : ℕ) (x : X) (ys : List X) → drop k xs ≡ x ∷ ys
    → (slice_get xs k ≡ Some x) × (take (k + 1) xs ≡ take k xs ++ x ∷ [])
slice_get-drop [] zero x ys e = cc
slice_get-drop [] (suc k) x ys e = cc
slice_get-drop (y ∷ xs) zero x ys e = let same : y ≡ x = cc in (ap Some same, ap (λ y. y ∷ []) same)
slice_get-drop (y ∷ xs) (suc k) x ys e =
    let d = slice_get-drop xs k x ys e in
    let more : suc k + 1 ≡ suc (k + 1) = omega arith in
    (d.0, ap (λ n. take n (y ∷ xs)) more ∙ ap (λ ys. y ∷ ys) d.1)

pub element-within : {X : Type 0} (xs : List X) (k : ℕ) → k < length xs → (x : X) × (slice_get xs k ≡ Some x)
element-within [] k lt = absurd (omega arith)
element-within (x ∷ xs) zero lt = (x, refl)
element-within (x ∷ xs) (suc k) lt = element-within xs k (omega arith)

-- an element's place in a list
pub record IsElement {X : Type 0} (xs : List X) (k : ℕ) (x : X) : Type 0 where
  pub from : drop k xs ≡ x ∷ drop (k + 1) xs
  pub through : take (k + 1) xs ≡ take k xs ++ x ∷ []

pub element-at : {X : Type 0} (xs : List X) (k : ℕ) (x : X) → slice_get xs k ≡ Some x → IsElement xs k x
element-at [] k x e = cc
element-at (y ∷ xs) zero x e =
    let same = same_Some y x e in
    record { from = ap (λ z. z ∷ xs) same; through = ap (λ z. z ∷ []) same }
element-at (y ∷ xs) (suc k) x e =
    let more : suc k + 1 ≡ suc (k + 1) = omega arith in
    let at = element-at xs k x e in
    record {
      from = at.from ∙ ap (λ n. x ∷ drop n (y ∷ xs)) (sym more);
      through = ap (λ n. take n (y ∷ xs)) more ∙ ap (λ zs. y ∷ zs) at.through;
    }

-- one more field at the end
pub fields_in-push : (order : Order) (fields : List Field) (k : ℕ) (f : Field) (bytes mid end : List ℕ)
    (vs : List Value) (v : Value) → slice_get fields k ≡ Some f
    → fields_in order [] (take k fields) bytes ≡ Ok (vs, mid)
    → field_in order (map number_of vs) f.form f.counts mid ≡ Ok (v, end)
    → fields_in order [] (take (k + 1) fields) bytes ≡ Ok (vs ++ v ∷ [], end)
fields_in-push order fields k f bytes mid end vs v is e h =
    ap (λ fs. fields_in order [] fs bytes) (element-at fields k f is).through
    ∙ fields_in-on order [] (take k fields) (f ∷ []) bytes mid vs e
    ∙ ap (λ r. found_map (λ others. vs ++ others)
    (and_then (at_field (length (map number_of vs)) r)
    (λ (v : Value × List ℕ). found_map (λ vs. v.0 ∷ vs)
    (fields_in order (map number_of vs ++ number_of v.0 ∷ []) [] v.1)))) h

-- a field without a spelling
pub fields_in-stops : (order : Order) (fields : List Field) (k : ℕ) (f : Field) (bytes mid : List ℕ) (vs : List Value)
    (reason : BodyReason) → slice_get fields k ≡ Some f → length vs ≡ k
    → fields_in order [] (take k fields) bytes ≡ Ok (vs, mid)
    → field_in order (map number_of vs) f.form f.counts mid ≡ Err reason
    → fields_in order [] fields bytes ≡ Err (record { field = k; reason = reason })
fields_in-stops order fields k f bytes mid vs reason is count e h =
    ap (λ fs. fields_in order [] fs bytes) (sym (take-append-drop k fields)
    ∙ ap (λ fs. take k fields ++ fs) (element-at fields k f is).from)
    ∙ fields_in-on order [] (take k fields) (f ∷ drop (k + 1) fields) bytes mid vs e
    ∙ ap (λ r. found_map (λ others. vs ++ others)
    (and_then (at_field (length (map number_of vs)) r)
    (λ (v : Value × List ℕ). found_map (λ vs. v.0 ∷ vs)
    (fields_in order (map number_of vs ++ number_of v.0 ∷ []) (drop (k + 1) fields) v.1)))) h
    ∙ ap (λ n. Err (fault n reason)) (length-map vs number_of ∙ count)
  where
    fault : ℕ → BodyReason → BodyFault
    fault n reason = record { field = n; reason = reason }

-- field k, where the fields before it end and the fields on from it are read
pub record IsBetween (order : Order) (f : Field) (vs : List Value) (mid : List ℕ) (values : List Value)
    (k : ℕ) : Type 0 where
  pub value : Value
  pub after : List ℕ
  pub reads : field_in order (map number_of vs) f.form f.counts mid ≡ Ok (value, after)
  pub here : slice_get values k ≡ Some value
  pub before : take k values ≡ vs

pub field-between : (order : Order) (fields : List Field) (k : ℕ) (f : Field) (bytes mid rest : List ℕ)
    (vs values : List Value) → slice_get fields k ≡ Some f → fields_in order [] (take k fields) bytes ≡ Ok (vs, mid)
    → fields_in order [] fields bytes ≡ Ok (values, rest) → IsBetween order f vs mid values k
field-between order fields k f bytes mid rest vs values is first whole =
    let lt = slice_get_within fields k f is in
    let split = fields_in-split order [] fields k bytes values rest (omega arith) whole in
    let same : ◌≡◌ {A = List Value × List ℕ} (take k values, split.mid) (vs, mid) =
    Ok-same {E = BodyFault} (take k values, split.mid) (vs, mid) (sym split.first ∙ first) in
    let others = ap (λ (z : List Value × List ℕ). fields_in order (map number_of z.0) (f ∷ drop (k + 1) fields) z.1)
    (sym same) ∙ ap (λ fs. fields_in order (map number_of (take k values)) fs split.mid)
    (sym (element-at fields k f is).from) ∙ split.others in
    let x = fields_in-first order (map number_of vs) f (drop (k + 1) fields) mid (drop k values) rest others in
    record {
      value = x.0.0;
      after = x.0.1;
      reads = x.1;
      here = (slice_get-drop values k x.0.0 x.2.0 x.2.1).0;
      before = ap (λ (z : List Value × List ℕ). z.0) same;
    }

-- as many values as fields
pub fields_in-length : (order : Order) (numbers : List ℕ) (fields : List Field) (bytes : List ℕ) (values : List Value)
    (rest : List ℕ) → fields_in order numbers fields bytes ≡ Ok (values, rest) → length values ≡ length fields
fields_in-length order numbers [] bytes values rest e =
    sym (ap (λ (z : List Value × List ℕ). length z.0) (Ok-same {E = BodyFault} ([], bytes) (values, rest) e))
fields_in-length order numbers (f ∷ fs) bytes values rest e =
    let x = and_then-Ok (at_field (length numbers) (field_in order numbers f.form f.counts bytes))
    (λ (v : Value × List ℕ). found_map (λ vs. v.0 ∷ vs) (fields_in order (numbers ++ number_of v.0 ∷ []) fs v.1))
    (values, rest) e in
    let y = found_map-Ok (λ vs. x.0.0 ∷ vs) (fields_in order (numbers ++ number_of x.0.0 ∷ []) fs x.0.1)
    (values, rest) x.2 in
    sym (ap (λ (z : List Value × List ℕ). length z.0) y.2)
    ∙ ap suc (fields_in-length order (numbers ++ number_of x.0.0 ∷ []) fs x.0.1 y.0.0 y.0.1 y.1)
