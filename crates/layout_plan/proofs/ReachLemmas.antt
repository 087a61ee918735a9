-- How far a walk over the varied fields has come.
use Rattle.std.proofs.Common.{◌≡◌, ℕ, zero, suc, ◌+◌, ◌-◌, ◌<◌, ◌≤◌, inl, inr, true, is_none, List, [], ◌∷◌, ◌++◌}
use Rattle.std.proofs.Common.{length, take, drop, get_or, set, map, Result, Ok, Err, Option, Some, None, refl, sym, ap}
use Rattle.std.proofs.Common.{◌∙◌, subst, arith}
use Rattle.std.specs.Prelude.{slice_get}
use Rattle.std.proofs.lemmas.List.{take_rest, length-drop, length-set, length-take-le, drop-drop, get_or-set_same}
use Rattle.std.proofs.lemmas.List.{get_or-set_other}
use Rattle.std.proofs.lemmas.Bool.{cases_lt}
use Rattle.std.proofs.lemmas.Option.{slice_get_within, get_or_from_slice_get}
use Rattle.scalar_types.specs.declared.Order.{Order}
use Rattle.record_values.specs.declared.values.Value.{Value}
use Rattle.layout_plan.specs.declared.fields.Field.{Field}
use Rattle.layout_plan.specs.declared.faults.BodyReason.{BodyReason}
use Rattle.layout_plan.specs.declared.faults.BodyReason.TheVariants.{BodyShort}
use Rattle.layout_plan.specs.declared.marks.Mark.{Mark}
use Rattle.layout_plan.specs.declared.spelled.Spelled.{Spelled}
use Rattle.layout_plan.specs.Body.{number_of, value_length, values_length}
use Rattle.layout_plan.specs.Reading.{field_in, fields_in}
use Rattle.layout_plan.specs.Marks.{is_varied, past, mark_of, end_of, place_of}
use Rattle.layout_plan.specs.Spelled.{Tells}
use Rattle.layout_plan.specs.Walking.{IsReached, AreNumbers, ArePlaces, IsWalked}
use Rattle.layout_plan.proofs.SpelledLemmas.{fixed-field}
use Rattle.layout_plan.proofs.MarkLemmas.{width_of, mark_of-more, mark_of-later, IsLater-varied, IsLater-skip}
use Rattle.layout_plan.proofs.ReadingLemmas.{element-at, element-within, fields_in-push, fields_in-stops}
use Rattle.layout_plan.proofs.ReadingLemmas.{fields_in-length}

pub IsReached-none : (order : Order) (fields : List Field) (body : List ℕ) → IsReached order fields body 0 0 0
IsReached-none order fields body = record {
  values = [];
  reads = refl;
  sizes = none fields;
  within = omega arith;
  few_texts = omega arith;
}
  where
    none : (fields : List Field) → 0 ≡ values_length (take 0 fields) []
    none [] = refl
    none (f ∷ fs) = refl

values_length-push : (fs : List Field) (vs : List Value) (f : Field) (v : Value) → length fs ≡ length vs
    → values_length (fs ++ f ∷ []) (vs ++ v ∷ []) ≡ values_length fs vs + value_length f.form v
values_length-push [] [] f v same = omega arith
values_length-push [] (w ∷ vs) f v same = absurd (omega arith)
values_length-push (g ∷ fs) [] f v same = absurd (omega arith)
values_length-push (g ∷ fs) (w ∷ vs) f v same =
    let others = values_length-push fs vs f v (omega arith) in omega arith

-- one more field
IsReached-more : (order : Order) (fields : List Field) (body : List ℕ) (k at zero_texts : ℕ) (f : Field) (v : Value)
    (size bare : ℕ) (before : IsReached order fields body k at zero_texts) → slice_get fields k ≡ Some f
    → field_in order (map number_of before.values) f.form f.counts (drop at body) ≡ Ok (v, drop size (drop at body))
    → size ≤ length (drop at body) → size + bare ≡ value_length f.form v → bare ≤ size
    → IsReached order fields body (k + 1) (at + size) (zero_texts + bare)
IsReached-more order fields body k at zero_texts f v size bare before is told fits long few = record {
  values = before.values ++ v ∷ [];
  reads = fields_in-push order fields k f body (drop at body) (drop size (drop at body)) before.values v is before.reads
      told ∙ ap (λ rest. Ok (before.values ++ v ∷ [], rest)) (drop-drop size at body);
  sizes = let sums = ap (λ fs. values_length fs (before.values ++ v ∷ [])) (element-at fields k f is).through
      ∙ values_length-push (take k fields) before.values f v
      (sym (fields_in-length order [] (take k fields) body before.values (drop at body) before.reads)) in
      omega (arith, before.sizes, long, sums);
  within = omega (arith, before.within, fits, length-drop at body);
  few_texts = omega (arith, before.few_texts, few);
}

-- a field without a spelling
IsReached-stops : (order : Order) (fields : List Field) (body : List ℕ) (k at zero_texts : ℕ) (f : Field)
    (reason : BodyReason) (before : IsReached order fields body k at zero_texts) → slice_get fields k ≡ Some f
    → field_in order (map number_of before.values) f.form f.counts (drop at body) ≡ Err reason
    → fields_in order [] fields body ≡ Err (record { field = k; reason = reason })
IsReached-stops order fields body k at zero_texts f reason before is told =
    let lt = slice_get_within fields k f is in
    let count = fields_in-length order [] (take k fields) body before.values (drop at body) before.reads
    ∙ length-take-le k fields (omega arith) in
    fields_in-stops order fields k f body (drop at body) before.values reason is count before.reads told

-- one more field of fixed width
IsReached-fixed : (order : Order) (fields : List Field) (body : List ℕ) (k at zero_texts : ℕ) (f : Field) (width : ℕ)
    → IsReached order fields body k at zero_texts → slice_get fields k ≡ Some f → width_of f ≡ Some width
    → at + width ≤ length body → IsReached order fields body (k + 1) (at + width) zero_texts
IsReached-fixed order fields body k at zero_texts f width before is fixed fits =
    let room : width ≤ length (drop at body) = omega (arith, length-drop at body, before.within) in
    let here = (fixed-field order (map number_of before.values) f.form f.counts width fixed).enough
    (drop at body) room in
    subst (IsReached order fields body (k + 1) (at + width)) (omega arith)
    (IsReached-more order fields body k at zero_texts f here.0 width 0 before is here.1 room
    (omega (arith, here.2)) (omega arith))

-- the field at a place of a list
pub field-at : (fields items : List Field) (k : ℕ) (f g : Field) → items ≡ fields → f ≡ get_or items k f
    → slice_get fields k ≡ Some g → f ≡ g
field-at fields items k f g same is at =
    is ∙ ap (λ fields. get_or fields k f) same ∙ get_or_from_slice_get fields k g f at

-- what is told of field k, by the numbers of the fields before it
abbrev pub TellsField : Order → List Field → List ℕ → ℕ → Field → List ℕ → Result Spelled BodyReason → Type 0
TellsField order fields body k f rest r =
    (numbers : List ℕ) → AreNumbers order fields body k numbers
    → Tells (field_in order numbers f.form f.counts rest) f.form rest r

spelled-Tells : (order : Order) (fields : List Field) (body : List ℕ) (k at zero_texts : ℕ) (f : Field)
    (r : Result Spelled BodyReason) (before : IsReached order fields body k at zero_texts)
    → TellsField order fields body k f (take (length body - at) (drop at body)) r
    → Tells (field_in order (map number_of before.values) f.form f.counts (drop at body)) f.form (drop at body) r
spelled-Tells order fields body k at zero_texts f r before told =
    let numbers = map number_of before.values in
    subst (λ rest. Tells (field_in order numbers f.form f.counts rest) f.form rest r) (take_rest body at)
    (told numbers (before.values, drop at body, before.reads, refl))

-- one more field, as its spelling is told
pub IsReached-spelled : (order : Order) (fields : List Field) (body : List ℕ) (k at zero_texts : ℕ) (f : Field)
    (s : Spelled) → IsReached order fields body k at zero_texts → slice_get fields k ≡ Some f
    → TellsField order fields body k f (take (length body - at) (drop at body)) (Ok s)
    → IsReached order fields body (k + 1) (at + s.length) (zero_texts + s.zero_texts)
IsReached-spelled order fields body k at zero_texts f s before is told =
    let t = spelled-Tells order fields body k at zero_texts f (Ok s) before told in
    IsReached-more order fields body k at zero_texts f t.value s.length s.zero_texts before is t.is t.within
    t.size t.few_texts

pub IsReached-unspelled : (order : Order) (fields : List Field) (body : List ℕ) (k at zero_texts : ℕ) (f : Field)
    (reason : BodyReason) → IsReached order fields body k at zero_texts → slice_get fields k ≡ Some f
    → TellsField order fields body k f (take (length body - at) (drop at body)) (Err reason)
    → fields_in order [] fields body ≡ Err (record { field = k; reason = reason })
IsReached-unspelled order fields body k at zero_texts f reason before is told =
    IsReached-stops order fields body k at zero_texts f reason before is
    (spelled-Tells order fields body k at zero_texts f (Err reason) before told)

-- a field at its place
pub record IsAt (order : Order) (fields : List Field) (body : List ℕ) (i : ℕ) (ends : List ℕ) (mark : Mark)
    (at : ℕ) : Type 0 where
  pub room : mark.varied ≤ length ends
  pub below : end_of ends mark.varied ≤ length body
  pub zero_texts : ℕ
  pub reached : IsReached order fields body i (place_of ends mark) zero_texts
  pub here : at ≡ place_of ends mark → IsReached order fields body i at zero_texts

pub ArePlaces-at : (order : Order) (fields : List Field) (body : List ℕ) (k i : ℕ) (ends : List ℕ) (mark : Mark)
    (at : ℕ) → ArePlaces order fields body k ends → i ≤ k → mark ≡ mark_of fields i
    → IsAt order fields body i ends mark at
ArePlaces-at order fields body k i ends mark at places le is = record {
  room = omega (
    arith,
    varied,
    places.room,
    IsLater-varied (mark_of fields i) (mark_of fields k) (mark_of-later fields i k le),
  );
  below = omega (arith, reached.within);
  zero_texts = (places.reached i le).0;
  reached = reached;
  here = λ at_is. subst (λ at. IsReached order fields body i at (places.reached i le).0) (sym at_is) reached;
}
  where
    varied : mark.varied ≡ (mark_of fields i).varied
    varied = ap (λ (m : Mark). m.varied) is

    reached : IsReached order fields body i (place_of ends mark) (places.reached i le).0
    reached = subst (λ m. IsReached order fields body i (place_of ends m) (places.reached i le).0) (sym is)
        (places.reached i le).1

-- fewer places are known too
pub ArePlaces-fewer : (order : Order) (fields : List Field) (body : List ℕ) (k i : ℕ) (ends : List ℕ) → i ≤ k
    → ArePlaces order fields body k ends → ArePlaces order fields body i ends
ArePlaces-fewer order fields body k i ends le places = record {
  room = omega (arith, places.room, IsLater-varied (mark_of fields i) (mark_of fields k) (mark_of-later fields i k le));
  reached = λ j lt. places.reached j (omega arith);
}

-- nothing is walked over yet
pub IsWalked-none : (order : Order) (fields : List Field) (body ends : List ℕ) → IsWalked order fields body 0 ends 0
IsWalked-none order fields body ends = record {
  next = 0;
  few = omega arith;
  mark = refl;
  before = λ i lt. absurd (omega arith);
  reached = IsReached-none order fields body;
  places = record {
    room = omega arith;
    reached = λ i le. let first : 0 ≡ i = omega arith in
        subst (λ i. (zero_texts : ℕ)
        × IsReached order fields body i (place_of ends (mark_of fields i)) zero_texts) first (
          0,
          IsReached-none order fields body,
        );
  };
}

-- the place of a mark of no further bytes
at-end : (ends : List ℕ) (varied : ℕ) (mark : Mark) → mark ≡ record { varied = varied; skip = 0 }
    → end_of ends varied ≡ place_of ends mark
at-end ends varied mark is =
    let more : end_of ends varied ≡ end_of ends varied + 0 = omega arith in more ∙ ap (place_of ends) (sym is)

-- field k is reached where its place is within the body and no varied field stands between
abbrev IsRunTo : Order → List Field → List ℕ → ℕ → List ℕ → ℕ → ℕ → Type 0
IsRunTo order fields body varied ends zero_texts k =
    k ≤ length fields → (mark_of fields k).varied ≡ varied → place_of ends (mark_of fields k) ≤ length body
    → IsReached order fields body k (place_of ends (mark_of fields k)) zero_texts

-- the fields of fixed width after the last varied one, as far as they are whole
run-from : (order : Order) (fields : List Field) (body : List ℕ) (varied : ℕ) (ends : List ℕ) (zero_texts : ℕ)
    (walked : IsWalked order fields body varied ends zero_texts) (n k : ℕ) → k ≡ n + walked.next
    → IsRunTo order fields body varied ends zero_texts k
run-from order fields body varied ends zero_texts walked zero k is few same fits =
    let at_next : walked.next ≡ k = omega arith in
    let here = at-end ends varied (mark_of fields k) (ap (mark_of fields) (sym at_next) ∙ walked.mark) in
    subst (λ at. IsReached order fields body k at zero_texts) here
    (subst (λ k. IsReached order fields body k (end_of ends varied) zero_texts) at_next walked.reached)
run-from order fields body varied ends zero_texts walked (suc n) k is few same fits =
    one_more (n + walked.next) (omega arith) (omega arith)
    (run-from order fields body varied ends zero_texts walked n (n + walked.next) refl)
  where
    one_more : (j : ℕ) → k ≡ j + 1 → walked.next ≤ j → IsRunTo order fields body varied ends zero_texts j
        → IsReached order fields body k (place_of ends (mark_of fields k)) zero_texts
    one_more j is le others = by (width_of f.0) refl
      where
        f : (f : Field) × (slice_get fields j ≡ Some f)
        f = element-within fields j (omega arith)

        mark_is : mark_of fields k ≡ past (mark_of fields j) (width_of f.0)
        mark_is = ap (mark_of fields) is ∙ mark_of-more fields j f.0 f.1

        low : varied ≤ (mark_of fields j).varied
        low = omega (
          arith,
          IsLater-varied (mark_of fields walked.next) (mark_of fields j)
              (mark_of-later fields walked.next j le),
          ap (λ (m : Mark). m.varied) walked.mark,
        )

        by : (width : Option ℕ) → width_of f.0 ≡ width
            → IsReached order fields body k (place_of ends (mark_of fields k)) zero_texts
        by None fixed =
            let one_on = ap (λ (m : Mark). m.varied) (mark_is ∙ ap (past (mark_of fields j)) fixed) in
            absurd (omega (arith, one_on, low))
        by (Some width) fixed =
            let at : mark_of fields k
            ≡ record { varied = (mark_of fields j).varied; skip = (mark_of fields j).skip + width } = mark_is
            ∙ ap (past (mark_of fields j)) fixed in
            let place : place_of ends (mark_of fields k) ≡ place_of ends (mark_of fields j) + width =
            ap (place_of ends) at ∙ omega arith in
            let here = others (omega arith) (sym (ap (λ (m : Mark). m.varied) at) ∙ same) (omega (arith, place)) in
            let on = IsReached-fixed order fields body j (place_of ends (mark_of fields j)) zero_texts f.0 width here
            f.1 fixed (omega (arith, place)) in
            subst (λ k. IsReached order fields body k (place_of ends (mark_of fields k)) zero_texts) (sym is)
            (subst (λ at. IsReached order fields body (j + 1) at zero_texts) (sym place
            ∙ ap (λ k. place_of ends (mark_of fields k)) is) on)

run-to : (order : Order) (fields : List Field) (body : List ℕ) (varied : ℕ) (ends : List ℕ) (zero_texts : ℕ)
    (walked : IsWalked order fields body varied ends zero_texts) (k : ℕ) → walked.next ≤ k
    → IsRunTo order fields body varied ends zero_texts k
run-to order fields body varied ends zero_texts walked k le =
    run-from order fields body varied ends zero_texts walked (k - walked.next) k (omega arith)

-- a mark that counts as many varied fields stands no earlier than the next field
next-below : (order : Order) (fields : List Field) (body : List ℕ) (varied : ℕ) (ends : List ℕ) (zero_texts : ℕ)
    (walked : IsWalked order fields body varied ends zero_texts) (k : ℕ) → (mark_of fields k).varied ≡ varied
    → walked.next ≤ k
next-below order fields body varied ends zero_texts walked k same = elim (cases_lt k walked.next) [
  | inl lt ↦ absurd (omega (arith, walked.before k lt))
  | inr le ↦ le
]

-- a mark between two that count as many varied fields counts as many
between : (fields : List Field) (i j k : ℕ) → i ≤ j → j ≤ k → (mark_of fields i).varied ≡ (mark_of fields k).varied
    → (mark_of fields j).varied ≡ (mark_of fields k).varied
between fields i j k first second same =
    omega (
      arith,
      IsLater-varied (mark_of fields i) (mark_of fields j) (mark_of-later fields i j first),
      IsLater-varied (mark_of fields j) (mark_of fields k) (mark_of-later fields j k second),
    )

-- the ends of so many varied fields are known, and are within the body
pub IsWalked-room : (order : Order) (fields : List Field) (body : List ℕ) (varied : ℕ) (ends : List ℕ) (zero_texts : ℕ)
    → IsWalked order fields body varied ends zero_texts → (varied ≤ length ends) × (end_of ends varied ≤ length body)
IsWalked-room order fields body varied ends zero_texts walked =
    (omega (arith, ap (λ (m : Mark). m.varied) walked.mark, walked.places.room), walked.reached.within)

-- the fields up to one whose place is within the body
pub IsWalked-start : (order : Order) (fields : List Field) (body : List ℕ) (k : ℕ) (ends : List ℕ) (zero_texts : ℕ)
    → IsWalked order fields body (mark_of fields k).varied ends zero_texts → k ≤ length fields
    → place_of ends (mark_of fields k) ≤ length body
    → IsReached order fields body k (place_of ends (mark_of fields k)) zero_texts × ArePlaces order fields body k ends
IsWalked-start order fields body k ends zero_texts walked few fits = (
  run-to order fields body varied ends zero_texts walked k low few refl fits,
  record { room = room; reached = reached },
)
  where
    varied : ℕ
    varied = (mark_of fields k).varied

    low : walked.next ≤ k
    low = next-below order fields body varied ends zero_texts walked k refl

    at_next : (mark_of fields walked.next).varied ≡ varied
    at_next = ap (λ (m : Mark). m.varied) walked.mark

    room : varied ≤ length ends
    room = omega (arith, at_next, walked.places.room)

    reached : (i : ℕ) → i ≤ k → (zero_texts : ℕ)
        × IsReached order fields body i (place_of ends (mark_of fields i)) zero_texts
    reached i le = elim (cases_lt walked.next i) [
      | inl lt ↦
          let same = between fields walked.next i k (omega arith) le at_next in
          let skip = IsLater-skip (mark_of fields i) (mark_of fields k) (mark_of-later fields i k le) same in (
            zero_texts,
            run-to order fields body varied ends zero_texts walked i (omega arith) (omega arith) same
                (omega (arith, skip, fits, ap (end_of ends) same)),
          )
      | inr early ↦ walked.places.reached i early
    ]

pub IsWalked-here : (order : Order) (fields : List Field) (body : List ℕ) (k : ℕ) (ends : List ℕ) (at zero_texts : ℕ)
    → IsWalked order fields body (mark_of fields k).varied ends zero_texts → k ≤ length fields
    → at ≡ place_of ends (mark_of fields k) → at ≤ length body
    → IsReached order fields body k at zero_texts × ArePlaces order fields body k ends
IsWalked-here order fields body k ends at zero_texts walked few is fits =
    let start = IsWalked-start order fields body k ends zero_texts walked few (omega (arith, is, fits)) in
    (subst (λ at. IsReached order fields body k at zero_texts) (sym is) start.0, start.1)

-- the field before one of the same run whose place is past the body's end
pub record IsBefore (fields : List Field) (body : List ℕ) (ends : List ℕ) (i k : ℕ) : Type 0 where
  pub some : 0 < i
  pub same : (mark_of fields (i - 1)).varied ≡ (mark_of fields k).varied
  pub cut : length body < place_of ends (mark_of fields (i - 1 + 1))

pub IsWalked-back : (order : Order) (fields : List Field) (body : List ℕ) (i k : ℕ) (ends : List ℕ) (zero_texts : ℕ)
    → IsWalked order fields body (mark_of fields k).varied ends zero_texts
    → (mark_of fields i).varied ≡ (mark_of fields k).varied → length body < place_of ends (mark_of fields i)
    → IsBefore fields body ends i k
IsWalked-back order fields body i k ends zero_texts walked same after = record {
  some = omega (arith, later);
  same = between fields walked.next (i - 1) i (omega (arith, later)) (omega arith) (at_next ∙ sym same) ∙ same;
  cut = let back : i ≡ i - 1 + 1 = omega (arith, later) in
      subst (λ i. length body < place_of ends (mark_of fields i)) back after;
}
  where
    at_next : (mark_of fields walked.next).varied ≡ (mark_of fields k).varied
    at_next = ap (λ (m : Mark). m.varied) walked.mark

    later : walked.next < i
    later = elim (cases_lt walked.next i) [
      | inl lt ↦ lt
      | inr le ↦
          let here : i ≡ walked.next =
          omega (arith, next-below order fields body (mark_of fields k).varied ends zero_texts walked i same) in
          let place = at-end ends (mark_of fields k).varied (mark_of fields i) (ap (mark_of fields) here
          ∙ walked.mark) in
          absurd (omega (arith, place, walked.reached.within))
    ]

-- a field that the body's end cuts
pub IsWalked-cut : (order : Order) (fields : List Field) (body : List ℕ) (i k : ℕ) (ends : List ℕ) (zero_texts : ℕ)
    → IsWalked order fields body (mark_of fields k).varied ends zero_texts → k ≤ length fields → i < k
    → (mark_of fields i).varied ≡ (mark_of fields k).varied → place_of ends (mark_of fields i) ≤ length body
    → length body < place_of ends (mark_of fields (i + 1))
    → fields_in order [] fields body ≡ Err (record { field = i; reason = BodyShort })
IsWalked-cut order fields body i k ends zero_texts walked few lt same begins cut = by (width_of f.0) refl
  where
    f : (f : Field) × (slice_get fields i ≡ Some f)
    f = element-within fields i (omega arith)

    mark_is : mark_of fields (i + 1) ≡ past (mark_of fields i) (width_of f.0)
    mark_is = mark_of-more fields i f.0 f.1

    here : IsReached order fields body i (place_of ends (mark_of fields i)) zero_texts
    here = run-to order fields body (mark_of fields k).varied ends zero_texts walked i
        (next-below order fields body (mark_of fields k).varied ends zero_texts walked i same) (omega arith) same begins

    by : (width : Option ℕ) → width_of f.0 ≡ width
        → fields_in order [] fields body ≡ Err (record { field = i; reason = BodyShort })
    by None fixed =
        let one_on = ap (λ (m : Mark). m.varied) (mark_is ∙ ap (past (mark_of fields i)) fixed) in
        absurd (omega (
          arith,
          one_on,
          same,
          IsLater-varied (mark_of fields (i + 1)) (mark_of fields k) (mark_of-later fields (i + 1) k (omega arith)),
        ))
    by (Some width) fixed =
        let place : place_of ends (mark_of fields (i + 1)) ≡ place_of ends (mark_of fields i) + width =
        ap (place_of ends) (mark_is ∙ ap (past (mark_of fields i)) fixed) ∙ omega arith in
        let short = (fixed-field order (map number_of here.values) f.0.form f.0.counts width fixed).few
        (drop (place_of ends (mark_of fields i)) body)
        (omega (arith, place, cut, begins, length-drop (place_of ends (mark_of fields i)) body)) in
        IsReached-stops order fields body i (place_of ends (mark_of fields i)) zero_texts f.0 BodyShort here f.1 short

-- the end that was noted last
pub end_of-set : (ends : List ℕ) (varied at : ℕ) → varied < length ends → at ≡ end_of (set ends varied at) (varied + 1)
end_of-set ends varied at room =
    let more : varied + 1 ≡ suc varied = omega arith in
    sym (ap (end_of (set ends varied at)) more ∙ get_or-set_same ends varied at 0 room)

-- the ends before it stay
pub end_of-stays : (ends : List ℕ) (varied at n : ℕ) → n ≤ varied → end_of (set ends varied at) n ≡ end_of ends n
end_of-stays ends varied at zero le = refl
end_of-stays ends varied at (suc n) le = get_or-set_other ends varied n at 0 (λ e. omega arith)

-- one more varied field
pub IsWalked-more : (order : Order) (fields : List Field) (body : List ℕ) (varied k : ℕ) (f : Field) (ends : List ℕ)
    (at zero_texts : ℕ) → slice_get fields k ≡ Some f → is_varied f ≡ true → (mark_of fields k).varied ≡ varied
    → varied < length ends → ArePlaces order fields body k ends → IsReached order fields body (k + 1) at zero_texts
    → IsWalked order fields body (varied + 1) (set ends varied at) zero_texts
IsWalked-more order fields body varied k f ends at zero_texts is passes same room places reached = record {
  next = k + 1;
  few = omega (arith, slice_get_within fields k f is);
  mark = mark_is;
  before = λ i lt. omega (
    arith,
    IsLater-varied (mark_of fields i) (mark_of fields k) (mark_of-later fields i k (omega arith)),
    same,
  );
  reached = subst (λ at. IsReached order fields body (k + 1) at zero_texts) (sym last) reached;
  places = record {
    room = omega (arith, ap (λ (m : Mark). m.varied) mark_is, length-set ends varied at);
    reached = all;
  };
}
  where
    past_varied : (width : Option ℕ) → is_none width ≡ true
        → past (mark_of fields k) width ≡ record { varied = varied + 1; skip = 0 }
    past_varied None none = ap (λ n. mark (n + 1)) same
      where
        mark : ℕ → Mark
        mark n = record { varied = n; skip = 0 }
    past_varied (Some width) none = cc

    mark_is : mark_of fields (k + 1) ≡ record { varied = varied + 1; skip = 0 }
    mark_is = mark_of-more fields k f is ∙ past_varied (width_of f) passes

    more : varied + 1 ≡ suc varied
    more = omega arith

    last : end_of (set ends varied at) (varied + 1) ≡ at
    last = ap (end_of (set ends varied at)) more ∙ get_or-set_same ends varied at 0 room

    all : (i : ℕ) → i ≤ k + 1 → (zero_texts : ℕ)
        × IsReached order fields body i (place_of (set ends varied at) (mark_of fields i)) zero_texts
    all i le = elim (cases_lt i (k + 1)) [
      | inl lt ↦
          let here = places.reached i (omega arith) in
          let few : (mark_of fields i).varied ≤ varied =
          omega (
            arith,
            IsLater-varied (mark_of fields i) (mark_of fields k)
                (mark_of-later fields i k (omega arith)),
            same,
          ) in
          let stays : place_of ends (mark_of fields i) ≡ place_of (set ends varied at) (mark_of fields i) =
          ap (λ n. n + (mark_of fields i).skip) (sym (end_of-stays ends varied at (mark_of fields i).varied few)) in
          (here.0, subst (λ at. IsReached order fields body i at here.0) stays here.1)
      | inr late ↦
          let this : k + 1 ≡ i = omega arith in
          let place = sym last ∙ at-end (set ends varied at) (varied + 1) (mark_of fields (k + 1)) mark_is in (
            zero_texts,
            subst (λ i. IsReached order fields body i (place_of (set ends varied at) (mark_of fields i))
                zero_texts) this (subst (λ at. IsReached order fields body (k + 1) at zero_texts) place reached),
          )
    ]
