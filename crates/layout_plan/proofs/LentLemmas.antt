-- One field of a body, found by a walk over the fields before it.
use Rattle.std.proofs.Common.{◌≡◌, ℕ, zero, suc, ◌+◌, ◌-◌, ◌<◌, ◌≤◌, List, [], ◌∷◌, ◌++◌, length, take, drop, get_or}
use Rattle.std.proofs.Common.{map, Result, Ok, Err, Some, IsOk, All, refl, sym, ap, ◌∙◌, subst, arith, append_assoc}
use Rattle.std.proofs.Common.{inl, inr}
use Rattle.std.specs.Prelude.{slice_get}
use Rattle.std.proofs.lemmas.Option.{same_Some}
use Rattle.std.proofs.lemmas.List.{length-append, length-drop, take-take, length-take-le, drop-drop, take_at, drop_at}
use Rattle.std.proofs.lemmas.List.{take-append-drop, length-map, map-append}
use Rattle.scalar_types.specs.declared.Order.{Order}
use Rattle.scalar_types.specs.declared.Width.{Width}
use Rattle.type_text.specs.declared.types.Link.{Link as StructLink}
use Rattle.record_values.specs.declared.values.Value.{Value}
use Rattle.record_values.specs.declared.values.Value.TheVariants as value
use Rattle.layout_plan.specs.declared.fields.Form.TheVariants.{Number, Text}
use Rattle.layout_plan.specs.declared.fields.Count.{Count}
use Rattle.layout_plan.specs.declared.fields.Count.TheVariants.{Fixed, Of, OfSigned}
use Rattle.layout_plan.specs.declared.fields.Field.{Field}
use Rattle.layout_plan.specs.declared.faults.BodyReason.{BodyReason}
use Rattle.layout_plan.specs.declared.faults.BodyFault.{BodyFault}
use Rattle.layout_plan.specs.declared.walking.Walked.{Walked}
use Rattle.layout_plan.specs.declared.lent.Placed.{Placed}
use Rattle.layout_plan.specs.Layout.{AreSound, IsEarlier}
use Rattle.layout_plan.specs.Body.{number_of, AreFields, IsBody, HasBody}
use Rattle.layout_plan.specs.Reading.{number_in, text_in, link_in, field_in, fields_in, whole_body, body_in}
use Rattle.layout_plan.specs.Walking.{number_at, IsReached, TellsReached}
use Rattle.layout_plan.specs.Lent.{HasNumberAt, HasTextAt, HasPlainLinkAt, IsNumberField, IsTextField, IsLinkField}
use Rattle.layout_plan.specs.Lent.{IsPlaced}
use Rattle.record_values.specs.Spelling.{IsText}
use Rattle.layout_plan.proofs.ExactLemmas.{Ok-same, and_then-Ok, found_map-Ok, text_in-exact}
use Rattle.layout_plan.proofs.BodyLemmas.{field_in-exact, fields_in-exact, body_in-again, ended-tail, IsField-earlier}
use Rattle.layout_plan.proofs.ReadingLemmas.{element-within, fields_in-split, fields_in-push, field-between}
use Rattle.layout_plan.proofs.CounterLemmas.{slice_get-take, number_at-value}

-- the numbers of more fields
AreFields-more : (order : Order) (numbers more : List ℕ) (i : ℕ) (fields : List Field) (values : List Value)
    (bytes : List ℕ) → AreSound i fields → i + length fields ≤ length numbers + 1
    → AreFields order numbers fields values bytes → AreFields order (numbers ++ more) fields values bytes
AreFields-more order numbers more i [] [] bytes sound le s = s
AreFields-more order numbers more i [] (v ∷ vs) bytes sound le s = absurd s
AreFields-more order numbers more i (f ∷ fs) [] bytes sound le s = absurd s
AreFields-more order numbers more i (f ∷ fs) (v ∷ vs) bytes sound le (front, rest, split, here, others) = (
  front,
  rest,
  split,
  (IsField-earlier order numbers more f.form f.counts v front earlier).0 here,
  AreFields-more order numbers more (i + 1) fs vs rest sound.1 (omega arith) others,
)
  where
    IsEarlier-later : (c : Count) → IsEarlier i c → IsEarlier (length numbers) c
    IsEarlier-later (Fixed n) h = tt
    IsEarlier-later (Of k) h = omega arith
    IsEarlier-later (OfSigned k width) h = omega arith

    earlier : All (IsEarlier (length numbers)) f.counts
    earlier k d lt = IsEarlier-later (get_or f.counts k d) (sound.0 k d lt)

pub AreSound-take : (i k : ℕ) (fields : List Field) → AreSound i fields → AreSound i (take k fields)
AreSound-take i zero fields sound = tt
AreSound-take i (suc k) [] sound = tt
AreSound-take i (suc k) (f ∷ fs) sound = (sound.0, AreSound-take (i + 1) k fs sound.1)

pub AreFields-length : (order : Order) (numbers : List ℕ) (fields : List Field) (values : List Value) (bytes : List ℕ)
    → AreFields order numbers fields values bytes → length fields ≡ length values
AreFields-length order numbers [] [] bytes s = refl
AreFields-length order numbers [] (v ∷ vs) bytes s = absurd s
AreFields-length order numbers (f ∷ fs) [] bytes s = absurd s
AreFields-length order numbers (f ∷ fs) (v ∷ vs) bytes s = ap suc (AreFields-length order numbers fs vs s.1 s.4)

-- what a body's fields are read as
body-fields : (order : Order) (fields : List Field) → AreSound 0 fields
    → (bytes : List ℕ) (values : List Value) (tail : List ℕ) → IsBody order fields values tail bytes
    → fields_in order [] fields bytes ≡ Ok (values, tail)
unfolding body_in
body-fields order fields sound bytes values tail body =
    let m = and_then-Ok (fields_in order [] fields bytes) (whole_body (length fields)) (values, tail)
    (body_in-again order fields sound bytes values tail body) in
    m.1 ∙ ap Ok (ended-tail (length fields) m.0 (values, tail) m.2).1

pub front-take : (bytes front : List ℕ) (at : ℕ) → bytes ≡ front ++ drop at bytes → at ≤ length bytes
    → front ≡ take at bytes
front-take bytes front at split le =
    let size : length front ≡ at =
    omega (arith, ap length split ∙ length-append front (drop at bytes), length-drop at bytes) in
    sym (take_at front (drop at bytes) at size) ∙ ap (take at) (sym split)

-- the first j fields, as they are read
reads-EndsAt : (order : Order) (fields : List Field) (bytes : List ℕ) (j at : ℕ) (values : List Value)
    → AreSound 0 fields → fields_in order [] (take j fields) bytes ≡ Ok (take j values, drop at bytes)
    → at ≤ length bytes → AreFields order (map number_of values) (take j fields) (take j values) (take at bytes)
reads-EndsAt order fields bytes j at values sound e le =
    let g = (fields_in-exact order [] (take j fields) (AreSound-take 0 j fields sound)).found bytes (
      take j values,
      drop at bytes,
    ) e in
    let size = AreFields-length order (map number_of (take j values)) (take j fields) (take j values) g.0 g.2 in
    let whole : map number_of (take j values) ++ map number_of (drop j values) ≡ map number_of values =
    sym (map-append number_of (take j values) (drop j values)) ∙ ap (map number_of) (take-append-drop j values) in
    subst (λ ns. AreFields order ns (take j fields) (take j values) (take at bytes)) whole
    (AreFields-more order (map number_of (take j values)) (map number_of (drop j values)) 0 (take j fields)
    (take j values) (take at bytes) (AreSound-take 0 j fields sound)
    (omega (arith, size, length-map (take j values) number_of))
    (subst (AreFields order (map number_of (take j values)) (take j fields) (take j values))
    (front-take bytes g.0 at g.1 le) g.2))

-- the values of the fields that are reached are those of the body
reached-values : (order : Order) (fields : List Field) (bytes : List ℕ) (k at zero_texts : ℕ) (values : List Value)
    (tail : List ℕ) → AreSound 0 fields → k ≤ length fields → IsReached order fields bytes k at zero_texts
    → IsBody order fields values tail bytes
    → fields_in order [] (take k fields) bytes ≡ Ok (take k values, drop at bytes)
reached-values order fields bytes k at zero_texts values tail sound le reached body =
    let split = fields_in-split order [] fields k bytes values tail le
    (body-fields order fields sound bytes values tail body) in
    let same = Ok-same {E = BodyFault} (take k values, split.mid) (reached.values, drop at bytes) (sym split.first
    ∙ reached.reads) in
    reached.reads ∙ ap (λ vs. Ok (vs, drop at bytes)) (sym (ap (λ (z : List Value × List ℕ). z.0) same))

-- field k, between the fields before it and those after it
reached-between : (order : Order) (fields : List Field) (bytes : List ℕ) (k start end : ℕ) (f : Field) (bare more : ℕ)
    (first : IsReached order fields bytes k start bare) → IsReached order fields bytes (k + 1) end more
    → slice_get fields k ≡ Some f → (v : Value)
    × (field_in order (map number_of first.values) f.form f.counts (drop start bytes) ≡ Ok (v, drop end bytes))
reached-between order fields bytes k start end f bare more first second is =
    let b = field-between order (take (k + 1) fields) k f bytes (drop start bytes) (drop end bytes) first.values
    second.values (slice_get-take fields k (k + 1) (omega arith) ∙ is)
    (ap (λ fs. fields_in order [] fs bytes) (take-take k (k + 1) fields (omega arith)) ∙ first.reads) second.reads in
    let pushed = fields_in-push order fields k f bytes (drop start bytes) b.after first.values b.value is
    first.reads b.reads in
    let same = Ok-same {E = BodyFault} (first.values ++ b.value ∷ [], b.after) (second.values, drop end bytes)
    (sym pushed ∙ second.reads) in
    (b.value, b.reads ∙ ap (λ rest. Ok (b.value, rest)) (ap (λ (z : List Value × List ℕ). z.1) same))

-- a field ends no earlier than it begins
pub reached-forward : (order : Order) (fields : List Field) (bytes : List ℕ) (k start end bare more : ℕ)
    → k < length fields → IsReached order fields bytes k start bare
    → IsReached order fields bytes (k + 1) end more → start ≤ end
reached-forward order fields bytes k start end bare more lt first second =
    let f = element-within fields k lt in
    let b = reached-between order fields bytes k start end f.0 bare more first second f.1 in
    let found = (field_in-exact order (map number_of first.values) f.0.form f.0.counts).found (drop start bytes) (
      b.0,
      drop end bytes,
    ) b.1 in
    omega (
      arith,
      first.within,
      second.within,
      length-drop start bytes,
      length-drop end bytes,
      ap length found.1
          ∙ length-append found.0 (drop end bytes),
    )

-- field k, where it is reached and where the next one is
pub placed : (order : Order) (fields : List Field) (bytes : List ℕ) (k start end bare more : ℕ) → AreSound 0 fields
    → k < length fields → IsReached order fields bytes k start bare → IsReached order fields bytes (k + 1) end more
    → IsPlaced order fields bytes k (record { start = start; length = end - start })
placed order fields bytes k start end bare more sound lt first second = record {
  value = b.0;
  field = f.0;
  numbers = map number_of first.values;
  is = f.1;
  here = here;
  found = b.1 ∙ ap (λ at. Ok (b.0, drop at bytes)) end_is;
  within = omega (arith, end_is, second.within);
  begins = λ values tail body. reads-EndsAt order fields bytes k start values sound
      (reached-values order fields bytes k start bare values tail sound (omega arith) first body) first.within;
  ends = λ values tail body. subst
      (λ at. AreFields order (map number_of values) (take (k + 1) fields) (take (k + 1) values) (take at bytes)) end_is
      (reads-EndsAt order fields bytes (k + 1) end values sound
      (reached-values order fields bytes (k + 1) end more values tail sound (omega arith) second body) second.within);
}
  where
    f : (f : Field) × (slice_get fields k ≡ Some f)
    f = element-within fields k lt

    b : (v : Value) × (field_in order (map number_of first.values) f.0.form f.0.counts (drop start bytes)
        ≡ Ok (v, drop end bytes))
    b = reached-between order fields bytes k start end f.0 bare more first second f.1

    end_is : end ≡ start + (end - start)
    end_is = omega (arith, reached-forward order fields bytes k start end bare more lt first second)

    here : (values : List Value) (tail : List ℕ) → IsBody order fields values tail bytes → slice_get values k ≡ Some b.0
    here values tail body =
        let w = field-between order fields k f.0 bytes (drop start bytes) tail first.values values f.1 first.reads
        (body-fields order fields sound bytes values tail body) in
        w.here ∙ ap (λ (z : Value × List ℕ). Some z.0)
        (Ok-same {E = BodyReason} (w.value, w.after) (b.0, drop end bytes) (sym w.reads ∙ b.1))

-- a walk over a body's fields finds them
pub reached-found : (order : Order) (fields : List Field) (bytes : List ℕ) (k known : ℕ) (ends : List ℕ)
    (r : Result Walked BodyFault) → AreSound 0 fields → HasBody order fields bytes
    → TellsReached order fields bytes k known ends r → IsOk r
reached-found order fields bytes k known ends (Ok w) sound has told = refl
reached-found order fields bytes k known ends (Err fault) sound (values, tail, body) told =
    absurd (apart (sym told ∙ body-fields order fields sound bytes values tail body))
  where
    apart : ◌≡◌ {A = Result (List Value × List ℕ) BodyFault} (Err fault) (Ok (values, tail)) → ⊥
    apart e = cc

-- a number without dimension
number_in-here : (order : Order) (numbers : List ℕ) (width : Width) (f : Field) (bytes rest : List ℕ) (v : Value)
    → f.form ≡ Number width → f.counts ≡ [] → field_in order numbers f.form f.counts bytes ≡ Ok (v, rest)
    → v ≡ value.Num (number_of v)
number_in-here order numbers width f bytes rest v form counts e =
    let m = found_map-Ok value.Num (number_in order width bytes) (v, rest)
    (sym (λ i. field_in order numbers (form i) (counts i) bytes) ∙ e) in
    subst (λ (z : Value × List ℕ). z.0 ≡ value.Num (number_of z.0)) m.2 refl

pub number-here : (order : Order) (fields : List Field) (bytes : List ℕ) (k n : ℕ) (f : Field) (p : Placed)
    → IsNumberField fields k → IsPlaced order fields bytes k p → slice_get fields k ≡ Some f
    → n ≡ number_at order f.form f.counts (drop p.start bytes) → HasNumberAt order fields bytes k n
number-here order fields bytes k n f p (width, single) placed at number_is values tail body =
    let same = same_Some placed.field single.field (sym placed.is ∙ single.is) in
    let this = same_Some placed.field f (sym placed.is ∙ at) in
    let number = number_at-value order placed.numbers placed.field.form placed.field.counts (drop p.start bytes)
    placed.value (drop (p.start + p.length) bytes) placed.found
    ∙ ap (λ (f : Field). number_at order f.form f.counts (drop p.start bytes)) this ∙ sym number_is in
    placed.here values tail body
    ∙ ap Some (number_in-here order placed.numbers width placed.field (drop p.start bytes)
    (drop (p.start + p.length) bytes) placed.value (ap (λ (f : Field). f.form) same ∙ single.form_is)
    (ap (λ (f : Field). f.counts) same ∙ single.single) placed.found ∙ ap value.Num number)

-- a link without dimension
pub plain-link-here : (order : Order) (fields : List Field) (bytes : List ℕ) (k : ℕ) (p : Placed)
    → IsLinkField fields k → IsPlaced order fields bytes k p
    → (link : StructLink) × (link_in order (drop p.start bytes) ≡ Ok (link, drop (p.start + p.length) bytes))
    × HasPlainLinkAt order fields bytes k link
plain-link-here order fields bytes k p single placed =
    let same = same_Some placed.field single.field (sym placed.is ∙ single.is) in
    let form = ap (λ (f : Field). f.form) same ∙ single.form_is in
    let counts = ap (λ (f : Field). f.counts) same ∙ single.single in
    let m = found_map-Ok value.Link (link_in order (drop p.start bytes))
    (placed.value, drop (p.start + p.length) bytes)
    (sym (λ i. field_in order placed.numbers (form i) (counts i) (drop p.start bytes)) ∙ placed.found) in
    let rest : m.0.1 ≡ drop (p.start + p.length) bytes = ap (λ (z : Value × List ℕ). z.1) m.2 in
    let is : value.Link m.0.0 ≡ placed.value = ap (λ (z : Value × List ℕ). z.0) m.2 in
    (m.0.0, m.1 ∙ ap (λ r. Ok (m.0.0, r)) rest, λ values tail body. placed.here values tail body ∙ ap Some (sym is))

-- a text stands between its length and its closing zero byte
text-bytes : (order : Order) (text front : List ℕ) → IsText order text front
    → text ≡ take (length front - 3) (drop 2 front)
text-bytes order text front (inl s) =
    let size : length front ≡ 2 + (length text + 1) =
    omega (
      arith,
      ap length s.split ∙ length-append (s.front ++ text) (0 ∷ []),
      length-append s.front text,
      s.size.size,
    ) in
    let rest : drop 2 front ≡ text ++ 0 ∷ [] = ap (drop 2) (s.split ∙ append_assoc s.front text (0 ∷ []))
    ∙ drop_at s.front (text ++ 0 ∷ []) 2 s.size.size in
    sym (take_at text (0 ∷ []) (length text) refl) ∙ ap (take (length text)) (sym rest)
    ∙ ap (λ n. take n (drop 2 front)) (omega arith)
text-bytes order text front (inr s) =
    let none : length front - 3 ≡ 0 = omega (arith, s.size.size) in
    s.empty ∙ ap (λ n. take n (drop 2 front)) (sym none)

text_in-here : (order : Order) (numbers : List ℕ) (f : Field) (bytes : List ℕ) (start size : ℕ) (v : Value)
    → f.form ≡ Text → f.counts ≡ [] → start + size ≤ length bytes
    → field_in order numbers f.form f.counts (drop start bytes) ≡ Ok (v, drop (start + size) bytes)
    → v ≡ value.Text (take (size - 3) (drop 2 (take size (drop start bytes))))
text_in-here order numbers f bytes start size v form counts le e =
    let m = found_map-Ok value.Text (text_in order (drop start bytes)) (v, drop (start + size) bytes)
    (sym (λ i. field_in order numbers (form i) (counts i) (drop start bytes)) ∙ e) in
    let g = (text_in-exact order).found (drop start bytes) m.0 m.1 in
    let rest = ap (λ (z : Value × List ℕ). z.1) m.2 ∙ sym (drop-drop size start bytes) in
    let front = front-take (drop start bytes) g.0 size (g.1 ∙ ap (λ r. g.0 ++ r) rest)
    (omega (arith, length-drop start bytes)) in
    let long : length g.0 ≡ size = ap length front
    ∙ length-take-le size (drop start bytes) (omega (arith, length-drop start bytes)) in
    sym (ap (λ (z : Value × List ℕ). z.0) m.2)
    ∙ ap value.Text (text-bytes order m.0.0 g.0 g.2 ∙ (λ i. take (long i - 3) (drop 2 (front i))))

-- a text without dimension
pub text-here : (order : Order) (fields : List Field) (bytes : List ℕ) (k : ℕ) (p : Placed) → IsTextField fields k
    → IsPlaced order fields bytes k p
    → HasTextAt order fields bytes k (take (p.length - 3) (drop 2 (take p.length (drop p.start bytes))))
text-here order fields bytes k p single placed values tail body =
    let same = same_Some placed.field single.field (sym placed.is ∙ single.is) in
    placed.here values tail body
    ∙ ap Some (text_in-here order placed.numbers placed.field bytes p.start p.length placed.value
    (ap (λ (f : Field). f.form) same ∙ single.form_is) (ap (λ (f : Field). f.counts) same ∙ single.single)
    placed.within placed.found)

-- the slice of a spelling
pub text-slice : (bytes : List ℕ) (start size n : ℕ) → n ≡ size → start + size ≤ length bytes
    → take (length (take n (drop start bytes)) - 3) (drop 2 (take n (drop start bytes)))
    ≡ take (size - 3) (drop 2 (take size (drop start bytes)))
text-slice bytes start size n same le =
    ap (λ n. take (length (take n (drop start bytes)) - 3) (drop 2 (take n (drop start bytes)))) same
    ∙ ap (λ l. take (l - 3) (drop 2 (take size (drop start bytes))))
    (length-take-le size (drop start bytes) (omega (arith, length-drop start bytes)))
