-- The fields that stand between two ends.
use Rattle.std.proofs.Common.{◌≡◌, ℕ, zero, suc, ◌+◌, ◌-◌, ◌*◌, ◌≤◌, Bool, true, false, List, [], ◌∷◌, ◌++◌, length}
use Rattle.std.proofs.Common.{take, drop, get_or, map, Ok, Some, IfSome, refl, sym, ap, ◌∙◌, subst, arith, append_assoc}
use Rattle.std.proofs.Common.{append-nil}
use Rattle.std.specs.Prelude.{slice_get, if◌then◌else◌}
use Rattle.std.proofs.lemmas.List.{length-append, length-take-le, take_at, drop_at, take-append-drop}
use Rattle.std.proofs.lemmas.List.{drop-take}
use Rattle.std.proofs.Math.Nat.{mul_comm}
use Rattle.std.specs.Option.{option_map_or}
use Rattle.std.specs.Result.{result_ok}
use Rattle.std.proofs.lemmas.Option.{same_Some, slice_get_within}
use Rattle.scalar_types.specs.declared.Order.{Order}
use Rattle.scalar_types.specs.declared.Width.TheVariants.{Eight}
use Rattle.record_values.specs.declared.values.Value.{Value}
use Rattle.record_values.specs.declared.values.Value.TheVariants as value
use Rattle.layout_plan.specs.declared.fields.Form.{Form}
use Rattle.layout_plan.specs.declared.fields.Form.TheVariants.{Number, Text}
use Rattle.layout_plan.specs.declared.fields.Count.{Count}
use Rattle.layout_plan.specs.declared.fields.Count.TheVariants.{Of}
use Rattle.layout_plan.specs.declared.fields.Field.{Field}
use Rattle.layout_plan.specs.declared.faults.BodyReason.{BodyReason}
use Rattle.layout_plan.specs.Body.{number_of, item_count, IsField, AreFields, IsBody}
use Rattle.layout_plan.specs.Reading.{Found, number_in, text_in, items_in, listed_in, field_in}
use Rattle.layout_plan.specs.Lent.{EndsAt}
use Rattle.layout_plan.proofs.ExactLemmas.{Ok-same, found_map-Ok}
use Rattle.layout_plan.proofs.BodyLemmas.{field_in-exact}
use Rattle.layout_plan.proofs.LentLemmas.{AreFields-length}
use Rattle.layout_plan.proofs.ReadingLemmas.{element-within, element-at}
use Rattle.contents_table.specs.declared.fit.KindFields.{KindFields}
use Rattle.contents_table.specs.Fit.{IsListField, position_counts}
use Rattle.contents_table.specs.Listed.{texts_of, numbers_of, number_at, texts_at, numbers_at}
use Rattle.contents_table.specs.Views.{items_by}

-- the bytes of one more field
fields-between : (order : Order) (numbers : List ℕ) (fs : List Field) (vs : List Value) (f : Field) (v : Value)
    (first second more rest : List ℕ) → AreFields order numbers fs vs first
    → AreFields order numbers (fs ++ f ∷ []) (vs ++ v ∷ []) second → first ++ more ≡ second ++ rest
    → (front : List ℕ) × (second ≡ first ++ front) × IsField order numbers f.form f.counts v front
fields-between order numbers [] [] f v first second more rest none (front, others, split, here, end) same = (
  front,
  split ∙ ap (λ r. front ++ r) end ∙ append-nil front ∙ ap (λ b. b ++ front) (sym none),
  here,
)
fields-between order numbers [] (w ∷ ws) f v first second more rest s t same = absurd s
fields-between order numbers (g ∷ gs) [] f v first second more rest s t same = absurd s
fields-between order numbers (g ∷ gs) (w ∷ ws) f v first second more rest (a, b, split, here, s)
    (c, d, splits, there, t) same =
    let whole : a ++ (b ++ more) ≡ c ++ (d ++ rest) =
    sym (ap (λ x. x ++ more) split ∙ append_assoc a b more) ∙ same ∙ ap (λ x. x ++ rest) splits
    ∙ append_assoc c d rest in
    let exact = field_in-exact order numbers g.form g.counts in
    let after : b ++ more ≡ d ++ rest =
    ap (λ (z : Value × List ℕ). z.1) (Ok-same {E = BodyReason} (w, b ++ more) (w, d ++ rest)
    (sym (exact.again w a (b ++ more) here) ∙ ap (field_in order numbers g.form g.counts) whole
    ∙ exact.again w c (d ++ rest) there)) in
    let size : length a ≡ length c =
    omega (
      arith,
      ap length whole,
      ap length after,
      length-append a (b ++ more),
      length-append c (d ++ rest),
    ) in
    let front_is : c ≡ a =
    sym (take_at c (d ++ rest) (length a) (sym size)) ∙ ap (take (length a)) (sym whole)
    ∙ take_at a (b ++ more) (length a) refl in
    let between = fields-between order numbers gs ws f v b d more rest s t after in (
      between.0,
      splits ∙ (λ i. front_is i ++ between.1 i) ∙ sym (append_assoc a b between.0)
          ∙ ap (λ x. x ++ between.0) (sym split),
      between.2,
    )

front-between : (body front : List ℕ) (from to : ℕ) → from ≤ to → to ≤ length body
    → take to body ≡ take from body ++ front → take (to - from) (drop from body) ≡ front
front-between body front from to forward within split =
    let whole : from + (to - from) ≡ to = omega arith in
    sym (drop-take from (to - from) body) ∙ ap (λ j. drop from (take j body)) whole ∙ ap (drop from) split
    ∙ drop_at (take from body) front from (length-take-le from body (omega arith))

-- the bytes between a field's ends spell its value
pub span-field : (order : Order) (fields : List Field) (body : List ℕ) (k from to : ℕ)
    → EndsAt order fields body k from → EndsAt order fields body (k + 1) to → from ≤ to → to ≤ length body
    → (values : List Value) (tail : List ℕ) → IsBody order fields values tail body
    → (f : Field) → slice_get fields k ≡ Some f → IfSome (slice_get values k)
    (λ v. field_in order (map number_of values) f.form f.counts (take (to - from) (drop from body)) ≡ Ok (v, []))
span-field order fields body k from to begins ends forward within values tail spelled f is =
    by (element-within values k (omega (arith, sizes, slice_get_within fields k f is)))
  where
    sizes : length fields ≡ length values
    sizes = AreFields-length order (map number_of values) fields values spelled.front spelled.spelled

    spelled-more : (v : Value) → slice_get values k ≡ Some v
        → AreFields order (map number_of values) (take k fields ++ f ∷ []) (take k values ++ v ∷ []) (take to body)
    spelled-more v at =
        subst (λ fs. AreFields order (map number_of values) fs (take k values ++ v ∷ []) (take to body))
        (element-at fields k f is).through
        (subst (λ vs. AreFields order (map number_of values) (take (k + 1) fields) vs (take to body))
        (element-at values k v at).through (ends values tail spelled))

    by : (v : Value) × (slice_get values k ≡ Some v) → IfSome (slice_get values k)
        (λ v. field_in order (map number_of values) f.form f.counts (take (to - from) (drop from body)) ≡ Ok (v, []))
    by (v, at) =
        let between = fields-between order (map number_of values) (take k fields) (take k values) f v (take from body)
        (take to body) (drop from body) (drop to body) (begins values tail spelled) (spelled-more v at)
        (take-append-drop from body ∙ sym (take-append-drop to body)) in
        let front_is = front-between body between.0 from to forward within between.1 in
        subst (λ o. IfSome o
        (λ v. field_in order (map number_of values) f.form f.counts (take (to - from) (drop from body)) ≡ Ok (v, [])))
        (sym at)
        (ap (field_in order (map number_of values) f.form f.counts) (front_is ∙ sym (append-nil between.0))
        ∙ (field_in-exact order (map number_of values) f.form f.counts).again v between.0 [] between.2)

-- ---- lists

-- the number of a field
number-among : (values : List Value) (k n : ℕ) → slice_get values k ≡ Some (value.Num n)
    → get_or (map number_of values) k 0 ≡ n
number-among [] k n e = cc
number-among (v ∷ vs) zero n e = ap number_of (same_Some v (value.Num n) e)
number-among (v ∷ vs) (suc k) n e = number-among vs k n e

-- the bytes that spell what stands at a field
abbrev pub Spells : Order → List Field → List Value → ℕ → List ℕ → Type 0
Spells order fields values k bytes =
    (f : Field) → slice_get fields k ≡ Some f → IfSome (slice_get values k)
    (λ v. field_in order (map number_of values) f.form f.counts bytes ≡ Ok (v, []))

-- the value of a list field
list-field : (order : Order) (fields : List Field) (values : List Value) (k : ℕ) (form : Form) (c : Count)
    (cs : List Count) (bytes : List ℕ) → length fields ≡ length values → IsListField fields k form (c ∷ cs)
    → Spells order fields values k bytes
    → (v : Value) × (slice_get values k ≡ Some v)
    × (listed_in order form (item_count (map number_of values) (c ∷ cs)) bytes ≡ Ok (v, []))
list-field order fields values k form c cs bytes sizes field spells =
    let v = element-within values k (omega (arith, sizes, slice_get_within fields k field.field field.is)) in (
      v.0,
      v.1,
      subst (λ o. IfSome o (λ v. listed_in order form (item_count (map number_of values) (c ∷ cs)) bytes ≡ Ok (v, [])))
          v.1
          (subst (λ counts. IfSome (slice_get values k)
          (λ v. field_in order (map number_of values) form counts bytes ≡ Ok (v, []))) field.counts_are
          (subst (λ form. IfSome (slice_get values k)
          (λ v. field_in order (map number_of values) form field.field.counts bytes ≡ Ok (v, []))) field.form_is
          (spells field.field field.is))),
    )

-- the items of one dimension
pub single-count : (values : List Value) (count n : ℕ) → slice_get values count ≡ Some (value.Num n)
    → item_count (map number_of values) (Of count ∷ []) ≡ n
single-count values count n counted = omega (arith, number-among values count n counted)

-- the names that a field lists
pub listed-texts : (order : Order) (fields : List Field) (values : List Value) (k count n : ℕ) (bytes : List ℕ)
    → length fields ≡ length values → IsListField fields k Text (Of count ∷ [])
    → slice_get values count ≡ Some (value.Num n) → Spells order fields values k bytes
    → items_in (text_in order) n bytes ≡ Ok (texts_at values k, [])
listed-texts order fields values k count n bytes sizes field counted spells =
    let v = list-field order fields values k Text (Of count) [] bytes sizes field spells in
    let many = single-count values count n counted in
    let m = found_map-Ok value.Texts (items_in (text_in order) n bytes) (v.0, [])
    (ap (λ n. listed_in order Text n bytes) (sym many) ∙ v.2) in
    m.1 ∙ ap (λ (z : Value × List ℕ). Ok (texts_of z.0, z.1)) m.2
    ∙ ap (λ texts. Ok (texts, [])) (sym (texts-at v.0 v.1))
  where
    texts-at : (v : Value) → slice_get values k ≡ Some v → texts_at values k ≡ texts_of v
    texts-at v at = ap (λ o. option_map_or texts_of o []) at

-- the numbers of eight bytes that a field lists
pub listed-numbers : (order : Order) (fields : List Field) (values : List Value) (k : ℕ) (c : Count) (cs : List Count)
    (n : ℕ) (bytes : List ℕ) → length fields ≡ length values → IsListField fields k (Number Eight) (c ∷ cs)
    → item_count (map number_of values) (c ∷ cs) ≡ n → Spells order fields values k bytes
    → items_in (number_in order Eight) n bytes ≡ Ok (numbers_at values k, [])
listed-numbers order fields values k c cs n bytes sizes field many spells =
    let v = list-field order fields values k (Number Eight) c cs bytes sizes field spells in
    let m = found_map-Ok value.Nums (items_in (number_in order Eight) n bytes) (v.0, [])
    (ap (λ n. listed_in order (Number Eight) n bytes) (sym many) ∙ v.2) in
    m.1 ∙ ap (λ (z : Value × List ℕ). Ok (numbers_of z.0, z.1)) m.2
    ∙ ap (λ numbers. Ok (numbers, [])) (sym (numbers-at v.0 v.1))
  where
    numbers-at : (v : Value) → slice_get values k ≡ Some v → numbers_at values k ≡ numbers_of v
    numbers-at v at = ap (λ o. option_map_or numbers_of o []) at

product : (x n y m : ℕ) → x ≡ n → y ≡ m → x * (y * 1) ≡ n * m
product x n y m first second = let single : y * 1 ≡ m = omega (arith, second) in λ i. first i * single i

-- the positions of a kind

pub listed-positions : (order : Order) (fields : List Field) (values : List Value) (frames : ℕ) (f : KindFields)
    (n m : ℕ) (bytes : List ℕ) → length fields ≡ length values
    → IsListField fields f.positions (Number Eight) (position_counts frames f)
    → slice_get values f.count ≡ Some (value.Num n) → slice_get values frames ≡ Some (value.Num m)
    → Spells order fields values f.positions bytes
    → items_in (number_in order Eight) (n * m) bytes ≡ Ok (numbers_at values f.positions, [])
listed-positions order fields values frames f n m bytes sizes field counted framed spells =
    by f.by_name field
  where
    name_count : get_or (map number_of values) f.count 0 ≡ n
    name_count = number-among values f.count n counted

    frame_count : get_or (map number_of values) frames 0 ≡ m
    frame_count = number-among values frames m framed

    by : (by_name : Bool) → IsListField fields f.positions (Number Eight)
        (if by_name then Of f.count ∷ Of frames ∷ [] else Of frames ∷ Of f.count ∷ [])
        → items_in (number_in order Eight) (n * m) bytes ≡ Ok (numbers_at values f.positions, [])
    by true field =
        listed-numbers order fields values f.positions (Of f.count) (Of frames ∷ []) (n * m) bytes sizes field
        (product (get_or (map number_of values) f.count 0) n (get_or (map number_of values) frames 0) m name_count
        frame_count) spells
    by false field =
        listed-numbers order fields values f.positions (Of frames) (Of f.count ∷ []) (n * m) bytes sizes field
        (product (get_or (map number_of values) frames 0) m (get_or (map number_of values) f.count 0) n frame_count
        name_count ∙ mul_comm m n) spells

-- items that are read are those that the bytes are
pub items_by-is : {X : Type 0} (item : List ℕ → Found X) (n : ℕ) (bytes : List ℕ) (xs : List X)
    → items_in item n bytes ≡ Ok (xs, []) → items_by item n bytes ≡ xs
items_by-is {X} item n bytes xs e = ap (λ r. option_map_or (λ (found : List X × List ℕ). found.0) (result_ok r) []) e

pub items_by-are : {X : Type 0} (item : List ℕ → Found X) (n : ℕ) (bytes : List ℕ) (xs : List X)
    → items_in item n bytes ≡ Ok (xs, []) → items_in item n bytes ≡ Ok (items_by item n bytes, [])
items_by-are item n bytes xs e = e ∙ ap (λ ys. Ok (ys, [])) (sym (items_by-is item n bytes xs e))

-- the number of a single field
pub number_at-is : (values : List Value) (k n : ℕ) → slice_get values k ≡ Some (value.Num n) → n ≡ number_at values k
number_at-is values k n e = sym (ap (λ o. option_map_or number_of o 0) e)
