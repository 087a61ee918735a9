-- An FrSE behind an FrSH: the element that it is, that none stands there, and the fault where one is wrong.
use Rattle.std.proofs.Common.{◌≡◌, ℕ, ◌+◌, ◌-◌, ◌<◌, ◌≤◌, ◌&&◌, Bool, true, false, List, [], ◌∷◌, map, length}
use Rattle.std.proofs.Common.{take, drop}
use Rattle.std.proofs.Common.{Option, Some, None, refl, sym, ap, ◌∙◌, subst, arith}
use Rattle.std.specs.Prelude.{nat_le, ◌==◌, slice_range, slice_get}
use Rattle.std.proofs.lemmas.List.{drop-drop}
use Rattle.std.proofs.lemmas.Bool.{leb-true, le-leb, eq-eqb, eqb-true, and_from, and_parts, cond-true}
use Rattle.std.proofs.lemmas.Bool.{cond-false}
use Rattle.std.proofs.lemmas.Bool.{lt-ltb, le-ltb}
use Rattle.scalar_types.specs.declared.Order.{Order}
use Rattle.type_text.specs.TypeText.{type_of}
use Rattle.record_values.specs.declared.values.Value.TheVariants as value
use Rattle.frame_head.specs.declared.structure.Common.{Common}
use Rattle.structure_source.specs.declared.source.Head.TheVariants.{Whole}
use Rattle.structure_source.specs.Source.{IsHead}
use Rattle.dictionary.specs.declared.entries.Element.{Element}
use Rattle.layout_plan.specs.declared.faults.BodyFault.{BodyFault}
use Rattle.layout_plan.specs.Body.{number_of, IsBody, HasBody}
use Rattle.layout_plan.specs.Lent.{HasTextAt}
use Rattle.layout_plan.specs.Reading.{fault_of}
use Rattle.layout_plan.specs.BuiltIn.{element_fields}
use Rattle.file_grammar.specs.declared.reason.Reason.TheVariants.{CutRecord, StrayElement}
use Rattle.file_grammar.specs.declared.kind.Kind.TheVariants.{FrSE}
use Rattle.file_grammar.specs.Structure.{Structure, record_limit, file_limit, common_at, left_at}
use Rattle.file_grammar.specs.Structure.{structure_at, end_of}
use Rattle.file_grammar.specs.Kind.{kind_of}
use Rattle.file_grammar.specs.Described.{element_at}
use Rattle.file_grammar.specs.Item.{Before, nothing_yet}
use Rattle.file_grammar.specs.Fault.{Here, place, entries_before, class, kind, fault_at, fault_here}
use Rattle.file_grammar.specs.Steps.{length_reason, reason_of}
use Rattle.file_grammar.proofs.Lengths.{Fits}
use Rattle.file_grammar.proofs.Structures.{size-structure_at, stands-whole, stands-fits}
use Rattle.file_grammar.proofs.Bodies.{element_fields-sound, element-values, reading-again, no_fault-reading}
use Rattle.file_grammar.proofs.Elements.{element-found, element-again}
use Rattle.file_grammar.proofs.Judging.{first_of-cut, first_of-bad_body}
use Rattle.file_grammar.proofs.Readings.{fields-FrSE, body_fault-of}
use Rattle.item_reader.specs.declared.structure.Placed.{Placed}
use Rattle.item_reader.specs.Placed.{IsPlaced, body_of, placed_at}
use Rattle.item_reader.specs.Entries.{may_be_element}
use Rattle.item_reader.proofs.Located.{fits-here, class-here, body-here, fault-open, fault-kind}
use Rattle.item_reader.proofs.Parts.{element-parts}

-- ---- none

none-of : (o : Option Element) → ((e : Element) → o ≡ Some e → ⊥) → o ≡ None
none-of None h = refl
none-of (Some e) h = absurd (h e refl)

-- none stands where fewer than 14 bytes are left
pub none-cut : (order : Order) (file : List ℕ) (at : ℕ) → left_at file at < 14
    → element_at order file at ≡ None
none-cut order file at short =
    none-of (element_at order file at) (λ e is.
    let here = element-found order file at e is in omega (arith, here.stands.head, short))

-- none stands whose head is no FrSE's within the limits
pub none-other : (order : Order) (file : List ℕ) (at : ℕ) (common : Common)
    → IsHead order file at (Whole common) → may_be_element at common ≡ false → element_at order file at ≡ None
none-other order file at common head refused =
    none-of (element_at order file at) (λ e is.
    let here = element-found order file at e is in
    let class : common.class ≡ 2 = ap (λ (c : Common). c.class) head.1 ∙ here.class in
    let told : common.length ≡ (common_at order file at).length = ap (λ (c : Common). c.length) head.1 in
    let may : may_be_element at common ≡ true =
    and_from _ _ (eq-eqb common.class 2 class)
    (and_from _ _ (le-leb 14 common.length (omega (arith, told, here.stands.whole)))
    (and_from _ _ (le-leb common.length record_limit
    (omega (arith, told, here.stands.whole, here.stands.small)))
    (le-leb (at + common.length) file_limit (omega (arith, told, here.stands.whole, here.stands.within))))) in
    cc)

-- none stands whose body is not all there
pub none-short : (order : Order) (file : List ℕ) (at : ℕ) (common : Common)
    → IsHead order file at (Whole common) → left_at file (at + 14) < common.length - 14
    → element_at order file at ≡ None
none-short order file at common head short =
    none-of (element_at order file at) (λ e is.
    let here = element-found order file at e is in
    let told : common.length ≡ (common_at order file at).length = ap (λ (c : Common). c.length) head.1 in
    let fits = stands-fits order file (structure_at order file at) here.stands in
    omega (arith, told, short, fits.whole))

-- none stands whose body does not read
pub none-unread : (order : Order) (file : List ℕ) (at : ℕ) (p : Placed) (body : List ℕ) (f : BodyFault)
    → IsPlaced order file at p → body ≡ body_of file p → fault_of order element_fields body ≡ Some f
    → element_at order file at ≡ None
none-unread order file at p body f placed body_is fault =
    none-of (element_at order file at) (λ e is.
    let here = element-found order file at e is in
    let own : List ℕ = (structure_at order file at).body in
    let same : body ≡ own = body_is ∙ ap (λ (s : Structure). s.body) (sym placed.is) in
    let reads = reading-again order own element_fields _ here.tail element_fields-sound here.body in
    let none : fault_of order element_fields body ≡ None =
    ap (fault_of order element_fields) same ∙ no_fault-reading order own element_fields _ reads in
    cc)

-- ---- one

-- a head within the limits
pub record IsCandidate (at : ℕ) (common : Common) : Type 0 where
  pub class : common.class ≡ 2
  pub head : 14 ≤ common.length
  pub small : common.length ≤ record_limit
  pub within : at + common.length ≤ file_limit

candidate : (at : ℕ) (common : Common) → may_be_element at common ≡ true → IsCandidate at common
candidate at common may =
    let a = and_parts (common.class == 2) (nat_le 14 common.length
    && (nat_le common.length record_limit && nat_le (at + common.length) file_limit)) may in
    let b = and_parts (nat_le 14 common.length)
    (nat_le common.length record_limit && nat_le (at + common.length) file_limit) a.1 in
    let c = and_parts (nat_le common.length record_limit) (nat_le (at + common.length) file_limit) b.1 in
    record {
      class = eqb-true common.class 2 a.0;
      head = leb-true 14 common.length b.0;
      small = leb-true common.length record_limit c.0;
      within = leb-true (at + common.length) file_limit c.1;
    }

-- the code's test of it
pub candidate-tested : (at place : ℕ) (common : Common) (test : Bool) → place ≡ at
    → test ≡ may_be_element place common → test ≡ true → IsCandidate at common
candidate-tested at place common test here is may =
    candidate at common (ap (λ at. may_be_element at common) (sym here) ∙ sym is ∙ may)

-- the structure that a head and the bytes behind it are
pub placed-brought : (order : Order) (file : List ℕ) (at : ℕ) (common : Common) (body : List ℕ)
    → IsHead order file at (Whole common) → 14 ≤ common.length → common.length ≤ record_limit
    → common.length - 14 ≤ left_at file (at + 14) → body ≡ take (common.length - 14) (drop (at + 14) file)
    → IsPlaced order file at (placed_at at common) × (body ≡ body_of file (placed_at at common))
placed-brought order file at common body head low high there is =
    let same : common_at order file at ≡ common = sym head.1 in
    let told : structure_at order file at ≡ record {
      at = at;
      class = common.class;
      instance = common.instance;
      body = body_of file (placed_at at common);
    } = λ i. record {
      at = at;
      class = (same i).class;
      instance = (same i).instance;
      body = slice_range (drop at file) 14 (same i).length;
    } in (
      record {
        is = told;
        place = refl;
        length_is = ap (λ (c : Common). c.length) head.1;
        head = low;
        small = high;
        within = omega (arith, there, head.0);
      },
      is ∙ ap (take (common.length - 14)) (sym (drop-drop 14 at file)),
    )

-- it fits there, and this is the place after it
placed-fits : (order : Order) (file : List ℕ) (at : ℕ) (p : Placed) → IsPlaced order file at p
    → Fits (left_at file at) (common_at order file at).length
placed-fits order file at p placed =
    fits-here (record { order = order; file = file; before = record nothing_yet { place = at } }) p placed

pub placed-end : (order : Order) (file : List ℕ) (at : ℕ) (p : Placed) → IsPlaced order file at p
    → end_of (structure_at order file at) ≡ at + p.length
placed-end order file at p placed =
    ap (λ n. at + n)
    (size-structure_at order file at (placed-fits order file at p placed) ∙ sym placed.length_is)

-- the element of an FrSE whose body has these texts
pub element-spelled : (order : Order) (file : List ℕ) (at : ℕ) (p : Placed) (body name text comment : List ℕ)
    → IsPlaced order file at p → at + p.length ≤ file_limit → p.class ≡ 2 → body ≡ body_of file p
    → HasBody order element_fields body
    → HasTextAt order element_fields body 0 name → HasTextAt order element_fields body 1 text
    → HasTextAt order element_fields body 2 comment
    → element_at order file at
    ≡ Some (record { name = name; ty = type_of text; text = text; comment = comment })
element-spelled order file at p body name text comment placed within class body_is has has_name has_text
    has_comment =
    element-again order file (structure_at order file at)
    (record { name = name; ty = type_of text; text = text; comment = comment })
    (record {
      stands = stands-whole order file at (placed-fits order file at p placed)
          (omega (arith, placed.length_is, within));
      class = ap (λ (s : Structure). s.class) placed.is ∙ class;
      tail = has.1;
      body = subst (λ bytes. IsBody order element_fields
          (value.Text name ∷ value.Text text ∷ value.Text comment ∷ []) has.1 bytes)
          (body_is ∙ ap (λ (s : Structure). s.body) (sym placed.is))
          (subst (λ values. IsBody order element_fields values has.1 body) values_are has.2);
      type = refl;
    })
  where
    values : (n : List ℕ) × (t : List ℕ) × (c : List ℕ)
        × (has.0 ≡ value.Text n ∷ value.Text t ∷ value.Text c ∷ [])
    values = element-values order (map number_of has.0) has.0 has.2.front has.2.spelled

    same_name : values.0 ≡ name
    same_name = cc (ap (λ values. slice_get values 0) values.3, has_name has.0 has.1 has.2)

    same_text : values.1 ≡ text
    same_text = cc (ap (λ values. slice_get values 1) values.3, has_text has.0 has.1 has.2)

    same_comment : values.2 ≡ comment
    same_comment = cc (ap (λ values. slice_get values 2) values.3, has_comment has.0 has.1 has.2)

    values_are : has.0 ≡ value.Text name ∷ value.Text text ∷ value.Text comment ∷ []
    values_are =
        values.3
        ∙ (λ i. value.Text (same_name i) ∷ value.Text (same_text i) ∷ value.Text (same_comment i) ∷ [])

-- ---- faults

-- the file's end cuts what stands there
fault-cut : (order : Order) (file : List ℕ) (at : ℕ) → at < length file
    → length_reason order file at ≡ Some CutRecord
    → (before : Before) → before.place ≡ at → before.closed ≡ false
    → fault_here (record { order = order; file = file; before = before }) ≡ Some (fault_at CutRecord (at, 0))
fault-cut order file at within cut before here unclosed =
    let h : Here = record { order = order; file = file; before = before } in
    let inside : before.place < length file = omega (arith, here, within) in
    fault-open h unclosed inside
    ∙ first_of-cut h CutRecord inside (ap (length_reason order file) here ∙ cut)
    ∙ ap (λ at. Some (fault_at CutRecord (at, 0))) here

-- within its first 14 bytes
pub fault-cut_head : (order : Order) (file : List ℕ) (at : ℕ) → 0 < left_at file at → left_at file at < 14
    → (before : Before) → before.place ≡ at → before.closed ≡ false
    → fault_here (record { order = order; file = file; before = before }) ≡ Some (fault_at CutRecord (at, 0))
fault-cut_head order file at some short =
    fault-cut order file at (omega (arith, some)) (cond-true _ _ _ (lt-ltb (left_at file at) 14 short))

-- or within its body
pub fault-cut_body : (order : Order) (file : List ℕ) (at : ℕ) (common : Common)
    → IsHead order file at (Whole common)
    → 14 ≤ common.length → common.length ≤ record_limit → left_at file (at + 14) < common.length - 14
    → (before : Before) → before.place ≡ at → before.closed ≡ false
    → fault_here (record { order = order; file = file; before = before }) ≡ Some (fault_at CutRecord (at, 0))
fault-cut_body order file at common head low high short =
    let left : ℕ = left_at file at in
    let told : ℕ = (common_at order file at).length in
    let same : common.length ≡ told = ap (λ (c : Common). c.length) head.1 in
    fault-cut order file at (omega (arith, head.0))
    (cond-false _ _ _ (le-ltb left 14 head.0)
    ∙ cond-false _ _ _ (le-ltb told 14 (omega (arith, same, low)))
    ∙ cond-false _ _ _ (le-ltb record_limit told (omega (arith, same, high)))
    ∙ cond-true _ _ _ (lt-ltb left told (omega (arith, same, short, head.0))))

-- the body of an FrSE does not read
pub fault-unread : (order : Order) (file : List ℕ) (at : ℕ) (p : Placed) (body : List ℕ) (f : BodyFault)
    → IsPlaced order file at p → p.class ≡ 2 → body ≡ body_of file p
    → fault_of order element_fields body ≡ Some f
    → (before : Before) → before.place ≡ at → before.closed ≡ false
    → fault_here (record { order = order; file = file; before = before })
    ≡ Some (fault_at (reason_of f.reason) (at, f.field))
fault-unread order file at p body f placed class_is body_is fault before here unclosed =
    let h : Here = record { order = order; file = file; before = before } in
    let there : IsPlaced order file (place h) p = subst (λ at. IsPlaced order file at p) (sym here) placed in
    let kind_is : kind h ≡ FrSE = ap (kind_of (entries_before h)) (class-here h p there ∙ class_is) in
    let wrong = body_fault-of h element_fields (fields-FrSE h kind_is)
    ∙ ap (fault_of order element_fields) (body-here h p there ∙ sym body_is) ∙ fault in
    fault-kind h p unclosed there ∙ element-parts h kind_is
    ∙ first_of-bad_body h (StrayElement ∷ []) f wrong
    ∙ ap (λ at. Some (fault_at (reason_of f.reason) (at, f.field))) here
