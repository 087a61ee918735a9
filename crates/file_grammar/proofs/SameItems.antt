-- What stands at one place is one: a structure, an FrSE's element, the run of FrSEs that no further one follows, and an
-- entry.
use Rattle.std.proofs.Common.{◌≡◌, ℕ, ◌+◌, List, [], ◌∷◌, sum_by, refl, sym, ap, subst, ◌∙◌, arith, rules}
use Rattle.std.proofs.lemmas.List.Sums.{sum_by-cons}
use Rattle.std.proofs.lemmas.Option.{same_Some}
use Rattle.scalar_types.specs.declared.Order.{Order}
use Rattle.type_text.specs.TypeText.{type_of}
use Rattle.record_values.specs.declared.values.Value.TheVariants as value
use Rattle.dictionary.specs.declared.entries.Element.{Element}
use Rattle.dictionary.specs.declared.entries.Entry.{Entry}
use Rattle.layout_plan.specs.Layout.{AreSound}
use Rattle.layout_plan.specs.Body.{IsBody}
use Rattle.layout_plan.specs.BuiltIn.{structure_fields, element_fields}
use Rattle.layout_plan.proofs.BodyLemmas.{bodies-unique}
use Rattle.file_grammar.specs.Structure.{Structure, size_of, end_of, structure_at, StandsWhole}
use Rattle.file_grammar.specs.Kind.{kind_of}
use Rattle.file_grammar.specs.Described.{IsElement, AreElements, element_of, entry_with}
use Rattle.file_grammar.specs.Item.{Before}
use Rattle.file_grammar.specs.MayStand.{KindMayStand, StructureMayStand}

-- two structures that stand whole at one place are one
pub same_structure : (order : Order) (file : List ℕ) (s t : Structure) → StandsWhole order file s
    → StandsWhole order file t
    → s.at ≡ t.at → s ≡ t
same_structure order file s t left right places = left.is ∙ ap (structure_at order file) places ∙ sym right.is

-- the built-in layouts name no counts
pub element_fields-sound : AreSound 0 element_fields
element_fields-sound = search rules

pub structure_fields-sound : AreSound 0 structure_fields
structure_fields-sound = search rules

-- an FrSE is one element
pub same_element : (order : Order) (file : List ℕ) (s : Structure) (e d : Element) → IsElement order file s e
    → IsElement order file s d
    → e ≡ d
same_element order file s e d left right =
    let values = (bodies-unique order element_fields s.body element_fields-sound
    (value.Text e.name ∷ value.Text e.text ∷ value.Text e.comment ∷ [])
    (value.Text d.name ∷ value.Text d.text ∷ value.Text d.comment ∷ []) left.tail right.tail left.body right.body).0 in
    let read : Element → Element =
    λ x. record { name = x.name; ty = type_of x.text; text = x.text; comment = x.comment } in
    let same : read e ≡ read d = same_Some (read e) (read d) (ap element_of values) in
    let one : e ≡ read e = ap (λ ty. record { name = e.name; ty = ty; text = e.text; comment = e.comment }) left.type in
    let two : d ≡ read d = ap
    (λ ty. record { name = d.name; ty = ty; text = d.text; comment = d.comment }) right.type in
    one ∙ same ∙ sym two

-- no FrSE stands at a place
abbrev pub NoElement : Order → List ℕ → ℕ → Type 0
NoElement order file at = (s : Structure) (e : Element) → s.at ≡ at → IsElement order file s e → ⊥

-- two runs from one place that no FrSE follows are one
pub same_run : (order : Order) (file : List ℕ) (at : ℕ) (run others : List Structure) (es ds : List Element)
    → AreElements order file at run es → AreElements order file at others ds
    → NoElement order file (at + sum_by size_of run) → NoElement order file (at + sum_by size_of others)
    → (run ≡ others) × (es ≡ ds)
same_run order file at [] [] [] [] left right one two = (refl, refl)
same_run order file at [] [] [] (d ∷ ds) left right one two = absurd right
same_run order file at [] [] (e ∷ es) ds left right one two = absurd left
same_run order file at [] (t ∷ ts) es [] left right one two = absurd right
same_run order file at [] (t ∷ ts) es (d ∷ ds) left right one two =
    let here : t.at ≡ at = right.0 in
    absurd (one t d (omega (arith, here)) right.1)
same_run order file at (s ∷ ss) others [] ds left right one two = absurd left
same_run order file at (s ∷ ss) [] (e ∷ es) ds left right one two =
    let here : s.at ≡ at = left.0 in
    absurd (two s e (omega (arith, here)) left.1)
same_run order file at (s ∷ ss) (t ∷ ts) (e ∷ es) [] left right one two = absurd right
same_run order file at (s ∷ ss) (t ∷ ts) (e ∷ es) (d ∷ ds) left right one two =
    let same : s ≡ t = same_structure order file s t left.1.stands right.1.stands (left.0 ∙ sym right.0) in
    let P : Structure → Type 0 = λ u. IsElement order file u d in
    let Q : Structure → Type 0 = λ u. AreElements order file (end_of u) ts ds in
    let R : ℕ → Type 0 = λ place. NoElement order file place in
    let element : e ≡ d = same_element order file s e d left.1 (subst P (sym same) right.1) in
    let behind : at + sum_by size_of (s ∷ ss) ≡ end_of s + sum_by size_of ss =
    (let sums = sum_by-cons size_of s ss in let here : s.at ≡ at = left.0 in omega (arith, sums, here)) in
    let beyond : at + sum_by size_of (t ∷ ts) ≡ end_of s + sum_by size_of ts =
    (let sums = sum_by-cons size_of t ts in let here : t.at ≡ at = right.0 in
    let size : end_of s ≡ end_of t = ap end_of same in omega (arith, sums, here, size)) in
    let rest = same_run order file (end_of s) ss ts es ds left.2 (subst Q (sym same) right.2) (subst R behind one)
    (subst R beyond two) in
    (cc, cc)

-- an entry is one
pub same_entry : (order : Order) (body : List ℕ) (e d : Entry) (tail end : List ℕ)
    → IsBody order structure_fields (value.Text e.name ∷ value.Num e.class ∷ value.Text e.comment ∷ []) tail body
    → IsBody order structure_fields (value.Text d.name ∷ value.Num d.class ∷ value.Text d.comment ∷ []) end body
    → e.elements ≡ d.elements → e ≡ d
same_entry order body e d tail end left right elements =
    let values = (bodies-unique order structure_fields body structure_fields-sound
    (value.Text e.name ∷ value.Num e.class ∷ value.Text e.comment ∷ [])
    (value.Text d.name ∷ value.Num d.class ∷ value.Text d.comment ∷ []) tail end left right).0 in
    let moved : Entry = record { class = d.class; name = d.name; comment = d.comment; elements = e.elements } in
    let same : e ≡ moved = same_Some e moved (ap (entry_with e.elements) values) in
    same ∙ ap (λ (es : List Element). record {
      class = d.class;
      name = d.name;
      comment = d.comment;
      elements = es;
    }) elements

-- a structure that is an item of its own is neither FrSH nor FrSE
pub other_class : (order : Order) (file : List ℕ) (b : Before) (s : Structure) → StructureMayStand order file b s
    → (s.class ≡ 1 → ⊥) × (s.class ≡ 2 → ⊥)
other_class order file b s may =
    let P : ℕ → Type 0 = λ class. KindMayStand (kind_of b.dictionary class) order b s in
    (λ same. subst P same may.kind, λ same. subst P same may.kind)
