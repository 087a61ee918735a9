-- The longest run of FrSEs at a place of a file.
use Rattle.std.proofs.Common.{◌≡◌, ℕ, zero, suc, ◌+◌, ◌≤◌, List, [], ◌∷◌, map, sum_by, Option, Some, None, refl, sym}
use Rattle.std.proofs.Common.{ap, ◌∙◌, subst, arith, add-zero, add_assoc}
use Rattle.std.specs.Option.{option_map_or}
use Rattle.std.proofs.lemmas.List.Sums.{sum_by-cons}
use Rattle.scalar_types.specs.declared.Order.{Order}
use Rattle.dictionary.specs.declared.entries.Element.{Element}
use Rattle.file_grammar.specs.Structure.{Structure, size_of, end_of, left_at, structure_at}
use Rattle.file_grammar.specs.Described.{element_at, run_at, longest_run, AreElements}
use Rattle.file_grammar.proofs.Elements.{element-found, element-again}

-- the structures of a run, and their elements
abbrev pub structures_of : List (Structure × Element) → List Structure
structures_of run = map (λ e. e.0) run

abbrev pub elements_of : List (Structure × Element) → List Element
elements_of run = map (λ e. e.1) run

-- a run ends where no element stands, and goes on where one does
pub run_at-none : (n : ℕ) (order : Order) (file : List ℕ) (at : ℕ) → element_at order file at ≡ None
    → run_at n order file at ≡ []
unfolding run_at
run_at-none zero order file at none = refl
run_at-none (suc n) order file at none =
    ap (λ o. option_map_or (λ (element : Element). (structure_at order file at, element)
    ∷ run_at n order file (end_of (structure_at order file at))) o []) none

run_at-some : (n : ℕ) (order : Order) (file : List ℕ) (at : ℕ) (e : Element) → element_at order file at ≡ Some e
    → run_at (suc n) order file at ≡ (structure_at order file at, e)
    ∷ run_at n order file (end_of (structure_at order file at))
unfolding run_at
run_at-some n order file at e some =
    ap (λ o. option_map_or (λ (element : Element). (structure_at order file at, element)
    ∷ run_at n order file (end_of (structure_at order file at))) o []) some

run_at-zero : (order : Order) (file : List ℕ) (at : ℕ) → run_at zero order file at ≡ []
unfolding run_at
run_at-zero order file at = refl

-- an element takes bytes
element-takes : (order : Order) (file : List ℕ) (at n : ℕ) (e : Element) → element_at order file at ≡ Some e
    → left_at file at ≤ suc n → left_at file (end_of (structure_at order file at)) ≤ n
element-takes order file at n e some enough =
    let here = element-found order file at e some in
    omega (arith, here.stands.head)

no_element : (order : Order) (file : List ℕ) (at : ℕ) → left_at file at ≤ zero → element_at order file at ≡ None
no_element order file at none = by (element_at order file at) refl
  where
    by : (o : Option Element) → element_at order file at ≡ o → element_at order file at ≡ None
    by None is = is
    by (Some e) is =
        let here = element-found order file at e is in absurd (omega (arith, here.stands.head))

-- the place after the first structure and the others
pub place-cons : (s : Structure) (ss : List Structure) → end_of s + sum_by size_of ss ≡ s.at + sum_by size_of (s ∷ ss)
place-cons s ss =
    add_assoc s.at (size_of s) (sum_by size_of ss) ∙ ap (λ n. s.at + n) (sym (sum_by-cons size_of s ss))

-- a run at a place
pub record IsRun (order : Order) (file : List ℕ) (at : ℕ) (run : List (Structure × Element)) : Type 0 where
  pub elements : AreElements order file at (structures_of run) (elements_of run)
  pub ends : element_at order file (at + sum_by size_of (structures_of run)) ≡ None

-- What is found at a place with bytes enough is a run there after which no element stands.
run_at-run : (n : ℕ) (order : Order) (file : List ℕ) (at : ℕ) → left_at file at ≤ n
    → IsRun order file at (run_at n order file at)
run_at-run zero order file at enough =
    subst (IsRun order file at) (sym (run_at-zero order file at))
    (record { elements = tt; ends = ap (element_at order file) (add-zero at) ∙ no_element order file at enough })
run_at-run (suc n) order file at enough =
    by (element_at order file at) refl
    (λ e is. run_at-run n order file (end_of (structure_at order file at))
    (element-takes order file at n e is enough))
  where
    by : (o : Option Element) → element_at order file at ≡ o
        → ((e : Element) → element_at order file at ≡ Some e
        → IsRun order file (end_of (structure_at order file at))
        (run_at n order file (end_of (structure_at order file at))))
        → IsRun order file at (run_at (suc n) order file at)
    by None is others =
        subst (IsRun order file at) (sym (run_at-none (suc n) order file at is))
        (record { elements = tt; ends = ap (element_at order file) (add-zero at) ∙ is })
    by (Some e) is others =
        let run = others e is in
        let rest : List (Structure × Element) = run_at n order file (end_of (structure_at order file at)) in
        subst (IsRun order file at) (sym (run_at-some n order file at e is)) (record {
          elements = (refl, element-found order file at e is, run.elements);
          ends = ap (element_at order file)
              (sym (place-cons (structure_at order file at) (structures_of rest))) ∙ run.ends;
        })

-- The elements that stand at a place, where none stands after them, are found there.
run_at-again : (n : ℕ) (order : Order) (file : List ℕ) (at : ℕ) (run : List Structure) (es : List Element)
    → left_at file at ≤ n → AreElements order file at run es → element_at order file (at + sum_by size_of run) ≡ None
    → (structures_of (run_at n order file at) ≡ run) × (elements_of (run_at n order file at) ≡ es)
run_at-again n order file at [] [] enough stand ends =
    let none = run_at-none n order file at (ap (element_at order file) (sym (add-zero at)) ∙ ends) in
    (ap structures_of none, ap elements_of none)
run_at-again n order file at [] (e ∷ es) enough stand ends = absurd stand
run_at-again n order file at (s ∷ ss) [] enough stand ends = absurd stand
run_at-again zero order file at (s ∷ ss) (e ∷ es) enough stand ends =
    absurd (omega (arith, stand.0, stand.1.stands.head))
run_at-again (suc n) order file at (s ∷ ss) (e ∷ es) enough stand ends =
    let same : s ≡ structure_at order file at = stand.1.stands.is ∙ ap (structure_at order file) stand.0 in
    let found : element_at order file at ≡ Some e = ap (element_at order file) (sym stand.0)
    ∙ element-again order file s e stand.1 in
    let room : left_at file (end_of s) ≤ n = omega (arith, stand.0, stand.1.stands.head) in
    let after : element_at order file (end_of s + sum_by size_of ss) ≡ None =
    ap (element_at order file) (place-cons s ss ∙ ap (λ at. at + sum_by size_of (s ∷ ss)) stand.0) ∙ ends in
    let others = run_at-again n order file (end_of s) ss es room stand.2 after in
    let run : run_at (suc n) order file at ≡ (s, e) ∷ run_at n order file (end_of s) =
    run_at-some n order file at e found ∙ ap (λ s. (s, e) ∷ run_at n order file (end_of s)) (sym same) in
    (ap structures_of run ∙ ap (λ ss. s ∷ ss) others.0, ap elements_of run ∙ ap (λ es. e ∷ es) others.1)

-- The longest run.
pub longest_run-run : (order : Order) (file : List ℕ) (at : ℕ) → IsRun order file at (longest_run order file at)
longest_run-run order file at = run_at-run (left_at file at) order file at (omega arith)

pub longest_run-again : (order : Order) (file : List ℕ) (at : ℕ) (run : List Structure) (es : List Element)
    → AreElements order file at run es → element_at order file (at + sum_by size_of run) ≡ None
    → (structures_of (longest_run order file at) ≡ run) × (elements_of (longest_run order file at) ≡ es)
longest_run-again order file at run es stand ends =
    run_at-again (left_at file at) order file at run es (omega arith) stand ends
