-- The run of FrSEs from a place on, as it is read one by one: its elements, of which the first are kept, and
-- the place after them.
use Rattle.std.proofs.Common.{◌≡◌, ℕ, ◌+◌, ◌<◌, ◌≤◌, List, [], ◌∷◌, ◌++◌, length, take, sum_by, Option, Some}
use Rattle.std.proofs.Common.{None}
use Rattle.std.proofs.Common.{refl, sym, ap, ◌∙◌, subst, arith, add-zero, append_assoc, append-nil}
use Rattle.std.proofs.Common.{length-append}
use Rattle.std.proofs.Common.{length-take}
use Rattle.std.proofs.lemmas.List.{take_all, take-append-le}
use Rattle.std.proofs.lemmas.List.Sums.{sum_by-cons}
use Rattle.scalar_types.specs.declared.Order.{Order}
use Rattle.dictionary.specs.declared.entries.Element.{Element}
use Rattle.file_grammar.specs.Structure.{Structure, size_of, end_of, structure_at}
use Rattle.file_grammar.specs.Described.{element_at, longest_run}
use Rattle.file_grammar.proofs.Structures.{stands-fits}
use Rattle.file_grammar.proofs.Elements.{element-found}
use Rattle.file_grammar.proofs.Runs.{structures_of, elements_of, run_at-none, longest_run-run}
use Rattle.file_grammar.proofs.Runs.{longest_run-again}
use Rattle.file_grammar.proofs.Runs.{place-cons}
use Rattle.item_reader.specs.Looked.{look}
use Rattle.item_reader.specs.Judged.{kept_elements}
use Rattle.item_reader.specs.Entries.{elements_from, end_from}
use Rattle.item_reader.proofs.Looking.{look-least, look-most}

-- ---- one by one

-- the bytes of a run are those of its structures
sum_by-structures : (run : List (Structure × Element))
    → sum_by (λ (e : Structure × Element). size_of e.0) run ≡ sum_by size_of (structures_of run)
sum_by-structures [] = refl
sum_by-structures (x ∷ xs) =
    sum_by-cons (λ (e : Structure × Element). size_of e.0) x xs
    ∙ ap (λ n. size_of x.0 + n) (sum_by-structures xs)
    ∙ sym (sum_by-cons size_of x.0 (structures_of xs))

end_from-structures : (order : Order) (file : List ℕ) (at : ℕ)
    → end_from order file at ≡ at + sum_by size_of (structures_of (longest_run order file at))
end_from-structures order file at = ap (λ n. at + n) (sum_by-structures (longest_run order file at))

-- where no element stands the run ends
run-none : (order : Order) (file : List ℕ) (at : ℕ) → element_at order file at ≡ None
    → (elements_from order file at ≡ []) × (end_from order file at ≡ at)
run-none order file at none =
    let done : longest_run order file at ≡ [] = run_at-none _ order file at none in (
      ap elements_of done,
      ap (λ run. at + sum_by (λ (e : Structure × Element). size_of e.0) run) done ∙ add-zero at,
    )

-- and an element that stands is its first
run-some : (order : Order) (file : List ℕ) (at : ℕ) (e : Element) → element_at order file at ≡ Some e
    → (elements_from order file at ≡ e ∷ elements_from order file (end_of (structure_at order file at)))
    × (end_from order file at ≡ end_from order file (end_of (structure_at order file at)))
run-some order file at e found =
    let first : Structure = structure_at order file at in
    let rest : List (Structure × Element) = longest_run order file (end_of first) in
    let others = longest_run-run order file (end_of first) in
    let ends = ap (element_at order file) (sym (place-cons first (structures_of rest))) ∙ others.ends in
    let both = longest_run-again order file at (first ∷ structures_of rest) (e ∷ elements_of rest) (
      refl,
      element-found order file at e found,
      others.elements,
    ) ends in (
      both.1,
      end_from-structures order file at ∙ ap (λ ss. at + sum_by size_of ss) both.0
          ∙ sym (place-cons first (structures_of rest))
          ∙ sym (end_from-structures order file (end_of first)),
    )

-- The elements so far are the first of those at the front of the run, and the others are those from the place
-- reached.
pub record Runs (order : Order) (file : List ℕ) (from : ℕ) (elements : List Element) (at : ℕ) : Type 0 where
  pub front : List Element
  pub all : elements_from order file from ≡ front ++ elements_from order file at
  pub kept : elements ≡ take kept_elements front
  pub end_is : end_from order file from ≡ end_from order file at
  pub within : at ≤ length file

pub runs-begin : (order : Order) (file : List ℕ) (at : ℕ) → at ≤ length file → Runs order file at [] at
runs-begin order file at within =
    record { front = []; all = refl; kept = refl; end_is = refl; within = within }

-- one element more, which is kept or not
runs-next : (order : Order) (file : List ℕ) (from : ℕ) (elements more : List Element) (at : ℕ) (e : Element)
    (end : ℕ) (runs : Runs order file from elements at) → element_at order file at ≡ Some e
    → end ≡ end_of (structure_at order file at)
    → more ≡ take kept_elements (runs.front ++ e ∷ []) → Runs order file from more end
runs-next order file from elements more at e end runs found end_is kept =
    let next = run-some order file at e found in
    let here = element-found order file at e found in
    let rest : List Element = elements_from order file (end_of (structure_at order file at)) in
    let fits = stands-fits order file (structure_at order file at) here.stands in
    let moved : Runs order file from more (end_of (structure_at order file at)) = record {
      front = runs.front ++ e ∷ [];
      all = runs.all ∙ ap (λ es. runs.front ++ es) next.0 ∙ sym (append_assoc runs.front (e ∷ []) rest);
      kept = kept;
      end_is = runs.end_is ∙ next.1;
      within = omega (arith, fits.whole, here.stands.whole, here.stands.head);
    } in
    subst (Runs order file from more) (sym end_is) moved

pub runs-kept : (order : Order) (file : List ℕ) (from : ℕ) (elements more : List Element) (at : ℕ)
    (e : Element) (end : ℕ) → Runs order file from elements at → element_at order file at ≡ Some e
    → end ≡ end_of (structure_at order file at) → length elements < kept_elements → more ≡ elements ++ e ∷ []
    → Runs order file from more end
runs-kept order file from elements more at e end runs found end_is few more_is =
    let short : length runs.front < kept_elements =
    omega (arith, ap length runs.kept, length-take kept_elements runs.front, few) in
    let all : elements ≡ runs.front = runs.kept ∙ take_all kept_elements runs.front (omega (arith, short)) in
    let longer : length (runs.front ++ e ∷ []) ≤ kept_elements =
    omega (arith, length-append runs.front (e ∷ []), short) in
    runs-next order file from elements more at e end runs found end_is
    (more_is ∙ ap (λ es. es ++ e ∷ []) all ∙ sym (take_all kept_elements (runs.front ++ e ∷ []) longer))

pub runs-passed : (order : Order) (file : List ℕ) (from : ℕ) (elements : List Element) (at : ℕ) (e : Element)
    (end : ℕ) → Runs order file from elements at → element_at order file at ≡ Some e
    → end ≡ end_of (structure_at order file at) → kept_elements ≤ length elements
    → Runs order file from elements end
runs-passed order file from elements at e end runs found end_is many =
    let long : kept_elements ≤ length runs.front =
    omega (arith, ap length runs.kept, length-take kept_elements runs.front, many) in
    runs-next order file from elements elements at e end runs found end_is
    (runs.kept ∙ sym (take-append-le kept_elements runs.front (e ∷ []) long))

-- where no element stands the run is done
pub runs-done : (order : Order) (file : List ℕ) (from : ℕ) (elements : List Element) (at : ℕ)
    → Runs order file from elements at → element_at order file at ≡ None
    → (elements ≡ take kept_elements (elements_from order file from)) × (at ≡ end_from order file from)
runs-done order file from elements at runs none =
    let done = run-none order file at none in (
      runs.kept ∙ ap (take kept_elements)
          (sym (runs.all ∙ ap (λ es. runs.front ++ es) done.0 ∙ append-nil runs.front)),
      sym (runs.end_is ∙ done.1),
    )

-- ---- looks

-- the look of the place after a run goes at least as far as that of its beginning
pub look-end : (order : Order) (file : List ℕ) (at : ℕ)
    → look order file at ≤ look order file (end_from order file at)
look-end order file at = by (element_at order file at) refl
  where
    by : (o : Option Element) → element_at order file at ≡ o
        → look order file at ≤ look order file (end_from order file at)
    by None is = omega (arith, ap (look order file) (run-none order file at is).1)
    by (Some e) is =
        let here = element-found order file at e is in
        let fits = stands-fits order file (structure_at order file at) here.stands in
        let end : ℕ = end_from order file at in
        let behind : end_of (structure_at order file at) ≤ end =
        omega (arith, (run-some order file at e is).1) in
        let least = look-least order file end in
        let most = look-most order file at fits.enough in
        omega (arith, behind, least, most, here.stands.whole)

pub runs-look : (order : Order) (file : List ℕ) (from : ℕ) (elements : List Element) (at : ℕ)
    → Runs order file from elements at → look order file at ≤ look order file (end_from order file from)
runs-look order file from elements at runs =
    subst (λ end. look order file at ≤ look order file end) (sym runs.end_is) (look-end order file at)
