-- The entries of a dictionary as a file has them.
use Rattle.std.proofs.Common.{◌≡◌, ℕ, ◌+◌, Bool, true, false, cond, List, [], ◌∷◌, ◌++◌, map, sum_by, Option, Some}
use Rattle.std.proofs.Common.{None, Result, Ok, Err, IsOk, refl, ap, ◌∙◌, subst}
use Rattle.std.specs.Prelude.{option_and_then, is_some}
use Rattle.scalar_types.specs.declared.Order.{Order}
use Rattle.record_values.specs.declared.values.Value.{Value}
use Rattle.record_values.specs.declared.values.Value.TheVariants as value
use Rattle.dictionary.specs.declared.entries.Element.{Element}
use Rattle.dictionary.specs.declared.entries.Entry.{Entry}
use Rattle.dictionary.specs.declared.held.AddFault.{AddFault}
use Rattle.dictionary.specs.declared.held.AddFault.TheVariants.{ClassRange, Redefined, NameTwice, ElementLimit}
use Rattle.dictionary.specs.Same.{same_entries}
use Rattle.dictionary.specs.Dictionary.{entry_of, class_named, is_built_in, is_out_of_range, is_too_long, step_by, step}
use Rattle.layout_plan.specs.Body.{number_of, IsBody}
use Rattle.layout_plan.specs.Reading.{fault_of}
use Rattle.layout_plan.specs.BuiltIn.{structure_fields}
use Rattle.file_grammar.specs.declared.reason.Reason.{Reason}
use Rattle.file_grammar.specs.declared.reason.Reason.TheVariants as reason
use Rattle.file_grammar.specs.Structure.{Structure, size_of, end_of, structure_at, StandsWhole}
use Rattle.file_grammar.specs.Record.{Reading}
use Rattle.file_grammar.specs.Described.{entry_with, element_at, longest_run, entry_from, IsEntry}
use Rattle.file_grammar.specs.Fault.{err_of}
use Rattle.file_grammar.specs.Steps.{refusal_reason}
use Rattle.file_grammar.proofs.Bodies.{structure_fields-sound, structure-values, reading-found, reading-again}
use Rattle.file_grammar.proofs.Bodies.{reading-unless_fault, no_fault-reading}
use Rattle.file_grammar.proofs.Elements.{element-found, element-again}
use Rattle.file_grammar.proofs.Runs.{structures_of, elements_of, longest_run-run, longest_run-again}

-- An FrSH whose body has no fault begins an entry.
pub entry-found : (order : Order) (file : List ℕ) (head : Structure) → StandsWhole order file head → head.class ≡ 1
    → fault_of order structure_fields head.body ≡ None → (entry : Entry) × (entry_from order file head ≡ Some entry)
    × IsEntry order file head (structures_of (longest_run order file (end_of head))) entry
entry-found order file head stands class good =
    let read = reading-unless_fault order head.body structure_fields good in
    let spelled = reading-found order head.body structure_fields read.0 structure_fields-sound read.1 in
    let v = structure-values order (map number_of read.0.values) read.0.values spelled.front spelled.spelled in
    let run = longest_run-run order file (end_of head) in
    let elements : List Element = elements_of (longest_run order file (end_of head)) in (
      record { class = v.1; name = v.0; comment = v.2; elements = elements },
      ap (λ o. option_and_then (λ (r : Reading). entry_with elements r.values) o) read.1 ∙ ap (entry_with elements) v.3,
      record {
        stands = stands;
        class = class;
        tail = read.0.tail;
        body = subst (λ values. IsBody order structure_fields values read.0.tail head.body) v.3 spelled;
        elements = run.elements;
        longest = λ s e at here. apart (element_at order file s.at) e (ap (element_at order file) at ∙ run.ends)
            (element-again order file s e here);
      },
    )
  where
    apart : (o : Option Element) (e : Element) → o ≡ None → o ≡ Some e → ⊥
    apart o e none some = cc

-- And an entry that stands there is found, with its run.
pub entry-again : (order : Order) (file : List ℕ) (head : Structure) (run : List Structure) (entry : Entry)
    → IsEntry order file head run entry → (entry_from order file head ≡ Some entry)
    × (structures_of (longest_run order file (end_of head)) ≡ run)
entry-again order file head run entry here =
    let found = longest_run-again order file (end_of head) run entry.elements here.elements ends in (
      ap (λ o. option_and_then
          (λ (r : Reading). entry_with (elements_of (longest_run order file (end_of head))) r.values) o)
          (reading-again order head.body structure_fields values here.tail structure_fields-sound here.body)
          ∙ ap (λ es. entry_with es values) found.1,
      found.0,
    )
  where
    values : List Value
    values = value.Text entry.name ∷ value.Num entry.class ∷ value.Text entry.comment ∷ []

    ends : element_at order file (end_of head + sum_by size_of run) ≡ None
    ends = by (element_at order file (end_of head + sum_by size_of run)) refl
      where
        by : (o : Option Element) → element_at order file (end_of head + sum_by size_of run) ≡ o
            → element_at order file (end_of head + sum_by size_of run) ≡ None
        by None is = is
        by (Some e) is =
            absurd (here.longest (structure_at order file (end_of head + sum_by size_of run)) e refl
            (element-found order file (end_of head + sum_by size_of run) e is))

pub no_fault-entry : (order : Order) (file : List ℕ) (head : Structure) (run : List Structure) (entry : Entry)
    → IsEntry order file head run entry → fault_of order structure_fields head.body ≡ None
no_fault-entry order file head run entry here =
    let values : List Value = value.Text entry.name ∷ value.Num entry.class ∷ value.Text entry.comment ∷ [] in
    let reading : Reading = record { fields = structure_fields; values = values; tail = here.tail } in
    no_fault-reading order head.body structure_fields reading
    (reading-again order head.body structure_fields values here.tail structure_fields-sound here.body)

-- an entry is taken where it has no reason to be refused
abbrev Taken : Result (List Entry) AddFault → Type 0
Taken r = option_and_then refusal_reason (err_of r) ≡ None → IsOk r

taken-either : (b : Bool) (x y : Result (List Entry) AddFault) → Taken x → Taken y → Taken (cond b x y)
taken-either true x y tx ty = tx
taken-either false x y tx ty = ty

refused : (f : AddFault) (r : Reason) → refusal_reason f ≡ Some r → Taken (Err f)
refused f r is none = cc

pub step-taken : (held : List Entry) (e : Entry) → option_and_then refusal_reason (err_of (step held e)) ≡ None
    → IsOk (step held e)
unfolding step
step-taken held e =
    taken-either (is_built_in e.class) _ _ (short held)
    (taken-either (is_out_of_range e.class) _ _ (refused ClassRange reason.ClassRange refl)
    (by (entry_of held e.class)))
  where
    short : (next : List Entry) → Taken (cond (is_too_long e) (Err ElementLimit) (Ok next))
    short next = taken-either (is_too_long e) _ _ (refused ElementLimit reason.ElementLimit refl) (λ none. refl)

    by : (o : Option Entry) → Taken (step_by o held e)
    by None =
        taken-either (is_some (class_named held e.name)) _ _ (refused NameTwice reason.NameTwice refl)
        (short (held ++ e ∷ []))
    by (Some old) = taken-either (same_entries old e) _ _ (λ none. refl) (refused Redefined reason.Redefined refl)
