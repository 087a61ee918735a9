-- An entry that the dictionary is given: what was held before, and what it holds and the plans are after it.
use Rattle.std.proofs.Common.{◌≡◌, inl, inr, ℕ, ◌+◌, ◌≤◌, Bool, cond, true, false, List, [], ◌∷◌, ◌++◌, Option, Some}
use Rattle.std.proofs.Common.{None, Result}
use Rattle.std.proofs.Common.{Ok, Err, IfOk, IfErr, OnOk, refl, sym, ap, ◌∙◌, subst, is_some, arith}
use Rattle.std.specs.Prelude.{nat_eq, nat_lt, IfSome}
use Rattle.std.specs.Option.{option_map_or}
use Rattle.std.specs.Result.{IsOkUnless}
use Rattle.std.proofs.lemmas.Bool.{false≢true, le-ltb}
use Rattle.std.proofs.lemmas.Option.{same_Some, none-some}
use Rattle.indexmap.specs.IndexMap.{insert_entry}
use Rattle.dictionary.specs.declared.entries.Entry.{Entry}
use Rattle.dictionary.specs.declared.held.AddFault.{AddFault}
use Rattle.dictionary.specs.declared.held.AddFault.TheVariants as add
use Rattle.dictionary.specs.Dictionary.{entry_of, step, IsDictionary}
use Rattle.layout_plan.specs.declared.fields.Field.{Field}
use Rattle.layout_plan.specs.Layout.{layout_of}
use Rattle.layout_plan.specs.Plans.{plan_of}
use Rattle.file_grammar.specs.declared.reason.Reason.{Reason}
use Rattle.file_grammar.specs.declared.reason.Reason.TheVariants.{FileLimit}
use Rattle.file_grammar.specs.declared.fault.Fault.{Fault}
use Rattle.file_grammar.specs.declared.kind.Kind.TheVariants.{FrSH}
use Rattle.file_grammar.specs.Structure.{file_limit}
use Rattle.file_grammar.specs.Kind.{kind_of}
use Rattle.file_grammar.specs.Record.{layout_in}
use Rattle.file_grammar.specs.Fault.{Here, place, length_there, kind, refusal, here, err_of, fault_at, first_of}
use Rattle.file_grammar.specs.Steps.{refusal_reason}
use Rattle.file_grammar.proofs.Firsts.{first_of-passes, first_of-holds}
use Rattle.file_grammar.proofs.Judging.{first_of-taken, first_of-refused}
use Rattle.file_grammar.proofs.Readings.{refusal-of}
use Rattle.item_reader.specs.declared.item.ReadError.{ReadError}
use Rattle.item_reader.specs.declared.item.ReadError.TheVariants as errors
use Rattle.item_reader.specs.declared.state.State.{State}
use Rattle.item_reader.specs.declared.structure.Placed.{Placed}
use Rattle.item_reader.specs.Placed.{IsPlaced, StandsIn}
use Rattle.item_reader.specs.State.{here_in}
use Rattle.item_reader.specs.declared.item.Item.TheVariants as given
use Rattle.item_reader.specs.Given.{entry_within, entry_in}
use Rattle.item_reader.specs.Judged.{entry_reasons, DescribesEntry, Holds, IsBeside, AnswersHolding}
use Rattle.item_reader.proofs.CutEntry.{step-cut, taken-short}
use Rattle.item_reader.proofs.Growing.{entry_of-own, longer, step-cases, plans-read, plans-unread}
use Rattle.item_reader.proofs.Located.{told-here, class-here}

-- ---- what the dictionary answers

-- what is added without a fault is the step
pub step-added : {U : Type 0} (held : List Entry) (e : Entry) (result : Result U AddFault) (new : List Entry)
    (u : U)
    → IfErr (step held e) (λ fault. result ≡ Err fault)
    → IfOk (step held e) (λ next. OnOk result (new ≡ next))
    → result ≡ Ok u → step held e ≡ Ok new
step-added {U} held e result new u refused accepted ok = by (step held e) refl refused accepted
  where
    apart : (f : AddFault) → result ≡ Err f → ⊥
    apart f e = unlike (sym e ∙ ok)
      where
        unlike : ◌≡◌ {A = Result U AddFault} (Err f) (Ok u) → ⊥
        unlike e = cc

    by : (o : Result (List Entry) AddFault) → step held e ≡ o → IfErr o (λ fault. result ≡ Err fault)
        → IfOk o (λ next. OnOk result (new ≡ next)) → step held e ≡ Ok new
    by (Err f) is bad good = absurd (apart f bad)
    by (Ok next) is bad good =
        let same : new ≡ next = subst (λ r. OnOk r (new ≡ next)) ok good in
        is ∙ ap Ok (sym same)

pub class-stepped : (held : List Entry) (e : Entry) (next : List Entry) → step held e ≡ Ok next
    → e.class ≤ 255
class-stepped held e next is = elim (step-cases held e next is) [
  | inl stays ↦ stays.0
  | inr grows ↦ grows.0
]

-- an entry that was not held and is now is the one that was added
pub record Grew (held : List Entry) (e : Entry) (next : List Entry) (x : Entry) : Type 0 where
  pub next_is : next ≡ held ++ e ∷ []
  pub entry_is : x ≡ e

pub grew : (held : List Entry) (e : Entry) (next : List Entry) (x : Entry) → step held e ≡ Ok next
    → entry_of held e.class ≡ None → entry_of next e.class ≡ Some x → Grew held e next x
grew held e next x is fresh found = elim (step-cases held e next is) [
  | inl stays ↦ absurd (none-some x (sym fresh ∙ ap (λ d. entry_of d e.class) (sym stays.1) ∙ found))
  | inr grows ↦ record {
    next_is = grows.1;
    entry_is = sym (same_Some e x (sym (entry_of-own held e fresh)
        ∙ ap (λ d. entry_of d e.class) (sym grows.1) ∙ found));
  }
]

-- where the class is not held after it, or was held before it, the dictionary stays
pub unchanged-none : (held : List Entry) (e : Entry) (next : List Entry) → step held e ≡ Ok next
    → entry_of next e.class ≡ None → next ≡ held
unchanged-none held e next is none = elim (step-cases held e next is) [
  | inl stays ↦ stays.1
  | inr grows ↦ absurd (none-some e
      (sym none ∙ ap (λ d. entry_of d e.class) grows.1 ∙ entry_of-own held e grows.2))
]

pub unchanged-known : (held : List Entry) (e : Entry) (next : List Entry) → step held e ≡ Ok next
    → is_some (entry_of held e.class) ≡ true → next ≡ held
unchanged-known held e next is known = elim (step-cases held e next is) [
  | inl stays ↦ stays.1
  | inr grows ↦ absurd (false≢true (ap is_some (sym grows.2) ∙ known))
]

-- ---- what is told of each file in which it stands

-- the kind of the structure that stands at the place
pub kind-here : (h : Here) (p : Placed) → IsPlaced h.order h.file (place h) p
    → kind h ≡ kind_of h.before.dictionary p.class
kind-here h p here = ap (kind_of h.before.dictionary) (class-here h p here)

-- it ends beyond the limit of files, or it does not
pub beyond-here : (h : Here) (p : Placed) → IsPlaced h.order h.file (place h) p
    → nat_lt file_limit (place h + length_there h) ≡ nat_lt file_limit (p.at + p.length)
beyond-here h p here =
    λ i. nat_lt file_limit (sym here.place i + told-here h p here i)

-- the refusal is that of the entry as it was read
pub refusal-here : (s : State) (p : Placed) (entry : Entry) (file body : List ℕ) (end : ℕ)
    → (entry.class ≤ 255 → IsDictionary s.dictionary) → kind_of s.dictionary p.class ≡ FrSH
    → StandsIn s.segment.order s.at p body file → DescribesEntry s.segment.order file s.at entry end
    → refusal (here_in s file) ≡ err_of (step s.dictionary entry)
refusal-here s p entry file body end sound is stands d =
    refusal-of (here_in s file) d.full (kind-here (here_in s file) p stands.placed ∙ is) d.full_is
    ∙ ap err_of (sym (step-cut s.dictionary d.full
    (λ high. sound (omega (arith, high, ap (λ (e : Entry). e.class) d.entry_is))))
    ∙ ap (step s.dictionary) (sym d.entry_is))

-- a fault answers the place
pub answers-fault : (h : Here) (f : Fault) (error : ReadError) → error ≡ errors.Fault f
    → first_of entry_reasons h ≡ Some f → AnswersHolding h (Err error)
answers-fault h f error is said = subst (λ e. AnswersHolding h (Err e)) (sym is) said

-- an entry that is not added
pub answers-refused : {U : Type 0} (s : State) (p : Placed) (entry : Entry) (result : Result U AddFault)
    (fault : AddFault) (error : ReadError) → (entry.class ≤ 255 → IsDictionary s.dictionary)
    → kind_of s.dictionary p.class ≡ FrSH → result ≡ Err fault
    → IfErr (step s.dictionary entry) (λ fault. result ≡ Err fault)
    → OnOk (step s.dictionary entry) (IsOkUnless result add.NoMemory)
    → error ≡ option_map_or (λ reason. errors.Fault (fault_at reason (s.at, 0))) (refusal_reason fault)
    errors.NoMemory
    → (file body : List ℕ) (end : ℕ) → StandsIn s.segment.order s.at p body file
    → DescribesEntry s.segment.order file s.at entry end → AnswersHolding (here_in s file) (Err error)
answers-refused {U} s p entry result fault error sound is failed refused memory error_is file body end stands
    d =
    by (step s.dictionary entry) (refusal-here s p entry file body end sound is stands d) refused memory
  where
    h : Here
    h = here_in s file

    same : (f g : AddFault) → ◌≡◌ {A = Result U AddFault} (Err f) (Err g) → f ≡ g
    same f g e = cc

    told_of : (f : AddFault) → refusal h ≡ Some f
        → AnswersHolding h (Err (option_map_or (λ (r : Reason). errors.Fault (fault_at r (s.at, 0)))
        (refusal_reason f)
        errors.NoMemory))
    told_of add.ClassRange e = first_of-refused h (FileLimit ∷ []) add.ClassRange _ e refl
    told_of add.Redefined e = first_of-refused h (FileLimit ∷ []) add.Redefined _ e refl
    told_of add.NameTwice e = first_of-refused h (FileLimit ∷ []) add.NameTwice _ e refl
    told_of add.ElementLimit e = first_of-refused h (FileLimit ∷ []) add.ElementLimit _ e refl
    told_of add.NoMemory e = tt

    full : fault ≡ add.NoMemory → AnswersHolding h (Err error)
    full e = subst (λ e. AnswersHolding h (Err e))
        (sym (error_is ∙ ap (λ f. option_map_or (λ (r : Reason). errors.Fault (fault_at r (s.at, 0)))
        (refusal_reason f) errors.NoMemory) e)) tt

    by : (o : Result (List Entry) AddFault) → refusal h ≡ err_of o → IfErr o (λ fault. result ≡ Err fault)
        → OnOk o (IsOkUnless result add.NoMemory) → AnswersHolding h (Err error)
    by (Err f) refusal_is refused memory =
        let this : fault ≡ f = same fault f (sym failed ∙ refused) in
        subst (λ e. AnswersHolding h (Err e)) (sym error_is) (told_of fault (refusal_is ∙ ap Some (sym this)))
    by (Ok next) refusal_is refused memory =
        full (subst (λ r. IsOkUnless r add.NoMemory) failed memory)

-- an entry that ends beyond the limit of files
pub answers-beyond : (s : State) (p : Placed) (entry : Entry) (next : List Entry) (error : ReadError)
    → (entry.class ≤ 255 → IsDictionary s.dictionary) → kind_of s.dictionary p.class ≡ FrSH
    → step s.dictionary entry ≡ Ok next → nat_lt file_limit (p.at + p.length) ≡ true
    → error ≡ errors.Fault (fault_at FileLimit (s.at, 0)) → (file body : List ℕ) (end : ℕ)
    → StandsIn s.segment.order s.at p body file → DescribesEntry s.segment.order file s.at entry end
    → AnswersHolding (here_in s file) (Err error)
answers-beyond s p entry next error sound is stepped beyond error_is file body end stands d =
    let h : Here = here_in s file in
    answers-fault h (fault_at FileLimit (s.at, 0)) error error_is
    (first_of-taken h (FileLimit ∷ [])
    (refusal-here s p entry file body end sound is stands d ∙ ap err_of stepped)
    ∙ first_of-holds FileLimit [] h (s.at, 0) (ap (here h) (beyond-here h p stands.placed ∙ beyond)))

-- an entry that is taken
pub answers-taken : (s : State) (p : Placed) (entry : Entry) (next : List Entry)
    → (entry.class ≤ 255 → IsDictionary s.dictionary) → kind_of s.dictionary p.class ≡ FrSH
    → step s.dictionary entry ≡ Ok next → nat_lt file_limit (p.at + p.length) ≡ false
    → (file body : List ℕ) (end : ℕ) → StandsIn s.segment.order s.at p body file
    → DescribesEntry s.segment.order file s.at entry end → first_of entry_reasons (here_in s file) ≡ None
answers-taken s p entry next sound is stepped within file body end stands d =
    let h : Here = here_in s file in
    first_of-taken h (FileLimit ∷ [])
    (refusal-here s p entry file body end sound is stands d ∙ ap err_of stepped)
    ∙ first_of-passes FileLimit [] h (ap (here h) (beyond-here h p stands.placed ∙ within))

-- ---- what is held

-- the dictionary stays as it was
pub holds-unchanged : (s : State) (entry : Entry) (next : List Entry)
    → ((class : ℕ) → plan_of s.plans class ≡ layout_in s.dictionary class)
    → (entry.class ≤ 255 → IsDictionary s.dictionary) → step s.dictionary entry ≡ Ok next
    → next ≡ s.dictionary
    → Holds s entry false (record s { dictionary = next })
holds-unchanged s entry next plans sound stepped same = record {
  step_is = stepped;
  short = taken-short s.dictionary next entry sound stepped;
  changed_is = (λ f. absurd (false≢true f), λ differs. absurd (differs same));
  plans = λ class. plans class ∙ ap (λ d. layout_in d class) (sym same);
  rest = refl;
}

-- it grows, and the plan of its entry is kept
pub holds-grown : (s : State) (entry x : Entry) (next : List Entry) (learned : List (ℕ × List Field))
    → ((class : ℕ) → plan_of s.plans class ≡ layout_in s.dictionary class)
    → (entry.class ≤ 255 → IsDictionary s.dictionary) → step s.dictionary entry ≡ Ok next
    → entry_of s.dictionary entry.class ≡ None → entry_of next entry.class ≡ Some x
    → IfSome (layout_of x.elements) (λ fields. learned ≡ insert_entry nat_eq s.plans x.class fields)
    → (layout_of x.elements ≡ None → learned ≡ s.plans)
    → Holds s entry true (record s { dictionary = next; plans = learned })
holds-grown s entry x next learned plans sound stepped fresh held read unread = record {
  step_is = stepped;
  short = taken-short s.dictionary next entry sound stepped;
  changed_is = (λ t. λ same. longer s.dictionary entry (sym g.next_is ∙ same), λ differs. refl);
  plans = by (layout_of entry.elements) refl
      (subst (λ (e : Entry). IfSome (layout_of e.elements)
      (λ fields. learned ≡ insert_entry nat_eq s.plans e.class fields)) g.entry_is read)
      (subst (λ (e : Entry). layout_of e.elements ≡ None → learned ≡ s.plans) g.entry_is unread);
  rest = refl;
}
  where
    g : Grew s.dictionary entry next x
    g = grew s.dictionary entry next x stepped fresh held

    by : (o : Option (List Field)) → layout_of entry.elements ≡ o
        → IfSome o (λ fields. learned ≡ insert_entry nat_eq s.plans entry.class fields)
        → (layout_of entry.elements ≡ None → learned ≡ s.plans) → (class : ℕ)
        → plan_of learned class ≡ layout_in next class
    by None layout read unread class =
        ap (λ ps. plan_of ps class) (unread layout)
        ∙ plans-unread s.plans s.dictionary entry plans fresh layout class
        ∙ ap (λ d. layout_in d class) (sym g.next_is)
    by (Some fs) layout read unread class =
        ap (λ ps. plan_of ps class) read ∙ plans-read s.plans s.dictionary entry fs plans fresh layout class
        ∙ ap (λ d. layout_in d class) (sym g.next_is)

-- ---- what is lent of it

-- an entry that joins the dictionary stands in it
within-grown : (held : List Entry) (e : Entry) (next : List Entry) → e.class ≤ 255 → next ≡ held ++ e ∷ []
    → entry_of held e.class ≡ None → entry_within next e.class ≡ Some e
within-grown held e next high grown fresh =
    ap (λ b. cond b None (entry_of next e.class)) (le-ltb 255 e.class high)
    ∙ ap (λ d. entry_of d e.class) grown ∙ entry_of-own held e fresh

-- the entry that was taken is lent, of the dictionary or of what was kept beside it
pub lent-entry : (s : State) (entry : Entry) (at : ℕ) (changed : Bool) (new : State) (kept : Option Entry)
    → Holds s entry changed new → IsBeside s.dictionary entry kept
    → entry_in (Some (given.Entry at entry.class changed)) kept new.dictionary ≡ Some entry
lent-entry s entry at true new kept holds beside =
    elim (step-cases s.dictionary entry new.dictionary holds.step_is) [
      | inl stays ↦ absurd (holds.changed_is.0 refl stays.1)
      | inr grows ↦ within-grown s.dictionary entry new.dictionary grows.0 grows.1 grows.2
    ]
lent-entry s entry at false new kept holds beside =
    elim (step-cases s.dictionary entry new.dictionary holds.step_is) [
      | inl stays ↦ beside (holds.step_is ∙ ap Ok stays.1)
      | inr grows ↦ absurd (false≢true (holds.changed_is.1
          (λ same. longer s.dictionary entry (sym grows.1 ∙ same))))
    ]

-- an entry that would change the dictionary is of a class that it does not hold
pub not-beside : (held : List Entry) (e : Entry) → 3 ≤ e.class → (e.class ≤ 255 → entry_of held e.class ≡ None)
    → IsBeside held e None
not-beside held e low fresh = λ stays. absurd (elim (step-cases held e held stays) [
  | inl same ↦ elim same.2 [
    | inl built_in ↦ omega (arith, built_in, low)
    | inr known ↦ none-some known.0 (sym (fresh same.0) ∙ known.1)
  ]
  | inr grows ↦ longer held e (sym grows.1)
])
