-- Where a walk's fault and a check's stand at one place, they are of one reason, but for two cases.
use Rattle.std.proofs.Common.{◌≡◌, ℕ, ◌<◌, ◌≤◌, inl, inr, Bool, true, false, eqb, List, length, take, drop, Option}
use Rattle.std.proofs.Common.{Some, None, refl, sym, ap, subst, ◌∙◌, arith, length-drop}
use Rattle.std.proofs.lemmas.Bool.{eqb-true, eqb-false}
use Rattle.std.proofs.lemmas.Option.{same_Some, none-some}
use Rattle.scalar_types.specs.declared.Order.{Order}
use Rattle.frame_head.specs.Header.{header_of}
use Rattle.file_grammar.specs.declared.reason.Reason.{Reason}
use Rattle.file_grammar.specs.declared.reason.Reason.TheVariants.{CutRecord, LengthSmall, RecordLimit, FileLimit}
use Rattle.file_grammar.specs.declared.reason.Reason.TheVariants.{Trailing}
use Rattle.file_grammar.specs.declared.fault.Fault.{Fault}
use Rattle.file_grammar.specs.Fault.{Here, place, bytes_there, length_there, fault_at, first_of, fault_by, reasons}
use Rattle.file_grammar.specs.Fault.{IsItemFault}
use Rattle.file_grammar.specs.Steps.{length_reason}
use Rattle.file_grammar.proofs.Headers.{same_order}
use Rattle.file_grammar.proofs.Judging.{first_of-cut}
use Rattle.file_grammar.proofs.Lengths.{Fits, LengthCase, length_case, length-fits}
use Rattle.frame_tool.specs.declared.verdict.Verdict.TheVariants.{Wrong}
use Rattle.frame_tool.specs.Walk.{Holds, IsFault, IsStructureFault}
use Rattle.frame_tool.specs.Joined.{AreOfOneReason, FaultsAtOnePlaceAreOne}
use Rattle.frame_tool.proofs.Faults.{IsLeast, none-unheld, same_fault, fault_of_least}
use Rattle.frame_tool.proofs.Items.{walks_to}
use Rattle.frame_tool.proofs.Joined.{least_of_length, place-within, both_header, rest_there}
use Rattle.frame_tool.proofs.OneVerdict.{header-unfaulted, no_two_verdicts}
use Rattle.frame_tool.proofs.Places.{place-between}

-- of a structure that is as long as it tells and within the limit of lengths, FileLimit alone may hold
far_alone : (place bytes_there length_there : ℕ) (reason : Reason) → Fits bytes_there length_there
    → Holds reason place bytes_there length_there
    → reason ≡ FileLimit
far_alone place bytes_there length_there CutRecord fits (some, inl short) = absurd (omega (arith, fits.head, short))
far_alone place bytes_there length_there CutRecord fits (some, inr long) = absurd (omega (arith, fits.whole, long.2))
far_alone place bytes_there length_there LengthSmall fits holds = absurd (omega (arith, fits.enough, holds.1))
far_alone place bytes_there length_there RecordLimit fits holds = absurd (omega (arith, fits.small, holds.1))
far_alone place bytes_there length_there FileLimit fits holds = refl
far_alone place bytes_there length_there _ fits holds = absurd holds

-- the walk's fault at the place judged
abbrev HasFault : Here → Reason → Type 0
HasFault h reason = IsFault h.order (place h) (drop (place h) h.file) reason

by_length : (h : Here) (reason : Reason) (fault : Fault) (found : Option Reason)
    → length_reason h.order h.file (place h) ≡ found → place h < length h.file
    → first_of reasons h ≡ Some fault
    → HasFault h reason → AreOfOneReason reason fault.reason
by_length h reason fault (Some other) is within first wrong =
    let same : fault_at other (place h, 0) ≡ fault =
    same_Some (fault_at other (place h, 0)) fault (sym (first_of-cut h other within is) ∙ first) in
    let P : Option Reason → Type 0 = LengthCase (bytes_there h) (length_there h) in
    let Q : ℕ → Type 0 = λ n. IsLeast (place h) n (length_there h) other in
    let some : 0 < bytes_there h = omega (arith, within) in
    let least =
    least_of_length (place h) (bytes_there h) (length_there h) other some
    (subst P is (length_case (bytes_there h) (length_there h))) in
    let named : HasFault h other =
    fault_of_least h.order (place h) (drop (place h) h.file) (length_there h) other refl
    (subst Q (sym (length-drop (place h) h.file)) least) in
    inl (same_fault h.order (place h) (drop (place h) h.file) reason other wrong named
    ∙ ap (λ (f : Fault). f.reason) same)
by_length h reason fault None is within first wrong =
    let P : ℕ → Type 0 = λ n. Holds reason (place h) n (length_there h) in
    inr (inl (far_alone (place h) (bytes_there h) (length_there h) reason (length-fits h.order h.file (place h) is)
    (subst P (length-drop (place h) h.file) wrong.holds)))

by_end : (closed ends : Bool) (h : Here) (reason : Reason) (fault : Fault)
    → eqb (place h) (length h.file) ≡ ends
    → place h ≤ length h.file → fault_by closed ends h ≡ Some fault → HasFault h reason
    → AreOfOneReason reason fault.reason
by_end true true h reason fault ends within is wrong = absurd (none-some fault is)
by_end true false h reason fault ends within is wrong =
    inr (inr (sym (ap (λ (f : Fault). f.reason) (same_Some (fault_at Trailing (place h, 0)) fault is))))
by_end false true h reason fault ends within is wrong =
    let P : ℕ → Type 0 = λ n. Holds reason (place h) n (length_there h) in
    let all : place h ≡ length h.file = eqb-true (place h) (length h.file) ends in
    let none : length (drop (place h) h.file) ≡ 0 = omega (arith, all, length-drop (place h) h.file) in
    absurd (none-unheld (place h) (length_there h) reason (subst P none wrong.holds))
by_end false false h reason fault ends within is wrong =
    let apart = eqb-false (place h) (length h.file) ends in
    by_length h reason fault (length_reason h.order h.file (place h)) refl
    (less (place h) (length h.file) within apart) is wrong
  where
    less : (m n : ℕ) → m ≤ n → (m ≡ n → ⊥) → m < n
    less m n within apart = omega (arith, within, apart)

one_item : (file : List ℕ) (reason : Reason) (fault : Fault) → IsStructureFault file fault.at reason
    → IsItemFault file fault
    → AreOfOneReason reason fault.reason
one_item file reason fault wrong first =
    let h : Here = record { order = first.order; file = file; before = first.last } in
    let walk = walks_to file first.order first.items first.last first.begins in
    let between = place-between file fault.at reason fault wrong first in
    let lower : fault.at ≤ place h = between.0 in
    let upper : place h ≤ fault.at = between.1 in
    let here : fault.at ≡ place h = omega (arith, lower, upper) in
    let orders : wrong.order ≡ first.order =
    same_order (header_of (take 40 file)) wrong.order first.order wrong.walked.header first.begins.header in
    let P : List ℕ → Type 0 = λ bytes. IsFault wrong.order fault.at bytes reason in
    let Q : Order → Type 0 = λ o. IsFault o fault.at (drop fault.at file) reason in
    let R : ℕ → Type 0 = λ at. IsFault first.order at (drop at file) reason in
    let has : HasFault h reason =
    subst R here (subst Q orders (subst P (rest_there file fault.at reason wrong) wrong.fault)) in
    by_end first.last.closed (eqb (place h) (length file)) h reason fault refl
    (place-within file first.order (place h) walk) first.holds has

pub one_reason : FaultsAtOnePlaceAreOne
one_reason file reason fault wrong (inl header) =
    let both = both_header file fault header in
    let same : Wrong fault.at reason ≡ Wrong fault.at fault.reason =
    no_two_verdicts file (Wrong fault.at reason) (Wrong fault.at fault.reason) wrong (inl both.0) in
    inl cc
one_reason file reason fault (inl header) (inr first) =
    absurd (header-unfaulted file fault.at reason first.order first.begins.size first.begins.header header)
one_reason file reason fault (inr wrong) (inr first) = one_item file reason fault wrong first
