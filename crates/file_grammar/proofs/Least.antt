-- The reasons are judged in ascending order of their numbers, so the first that holds has the least.
use Rattle.std.proofs.Common.{◌≡◌, ℕ, zero, suc, ◌≤◌, List, [], ◌∷◌, Option, Some, None, refl, sym, subst, ◌∙◌, arith}
use Rattle.std.proofs.Common.{rules}
use Rattle.std.specs.Prelude.{slice_get}
use Rattle.std.specs.Option.{option_map_or}
use Rattle.std.proofs.lemmas.Option.{same_Some, none-some}
use Rattle.file_grammar.specs.declared.reason.Reason.{Reason}
use Rattle.file_grammar.specs.declared.reason.Reason.TheVariants.{CutRecord, LengthSmall, RecordLimit, FrameLimit}
use Rattle.file_grammar.specs.declared.reason.Reason.TheVariants.{NoLayout, UnreadLayout, BodyShort, BodyLong, BadText}
use Rattle.file_grammar.specs.declared.reason.Reason.TheVariants.{StrayElement, ClassRange, Redefined, NameTwice}
use Rattle.file_grammar.specs.declared.reason.Reason.TheVariants.{ElementLimit, InstanceTwice, FrameHTwice, NoFrameH}
use Rattle.file_grammar.specs.declared.reason.Reason.TheVariants.{LooseLink, OpenFrame, BadClosing, AfterTable}
use Rattle.file_grammar.specs.declared.reason.Reason.TheVariants.{FrameCount, ByteCount, FileLimit, FramesLimit}
use Rattle.file_grammar.specs.declared.fault.Fault.{Fault}
use Rattle.file_grammar.specs.Reason.{number_of}
use Rattle.file_grammar.specs.Fault.{Here, Spot, fault_spot, fault_at, first_of, reasons}
use Rattle.file_grammar.specs.Laws.{NamesTheLeastReason}

-- the numbers rise from a number on
abbrev Ascend : ℕ → List Reason → Type 0
Ascend low [] = Unit {0}
Ascend low (reason ∷ others) = (low ≤ number_of reason) × Ascend (number_of reason) others

reasons-ascend : Ascend 0 reasons
reasons-ascend = search (rules, arith)

-- where a reason that may hold is among them
place_among : (other : Reason) (h : Here) (spot : Spot) → fault_spot other h ≡ Some spot → (i : ℕ)
    × (slice_get reasons i ≡ Some other)
place_among CutRecord h spot holds = (0, refl)
place_among LengthSmall h spot holds = (1, refl)
place_among RecordLimit h spot holds = (2, refl)
place_among FrameLimit h spot holds = (3, refl)
place_among NoLayout h spot holds = (4, refl)
place_among UnreadLayout h spot holds = (5, refl)
place_among BodyShort h spot holds = (6, refl)
place_among BodyLong h spot holds = (7, refl)
place_among BadText h spot holds = (8, refl)
place_among StrayElement h spot holds = (9, refl)
place_among ClassRange h spot holds = (10, refl)
place_among Redefined h spot holds = (11, refl)
place_among NameTwice h spot holds = (12, refl)
place_among ElementLimit h spot holds = (13, refl)
place_among InstanceTwice h spot holds = (14, refl)
place_among FrameHTwice h spot holds = (15, refl)
place_among NoFrameH h spot holds = (16, refl)
place_among LooseLink h spot holds = (17, refl)
place_among OpenFrame h spot holds = (18, refl)
place_among BadClosing h spot holds = (19, refl)
place_among AfterTable h spot holds = (20, refl)
place_among FrameCount h spot holds = (21, refl)
place_among ByteCount h spot holds = (22, refl)
place_among FileLimit h spot holds = (23, refl)
place_among FramesLimit h spot holds = (24, refl)
place_among _ h spot holds = absurd (none-some spot holds)

-- what rises from a number on is at least that number
at_least : (list : List Reason) (low i : ℕ) (other : Reason) → Ascend low list → slice_get list i ≡ Some other
    → low ≤ number_of other
at_least [] low i other ascend is = absurd (none-some other is)
at_least (reason ∷ list) low zero other ascend is =
    let P : Reason → Type 0 = λ r. low ≤ number_of r in
    subst P (same_Some reason other is) ascend.0
at_least (reason ∷ list) low (suc i) other ascend is =
    let rest : number_of reason ≤ number_of other = at_least list (number_of reason) i other ascend.1 is in
    let first : low ≤ number_of reason = ascend.0 in
    omega (arith, rest, first)

-- the first of a reason and others is its own fault or one of theirs
first_or_later : (reason other : Reason) (list : List Reason) (h : Here) (fault : Fault) (found : Option Spot)
    → fault_spot reason h ≡ found
    → option_map_or (λ spot. Some (fault_at reason spot)) found (first_of list h) ≡ Some fault
    → number_of reason ≤ number_of other
    → (fault_spot reason h ≡ None → first_of list h ≡ Some fault → number_of fault.reason ≤ number_of other)
    → number_of fault.reason ≤ number_of other
first_or_later reason other list h fault (Some spot) is named first later =
    let P : Fault → Type 0 = λ f. number_of f.reason ≤ number_of other in
    subst P (same_Some (fault_at reason spot) fault named) first
first_or_later reason other list h fault None is named first later = later is named

-- what does not hold is no reason that does
unheld : (reason other : Reason) (h : Here) (spot : Spot) → reason ≡ other → fault_spot reason h ≡ None
    → fault_spot other h ≡ Some spot → ⊥
unheld reason other h spot same none some =
    let P : Reason → Type 0 = λ r. fault_spot r h ≡ None in
    none-some spot (sym (subst P same none) ∙ some)

-- the first that holds has the least number
least_in : (list : List Reason) (low i : ℕ) (h : Here) (fault : Fault) (other : Reason) (spot : Spot) → Ascend low list
    → slice_get list i ≡ Some other → first_of list h ≡ Some fault → fault_spot other h ≡ Some spot
    → number_of fault.reason ≤ number_of other
least_in [] low i h fault other spot ascend is named holds = absurd (none-some fault named)
least_in (reason ∷ list) low zero h fault other spot ascend is named holds =
    let first = at_least (reason ∷ list) (number_of reason) zero other (omega arith, ascend.1) is in
    first_or_later reason other list h fault (fault_spot reason h) refl named first
    (λ none _. absurd (unheld reason other h spot (same_Some reason other is) none holds))
least_in (reason ∷ list) low (suc i) h fault other spot ascend is named holds =
    let first = at_least (reason ∷ list) (number_of reason) (suc i) other (omega arith, ascend.1) is in
    first_or_later reason other list h fault (fault_spot reason h) refl named first
    (λ _ later. least_in list (number_of reason) i h fault other spot ascend.1 is later holds)

pub least : NamesTheLeastReason
least h fault other spot named holds =
    let at = place_among other h spot holds in
    least_in reasons 0 at.0 h fault other spot reasons-ascend at.1 named holds
