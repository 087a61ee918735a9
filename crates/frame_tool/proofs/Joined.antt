-- What a walk has to say of a file that a check has judged.
use Rattle.std.proofs.Common.{◌≡◌, ℕ, ◌+◌, ◌<◌, ◌≤◌, ◌⊎◌, inl, inr, Bool, true, false, eqb, List, [], ◌∷◌, length, take}
use Rattle.std.proofs.Common.{drop, Option, Some, None, Ok, refl, sym, ap, subst, ◌∙◌, arith, length-append}
use Rattle.std.proofs.Common.{length-drop}
use Rattle.std.proofs.lemmas.Bool.{cases_lt, le-ltb, ltb-true, eqb-false}
use Rattle.std.proofs.lemmas.List.{nil_from_length, drop_at, drop-drop}
use Rattle.std.proofs.lemmas.Option.{same_Some, none-some}
use Rattle.std.specs.List.{concat}
use Rattle.scalar_types.specs.declared.Order.{Order}
use Rattle.frame_head.specs.Header.{header_of}
use Rattle.frame_head.specs.Structure.{common_of}
use Rattle.file_grammar.specs.declared.reason.Reason.{Reason}
use Rattle.file_grammar.specs.declared.reason.Reason.TheVariants.{CutHeader, BadHeader, CutRecord, LengthSmall}
use Rattle.file_grammar.specs.declared.reason.Reason.TheVariants.{RecordLimit, FileLimit, NoEnd, Trailing}
use Rattle.file_grammar.specs.declared.fault.Fault.{Fault}
use Rattle.file_grammar.specs.Structure.{record_limit, file_limit, common_at}
use Rattle.file_grammar.specs.Fault.{Here, Spot, place, bytes_there, length_there, here, fault_spot, fault_at, first_of}
use Rattle.file_grammar.specs.Fault.{fault_by, reasons}
use Rattle.file_grammar.specs.Fault.{IsHeaderFault as HasHeaderFault, IsItemFault}
use Rattle.file_grammar.specs.Steps.{length_reason}
use Rattle.file_grammar.proofs.Firsts.{first_of-holds, first_of-passes}
use Rattle.file_grammar.proofs.Headers.{same_order}
use Rattle.file_grammar.proofs.Judging.{first_of-cut}
use Rattle.file_grammar.proofs.Lengths.{Fits, LengthCase, length_case, length-fits, is_uncut}
use Rattle.frame_tool.specs.Walk.{Holds, IsFault, IsWalked, IsHeaderFault, IsStructureFault}
use Rattle.frame_tool.specs.Joined.{IsTooLong, IsOfLength, AcceptedFilesAreSound, BothNameFaultsOfLengths}
use Rattle.frame_tool.specs.Joined.{WalksNameNoOthers}
use Rattle.frame_tool.proofs.Faults.{IsLeast, cut_head, cut_body, small_length, large_length, far_end, fault_of_least}
use Rattle.frame_tool.proofs.Items.{WalksTo, walks_to}

pub accepted_sound : AcceptedFilesAreSound
accepted_sound file contents are =
    let order = contents.order in
    let last = are.last in
    let walk = walks_to file order are.items last are.well_formed.begins in
    let ends : last.place ≡ length file = are.well_formed.ends in
    let none : drop last.place file ≡ [] =
    nil_from_length (drop last.place file) (omega (arith, length-drop last.place file, ends)) in
    let P : List ℕ → Type 0 = λ rest. IsWalked file order walk.structures rest in (
      length walk.structures,
      record {
        structures = walk.structures;
        size = walk.size;
        walked = subst P none walk.walked;
        counted = refl;
      },
    )

-- ---- what is judged at a place

-- the first reason that holds is judged at its place and field
pub first_judged : (rs : List Reason) (h : Here) (fault : Fault) → first_of rs h ≡ Some fault
    → fault_spot fault.reason h ≡ Some (fault.at, fault.field)
first_judged [] h fault is = absurd (none-some fault is)
first_judged (reason ∷ rs) h fault is = step (fault_spot reason h) refl (first_judged rs h fault)
  where
    step : (found : Option Spot) → fault_spot reason h ≡ found
        → (first_of rs h ≡ Some fault → fault_spot fault.reason h ≡ Some (fault.at, fault.field))
        → fault_spot fault.reason h ≡ Some (fault.at, fault.field)
    step (Some spot) holds later =
        let P : Fault → Type 0 = λ f. fault_spot f.reason h ≡ Some (f.at, f.field) in
        let same : fault_at reason spot ≡ fault =
        same_Some (fault_at reason spot) fault (sym (first_of-holds reason rs h spot holds) ∙ is) in
        subst P same holds
    step None none later = later (sym (first_of-passes reason rs h none) ∙ is)

-- a test that names a place
here-some : (h : Here) (test : Bool) (spot : Spot) → here h test ≡ Some spot
    → (test ≡ true) × ((place h, 0) ≡ spot)
here-some h true spot is = (refl, same_Some (place h, 0) spot is)
here-some h false spot is = absurd (none-some spot is)

-- a test that does not hold names none
here-none : (h : Here) (test : Bool) (spot : Spot) → test ≡ false → here h test ≡ Some spot → ⊥
here-none h true spot not is = cc
here-none h false spot not is = none-some spot is

-- where a length has a reason, the walk has it
pub least_of_length : (place bytes_there length_there : ℕ) (reason : Reason) → 0 < bytes_there
    → LengthCase bytes_there length_there (Some reason)
    → IsLeast place bytes_there length_there reason
least_of_length place bytes_there length_there reason some (inl (is, cut)) =
    let P : Reason → Type 0 = IsLeast place bytes_there length_there in
    subst P (same_Some CutRecord reason (sym is)) (by cut (cases_lt bytes_there 14))
  where
    by : (bytes_there < 14) ⊎ ((14 ≤ length_there) × (length_there ≤ record_limit) × (bytes_there < length_there))
        → (bytes_there < 14) ⊎ (14 ≤ bytes_there)
        → IsLeast place bytes_there length_there CutRecord
    by cut (inl short) = cut_head place bytes_there length_there some short
    by (inl short) (inr head) = cut_head place bytes_there length_there some short
    by (inr long) (inr head) = cut_body place bytes_there length_there head long.0 long.1 long.2
least_of_length place bytes_there length_there reason some (inr (inl (is, head, small))) =
    let P : Reason → Type 0 = IsLeast place bytes_there length_there in
    subst P (same_Some LengthSmall reason (sym is)) (small_length place bytes_there length_there head small)
least_of_length place bytes_there length_there reason some (inr (inr (inl (is, head, large)))) =
    let P : Reason → Type 0 = IsLeast place bytes_there length_there in
    subst P (same_Some RecordLimit reason (sym is)) (large_length place bytes_there length_there head large)
least_of_length place bytes_there length_there reason some (inr (inr (inr (is, fits)))) =
    absurd (none-some reason (sym is))

-- the fault is at the place judged, and the walk has it there
record IsSeen (h : Here) (fault : Fault) : Type 0 where
  pub at : fault.at ≡ place h
  pub field : fault.field ≡ 0
  pub least : IsLeast (place h) (bytes_there h) (length_there h) fault.reason

-- what is too long at a place does not fit there
long-unfit : (h : Here) (at : ℕ) → header_of (take 40 h.file) ≡ Ok h.order → Fits (bytes_there h) (length_there h)
    → at ≡ place h
    → IsTooLong h.file at → ⊥
long-unfit h at header fits here long =
    let orders : long.order ≡ h.order =
    same_order (header_of (take 40 h.file)) long.order h.order long.header header in
    let P : Order → Type 0 = λ o. record_limit < (common_at o h.file at).length in
    let Q : ℕ → Type 0 = λ n. record_limit < (common_at h.order h.file n).length in
    let beyond : record_limit < length_there h = subst Q here (subst P orders long.long) in
    let small : length_there h ≤ record_limit = fits.small in
    omega (arith, beyond, small)

-- where a structure of the length stands whole, FileLimit alone is left
seen_of_fits : (h : Here) (reason : Reason) (spot : Spot) → header_of (take 40 h.file) ≡ Ok h.order
    → Fits (bytes_there h) (length_there h)
    → fault_spot reason h ≡ Some spot → IsOfLength h.file spot.0 reason → IsSeen h (fault_at reason spot)
seen_of_fits h CutHeader spot header fits holds of = absurd (none-some spot holds)
seen_of_fits h BadHeader spot header fits holds of = absurd (none-some spot holds)
seen_of_fits h CutRecord spot header fits holds of =
    absurd (here-none h _ spot
    (is_uncut (bytes_there h) (length_there h) record_limit fits.head (λ _ _. fits.whole)) holds)
seen_of_fits h LengthSmall spot header fits holds of =
    absurd (here-none h _ spot (le-ltb (length_there h) 14 fits.enough) holds)
seen_of_fits h RecordLimit spot header fits holds of =
    let same = here-some h _ spot holds in
    absurd (long-unfit h spot.0 header fits (sym (ap (λ (s : Spot). s.0) same.1)) of)
seen_of_fits h FileLimit spot header fits holds of =
    let same = here-some h _ spot holds in
    record {
      at = sym (ap (λ (s : Spot). s.0) same.1);
      field = sym (ap (λ (s : Spot). s.1) same.1);
      least = far_end (place h) (bytes_there h) (length_there h) fits.enough fits.small fits.whole
          (ltb-true file_limit (place h + length_there h) same.0);
    }
seen_of_fits h _ spot header fits holds of = absurd of

seen_by_length : (h : Here) (fault : Fault) (found : Option Reason)
    → length_reason h.order h.file (place h) ≡ found
    → header_of (take 40 h.file) ≡ Ok h.order → place h < length h.file → first_of reasons h ≡ Some fault
    → IsOfLength h.file fault.at fault.reason → IsSeen h fault
seen_by_length h fault (Some reason) is header within first of =
    let same : fault_at reason (place h, 0) ≡ fault =
    same_Some (fault_at reason (place h, 0)) fault (sym (first_of-cut h reason within is) ∙ first) in
    let P : Option Reason → Type 0 = LengthCase (bytes_there h) (length_there h) in
    let some : 0 < bytes_there h = omega (arith, within) in
    let least =
    least_of_length (place h) (bytes_there h) (length_there h) reason some
    (subst P is (length_case (bytes_there h) (length_there h))) in
    subst (IsSeen h) same (record { at = refl; field = refl; least = least })
seen_by_length h fault None is header within first of =
    seen_of_fits h fault.reason (fault.at, fault.field) header (length-fits h.order h.file (place h) is)
    (first_judged reasons h fault first) of

-- a fault of this kind is of what stands at the place, which is not the end of the file
record IsOpen (ends : Bool) (h : Here) (fault : Fault) : Type 0 where
  pub more : ends ≡ false
  pub first : first_of reasons h ≡ Some fault

open_fault : (closed ends : Bool) (h : Here) (fault : Fault) → fault_by closed ends h ≡ Some fault
    → IsOfLength h.file fault.at fault.reason → IsOpen ends h fault
open_fault true true h fault is of = absurd (none-some fault is)
open_fault true false h fault is of =
    let P : Fault → Type 0 = λ f. IsOfLength h.file f.at f.reason in
    absurd (subst P (sym (same_Some (fault_at Trailing (place h, 0)) fault is)) of)
open_fault false true h fault is of =
    let P : Fault → Type 0 = λ f. IsOfLength h.file f.at f.reason in
    absurd (subst P (sym (same_Some (fault_at NoEnd (place h, 0)) fault is)) of)
open_fault false false h fault is of = record { more = refl; first = is }

-- ---- both name one fault

-- a walk that comes to a place comes no farther than the end of the file
pub place-within : (file : List ℕ) (order : Order) (at : ℕ) → WalksTo file order at → at ≤ length file
place-within file order at walk =
    let place : at ≡ 40 + length (concat walk.structures) = walk.place_is in
    let size : 40 ≤ length file = walk.size in
    let parts = ap length walk.walked.parts in
    let sum = length-append (concat walk.structures) (drop at file) in
    omega (arith, place, size, parts, length-drop 40 file, sum)

-- what is seen at the place that a walk comes to is its fault
walk_fault : (h : Here) (fault : Fault) → WalksTo h.file h.order (place h) → IsSeen h fault
    → IsStructureFault h.file fault.at fault.reason
walk_fault h fault walk seen =
    let P : ℕ → Type 0 = λ n. IsLeast (place h) n (length_there h) fault.reason in
    let Q : ℕ → Type 0 = λ at. IsFault h.order at (drop (place h) h.file) fault.reason in
    let least = subst P (sym (length-drop (place h) h.file)) seen.least in
    record {
      order = h.order;
      structures = walk.structures;
      rest = drop (place h) h.file;
      size = walk.size;
      walked = walk.walked;
      place = seen.at ∙ walk.place_is;
      fault = subst Q (sym seen.at)
          (fault_of_least h.order (place h) (drop (place h) h.file) (length_there h) fault.reason refl least);
    }

both_item : (file : List ℕ) (fault : Fault) → IsItemFault file fault → IsOfLength file fault.at fault.reason
    → IsStructureFault file fault.at fault.reason × (fault.field ≡ 0)
both_item file fault first of =
    let h : Here = record { order = first.order; file = file; before = first.last } in
    let walk = walks_to file first.order first.items first.last first.begins in
    let open_here = open_fault first.last.closed (eqb (place h) (length file)) h fault first.holds of in
    let apart = eqb-false (place h) (length file) open_here.more in
    let reached : place h ≤ length file = place-within file first.order (place h) walk in
    let within : place h < length file = less (place h) (length file) reached apart in
    let seen =
    seen_by_length h fault (length_reason first.order file (place h)) refl
    first.begins.header within open_here.first of in
    (walk_fault h fault walk seen, seen.field)
  where
    less : (m n : ℕ) → m ≤ n → (m ≡ n → ⊥) → m < n
    less m n within apart = omega (arith, within, apart)

pub both_header : (file : List ℕ) (fault : Fault) → HasHeaderFault file fault
    → IsHeaderFault file fault.at fault.reason × (fault.field ≡ 0)
both_header file fault (inl (short, is)) =
    let P : Fault → Type 0 = λ f. IsHeaderFault file f.at f.reason × (f.field ≡ 0) in
    subst P (sym is) ((short, refl), refl)
both_header file fault (inr (at, bad, long, is)) =
    let P : Fault → Type 0 = λ f. IsHeaderFault file f.at f.reason × (f.field ≡ 0) in
    let size : 40 ≤ length file = omega (arith, long) in
    subst P (sym is) ((size, bad), refl)

pub both_name : BothNameFaultsOfLengths
both_name file fault (inl header) of =
    let both = both_header file fault header in
    (inl both.0, both.1)
both_name file fault (inr first) of =
    let both = both_item file fault first of in
    (inr both.0, both.1)

-- ---- the reasons of a walk

header_reason : (file : List ℕ) (at : ℕ) (reason : Reason) → IsHeaderFault file at reason
    → IsOfLength file at reason
header_reason file at CutHeader fault = tt
header_reason file at BadHeader fault = tt
header_reason file at _ fault = absurd fault

structure_reason : (file : List ℕ) (at : ℕ) (reason : Reason) (order : Order)
    → header_of (take 40 file) ≡ Ok order
    → Holds reason at (length (drop at file)) (common_at order file at).length → IsOfLength file at reason
structure_reason file at CutRecord order header holds = tt
structure_reason file at LengthSmall order header holds = tt
structure_reason file at RecordLimit order header holds =
    record { order = order; header = header; long = holds.1 }
structure_reason file at FileLimit order header holds = tt
structure_reason file at _ order header holds = absurd holds

-- the rest with a walk's fault is what the file has from its place on
pub rest_there : (file : List ℕ) (at : ℕ) (reason : Reason) (fault : IsStructureFault file at reason)
    → fault.rest ≡ drop at file
rest_there file at reason fault =
    sym (ap (drop (length (concat fault.structures))) fault.walked.parts
    ∙ drop_at (concat fault.structures) fault.rest (length (concat fault.structures)) refl)
    ∙ drop-drop (length (concat fault.structures)) 40 file
    ∙ ap (λ (n : ℕ). drop n file) (sym fault.place)

pub no_others : WalksNameNoOthers
no_others file at reason (inl fault) = header_reason file at reason fault
no_others file at reason (inr fault) =
    let P : List ℕ → Type 0 = λ bytes. Holds reason at (length bytes) (common_of fault.order bytes).length in
    structure_reason file at reason fault.order fault.walked.header
    (subst P (rest_there file at reason fault) fault.fault.holds)
