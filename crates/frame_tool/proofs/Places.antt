-- Where faults are: a check's no later than the place that its items come to, a walk's no earlier.
use Rattle.std.proofs.Common.{◌≡◌, ℕ, ◌+◌, ◌≤◌, inl, inr, Bool, true, false, cond, eqb, List, [], ◌∷◌, length, take}
use Rattle.std.proofs.Common.{drop, Option, Some, None, sym, ap, subst, ◌∙◌, arith}
use Rattle.std.specs.Prelude.{All, option_and_then}
use Rattle.std.specs.Option.{option_map_or}
use Rattle.std.proofs.lemmas.List.Elements.{All-nil, All-head, All-tail, All-push, All-weaker}
use Rattle.std.proofs.lemmas.Option.{same_Some, none-some}
use Rattle.std.specs.List.{concat}
use Rattle.scalar_types.specs.declared.Order.{Order}
use Rattle.frame_head.specs.Header.{header_of}
use Rattle.file_grammar.specs.declared.reason.Reason.{Reason}
use Rattle.file_grammar.specs.declared.reason.Reason.TheVariants.{CutRecord, LengthSmall, RecordLimit, FrameLimit}
use Rattle.file_grammar.specs.declared.reason.Reason.TheVariants.{NoLayout, UnreadLayout, BodyShort, BodyLong, BadText}
use Rattle.file_grammar.specs.declared.reason.Reason.TheVariants.{StrayElement, ClassRange, Redefined, NameTwice}
use Rattle.file_grammar.specs.declared.reason.Reason.TheVariants.{ElementLimit, InstanceTwice, FrameHTwice, NoFrameH}
use Rattle.file_grammar.specs.declared.reason.Reason.TheVariants.{LooseLink, OpenFrame, BadClosing, AfterTable, NoEnd}
use Rattle.file_grammar.specs.declared.reason.Reason.TheVariants.{FrameCount, ByteCount, Trailing, FileLimit}
use Rattle.file_grammar.specs.declared.reason.Reason.TheVariants.{FramesLimit}
use Rattle.file_grammar.specs.declared.fault.Fault.{Fault}
use Rattle.file_grammar.specs.declared.kind.Kind.{Kind}
use Rattle.file_grammar.specs.declared.kind.Kind.TheVariants.{FrSH, FrSE, FrameH, FrEndOfFrame, FrTOC, FrEndOfFile}
use Rattle.file_grammar.specs.declared.kind.Kind.TheVariants.{Other}
use Rattle.file_grammar.specs.Structure.{Structure, end_of}
use Rattle.file_grammar.specs.Kind.{kind_of, is_end_kind}
use Rattle.file_grammar.specs.Record.{weight_of, first_loose}
use Rattle.file_grammar.specs.Item.{Item, EntryItem, OtherItem, Before, after_kind, after}
use Rattle.file_grammar.specs.MayStand.{Stand}
use Rattle.file_grammar.specs.Fault.{Here, Spot, place, kind, entries_before, body_fault, refusal, here, here_at}
use Rattle.file_grammar.specs.Fault.{fault_spot, fault_at}
use Rattle.file_grammar.specs.Fault.{fault_by, reasons, IsItemFault}
use Rattle.file_grammar.proofs.Advance.{moves}
use Rattle.file_grammar.proofs.Headers.{same_order}
use Rattle.frame_tool.specs.declared.verdict.Verdict.TheVariants.{Wrong}
use Rattle.frame_tool.specs.Walk.{IsFault, IsStructureFault}
use Rattle.frame_tool.specs.Joined.{NoWalkFaultIsEarlier}
use Rattle.frame_tool.proofs.Items.{WalksTo, walks_to}
use Rattle.frame_tool.proofs.Joined.{first_judged, both_header}
use Rattle.frame_tool.proofs.OneVerdict.{header-unfaulted, no_two_verdicts}
use Rattle.frame_tool.proofs.Parting.{IsEnded, no_farther}

-- ---- a check's fault

-- structures that begin before a place, or there
abbrev AreBefore : ℕ → List Structure → Type 0
AreBefore place structures = All (λ s. s.at ≤ place) structures

later : (place next : ℕ) (structures : List Structure) → place ≤ next → AreBefore place structures
    → AreBefore next structures
later place next structures within before =
    All-weaker (λ s. s.at ≤ place) (λ s. s.at ≤ next) (λ s first. omega (arith, first, within))
    structures before

-- the records of a frame do, whatever comes after them
before_kind : (kind : Kind) (b : Before) (s : Structure) (weight : ℕ) → s.at ≡ b.place
    → b.place ≤ (after_kind kind b s weight).place → AreBefore b.place b.frame
    → AreBefore (after_kind kind b s weight).place (after_kind kind b s weight).frame
before_kind FrameH b s weight at within before =
    let first : s.at ≤ end_of s = omega arith in
    All-push (λ t. t.at ≤ end_of s) b.frame s (later b.place (end_of s) b.frame within before) first
before_kind Other b s weight at within before =
    let first : s.at ≤ end_of s = omega arith in
    All-push (λ t. t.at ≤ end_of s) b.frame s (later b.place (end_of s) b.frame within before) first
before_kind FrEndOfFrame b s weight at within before = All-nil (λ t. t.at ≤ end_of s)
before_kind FrTOC b s weight at within before = later b.place (end_of s) b.frame within before
before_kind FrEndOfFile b s weight at within before = later b.place (end_of s) b.frame within before
before_kind FrSH b s weight at within before = later b.place (end_of s) b.frame within before
before_kind FrSE b s weight at within before = later b.place (end_of s) b.frame within before

before_items : (order : Order) (file : List ℕ) (b : Before) (items : List Item) (last : Before)
    → Stand order file b items last
    → AreBefore b.place b.frame → AreBefore last.place last.frame
before_items order file b [] last stand before =
    let P : Before → Type 0 = λ end. AreBefore end.place end.frame in
    subst P (sym stand) before
before_items order file b (EntryItem head run entry ∷ others) last stand before =
    let step = moves order file b (EntryItem head run entry) stand.0 in
    let within : b.place ≤ (after order b (EntryItem head run entry)).place = omega (arith, step.past) in
    before_items order file (after order b (EntryItem head run entry)) others last stand.1
    (later b.place (after order b (EntryItem head run entry)).place b.frame within before)
before_items order file b (OtherItem s ∷ others) last stand before =
    let step = moves order file b (OtherItem s) stand.0 in
    let within : b.place ≤ (after order b (OtherItem s)).place = omega (arith, step.past) in
    before_items order file (after order b (OtherItem s)) others last stand.1
    (before_kind (kind_of b.dictionary s.class) b s (weight_of order b.dictionary s)
    stand.0.1.here within before)

-- the place that a test names, and that a part names by such a test
at_place : (h : Here) (field : ℕ) (test : Bool) (spot : Spot) → here_at h field test ≡ Some spot
    → spot.0 ≤ place h
at_place h field true spot is =
    let same : place h ≡ spot.0 = ap (λ (s : Spot). s.0) (same_Some (place h, field) spot is) in
    omega (arith, same)
at_place h field false spot is = absurd (none-some spot is)

at_here : (h : Here) (test : Bool) (spot : Spot) → here h test ≡ Some spot → spot.0 ≤ place h
at_here h true spot is =
    let same : place h ≡ spot.0 = ap (λ (s : Spot). s.0) (same_Some (place h, 0) spot is) in
    omega (arith, same)
at_here h false spot is = absurd (none-some spot is)

at_part : {A : Type 0} (part : A → Option Spot) (place : ℕ) (found : Option A) (spot : Spot)
    → ((a : A) → part a ≡ Some spot → spot.0 ≤ place) → option_and_then part found ≡ Some spot
    → spot.0 ≤ place
at_part part place None spot each is = absurd (none-some spot is)
at_part part place (Some a) spot each is = each a is

-- the place of a loose link
loose_more : (order : Order) (entries : List _) (frame : List Structure) (s : Structure)
    (ss : List Structure) (place : ℕ)
    (spot : Spot) (found : Option ℕ) → s.at ≤ place → (first_loose order entries frame ss ≡ Some spot
    → spot.0 ≤ place)
    → option_map_or (λ field. Some (s.at, field)) found (first_loose order entries frame ss) ≡ Some spot
    → spot.0 ≤ place
loose_more order entries frame s ss place spot None first others is = others is
loose_more order entries frame s ss place spot (Some field) first others is =
    let same : s.at ≡ spot.0 = ap (λ (x : Spot). x.0) (same_Some (s.at, field) spot is) in
    omega (arith, same, first)

at_loose : (order : Order) (entries : List _) (frame records : List Structure) (place : ℕ) (spot : Spot)
    → AreBefore place records
    → first_loose order entries frame records ≡ Some spot → spot.0 ≤ place
at_loose order entries frame [] place spot before is = absurd (none-some spot is)
at_loose order entries frame (s ∷ ss) place spot before is =
    let first : s.at ≤ place = All-head (λ t. t.at ≤ place) s ss before in
    let others : first_loose order entries frame ss ≡ Some spot → spot.0 ≤ place =
    at_loose order entries frame ss place spot (All-tail (λ t. t.at ≤ place) s ss before) in
    search (loose_more order entries frame s ss place spot, first, others, is)

at_end : (h : Here) (end : Bool) (found : Option Spot) (spot : Spot) → (found ≡ Some spot → spot.0 ≤ place h)
    → cond end found None ≡ Some spot → spot.0 ≤ place h
at_end h true found spot each is = each is
at_end h false found spot each is = absurd (none-some spot is)

-- a reason is judged there or before
judged-within : (reason : Reason) (h : Here) (spot : Spot) → AreBefore (place h) h.before.frame
    → fault_spot reason h ≡ Some spot
    → spot.0 ≤ place h
judged-within CutRecord h spot before is = at_here h _ spot is
judged-within LengthSmall h spot before is = at_here h _ spot is
judged-within RecordLimit h spot before is = at_here h _ spot is
judged-within FrameLimit h spot before is = at_here h _ spot is
judged-within NoLayout h spot before is = at_here h _ spot is
judged-within UnreadLayout h spot before is = at_here h _ spot is
judged-within BodyShort h spot before is =
    at_part _ (place h) (body_fault h) spot (λ f. at_place h f.field _ spot) is
judged-within BodyLong h spot before is =
    at_part _ (place h) (body_fault h) spot (λ f. at_place h f.field _ spot) is
judged-within BadText h spot before is =
    at_part _ (place h) (body_fault h) spot (λ f. at_place h f.field _ spot) is
judged-within StrayElement h spot before is = at_here h _ spot is
judged-within ClassRange h spot before is = at_part _ (place h) (refusal h) spot (λ f. at_here h _ spot) is
judged-within Redefined h spot before is = at_part _ (place h) (refusal h) spot (λ f. at_here h _ spot) is
judged-within NameTwice h spot before is = at_part _ (place h) (refusal h) spot (λ f. at_here h _ spot) is
judged-within ElementLimit h spot before is = at_part _ (place h) (refusal h) spot (λ f. at_here h _ spot) is
judged-within InstanceTwice h spot before is = at_here h _ spot is
judged-within FrameHTwice h spot before is = at_here h _ spot is
judged-within NoFrameH h spot before is = at_here h _ spot is
judged-within LooseLink h spot before is =
    at_end h (is_end_kind (kind h)) _ spot
    (at_loose h.order (entries_before h) h.before.frame h.before.frame (place h) spot before) is
judged-within OpenFrame h spot before is = at_here h _ spot is
judged-within BadClosing h spot before is = at_here h _ spot is
judged-within AfterTable h spot before is = at_here h _ spot is
judged-within FrameCount h spot before is = at_place h _ _ spot is
judged-within ByteCount h spot before is = at_place h _ _ spot is
judged-within FileLimit h spot before is = at_here h _ spot is
judged-within FramesLimit h spot before is = at_here h _ spot is
judged-within _ h spot before is = absurd (none-some spot is)

fault-within : (closed ends : Bool) (h : Here) (fault : Fault) → AreBefore (place h) h.before.frame
    → fault_by closed ends h ≡ Some fault → fault.at ≤ place h
fault-within true true h fault before is = absurd (none-some fault is)
fault-within true false h fault before is =
    let same : place h ≡ fault.at =
    ap (λ (f : Fault). f.at) (same_Some (fault_at Trailing (place h, 0)) fault is) in
    omega (arith, same)
fault-within false true h fault before is =
    let same : place h ≡ fault.at =
    ap (λ (f : Fault). f.at) (same_Some (fault_at NoEnd (place h, 0)) fault is) in
    omega (arith, same)
fault-within false false h fault before is =
    judged-within fault.reason h (fault.at, fault.field) before (first_judged reasons h fault is)

-- ---- a walk's fault

-- it is where a walk may come, or farther
walk-beyond : (file : List ℕ) (order : Order) (place at : ℕ) (reason : Reason) → WalksTo file order place
    → IsStructureFault file at reason → place ≤ at
walk-beyond file order place at reason walk fault =
    let orders : fault.order ≡ order =
    same_order (header_of (take 40 file)) fault.order order fault.walked.header walk.walked.header in
    let P : ℕ → Type 0 = λ n. IsFault fault.order n fault.rest reason in
    let Q : Order → Type 0 = λ o. IsEnded o 40 fault.structures fault.rest in
    let ended : IsEnded fault.order 40 fault.structures fault.rest =
    record { stand = fault.walked.stand; end = inr (reason, subst P fault.place fault.fault) } in
    let size : length (concat walk.structures) ≤ length (concat fault.structures) =
    no_farther order 40 walk.structures fault.structures (drop place file) fault.rest
    (sym walk.walked.parts ∙ fault.walked.parts) walk.walked.stand (subst Q orders ended) in
    let one : place ≡ 40 + length (concat walk.structures) = walk.place_is in
    let other : at ≡ 40 + length (concat fault.structures) = fault.place in
    omega (arith, size, one, other)

-- the place that the items come to is between the two
pub place-between : (file : List ℕ) (at : ℕ) (reason : Reason) (fault : Fault)
    → IsStructureFault file at reason
    → (first : IsItemFault file fault) → (fault.at ≤ first.last.place) × (first.last.place ≤ at)
place-between file at reason fault wrong first =
    let h : Here = record { order = first.order; file = file; before = first.last } in
    let walk = walks_to file first.order first.items first.last first.begins in
    let none = All-nil (λ (s : Structure). s.at ≤ 40) in
    let before = before_items first.order file _ first.items first.last first.begins.stand none in (
      fault-within first.last.closed (eqb first.last.place (length file)) h fault before first.holds,
      walk-beyond file first.order first.last.place at reason walk wrong,
    )

pub not_earlier : NoWalkFaultIsEarlier
not_earlier file at reason fault wrong (inl header) =
    let both = both_header file fault header in
    let same : Wrong at reason ≡ Wrong fault.at fault.reason =
    no_two_verdicts file (Wrong at reason) (Wrong fault.at fault.reason) wrong (inl both.0) in
    let places : at ≡ fault.at = cc in
    omega (arith, places)
not_earlier file at reason fault (inl header) (inr first) =
    absurd (header-unfaulted file at reason first.order first.begins.size first.begins.header header)
not_earlier file at reason fault (inr wrong) (inr first) =
    let between = place-between file at reason fault wrong first in
    let lower : fault.at ≤ first.last.place = between.0 in
    let upper : first.last.place ≤ at = between.1 in
    omega (arith, lower, upper)
