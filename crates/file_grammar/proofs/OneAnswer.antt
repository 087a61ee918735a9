-- A file is well-formed or has a first fault, and one of these alone.
use Rattle.std.proofs.Common.{◌≡◌, ℕ, ◌≤◌, ◌⊎◌, inl, inr, Bool, true, false, eqb, List, length, take, None, Result, Ok}
use Rattle.std.proofs.Common.{Err, refl, sym, subst, ◌∙◌, arith}
use Rattle.std.proofs.lemmas.Bool.{cases_lt, eq-eqb}
use Rattle.std.proofs.lemmas.Option.{same_Some}
use Rattle.scalar_types.specs.declared.Order.{Order}
use Rattle.frame_head.specs.declared.header.HeadFault.{HeadFault}
use Rattle.frame_head.specs.Header.{header_of}
use Rattle.file_grammar.specs.declared.reason.Reason.TheVariants.{CutHeader, BadHeader}
use Rattle.file_grammar.specs.declared.fault.Fault.{Fault}
use Rattle.file_grammar.specs.Item.{Item, Before, nothing_yet}
use Rattle.file_grammar.specs.MayStand.{Begins, IsWellFormed}
use Rattle.file_grammar.specs.Fault.{Here, fault_at, fault_by, fault_here, IsItemFault, IsFirstFault}
use Rattle.file_grammar.specs.Laws.{WellFormed, EachFileIsJudged, NoFileIsBoth, FaultsAreUnique}
use Rattle.file_grammar.specs.Laws.{ItemsBeforeFaultsAreUnique, NoItemStandsAtAFault}
use Rattle.file_grammar.proofs.Headers.{same_order, begins-unfaulted, same_header_fault}
use Rattle.file_grammar.proofs.Chains.{here_of, IsClosed, IsFaulted, IsEnd, none_or_some, no_item, same_chain}
use Rattle.file_grammar.proofs.Chains.{chain_from}

-- two beginnings of a file that go to an end are one
same_beginning : (file : List ℕ) (order other : Order) (items others : List Item) (last end : Before)
    → Begins file order items last → Begins file other others end → IsEnd order file last → IsEnd other file end
    → (order ≡ other) × (items ≡ others) × (last ≡ end)
same_beginning file order other items others last end left right one two =
    let orders : order ≡ other = same_order (header_of (take 40 file)) order other left.header right.header in
    let P : Order → Type 0 = λ o. Begins file o others end in
    let Q : Order → Type 0 = λ o. IsEnd o file end in
    let moved : Begins file order others end = subst P (sym orders) right in
    let chains = same_chain order file nothing_yet items others last end left.stand moved.stand one
    (subst Q (sym orders) two) in
    (orders, chains.0, chains.1)

-- the ends of well-formed files and of faults
closed_end : (file : List ℕ) (order : Order) (items : List Item) (last : Before) → IsWellFormed file order items last
    → IsEnd order file last
closed_end file order items last well = inl (record { closed = well.closed; ends = well.ends })

faulted_end : (file : List ℕ) (fault : Fault) (first : IsItemFault file fault) → IsEnd first.order file first.last
faulted_end file fault first = inr (fault, record { holds = first.holds })

-- where a file is closed and ends is no fault
none_by : (closed ends : Bool) (h : Here) → closed ≡ true → ends ≡ true → fault_by closed ends h ≡ None
none_by true true h is_closed is_end = refl
none_by true false h is_closed is_end = absurd cc
none_by false ends h is_closed is_end = absurd cc

closed-unfaulted : (order : Order) (file : List ℕ) (last : Before) (fault : Fault) → IsClosed file last
    → IsFaulted order file last fault → ⊥
closed-unfaulted order file last fault closed faulted =
    none_or_some (fault_here (here_of order file last)) fault
    (none_by last.closed (eqb last.place (length file)) (here_of order file last) closed.closed
    (eq-eqb last.place (length file) closed.ends))
    faulted.holds

-- a fault is one
same_holds : (order : Order) (file : List ℕ) (last : Before) (fault other : Fault) → IsFaulted order file last fault
    → IsFaulted order file last other → fault ≡ other
same_holds order file last fault other left right = same_Some fault other (sym left.holds ∙ right.holds)

pub not_both : NoFileIsBoth
not_both file fault (order, items, last, well) (inl header) =
    begins-unfaulted file order items last fault well.begins header
not_both file fault (order, items, last, well) (inr first) =
    let same = same_beginning file order first.order items first.items last first.last well.begins first.begins
    (closed_end file order items last well) (faulted_end file fault first) in
    let P : Before → Type 0 = λ b. IsClosed file b in
    closed-unfaulted first.order file first.last fault
    (subst P same.2 (record { closed = well.closed; ends = well.ends })) (record { holds = first.holds })

pub faults_unique : FaultsAreUnique
faults_unique file fault other (inl left) (inl right) = same_header_fault file fault other left right
faults_unique file fault other (inl left) (inr right) =
    absurd (begins-unfaulted file right.order right.items right.last fault right.begins left)
faults_unique file fault other (inr left) (inl right) =
    absurd (begins-unfaulted file left.order left.items left.last other left.begins right)
faults_unique file fault other (inr left) (inr right) =
    let same = same_beginning file left.order right.order left.items right.items left.last right.last
    left.begins right.begins
    (faulted_end file fault left) (faulted_end file other right) in
    let P : Order → Type 0 = λ o. IsFaulted o file left.last fault in
    let Q : Before → Type 0 = λ b. IsFaulted right.order file b fault in
    same_holds right.order file right.last fault other
    (subst Q same.2 (subst P same.0 (record { holds = left.holds }))) (record { holds = right.holds })

pub items_before_unique : ItemsBeforeFaultsAreUnique
items_before_unique file fault other first second =
    same_beginning file first.order second.order first.items second.items first.last second.last first.begins
    second.begins (faulted_end file fault first) (faulted_end file other second)

-- the judgement of a file whose header is read
judged_begun : (file : List ℕ) (order : Order) (items : List Item) (last : Before) → Begins file order items last
    → IsEnd order file last → WellFormed file ⊎ ((fault : Fault) × IsFirstFault file fault)
judged_begun file order items last begins (inl end) =
    inl (order, items, last, record { begins = begins; closed = end.closed; ends = end.ends })
judged_begun file order items last begins (inr (fault, end)) =
    inr (fault, inr (record { order = order; items = items; last = last; begins = begins; holds = end.holds }))

judged_header : (file : List ℕ) (header : Result Order HeadFault) → 40 ≤ length file → header_of (take 40 file) ≡ header
    → WellFormed file ⊎ ((fault : Fault) × IsFirstFault file fault)
judged_header file (Ok order) size read =
    let chain = chain_from (length file) order file nothing_yet size (omega arith) in
    judged_begun file order chain.items chain.last
    (record { size = size; header = read; stand = chain.stand }) chain.end
judged_header file (Err fault) size read =
    inr (fault_at BadHeader (fault.at, 0), inl (inr (fault.at, read, λ short. omega (arith, size, short), refl)))

pub each_judged : EachFileIsJudged
each_judged file =
    elim (cases_lt (length file) 40) [
      | inl short ↦ inr (fault_at CutHeader (length file, 0), inl (inl (short, refl)))
      | inr size ↦ judged_header file (header_of (take 40 file)) size refl
    ]

pub no_item_at_fault : NoItemStandsAtAFault
no_item_at_fault order file items last fault item begins holds may =
    no_item order file last item may (inr (fault, record { holds = holds }))
