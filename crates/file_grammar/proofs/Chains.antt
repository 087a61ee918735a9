-- Items that each may stand, followed to their end: a file that is closed there, or a fault. They are one list.
use Rattle.std.proofs.Common.{◌≡◌, ℕ, zero, suc, ◌+◌, ◌<◌, ◌≤◌, ◌⊎◌, inl, inr, Bool, true, false, eqb, List, [], ◌∷◌}
use Rattle.std.proofs.Common.{length, Option, Some, None, refl, sym, ap, subst, ◌∙◌, arith}
use Rattle.std.proofs.lemmas.Bool.{eqb-true, eqb-false, ne_eqb}
use Rattle.std.proofs.lemmas.Option.{same_Some}
use Rattle.scalar_types.specs.declared.Order.{Order}
use Rattle.file_grammar.specs.declared.reason.Reason.TheVariants.{NoEnd, Trailing}
use Rattle.file_grammar.specs.declared.fault.Fault.{Fault}
use Rattle.file_grammar.specs.Item.{Item, Before, after}
use Rattle.file_grammar.specs.MayStand.{MayStand, Stand}
use Rattle.file_grammar.specs.Fault.{Here, reasons, first_of, fault_at, fault_by, fault_here}
use Rattle.file_grammar.proofs.Standing.{may-stand, is-judged}
use Rattle.file_grammar.proofs.Advance.{moves}

-- the place of what is judged
abbrev pub here_of : Order → List ℕ → Before → Here
here_of order file b = record { order = order; file = file; before = b }

-- the file is closed and ends here
pub record IsClosed (file : List ℕ) (last : Before) : Type 0 where
  pub closed : last.closed ≡ true
  pub ends : last.place ≡ length file

-- a fault is here
pub record IsFaulted (order : Order) (file : List ℕ) (last : Before) (fault : Fault) : Type 0 where
  pub holds : fault_here (here_of order file last) ≡ Some fault

abbrev pub IsEnd : Order → List ℕ → Before → Type 0
IsEnd order file last = IsClosed file last ⊎ ((fault : Fault) × IsFaulted order file last fault)

-- what is found is none or some
pub none_or_some : (found : Option Fault) (fault : Fault) → found ≡ None → found ≡ Some fault → ⊥
none_or_some found fault none some = cc

-- a place before the end of a file that is not closed has no fault where no reason holds
unfaulted : (closed ends : Bool) (h : Here) → closed ≡ false → ends ≡ false → first_of reasons h ≡ None
    → fault_by closed ends h ≡ None
unfaulted true ends h unclosed more none = absurd cc
unfaulted false true h unclosed more none = absurd cc
unfaulted false false h unclosed more none = none

-- where an item may stand is no fault
pub no_fault : (order : Order) (file : List ℕ) (b : Before) (item : Item) → MayStand order file b item
    → fault_here (here_of order file b) ≡ None
no_fault order file b item may =
    let told = is-judged order file b item may in
    unfaulted b.closed (eqb b.place (length file)) (here_of order file b) told.0
    (ne_eqb b.place (length file) (λ same. omega (arith, told.1, same)))
    told.2

-- at an end no item may stand
pub no_item : (order : Order) (file : List ℕ) (b : Before) (item : Item) → MayStand order file b item
    → IsEnd order file b → ⊥
no_item order file b item may (inl end) =
    let unclosed : b.closed ≡ false = (is-judged order file b item may).0 in
    let closed : b.closed ≡ true = end.closed in
    cc
no_item order file b item may (inr (fault, end)) =
    none_or_some (fault_here (here_of order file b)) fault (no_fault order file b item may) end.holds

-- one item at most may stand
pub same_item : (order : Order) (file : List ℕ) (b : Before) (item other : Item) → MayStand order file b item
    → MayStand order file b other → item ≡ other
same_item order file b item other one two =
    same_Some item other (sym (is-judged order file b item one).3 ∙ (is-judged order file b other two).3)

-- two chains to an end are one
pub same_chain : (order : Order) (file : List ℕ) (b : Before) (items others : List Item) (last end : Before)
    → Stand order file b items last → Stand order file b others end → IsEnd order file last → IsEnd order file end
    → (items ≡ others) × (last ≡ end)
same_chain order file b [] [] last end left right one two = (refl, left ∙ sym right)
same_chain order file b [] (item ∷ items) last end left right one two =
    absurd (no_item order file b item right.0 (subst (IsEnd order file) left one))
same_chain order file b (item ∷ items) [] last end left right one two =
    absurd (no_item order file b item left.0 (subst (IsEnd order file) right two))
same_chain order file b (item ∷ items) (other ∷ others) last end left right one two =
    let same : item ≡ other = same_item order file b item other left.0 right.0 in
    let P : Item → Type 0 = λ i. Stand order file (after order b i) others end in
    let rest : (items ≡ others) × (last ≡ end) =
    same_chain order file (after order b item) items others last end left.1 (subst P (sym same) right.1) one two in
    (cc, rest.1)

-- at each place is an end or an item that may stand
abbrev EndOrItem : Order → List ℕ → Before → Type 0
EndOrItem order file b = IsEnd order file b ⊎ ((item : Item) × MayStand order file b item)

-- the same where the file goes on, by the first reason that holds
by_first : (order : Order) (file : List ℕ) (b : Before) (found : Option Fault) → b.closed ≡ false
    → eqb b.place (length file) ≡ false → b.place < length file → first_of reasons (here_of order file b) ≡ found
    → EndOrItem order file b
by_first order file b (Some fault) unclosed more within is =
    inl (inr (
      fault,
      record {
        holds =
            ap (λ (closed : Bool). fault_by closed (eqb b.place (length file)) (here_of order file b)) unclosed
            ∙ ap (λ (ends : Bool). fault_by false ends (here_of order file b)) more
            ∙ is;
      },
    ))
by_first order file b None unclosed more within is =
    let found = may-stand (here_of order file b) unclosed within is in
    inr (found.0, found.2)

-- the same by whether the file is closed and whether it ends here
by_before : (order : Order) (file : List ℕ) (b : Before) (closed ends : Bool) → b.closed ≡ closed
    → eqb b.place (length file) ≡ ends → b.place ≤ length file → EndOrItem order file b
by_before order file b true true is_closed is_end within =
    inl (inl (record { closed = is_closed; ends = eqb-true b.place (length file) is_end }))
by_before order file b true false is_closed is_end within =
    inl (inr (
      fault_at Trailing (b.place, 0),
      record {
        holds =
            ap (λ (closed : Bool). fault_by closed (eqb b.place (length file)) (here_of order file b)) is_closed
            ∙ ap (λ (ends : Bool). fault_by true ends (here_of order file b)) is_end;
      },
    ))
by_before order file b false true is_closed is_end within =
    inl (inr (
      fault_at NoEnd (b.place, 0),
      record {
        holds =
            ap (λ (closed : Bool). fault_by closed (eqb b.place (length file)) (here_of order file b)) is_closed
            ∙ ap (λ (ends : Bool). fault_by false ends (here_of order file b)) is_end;
      },
    ))
by_before order file b false false is_closed is_end within =
    let less : b.place < length file = below b.place (length file) within (eqb-false b.place (length file) is_end) in
    by_first order file b (first_of reasons (here_of order file b)) is_closed is_end less refl where
      below : (m n : ℕ) → m ≤ n → (m ≡ n → ⊥) → m < n
      below m n within apart = omega (arith, within, apart)

end_or_item : (order : Order) (file : List ℕ) (b : Before) → b.place ≤ length file → EndOrItem order file b
end_or_item order file b within = by_before order file b b.closed (eqb b.place (length file)) refl refl within

-- items that each may stand after the other, to an end
pub record Chain (order : Order) (file : List ℕ) (b : Before) : Type 0 where
  pub items : List Item
  pub last : Before
  pub stand : Stand order file b items last
  pub end : IsEnd order file last

chain_cons : (order : Order) (file : List ℕ) (b : Before) (item : Item) → MayStand order file b item
    → Chain order file (after order b item) → Chain order file b
chain_cons order file b item may chain =
    record { items = item ∷ chain.items; last = chain.last; stand = (may, chain.stand); end = chain.end }

-- from each place such items stand
pub chain_from : (bound : ℕ) (order : Order) (file : List ℕ) (b : Before) → b.place ≤ length file
    → length file ≤ b.place + bound → Chain order file b
chain_from zero order file b within fuel =
    elim (end_or_item order file b within) [
      | inl end ↦ record { items = []; last = b; stand = refl; end = end }
      | inr (item, may) ↦
          let step = moves order file b item may in
          absurd (omega (arith, step.past, step.within, fuel))
    ]
chain_from (suc bound) order file b within fuel =
    elim (end_or_item order file b within) [
      | inl end ↦ record { items = []; last = b; stand = refl; end = end }
      | inr (item, may) ↦
          let step = moves order file b item may in
          chain_cons order file b item may
          (chain_from bound order file (after order b item) step.within (omega (arith, step.past, fuel)))
    ]
