-- A file has one dump, and what is printed of its first items is a prefix of it.
use Rattle.std.proofs.Common.{◌≡◌, ℕ, ◌⊎◌, inl, inr, List, []}
use Rattle.std.proofs.Common.{Option, Some, None, refl, sym, ap, ◌∙◌}
use Rattle.file_grammar.specs.declared.fault.Fault.{Fault}
use Rattle.file_grammar.specs.Fault.{IsFirstFault}
use Rattle.file_grammar.specs.Laws.{WellFormed}
use Rattle.file_grammar.proofs.Headers.{begins-unfaulted}
use Rattle.file_grammar.proofs.OneAnswer.{not_both, faults_unique, items_before_unique, each_judged}
use Rattle.file_grammar.proofs.Prefixes.{items_unique}
use Rattle.dumper.specs.Due.{lines_of, items_shown, IsDump, EachFileHasADump, NoFileHasTwoDumps}

-- ---- one dump

-- Each file has a dump.
pub each-dump : EachFileHasADump
each-dump file = by (each_judged file) where
  by : WellFormed file ⊎ ((fault : Fault) × IsFirstFault file fault)
      → (fault : Option Fault) × (text : List ℕ) × IsDump file fault text
  by (inl (order, items, last, well)) =
      (None, lines_of order items, record { order = order; items = items; last = last; whole = well; is = refl })
  by (inr (fault, inl header)) = (Some fault, [], inl (header, refl))
  by (inr (fault, inr first)) = (
    Some fault,
    lines_of first.order (items_shown first.last first.items),
    inr (record {
      is_fault = first;
      is = refl;
    }),
  )

-- the fault that a dump tells is the file's first
dump-fault : (file : List ℕ) (fault : Fault) (text : List ℕ) → IsDump file (Some fault) text → IsFirstFault file fault
dump-fault file fault text (inl header) = inl header.0
dump-fault file fault text (inr until) = inr until.is_fault

-- a file without one and one with one
whole-or-faulty : (file : List ℕ) (fault : Fault) (text printed : List ℕ) → IsDump file None text
    → IsDump file (Some fault) printed → ⊥
whole-or-faulty file fault text printed whole faulty =
    not_both file fault (whole.order, whole.items, whole.last, whole.whole) (dump-fault file fault printed faulty)

-- the lines before a fault are the same ones
same-until : (file : List ℕ) (fault other : Fault) (text printed : List ℕ) → IsDump file (Some fault) text
    → IsDump file (Some other) printed → text ≡ printed
same-until file fault other text printed (inl left) (inl right) = left.1 ∙ sym right.1
same-until file fault other text printed (inl left) (inr right) =
    let end = right.is_fault in
    absurd (begins-unfaulted file end.order end.items end.last fault end.begins left.0)
same-until file fault other text printed (inr left) (inl right) =
    let end = left.is_fault in
    absurd (begins-unfaulted file end.order end.items end.last other end.begins right.0)
same-until file fault other text printed (inr left) (inr right) =
    let same = items_before_unique file fault other left.is_fault right.is_fault in
    left.is ∙ (λ i. lines_of (same.0 i) (items_shown (same.2 i) (same.1 i))) ∙ sym right.is

-- A file has no two dumps.
pub one-dump : NoFileHasTwoDumps
one-dump file None None text printed left right =
    let same = items_unique file left.order right.order left.items right.items left.last right.last left.whole
    right.whole in
    (refl, left.is ∙ (λ i. lines_of (same.0 i) (same.1 i)) ∙ sym right.is)
one-dump file None (Some other) text printed left right = absurd (whole-or-faulty file other text printed left right)
one-dump file (Some fault) None text printed left right = absurd (whole-or-faulty file fault printed text right left)
one-dump file (Some fault) (Some other) text printed left right =
    let same : fault ≡ other =
    faults_unique file fault other (dump-fault file fault text left) (dump-fault file other printed right) in
    (ap Some same, same-until file fault other text printed left right)
