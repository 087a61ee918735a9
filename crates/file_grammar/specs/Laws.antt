-- The laws of well-formed files and first faults.
use Rattle.std.specs.Prelude.{◌≡◌, ℕ, ◌<◌, ◌≤◌, ◌⊎◌, List, length, take, Some}
use Rattle.scalar_types.specs.declared.Order.{Order}
use Rattle.file_grammar.specs.declared.reason.Reason.{Reason}
use Rattle.file_grammar.specs.declared.fault.Fault.{Fault}
use Rattle.file_grammar.specs.Reason.{number_of}
use Rattle.file_grammar.specs.Item.{Item, Before}
use Rattle.file_grammar.specs.MayStand.{MayStand, Begins, IsWellFormed}
use Rattle.file_grammar.specs.Fault.{Here, Spot, fault_spot, reasons, first_of, fault_here, IsItemFault}
use Rattle.file_grammar.specs.Fault.{IsFirstFault}

-- a file is well-formed
abbrev pub WellFormed : List ℕ → Type 0
WellFormed file = (order : Order) × (items : List Item) × (last : Before) × IsWellFormed file order items last

-- Each file is well-formed or has a first fault.
abbrev pub EachFileIsJudged : Type 0
EachFileIsJudged = (file : List ℕ) → WellFormed file ⊎ ((fault : Fault) × IsFirstFault file fault)

-- None is both.
abbrev pub NoFileIsBoth : Type 0
NoFileIsBoth = (file : List ℕ) (fault : Fault) → WellFormed file → IsFirstFault file fault → ⊥

-- A file has one first fault.
abbrev pub FaultsAreUnique : Type 0
FaultsAreUnique = (file : List ℕ) (first second : Fault) → IsFirstFault file first → IsFirstFault file second
    → first ≡ second

-- The items of a well-formed file are the only ones, and what stands before its end is one.
abbrev pub ItemsAreUnique : Type 0
ItemsAreUnique =
    (file : List ℕ) (order other : Order) (items others : List Item) (last end : Before)
    → IsWellFormed file order items last → IsWellFormed file other others end → (order ≡ other)
    × (items ≡ others) × (last ≡ end)

-- No proper prefix of a well-formed file is well-formed.
abbrev pub NoPrefixIsWellFormed : Type 0
NoPrefixIsWellFormed = (file : List ℕ) (n : ℕ) → n < length file → WellFormed file → WellFormed (take n file) → ⊥

-- The items before a file's first fault are the only ones, and what stands before its place is one.
abbrev pub ItemsBeforeFaultsAreUnique : Type 0
ItemsBeforeFaultsAreUnique =
    (file : List ℕ) (fault other : Fault) (first : IsItemFault file fault) (second : IsItemFault file other) →
    (first.order ≡ second.order) × (first.items ≡ second.items) × (first.last ≡ second.last)

-- Of the reasons that hold of what stands at a place, the one named has the least number.
abbrev pub NamesTheLeastReason : Type 0
NamesTheLeastReason =
    (h : Here) (fault : Fault) (other : Reason) (spot : Spot) → first_of reasons h ≡ Some fault
    → fault_spot other h ≡ Some spot → number_of fault.reason ≤ number_of other

-- The items before a fault are the longest list of items that each may stand: no further item may.
abbrev pub NoItemStandsAtAFault : Type 0
NoItemStandsAtAFault =
    (order : Order) (file : List ℕ) (items : List Item) (last : Before) (fault : Fault) (item : Item)
    → Begins file order items last → fault_here (record { order = order; file = file; before = last }) ≡ Some fault
    → MayStand order file last item → ⊥
