-- What passing through a file finds: the bodies of FrSH, FrSE, FrEndOfFrame, FrTOC and FrEndOfFile are read, those of
-- all other records are passed over.
use Rattle.std.specs.Prelude.{◌≡◌, ℕ, ◌+◌, ◌<◌, ◌≤◌, ◌==◌, ◌⊎◌, nat_lt, Bool, true, false, if◌then◌else◌, List, [], ◌∷◌}
use Rattle.std.specs.Prelude.{length, take, Option, Some, None, Ok}
use Rattle.std.specs.Option.{option_map_or}
use Rattle.scalar_types.specs.declared.Order.{Order}
use Rattle.frame_head.specs.Header.{header_of}
use Rattle.file_grammar.specs.declared.reason.Reason.{Reason}
use Rattle.file_grammar.specs.declared.reason.Reason.TheVariants.{RecordLimit, FrameLimit, BodyShort, BodyLong, BadText}
use Rattle.file_grammar.specs.declared.reason.Reason.TheVariants.{LooseLink, Trailing, NoEnd}
use Rattle.file_grammar.specs.declared.fault.Fault.{Fault}
use Rattle.file_grammar.specs.Structure.{size_of, record_limit}
use Rattle.file_grammar.specs.Kind.{kind_of, is_target_kind}
use Rattle.file_grammar.specs.Record.{weight_of}
use Rattle.file_grammar.specs.Item.{Item, EntryItem, OtherItem, Before, nothing_yet, after_kind, after}
use Rattle.file_grammar.specs.Fault.{Here, Spot, place, length_there, kind, load, here, fault_spot, fault_at, reasons}
use Rattle.file_grammar.specs.Fault.{IsHeaderFault}
use Rattle.file_grammar.specs.Steps.{item_here}

-- a structure whose body is passed over: a record of a frame that is no end record
abbrev pub is_passed_over : Here → Bool
is_passed_over h = is_target_kind (kind h)

-- Where a reason holds in passing: as it is judged of a file, but of a body passed over nothing is, its weight is its
-- length, and no link is judged.
abbrev pub judged_passing : Reason → Here → Option Spot
judged_passing RecordLimit h =
    if is_passed_over h then here h (nat_lt record_limit (length_there h)) else fault_spot RecordLimit h
judged_passing FrameLimit h =
    if is_passed_over h then here h (nat_lt record_limit (load h + length_there h)) else fault_spot FrameLimit h
judged_passing BodyShort h = if is_passed_over h then None else fault_spot BodyShort h
judged_passing BodyLong h = if is_passed_over h then None else fault_spot BodyLong h
judged_passing BadText h = if is_passed_over h then None else fault_spot BadText h
judged_passing LooseLink h = None
judged_passing reason h = fault_spot reason h

-- the first of some reasons that holds so
abbrev pub first_passing : List Reason → Here → Option Fault
first_passing [] h = None
first_passing (reason ∷ reasons) h =
    option_map_or (λ spot. Some (fault_at reason spot)) (judged_passing reason h) (first_passing reasons h)

-- the fault of a place, by whether the end of the file stands before it, and whether the bytes end there
abbrev pub pass_fault_by : Bool → Bool → Here → Option Fault
pass_fault_by true true h = None
pass_fault_by true false h = Some (fault_at Trailing (place h, 0))
pass_fault_by false true h = Some (fault_at NoEnd (place h, 0))
pass_fault_by false false h = first_passing reasons h

abbrev pub pass_fault : Here → Option Fault
pass_fault h = pass_fault_by h.before.closed (place h == length h.file) h

-- what stands before the place after an item, where the weight of a record passed over is its length
abbrev pub after_passing : Order → Before → Item → Before
after_passing order b (EntryItem head run entry) = after order b (EntryItem head run entry)
after_passing order b (OtherItem s) =
    let kind = kind_of b.dictionary s.class in
    after_kind kind b s (if is_target_kind kind then size_of s else weight_of order b.dictionary s)

-- the items stand one after another, and no fault is found in passing at any
abbrev pub Pass : Order → List ℕ → Before → List Item → Before → Type 0
Pass order file b [] last = last ≡ b
Pass order file b (item ∷ items) last =
    let h : Here = record { order = order; file = file; before = b } in
    (place h < length file) × (pass_fault h ≡ None) × (item_here h ≡ Some item)
    × Pass order file (after_passing order b item) items last

-- The file is passed up to after these items.
pub record IsPassedTo (file : List ℕ) (order : Order) (items : List Item) (last : Before) : Type 0 where
  pub size : 40 ≤ length file
  pub header : header_of (take 40 file) ≡ Ok order
  pub pass : Pass order file nothing_yet items last

-- The file is passed to its end.
pub record IsPassed (file : List ℕ) (order : Order) (items : List Item) (last : Before) : Type 0 where
  pub to : IsPassedTo file order items last
  pub closed : last.closed ≡ true
  pub ends : last.place ≡ length file

-- Passing ends at a fault of an item.
pub record IsItemPassFault (file : List ℕ) (fault : Fault) : Type 0 where
  pub order : Order
  pub items : List Item
  pub last : Before
  pub to : IsPassedTo file order items last
  pub holds : pass_fault (record { order = order; file = file; before = last }) ≡ Some fault

-- The first fault that is found in passing.
abbrev pub IsPassFault : List ℕ → Fault → Type 0
IsPassFault file fault = IsHeaderFault file fault ⊎ IsItemPassFault file fault
