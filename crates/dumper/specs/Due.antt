-- What is printed of a file, and what a dump answers.
use Rattle.std.specs.Prelude.{◌≡◌, ◌⊎◌, ◌-◌, ℕ, ◌+◌, ◌≤◌, List, [], ◌++◌, length, take, if◌then◌else◌}
use Rattle.std.specs.Prelude.{Option, Some, None, Result, Ok, Err, IsSome}
use Rattle.scalar_types.specs.declared.Order.{Order}
use Rattle.frame_outside.specs.Shelf.{Outside, Told}
use Rattle.frame_outside.specs.Sink.{Output, Appends}
use Rattle.file_grammar.specs.declared.fault.Fault.{Fault}
use Rattle.file_grammar.specs.Item.{Item, Before, nothing_yet}
use Rattle.file_grammar.specs.MayStand.{IsWellFormed}
use Rattle.file_grammar.specs.Fault.{IsHeaderFault, IsItemFault}
use Rattle.dumper.specs.declared.files.DumpError.{DumpError}
use Rattle.dumper.specs.declared.files.DumpError.TheVariants as error
use Rattle.dumper.specs.Page.{AppendsPrefix}
use Rattle.dumper.specs.Lines.{heading, items_text}

-- the lines of items from the beginning of a file
abbrev pub lines_of : Order → List Item → List ℕ
lines_of order items = heading order ++ items_text order nothing_yet items

-- The items before the one that shows a fault: where the end of the file stands before the fault's place, bytes stand
-- after it, and it is the one.
abbrev pub items_shown : Before → List Item → List Item
items_shown last items = if last.closed then take (length items - 1) items else items

-- the lines of a well-formed file
pub record ShowsAll (file text : List ℕ) : Type 0 where
  pub order : Order
  pub items : List Item
  pub last : Before
  pub whole : IsWellFormed file order items last
  pub is : text ≡ lines_of order items

-- the lines of a file up to its first fault among the items
pub record ShowsUntil (file text : List ℕ) (fault : Fault) : Type 0 where
  pub is_fault : IsItemFault file fault
  pub is : text ≡ lines_of is_fault.order (items_shown is_fault.last is_fault.items)

-- The lines of a file, which is well-formed or has this first fault. Of a header that is wrong nothing is printed.
abbrev pub IsDump : List ℕ → Option Fault → List ℕ → Type 0
IsDump file None text = ShowsAll file text
IsDump file (Some fault) text = (IsHeaderFault file fault × (text ≡ [])) ⊎ ShowsUntil file text fault

-- What a dump answers, and what the sink has got: the lines, or after a refusal of the outside or of memory a prefix
-- of them.
abbrev pub Dumps : List ℕ → Output → Output → Result Unit DumpError → Type 0
Dumps file old new (Ok x) = (text : List ℕ) × IsDump file None text × Appends old new text
Dumps file old new (Err (error.Fault fault)) = (text : List ℕ) × IsDump file (Some fault) text × Appends old new text
Dumps file old new (Err refused) =
    (fault : Option Fault) (text : List ℕ) → IsDump file fault text → AppendsPrefix old new text

-- At most one slot was given, and beside it and the counts a shelf is as it was. A miss is a name that is not held.
pub record ReadsOneFile (old new : Outside) (name : List ℕ) : Type 0 where
  pub faults : old.faults ≤ new.faults
  pub misses : old.misses ≤ new.misses
  pub missed : Told old.files (λ held. IsSome (held name) → new.misses ≡ old.misses)
  pub slots : take (length old.slots) new.slots ≡ old.slots
  pub given : length new.slots ≤ length old.slots + 1
  pub files : new.files ≡ old.files

-- ---- laws

-- A file has one dump, and no two.
abbrev pub EachFileHasADump : Type 0
EachFileHasADump = (file : List ℕ) → (fault : Option Fault) × (text : List ℕ) × IsDump file fault text

abbrev pub NoFileHasTwoDumps : Type 0
NoFileHasTwoDumps =
    (file : List ℕ) (fault other : Option Fault) (text printed : List ℕ) → IsDump file fault text
    → IsDump file other printed → (fault ≡ other) × (text ≡ printed)
