-- How far a reader reads ahead, and what it knows of the structure at the place that it has reached.
use Rattle.std.specs.Prelude.{◌≡◌, ℕ, ◌+◌, ◌≤◌, ◌⊎◌, ◌&&◌, nat_le, Bool, false, if◌then◌else◌, List, sum_by}
use Rattle.std.specs.Prelude.{Some, None}
use Rattle.scalar_types.specs.declared.Order.{Order}
use Rattle.dictionary.specs.declared.entries.Entry.{Entry}
use Rattle.structure_source.specs.declared.source.Head.TheVariants.{Whole}
use Rattle.structure_source.specs.Source.{IsHead}
use Rattle.file_grammar.specs.Structure.{record_limit, common_at, left_at, size_of, end_of, structure_at}
use Rattle.file_grammar.specs.Described.{longest_run, entry_from}
use Rattle.file_grammar.specs.Item.{Before}
use Rattle.file_grammar.specs.Fault.{fault_here}
use Rattle.file_grammar.specs.Steps.{length_reason}
use Rattle.item_reader.specs.declared.looked.Looked.{Looked}
use Rattle.item_reader.specs.declared.looked.Looked.TheVariants.{Nothing, Seen, Wrong}

-- whether the 8 bytes of a length are there and tell that of a structure
abbrev pub tells_length : Order → List ℕ → ℕ → Bool
tells_length order file place =
    nat_le 8 (left_at file place)
    && (nat_le 14 (common_at order file place).length && nat_le (common_at order file place).length record_limit)

-- The look of a place: 65,536 bytes beyond the end of the structure there by its length; where that length is not all
-- there, or is not that of a structure, beyond the 14 bytes there.
abbrev pub look : Order → List ℕ → ℕ → ℕ
look order file place =
    if tells_length order file place then place + (common_at order file place).length + 65536 else place + 65550

-- how far was read of the place by what was looked at there
abbrev pub ReadsTo : ℕ → Looked → ℕ → Type 0
ReadsTo place Nothing read = read ≡ place
ReadsTo place (Seen common) read = read ≡ place + 14
ReadsTo place (Wrong fault) read = place ≤ read

-- What was looked at: nothing; the 14 bytes there; or what is the fault there, whatever else stands before the place.
abbrev pub IsLooked : Order → List ℕ → ℕ → ℕ → Looked → Type 0
IsLooked order file place read Nothing = read ≡ place
IsLooked order file place read (Seen common) = (read ≡ place + 14) × IsHead order file place (Whole common)
IsLooked order file place read (Wrong fault) =
    ((before : Before) → before.place ≡ place → before.closed ≡ false
    → fault_here (record { order = order; file = file; before = before }) ≡ Some fault)
    × (place ≤ read) × (read + 65536 ≤ look order file place)

-- The place after the entry that a whole FrSH at a place begins.
pub record IsAfterEntry (order : Order) (file : List ℕ) (place end : ℕ) : Type 0 where
  pub class : (structure_at order file place).class ≡ 1
  pub whole : length_reason order file place ≡ None
  pub entry : Entry
  pub described : entry_from order file (structure_at order file place) ≡ Some entry
  pub end_is : end ≡ end_of (structure_at order file place)
      + sum_by (λ e. size_of e.0) (longest_run order file (end_of (structure_at order file place)))

-- The bytes drawn are at most the look of the place, or of the place after the entry that stands there.
abbrev pub IsWithinLook : Order → List ℕ → ℕ → ℕ → Type 0
IsWithinLook order file place drawn =
    (drawn ≤ look order file place)
    ⊎ ((end : ℕ) × IsAfterEntry order file place end × (drawn ≤ look order file end))
