-- The run of FrSEs after an FrSH, as it is read from the file, and the entry that both make.
use Rattle.std.specs.Prelude.{◌≡◌, ℕ, ◌+◌, ◌<◌, ◌≤◌, ⊤, ◌==◌, ◌&&◌, nat_le, Bool, List, map, take, length}
use Rattle.std.specs.Prelude.{sum_by}
use Rattle.std.specs.Prelude.{Option, Some, None}
use Rattle.scalar_types.specs.declared.Order.{Order}
use Rattle.frame_head.specs.declared.structure.Common.{Common}
use Rattle.dictionary.specs.declared.entries.Element.{Element}
use Rattle.dictionary.specs.declared.entries.Entry.{Entry}
use Rattle.dictionary.specs.Same.{IsRead}
use Rattle.file_grammar.specs.Structure.{record_limit, file_limit, size_of, end_of, structure_at}
use Rattle.file_grammar.specs.Described.{element_at, longest_run, entry_from}
use Rattle.item_reader.specs.declared.structure.Placed.{Placed}
use Rattle.item_reader.specs.declared.entries.Next.{Next}
use Rattle.item_reader.specs.declared.entries.Next.TheVariants as next
use Rattle.item_reader.specs.declared.entries.Run.{Run}
use Rattle.item_reader.specs.Placed.{IsPlaced, body_of}
use Rattle.item_reader.specs.Looked.{ReadsTo, IsLooked}
use Rattle.item_reader.specs.Judged.{kept_elements}

-- whether the 14 bytes at a place are those of an FrSE within the limits
abbrev pub may_be_element : ℕ → Common → Bool
may_be_element at common =
    common.class == 2
    && (nat_le 14 common.length
    && (nat_le common.length record_limit && nat_le (at + common.length) file_limit))

-- the element of every file in which an FrSE with this body stands
abbrev pub Elements : Order → List ℕ → Option Element → Type 0
Elements order body found =
    (file : List ℕ) (at : ℕ) (p : Placed) → IsPlaced order file at p → at + p.length ≤ file_limit
    → p.class ≡ 2 → body ≡ body_of file p → element_at order file at ≡ found

-- the elements of the longest run from a place on, and the place after it
abbrev pub elements_from : Order → List ℕ → ℕ → List Element
elements_from order file from = map (λ e. e.1) (longest_run order file from)

abbrev pub end_from : Order → List ℕ → ℕ → ℕ
end_from order file from = from + sum_by (λ e. size_of e.0) (longest_run order file from)

-- What stands at a place: an element of the run, up to its end; or none, and what was looked at.
abbrev pub IsNext : Order → List ℕ → ℕ → Next → ℕ → Type 0
IsNext order file at (next.Element element) read =
    (element_at order file at ≡ Some element) × (read ≡ end_of (structure_at order file at))
IsNext order file at (next.Ended looked) read =
    (element_at order file at ≡ None) × IsLooked order file at read looked

-- how far a source went on for it: over an FrSE within the limit of files, or as far as was looked
abbrev pub MovesTo : ℕ → Next → ℕ → Type 0
MovesTo at (next.Element element) read = (at < read) × (read ≤ file_limit)
MovesTo at (next.Ended looked) read = ReadsTo at looked read

-- an element's type is what its text reads as
abbrev pub HasReadElement : Next → Type 0
HasReadElement (next.Element element) = IsRead element
HasReadElement (next.Ended looked) = ⊤

-- The run from a place on was read: its first elements, the place after it, and what was looked at there.
pub record IsRun (order : Order) (file : List ℕ) (from : ℕ) (run : Run) (read : ℕ) : Type 0 where
  pub elements : run.elements ≡ take kept_elements (elements_from order file from)
  pub end_is : run.end ≡ end_from order file from
  pub within : run.end ≤ length file
  pub looked : IsLooked order file run.end read run.looked

-- The entry of every file in which an FrSH with this body stands, but for its elements.
abbrev pub Begins : Order → List ℕ → Entry → Type 0
Begins order body entry =
    (file : List ℕ) (at : ℕ) (p : Placed) → IsPlaced order file at p → body ≡ body_of file p
    → entry_from order file (structure_at order file at)
    ≡ Some (record entry { elements = elements_from order file (end_of (structure_at order file at)) })
