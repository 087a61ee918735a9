-- What a refusal of a part of a comparison is to the comparison.
use Rattle.std.specs.Prelude.{ℕ, ◌<◌, ⊤}
use Rattle.frame_outside.specs.declared.traits.ShelfError.{ShelfError}
use Rattle.frame_outside.specs.declared.traits.ShelfError.TheVariants as shelf
use Rattle.item_reader.specs.declared.item.ReadError.{ReadError}
use Rattle.item_reader.specs.declared.item.ReadError.TheVariants as read
use Rattle.content_compare.specs.declared.answers.CompareError.{CompareError}
use Rattle.content_compare.specs.declared.answers.CompareError.TheVariants as error

-- a file of a number that cannot be read
abbrev pub error_of_read : ℕ → ReadError → CompareError
error_of_read file (read.Fault fault) = error.Fault file fault
error_of_read file read.Device = error.Device
error_of_read file read.NoMemory = error.NoMemory

-- a call of the shelf that was refused
abbrev pub error_of_shelf : ShelfError → CompareError
error_of_shelf shelf.Failed = error.Device
error_of_shelf shelf.NoMemory = error.NoMemory

-- the file that is named is one of the two
abbrev pub IsOfTwo : CompareError → Type 0
IsOfTwo (error.Fault file fault) = file < 2
IsOfTwo error.Device = ⊤
IsOfTwo error.NoMemory = ⊤
