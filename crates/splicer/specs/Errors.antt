-- What a refusal of a part of a splice is to the splice.
use Rattle.std.specs.Prelude.{ℕ, ◌<◌, ⊤}
use Rattle.frame_outside.specs.declared.traits.ShelfError.{ShelfError}
use Rattle.frame_outside.specs.declared.traits.ShelfError.TheVariants as shelf
use Rattle.item_reader.specs.declared.item.ReadError.{ReadError}
use Rattle.item_reader.specs.declared.item.ReadError.TheVariants as read
use Rattle.canonical_writer.specs.declared.errors.WriteError.{WriteError}
use Rattle.canonical_writer.specs.declared.errors.WriteError.TheVariants as write
use Rattle.splicer.specs.declared.errors.InputError.{InputError}
use Rattle.splicer.specs.declared.errors.InputError.TheVariants as input
use Rattle.splicer.specs.declared.errors.SpliceError.{SpliceError}
use Rattle.splicer.specs.declared.errors.SpliceError.TheVariants as splice

-- an input that cannot be read
abbrev pub error_of_read : ReadError → InputError
error_of_read (read.Fault fault) = input.Fault fault
error_of_read read.Device = input.Write write.Device
error_of_read read.NoMemory = input.Write write.NoMemory

-- a frame of the input of a number that is not written
abbrev pub unwritten : ℕ → WriteError → SpliceError
unwritten file write.FramesLimit = splice.FramesLimit
unwritten file (write.Clash class) = splice.Clash file class
unwritten file write.OutputLimit = splice.OutputLimit
unwritten file write.Device = splice.Device
unwritten file write.NoMemory = splice.NoMemory

-- the input of a number that is not written to its end
abbrev pub error_of : ℕ → InputError → SpliceError
error_of file (input.Fault fault) = splice.Fault file fault
error_of file (input.Write error) = unwritten file error

-- a call of the shelf that was refused
abbrev pub error_of_shelf : ShelfError → SpliceError
error_of_shelf shelf.Failed = splice.Device
error_of_shelf shelf.NoMemory = splice.NoMemory

-- the input that is named is one of so many
abbrev pub IsOfInputs : ℕ → SpliceError → Type 0
IsOfInputs inputs (splice.Fault file fault) = file < inputs
IsOfInputs inputs (splice.Clash file class) = file < inputs
IsOfInputs inputs splice.FramesLimit = ⊤
IsOfInputs inputs splice.OutputLimit = ⊤
IsOfInputs inputs splice.Device = ⊤
IsOfInputs inputs splice.NoMemory = ⊤
