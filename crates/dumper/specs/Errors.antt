-- The errors of parts as those of a dump.
use Rattle.frame_outside.specs.declared.traits.ShelfError.{ShelfError}
use Rattle.frame_outside.specs.declared.traits.ShelfError.TheVariants as shelf
use Rattle.item_reader.specs.declared.item.ReadError.{ReadError}
use Rattle.item_reader.specs.declared.item.ReadError.TheVariants as read
use Rattle.dumper.specs.declared.files.DumpError.{DumpError}
use Rattle.dumper.specs.declared.files.DumpError.TheVariants.{Fault, Device, NoMemory}

abbrev pub read_error : ReadError → DumpError
read_error (read.Fault fault) = Fault fault
read_error read.Device = Device
read_error read.NoMemory = NoMemory

abbrev pub shelf_error : ShelfError → DumpError
shelf_error shelf.Failed = Device
shelf_error shelf.NoMemory = NoMemory
