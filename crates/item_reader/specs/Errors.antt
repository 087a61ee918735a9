-- What a refusal of a shelf is to a reader.
use Rattle.frame_outside.specs.declared.traits.ShelfError.{ShelfError}
use Rattle.frame_outside.specs.declared.traits.ShelfError.TheVariants as shelf
use Rattle.item_reader.specs.declared.item.ReadError.{ReadError}
use Rattle.item_reader.specs.declared.item.ReadError.TheVariants as read

abbrev pub error_of : ShelfError → ReadError
error_of shelf.Failed = read.Device
error_of shelf.NoMemory = read.NoMemory
