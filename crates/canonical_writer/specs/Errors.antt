-- What a refusal of a shelf is to a writer.
use Rattle.frame_outside.specs.declared.traits.ShelfError.{ShelfError}
use Rattle.frame_outside.specs.declared.traits.ShelfError.TheVariants as shelf
use Rattle.canonical_writer.specs.declared.errors.WriteError.{WriteError}
use Rattle.canonical_writer.specs.declared.errors.WriteError.TheVariants as write

abbrev pub error_of : ShelfError → WriteError
error_of shelf.Failed = write.Device
error_of shelf.NoMemory = write.NoMemory
