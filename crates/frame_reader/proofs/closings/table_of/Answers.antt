use Rattle.std.proofs.Common.{sym}
use Rattle.frame_reader.specs.Closings.{table_name}
use Rattle.frame_reader.proofs.NamedEntries.{named-usable}
use Rattle.frame_reader.proofs.closings.table_of.Goals as goal

pub is_fit-requires : goal.is_fit-requires
is_fit-requires c =
    (named-usable c.args.dictionary.now table_name c.in-Some.entry.now c.in-Some.ensures.sound
    (sym c.in-Some.ensures.entry)).few
