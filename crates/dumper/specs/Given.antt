-- The lines of an item as a reader has given it.
use Rattle.std.specs.Prelude.{ℕ, ◌+◌, List, [], ◌++◌, length}
use Rattle.std.specs.Option.{option_map_or}
use Rattle.item_reader.specs.declared.item.Item.{Item as Given}
use Rattle.item_reader.specs.declared.item.Item.TheVariants as given
use Rattle.item_reader.specs.Reader.{Reader}
use Rattle.dumper.specs.Lines.{entry_text, structure_text, end_line}

-- the structure that the last item is, of this place, class, instance and length
abbrev pub last_text : Reader → ℕ → ℕ → ℕ → ℕ → List ℕ
last_text r at class instance length = structure_text r.order r.before.dictionary at class instance length r.body

-- the last item of a reader, which has reached the place after it
abbrev pub given_text : Reader → Given → List ℕ
given_text r (given.Entry at class changed) = option_map_or entry_text r.entry []
given_text r (given.Plain at class instance node) = last_text r at class instance (14 + length r.body)
given_text r (given.FrameEnd at class) = last_text r at class r.instance (14 + length r.body)
given_text r (given.Table at class size) = last_text r at class r.instance size
given_text r (given.FileEnd at class size seek) = last_text r at class r.instance size ++ end_line r.before.place
