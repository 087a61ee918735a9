-- Whether a file can be closed by a dictionary.
use Rattle.std.specs.Prelude.{ℕ, Bool, false, List, codes}
use Rattle.std.specs.Option.{option_map_or}
use Rattle.dictionary.specs.declared.entries.Entry.{Entry}
use Rattle.file_grammar.specs.Closing.{closes}
use Rattle.canonical_laws.specs.Content.{entry_named}

abbrev pub file_end : List ℕ
file_end = codes "FrEndOfFile"

abbrev pub table_name : List ℕ
table_name = codes "FrTOC"

-- FrEndOfFile is held with the layout that it has to have
abbrev pub is_closed : List Entry → Bool
is_closed held = option_map_or (λ e. closes e.elements) (entry_named held file_end) false
