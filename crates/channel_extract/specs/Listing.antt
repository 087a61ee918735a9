-- The contents table that the end of a file leads to, and the positions that it has for a name.
use Rattle.std.specs.Prelude.{ℕ, zero, suc, List, map, position, option_and_then, Option, None}
use Rattle.std.specs.Option.{option_map}
use Rattle.std.specs.Str.{bytes_eq}
use Rattle.scalar_types.specs.declared.Order.{Order}
use Rattle.file_grammar.specs.Item.{Item, Before}
use Rattle.contents_table.specs.declared.kind.Kind.{Kind}
use Rattle.contents_table.specs.Built.{numbers_below}
use Rattle.contents_table.specs.Listed.{KindTable, Table, table_of_kind, position_at}
use Rattle.file_content.specs.Stored.{StoredTable, table_in, seek_in}
use Rattle.file_content.specs.Contents.{is_listed, if_led, seek_or_none}

-- What the table of a file lists that ends at a place and has so many frames, by the way back from its end to the
-- table: nothing where that leads to no table, or the table does not read as one of so many frames.
abbrev pub table_led : Order → ℕ → ℕ → Option StoredTable → ℕ → Option Table
table_led order bytes frames table zero = None
table_led order bytes frames table (suc n) =
    option_and_then (is_listed order frames) (option_and_then (if_led bytes (suc n)) table)

-- what the contents table of the file with these items lists
abbrev pub file_table : Order → List Item → Before → Option Table
file_table order items last =
    table_led order last.place last.frames (table_in order items) (seek_or_none (seek_in order items))

-- what a table lists of a kind, where there is one and its layout lists the kind
abbrev pub kind_of_table : Kind → Option Table → Option KindTable
kind_of_table kind table = option_and_then (λ t. table_of_kind t kind) table

-- The positions of a name, one for each frame, where it is listed: those of the first such name.
abbrev pub positions_for : List ℕ → KindTable → Option (List ℕ)
positions_for name t =
    option_map (λ k. map (λ frame. position_at t frame k) (numbers_below t.frames)) (position (bytes_eq name) t.names)
