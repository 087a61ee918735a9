-- What stands in a file before its closing part.
use Rattle.std.specs.Prelude.{ℕ, ◌+◌, List}
use Rattle.dictionary.specs.declared.entries.Entry.{Entry}
use Rattle.layout_plan.specs.declared.fields.Field.{Field}
use Rattle.contents_table.specs.declared.fit.TableLayout.{TableLayout}
use Rattle.contents_table.specs.Built.{Built}
use Rattle.contents_table.specs.Told.{table_values}
use Rattle.canonical_file.specs.Bytes.{body_bytes, structure_bytes}
use Rattle.canonical_file.specs.Written.{Written, if_within}
use Rattle.canonical_writer.specs.declared.closing_part.FileSoFar.{FileSoFar}

abbrev pub written_of : FileSoFar → Written
written_of file = record {
  size = file.size;
  entries = file.used.now;
  built = file.built.now;
  frames = file.frames;
}

-- with these entries then, and so many bytes after
abbrev pub written_then : FileSoFar → List Entry → ℕ → Written
written_then file entries more = record {
  size = file.size + more;
  entries = entries;
  built = file.built.now;
  frames = file.frames;
}

-- the record of the contents table, where it is within the limit
abbrev pub table_bytes : ℕ → TableLayout → List Field → Built → List ℕ
table_bytes class layout fields built =
    if_within (structure_bytes class 0 (body_bytes fields (table_values layout fields built)))
