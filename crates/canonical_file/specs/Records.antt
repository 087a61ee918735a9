-- Records one after another as they are written: each with the entry of its class before it, where that has not been
-- written yet.
use Rattle.std.specs.Prelude.{ℕ, ◌+◌, List, [], ◌∷◌, ◌++◌, length, map, fold, scan, unwrap_or, Option, Some, None}
use Rattle.std.specs.List.{enumerate_from}
use Rattle.record_values.specs.declared.values.Value.{Value}
use Rattle.dictionary.specs.declared.entries.Entry.{Entry}
use Rattle.dictionary.specs.Dictionary.{entry_of}
use Rattle.layout_plan.specs.declared.fields.Field.{Field}
use Rattle.layout_plan.specs.Layout.{layout_of}
use Rattle.frame_content.specs.Frames.{Row, Frame}
use Rattle.canonical_file.specs.Bytes.{body_bytes, structure_bytes, entry_bytes}
use Rattle.canonical_file.specs.Ordered.{instance_at, new_values}

-- ---- records

-- A record: the entry of its class, its instance, and its values.
pub record Record : Type 0 where
  pub entry : Entry
  pub instance : ℕ
  pub values : List Value

abbrev pub entry_fields : Entry → List Field
entry_fields e = unwrap_or (layout_of e.elements) []

abbrev pub record_bytes : Record → List ℕ
record_bytes r = structure_bytes r.entry.class r.instance (body_bytes (entry_fields r.entry) r.values)

-- a record of a frame, with its number there
abbrev pub row_record : Frame → ℕ × Row → Record
row_record f row = record {
  entry = row.1.label.entry;
  instance = instance_at f row.0;
  values = new_values f row.1;
}

-- the end record, whose links are null
abbrev pub end_record : Frame → Record
end_record f = record { entry = f.end.entry; instance = 0; values = f.end.values }

-- The records of a frame in its order, and then its end record.
abbrev pub records_of : Frame → List Record
records_of f = map (row_record f) (enumerate_from 0 f.rows) ++ end_record f ∷ []

-- ---- entries before their first use

-- the entry's bytes, where none of its class stands yet
abbrev pub unless_held : Option Entry → List Entry → Entry → List ℕ
unless_held None entries e = entry_bytes (length entries) e
unless_held (Some old) entries e = []

abbrev pub new_entry : List Entry → Entry → List ℕ
new_entry entries e = unless_held (entry_of entries e.class) entries e

-- the entries that stand then
abbrev pub added_by : Option Entry → List Entry → Entry → List Entry
added_by None entries e = entries ++ e ∷ []
added_by (Some old) entries e = entries

abbrev pub with_entry : List Entry → Entry → List Entry
with_entry entries e = added_by (entry_of entries e.class) entries e

abbrev pub with_record : List Entry → Record → List Entry
with_record entries r = with_entry entries r.entry

abbrev pub entries_after : List Entry → List Record → List Entry
entries_after entries records = fold with_record entries records

-- ---- pieces

-- A record, and the entry before it, which is empty where it stands already.
pub record Piece : Type 0 where
  pub entry : List ℕ
  pub record_itself : List ℕ

abbrev pub no_piece : Piece
no_piece = record { entry = []; record_itself = [] }

abbrev pub piece_of : List Entry → Record → Piece
piece_of entries r = record { entry = new_entry entries r.entry; record_itself = record_bytes r }

abbrev pub piece_bytes : Piece → List ℕ
piece_bytes p = p.entry ++ p.record_itself

-- The pieces of records one after another, after these entries.
abbrev pub pieces_of : List Entry → List Record → List Piece
pieces_of entries records = scan with_record piece_of entries records

-- where the records of pieces stand, the first piece from this place on
abbrev pub record_places : ℕ → List Piece → List ℕ
record_places at [] = []
record_places at (p ∷ ps) = (at + length p.entry) ∷ record_places (at + length (piece_bytes p)) ps
