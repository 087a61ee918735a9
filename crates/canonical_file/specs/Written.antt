-- The canonical file of frames in their orders: the header, the part of each frame, and the closing part. Each part is
-- a function of what stands before it and of the frame or the closing.
use Rattle.std.specs.Prelude.{ℕ, zero, suc, ◌+◌, if◌then◌else◌, List, [], ◌∷◌, ◌++◌, length, fold, scan, flat_map}
use Rattle.std.specs.Prelude.{nat_le, codes}
use Rattle.std.specs.Option.{option_map_or}
use Rattle.frame_head.specs.Header.{header_bytes}
use Rattle.record_values.specs.declared.values.Value.{Value}
use Rattle.record_values.specs.declared.values.Value.TheVariants as value
use Rattle.dictionary.specs.declared.entries.Element.{Element}
use Rattle.dictionary.specs.declared.entries.Entry.{Entry}
use Rattle.file_grammar.specs.Structure.{record_limit}
use Rattle.file_grammar.specs.Closing.{field_named}
use Rattle.frame_content.specs.Frames.{Frame}
use Rattle.contents_table.specs.Fit.{table_layout}
use Rattle.contents_table.specs.Built.{Built, nothing_built, with_frame_at}
use Rattle.contents_table.specs.Told.{values_told, table_values}
use Rattle.canonical_file.specs.declared.closing.Closing.{Closing}
use Rattle.canonical_file.specs.Records.{Record, entry_fields, record_bytes, records_of, new_entry, with_entry}
use Rattle.canonical_file.specs.Records.{entries_after, Piece, no_piece, piece_bytes, pieces_of, record_places}

-- ---- the parts of frames

-- What stands in a file so far, as far as it decides what comes after: how many bytes, the entries in their order, what
-- a contents table will list, and how many frames.
pub record Written : Type 0 where
  pub size : ℕ
  pub entries : List Entry
  pub built : Built
  pub frames : ℕ

-- the header alone
abbrev pub header_alone : Written
header_alone = record { size = 40; entries = []; built = nothing_built; frames = 0 }

abbrev pub frame_pieces : Written → Frame → List Piece
frame_pieces w f = pieces_of w.entries (records_of f)

-- The part of a frame: its records and its end record, each entry before its first use.
abbrev pub frame_part : Written → Frame → List ℕ
frame_part w f = flat_map piece_bytes (frame_pieces w f)

-- What stands in the file after the frame.
abbrev pub after_frame : Written → Frame → Written
after_frame w f = record {
  size = w.size + length (frame_part w f);
  entries = entries_after w.entries (records_of f);
  built = with_frame_at (record_places w.size (frame_pieces w f)) f w.built;
  frames = w.frames + 1;
}

abbrev pub after_frames : Written → List Frame → Written
after_frames w frames = fold after_frame w frames

abbrev pub frame_parts : Written → List Frame → List (List ℕ)
frame_parts w frames = scan after_frame frame_part w frames

-- ---- the contents table

abbrev pub table_record : Built → Entry → Record
table_record built e = record {
  entry = e;
  instance = 0;
  values = table_values (table_layout e.elements) (entry_fields e) built;
}

-- a record, where it is within the limit
abbrev pub if_within : List ℕ → List ℕ
if_within bytes = if nat_le (length bytes) record_limit then bytes else []

-- FrTOC's entry, and its record
abbrev pub table_piece_by : Written → Entry → Piece
table_piece_by w e = record {
  entry = new_entry w.entries e;
  record_itself = if_within (record_bytes (table_record w.built e));
}

abbrev pub table_piece : Written → Closing → Piece
table_piece w c = option_map_or (table_piece_by w) c.table no_piece

abbrev pub after_table : Written → Closing → Written
after_table w c = record w {
  size = w.size + length (piece_bytes (table_piece w c));
  entries = option_map_or (with_entry w.entries) c.table w.entries;
}

-- ---- the end of the file

-- what FrEndOfFile tells: the number of frames, the bytes of the file, and the way back from its end to the table
abbrev pub end_told : List Element → ℕ → ℕ → ℕ → List (ℕ × Value)
end_told elements frames bytes seek =
    (field_named elements (codes "nFrames"), value.Num frames)
    ∷ (field_named elements (codes "nBytes"), value.Num bytes)
    ∷ (field_named elements (codes "seekTOC"), value.Num seek) ∷ []

abbrev pub end_bytes : Entry → ℕ → ℕ → ℕ → List ℕ
end_bytes e frames bytes seek = record_bytes (record {
  entry = e;
  instance = 0;
  values = values_told (end_told e.elements frames bytes seek) (entry_fields e);
})

-- how many bytes FrEndOfFile's entry and record are: as many whatever the record tells
abbrev pub end_size : Written → Entry → ℕ
end_size w e = length (new_entry w.entries e) + length (end_bytes e 0 0 0)

-- the bytes of the file that ends with them
abbrev pub closed_size : Written → Entry → ℕ
closed_size w e = w.size + end_size w e

-- the way back over what comes after the table's record and over the record itself, or 0 where there is none
abbrev pub way_back : ℕ → ℕ → ℕ
way_back behind zero = 0
way_back behind (suc length) = suc length + behind

-- FrEndOfFile's entry and record, where the table's record has so many bytes
abbrev pub end_part : Written → ℕ → Entry → List ℕ
end_part w table e =
    new_entry w.entries e ++ end_bytes e w.frames (closed_size w e) (way_back (end_size w e) table)

-- ---- the file

-- The closing part: FrTOC's entry and record, then those of FrEndOfFile. An entry that stands already is not repeated.
abbrev pub closing_part : Written → Closing → List ℕ
closing_part w c =
    piece_bytes (table_piece w c)
    ++ end_part (after_table w c) (length (table_piece w c).record_itself) c.end

-- The canonical head of frames in their orders, and the canonical file.
abbrev pub canonical_head : List Frame → List ℕ
canonical_head frames = header_bytes ++ flat_map (λ part. part) (frame_parts header_alone frames)

abbrev pub canonical_file : Closing → List Frame → List ℕ
canonical_file closing frames = canonical_head frames ++ closing_part (after_frames header_alone frames) closing
