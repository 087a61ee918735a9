-- The sizes that are told of canonical files, and the places of their records.
use Rattle.std.specs.Prelude.{◌≡◌, ℕ, ◌+◌, true, List, ◌++◌, length, slice_get, Some}
use Rattle.file_grammar.specs.Closing.{closes}
use Rattle.frame_content.specs.Frames.{Frame}
use Rattle.canonical_file.specs.declared.closing.Closing.{Closing}
use Rattle.canonical_file.specs.Records.{Record, record_bytes, records_of, record_places}
use Rattle.canonical_file.specs.Written.{Written, header_alone, after_frames, frame_pieces, frame_part, after_table}
use Rattle.canonical_file.specs.Written.{closed_size}
use Rattle.contents_table.specs.Built.{place_of}
use Rattle.canonical_file.specs.Written.{canonical_head, canonical_file}

-- The size of what stands is the number of its bytes.
abbrev pub HeadsHaveTheirSize : Type 0
HeadsHaveTheirSize = (frames : List Frame) → length (canonical_head frames) ≡ (after_frames header_alone frames).size

-- The number of bytes that the end of a file tells is exact.
abbrev pub FilesHaveTheirSize : Type 0
FilesHaveTheirSize =
    (closing : Closing) (frames : List Frame) → closes closing.end.elements ≡ true
    → length (canonical_file closing frames)
    ≡ closed_size (after_table (after_frames header_alone frames) closing) closing.end

-- a part of bytes, the first of which stand at a place, stands at another
pub record StandsAt (start : ℕ) (bytes : List ℕ) (place : ℕ) (part : List ℕ) : Type 0 where
  pub front : List ℕ
  pub rest : List ℕ
  pub split : bytes ≡ front ++ (part ++ rest)
  pub place_is : place ≡ start + length front

-- The records of a frame stand at the places that are told of them.
abbrev pub RecordsStandAtTheirPlaces : Type 0
RecordsStandAtTheirPlaces =
    (w : Written) (f : Frame) (k : ℕ) (r : Record) → slice_get (records_of f) k ≡ Some r
    → StandsAt w.size (frame_part w f) (place_of (record_places w.size (frame_pieces w f)) k) (record_bytes r)
