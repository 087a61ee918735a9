-- Frames that clash with the entries used, and frames that are written under them.
use Prim.Native.String.{String}
use Rattle.std.proofs.Common.{◌≡◌, ℕ, Option, Some, None, List, [], ◌∷◌, codes, length, refl}
use Rattle.dictionary.specs.declared.entries.Entry.{Entry}
use Rattle.frame_content.specs.Frames.{Row, Frame}
use Rattle.canonical_file.specs.Written.{canonical_file}
use Rattle.canonical_file.specs.Splices.{clash_of, as_used}
use Rattle.canonical_file.proofs.Sample.{computing, element, entry, header_entry, vector_entry, frame_end_entry}
use Rattle.canonical_file.proofs.Sample.{closing}
use Rattle.canonical_file.proofs.Sample.{row, header, vector, channel, frame_with, frame_of_channels, frame}

-- these entries stand
used : List Entry
unfolding computing
used = header_entry ∷ vector_entry ∷ frame_end_entry ∷ []

-- a frame with a record of each of these entries
with_entries : Entry → Entry → Frame
unfolding computing
with_entries a b = frame_with (header ∷ row a [] [] ∷ row b [] [] ∷ [])

-- the class at which it clashes, behind the first file
clash : Entry → Entry → Option ℕ
unfolding computing used with_entries
clash a b = clash_of (Some closing) used (with_entries a b)

-- the class of FrVect has other elements
short_vector : Entry
unfolding computing
short_vector = entry 7 "FrVect" (element "name" "STRING" ∷ [])

-- FrVect has another class
moved_vector : Entry
unfolding computing
moved_vector = record vector_entry { class = 12 }

-- another structure has a class of the closing
of_closing : Entry
unfolding computing
of_closing = entry 10 "Other" []

-- FrVect has a comment
commented_vector : Entry
unfolding computing
commented_vector = record vector_entry { comment = codes "v" }

clash_of_elements : clash short_vector vector_entry ≡ Some 7
unfolding computing clash short_vector
clash_of_elements = refl

clash_of_name : clash moved_vector vector_entry ≡ Some 12
unfolding computing clash moved_vector
clash_of_name = refl

clash_of_closing : clash vector_entry of_closing ≡ Some 10
unfolding computing clash of_closing
clash_of_closing = refl

-- the first of two is named
clash_of_two : clash moved_vector short_vector ≡ Some 12
unfolding computing clash moved_vector short_vector
clash_of_two = refl

-- two entries of one frame clash too
clash_within : clash (entry 13 "Other" []) (entry 13 "Another" []) ≡ Some 13
unfolding computing clash
clash_within = refl

-- comments are no clash
no_clash : clash commented_vector vector_entry ≡ None
unfolding computing clash commented_vector
no_clash = refl

-- ---- a later frame is written under the entries that stand

commented : String → List ℕ → Row
unfolding computing commented_vector
commented name bytes =
    record (vector name bytes) { label = record (vector name bytes).label { entry = commented_vector } }

later : Frame
unfolding computing commented
later =
    frame_of_channels
    (channel "H1:A" 0 (Some 4) (Some 5) ∷ commented "H1:A" (1 ∷ 2 ∷ 3 ∷ 4 ∷ []) ∷ channel "H1:B" 1 (Some 6) (Some 7)
    ∷ commented "H1:B" (5 ∷ 6 ∷ 7 ∷ 8 ∷ []) ∷ channel "H1:C" 2 (Some 8) None ∷ commented "H1:C" (9 ∷ 10 ∷ 11 ∷ 12 ∷ [])
    ∷ [])

later_as_used : as_used (frame ∷ later ∷ []) ≡ frame ∷ frame ∷ []
unfolding computing later
later_as_used = refl

later_size : length (canonical_file closing (frame ∷ later ∷ [])) ≡ 4268
unfolding computing later
later_size = refl
