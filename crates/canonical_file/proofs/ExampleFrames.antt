-- Canonical files of frames with other graphs, by their orders, their sizes and what a contents table lists of them.
use Prim.Native.String.{String}
use Rattle.std.proofs.Common.{◌≡◌, ℕ, Some, None, List, [], ◌∷◌, codes, flat_map, length, refl}
use Rattle.record_values.specs.declared.values.Value.TheVariants as value
use Rattle.dictionary.specs.declared.entries.Entry.{Entry}
use Rattle.rooted_graph.specs.BreadthOrder.{first_occurrences, roots_and_targets}
use Rattle.frame_content.specs.Labels.{null_link}
use Rattle.frame_content.specs.Frames.{Row, Frame}
use Rattle.contents_table.specs.declared.kind.Kind.TheVariants.{Adc}
use Rattle.contents_table.specs.Channels.{named_channels}
use Rattle.contents_table.specs.declared.names.Listed.{Listed}
use Rattle.contents_table.specs.Built.{Built}
use Rattle.canonical_file.specs.declared.closing.Closing.{Closing}
use Rattle.canonical_file.specs.Ordered.{frame_graph, ordered}
use Rattle.canonical_file.specs.Records.{record_bytes, records_of}
use Rattle.canonical_file.specs.Written.{header_alone, frame_part, after_frame, after_frames, canonical_file}
use Rattle.canonical_file.proofs.Sample.{computing, element, entry, check_sum, table_elements, file_end_entry, closing}
use Rattle.canonical_file.proofs.Sample.{row, null, header, raw_data, detector, channel, vector, frame_with}
use Rattle.canonical_file.proofs.Sample.{frame_of_channels, frame}

-- what a table lists of a frame that stands first
abbrev listed_of_first : Frame → Built
listed_of_first f = (after_frame header_alone f).built

-- the roots, and what the records of an order lead to, each once: an order is what follows it
abbrev followed : Frame → List ℕ → List ℕ
followed f s = first_occurrences (roots_and_targets (frame_graph f).graph s)

-- a name that frame 0 has, with the place of its channel
listed : String → ℕ → Listed
listed name at = record { name = codes name; found = record { frame = 0; at = at } ∷ [] }

-- ---- a frame twice: its entries stand once

twice_size : length (canonical_file closing (frame ∷ frame ∷ [])) ≡ 4268
unfolding computing
twice_size = refl

twice_heads : (after_frames header_alone (frame ∷ frame ∷ [])).built.heads ≡ 569 ∷ 2682 ∷ []
unfolding computing
twice_heads = refl

-- the part of the second one is its records alone, with the instances and links of the first
second_part : frame_part (after_frame header_alone frame) frame ≡ flat_map record_bytes (records_of frame)
unfolding computing
second_part = refl

-- ---- records in another order, and one that no root reaches

shuffled_rows : Frame
unfolding computing
shuffled_rows =
    frame_with
    (vector "H1:C" (9 ∷ 10 ∷ 11 ∷ 12 ∷ []) ∷ channel "H1:C" 2 (Some 0) None ∷ vector "H1:B" (5 ∷ 6 ∷ 7 ∷ 8 ∷ [])
    ∷ channel "H1:B" 1 (Some 2) (Some 1) ∷ vector "H1:A" (1 ∷ 2 ∷ 3 ∷ 4 ∷ []) ∷ channel "H1:A" 0 (Some 4) (Some 3)
    ∷ detector ∷ record raw_data { links = Some 5 ∷ [] }
    ∷ record header { links = Some 7 ∷ None ∷ None ∷ Some 6 ∷ [] } ∷ vector "H1:D" [] ∷ [])

shuffled : Frame
unfolding shuffled_rows
shuffled = record shuffled_rows { roots = 8 ∷ [] }

shuffled_order : List ℕ
shuffled_order = 8 ∷ 7 ∷ 6 ∷ 5 ∷ 4 ∷ 3 ∷ 2 ∷ 1 ∷ 0 ∷ []

shuffled_is_order : followed shuffled shuffled_order ≡ shuffled_order
unfolding computing shuffled shuffled_order
shuffled_is_order = refl

shuffled_is : ordered shuffled shuffled_order ≡ frame
unfolding computing shuffled shuffled_order
shuffled_is = refl

-- the channels are those of the frame by their numbers in the order
shuffled_names : named_channels shuffled Adc ≡ (codes "H1:A", 5) ∷ (codes "H1:B", 3) ∷ (codes "H1:C", 1) ∷ []
unfolding computing shuffled
shuffled_names = refl

frame_names : named_channels frame Adc ≡ (codes "H1:A", 3) ∷ (codes "H1:B", 5) ∷ (codes "H1:C", 7) ∷ []
unfolding computing
frame_names = refl

-- ---- a list of channels that turns back, behind which two more are not reached

loop : Frame
unfolding computing
loop =
    frame_of_channels
    (channel "H1:A" 0 (Some 4) (Some 3) ∷ vector "H1:A" (1 ∷ 2 ∷ 3 ∷ 4 ∷ []) ∷ channel "H1:B" 1 (Some 6) (Some 7)
    ∷ vector "H1:B" (5 ∷ 6 ∷ 7 ∷ 8 ∷ []) ∷ channel "H1:C" 2 (Some 8) None ∷ vector "H1:C" (9 ∷ 10 ∷ 11 ∷ 12 ∷ [])
    ∷ [])

loop_order : List ℕ
loop_order = 0 ∷ 1 ∷ 2 ∷ 3 ∷ 4 ∷ []

loop_is_order : followed loop loop_order ≡ loop_order
unfolding computing loop loop_order
loop_is_order = refl

loop_size : length (canonical_file closing (ordered loop loop_order ∷ [])) ≡ 3329
unfolding computing loop loop_order
loop_size = refl

loop_listed : (listed_of_first (ordered loop loop_order)).adc ≡ listed "H1:A" 1485 ∷ []
unfolding computing loop loop_order listed
loop_listed = refl

-- ---- one vector of two channels: it stands once

shared : Frame
unfolding computing
shared =
    frame_of_channels
    (channel "H1:A" 0 (Some 4) (Some 5) ∷ vector "H1:A" (1 ∷ 2 ∷ 3 ∷ 4 ∷ []) ∷ channel "H1:B" 1 (Some 4) (Some 6)
    ∷ channel "H1:C" 2 (Some 7) None ∷ vector "H1:C" (9 ∷ 10 ∷ 11 ∷ 12 ∷ []) ∷ [])

shared_size : length (canonical_file closing (shared ∷ [])) ≡ 3547
unfolding computing shared
shared_size = refl

-- ---- two channels of one name: the later one is not listed

twice_named : Frame
unfolding computing
twice_named =
    frame_of_channels
    (channel "H1:A" 0 (Some 4) (Some 5) ∷ vector "H1:A" (1 ∷ 2 ∷ 3 ∷ 4 ∷ []) ∷ channel "H1:A" 1 (Some 4) None ∷ [])

twice_named_listed : (listed_of_first twice_named).adc ≡ listed "H1:A" 1485 ∷ []
unfolding computing twice_named listed
twice_named_listed = refl

-- ---- a list of links in place of the plain link to the first channel: a table lists no channel then

list_raw_entry : Entry
unfolding computing
list_raw_entry =
    entry 4 "FrRawData" (element "name" "STRING" ∷ element "firstAdc" "PTR_STRUCT(FrAdcData *)[1]" ∷ check_sum)

list_raw : Row
unfolding computing list_raw_entry
list_raw =
    row list_raw_entry (value.Text (codes "raw") ∷ value.Links (null_link ∷ []) ∷ value.Num 0 ∷ []) (Some 3 ∷ [])

with_list : Frame
unfolding computing list_raw
with_list =
    frame_with
    (header ∷ list_raw ∷ detector ∷ channel "H1:A" 0 (Some 4) (Some 5) ∷ vector "H1:A" (1 ∷ 2 ∷ 3 ∷ 4 ∷ [])
    ∷ channel "H1:B" 1 (Some 6) (Some 7) ∷ vector "H1:B" (5 ∷ 6 ∷ 7 ∷ 8 ∷ []) ∷ channel "H1:C" 2 (Some 8) None
    ∷ vector "H1:C" (9 ∷ 10 ∷ 11 ∷ 12 ∷ []) ∷ [])

with_list_size : length (canonical_file closing (with_list ∷ [])) ≡ 3595
unfolding computing with_list
with_list_size = refl

-- ---- serial data

serial_raw_entry : Entry
unfolding computing
serial_raw_entry =
    entry 4 "FrRawData"
    (element "name" "STRING" ∷ element "firstSer" "PTR_STRUCT(FrSerData *)"
    ∷ element "firstAdc" "PTR_STRUCT(FrAdcData *)" ∷ check_sum)

serial_entry : Entry
unfolding computing
serial_entry =
    entry 12 "FrSerData" (element "name" "STRING" ∷ element "next" "PTR_STRUCT(FrSerData *)" ∷ check_sum)

serial_table : Entry
unfolding computing
serial_table =
    entry 10 "FrTOC"
    (table_elements (element "nSer" "INT_4U" ∷ element "nameSer" "STRING[nSer]"
    ∷ element "positionSer" "INT_8U[nSer][nFrame]" ∷ check_sum))

serial_closing : Closing
unfolding computing serial_table
serial_closing = record { end = file_end_entry; table = Some serial_table }

serial_raw : Row
unfolding computing serial_raw_entry
serial_raw =
    row serial_raw_entry (value.Text (codes "raw") ∷ null ∷ null ∷ value.Num 0 ∷ []) (Some 3 ∷ Some 4 ∷ [])

serial_row : Row
unfolding computing serial_entry
serial_row = row serial_entry (value.Text (codes "H1:S") ∷ null ∷ value.Num 0 ∷ []) (None ∷ [])

serial : Frame
unfolding computing serial_raw serial_row
serial =
    frame_with
    (header ∷ serial_raw ∷ detector ∷ serial_row ∷ channel "H1:A" 0 (Some 5) (Some 6)
    ∷ vector "H1:A" (1 ∷ 2 ∷ 3 ∷ 4 ∷ []) ∷ channel "H1:B" 1 (Some 7) (Some 8)
    ∷ vector "H1:B" (5 ∷ 6 ∷ 7 ∷ 8 ∷ []) ∷ channel "H1:C" 2 (Some 9) None ∷ vector "H1:C" (9 ∷ 10 ∷ 11 ∷ 12 ∷ [])
    ∷ [])

serial_size : length (canonical_file serial_closing (serial ∷ [])) ≡ 4057
unfolding computing serial serial_closing
serial_size = refl

serial_listed : (listed_of_first serial).ser ≡ listed "H1:S" 1409 ∷ []
unfolding computing serial listed
serial_listed = refl
