-- The entries and the records that the examples are made of.
use Prim.Native.String.{String}
use Rattle.std.proofs.Common.{ℕ, ◌*◌, ◌+◌, ◌-◌, cond, ltb, List, [], ◌∷◌, Option, Some, None, codes}
use Rattle.std.specs.Fmt.{digits}
use Rattle.scalar_types.specs.Number.{little_bytes}
use Rattle.type_text.specs.Tokens.{tokens}
use Rattle.type_text.specs.TypeText.{plain_bases, base_of, dims_of, pointed_of, base_in_front, type_of_tokens}
use Rattle.type_text.specs.TypeText.{printed_type}
use Rattle.type_text.specs.TypeText.{type_of}
use Rattle.record_values.specs.declared.values.Value.{Value}
use Rattle.record_values.specs.declared.values.Value.TheVariants as value
use Rattle.dictionary.specs.declared.entries.Element.{Element}
use Rattle.dictionary.specs.declared.entries.Entry.{Entry}
use Rattle.layout_plan.specs.Layout.{layout_of}
use Rattle.frame_content.specs.Labels.{null_link}
use Rattle.frame_content.specs.Frames.{Row, Frame}
use Rattle.contents_table.specs.Channels.{channels_from}
use Rattle.contents_table.specs.Built.{with_name, numbers_below}
use Rattle.contents_table.specs.Told.{values_after}
use Rattle.canonical_file.specs.declared.closing.Closing.{Closing}

-- ---- bytes by pairs of hexadecimal digits

digit : ℕ → ℕ
digit c = cond (ltb c 58) (c - 48) (c - 87)

pairs : List ℕ → List ℕ
unfolding digit
pairs (a ∷ b ∷ rest) = (16 * digit a + digit b) ∷ pairs rest
pairs other = []

unfoldable pub hex : String → List ℕ
unfolding pairs
hex text = pairs (codes text)

-- ---- entries

-- an element whose text reads as its type
unfoldable pub element : String → String → Element
element name text = record { name = codes name; ty = type_of (codes text); text = codes text; comment = [] }

unfoldable pub entry : ℕ → String → List Element → Entry
entry class name elements = record { class = class; name = codes name; comment = []; elements = elements }

unfoldable pub check_sum : List Element
check_sum = element "chkSum" "INT_4U" ∷ []

unfoldable pub header_entry : Entry
header_entry =
    entry 3 "FrameH"
    (element "name" "STRING" ∷ element "run" "INT_4S" ∷ element "frame" "INT_4U" ∷ element "GTimeS" "INT_4U"
    ∷ element "GTimeN" "INT_4U" ∷ element "dt" "REAL_8" ∷ element "rawData" "PTR_STRUCT(FrRawData *)"
    ∷ element "procData" "PTR_STRUCT(FrProcData *)" ∷ element "simData" "PTR_STRUCT(FrSimData *)"
    ∷ element "detectProc" "PTR_STRUCT(FrDetector *)" ∷ check_sum)

unfoldable pub raw_entry : Entry
raw_entry =
    entry 4 "FrRawData"
    (element "name" "STRING" ∷ element "firstAdc" "PTR_STRUCT(FrAdcData *)" ∷ check_sum)

unfoldable pub channel_entry : Entry
channel_entry =
    entry 5 "FrAdcData"
    (element "name" "STRING" ∷ element "channelNumber" "INT_4U" ∷ element "sampleRate" "REAL_8"
    ∷ element "data" "PTR_STRUCT(FrVect *)" ∷ element "next" "PTR_STRUCT(FrAdcData *)" ∷ check_sum)

unfoldable pub vector_entry : Entry
vector_entry =
    entry 7 "FrVect"
    (element "name" "STRING" ∷ element "compress" "INT_2U" ∷ element "type" "INT_2U" ∷ element "nData" "INT_8U"
    ∷ element "nBytes" "INT_8U" ∷ element "data" "CHAR[nBytes]" ∷ element "nDim" "INT_4U"
    ∷ element "nx" "INT_8U[nDim]" ∷ element "dx" "REAL_8[nDim]" ∷ element "startX" "REAL_8[nDim]"
    ∷ element "unitX" "STRING[nDim]" ∷ element "unitY" "STRING" ∷ element "next" "PTR_STRUCT(FrVect *)" ∷ check_sum)

unfoldable pub detector_entry : Entry
detector_entry =
    entry 8 "FrDetector"
    (element "name" "STRING" ∷ element "prefix" "CHAR[2]" ∷ element "longitude" "REAL_8" ∷ element "latitude" "REAL_8"
    ∷ element "next" "PTR_STRUCT(FrDetector *)" ∷ check_sum)

unfoldable pub frame_end_entry : Entry
frame_end_entry = entry 9 "FrEndOfFrame" (element "run" "INT_4S" ∷ element "frame" "INT_4U" ∷ check_sum)

-- the fields of a contents table, but those of serial data and the check sum
unfoldable pub table_elements : List Element → List Element
table_elements more =
    element "nFrame" "INT_4U" ∷ element "GTimeS" "INT_4U[nFrame]" ∷ element "positionH" "INT_8U[nFrame]"
    ∷ element "nADC" "INT_4U" ∷ element "name" "STRING[nADC]" ∷ element "positionADC" "INT_8U[nADC][nFrame]"
    ∷ element "nProc" "INT_4U" ∷ element "nameProc" "STRING[nProc]" ∷ element "positionProc" "INT_8U[nProc][nFrame]"
    ∷ element "nSim" "INT_4U" ∷ element "nameSim" "STRING[nSim]" ∷ element "positionSim" "INT_8U[nSim][nFrame]" ∷ more

unfoldable pub table_entry : Entry
table_entry = entry 10 "FrTOC" (table_elements check_sum)

unfoldable pub file_end_entry : Entry
file_end_entry =
    entry 11 "FrEndOfFile"
    (element "nFrames" "INT_4U" ∷ element "nBytes" "INT_8U" ∷ element "seekTOC" "INT_8U" ∷ check_sum)

unfoldable pub end_alone : Closing
end_alone = record { end = file_end_entry; table = None }

unfoldable pub closing : Closing
closing = record { end = file_end_entry; table = Some table_entry }

-- ---- records

unfoldable pub row : Entry → List Value → List (Option ℕ) → Row
row e values links = record { label = record { entry = e; values = values }; links = links }

unfoldable pub null : Value
null = value.Link null_link

-- 1 as a REAL_8
unfoldable pub one : ℕ
one = 0x3ff0000000000000

unfoldable pub header : Row
header =
    row header_entry
    (value.Text (codes "H1") ∷ value.Num 1 ∷ value.Num 0 ∷ value.Num 1000000000 ∷ value.Num 0 ∷ value.Num one ∷ null
    ∷ null ∷ null ∷ null ∷ value.Num 0 ∷ [])
    (Some 1 ∷ None ∷ None ∷ Some 2 ∷ [])

unfoldable pub raw_data : Row
raw_data = row raw_entry (value.Text (codes "raw") ∷ null ∷ value.Num 0 ∷ []) (Some 3 ∷ [])

unfoldable pub detector : Row
detector =
    row detector_entry
    (value.Text (codes "LHO_4k") ∷ value.Bytes (codes "H1") ∷ value.Num 0 ∷ value.Num 0 ∷ null ∷ value.Num 0 ∷ [])
    (None ∷ [])

-- a channel of this name and number, with the records of its vector and of the next channel
unfoldable pub channel : String → ℕ → Option ℕ → Option ℕ → Row
channel name n vector next =
    row channel_entry (value.Text (codes name) ∷ value.Num n ∷ value.Num one ∷ null ∷ null ∷ value.Num 0 ∷ [])
    (vector ∷ next ∷ [])

-- a vector of this name and four bytes of data
unfoldable pub vector : String → List ℕ → Row
vector name bytes =
    row vector_entry
    (value.Text (codes name) ∷ value.Num 0 ∷ value.Num 4 ∷ value.Num 1 ∷ value.Num 4 ∷ value.Bytes bytes ∷ value.Num 1
    ∷ value.Nums (1 ∷ []) ∷ value.Nums (one ∷ []) ∷ value.Nums (0 ∷ []) ∷ value.Texts (codes "s" ∷ [])
    ∷ value.Text [] ∷ null ∷ value.Num 0 ∷ [])
    (None ∷ [])

-- ---- frames

-- a frame of these records, of which the first is FrameH
unfoldable pub frame_with : List Row → Frame
frame_with rows = record {
  rows = rows;
  roots = 0 ∷ [];
  end = record { entry = frame_end_entry; values = value.Num 1 ∷ value.Num 0 ∷ value.Num 0 ∷ [] };
}

-- with FrameH, FrRawData and FrDetector before these
unfoldable pub frame_of_channels : List Row → Frame
frame_of_channels rows = frame_with (header ∷ raw_data ∷ detector ∷ rows)

-- three channels, each with a vector of its own
unfoldable pub frame : Frame
frame =
    frame_of_channels
    (channel "H1:A" 0 (Some 4) (Some 5) ∷ vector "H1:A" (1 ∷ 2 ∷ 3 ∷ 4 ∷ []) ∷ channel "H1:B" 1 (Some 6) (Some 7)
    ∷ vector "H1:B" (5 ∷ 6 ∷ 7 ∷ 8 ∷ []) ∷ channel "H1:C" 2 (Some 8) None ∷ vector "H1:C" (9 ∷ 10 ∷ 11 ∷ 12 ∷ [])
    ∷ [])

-- what the examples compute by: each names this one on its line
unfoldable pub computing : Type 0
unfolding hex pairs digit element entry check_sum header_entry raw_entry channel_entry vector_entry detector_entry
    frame_end_entry table_elements table_entry file_end_entry end_alone closing row null one header raw_data detector
    channel vector frame_with frame_of_channels frame little_bytes digits tokens plain_bases base_of dims_of pointed_of
    base_in_front type_of_tokens printed_type type_of layout_of channels_from with_name numbers_below values_after
computing = Unit {0}
