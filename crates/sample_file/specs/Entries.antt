-- The dictionary of the sample file: its structures with class numbers of this project's own.
use Rattle.std.specs.Prelude.{ℕ, List, [], ◌∷◌, codes}
use Rattle.type_text.specs.TypeText.{type_of}
use Rattle.dictionary.specs.declared.entries.Element.{Element}
use Rattle.dictionary.specs.declared.entries.Entry.{Entry}

-- an element of this name and type, without a comment
abbrev pub element : List ℕ → List ℕ → Element
element name text = record { name = name; ty = type_of text; text = text; comment = [] }

abbrev pub entry : ℕ → List ℕ → List Element → Entry
entry class name elements = record { class = class; name = name; comment = []; elements = elements }

-- the check sum, which each of them ends with
abbrev pub check_sum : Element
check_sum = element (codes "chkSum") (codes "INT_4U")

abbrev pub frame_header : Entry
frame_header = entry 3 (codes "FrameH") (
    element (codes "name") (codes "STRING")
    ∷ element (codes "run") (codes "INT_4S")
    ∷ element (codes "frame") (codes "INT_4U")
    ∷ element (codes "GTimeS") (codes "INT_4U")
    ∷ element (codes "GTimeN") (codes "INT_4U")
    ∷ element (codes "dt") (codes "REAL_8")
    ∷ element (codes "rawData") (codes "PTR_STRUCT(FrRawData *)")
    ∷ element (codes "procData") (codes "PTR_STRUCT(FrProcData *)")
    ∷ element (codes "simData") (codes "PTR_STRUCT(FrSimData *)")
    ∷ element (codes "detectProc") (codes "PTR_STRUCT(FrDetector *)")
    ∷ check_sum ∷ [])

abbrev pub raw_data : Entry
raw_data = entry 4 (codes "FrRawData") (
    element (codes "name") (codes "STRING")
    ∷ element (codes "firstAdc") (codes "PTR_STRUCT(FrAdcData *)")
    ∷ check_sum ∷ [])

abbrev pub channel : Entry
channel = entry 5 (codes "FrAdcData") (
    element (codes "name") (codes "STRING")
    ∷ element (codes "channelNumber") (codes "INT_4U")
    ∷ element (codes "sampleRate") (codes "REAL_8")
    ∷ element (codes "data") (codes "PTR_STRUCT(FrVect *)")
    ∷ element (codes "next") (codes "PTR_STRUCT(FrAdcData *)")
    ∷ check_sum ∷ [])

abbrev pub vector : Entry
vector = entry 7 (codes "FrVect") (
    element (codes "name") (codes "STRING")
    ∷ element (codes "compress") (codes "INT_2U")
    ∷ element (codes "type") (codes "INT_2U")
    ∷ element (codes "nData") (codes "INT_8U")
    ∷ element (codes "nBytes") (codes "INT_8U")
    ∷ element (codes "data") (codes "CHAR[nBytes]")
    ∷ element (codes "nDim") (codes "INT_4U")
    ∷ element (codes "nx") (codes "INT_8U[nDim]")
    ∷ element (codes "dx") (codes "REAL_8[nDim]")
    ∷ element (codes "startX") (codes "REAL_8[nDim]")
    ∷ element (codes "unitX") (codes "STRING[nDim]")
    ∷ element (codes "unitY") (codes "STRING")
    ∷ element (codes "next") (codes "PTR_STRUCT(FrVect *)")
    ∷ check_sum ∷ [])

abbrev pub frame_end : Entry
frame_end = entry 9 (codes "FrEndOfFrame") (
    element (codes "run") (codes "INT_4S")
    ∷ element (codes "frame") (codes "INT_4U")
    ∷ check_sum ∷ [])

abbrev pub contents_table : Entry
contents_table = entry 10 (codes "FrTOC") (
    element (codes "nFrame") (codes "INT_4U")
    ∷ element (codes "GTimeS") (codes "INT_4U[nFrame]")
    ∷ element (codes "positionH") (codes "INT_8U[nFrame]")
    ∷ element (codes "nADC") (codes "INT_4U")
    ∷ element (codes "name") (codes "STRING[nADC]")
    ∷ element (codes "positionADC") (codes "INT_8U[nADC][nFrame]")
    ∷ element (codes "nProc") (codes "INT_4U")
    ∷ element (codes "nameProc") (codes "STRING[nProc]")
    ∷ element (codes "positionProc") (codes "INT_8U[nProc][nFrame]")
    ∷ element (codes "nSim") (codes "INT_4U")
    ∷ element (codes "nameSim") (codes "STRING[nSim]")
    ∷ element (codes "positionSim") (codes "INT_8U[nSim][nFrame]")
    ∷ check_sum ∷ [])

abbrev pub file_end : Entry
file_end = entry 11 (codes "FrEndOfFile") (
    element (codes "nFrames") (codes "INT_4U")
    ∷ element (codes "nBytes") (codes "INT_8U")
    ∷ element (codes "seekTOC") (codes "INT_8U")
    ∷ check_sum ∷ [])

-- the entries of the records of a frame
unfoldable pub sample_entries : List Entry
sample_entries = frame_header ∷ raw_data ∷ channel ∷ vector ∷ frame_end ∷ []
