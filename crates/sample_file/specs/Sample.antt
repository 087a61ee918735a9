-- The frames of the sample file.
use Rattle.std.specs.Prelude.{ℕ, zero, suc, ◌+◌, ◌*◌, ◌%◌, List, [], ◌∷◌, ◌++◌, map, codes, Option, Some, None}
use Rattle.record_values.specs.declared.values.Value.{Value}
use Rattle.record_values.specs.declared.values.Value.TheVariants.{Num, Text, Nums, Texts, Bytes, Link}
use Rattle.dictionary.specs.declared.entries.Entry.{Entry}
use Rattle.frame_content.specs.Labels.{null_link}
use Rattle.frame_content.specs.Frames.{Row, Frame}
use Rattle.canonical_file.specs.declared.closing.Closing.{Closing}
use Rattle.canonical_file.specs.Contents.{Content}
use Rattle.sample_file.specs.Entries.{frame_header, raw_data, channel, vector, frame_end, contents_table, file_end}

-- the numbers below n, in order
abbrev pub numbers_below : ℕ → List ℕ
numbers_below zero = []
numbers_below (suc n) = numbers_below n ++ n ∷ []

-- a link as a label has it
abbrev pub null : Value
null = Link null_link

-- a row of this entry, these values (the links null) and these links
abbrev pub row : Entry → List Value → List (Option ℕ) → Row
row entry values links = record { label = record { entry = entry; values = values }; links = links }

-- the time of a frame: a second each
abbrev pub first_second : ℕ
first_second = 1000000000

-- one second, and 64 samples in it, as patterns of REAL_8: 0.0 is 0
abbrev pub one_second : ℕ
one_second = 0x3ff0000000000000

abbrev pub sixty_four : ℕ
sixty_four = 0x4050000000000000

abbrev pub one_sixty_fourth : ℕ
one_sixty_fourth = 0x3f90000000000000

-- FrameH of frame k, which leads to FrRawData
abbrev pub header_values : ℕ → List Value
header_values k =
    Text (codes "H1") ∷ Num 1 ∷ Num k ∷ Num (first_second + k) ∷ Num 0 ∷ Num one_second ∷ null ∷ null ∷ null ∷ null
    ∷ Num 0 ∷ []

abbrev pub raw_values : List Value
raw_values = Text (codes "raw") ∷ null ∷ Num 0 ∷ []

-- channel j: the number of its name's letter
abbrev pub channel_name : ℕ → List ℕ
channel_name j = codes "H1:" ++ (65 + j) ∷ []

abbrev pub channel_values : ℕ → List Value
channel_values j = Text (channel_name j) ∷ Num j ∷ Num sixty_four ∷ null ∷ null ∷ Num 0 ∷ []

-- byte i of channel j in frame k
abbrev pub sample : ℕ → ℕ → ℕ → ℕ
sample k j i = (7 * k + 5 * j + i) % 256

abbrev pub vector_values : ℕ → ℕ → List Value
vector_values k j =
    Text (channel_name j) ∷ Num 0 ∷ Num 0 ∷ Num 64 ∷ Num 64 ∷ Bytes (map (sample k j) (numbers_below 64)) ∷ Num 1
    ∷ Nums (64 ∷ []) ∷ Nums (one_sixty_fourth ∷ []) ∷ Nums (0 ∷ []) ∷ Texts (codes "s" ∷ []) ∷ Text [] ∷ null ∷ Num 0
    ∷ []

abbrev pub end_values : ℕ → List Value
end_values k = Num 1 ∷ Num k ∷ Num 0 ∷ []

-- Frame k: FrameH leads to FrRawData, that to the first channel, and each channel to its vector and to the next one.
-- The records stand in the order in which these links first lead to them.
unfoldable pub sample_frame : ℕ → Frame
sample_frame k = record {
  rows =
      row frame_header (header_values k) (Some 1 ∷ None ∷ None ∷ None ∷ [])
      ∷ row raw_data raw_values (Some 2 ∷ [])
      ∷ row channel (channel_values 0) (Some 3 ∷ Some 4 ∷ [])
      ∷ row vector (vector_values k 0) (None ∷ [])
      ∷ row channel (channel_values 1) (Some 5 ∷ Some 6 ∷ [])
      ∷ row vector (vector_values k 1) (None ∷ [])
      ∷ row channel (channel_values 2) (Some 7 ∷ None ∷ [])
      ∷ row vector (vector_values k 2) (None ∷ []) ∷ [];
  roots = 0 ∷ [];
  end = record { entry = frame_end; values = end_values k };
}

unfoldable pub sample_closing : Closing
sample_closing = record { end = file_end; table = Some contents_table }

-- The content of the sample file of n frames.
abbrev pub sample_content : ℕ → Content
sample_content n = record { closing = sample_closing; frames = map sample_frame (numbers_below n) }
