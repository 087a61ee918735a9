-- The answers of an extraction by the table: those that may come on any file, and on a well-formed one the one that is
-- due; and what the file that is written holds then.
use Rattle.std.specs.Prelude.{◌≡◌, ℕ, ◌==◌, ◌<◌, ◌⊎◌, not, nat_le, nat_lt, Bool, true, false, if◌then◌else◌}
use Rattle.std.specs.Prelude.{List, [], ◌∷◌, ◌++◌, length, take, filter, Any, Option}
use Rattle.std.specs.List.{AllZip}
use Rattle.std.specs.Option.{option_map_or}
use Rattle.scalar_types.specs.declared.Order.{Order}
use Rattle.file_grammar.specs.declared.fault.Fault.{Fault}
use Rattle.file_grammar.specs.Structure.{file_limit}
use Rattle.file_grammar.specs.Item.{Item, Before}
use Rattle.file_grammar.specs.Laws.{WellFormed}
use Rattle.frame_content.specs.Frames.{Frame}
use Rattle.contents_table.specs.declared.kind.Kind.{Kind}
use Rattle.contents_table.specs.Listed.{KindTable, Table, table_of_kind}
use Rattle.canonical_file.specs.declared.closing.Closing.{Closing}
use Rattle.canonical_file.specs.Ordered.{IsInOrder}
use Rattle.canonical_file.specs.Written.{canonical_head, canonical_file}
use Rattle.canonical_laws.specs.Content.{closing_by}
use Rattle.channel_extract.specs.Passing.{IsPassed, IsPassFault}
use Rattle.channel_extract.specs.Placed.{PlacedFrame, placed_in}
use Rattle.channel_extract.specs.Listing.{file_table, positions_for}
use Rattle.channel_extract.specs.ByTable.{Ending, NoTable, NoChannel, TableLies, Whole, Extraction, TableFrame}
use Rattle.channel_extract.specs.ByTable.{table_frames, by_table}
use Rattle.channel_extract.specs.OtherFiles.{Lies, HasFault, IsReady}

-- The file is refused with a fault; or the extraction comes to its end; or what is written would pass the limit of
-- files.
pub data Answer : Type 0 where
  Refused : (fault : Fault) → Answer
  Ended : (ending : Ending) → Answer
  TooLong : Answer

-- ---- what is due on a well-formed file

-- the frames, one after another behind those that stand, up to the first with which the file would pass the limit
abbrev pub is_within : List Frame → Bool
is_within frames = nat_le (length (canonical_head frames)) file_limit

abbrev pub fitting : List Frame → List Frame → List Frame
fitting stood [] = stood
fitting stood (f ∷ fs) = if is_within (stood ++ f ∷ []) then fitting (stood ++ f ∷ []) fs else stood

-- the answer, and the bytes that stand in the file then
pub record Due : Type 0 where
  pub answer : Answer
  pub output : List ℕ

abbrev pub stops : Answer → List Frame → Due
stops answer frames = record { answer = answer; output = canonical_head frames }

-- the canonical file of all cuts, where it is within the limit
abbrev pub whole_due : Closing → List Frame → Due
whole_due closing frames =
    if nat_le (length (canonical_file closing frames)) file_limit
    then record { answer = Ended Whole; output = canonical_file closing frames } else stops TooLong frames

abbrev pub ended_due : Closing → Ending → List Frame → Due
ended_due closing NoTable frames = stops (Ended NoTable) frames
ended_due closing NoChannel frames = stops (Ended NoChannel) frames
ended_due closing (TableLies at) frames = stops (Ended (TableLies at)) frames
ended_due closing Whole frames = whole_due closing frames

-- What is due of cuts in their orders, with an ending after them: the ending, but where the cuts pass the limit.
abbrev pub due_of : Closing → Ending → List Frame → Due
due_of closing ending frames =
    if nat_lt (length (fitting [] frames)) (length frames) then stops TooLong (fitting [] frames)
    else ended_due closing ending frames

pub record IsAnswerDue (closing : Closing) (x : Extraction) (answer : Answer) : Type 0 where
  pub frames : List Frame
  pub in_order : AllZip IsInOrder x.cuts frames
  pub is : answer ≡ (due_of closing x.ending frames).answer

-- The bytes that the file holds then: the canonical file of the cuts, or their canonical head up to the answer.
pub record IsOutputDue (closing : Closing) (x : Extraction) (output : List ℕ) : Type 0 where
  pub frames : List Frame
  pub in_order : AllZip IsInOrder x.cuts frames
  pub is : output ≡ (due_of closing x.ending frames).output

-- ---- what may be answered of frames that need not be sound

-- the frames that have a position
abbrev pub has_position : TableFrame → Bool
has_position p = not (p.at == 0)

-- so many cuts that are ready are written, and one more, or the closing, would pass the limit
pub record IsTooLong (kind : Kind) (name : List ℕ) (closing : Closing) (frames : List TableFrame) : Type 0 where
  pub count : ℕ
  pub ready : List Frame
  pub are : AllZip (IsReady kind name) (take count frames) ready
  pub long : (file_limit < length (canonical_head ready))
      ⊎ ((take count frames ≡ frames) × (file_limit < length (canonical_file closing ready)))

-- all frames are ready
pub record AreReady (kind : Kind) (name : List ℕ) (frames : List TableFrame) : Type 0 where
  pub ready : List Frame
  pub are : AllZip (IsReady kind name) frames ready

-- The fault of a record, a place that is not right, bytes that pass the limit, or the end, where all frames are ready.
abbrev pub MayEnd : Kind → List ℕ → Closing → List PlacedFrame → List TableFrame → Answer → Type 0
MayEnd kind name closing placed frames (Refused fault) = Any (HasFault fault) placed
MayEnd kind name closing placed frames (Ended NoTable) = ⊥
MayEnd kind name closing placed frames (Ended NoChannel) = ⊥
MayEnd kind name closing placed frames (Ended (TableLies at)) = Any (Lies kind name at) frames
MayEnd kind name closing placed frames (Ended Whole) = AreReady kind name frames
MayEnd kind name closing placed frames TooLong = IsTooLong kind name closing frames

-- ---- what may be answered

-- without a table that lists the kind, or without the channel, all is known from passing
abbrev pub is_early : Ending → Bool
is_early NoTable = true
is_early NoChannel = true
is_early (TableLies at) = false
is_early Whole = false

-- the frames that have a position of the name
abbrev pub frames_by_names : List ℕ → List PlacedFrame → List ℕ → KindTable → List TableFrame
frames_by_names name frames heads t = option_map_or (table_frames frames heads) (positions_for name t) []

abbrev pub frames_by_listing : Kind → List ℕ → List PlacedFrame → Table → List TableFrame
frames_by_listing kind name frames table =
    option_map_or (frames_by_names name frames table.heads) (table_of_kind table kind) []

abbrev pub frames_with_position : Kind → List ℕ → List PlacedFrame → Option Table → List TableFrame
frames_with_position kind name frames table =
    filter has_position (option_map_or (frames_by_listing kind name frames) table [])

-- After a file was passed: without a table or the channel the answer is that; on a well-formed file it is the one that
-- is due; on any other it is one that may be.
pub record MayAnswerPassed (file : List ℕ) (kind : Kind) (name : List ℕ) (answer : Answer) (order : Order)
    (items : List Item) (last : Before) : Type 0 where
  pub passed : IsPassed file order items last
  pub frames : List PlacedFrame
  pub frames_are : frames ≡ placed_in order items
  pub extraction : Extraction
  pub extraction_is : extraction ≡ by_table kind name frames (file_table order items last)
  pub early : is_early extraction.ending ≡ true → answer ≡ Ended extraction.ending
  pub due : WellFormed file → IsAnswerDue (closing_by last.dictionary) extraction answer
  pub other : is_early extraction.ending ≡ false → (WellFormed file → ⊥)
      → MayEnd kind name (closing_by last.dictionary) frames
      (frames_with_position kind name frames (file_table order items last)) answer

-- The answers of the extraction by the table: the first fault that is found in passing, or what comes after it.
abbrev pub MayAnswer : List ℕ → Kind → List ℕ → Answer → Type 0
MayAnswer file kind name answer =
    ((fault : Fault) × IsPassFault file fault × (answer ≡ Refused fault))
    ⊎ ((order : Order) × (items : List Item) × (last : Before)
    × MayAnswerPassed file kind name answer order items last)
