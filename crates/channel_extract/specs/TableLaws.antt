-- The laws of the extraction by the contents table.
use Rattle.std.specs.Prelude.{◌≡◌, ◌⊎◌, ◌+◌, ◌<◌, ℕ, All, AllPairs, Any, Contains, List, [], ◌∷◌, take, Option}
use Rattle.std.specs.Prelude.{Some, None}
use Rattle.std.specs.List.{AllZip}
use Rattle.scalar_types.specs.declared.Order.{Order}
use Rattle.file_grammar.specs.declared.fault.Fault.{Fault}
use Rattle.file_grammar.specs.Structure.{Structure}
use Rattle.file_grammar.specs.Item.{Item, Before}
use Rattle.file_grammar.specs.MayStand.{IsWellFormed}
use Rattle.frame_content.specs.Frames.{Frame}
use Rattle.contents_table.specs.declared.kind.Kind.{Kind}
use Rattle.contents_table.specs.Listed.{KindTable, Table, table_of_kind, IsGood}
use Rattle.file_content.specs.declared.state.TableState.TheVariants as state
use Rattle.file_content.specs.declared.contents.Contents.{Contents}
use Rattle.file_content.specs.Stored.{frames_in}
use Rattle.file_content.specs.Contents.{built_of, AreContents}
use Rattle.canonical_file.specs.declared.closing.Closing.{Closing}
use Rattle.canonical_file.specs.Ordered.{IsInOrder}
use Rattle.canonical_file.specs.Ranges.{AreBytes}
use Rattle.canonical_laws.specs.Sources.{printed_entries}
use Rattle.canonical_laws.specs.Writable.{IsWritableClosing}
use Rattle.canonical_laws.specs.Content.{closing_by, content_of}
use Rattle.channel_extract.specs.declared.errors.ExtractError.{ExtractError}
use Rattle.channel_extract.specs.declared.errors.ExtractError.TheVariants as extract
use Rattle.channel_extract.specs.Due.{Due, Writes, Stops, output_of}
use Rattle.channel_extract.specs.Scans.{IsDueOf}
use Rattle.channel_extract.specs.Passing.{IsPassed, IsPassFault}
use Rattle.channel_extract.specs.Placed.{PlacedFrame, placed_in}
use Rattle.channel_extract.specs.Listing.{file_table}
use Rattle.channel_extract.specs.ByTable.{NoTable, NoChannel, Whole, TableLies, Extraction, TableFrame, lie, cuts_at}
use Rattle.channel_extract.specs.ByTable.{by_reading, by_table}
use Rattle.channel_extract.specs.OtherFiles.{Lies, HasFault, IsReady}
use Rattle.channel_extract.specs.Answers.{TooLong, Answer, Refused, Ended, IsAnswerDue, IsOutputDue, MayAnswer}
use Rattle.channel_extract.specs.Answers.{frames_with_position}
use Rattle.channel_extract.specs.Taken.{AreTableRecords, IsWithinBound, pass_bytes, table_bodies}

-- ---- passing

-- A well-formed file is passed to its end, by the same items.
pub record IsPassedAs (file : List ℕ) (order : Order) (items : List Item) (last : Before) : Type 0 where
  pub end : Before
  pub passed : IsPassed file order items end
  pub same : record end { load = last.load } ≡ last

abbrev pub WellFormedFilesArePassed : Type 0
WellFormedFilesArePassed =
    (file : List ℕ) (order : Order) (items : List Item) (last : Before) → IsWellFormed file order items last
    → IsPassedAs file order items last

-- A file is passed in one way.
abbrev pub PassesAreUnique : Type 0
PassesAreUnique =
    (file : List ℕ) (order other : Order) (items others : List Item) (last end : Before)
    → IsPassed file order items last → IsPassed file other others end
    → (order ≡ other) × (items ≡ others) × (last ≡ end)

-- A file that is passed has no fault that is found in passing.
abbrev pub NoPassIsBoth : Type 0
NoPassIsBoth =
    (file : List ℕ) (order : Order) (items : List Item) (last : Before) (fault : Fault)
    → IsPassed file order items last → IsPassFault file fault → ⊥

-- The first fault that is found in passing is one.
abbrev pub PassFaultsAreUnique : Type 0
PassFaultsAreUnique =
    (file : List ℕ) (fault other : Fault) → IsPassFault file fault → IsPassFault file other → fault ≡ other

-- In each file that is passed the places of a frame's records rise.
abbrev pub PlacesRise : Type 0
PlacesRise =
    (file : List ℕ) (order : Order) (items : List Item) (last : Before) → IsPassed file order items last
    → All (λ (p : PlacedFrame). AllPairs (λ (s t : Structure). s.at < t.at) p.records) (placed_in order items)

-- ---- the table

-- What the table lists is known exactly where its state is good or bad, and it is good where that is.
abbrev pub TablesAreAsJudged : Type 0
TablesAreAsJudged =
    (file : List ℕ) (order : Order) (items : List Item) (last : Before) (c : Contents)
    → IsWellFormed file order items last → AreContents file c
    → ((file_table order items last ≡ None)
    × ((c.table ≡ state.None) ⊎ ((c.table ≡ state.Lost) ⊎ (c.table ≡ state.Unread))))
    ⊎ ((t : Table) × (file_table order items last ≡ Some t)
    × (((c.table ≡ state.Good) × IsGood t (built_of order (frames_in order items)))
    ⊎ ((c.table ≡ state.Bad) × (IsGood t (built_of order (frames_in order items)) → ⊥))))

-- the file is well-formed, and its table is good and lists the kind
pub record HasGoodTable (file : List ℕ) (order : Order) (items : List Item) (last : Before) (kind : Kind) : Type 0
  where
    pub well_formed : IsWellFormed file order items last
    pub table : Table
    pub is : file_table order items last ≡ Some table
    pub good : IsGood table (built_of order (frames_in order items))
    pub listed : KindTable
    pub lists : table_of_kind table kind ≡ Some listed

-- the extraction from the file with these items, by the table and by reading all
abbrev pub table_extraction : Order → List Item → Before → Kind → List ℕ → Extraction
table_extraction order items last kind name =
    by_table kind name (placed_in order items) (file_table order items last)

abbrev pub whole_extraction : Order → List Item → Before → Kind → List ℕ → Extraction
whole_extraction order items last kind name = by_reading kind name (content_of order items last).frames

-- On a well-formed file whose table is good and lists the kind, the extraction by the table is that by reading all.
abbrev pub TableAndReadingAgree : Type 0
TableAndReadingAgree =
    (file : List ℕ) (order : Order) (items : List Item) (last : Before) (kind : Kind) (name : List ℕ)
    → HasGoodTable file order items last kind
    → table_extraction order items last kind name ≡ whole_extraction order items last kind name

-- ---- answers

-- On a well-formed file each answer that may come is the one that is due, and never a fault.
abbrev pub AnswersAreDue : Type 0
AnswersAreDue =
    (file : List ℕ) (order : Order) (items : List Item) (last : Before) (kind : Kind) (name : List ℕ) (answer : Answer)
    → IsWellFormed file order items last → MayAnswer file kind name answer
    → IsAnswerDue (closing_by last.dictionary) (table_extraction order items last kind name) answer

abbrev pub NoAnswerIsAFault : Type 0
NoAnswerIsAFault =
    (file : List ℕ) (order : Order) (items : List Item) (last : Before) (kind : Kind) (name : List ℕ) (fault : Fault)
    → IsWellFormed file order items last → MayAnswer file kind name (Refused fault) → ⊥

-- On any file with a fault that is found in passing this is the answer.
abbrev pub PassFaultsAreAnswered : Type 0
PassFaultsAreAnswered =
    (file : List ℕ) (kind : Kind) (name : List ℕ) (fault : Fault) (answer : Answer) → IsPassFault file fault
    → MayAnswer file kind name answer → answer ≡ Refused fault

-- And the one that is due may come.
abbrev pub DueAnswersMayCome : Type 0
DueAnswersMayCome =
    (file : List ℕ) (order : Order) (items : List Item) (last : Before) (kind : Kind) (name : List ℕ) (answer : Answer)
    → IsWellFormed file order items last
    → IsAnswerDue (closing_by last.dictionary) (table_extraction order items last kind name) answer
    → MayAnswer file kind name answer

-- Of an extraction one answer is due, and one output.
abbrev pub EachExtractionHasOneAnswer : Type 0
EachExtractionHasOneAnswer =
    (closing : Closing) (x : Extraction) → (answer : Answer) × IsAnswerDue closing x answer
    × ((other : Answer) → IsAnswerDue closing x other → other ≡ answer)

abbrev pub EachExtractionHasOneOutput : Type 0
EachExtractionHasOneOutput =
    (closing : Closing) (x : Extraction) → (output : List ℕ) × IsOutputDue closing x output
    × ((other : List ℕ) → IsOutputDue closing x other → other ≡ output)

-- On a well-formed file whose table is good and lists the kind, what is due by the table is due by reading all: the
-- answer, and the bytes that are written.
abbrev pub BothAnswerAlike : Type 0
BothAnswerAlike =
    (file : List ℕ) (order : Order) (items : List Item) (last : Before) (kind : Kind) (name : List ℕ)
    (answer other : Answer) → HasGoodTable file order items last kind → MayAnswer file kind name answer
    → IsAnswerDue (closing_by last.dictionary) (whole_extraction order items last kind name) other → answer ≡ other

abbrev pub BothWriteAlike : Type 0
BothWriteAlike =
    (file : List ℕ) (order : Order) (items : List Item) (last : Before) (kind : Kind) (name : List ℕ)
    (output other : List ℕ) → HasGoodTable file order items last kind
    → IsOutputDue (closing_by last.dictionary) (table_extraction order items last kind name) output
    → IsOutputDue (closing_by last.dictionary) (whole_extraction order items last kind name) other → output ≡ other

-- the answer of a scan that is due, where it is not one of the shelf or of memory
abbrev pub answer_by : ExtractError → Option Answer
answer_by (extract.Fault fault) = Some (Refused fault)
answer_by extract.NoChannel = Some (Ended NoChannel)
answer_by extract.NoTable = Some (Ended NoTable)
answer_by (extract.TableLies at) = Some (Ended (TableLies at))
answer_by extract.OutputLimit = Some TooLong
answer_by extract.Device = None
answer_by extract.NoMemory = None

abbrev pub answer_of_scan : Due → Option Answer
answer_of_scan (Writes closing cuts) = Some (Ended Whole)
answer_of_scan (Stops error cuts) = answer_by error

-- On a well-formed file what is due of a scan, the answer and the bytes that are written, is what is due by reading
-- all.
pub record IsDueByReading (closing : Closing) (x : Extraction) (due : Due) : Type 0 where
  pub answer : Answer
  pub is : answer_of_scan due ≡ Some answer
  pub answer_due : IsAnswerDue closing x answer
  pub output_due : IsOutputDue closing x (output_of due)

abbrev pub ScansAreDueByReading : Type 0
ScansAreDueByReading =
    (file : List ℕ) (order : Order) (items : List Item) (last : Before) (kind : Kind) (name : List ℕ) (due : Due)
    → IsWellFormed file order items last → IsDueOf file kind name due
    → IsDueByReading (closing_by last.dictionary) (whole_extraction order items last kind name) due

-- ---- places that are not right

-- What is named is a place that the table has: that of a FrameH, or a position of the name.
abbrev pub IsPlaceOf : ℕ → TableFrame → Type 0
IsPlaceOf at p = (at ≡ p.head) ⊎ (at ≡ p.at)

abbrev pub LiesAreKept : Type 0
LiesAreKept = (kind : Kind) (name : List ℕ) (p : TableFrame) (at : ℕ) → lie kind name p ≡ Some at → IsPlaceOf at p

-- On a well-formed file the answer comes only where the table is not good, and with a place that the table has.
abbrev pub LyingTablesAreBad : Type 0
LyingTablesAreBad =
    (file : List ℕ) (order : Order) (items : List Item) (last : Before) (kind : Kind) (name : List ℕ) (at : ℕ)
    → IsWellFormed file order items last → MayAnswer file kind name (Ended (TableLies at)) → (table : Table)
    × (file_table order items last ≡ Some table)
    × (IsGood table (built_of order (frames_in order items)) → ⊥)
    × Any (IsPlaceOf at)
    (frames_with_position kind name (placed_in order items) (file_table order items last))

-- In any frame what is no right place by itself is the one that the extraction names, and a frame that is ready has
-- none.
abbrev pub LiesAreNamed : Type 0
LiesAreNamed = (kind : Kind) (name : List ℕ) (p : TableFrame) (at : ℕ) → Lies kind name at p → lie kind name p ≡ Some at

abbrev pub ReadyFramesHaveNone : Type 0
ReadyFramesHaveNone =
    (kind : Kind) (name : List ℕ) (p : TableFrame) (o : Frame) → IsReady kind name p o → lie kind name p ≡ None

-- ---- faults

-- In a well-formed file no record of a frame has a fault.
abbrev pub NoRecordHasAFault : Type 0
NoRecordHasAFault =
    (file : List ℕ) (order : Order) (items : List Item) (last : Before) (fault : Fault)
    → IsWellFormed file order items last → Any (HasFault fault) (placed_in order items) → ⊥

-- In a well-formed file a frame that is ready is written as the cut at its position, in its order.
pub record IsCutReady (kind : Kind) (p : TableFrame) (o : Frame) : Type 0 where
  pub frame : Frame
  pub is : cuts_at kind p ≡ frame ∷ []
  pub in_order : IsInOrder frame o

abbrev pub ReadyFramesAreCut : Type 0
ReadyFramesAreCut =
    (file : List ℕ) (order : Order) (items : List Item) (last : Before) (kind : Kind) (name : List ℕ)
    (p : TableFrame) (o : Frame) → IsWellFormed file order items last → Contains (placed_in order items) p.placed
    → IsReady kind name p o → IsCutReady kind p o

-- ---- what can be written

-- The closing of a file of bytes that is passed to its end can be written, by the entries that it holds.
abbrev pub PassedClosingsAreWritable : Type 0
PassedClosingsAreWritable =
    (file : List ℕ) (order : Order) (items : List Item) (last : Before) → AreBytes file
    → IsPassed file order items last
    → IsWritableClosing (printed_entries last.dictionary) (closing_by last.dictionary)

-- ---- bytes

-- On a well-formed file whose table is good and lists the kind, passing through the file and the records of the cuts of
-- some first frames with a position take no more bytes than the bound.
abbrev pub TakenIsWithinBound : Type 0
TakenIsWithinBound =
    (file : List ℕ) (order : Order) (items : List Item) (last : Before) (kind : Kind) (name : List ℕ)
    (count : ℕ) (orders : List (List ℕ)) → HasGoodTable file order items last kind
    → AllZip (AreTableRecords kind)
    (take count (frames_with_position kind name (placed_in order items) (file_table order items last))) orders
    → IsWithinBound order items kind name (pass_bytes order items + table_bodies
    (take count (frames_with_position kind name (placed_in order items) (file_table order items last))) orders)
