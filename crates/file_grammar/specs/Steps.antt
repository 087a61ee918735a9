-- The parts of a judgement.
use Rattle.std.specs.Prelude.{◌≡◌, ℕ, ◌+◌, ◌≤◌, nat_lt, slice_range, drop, sum_by, if◌then◌else◌, List, [], ◌∷◌, map}
use Rattle.std.specs.Prelude.{length, Option, Some, None}
use Rattle.std.specs.Option.{option_map}
use Rattle.scalar_types.specs.declared.Order.{Order}
use Rattle.dictionary.specs.declared.held.AddFault.{AddFault}
use Rattle.dictionary.specs.declared.held.AddFault.TheVariants as add
use Rattle.layout_plan.specs.declared.faults.BodyReason.{BodyReason}
use Rattle.layout_plan.specs.declared.faults.BodyReason.TheVariants as body
use Rattle.file_grammar.specs.declared.reason.Reason.{Reason}
use Rattle.file_grammar.specs.declared.reason.Reason.TheVariants.{CutRecord, LengthSmall, RecordLimit, FrameLimit}
use Rattle.file_grammar.specs.declared.reason.Reason.TheVariants.{NoLayout, UnreadLayout, BodyShort, BodyLong, BadText}
use Rattle.file_grammar.specs.declared.reason.Reason.TheVariants.{StrayElement, ClassRange, Redefined, NameTwice}
use Rattle.file_grammar.specs.declared.reason.Reason.TheVariants.{ElementLimit, InstanceTwice, FrameHTwice, NoFrameH}
use Rattle.file_grammar.specs.declared.reason.Reason.TheVariants.{LooseLink, OpenFrame, BadClosing, AfterTable}
use Rattle.file_grammar.specs.declared.reason.Reason.TheVariants.{FrameCount, ByteCount, FileLimit, FramesLimit}
use Rattle.file_grammar.specs.declared.kind.Kind.{Kind}
use Rattle.file_grammar.specs.declared.kind.Kind.TheVariants.{FrSH, FrSE, FrameH, FrEndOfFrame, FrTOC, FrEndOfFile}
use Rattle.file_grammar.specs.declared.kind.Kind.TheVariants.{Other}
use Rattle.file_grammar.specs.Structure.{record_limit, size_of, common_at, left_at, end_of, structure_at}
use Rattle.dictionary.specs.declared.entries.Element.{Element}
use Rattle.dictionary.specs.declared.entries.Entry.{Entry}
use Rattle.dictionary.specs.Same.{AreRead}
use Rattle.layout_plan.specs.Body.{HasBody}
use Rattle.layout_plan.specs.BuiltIn.{structure_fields, element_fields}
use Rattle.file_grammar.specs.Described.{element_at, longest_run, entry_from}
use Rattle.file_grammar.specs.Item.{Item, EntryItem, OtherItem}
use Rattle.file_grammar.specs.Fault.{Here, kind, structure}

-- why no structure has this length
abbrev pub size_reason : ℕ → Option Reason
size_reason told =
    if nat_lt told 14 then Some LengthSmall else (if nat_lt record_limit told then Some RecordLimit else None)

-- why the bytes at a place are no whole structure within the limit
abbrev pub length_reason : Order → List ℕ → ℕ → Option Reason
length_reason order file at =
    if nat_lt (left_at file at) 14 then Some CutRecord
    else (if nat_lt (common_at order file at).length 14 then Some LengthSmall
    else (if nat_lt record_limit (common_at order file at).length then Some RecordLimit
    else (if nat_lt (left_at file at) (common_at order file at).length then Some CutRecord else None)))

-- why a record's weight is beyond the limits, by the weights of the frame's records before it and by its length; the
-- length alone is asked first, and for the frame
abbrev pub weight_reason : ℕ → ℕ → ℕ → Option Reason
weight_reason load told weight =
    if nat_lt record_limit (load + told) then Some FrameLimit
    else (if nat_lt record_limit weight then Some RecordLimit
    else (if nat_lt record_limit (load + weight) then Some FrameLimit else None))

-- the reason of a body's fault
abbrev pub reason_of : BodyReason → Reason
reason_of body.BodyShort = BodyShort
reason_of body.BodyLong = BodyLong
reason_of body.BadText = BadText

-- the reason of an entry's refusal; want of memory is none
abbrev pub refusal_reason : AddFault → Option Reason
refusal_reason add.ClassRange = Some ClassRange
refusal_reason add.Redefined = Some Redefined
refusal_reason add.NameTwice = Some NameTwice
refusal_reason add.ElementLimit = Some ElementLimit
refusal_reason add.NoMemory = None

-- The reasons that may hold of a whole structure of a kind, in the order of their numbers.
abbrev pub reasons_of : Kind → List Reason
reasons_of FrSH = BodyShort ∷ BodyLong ∷ BadText ∷ ClassRange ∷ Redefined ∷ NameTwice ∷ ElementLimit ∷ FileLimit ∷ []
reasons_of FrSE = BodyShort ∷ BodyLong ∷ BadText ∷ StrayElement ∷ []
reasons_of FrTOC = OpenFrame ∷ AfterTable ∷ FileLimit ∷ []
reasons_of FrEndOfFile =
    UnreadLayout ∷ BodyShort ∷ BodyLong ∷ BadText ∷ OpenFrame ∷ BadClosing ∷ FrameCount ∷ ByteCount ∷ FileLimit ∷ []
reasons_of FrEndOfFrame =
    RecordLimit ∷ FrameLimit ∷ UnreadLayout ∷ BodyShort ∷ BodyLong ∷ BadText ∷ NoFrameH ∷ LooseLink ∷ AfterTable
    ∷ FileLimit ∷ FramesLimit ∷ []
reasons_of FrameH = RecordLimit ∷ FrameLimit ∷ UnreadLayout ∷ BodyShort ∷ BodyLong ∷ BadText ∷ InstanceTwice
    ∷ FrameHTwice ∷ AfterTable ∷ FileLimit ∷ []
reasons_of Other = RecordLimit ∷ FrameLimit ∷ NoLayout ∷ UnreadLayout ∷ BodyShort ∷ BodyLong ∷ BadText ∷ InstanceTwice
    ∷ AfterTable ∷ FileLimit ∷ []

-- the item at a place, where a whole structure stands there
abbrev pub item_by : Kind → Here → Option Item
item_by FrSH h =
    option_map (λ entry. EntryItem (structure h) (map (λ e. e.0) (longest_run h.order h.file (end_of (structure h))))
    entry) (entry_from h.order h.file (structure h))
item_by kind h = Some (OtherItem (structure h))

abbrev pub item_here : Here → Option Item
item_here h = item_by (kind h) h
