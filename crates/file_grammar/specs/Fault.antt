-- The reasons for which what stands at a place may not stand there, each of them as a test, in the order of their
-- numbers; and the first fault of a file.
use Rattle.std.specs.Prelude.{◌≡◌, ℕ, ◌+◌, ◌==◌, ◌&&◌, ◌||◌, ◌⊎◌, ◌<◌, not, nat_le, nat_lt, Bool, true, false}
use Rattle.std.specs.Prelude.{if◌then◌else◌, List, [], ◌∷◌, length, take, find, is_none, is_some, Option, Some, None}
use Rattle.std.specs.Prelude.{option_and_then, Result, Ok, Err, codes}
use Rattle.std.specs.Option.{option_map_or}
use Rattle.scalar_types.specs.declared.Order.{Order}
use Rattle.frame_head.specs.Header.{header_of}
use Rattle.dictionary.specs.declared.entries.Entry.{Entry}
use Rattle.dictionary.specs.declared.entries.Element.{Element}
use Rattle.dictionary.specs.declared.held.AddFault.{AddFault}
use Rattle.dictionary.specs.declared.held.AddFault.TheVariants as add
use Rattle.dictionary.specs.Dictionary.{entry_of, step}
use Rattle.layout_plan.specs.declared.fields.Field.{Field}
use Rattle.layout_plan.specs.declared.faults.BodyReason.{BodyReason}
use Rattle.layout_plan.specs.declared.faults.BodyReason.TheVariants as body
use Rattle.layout_plan.specs.declared.faults.BodyFault.{BodyFault}
use Rattle.layout_plan.specs.Reading.{fault_of}
use Rattle.layout_plan.specs.BuiltIn.{structure_fields, element_fields}
use Rattle.file_grammar.specs.declared.reason.Reason.{Reason}
use Rattle.file_grammar.specs.declared.reason.Reason.TheVariants.{CutHeader, BadHeader, CutRecord, LengthSmall}
use Rattle.file_grammar.specs.declared.reason.Reason.TheVariants.{RecordLimit, FrameLimit, NoLayout, UnreadLayout}
use Rattle.file_grammar.specs.declared.reason.Reason.TheVariants.{BodyShort, BodyLong, BadText, StrayElement}
use Rattle.file_grammar.specs.declared.reason.Reason.TheVariants.{ClassRange}
use Rattle.file_grammar.specs.declared.reason.Reason.TheVariants.{Redefined, NameTwice, ElementLimit, InstanceTwice}
use Rattle.file_grammar.specs.declared.reason.Reason.TheVariants.{FrameHTwice, NoFrameH, LooseLink, OpenFrame}
use Rattle.file_grammar.specs.declared.reason.Reason.TheVariants.{BadClosing, AfterTable, NoEnd, FrameCount, ByteCount}
use Rattle.file_grammar.specs.declared.reason.Reason.TheVariants.{Trailing, FileLimit, FramesLimit}
use Rattle.file_grammar.specs.declared.fault.Fault.{Fault}
use Rattle.file_grammar.specs.declared.kind.Kind.{Kind}
use Rattle.file_grammar.specs.declared.kind.Kind.TheVariants.{FrSH, FrSE, FrTOC}
use Rattle.file_grammar.specs.Structure.{Structure, end_of, record_limit, file_limit, common_at, left_at, structure_at}
use Rattle.file_grammar.specs.Kind.{kind_of, is_frame_kind, is_target_kind, is_closing_kind, is_header_kind}
use Rattle.file_grammar.specs.Kind.{is_end_kind}
use Rattle.file_grammar.specs.Kind.{is_table_kind, is_file_end_kind}
use Rattle.file_grammar.specs.Record.{layout_in, values_of, weight_of, first_loose}
use Rattle.file_grammar.specs.Described.{entry_from}
use Rattle.file_grammar.specs.Item.{Item, Before}
use Rattle.file_grammar.specs.Closing.{closes, field_named, number_named}
use Rattle.file_grammar.specs.MayStand.{frames_limit, Begins}

-- what is judged: the file in its byte order, and what stands before the place
pub record Here : Type 0 where
  pub order : Order
  pub file : List ℕ
  pub before : Before

-- the place, the bytes left there, the length that the bytes there tell, and the structure there by that length
abbrev pub place : Here → ℕ
place h = h.before.place

abbrev pub bytes_there : Here → ℕ
bytes_there h = left_at h.file (place h)

abbrev pub length_there : Here → ℕ
length_there h = (common_at h.order h.file (place h)).length

abbrev pub structure : Here → Structure
structure h = structure_at h.order h.file (place h)

abbrev pub entries_before : Here → List Entry
entries_before h = h.before.dictionary

-- its class, its kind, and the elements that the dictionary has for it
abbrev pub class : Here → ℕ
class h = (structure h).class

abbrev pub kind : Here → Kind
kind h = kind_of (entries_before h) (class h)

abbrev pub elements : Here → List Element
elements h = option_map_or (λ e. e.elements) (entry_of (entries_before h) (class h)) []

-- its weight, and that of the frame with it
abbrev pub weight : Here → ℕ
weight h = weight_of h.order (entries_before h) (structure h)

abbrev pub load : Here → ℕ
load h = h.before.load

-- the number that it tells under a name
abbrev pub number : Here → List ℕ → ℕ
number h name = number_named (elements h) (values_of h.order (entries_before h) (structure h)) name

-- the layout of a structure's body: FrSH and FrSE have built-in ones, and that of FrTOC is never asked for
abbrev pub fields_by : Kind → Option (List Field) → Option (List Field)
fields_by FrSH found = Some structure_fields
fields_by FrSE found = Some element_fields
fields_by FrTOC found = None
fields_by kind found = found

abbrev pub fields : Here → Option (List Field)
fields h = fields_by (kind h) (layout_in (entries_before h) (class h))

-- the fault of its body
abbrev pub body_fault : Here → Option BodyFault
body_fault h = option_and_then (λ fields. fault_of h.order fields (structure h).body) (fields h)

-- the refusal of the entry that begins with it, where it is an FrSH
abbrev pub err_of : {A : Type 0} → Result A AddFault → Option AddFault
err_of (Ok x) = None
err_of (Err e) = Some e

abbrev pub refusal_by : Kind → Here → Option AddFault
refusal_by FrSH h = option_and_then (λ entry. err_of (step (entries_before h) entry))
    (entry_from h.order h.file (structure h))
refusal_by kind h = None

abbrev pub refusal : Here → Option AddFault
refusal h = refusal_by (kind h) h

-- a place and a field of a fault
abbrev pub Spot : Type 0
Spot = ℕ × ℕ

-- the place judged, with field 0 or this one, where the test holds
abbrev pub here : Here → Bool → Option Spot
here h true = Some (place h, 0)
here h false = None

abbrev pub here_at : Here → ℕ → Bool → Option Spot
here_at h field true = Some (place h, field)
here_at h field false = None

-- the same where the body has a fault of this reason
abbrev pub same_reason : BodyReason → BodyReason → Bool
same_reason body.BodyShort body.BodyShort = true
same_reason body.BodyLong body.BodyLong = true
same_reason body.BadText body.BadText = true
same_reason a b = false

abbrev pub here_body : Here → BodyReason → Option Spot
here_body h reason = option_and_then (λ f. here_at h f.field (same_reason f.reason reason)) (body_fault h)

-- the same where the entry is refused so
abbrev pub same_refusal : AddFault → AddFault → Bool
same_refusal add.ClassRange add.ClassRange = true
same_refusal add.Redefined add.Redefined = true
same_refusal add.NameTwice add.NameTwice = true
same_refusal add.ElementLimit add.ElementLimit = true
same_refusal a b = false

abbrev pub here_entry : Here → AddFault → Option Spot
here_entry h fault = option_and_then (λ f. here h (same_refusal f fault)) (refusal h)

-- whether an earlier record of the frame has its class and instance
abbrev pub is_twin : Structure → Structure → Bool
is_twin s t = s.class == t.class && s.instance == t.instance

abbrev pub has_twin : List Structure → Structure → Bool
has_twin frame s = is_some (find (is_twin s) frame)

-- whether the frame has a FrameH
abbrev pub has_header : List Entry → List Structure → Bool
has_header entries_before frame = is_some (find (λ t. is_header_kind (kind_of entries_before t.class)) frame)

abbrev pub is_empty : {A : Type 0} → List A → Bool
is_empty [] = true
is_empty (x ∷ xs) = false

-- Where a reason holds of what stands at a place, and of which field. A reason counts only where none of a lesser
-- number holds.
abbrev pub fault_spot : Reason → Here → Option Spot
fault_spot CutRecord h = here h
    (nat_lt (bytes_there h) 14 ||
    (nat_le 14 (length_there h) &&
    (nat_le (length_there h) record_limit && nat_lt (bytes_there h) (length_there h))))
fault_spot LengthSmall h = here h (nat_lt (length_there h) 14)
fault_spot RecordLimit h = here h
    (nat_lt record_limit (length_there h)
    || (is_frame_kind (kind h) && (nat_le (load h + length_there h) record_limit && nat_lt record_limit (weight h))))
fault_spot FrameLimit h = here h
    (is_frame_kind (kind h) &&
    (nat_lt record_limit (load h + length_there h) || nat_lt record_limit (load h + weight h)))
fault_spot NoLayout h = here h (not (class h == 1 || class h == 2) && is_none (entry_of (entries_before h) (class h)))
fault_spot UnreadLayout h = here h (not (is_table_kind (kind h)) && is_none (fields h))
fault_spot BodyShort h = here_body h body.BodyShort
fault_spot BodyLong h = here_body h body.BodyLong
fault_spot BadText h = here_body h body.BadText
fault_spot StrayElement h = here h (class h == 2)
fault_spot ClassRange h = here_entry h add.ClassRange
fault_spot Redefined h = here_entry h add.Redefined
fault_spot NameTwice h = here_entry h add.NameTwice
fault_spot ElementLimit h = here_entry h add.ElementLimit
fault_spot InstanceTwice h = here h (is_target_kind (kind h) && has_twin h.before.frame (structure h))
fault_spot FrameHTwice h = here h (is_header_kind (kind h) && has_header (entries_before h) h.before.frame)
fault_spot NoFrameH h = here h (is_end_kind (kind h) && not (has_header (entries_before h) h.before.frame))
fault_spot LooseLink h =
    if is_end_kind (kind h) then first_loose h.order (entries_before h) h.before.frame h.before.frame else None
fault_spot OpenFrame h = here h (is_closing_kind (kind h) && not (is_empty h.before.frame))
fault_spot BadClosing h = here h (is_file_end_kind (kind h) && not (closes (elements h)))
fault_spot AfterTable h = here h (h.before.table && (is_frame_kind (kind h) || is_table_kind (kind h)))
fault_spot FrameCount h = here_at h (field_named (elements h) (codes "nFrames"))
    (is_file_end_kind (kind h) && not (number h (codes "nFrames") == h.before.frames))
fault_spot ByteCount h = here_at h (field_named (elements h) (codes "nBytes"))
    (is_file_end_kind (kind h)
    && not (number h (codes "nBytes") == 0 || number h (codes "nBytes") == end_of (structure h)))
fault_spot FileLimit h = here h (nat_lt file_limit (place h + length_there h))
fault_spot FramesLimit h = here h (is_end_kind (kind h) && nat_le frames_limit h.before.frames)
fault_spot reason h = None

-- the fault of a reason at a spot
abbrev pub fault_at : Reason → Spot → Fault
fault_at reason spot = record { at = spot.0; field = spot.1; reason = reason }

-- the first of some reasons that holds
abbrev pub first_of : List Reason → Here → Option Fault
first_of [] h = None
first_of (reason ∷ reasons) h =
    option_map_or (λ spot. Some (fault_at reason spot)) (fault_spot reason h) (first_of reasons h)

-- the reasons that are judged of what stands at a place, in the order of their numbers

abbrev pub reasons : List Reason
reasons =
    CutRecord ∷ LengthSmall ∷ RecordLimit ∷ FrameLimit ∷ NoLayout ∷ UnreadLayout ∷ BodyShort ∷ BodyLong ∷ BadText
    ∷ StrayElement ∷ ClassRange ∷ Redefined ∷ NameTwice ∷ ElementLimit ∷ InstanceTwice ∷ FrameHTwice ∷ NoFrameH
    ∷ LooseLink ∷ OpenFrame ∷ BadClosing ∷ AfterTable ∷ FrameCount ∷ ByteCount ∷ FileLimit ∷ FramesLimit ∷ []

-- The fault of a place: bytes after the end of the file, no byte where that end is still to come, or the first reason
-- that holds of what stands there.
abbrev pub fault_by : Bool → Bool → Here → Option Fault
fault_by true true h = None
fault_by true false h = Some (fault_at Trailing (place h, 0))
fault_by false true h = Some (fault_at NoEnd (place h, 0))
fault_by false false h = first_of reasons h

abbrev pub fault_here : Here → Option Fault
fault_here h = fault_by h.before.closed (place h == length h.file) h

-- what is wrong with a header
abbrev pub IsHeaderFault : List ℕ → Fault → Type 0
IsHeaderFault file fault =
    ((length file < 40) × (fault ≡ fault_at CutHeader (length file, 0)))
    ⊎ ((at : ℕ) × (header_of (take 40 file) ≡ Err (record { at = at })) × (length file < 40 → ⊥)
    × (fault ≡ fault_at BadHeader (at, 0)))

-- The fault at the place after items that each may stand: no further item may, so these are the longest list.
pub record IsItemFault (file : List ℕ) (fault : Fault) : Type 0 where
  pub order : Order
  pub items : List Item
  pub last : Before
  pub begins : Begins file order items last
  pub holds : fault_here (record { order = order; file = file; before = last }) ≡ Some fault

-- The first fault of a file.
abbrev pub IsFirstFault : List ℕ → Fault → Type 0
IsFirstFault file fault = IsHeaderFault file fault ⊎ IsItemFault file fault
