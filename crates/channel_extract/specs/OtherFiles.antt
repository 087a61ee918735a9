-- What an extraction by the table meets in the frames of a file that need not be well-formed: places that are not
-- right, records with a fault, and frames that are ready to be written.
use Rattle.std.specs.Prelude.{◌≡◌, ◌≢◌, ℕ, ◌+◌, ◌<◌, ◌≤◌, ◌==◌, ◌&&◌, ◌⊎◌, not, nat_le, Bool, true, false}
use Rattle.std.specs.Prelude.{if◌then◌else◌, List, length, map, All, Any, sum_by, is_some, is_none, slice_get}
use Rattle.std.specs.Prelude.{Option, Some, None, option_and_then}
use Rattle.std.specs.List.{position_or_len}
use Rattle.std.specs.Option.{option_map_or}
use Rattle.std.specs.Str.{bytes_eq}
use Rattle.type_text.specs.declared.types.Link.{Link}
use Rattle.record_values.specs.Links.{links_in}
use Rattle.layout_plan.specs.declared.faults.BodyReason.{BodyReason}
use Rattle.layout_plan.specs.declared.faults.BodyReason.TheVariants as body
use Rattle.layout_plan.specs.declared.faults.BodyFault.{BodyFault}
use Rattle.layout_plan.specs.declared.links.FieldLink.{FieldLink}
use Rattle.layout_plan.specs.Links.{field_links}
use Rattle.layout_plan.specs.Reading.{fault_of}
use Rattle.file_grammar.specs.declared.reason.Reason.{Reason}
use Rattle.file_grammar.specs.declared.reason.Reason.TheVariants.{RecordLimit, FrameLimit, BodyShort, BodyLong, BadText}
use Rattle.file_grammar.specs.declared.reason.Reason.TheVariants.{LooseLink}
use Rattle.file_grammar.specs.declared.fault.Fault.{Fault}
use Rattle.file_grammar.specs.Structure.{Structure, record_limit}
use Rattle.file_grammar.specs.Record.{layout_in, reading_of, values_of, weight_of, is_target, is_loose}
use Rattle.file_grammar.specs.Fault.{fault_at}
use Rattle.item_reader.specs.State.{bodied_of}
use Rattle.frame_content.specs.Frames.{Row, Frame, label_at, label_of}
use Rattle.contents_table.specs.declared.kind.Kind.{Kind}
use Rattle.contents_table.specs.Channels.{structure_of, raw_data, head_field, end_of_link, header_of, upper}
use Rattle.contents_table.specs.Channels.{first_channel, name_of}
use Rattle.canonical_file.specs.Ordered.{IsInOrder}
use Rattle.channel_extract.specs.Cuts.{cut}
use Rattle.channel_extract.specs.Placed.{PlacedFrame, frame, head_place, record_at}
use Rattle.channel_extract.specs.ByTable.{TableFrame, is_channel}

-- ---- a frame of which not all records read, and not all links have a target

abbrev pub does_read : PlacedFrame → Structure → Bool
does_read p s = is_some (reading_of p.order p.held s)

-- the record of a number reads, and its weight
abbrev pub reads_at : PlacedFrame → ℕ → Bool
reads_at p k = option_map_or (does_read p) (slice_get p.records k) false

abbrev pub weight_at : PlacedFrame → ℕ → ℕ
weight_at p k = option_map_or (weight_of p.order p.held) (slice_get p.records k) 0

-- the frame in which each link that has no target leads past the last record
abbrev pub marked_number : List Structure → Link → Option ℕ
marked_number records link = if link.class == 0 then None else Some (position_or_len (is_target link) records)

abbrev pub marked_row : PlacedFrame → Structure → Row
marked_row p s = record {
  label = label_of p.order p.held (bodied_of p.held s);
  links = map (marked_number p.records) (links_in (values_of p.order p.held s));
}

abbrev pub marked : PlacedFrame → Frame
marked p = record (frame p) { rows = map (marked_row p) p.records }

-- ---- places that are not right

-- the link leads past the last record
abbrev pub leads_past : PlacedFrame → ℕ → Bool
leads_past p m = nat_le (length p.records) m

-- FrameH's link to FrRawData has no target
abbrev pub has_loose_upper : PlacedFrame → ℕ → Bool
has_loose_upper p header =
    option_map_or (leads_past p) (option_and_then (end_of_link (marked p) header)
    (head_field raw_data (label_at (frame p) header).entry.elements)) false

-- FrameH reads and leads to no FrRawData; a link without target does not show that
abbrev pub lacks_upper : PlacedFrame → Kind → ℕ → Bool
lacks_upper p kind header =
    reads_at p header && (is_none (upper (frame p) kind) && not (has_loose_upper p header))

-- the record of the lists reads, and leads to no channel of the kind
abbrev pub lacks_channels : PlacedFrame → Kind → Bool
lacks_channels p kind =
    option_map_or (reads_at p) (upper (frame p) kind) false && is_none (first_channel (frame p) kind)

-- the frame has a channel of the kind, and the record reads and has another name or none
abbrev pub has_name : PlacedFrame → List ℕ → ℕ → Bool
has_name p name k = option_map_or (bytes_eq name) (name_of (label_at (frame p) k)) false

abbrev pub lacks_name : PlacedFrame → Kind → List ℕ → ℕ → Bool
lacks_name p kind name k =
    reads_at p k && (is_some (first_channel (frame p) kind) && not (has_name p name k))

abbrev pub is_of_kind : PlacedFrame → Kind → ℕ → Bool
is_of_kind p kind k = bytes_eq (structure_of kind) (label_at (frame p) k).entry.name

-- The place of the FrameH that the table has is not its place.
abbrev pub HeadLies : TableFrame → ℕ → Type 0
HeadLies p at = (at ≡ p.head) × (p.head ≢ head_place p.placed)

-- The position of the name is not that of a record of the kind, or its frame has no such channels, or the record has
-- not the name.
abbrev pub NoRecordOfKind : Kind → TableFrame → Type 0
NoRecordOfKind kind p = option_map_or (is_of_kind p.placed kind) (record_at p.placed p.at) false ≡ false

abbrev pub NoUpper : Kind → TableFrame → Type 0
NoUpper kind p = option_map_or (lacks_upper p.placed kind) (header_of (frame p.placed)) false ≡ true

abbrev pub NoChannels : Kind → TableFrame → Type 0
NoChannels kind p = lacks_channels p.placed kind ≡ true

abbrev pub NoName : Kind → List ℕ → TableFrame → Type 0
NoName kind name p = option_map_or (lacks_name p.placed kind name) (record_at p.placed p.at) false ≡ true

abbrev pub PositionLies : Kind → List ℕ → TableFrame → ℕ → Type 0
PositionLies kind name p at =
    (at ≡ p.at) × (p.head ≡ head_place p.placed)
    × (NoRecordOfKind kind p ⊎ (NoUpper kind p ⊎ (NoChannels kind p ⊎ NoName kind name p)))

abbrev pub Lies : Kind → List ℕ → ℕ → TableFrame → Type 0
Lies kind name at p = HeadLies p at ⊎ PositionLies kind name p at

-- ---- faults of records that were passed over

abbrev pub reason_of : BodyReason → Reason
reason_of body.BodyShort = BodyShort
reason_of body.BodyLong = BodyLong
reason_of body.BadText = BadText

abbrev pub body_fault_at : Structure → BodyFault → Fault
body_fault_at s f = fault_at (reason_of f.reason) (s.at, f.field)

-- the weights of the frame's records together; that of a record that does not read is its length
abbrev pub load_of : PlacedFrame → ℕ
load_of p = sum_by (weight_of p.order p.held) p.records + weight_of p.order p.held p.end

-- its body does not read
abbrev pub HasBodyFault : PlacedFrame → Structure → Fault → Type 0
HasBodyFault p s fault =
    (f : BodyFault)
    × (option_and_then (λ fields. fault_of p.order fields s.body) (layout_in p.held s.class) ≡ Some f)
    × (fault ≡ body_fault_at s f)

-- it reads and is too heavy, or its frame is
abbrev pub IsTooHeavy : PlacedFrame → Structure → Fault → Type 0
IsTooHeavy p s fault =
    (does_read p s ≡ true) × (record_limit < weight_of p.order p.held s) × (fault ≡ fault_at RecordLimit (s.at, 0))

abbrev pub IsFrameTooHeavy : PlacedFrame → Structure → Fault → Type 0
IsFrameTooHeavy p s fault = (record_limit < load_of p) × (fault ≡ fault_at FrameLimit (s.at, 0))

-- a link of it has no target
abbrev pub IsLooseIn : PlacedFrame → ℕ → FieldLink → Type 0
IsLooseIn p field found = (found.field ≡ field) × (is_loose p.records found.link ≡ true)

abbrev pub HasLooseLink : PlacedFrame → Structure → Fault → Type 0
HasLooseLink p s fault =
    (field : ℕ) × Any (IsLooseIn p field) (field_links 0 (values_of p.order p.held s))
    × (fault ≡ fault_at LooseLink (s.at, field))

-- The fault is one of this record.
abbrev pub IsFaultOf : PlacedFrame → Fault → Structure → Type 0
IsFaultOf p fault s =
    HasBodyFault p s fault ⊎ (IsTooHeavy p s fault ⊎ (IsFrameTooHeavy p s fault ⊎ HasLooseLink p s fault))

-- The fault is one of a record of the frame.
abbrev pub HasFault : Fault → PlacedFrame → Type 0
HasFault fault p = Any (IsFaultOf p fault) p.records

-- ---- frames that can be written

-- The places are right; and the records that the cut reaches read, have a target for each link that the cut leaves, and
-- are with the end record within the limit. The cut in its order is the other frame.
pub record IsReady (kind : Kind) (name : List ℕ) (p : TableFrame) (o : Frame) : Type 0 where
  pub head : p.head ≡ head_place p.placed
  pub channel : ℕ
  pub stands : record_at p.placed p.at ≡ Some channel
  pub is : is_channel (frame p.placed) kind name channel ≡ true
  pub in_order : IsInOrder (cut (marked p.placed) kind channel) o
  pub within : All (λ n. n < length p.placed.records) in_order.order
  pub read : All (λ n. reads_at p.placed n ≡ true) in_order.order
  pub load : sum_by (weight_at p.placed) in_order.order + weight_of p.placed.order p.placed.held p.placed.end
      ≤ record_limit
