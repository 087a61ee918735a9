-- The records of a frame of the sample file as they are put together, in the order in which they stand in the frame.
use Rattle.std.specs.Prelude.{◌≡◌, ℕ, zero, suc, ◌+◌, ◌*◌, ◌≤◌, nat_lt, if◌then◌else◌, Bool, true, false, List}
use Rattle.std.specs.Prelude.{[], ◌∷◌, ◌++◌, length, is_some, Some, None, IsSomeAnd}
use Rattle.std.specs.List.{position, AllZip}
use Rattle.scalar_types.specs.declared.Order.TheVariants.{Little}
use Rattle.type_text.specs.declared.types.Link.{Link}
use Rattle.record_values.specs.declared.values.Value.{Value}
use Rattle.record_values.specs.Links.{with_links}
use Rattle.scalar_types.specs.declared.Width.TheVariants.{One, Two, Four, Eight}
use Rattle.layout_plan.specs.declared.fields.Form.{Form}
use Rattle.layout_plan.specs.declared.fields.Form.TheVariants.{Number, Text, Link as LinkForm}
use Rattle.layout_plan.specs.declared.fields.Count.TheVariants.{Of}
use Rattle.layout_plan.specs.declared.fields.Field.{Field}
use Rattle.layout_plan.specs.BuiltIn.{single}
use Rattle.layout_plan.specs.Body.{values_length}
use Rattle.layout_plan.specs.Written.{IsWritten}
use Rattle.record_writer.specs.Fit.{Fits}
use Rattle.link_graph.specs.declared.nodes.Node.{Node}
use Rattle.link_graph.specs.declared.nodes.Root.{Root}
use Rattle.link_graph.specs.declared.nodes.Root.TheVariants.{No, Head}
use Rattle.link_graph.specs.Collected.{Bodied, Collected, is_named, link_to}
use Rattle.file_grammar.specs.Record.{layout_in}
use Rattle.frame_content.specs.Labels.{null_link}
use Rattle.sample_file.specs.Entries.{sample_entries}
use Rattle.sample_file.specs.Sample.{header_values, raw_values, channel_values, vector_values, end_values}

-- A record before it has a body: by its layout it is to have these values.
pub record Draft : Type 0 where
  pub node : Node
  pub fields : List Field
  pub values : List Value

-- its layout is that of its class, and its values fit it and are short
pub record IsSound (d : Draft) : Type 0 where
  pub layout : layout_in sample_entries d.node.class ≡ Some d.fields
  pub fits : Fits d.fields d.values
  pub short : values_length d.fields d.values ≤ 300

-- The record is the draft's, and its body is written of the draft's values.
pub record IsOf (d : Draft) (r : Bodied) : Type 0 where
  pub node : r.node ≡ d.node
  pub written : IsWritten Little d.fields d.values r.body

-- a draft has the class and the instance of a node
abbrev pub is_taken : Node → List Draft → Bool
is_taken node drafts = is_some (position (λ (d : Draft). is_named (link_to node) d.node) drafts)

-- The segment's pending body is written of the values of a draft, and else it is as it was; with its length.
pub record Pends (fields : List Field) (values : List Value) (old new : Collected) : Type 0 where
  pub order : new.order ≡ old.order
  pub nodes : new.nodes ≡ old.nodes
  pub end_record : new.end_record ≡ old.end_record
  pub written : IsWritten Little fields values new.pending
  pub given : new.given ≤ old.given + 300

-- A body of these values may be the pending one: no other is pending, and they fit the layout of the class.
pub record CanPend (class : ℕ) (values : List Value) (s : Collected) : Type 0 where
  pub fields : List Field
  pub layout : layout_in sample_entries class ≡ Some fields
  pub fits : Fits fields values
  pub short : values_length fields values ≤ 300
  pub pending : s.pending ≡ []
  pub given : s.given ≤ 100000

-- The segment holds the records of these drafts, and neither an end record nor a pending body.
pub record Holds (drafts : List Draft) (s : Collected) : Type 0 where
  pub order : s.order ≡ Little
  pub nodes : AllZip IsOf drafts s.nodes
  pub end_record : s.end_record ≡ None
  pub pending : s.pending ≡ []
  pub given : s.given ≤ 300 * length drafts

-- The records of these drafts are held, and one of this node and these values may be put behind them.
pub record CanBePut (node : Node) (values : List Value) (s : Collected) : Type 0 where
  pub drafts : List Draft
  pub held : Holds drafts s
  pub fields : List Field
  pub sound : IsSound (record { node = node; fields = fields; values = values })
  pub fresh : is_taken node drafts ≡ false
  pub few : length drafts ≤ 100

-- whichever drafts were held, this one is held behind them
abbrev pub Puts : Node → List Value → Collected → Collected → Type 0
Puts node values old new =
    (drafts : List Draft) (fields : List Field) → Holds drafts old
    → IsSound (record { node = node; fields = fields; values = values })
    → Holds (drafts ++ record { node = node; fields = fields; values = values } ∷ []) new

-- ---- layouts

-- a list that counts by field k
abbrev pub counted_field : Form → ℕ → Field
counted_field form k = record { form = form; counts = Of k ∷ []; is_sum = false }

abbrev pub sum_field : Field
sum_field = record { form = Number Four; counts = []; is_sum = true }

abbrev pub header_fields : List Field
header_fields =
    single Text ∷ single (Number Four) ∷ single (Number Four) ∷ single (Number Four) ∷ single (Number Four)
    ∷ single (Number Eight) ∷ single LinkForm ∷ single LinkForm ∷ single LinkForm ∷ single LinkForm ∷ sum_field ∷ []

abbrev pub raw_fields : List Field
raw_fields = single Text ∷ single LinkForm ∷ sum_field ∷ []

abbrev pub channel_fields : List Field
channel_fields =
    single Text ∷ single (Number Four) ∷ single (Number Eight) ∷ single LinkForm ∷ single LinkForm ∷ sum_field ∷ []

abbrev pub vector_fields : List Field
vector_fields =
    single Text ∷ single (Number Two) ∷ single (Number Two) ∷ single (Number Eight) ∷ single (Number Eight)
    ∷ counted_field (Number One) 4 ∷ single (Number Four) ∷ counted_field (Number Eight) 6 ∷ counted_field
    (Number Eight) 6
    ∷ counted_field (Number Eight) 6 ∷ counted_field Text 6 ∷ single Text ∷ single LinkForm ∷ sum_field ∷ []

abbrev pub end_fields : List Field
end_fields = single (Number Four) ∷ single (Number Four) ∷ sum_field ∷ []

-- ---- the drafts of a frame

abbrev pub node_of : ℕ → ℕ → Root → Node
node_of class instance root = record { at = 0; class = class; instance = instance; root = root }

abbrev pub link_of : ℕ → ℕ → Link
link_of class instance = record { class = class; instance = instance }

-- the values with their links
abbrev pub header_linked : ℕ → List Value
header_linked k = with_links (header_values k) (link_of 4 0 ∷ null_link ∷ null_link ∷ null_link ∷ [])

abbrev pub raw_linked : List Value
raw_linked = with_links raw_values (link_of 5 0 ∷ [])

-- the link of channel j to the next one, which the last has not
abbrev pub next_channel : ℕ → Link
next_channel j = if nat_lt j 2 then link_of 5 (j + 1) else null_link

abbrev pub channel_linked : ℕ → List Value
channel_linked j = with_links (channel_values j) (link_of 7 j ∷ next_channel j ∷ [])

abbrev pub header_draft : ℕ → Draft
header_draft k = record { node = node_of 3 0 Head; fields = header_fields; values = header_linked k }

abbrev pub raw_draft : Draft
raw_draft = record { node = node_of 4 0 No; fields = raw_fields; values = raw_linked }

abbrev pub channel_draft : ℕ → Draft
channel_draft j = record { node = node_of 5 j No; fields = channel_fields; values = channel_linked j }

abbrev pub vector_draft : ℕ → ℕ → Draft
vector_draft k j = record { node = node_of 7 j No; fields = vector_fields; values = vector_values k j }

abbrev pub end_draft : ℕ → Draft
end_draft k = record { node = node_of 9 0 No; fields = end_fields; values = end_values k }

-- the drafts of frame k up to channel j
abbrev pub drafts_before : ℕ → ℕ → List Draft
drafts_before k zero = header_draft k ∷ raw_draft ∷ []
drafts_before k (suc j) = drafts_before k j ++ channel_draft j ∷ vector_draft k j ∷ []

-- The segment has all records of frame k, and its end record.
pub record IsWhole (k : ℕ) (s : Collected) : Type 0 where
  pub small : k ≤ 100000
  pub order : s.order ≡ Little
  pub nodes : AllZip IsOf (drafts_before k 3) s.nodes
  pub end : IsSomeAnd s.end_record (IsOf (end_draft k))

-- The plans of the classes of a frame.
abbrev pub sample_plans : List (ℕ × List Field)
sample_plans =
    (3, header_fields) ∷ (4, raw_fields) ∷ (5, channel_fields) ∷ (7, vector_fields) ∷ (9, end_fields) ∷ []
