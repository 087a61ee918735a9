-- Where the layouts of a dictionary have the links to channels, and the names of channels: found once for all frames.
use Rattle.std.specs.Prelude.{◌≡◌, ℕ, if◌then◌else◌, List, Option, Some, IfSome, IsSome, IsSomeAnd, All}
use Rattle.std.specs.Prelude.{option_and_then, slice_get}
use Rattle.std.specs.Option.{option_map}
use Rattle.dictionary.specs.declared.entries.Element.{Element}
use Rattle.dictionary.specs.declared.entries.Entry.{Entry}
use Rattle.dictionary.specs.Dictionary.{entry_of, class_named, IsDictionary}
use Rattle.layout_plan.specs.Plans.{plan_of}
use Rattle.layout_plan.specs.Lent.{IsLinkField}
use Rattle.link_graph.specs.Collected.{Bodied, Collected}
use Rattle.link_graph.specs.Graph.{Layouts, ReadsBy}
use Rattle.file_grammar.specs.Record.{layout_in}
use Rattle.frame_content.specs.Frames.{frame_of, label_at}
use Rattle.contents_table.specs.declared.kind.Kind.{Kind}
use Rattle.contents_table.specs.declared.kind.Kind.TheVariants.{Adc, Proc, Sim, Ser}
use Rattle.contents_table.specs.declared.layouts.Head.{Head}
use Rattle.contents_table.specs.declared.layouts.ListLayout.{ListLayout}
use Rattle.contents_table.specs.declared.layouts.ChannelLayouts.{ChannelLayouts}
use Rattle.contents_table.specs.Channels.{structure_of, is_under_raw_data, frame_header, raw_data}
use Rattle.contents_table.specs.Channels.{head_field, next_field, name_field, head, upper, first_channel}

-- the elements of the structure of a name
abbrev pub elements_named : List Entry → List ℕ → Option (List Element)
elements_named held name =
    option_map (λ e. e.elements) (option_and_then (entry_of held) (class_named held name))

-- the first plain link of a structure that names another, with the class of that one
abbrev pub head_to : List Entry → List ℕ → ℕ → List Element → Option Head
head_to held name class elements =
    option_map (λ field. record { field = field; class = class }) (head_field name elements)

abbrev pub head_in : List Entry → List ℕ → List ℕ → Option Head
head_in held upper name =
    option_and_then (λ class. option_and_then (head_to held name class) (elements_named held upper))
    (class_named held name)

abbrev pub upper_of : Kind → List ℕ
upper_of kind = if is_under_raw_data kind then raw_data else frame_header

-- the fields of a kind's channels
abbrev pub list_by : Head → List Element → ListLayout
list_by head elements = record { head = head; next = next_field elements; name = name_field elements }

abbrev pub list_of : List Entry → Kind → Option ListLayout
list_of held kind =
    option_and_then (λ head. option_map (list_by head) (elements_named held (structure_of kind)))
    (head_in held (upper_of kind) (structure_of kind))

-- The layouts of all kinds, the class of FrameH, and the way from there to FrRawData.
abbrev pub layouts_of : List Entry → ChannelLayouts
layouts_of held = record {
  frame_header = class_named held frame_header;
  raw_data = head_in held frame_header raw_data;
  adc = list_of held Adc;
  proc = list_of held Proc;
  sim = list_of held Sim;
  ser = list_of held Ser;
}

abbrev pub list_in : ChannelLayouts → Kind → Option ListLayout
list_in layouts Adc = layouts.adc
list_in layouts Proc = layouts.proc
list_in layouts Sim = layouts.sim
list_in layouts Ser = layouts.ser

-- The plans and the layouts are those of the entries held.
pub record AreOf (held : List Entry) (plans : Layouts) (layouts : ChannelLayouts) : Type 0 where
  pub sound : IsDictionary held
  pub plans_are : (class : ℕ) → plan_of plans class ≡ layout_in held class
  pub layouts_are : layouts ≡ layouts_of held

-- field k of a record is a plain link
abbrev pub HasPlainLink : Layouts → Collected → ℕ → ℕ → Type 0
HasPlainLink plans s node k =
    IfSome (slice_get s.nodes node)
    (λ (r : Bodied). IfSome (plan_of plans r.node.class) (λ fields. IsLinkField fields k))

-- record n is of a class
abbrev pub IsOfClass : Collected → ℕ → ℕ → Type 0
IsOfClass s class n = IsSomeAnd (slice_get s.nodes n) (λ (r : Bodied). r.node.class ≡ class)

-- record n is of the structure of a name
abbrev pub IsNamed : List Entry → Collected → List ℕ → ℕ → Type 0
IsNamed held s name n =
    IsSomeAnd (slice_get s.nodes n) (λ (r : Bodied). class_named held name ≡ Some r.node.class)

-- Record k is a channel of a kind, and record n the one under which these are.
pub record IsUnder (held : List Entry) (plans : Layouts) (layouts : ChannelLayouts) (s : Collected) (kind : Kind)
    (n k : ℕ) : Type 0 where
  pub are : AreOf held plans layouts
  pub reads : All (ReadsBy plans s.order) s.nodes
  pub upper_is : upper (frame_of held s) kind ≡ Some n
  pub upper_named : IsNamed held s (upper_of kind) n
  pub first : IsSome (first_channel (frame_of held s) kind)
  pub named : IsNamed held s (structure_of kind) k

-- Record m is the FrRawData to which record n, the FrameH, leads.
pub record IsRawData (held : List Entry) (plans : Layouts) (layouts : ChannelLayouts) (s : Collected)
    (n m : ℕ) : Type 0 where
  pub are : AreOf held plans layouts
  pub reads : All (ReadsBy plans s.order) s.nodes
  pub named : IsNamed held s frame_header n
  pub leads : head (frame_of held s) raw_data n ≡ Some m

-- This field of record n is the first plain link whose type names a structure.
pub record IsHeadField (held : List Entry) (plans : Layouts) (s : Collected) (name : List ℕ) (n field : ℕ) : Type 0
  where
    pub field_is : head_field name (label_at (frame_of held s) n).entry.elements ≡ Some field
    pub plain : HasPlainLink plans s n field

-- The plain link `next` of record k is this field, where it has one.
pub record IsNextField (held : List Entry) (plans : Layouts) (s : Collected) (k : ℕ) (field : Option ℕ) : Type 0
  where
    pub field_is : field ≡ next_field (label_at (frame_of held s) k).entry.elements
    pub plain : IfSome field (HasPlainLink plans s k)
