-- The contents table (LIGO-T970130 v8, FrTOC): which layouts are fit for it.
use Rattle.std.specs.Prelude.{◌≡◌, ◌≢◌, ◌↔◌, ℕ, ◌&&◌, ◌||◌, ◌⊎◌, All, not, Bool, true, false, if◌then◌else◌, List}
use Rattle.std.specs.Prelude.{[], ◌∷◌}
use Rattle.std.specs.Prelude.{is_some, codes, Option, Some, None, IfSome, slice_get}
use Rattle.std.specs.Option.{option_map_or}
use Rattle.std.specs.List.{list_any, list_all, AllPairs}
use Rattle.std.specs.Str.{bytes_eq}
use Rattle.scalar_types.specs.declared.Width.TheVariants.{Four, Eight}
use Rattle.type_text.specs.declared.types.Base.{Base}
use Rattle.type_text.specs.declared.types.ElementType.{ElementType}
use Rattle.type_text.specs.declared.types.Dim.{Dim}
use Rattle.type_text.specs.declared.types.Dim.TheVariants.{Named}
use Rattle.dictionary.specs.declared.entries.Element.{Element}
use Rattle.dictionary.specs.declared.entries.Entry.{Entry}
use Rattle.dictionary.specs.Named.{first_named}
use Rattle.layout_plan.specs.declared.fields.Form.{Form}
use Rattle.layout_plan.specs.declared.fields.Form.TheVariants.{Number, Text}
use Rattle.layout_plan.specs.declared.fields.Count.{Count}
use Rattle.layout_plan.specs.declared.fields.Count.TheVariants.{Of}
use Rattle.layout_plan.specs.declared.fields.Field.{Field}
use Rattle.layout_plan.specs.Layout.{layout_of}
use Rattle.layout_plan.specs.Lent.{IsSingleField, IsNumberField}
use Rattle.file_grammar.specs.Closing.{has_named, is_count, is_size, field_named}
use Rattle.contents_table.specs.declared.kind.Kind.{Kind}
use Rattle.contents_table.specs.declared.kind.Kind.TheVariants.{Adc, Proc, Sim, Ser}
use Rattle.contents_table.specs.declared.fit.KindFields.{KindFields}
use Rattle.contents_table.specs.declared.fit.TableLayout.{TableLayout}
use Rattle.contents_table.specs.Channels.{is_text}

-- the fields of a kind: how many names, the names, and their positions
abbrev pub count_field : Kind → List ℕ
count_field Adc = codes "nADC"
count_field Proc = codes "nProc"
count_field Sim = codes "nSim"
count_field Ser = codes "nSer"

abbrev pub names_field : Kind → List ℕ
names_field Adc = codes "name"
names_field Proc = codes "nameProc"
names_field Sim = codes "nameSim"
names_field Ser = codes "nameSer"

abbrev pub positions_field : Kind → List ℕ
positions_field Adc = codes "positionADC"
positions_field Proc = codes "positionProc"
positions_field Sim = codes "positionSim"
positions_field Ser = codes "positionSer"

-- the number of frames, and the places of their FrameH
abbrev pub frames_field : List ℕ
frames_field = codes "nFrame"

abbrev pub heads_field : List ℕ
heads_field = codes "positionH"

-- the dimensions are these names in order
abbrev pub are_named : List Dim → List (List ℕ) → Bool
are_named [] [] = true
are_named (Named name ∷ dims) (n ∷ names) = bytes_eq n name && are_named dims names
are_named dims names = false

-- an element of a base that passes, with these dimensions
abbrev pub is_list : (Base → Bool) → List (List ℕ) → Element → Bool
is_list passes names e =
    option_map_or (λ (ty : ElementType). passes ty.base && are_named ty.dims names) e.ty false

-- the first element of the name is there and is such a list
abbrev pub has_list : List Element → List ℕ → (Base → Bool) → List (List ℕ) → Bool
has_list elements name passes names =
    option_map_or (λ found. is_list passes names found.1) (first_named 0 elements name) false

-- the positions, where those of one name stand together, and where those of one frame do
abbrev pub has_positions_by_name : List Element → Kind → Bool
has_positions_by_name elements kind =
    has_list elements (positions_field kind) is_size (count_field kind ∷ frames_field ∷ [])

abbrev pub has_positions_by_frame : List Element → Kind → Bool
has_positions_by_frame elements kind =
    has_list elements (positions_field kind) is_size (frames_field ∷ count_field kind ∷ [])

-- the layout lists a kind
abbrev pub lists : List Element → Kind → Bool
lists elements kind =
    has_named elements (count_field kind) is_count
    && (has_list elements (names_field kind) is_text (count_field kind ∷ [])
    && (has_positions_by_name elements kind || has_positions_by_frame elements kind))

-- it has no field of a kind
abbrev pub has_field : List Element → List ℕ → Bool
has_field elements name = is_some (first_named 0 elements name)

abbrev pub lacks : List Element → Kind → Bool
lacks elements kind =
    not (list_any (has_field elements) (count_field kind ∷ names_field kind ∷ positions_field kind ∷ []))

-- it has the fields of a table: the number of frames and the places of their FrameH, and it lists each kind;
-- that of serial data it may lack
abbrev pub has_table : List Element → Bool
has_table elements =
    has_named elements frames_field is_count
    && (has_list elements heads_field is_size (frames_field ∷ [])
    && (list_all (lists elements) (Adc ∷ Proc ∷ Sim ∷ []) && (lists elements Ser || lacks elements Ser)))

-- The layout is fit for a table: it is readable, and has the fields of one.
abbrev pub is_fit : Entry → Bool
is_fit e = is_some (layout_of e.elements) && has_table e.elements

-- the numbers of a kind's fields
abbrev pub kind_fields : List Element → Kind → KindFields
kind_fields elements kind = record {
  count = field_named elements (count_field kind);
  names = field_named elements (names_field kind);
  positions = field_named elements (positions_field kind);
  by_name = has_positions_by_name elements kind;
}

-- The numbers of all fields that a table tells, in a layout that is fit.
abbrev pub table_layout : List Element → TableLayout
table_layout elements = record {
  frames = field_named elements frames_field;
  heads = field_named elements heads_field;
  adc = kind_fields elements Adc;
  proc = kind_fields elements Proc;
  sim = kind_fields elements Sim;
  ser = if lists elements Ser then Some (kind_fields elements Ser) else None;
}

-- the fields of a kind, where the layout lists it
abbrev pub fields_of : TableLayout → Kind → Option KindFields
fields_of layout Adc = Some layout.adc
fields_of layout Proc = Some layout.proc
fields_of layout Sim = Some layout.sim
fields_of layout Ser = layout.ser

-- ---- what the fields of a fit layout are

-- field k is a list of this form, with these counts
pub record IsListField (fields : List Field) (k : ℕ) (form : Form) (counts : List Count) : Type 0 where
  pub field : Field
  pub is : slice_get fields k ≡ Some field
  pub form_is : field.form ≡ form
  pub counts_are : field.counts ≡ counts

abbrev pub position_counts : ℕ → KindFields → List Count
position_counts frames k = if k.by_name then Of k.count ∷ Of frames ∷ [] else Of frames ∷ Of k.count ∷ []

pub record IsKindLayout (fields : List Field) (frames : ℕ) (k : KindFields) : Type 0 where
  pub count : IsNumberField fields k.count
  pub names : IsListField fields k.names Text (Of k.count ∷ [])
  pub positions : IsListField fields k.positions (Number Eight) (position_counts frames k)

-- the numbers of the fields that count
abbrev pub counters_of : TableLayout → List ℕ
counters_of layout =
    layout.frames ∷ layout.adc.count ∷ layout.proc.count ∷ layout.sim.count
    ∷ option_map_or (λ (k : KindFields). k.count ∷ []) layout.ser []

-- no two of these are the same
abbrev pub AreDistinct : {X : Type 0} → List X → Type 0
AreDistinct xs = AllPairs (λ x y. x ≢ y) xs

-- field k is a single number of 4 or of 8 bytes
abbrev pub IsWideField : List Field → ℕ → Type 0
IsWideField fields k = IsSingleField fields k (Number Four) ⊎ IsSingleField fields k (Number Eight)

-- These fields of a layout are what they have to be in a table.
pub record IsTableLayout (fields : List Field) (layout : TableLayout) : Type 0 where
  pub frames : IsNumberField fields layout.frames
  pub heads : IsListField fields layout.heads (Number Eight) (Of layout.frames ∷ [])
  pub adc : IsKindLayout fields layout.frames layout.adc
  pub proc : IsKindLayout fields layout.frames layout.proc
  pub sim : IsKindLayout fields layout.frames layout.sim
  pub ser : IfSome layout.ser (IsKindLayout fields layout.frames)
  pub counters : AreDistinct (counters_of layout)
  pub wide : All (IsWideField fields) (counters_of layout)

-- ---- what is looked for, where it is there

-- the first element of a name that counts, by its number
abbrev pub count_named : List Element → List ℕ → Option ℕ
count_named elements name =
    if has_named elements name is_count then Some (field_named elements name) else None

-- the first element of a name that is such a list, by its number
abbrev pub list_named : List Element → List ℕ → (Base → Bool) → List (List ℕ) → Option ℕ
list_named elements name passes names =
    if has_list elements name passes names then Some (field_named elements name) else None

-- the positions of a kind in either order, and whether those of one name stand together
abbrev pub positions_named : List Element → Kind → Option (ℕ × Bool)
positions_named elements kind =
    if has_positions_by_name elements kind || has_positions_by_frame elements kind
    then Some (field_named elements (positions_field kind), has_positions_by_name elements kind) else None

-- the fields of serial data, which a layout may lack
abbrev pub serial_fields : List Element → Option (Option KindFields)
serial_fields elements =
    if lacks elements Ser then Some None
    else (if lists elements Ser then Some (Some (kind_fields elements Ser)) else None)

-- this base passes, and no other
abbrev pub PassesOnly : (Base → Bool) → Base → Type 0
PassesOnly passes base = (other : Base) → (passes other ≡ true) ↔ (other ≡ base)
