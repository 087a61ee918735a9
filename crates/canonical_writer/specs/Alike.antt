-- Frames of two files that are written alike.
use Rattle.std.specs.Prelude.{◌≡◌, ℕ, Bool, true, List, [], Some, Ok, IsSomeAnd, slice_get}
use Rattle.std.specs.Option.{option_map, option_map_or}
use Rattle.scalar_types.specs.declared.Order.TheVariants.{Little}
use Rattle.type_text.specs.declared.types.Link.{Link}
use Rattle.record_values.specs.declared.values.Value.{Value}
use Rattle.dictionary.specs.declared.entries.Entry.{Entry}
use Rattle.dictionary.specs.Dictionary.{entry_of}
use Rattle.layout_plan.specs.declared.fields.Field.{Field}
use Rattle.layout_plan.specs.Reading.{body_in}
use Rattle.link_graph.specs.Collected.{Bodied, Collected}
use Rattle.frame_content.specs.Labels.{printed_entry}
use Rattle.frame_content.specs.Frames.{Frame}
use Rattle.canonical_file.specs.Bytes.{body_bytes}
use Rattle.canonical_file.specs.Records.{Record, entry_fields, record_bytes}
use Rattle.canonical_writer.specs.NewLinks.{link_of}

-- both dictionaries have one entry of the class, as it is written
abbrev pub HaveOneEntry : List Entry → List Entry → ℕ → Type 0
HaveOneEntry held other class =
    IsSomeAnd (entry_of held class) (λ e. IsSomeAnd (entry_of other class) (λ o. printed_entry e ≡ printed_entry o))

-- of the classes that were met they have
abbrev pub AreAlike : List Bool → List Entry → List Entry → Type 0
AreAlike met held other = (class : ℕ) → slice_get met class ≡ Some true → HaveOneEntry held other class

-- Records of two segments have the same body, in one byte order, and the same instance among these new links.
pub record HaveOneBody (first : Collected) (links : List Link) (node : ℕ) (second : Collected) (others : List Link)
    (other : ℕ) : Type 0 where
  pub order : first.order ≡ second.order
  pub instance : (link_of links node).instance ≡ (link_of others other).instance
  pub body : option_map (λ (r : Bodied). r.body) (slice_get first.nodes node)
      ≡ option_map (λ (r : Bodied). r.body) (slice_get second.nodes other)

-- End records have the same body, in one byte order.
pub record HaveOneEnd (first second : Collected) : Type 0 where
  pub order : first.order ≡ second.order
  pub body : option_map_or (λ (r : Bodied). r.body) first.end_record []
      ≡ option_map_or (λ (r : Bodied). r.body) second.end_record []

-- the bytes of values, as a canonical file has them, read as these values
abbrev pub ReadAgain : List Field → List Value → Type 0
ReadAgain fields values = body_in Little fields (body_bytes fields values) ≡ Ok (values, [])

-- the bytes are those of a record, whose body reads as its values
pub record IsWrittenAs (r : Record) (bytes : List ℕ) : Type 0 where
  pub is : bytes ≡ record_bytes r
  pub reads : ReadAgain (entry_fields r.entry) r.values

-- records with one entry and the same values that are written as the same bytes
pub record RecordsAreAlike (r s : Record) : Type 0 where
  pub entry : r.entry ≡ s.entry
  pub values : r.values ≡ s.values
  pub bytes : record_bytes r ≡ record_bytes s

-- Frames in their orders with the same records and equal ends: they are the same but for their roots.
abbrev pub AreWrittenAlike : Frame → Frame → Type 0
AreWrittenAlike o p = (o.rows ≡ p.rows) × (o.end ≡ p.end)
