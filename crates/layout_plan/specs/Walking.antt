-- Of the inside. What a walk over fields tells, and what is told of a body.
use Rattle.std.specs.Prelude.{◌≡◌, ◌+◌, ◌-◌, ◌≤◌, ◌<◌, ◌⊎◌, List, [], ℕ, Result, Ok, Err, length, take, drop, map}
use Rattle.std.specs.Prelude.{slice_index}
use Rattle.std.specs.declared.alloc.AllocError.{AllocError}
use Rattle.type_text.specs.declared.types.Link.{Link as StructLink}
use Rattle.record_values.specs.declared.values.Value.{Value}
use Rattle.layout_plan.specs.declared.walking.Walked.{Walked}
use Rattle.scalar_types.specs.declared.Order.{Order}
use Rattle.scalar_types.specs.Number.{number, size_of}
use Rattle.layout_plan.specs.declared.fields.Form.{Form}
use Rattle.layout_plan.specs.declared.fields.Form.TheVariants.{Number}
use Rattle.layout_plan.specs.declared.fields.Count.{Count}
use Rattle.layout_plan.specs.declared.fields.Field.{Field}
use Rattle.layout_plan.specs.declared.faults.BodyFault.{BodyFault}
use Rattle.layout_plan.specs.declared.faults.Measured.{Measured}
use Rattle.layout_plan.specs.Body.{number_of, values_length, IsMeasured}
use Rattle.layout_plan.specs.Reading.{fields_in, body_in}
use Rattle.layout_plan.specs.Appends.{Appends}
use Rattle.layout_plan.specs.Links.{is_link, AreBodyLinks}
use Rattle.layout_plan.specs.Marks.{mark_of, end_of, place_of, numbers_where}

-- the first k fields have values, which end at a place of the body
pub record IsReached (order : Order) (fields : List Field) (body : List ℕ) (k at zero_texts : ℕ) : Type 0 where
  pub values : List Value
  pub reads : fields_in order [] (take k fields) body ≡ Ok (values, drop at body)
  pub sizes : at + zero_texts ≡ values_length (take k fields) values
  pub within : at ≤ length body
  pub few_texts : zero_texts ≤ at

-- the first k fields and the place after them are where their marks tell
pub record ArePlaces (order : Order) (fields : List Field) (body : List ℕ) (k : ℕ) (ends : List ℕ) : Type 0 where
  pub room : (mark_of fields k).varied ≤ length ends
  pub reached : (i : ℕ) → i ≤ k → (zero_texts : ℕ)
      × IsReached order fields body i (place_of ends (mark_of fields i)) zero_texts

-- the link fields and the places after them are where their marks tell
abbrev pub AreLinkPlaces : Order → List Field → List ℕ → List ℕ → Type 0
AreLinkPlaces order fields body ends =
    (j : ℕ) → j < length (numbers_where is_link 0 fields)
    → ArePlaces order fields body (slice_index (numbers_where is_link 0 fields) j + 1) ends

-- the numbers of the first k fields
abbrev pub AreNumbers : Order → List Field → List ℕ → ℕ → List ℕ → Type 0
AreNumbers order fields body k numbers =
    (values : List Value) × (rest : List ℕ) × (fields_in order [] (take k fields) body ≡ Ok (values, rest))
    × (numbers ≡ map number_of values)

-- the first of the varied fields are walked over: the last of them stands before field `next`, and their ends are known
pub record IsWalked (order : Order) (fields : List Field) (body : List ℕ) (varied : ℕ) (ends : List ℕ)
    (zero_texts : ℕ) : Type 0 where
  pub next : ℕ
  pub few : next ≤ length fields
  pub mark : mark_of fields next ≡ record { varied = varied; skip = 0 }
  pub before : (i : ℕ) → i < next → (mark_of fields i).varied < varied
  pub reached : IsReached order fields body next (end_of ends varied) zero_texts
  pub places : ArePlaces order fields body next ends

abbrev pub HasWalked : List Field → List ℕ → ℕ → List ℕ → Type 0
HasWalked fields body varied ends =
    (order : Order) × (zero_texts : ℕ) × IsWalked order fields body varied ends zero_texts

-- the first k fields have values, and those before number `known` are where their marks tell; or one of the fields has
-- the fault
abbrev pub TellsReached : Order → List Field → List ℕ → ℕ → ℕ → List ℕ → Result Walked BodyFault → Type 0
TellsReached order fields body k known ends (Ok w) =
    IsReached order fields body k w.at w.zero_texts × ArePlaces order fields body known ends
TellsReached order fields body k known ends (Err fault) = fields_in order [] fields body ≡ Err fault

-- the number that a field at the front of the bytes is, where it is a single one
abbrev pub number_at : Order → Form → List Count → List ℕ → ℕ
number_at order (Number width) [] bytes = number order (take (size_of width) bytes)
number_at order form counts bytes = 0

-- the body is measured, or it has the fault
abbrev pub TellsBody : Order → List Field → List ℕ → Result Measured BodyFault → Type 0
TellsBody order fields bytes (Ok m) = IsMeasured order fields bytes m.links m.zero_texts
TellsBody order fields bytes (Err fault) = body_in order fields bytes ≡ Err fault

-- all fields have values, after which no bytes stand or four, and are where their marks tell
pub record IsWholeWalk (order : Order) (fields : List Field) (body : List ℕ) (ends : List ℕ) (w : Walked) : Type 0 where
  pub reached : IsReached order fields body (length fields) w.at w.zero_texts
  pub places : ArePlaces order fields body (length fields) ends
  pub ended : (length body - w.at ≡ 0) ⊎ (length body - w.at ≡ 4)

-- the whole body is walked over, or it has the fault
abbrev pub TellsWhole : Order → List Field → List ℕ → List ℕ → Result Walked BodyFault → Type 0
TellsWhole order fields body ends (Ok w) = IsWholeWalk order fields body ends w
TellsWhole order fields body ends (Err fault) = body_in order fields body ≡ Err fault

-- the body is measured, and its links stand behind the old ones; or it has the fault, or memory is out, and no link is
-- put there
abbrev pub TellsLinks : Order → List Field → List ℕ → List StructLink → List StructLink
    → Result (Result Measured BodyFault) AllocError → Type 0
TellsLinks order fields bytes old new (Ok (Ok m)) =
    IsMeasured order fields bytes m.links m.zero_texts × Appends (AreBodyLinks order fields bytes) old new
TellsLinks order fields bytes old new (Ok (Err fault)) = (body_in order fields bytes ≡ Err fault) × (new ≡ old)
TellsLinks order fields bytes old new (Err e) = new ≡ old
