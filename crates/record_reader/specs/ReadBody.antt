-- What the reading of a body answers.
use Rattle.std.specs.Prelude.{◌≡◌, ℕ, List, Result, Ok, Err, Some, ⊤}
use Rattle.scalar_types.specs.declared.Order.{Order}
use Rattle.record_values.specs.declared.values.Value.{Value}
use Rattle.layout_plan.specs.declared.fields.Field.{Field}
use Rattle.layout_plan.specs.Body.{IsBody, HasBody}
use Rattle.layout_plan.specs.Reading.{fault_of}
use Rattle.record_reader.specs.declared.cursor.Stop.{Stop}
use Rattle.record_reader.specs.declared.cursor.Stop.TheVariants.{At}
use Rattle.record_reader.specs.declared.cursor.Stop.TheVariants as stop
use Rattle.record_reader.specs.declared.reading.BodyError.{BodyError}
use Rattle.record_reader.specs.declared.reading.BodyError.TheVariants.{Fault, NoMemory}

-- The values that the bytes spell before some tail; or the fault of bytes that spell no values before any tail; or that
-- memory is wanting.
abbrev pub Reads : Order → List Field → List ℕ → Result (List Value) BodyError → Type 0
Reads order fields bytes (Ok values) = (tail : List ℕ) × IsBody order fields values tail bytes
Reads order fields bytes (Err (Fault fault)) = (fault_of order fields bytes ≡ Some fault)
    × (HasBody order fields bytes → ⊥)
Reads order fields bytes (Err NoMemory) = ⊤

-- the error of a stop at a field
abbrev pub stop_of : ℕ → Stop → BodyError
stop_of field (At reason) = Fault (record { field = field; reason = reason })
stop_of field stop.NoMemory = NoMemory
