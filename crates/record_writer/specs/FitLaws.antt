-- The law of values and bodies.
use Rattle.std.specs.Prelude.{ℕ, ◌<◌, List, All}
use Rattle.scalar_types.specs.declared.Order.{Order}
use Rattle.record_values.specs.declared.values.Value.{Value}
use Rattle.layout_plan.specs.declared.fields.Field.{Field}
use Rattle.layout_plan.specs.Body.{IsBody}
use Rattle.record_writer.specs.Fit.{Fits}

-- The values that a body spells, in either order and with any tail, fit its fields.
abbrev pub ReadValuesFit : Type 0
ReadValuesFit =
    (order : Order) (fields : List Field) (values : List Value) (tail bytes : List ℕ) → All (λ b. b < 256) bytes
    → IsBody order fields values tail bytes → Fits fields values
