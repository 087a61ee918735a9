-- The layouts of the two structures that a dictionary is made of (LIGO-T970130 v8: FrSH, class 1, and FrSE, class 2).
use Rattle.std.specs.Prelude.{false, List, [], ◌∷◌}
use Rattle.scalar_types.specs.declared.Width.TheVariants.{Two}
use Rattle.layout_plan.specs.declared.fields.Form.{Form}
use Rattle.layout_plan.specs.declared.fields.Form.TheVariants.{Number, Text}
use Rattle.layout_plan.specs.declared.fields.Field.{Field}

-- a field without dimension
abbrev pub single : Form → Field
single form = record { form = form; counts = []; is_sum = false }

-- FrSH: the name of a structure, its class, a comment
abbrev pub structure_fields : List Field
structure_fields = single Text ∷ single (Number Two) ∷ single Text ∷ []

-- FrSE: the name of an element, its type's text, a comment
abbrev pub element_fields : List Field
element_fields = single Text ∷ single Text ∷ single Text ∷ []
