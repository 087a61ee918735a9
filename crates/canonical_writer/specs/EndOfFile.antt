-- What FrEndOfFile tells, by the fields of its layout (LIGO-T970130 v8, FrEndOfFile).
use Rattle.std.specs.Prelude.{◌≡◌, ℕ, ◌^◌, ◌<◌, ◌==◌, if◌then◌else◌, List, [], ◌∷◌, slice_get, Some, ⊤}
use Rattle.scalar_types.specs.Number.{size_of}
use Rattle.record_values.specs.declared.values.Value.{Value}
use Rattle.record_values.specs.declared.values.Value.TheVariants as value
use Rattle.layout_plan.specs.declared.fields.Form.{Form}
use Rattle.layout_plan.specs.declared.fields.Form.TheVariants.{Number, Pair, Text, Link}
use Rattle.layout_plan.specs.declared.fields.Field.{Field}
use Rattle.contents_table.specs.Told.{blank_single, told_at}
use Rattle.canonical_writer.specs.declared.end_values.EndOfFile.{EndOfFile}
use Rattle.canonical_writer.specs.declared.end_values.EndFields.{EndFields}

abbrev pub told_of : EndFields → EndOfFile → List (ℕ × Value)
told_of fields end =
    (fields.frames, value.Num end.frames) ∷ (fields.bytes, value.Num end.bytes)
    ∷ (fields.seek, value.Num end.seek) ∷ []

-- one item: a number, or what tells nothing
abbrev pub single_told : Form → ℕ → Value
single_told (Number width) n = value.Num n
single_told (Pair width) n = blank_single (Pair width)
single_told Text n = blank_single Text
single_told Link n = blank_single Link

-- the number has the form's width
abbrev pub FitsForm : Form → ℕ → Type 0
FitsForm (Number width) n = n < 256 ^ size_of width
FitsForm (Pair width) n = ⊤
FitsForm Text n = ⊤
FitsForm Link n = ⊤

-- the number that the field of a number tells, or 0
abbrev pub number_in : EndFields → EndOfFile → ℕ → ℕ
number_in fields end k =
    if k == fields.frames then end.frames
    else (if k == fields.bytes then end.bytes else (if k == fields.seek then end.seek else 0))

-- Each field is a single item that can spell what it tells.
pub record FitsField (told : EndFields) (end : EndOfFile) (k : ℕ) (f : Field) : Type 0 where
  pub single : f.counts ≡ []
  pub value : told_at (told_of told end) k (blank_single f.form) ≡ single_told f.form (number_in told end k)
  pub wide : FitsForm f.form (number_in told end k)

abbrev pub FitsEnd : List Field → EndFields → EndOfFile → Type 0
FitsEnd fields told end = (k : ℕ) (f : Field) → slice_get fields k ≡ Some f → FitsField told end k f
