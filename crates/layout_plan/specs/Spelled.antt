-- Of the inside. What is told of one field's spelling.
use Rattle.std.specs.Prelude.{◌≡◌, ℕ, ◌+◌, ◌≤◌, ◌<◌, ◌==◌, if◌then◌else◌, List, length, drop, Result, Ok, Err}
use Rattle.record_values.specs.declared.values.Value.{Value}
use Rattle.layout_plan.specs.declared.fields.Form.{Form}
use Rattle.layout_plan.specs.declared.faults.BodyReason.{BodyReason}
use Rattle.layout_plan.specs.declared.faults.BodyReason.TheVariants.{BodyShort}
use Rattle.layout_plan.specs.declared.spelled.Spelled.{Spelled}
use Rattle.layout_plan.specs.Body.{value_length, text_length}
use Rattle.layout_plan.specs.Reading.{Found}

-- a value is found at the front of the bytes, and this is told of it
pub record IsSpelled (found : Found Value) (form : Form) (bytes : List ℕ) (s : Spelled) : Type 0 where
  pub value : Value
  pub is : found ≡ Ok (value, drop s.length bytes)
  pub within : s.length ≤ length bytes
  pub size : s.length + s.zero_texts ≡ value_length form value
  pub few_texts : s.zero_texts ≤ s.length

-- what is told of what is found
abbrev pub Tells : Found Value → Form → List ℕ → Result Spelled BodyReason → Type 0
Tells found form bytes (Ok s) = IsSpelled found form bytes s
Tells found form bytes (Err reason) = found ≡ Err reason

-- a spelling of two bytes is that of a length of 0 alone
abbrev pub zero_texts_of : ℕ → ℕ
zero_texts_of length = if length == 2 then 1 else 0

-- a text is found at the front of the bytes, in this many
pub record IsTextSpelled (found : Found (List ℕ)) (bytes : List ℕ) (size : ℕ) : Type 0 where
  pub text : List ℕ
  pub is : found ≡ Ok (text, drop size bytes)
  pub within : size ≤ length bytes
  pub low : 2 ≤ size
  pub counted : size + zero_texts_of size ≡ text_length text

abbrev pub TellsText : Found (List ℕ) → List ℕ → Result ℕ BodyReason → Type 0
TellsText found bytes (Ok size) = IsTextSpelled found bytes size
TellsText found bytes (Err reason) = found ≡ Err reason

-- so many bytes are there, or they are not
abbrev pub TellsLength : ℕ → List ℕ → Result Spelled BodyReason → Type 0
TellsLength size bytes (Ok s) = (size ≤ length bytes) × (s ≡ record { length = size; zero_texts = 0 })
TellsLength size bytes (Err reason) = (length bytes < size) × (reason ≡ BodyShort)
