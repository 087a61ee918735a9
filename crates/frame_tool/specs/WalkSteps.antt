-- What the parts of a walk find and do.
use Rattle.std.specs.Prelude.{◌≡◌, ℕ, ◌+◌, ◌-◌, ◌≤◌, nat_le, if◌then◌else◌, List, [], ◌++◌, length, take}
use Rattle.std.specs.List.{concat}
use Rattle.scalar_types.specs.declared.Order.{Order}
use Rattle.frame_outside.specs.Shelf.{Outside}
use Rattle.frame_outside.specs.SlotReader.{Buffered, Draws, Advances}
use Rattle.file_grammar.specs.declared.reason.Reason.{Reason}
use Rattle.frame_tool.specs.declared.verdict.Verdict.{Verdict}
use Rattle.frame_tool.specs.declared.verdict.Verdict.TheVariants.{Sound, Wrong}
use Rattle.frame_tool.specs.declared.walk.Found.{Found}
use Rattle.frame_tool.specs.declared.walk.Found.TheVariants.{End, Structure, Fault}
use Rattle.file_grammar.specs.Reason.{number_of}
use Rattle.frame_tool.specs.Walk.{record_limit, file_limit, MayStand, StandFrom, Holds, IsFault}

-- the bytes of a body that are passed over before its structure is judged
abbrev pub body_size_of : ℕ → ℕ
body_size_of length = if nat_le length record_limit then length - 14 else 0

-- a judgement by the bytes that are left at a place and the length that they tell
abbrev pub Judges : ℕ → ℕ → ℕ → Found → Type 0
Judges place left told End = left ≡ 0
Judges place left told (Structure size) = (told ≡ size) × (14 ≤ size) × (size ≤ left) × (size ≤ record_limit)
    × (place + size ≤ file_limit)
Judges place left told (Fault reason) = Holds reason place left told
    × ((other : Reason) → Holds other place left told → number_of reason ≤ number_of other)

-- what stands at the front of a rest
abbrev pub IsFound : Order → ℕ → List ℕ → Found → Type 0
IsFound order place rest End = rest ≡ []
IsFound order place rest (Structure size) = (size ≤ length rest) × MayStand order place (take size rest)
IsFound order place rest (Fault reason) = IsFault order place rest reason

-- a reader passed over what was found
abbrev pub Moves : Outside → Outside → Buffered → Buffered → ℕ → Found → Type 0
Moves old new before after place End = Draws old new before.slot
Moves old new before after place (Structure size) = Advances old new before after size × (14 ≤ size)
    × (place + size ≤ file_limit)
Moves old new before after place (Fault reason) = Draws old new before.slot

-- the front of a rest is structures that may stand after the header
pub record Stood (order : Order) (rest : List ℕ) (size count : ℕ) : Type 0 where
  pub structures : List (List ℕ)
  pub within : size ≤ length rest
  pub parts : take size rest ≡ concat structures
  pub stand : StandFrom order 40 structures
  pub counted : count ≡ length structures

-- a fault after structures that may stand after the header
pub record FaultAfter (order : Order) (rest : List ℕ) (at : ℕ) (reason : Reason) : Type 0 where
  pub structures : List (List ℕ)
  pub last : List ℕ
  pub parts : rest ≡ concat structures ++ last
  pub stand : StandFrom order 40 structures
  pub place : at ≡ 40 + length (concat structures)
  pub fault : IsFault order at last reason

-- the verdict on what stands after the header
abbrev pub FindsOn : Order → List ℕ → Verdict → Type 0
FindsOn order rest (Sound told count) = (told ≡ order) × Stood order rest (length rest) count
FindsOn order rest (Wrong at reason) = FaultAfter order rest at reason
