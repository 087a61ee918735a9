-- The walk of a file: its header, and then every structure by itself, by its length alone.
use Rattle.std.specs.Prelude.{◌≡◌, ℕ, ◌+◌, ◌<◌, ◌≤◌, ◌⊎◌, ⊤, List, [], ◌∷◌, ◌++◌, length, take, drop, Ok, Err}
use Rattle.std.specs.List.{concat}
use Rattle.scalar_types.specs.declared.Order.{Order}
use Rattle.frame_head.specs.Header.{header_of}
use Rattle.frame_head.specs.Structure.{IsStructure, common_of}
use Rattle.file_grammar.specs.declared.reason.Reason.{Reason}
use Rattle.file_grammar.specs.declared.reason.Reason.TheVariants.{CutHeader, BadHeader, CutRecord, LengthSmall}
use Rattle.file_grammar.specs.declared.reason.Reason.TheVariants.{RecordLimit, FileLimit}
use Rattle.frame_tool.specs.declared.verdict.Verdict.{Verdict}
use Rattle.frame_tool.specs.declared.verdict.Verdict.TheVariants.{Sound, Wrong}
use Rattle.file_grammar.specs.Reason.{number_of}
pub use Rattle.file_grammar.specs.Structure.{record_limit, file_limit}

-- a structure that may stand at a place
pub record MayStand (order : Order) (place : ℕ) (structure : List ℕ) : Type 0 where
  pub whole : IsStructure order structure
  pub small : length structure ≤ record_limit
  pub within : place + length structure ≤ file_limit

-- structures that may stand one after another from a place on
abbrev pub StandFrom : Order → ℕ → List (List ℕ) → Type 0
StandFrom order place [] = ⊤
StandFrom order place (structure ∷ others) = MayStand order place structure
    × StandFrom order (place + length structure) others

-- what a reason says of a structure's place, of the bytes that are left there, and of the length that they tell
abbrev pub Holds : Reason → ℕ → ℕ → ℕ → Type 0
Holds CutRecord place left told = (0 < left) × ((left < 14) ⊎ ((14 ≤ told) × (told ≤ record_limit) × (left < told)))
Holds LengthSmall place left told = (14 ≤ left) × (told < 14)
Holds RecordLimit place left told = (14 ≤ left) × (record_limit < told)
Holds FileLimit place left told = (14 ≤ left) × (file_limit < place + told)
Holds _ place left told = ⊥

-- the reason of the least number that holds
pub record IsFault (order : Order) (place : ℕ) (rest : List ℕ) (reason : Reason) : Type 0 where
  pub holds : Holds reason place (length rest) (common_of order rest).length
  pub least : (other : Reason) → Holds other place (length rest) (common_of order rest).length
      → number_of reason ≤ number_of other

-- a file is its header, structures that may stand there one after another, and a rest
pub record IsWalked (file : List ℕ) (order : Order) (structures : List (List ℕ)) (rest : List ℕ) : Type 0 where
  pub header : header_of (take 40 file) ≡ Ok order
  pub parts : drop 40 file ≡ concat structures ++ rest
  pub stand : StandFrom order 40 structures

-- what is wrong with a header
abbrev pub IsHeaderFault : List ℕ → ℕ → Reason → Type 0
IsHeaderFault file at CutHeader = (length file < 40) × (at ≡ length file)
IsHeaderFault file at BadHeader = (40 ≤ length file) × (header_of (take 40 file) ≡ Err (record { at = at }))
IsHeaderFault file at _ = ⊥

-- the fault of a rest, which is the first of the file since structures that may stand are before it
pub record IsStructureFault (file : List ℕ) (at : ℕ) (reason : Reason) : Type 0 where
  pub order : Order
  pub structures : List (List ℕ)
  pub rest : List ℕ
  pub size : 40 ≤ length file
  pub walked : IsWalked file order structures rest
  pub place : at ≡ 40 + length (concat structures)
  pub fault : IsFault order at rest reason

-- a file of structures to its very end
pub record IsSound (file : List ℕ) (order : Order) (count : ℕ) : Type 0 where
  pub structures : List (List ℕ)
  pub size : 40 ≤ length file
  pub walked : IsWalked file order structures []
  pub counted : count ≡ length structures

-- the verdict of a walk
abbrev pub IsVerdict : List ℕ → Verdict → Type 0
IsVerdict file (Sound order count) = IsSound file order count
IsVerdict file (Wrong at reason) = IsHeaderFault file at reason ⊎ IsStructureFault file at reason

-- each list of bytes has a verdict
abbrev pub EachFileHasAVerdict : Type 0
EachFileHasAVerdict = (file : List ℕ) → (verdict : Verdict) × IsVerdict file verdict

-- and no two
abbrev pub NoFileHasTwoVerdicts : Type 0
NoFileHasTwoVerdicts = (file : List ℕ) (first second : Verdict) → IsVerdict file first → IsVerdict file second
    → first ≡ second
