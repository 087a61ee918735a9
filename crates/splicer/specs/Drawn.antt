-- How many bytes of the inputs of a splice may be drawn: all of those before the one in which the answer comes, and of
-- that one no further than what a reader of it looks at there.
use Rattle.std.specs.Prelude.{◌≡◌, ℕ, suc, ◌+◌, ◌-◌, ◌≤◌, ◌⊎◌, ⊤, List, [], ◌∷◌, ◌++◌, length, Option, Some, None}
use Rattle.std.specs.Prelude.{Result, Ok, Err}
use Rattle.std.specs.List.{AllZip}
use Rattle.scalar_types.specs.declared.Order.{Order}
use Rattle.frame_outside.specs.Counts.{counted_by}
use Rattle.frame_outside.specs.Shelf.{Outside, Files}
use Rattle.file_grammar.specs.declared.fault.Fault.{Fault}
use Rattle.file_grammar.specs.Item.{Item, Before}
use Rattle.file_grammar.specs.MayStand.{Begins}
use Rattle.file_grammar.specs.Fault.{IsHeaderFault, IsItemFault}
use Rattle.frame_content.specs.Frames.{Frame}
use Rattle.structure_source.specs.Source.{bytes_drawn}
use Rattle.item_reader.specs.Looked.{look, IsWithinLook}
use Rattle.item_reader.specs.Reader.{Reader}
use Rattle.canonical_file.specs.declared.closing.Closing.{Closing}
use Rattle.canonical_file.specs.Ordered.{IsInOrder}
use Rattle.frame_reader.specs.Gives.{Ending, Closes, Breaks, Gives, frames_among}
use Rattle.frame_reader.specs.Given.{HasLooked}
use Rattle.splicer.specs.declared.errors.InputError.{InputError}
use Rattle.splicer.specs.declared.errors.InputError.TheVariants as input
use Rattle.splicer.specs.Due.{Course, Passes, Refuses, course, held_then}

-- the most that is drawn for a header
abbrev pub header_look : ℕ
header_look = 65576

-- ---- of one input

-- Up to its fault: no further than the look of the place at which it stands, or of the place after the entry there.
abbrev pub DrawsToFault : List ℕ → Fault → ℕ → Type 0
DrawsToFault file fault n =
    (IsHeaderFault file fault × (n ≤ header_look))
    ⊎ ((is : IsItemFault file fault) × IsWithinLook is.order file is.last.place n)

-- Up to the frame of a number, from 0: no further than the look of the place after its end record.
pub record DrawsToFrame (file : List ℕ) (number n : ℕ) : Type 0 where
  pub order : Order
  pub earlier : List Item
  pub taken : Item
  pub last : Before
  pub begins : Begins file order (earlier ++ taken ∷ []) last
  pub before : length (frames_among order earlier) ≡ number
  pub with_it : length (frames_among order (earlier ++ taken ∷ [])) ≡ suc number
  pub within : n ≤ look order file last.place

-- ---- of all inputs

-- of the inputs after one, by the closing that is held and the frames that stand then
abbrev pub Rest : Type 1
Rest = Option Closing → List Frame → ℕ → Type 0

-- of an input whose frames take this course after those that stood, and of those after it
abbrev pub MayDrawAfter : List ℕ → List Frame → Course → Ending → Option Closing → Rest → ℕ → Type 0
MayDrawAfter file stood (Refuses error then_stand) ending closing rest n =
    DrawsToFrame file (length then_stand - length stood) n
MayDrawAfter file stood (Passes then_stand) (Breaks fault) closing rest n = DrawsToFault file fault n
MayDrawAfter file stood (Passes then_stand) (Closes own) closing rest n =
    (m : ℕ) × rest (held_then closing own) then_stand m × (n ≤ length file + m)

pub record MayDrawOf (file : List ℕ) (closing : Option Closing) (stood : List Frame) (rest : Rest) (n : ℕ)
    : Type 0 where
  pub frames : List Frame
  pub ordered : List Frame
  pub ending : Ending
  pub gives : Gives file frames ending
  pub in_order : AllZip IsInOrder frames ordered
  pub within : MayDrawAfter file stood (course closing stood ordered) ending closing rest n

abbrev pub MayDrawOfHeld : Option (List ℕ) → Option Closing → List Frame → Rest → ℕ → Type 0
MayDrawOfHeld None closing stood rest n = n ≡ 0
MayDrawOfHeld (Some file) closing stood rest n = MayDrawOf file closing stood rest n

-- of the inputs from one on, by the closing that is held and the frames that stand before them
abbrev pub MayDrawFrom : Files → Option Closing → List Frame → List (List ℕ) → ℕ → Type 0
MayDrawFrom files closing stood [] n = n ≡ 0
MayDrawFrom files closing stood (name ∷ names) n =
    MayDrawOfHeld (files name) closing stood (λ closing stood n. MayDrawFrom files closing stood names n) n

-- So many bytes may be drawn where the files of these names are spliced.
abbrev pub MayDraw : Files → List (List ℕ) → ℕ → Type 0
MayDraw files names n = MayDrawFrom files None [] names n

-- so many bytes were taken at most
abbrev pub Took : Outside → Outside → ℕ → Type 0
Took old new n = new.taken ≤ counted_by old.taken n

-- the inputs of these names were drawn no further
abbrev pub DrawsInAll : Files → List (List ℕ) → Outside → Outside → Type 0
DrawsInAll files names old new = (n : ℕ) × MayDraw files names n × Took old new n

-- ---- on the way

-- Up to the frame after these, which end among the items before its end record.
pub record DrawsToNext (file : List ℕ) (frames : List Frame) (n : ℕ) : Type 0 where
  pub to : DrawsToFrame file (length frames) n
  pub before_are : frames ≡ frames_among to.order to.earlier

-- Of an input after frames that stood: frames of it have passed, and the reader has looked no further than at what
-- stands after them; or at the place after one more frame.
pub record HasReached (file : List ℕ) (closing : Option Closing) (stood : List Frame) (n : ℕ) : Type 0 where
  pub frames : List Frame
  pub ordered : List Frame
  pub then_stand : List Frame
  pub in_order : AllZip IsInOrder frames ordered
  pub passes : course closing stood ordered ≡ Passes then_stand
  pub looked : HasLooked file frames n ⊎ DrawsToNext file frames n

-- How far an input was read, by the answer. Before the first item it may be as far as for a header.
abbrev pub ReachesIn : List ℕ → Option Closing → List Frame → ℕ → Result Unit InputError → Type 0
ReachesIn file closing stood n (Ok x) = ⊤
ReachesIn file closing stood n (Err (input.Fault fault)) = DrawsToFault file fault n
ReachesIn file closing stood n (Err (input.Write error)) = (n ≤ header_look) ⊎ HasReached file closing stood n

-- how much was drawn of an input after frames that stood
pub record DrawsInput (file : List ℕ) (closing : Option Closing) (stood : List Frame) (old new : Outside)
    (result : Result Unit InputError) : Type 0 where
  pub drawn : ℕ
  pub took : Took old new drawn
  pub within : drawn ≤ length file
  pub reaches : ReachesIn file closing stood drawn result

-- How much was drawn of the inputs before one: with what may be drawn of it and those after it that may be drawn of
-- all.
pub record HasDrawn (files : Files) (names : List (List ℕ)) (old now : Outside) (closing : Option Closing)
    (stood : List Frame) (others : List (List ℕ)) : Type 0 where
  pub drawn : ℕ
  pub took : Took old now drawn
  pub may : (m : ℕ) → MayDrawFrom files closing stood others m → (n : ℕ) × MayDraw files names n × (drawn + m ≤ n)

-- A reader has read its slot, all of which was taken since.
pub record HasRead (file : List ℕ) (first now : Outside) (r : Reader) : Type 0 where
  pub took : Took first now (bytes_drawn r.position)
  pub within : bytes_drawn r.position ≤ length file
