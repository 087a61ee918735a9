-- What is due of a splice, by what was written of an input.
use Rattle.std.proofs.Common.{◌≡◌, ◌⊎◌, inl, inr, ℕ, ◌+◌, List, [], ◌∷◌, ◌++◌, Option, Some, None, Result, Ok, Err}
use Rattle.std.proofs.Common.{refl, sym, ap}
use Rattle.std.proofs.Common.{subst, ◌∙◌}
use Rattle.std.proofs.lemmas.List.{append_assoc, append-nil}
use Rattle.std.specs.List.{AllZip}
use Rattle.frame_outside.specs.Shelf.{Files}
use Rattle.file_grammar.specs.declared.fault.Fault.{Fault}
use Rattle.frame_content.specs.Frames.{Frame}
use Rattle.canonical_file.specs.declared.closing.Closing.{Closing}
use Rattle.canonical_file.specs.Ordered.{IsInOrder}
use Rattle.canonical_file.specs.Written.{header_alone, after_frames}
use Rattle.canonical_laws.specs.Content.{HasContent}
use Rattle.canonical_writer.specs.declared.errors.WriteError.{WriteError}
use Rattle.canonical_writer.specs.declared.writer.Summary.{Summary}
use Rattle.canonical_writer.specs.Writer.{closing_due}
use Rattle.frame_reader.specs.Gives.{Ending, Closes, Breaks, Gives}
use Rattle.frame_reader.specs.Given.{AreFirst}
use Rattle.splicer.specs.declared.errors.SpliceError.TheVariants as splice
use Rattle.splicer.specs.Errors.{unwritten}
use Rattle.splicer.specs.Due.{Course, Passes, Refuses, course, Due, Writes, Stops, Next}
use Rattle.splicer.specs.Due.{held_then, closed_due, IsDueAtEnd, IsDueAfter, IsDueOf, IsDueOfHeld, IsDueFrom}
use Rattle.splicer.proofs.Courses.{stood_of, course-longer, course-refused, course-after}
use Rattle.frame_reader.proofs.FirstItems.{first-given, given-once, each-gives}

-- the frames that are due to be written
abbrev pub frames_of : Due → List Frame
frames_of (Writes closing frames) = frames
frames_of (Stops error frames) = frames

-- ---- an input, by what it gives

-- what is due of an input is what is due after the frames that it gives, whichever way they were found
due-given : (file : List ℕ) (closing : Option Closing) (stood frames ordered : List Frame) (ending : Ending)
    (number : ℕ) (next : Next) (due : Due) → Gives file frames ending → AllZip IsInOrder frames ordered
    → IsDueOf file closing stood number next due
    → IsDueAfter (course closing stood ordered) ending closing number next due
due-given file closing stood frames ordered ending number next due gives in_order is =
    let same = given-once file is.frames frames is.ordered ordered is.ending ending is.gives gives is.in_order
    in_order in
    let P : List Frame → Type 0 = λ fs. IsDueAfter (course closing stood fs) is.ending closing number next due in
    let Q : Ending → Type 0 = λ e. IsDueAfter (course closing stood ordered) e closing number next due in
    subst Q same.1 (subst P same.0 is.is)

-- a frame of the input is refused
pub due-refused : (file : List ℕ) (closing : Option Closing) (stood ordered then_stand : List Frame)
    (error : WriteError) (number : ℕ) (next : Next) (due : Due) → AreFirst file ordered
    → course closing stood ordered ≡ Refuses error then_stand → IsDueOf file closing stood number next due
    → due ≡ Stops (unwritten number error) then_stand
due-refused file closing stood ordered then_stand error number next due first refuses is =
    let longer = first-given file is.frames is.ordered ordered is.ending is.gives is.in_order first in
    let P : Course → Type 0 = λ c. IsDueAfter c is.ending closing number next due in
    subst P
    (ap (course closing stood) longer.1
    ∙ course-refused closing stood ordered longer.0 then_stand error refuses)
    is.is

-- the input has a fault
pub due-faulty : (file : List ℕ) (closing : Option Closing) (stood frames ordered then_stand : List Frame)
    (fault : Fault) (number : ℕ) (next : Next) (due : Due) → Gives file frames (Breaks fault)
    → AllZip IsInOrder frames ordered
    → course closing stood ordered ≡ Passes then_stand → IsDueOf file closing stood number next due
    → due ≡ Stops (splice.Fault number fault) then_stand
due-faulty file closing stood frames ordered then_stand fault number next due gives in_order passes is =
    let P : Course → Type 0 = λ c. IsDueAfter c (Breaks fault) closing number next due in
    subst P passes (due-given file closing stood frames ordered (Breaks fault) number next due gives in_order is)

-- all of it passes
pub due-next : (file : List ℕ) (closing : Option Closing) (stood frames ordered then_stand : List Frame) (own : Closing)
    (number : ℕ) (next : Next) (due : Due) → HasContent file (record { closing = own; frames = frames })
    → AllZip IsInOrder frames ordered → course closing stood ordered ≡ Passes then_stand
    → IsDueOf file closing stood number next due → next (held_then closing own) then_stand due
due-next file closing stood frames ordered then_stand own number next due content in_order passes is =
    let P : Course → Type 0 = λ c. IsDueAfter c (Closes own) closing number next due in
    subst P passes (due-given file closing stood frames ordered (Closes own) number next due content in_order is)

-- ---- what stands is due

-- what stands after the frames of an input is due to be written, where it is of the inputs after that
longer_after : (c : Course) (ending : Ending) (closing : Option Closing) (stood : List Frame) (number : ℕ) (next : Next)
    (due : Due)
    → ((held : Option Closing) (then_stand : List Frame) → next held then_stand due
    → (more : List Frame) × (frames_of due ≡ then_stand ++ more))
    → (more : List Frame) × (stood_of c ≡ stood ++ more) → IsDueAfter c ending closing number next due
    → (more : List Frame) × (frames_of due ≡ stood ++ more)
longer_after (Refuses error then_stand) ending closing stood number next due later (more, comes) is =
    (more, ap frames_of is ∙ comes)
longer_after (Passes then_stand) (Breaks fault) closing stood number next due later (more, comes) is =
    (more, ap frames_of is ∙ comes)
longer_after (Passes then_stand) (Closes own) closing stood number next due later (more, comes) is =
    let last = later (held_then closing own) then_stand is in
    (more ++ last.0, last.1 ∙ ap (λ fs. fs ++ last.0) comes ∙ append_assoc stood more last.0)

-- so it is of an input that is held or not
longer_held : (held : Option (List ℕ)) (closing : Option Closing) (stood : List Frame) (number : ℕ) (next : Next)
    (due : Due)
    → ((closing : Option Closing) (then_stand : List Frame) → next closing then_stand due
    → (more : List Frame) × (frames_of due ≡ then_stand ++ more))
    → IsDueOfHeld held closing stood number next due → (more : List Frame) × (frames_of due ≡ stood ++ more)
longer_held None closing stood number next due later is = ([], ap frames_of is ∙ sym (append-nil stood))
longer_held (Some file) closing stood number next due later is =
    longer_after (course closing stood is.ordered) is.ending closing stood number next due later
    (course-longer closing stood is.ordered) is.is

-- and so it is at the end of all inputs
longer_at_end : (closing : Option Closing) (stood : List Frame) (due : Due) → IsDueAtEnd closing stood due
    → (more : List Frame) × (frames_of due ≡ stood ++ more)
longer_at_end None stood due is = absurd is
longer_at_end (Some closing) stood due is = by (closing_due (after_frames header_alone stood) closing) is where
  by : (ends : Result Summary WriteError) → due ≡ closed_due ends closing stood
      → (more : List Frame) × (frames_of due ≡ stood ++ more)
  by (Ok summary) is = ([], ap frames_of is ∙ sym (append-nil stood))
  by (Err error) is = ([], ap frames_of is ∙ sym (append-nil stood))

-- what is due of the inputs after one of this number
abbrev pub next_of : Files → List (List ℕ) → ℕ → Next
next_of files names number = λ closing stood due. IsDueFrom files closing stood (number + 1) names due

-- what stands before inputs is due to be written, and some more
pub due-longer : (files : Files) (names : List (List ℕ)) (closing : Option Closing) (stood : List Frame) (number : ℕ)
    (due : Due) → IsDueFrom files closing stood number names due
    → (more : List Frame) × (frames_of due ≡ stood ++ more)
due-longer files [] closing stood number due is = longer_at_end closing stood due is
due-longer files (name ∷ names) closing stood number due is =
    longer_held (files name) closing stood number (next_of files names number) due
    (λ held then_stand. due-longer files names held then_stand (number + 1) due)
    is

-- and so is what passes of an input
pub due-begun : (files : Files) (names : List (List ℕ)) (file : List ℕ) (closing : Option Closing)
    (stood ordered then_stand : List Frame) (number : ℕ) (due : Due) → (ordered ≡ []) ⊎ AreFirst file ordered
    → course closing stood ordered ≡ Passes then_stand
    → IsDueOf file closing stood number (λ closing stood due. IsDueFrom files closing stood (number + 1) names due) due
    → (more : List Frame) × (frames_of due ≡ then_stand ++ more)
due-begun files names file closing stood ordered then_stand number due first passes is =
    let longer = by first in
    let P : Course → Type 0 = λ c. IsDueAfter c is.ending closing number (next_of files names number) due in
    longer_after (course closing then_stand longer.0) is.ending closing then_stand number (next_of files names number)
    due
    (λ held stand_then. due-longer files names held stand_then (number + 1) due)
    (course-longer closing then_stand longer.0)
    (subst P
    (ap (course closing stood) longer.1
    ∙ course-after closing stood ordered longer.0 then_stand passes)
    is.is)
  where
    by : (ordered ≡ []) ⊎ AreFirst file ordered → (rest : List Frame) × (is.ordered ≡ ordered ++ rest)
    by (inl none) = (is.ordered, ap (λ fs. fs ++ is.ordered) (sym none))
    by (inr are) = first-given file is.frames is.ordered ordered is.ending is.gives is.in_order are

-- ---- one due, and some

-- after the frames of an input one splice is due, where one is of the inputs after that
one_after : (c : Course) (ending : Ending) (closing : Option Closing) (number : ℕ) (next : Next) (first second : Due)
    → ((held : Option Closing) (then_stand : List Frame) → next held then_stand first → next held then_stand second
    → first ≡ second)
    → IsDueAfter c ending closing number next first → IsDueAfter c ending closing number next second → first ≡ second
one_after (Refuses error stood) ending closing number next first second later left right = left ∙ sym right
one_after (Passes stood) (Breaks fault) closing number next first second later left right = left ∙ sym right
one_after (Passes stood) (Closes own) closing number next first second later left right =
    later (held_then closing own) stood left right

-- so one is of an input that is held or not
one_held : (held : Option (List ℕ)) (closing : Option Closing) (stood : List Frame) (number : ℕ) (next : Next)
    (first second : Due)
    → ((closing : Option Closing) (then_stand : List Frame) → next closing then_stand first
    → next closing then_stand second → first ≡ second)
    → IsDueOfHeld held closing stood number next first → IsDueOfHeld held closing stood number next second
    → first ≡ second
one_held None closing stood number next first second later left right = left ∙ sym right
one_held (Some file) closing stood number next first second later left right =
    one_after (course closing stood left.ordered) left.ending closing number next first second later left.is
    (due-given file closing stood left.frames left.ordered left.ending number next second left.gives left.in_order
    right)

-- and one is at the end of all inputs
one_at_end : (closing : Option Closing) (stood : List Frame) (first second : Due) → IsDueAtEnd closing stood first
    → IsDueAtEnd closing stood second → first ≡ second
one_at_end None stood first second left right = absurd left
one_at_end (Some closing) stood first second left right = left ∙ sym right

-- some is due after the frames of an input, where some is of the inputs after that
some_after : (c : Course) (ending : Ending) (closing : Option Closing) (number : ℕ) (next : Next)
    → ((own : Closing) (then_stand : List Frame) → (due : Due) × next (held_then closing own) then_stand due)
    → (due : Due) × IsDueAfter c ending closing number next due
some_after (Refuses error stood) ending closing number next later = (Stops (unwritten number error) stood, refl)
some_after (Passes stood) (Breaks fault) closing number next later = (Stops (splice.Fault number fault) stood, refl)
some_after (Passes stood) (Closes own) closing number next later = later own stood

-- and some is of an input that is held or not
some_held : (held : Option (List ℕ)) (closing : Option Closing) (stood : List Frame) (number : ℕ) (next : Next)
    → ((own : Closing) (then_stand : List Frame) → (due : Due) × next (held_then closing own) then_stand due)
    → (due : Due) × IsDueOfHeld held closing stood number next due
some_held None closing stood number next later = (Stops splice.Device stood, refl)
some_held (Some file) closing stood number next later =
    let given = each-gives file in
    let found = some_after (course closing stood given.1) given.2 closing number next later in (
      found.0,
      record {
        frames = given.0;
        ordered = given.1;
        ending = given.2;
        gives = given.3;
        in_order = given.4;
        is = found.1;
      },
    )

-- after one input at least a closing is held
some_at_end : (closing : Option Closing) (own : Closing) (stood : List Frame)
    → (due : Due) × IsDueAtEnd (held_then closing own) stood due
some_at_end None own stood = (closed_due (closing_due (after_frames header_alone stood) own) own stood, refl)
some_at_end (Some first) own stood =
    (closed_due (closing_due (after_frames header_alone stood) first) first stood, refl)

-- Names of files have one splice that is due, and some.
pub no-two-dues : (files : Files) (names : List (List ℕ)) (closing : Option Closing) (stood : List Frame) (number : ℕ)
    (first second : Due) → IsDueFrom files closing stood number names first
    → IsDueFrom files closing stood number names second → first ≡ second
no-two-dues files [] closing stood number first second left right =
    one_at_end closing stood first second left right
no-two-dues files (name ∷ names) closing stood number first second left right =
    one_held (files name) closing stood number (next_of files names number) first second
    (λ held then_stand. no-two-dues files names held then_stand (number + 1) first second)
    left right

pub a-due : (files : Files) (name : List ℕ) (names : List (List ℕ)) (closing : Option Closing) (stood : List Frame)
    (number : ℕ) → (due : Due) × IsDueFrom files closing stood number (name ∷ names) due
a-due files name [] closing stood number =
    some_held (files name) closing stood number (next_of files [] number) (some_at_end closing)
a-due files name (other ∷ names) closing stood number =
    some_held (files name) closing stood number (next_of files (other ∷ names) number)
    (λ own then_stand. a-due files other names (held_then closing own) then_stand (number + 1))
