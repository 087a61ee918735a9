-- What is due of the comparison of two files: the fault of the first, then that of the second, and else whether they
-- hold the same content, or where they first differ.
use Rattle.std.specs.Prelude.{◌≡◌, ℕ, ◌⊎◌, List, Option, None, Some, Result, Ok, Err}
use Rattle.frame_outside.specs.Shelf.{Files}
use Rattle.frame_content.specs.Frames.{Frame}
use Rattle.canonical_file.specs.Contents.{Content, SameContent, IsFirstDifference}
use Rattle.frame_reader.specs.Gives.{Ending, Closes, Breaks, Gives, HoldBytes}
use Rattle.content_compare.specs.declared.answers.Comparison.{Comparison}
use Rattle.content_compare.specs.declared.answers.Comparison.TheVariants.{Same, Different}
use Rattle.content_compare.specs.declared.answers.CompareError.{CompareError}
use Rattle.content_compare.specs.declared.answers.CompareError.TheVariants.{Fault, Device, NoMemory}

abbrev pub Answer : Type 0
Answer = Result Comparison CompareError

-- of two contents: they are the same, or they first differ at this place
abbrev pub IsComparison : Content → Content → Comparison → Type 0
IsComparison c d Same = SameContent c d
IsComparison c d (Different place) = IsFirstDifference c d place

-- of files that give these frames and end so
abbrev pub IsDueBy : List Frame → Ending → List Frame → Ending → Answer → Type 0
IsDueBy frames (Breaks fault) others end due = due ≡ Err (Fault 0 fault)
IsDueBy frames (Closes closing) others (Breaks fault) due = due ≡ Err (Fault 1 fault)
IsDueBy frames (Closes closing) others (Closes end) due =
    (comparison : Comparison)
    × IsComparison (record { closing = closing; frames = frames }) (record { closing = end; frames = others })
    comparison
    × (due ≡ Ok comparison)

pub record IsDueOf (first second : List ℕ) (due : Answer) : Type 0 where
  pub frames : List Frame
  pub ending : Ending
  pub gives : Gives first frames ending
  pub others : List Frame
  pub end : Ending
  pub also : Gives second others end
  pub is : IsDueBy frames ending others end due

-- where a file is not held the shelf fails
abbrev pub IsDueOfHeld : Option (List ℕ) → Option (List ℕ) → Answer → Type 0
IsDueOfHeld (Some first) (Some second) due = IsDueOf first second due
IsDueOfHeld (Some first) None due = due ≡ Err Device
IsDueOfHeld None second due = due ≡ Err Device

-- What is due of a comparison of the files of two names. The files hold bytes.
pub record IsDue (files : Files) (first second : List ℕ) (due : Answer) : Type 0 where
  pub bytes : HoldBytes files
  pub is : IsDueOfHeld (files first) (files second) due

-- the answer is the due one, or the shelf or memory failed
abbrev pub IsAnswer : Answer → Answer → Type 0
IsAnswer answer due = (answer ≡ due) ⊎ ((answer ≡ Err Device) ⊎ (answer ≡ Err NoMemory))
