-- What is due of a scan: the cuts of a file's frames at the channel of a name, each in its order, up to what comes
-- first of the limit of files and a fault.
use Rattle.std.specs.Prelude.{◌≡◌, ℕ, if◌then◌else◌, nat_lt, List, [], ◌∷◌, Option, Some, None}
use Rattle.std.specs.List.{AllZip}
use Rattle.frame_outside.specs.Shelf.{Files}
use Rattle.file_grammar.specs.Structure.{file_limit}
use Rattle.frame_content.specs.Frames.{Frame}
use Rattle.contents_table.specs.declared.kind.Kind.{Kind}
use Rattle.canonical_file.specs.declared.closing.Closing.{Closing}
use Rattle.canonical_file.specs.Ordered.{IsInOrder}
use Rattle.canonical_file.specs.Written.{header_alone, after_frames}
use Rattle.canonical_writer.specs.declared.errors.WriteError.TheVariants as write
use Rattle.canonical_writer.specs.Writer.{size_with}
use Rattle.frame_reader.specs.Gives.{Ending, Closes, Breaks, Gives, HoldBytes}
use Rattle.splicer.specs.Due.{Course, Passes, Refuses, course}
use Rattle.channel_extract.specs.declared.errors.ExtractError.TheVariants as extract
use Rattle.channel_extract.specs.Cuts.{extraction}
use Rattle.channel_extract.specs.Due.{Due, Writes, Stops}

-- at the closing of a well-formed file, after these cuts
abbrev pub closing_due : Closing → List Frame → Due
closing_due closing [] = Stops extract.NoChannel []
closing_due closing (o ∷ os) =
    if nat_lt file_limit (size_with (after_frames header_alone (o ∷ os)) closing) then Stops extract.OutputLimit
    (o ∷ os)
    else Writes closing (o ∷ os)

-- After what comes of the cuts, of a file that ends so. A cut is refused for the limit of bytes alone: the cuts are no
-- more than the frames of the file, and their entries are those of one file, so none clashes.
abbrev pub IsDueAfter : Course → Ending → Due → Type 0
IsDueAfter (Refuses error stood) ending due = (error ≡ write.OutputLimit) × (due ≡ Stops extract.OutputLimit stood)
IsDueAfter (Passes stood) (Breaks fault) due = due ≡ Stops (extract.Fault fault) stood
IsDueAfter (Passes stood) (Closes closing) due = due ≡ closing_due closing stood

-- of a file that is held, by what it gives: the cuts of its frames are written one after another
pub record IsDueOf (file : List ℕ) (kind : Kind) (name : List ℕ) (due : Due) : Type 0 where
  pub frames : List Frame
  pub ordered : List Frame
  pub ending : Ending
  pub gives : Gives file frames ending
  pub in_order : AllZip IsInOrder (extraction kind name frames) ordered
  pub is : IsDueAfter (course None [] ordered) ending due

abbrev pub IsDueOfHeld : Option (List ℕ) → Kind → List ℕ → Due → Type 0
IsDueOfHeld None kind name due = due ≡ Stops extract.Device []
IsDueOfHeld (Some file) kind name due = IsDueOf file kind name due

-- What is due of a scan of the file of this name for the channel of a kind and name. The files hold bytes.
pub record IsDue (files : Files) (from : List ℕ) (kind : Kind) (name : List ℕ) (due : Due) : Type 0 where
  pub bytes : HoldBytes files
  pub of : IsDueOfHeld (files from) kind name due
