-- What is due at the closing of a file: of no cuts that there is no channel, and of two cuts their canonical file.
use Rattle.std.proofs.Common.{◌≡◌, ℕ, Some, None, List, [], ◌∷◌, Ok, refl}
use Rattle.frame_content.specs.Frames.{Frame}
use Rattle.contents_table.specs.declared.kind.Kind.TheVariants.{Adc}
use Rattle.canonical_file.specs.Ordered.{ordered}
use Rattle.canonical_file.proofs.Sample.{computing, closing, frame}
use Rattle.splicer.specs.Due.{Passes, course}
use Rattle.channel_extract.specs.declared.errors.ExtractError.TheVariants as extract
use Rattle.channel_extract.specs.Cuts.{cut}
use Rattle.channel_extract.specs.Due.{Writes, Stops, answer_of}
use Rattle.channel_extract.specs.Scans.{closing_due}

second : Frame
unfolding computing
second = ordered (cut frame Adc 5) (0 ∷ 1 ∷ 5 ∷ 6 ∷ [])

none : closing_due closing [] ≡ Stops extract.NoChannel []
none = refl

two_pass : course None [] (second ∷ second ∷ []) ≡ Passes (second ∷ second ∷ [])
unfolding computing second
two_pass = refl

two_due : closing_due closing (second ∷ second ∷ []) ≡ Writes closing (second ∷ second ∷ [])
unfolding computing second
two_due = refl

two_answer : answer_of (Writes closing (second ∷ second ∷ [])) ≡ Ok (record { frames = 2; bytes = 3274 })
unfolding computing second
two_answer = refl
