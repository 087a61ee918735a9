-- What the program prints and ends with.
use Rattle.std.specs.Prelude.{◌≡◌, ℕ, List, [], ◌∷◌, ◌++◌, codes}
use Rattle.std.specs.Fmt.{decimal}
use Rattle.frame_outside.specs.Shelf.{Outside, Told}
use Rattle.frame_outside.specs.Sink.{Output, Appends}
use Rattle.outside_trial.specs.Copying.{IsCopied}

abbrev pub copied_text : ℕ → List ℕ
copied_text count = codes "copied " ++ (decimal count ++ codes "\n")

-- the words are two names, the file of the one was copied to that of the other, and how long it is was
-- printed
pub record CopiesAndPrints (words : List (List ℕ)) (old new : Outside) (before after : Output) : Type 0 where
  pub from : List ℕ
  pub to : List ℕ
  pub count : ℕ
  pub names : words ≡ from ∷ to ∷ []
  pub copied : Told old.files (λ files. IsCopied files new.files from to count)
  pub printed : Appends before after (copied_text count)
