-- The file that a check reads.
use Rattle.std.proofs.Common.{◌≡◌, ℕ, List, [], ◌∷◌, ◌++◌, Option, Some, ap, ◌∙◌}
use Rattle.std.specs.Option.{option_map}
use Rattle.frame_outside.specs.Shelf.{Outside, Reading, Source, Files, Opens, reading_at}
use Rattle.frame_outside.specs.Shelf.{beginning, beginning_of}
use Rattle.frame_outside.proofs.Slots.{reading_at-given}
use Rattle.item_reader.specs.Reader.{file_of}

-- a slot that was opened is that of the file of the name
pub file_of-opened : (old new : Outside) (name : List ℕ) (slot : ℕ) → Opens old new name slot
    → (files : Files) (file : List ℕ) → old.files ≡ Some files → files name ≡ Some file
    → file_of new slot ≡ Some file
file_of-opened old new name slot opens files file told held =
    let opened : Option Reading → Option (List ℕ) = λ told. option_map (λ reading. reading.opened) told in
    ap (λ slots. opened (reading_at slots slot)) opens.slots
    ∙ ap (λ n. opened (reading_at (old.slots ++ Source (beginning_of old.files name) ∷ []) n)) opens.number
    ∙ ap opened (reading_at-given old.slots (beginning_of old.files name))
    ∙ ap (λ files. opened (beginning_of files name)) told
    ∙ ap (λ held. opened (option_map beginning held)) held
