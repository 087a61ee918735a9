-- The laws of what files give.
use Rattle.std.specs.Prelude.{◌≡◌, ℕ, List}
use Rattle.std.specs.List.{AllZip}
use Rattle.frame_content.specs.Frames.{Frame}
use Rattle.canonical_file.specs.Ordered.{IsInOrder}
use Rattle.frame_reader.specs.Gives.{Ending, Gives}

-- Each file gives some frames, each of which has an order, and ends in some way.
abbrev pub EachFileGives : Type 0
EachFileGives =
    (file : List ℕ) → (frames : List Frame) × (ordered : List Frame) × (ending : Ending) × Gives file frames ending
    × AllZip IsInOrder frames ordered

-- A file gives one list of frames, each in one order, and ends in one way.
abbrev pub NoFileGivesTwice : Type 0
NoFileGivesTwice =
    (file : List ℕ) (frames others ordered also : List Frame) (ending end : Ending) → Gives file frames ending
    → Gives file others end → AllZip IsInOrder frames ordered → AllZip IsInOrder others also
    → (ordered ≡ also) × (ending ≡ end)
