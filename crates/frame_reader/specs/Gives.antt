-- What a file gives: its frames, and then its closing or its first fault.
use Rattle.std.specs.Prelude.{◌≡◌, ℕ, ◌⊎◌, List, [], map, Some}
use Rattle.scalar_types.specs.declared.Order.{Order}
use Rattle.frame_outside.specs.Shelf.{Files}
use Rattle.file_grammar.specs.declared.fault.Fault.{Fault}
use Rattle.file_grammar.specs.Item.{Item}
use Rattle.file_grammar.specs.Fault.{IsHeaderFault, IsItemFault}
use Rattle.frame_content.specs.Frames.{Frame}
use Rattle.file_content.specs.Stored.{frames_in}
use Rattle.file_content.specs.Contents.{content_frame}
use Rattle.canonical_file.specs.declared.closing.Closing.{Closing}
use Rattle.canonical_file.specs.Ranges.{AreBytes}
use Rattle.canonical_laws.specs.Content.{HasContent}

-- how a file ends: it is well-formed and has a closing, or it has a first fault
pub data Ending : Type 0 where
  Closes : (closing : Closing) → Ending
  Breaks : (fault : Fault) → Ending

-- the frames that end among the items of a file
abbrev pub frames_among : Order → List Item → List Frame
frames_among order items = map (content_frame order) (frames_in order items)

-- the frames that end before a fault
pub record GivesUntil (file : List ℕ) (frames : List Frame) (fault : Fault) : Type 0 where
  pub is_fault : IsItemFault file fault
  pub frames_are : frames ≡ frames_among is_fault.order is_fault.items

-- The file gives these frames, and ends so.
abbrev pub Gives : List ℕ → List Frame → Ending → Type 0
Gives file frames (Closes closing) = HasContent file (record { closing = closing; frames = frames })
Gives file frames (Breaks fault) = ((frames ≡ []) × IsHeaderFault file fault) ⊎ GivesUntil file frames fault

-- each file is a list of bytes
abbrev pub HoldBytes : Files → Type 0
HoldBytes files = (name file : List ℕ) → files name ≡ Some file → AreBytes file
