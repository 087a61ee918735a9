-- Contents, and their canonical files.
use Rattle.std.specs.Prelude.{◌≡◌, ℕ, zero, suc, ⊤, List, take, slice_get, Option, Some, None}
use Rattle.std.specs.List.{AllZip}
use Rattle.frame_content.specs.Frames.{Frame}
use Rattle.canonical_file.specs.declared.closing.Closing.{Closing}
use Rattle.canonical_file.specs.Ordered.{SameFrame, IsInOrder}
use Rattle.canonical_file.specs.Written.{canonical_head, canonical_file}

-- What a file holds: its closing, with the entries as they are written again, and its frames.
pub record Content : Type 0 where
  pub closing : Closing
  pub frames : List Frame

-- Two contents are the same: equal closings, and frame by frame equal graphs.
pub record SameContent (c d : Content) : Type 0 where
  pub closing : c.closing ≡ d.closing
  pub frames : AllZip SameFrame c.frames d.frames

-- what two contents have at one number: frames that are not equal, or a frame in one of them alone
abbrev pub Differ : Option Frame → Option Frame → Type 0
Differ (Some f) (Some g) = SameFrame f g → ⊥
Differ (Some f) None = ⊤
Differ None (Some g) = ⊤
Differ None None = ⊥

-- The first difference of two contents: 0 where their closings differ; else the number, from 1, of the first frame that
-- differs or that one of them alone has.
abbrev pub IsFirstDifference : Content → Content → ℕ → Type 0
IsFirstDifference c d zero = c.closing ≡ d.closing → ⊥
IsFirstDifference c d (suc k) =
    (c.closing ≡ d.closing) × AllZip SameFrame (take k c.frames) (take k d.frames)
    × Differ (slice_get c.frames k) (slice_get d.frames k)

-- The bytes are the canonical head of the frames.
pub record IsCanonicalHead (frames : List Frame) (bytes : List ℕ) : Type 0 where
  pub ordered : List Frame
  pub in_order : AllZip IsInOrder frames ordered
  pub is : bytes ≡ canonical_head ordered

-- The bytes are the canonical file of the content.
pub record IsCanonical (c : Content) (bytes : List ℕ) : Type 0 where
  pub ordered : List Frame
  pub in_order : AllZip IsInOrder c.frames ordered
  pub is : bytes ≡ canonical_file c.closing ordered
