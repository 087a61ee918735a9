-- The law of splices.
use Rattle.std.specs.Prelude.{◌≡◌, List, ◌++◌, All, take, ℕ}
use Rattle.dictionary.specs.Same.{AreRead}
use Rattle.frame_content.specs.Frames.{Frame}
use Rattle.canonical_file.specs.Records.{Record, records_of}
use Rattle.canonical_file.specs.Written.{canonical_head, canonical_file}
use Rattle.canonical_file.specs.Contents.{Content}
use Rattle.canonical_file.specs.Splices.{IsSplice}

-- the types of a frame's entries are those that their texts read as
abbrev pub HasReadEntries : Frame → Type 0
HasReadEntries f = All (λ (r : Record). AreRead r.entry.elements) (records_of f)

-- The frames of a splice are written under the entries that are used first of each class, whichever entries they have
-- themselves.
abbrev pub SplicesAreWritten : Type 0
SplicesAreWritten =
    (first : Content) (others : List Content) (c : Content) (s : IsSplice first others c)
    → All HasReadEntries (s.front ++ s.back)
    → canonical_file c.closing c.frames ≡ canonical_file first.closing (s.front ++ s.back)

-- So is each part of them from the beginning on.
abbrev pub SplicesAreBegun : Type 0
SplicesAreBegun =
    (first : Content) (others : List Content) (c : Content) (s : IsSplice first others c) (n : ℕ)
    → All HasReadEntries (s.front ++ s.back)
    → canonical_head (take n c.frames) ≡ canonical_head (take n (s.front ++ s.back))
