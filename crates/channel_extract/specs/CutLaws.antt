-- The law of cuts.
use Rattle.std.specs.Prelude.{ℕ, List, All}
use Rattle.std.specs.List.{AllZip}
use Rattle.frame_content.specs.Frames.{Frame}
use Rattle.contents_table.specs.declared.kind.Kind.{Kind}
use Rattle.canonical_file.specs.Ordered.{SameFrame}
use Rattle.canonical_file.specs.Renumbered.{IsLinked, HasOneHeader}
use Rattle.channel_extract.specs.Cuts.{extraction}

-- The roots and links of the frame lead to its records, and it has one FrameH at most, which is a root.
pub record IsSoundFrame (f : Frame) : Type 0 where
  pub linked : IsLinked f
  pub header : HasOneHeader f

-- Frames that are equal one by one have the channel alike, and equal cuts.
abbrev pub EqualFramesHaveEqualCuts : Type 0
EqualFramesHaveEqualCuts =
    (kind : Kind) (name : List ℕ) (frames others : List Frame) → All IsSoundFrame frames → All IsSoundFrame others
    → AllZip SameFrame frames others → AllZip SameFrame (extraction kind name frames) (extraction kind name others)
