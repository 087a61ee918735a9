-- The laws of frames, bodies and canonical files.
use Rattle.std.specs.Prelude.{◌≡◌, ℕ, List}
use Rattle.std.specs.List.{AllByRecursion, AllZip}
use Rattle.scalar_types.specs.declared.Order.TheVariants.{Little}
use Rattle.record_values.specs.declared.values.Value.{Value}
use Rattle.layout_plan.specs.declared.fields.Field.{Field}
use Rattle.layout_plan.specs.Layout.{AreSound}
use Rattle.layout_plan.specs.Written.{IsWritten}
use Rattle.record_writer.specs.Fit.{Fits}
use Rattle.frame_content.specs.Frames.{Frame}
use Rattle.canonical_file.specs.Ranges.{AreBytes, IsInRange}
use Rattle.canonical_file.specs.Bytes.{body_bytes}
use Rattle.canonical_file.specs.Ordered.{SameFrame, IsInOrder}
use Rattle.canonical_file.specs.Contents.{Content, SameContent, IsCanonicalHead, IsCanonical}

-- Equal frames are one frame in their orders.
abbrev pub EqualFramesHaveOneOrder : Type 0
EqualFramesHaveOneOrder = (f g o p : Frame) → SameFrame f g → IsInOrder f o → IsInOrder g p → o ≡ p

-- A frame in its order is equal to the frame.
abbrev pub FramesInOrderAreEqual : Type 0
FramesInOrderAreEqual = (f o : Frame) → IsInOrder f o → SameFrame f o

-- What is written of values in little-endian order is their bytes.
abbrev pub WrittenBodiesAreOne : Type 0
WrittenBodiesAreOne =
    (fields : List Field) (values : List Value) (bytes : List ℕ) → AreBytes bytes → IsWritten Little fields values bytes
    → bytes ≡ body_bytes fields values

-- The bytes of values that fit are what is written of them.
abbrev pub FittingBodiesAreWritten : Type 0
FittingBodiesAreWritten =
    (fields : List Field) (values : List Value) → AreSound 0 fields → Fits fields values
    → AllByRecursion IsInRange values → IsWritten Little fields values (body_bytes fields values)

-- Contents that are the same have one canonical file: so a content has only one.
abbrev pub EqualContentsHaveOneFile : Type 0
EqualContentsHaveOneFile =
    (c d : Content) (bytes others : List ℕ) → SameContent c d → IsCanonical c bytes → IsCanonical d others
    → bytes ≡ others

-- Frames that are equal one by one have one canonical head.
abbrev pub EqualFramesHaveOneHead : Type 0
EqualFramesHaveOneHead =
    (frames others : List Frame) (bytes rest : List ℕ) → AllZip SameFrame frames others → IsCanonicalHead frames bytes
    → IsCanonicalHead others rest → bytes ≡ rest
