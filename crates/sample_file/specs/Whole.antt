-- The sample file as a whole.
use Rattle.std.specs.Prelude.{ℕ, List, map}
use Rattle.frame_content.specs.Frames.{Frame}
use Rattle.canonical_file.specs.Written.{canonical_file}
use Rattle.sample_file.specs.Sample.{sample_frame, sample_closing, numbers_below}

-- its n frames
unfoldable pub sample_frames : ℕ → List Frame
sample_frames n = map sample_frame (numbers_below n)

-- The bytes of the sample file of n frames: the canonical file of its content, of which each frame is in its order.
unfoldable pub sample_bytes : ℕ → List ℕ
sample_bytes n = canonical_file sample_closing (sample_frames n)
