-- The laws of the sample file.
use Rattle.std.specs.Prelude.{ℕ, ◌≤◌}
use Rattle.canonical_file.specs.Contents.{IsCanonical}
use Rattle.canonical_laws.specs.Laws.{ReadsBack}
use Rattle.sample_file.specs.Sample.{sample_closing, sample_content}
use Rattle.sample_file.specs.Whole.{sample_frames, sample_bytes}

-- The bytes of the sample file are the canonical file of its content.
abbrev pub SampleBytesAreCanonical : Type 0
SampleBytesAreCanonical = (n : ℕ) → IsCanonical (sample_content n) (sample_bytes n)

-- A sample file of 100,000 frames at most is well-formed, and its content is its closing and its frames.
abbrev pub SampleFilesAreReadBack : Type 0
SampleFilesAreReadBack = (n : ℕ) → n ≤ 100000 → ReadsBack (sample_bytes n) sample_closing (sample_frames n)
