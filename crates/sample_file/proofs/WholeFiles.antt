-- The sample file is read back.
use Rattle.std.proofs.Common.{◌≡◌, ℕ, ◌≤◌, length, arith}
use Rattle.file_grammar.specs.MayStand.{frames_limit}
use Rattle.canonical_laws.specs.Laws.{ReadsBack}
use Rattle.canonical_laws.proofs.WholeFiles.{read_back}
use Rattle.sample_file.specs.Sample.{sample_closing}
use Rattle.sample_file.specs.Whole.{sample_frames, sample_bytes}
use Rattle.sample_file.proofs.SampleSizes.{length-frames, sample-size}
use Rattle.sample_file.proofs.WritableEntries.{all_entries, entries-dictionary}
use Rattle.sample_file.proofs.WritableFrames.{frames-writable, closing-writable}

-- so few frames
few-frames : (n : ℕ) → n ≤ 100000 → length (sample_frames n) ≤ frames_limit
few-frames n few =
    let many : length (sample_frames n) ≡ n = length-frames n in
    omega (arith, many, few)

pub sample-back : (n : ℕ) → n ≤ 100000 → ReadsBack (sample_bytes n) sample_closing (sample_frames n)
unfolding sample_bytes
sample-back n few =
    read_back all_entries (sample_frames n) sample_closing entries-dictionary (frames-writable n few) closing-writable
    (few-frames n few) (sample-size n few)
