-- The frame of a number: the entries that it uses, and the bytes of its part, as the first frame and as a later one.
use Rattle.std.proofs.Common.{◌≡◌, ℕ, [], None, length, refl}
use Rattle.canonical_file.specs.Records.{records_of, entries_after}
use Rattle.canonical_file.specs.Splices.{clash_of}
use Rattle.canonical_file.specs.Written.{header_alone, frame_part}
use Rattle.sample_file.specs.Entries.{sample_entries}
use Rattle.sample_file.specs.Sample.{sample_frame}
use Rattle.sample_file.proofs.Computing.{computing}

-- ---- the entries used then

pub entries-first : (k : ℕ) → entries_after [] (records_of (sample_frame k)) ≡ sample_entries
unfolding computing
entries-first k = refl

pub entries-later : (k : ℕ) → entries_after sample_entries (records_of (sample_frame k)) ≡ sample_entries
unfolding computing
entries-later k = refl

-- ---- none of them clashes

pub clash-first : (k : ℕ) → clash_of None [] (sample_frame k) ≡ None
unfolding computing
clash-first k = refl

pub clash-later : (k : ℕ) → clash_of None sample_entries (sample_frame k) ≡ None
unfolding computing
clash-later k = refl

-- ---- bytes

pub size-first : (k : ℕ) → length (frame_part header_alone (sample_frame k)) ≡ 2481
unfolding computing
size-first k = refl

pub size-later : (k : ℕ) → length (frame_part (record header_alone { entries = sample_entries }) (sample_frame k)) ≡ 724
unfolding computing
size-later k = refl
