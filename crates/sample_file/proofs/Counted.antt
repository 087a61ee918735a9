-- What stands after the first frames of the sample file: the entries used, the bytes and the frames; and that the next
-- frame clashes with none of these.
use Rattle.std.proofs.Common.{◌≡◌, ℕ, zero, suc, ◌+◌, ◌*◌, ◌≤◌, ◌⊎◌, inl, inr, List, [], None, length, refl, sym, ap}
use Rattle.std.proofs.Common.{◌∙◌, subst, arith}
use Rattle.dictionary.specs.declared.entries.Entry.{Entry}
use Rattle.frame_content.specs.Frames.{Frame}
use Rattle.canonical_file.specs.Records.{records_of, entries_after}
use Rattle.canonical_file.specs.Splices.{clash_of}
use Rattle.canonical_file.specs.Written.{Written, header_alone, frame_part, after_frame, after_frames}
use Rattle.sample_file.specs.Entries.{sample_entries}
use Rattle.sample_file.specs.Sample.{sample_frame}
use Rattle.sample_file.specs.Whole.{sample_frames}
use Rattle.sample_file.proofs.Computing.{computing}
use Rattle.sample_file.proofs.FramesMore.{after-next, frames-none}
use Rattle.sample_file.proofs.KthFrames.{entries-first, entries-later, clash-first, clash-later, size-first, size-later}

-- no frame has used an entry, or one has used them all
unfoldable pub AreUsed : List Entry → Type 0
AreUsed entries = (entries ≡ []) ⊎ (entries ≡ sample_entries)

-- what stands after k frames
pub record IsAfter (k : ℕ) (w : Written) : Type 0 where
  pub entries : AreUsed w.entries
  pub size : w.size ≤ 40 + 2481 * k
  pub frames : w.frames ≡ k

-- ---- one more frame

-- it is this frame
unfoldable pub IsKth : ℕ → Frame → Type 0
IsKth k f = f ≡ sample_frame k

-- it clashes with no entry
pub clash-none : (k : ℕ) (entries : List Entry) (f : Frame) → IsKth k f → AreUsed entries
    → clash_of None entries f ≡ None
unfolding computing IsKth AreUsed
clash-none k entries f is (inl none) =
    ap (λ es. clash_of None es f) none ∙ ap (clash_of None []) is ∙ clash-first k
clash-none k entries f is (inr all) =
    ap (λ es. clash_of None es f) all ∙ ap (clash_of None sample_entries) is ∙ clash-later k

-- it has used all entries
entries-then : (k : ℕ) (entries : List Entry) (f : Frame) → IsKth k f → AreUsed entries
    → entries_after entries (records_of f) ≡ sample_entries
unfolding computing IsKth AreUsed
entries-then k entries f is (inl none) =
    ap (λ es. entries_after es (records_of f)) none ∙ ap (λ f. entries_after [] (records_of f)) is ∙ entries-first k
entries-then k entries f is (inr all) =
    ap (λ es. entries_after es (records_of f)) all ∙ ap (λ f. entries_after sample_entries (records_of f)) is
    ∙ entries-later k

-- it takes no more bytes than the first one
size-then : (k : ℕ) (w : Written) (f : Frame) → IsKth k f → AreUsed w.entries → length (frame_part w f) ≤ 2481
unfolding computing IsKth AreUsed
size-then k w f is (inl none) =
    let same : length (frame_part w f) ≡ 2481 =
    ap (λ es. length (frame_part (record header_alone { entries = es }) f)) none
    ∙ ap (λ f. length (frame_part header_alone f)) is
    ∙ size-first k in
    omega (arith, same)
size-then k w f is (inr all) =
    let same : length (frame_part w f) ≡ 724 =
    ap (λ es. length (frame_part (record header_alone { entries = es }) f)) all
    ∙ ap (λ f. length (frame_part (record header_alone { entries = sample_entries }) f)) is ∙ size-later k in
    omega (arith, same)

-- the entries used are then used
used-then : (entries : List Entry) → entries ≡ sample_entries → AreUsed entries
unfolding AreUsed
used-then entries all = inr all

pub counted-next : (k : ℕ) (w : Written) (f : Frame) → IsKth k f → IsAfter k w → IsAfter (suc k) (after_frame w f)
counted-next k w f is after =
    let size : length (frame_part w f) ≤ 2481 = size-then k w f is after.entries in
    record {
      entries = used-then (entries_after w.entries (records_of f)) (entries-then k w.entries f is after.entries);
      size = omega (arith, size, after.size);
      frames = omega (arith, after.frames);
    }

-- ---- all frames

pub kth : (k : ℕ) → IsKth k (sample_frame k)
unfolding IsKth
kth k = refl

counted-none : IsAfter 0 header_alone
unfolding AreUsed
counted-none = record { entries = inl refl; size = omega arith; frames = refl }

pub counted : (k : ℕ) → IsAfter k (after_frames header_alone (sample_frames k))
counted zero = subst (λ fs. IsAfter 0 (after_frames header_alone fs)) (sym frames-none) counted-none
counted (suc k) =
    let f : Frame = sample_frame k in
    subst (IsAfter (suc k)) (sym (after-next k f refl))
    (counted-next k (after_frames header_alone (sample_frames k)) f (kth k) (counted k))
