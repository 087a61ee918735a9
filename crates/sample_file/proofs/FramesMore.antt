-- One more frame after others: what stands in the file then, and its head. (As in the crate splicer.)
use Rattle.std.proofs.Common.{◌≡◌, ℕ, suc, List, [], ◌∷◌, ◌++◌, flat_map, refl, sym, ap, ◌∙◌}
use Rattle.std.proofs.lemmas.List.{append_assoc, append-nil, map-append}
use Rattle.std.proofs.lemmas.List.Sums.{fold-append}
use Rattle.frame_head.specs.Header.{header_bytes}
use Rattle.frame_content.specs.Frames.{Frame}
use Rattle.canonical_file.specs.Written.{Written, header_alone, frame_part, frame_parts, after_frame, after_frames}
use Rattle.canonical_file.specs.Written.{canonical_head}
use Rattle.sample_file.specs.Sample.{sample_frame, numbers_below}
use Rattle.sample_file.specs.Whole.{sample_frames}

-- what stands after one more frame
pub after-push : (w : Written) (fs : List Frame) (f : Frame)
    → after_frames w (fs ++ f ∷ []) ≡ after_frame (after_frames w fs) f
after-push w fs f = fold-append after_frame w fs (f ∷ [])

parts-push : (w : Written) (fs : List Frame) (f : Frame)
    → flat_map (λ part. part) (frame_parts w (fs ++ f ∷ []))
    ≡ flat_map (λ part. part) (frame_parts w fs) ++ frame_part (after_frames w fs) f
parts-push w [] f = append-nil (frame_part w f)
parts-push w (g ∷ fs) f =
    ap (λ bytes. frame_part w g ++ bytes) (parts-push (after_frame w g) fs f)
    ∙ sym (append_assoc (frame_part w g) (flat_map (λ part. part) (frame_parts (after_frame w g) fs))
    (frame_part (after_frames (after_frame w g) fs) f))

-- the head is that of the frames before, and the part of the frame
pub head-push : (fs : List Frame) (f : Frame)
    → canonical_head (fs ++ f ∷ []) ≡ canonical_head fs ++ frame_part (after_frames header_alone fs) f
head-push fs f =
    ap (λ bytes. header_bytes ++ bytes) (parts-push header_alone fs f)
    ∙ sym (append_assoc header_bytes (flat_map (λ part. part) (frame_parts header_alone fs))
    (frame_part (after_frames header_alone fs) f))

-- ---- the frames of the sample file

-- Frame k comes after the first k.
pub frames-next : (k : ℕ) (f : Frame) → f ≡ sample_frame k → sample_frames (suc k) ≡ sample_frames k ++ f ∷ []
unfolding sample_frames
frames-next k f is =
    map-append sample_frame (numbers_below k) (k ∷ []) ∙ ap (λ f. sample_frames k ++ f ∷ []) (sym is)

-- what stands after it
pub after-next : (k : ℕ) (f : Frame) → f ≡ sample_frame k
    → after_frames header_alone (sample_frames (suc k)) ≡ after_frame (after_frames header_alone (sample_frames k)) f
after-next k f is =
    ap (after_frames header_alone) (frames-next k f is) ∙ after-push header_alone (sample_frames k) f

-- the head with it
pub head-next : (k : ℕ) (f : Frame) → f ≡ sample_frame k
    → canonical_head (sample_frames (suc k))
    ≡ canonical_head (sample_frames k) ++ frame_part (after_frames header_alone (sample_frames k)) f
head-next k f is = ap canonical_head (frames-next k f is) ∙ head-push (sample_frames k) f

-- before the first
pub frames-none : sample_frames 0 ≡ []
unfolding sample_frames
frames-none = refl
