-- One more frame after others: what stands in the file then, its head, and what is due of the frame.
use Rattle.std.proofs.Common.{◌≡◌, ℕ, List, [], ◌∷◌, ◌++◌, flat_map, Option, Some, None, Bool, true, false, cond}
use Rattle.std.proofs.Common.{Result, Ok}
use Rattle.std.proofs.Common.{Err, IsOk, inl, inr, refl, sym, ap, ◌∙◌}
use Rattle.std.specs.Prelude.{nat_le, nat_lt}
use Rattle.std.proofs.lemmas.List.{append_assoc, append-nil}
use Rattle.std.proofs.lemmas.List.Sums.{fold-append}
use Rattle.frame_head.specs.Header.{header_bytes}
use Rattle.file_grammar.specs.Structure.{file_limit}
use Rattle.file_grammar.specs.MayStand.{frames_limit}
use Rattle.frame_content.specs.Frames.{Frame}
use Rattle.canonical_file.specs.declared.closing.Closing.{Closing}
use Rattle.canonical_file.specs.Splices.{clash_of}
use Rattle.canonical_file.specs.Written.{Written, header_alone, frame_part, frame_parts, after_frame, after_frames}
use Rattle.canonical_file.specs.Written.{canonical_head}
use Rattle.canonical_writer.specs.declared.errors.WriteError.{WriteError}
use Rattle.canonical_writer.specs.declared.errors.WriteError.TheVariants as write
use Rattle.canonical_writer.specs.Writer.{clash_or_limit, frame_due, IsAnswer}

-- ---- what stands in the file

-- what stands after one more frame
pub after-push : (w : Written) (fs : List Frame) (f : Frame)
    → after_frames w (fs ++ f ∷ []) ≡ after_frame (after_frames w fs) f
after-push w fs f = fold-append after_frame w fs (f ∷ [])

parts-push : (w : Written) (fs : List Frame) (f : Frame)
    → flat_map (λ part. part) (frame_parts w (fs ++ f ∷ []))
    ≡ flat_map (λ part. part) (frame_parts w fs) ++ frame_part (after_frames w fs) f
parts-push w [] f = append-nil (frame_part w f)
parts-push w (g ∷ fs) f =
    ap (λ bytes. frame_part w g ++ bytes) (parts-push (after_frame w g) fs f)
    ∙ sym (append_assoc (frame_part w g) (flat_map (λ part. part) (frame_parts (after_frame w g) fs))
    (frame_part (after_frames (after_frame w g) fs) f))

-- the head is that of the frames before, and the part of the frame
pub head-push : (fs : List Frame) (f : Frame)
    → canonical_head (fs ++ f ∷ []) ≡ canonical_head fs ++ frame_part (after_frames header_alone fs) f
head-push fs f =
    ap (λ bytes. header_bytes ++ bytes) (parts-push header_alone fs f)
    ∙ sym (append_assoc header_bytes (flat_map (λ part. part) (frame_parts header_alone fs))
    (frame_part (after_frames header_alone fs) f))

-- ---- what is due of the frame

-- A frame is due to be refused for what it is, and not for the shelf.
pub due-no_device : (closing : Option Closing) (w : Written) (f : Frame)
    → frame_due closing w f ≡ Err write.Device → ⊥
due-no_device closing w f is =
    by (nat_le frames_limit w.frames) (clash_of closing w.entries f) (after_frame w f).size is
  where
    limit : (long : Bool)
        → ◌≡◌ {A = Result Unit WriteError} (cond long (Err write.OutputLimit) (Ok tt)) (Err write.Device) → ⊥
    limit true is = cc
    limit false is = cc

    by : (full : Bool) (clash : Option ℕ) (size : ℕ)
        → ◌≡◌ {A = Result Unit WriteError} (cond full (Err write.FramesLimit) (clash_or_limit clash size))
        (Err write.Device) → ⊥
    by true clash size is = cc
    by false (Some class) size is = cc
    by false None size is = limit (nat_lt file_limit size) is

-- a frame that was taken was due to be
pub taken-due : (due : Result Unit WriteError) → IsAnswer {X = Unit} (Ok tt) due → due ≡ Ok tt
taken-due due (inl is) = sym is
taken-due due (inr (inl is)) = absurd cc
taken-due due (inr (inr (is, ok))) = absurd cc

-- one that was refused for what it is was due to be
pub refused-due : (error : WriteError) (due : Result Unit WriteError) → (error ≡ write.Device → ⊥)
    → (error ≡ write.NoMemory → ⊥) → IsAnswer {X = Unit} (Err error) due → due ≡ Err error
refused-due error due shelf memory (inl is) = sym is
refused-due error due shelf memory (inr (inl is)) = absurd (memory cc)
refused-due error due shelf memory (inr (inr (is, ok))) = absurd (shelf cc)

-- one at which the shelf failed was due to be taken
pub failed-due : (due : Result Unit WriteError) → (due ≡ Err write.Device → ⊥)
    → IsAnswer {X = Unit} (Err write.Device) due → due ≡ Ok tt
failed-due due none (inl is) = absurd (none (sym is))
failed-due due none (inr (inl is)) = absurd cc
failed-due due none (inr (inr (is, ok))) = taken due ok
  where
    taken : (due : Result Unit WriteError) → IsOk due → due ≡ Ok tt
    taken (Ok x) ok = refl
    taken (Err error) ok = absurd cc
