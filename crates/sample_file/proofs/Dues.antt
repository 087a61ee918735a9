-- What is due of the frames of the sample file and of its end: all are written.
use Rattle.std.proofs.Common.{◌≡◌, ℕ, ◌<◌, ◌≤◌, Bool, false, cond, Option, None, Result, Ok, Err}
use Rattle.std.proofs.Common.{IsOk, IfErr, inl, inr, sym, ap, ◌∙◌, subst}
use Rattle.std.specs.Prelude.{nat_le, nat_lt}
use Rattle.std.proofs.lemmas.Bool.{lt-leb, le-ltb, false≢true}
use Rattle.file_grammar.specs.Structure.{file_limit}
use Rattle.file_grammar.specs.MayStand.{frames_limit}
use Rattle.frame_content.specs.Frames.{Frame}
use Rattle.canonical_file.specs.declared.closing.Closing.{Closing}
use Rattle.canonical_file.specs.Splices.{clash_of}
use Rattle.canonical_file.specs.Written.{Written, after_frame}
use Rattle.canonical_writer.specs.declared.errors.WriteError.{WriteError}
use Rattle.canonical_writer.specs.declared.errors.WriteError.TheVariants as write
use Rattle.canonical_writer.specs.declared.writer.Summary.{Summary}
use Rattle.canonical_writer.specs.Writer.{clash_or_limit, frame_due, closing_due, size_with, IsAnswer}
use Rattle.sample_file.specs.Put.{IsOutside}

-- ---- a frame

-- the answer by the tests
abbrev due_by : Bool → Option ℕ → ℕ → Result Unit WriteError
due_by full clash size = cond full (Err write.FramesLimit) (clash_or_limit clash size)

abbrev limit_by : Bool → Result Unit WriteError
limit_by past = cond past (Err write.OutputLimit) (Ok tt)

-- A frame is due to be written that clashes with no entry, within the limits.
pub frame-due : (w : Written) (f : Frame) → clash_of None w.entries f ≡ None → w.frames < frames_limit
    → (after_frame w f).size ≤ file_limit → frame_due None w f ≡ Ok tt
frame-due w f clash few small =
    let size : ℕ = (after_frame w f).size in
    let full : nat_le frames_limit w.frames ≡ false = lt-leb frames_limit w.frames few in
    let past : nat_lt file_limit size ≡ false = le-ltb file_limit size small in
    ap (λ b. due_by b (clash_of None w.entries f) size) full ∙ ap (λ c. due_by false c size) clash ∙ ap limit_by past

-- ---- the end

abbrev end_by : Bool → Summary → Result Summary WriteError
end_by past summary = cond past (Err write.OutputLimit) (Ok summary)

-- So is the end, within the limit.
pub end-due : (w : Written) (c : Closing) → size_with w c ≤ file_limit
    → closing_due w c ≡ Ok (record { frames = w.frames; bytes = size_with w c })
end-due w c small =
    ap (λ b. end_by b (record { frames = w.frames; bytes = size_with w c })) (le-ltb file_limit (size_with w c) small)

-- ---- the answer

-- Where it is due to be written, it is refused for the shelf or memory alone.
pub outside-alone : {X : Type 0} (result due : Result X WriteError) → IsOk due → IsAnswer result due
    → IfErr result IsOutside
outside-alone (Ok x) due ok answer = tt
outside-alone {X = X} (Err error) due ok (inl same) =
    let none : IsOk {T = X} {E = WriteError} (Err error) = subst IsOk (sym same) ok in absurd (false≢true none)
outside-alone (Err error) due ok (inr (inl same)) = inr cc
outside-alone (Err error) due ok (inr (inr (same, fine))) = inl cc

-- Where it is written, what is told is what is due.
pub told-due : {X : Type 0} (x y : X) (due : Result X WriteError) → due ≡ Ok y → IsAnswer (Ok x) due → x ≡ y
told-due {X = X} x y due is (inl same) = let whole : ◌≡◌ {A = Result X WriteError} (Ok x) (Ok y) = same ∙ is in cc
told-due x y due is (inr (inl same)) = absurd cc
told-due x y due is (inr (inr (same, fine))) = absurd cc
