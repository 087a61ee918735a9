-- The sample file is within the limit of files.
use Rattle.std.proofs.Common.{◌≡◌, ℕ, zero, suc, ◌+◌, ◌≤◌, List, [], ◌∷◌, length, refl, sym, ap, ◌∙◌, arith}
use Rattle.std.proofs.lemmas.List.{length-append, length-map}
use Rattle.file_grammar.specs.Structure.{file_limit, record_limit}
use Rattle.frame_content.specs.Frames.{Frame}
use Rattle.canonical_file.specs.declared.closing.Closing.{Closing}
use Rattle.canonical_file.specs.Written.{Written, header_alone, after_frames, closing_part, canonical_head}
use Rattle.canonical_file.specs.Written.{canonical_file}
use Rattle.canonical_file.proofs.Sizes.{head-size}
use Rattle.sample_file.specs.Sample.{sample_frame, sample_closing, numbers_below}
use Rattle.sample_file.specs.Whole.{sample_frames, sample_bytes}
use Rattle.sample_file.proofs.ClosingSizes.{closing-size}
use Rattle.sample_file.proofs.Counted.{IsAfter, counted}

-- as many numbers
length-numbers : (n : ℕ) → length (numbers_below n) ≡ n
length-numbers zero = refl
length-numbers (suc n) = length-append (numbers_below n) (n ∷ []) ∙ ap (λ k. k + 1) (length-numbers n) ∙ omega arith

-- as many frames
pub length-frames : (n : ℕ) → length (sample_frames n) ≡ n
unfolding sample_frames
length-frames n = length-map (numbers_below n) sample_frame ∙ length-numbers n

-- What stands and the closing part are the whole file.
pub whole-size : (frames : List Frame) (c : Closing)
    → (after_frames header_alone frames).size + length (closing_part (after_frames header_alone frames) c)
    ≡ length (canonical_file c frames)
whole-size frames c =
    let part : List ℕ = closing_part (after_frames header_alone frames) c in
    sym (length-append (canonical_head frames) part ∙ ap (λ n. n + length part) (head-size frames))

-- The size with the closing part is within the limit.
pub end-size : (n : ℕ) → n ≤ 100000
    → (after_frames header_alone (sample_frames n)).size
    + length (closing_part (after_frames header_alone (sample_frames n)) sample_closing) ≤ file_limit
end-size n few =
    let w : Written = after_frames header_alone (sample_frames n) in
    let now : IsAfter n w = counted n in
    let size : length (closing_part w sample_closing) ≤ record_limit + 900 = closing-size w now.entries in
    omega (arith, size, now.size)

pub sample-size : (n : ℕ) → n ≤ 100000 → length (sample_bytes n) ≤ file_limit
unfolding sample_bytes
sample-size n few =
    let size = end-size n few in
    let same : (after_frames header_alone (sample_frames n)).size
    + length (closing_part (after_frames header_alone (sample_frames n)) sample_closing)
    ≡ length (canonical_file sample_closing (sample_frames n)) = whole-size (sample_frames n) sample_closing in
    omega (arith, size, same)
