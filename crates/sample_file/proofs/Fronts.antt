-- The head of the first frames is the front of the bytes of the sample file.
use Rattle.std.proofs.Common.{◌≡◌, ℕ, zero, suc, ◌+◌, ◌-◌, ◌≤◌, min, List, [], ◌++◌, length, take, refl, sym, ap}
use Rattle.std.proofs.Common.{◌∙◌, subst, arith, append_assoc, append-nil}
use Rattle.std.proofs.lemmas.List.{take-append-le, take_min, take_all}
use Rattle.frame_head.specs.Header.{header_bytes}
use Rattle.frame_outside.specs.Shelf.{Outside}
use Rattle.canonical_file.specs.declared.closing.Closing.{Closing}
use Rattle.canonical_file.specs.Written.{header_alone, after_frames, closing_part, canonical_head, frame_part}
use Rattle.sample_file.specs.Sample.{sample_frame, sample_closing}
use Rattle.sample_file.specs.Whole.{sample_frames, sample_bytes}
use Rattle.sample_file.specs.Put.{sample_head, HasMade, HasPart}
use Rattle.sample_file.proofs.FramesMore.{head-next, frames-none}

-- before the first frame there is the header
pub head-none : header_bytes ≡ sample_head 0
unfolding sample_head
head-none = sym (append-nil header_bytes) ∙ ap canonical_head (sym frames-none)

-- one more frame
head-longer : (k : ℕ) → (rest : List ℕ) × (sample_head (suc k) ≡ sample_head k ++ rest)
unfolding sample_head
head-longer k = (
  frame_part (after_frames header_alone (sample_frames k)) (sample_frame k),
  head-next k (sample_frame k) refl,
)

-- so many more
front-by : (more k : ℕ) → (rest : List ℕ) × (sample_head (more + k) ≡ sample_head k ++ rest)
front-by zero k = ([], ap sample_head (omega arith) ∙ sym (append-nil (sample_head k)))
front-by (suc more) k =
    let before = front-by more k in
    let last = head-longer (more + k) in
    let next : suc more + k ≡ suc (more + k) = omega arith in (
      before.0 ++ last.0,
      ap sample_head next ∙ last.1 ∙ ap (λ bytes. bytes ++ last.0) before.1
          ∙ append_assoc (sample_head k) before.0 last.0,
    )

-- The whole is the head of all frames and what comes after them.
pub whole-is : (n : ℕ) (c : Closing) → c ≡ sample_closing
    → sample_bytes n ≡ sample_head n ++ closing_part (after_frames header_alone (sample_frames n)) c
unfolding sample_bytes sample_head
whole-is n c is =
    ap (λ c. canonical_head (sample_frames n) ++ closing_part (after_frames header_alone (sample_frames n)) c) (sym is)

whole-front : (k n : ℕ) → k ≤ n → (rest : List ℕ) × (sample_bytes n ≡ sample_head k ++ rest)
whole-front k n few =
    let heads = front-by (n - k) k in
    let part : List ℕ = closing_part (after_frames header_alone (sample_frames n)) sample_closing in
    let same : n ≡ (n - k) + k = omega arith in (
      heads.0 ++ part,
      whole-is n sample_closing refl ∙ ap (λ bytes. bytes ++ part) (ap sample_head same ∙ heads.1)
          ∙ append_assoc (sample_head k) heads.0 part,
    )

-- What was written of a head is a part of the whole.
pub part-of_head : (old new : Outside) (name : List ℕ) (slot k n count : ℕ) → k ≤ n
    → HasMade old new name slot (take count (sample_head k)) → HasPart old new name n
part-of_head old new name slot k n count few made =
    let whole = whole-front k n few in
    let head : List ℕ = sample_head k in
    let within : min count (length head) ≤ length head = omega arith in
    let same : take count head ≡ take (min count (length head)) (sample_bytes n) =
    sym (take_min count head)
    ∙ sym (ap (take (min count (length head))) whole.1
    ∙ take-append-le (min count (length head)) head whole.0 within) in
    record {
      slot = slot;
      count = min count (length head);
      made = subst (λ (bytes : List ℕ). HasMade old new name slot bytes) same made;
    }

-- So is a whole head.
pub part-of_all : (old new : Outside) (name : List ℕ) (slot k n : ℕ) → k ≤ n
    → HasMade old new name slot (sample_head k) → HasPart old new name n
part-of_all old new name slot k n few made =
    part-of_head old new name slot k n (length (sample_head k)) few
    (subst (λ (bytes : List ℕ). HasMade old new name slot bytes)
    (sym (take_all (length (sample_head k)) (sample_head k) (omega arith))) made)
