-- The records of a frame by their numbers.
use Rattle.std.proofs.Common.{◌≡◌, ℕ, zero, suc, ◌+◌, ◌<◌, List, [], ◌∷◌, ◌++◌, length, map, take, drop, get_or, Some}
use Rattle.std.proofs.Common.{refl, sym, ap, ◌∙◌, add-zero, add-one, arith}
use Rattle.std.specs.Prelude.{slice_get}
use Rattle.std.specs.List.{enumerate_from}
use Rattle.std.proofs.lemmas.List.{length-map}
use Rattle.std.proofs.lemmas.Option.{none-some, same_Some}
use Rattle.std.proofs.Math.Seq.{take-append_seam}
use Rattle.frame_content.specs.Frames.{Row, Frame, no_row, row_at}
use Rattle.canonical_file.specs.Records.{Record, row_record, end_record, records_of}

-- the records without the end record
abbrev pub row_records : Frame → List Record
row_records f = map (row_record f) (enumerate_from 0 f.rows)

length-enumerate : {X : Type 0} (n : ℕ) (xs : List X) → length (enumerate_from n xs) ≡ length xs
length-enumerate n [] = refl
length-enumerate n (x ∷ xs) = ap (λ k. suc k) (length-enumerate (n + 1) xs)

pub length-rows : (f : Frame) → length (row_records f) ≡ length f.rows
length-rows f = length-map (enumerate_from 0 f.rows) (row_record f) ∙ length-enumerate 0 f.rows

-- a record among others is that of its row
rows-at : (f : Frame) (n : ℕ) (rows : List Row) (others : List Record) (k : ℕ) → k < length rows
    → slice_get (map (row_record f) (enumerate_from n rows) ++ others) k
    ≡ Some (row_record f (n + k, get_or rows k no_row))
rows-at f n [] others k within = absurd (omega arith)
rows-at f n (r ∷ rs) others zero within = ap (λ i. Some (row_record f (i, r))) (sym (add-zero n))
rows-at f n (r ∷ rs) others (suc k) within =
    let place : (n + 1) + k ≡ n + suc k = omega arith in
    rows-at f (n + 1) rs others k (omega arith) ∙ ap (λ i. Some (row_record f (i, get_or rs k no_row))) place

pub record-at : (f : Frame) (k : ℕ) → k < length f.rows
    → slice_get (records_of f) k ≡ Some (row_record f (k, row_at f k))
record-at f k within =
    let place : 0 + k ≡ k = omega arith in
    rows-at f 0 f.rows (end_record f ∷ []) k within ∙ ap (λ i. Some (row_record f (i, row_at f k))) place

-- a list at one of its elements
pub split-at : {X : Type 0} (xs : List X) (k : ℕ) (x : X) → slice_get xs k ≡ Some x
    → xs ≡ take k xs ++ x ∷ drop (suc k) xs
split-at [] k x is = absurd (none-some x is)
split-at (y ∷ ys) zero x is = ap (λ y. y ∷ ys) (same_Some y x is)
split-at (y ∷ ys) (suc k) x is = ap (λ zs. y ∷ zs) (split-at ys k x is)

pub take-step : {X : Type 0} (xs : List X) (k : ℕ) (x : X) → slice_get xs k ≡ Some x
    → take (k + 1) xs ≡ take k xs ++ x ∷ []
take-step {X} xs k x is = ap (λ n. take n xs) (add-one k) ∙ by xs k is
  where
    by : (xs : List X) (k : ℕ) → slice_get xs k ≡ Some x → take (suc k) xs ≡ take k xs ++ x ∷ []
    by [] k is = absurd (none-some x is)
    by (y ∷ ys) zero is = ap (λ y. y ∷ []) (same_Some y x is)
    by (y ∷ ys) (suc k) is = ap (λ zs. y ∷ zs) (by ys k is)

-- all but the end record
pub records-front : (f : Frame) → take (length f.rows) (records_of f) ≡ row_records f
records-front f =
    ap (λ n. take n (records_of f)) (sym (length-rows f)) ∙ take-append_seam (row_records f) (end_record f ∷ [])
