-- Counts that rise by several at once.
use Rattle.std.proofs.Common.{◌≡◌, ℕ, ◌+◌, arith}
use Rattle.frame_outside.specs.Counts.{counted_by}

pub counted_by-zero : (count : ℕ) → counted_by count 0 ≡ count
counted_by-zero count = omega arith

pub counted_by-counted_by : (count n m : ℕ) → counted_by (counted_by count n) m ≡ counted_by count (n + m)
counted_by-counted_by count n m = omega arith
