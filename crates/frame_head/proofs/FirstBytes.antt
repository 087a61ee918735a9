-- What the first bytes of a structure say is the same whatever follows them.
use Rattle.std.proofs.Common.{◌≡◌, ℕ, ◌+◌, ◌-◌, ◌≤◌, List, take, drop, ap, ◌∙◌, arith}
use Rattle.std.proofs.lemmas.List.{drop-take, get_or-take, take-take}
use Rattle.scalar_types.specs.declared.Order.{Order}
use Rattle.frame_head.specs.Structure.{common_of}

-- 14 bytes or more say what all of them say
pub common_of-take : (order : Order) (n : ℕ) (bytes : List ℕ) → 14 ≤ n
    → common_of order (take n bytes) ≡ common_of order bytes
common_of-take order n bytes enough =
    let split : n ≡ 10 + (n - 10) = omega arith in
    let length = take-take 8 n bytes (omega arith) in
    let check = get_or-take n bytes 8 0 (omega arith) in
    let class = get_or-take n bytes 9 0 (omega arith) in
    let instance : take 4 (drop 10 (take n bytes)) ≡ take 4 (drop 10 bytes) =
    ap (λ (m : ℕ). take 4 (drop 10 (take m bytes))) split
    ∙ ap (take 4) (drop-take 10 (n - 10) bytes)
    ∙ take-take 4 (n - 10) (drop 10 bytes) (omega arith) in
    rw (length, check, class, instance)
