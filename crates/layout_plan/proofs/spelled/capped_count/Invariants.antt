use Rattle.std.proofs.Common.{◌≡◌, ◌*◌, ◌≤◌, min, drop}
use Rattle.layout_plan.specs.Body.{item_count}
use Rattle.layout_plan.proofs.spelled.capped_count.Given as goal

-- the count so far times those left is the product of all, as far as the cap tells
abbrev pub invariant-loop-each : goal.invariant-loop-each
invariant-loop-each l =
    (min (l.count * item_count l.numbers (drop l.each-index l.counts)) l.cap
    ≡ min (item_count l.numbers l.counts) l.cap) × (l.count ≤ l.cap)
