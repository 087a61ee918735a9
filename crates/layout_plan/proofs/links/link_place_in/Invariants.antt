use Rattle.std.proofs.Common.{◌≡◌, ◌+◌, ℕ, List, length, take}
use Rattle.std.specs.List.{flat_map}
use Rattle.record_values.specs.declared.values.Value.{Value}
use Rattle.layout_plan.specs.Body.{IsBody}
use Rattle.layout_plan.proofs.LinkLemmas.{links_at}
use Rattle.layout_plan.proofs.links.link_place_in.Given as goal

-- the link is the one left of the other fields
abbrev pub invariant-loop-field : goal.invariant-loop-field
invariant-loop-field l =
    (values : List Value) (tail : List ℕ) → IsBody l.fn.order l.plan values tail l.body
    → l.k ≡ length (flat_map (links_at values) (take l.field-index l.field-items)) + l.left
