use Rattle.std.proofs.Common.{◌≡◌, ℕ, List, take}
use Rattle.std.specs.List.{flat_map}
use Rattle.record_values.specs.declared.values.Value.{Value}
use Rattle.layout_plan.specs.Appends.{Appends}
use Rattle.layout_plan.specs.Made.{IsMadeOf}
use Rattle.layout_plan.specs.Body.{IsBody}
use Rattle.layout_plan.proofs.LinkLemmas.{links_at}
use Rattle.layout_plan.proofs.links.push_lists.Given as goal

-- the links of the fields so far
abbrev pub invariant-loop-field : goal.invariant-loop-field
invariant-loop-field g l =
    Appends (IsMadeOf g.T.From.from_gives (λ links. (values : List Value) (tail : List ℕ)
    → IsBody l.order l.plan values tail l.body
    → links ≡ flat_map (links_at values) (take l.field-index l.field-items))) l.fn.into.items l.into.items
