-- A link of a record put in the place of another.
use Rattle.std.specs.Prelude.{◌≡◌, ℕ, ◌+◌, ◌≤◌, List, length, slice_get, slice_set, Some}
use Rattle.scalar_types.specs.declared.Order.{Order}
use Rattle.type_text.specs.declared.types.Link.{Link}
use Rattle.record_values.specs.declared.values.Value.{Value}
use Rattle.record_values.specs.Links.{links_in, with_links}
use Rattle.record_values.specs.Spelling.{IsLink}
use Rattle.layout_plan.specs.declared.fields.Field.{Field}
use Rattle.layout_plan.specs.Body.{IsBody}
use Rattle.layout_plan.specs.Links.{HasLink, IsReplaceable}
use Rattle.layout_plan.specs.Plans.{plan_of}
use Rattle.frame_region.specs.Region.{overwrite_at}
use Rattle.link_graph.specs.Collected.{Bodied, Collected}
use Rattle.link_graph.specs.Graph.{Layouts}

-- the body reads by the layout of its class, and has a link of this number, from 0
pub record HasLinkBy (plans : Layouts) (order : Order) (k : ℕ) (r : Bodied) : Type 0 where
  pub fields : List Field
  pub plan : plan_of plans r.node.class ≡ Some fields
  pub link : HasLink order fields r.body k

-- The link of this number begins at a place of the body.
pub record IsLinkOf (plans : Layouts) (order : Order) (k at : ℕ) (r : Bodied) : Type 0 where
  pub within : at + 6 ≤ length r.body
  pub replaced : (fields : List Field) → plan_of plans r.node.class ≡ Some fields →
      IsReplaceable order fields r.body k at

-- The record is the old one, but that six bytes of its body spell this link: by the layout of its class it
-- has the old values, but this link as the one of this number, and the old tail.
pub record IsRelinked (plans : Layouts) (order : Order) (k : ℕ) (to : Link) (old new : Bodied) : Type 0 where
  pub node : new.node ≡ old.node
  pub at : ℕ
  pub six : List ℕ
  pub spelled : IsLink order to six
  pub within : at + 6 ≤ length old.body
  pub body : new.body ≡ overwrite_at at six old.body
  pub reads : (fields : List Field) (values : List Value) (tail : List ℕ) →
      plan_of plans old.node.class ≡ Some fields
      → IsBody order fields values tail old.body
      → IsBody order fields (with_links values (slice_set (links_in values) k to)) tail new.body

-- The record of a number has this link as the one of number k, and all else is as it was.
pub record SetsLink (plans : Layouts) (node k : ℕ) (to : Link) (old new : Collected) : Type 0 where
  pub before : Bodied
  pub after : Bodied
  pub found : slice_get old.nodes node ≡ Some before
  pub relinked : IsRelinked plans old.order k to before after
  pub whole : new ≡ record old { nodes = slice_set old.nodes node after }
