-- The links of a record made null, and the plain links of its fields.
use Rattle.std.specs.Prelude.{◌≡◌, ℕ, List, length, slice_get, slice_set, Some}
use Rattle.scalar_types.specs.declared.Order.{Order}
use Rattle.type_text.specs.declared.types.Link.{Link}
use Rattle.record_values.specs.declared.values.Value.{Value}
use Rattle.record_values.specs.Links.{links_in, with_links}
use Rattle.layout_plan.specs.declared.fields.Field.{Field}
use Rattle.layout_plan.specs.Body.{IsBody, HasBody}
use Rattle.layout_plan.specs.Lent.{IsLinkField}
use Rattle.layout_plan.specs.Plans.{plan_of}
use Rattle.layout_plan.specs.Unlinked.{nulls, IsUnlinked, IsLinkNumber}
use Rattle.frame_region.specs.Region.{overwrite_at}
use Rattle.link_graph.specs.Collected.{Bodied, Collected}
use Rattle.link_graph.specs.Graph.{Layouts}

-- The new record is the old one, but that each of its links is null.
pub record IsCleared (plans : Layouts) (order : Order) (old new : Bodied) : Type 0 where
  pub node : new.node ≡ old.node
  pub body : (fields : List Field) → plan_of plans old.node.class ≡ Some fields
      → IsUnlinked order fields old.body new.body

-- The record of a number has null links alone, and all else is as it was.
pub record ClearsLinks (plans : Layouts) (node : ℕ) (old new : Collected) : Type 0 where
  pub before : Bodied
  pub after : Bodied
  pub found : slice_get old.nodes node ≡ Some before
  pub cleared : IsCleared plans old.order before after
  pub whole : new ≡ record old { nodes = slice_set old.nodes node after }

-- the body reads by the layout of its class, in which this field is a plain link
pub record HasPlainLinkBy (plans : Layouts) (order : Order) (field : ℕ) (r : Bodied) : Type 0 where
  pub fields : List Field
  pub plan : plan_of plans r.node.class ≡ Some fields
  pub reads : HasBody order fields r.body
  pub link : IsLinkField fields field

-- The link of this field has this number among those of the record, from 0.
pub record IsNumberOf (plans : Layouts) (order : Order) (field k : ℕ) (r : Bodied) : Type 0 where
  pub fields : List Field
  pub plan : plan_of plans r.node.class ≡ Some fields
  pub number : IsLinkNumber order fields r.body field k

-- The new record is the old one, but that its link of number k is this one, and each other link null.
pub record IsLeftWith (plans : Layouts) (order : Order) (k : ℕ) (to : Link) (old new : Bodied) : Type 0 where
  pub node : new.node ≡ old.node
  pub reads : (fields : List Field) (values : List Value) (tail : List ℕ) → plan_of plans old.node.class ≡ Some fields
      → IsBody order fields values tail old.body
      → IsBody order fields (with_links values (slice_set (nulls (links_in values)) k to)) tail new.body

-- The record of a number has this link as the one of number k, and else null links alone; all else is as it was.
pub record KeepsLink (plans : Layouts) (node k : ℕ) (to : Link) (old new : Collected) : Type 0 where
  pub before : Bodied
  pub after : Bodied
  pub found : slice_get old.nodes node ≡ Some before
  pub kept : IsLeftWith plans old.order k to before after
  pub whole : new ≡ record old { nodes = slice_set old.nodes node after }

-- ---- of the inside

-- the bytes are the body of the record with each link null
pub record IsClearedBody (plans : Layouts) (order : Order) (bytes : List ℕ) (r : Bodied) : Type 0 where
  pub size : length bytes ≡ length r.body
  pub unlinked : (fields : List Field) → plan_of plans r.node.class ≡ Some fields → IsUnlinked order fields r.body bytes

-- The record of a number has a piece written over bytes of its body, and all else is as it was.
pub record Overwrites (node at : ℕ) (piece : List ℕ) (old new : Collected) : Type 0 where
  pub before : Bodied
  pub found : slice_get old.nodes node ≡ Some before
  pub whole : new ≡ record old {
    nodes = slice_set old.nodes node (record before { body = overwrite_at at piece before.body });
  }
