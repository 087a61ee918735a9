-- Bodies without their links: each of them null (LIGO-T970130 v8: PTR_STRUCT, a null link is of class 0).
use Rattle.std.specs.Prelude.{◌≡◌, ℕ, List, length, map, take}
use Rattle.scalar_types.specs.declared.Order.{Order}
use Rattle.type_text.specs.declared.types.Link.{Link as StructLink}
use Rattle.record_values.specs.declared.values.Value.{Value}
use Rattle.record_values.specs.Links.{links_in, with_links}
use Rattle.layout_plan.specs.declared.fields.Field.{Field}
use Rattle.layout_plan.specs.Body.{IsBody}

-- the link that leads nowhere
abbrev pub null_link : StructLink
null_link = record { class = 0; instance = 0 }

-- as many links that lead nowhere
abbrev pub nulls : List StructLink → List StructLink
nulls links = map (λ link. null_link) links

-- The new body is as long as the body: it has the same values, but that each link is null, and the same tail.
pub record IsUnlinked (order : Order) (fields : List Field) (body new : List ℕ) : Type 0 where
  pub size : length new ≡ length body
  pub reads : (values : List Value) (tail : List ℕ) → IsBody order fields values tail body
      → IsBody order fields (with_links values (nulls (links_in values))) tail new

-- So many links of the body stand in the fields before this one: where the field is a plain link, its link has this
-- number, from 0.
pub record IsLinkNumber (order : Order) (fields : List Field) (body : List ℕ) (field k : ℕ) : Type 0 where
  pub values : List Value
  pub tail : List ℕ
  pub reads : IsBody order fields values tail body
  pub count : k ≡ length (links_in (take field values))
