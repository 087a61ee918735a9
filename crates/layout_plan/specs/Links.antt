-- The links of a body: in the order of its fields, and within a field in the order of its items (LIGO-T970130 v8,
-- PTR_STRUCT).
use Rattle.std.specs.Prelude.{◌≡◌, ℕ, ◌+◌, ◌≤◌, ◌<◌, Bool, true, false, List, [], ◌∷◌, ◌++◌, length, map, take, drop}
use Rattle.std.specs.Prelude.{slice_get, slice_set, Some, Ok}
use Rattle.scalar_types.specs.declared.Order.{Order}
use Rattle.type_text.specs.declared.types.Link.{Link as StructLink}
use Rattle.record_values.specs.declared.values.Value.{Value}
use Rattle.record_values.specs.Spelling.{IsLink}
use Rattle.record_values.specs.Links.{links_of, links_in, with_links}
use Rattle.layout_plan.specs.declared.fields.Form.{Form}
use Rattle.layout_plan.specs.declared.fields.Form.TheVariants.{Number, Pair, Text, Link}
use Rattle.layout_plan.specs.declared.fields.Field.{Field}
use Rattle.layout_plan.specs.declared.links.FieldLink.{FieldLink}
use Rattle.layout_plan.specs.declared.links.LinkPlace.{LinkPlace}
use Rattle.layout_plan.specs.Reading.{link_in}
use Rattle.layout_plan.specs.Body.{IsBody}

-- the links of a field, with its number
abbrev pub links_with : ℕ → List StructLink → List FieldLink
links_with i links = map (λ link. record { field = i; link = link }) links

-- the links of values, each with the number of its field; the first value's field has number i
abbrev pub field_links : ℕ → List Value → List FieldLink
field_links i [] = []
field_links i (v ∷ vs) = links_with i (links_of v) ++ field_links (i + 1) vs

-- The body has a link of this number, from 0.
abbrev pub HasLink : Order → List Field → List ℕ → ℕ → Type 0
HasLink order fields bytes k =
    (values : List Value) × (tail : List ℕ) × IsBody order fields values tail bytes × (k < length (links_in values))

-- The body's link of this number, from 0, is this one.
abbrev pub HasLinkAt : Order → List Field → List ℕ → ℕ → StructLink → Type 0
HasLinkAt order fields bytes k link =
    (values : List Value) (tail : List ℕ) → IsBody order fields values tail bytes
    → slice_get (links_in values) k ≡ Some link

-- The body's link of this number, from 0, is one of field i.
abbrev pub HasLinkIn : Order → List Field → List ℕ → ℕ → ℕ → Type 0
HasLinkIn order fields bytes k i =
    (values : List Value) (tail : List ℕ) → IsBody order fields values tail bytes → (link : StructLink)
    × (slice_get (field_links 0 values) k ≡ Some (record { field = i; link = link }))

-- The body has so many links.
abbrev pub HasLinks : Order → List Field → List ℕ → ℕ → Type 0
HasLinks order fields bytes n =
    (values : List Value) (tail : List ℕ) → IsBody order fields values tail bytes → n ≡ length (links_in values)

-- where the body's link of this number stands, and the field that holds it
abbrev pub IsLinkPlaced : Order → List Field → List ℕ → ℕ → LinkPlace → Type 0
IsLinkPlaced order fields bytes k p =
    (values : List Value) (tail : List ℕ) → IsBody order fields values tail bytes → (link : StructLink)
    × (slice_get (field_links 0 values) k ≡ Some (record { field = p.field; link = link }))
    × (link_in order (drop p.at bytes) ≡ Ok (link, drop (p.at + 6) bytes)) × (p.at + 6 ≤ length bytes)

-- Six bytes of the body from this place spell its link of this number, from 0: with the bytes of another link in their
-- place it is a body of the same values, but for that link.
abbrev pub IsReplaceable : Order → List Field → List ℕ → ℕ → ℕ → Type 0
IsReplaceable order fields bytes k at =
    (values : List Value) (tail : List ℕ) → IsBody order fields values tail bytes → (link : StructLink) (six : List ℕ)
    → IsLink order link six → IsBody order fields (with_links values (slice_set (links_in values) k link)) tail
    (take at bytes ++ six ++ drop (at + 6) bytes)

-- These are the body's links, in turn, each with the number of its field.
abbrev pub AreLinks : Order → List Field → List ℕ → List FieldLink → Type 0
AreLinks order fields bytes links =
    (values : List Value) (tail : List ℕ) → IsBody order fields values tail bytes → links ≡ field_links 0 values

-- These are the body's links, in turn.
abbrev pub AreBodyLinks : Order → List Field → List ℕ → List StructLink → Type 0
AreBodyLinks order fields bytes links =
    (values : List Value) (tail : List ℕ) → IsBody order fields values tail bytes → links ≡ links_in values

-- a link, or a list of them
abbrev pub is_link_form : Form → Bool
is_link_form Link = true
is_link_form (Number width) = false
is_link_form (Pair width) = false
is_link_form Text = false

abbrev pub is_link : Field → Bool
is_link f = is_link_form f.form
