-- The links of values, and other links in their place. A field has one link, a list of them, or none.
use Rattle.std.specs.Prelude.{List, [], ◌∷◌, ◌++◌, length, take, drop}
use Rattle.type_text.specs.declared.types.Link.{Link}
use Rattle.record_values.specs.declared.values.Value.{Value}
use Rattle.record_values.specs.declared.values.Value.TheVariants as value

-- the links of a value, in the order of its items
abbrev pub links_of : Value → List Link
links_of (value.Link link) = link ∷ []
links_of (value.Links xs) = xs
links_of (value.Num n) = []
links_of (value.Pair a b) = []
links_of (value.Text text) = []
links_of (value.Nums xs) = []
links_of (value.Pairs xs) = []
links_of (value.Texts xs) = []
links_of (value.Bytes xs) = []

-- The links of values: in the order of the fields, and within a field in the order of its items.
abbrev pub links_in : List Value → List Link
links_in [] = []
links_in (v ∷ vs) = links_of v ++ links_in vs

-- a value with these links in place of its own, of which there are as many
abbrev pub linked_value : Value → List Link → Value
linked_value (value.Link old) (link ∷ links) = value.Link link
linked_value (value.Link old) [] = value.Link old
linked_value (value.Links old) links = value.Links links
linked_value (value.Num n) links = value.Num n
linked_value (value.Pair a b) links = value.Pair a b
linked_value (value.Text text) links = value.Text text
linked_value (value.Nums xs) links = value.Nums xs
linked_value (value.Pairs xs) links = value.Pairs xs
linked_value (value.Texts xs) links = value.Texts xs
linked_value (value.Bytes xs) links = value.Bytes xs

-- Values with these links in place of their own, in order.
abbrev pub with_links : List Value → List Link → List Value
with_links [] links = []
with_links (v ∷ vs) links =
    linked_value v (take (length (links_of v)) links) ∷ with_links vs (drop (length (links_of v)) links)
