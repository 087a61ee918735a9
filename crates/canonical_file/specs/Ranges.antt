-- Values whose parts have the ranges that their types give.
use Rattle.std.specs.Prelude.{ℕ, ◌^◌, ◌<◌, List, All}
use Rattle.type_text.specs.declared.types.Link.{Link}
use Rattle.record_values.specs.declared.values.Value.{Value}
use Rattle.record_values.specs.declared.values.Value.TheVariants as value

-- a byte
abbrev pub IsByte : ℕ → Type 0
IsByte b = b < 256

-- bytes
abbrev pub AreBytes : List ℕ → Type 0
AreBytes bytes = All IsByte bytes

-- a link has a class of two bytes and an instance of four
abbrev pub IsLinkInRange : Link → Type 0
IsLinkInRange link = (link.class < 256 ^ 2) × (link.instance < 256 ^ 4)

-- the bytes and the links of a value are in range; its numbers and texts are where they fit a field
abbrev pub IsInRange : Value → Type 0
IsInRange (value.Bytes xs) = AreBytes xs
IsInRange (value.Link link) = IsLinkInRange link
IsInRange (value.Links links) = All IsLinkInRange links
IsInRange (value.Num n) = Unit {0}
IsInRange (value.Pair a b) = Unit {0}
IsInRange (value.Text text) = Unit {0}
IsInRange (value.Nums xs) = Unit {0}
IsInRange (value.Pairs xs) = Unit {0}
IsInRange (value.Texts xs) = Unit {0}
