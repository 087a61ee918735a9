-- How values are printed: a function of what one item of their element is, and of the value.
use Rattle.std.specs.Prelude.{ℕ, ◌-◌, ◌*◌, ◌^◌, ◌/◌, ◌%◌, ◌==◌, ◌&&◌, not, nat_le, nat_lt, Bool, false}
use Rattle.std.specs.Prelude.{if◌then◌else◌, List, [], ◌∷◌, ◌++◌, map, codes}
use Rattle.std.specs.List.{flat_map, join_with_byte}
use Rattle.std.specs.Fmt.{decimal, digit_glyph}
use Rattle.std.specs.Int.{to_be_bytes, w32, w64}
use Rattle.hex.specs.Hex.{encode_lower}
use Rattle.scalar_types.specs.declared.Width.{Width}
use Rattle.scalar_types.specs.declared.Width.TheVariants.{One, Two, Four, Eight}
use Rattle.scalar_types.specs.Number.{size_of}
use Rattle.type_text.specs.declared.types.Link.{Link}
use Rattle.type_text.specs.declared.types.Base.{Base}
use Rattle.type_text.specs.declared.types.Base.TheVariants.{Int1S, Int1U, Int2S, Int2U, Int4S, Int4U, Int8S, Int8U}
use Rattle.type_text.specs.declared.types.Base.TheVariants.{Real4, Real8, Complex8, Complex16, Char, CharU}
use Rattle.record_values.specs.declared.values.Value.{Value}
use Rattle.record_values.specs.declared.values.Value.TheVariants as value

-- ---- bytes

-- a printable character of ASCII, other than `"` and `\`
abbrev pub is_plain : ℕ → Bool
is_plain byte = nat_le 32 byte && nat_le byte 126 && not (byte == 34) && not (byte == 92)

-- a byte as it is printed: itself, or `\x` and two hexadecimal digits
abbrev pub escaped_byte : ℕ → List ℕ
escaped_byte byte =
    if is_plain byte then byte ∷ []
    else codes "\\x" ++ (digit_glyph false (byte / 16) ∷ digit_glyph false (byte % 16) ∷ [])

abbrev pub escaped : List ℕ → List ℕ
escaped bytes = flat_map escaped_byte bytes

-- ---- single items

-- the signed number that these bits of this width are, in two's complement
abbrev pub signed_text : Width → ℕ → List ℕ
signed_text width n =
    if nat_lt n (2 ^ (8 * size_of width - 1)) then decimal n else codes "-" ++ decimal (2 ^ (8 * size_of width) - n)

-- the bit pattern of a real of four or eight bytes: `0x`, and two hexadecimal digits a byte, the highest first
abbrev pub short_pattern : ℕ → List ℕ
short_pattern n = codes "0x" ++ encode_lower (to_be_bytes w32 n)

abbrev pub long_pattern : ℕ → List ℕ
long_pattern n = codes "0x" ++ encode_lower (to_be_bytes w64 n)

-- a number by its base: whole numbers and characters in decimal, reals as patterns
abbrev pub number_text : Base → ℕ → List ℕ
number_text Int1S n = signed_text One n
number_text Int1U n = decimal n
number_text Int2S n = signed_text Two n
number_text Int2U n = decimal n
number_text Int4S n = signed_text Four n
number_text Int4U n = decimal n
number_text Int8S n = signed_text Eight n
number_text Int8U n = decimal n
number_text Real4 n = short_pattern n
number_text Real8 n = long_pattern n
number_text Char n = decimal n
number_text CharU n = decimal n
number_text base n = []

-- a complex number: the patterns of its real and its imaginary part
abbrev pub pair_text : Base → ℕ × ℕ → List ℕ
pair_text Complex8 pair = short_pattern pair.0 ++ (codes " " ++ short_pattern pair.1)
pair_text Complex16 pair = long_pattern pair.0 ++ (codes " " ++ long_pattern pair.1)
pair_text base pair = []

-- a text between quotes
abbrev pub quoted : List ℕ → List ℕ
quoted text = codes "\"" ++ (escaped text ++ codes "\"")

-- a link: null, or its class and instance
abbrev pub link_text : Link → List ℕ
link_text link = if link.class == 0 then codes "null" else decimal link.class ++ (codes ":" ++ decimal link.instance)

-- ---- lists

-- items with a blank between them, in brackets
abbrev pub list_text : {X : Type 0} → (X → List ℕ) → List X → List ℕ
list_text text items = codes "[" ++ (join_with_byte 32 (map text items) ++ codes "]")

-- a list of items of one byte: their hexadecimal digits
abbrev pub bytes_text : List ℕ → List ℕ
bytes_text bytes = codes "#" ++ encode_lower bytes

-- ---- values

abbrev pub value_text : Base → Value → List ℕ
value_text base (value.Num n) = number_text base n
value_text base (value.Pair a b) = pair_text base (a, b)
value_text base (value.Text text) = quoted text
value_text base (value.Link link) = link_text link
value_text base (value.Nums numbers) = list_text (number_text base) numbers
value_text base (value.Pairs pairs) = list_text (pair_text base) pairs
value_text base (value.Texts texts) = list_text quoted texts
value_text base (value.Links links) = list_text link_text links
value_text base (value.Bytes bytes) = bytes_text bytes
