-- The grammar of type texts, and the printed text of a type. The base words are the data types of the Common Data Frame
-- Format (LIGO-T970130 v8), an array's dimensions follow in brackets as it writes them.
use Rattle.std.specs.Prelude.{◌≡◌, ℕ, ◌≤◌, Bool, false, not, ◌==◌, ◌&&◌, nat_le, if◌then◌else◌, List, [], ◌∷◌, ◌++◌}
use Rattle.std.specs.Prelude.{length, find, codes, Option, Some, None, option_and_then}
use Rattle.std.specs.Option.{option_map}
use Rattle.std.specs.List.{flat_map}
use Rattle.std.specs.Str.{bytes_eq, all_ascii_digits}
use Rattle.std.specs.Str.Parse.{digits_value}
use Rattle.std.specs.Char.{is_ascii_digit}
use Rattle.std.specs.Fmt.{decimal}
use Rattle.type_text.specs.Tokens.{Token, Word, Mark, tokens, IsSpelling}
use Rattle.type_text.specs.declared.types.Base.{Base}
use Rattle.type_text.specs.declared.types.Base.TheVariants.{Int1S, Int1U, Int2S, Int2U, Int4S, Int4U, Int8S, Int8U}
use Rattle.type_text.specs.declared.types.Base.TheVariants.{Real4, Real8, Complex8, Complex16, Char, CharU, Str, Ptr}
use Rattle.type_text.specs.declared.types.Dim.{Dim}
use Rattle.type_text.specs.declared.types.Dim.TheVariants.{Numeral, Named}
use Rattle.type_text.specs.declared.types.ElementType.{ElementType}

-- the base word of a type
abbrev pub word_of : Base → List ℕ
word_of Int1S = codes "INT_1S"
word_of Int1U = codes "INT_1U"
word_of Int2S = codes "INT_2S"
word_of Int2U = codes "INT_2U"
word_of Int4S = codes "INT_4S"
word_of Int4U = codes "INT_4U"
word_of Int8S = codes "INT_8S"
word_of Int8U = codes "INT_8U"
word_of Real4 = codes "REAL_4"
word_of Real8 = codes "REAL_8"
word_of Complex8 = codes "COMPLEX_8"
word_of Complex16 = codes "COMPLEX_16"
word_of Char = codes "CHAR"
word_of CharU = codes "CHAR_U"
word_of Str = codes "STRING"
word_of (Ptr to) = codes "PTR_STRUCT"

-- the bases that a word names alone
unfoldable pub plain_bases : List Base
plain_bases =
    Int1S ∷ Int1U ∷ Int2S ∷ Int2U ∷ Int4S ∷ Int4U ∷ Int8S ∷ Int8U ∷ Real4 ∷ Real8 ∷ Complex8 ∷ Complex16 ∷ Char
    ∷ CharU ∷ Str ∷ []

-- the base that a word names
unfoldable pub base_of : List ℕ → Option Base
base_of w = find (λ base. bytes_eq (word_of base) w) plain_bases

-- a word is a name where it begins with a letter or an underscore
abbrev pub is_name : List ℕ → Bool
is_name [] = false
is_name (b ∷ w) = not (is_ascii_digit b)

-- the number that a word of decimal digits writes, where it is at most 4,294,967,295
abbrev pub numeral_of : List ℕ → Option ℕ
numeral_of w = if all_ascii_digits w && nat_le (digits_value 10 w) 4294967295 then Some (digits_value 10 w) else None

-- the dimension between brackets
abbrev pub dim_of : List ℕ → Option Dim
dim_of w = if is_name w then Some (Named w) else option_map Numeral (numeral_of w)

-- one more dimension in front, where both are there
abbrev pub with_dim : Option Dim → Option (List Dim) → Option (List Dim)
with_dim dim dims = option_and_then (λ d. option_map (λ ds. d ∷ ds) dims) dim

-- zero or more dimensions: 91 and 93 are the brackets
unfoldable pub dims_of : List Token → Option (List Dim)
dims_of [] = Some []
dims_of (Mark l ∷ Word w ∷ Mark r ∷ ts) = if l == 91 && r == 93 then with_dim (dim_of w) (dims_of ts) else None
dims_of _ = None

-- a name and a star (42) in parentheses (40 and 41), as they stand after PTR_STRUCT: the name, and the tokens behind
unfoldable pub pointed_of : List Token → Option (List ℕ × List Token)
pointed_of (Mark l ∷ Word w ∷ Mark s ∷ Mark r ∷ ts) =
    if ((l == 40 && s == 42) && r == 41) && is_name w then Some (w, ts) else None
pointed_of _ = None

-- the base in front, which is a base word, or PTR_STRUCT with a name and a star in parentheses; and the tokens behind
unfoldable pub base_in_front : List Token → Option (Base × List Token)
base_in_front (Word w ∷ ts) =
    if bytes_eq w (codes "PTR_STRUCT") then option_map (λ found. (Ptr found.0, found.1)) (pointed_of ts)
    else option_map (λ base. (base, ts)) (base_of w)
base_in_front _ = None

-- the type of a base and the tokens behind it, which are its dimensions
abbrev pub with_dims : Base × List Token → Option ElementType
with_dims found = option_map (λ dims. record { base = found.0; dims = dims }) (dims_of found.1)

-- the type of these tokens: a base, then zero or more dimensions
unfoldable pub type_of_tokens : List Token → Option ElementType
type_of_tokens ts = option_and_then with_dims (base_in_front ts)

-- the printed text of a dimension, in brackets
abbrev pub dim_text : Dim → List ℕ
dim_text (Numeral n) = codes "[" ++ decimal n ++ codes "]"
dim_text (Named name) = codes "[" ++ name ++ codes "]"

-- the printed text of a base: no blank but the one before the star
abbrev pub base_text : Base → List ℕ
base_text (Ptr to) = codes "PTR_STRUCT(" ++ to ++ codes " *)"
base_text base = word_of base

-- the printed text of a type
unfoldable pub printed_type : ElementType → List ℕ
printed_type ty = base_text ty.base ++ flat_map dim_text ty.dims

-- the type, where its printed text has at most 4,096 bytes
abbrev pub within_limit : Option ElementType → Option ElementType
within_limit found = option_and_then (λ ty. if nat_le (length (printed_type ty)) 4096 then Some ty else None) found

-- the type that a text of at most 4,096 bytes reads as
unfoldable pub type_of : List ℕ → Option ElementType
type_of text = if nat_le (length text) 4096 then within_limit (type_of_tokens (tokens text)) else None

-- A text is this type where both it and the printed text have at most 4,096 bytes and it spells tokens of the type.
abbrev pub IsTypeText : List ℕ → ElementType → Type 0
IsTypeText text ty =
    (length text ≤ 4096) × (length (printed_type ty) ≤ 4096)
    × ((ts : List Token) × IsSpelling ts text × (type_of_tokens ts ≡ Some ty))

-- some text reads as this type
abbrev pub IsType : ElementType → Type 0
IsType ty = (text : List ℕ) × (type_of text ≡ Some ty)
