-- What a scan finds at the front of a text's tokens.
use Rattle.std.specs.Prelude.{ℕ, Bool, true, false, ◌==◌, if◌then◌else◌, List, [], ◌∷◌, Option, Some, None}
use Rattle.std.specs.Prelude.{option_and_then}
use Rattle.std.specs.Option.{option_map}
use Rattle.type_text.specs.Tokens.{Token, Word, Mark, is_blank}
use Rattle.type_text.specs.TypeText.{dims_of, dim_of, with_dim, is_name, with_dims, within_limit}
use Rattle.type_text.specs.declared.types.Base.{Base}
use Rattle.type_text.specs.declared.types.Base.TheVariants.{Ptr}
use Rattle.type_text.specs.declared.types.Dim.{Dim}
use Rattle.type_text.specs.declared.types.ElementType.{ElementType}

-- the first token, where it is a word, and the tokens after it
abbrev pub first_word : List Token → Option (List ℕ × List Token)
first_word (Word w ∷ ts) = Some (w, ts)
first_word _ = None

-- the tokens after the mark, where it is the first token
abbrev pub after_mark : ℕ → List Token → Option (List Token)
after_mark m (Mark k ∷ ts) = if k == m then Some ts else None
after_mark m _ = None

-- no token is left
abbrev pub no_token : List Token → Bool
no_token [] = true
no_token (t ∷ ts) = false

-- the bytes begin with a blank
abbrev pub begins_blank : List ℕ → Bool
begins_blank [] = false
begins_blank (b ∷ bs) = is_blank b

-- the word, and the tokens after the mark in front of the others
abbrev pub closing : ℕ → List ℕ × List Token → Option (List ℕ × List Token)
closing m found = option_map (λ rest. (found.0, rest)) (after_mark m found.1)

-- the word in front, and the tokens after the mark right behind it
abbrev pub word_before : ℕ → List Token → Option (List ℕ × List Token)
word_before m ts = option_and_then (closing m) (first_word ts)

-- the word in brackets in front, and the tokens after it
abbrev pub bracketed_of : List Token → Option (List ℕ × List Token)
bracketed_of ts = option_and_then (word_before 93) (after_mark 91 ts)

-- the word before a star and a closing parenthesis in front, and the tokens after them
abbrev pub starred_of : List Token → Option (List ℕ × List Token)
starred_of ts = option_and_then (closing 41) (word_before 42 ts)

-- the word before a star in parentheses in front, and the tokens after it
abbrev pub parenthesized_of : List Token → Option (List ℕ × List Token)
parenthesized_of ts = option_and_then starred_of (after_mark 40 ts)

-- the dimensions that begin with a word in brackets
abbrev pub dims_from : Option (List ℕ × List Token) → Option (List Dim)
dims_from found = option_and_then (λ (f : List ℕ × List Token). with_dim (dim_of f.0) (dims_of f.1)) found

-- the word in parentheses and the tokens after it, where the word is a name
abbrev pub pointed_from : Option (List ℕ × List Token) → Option (List ℕ × List Token)
pointed_from found =
    option_and_then (λ (f : List ℕ × List Token). if is_name f.0 then Some f else None) found

-- the base of a pointer to the name, and the tokens after it
abbrev pub pointer_base : Option (List ℕ × List Token) → Option (Base × List Token)
pointer_base found = option_map (λ f. (Ptr f.0, f.1)) found

-- the type of a base and its dimensions, where its printed text is not too long
abbrev pub type_of_base : Option (Base × List Token) → Option ElementType
type_of_base found = within_limit (option_and_then with_dims found)
