-- The tokens of a type text.
use Rattle.std.specs.Prelude.{◌≡◌, ℕ, ◌<◌, Bool, true, false, not, ◌==◌, ◌||◌, if◌then◌else◌, List, [], ◌∷◌, ◌++◌}
use Rattle.std.specs.Prelude.{length}
use Rattle.std.specs.List.{list_all}
use Rattle.std.specs.Char.{is_ascii_alphanumeric}

-- a space or a tab, which may stand before, between and after tokens
abbrev pub is_blank : ℕ → Bool
is_blank b = b == 32 || b == 9

-- a letter (A to Z, a to z), a digit or an underscore
abbrev pub is_word_byte : ℕ → Bool
is_word_byte b = is_ascii_alphanumeric b || b == 95

-- a longest run of letters, digits and underscores; or any other byte that is no blank
pub data Token : Type 0 where
  Word : List ℕ → Token
  Mark : ℕ → Token

-- a word is not empty, and has bytes of words alone
abbrev pub IsWord : List ℕ → Type 0
IsWord w = (0 < length w) × (list_all is_word_byte w ≡ true)

-- a byte that is no blank and none of a word
abbrev pub is_mark : ℕ → Bool
is_mark b = not (is_blank b || is_word_byte b)

-- the bytes begin with one of a word
abbrev pub begins_word : List ℕ → Bool
begins_word [] = false
begins_word (b ∷ bs) = is_word_byte b

-- the tokens with the byte in front of their first word
abbrev pub extended : ℕ → List Token → List Token
extended b (Word w ∷ ts) = Word (b ∷ w) ∷ ts
extended b ts = Word (b ∷ []) ∷ ts

-- the tokens of a text: a byte of a word joins the word that begins right behind it
unfoldable pub tokens : List ℕ → List Token
tokens [] = []
tokens (b ∷ bs) =
    if is_blank b then tokens bs
    else (if is_word_byte b then (if begins_word bs then extended b (tokens bs) else Word (b ∷ []) ∷ tokens bs)
    else Mark b ∷ tokens bs)

-- A text spells tokens where blanks alone stand before, between and after them, and no word goes on behind its end.
abbrev pub IsSpelling : List Token → List ℕ → Type 0
IsSpelling [] text = list_all is_blank text ≡ true
IsSpelling (Word w ∷ ts) text =
    (blanks rest : List ℕ) × (list_all is_blank blanks ≡ true) × IsWord w × (begins_word rest ≡ false)
    × (text ≡ blanks ++ w ++ rest) × IsSpelling ts rest
IsSpelling (Mark b ∷ ts) text =
    (blanks rest : List ℕ) × (list_all is_blank blanks ≡ true) × (is_mark b ≡ true) × (text ≡ blanks ++ b ∷ rest)
    × IsSpelling ts rest
