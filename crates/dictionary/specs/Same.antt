-- Entries that describe the same structure. The Common Data Frame Format (LIGO-T970130 v8) describes a structure by an
-- FrSH and its FrSEs; which of two are the same is this project's own rule.
use Rattle.std.specs.Prelude.{◌≡◌, ℕ, Bool, false, ◌==◌, ◌&&◌, List, map, All, Option, Some, None}
use Rattle.std.specs.Str.{bytes_eq}
use Rattle.std.specs.Cmp.Lexicographic.{pointwise}
use Rattle.type_text.specs.declared.types.ElementType.{ElementType}
use Rattle.type_text.specs.contracts.types.ElementTypePartialEq.TheImpl as element_type
use Rattle.type_text.specs.TypeText.{type_of}
use Rattle.dictionary.specs.declared.entries.Element.{Element}
use Rattle.dictionary.specs.declared.entries.Entry.{Entry}

-- the element's type is what its text reads as
abbrev pub IsRead : Element → Type 0
IsRead e = e.ty ≡ type_of e.text

-- so it is of each element
abbrev pub AreRead : List Element → Type 0
AreRead es = All IsRead es

-- what a text means: its type, or its own bytes where it reads as none
pub data Meaning : Type 0 where
  Reads : ElementType → Meaning
  Bytes : List ℕ → Meaning

abbrev pub meaning_by : Option ElementType → List ℕ → Meaning
meaning_by (Some ty) text = Reads ty
meaning_by None text = Bytes text

abbrev pub meaning_of : List ℕ → Meaning
meaning_of text = meaning_by (type_of text) text

-- an element's name, and what its text means
abbrev pub column_of : Element → List ℕ × Meaning
column_of e = (e.name, meaning_of e.text)

-- Entries are the same where they have the same class, structure name, element names in order and meanings of texts.
-- Comments do not count.
pub record IsSameEntry (a b : Entry) : Type 0 where
  pub class : a.class ≡ b.class
  pub name : a.name ≡ b.name
  pub columns : map column_of a.elements ≡ map column_of b.elements

-- The test of it: types are compared where both texts read, and bytes where neither does.
abbrev pub same_meaning : Option ElementType → List ℕ → Option ElementType → List ℕ → Bool
same_meaning (Some s) a (Some t) b = element_type.ghosts.eq s t
same_meaning None a None b = bytes_eq a b
same_meaning _ a _ b = false

abbrev pub same_element : Element → Element → Bool
same_element a b = bytes_eq a.name b.name && same_meaning (type_of a.text) a.text (type_of b.text) b.text

abbrev pub same_entries : Entry → Entry → Bool
same_entries a b = (a.class == b.class && bytes_eq a.name b.name) && pointwise same_element a.elements b.elements
