-- The dictionary is the list of the entries held, in the order of their addition: a map from class to entry.
use Rattle.std.specs.Prelude.{◌≡◌, ℕ, ◌≤◌, Bool, ◌==◌, ◌||◌, nat_lt, if◌then◌else◌, List, [], ◌∷◌, ◌++◌, length, find}
use Rattle.std.specs.Prelude.{IsSomeAnd, Option, Some, None, is_some, Result, Ok, Err}
use Rattle.std.specs.Option.{option_map}
use Rattle.std.specs.Str.{bytes_eq}
use Rattle.dictionary.specs.declared.entries.Entry.{Entry}
use Rattle.dictionary.specs.declared.held.AddFault.{AddFault}
use Rattle.dictionary.specs.declared.held.AddFault.TheVariants.{ClassRange, Redefined, NameTwice, ElementLimit}
use Rattle.dictionary.specs.Same.{AreRead, IsSameEntry, same_entries}

-- the entry held of a class
abbrev pub entry_of : List Entry → ℕ → Option Entry
entry_of held class = find (λ e. class == e.class) held

-- the class that is held under a structure name
abbrev pub class_named : List Entry → List ℕ → Option ℕ
class_named held name = option_map (λ e. e.class) (find (λ e. bytes_eq name e.name) held)

-- FrSH and FrSE, whose layouts are built in
abbrev pub is_built_in : ℕ → Bool
is_built_in class = class == 1 || class == 2

-- class 0, or one above 255
abbrev pub is_out_of_range : ℕ → Bool
is_out_of_range class = class == 0 || nat_lt 255 class

-- more than 4,096 elements
abbrev pub is_too_long : Entry → Bool
is_too_long e = nat_lt 4096 (length e.elements)

-- the dictionary after an entry of a class that is not held
abbrev pub step_new : List Entry → Entry → Result (List Entry) AddFault
step_new held e =
    if is_some (class_named held e.name) then Err NameTwice
    else (if is_too_long e then Err ElementLimit else Ok (held ++ e ∷ []))

-- and after one of a class that is
abbrev pub step_held : List Entry → Entry → Entry → Result (List Entry) AddFault
step_held held old e = if same_entries old e then Ok held else Err Redefined

abbrev pub step_by : Option Entry → List Entry → Entry → Result (List Entry) AddFault
step_by None held e = step_new held e
step_by (Some old) held e = step_held held old e

-- The dictionary after the entry, or why it is refused: the first refusal in this order.
unfoldable pub step : List Entry → Entry → Result (List Entry) AddFault
step held e =
    if is_built_in e.class then (if is_too_long e then Err ElementLimit else Ok held)
    else (if is_out_of_range e.class then Err ClassRange else step_by (entry_of held e.class) held e)

-- An entry redefines its class where an entry of the class is held, and that one is not the same.
abbrev pub IsRedefined : List Entry → Entry → Type 0
IsRedefined held e = IsSomeAnd (entry_of held e.class) (λ old. ¬ IsSameEntry old e)

-- What an entry that is held has: a class of 3 to 255, types as its texts read, at most 4,096 elements, and a name that
-- is of its class alone.
pub record IsHeld (held : List Entry) (e : Entry) : Type 0 where
  pub low : 3 ≤ e.class
  pub high : e.class ≤ 255
  pub read : AreRead e.elements
  pub short : length e.elements ≤ 4096
  pub name : class_named held e.name ≡ Some e.class

-- Each class that is held has such an entry, and each name that is held is that of its class's entry.
pub record IsDictionary (held : List Entry) : Type 0 where
  pub entries : (class : ℕ) (e : Entry) → entry_of held class ≡ Some e → IsHeld held e
  pub names : (name : List ℕ) (class : ℕ) → class_named held name ≡ Some class
      → IsSomeAnd (entry_of held class) (λ e. e.name ≡ name)
