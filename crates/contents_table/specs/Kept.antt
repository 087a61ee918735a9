-- How names are kept: in the order in which they first came, with an index of their numbers.
use Rattle.std.specs.Prelude.{◌≡◌, ℕ, true, List, map, position, Option}
use Rattle.std.specs.Str.{bytes_eq}
use Rattle.std.specs.Ordering.{nat_cmp}
use Rattle.std.specs.BTreeMap.{BTreeMap, get_by}
use Rattle.std.specs.Cmp.Lexicographic.{slice_cmp}
use Rattle.std.specs.declared.vec.Vec.{Vec}
use Rattle.contents_table.specs.declared.names.Listed.{Listed}
use Rattle.contents_table.specs.Built.{name_in, are_distinct}

-- the number of a name among others
abbrev pub number_in : List Listed → List ℕ → Option ℕ
number_in listed name = position (bytes_eq name) (map name_in listed)

-- no name is there twice, and the index gives the number of each
pub record AreNumbered {A : Type 0} (listed : List Listed) (numbers : BTreeMap (Vec ℕ A) ℕ) : Type 0 where
  pub distinct : are_distinct (map name_in listed) ≡ true
  pub found : (name : List ℕ) → get_by (λ key. slice_cmp nat_cmp name key.items) numbers ≡ number_in listed name
