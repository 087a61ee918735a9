-- The position of a name that is listed once.
use Rattle.std.proofs.Common.{◌≡◌, ℕ, true, List, [], map, Some, All, refl, sym, ap, subst, ◌∙◌, arith}
use Rattle.std.specs.Prelude.{slice_get}
use Rattle.std.specs.Option.{option_map}
use Rattle.std.proofs.lemmas.List.{length-map}
use Rattle.std.proofs.lemmas.Option.{slice_get-map, slice_get_within, get_or_from_slice_get}
use Rattle.contents_table.specs.declared.names.Listed.{Listed}
use Rattle.contents_table.specs.Built.{are_distinct, name_in, place_in, position_in, numbers_below}
use Rattle.contents_table.specs.Kept.{number_in}
use Rattle.contents_table.specs.Tells.{name_of_number}
use Rattle.contents_table.proofs.ChannelLemmas.{position-listed}
use Rattle.contents_table.proofs.Distinct.{position-distinct}

-- the name of number k
pub name_of_number-at : (listed : List Listed) (k : ℕ) (l : Listed) → slice_get listed k ≡ Some l
    → name_of_number listed k ≡ l.name
name_of_number-at listed k l is =
    get_or_from_slice_get (map name_in listed) k l.name []
    (slice_get-map name_in listed k ∙ ap (option_map name_in) is)

-- the position of name k
pub position_in-at : (listed : List Listed) (k : ℕ) (l : Listed) (frame place : ℕ)
    → are_distinct (map name_in listed) ≡ true → slice_get listed k ≡ Some l → place ≡ place_in frame l.found
    → place ≡ position_in listed (name_of_number listed k) frame
position_in-at listed k l frame place distinct is at =
    let number : number_in listed (name_of_number listed k) ≡ Some k =
    position-distinct (map name_in listed) (name_of_number listed k) k distinct
    (omega (arith, length-map listed name_in, slice_get_within listed k l is)) refl in
    at ∙ sym (position-listed listed (name_of_number listed k) k l frame number is)

-- what holds of all names holds of each
pub All-at : {X : Type 0} (P : X → Type 0) (xs : List X) (k : ℕ) (x : X) → All P xs → slice_get xs k ≡ Some x
    → P x
All-at P xs k x all is =
    subst P (get_or_from_slice_get xs k x x is) (all k x (slice_get_within xs k x is))

-- the positions of one name, and those in one frame
abbrev pub positions_of_name : List Listed → ℕ → List ℕ → List ℕ
positions_of_name listed frames name = map (position_in listed name) (numbers_below frames)

abbrev pub positions_in_frame : List Listed → ℕ → List ℕ
positions_in_frame listed frame = map (λ name. position_in listed name frame) (map name_in listed)
