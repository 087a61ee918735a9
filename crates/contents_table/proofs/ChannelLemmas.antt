-- The channels of a name among those of all names.
use Rattle.std.proofs.Common.{◌≡◌, ℕ, ◌+◌, Bool, cond, ltb, List, [], ◌∷◌, length, map}
use Rattle.std.proofs.Common.{Some, None, inl, inr, refl, sym, ap, ◌∙◌, subst, arith}
use Rattle.std.specs.Prelude.{find, not, slice_get, option_and_then}
use Rattle.std.specs.List.{prefix_len, position_or_len}
use Rattle.std.specs.Option.{option_map_or}
use Rattle.std.specs.Str.{bytes_eq}
use Rattle.std.proofs.lemmas.Bool.{cases_lt, lt-ltb, le-ltb}
use Rattle.std.proofs.lemmas.List.{length-map}
use Rattle.std.proofs.lemmas.List.Folds.{find_at}
use Rattle.std.proofs.lemmas.Option.{slice_get_past, slice_get_within, get_or_from_slice_get}
use Rattle.contents_table.specs.declared.names.Listed.{Listed}
use Rattle.contents_table.specs.Built.{name_in, place_in, position_in, AreNames, AreInOrder}
use Rattle.contents_table.specs.Kept.{number_in}

prefix_len-map : {X Y : Type 0} (p : Y → Bool) (f : X → Y) (xs : List X)
    → prefix_len p (map f xs) ≡ prefix_len (λ x. p (f x)) xs
prefix_len-map p f [] = refl
prefix_len-map p f (x ∷ xs) = ap (λ n. cond (p (f x)) (1 + n) 0) (prefix_len-map p f xs)

-- what is found by its name stands at the number of the name
find-by_number : (listed : List Listed) (name : List ℕ)
    → find (λ (l : Listed). bytes_eq name l.name) listed ≡ option_and_then (slice_get listed) (number_in listed name)
find-by_number listed name =
    find_at (λ (l : Listed). bytes_eq name l.name) listed
    ∙ by (position_or_len (λ (l : Listed). bytes_eq name l.name) listed)
    ∙ sym (ap (λ n. option_and_then (slice_get listed) (cond (ltb n (length (map name_in listed))) (Some n) None))
    (prefix_len-map (λ other. not (bytes_eq name other)) name_in listed))
  where
    by : (n : ℕ) → slice_get listed n
        ≡ option_and_then (slice_get listed) (cond (ltb n (length (map name_in listed))) (Some n) None)
    by n = elim (cases_lt n (length listed)) [
      | inl lt ↦ sym (ap (λ b. option_and_then (slice_get listed) (cond b (Some n) None))
          (lt-ltb n (length (map name_in listed)) (omega (arith, lt, length-map listed name_in))))
      | inr le ↦ slice_get_past listed n le
          ∙ sym (ap (λ b. option_and_then (slice_get listed) (cond b (Some n) None))
          (le-ltb n (length (map name_in listed)) (omega (arith, le, length-map listed name_in))))
    ]

-- the place of a listed name's channel, and of a name that is not listed
pub position-listed : (listed : List Listed) (name : List ℕ) (j : ℕ) (l : Listed) (frame : ℕ)
    → number_in listed name ≡ Some j → slice_get listed j ≡ Some l
    → position_in listed name frame ≡ place_in frame l.found
position-listed listed name j l frame number is =
    ap (λ o. option_map_or (λ (l : Listed). place_in frame l.found) o 0)
    (find-by_number listed name ∙ ap (option_and_then (slice_get listed)) number ∙ is)

pub position-unlisted : (listed : List Listed) (name : List ℕ) (frame : ℕ) → number_in listed name ≡ None
    → position_in listed name frame ≡ 0
position-unlisted listed name frame number =
    ap (λ o. option_map_or (λ (l : Listed). place_in frame l.found) o 0)
    (find-by_number listed name ∙ ap (option_and_then (slice_get listed)) number)

-- the channels of a listed name are in order
pub found-ordered : (frames : ℕ) (listed : List Listed) (j : ℕ) (l : Listed) → AreNames frames listed
    → slice_get listed j ≡ Some l → AreInOrder frames l.found
found-ordered frames listed j l are is =
    subst (λ (l : Listed). AreInOrder frames l.found) (get_or_from_slice_get listed j l l is)
    (are.names j l (slice_get_within listed j l is)).ordered
