-- The index of links: each hangs below another, by the digits of its instance and class.
use Rattle.std.specs.Prelude.{◌≡◌, ℕ, zero, suc, ◌+◌, ◌*◌, ◌/◌, ◌%◌}
use Rattle.std.specs.Prelude.{◌<◌, ◌≤◌, ◌==◌, ◌&&◌, ◌⊎◌, Bool, false, if◌then◌else◌}
use Rattle.std.specs.Prelude.{List, length, position, slice_get, slice_index_or, Option, Some, None}
use Rattle.std.specs.Option.{option_map_or}
use Rattle.type_text.specs.declared.types.Link.{Link}
use Rattle.link_graph.specs.declared.index.Spot.{Spot}
use Rattle.link_graph.specs.declared.index.Spot.TheVariants.{Taken, Free}

-- two links are the same
abbrev pub is_link : Link → Link → Bool
is_link link other = other.instance == link.instance && other.class == link.class

-- the number of a link is its place
abbrev pub place_in : List Link → Link → Option ℕ
place_in links link = position (is_link link) links

-- the digits of a link as one number: those of its instance, and above them those of its class
abbrev pub digits_of : Link → ℕ
digits_of link = link.class * 4294967296 + link.instance

-- the link of a number is this one
abbrev pub is_at : List Link → ℕ → Link → Bool
is_at links number link = option_map_or (is_link link) (slice_get links number) false

-- what hangs at a place, where 0 stands for nothing
abbrev pub child_at : List ℕ → ℕ → ℕ
child_at children place = slice_index_or children place 0

-- Where a walk to a link ends after so many steps at most, if it stands at a number and these digits are
-- left: at the number of the link, or at the place where nothing hangs.
abbrev pub walk : List Link → List ℕ → Link → ℕ → ℕ → ℕ → Spot
walk links children link zero number digits = Free 0
walk links children link (suc steps) number digits =
    if is_at links number link then Taken number else
    (if child_at children (number * 16 + digits % 16) == 0 then Free (number * 16 + digits % 16) else
    walk links children link steps (child_at children (number * 16 + digits % 16)) (digits / 16))

-- the walk from the first link
abbrev pub spot_of : List Link → List ℕ → Link → Spot
spot_of links children link = walk links children link (length links) 0 (digits_of link)

-- the number of the link where a walk ends
abbrev pub number_at_spot : Spot → Option ℕ
number_at_spot (Taken number) = Some number
number_at_spot (Free place) = None

-- what hangs at a place comes behind the link whose place it is
abbrev pub IsForward : ℕ → List ℕ → Type 0
IsForward count children = (place : ℕ) → (child_at children place ≡ 0)
    ⊎ ((place < child_at children place * 16) × (child_at children place < count))

-- each link has 16 places, no two links are the same, and a walk to a link ends at its number
pub record AreReached (links : List Link) (children : List ℕ) : Type 0 where
  pub few : length links ≤ 4294967295
  pub size : length children ≡ length links * 16
  pub forward : IsForward (length links) children
  pub distinct : (number : ℕ) (link : Link) → slice_get links number ≡ Some link →
      place_in links link ≡ Some number
  pub reached : (link : Link) → number_at_spot (spot_of links children link) ≡ place_in links link
