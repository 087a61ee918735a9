-- A whole structure as the code holds it: its first 14 bytes, and its body.
use Rattle.std.specs.Prelude.{◌≡◌, ℕ, ◌+◌, ◌≤◌, slice_range, drop, List, length}
use Rattle.scalar_types.specs.declared.Order.{Order}
use Rattle.frame_head.specs.declared.structure.Common.{Common}
use Rattle.file_grammar.specs.Structure.{Structure, record_limit, common_at, structure_at}
use Rattle.item_reader.specs.declared.structure.Placed.{Placed}

-- the structure of these 14 bytes at a place
abbrev pub placed_at : ℕ → Common → Placed
placed_at at common = record { at = at; length = common.length; class = common.class; instance = common.instance }

-- its body in a file
abbrev pub body_of : List ℕ → Placed → List ℕ
body_of file p = slice_range (drop p.at file) 14 p.length

-- the structure that it is with a body
abbrev pub structure_by : Placed → List ℕ → Structure
structure_by p body = record { at = p.at; class = p.class; instance = p.instance; body = body }

-- its place and its length are those of a structure at a place
pub record IsStructureAt (at : ℕ) (p : Placed) : Type 0 where
  pub place : p.at ≡ at
  pub head : 14 ≤ p.length
  pub small : p.length ≤ record_limit

-- The whole structure at a place of a file is this one.
pub record IsPlaced (order : Order) (file : List ℕ) (at : ℕ) (p : Placed) : Type 0 where
  pub is : structure_at order file at ≡ structure_by p (body_of file p)
  pub place : p.at ≡ at
  pub length_is : p.length ≡ (common_at order file at).length
  pub head : 14 ≤ p.length
  pub small : p.length ≤ record_limit
  pub within : at + p.length ≤ length file

-- The whole structure at a place of a file is this one, and has this body.
pub record StandsIn (order : Order) (at : ℕ) (p : Placed) (body : List ℕ) (file : List ℕ) : Type 0 where
  pub placed : IsPlaced order file at p
  pub body_is : body ≡ body_of file p
