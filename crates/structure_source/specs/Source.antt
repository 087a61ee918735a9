-- A file that is read through a slot from a place on, structure by structure.
use Rattle.std.specs.Prelude.{◌≡◌, ◌↔◌, ℕ, ◌+◌, ◌-◌, ◌<◌, ◌≤◌, List, ◌++◌, length, take, drop, max, Option}
use Rattle.std.specs.Prelude.{Bool, false, IsTrue}
use Rattle.scalar_types.specs.declared.Order.{Order}
use Rattle.frame_head.specs.Structure.{common_of}
use Rattle.frame_outside.specs.Shelf.{Outside, Reading, Told, IsSource, reading_at, left_of}
use Rattle.frame_outside.specs.SlotReader.{Draws, most_ahead}
use Rattle.link_graph.specs.Collected.{Collected, Becomes}
use Rattle.structure_source.specs.declared.source.Head.{Head}
use Rattle.structure_source.specs.declared.source.Head.TheVariants.{End, Cut, Whole}

-- Where a source stands, as callers see it: the slot, the bytes that were drawn from it and not passed yet,
-- and the place, in bytes from the beginning of the file.
pub record Position : Type 0 where
  pub slot : ℕ
  pub ahead : List ℕ
  pub at : ℕ

-- the bytes of the slot that were drawn
abbrev pub bytes_drawn : Position → ℕ
bytes_drawn p = p.at + length p.ahead

-- the bytes from a place to the end of a file
abbrev pub left_at : List ℕ → ℕ → ℕ
left_at file at = length file - at

-- The slot has given what was drawn; the bytes ahead and those that it has left are the file's from the
-- place on.
pub record IsAt (reading : Reading) (p : Position) : Type 0 where
  pub drawn_is : reading.at ≡ bytes_drawn p
  pub within : reading.at ≤ length reading.opened
  pub rest : p.ahead ++ left_of reading ≡ drop p.at reading.opened

-- The slot is a source that stands there, where the shelf tells it, and at most 65,536 bytes are ahead.
pub record Stands (outside : Outside) (p : Position) : Type 0 where
  pub source : IsSource outside.slots p.slot
  pub few : length p.ahead ≤ most_ahead
  pub place : Told (reading_at outside.slots p.slot) (λ reading. IsAt reading p)

-- The source went on: of the shelf only bytes of its slot were drawn, exactly as many as it has drawn more
-- now.
pub record GoesOn (old new : Outside) (before after : Position) : Type 0 where
  pub slot : after.slot ≡ before.slot
  pub forward : before.at ≤ after.at
  pub draws : Draws old new before.slot
  pub balance : bytes_drawn before + draws.drawn ≡ bytes_drawn after

-- Reading ahead is bounded: nothing is drawn where the n bytes that are asked for are ahead, and else at
-- most 65,535 bytes behind them.
pub record IsBounded (before : Position) (n : ℕ) (after : Position) : Type 0 where
  pub none : n ≤ length before.ahead → bytes_drawn after ≡ bytes_drawn before
  pub few : bytes_drawn after ≤ max (bytes_drawn before) (before.at + n + 65535)

-- what stands at a place, as far as 14 bytes tell it
abbrev pub IsHead : Order → List ℕ → ℕ → Head → Type 0
IsHead order file at End = left_at file at ≡ 0
IsHead order file at Cut = (0 < left_at file at) × (left_at file at < 14)
IsHead order file at (Whole common) = (14 ≤ left_at file at) × (common ≡ common_of order (drop at file))

-- how far a source went on over what stood at its place
abbrev pub PassesHead : Head → ℕ → ℕ → Type 0
PassesHead End from to = to ≡ from
PassesHead Cut from to = (from < to) × (to < from + 14)
PassesHead (Whole common) from to = to ≡ from + 14

-- The next n bytes were passed; or, where the file has fewer from the place on, all of these.
pub record PassesNext (told : Option Reading) (before after : Position) (n : ℕ) (whole : Bool) : Type 0 where
  pub all : IsTrue whole ↔ (after.at ≡ before.at + n)
  pub there : Told told (λ reading. IsTrue whole ↔ (n ≤ left_at reading.opened before.at))
  pub end : whole ≡ false → Told told (λ reading. after.at ≡ length reading.opened)

-- the bytes that were passed from one position to a later one
pub record ArePassed (told : Option Reading) (before after : Position) (bytes : List ℕ) : Type 0 where
  pub size : before.at + length bytes ≡ after.at
  pub same : Told told (λ reading. bytes ≡ take (length bytes) (drop before.at reading.opened))

-- the bytes that were passed stand at the end of a list, and else it is as it was
pub record Appends (told : Option Reading) (before after : Position) (old new : List ℕ) : Type 0 where
  pub bytes : List ℕ
  pub passed : ArePassed told before after bytes
  pub after_is : new ≡ old ++ bytes

-- The bytes that were passed stand at the end of the pending body, and else nothing of the segment changed
-- but its spare.
pub record Brings (told : Option Reading) (before after : Position) (old new : Collected) : Type 0 where
  pub pending : Appends told before after old.pending new.pending
  pub given : new.given + before.at ≡ old.given + after.at
  pub rest : Becomes new (record old { pending = new.pending; given = new.given })
