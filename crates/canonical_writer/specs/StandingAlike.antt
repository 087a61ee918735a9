-- Frames that stand alike in their files.
use Rattle.std.specs.Prelude.{◌≡◌, ℕ, ◌<◌, List, length, map}
use Rattle.link_graph.specs.Collected.{Bodied}
use Rattle.canonical_writer.specs.declared.frame_part.FrameSource.{FrameSource}
use Rattle.canonical_writer.specs.Alike.{RecordsAreAlike}
use Rattle.canonical_writer.specs.Filled.{record_at}

-- a record but for its place in the file and whether it is a root
pub record Stored : Type 0 where
  pub class : ℕ
  pub instance : ℕ
  pub body : List ℕ

abbrev pub stored : Bodied → Stored
stored r = record { class = r.node.class; instance = r.node.instance; body = r.body }

-- The records are the same, number by number, but for their places and roots.
abbrev pub HoldAlike : List Bodied → List Bodied → Type 0
HoldAlike nodes others = map stored nodes ≡ map stored others

-- Two frames have the same records in one byte order, and the same order of these.
pub record StandAlike (first second : FrameSource) : Type 0 where
  pub bytes : first.segment.now.order ≡ second.segment.now.order
  pub order : first.order.now ≡ second.order.now
  pub records : HoldAlike first.segment.now.nodes second.segment.now.nodes

-- The records of two frames are alike, place by place in their orders.
abbrev pub RowsAreAlike : FrameSource → FrameSource → Type 0
RowsAreAlike first second =
    (k : ℕ) → k < length first.order.now → RecordsAreAlike (record_at first k) (record_at second k)
