-- The frame that is collected: the one that is open, or the one that has just ended.
use Rattle.std.proofs.Common.{◌≡◌, suc, List, [], ◌∷◌, All, None, refl, sym, ap, ◌∙◌, arith}
use Rattle.std.specs.Prelude.{map}
use Rattle.scalar_types.specs.declared.Order.{Order}
use Rattle.dictionary.specs.declared.entries.Entry.{Entry}
use Rattle.link_graph.specs.Collected.{Bodied}
use Rattle.item_reader.specs.declared.state.State.{State}
use Rattle.item_reader.specs.State.{IsSound, IsRecord, structure_of, bodied_of, before_of, frame_of, open_records}
use Rattle.item_reader.specs.Reader.{IsFrameOf}

-- a record is the one of the structure that it is
record-bodied : (order : Order) (held : List Entry) (r : Bodied) → IsRecord order held r
    → bodied_of held (structure_of r) ≡ r
record-bodied order held r is = λ i. record {
  node = record { at = r.node.at; class = r.node.class; instance = r.node.instance; root = sym is.root_is i };
  body = r.body;
}

pub all-bodied : (order : Order) (held : List Entry) (nodes : List Bodied) → All (IsRecord order held) nodes
    → map (bodied_of held) (map structure_of nodes) ≡ nodes
all-bodied order held [] all = refl
all-bodied order held (r ∷ rs) all =
    λ i. record-bodied order held r (all 0 r (omega arith)) i
    ∷ all-bodied order held rs (λ k d lt. all (suc k) d (omega (arith, lt))) i

-- the records of the open frame, as the segment has them
pub open-nodes : (s : State) → IsSound s → s.numbering ≡ None
    → s.segment.nodes ≡ map (bodied_of s.dictionary) (frame_of s)
open-nodes s sound open_is =
    sym (ap (λ n. map (bodied_of s.dictionary) (open_records n s.segment)) open_is
    ∙ all-bodied s.segment.order s.dictionary s.segment.nodes sound.nodes)

-- what is kept of the open frame
pub frame-collected : (order : Order) (s : State) → s.segment.order ≡ order → IsSound s → s.numbering ≡ None
    → s.segment.pending ≡ [] → IsFrameOf order (before_of s) s.segment
frame-collected order s same sound open_is none = record {
  order_is = same;
  nodes = open-nodes s sound open_is;
  end_record = (sound.frame open_is).end_record;
  pending = none;
}
