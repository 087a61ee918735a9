use Rattle.layout_plan.specs.Reading.{text_in}
use Rattle.contents_table.proofs.ItemLemmas.{AreLeft}
use Rattle.contents_table.proofs.PositionLemmas.{ArePlaced}
use Rattle.contents_table.proofs.kind_view.KindView.has_positions.Given as goal

abbrev pub invariant-loop-k : goal.invariant-loop-k
invariant-loop-k l = record {
  left : AreLeft (text_in l.self-inside.order) l.self-inside.count l.self.names l.k l.rest;
  placed : ArePlaced l.self l.built l.k;
}
