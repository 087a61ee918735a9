use Rattle.std.proofs.Common.{◌≡◌, ◌<◌, ℕ, false, get_or, []}
use Rattle.std.specs.Str.{bytes_eq}
use Rattle.layout_plan.specs.Reading.{text_in}
use Rattle.contents_table.proofs.ItemLemmas.{AreLeft}
use Rattle.contents_table.proofs.kind_view.KindView.number.Given as goal

abbrev pub invariant-loop-k : goal.invariant-loop-k
invariant-loop-k l = record {
  left : AreLeft (text_in l.self-inside.order) l.self-inside.count l.self.names l.k l.rest;
  apart : (j : ℕ) → j < l.k → bytes_eq l.name (get_or l.self.names j []) ≡ false;
}
