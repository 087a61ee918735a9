use Rattle.std.proofs.Common.{◌≡◌, List, ℕ, true, take}
use Rattle.std.specs.List.{list_any}
use Rattle.std.specs.Str.{bytes_eq}
use Rattle.layout_plan.specs.Reading.{text_in}
use Rattle.contents_table.specs.Built.{are_distinct}
use Rattle.contents_table.specs.Views.{holds}
use Rattle.contents_table.proofs.ItemLemmas.{AreLeft}
use Rattle.contents_table.proofs.kind_view.KindView.distinct_names.Given as goal

abbrev pub invariant-loop-k : goal.invariant-loop-k
invariant-loop-k l = record {
  left : AreLeft (text_in l.self-inside.order) l.self-inside.count l.self.names l._k l.rest;
  distinct : are_distinct (take l._k l.self.names) ≡ true;
  names : (name : List ℕ) → holds l.met name ≡ list_any (bytes_eq name) (take l._k l.self.names);
}
