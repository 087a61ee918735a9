use Rattle.std.proofs.Common.{◌≡◌, ◌<◌, ℕ}
use Rattle.contents_table.specs.Built.{place_in}
use Rattle.contents_table.specs.Listed.{position_at}
use Rattle.contents_table.proofs.kind_view.KindView.has_places.Given as goal

abbrev pub invariant-loop-frame : goal.invariant-loop-frame
invariant-loop-frame l =
    (other : ℕ) → other < l.frame → position_at l.self other l.k ≡ place_in other l.found
