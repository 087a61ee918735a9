use Rattle.std.proofs.Common.{◌≡◌, true, take}
use Rattle.std.specs.List.{list_all}
use Rattle.contents_table.specs.declared.names.Listed.{Listed}
use Rattle.contents_table.specs.Views.{holds}
use Rattle.contents_table.proofs.kind_view.has_all.Given as goal

abbrev pub invariant-loop-j : goal.invariant-loop-j
invariant-loop-j l = list_all (λ (listed : Listed). holds l.names listed.name) (take l.j l.built) ≡ true
