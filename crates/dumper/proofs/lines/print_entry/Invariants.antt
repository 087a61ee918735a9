-- The lines so far are printed.
use Rattle.std.proofs.Common.{◌++◌, take}
use Rattle.std.specs.List.{flat_map}
use Rattle.dumper.specs.Lines.{element_line, entry_line}
use Rattle.dumper.specs.Page.{Carries, pending}
use Rattle.dumper.proofs.lines.print_entry.Given as goal

abbrev pub invariant-loop-element : goal.invariant-loop-element
invariant-loop-element g l =
    Carries (g.O.Sink.output l.fn.out) (g.O.Sink.output l.out) (pending l.fn.page) (pending l.page)
    (entry_line l.entry ++ flat_map element_line (take l.element-index l.element-items))
