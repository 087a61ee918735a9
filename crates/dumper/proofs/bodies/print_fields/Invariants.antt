-- The fields so far are read and printed.
use Rattle.dumper.specs.Page.{pending}
use Rattle.dumper.proofs.ShownFields.{AreShown}
use Rattle.dumper.proofs.bodies.print_fields.Given as goal

abbrev pub invariant-loop-k : goal.invariant-loop-k
invariant-loop-k g l =
    AreShown l.order l.elements l.fields l.body (g.O.Sink.output l.fn.out) (pending l.fn.page) l.k l.numbers.items
    l.rest (g.O.Sink.output l.out) (pending l.page)
