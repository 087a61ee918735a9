use Rattle.dumper.proofs.SpanLemmas.{AreLeft}
use Rattle.dumper.proofs.spans.texts_length.Given as goal

abbrev pub invariant-loop-i : goal.invariant-loop-i
invariant-loop-i l = AreLeft l.order l.count l.bytes l._i l.at
