use Rattle.record_reader.proofs.ReadLemmas.{AreRead}
use Rattle.record_reader.proofs.reading.read_body.Given as goal

abbrev pub invariant-loop-i : goal.invariant-loop-i
invariant-loop-i l = AreRead l.order l.fields l.body l.i l.values l.numbers l.cursor
