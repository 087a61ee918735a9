use Rattle.std.proofs.Common.{ℕ, sym, ap}
use Rattle.item_reader.proofs.Numbers.{elements_in, closes-named}
use Rattle.item_reader.proofs.state.State.table_seek.Goals as goal

pub number-requires-clause-named : goal.number-requires-clause-named
number-requires-clause-named c =
    (closes-named (elements_in c.args.self.now.dictionary c.args.end.class) c.requires.layout).seek

pub returns : goal.returns
returns c = λ file stands. sym (ap (λ (t : ℕ × ℕ). t.1) (c.number.ensures file stands))
