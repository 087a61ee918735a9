use Rattle.item_reader.proofs.Taken.{takes-table}
use Rattle.item_reader.proofs.state.State.take_table.Goals as goal

pub returns-clause-answers : goal.returns-clause-answers
returns-clause-answers c = λ body file stands none.
    takes-table c.args.self.now c.args.table file body c.requires.open stands c.requires.kind none
