use Rattle.record_reader.proofs.ByteLemmas.{items-bytes}
use Rattle.record_reader.proofs.lists.bytes.Goals as goal

pub returns : goal.returns
returns c = rw (items-bytes c.args.order c.args.count c.args.cursor.now) c.bytes.ensures
