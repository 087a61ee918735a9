-- The bytes are one item.
use Rattle.std.proofs.Common.{◌≡◌, ◌++◌}
use Rattle.dumper.specs.Printed.{value_text}
use Rattle.dumper.proofs.FrontItems.{single-begins, of-single}
use Rattle.dumper.proofs.values.push_single.Goals as goal

pub push_item-requires-clause-spelled : goal.push_item-requires-clause-spelled
push_item-requires-clause-spelled c =
    single-begins c.args.order c.args.form c.requires.spelled.0 c.args.bytes.now c.requires.spelled.1

pub returns : goal.returns
returns c = λ v s.
    (of-single c.args.order c.args.form v c.args.bytes.now
    (λ w long. (c.in_ok-push_item.field-0 ≡ long)
    × (c.push_item.new.text.items ≡ c.args.text.now.items ++ value_text c.args.base.now w))
    c.in_ok-push_item.ensures s).1
