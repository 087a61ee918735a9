-- A list by its items, or by its bytes.
use Rattle.std.proofs.Common.{ap}
use Rattle.std.proofs.lemmas.Bool.{iff_false}
use Rattle.dumper.specs.Printed.{value_text}
use Rattle.dumper.specs.Items.{items_of}
use Rattle.dumper.proofs.Pages.{prints-is}
use Rattle.dumper.proofs.ListedItems.{field-bytes, field-items, field-text}
use Rattle.dumper.proofs.values.print_listed.Goals as goal

pub returns-then-is_byte : goal.returns-then-is_byte
returns-then-is_byte g c = λ numbers v s.
    prints-is _ _ _ _ _ _ _
    (ap (value_text c.args.base.now) (field-bytes c.args.order numbers c.args.field.now.form c.args.field.now.counts v
    c.args.bytes.now c.requires.listed (c.is_byte.ensures.0 c.if-is_byte.true) s))
    c.print_bytes.ensures

pub print_list-requires-clause-spelled : goal.print_list-requires-clause-spelled
print_list-requires-clause-spelled g c = (
  items_of c.requires.spelled.1,
  field-items c.args.order c.requires.spelled.0 c.args.field.now.form c.args.field.now.counts c.requires.spelled.1
      c.args.bytes.now c.requires.listed
      (iff_false c.is_byte.ensures c.if-is_byte.false) c.requires.spelled.2,
)

pub returns : goal.returns
returns g c = λ numbers v s.
    let some = c.requires.listed in
    let other = iff_false c.is_byte.ensures c.if-is_byte.false in
    let form = c.args.field.now.form in
    let counts = c.args.field.now.counts in
    prints-is _ _ _ _ _ _ _
    (field-text c.args.base.now c.args.order numbers form counts v c.args.bytes.now some other s)
    (c.print_list.ensures (items_of v)
    (field-items c.args.order numbers form counts v c.args.bytes.now some other s))
