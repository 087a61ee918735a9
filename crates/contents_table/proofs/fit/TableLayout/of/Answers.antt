use Rattle.std.proofs.Common.{ap, arith, length}
use Rattle.contents_table.proofs.LayoutFields.{elements-within}
use Rattle.contents_table.proofs.TableLayouts.{IsFitTold, fit-told}
use Rattle.contents_table.proofs.fit.TableLayout.of.Goals as goal
use Rattle.contents_table.proofs.fit.TableLayout.of.Goals.{After-table_fields}

pub table_fields-requires : goal.table_fields-requires
table_fields-requires c =
    omega (
      arith,
      ap length c.as_slice.ensures,
      c.fields-fields.ensures.layout.short,
      elements-within c.args.entry.now.elements c.args.plan.now c.requires,
    )

told : (c : After-table_fields) → IsFitTold c.args.entry.now c.args.plan.now c.table_fields.result
told c =
    fit-told c.args.entry.now c.args.plan.now c.as_slice.result.now c.table_fields.result c.as_slice.ensures
    c.requires c.table_fields.ensures

pub returns-clause-fit : goal.returns-clause-fit
returns-clause-fit c = (told c).fit

pub returns-clause-fields : goal.returns-clause-fields
returns-clause-fields c = (told c).fields

pub returns-clause-sound : goal.returns-clause-sound
returns-clause-sound c = (told c).sound
