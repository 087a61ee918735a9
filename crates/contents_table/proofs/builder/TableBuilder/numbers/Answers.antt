use Rattle.std.proofs.Common.{map, length, ap, ◌∙◌, arith}
use Rattle.std.proofs.lemmas.List.{length-map, take_all}
use Rattle.layout_plan.specs.Body.{number_of}
use Rattle.contents_table.specs.Told.{table_values}
use Rattle.contents_table.proofs.ToldValues.{numbers-push, table-length}
use Rattle.contents_table.proofs.builder.TableBuilder.numbers.Goals as goal

pub loop-k-init : goal.loop-k-init
loop-k-init c = c.new-numbers.ensures.items

pub loop-k-preserved : goal.loop-k-preserved
loop-k-preserved c =
    numbers-push c.args.plan.now c.args.layout.now c.args.self.now c.loop-k.k c.told_by.result
    c.loop-k.numbers.items _ c.number.result (omega (arith, ap length c.fields-k-end.ensures.fields))
    c.loop-k.invariant c.told_by.ensures c.number.ensures c.in_ok-push.ensures.items

pub returns : goal.returns
returns c =
    let vs = table_values c.args.layout.now c.args.plan.now c.args.self.now in
    c.loop-k.invariant
    ∙ take_all c.loop-k.k (map number_of vs)
    (omega (
      arith,
      length-map vs number_of,
      table-length c.args.plan.now c.args.layout.now c.args.self.now,
      ap length c.fields-k-end.ensures.fields,
    ))
