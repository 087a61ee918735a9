use Rattle.std.proofs.Common.{take, ap, ◌∙◌, arith}
use Rattle.std.proofs.lemmas.List.{take_rest}
use Rattle.scalar_types.specs.Number.{number}
use Rattle.layout_plan.proofs.LinkLemmas.{link_in-numbers}
use Rattle.layout_plan.proofs.links.link_of.Goals as goal

pub returns : goal.returns
returns c =
    link_in-numbers c.args.order c.args.bytes.now c.read_num.result c.read_num-2.result (omega arith)
    c.read_num.ensures.value (c.read_num-2.ensures.value
    ∙ ap (λ rest. number c.args.order (take 4 rest)) (take_rest c.args.bytes.now 2))
