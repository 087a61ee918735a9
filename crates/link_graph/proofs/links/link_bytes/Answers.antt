-- Two bytes of the class, and four of the instance behind them.
use Rattle.std.proofs.Common.{ℕ, List, take, drop, ap, ◌∙◌, arith, rules, length-take}
use Rattle.std.proofs.lemmas.List.{drop_all}
use Rattle.scalar_types.specs.declared.Width.TheVariants.{Two, Four}
use Rattle.scalar_types.specs.Number.{bytes_of}
use Rattle.link_graph.proofs.Spelled.{link-spelled}
use Rattle.link_graph.proofs.links.link_bytes.Goals as goal

pub returns-clause-spelled : goal.returns-clause-spelled
returns-clause-spelled c =
    let behind : List ℕ = drop 2 c.write_num.new.into in
    link-spelled c.args.order c.args.link c.write_num.new.into c.write_num-2.new.into _ _ (search rules)
    (search rules)
    (c.write_num.ensures.value
    ∙ ap (bytes_of c.args.order Two) c.from.ensures) c.write_num.ensures.rest (omega arith)
    (c.write_num-2.ensures.value
    ∙ ap (bytes_of c.args.order Four) c.from-2.ensures) c.write_num-2.ensures.rest
    (drop_all 4 (take 4 behind) (omega (arith, length-take 4 behind)))
