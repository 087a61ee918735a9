-- The link of a record is in the index exactly where a record has it.
use Rattle.std.proofs.Common.{◌≡◌, List, sym, subst, ap, ◌∙◌}
use Rattle.std.specs.Prelude.{IsSome}
use Rattle.link_graph.specs.declared.nodes.Kept.{Kept}
use Rattle.link_graph.specs.Collected.{link_to}
use Rattle.link_graph.specs.Index.{place_in}
use Rattle.link_graph.specs.Kept.{number_in}
use Rattle.link_graph.proofs.Found.{number-linked}
use Rattle.link_graph.proofs.records.Records.push.Goals as goal

pub returns-in-Err-clause-taken : goal.returns-in-Err-clause-taken
returns-in-Err-clause-taken c =
    let to = c.link_to-to.result in
    let same : place_in c.self.inside.index to ≡ number_in c.args.self.now (link_to c.args.kept.node) =
    number-linked c.self.inside.kept.items c.self.inside.index to c.self.invariant
    ∙ ap (λ (records : List Kept). number_in records to) c.self.view_is
    ∙ ap (number_in c.args.self.now) c.link_to-to.ensures in (
      λ e. subst IsSome same (c.push-2.ensures.taken.0 cc),
      λ found. let taken = c.push-2.ensures.taken.1 (subst IsSome (sym same) found) in cc,
    )

pub returns-clause-taken : goal.returns-clause-taken
returns-clause-taken c =
    let to = c.link_to-to.result in
    let same : place_in c.self.inside.index to ≡ number_in c.args.self.now (link_to c.args.kept.node) =
    number-linked c.self.inside.kept.items c.self.inside.index to c.self.invariant
    ∙ ap (λ (records : List Kept). number_in records to) c.self.view_is
    ∙ ap (number_in c.args.self.now) c.link_to-to.ensures in (
      λ e. cc,
      λ found. let taken = c.push-2.ensures.taken.1 (subst IsSome (sym same) found) in cc,
    )
