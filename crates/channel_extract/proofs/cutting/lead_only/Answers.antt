use Rattle.std.proofs.Common.{IsSomeAnd, subst}
use Rattle.contents_table.specs.Layouts.{IsHeadField}
use Rattle.channel_extract.proofs.cutting.lead_only.Goals as goal
use Rattle.channel_extract.proofs.Relinking.{kept, kept-at, changed-keeps, changed-nodes, number-at, on-ok}
use Rattle.channel_extract.proofs.NoLoose.{none-kept, pair-tight}
use Rattle.channel_extract.proofs.RelinkedRows.{lead-links, target-leads}

pub returns-clause-links : goal.returns-clause-links
returns-clause-links c =
    on-ok c.keep_link.result
    (λ keeps held of name apart are head target.
    lead-links held c.args.plans.now of name c.args.segment.now c.keep_link.new.self c.args.node c.in-Some.field
    c.args.to _ are c.requires.bodies c.requires.node
    (subst (λ o. IsSomeAnd o (IsHeadField held c.args.plans.now c.args.segment.now name c.args.node)) c.in-Some.is head)
    (target-leads c.args.segment.now c.args.to c.from.result c.node-to.result.now c.node-to.ensures c.from.ensures
    target) keeps) c.keep_link.ensures.ok

pub returns-clause-records : goal.returns-clause-records
returns-clause-records c =
    let number = number-at c.args.plans.now c.args.segment.now c.args.node c.in-Some.field
    (c.is_plain_link.ensures.plain search) in
    on-ok c.keep_link.result
    (λ keeps. changed-keeps c.args.plans.now (kept number.0 _) c.args.node c.args.segment.now c.keep_link.new.self
    c.requires.bodies (kept-at c.args.plans.now c.args.node number.0 _ c.args.segment.now c.keep_link.new.self
    (keeps number.0 number.1))) c.keep_link.ensures.ok

pub returns-clause-nodes : goal.returns-clause-nodes
returns-clause-nodes c =
    let number = number-at c.args.plans.now c.args.segment.now c.args.node c.in-Some.field
    (c.is_plain_link.ensures.plain search) in
    on-ok c.keep_link.result
    (λ keeps. changed-nodes c.args.plans.now (kept number.0 _) c.args.node c.args.segment.now c.keep_link.new.self
    (kept-at c.args.plans.now c.args.node number.0 _ c.args.segment.now c.keep_link.new.self
    (keeps number.0 number.1))) c.keep_link.ensures.ok

pub returns-clause-linked : goal.returns-clause-linked
returns-clause-linked c =
    on-ok c.keep_link.result
    (λ keeps. none-kept c.args.plans.now c.args.segment.now c.keep_link.new.self c.args.node c.in-Some.field _
    c.requires.bodies (c.is_plain_link.ensures.plain search) (c.is_plain_link.ensures.sound search)
    (pair-tight c.args.segment.now c.args.to c.from.result c.node-to.result.now c.node-to.ensures c.from.ensures) keeps)
    c.keep_link.ensures.ok
