use Rattle.std.proofs.Common.{subst}
use Rattle.contents_table.specs.Layouts.{IsNextField}
use Rattle.channel_extract.proofs.cutting.end_list.Goals as goal
use Rattle.channel_extract.proofs.Relinking.{ended, ended-at, changed-keeps, changed-nodes, number-at}
use Rattle.channel_extract.proofs.NoLoose.{none-set}
use Rattle.channel_extract.proofs.RelinkedRows.{end-links, end-none}

pub returns-in_default-clause-links : goal.returns-in_default-clause-links
returns-in_default-clause-links c held of are next =
    end-none held c.args.plans.now c.args.segment.now c.args.node
    (subst (IsNextField held c.args.plans.now c.args.segment.now c.args.node) c.in_default.is next)

pub returns-then-is_plain_link-clause-links : goal.returns-then-is_plain_link-clause-links
returns-then-is_plain_link-clause-links c held of are next =
    end-links held c.args.plans.now of c.args.segment.now c.set_plain_link.new.self c.args.node c.in-Some.field are
    c.requires.bodies c.requires.node
    (subst (IsNextField held c.args.plans.now c.args.segment.now c.args.node) c.in-Some.is next)
    c.set_plain_link.ensures

pub returns-then-is_plain_link-clause-records : goal.returns-then-is_plain_link-clause-records
returns-then-is_plain_link-clause-records c =
    let number = number-at c.args.plans.now c.args.segment.now c.args.node c.in-Some.field
    (c.is_plain_link.ensures.plain search) in
    changed-keeps c.args.plans.now (ended number.0) c.args.node c.args.segment.now c.set_plain_link.new.self
    c.requires.bodies (ended-at c.args.plans.now c.args.node number.0 c.args.segment.now c.set_plain_link.new.self
    (c.set_plain_link.ensures number.0 number.1))

pub returns-then-is_plain_link-clause-nodes : goal.returns-then-is_plain_link-clause-nodes
returns-then-is_plain_link-clause-nodes c =
    let number = number-at c.args.plans.now c.args.segment.now c.args.node c.in-Some.field
    (c.is_plain_link.ensures.plain search) in
    changed-nodes c.args.plans.now (ended number.0) c.args.node c.args.segment.now c.set_plain_link.new.self
    (ended-at c.args.plans.now c.args.node number.0 c.args.segment.now c.set_plain_link.new.self
    (c.set_plain_link.ensures number.0 number.1))

pub returns-then-is_plain_link-clause-linked : goal.returns-then-is_plain_link-clause-linked
returns-then-is_plain_link-clause-linked c =
    none-set c.args.plans.now c.args.segment.now c.set_plain_link.new.self c.args.node c.in-Some.field c.requires.bodies
    (c.is_plain_link.ensures.plain search) (c.is_plain_link.ensures.sound search) c.set_plain_link.ensures
