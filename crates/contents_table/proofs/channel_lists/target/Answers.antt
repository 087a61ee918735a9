use Rattle.std.proofs.Common.{◌≡◌, ℕ, List, cond, None, Some, false, sym, ap, ◌∙◌}
use Rattle.std.specs.Prelude.{◌==◌}
use Rattle.std.proofs.lemmas.Bool.{eq-eqb, ne_eqb}
use Rattle.dictionary.specs.declared.entries.Entry.{Entry}
use Rattle.dictionary.specs.Dictionary.{IsDictionary, class_named}
use Rattle.layout_plan.specs.Plans.{plan_of}
use Rattle.link_graph.specs.Collected.{target_of}
use Rattle.file_grammar.specs.Record.{layout_in}
use Rattle.frame_content.specs.Frames.{frame_of}
use Rattle.contents_table.specs.Channels.{target}
use Rattle.contents_table.specs.Layouts.{HasPlainLink}
use Rattle.contents_table.proofs.SingleFields.{plain-link-field}
use Rattle.contents_table.proofs.LinkEnds.{target-told, target-of-class}
use Rattle.contents_table.proofs.channel_lists.target.Goals as goal
use Rattle.contents_table.proofs.channel_lists.target.Goals.{After-from}

-- what is told of the link tells where it leads
leads : (c : After-from) (held : List Entry) (name : List ℕ)
    → ((class : ℕ) → plan_of c.args.plans.now class ≡ layout_in held class) → IsDictionary held
    → class_named held name ≡ Some c.args.to.class
    → HasPlainLink c.args.plans.now c.args.segment.now c.args.node c.args.to.field
    → target (frame_of held c.args.segment.now) name c.args.node (Some c.args.to.field)
    ≡ cond (c.in_ok-link.link.class == c.args.to.class)
    (target_of c.args.segment.now.nodes c.in_ok-link.link) None
leads c held name same sound named has =
    target-told held c.args.plans.now c.args.segment.now c.args.node c.args.to.field c.in_ok-link.link
    name
    c.args.to.class c.order.result c.in_ok-plan.plan.now c.node.result.now c.body.result.now
    (record { sound = sound; plans_are = same }) c.requires.bodies c.requires.node c.node.ensures
    c.body.ensures.body
    c.in_ok-plan.ensures c.order.ensures
    (c.in_ok-link.ensures (plain-link-field c.args.plans.now c.args.segment.now c.args.node c.args.to.field
    c.in_ok-plan.plan.now c.node.result.now has c.node.ensures c.in_ok-plan.ensures)) named

pub returns-in_err-link-clause-target : goal.returns-in_err-link-clause-target
returns-in_err-link-clause-target c = λ held name same sound named has.
    absurd (c.in_err-link.ensures (plain-link-field c.args.plans.now c.args.segment.now c.args.node c.args.to.field
    c.in_ok-plan.plan.now c.node.result.now has c.node.ensures c.in_ok-plan.ensures))

pub returns-then-link-from-clause-target : goal.returns-then-link-from-clause-target
returns-then-link-from-clause-target c = λ held name same sound named has.
    let link = c.in_ok-link.link in
    let other : (link.class == c.args.to.class) ≡ false =
    ne_eqb link.class c.args.to.class (λ e. c.if-link-from.true (e ∙ sym c.from.ensures)) in
    sym (leads (goal.at.returns-then-link-from-clause-target c).After-from held name same sound named has
    ∙ ap (λ b. cond b (target_of c.args.segment.now.nodes link) None) other)

pub returns-clause-target : goal.returns-clause-target
returns-clause-target c = λ held name same sound named has.
    let link = c.in_ok-link.link in
    c.target.ensures
    ∙ sym (leads (goal.at.returns-clause-target c).After-from held name same sound named has
    ∙ ap (λ b. cond b (target_of c.args.segment.now.nodes link) None)
    (eq-eqb link.class c.args.to.class (c.if-link-from.false ∙ c.from.ensures)))

pub returns-clause-class : goal.returns-clause-class
returns-clause-class c =
    target-of-class c.args.segment.now c.in_ok-link.link c.args.to.class c.target.result c.target.ensures
    (c.if-link-from.false ∙ c.from.ensures)
