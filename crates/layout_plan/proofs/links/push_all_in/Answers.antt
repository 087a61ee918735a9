use Rattle.std.proofs.Common.{◌+◌, ◌-◌, [], arith, length, get_or, refl}
use Rattle.layout_plan.proofs.AppendLemmas.{Appends-none}
use Rattle.layout_plan.proofs.MadeLemmas.{made-same}
use Rattle.layout_plan.proofs.LinkLemmas.{link-within, fields-links-all}
use Rattle.layout_plan.specs.Marks.{mark_of}
use Rattle.layout_plan.proofs.MarkLemmas.{mark_of-later, IsLater-varied}
use Rattle.layout_plan.proofs.PlainLinkLemmas.{link-places-all}
use Rattle.layout_plan.proofs.links.push_all_in.Goals as goal

pub walk_body-requires-clause-fields : goal.walk_body-requires-clause-fields
walk_body-requires-clause-fields c =
    let items = c.links-links.result.now in
    omega (
      arith,
      link-within c.args.plan.now items (length items - 1) c.links-links.ensures
          (omega (arith, c.if-count-eq0.false)),
    )

pub walk_body-requires-clause-room : goal.walk_body-requires-clause-room
walk_body-requires-clause-room c =
    let items = c.links-links.result.now in
    let within = link-within c.args.plan.now items (length items - 1) c.links-links.ensures
    (omega (arith, c.if-count-eq0.false)) in
    let last = get_or items (length items - 1) 0 + 1 in
    omega (
      arith,
      c.requires.room,
      IsLater-varied (mark_of c.args.plan.now last) (mark_of c.args.plan.now (length c.args.plan.now))
          (mark_of-later c.args.plan.now last (length c.args.plan.now) (omega (arith, within))),
    )

pub returns-then-count-eq0 : goal.returns-then-count-eq0
returns-then-count-eq0 c =
    Appends-none _ _
    (fields-links-all c.args.order c.args.plan.now c.args.body.now c.links-links.result.now 0 [] c.links-links.ensures
    (omega (arith, c.if-count-eq0.true)) (λ values tail body. refl))

pub push_found-requires-clause-places : goal.push_found-requires-clause-places
push_found-requires-clause-places c =
    link-places-all c.args.order c.args.plan.now c.args.body.now c.links-links.result.now c.walk_body.new.ends
    c.links-links.ensures c.walk_body.ensures

pub returns : goal.returns
returns c = made-same _ _ _ _ c.push_found.ensures
