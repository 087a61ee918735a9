use Rattle.std.proofs.Common.{arith, ap, sym, ◌∙◌}
use Rattle.std.proofs.lemmas.List.{take_rest, length-drop}
use Rattle.layout_plan.specs.Reading.{link_in}
use Rattle.layout_plan.proofs.LinkLemmas.{link-here, link-place-room}
use Rattle.layout_plan.proofs.links.link_at.Goals as goal

pub slice_bounds-link_of-count : goal.slice_bounds-link_of-count
slice_bounds-link_of-count c =
    omega (
      arith,
      link-place-room c.args.order c.args.plan.now c.args.body.now c.args.k c.link_place-at.result
          c.requires c.link_place-at.ensures.placed,
    )

pub slice_bounds-link_of-start : goal.slice_bounds-link_of-start
slice_bounds-link_of-start c =
    omega (
      arith,
      link-place-room c.args.order c.args.plan.now c.args.body.now c.args.k c.link_place-at.result
          c.requires c.link_place-at.ensures.placed,
    )

pub link_of-requires : goal.link_of-requires
link_of-requires c =
    let room = link-place-room c.args.order c.args.plan.now c.args.body.now c.args.k c.link_place-at.result c.requires
    c.link_place-at.ensures.placed in
    rw (take_rest c.args.body.now c.link_place-at.result.at)
    (omega (arith, room, length-drop c.link_place-at.result.at c.args.body.now))

pub returns : goal.returns
returns c =
    link-here c.args.order c.args.plan.now c.args.body.now c.args.k c.link_place-at.result c.link_of.result _
    c.link_place-at.ensures.placed
    (ap (link_in c.args.order) (sym (take_rest c.args.body.now c.link_place-at.result.at)) ∙ c.link_of.ensures)
