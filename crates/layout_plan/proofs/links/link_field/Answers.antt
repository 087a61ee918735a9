use Rattle.layout_plan.proofs.links.link_field.Goals as goal

pub returns : goal.returns
returns c = λ values tail body. let placed = c.link_place.ensures.placed values tail body in (placed.0, placed.1)
