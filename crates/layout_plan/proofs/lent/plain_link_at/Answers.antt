use Rattle.std.proofs.Common.{ap, sym, subst, ◌∙◌, List, ℕ}
use Rattle.std.proofs.lemmas.List.{take_rest}
use Rattle.type_text.specs.declared.types.Link.{Link as StructLink}
use Rattle.layout_plan.specs.Lent.{HasPlainLinkAt}
use Rattle.layout_plan.specs.Reading.{link_in}
use Rattle.layout_plan.proofs.ExactLemmas.{Ok-same}
use Rattle.layout_plan.proofs.LentLemmas.{plain-link-here}
use Rattle.layout_plan.proofs.lent.plain_link_at.Goals as goal

pub returns : goal.returns
returns c =
    let p = c.place_of-start.result in
    let here = plain-link-here c.args.order c.args.plan.now c.args.body.now c.args.field p c.requires.link
    c.place_of-start.ensures in
    let read = sym here.1 ∙ ap (link_in c.args.order) (sym (take_rest c.args.body.now p.start)) ∙ c.link_of.ensures in
    let same = ap (λ (z : StructLink × List ℕ). z.0) (Ok-same _ _ read) in
    subst (HasPlainLinkAt c.args.order c.args.plan.now c.args.body.now c.args.field) same here.2
