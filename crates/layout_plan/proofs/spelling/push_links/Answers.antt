use Rattle.std.proofs.Common.{refl, get_or}
use Rattle.type_text.specs.declared.types.Link.{Link}
use Rattle.record_values.specs.Spelling.{IsLink}
use Rattle.layout_plan.proofs.AppendLemmas.{Appends-none, Appends-more, Appends-as, Appends-refused}
use Rattle.layout_plan.proofs.RespelledLemmas.{spells-more, spells-all}
use Rattle.layout_plan.proofs.spelling.push_links.Goals as goal

pub loop-link-init : goal.loop-link-init
loop-link-init c = Appends-none _ _ (λ more m. m)

pub loop-link-preserved : goal.loop-link-preserved
loop-link-preserved c =
    let none : Link = record { class = 0; instance = 0 } in
    Appends-more _ _ _ _ c.loop-link.into.items _ c.loop-link.invariant c.in_ok-push_link.ensures
    (λ xs ys r s. spells-more (IsLink c.args.order) c.args.links.now c.loop-link.link-index none
    (get_or c.args.links.now c.loop-link.link-index none) xs ys c.loop-link-test.true refl r s)

pub returns-in_err-push_link : goal.returns-in_err-push_link
returns-in_err-push_link c =
    Appends-refused _ _ _ _ _ c.loop-link.into.items _ c.from_residual.ensures.0 c.loop-link.invariant
    c.push_link.ensures

pub returns : goal.returns
returns c = Appends-as _ _ _ _ c.loop-link.invariant
    (λ xs r. spells-all (IsLink c.args.order) c.args.links.now c.loop-link.link-index xs c.loop-link-test.false r)
