use Rattle.std.proofs.Common.{◌/◌, refl, sym, length}
use Rattle.std.proofs.lemmas.List.{length-take-le}
use Rattle.layout_plan.proofs.AppendLemmas.{Appends-as}
use Rattle.layout_plan.proofs.RespelledLemmas.{few-texts, few-links, respells-numbers, respells-complex, respells-texts}
use Rattle.layout_plan.proofs.RespelledLemmas.{respells-links}
use Rattle.layout_plan.proofs.respelled.push_form.Goals as goal

pub push_texts-requires : goal.push_texts-requires
push_texts-requires c =
    few-texts c.args.order c.args.field.now.form c.args.field.now.counts c.args.bytes.now c.args.links.now
    c.in-Text.is c.requires

pub slice_bounds-push_links-end : goal.slice_bounds-push_links-end
slice_bounds-push_links-end c =
    sym (length-take-le (length c.args.bytes.now / 6) c.args.links.now
    (few-links c.args.order c.args.field.now.form c.args.field.now.counts c.args.bytes.now c.args.links.now
    c.in-Link.is c.requires))

pub returns-in-Link : goal.returns-in-Link
returns-in-Link c =
    let field = c.args.field.now in
    let bytes = c.args.bytes.now in
    let links = c.args.links.now in
    Appends-as _ _ _ _ c.in_ok-push_links-in-Link.ensures
    (λ xs r. respells-links c.args.order field.form field.counts bytes xs links (length bytes / 6) c.in-Link.is refl
    (few-links c.args.order field.form field.counts bytes links c.in-Link.is c.requires) r)

pub returns-in_ok-push_numbers-in-Number : goal.returns-in_ok-push_numbers-in-Number
returns-in_ok-push_numbers-in-Number c =
    Appends-as _ _ _ _ c.in_ok-push_numbers-in-Number.ensures
    (λ xs r. respells-numbers c.args.order c.in-Number.width c.args.field.now.form c.args.field.now.counts
    c.args.bytes.now xs c.args.links.now c.in-Number.is r)

pub returns-in_ok-push_numbers-in-Pair : goal.returns-in_ok-push_numbers-in-Pair
returns-in_ok-push_numbers-in-Pair c =
    Appends-as _ _ _ _ c.in_ok-push_numbers-in-Pair.ensures
    (λ xs r. respells-complex c.args.order c.in-Pair.width c.args.field.now.form c.args.field.now.counts
    c.args.bytes.now xs c.args.links.now c.in-Pair.is r)

pub returns-in_ok-push_texts-in-Text : goal.returns-in_ok-push_texts-in-Text
returns-in_ok-push_texts-in-Text c =
    Appends-as _ _ _ _ c.in_ok-push_texts-in-Text.ensures
    (λ xs r. respells-texts c.args.order c.args.field.now.form c.args.field.now.counts c.args.bytes.now xs
    c.args.links.now c.in-Text.is r)
