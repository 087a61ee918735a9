use Rattle.std.proofs.Common.{sym, ◌∙◌, arith}
use Rattle.layout_plan.proofs.StepLemmas.{Tells-text, Tells-texts, Tells-plain}
use Rattle.layout_plan.proofs.PassLemmas.{text-counted, capped-amount}
use Rattle.layout_plan.proofs.walking.spelled_at.Goals as goal

pub returns-in-OneText-clause-spelled : goal.returns-in-OneText-clause-spelled
returns-in-OneText-clause-spelled c = λ f numbers varied items amount.
    Tells-text c.args.order numbers f.form f.counts c.args.rest.now c.text_at.result (sym c.in-OneText.is ∙ items)
    c.text_at.ensures

pub returns-in-OneText-clause-counted : goal.returns-in-OneText-clause-counted
returns-in-OneText-clause-counted c =
    text-counted c.args.order c.args.body.now c.args.ends.now c.requires.step.0 c.args.step.now c.requires.step.1
    c.in-OneText.is

pub returns-in-Texts-clause-spelled : goal.returns-in-Texts-clause-spelled
returns-in-Texts-clause-spelled c = λ f numbers varied items amount.
    Tells-texts c.args.order f numbers _ c.capped_product-count.result c.args.rest.now c.texts_at.result
    (sym c.in-Texts.is ∙ items) amount
    (capped-amount c.args.step.now.factor _ c.count_by-counted.result c.capped_product-count.result _
    c.count_by-counted.ensures c.capped_product-count.ensures) (omega arith) c.texts_at.ensures

pub returns-in-Plain-clause-spelled : goal.returns-in-Plain-clause-spelled
returns-in-Plain-clause-spelled c = λ f numbers varied items amount.
    Tells-plain c.args.order f numbers _ c.capped_product-length.result c.args.rest.now c.plain_at.result varied
    (sym c.in-Plain.is ∙ items) amount
    (capped-amount c.args.step.now.factor _ c.count_by-counted-in-Plain.result c.capped_product-length.result _
    c.count_by-counted-in-Plain.ensures c.capped_product-length.ensures) (omega arith) c.plain_at.ensures
