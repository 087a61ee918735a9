use Rattle.std.proofs.Common.{Some, ap}
use Rattle.std.proofs.lemmas.Option.{none-some, same_Some}
use Rattle.layout_plan.specs.declared.fields.Form.TheVariants.{Link}
use Rattle.contents_table.proofs.SingleFields.{single-within}
use Rattle.contents_table.proofs.channel_lists.single_link.Goals as goal

pub returns-in_err-single_form : goal.returns-in_err-single_form
returns-in_err-single_form c = λ is. absurd (none-some Link ((c.in_err-single_form.ensures Link).1 is))

pub lent_link-requires-clause-field : goal.lent_link-requires-clause-field
lent_link-requires-clause-field c =
    single-within c.args.plan.now c.args.field Link ((c.in_ok-single_form.ensures Link).0 (ap Some c.in-Link.is))

pub returns-in_default : goal.returns-in_default
returns-in_default c = λ is.
    c.in_default.not-Link (same_Some c.in_ok-single_form.field-0 Link ((c.in_ok-single_form.ensures Link).1 is))
