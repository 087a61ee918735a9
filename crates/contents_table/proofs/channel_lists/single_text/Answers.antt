use Rattle.std.proofs.Common.{Some, ap, arith}
use Rattle.std.proofs.lemmas.List.{get_or_default}
use Rattle.std.proofs.lemmas.Option.{none-some, same_Some}
use Rattle.layout_plan.specs.declared.fields.Form.TheVariants.{Text}
use Rattle.contents_table.proofs.SingleFields.{single-within}
use Rattle.contents_table.proofs.ShortNames.{text-short}
use Rattle.contents_table.proofs.channel_lists.single_text.Goals as goal

pub returns-in_err-single_form-clause-text : goal.returns-in_err-single_form-clause-text
returns-in_err-single_form-clause-text c = λ is.
    absurd (none-some Text ((c.in_err-single_form.ensures Text).1 is))

pub lent_text-requires-clause-field : goal.lent_text-requires-clause-field
lent_text-requires-clause-field c =
    single-within c.args.plan.now c.args.field Text ((c.in_ok-single_form.ensures Text).0 (ap Some c.in-Text.is))

pub returns-in-Text-clause-short : goal.returns-in-Text-clause-short
returns-in-Text-clause-short c =
    text-short c.args.order c.args.plan.now c.args.body.now c.args.field c.lent_text.result.now
    (λ k d within. let below = c.type_inv.body k in
    omega (arith, get_or_default c.args.body.now k d 0 within))
    c.requires c.lent_text.ensures

pub returns-in_default : goal.returns-in_default
returns-in_default c = record {
  text = λ is.
      c.in_default.not-Text (same_Some c.in_ok-single_form.field-0 Text ((c.in_ok-single_form.ensures Text).1 is));
  short = tt;
}
