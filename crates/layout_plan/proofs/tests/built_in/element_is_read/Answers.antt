use Rattle.std.proofs.Common.{refl, sym, subst}
use Rattle.layout_plan.specs.declared.fields.Form.TheVariants.{Text}
use Rattle.layout_plan.specs.BuiltIn.{single}
use Rattle.layout_plan.specs.Lent.{IsTextField}
use Rattle.layout_plan.proofs.tests.built_in.element_is_read.Goals as goal

pub text_at-requires-clause-text : goal.text_at-requires-clause-text
text_at-requires-clause-text g c =
    subst (λ fields. IsTextField fields 0) (sym c.in_ok-plan.ensures)
    (record { field = single Text; is = refl; form_is = refl; single = refl })

pub text_at-requires-2-clause-text : goal.text_at-requires-2-clause-text
text_at-requires-2-clause-text g c =
    subst (λ fields. IsTextField fields 1) (sym c.in_ok-plan.ensures)
    (record { field = single Text; is = refl; form_is = refl; single = refl })
