use Rattle.std.proofs.Common.{refl, sym, subst}
use Rattle.scalar_types.specs.declared.Width.TheVariants.{Two}
use Rattle.layout_plan.specs.declared.fields.Form.TheVariants.{Number, Text}
use Rattle.layout_plan.specs.BuiltIn.{single}
use Rattle.layout_plan.specs.Lent.{IsNumberField, IsTextField}
use Rattle.layout_plan.proofs.tests.built_in.structure_is_read.Goals as goal

pub text_at-requires-clause-text : goal.text_at-requires-clause-text
text_at-requires-clause-text g c =
    subst (λ fields. IsTextField fields 0) (sym c.in_ok-plan.ensures)
    (record { field = single Text; is = refl; form_is = refl; single = refl })

pub num_at-requires-clause-number : goal.num_at-requires-clause-number
num_at-requires-clause-number g c =
    subst (λ fields. IsNumberField fields 1) (sym c.in_ok-plan.ensures) (
      Two,
      record { field = single (Number Two); is = refl; form_is = refl; single = refl },
    )
