use Rattle.std.proofs.Common.{[], refl, subst, arith}
use Rattle.scalar_types.specs.declared.Width.TheVariants.{Two}
use Rattle.layout_plan.specs.declared.fields.Form.TheVariants.{Number, Text}
use Rattle.layout_plan.specs.Lent.{HasTextAt, HasNumberAt}
use Rattle.layout_plan.specs.BuiltIn.{structure_fields}
use Rattle.file_grammar.proofs.Bodies.{single-field}
use Rattle.item_reader.proofs.Begun.{class-fits, entry-begun}
use Rattle.item_reader.proofs.entries.begun_entry.Goals as goal

pub text_at-requires-clause-text : goal.text_at-requires-clause-text
text_at-requires-clause-text c = single-field c.args.plan.now structure_fields 0 Text c.requires.plan refl

pub num_at-class-requires-clause-number : goal.num_at-class-requires-clause-number
num_at-class-requires-clause-number c =
    (Two, single-field c.args.plan.now structure_fields 1 (Number Two) c.requires.plan refl)

pub text_at-requires-2-clause-text : goal.text_at-requires-2-clause-text
text_at-requires-2-clause-text c = single-field c.args.plan.now structure_fields 2 Text c.requires.plan refl

pub overflow_cast-class : goal.overflow_cast-class
overflow_cast-class c =
    let has_class = subst (λ fields. HasNumberAt c.args.order fields c.args.body.now 1 c.num_at-class.result)
    c.requires.plan c.num_at-class.ensures in
    let small = class-fits c.args.order c.args.body.now c.num_at-class.result c.requires.reads
    (λ i. omega (arith, c.type_inv.body i)) has_class in
    omega (arith, small)

pub returns-clause-begins : goal.returns-clause-begins
returns-clause-begins c =
    let order = c.args.order in
    let body = c.args.body.now in
    let name = subst (λ fields. HasTextAt order fields body 0 c.text_at.result.now) c.requires.plan
    c.text_at.ensures in
    let class = subst (λ fields. HasNumberAt order fields body 1 c.num_at-class.result) c.requires.plan
    c.num_at-class.ensures in
    let comment = subst (λ fields. HasTextAt order fields body 2 c.text_at-2.result.now) c.requires.plan
    c.text_at-2.ensures in
    entry-begun order body c.in_ok-name.name c.num_at-class.result c.in_ok-comment.comment [] c.requires.reads
    (subst (HasTextAt order structure_fields body 0) (cc c.in_ok-name.ensures) name) class
    (subst (HasTextAt order structure_fields body 2) (cc c.in_ok-comment.ensures) comment)
