use Rattle.std.proofs.Common.{◌≡◌, Some, refl, ◌∙◌, subst}
use Rattle.std.proofs.lemmas.Result.{IfOk-weaker}
use Rattle.type_text.specs.TypeText.{type_of}
use Rattle.layout_plan.specs.declared.fields.Form.TheVariants.{Text}
use Rattle.layout_plan.specs.Lent.{HasTextAt}
use Rattle.layout_plan.specs.BuiltIn.{element_fields}
use Rattle.file_grammar.proofs.Bodies.{single-field}
use Rattle.item_reader.specs.Entries.{Elements}
use Rattle.item_reader.proofs.Candidates.{element-spelled}
use Rattle.item_reader.proofs.entries.element_in.Goals as goal

pub text_at-requires-clause-text : goal.text_at-requires-clause-text
text_at-requires-clause-text c = single-field c.args.plan.now element_fields 0 Text c.requires.plan refl

pub text_at-requires-2-clause-text : goal.text_at-requires-2-clause-text
text_at-requires-2-clause-text c = single-field c.args.plan.now element_fields 1 Text c.requires.plan refl

pub text_at-requires-3-clause-text : goal.text_at-requires-3-clause-text
text_at-requires-3-clause-text c = single-field c.args.plan.now element_fields 2 Text c.requires.plan refl

pub returns-clause-spelled : goal.returns-clause-spelled
returns-clause-spelled c =
    let order = c.args.order in
    let body = c.args.body.now in
    let name = c.text_at.result.now in
    let text = c.text_at-2.result.now in
    let comment = c.text_at-3.result.now in
    IfOk-weaker c.new-4.result
    (λ element. element ≡ record {
      name = c.in_ok-name.name;
      ty = type_of c.in_ok-text.text;
      text = c.in_ok-text.text;
      comment = c.in_ok-comment.comment;
    })
    (λ element. Elements c.args.order c.args.body.now (Some element))
    (λ element told file at p placed within class body_is.
    element-spelled order file at p body name text comment placed within class body_is c.requires.reads
    (subst (λ fields. HasTextAt order fields body 0 name) c.requires.plan c.text_at.ensures)
    (subst (λ fields. HasTextAt order fields body 1 text) c.requires.plan c.text_at-2.ensures)
    (subst (λ fields. HasTextAt order fields body 2 comment) c.requires.plan c.text_at-3.ensures)
    ∙ cc (told, c.in_ok-name.ensures, c.in_ok-text.ensures, c.in_ok-comment.ensures))
    c.new-4.ensures.given
