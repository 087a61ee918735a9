use Rattle.scalar_types.specs.declared.Order.TheVariants.{Little}
use Rattle.layout_plan.proofs.RespelledLemmas.{few-texts, respells-texts, respells-other}
use Rattle.layout_plan.proofs.respelled.is_spelled_alike.Goals as goal

pub are_closed-requires : goal.are_closed-requires
are_closed-requires c =
    few-texts Little c.args.field.now.form c.args.field.now.counts c.args.bytes.now c.requires.0 c.in-Text.is
    c.requires.1

pub returns-in-Text : goal.returns-in-Text
returns-in-Text c = λ holds links.
    let field = c.args.field.now in
    let bytes = c.args.bytes.now in
    respells-other Little field bytes bytes links 0 c.if-field.false
    (respells-texts Little field.form field.counts bytes bytes links c.in-Text.is (c.are_closed.ensures holds))
