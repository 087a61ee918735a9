use Rattle.std.proofs.Common.{sym, ap, ◌∙◌, subst, arith}
use Rattle.layout_plan.specs.Body.{HasBody}
use Rattle.layout_plan.specs.Lent.{HasNumberAt}
use Rattle.item_reader.specs.Placed.{structure_by}
use Rattle.item_reader.specs.State.{here_in}
use Rattle.item_reader.proofs.BodyHere.{structure-stands}
use Rattle.item_reader.proofs.Numbers.{number-told, number-named, named-in}
use Rattle.item_reader.proofs.state.State.number.Goals as goal

pub overflow_cast-field : goal.overflow_cast-field
overflow_cast-field c =
    let s = c.args.self.now in
    let order = s.segment.order in
    let held = s.dictionary in
    let end = structure_by c.args.end c.args.body.now in
    let told =
    number-told order held end c.args.name.now c.in-Some.plan.now c.in-Some-first_named.field
    c.in-Some-first_named.field-0-1.now c.elements.ensures.sound c.requires.reads
    (sym (c.requires.sound.plans end.class) ∙ sym c.in-Some.ensures) c.requires.named
    (rw (← c.elements.ensures.elements) (sym c.in-Some-first_named.ensures)) in
    omega (arith, told.small)

pub num_at-requires : goal.num_at-requires
num_at-requires c =
    let s = c.args.self.now in
    let order = s.segment.order in
    let held = s.dictionary in
    let end = structure_by c.args.end c.args.body.now in
    let plan = c.in-Some.plan.now in
    let told =
    number-told order held end c.args.name.now plan c.in-Some-first_named.field
    c.in-Some-first_named.field-0-1.now c.elements.ensures.sound c.requires.reads
    (sym (c.requires.sound.plans end.class) ∙ sym c.in-Some.ensures) c.requires.named
    (rw (← c.elements.ensures.elements) (sym c.in-Some-first_named.ensures)) in
    record {
      body = subst (λ order. HasBody order plan end.body) (sym c.order.ensures) told.body;
      field = told.within;
      number = told.field;
    }

pub returns : goal.returns
returns c =
    λ file stands.
    let s = c.args.self.now in
    let order = s.segment.order in
    let held = s.dictionary in
    let p = c.args.end in
    let body = c.args.body.now in
    let end = structure_by p body in
    let plan = c.in-Some.plan.now in
    let name = c.args.name.now in
    let i = c.in-Some-first_named.field in
    number-named order held end name plan i c.num_at.result c.in-Some-first_named.field-0-1.now
    c.requires.reads (sym (c.requires.sound.plans end.class) ∙ sym c.in-Some.ensures)
    (rw (← c.elements.ensures.elements) (sym c.in-Some-first_named.ensures))
    (subst (λ order. HasNumberAt order plan body i c.num_at.result) c.order.ensures c.num_at.ensures)
    ∙ ap (λ s. named-in order held s name) (sym (structure-stands (here_in s file) p body stands))
