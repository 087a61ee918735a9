-- One field after another, and the tail.
use Rattle.std.proofs.Common.{◌<◌, length, Err, refl, sym, ap, ◌∙◌, arith}
use Rattle.std.specs.Prelude.{codes}
use Rattle.std.proofs.lemmas.Bool.{eqb-true, eqb-false}
use Rattle.std.proofs.lemmas.List.{length-take-le, take_rest}
use Rattle.frame_outside.specs.declared.traits.ShelfError.TheVariants.{NoMemory}
use Rattle.file_grammar.specs.Record.{reading_by}
use Rattle.dumper.specs.Page.{pending}
use Rattle.dumper.proofs.Pages.{settled, handed-on, pushed}
use Rattle.dumper.proofs.TypedFields.{elements-length, element-here, typed-here}
use Rattle.dumper.proofs.ShownFields.{shown-none, field-here, stands-first, span-within, span-spells, number-pushed}
use Rattle.dumper.proofs.ShownFields.{shown-more, shown-stops, shown-refused, shown-all, shown-tail}
use Rattle.dumper.proofs.bodies.print_fields.Goals as goal

pub loop-k-init : goal.loop-k-init
loop-k-init g c =
    shown-none c.args.order c.args.elements.now c.fields-fields.result.now c.args.plan.now c.args.body.now
    (g.O.Sink.output c.args.out.now) (pending c.args.page.now) c.clear.new.self.items c.fields-fields.ensures.fields
    c.clear.ensures.items c.fields-fields.ensures.layout.sound c.requires.reads

pub field_length-length-requires : goal.field_length-length-requires
field_length-length-requires g c =
    stands-first c.loop-k.invariant (field-here c.fields-fields.result.now (omega arith) c.index-fields-k.is)
    c.as_slice.ensures.value

pub slice_bounds-bytes-end : goal.slice_bounds-bytes-end
slice_bounds-bytes-end g c =
    let n = c.field_length-length.result in
    let stands = stands-first c.loop-k.invariant
    (field-here c.fields-fields.result.now (omega arith) c.index-fields-k.is) c.as_slice.ensures.value in
    sym (length-take-le n c.loop-k.rest.now (span-within n stands c.field_length-length.ensures))

pub bounds-elements-k : goal.bounds-elements-k
bounds-elements-k g c =
    let same = elements-length c.args.elements.now c.fields-fields.result.now c.args.plan.now c.requires.layout
    c.fields-fields.ensures.fields in
    omega (arith, same)

pub print_field-requires-clause-typed : goal.print_field-requires-clause-typed
print_field-requires-clause-typed g c =
    (typed-here c.args.elements.now c.fields-fields.result.now c.args.plan.now c.loop-k.k c.index-elements-k.result
    c.index-fields-k.result c.requires.layout c.fields-fields.ensures.fields (omega arith) c.index-elements-k.is
    c.index-fields-k.is).typed

pub print_field-requires-clause-form : goal.print_field-requires-clause-form
print_field-requires-clause-form g c =
    (typed-here c.args.elements.now c.fields-fields.result.now c.args.plan.now c.loop-k.k c.index-elements-k.result
    c.index-fields-k.result c.requires.layout c.fields-fields.ensures.fields (omega arith) c.index-elements-k.is
    c.index-fields-k.is).form

pub print_field-requires-clause-spelled : goal.print_field-requires-clause-spelled
print_field-requires-clause-spelled g c =
    let stands = stands-first c.loop-k.invariant
    (field-here c.fields-fields.result.now (omega arith) c.index-fields-k.is) c.as_slice.ensures.value in
    span-spells c.field_length-length.result stands c.field_length-length.ensures

pub number_in-number-requires : goal.number_in-number-requires
number_in-number-requires g c =
    let stands = stands-first c.loop-k.invariant
    (field-here c.fields-fields.result.now (omega arith) c.index-fields-k.is) c.as_slice.ensures.value in
    span-spells c.field_length-length.result stands c.field_length-length.ensures

pub slice_bounds-rest-count : goal.slice_bounds-rest-count
slice_bounds-rest-count g c =
    let stands = stands-first c.loop-k.invariant
    (field-here c.fields-fields.result.now (omega arith) c.index-fields-k.is) c.as_slice.ensures.value in
    span-within c.field_length-length.result stands c.field_length-length.ensures

pub slice_bounds-rest-start : goal.slice_bounds-rest-start
slice_bounds-rest-start g c =
    let stands = stands-first c.loop-k.invariant
    (field-here c.fields-fields.result.now (omega arith) c.index-fields-k.is) c.as_slice.ensures.value in
    let within = span-within c.field_length-length.result stands c.field_length-length.ensures in
    omega (arith, within)

pub returns-in_err-print_field : goal.returns-in_err-print_field
returns-in_err-print_field g c = λ reading reads.
    let fields = c.fields-fields.result.now in
    let e = c.index-elements-k.result in
    let is = c.fields-fields.ensures.fields in
    let lt : c.loop-k.k < length fields = omega arith in
    shown-stops e c.field_length-length.result (g.O.Sink.output c.print_field.new.out) (pending c.print_field.new.page)
    c.print_field.result c.from_residual.result c.as_slice.result.now c.loop-k.invariant
    (element-here c.args.elements.now fields c.args.plan.now c.loop-k.k e c.requires.layout is lt c.index-elements-k.is)
    (field-here fields lt c.index-fields-k.is) c.as_slice.ensures.value c.field_length-length.ensures
    c.in_err-print_field.was (handed-on _ _ c.from_residual.ensures.1)
    (λ v s. c.print_field.ensures c.as_slice.result.now v s) reading
    (ap (reading_by c.args.order c.args.body.now) is ∙ reads)

pub returns-then-is_err : goal.returns-then-is_err
returns-then-is_err g c = λ reading reads.
    let fields = c.fields-fields.result.now in
    let e = c.index-elements-k.result in
    let is = c.fields-fields.ensures.fields in
    let lt : c.loop-k.k < length fields = omega arith in
    let page = pending c.print_field.new.page in
    let more = shown-more e c.field_length-length.result (g.O.Sink.output c.print_field.new.out) page
    c.print_field.result c.number_in-number.result _ _ c.as_slice.result.now c.loop-k.invariant
    (element-here c.args.elements.now fields c.args.plan.now c.loop-k.k e c.requires.layout is lt c.index-elements-k.is)
    (field-here fields lt c.index-fields-k.is) c.as_slice.ensures.value c.field_length-length.ensures
    c.in_ok-print_field.was (λ v s. c.print_field.ensures c.as_slice.result.now v s)
    (λ v s. c.number_in-number.ensures.number c.as_slice.result.now v s) refl refl in
    shown-refused {X = Unit {0}} page (Err NoMemory) more refl reading
    (ap (reading_by c.args.order c.args.body.now) is ∙ reads)

pub loop-k-preserved : goal.loop-k-preserved
loop-k-preserved g c =
    let fields = c.fields-fields.result.now in
    let e = c.index-elements-k.result in
    let lt : c.loop-k.k < length fields = omega arith in
    shown-more e c.field_length-length.result (g.O.Sink.output c.print_field.new.out) (pending c.print_field.new.page)
    c.print_field.result c.number_in-number.result c.push.new.self.items _ c.as_slice.result.now c.loop-k.invariant
    (element-here c.args.elements.now fields c.args.plan.now c.loop-k.k e c.requires.layout
    c.fields-fields.ensures.fields lt c.index-elements-k.is)
    (field-here fields lt c.index-fields-k.is) c.as_slice.ensures.value c.field_length-length.ensures
    c.in_ok-print_field.was (λ v s. c.print_field.ensures c.as_slice.result.now v s)
    (λ v s. c.number_in-number.ensures.number c.as_slice.result.now v s)
    (number-pushed c.push.new.self.items _ _ c.push.result (sym c.is_err.ensures.value ∙ c.if-is_err.false)
    c.push.ensures.items) (take_rest c.loop-k.rest.now c.field_length-length.result)

pub returns-then-is_empty : goal.returns-then-is_empty
returns-then-is_empty g c = λ reading reads.
    shown-all (tt {0}) c.loop-k.invariant (omega arith)
    (eqb-true (length c.loop-k.rest.now) 0 (sym c.is_empty.ensures ∙ c.if-is_empty.true)) reading
    (ap (reading_by c.args.order c.args.body.now) c.fields-fields.ensures.fields ∙ reads)

pub returns : goal.returns
returns g c = λ reading reads.
    shown-tail (g.O.Sink.output c.settle.new.out) (pending c.settle.new.self) c.settle.result c.loop-k.invariant
    (omega arith) (eqb-false (length c.loop-k.rest.now) 0 (sym c.is_empty.ensures ∙ c.if-is_empty.false))
    (settled _ _ _ _ _ (codes "  tail 4\n") _ _
    (pushed _ _ (codes "  tail 4\n") c.extend_from_slice-composed.result c.extend_from_slice-composed.ensures.items)
    c.settle.ensures.composed c.settle.ensures.refused) reading
    (ap (reading_by c.args.order c.args.body.now) c.fields-fields.ensures.fields ∙ reads)
