use Rattle.std.proofs.Common.{Err, ◌≡◌, ◌⊎◌, arith, length, ap, sym, subst, inl, inr}
use Rattle.layout_plan.specs.Reading.{field_in}
use Rattle.record_reader.specs.Takes.{TakesOrStops}
use Rattle.record_reader.specs.ReadBody.{Reads}
use Rattle.record_reader.proofs.ReadLemmas.{AreRead-stops, AreRead-ends, AreRead-long}
use Rattle.record_reader.proofs.reading.read_body.Goals as goal
use Rattle.record_reader.proofs.reading.read_body.Goals.{else-rest-ne0-via-then-rest-ne0+else-rest-ne-TAIL_SIZE}
use Rattle.record_reader.proofs.reading.read_body.Goals.{else-rest-ne0-via-else-rest-ne0}

pub returns-in-Err : goal.returns-in-Err
returns-in-Err c =
    let is = c.fields-fields.ensures.fields in
    subst (λ e. Reads c.args.order c.args.plan.now c.args.body.now (Err e)) (sym c.stop_at.ensures)
    (AreRead-stops c.args.order c.args.plan.now c.args.body.now c.loop-i.i c.loop-i.values c.loop-i.numbers
    c.loop-i.cursor c.index-fields-i.result c.in-Err.stop c.field_value.new.cursor
    c.fields-fields.ensures.layout.sound (rw is at c.loop-i.invariant) (omega (arith, ap length is))
    (rw is at c.index-fields-i.is)
    (subst (λ ns. TakesOrStops
    (field_in c.args.order ns c.index-fields-i.result.form c.index-fields-i.result.counts c.loop-i.cursor)
    (Err c.in-Err.stop) c.field_value.new.cursor) c.as_slice.ensures c.in-Err.ensures))

pub returns-then-rest-ne-TAIL_SIZE : goal.returns-then-rest-ne-TAIL_SIZE
returns-then-rest-ne-TAIL_SIZE c =
    let is = c.fields-fields.ensures.fields in
    subst (λ e. Reads c.args.order c.args.plan.now c.args.body.now (Err e))
    (sym c.stop_at-then-rest-ne-TAIL_SIZE.ensures)
    (rw is (AreRead-long c.args.order c.args.plan.now c.args.body.now c.loop-i.i c.loop-i.values c.loop-i.numbers
    c.loop-i.cursor c.fields-fields.ensures.layout.sound (rw is at c.loop-i.invariant) (omega (arith, ap length is))
    (rw c.left-rest.ensures.left at c.if-rest-ne0.true) (rw c.left-rest.ensures.left at c.if-rest-ne-TAIL_SIZE.true)))

pub returns : goal.returns
returns c =
    let is = c.fields-fields.ensures.fields in
    let ends : (c.left-rest.result ≡ 0)
    ⊎ (c.left-rest.result ≡ 4) =
    elim c.else-rest-ne0.branch [
      | else-rest-ne0-via-then-rest-ne0+else-rest-ne-TAIL_SIZE w ↦ inr w.if-rest-ne-TAIL_SIZE.false
      | else-rest-ne0-via-else-rest-ne0 w ↦ inl w.if-rest-ne0.false
    ] in
    AreRead-ends c.args.order c.args.plan.now c.args.body.now c.loop-i.i c.loop-i.values c.loop-i.numbers
    c.loop-i.cursor c.fields-fields.ensures.layout.sound (rw is at c.loop-i.invariant) (omega (arith, ap length is))
    (rw c.left-rest.ensures.left at ends)
