-- The bracket, and then item after item.
use Rattle.std.proofs.Common.{sym, subst, drop, arith}
use Rattle.std.specs.Prelude.{codes}
use Rattle.std.proofs.lemmas.Bool.{ltb-true, ltb-false}
use Rattle.std.proofs.lemmas.List.{take_rest, length-drop}
use Rattle.dumper.specs.Page.{pending}
use Rattle.dumper.specs.Items.{BeginsItem}
use Rattle.dumper.proofs.Pages.{settled, prints-stopped, carried, handed-on, pushed}
use Rattle.dumper.proofs.ListedItems.{printed-none, printed-begins, printed-more, printed-bounds, printed-stopped}
use Rattle.dumper.proofs.ListedItems.{printed-all}
use Rattle.dumper.proofs.values.print_list.Goals as goal

pub returns-in_err-settle : goal.returns-in_err-settle
returns-in_err-settle g c = λ items s.
    prints-stopped _ _ _ (pending c.settle.new.self) _ (codes "[") _ _ c.settle.result _ c.in_err-settle.was
    (handed-on _ _ c.from_residual.ensures.1)
    (settled _ _ _ _ _ _ c.extend_from_slice-composed.result _
    (pushed _ _ (codes "[") c.extend_from_slice-composed.result c.extend_from_slice-composed.ensures.items)
    c.settle.ensures.composed c.settle.ensures.refused)

pub loop-at-init : goal.loop-at-init
loop-at-init g c = record {
  within = omega arith;
  printed = λ items s.
      printed-none _ _ _ _ _ _ _ _ _ (carried _ _ _ _ (codes "[") _ c.settle.result c.in_ok-settle.was
      (settled _ _ _ _ _ _ c.extend_from_slice-composed.result _
      (pushed _ _ (codes "[") c.extend_from_slice-composed.result c.extend_from_slice-composed.ensures.items)
      c.settle.ensures.composed c.settle.ensures.refused)) s;
}

pub print_item-requires-clause-spelled : goal.print_item-requires-clause-spelled
print_item-requires-clause-spelled g c =
    let bytes = c.args.bytes.now in
    let at = c.loop-at.at in
    subst (BeginsItem c.args.order c.args.form) (sym (take_rest bytes at))
    (printed-begins _ _ _ _ _ _ _ _ _ _ (c.loop-at.invariant.printed c.requires.spelled.0 c.requires.spelled.1)
    (omega (arith, length-drop at bytes, c.loop-at-test.true)))

pub returns-in_err-at : goal.returns-in_err-at
returns-in_err-at g c = λ items s.
    let at = c.loop-at.at in
    printed-stopped _ (g.O.Sink.output c.loop-at.out) _ _ (pending c.loop-at.page) _ _ _ _ _ c.args.bytes.now at _ _
    c.print_item.result _ (λ e. ltb-true 0 at e) (λ e. omega (arith, ltb-false 0 at e)) c.loop-at-test.true
    c.in_err-at.was (handed-on _ _ c.from_residual-in_err-at.ensures.1) c.print_item.ensures
    (c.loop-at.invariant.printed items s)

pub overflow_add-at : goal.overflow_add-at
overflow_add-at g c =
    let bounds = printed-bounds _ (g.O.Sink.output c.loop-at.out) _ _ (pending c.loop-at.page) _ _ _ _ _
    c.args.bytes.now c.loop-at.at c.in_ok-at.field-0 _ c.print_item.result c.loop-at-test.true c.in_ok-at.was
    c.print_item.ensures (c.loop-at.invariant.printed c.requires.spelled.0 c.requires.spelled.1) in
    omega (arith, bounds.1)

pub loop-at-smaller : goal.loop-at-smaller
loop-at-smaller g c =
    let bounds = printed-bounds _ (g.O.Sink.output c.loop-at.out) _ _ (pending c.loop-at.page) _ _ _ _ _
    c.args.bytes.now c.loop-at.at c.in_ok-at.field-0 _ c.print_item.result c.loop-at-test.true c.in_ok-at.was
    c.print_item.ensures (c.loop-at.invariant.printed c.requires.spelled.0 c.requires.spelled.1) in
    omega (arith, bounds.0, bounds.1, c.loop-at-test.true)

pub loop-at-preserved : goal.loop-at-preserved
loop-at-preserved g c =
    let at = c.loop-at.at in
    let bounds = printed-bounds _ (g.O.Sink.output c.loop-at.out) _ _ (pending c.loop-at.page) _ _ _ _ _
    c.args.bytes.now at c.in_ok-at.field-0 _ c.print_item.result c.loop-at-test.true c.in_ok-at.was
    c.print_item.ensures (c.loop-at.invariant.printed c.requires.spelled.0 c.requires.spelled.1) in
    record {
      within = bounds.1;
      printed = λ items s.
          printed-more _ (g.O.Sink.output c.loop-at.out) _ _ (pending c.loop-at.page) _ _ _ _ _ c.args.bytes.now at
          c.in_ok-at.field-0 _ c.print_item.result (λ e. ltb-true 0 at e) (λ e. omega (arith, ltb-false 0 at e))
          c.loop-at-test.true c.in_ok-at.was c.print_item.ensures (c.loop-at.invariant.printed items s);
    }

pub returns : goal.returns
returns g c = λ items s.
    let at = c.loop-at.at in
    printed-all _ (g.O.Sink.output c.loop-at.out) _ _ (pending c.loop-at.page) _ _ _ _ _ at
    (drop at c.args.bytes.now) _ (omega (arith, length-drop at c.args.bytes.now, c.loop-at-test.false))
    (settled _ _ _ _ _ (codes "]") c.extend_from_slice-composed-2.result _
    (pushed _ _ (codes "]") c.extend_from_slice-composed-2.result c.extend_from_slice-composed-2.ensures.items)
    c.settle-2.ensures.composed c.settle-2.ensures.refused)
    (c.loop-at.invariant.printed items s)
