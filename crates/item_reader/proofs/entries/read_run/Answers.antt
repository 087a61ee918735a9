-- Each turn of the loop reads what stands at the place reached.
use Rattle.std.proofs.Common.{arith}
use Rattle.structure_source.proofs.Going.{goes-more}
use Rattle.item_reader.proofs.Running.{running-begin, running-kept, running-passed, running-done}
use Rattle.item_reader.proofs.Running.{running-look}
use Rattle.item_reader.proofs.entries.read_run.Goals as goal

pub loop-elements-init : goal.loop-elements-init
loop-elements-init g c = running-begin c.args.order _ _ _ c.requires.stands c.new-elements.ensures

pub loop-elements-preserved-then-len-lt-KEPT_ELEMENTS : goal.loop-elements-preserved-then-len-lt-KEPT_ELEMENTS
loop-elements-preserved-then-len-lt-KEPT_ELEMENTS g c =
    running-kept c.args.order _ _ _ _ _ _ _ _ c.in-Element.element c.in_ok-element.field-0
    c.loop-elements.invariant c.in-Element.is c.in_ok-element.ensures.found c.in_ok-element.ensures.moves
    c.in_ok-element.ensures.read
    c.next_element.ensures.stands c.next_element.ensures.on
    (omega (arith, c.len.ensures, c.if-len-lt-KEPT_ELEMENTS.true)) c.in_ok-push-in-Element.ensures.ok

pub loop-elements-preserved-in-Element-2 : goal.loop-elements-preserved-in-Element-2
loop-elements-preserved-in-Element-2 g c =
    running-passed c.args.order _ _ _ _ _ _ _ c.in-Element.element c.in_ok-element.field-0
    c.loop-elements.invariant c.in-Element.is c.in_ok-element.ensures.found c.in_ok-element.ensures.moves
    c.next_element.ensures.stands c.next_element.ensures.on
    (omega (arith, c.len.ensures, c.if-len-lt-KEPT_ELEMENTS.false))

pub returns-in_err-element-clause-on : goal.returns-in_err-element-clause-on
returns-in_err-element-clause-on g c =
    goes-more _ _ _ _ _ _ c.loop-elements.invariant.goes c.next_element.ensures.on

pub returns-in_err-push-in-Element-clause-on : goal.returns-in_err-push-in-Element-clause-on
returns-in_err-push-in-Element-clause-on g c =
    goes-more _ _ _ _ _ _ c.loop-elements.invariant.goes c.next_element.ensures.on

pub returns-in-Ended-clause-on : goal.returns-in-Ended-clause-on
returns-in-Ended-clause-on g c =
    goes-more _ _ _ _ _ _ c.loop-elements.invariant.goes c.next_element.ensures.on

pub returns-in_err-element-clause-bounded : goal.returns-in_err-element-clause-bounded
returns-in_err-element-clause-bounded g c =
    running-look c.args.order _ _ _ _ _ _ c.loop-elements.invariant c.next_element.ensures.bounded

pub returns-in_err-push-in-Element-clause-bounded : goal.returns-in_err-push-in-Element-clause-bounded
returns-in_err-push-in-Element-clause-bounded g c =
    running-look c.args.order _ _ _ _ _ _ c.loop-elements.invariant c.next_element.ensures.bounded

pub returns-in-Ended-clause-bounded : goal.returns-in-Ended-clause-bounded
returns-in-Ended-clause-bounded g c =
    running-look c.args.order _ _ _ _ _ _ c.loop-elements.invariant c.next_element.ensures.bounded

pub returns-in-Ended-clause-run : goal.returns-in-Ended-clause-run
returns-in-Ended-clause-run g c =
    running-done c.args.order _ _ _ _ _ _ _ _ c.in_ok-element.field-0 c.loop-elements.invariant c.in-Ended.is
    c.place-end.ensures c.in_ok-element.ensures.found
