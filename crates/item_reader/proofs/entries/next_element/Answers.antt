-- Each step of the source, and the structure that the head and the bytes brought are.
use Rattle.std.proofs.Common.{◌≡◌, ◌+◌, ◌-◌, ◌<◌, length, Some, ap}
use Rattle.std.proofs.Common.{subst, arith}
use Rattle.structure_source.proofs.Going.{goes-more, at-now}
use Rattle.layout_plan.specs.Reading.{fault_of}
use Rattle.file_grammar.specs.declared.reason.Reason.TheVariants.{CutRecord}
use Rattle.file_grammar.specs.Structure.{left_at}
use Rattle.file_grammar.specs.Fault.{fault_at}
use Rattle.file_grammar.specs.Steps.{reason_of}
use Rattle.item_reader.specs.declared.entries.Next.TheVariants.{Ended}
use Rattle.item_reader.specs.declared.looked.Looked.TheVariants.{Wrong}
use Rattle.item_reader.specs.Placed.{placed_at}
use Rattle.item_reader.proofs.Candidates.{candidate-tested, none-short, none-unread, placed-end}
use Rattle.item_reader.proofs.Candidates.{fault-cut_body, fault-unread}
use Rattle.item_reader.proofs.Bringing.{headed, passes-whole, short-of, placed-read}
use Rattle.item_reader.proofs.Bringing.{look-brought, look-within, next-wrong}
use Rattle.item_reader.proofs.entries.next_element.Goals as goal

pub returns-in_err-bring_bytes-clause-on : goal.returns-in_err-bring_bytes-clause-on
returns-in_err-bring_bytes-clause-on g c =
    goes-more _ _ _ _ _ _ c.head.ensures.on c.bring_bytes.ensures.on

pub returns-then-not-branch-clause-on : goal.returns-then-not-branch-clause-on
returns-then-not-branch-clause-on g c =
    goes-more _ _ _ _ _ _ c.head.ensures.on c.bring_bytes.ensures.on

pub returns-in_err-element_in-in-Ok-clause-on : goal.returns-in_err-element_in-in-Ok-clause-on
returns-in_err-element_in-in-Ok-clause-on g c =
    goes-more _ _ _ _ _ _ c.head.ensures.on c.bring_bytes.ensures.on

pub returns-in_ok-element_in-in-Ok-clause-on : goal.returns-in_ok-element_in-in-Ok-clause-on
returns-in_ok-element_in-in-Ok-clause-on g c =
    goes-more _ _ _ _ _ _ c.head.ensures.on c.bring_bytes.ensures.on

pub returns-in-Err-clause-on : goal.returns-in-Err-clause-on
returns-in-Err-clause-on g c =
    goes-more _ _ _ _ _ _ c.head.ensures.on c.bring_bytes.ensures.on

pub returns-in_err-element_in-in-Ok-clause-bounded : goal.returns-in_err-element_in-in-Ok-clause-bounded
returns-in_err-element_in-in-Ok-clause-bounded g c = λ reading told.
    let at = c.args.source.now.at in
    let common = c.in-Whole.common in
    let it = headed c.args.order reading.opened at c.place-at.result c.in_ok-common.field-0 common
    c.head.new.self.at c.may_be_element.result (c.in_ok-common.ensures.head reading told)
    c.in_ok-common.ensures.passes c.in-Whole.is c.place-at.ensures c.may_be_element.ensures
    c.if-not-may_be_element.false in
    look-brought c.args.order reading.opened common c.args.source.now c.head.new.self c.bring_bytes.new.self
    it c.requires.stands.few c.head.ensures.bounded c.bring_bytes.ensures.bounded

pub returns-in_ok-element_in-in-Ok-clause-bounded : goal.returns-in_ok-element_in-in-Ok-clause-bounded
returns-in_ok-element_in-in-Ok-clause-bounded g c = λ reading told.
    let at = c.args.source.now.at in
    let common = c.in-Whole.common in
    let it = headed c.args.order reading.opened at c.place-at.result c.in_ok-common.field-0 common
    c.head.new.self.at c.may_be_element.result (c.in_ok-common.ensures.head reading told)
    c.in_ok-common.ensures.passes c.in-Whole.is c.place-at.ensures c.may_be_element.ensures
    c.if-not-may_be_element.false in
    look-brought c.args.order reading.opened common c.args.source.now c.head.new.self c.bring_bytes.new.self
    it c.requires.stands.few c.head.ensures.bounded c.bring_bytes.ensures.bounded

pub returns-in-Err-clause-bounded : goal.returns-in-Err-clause-bounded
returns-in-Err-clause-bounded g c = λ reading told.
    let at = c.args.source.now.at in
    let common = c.in-Whole.common in
    let it = headed c.args.order reading.opened at c.place-at.result c.in_ok-common.field-0 common
    c.head.new.self.at c.may_be_element.result (c.in_ok-common.ensures.head reading told)
    c.in_ok-common.ensures.passes c.in-Whole.is c.place-at.ensures c.may_be_element.ensures
    c.if-not-may_be_element.false in
    look-brought c.args.order reading.opened common c.args.source.now c.head.new.self c.bring_bytes.new.self
    it c.requires.stands.few c.head.ensures.bounded c.bring_bytes.ensures.bounded

pub returns-in_ok-element_in-in-Ok-clause-moves : goal.returns-in_ok-element_in-in-Ok-clause-moves
returns-in_ok-element_in-in-Ok-clause-moves g c =
    let at = c.args.source.now.at in
    let common = c.in-Whole.common in
    let moved = passes-whole c.in_ok-common.field-0 common at c.head.new.self.at c.in_ok-common.ensures.passes
    c.in-Whole.is in
    let may = candidate-tested at c.place-at.result common c.may_be_element.result c.place-at.ensures
    c.may_be_element.ensures c.if-not-may_be_element.false in
    let brought : c.bring_bytes.new.self.at ≡ c.head.new.self.at + (c.in-Whole.common.length - 14) =
    c.in_ok-bring_bytes.ensures.passes.all.0 c.if-not-branch.false in
    (omega (arith, moved, brought, may.head), omega (arith, moved, brought, may.head, may.within))

pub returns-then-not-branch-clause-found : goal.returns-then-not-branch-clause-found
returns-then-not-branch-clause-found g c = λ reading told.
    let at = c.args.source.now.at in
    let common = c.in-Whole.common in
    let it = headed c.args.order reading.opened at c.place-at.result c.in_ok-common.field-0 common
    c.head.new.self.at c.may_be_element.result (c.in_ok-common.ensures.head reading told)
    c.in_ok-common.ensures.passes c.in-Whole.is c.place-at.ensures c.may_be_element.ensures
    c.if-not-may_be_element.false in
    let now = at-now _ _ _ _ reading c.head.ensures.on c.head.ensures.stands told in
    let cut = short-of _ _ _ _ _ c.in_ok-bring_bytes.ensures.passes c.if-not-branch.true now.0 now.1 in
    let short : left_at reading.opened (c.args.source.now.at + 14) < c.in-Whole.common.length - 14 =
    omega (arith, cut, it.moved, ap length now.2) in
    let wrong = subst (λ at. c.wrong-then-not-branch.result ≡ Ended (Wrong (fault_at CutRecord (at, 0))))
    c.place-at.ensures c.wrong-then-not-branch.ensures in
    next-wrong c.args.order reading.opened at c.bring_bytes.new.self.at c.wrong-then-not-branch.result _ wrong
    (none-short c.args.order reading.opened at common it.head short)
    (fault-cut_body c.args.order reading.opened at common it.head it.may.head
    it.may.small short)
    (omega (arith, c.head.ensures.on.forward, c.bring_bytes.ensures.on.forward))
    (look-within c.args.order reading.opened common c.args.source.now c.head.new.self c.bring_bytes.new.self
    it c.bring_bytes.ensures.within)

pub returns-in_ok-element_in-in-Ok-clause-found : goal.returns-in_ok-element_in-in-Ok-clause-found
returns-in_ok-element_in-in-Ok-clause-found g c = λ reading told.
    let at = c.args.source.now.at in
    let common = c.in-Whole.common in
    let it = headed c.args.order reading.opened at c.place-at.result c.in_ok-common.field-0 common
    c.head.new.self.at c.may_be_element.result (c.in_ok-common.ensures.head reading told)
    c.in_ok-common.ensures.passes c.in-Whole.is c.place-at.ensures c.may_be_element.ensures
    c.if-not-may_be_element.false in
    let now = at-now _ _ _ _ reading c.head.ensures.on c.head.ensures.stands told in
    let placed = placed-read c.args.order at common reading now.0 _ c.head.new.self c.bring_bytes.new.self
    c.clear.new.self.items c.bring_bytes.new.bytes.items c.as_slice-in-Ok.result.now _ it
    now.1 now.2 c.in_ok-bring_bytes.ensures.passes c.if-not-branch.false c.bring_bytes.ensures.appends
    c.clear.ensures.items c.as_slice-in-Ok.ensures.value in
    let brought : c.bring_bytes.new.self.at ≡ c.head.new.self.at + (c.in-Whole.common.length - 14) =
    c.in_ok-bring_bytes.ensures.passes.all.0 c.if-not-branch.false in
    let end = placed-end c.args.order reading.opened at (placed_at at common) placed.0 in (
      c.in_ok-element_in-in-Ok.ensures.spelled reading.opened at (placed_at at common) placed.0
          it.may.within it.may.class placed.1,
      omega (arith, brought, it.moved, end, it.may.head),
    )

pub returns-in-Err-clause-found : goal.returns-in-Err-clause-found
returns-in-Err-clause-found g c = λ reading told.
    let at = c.args.source.now.at in
    let common = c.in-Whole.common in
    let it = headed c.args.order reading.opened at c.place-at.result c.in_ok-common.field-0 common
    c.head.new.self.at c.may_be_element.result (c.in_ok-common.ensures.head reading told)
    c.in_ok-common.ensures.passes c.in-Whole.is c.place-at.ensures c.may_be_element.ensures
    c.if-not-may_be_element.false in
    let now = at-now _ _ _ _ reading c.head.ensures.on c.head.ensures.stands told in
    let body = c.as_slice.result.now in
    let placed = placed-read c.args.order at common reading now.0 _ c.head.new.self c.bring_bytes.new.self
    c.clear.new.self.items c.bring_bytes.new.bytes.items body _ it
    now.1 now.2 c.in_ok-bring_bytes.ensures.passes c.if-not-branch.false c.bring_bytes.ensures.appends
    c.clear.ensures.items c.as_slice.ensures.value in
    let fault = subst (λ fields. fault_of c.args.order fields c.as_slice.result.now ≡ Some c.in-Err.fault)
    c.requires.plan c.in-Err.ensures.fault in
    let wrong = subst (λ at. c.wrong-in-Err.result
    ≡ Ended (Wrong (fault_at (reason_of c.in-Err.fault.reason) (at, c.in-Err.fault.field))))
    c.place-at.ensures
    (subst (λ reason. c.wrong-in-Err.result
    ≡ Ended (Wrong (fault_at reason (c.place-at.result, c.in-Err.fault.field))))
    c.reason_of.ensures c.wrong-in-Err.ensures) in
    next-wrong c.args.order reading.opened at c.bring_bytes.new.self.at c.wrong-in-Err.result _ wrong
    (none-unread c.args.order reading.opened at (placed_at at common) body c.in-Err.fault placed.0 placed.1
    fault)
    (fault-unread c.args.order reading.opened at (placed_at at common) body c.in-Err.fault placed.0
    it.may.class placed.1 fault)
    (omega (arith, c.head.ensures.on.forward, c.bring_bytes.ensures.on.forward))
    (look-within c.args.order reading.opened common c.args.source.now c.head.new.self c.bring_bytes.new.self
    it c.bring_bytes.ensures.within)
