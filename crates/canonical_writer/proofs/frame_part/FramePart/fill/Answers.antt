-- Record by record, and then the end record.
use Rattle.std.proofs.Common.{◌≡◌, ◌+◌, Err, List, get_or, sym, subst, arith}
use Rattle.std.specs.Option.{option_copied}
use Rattle.std.proofs.lemmas.Result.{err_from_is_err_and, on_ok_weaker}
use Rattle.dictionary.specs.declared.entries.Entry.{Entry}
use Rattle.canonical_writer.specs.declared.errors.WriteError.TheVariants as error
use Rattle.canonical_writer.specs.declared.frame_part.FramePart.{FramePart}
use Rattle.canonical_writer.proofs.SegmentOrders.{breadth-within, breadth-order}
use Rattle.canonical_writer.proofs.Filling.{IsFilledTo, filled-none, filled-more, filled-clash, filled-all, last-clash}
use Rattle.canonical_writer.proofs.Filling.{placed-at}
use Rattle.canonical_writer.proofs.frame_part.FramePart.fill.Goals as goal
use Rattle.canonical_writer.proofs.frame_part.FramePart.fill.Goals.{then-node-len+in_ok-push_record, else-node-len}

pub loop-node-init : goal.loop-node-init
loop-node-init c = λ is ready.
    let source = c.args.frame.now in
    filled-none c.args.at (option_copied c.args.closing) c.args.used.now source _ c.clear.ensures.items ready
    (c.in_ok-number.ensures (breadth-order source.plans.now source.segment.now source.order.now is.can.breadth))
    (omega (arith, c.in_ok-resize.ensures.len, c.resize.new.self.ok.0, c.len.ensures))

pub returns-in_err-push_record-clause-clash : goal.returns-in_err-push_record-clause-clash
returns-in_err-push_record-clause-clash c = λ class was is ready.
    let p = err_from_is_err_and c.from_residual-in_err-push_record.result c.from_residual-in_err-push_record.ensures.1 in
    let source = c.args.frame.now in let count = c.loop-node.node-index in
    let filled = c.loop-node.invariant is ready in
    let placed = placed-at source count c.loop-node.self.links is c.loop-node-test.true filled.links_are in
    let w : c.from_residual-in_err-push_record.result ≡ Err (error.Clash class) = was in
    filled-clash c.args.at (option_copied c.args.closing) c.args.used.now c.loop-node.used source count class
    c.loop-node.self filled c.loop-node-test.true
    (c.in_err-push_record.ensures.clash class count (let q = p.1 in let r = p.2 in cc) placed filled.used_are.ready)

pub loop-node-preserved : goal.loop-node-preserved
loop-node-preserved c = λ is ready. elim c.if-node-len.branch [
  | then-node-len+in_ok-push_record w ↦
      let source = c.args.frame.now in let count = c.loop-node.node-index in let closing =
      option_copied c.args.closing in
      let filled = c.loop-node.invariant is ready in
      let placed = placed-at source count c.loop-node.self.links is c.loop-node-test.true filled.links_are in
      let more = filled-more c.args.at closing c.args.used.now c.loop-node.used w.push_record.new.used source count
      (get_or source.order.now count 0) c.loop-node.self w.push_record.new.self filled placed
      (w.in_ok-push_record.ensures.used count placed filled.used_are.ready)
      (w.in_ok-push_record.ensures.places count placed filled.used_are.ready) w.in_ok-push_record.ensures.links in
      subst (λ (part : FramePart). IsFilledTo c.args.at closing c.args.used.now c.if-node-len.used source
      (count + 1) part)
      (sym w.self-is)
      (subst (λ (used : List Entry). IsFilledTo c.args.at closing c.args.used.now used source (count + 1)
      w.push_record.new.self) (sym w.used-is) more)
  | else-node-len w ↦
      let source = c.args.frame.now in
      absurd (omega (
        arith,
        w.if-node-len.false,
        breadth-within source.plans.now source.segment.now
            source.order.now is.can.breadth c.loop-node.node-index 0 c.loop-node-test.true,
      ))
]

pub returns-clause-filled : goal.returns-clause-filled
returns-clause-filled c =
    on_ok_weaker c.push_end.result
    (λ uses is ready. let filled = c.loop-node.invariant is ready in
    filled-all c.args.at (option_copied c.args.closing) c.args.used.now c.loop-node.used c.push_end.new.used
    c.args.frame.now c.loop-node.node-index c.loop-node.self c.push_end.new.self filled
    (omega (arith, c.loop-node-test.false, c.loop-node.auto.node-index-end)) (uses is filled.used_are.ready)
    c.push_end.ensures.places)
    c.push_end.ensures.used

pub returns-clause-clash : goal.returns-clause-clash
returns-clause-clash c = λ class was is ready.
    let filled = c.loop-node.invariant is ready in
    last-clash c.args.at (option_copied c.args.closing) c.args.used.now c.loop-node.used c.args.frame.now
    c.loop-node.node-index class c.loop-node.self filled
    (omega (arith, c.loop-node-test.false, c.loop-node.auto.node-index-end))
    (c.push_end.ensures.clash class was is filled.used_are.ready)
