use Rattle.std.proofs.Common.{◌≤◌, ◌∙◌, arith, sym, ap, subst, length, take, drop}
use Rattle.std.proofs.lemmas.List.{take_rest, take_all, length-drop}
use Rattle.scalar_types.specs.declared.Order.TheVariants.{Little}
use Rattle.scalar_types.specs.Number.{number}
use Rattle.record_values.specs.Spelling.{IsText, IsClosedText}
use Rattle.layout_plan.specs.Respelled.{Respells}
use Rattle.layout_plan.proofs.RespelledLemmas.{respells-none, begins-text, text-begins, text-room, texts-same}
use Rattle.layout_plan.proofs.RespelledLemmas.{texts-all}
use Rattle.layout_plan.proofs.respelled.are_closed.Goals as goal

pub loop-at-init : goal.loop-at-init
loop-at-init c = record {
  within = omega arith;
  texts = respells-none (IsText Little) (IsClosedText Little) c.args.bytes.now;
}

pub read_num-length-requires : goal.read_num-length-requires
read_num-length-requires c =
    let bytes = c.args.bytes.now in
    let at = c.loop-at.at in
    let begins = begins-text Little bytes (drop at bytes) (take at bytes) c.requires
    (omega (arith, length-drop at bytes, c.loop-at-test.true)) c.loop-at.invariant.texts in
    subst (λ rest. 2 ≤ length rest) (sym (take_rest bytes at)) (text-begins Little (drop at bytes) begins)

pub loop-at-preserved : goal.loop-at-preserved
loop-at-preserved c =
    let bytes = c.args.bytes.now in
    let at = c.loop-at.at in
    let begins = begins-text Little bytes (drop at bytes) (take at bytes) c.requires
    (omega (arith, length-drop at bytes, c.loop-at-test.true)) c.loop-at.invariant.texts in
    let read = c.read_num-length.ensures.value ∙ ap (λ rest. number Little (take 2 rest)) (take_rest bytes at) in
    let room = text-room Little (drop at bytes) c.read_num-length.result read begins in
    record {
      within = omega (arith, room, length-drop at bytes, c.loop-at.invariant.within);
      texts = texts-same bytes at c.read_num-length.result c.loop-at-test.true read
          (omega (arith, c.if-length-eq0.false)) c.loop-at.invariant.texts;
    }

pub returns : goal.returns
returns c = λ holds.
    let bytes = c.args.bytes.now in
    let at = c.loop-at.at in
    subst (Respells (IsText Little) (IsClosedText Little) bytes)
    (take_all at bytes (omega (arith, c.loop-at-test.false)))
    (texts-all Little bytes (take at bytes) at (omega (arith, c.loop-at-test.false)) c.loop-at.invariant.texts)
