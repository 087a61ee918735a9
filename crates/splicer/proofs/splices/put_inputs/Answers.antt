-- Each input by the lemma of its name.
use Rattle.std.proofs.Common.{◌≡◌, ◌+◌, length, map, string_bytes, inl, inr, refl, sym, ap, arith, subst, is_none}
use Rattle.std.proofs.Common.{Option, false}
use Rattle.std.proofs.lemmas.List.{length-map}
use Rattle.std.proofs.lemmas.Result.{err_from_is_err_and}
use Rattle.canonical_file.specs.declared.closing.Closing.{Closing}
use Rattle.splicer.specs.Made.{IsMade}
use Rattle.splicer.specs.Spliced.{HasSpliced}
use Rattle.splicer.proofs.Making.{made-opens}
use Rattle.splicer.proofs.Splicing.{opened-first_comes, opened-next, opened-comes, opened-ends, opened-written}
use Rattle.splicer.proofs.Splicing.{ends-refused, opened-drawn_ends, spliced-drawn}
use Rattle.splicer.proofs.SpliceErrors.{refused-failed, leaves-input, leaves-refused}
use Rattle.splicer.proofs.FirstInput.{names-at, opened-beginning, opened-target}
use Rattle.frame_outside.proofs.Slots.{IsSource-opens}
use Rattle.splicer.proofs.splices.put_inputs.Goals as goal

pub returns-in-Err-clause-puts : goal.returns-in-Err-clause-puts
returns-in-Err-clause-puts g c = λ old to files opened due is.
    let comes = opened-first_comes files _ old _ to c.args.slot c.args.writer.now opened in
    let puts = c.in-Err.ensures.puts old to 1 opened.stood opened.input opened.opened opened.past comes in
    rw c.of_input.ensures (opened-ends files _ old _ _ to 0 c.args.slot c.args.writer.now
    c.put_input.new.writer c.in-Err.error opened puts
    due is)

pub returns-in-Err-clause-taken : goal.returns-in-Err-clause-taken
returns-in-Err-clause-taken g c = λ old to files opened.
    let comes = opened-first_comes files _ old _ to c.args.slot c.args.writer.now opened in
    let puts = c.in-Err.ensures.puts old to 1 opened.stood opened.input opened.opened opened.past comes in
    let draws = c.in-Err.ensures.draws old to 1 opened.stood opened.input opened.opened opened.past comes in
    opened-drawn_ends files _ old _ _ to 0 c.args.slot c.args.writer.now c.put_input.new.writer c.in-Err.error opened
    puts draws

pub returns-in-Err-clause-made : goal.returns-in-Err-clause-made
returns-in-Err-clause-made g c = λ old to past made.
    rw c.of_input.ensures (leaves-input old _ _ to 1 (length c.args.from.now) 0 _ _ c.in-Err.error made
    (c.in-Err.ensures.made old to 1 past made) (omega arith) c.in-Err.ensures.device)

pub inputs-init : goal.inputs-init
inputs-init g c = record {
  target = c.in_default.ensures.target;
  error = c.in_default.ensures.no_error;
  holds = c.in_default.ensures.holds (inl refl);
  puts = λ old to files opened.
      let comes = opened-first_comes files _ old _ to c.args.slot c.args.writer.now opened in
      opened-written files _ old _ _ to 0 c.args.slot c.args.writer.now c.put_input.new.writer opened
      (c.in_default.ensures.puts old to 1 opened.stood opened.input opened.opened opened.past comes)
      _ (c.in_default.ensures.draws old to 1 opened.stood opened.input opened.opened opened.past comes);
  made = λ old to past made. c.in_default.ensures.made old to 1 past made;
}

pub returns-in_err-slot-clause-puts : goal.returns-in_err-slot-clause-puts
returns-in_err-slot-clause-puts g c = λ old to files opened.
    let p = err_from_is_err_and c.from_residual.result c.from_residual.ensures.1 in
    let spliced = c.inputs.invariant.puts old to files opened in
    let names = names-at string_bytes c.args.from.now c.inputs.number c.index-from-number.result c.as_str.result.now
    (omega arith) c.index-from-number.is c.as_str.ensures.value in
    rw (p.1, p.2) (λ due is. ends-refused files _ old _ _ to c.as_str.result.now _ c.inputs.number c.inputs.writer due
    _ spliced names (refused-failed c.in_err-slot.field-0.0) c.in_err-slot.ensures.refused is)

pub returns-in_err-slot-clause-taken : goal.returns-in_err-slot-clause-taken
returns-in_err-slot-clause-taken g c =
    let p = err_from_is_err_and c.from_residual.result c.from_residual.ensures.1 in
    let refused = c.in_err-slot.ensures.refused in
    rw p.1 (λ old to files opened. spliced-drawn files _ old _ (g.S.Shelf.outside c.source.new.self) to
    c.inputs.number c.inputs.writer (c.inputs.invariant.puts old to files opened) (omega (arith, refused.taken)))

pub returns-in_err-slot-clause-made : goal.returns-in_err-slot-clause-made
returns-in_err-slot-clause-made g c = λ old to past made.
    let p = err_from_is_err_and c.from_residual.result c.from_residual.ensures.1 in
    rw (p.1, p.2) (leaves-refused old _ _ to _ c.inputs.number (length c.args.from.now) c.inputs.writer.slot
    c.in_err-slot.field-0.0 (c.inputs.invariant.made old to past made) c.in_err-slot.ensures.refused (omega arith)
    c.in_err-slot.ensures.failed)

pub put_input-requires-in-inputs-clause-source : goal.put_input-requires-in-inputs-clause-source
put_input-requires-in-inputs-clause-source g c = IsSource-opens _ _ _ _ c.in_ok-slot.ensures.ok

pub put_input-requires-in-inputs-clause-beginning : goal.put_input-requires-in-inputs-clause-beginning
put_input-requires-in-inputs-clause-beginning g c = opened-beginning _ _ _ _ c.in_ok-slot.ensures.ok

pub put_input-requires-in-inputs-clause-target : goal.put_input-requires-in-inputs-clause-target
put_input-requires-in-inputs-clause-target g c =
    opened-target _ _ _ _ _ c.in_ok-slot.ensures.ok c.inputs.invariant.target

pub returns-in-Err-put_input-clause-puts : goal.returns-in-Err-put_input-clause-puts
returns-in-Err-put_input-clause-puts g c = λ old to files first due is.
    let n = c.inputs.number in
    let spliced = c.inputs.invariant.puts old to files first in
    let names = names-at string_bytes c.args.from.now n c.index-from-number.result c.as_str.result.now
    (omega arith) c.index-from-number.is c.as_str.ensures.value in
    let opened = opened-next files _ old _ _ to c.as_str.result.now _ n c.in_ok-slot.slot c.inputs.writer
    c.source.result spliced names c.source.ensures.missing c.in_ok-slot.was c.in_ok-slot.ensures.ok (omega arith) in
    let comes = opened-comes files _ old _ to n c.in_ok-slot.slot false c.inputs.writer opened
    (sym (ap (λ (c : Option Closing). is_none c) spliced.closing_is)) in
    let puts = c.in-Err-put_input.ensures.puts old to (n + 1) opened.stood opened.input opened.opened opened.past
    comes in
    rw c.of_input-in-Err-put_input.ensures (opened-ends files _ old _ _ to n c.in_ok-slot.slot c.inputs.writer
    c.put_input-in-inputs.new.writer c.in-Err-put_input.error opened puts due is)

pub returns-in-Err-put_input-clause-taken : goal.returns-in-Err-put_input-clause-taken
returns-in-Err-put_input-clause-taken g c = λ old to files first.
    let n = c.inputs.number in
    let spliced = c.inputs.invariant.puts old to files first in
    let names = names-at string_bytes c.args.from.now n c.index-from-number.result c.as_str.result.now
    (omega arith) c.index-from-number.is c.as_str.ensures.value in
    let opened = opened-next files _ old _ _ to c.as_str.result.now _ n c.in_ok-slot.slot c.inputs.writer
    c.source.result spliced names c.source.ensures.missing c.in_ok-slot.was c.in_ok-slot.ensures.ok (omega arith) in
    let comes = opened-comes files _ old _ to n c.in_ok-slot.slot false c.inputs.writer opened
    (sym (ap (λ (c : Option Closing). is_none c) spliced.closing_is)) in
    let puts = c.in-Err-put_input.ensures.puts old to (n + 1) opened.stood opened.input opened.opened opened.past
    comes in
    let draws = c.in-Err-put_input.ensures.draws old to (n + 1) opened.stood opened.input opened.opened opened.past
    comes in
    opened-drawn_ends files _ old _ _ to n c.in_ok-slot.slot c.inputs.writer c.put_input-in-inputs.new.writer
    c.in-Err-put_input.error opened puts draws

pub returns-in-Err-put_input-clause-made : goal.returns-in-Err-put_input-clause-made
returns-in-Err-put_input-clause-made g c = λ old to past made.
    let n = c.inputs.number in
    let before = c.inputs.invariant.made old to past made in
    let opened = made-opens old _ _ to c.as_str.result.now n c.inputs.writer.slot c.in_ok-slot.slot before.bytes
    before.made c.in_ok-slot.ensures.ok in
    let now : IsMade old (g.S.Shelf.outside c.source.new.self) to (n + 1) c.inputs.writer.slot =
    record { bytes = before.bytes; made = opened.0 } in
    rw c.of_input-in-Err-put_input.ensures (leaves-input old _ _ to (n + 1) (length c.args.from.now) n
    c.inputs.writer.slot c.put_input-in-inputs.new.writer.slot c.in-Err-put_input.error now
    (c.in-Err-put_input.ensures.made old to (n + 1) opened.1 now) (omega arith) c.in-Err-put_input.ensures.device)

pub inputs-preserved : goal.inputs-preserved
inputs-preserved g c = record {
  target = c.in_default-put_input.ensures.target;
  error = c.in_default-put_input.ensures.no_error;
  holds = c.in_default-put_input.ensures.holds (inr c.inputs.invariant.holds);
  puts = λ old to files first.
      let n = c.inputs.number in
      let spliced = c.inputs.invariant.puts old to files first in
      let names = names-at string_bytes c.args.from.now n c.index-from-number.result c.as_str.result.now
      (omega arith) c.index-from-number.is c.as_str.ensures.value in
      let opened = opened-next files _ old _ _ to c.as_str.result.now _ n c.in_ok-slot.slot c.inputs.writer
      c.source.result spliced names c.source.ensures.missing c.in_ok-slot.was c.in_ok-slot.ensures.ok (omega arith) in
      let comes = opened-comes files _ old _ to n c.in_ok-slot.slot false c.inputs.writer opened
      (sym (ap (λ (c : Option Closing). is_none c) spliced.closing_is)) in
      opened-written files _ old _ _ to n c.in_ok-slot.slot c.inputs.writer c.put_input-in-inputs.new.writer opened
      (c.in_default-put_input.ensures.puts old to (n + 1) opened.stood opened.input opened.opened opened.past comes)
      _
      (c.in_default-put_input.ensures.draws old to (n + 1) opened.stood opened.input opened.opened opened.past comes);
  made = λ old to past made.
      let n = c.inputs.number in
      let before = c.inputs.invariant.made old to past made in
      let opened = made-opens old _ _ to c.as_str.result.now n c.inputs.writer.slot c.in_ok-slot.slot before.bytes
      before.made c.in_ok-slot.ensures.ok in
      c.in_default-put_input.ensures.made old to (n + 1) opened.1 (record { bytes = before.bytes; made = opened.0 });
}

pub returns-clause-puts : goal.returns-clause-puts
returns-clause-puts g c = λ old to files first.
    let names = map string_bytes c.args.from.now in
    let all : c.inputs.number ≡ length names = omega (arith, length-map c.args.from.now string_bytes) in
    subst (λ n. HasSpliced files names old (g.S.Shelf.outside c.inputs.shelf) to n c.inputs.writer) all
    (c.inputs.invariant.puts old to files first)

pub returns-clause-made : goal.returns-clause-made
returns-clause-made g c = λ old to past made.
    let all : c.inputs.number ≡ length c.args.from.now = omega arith in
    subst (λ n. IsMade old (g.S.Shelf.outside c.inputs.shelf) to n c.inputs.writer.slot) all
    (c.inputs.invariant.made old to past made)
