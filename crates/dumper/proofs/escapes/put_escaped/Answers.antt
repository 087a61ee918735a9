-- A run and the byte after it are printed; at the end a run is all that is left.
use Rattle.std.proofs.Common.{◌+◌, ◌<◌, ◌++◌, length, get_or, ap, ◌∙◌, arith}
use Rattle.std.proofs.lemmas.List.{take_rest}
use Rattle.dumper.specs.Printed.{escaped_byte, escaped}
use Rattle.dumper.proofs.PlainRuns.{run-more}
use Rattle.dumper.proofs.escapes.put_escaped.Goals as goal

pub loop-text-preserved : goal.loop-text-preserved
loop-text-preserved c =
    let rest = c.loop-text.rest.now in
    let p = c.plain_length-plain.result in
    let lt : p < length rest = omega (arith, c.plain_length-plain.ensures.within) in
    ap (λ left. c.put_by_digits.new.text.items ++ escaped left) (take_rest rest (p + 1))
    ∙ run-more c.loop-text.text.items c.put_by_digits.new.text.items rest p lt c.plain_length-plain.ensures.plain
    (c.in_ok-put_by_digits.ensures
    ∙ ap (λ text. text ++ escaped_byte (get_or rest p 0)) c.in_ok-extend_from_slice.ensures.items)
    ∙ c.loop-text.invariant
