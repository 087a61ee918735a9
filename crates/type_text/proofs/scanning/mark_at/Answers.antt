use Rattle.std.proofs.Common.{◌<◌, length, refl, arith}
use Rattle.std.proofs.lemmas.List.{take_rest}
use Rattle.std.proofs.lemmas.Bool.Decides.{nat_tests}
use Rattle.type_text.proofs.TokenLemmas.{after_mark-same}
use Rattle.type_text.proofs.scanning.mark_at.Goals as goal

pub returns : goal.returns
returns c =
    let text = c.skip_blanks-text in
    let long : 0 < length text.result.now = grind (arith, nat_tests) in
    rw (
      take_rest text.result.now 1,
      ← text.ensures.same,
      after_mark-same c.args.mark text.result.now c.requires long c.if-text-mark.false,
    ) refl
