use Rattle.std.proofs.Common.{refl, arith}
use Rattle.std.proofs.lemmas.List.{take_rest}
use Rattle.type_text.proofs.TokenLemmas.{tokens-word}
use Rattle.type_text.proofs.scanning.word_at.Goals as goal

pub returns : goal.returns
returns c =
    let word = c.word_length-end in
    let text = c.skip_blanks-text in
    rw (
      take_rest text.result.now word.result,
      ← text.ensures.same,
      tokens-word word.result text.result.now (omega (arith, c.if-end-eq0.false)) word.ensures.within word.ensures.run
          word.ensures.longest,
    ) refl
