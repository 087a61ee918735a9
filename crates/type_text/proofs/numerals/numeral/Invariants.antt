use Rattle.std.proofs.Common.{◌≡◌, ◌<◌, drop}
use Rattle.type_text.specs.TypeText.{numeral_of}
use Rattle.type_text.proofs.NumeralLemmas.{numeral_from}
use Rattle.type_text.proofs.numerals.numeral.Given as goal

abbrev pub invariant-loop-digit : goal.invariant-loop-digit
invariant-loop-digit l = record {
  same : numeral_from l.number (drop l.digit-index l.word) ≡ numeral_of l.word;
  fits : l.number < 4294967296;
}
