use Rattle.std.proofs.Common.{◌+◌, sym, ap, ◌∙◌, drop, get_or}
use Rattle.std.proofs.lemmas.List.{at_drop_more, drop_all}
use Rattle.layout_plan.specs.declared.fields.Count.TheVariants.{Fixed}
use Rattle.layout_plan.specs.Marks.{are_numerals}
use Rattle.layout_plan.proofs.FixedLemmas.{numerals-on, numerals-off}
use Rattle.layout_plan.proofs.marks.are_numerals.Goals as goal

pub loop-count-preserved : goal.loop-count-preserved
loop-count-preserved c =
    let counts = c.args.counts.now in
    let i = c.loop-count.count-index in
    sym (numerals-on (get_or counts i (Fixed 0)) (drop (i + 1) counts)
    (sym c.is_numeral.ensures ∙ c.if-not-is_numeral.false))
    ∙ sym (at_drop_more are_numerals counts i (Fixed 0) c.loop-count-test.true)
    ∙ c.loop-count.invariant

pub returns-then-not-is_numeral : goal.returns-then-not-is_numeral
returns-then-not-is_numeral c =
    let counts = c.args.counts.now in
    let i = c.loop-count.count-index in
    sym (numerals-off (get_or counts i (Fixed 0)) (drop (i + 1) counts)
    (sym c.is_numeral.ensures ∙ c.if-not-is_numeral.true))
    ∙ sym (at_drop_more are_numerals counts i (Fixed 0) c.loop-count-test.true)
    ∙ c.loop-count.invariant

pub returns : goal.returns
returns c =
    sym (ap are_numerals (drop_all c.loop-count.count-index c.args.counts.now c.loop-count-test.false))
    ∙ c.loop-count.invariant
