use Rattle.std.proofs.Common.{◌≡◌, ◌*◌, ◌-◌, ◌^◌, min, Some, sym, ap, ◌∙◌, arith}
use Rattle.layout_plan.proofs.SpelledLemmas.{capped-product}
use Rattle.layout_plan.proofs.FixedLemmas.{short_list-long, short_list-short}
use Rattle.layout_plan.proofs.marks.short_list.Goals as goal

pub returns-then-length-gt-SHORT_LIST : goal.returns-then-length-gt-SHORT_LIST
returns-then-length-gt-SHORT_LIST c = λ n is.
    let whole : c.saturating_mul-length.result ≡ min (n * c.args.size) (2 ^ 64 - 1) = c.saturating_mul-length.ensures
    ∙ ap (λ k. min (k * c.args.size) (2 ^ 64 - 1)) is ∙ capped-product n c.args.size (2 ^ 64 - 1) in
    sym (short_list-long n c.args.size (omega (arith, whole, c.if-length-gt-SHORT_LIST.true)))

pub returns : goal.returns
returns c = λ n is.
    let whole : c.saturating_mul-length.result ≡ min (n * c.args.size) (2 ^ 64 - 1) = c.saturating_mul-length.ensures
    ∙ ap (λ k. min (k * c.args.size) (2 ^ 64 - 1)) is ∙ capped-product n c.args.size (2 ^ 64 - 1) in
    let same : c.saturating_mul-length.result ≡ n * c.args.size =
    omega (arith, whole, c.if-length-gt-SHORT_LIST.false) in
    ap Some same ∙ sym (short_list-short n c.args.size (omega (arith, whole, c.if-length-gt-SHORT_LIST.false)))
