use Rattle.std.proofs.Common.{sym, ap, ◌∙◌, arith}
use Rattle.std.specs.Str.{bytes_eq}
use Rattle.dictionary.proofs.NamedLemmas.{named-here, named-after}
use Rattle.dictionary.proofs.named.first_named.Goals as goal

pub returns-then-eq : goal.returns-then-eq
returns-then-eq c =
    let e = c.index-elements-i.result in
    let same = ap (bytes_eq c.args.name.now) (sym c.bytes.ensures) ∙ sym c.if-eq.ensures in
    sym (named-here c.args.elements.now c.args.name.now c.loop-i.i e (omega arith) c.index-elements-i.is same)
    ∙ c.loop-i.invariant

pub loop-i-preserved : goal.loop-i-preserved
loop-i-preserved c =
    let e = c.index-elements-i.result in
    let other = ap (bytes_eq c.args.name.now) (sym c.bytes.ensures) ∙ sym c.if-eq.ensures in
    sym (named-after c.args.elements.now c.args.name.now c.loop-i.i e (omega arith) c.index-elements-i.is other)
    ∙ c.loop-i.invariant
