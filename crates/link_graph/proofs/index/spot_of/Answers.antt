-- The link of the number where the walk stands is the one sought, or the walk goes on.
use Rattle.std.proofs.Common.{◌≡◌, ◌<◌, false, true, length, sym, subst, ◌∙◌, arith}
use Rattle.std.proofs.lemmas.Bool.{eqb-false}
use Rattle.link_graph.specs.Index.{is_at}
use Rattle.link_graph.proofs.Walks.{IsOnWay, at-place, way-begins, way-free, way-on, way-taken}
use Rattle.link_graph.proofs.index.spot_of.Goals as goal

pub loop-to-init : goal.loop-to-init
loop-to-init c =
    let some : 0 < length c.args.links.now =
    omega (arith, eqb-false (length c.args.links.now) 0 (sym c.is_empty.ensures ∙ c.if-is_empty.false)) in
    subst (λ digits. IsOnWay c.args.links.now c.args.children.now c.args.to 0 digits)
    (sym c.digits_of-digits.ensures) (way-begins c.args.links.now c.args.children.now c.args.to some)

pub returns-then-number-eq0 : goal.returns-then-number-eq0
returns-then-number-eq0 c =
    let way = c.loop-to.invariant in
    let other : is_at c.args.links.now c.loop-to.number c.args.to ≡ false =
    at-place c.args.links.now c.args.to c.loop-to.number way.within ∙ sym c.is_link.ensures
    ∙ c.loop-to-test.true in
    way-free c.args.links.now c.args.children.now c.args.to c.loop-to.number c.loop-to.digits way other
    c.if-number-eq0.true

pub loop-to-preserved : goal.loop-to-preserved
loop-to-preserved c =
    let way = c.loop-to.invariant in
    let other : is_at c.args.links.now c.loop-to.number c.args.to ≡ false =
    at-place c.args.links.now c.args.to c.loop-to.number way.within ∙ sym c.is_link.ensures
    ∙ c.loop-to-test.true in
    way-on c.args.links.now c.args.children.now c.args.to c.loop-to.number c.loop-to.digits
    c.requires.forward way other c.if-number-eq0.false

pub returns : goal.returns
returns c =
    let way = c.loop-to.invariant in
    let this : is_at c.args.links.now c.loop-to.number c.args.to ≡ true =
    at-place c.args.links.now c.args.to c.loop-to.number way.within ∙ sym c.is_link.ensures
    ∙ c.loop-to-test.false in
    way-taken c.args.links.now c.args.children.now c.args.to c.loop-to.number c.loop-to.digits way this
