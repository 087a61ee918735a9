use Rattle.std.proofs.Common.{◌≡◌, [], length, get_or, suc, ◌-◌, List, ℕ, Some, arith, ap, sym, ◌∙◌}
use Rattle.layout_plan.specs.declared.fields.Field.{Field}
use Rattle.layout_plan.specs.Plans.{place_in}
use Rattle.layout_plan.proofs.PlanLemmas.{place-none, place-some}
use Rattle.layout_plan.proofs.plans.Plans.plan.Goals as goal

pub returns-then-place-eq0 : goal.returns-then-place-eq0
returns-then-place-eq0 c =
    sym (place-none c.args.self.now c.args.class (sym c.place-place.ensures ∙ c.if-place-eq0.true))

pub index-requires : goal.index-requires
index-requires c =
    let here : place_in c.args.self.now c.args.class ≡ suc (c.place-place.result - 1) =
    omega (arith, c.place-place.ensures, c.if-place-eq0.false) in
    let found = place-some c.args.self.now c.args.class (c.place-place.result - 1) (0, []) here in
    omega (arith, found.0, ap length c.self.view_is)

pub returns : goal.returns
returns c =
    let here : place_in c.args.self.now c.args.class ≡ suc (c.place-place.result - 1) =
    omega (arith, c.place-place.ensures, c.if-place-eq0.false) in
    let found = place-some c.args.self.now c.args.class (c.place-place.result - 1) c.index.result.now here in
    ap (λ (e : ℕ × List Field). Some e.1)
    (c.index.ensures
    ∙ ap (λ plans. get_or plans (c.place-place.result - 1) c.index.result.now) c.self.view_is)
    ∙ sym found.1
