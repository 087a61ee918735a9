use Rattle.std.proofs.Common.{◌≡◌, [], length, set, suc, ◌-◌, List, ℕ, nat_eq, arith, ap, sym, ◌∙◌, subst}
use Rattle.indexmap.specs.IndexMap.{insert_entry}
use Rattle.layout_plan.specs.declared.fields.Field.{Field}
use Rattle.layout_plan.specs.Plans.{place_in, ArePlaces}
use Rattle.layout_plan.proofs.PlanLemmas.{place-some, place-kept, places-kept}
use Rattle.layout_plan.proofs.plans.Plans.keep.Goals as goal

pub index_mut-requires : goal.index_mut-requires
index_mut-requires c =
    let here : place_in c.args.self.now c.args.class ≡ suc (c.place-place.result - 1) =
    omega (arith, c.place-place.ensures, c.if-place-gt0.true) in
    let found = place-some c.args.self.now c.args.class (c.place-place.result - 1) (0, []) here in
    omega (arith, found.0, ap length c.self.view_is)

pub invariant_of-self : goal.invariant_of-self
invariant_of-self c =
    let plans = c.self.inside.learnt.items in
    let n = c.place-place.result - 1 in
    let here : place_in plans c.args.class ≡ suc n =
    omega (arith, c.place-place.ensures, c.if-place-gt0.true, ap (λ ps. place_in ps c.args.class) c.self.view_is) in
    subst (λ ps. ArePlaces ps c.self.inside.places.items)
    (place-kept plans c.args.class n c.args.plan c.index_mut.result.now here
    ∙ ap (λ (e : ℕ × List Field). set plans n (e.0, c.args.plan)) (sym c.index_mut.ensures.value))
    (places-kept plans c.args.class n c.args.plan c.self.inside.places.items here c.self.invariant)

pub returns-then-place-gt0-clause-ok : goal.returns-then-place-gt0-clause-ok
returns-then-place-gt0-clause-ok c =
    let plans = c.self.inside.learnt.items in
    let n = c.place-place.result - 1 in
    let here : place_in plans c.args.class ≡ suc n =
    omega (arith, c.place-place.ensures, c.if-place-gt0.true, ap (λ ps. place_in ps c.args.class) c.self.view_is) in
    ap (λ (e : ℕ × List Field). set plans n (e.0, c.args.plan)) c.index_mut.ensures.value
    ∙ sym (place-kept plans c.args.class n c.args.plan c.index_mut.result.now here)
    ∙ ap (λ ps. insert_entry nat_eq ps c.args.class c.args.plan) c.self.view_is
