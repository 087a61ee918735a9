use Rattle.std.proofs.Common.{◌≡◌, ◌+◌, ◌++◌, ◌∷◌, [], length, nat_eq, set, arith, ap, sym, ◌∙◌, subst}
use Rattle.std.proofs.lemmas.List.{length-append}
use Rattle.indexmap.specs.IndexMap.{insert_entry}
use Rattle.layout_plan.specs.Plans.{place_in, ArePlaces}
use Rattle.layout_plan.proofs.PlanLemmas.{place-new, places-new}
use Rattle.layout_plan.proofs.plans.Plans.put.Goals as goal

pub invariant_of-self-2 : goal.invariant_of-self-2
invariant_of-self-2 c =
    let plans = c.self.inside.learnt.items in
    let places = c.reach.new.places.items in
    let none = ap (λ ps. place_in ps c.args.class) c.self.view_is ∙ c.requires in
    let many : length plans + 1 ≡ c.len.result =
    omega (
      arith,
      c.len.ensures,
      ap length c.in_ok-push.ensures.items,
      length-append plans ((c.args.class, c.args.plan) ∷ []),
    ) in
    let all = places-new plans c.args.class c.args.plan places none (λ i. c.reach.ensures.same i ∙ c.self.invariant i)
    c.in_ok-reach.ensures.ok in
    subst (λ ps. ArePlaces ps (set places c.args.class c.len.result)) (sym c.in_ok-push.ensures.items)
    (subst (λ n. ArePlaces (plans ++ (c.args.class, c.args.plan) ∷ []) (set places c.args.class n)) many all)

pub returns-clause-ok : goal.returns-clause-ok
returns-clause-ok c =
    let plans = c.self.inside.learnt.items in
    let none = ap (λ ps. place_in ps c.args.class) c.self.view_is ∙ c.requires in
    c.in_ok-push.ensures.items
    ∙ sym (place-new plans c.args.class c.args.plan none)
    ∙ ap (λ ps. insert_entry nat_eq ps c.args.class c.args.plan) c.self.view_is
