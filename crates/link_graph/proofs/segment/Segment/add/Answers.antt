-- Whether the pair is held, and what is kept once the record is added.
use Rattle.std.proofs.Common.{◌≡◌, ◌++◌, ◌∷◌, [], List, ap, sym, subst, arith, rules}
use Rattle.link_graph.specs.declared.nodes.Kept.{Kept}
use Rattle.link_graph.specs.Collected.{Collected}
use Rattle.link_graph.specs.Kept.{AreKept}
use Rattle.link_graph.proofs.Bodies.{nothing-put, kept-added}
use Rattle.link_graph.proofs.Found.{held-some, some-held}
use Rattle.link_graph.proofs.segment.Segment.add.Goals as goal

pub returns-in-Err-Taken-clause-twice : goal.returns-in-Err-Taken-clause-twice
returns-in-Err-Taken-clause-twice c =
    let s = c.self.inside in (
      λ _. some-held s.region s.records c.args.self.now.nodes c.args.node
          (ap (λ (s : Collected). s.nodes) c.self.view_is)
          (c.push.ensures.taken.0 cc),
      λ _. search rules,
    )

pub returns-in-Err-NoMemory-clause-twice : goal.returns-in-Err-NoMemory-clause-twice
returns-in-Err-NoMemory-clause-twice c =
    let s = c.self.inside in (
      λ e. cc,
      λ held. let taken = c.in-Err-NoMemory.ensures.taken.1 (held-some s.region s.records
          c.args.self.now.nodes
          c.args.node (ap (λ (s : Collected). s.nodes) c.self.view_is) held) in cc,
    )

pub returns-clause-twice : goal.returns-clause-twice
returns-clause-twice c =
    let s = c.self.inside in (
      λ e. cc,
      λ held. let taken = c.push.ensures.taken.1 (held-some s.region s.records c.args.self.now.nodes
          c.args.node (ap (λ (s : Collected). s.nodes) c.self.view_is) held) in cc,
    )

pub invariant_of-self-2 : goal.invariant_of-self-2
invariant_of-self-2 c =
    let s = c.self.inside in
    let put = nothing-put s.region c.put-self-inside.new.self c.put-self-inside.result
    c.put-self-inside.ensures.after c.put-self-inside.ensures.span in
    let pushed : c.push.new.self ≡ s.records ++ record { node = c.args.node; span = s.pending } ∷ [] =
    c.in-Ok.ensures.ok in
    subst (λ (records : List Kept). AreKept c.put-self-inside.new.self records s.end
    c.put-self-inside.result) (sym pushed)
    (kept-added s.region c.put-self-inside.new.self s.records s.end s.pending c.put-self-inside.result
    c.args.node c.put-self-inside.ensures.keeps c.self.invariant
    (omega (arith, put.0, c.self.invariant.last)) c.put-self-inside.ensures.gives.live put.1)
