-- The new link hangs where the walk to it ended.
use Rattle.std.proofs.Common.{length-append, ◌≡◌, ◌<◌, ◌++◌, ◌∷◌, [], List, ℕ}
use Rattle.std.proofs.Common.{length, replicate, set, sym, subst, ap, ◌∙◌, arith, rules}
use Rattle.type_text.specs.declared.types.Link.{Link}
use Rattle.link_graph.specs.declared.index.Spot.TheVariants.{Free}
use Rattle.link_graph.specs.Index.{AreReached, digits_of, spot_of}
use Rattle.link_graph.proofs.Grown.{free-spot, reached-push, first-reached}
use Rattle.link_graph.proofs.index.Index.push.Goals as goal

pub index_mut-requires : goal.index_mut-requires
index_mut-requires c =
    let links : List Link = c.self.inside.links.items in
    let children : List ℕ = c.self.inside.children.items in
    let count : c.len-number.result ≡ length links = search rules in
    let some : 0 < length links = omega (arith, count, c.if-number-gt0.true) in
    let spot : spot_of links children c.args.link ≡ Free c.in-Free.place =
    (λ i. spot_of (sym c.as_slice.ensures.value i) (sym c.as_slice-2.ensures.value i) c.args.link)
    ∙ sym c.spot_of.ensures ∙ c.in-Free.is in
    let found = free-spot links children c.args.link c.in-Free.place (length links) 0 (digits_of c.args.link)
    c.self.invariant.size c.self.invariant.forward some (omega arith) spot in
    let extended : c.extend_from_slice.new.self.items ≡ children ++ replicate 16 0 = search rules in
    omega (
      arith,
      found.1,
      ap length extended,
      length-append children (replicate 16 0),
      c.extend_from_slice.new.self.ok.0,
    )

pub invariant_of-self-then-number-gt0 : goal.invariant_of-self-then-number-gt0
invariant_of-self-then-number-gt0 c =
    let links : List Link = c.self.inside.links.items in
    let children : List ℕ = c.self.inside.children.items in
    let count : c.len-number.result ≡ length links = search rules in
    let some : 0 < length links = omega (arith, count, c.if-number-gt0.true) in
    let spot : spot_of links children c.args.link ≡ Free c.in-Free.place =
    (λ i. spot_of (sym c.as_slice.ensures.value i) (sym c.as_slice-2.ensures.value i) c.args.link)
    ∙ sym c.spot_of.ensures ∙ c.in-Free.is in
    let pushed : c.push.new.self.items ≡ links ++ c.args.link ∷ [] = search rules in
    let extended : c.extend_from_slice.new.self.items ≡ children ++ replicate 16 0 = search rules in
    let reached : AreReached (links ++ c.args.link ∷ [])
    (set (children ++ replicate 16 0) c.in-Free.place (length links)) =
    reached-push links children c.args.link c.in-Free.place c.self.invariant some (search rules) spot in
    subst (λ (ls : List Link). AreReached ls (set c.extend_from_slice.new.self.items c.in-Free.place
    c.len-number.result)) (sym pushed)
    (subst (λ (cs : List ℕ). AreReached (links ++ c.args.link ∷ []) (set cs c.in-Free.place
    c.len-number.result))
    (sym extended)
    (subst (λ (n : ℕ). AreReached (links ++ c.args.link ∷ [])
    (set (children ++ replicate 16 0) c.in-Free.place n)) (sym count) reached))

pub invariant_of-self-else-number-gt0 : goal.invariant_of-self-else-number-gt0
invariant_of-self-else-number-gt0 c =
    let links : List Link = c.self.inside.links.items in
    let children : List ℕ = c.self.inside.children.items in
    let count : c.len-number.result ≡ length links = search rules in
    let pushed : c.push.new.self.items ≡ links ++ c.args.link ∷ [] = search rules in
    let extended : c.extend_from_slice.new.self.items ≡ children ++ replicate 16 0 = search rules in
    subst (λ (ls : List Link). AreReached ls c.extend_from_slice.new.self.items) (sym pushed)
    (subst (λ (cs : List ℕ). AreReached (links ++ c.args.link ∷ []) cs) (sym extended)
    (first-reached links children c.args.link c.self.invariant (omega (arith, count, c.if-number-gt0.false))))
