-- The row that is put is that of the body's links.
use Rattle.std.proofs.Common.{◌≡◌, ℕ, List, [], ◌∷◌, ◌++◌, length, ap, sym, ◌∙◌, subst, rules}
use Rattle.std.specs.Prelude.{is_ok, is_err}
use Rattle.std.proofs.lemmas.Bool.{cond-true}
use Rattle.type_text.specs.declared.types.Link.{Link}
use Rattle.link_graph.specs.Graph.{links_by}
use Rattle.link_graph.specs.Table.{rows_from, AreEnds}
use Rattle.link_graph.proofs.Found.{on-ok, ok-unless}
use Rattle.link_graph.proofs.FirstLoose.{put-row}
use Rattle.link_graph.proofs.Tables.{rows-push, ends-grown}
use Rattle.link_graph.proofs.frame_links.FrameLinks.add.Goals as goal

put : (c : goal.Else-is_err) → c.measure_links.new.into.items ≡ c.self.inside.links.items
    ++ links_by c.args.order c.args.plan.now c.args.body.now
put c =
    let order = c.args.order in
    let fields = c.args.plan.now in
    let body = c.args.body.now in
    put-row order fields body c.self.inside.links.items c.measure_links.new.into.items
    (on-ok c.in_ok-measured.field-0 (ap is_err c.in-Ok.is) c.in_ok-measured.ensures.put)
    c.fields-fields.ensures.layout.sound (c.in_ok-measured.ensures.ok.0 (ap is_ok c.in-Ok.is))

ended : (c : goal.Else-is_err) → c.push.new.self.items ≡ c.self.inside.ends.items
    ++ length c.measure_links.new.into.items ∷ []
ended c =
    let size : c.len.result ≡ length c.measure_links.new.into.items = search rules in
    c.push.ensures.items ∙ cond-true (is_ok c.push.result) (c.self.inside.ends.items ++ c.len.result ∷ [])
    c.self.inside.ends.items (ok-unless c.push.result (sym c.is_err.ensures.value ∙ c.if-is_err.false))
    ∙ ap (λ (n : ℕ). c.self.inside.ends.items ++ n ∷ []) size

pub invariant_of-self-else-is_err : goal.invariant_of-self-else-is_err
invariant_of-self-else-is_err c =
    let links = c.self.inside.links.items in
    let ends = c.self.inside.ends.items in
    subst (λ (es : List ℕ). AreEnds 0 es (length c.measure_links.new.into.items)) (sym (ended c))
    (subst (λ (xs : List Link). AreEnds 0 (ends ++ length xs ∷ []) (length xs)) (sym (put c))
    (ends-grown ends links (links_by c.args.order c.args.plan.now c.args.body.now) c.self.invariant))

pub returns-clause-row : goal.returns-clause-row
returns-clause-row c =
    let links = c.self.inside.links.items in
    let ends = c.self.inside.ends.items in
    let row = links_by c.args.order c.args.plan.now c.args.body.now in
    (λ i. rows_from 0 (ended c i) c.measure_links.new.into.items)
    ∙ (λ i. rows_from 0 (ends ++ length (put c i) ∷ []) (put c i))
    ∙ rows-push 0 ends links row c.self.invariant
    ∙ ap (λ (rows : List (List Link)). rows ++ row ∷ []) c.self.view_is
