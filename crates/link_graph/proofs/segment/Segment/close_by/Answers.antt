-- The rows are the links by the plans.
use Rattle.std.proofs.Common.{◌≡◌, ◌∙◌, sym, subst}
use Rattle.std.specs.Prelude.{ℕ, IsSome, ◌↔◌}
use Rattle.rooted_graph.specs.BreadthOrder.{IsBreadthOrder, number_of}
use Rattle.rooted_graph.specs.Rooted.{IsReached}
use Rattle.link_graph.proofs.Found.{ok-map}
use Rattle.link_graph.proofs.Tables.{loose-by, graph-by}
use Rattle.link_graph.proofs.segment.Segment.close_by.Goals as goal

pub returns-then-is_err-clause-loose : goal.returns-then-is_err-clause-loose
returns-then-is_err-clause-loose c = λ plans are node link failed.
    sym (loose-by plans c.args.self.now c.args.links.now are) ∙ c.number-done.ensures.loose node link failed

pub returns-else-is_err-clause-linked : goal.returns-else-is_err-clause-linked
returns-else-is_err-clause-linked c = λ plans are.
    ok-map c.number-done.result (λ none. sym (loose-by plans c.args.self.now c.args.links.now are) ∙ none)
    c.number-done.ensures.linked

pub returns-else-is_err-clause-order : goal.returns-else-is_err-clause-order
returns-else-is_err-clause-order c = λ plans are.
    ok-map c.number-done.result (λ breadth. subst (λ g. IsBreadthOrder g c.number-done.new.numbering)
    (graph-by plans c.args.self.now c.args.links.now are) breadth) c.number-done.ensures.order

pub returns-else-is_err-clause-reached : goal.returns-else-is_err-clause-reached
returns-else-is_err-clause-reached c = λ plans are.
    ok-map c.number-done.result (λ reached. subst
    (λ g. (n : ℕ) → IsSome (number_of c.number-done.new.numbering n) ↔ IsReached g n)
    (graph-by plans c.args.self.now c.args.links.now are) reached) c.number-done.ensures.reached
