use Rattle.std.proofs.Common.{List, ℕ, OnOk, length, sym, subst}
use Rattle.scalar_types.specs.declared.Order.{Order}
use Rattle.layout_plan.specs.Appends.{Appends}
use Rattle.layout_plan.specs.Links.{HasLinks}
use Rattle.layout_plan.specs.Written.{IsRewritten}
use Rattle.layout_plan.proofs.rewriting.push_fields.Goals as goal

pub push_pieces-requires-clause-links : goal.push_pieces-requires-clause-links
push_pieces-requires-clause-links c =
    subst (λ order. HasLinks order c.args.plan.now c.args.body.now (length c.args.links.now)) c.in-Little.is
    c.requires.links

pub returns-in-Little : goal.returns-in-Little
returns-in-Little c =
    subst (λ (order : Order). Appends (λ (bytes : List ℕ). OnOk c.push_pieces.result
    (IsRewritten order c.args.plan.now c.args.body.now c.args.links.now bytes)) c.args.into.now.items
    c.push_pieces.new.into.items) (sym c.in-Little.is)
    c.push_pieces.ensures
