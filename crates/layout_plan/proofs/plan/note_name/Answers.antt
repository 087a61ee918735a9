use Rattle.std.proofs.Common.{sym, ap, ◌∙◌, is_some}
use Rattle.layout_plan.specs.Layout.{named_count}
use Rattle.layout_plan.specs.Names.{held_at}
use Rattle.layout_plan.proofs.LayoutLemmas.{HoldsNames-kept, HoldsNames-put, copied-is_some, copied-None}
use Rattle.layout_plan.proofs.plan.note_name.Goals as goal

pub returns-then-is_some : goal.returns-then-is_some
returns-then-is_some c = λ earlier size.
    HoldsNames-kept c.args.names.now earlier c.args.element.now
    (sym (ap is_some (c.get.ensures.value ∙ ap (held_at c.args.names.now) c.bytes.ensures))
    ∙ copied-is_some c.get.result ∙ sym c.is_some.ensures ∙ c.if-is_some.true)

pub returns : goal.returns
returns c = λ earlier size.
    let count = c.named_count.ensures ∙ ap (λ k. named_count (k, c.args.element.now)) (sym size) in
    let absent = sym (c.get.ensures.value ∙ ap (held_at c.args.names.now) c.bytes.ensures)
    ∙ copied-None c.get.result (sym c.is_some.ensures ∙ c.if-is_some.false) in
    HoldsNames-put c.args.names.now c.insert.new.self c.in_ok-name.name earlier c.args.element.now c.named_count.result
    count (c.in_ok-name.ensures.items ∙ c.bytes-2.ensures) absent c.in_ok-insert.ensures.updates
