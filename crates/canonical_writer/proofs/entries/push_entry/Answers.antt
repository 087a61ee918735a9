use Rattle.std.proofs.Common.{◌<◌, ◌≤◌, length, subst, ap, ◌∙◌, get_or}
use Rattle.layout_plan.proofs.AppendLemmas.{Appends-more, Appends-as}
use Rattle.canonical_writer.proofs.EntryBytes.{entry-more, entry-all}
use Rattle.canonical_writer.proofs.entries.push_entry.Goals as goal

pub loop-k-preserved : goal.loop-k-preserved
loop-k-preserved c =
    let k = c.loop-k.k in
    let same = c.as_slice-element-items.ensures in
    Appends-more _ _ _ _ c.loop-k.into.items _ c.loop-k.invariant c.in_ok-push_element.ensures
    (λ xs ys before here. entry-more c.args.number c.args.entry.now k c.element-item.result xs ys
    (subst (λ es. k < length es) same c.loop-k-test.true)
    (c.element-item.is ∙ ap (λ es. get_or es k c.element-item.result) same) before here)

pub returns : goal.returns
returns c =
    Appends-as _ _ _ _ c.loop-k.invariant
    (λ xs before short. entry-all c.args.number c.args.entry.now c.loop-k.k xs
    (subst (λ es. length es ≤ c.loop-k.k) c.as_slice-element-items.ensures c.loop-k-test.false) before short)
