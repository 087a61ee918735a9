use Rattle.std.proofs.Common.{◌<◌, ◌+◌, nat_eq, length, take, get_or, Some, sym, ap, ◌∙◌, arith}
use Rattle.std.proofs.lemmas.List.{length-take-le}
use Rattle.layout_plan.proofs.LayoutLemmas.{IsCompiled-none, IsCompiled-more, IsCompiled-stops, IsCompiled-all}
use Rattle.layout_plan.proofs.LayoutLemmas.{layout_of-IsLayout}
use Rattle.layout_plan.proofs.plan.compile.Goals as goal

pub loop-i-init : goal.loop-i-init
loop-i-init c =
    rw c.new-fields.ensures (IsCompiled-none c.args.entry.now.elements c.new-names.result c.new-names.ensures.empty)

pub returns-in_default : goal.returns-in_default
returns-in_default c =
    let size = ap length c.as_slice-elements.ensures in
    let item = c.index-elements-i.is
    ∙ ap (λ xs. get_or xs c.loop-i.i c.index-elements-i.result) c.as_slice-elements.ensures in
    let last = ap (λ n. nat_eq (c.loop-i.i + 1) n) size in
    sym (IsCompiled-stops c.args.entry.now.elements c.loop-i.i c.loop-i.fields c.loop-i.names c.index-elements-i.result
    _ c.loop-i.invariant (omega (arith, size)) item last (sym c.in_ok-field.ensures ∙ c.in_default.is))

pub loop-i-preserved : goal.loop-i-preserved
loop-i-preserved c =
    let size = ap length c.as_slice-elements.ensures in
    let lt : c.loop-i.i < length c.args.entry.now.elements = omega (arith, size) in
    let item = c.index-elements-i.is
    ∙ ap (λ xs. get_or xs c.loop-i.i c.index-elements-i.result) c.as_slice-elements.ensures in
    let last = ap (λ n. nat_eq (c.loop-i.i + 1) n) size in
    rw c.in_ok-push.ensures.ok
    (IsCompiled-more c.args.entry.now.elements c.loop-i.i c.loop-i.fields c.loop-i.names c.note_name.new.names
    c.index-elements-i.result c.in-Some.field _ c.loop-i.invariant lt item last (sym c.in_ok-field.ensures
    ∙ c.in-Some.is) (c.in_ok-note_name.ensures (take c.loop-i.i c.args.entry.now.elements)
    (length-take-le c.loop-i.i c.args.entry.now.elements (omega arith)) c.loop-i.invariant.held))

pub planned-requires : goal.planned-requires
planned-requires c =
    let size = ap length c.as_slice-elements.ensures in
    layout_of-IsLayout c.args.entry.now.elements c.loop-i.fields
    (IsCompiled-all c.args.entry.now.elements c.loop-i.i c.loop-i.fields c.loop-i.names c.loop-i.invariant
    (omega (arith, size))) c.requires

pub returns : goal.returns
returns c =
    let size = ap length c.as_slice-elements.ensures in
    ap Some c.in_ok-planned.ensures
    ∙ sym (IsCompiled-all c.args.entry.now.elements c.loop-i.i c.loop-i.fields c.loop-i.names c.loop-i.invariant
    (omega (arith, size)))
