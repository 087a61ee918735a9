use Rattle.std.proofs.Common.{OnOk, ap, subst, ◌∙◌}
use Rattle.scalar_types.specs.declared.Order.TheVariants.{Little}
use Rattle.scalar_types.specs.declared.Width.TheVariants.{Eight}
use Rattle.record_values.specs.Spelling.{IsNumber}
use Rattle.layout_plan.specs.Appends.{Appends}
use Rattle.contents_table.specs.Built.{place_in}
use Rattle.contents_table.proofs.RowPositions.{position_in-at}
use Rattle.contents_table.proofs.spelling.push_position.Goals as goal

pub returns : goal.returns
returns c =
    let is = position_in-at c.args.names.now c.args.k c.listed.result.now c.args.frame c.place_in-place.result
    c.requires.kept.1.distinct c.listed.ensures
    (c.place_in-place.ensures ∙ ap (place_in c.args.frame) c.as_slice.ensures) in
    subst (λ n. Appends (λ bytes. OnOk c.push_number.result (IsNumber Little Eight n bytes))
    c.args.into.now.items
    c.push_number.new.into.items) is c.push_number.ensures
