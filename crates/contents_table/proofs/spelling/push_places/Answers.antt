use Rattle.std.proofs.Common.{refl, rules}
use Rattle.scalar_types.specs.declared.Order.TheVariants.{Little}
use Rattle.scalar_types.specs.declared.Width.TheVariants.{Eight}
use Rattle.record_values.specs.Spelling.{IsNumber}
use Rattle.layout_plan.proofs.AppendLemmas.{Appends-refused}
use Rattle.record_writer.proofs.Appending.{items_none, items_more, items_all}
use Rattle.contents_table.proofs.spelling.push_places.Goals as goal

pub loop-place-init : goal.loop-place-init
loop-place-init c = items_none (IsNumber Little Eight) c.args.places.now c.args.into.now.items

pub returns-in_err-push_number : goal.returns-in_err-push_number
returns-in_err-push_number c =
    Appends-refused _ _ _ _ _ _ _ c.from_residual.ensures.0 c.loop-place.invariant c.push_number.ensures

pub loop-place-preserved : goal.loop-place-preserved
loop-place-preserved c =
    items_more (IsNumber Little Eight) c.args.places.now c.loop-place.place-index 0 _ _ _ _ (search rules)
    refl
    c.loop-place.invariant c.in_ok-push_number.ensures

pub returns : goal.returns
returns c =
    items_all (IsNumber Little Eight) c.args.places.now c.loop-place.place-index _ _ (search rules)
    c.loop-place.invariant
