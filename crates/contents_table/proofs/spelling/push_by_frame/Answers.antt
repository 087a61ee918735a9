use Rattle.std.proofs.Common.{◌≡◌, ◌+◌, subst, arith}
use Rattle.std.specs.List.{flat_map}
use Rattle.scalar_types.specs.declared.Order.TheVariants.{Little}
use Rattle.scalar_types.specs.declared.Width.TheVariants.{Eight}
use Rattle.record_values.specs.Spelling.{IsNumber, AreItems}
use Rattle.layout_plan.specs.Appends.{Appends}
use Rattle.layout_plan.proofs.AppendLemmas.{Appends-refused}
use Rattle.contents_table.specs.Built.{numbers_below}
use Rattle.contents_table.proofs.Items.{list_more, flat_map-below, flat_map-none}
use Rattle.contents_table.proofs.RowPositions.{positions_in_frame}
use Rattle.contents_table.proofs.spelling.push_by_frame.Goals as goal

pub loop-frame-init : goal.loop-frame-init
loop-frame-init c = flat_map-none (IsNumber Little Eight) (positions_in_frame c.args.names.now)
    c.args.into.now.items

pub returns-in_err-push_frame_positions : goal.returns-in_err-push_frame_positions
returns-in_err-push_frame_positions c =
    Appends-refused _ _ _ _ _ _ _ c.from_residual.ensures.0 c.loop-frame.invariant
    c.push_frame_positions.ensures

pub loop-frame-preserved : goal.loop-frame-preserved
loop-frame-preserved c =
    let f = positions_in_frame c.args.names.now in
    list_more (IsNumber Little Eight) (flat_map f (numbers_below c.loop-frame.frame)) _
    (flat_map f (numbers_below (c.loop-frame.frame + 1))) _ _ _ (flat_map-below f c.loop-frame.frame)
    c.loop-frame.invariant c.in_ok-push_frame_positions.ensures

pub returns : goal.returns
returns c =
    let all : c.loop-frame.frame ≡ c.args.frames = omega arith in
    subst (λ n. Appends (AreItems (IsNumber Little Eight) (flat_map (positions_in_frame c.args.names.now)
    (numbers_below n))) c.args.into.now.items c.loop-frame.into.items) all c.loop-frame.invariant
