use Rattle.std.proofs.Common.{◌≡◌, map, subst, arith}
use Rattle.scalar_types.specs.declared.Order.TheVariants.{Little}
use Rattle.scalar_types.specs.declared.Width.TheVariants.{Eight}
use Rattle.record_values.specs.Spelling.{IsNumber, AreItems}
use Rattle.layout_plan.specs.Appends.{Appends}
use Rattle.layout_plan.proofs.AppendLemmas.{Appends-refused}
use Rattle.contents_table.specs.Built.{position_in, numbers_below}
use Rattle.contents_table.specs.Tells.{name_of_number}
use Rattle.contents_table.proofs.Items.{map-below, map-none, list_push}
use Rattle.contents_table.proofs.spelling.push_name_positions.Goals as goal

pub loop-frame-init : goal.loop-frame-init
loop-frame-init c = map-none (IsNumber Little Eight)
    (position_in c.args.names.now (name_of_number c.args.names.now c.args.k)) c.args.into.now.items

pub returns-in_err-push_position : goal.returns-in_err-push_position
returns-in_err-push_position c =
    Appends-refused _ _ _ _ _ _ _ c.from_residual.ensures.0 c.loop-frame.invariant c.push_position.ensures

pub loop-frame-preserved : goal.loop-frame-preserved
loop-frame-preserved c =
    let f = position_in c.args.names.now (name_of_number c.args.names.now c.args.k) in
    list_push (IsNumber Little Eight) (map f (numbers_below c.loop-frame.frame)) (f c.loop-frame.frame) _ _ _
    _
    (map-below f c.loop-frame.frame) c.loop-frame.invariant c.in_ok-push_position.ensures

pub returns : goal.returns
returns c =
    let all : c.loop-frame.frame ≡ c.args.frames = omega arith in
    subst (λ n. Appends
    (AreItems (IsNumber Little Eight)
    (map (position_in c.args.names.now (name_of_number c.args.names.now c.args.k)) (numbers_below n)))
    c.args.into.now.items c.loop-frame.into.items) all c.loop-frame.invariant
