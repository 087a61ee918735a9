use Rattle.std.proofs.Common.{◌≡◌, ◌+◌, [], map, take, refl, subst, arith}
use Rattle.std.specs.List.{flat_map}
use Rattle.std.proofs.lemmas.List.{length-map, take_all}
use Rattle.scalar_types.specs.declared.Order.TheVariants.{Little}
use Rattle.scalar_types.specs.declared.Width.TheVariants.{Eight}
use Rattle.record_values.specs.Spelling.{IsNumber, AreItems}
use Rattle.layout_plan.specs.Appends.{Appends}
use Rattle.layout_plan.proofs.AppendLemmas.{Appends-none, Appends-refused}
use Rattle.contents_table.specs.Built.{name_in}
use Rattle.contents_table.proofs.Items.{list_more, flat_map-more}
use Rattle.contents_table.proofs.RowPositions.{positions_of_name}
use Rattle.contents_table.proofs.spelling.push_by_name.Goals as goal

pub loop-k-init : goal.loop-k-init
loop-k-init c = Appends-none (AreItems (IsNumber Little Eight) []) c.args.into.now.items refl

pub returns-in_err-push_name_positions : goal.returns-in_err-push_name_positions
returns-in_err-push_name_positions c =
    Appends-refused _ _ _ _ _ _ _ c.from_residual.ensures.0 c.loop-k.invariant c.push_name_positions.ensures

pub loop-k-preserved : goal.loop-k-preserved
loop-k-preserved c =
    let f = positions_of_name c.args.names.now c.args.frames in
    let names = map name_in c.args.names.now in
    list_more (IsNumber Little Eight) (flat_map f (take c.loop-k.k names)) _
    (flat_map f (take (c.loop-k.k + 1) names))
    _ _ _
    (flat_map-more f names c.loop-k.k []
    (omega (arith, length-map c.args.names.now name_in, c.len-k-end.ensures)))
    c.loop-k.invariant c.in_ok-push_name_positions.ensures

pub returns : goal.returns
returns c =
    let f = positions_of_name c.args.names.now c.args.frames in
    let names = map name_in c.args.names.now in
    let all : take c.loop-k.k names ≡ names =
    take_all c.loop-k.k names (omega (arith, length-map c.args.names.now name_in, c.len-k-end.ensures)) in
    subst (λ xs. Appends (AreItems (IsNumber Little Eight) (flat_map f xs)) c.args.into.now.items
    c.loop-k.into.items)
    all c.loop-k.invariant
