use Rattle.std.proofs.Common.{ℕ, List, [], map, sym, arith}
use Rattle.std.proofs.Math.ListN.{get_or-map}
use Rattle.std.proofs.lemmas.List.{length-map}
use Rattle.scalar_types.specs.declared.Order.TheVariants.{Little}
use Rattle.scalar_types.specs.declared.Width.TheVariants.{Eight}
use Rattle.record_values.specs.Spelling.{IsNumber}
use Rattle.layout_plan.proofs.AppendLemmas.{Appends-refused}
use Rattle.record_writer.proofs.Appending.{items_none, items_more, items_all}
use Rattle.contents_table.specs.Built.{name_in, position_in}
use Rattle.contents_table.proofs.spelling.push_frame_positions.Goals as goal

pub loop-k-init : goal.loop-k-init
loop-k-init c =
    items_none (IsNumber Little Eight)
    (map (λ name. position_in c.args.names.now name c.args.frame) (map name_in c.args.names.now))
    c.args.into.now.items

pub returns-in_err-push_position : goal.returns-in_err-push_position
returns-in_err-push_position c =
    Appends-refused _ _ _ _ _ _ _ c.from_residual.ensures.0 c.loop-k.invariant c.push_position.ensures

pub loop-k-preserved : goal.loop-k-preserved
loop-k-preserved c =
    let f = λ (name : List ℕ). position_in c.args.names.now name c.args.frame in
    let names = map name_in c.args.names.now in
    items_more (IsNumber Little Eight) (map f names) c.loop-k.k (f []) _ _ _ _
    (omega (arith, length-map names f, length-map c.args.names.now name_in, c.len-k-end.ensures))
    (sym (get_or-map f names c.loop-k.k [])) c.loop-k.invariant c.in_ok-push_position.ensures

pub returns : goal.returns
returns c =
    let f = λ (name : List ℕ). position_in c.args.names.now name c.args.frame in
    let names = map name_in c.args.names.now in
    items_all (IsNumber Little Eight) (map f names) c.loop-k.k _ _
    (omega (arith, length-map names f, length-map c.args.names.now name_in, c.len-k-end.ensures))
    c.loop-k.invariant
