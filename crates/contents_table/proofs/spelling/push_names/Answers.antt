use Rattle.std.proofs.Common.{[], length, map, sym, ap, arith, ◌∙◌}
use Rattle.scalar_types.specs.declared.Order.TheVariants.{Little}
use Rattle.record_values.specs.Spelling.{IsClosedText}
use Rattle.layout_plan.proofs.AppendLemmas.{Appends-refused}
use Rattle.record_writer.proofs.Appending.{items_none, items_more, items_all}
use Rattle.std.proofs.lemmas.List.{length-map}
use Rattle.std.proofs.lemmas.Option.{slice_get_within}
use Rattle.contents_table.specs.Built.{IsName, name_in}
use Rattle.contents_table.proofs.RowPositions.{All-at, name_of_number-at}
use Rattle.contents_table.proofs.spelling.push_names.Goals as goal

pub loop-k-init : goal.loop-k-init
loop-k-init c = items_none (IsClosedText Little) (map name_in c.args.names.now) c.args.into.now.items

pub push_text-requires : goal.push_text-requires
push_text-requires c =
    let one = All-at (IsName c.requires.0) c.args.names.now c.loop-k.k c.listed.result.now c.requires.1.names
    c.listed.ensures in
    omega (arith, one.short, ap length c.bytes.ensures)

pub returns-in_err-push_text : goal.returns-in_err-push_text
returns-in_err-push_text c =
    Appends-refused _ _ _ _ _ _ _ c.from_residual.ensures.0 c.loop-k.invariant c.push_text.ensures

pub loop-k-preserved : goal.loop-k-preserved
loop-k-preserved c =
    items_more (IsClosedText Little) (map name_in c.args.names.now) c.loop-k.k [] c.bytes.result.now _ _ _
    (omega (
      arith,
      length-map c.args.names.now name_in,
      slice_get_within c.args.names.now c.loop-k.k
          c.listed.result.now c.listed.ensures,
    ))
    (c.bytes.ensures ∙ sym (name_of_number-at c.args.names.now c.loop-k.k c.listed.result.now
    c.listed.ensures))
    c.loop-k.invariant c.in_ok-push_text.ensures

pub returns : goal.returns
returns c =
    items_all (IsClosedText Little) (map name_in c.args.names.now) c.loop-k.k _ _
    (omega (arith, length-map c.args.names.now name_in, c.len-k-end.ensures, c.loop-k-test.false))
    c.loop-k.invariant
