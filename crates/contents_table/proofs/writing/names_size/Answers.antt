use Rattle.std.proofs.Common.{◌≡◌, [], map, take, length, sum_by, refl, ap, arith}
use Rattle.std.proofs.lemmas.List.{length-map, take_all}
use Rattle.std.proofs.lemmas.List.Sums.{sum_by_more, sum_by_more_le}
use Rattle.std.proofs.lemmas.Option.{slice_get_within}
use Rattle.layout_plan.specs.Body.{text_length}
use Rattle.contents_table.specs.Built.{name_in}
use Rattle.contents_table.proofs.RowPositions.{name_of_number-at}
use Rattle.contents_table.proofs.writing.names_size.Goals as goal

pub loop-k-init : goal.loop-k-init
loop-k-init c = record { so_far = refl; small = omega arith }

pub overflow_add-size-in-loop-k : goal.overflow_add-size-in-loop-k
overflow_add-size-in-loop-k c = omega (arith, c.loop-k.invariant.small, c.bytes.type_inv.1)

pub returns-then-size-gt-RECORD_LIMIT : goal.returns-then-size-gt-RECORD_LIMIT
returns-then-size-gt-RECORD_LIMIT c =
    let names = map name_in c.args.names.now in
    let within = slice_get_within c.args.names.now c.loop-k.k c.listed.result.now c.listed.ensures in
    let more = sum_by_more_le text_length names c.loop-k.k []
    (omega (arith, length-map c.args.names.now name_in, within)) in
    let name = ap text_length (name_of_number-at c.args.names.now c.loop-k.k c.listed.result.now
    c.listed.ensures) in
    omega (arith, more, name, ap length c.bytes.ensures, c.loop-k.invariant.so_far)

pub loop-k-preserved : goal.loop-k-preserved
loop-k-preserved c =
    let names = map name_in c.args.names.now in
    let within = slice_get_within c.args.names.now c.loop-k.k c.listed.result.now c.listed.ensures in
    let more = sum_by_more text_length names c.loop-k.k []
    (omega (arith, length-map c.args.names.now name_in, within)) in
    let name = ap text_length (name_of_number-at c.args.names.now c.loop-k.k c.listed.result.now
    c.listed.ensures) in
    record {
      so_far = omega (arith, more, name, ap length c.bytes.ensures, c.loop-k.invariant.so_far);
      small = omega (arith, c.if-size-gt-RECORD_LIMIT.false);
    }

pub returns : goal.returns
returns c =
    let names = map name_in c.args.names.now in
    let all : take c.loop-k.k names ≡ names =
    take_all c.loop-k.k names (omega (arith, length-map c.args.names.now name_in, c.len-k-end.ensures)) in
    omega (arith, ap (sum_by text_length) all, c.loop-k.invariant.so_far, c.loop-k.invariant.small)
