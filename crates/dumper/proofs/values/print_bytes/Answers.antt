-- The mark, and then piece after piece.
use Rattle.std.proofs.Common.{◌-◌, take, drop, arith}
use Rattle.std.specs.Prelude.{codes}
use Rattle.hex.specs.Hex.{encode_lower}
use Rattle.dumper.specs.Page.{pending}
use Rattle.dumper.proofs.Pages.{settled, prints-then, prints-stopped, prints-is, carried, carried-then}
use Rattle.dumper.proofs.Pages.{carries-is, handed-on, pushed}
use Rattle.dumper.proofs.HexPieces.{encode-none, piece-more, piece-left}
use Rattle.dumper.proofs.values.print_bytes.Goals as goal

pub returns-in_err-settle : goal.returns-in_err-settle
returns-in_err-settle g c =
    prints-stopped _ _ _ (pending c.settle.new.self) _ (codes "#") _ _ c.settle.result _ c.in_err-settle.was
    (handed-on _ _ c.from_residual.ensures.1)
    (settled _ _ _ _ _ _ c.extend_from_slice-composed.result _
    (pushed _ _ (codes "#") c.extend_from_slice-composed.result c.extend_from_slice-composed.ensures.items)
    c.settle.ensures.composed c.settle.ensures.refused)

pub loop-at-init : goal.loop-at-init
loop-at-init g c = record {
  within = omega arith;
  printed = carries-is _ _ _ _ _ _ encode-none
      (carried _ _ _ _ (codes "#") _ c.settle.result c.in_ok-settle.was
      (settled _ _ _ _ _ _ c.extend_from_slice-composed.result _
      (pushed _ _ (codes "#") c.extend_from_slice-composed.result c.extend_from_slice-composed.ensures.items)
      c.settle.ensures.composed c.settle.ensures.refused));
}

pub returns-in_err-settle-2 : goal.returns-in_err-settle-2
returns-in_err-settle-2 g c =
    let bytes = c.args.bytes.now in
    let at = c.loop-at.at in
    let end = c.min-end.result in
    prints-is _ _ _ _ _ _ _ (piece-left (codes "#") bytes at end (omega (arith, c.min-end.ensures)))
    (prints-then _ (g.O.Sink.output c.loop-at.out) _ _ (pending c.loop-at.page) _ _ _ _ c.loop-at.invariant.printed
    (prints-stopped _ _ _ (pending c.settle-in-loop-at.new.self) _ (encode_lower (take (end - at) (drop at bytes))) _ _
    c.settle-in-loop-at.result _ c.in_err-settle-2.was (handed-on _ _ c.from_residual-in_err-settle-2.ensures.1)
    (settled _ _ _ _ _ _ c.push_digits-composed.result _ c.push_digits-composed.ensures
    c.settle-in-loop-at.ensures.composed c.settle-in-loop-at.ensures.refused)))

pub loop-at-preserved : goal.loop-at-preserved
loop-at-preserved g c =
    let bytes = c.args.bytes.now in
    let at = c.loop-at.at in
    let end = c.min-end.result in
    record {
      within = omega (arith, c.min-end.ensures);
      printed = carries-is _ _ _ _ _ _ (piece-more (codes "#") bytes at end (omega (arith, c.min-end.ensures)))
          (carried-then _ _ _ _ _ _ _ _ c.loop-at.invariant.printed
          (carried _ _ _ _ _ _ c.settle-in-loop-at.result c.in_ok-settle-2.was
          (settled _ _ _ _ _ _ c.push_digits-composed.result _ c.push_digits-composed.ensures
          c.settle-in-loop-at.ensures.composed c.settle-in-loop-at.ensures.refused)));
    }
