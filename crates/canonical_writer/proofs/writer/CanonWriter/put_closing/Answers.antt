-- Where memory is out nothing of the closing part was put.
use Rattle.std.proofs.Common.{◌≡◌, [], Err, sym, subst, rules}
use Rattle.std.specs.Option.{option_map_or}
use Rattle.canonical_file.specs.Written.{closing_part}
use Rattle.canonical_writer.specs.declared.errors.WriteError.TheVariants as error
use Rattle.canonical_writer.specs.Writer.{Puts}
use Rattle.canonical_writer.proofs.WriterSteps.{stays-same, part-held}
use Rattle.canonical_writer.proofs.writer.CanonWriter.put_closing.Goals as goal

pub returns-in_err-push_closing-clause-puts : goal.returns-in_err-push_closing-clause-puts
returns-in_err-push_closing-clause-puts g c =
    let o = g.S.Shelf.outside c.args.shelf.now in
    let w = c.args.self.now in
    let bytes = option_map_or (closing_part w.written) w.closing [] in
    let refused : c.from_residual.result ≡ Err error.NoMemory = search rules in
    (bytes, subst (λ r. Puts o o w.slot bytes r) (sym refused) (stays-same o), part-held w.written w.closing)
