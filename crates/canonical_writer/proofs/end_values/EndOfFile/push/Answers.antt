use Rattle.std.proofs.Common.{sym, subst}
use Rattle.layout_plan.proofs.AppendLemmas.{Appends-none}
use Rattle.canonical_writer.specs.EndOfFile.{FitsForm}
use Rattle.canonical_writer.proofs.EndBytes.{body-none, fits-at}
use Rattle.canonical_writer.proofs.end_values.EndOfFile.push.Goals as goal

pub loop-k-init : goal.loop-k-init
loop-k-init c = Appends-none _ _ (body-none c.args.told c.args.self.now c.args.fields.now c.requires.fits)

pub push_single-requires : goal.push_single-requires
push_single-requires c =
    let f = c.index-fields-k.result in
    subst (FitsForm f.form) (sym c.number.ensures)
    (fits-at c.args.told c.args.self.now c.args.fields.now c.loop-k.k f c.requires.fits c.loop-k-test.true
    c.index-fields-k.is).wide
