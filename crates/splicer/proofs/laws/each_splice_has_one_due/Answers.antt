-- One splice is due, as `Dues` proves.
use Rattle.std.proofs.Common.{None, []}
use Rattle.splicer.proofs.Dues.{no-two-dues, a-due}
use Rattle.splicer.proofs.laws.each_splice_has_one_due.Goals as goal

pub returns : goal.returns
returns c = record {
  exists = λ files name names bytes.
      let due = a-due files name names None [] 0 in
      (due.0, record { bytes = bytes; from = due.1 });
  unique = λ files names first second left right. no-two-dues files names None [] 0 first second left.from right.from;
}
