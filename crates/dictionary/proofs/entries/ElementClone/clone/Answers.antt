use Rattle.dictionary.proofs.CloneLemmas.{type-same}
use Rattle.dictionary.proofs.entries.ElementClone.clone.Goals as goal

pub returns : goal.returns
returns c =
    let same = type-same c.args.self.now.ty c.in_ok-clone.field-0 c.in_ok-clone.ensures.cases in
    record {
      cases = λ i. record {
        name = c.in_ok-copy.ensures i;
        ty = same i;
        text = c.in_ok-copy-2.ensures i;
        comment = c.in_ok-copy-3.ensures i;
      };
    }
