use Rattle.dictionary.proofs.RedefinedLemmas.{refused-redefined, accepted-redefined}
use Rattle.dictionary.proofs.held.Dictionary.add.Goals as goal

pub returns-in-Refused-clause-redefined : goal.returns-in-Refused-clause-redefined
returns-in-Refused-clause-redefined c =
    refused-redefined c.args.self.now c.args.entry c.in-Refused.fault c.verdict.ensures.sound c.in-Refused.ensures.told

pub returns-in-Known-clause-redefined : goal.returns-in-Known-clause-redefined
returns-in-Known-clause-redefined c =
    accepted-redefined c.args.self.now c.args.self.now c.args.entry tt c.verdict.ensures.sound c.in-Known.ensures.told
