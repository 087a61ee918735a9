use Rattle.std.proofs.Common.{sym, subst}
use Rattle.layout_plan.specs.Body.{IsMeasured}
use Rattle.item_reader.specs.State.{here_in}
use Rattle.item_reader.proofs.BodyHere.{body-stands, size-stands}
use Rattle.item_reader.proofs.Parts.{measured-read}
use Rattle.item_reader.proofs.state.State.read_by.Goals as goal

pub returns-in-Ok-clause-ok : goal.returns-in-Ok-clause-ok
returns-in-Ok-clause-ok c =
    λ file stands plan.
    let s = c.args.self.now in
    let h = here_in s file in
    let p = c.args.structure in
    let body = c.args.body.now in
    let m = c.in-Ok.measured in
    let measured : IsMeasured s.segment.order c.args.plan.now body m.links m.zero_texts =
    subst (λ order. IsMeasured order c.args.plan.now body m.links m.zero_texts) c.order.ensures
    c.in-Ok.ensures.measured in
    measured-read h c.args.plan.now m.links m.zero_texts (size-stands h p body stands c.requires.size) plan
    (subst (λ body. IsMeasured s.segment.order c.args.plan.now body m.links m.zero_texts)
    (sym (body-stands h p body stands)) measured)
