use Rattle.std.proofs.Common.{ap, sym, ◌∙◌, subst}
use Rattle.contents_table.specs.Built.{place_in, AreInOrder}
use Rattle.contents_table.proofs.ChannelLemmas.{position-listed, position-unlisted, found-ordered}
use Rattle.contents_table.proofs.kind_view.found_of.Goals as goal

pub returns-in-Some-clause-places : goal.returns-in-Some-clause-places
returns-in-Some-clause-places c = λ frame.
    let e = c.as_slice.ensures in
    ap (place_in frame) e
    ∙ sym (position-listed c.args.built.now c.args.name.now c.in-Some.j c.listed.result.now frame
    (sym c.number.ensures ∙ c.in-Some.is) c.listed.ensures)

pub returns-in-Some-clause-ordered : goal.returns-in-Some-clause-ordered
returns-in-Some-clause-ordered c = λ frames are.
    subst (AreInOrder frames) (sym c.as_slice.ensures)
    (found-ordered frames c.args.built.now c.in-Some.j c.listed.result.now are c.listed.ensures)

pub returns-in-None-clause-places : goal.returns-in-None-clause-places
returns-in-None-clause-places c = λ frame.
    sym (position-unlisted c.args.built.now c.args.name.now frame (sym c.number.ensures ∙ c.in-None.is))
