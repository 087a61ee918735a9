use Rattle.std.proofs.Common.{ℕ, List, sym, ◌∙◌}
use Rattle.type_text.specs.Tokens.{Token, tokens}
use Rattle.type_text.proofs.ParsingLemmas.{after_dims-bad, after_dims-more}
use Rattle.type_text.proofs.parsing.dims.Goals as goal

pub returns-in_default-2 : goal.returns-in_default-2
returns-in_default-2 c =
    let turn = c.loop-rest in
    let found : List ℕ × List Token = (c.in-Some.word.now, tokens c.in-Some.after.now) in
    sym (after_dims-bad turn.dims (tokens turn.rest.now) found (sym c.loop-rest-test.ensures) (sym c.in-Some.ensures)
    (sym c.in_ok-dim.ensures ∙ c.in_default-2.is))
    ∙ turn.invariant

pub loop-rest-preserved : goal.loop-rest-preserved
loop-rest-preserved c =
    let turn = c.loop-rest in
    let found : List ℕ × List Token = (c.in-Some.word.now, tokens c.in-Some.after.now) in
    rw c.in_ok-push.ensures.ok
    (after_dims-more turn.dims (tokens turn.rest.now) found c.in-Some-2.dim (sym c.loop-rest-test.ensures)
    (sym c.in-Some.ensures) (sym c.in_ok-dim.ensures ∙ c.in-Some-2.is) ∙ turn.invariant)
