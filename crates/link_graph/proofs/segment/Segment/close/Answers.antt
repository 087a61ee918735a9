use Rattle.std.proofs.Common.{◌≡◌, ap, sym, ◌∙◌, subst}
use Rattle.std.specs.Prelude.{Err, IsErrAnd}
use Rattle.link_graph.specs.declared.closing.CloseFault.TheVariants.{LooseLink}
use Rattle.link_graph.proofs.segment.Segment.close.Goals as goal

pub returns-in_err-close_by-clause-loose : goal.returns-in_err-close_by-clause-loose
returns-in_err-close_by-clause-loose c = λ node link failed.
    let named : LooseLink node link ≡ c.in_err-close_by.field-0.0 =
    subst (λ r. IsErrAnd r (λ e. e ≡ c.in_err-close_by.field-0.0)) failed
    c.from_residual-in_err-close_by.ensures.1 in
    c.close_by.ensures.loose c.args.plans.now c.in_ok-read_links.ensures node link
    (c.in_err-close_by.was ∙ ap Err (sym named))
