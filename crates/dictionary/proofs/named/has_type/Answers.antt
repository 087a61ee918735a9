use Rattle.std.proofs.Common.{◌≡◌, rules, sym, ◌∙◌}
use Rattle.dictionary.proofs.NamedLemmas.{HasType-parts}
use Rattle.dictionary.proofs.named.has_type.Goals as goal

pub returns-then-eq : goal.returns-then-eq
returns-then-eq c =
    let same : c.in-Some.ty.base ≡ c.args.base.now = search rules in
    let parts = HasType-parts c.args.element.now c.in-Some.ty c.args.base.now c.args.dims.now c.in-Some.is same in (
      λ t. parts.0 (sym c.as_slice.ensures ∙ c.are_named.ensures.0 t),
      λ h. c.are_named.ensures.1 (c.as_slice.ensures ∙ parts.1 h),
    )
