use Rattle.std.proofs.Common.{◌≡◌, ◌↔◌, Some, sym, ◌∙◌}
use Rattle.std.proofs.lemmas.Result.{IfOk-weaker}
use Rattle.type_text.specs.declared.types.ElementType.{ElementType}
use Rattle.type_text.specs.TypeText.{type_of, IsTypeText}
use Rattle.type_text.proofs.SpellingLemmas.{type_of-grammar}
use Rattle.type_text.proofs.parsing.parse_type.Goals as goal

pub returns-clause-grammar : goal.returns-clause-grammar
returns-clause-grammar c =
    let text = c.args.text.now in
    IfOk-weaker c.read.result (λ found. found ≡ type_of text) (λ found. (ty : ElementType) → (found ≡ Some ty)
    ↔ IsTypeText text ty) (λ found same ty. (
      λ e. (type_of-grammar text ty).0 (sym same ∙ e),
      λ g. same
          ∙ (type_of-grammar text ty).1 g,
    )) c.read.ensures
