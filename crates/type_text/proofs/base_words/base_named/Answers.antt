use Rattle.std.proofs.Common.{◌≡◌, Option, Some, None, find, rules, refl, sym, ap, ◌∙◌}
use Rattle.std.specs.Option.{option_map}
use Rattle.std.specs.Str.{bytes_eq}
use Rattle.std.proofs.lemmas.Iterator.Consumers.{YieldsList-from_shown}
use Rattle.std.proofs.lemmas.Iterator.Search.{find_from_yields_List}
use Rattle.std.specs.Array.Iter.{array_steps, array_into_iter_items}
use borrow.Author.Tests.{tests}
use Rattle.type_text.specs.TypeText.{base_of, word_of}
use Rattle.type_text.proofs.base_words.base_named.Goals as goal

same : {A : Type 0} (o : Option A) → option_map (λ x. x) o ≡ o
same None = refl
same (Some x) = refl

pub returns : goal.returns
unfolding base_of
returns c =
    let chain = YieldsList-from_shown array_steps (λ x. x) array_into_iter_items (λ s t h. h.0) (λ s x t h. h)
    c.into_iter.result in
    let found = find_from_yields_List (λ base. bytes_eq (word_of base) c.args.word.now) _ _ c.find.result
    c.find.ensures.ran chain (λ x b q k. search (rules, tests)) in
    sym (same c.find.result) ∙ found
    ∙ ap (find (λ base. bytes_eq (word_of base) c.args.word.now)) (c.into_iter.ensures.into_iter_gives.0
    ∙ c.plain_bases.ensures)
