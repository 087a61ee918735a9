-- Whether each byte is a digit.
use Rattle.std.proofs.Common.{◌≡◌, ◌∙◌, ℕ, List, [], ◌∷◌, refl, ap, ◌&&◌, rules, tests}
use Rattle.std.proofs.lemmas.Iterator.{YieldsList-from_slice}
use Rattle.std.proofs.lemmas.Iterator.Search.{all_from_yields_List}
use Rattle.std.specs.Char.{is_ascii_digit}
use Rattle.std.specs.List.{list_all}
use Rattle.std.specs.Str.{all_ascii_digits}
use Rattle.frame_tool.proofs.command.are_digits.Goals as goal

list_all-digits : (bytes : List ℕ) → list_all is_ascii_digit bytes ≡ all_ascii_digits bytes
list_all-digits [] = refl
list_all-digits (byte ∷ bytes) = ap (λ b. is_ascii_digit byte && b) (list_all-digits bytes)

pub returns : goal.returns
returns c =
    let word = c.args.word.now in
    all_from_yields_List is_ascii_digit _ _ c.all.result c.all.ensures.ran
    (YieldsList-from_slice word cc) (λ x b q k. search (rules, tests)) ∙ list_all-digits word
