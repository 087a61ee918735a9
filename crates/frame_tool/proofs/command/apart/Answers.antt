-- Whether one of the files is the output.
use Rattle.std.proofs.Common.{None, Some, string_bytes, bytes_eq, sym, ◌∙◌, rules, tests}
use Rattle.std.proofs.lemmas.Bool.{cond-true, cond-false}
use Rattle.std.proofs.lemmas.Iterator.{YieldsList-from_slice}
use Rattle.std.proofs.lemmas.Iterator.Search.{any_from_yields_List}
use Rattle.std.specs.List.{list_any}
use Rattle.frame_tool.specs.Words.{SpliceFiles, texts}
use Rattle.frame_tool.proofs.SpliceWords.{list_any-texts}
use Rattle.frame_tool.proofs.command.apart.Goals as goal

pub returns-then-any : goal.returns-then-any
returns-then-any c =
    let to = c.args.to.now in
    let from = c.args.from.now in
    let found = any_from_yields_List (λ file. bytes_eq (string_bytes file) to) _ _ c.any.result c.any.ensures.ran
    (YieldsList-from_slice from cc) (λ x b q k. search (rules, tests)) ∙ list_any-texts to from in
    sym (cond-true (list_any (bytes_eq to) (texts from)) None (Some (SpliceFiles to (texts from)))
    (sym found ∙ c.if-any.true))

pub returns-else-any : goal.returns-else-any
returns-else-any c =
    let to = c.args.to.now in
    let from = c.args.from.now in
    let found = any_from_yields_List (λ file. bytes_eq (string_bytes file) to) _ _ c.any.result c.any.ensures.ran
    (YieldsList-from_slice from cc) (λ x b q k. search (rules, tests)) ∙ list_any-texts to from in
    sym (cond-false (list_any (bytes_eq to) (texts from)) None (Some (SpliceFiles to (texts from)))
    (sym found ∙ c.if-any.false))
