use Rattle.std.proofs.Common.{◌≡◌, true, take}
use Rattle.std.specs.List.{list_all}
use Rattle.file_grammar.specs.Closing.{is_single, is_any}
use Rattle.file_grammar.proofs.closing.are_single.Given as goal

abbrev pub invariant-loop-element : goal.invariant-loop-element
invariant-loop-element l =
    list_all (is_single is_any) (take l.element-index l.elements) ≡ true
