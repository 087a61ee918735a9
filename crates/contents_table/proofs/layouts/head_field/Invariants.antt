use Rattle.std.proofs.Common.{◌≡◌, drop}
use Rattle.std.specs.List.{position_from}
use Rattle.file_grammar.specs.Closing.{is_single}
use Rattle.contents_table.specs.Channels.{is_link_to}
use Rattle.contents_table.proofs.layouts.head_field.Given as goal

abbrev pub invariant-loop-i : goal.invariant-loop-i
invariant-loop-i l =
    position_from (is_single (is_link_to l.name)) l.i (drop l.i l.elements)
    ≡ position_from (is_single (is_link_to l.name)) 0 l.elements
