use Rattle.std.proofs.Common.{◌≡◌, map, take}
use Rattle.frame_content.specs.Labels.{printed_element}
use Rattle.canonical_writer.proofs.entries.printed.Given as goal

abbrev pub invariant-loop-element : goal.invariant-loop-element
invariant-loop-element l = l.elements ≡ map printed_element (take l.element-index l.entry.elements)
