-- The lines of the names so far are there.
use Rattle.std.proofs.Common.{◌≡◌, ◌++◌, take}
use Rattle.std.specs.List.{flat_map}
use Rattle.std.specs.String.{string_bytes}
use Rattle.contents_table.specs.Built.{listed_of}
use Rattle.frame_tool.specs.Listing.{name_line}
use Rattle.frame_tool.proofs.listing.push_kind.Given as goal

abbrev pub invariant-loop-k : goal.invariant-loop-k
invariant-loop-k l =
    string_bytes l.text ≡ string_bytes l.initial.text
    ++ flat_map (name_line l.kind) (take l.k (listed_of l.channels l.kind))
