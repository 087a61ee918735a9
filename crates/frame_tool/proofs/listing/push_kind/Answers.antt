-- One line more for each name, up to the last.
use Rattle.std.proofs.Common.{◌++◌, ap, ◌∙◌, arith}
use Rattle.std.specs.List.{flat_map}
use Rattle.std.specs.String.{string_bytes}
use Rattle.std.proofs.lemmas.List.{take_all}
use Rattle.contents_table.specs.Built.{listed_of}
use Rattle.frame_tool.specs.Listing.{name_line}
use Rattle.frame_tool.proofs.Lines.{flat_map-taken}
use Rattle.frame_tool.proofs.listing.push_kind.Goals as goal

pub loop-k-preserved : goal.loop-k-preserved
loop-k-preserved c =
    flat_map-taken (name_line c.args.kind) (listed_of c.args.channels.now c.args.kind) c.loop-k.k _ _ _
    (omega arith) c.loop-k.invariant c.in_ok-push_name.ensures

pub returns : goal.returns
returns c =
    c.loop-k.invariant
    ∙ ap (λ names. string_bytes c.args.text.now ++ flat_map (name_line c.args.kind) names)
    (take_all c.loop-k.k (listed_of c.args.channels.now c.args.kind) (omega arith))
