-- A channel with a name is added with the place of its record.
use Rattle.std.proofs.Common.{Bor, List, ℕ, ap, sym, ◌∙◌}
use Rattle.std.specs.Option.{option_map}
use Rattle.frame_content.specs.Frames.{frame_of}
use Rattle.link_graph.proofs.Found.{ok-map}
use Rattle.contents_table.specs.Built.{places_in}
use Rattle.contents_table.proofs.AddedChannels.{record-added}
use Rattle.contents_table.proofs.builder.TableBuilder.add_record.Goals as goal

pub returns-in-Some-clause-ok : goal.returns-in-Some-clause-ok
returns-in-Some-clause-ok c = ok-map c.add_channel.result
    (λ added held are is. record-added (places_in c.args.segment.now.nodes c.args.places)
    (frame_of held c.args.segment.now) c.args.kind c.args.self.now
    c.add_channel.new.self c.args.node c.in-Some.name.now c.«of».result c.«of».ensures
    (sym (c.channel_name.ensures.name held are is)
    ∙ ap (option_map (λ (name : Bor (List ℕ)). name.now)) c.in-Some.is) added)
    c.add_channel.ensures.ok
