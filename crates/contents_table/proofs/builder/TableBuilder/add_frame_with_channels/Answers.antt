-- First the frame, and then its channels of one kind after another.
use Rattle.std.proofs.Common.{◌≡◌, ap, ◌∙◌}
use Rattle.std.specs.Option.{option_map_or}
use Rattle.link_graph.proofs.Found.{ok-map}
use Rattle.frame_content.specs.Frames.{frame_of}
use Rattle.contents_table.specs.declared.kind.Kind.TheVariants.{Adc, Proc, Sim, Ser}
use Rattle.contents_table.specs.Built.{Built, with_frame, with_channels, place_of, places_in}
use Rattle.contents_table.specs.Channels.{header_of}
use Rattle.contents_table.proofs.AddedChannels.{place-or}
use Rattle.contents_table.proofs.builder.TableBuilder.add_frame_with_channels.Goals as goal

pub returns : goal.returns
returns c = ok-map c.add_channels-4.result
    (λ last held are.
    let f = frame_of held c.args.segment.now in
    let places = places_in c.args.segment.now.nodes c.args.places in
    let at : c.unwrap_or-at.result
    ≡ option_map_or (place_of (places_in c.args.segment.now.nodes c.args.places))
    (header_of (frame_of held c.args.segment.now)) 0 =
    c.unwrap_or-at.ensures
    ∙ place-or places (header_of f) c.header_place.result
    (c.header_place.ensures held c.args.plans.now are c.requires.bodies) in
    last held are
    ∙ ap (λ (b : Built). with_channels places f b Ser) (c.in_ok-add_channels-3.ensures.ok held are
    ∙ ap (λ (b : Built). with_channels places f b Sim) (c.in_ok-add_channels-2.ensures.ok held are
    ∙ ap (λ (b : Built). with_channels places f b Proc) (c.in_ok-add_channels.ensures.ok held are
    ∙ ap (λ (b : Built). with_channels places f b Adc) (c.in_ok-add_frame.ensures.ok
    ∙ ap (λ at. with_frame at c.args.self.now) at)))))
    c.add_channels-4.ensures.ok
