-- The cut of a frame with three channels at the second of them: its records, and the size of the file that is written.
use Rattle.std.proofs.Common.{◌≡◌, ℕ, Option, Some, None, List, [], ◌∷◌, codes, length, map, refl}
use Rattle.rooted_graph.specs.BreadthOrder.{first_occurrences, roots_and_targets}
use Rattle.frame_content.specs.Frames.{Row, Frame}
use Rattle.contents_table.specs.declared.kind.Kind.TheVariants.{Adc, Proc}
use Rattle.canonical_file.specs.Ordered.{frame_graph, ordered}
use Rattle.canonical_file.specs.Written.{canonical_file}
use Rattle.canonical_file.proofs.Sample.{computing, closing, channel, vector, frame_of_channels, frame}
use Rattle.contents_table.specs.Channels.{channel_named}
use Rattle.channel_extract.specs.Cuts.{cut, extraction}

-- the records that a root reaches, in their order: an order is what follows it
abbrev followed : Frame → List ℕ → List ℕ
followed f s = first_occurrences (roots_and_targets (frame_graph f).graph s)

-- the links of the records
abbrev links_of : Frame → List (List (Option ℕ))
links_of f = map (λ (r : Row). r.links) f.rows

named : channel_named frame Adc (codes "H1:B") ≡ Some 5
unfolding computing
named = refl

not_named : channel_named frame Adc (codes "H1:X") ≡ None
unfolding computing
not_named = refl

not_of_kind : extraction Proc (codes "H1:B") (frame ∷ []) ≡ []
unfolding computing
not_of_kind = refl

-- FrameH leads to FrRawData alone, and that to the second channel, whose `next` is null
cut_links : links_of (cut frame Adc 5)
    ≡ (Some 1 ∷ None ∷ None ∷ None ∷ []) ∷ (Some 5 ∷ []) ∷ (None ∷ []) ∷ (Some 4 ∷ Some 5 ∷ []) ∷ (None ∷ [])
    ∷ (Some 6 ∷ None ∷ []) ∷ (None ∷ []) ∷ (Some 8 ∷ None ∷ []) ∷ (None ∷ []) ∷ []
unfolding computing
cut_links = refl

-- so four records are reached: FrameH, FrRawData, the channel and its vector
cut_order : List ℕ
cut_order = 0 ∷ 1 ∷ 5 ∷ 6 ∷ []

is_order : followed (cut frame Adc 5) cut_order ≡ cut_order
unfolding computing cut_order
is_order = refl

written : length (canonical_file closing (ordered (cut frame Adc 5) cut_order ∷ [])) ≡ 2988
unfolding computing cut_order
written = refl

-- ---- a frame without the channel between two that have it: two cuts are written

without : Frame
unfolding computing
without =
    frame_of_channels
    (channel "H1:A" 0 (Some 4) (Some 5) ∷ vector "H1:A" (1 ∷ 2 ∷ 3 ∷ 4 ∷ []) ∷ channel "H1:C" 2 (Some 6) None
    ∷ vector "H1:C" (9 ∷ 10 ∷ 11 ∷ 12 ∷ []) ∷ [])

two_cuts : extraction Adc (codes "H1:B") (frame ∷ without ∷ frame ∷ []) ≡ cut frame Adc 5 ∷ cut frame Adc 5 ∷ []
unfolding computing without
two_cuts = refl

two_written : length (canonical_file closing (map (λ f. ordered f cut_order)
    (extraction Adc (codes "H1:B") (frame ∷ without ∷ frame ∷ [])))) ≡ 3274
unfolding computing without cut_order
two_written = refl
