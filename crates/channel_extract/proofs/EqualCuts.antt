-- Equal frames have the channel of a name alike, and equal cuts at it.
use Rattle.std.proofs.Common.{◌≡◌, ℕ, Option, Some, None, List, [], ◌∷◌, sym, ap, ◌∙◌, subst}
use Rattle.std.specs.List.{AllZip}
use Rattle.std.specs.Option.{option_map, option_map_or}
use Rattle.std.proofs.lemmas.List.Elements.{All-head, All-tail}
use Rattle.std.proofs.lemmas.Option.{same_Some}
use Rattle.rooted_graph.specs.BreadthOrder.{number_of, IsBreadthOrder}
use Rattle.rooted_graph.proofs.Queues.{order_exists}
use Rattle.rooted_graph.proofs.Places.{number_has}
use Rattle.rooted_graph.proofs.Ends.{same_sym, same_trans}
use Rattle.frame_content.specs.Frames.{Frame}
use Rattle.contents_table.specs.declared.kind.Kind.{Kind}
use Rattle.canonical_file.specs.Ordered.{frame_graph, SameFrame, ordered}
use Rattle.canonical_file.specs.Renumbered.{number_in}
use Rattle.canonical_file.proofs.OneOrder.{same_ordered}
use Rattle.canonical_file.proofs.RenumberedLinks.{AreIn}
use Rattle.canonical_file.proofs.RenumberedWalk.{number-in}
use Rattle.contents_table.specs.Channels.{channel_named}
use Rattle.channel_extract.specs.Cuts.{cut, cut_before, extraction}
use Rattle.channel_extract.specs.CutLaws.{IsSoundFrame, EqualFramesHaveEqualCuts}
use Rattle.channel_extract.proofs.CutFrames.{same-cut, channel-in_order, channel-in}

module _ (f g : Frame) (kind : Kind) (name : List ℕ) (left : IsSoundFrame f) (right : IsSoundFrame g)
    (s t : List ℕ) (o : IsBreadthOrder (frame_graph f).graph s) (p : IsBreadthOrder (frame_graph g).graph t)
    (same : ordered f s ≡ ordered g t) where
  -- the channels have one number in the order
  alike : option_map (number_in s) (channel_named f kind name) ≡ option_map (number_in t) (channel_named g kind name)
  alike =
      sym (channel-in_order f s o left kind name) ∙ ap (λ x. channel_named x kind name) same
      ∙ channel-in_order g t p right kind name

  -- so the cuts are equal to one cut
  cuts : (n m i j : ℕ) → number_of s n ≡ Some i → number_of t m ≡ Some j
      → Some (number_in s n) ≡ Some (number_in t m) → SameFrame (cut f kind n) (cut g kind m)
  cuts n m i j first second e =
      let number : i ≡ j =
      sym (number-in s n i first) ∙ same_Some (number_in s n) (number_in t m) e ∙ number-in t m j second in
      same_trans (frame_graph (cut f kind n)) (frame_graph (cut (ordered f s) kind i)) (frame_graph (cut g kind m))
      (same-cut f s o left kind n i first)
      (subst (λ x. SameFrame x (cut g kind m)) (λ k. cut (sym same k) kind (sym number k))
      (same_sym (frame_graph (cut g kind m)) (frame_graph (cut (ordered g t) kind j))
      (same-cut g t p right kind m j second)))

  one-cut : (fs gs : List Frame) → AllZip SameFrame fs gs
      → AllZip SameFrame (option_map_or (cut_before f kind fs) (channel_named f kind name) fs)
      (option_map_or (cut_before g kind gs) (channel_named g kind name) gs)
  one-cut fs gs z =
      by (channel_named f kind name) (channel_named g kind name) alike (channel-in f s o left kind name)
      (channel-in g t p right kind name)
    where
      by : (a b : Option ℕ) → option_map (number_in s) a ≡ option_map (number_in t) b → AreIn s a → AreIn t b
          → AllZip SameFrame (option_map_or (cut_before f kind fs) a fs) (option_map_or (cut_before g kind gs) b gs)
      by None None e first second = z
      by None (Some m) e first second = absurd cc
      by (Some n) None e first second = absurd cc
      by (Some n) (Some m) e first second =
          let i = number_has s n first in
          let j = number_has t m second in
          (cuts n m i.0 j.0 i.1 j.1 e, z)

pub equal-cuts : EqualFramesHaveEqualCuts
equal-cuts kind name [] [] left right z = tt
equal-cuts kind name [] (g ∷ gs) left right z = absurd z
equal-cuts kind name (f ∷ fs) [] left right z = absurd z
equal-cuts kind name (f ∷ fs) (g ∷ gs) left right z =
    let s = order_exists (frame_graph f).graph in
    let t = order_exists (frame_graph g).graph in
    one-cut f g kind name (All-head IsSoundFrame f fs left) (All-head IsSoundFrame g gs right) s.0 t.0 s.1 t.1
    (same_ordered f g s.0 t.0 s.1 t.1 z.0) (extraction kind name fs) (extraction kind name gs)
    (equal-cuts kind name fs gs (All-tail IsSoundFrame f fs left) (All-tail IsSoundFrame g gs right) z.1)
