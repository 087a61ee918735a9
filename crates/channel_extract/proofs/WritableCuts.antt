-- The cuts of frames that can be written with other links can be written, each in its order.
use Rattle.std.proofs.Common.{ℕ, ◌≤◌, Option, Some, None, List, [], ◌∷◌, length, All, arith}
use Rattle.std.specs.List.{AllZip, AllByRecursion}
use Rattle.std.specs.Option.{option_map_or}
use Rattle.std.proofs.lemmas.List.Elements.{All-head, All-tail}
use Rattle.link_graph.specs.Table.{IsWithin}
use Rattle.dictionary.specs.declared.entries.Entry.{Entry}
use Rattle.frame_content.specs.Frames.{Frame}
use Rattle.contents_table.specs.declared.kind.Kind.{Kind}
use Rattle.canonical_file.specs.Ordered.{IsInOrder}
use Rattle.canonical_laws.specs.Writable.{IsWritableFrame}
use Rattle.canonical_laws.specs.Sources.{IsWritableInOrder}
use Rattle.canonical_laws.specs.Sources.{IsWritableRelinked}
use Rattle.contents_table.specs.Channels.{channel_named}
use Rattle.channel_extract.specs.Cuts.{cut, cut_before, extraction}
use Rattle.channel_extract.specs.CutLaws.{IsSoundFrame}
use Rattle.channel_extract.proofs.RelinkedCuts.{cut-relinked, channel-within}

-- frames that can be written are sound
pub sound-frame : (dictionary : List Entry) (f : Frame) → IsWritableInOrder dictionary f → IsSoundFrame f
sound-frame dictionary f is = record { linked = is.linked; header = is.header }

pub cuts-writable : (dictionary : List Entry) (kind : Kind) (name : List ℕ) (fs os : List Frame)
    → All IsSoundFrame fs → All (IsWritableRelinked dictionary) fs → AllZip IsInOrder (extraction kind name fs) os
    → AllByRecursion (IsWritableFrame dictionary) os
cuts-writable dictionary kind name [] [] sound relinked z = tt
cuts-writable dictionary kind name [] (o ∷ os) sound relinked z = absurd z
cuts-writable dictionary kind name (f ∷ fs) os sound relinked z =
    by (channel_named f kind name) (channel-within f kind name (All-head IsSoundFrame f fs sound))
    (λ os. cuts-writable dictionary kind name fs os (All-tail IsSoundFrame f fs sound)
    (All-tail (IsWritableRelinked dictionary) f fs relinked))
    os z
  where
    by : (found : Option ℕ) → IsWithin (length f.rows) found
        → ((os : List Frame) → AllZip IsInOrder (extraction kind name fs) os
        → AllByRecursion (IsWritableFrame dictionary) os)
        → (os : List Frame)
        → AllZip IsInOrder
        (option_map_or (cut_before f kind (extraction kind name fs)) found (extraction kind name fs)) os
        → AllByRecursion (IsWritableFrame dictionary) os
    by None within later os z = later os z
    by (Some k) within later [] z = absurd z
    by (Some k) within later (o ∷ os) z = (
      All-head (IsWritableRelinked dictionary) f fs relinked (cut f kind k) o
          (cut-relinked f kind k (All-head IsSoundFrame f fs sound) within) z.0,
      later os z.1,
    )

-- There are no more cuts than frames.
pub cuts-few : (kind : Kind) (name : List ℕ) (fs : List Frame) → length (extraction kind name fs) ≤ length fs
cuts-few kind name [] = omega arith
cuts-few kind name (f ∷ fs) = by (channel_named f kind name) (cuts-few kind name fs)
  where
    by : (found : Option ℕ) → length (extraction kind name fs) ≤ length fs
        → length (option_map_or (cut_before f kind (extraction kind name fs)) found (extraction kind name fs))
        ≤ length (f ∷ fs)
    by None few = omega (arith, few)
    by (Some k) few = omega (arith, few)
