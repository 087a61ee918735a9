-- Contents that are the same have one canonical file.
use Rattle.std.proofs.Common.{◌≡◌, ℕ, List, sym, ap, ◌∙◌}
use Rattle.std.specs.List.{AllZip}
use Rattle.frame_content.specs.Frames.{Frame}
use Rattle.canonical_file.specs.Ordered.{SameFrame}
use Rattle.canonical_file.specs.Written.{canonical_head, canonical_file}
use Rattle.canonical_file.specs.Contents.{Content, SameContent, IsCanonicalHead, IsCanonical}
use Rattle.canonical_file.proofs.OneOrder.{same_lists}

pub one_head : (frames others : List Frame) (bytes rest : List ℕ) → AllZip SameFrame frames others
    → IsCanonicalHead frames bytes → IsCanonicalHead others rest → bytes ≡ rest
one_head frames others bytes rest same left right =
    left.is
    ∙ ap canonical_head (same_lists frames others left.ordered right.ordered same left.in_order right.in_order)
    ∙ sym right.is

pub one_file : (c d : Content) (bytes others : List ℕ) → SameContent c d → IsCanonical c bytes → IsCanonical d others
    → bytes ≡ others
one_file c d bytes others same left right =
    left.is
    ∙ (λ i. canonical_file (same.closing i)
    (same_lists c.frames d.frames left.ordered right.ordered same.frames left.in_order right.in_order i))
    ∙ sym right.is
