-- Files that hold the same have one scan.
use Rattle.std.proofs.Common.{◌≡◌, ℕ, List, Option, Some, sym, ap, ◌∙◌, subst}
use Rattle.std.specs.List.{AllZip}
use Rattle.contents_table.specs.declared.kind.Kind.{Kind}
use Rattle.canonical_file.specs.Ranges.{AreBytes}
use Rattle.canonical_file.specs.Ordered.{SameFrame}
use Rattle.canonical_file.specs.Contents.{Content, SameContent}
use Rattle.canonical_file.proofs.OneOrder.{same_lists}
use Rattle.canonical_laws.specs.Content.{HasContent}
use Rattle.canonical_laws.proofs.KeptContents.{kept_contents}
use Rattle.frame_reader.specs.Gives.{Closes}
use Rattle.frame_reader.proofs.FirstItems.{given-same}
use Rattle.channel_extract.specs.Cuts.{extraction}
use Rattle.channel_extract.specs.Due.{Due}
use Rattle.channel_extract.specs.Scans.{IsDueOf, IsDueOfHeld}
use Rattle.channel_extract.specs.Laws.{ScansTellContents, ScansOfCopiesAreScans}
use Rattle.channel_extract.proofs.EqualCuts.{equal-cuts}
use Rattle.channel_extract.proofs.GivenCuts.{given-sound}
use Rattle.channel_extract.proofs.DueScans.{one-of-same}

-- what is due of a file that is held is due of just that file
of-held : (held : Option (List ℕ)) (file : List ℕ) (kind : Kind) (name : List ℕ) (due : Due) → held ≡ Some file
    → IsDueOfHeld held kind name due → IsDueOf file kind name due
of-held held file kind name due is of = subst (λ h. IsDueOfHeld h kind name due) is of

same-of : (kind : Kind) (name file text : List ℕ) (c d : Content) (first second : Due) → AreBytes file → AreBytes text
    → HasContent file c → HasContent text d → SameContent c d → IsDueOf file kind name first
    → IsDueOf text kind name second → first ≡ second
same-of kind name file text c d first second these those has have same left right =
    one-of-same kind name file text first second left right
    (same_lists (extraction kind name left.frames) (extraction kind name right.frames) left.ordered right.ordered cuts
    left.in_order right.in_order)
    (sym own.1 ∙ ap (λ closing. Closes closing) same.closing ∙ other.1)
  where
    own : (c.frames ≡ left.frames) × (Closes c.closing ≡ left.ending)
    own = given-same file c.frames left.frames (Closes c.closing) left.ending has left.gives

    other : (d.frames ≡ right.frames) × (Closes d.closing ≡ right.ending)
    other = given-same text d.frames right.frames (Closes d.closing) right.ending have right.gives

    alike : AllZip SameFrame left.frames right.frames
    alike = subst (λ fs. AllZip SameFrame fs right.frames) own.0
        (subst (AllZip SameFrame c.frames) other.0 same.frames)

    cuts : AllZip SameFrame (extraction kind name left.frames) (extraction kind name right.frames)
    cuts = equal-cuts kind name left.frames right.frames (given-sound file left.frames left.ending these left.gives)
        (given-sound text right.frames right.ending those right.gives) alike

pub scans-tell : ScansTellContents
scans-tell files others from other kind name file text c d first second held other_held has have same left right =
    same-of kind name file text c d first second (left.bytes from file held) (right.bytes other text other_held) has
    have same (of-held (files from) file kind name first held left.of)
    (of-held (others other) text kind name second other_held right.of)

pub scans-of-copies : ScansOfCopiesAreScans
scans-of-copies files others from other kind name file copy c first second held other_held has canonical short left
    right =
    let kept = kept_contents file copy c (left.bytes from file held) has canonical short in
    scans-tell files others from other kind name file copy c kept.0 first second held other_held has kept.1 kept.2 left
    right
