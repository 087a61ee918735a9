-- A file has one content, and a content one canonical file; and that canonical files tell contents follows from that
-- they keep them.
use Rattle.std.proofs.Common.{◌≡◌, List, [], ◌∷◌, refl, sym, ◌∙◌, subst}
use Rattle.std.specs.List.{AllZip}
use Rattle.rooted_graph.proofs.Ends.{same_refl, same_sym, same_trans}
use Rattle.file_grammar.proofs.Prefixes.{items_unique}
use Rattle.frame_content.specs.Frames.{Frame}
use Rattle.canonical_file.specs.Ordered.{frame_graph, SameFrame}
use Rattle.canonical_file.specs.Contents.{Content, SameContent}
use Rattle.canonical_file.proofs.OneFile.{one_file}
use Rattle.canonical_laws.specs.Content.{content_of, HasContent}
use Rattle.canonical_laws.specs.Laws.{ContentsAreUnique, CanonicalFilesAreUnique, CanonicalFilesKeepContents}
use Rattle.canonical_laws.specs.Laws.{CanonicalFilesTellContents, CanonicalFilesStay}

-- ---- contents that are the same

frames_refl : (fs : List Frame) → AllZip SameFrame fs fs
frames_refl [] = tt
frames_refl (f ∷ fs) = (same_refl (frame_graph f), frames_refl fs)

pub content_refl : (c : Content) → SameContent c c
content_refl c = record { closing = refl; frames = frames_refl c.frames }

frames_sym : (fs gs : List Frame) → AllZip SameFrame fs gs → AllZip SameFrame gs fs
frames_sym [] [] same = tt
frames_sym [] (g ∷ gs) same = absurd same
frames_sym (f ∷ fs) [] same = absurd same
frames_sym (f ∷ fs) (g ∷ gs) same = (same_sym (frame_graph f) (frame_graph g) same.0, frames_sym fs gs same.1)

frames_trans : (fs gs hs : List Frame) → AllZip SameFrame fs gs → AllZip SameFrame gs hs → AllZip SameFrame fs hs
frames_trans [] [] [] left right = tt
frames_trans [] [] (h ∷ hs) left right = absurd right
frames_trans [] (g ∷ gs) hs left right = absurd left
frames_trans (f ∷ fs) [] hs left right = absurd left
frames_trans (f ∷ fs) (g ∷ gs) [] left right = absurd right
frames_trans (f ∷ fs) (g ∷ gs) (h ∷ hs) left right = (
  same_trans (frame_graph f) (frame_graph g) (frame_graph h) left.0 right.0,
  frames_trans fs gs hs left.1 right.1,
)

pub content_sym : (c d : Content) → SameContent c d → SameContent d c
content_sym c d same = record { closing = sym same.closing; frames = frames_sym c.frames d.frames same.frames }

pub content_trans : (c d e : Content) → SameContent c d → SameContent d e → SameContent c e
content_trans c d e left right = record {
  closing = left.closing ∙ right.closing;
  frames = frames_trans c.frames d.frames e.frames left.frames right.frames;
}

-- ---- one content, and one canonical file

pub one_content : ContentsAreUnique
one_content file c d left right =
    let same = items_unique file left.order right.order left.items right.items left.last right.last left.well_formed
    right.well_formed in
    left.is ∙ (λ i. content_of (same.0 i) (same.1 i) (same.2 i)) ∙ sym right.is

pub canonical_unique : CanonicalFilesAreUnique
canonical_unique c bytes others left right = one_file c c bytes others (content_refl c) left right

-- ---- what is kept is told

pub tells : CanonicalFilesKeepContents → CanonicalFilesTellContents
tells keeps file other bytes others c d these those has_c has_d canonical_c canonical_d short also_short =
    (there, λ same. one_file c d bytes others same canonical_c canonical_d)
  where
    there : bytes ≡ others → SameContent c d
    there same =
        let left = keeps file bytes c these has_c canonical_c short in
        let right = keeps other others d those has_d canonical_d also_short in
        let one : left.0 ≡ right.0 =
        one_content others left.0 right.0 (subst (λ b. HasContent b left.0) same left.1) right.1 in
        content_trans c left.0 d left.2 (content_sym d left.0 (subst (SameContent d) (sym one) right.2))

pub stays : CanonicalFilesKeepContents → CanonicalFilesStay
stays keeps file bytes again c d these has_c canonical_c short has_d canonical_d =
    let there = keeps file bytes c these has_c canonical_c short in
    let one : there.0 ≡ d = one_content bytes there.0 d there.1 has_d in
    sym (one_file c d bytes again (subst (SameContent c) one there.2) canonical_c canonical_d)
