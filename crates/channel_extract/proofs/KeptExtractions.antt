-- The content of what a scan writes is the extraction, where no cut has static data.
use Rattle.std.proofs.Common.{◌≡◌, List, [], ◌∷◌, refl, sym, ap, ◌∙◌, subst}
use Rattle.std.specs.List.{AllZip}
use Rattle.std.proofs.lemmas.List.Elements.{recursion_from_All}
use Rattle.std.proofs.lemmas.Option.{same_Some}
use Rattle.scalar_types.specs.declared.Order.TheVariants.{Little}
use Rattle.frame_content.specs.Frames.{Frame}
use Rattle.canonical_file.specs.Ordered.{SameFrame, IsInOrder}
use Rattle.canonical_file.specs.Written.{canonical_file}
use Rattle.canonical_file.specs.Contents.{Content}
use Rattle.canonical_file.proofs.SameOrder.{same_in_its_order}
use Rattle.canonical_laws.specs.Content.{content_of, HasContent}
use Rattle.canonical_laws.specs.Laws.{ReadsBack}
use Rattle.canonical_laws.proofs.TellingApart.{one_content}
use Rattle.channel_extract.specs.Cuts.{extraction}
use Rattle.channel_extract.specs.Laws.{HasNoStatData, WholeScansKeepExtractions}
use Rattle.channel_extract.proofs.GivenCuts.{AreClosed, closed-cuts}
use Rattle.channel_extract.proofs.WholeScans.{HoldsScan, holds-scan, scans-read}
use Rattle.channel_extract.proofs.RootsOfCuts.{cuts-as_read}

-- frames are equal to themselves in their orders
orders-same : (fs os : List Frame) → AllZip IsInOrder fs os → AllZip SameFrame fs os
orders-same [] [] z = tt
orders-same [] (o ∷ os) z = absurd z
orders-same (f ∷ fs) [] z = absurd z
orders-same (f ∷ fs) (o ∷ os) z = (same_in_its_order f o z.0, orders-same fs os z.1)

pub extractions-kept : WholeScansKeepExtractions
extractions-kept files from kind name c closing cuts due extract none = (
  content_of Little read.items read.last,
  record { order = Little; items = read.items; last = read.last; well_formed = read.well_formed; is = refl },
  record {
    closing = ap (λ (d : Content). d.closing) same ∙ sym (ap (λ (d : Content). d.closing) back);
    frames = subst (λ (d : Content). AllZip SameFrame (extraction kind name c.frames) d.frames) (sym back)
        (subst (λ (d : Content). AllZip SameFrame (extraction kind name d.frames) cuts) (sym same)
        (orders-same (extraction kind name found.scan.frames) cuts found.scan.in_order));
  },
)
  where
    found : HoldsScan files from kind name closing cuts
    found = holds-scan files from kind name closing cuts due

    own : Content
    own = record { closing = closing; frames = found.scan.frames }

    same : c ≡ own
    same = one_content found.file c own
        (subst (λ file. HasContent file c) (same_Some extract.file found.file (sym extract.held ∙ found.held))
        extract.content)
        found.scan.has

    all : AreClosed closing cuts
    all = closed-cuts found.file kind name closing found.scan.frames cuts (due.bytes from found.file found.held)
        found.scan.has found.scan.in_order

    read : ReadsBack (canonical_file closing cuts) closing cuts
    read = scans-read files from kind name closing cuts due

    back : content_of Little read.items read.last ≡ record { closing = closing; frames = cuts }
    back =
        read.content_is
        ∙ ap (λ frames. record { closing = closing; frames = frames })
        (cuts-as_read all.dictionary kind name found.scan.frames cuts found.scan.in_order all.cuts.are
        (recursion_from_All HasNoStatData cuts none))
