-- The canonical file of a well-formed file's content has the same content.
use Rattle.std.proofs.Common.{◌≡◌, suc, ◌≤◌, List, [], ◌∷◌, length, map, All, refl, sym, ap, subst, arith}
use Rattle.std.specs.List.{AllByRecursion, AllZip}
use Rattle.std.proofs.lemmas.List.{length-map}
use Rattle.std.proofs.lemmas.List.Elements.{All-head, All-tail}
use Rattle.scalar_types.specs.declared.Order.TheVariants.{Little}
use Rattle.dictionary.specs.declared.entries.Entry.{Entry}
use Rattle.file_grammar.specs.Structure.{file_limit}
use Rattle.file_grammar.specs.Item.{nothing_yet}
use Rattle.file_grammar.specs.MayStand.{frames_limit, IsWellFormed}
use Rattle.frame_content.specs.Frames.{Frame}
use Rattle.file_content.specs.Stored.{frames_in}
use Rattle.file_content.specs.Contents.{content_frame}
use Rattle.canonical_file.specs.Ordered.{SameFrame, IsInOrder}
use Rattle.canonical_file.specs.Written.{canonical_file}
use Rattle.canonical_file.specs.Contents.{Content}
use Rattle.canonical_file.proofs.SameOrder.{same_in_its_order}
use Rattle.canonical_laws.specs.Content.{content_of}
use Rattle.canonical_laws.specs.Writable.{IsWritableFrame, IsWritableClosing, as_read}
use Rattle.canonical_laws.specs.Laws.{ReadsBack, CanonicalFilesKeepContents}
use Rattle.canonical_laws.specs.Sources.{printed_entries, IsWritableInOrder}
use Rattle.canonical_laws.proofs.FramesCounted.{stand-counted}
use Rattle.canonical_laws.proofs.Sources.{source_entries, source_frames, source_closing}
use Rattle.canonical_laws.proofs.WholeFiles.{read_back}

-- frames that can be written, in their orders
pub orders-writable : (dictionary : List Entry) (fs os : List Frame) → All (IsWritableInOrder dictionary) fs
    → AllZip IsInOrder fs os → AllByRecursion (IsWritableFrame dictionary) os
orders-writable dictionary [] [] all orders = tt
orders-writable dictionary [] (o ∷ os) all orders = absurd orders
orders-writable dictionary (f ∷ fs) [] all orders = absurd orders
orders-writable dictionary (f ∷ fs) (o ∷ os) all orders = (
  (All-head (IsWritableInOrder dictionary) f fs all).writable o orders.0,
  orders-writable dictionary fs os (All-tail (IsWritableInOrder dictionary) f fs all) orders.1,
)

-- they read back as the same frames
orders-same : (dictionary : List Entry) (fs os : List Frame) → All (IsWritableInOrder dictionary) fs
    → AllZip IsInOrder fs os → AllZip SameFrame fs (map as_read os)
orders-same dictionary [] [] all orders = tt
orders-same dictionary [] (o ∷ os) all orders = absurd orders
orders-same dictionary (f ∷ fs) [] all orders = absurd orders
orders-same dictionary (f ∷ fs) (o ∷ os) all orders = (
  subst (SameFrame f) (sym ((All-head (IsWritableInOrder dictionary) f fs all).as_read_is o orders.0))
      (same_in_its_order f o orders.0),
  orders-same dictionary fs os (All-tail (IsWritableInOrder dictionary) f fs all) orders.1,
)

as-many : (fs os : List Frame) → AllZip IsInOrder fs os → length os ≡ length fs
as-many [] [] orders = refl
as-many [] (o ∷ os) orders = absurd orders
as-many (f ∷ fs) [] orders = absurd orders
as-many (f ∷ fs) (o ∷ os) orders = ap suc (as-many fs os orders.1)

pub kept_contents : CanonicalFilesKeepContents
kept_contents file bytes c these has canonical short = (
  content_of Little read.items read.last,
  record {
    order = Little;
    items = read.items;
    last = read.last;
    well_formed = subst (λ xs. IsWellFormed xs Little read.items read.last) (sym canonical.is) read.well_formed;
    is = refl;
  },
  record {
    closing = ap (λ (d : Content). d.closing) (sym read.content_is);
    frames = subst (λ (d : Content). AllZip SameFrame c.frames d.frames) (sym read.content_is)
        (orders-same dictionary c.frames canonical.ordered frames canonical.in_order);
  },
)
  where
    dictionary : List Entry
    dictionary = printed_entries has.last.dictionary

    frames : All (IsWritableInOrder dictionary) c.frames
    frames = subst (λ (d : Content). All (IsWritableInOrder dictionary) d.frames) (sym has.is)
        (source_frames file has.order has.items has.last these has.well_formed.begins)

    closing : IsWritableClosing dictionary c.closing
    closing = subst (λ (d : Content). IsWritableClosing dictionary d.closing) (sym has.is)
        (source_closing file has.order has.items has.last these has.well_formed)

    few : length canonical.ordered ≤ frames_limit
    few =
        let counted = stand-counted has.order file nothing_yet has.last has.items (omega arith)
        has.well_formed.begins.stand in
        let same = as-many c.frames canonical.ordered canonical.in_order in
        let all = ap (λ (d : Content). length d.frames) has.is in
        let many = length-map (frames_in has.order has.items) (content_frame has.order) in
        omega (arith, counted.told, counted.few, same, all, many)

    read : ReadsBack (canonical_file c.closing canonical.ordered) c.closing canonical.ordered
    read = read_back dictionary canonical.ordered c.closing
        (source_entries file has.order has.items has.last these has.well_formed.begins).dictionary
        (orders-writable dictionary c.frames canonical.ordered frames canonical.in_order) closing few
        (subst (λ xs. length xs ≤ file_limit) canonical.is short)
