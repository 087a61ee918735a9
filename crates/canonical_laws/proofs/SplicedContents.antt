-- The canonical file of a splice of what files of bytes hold has the splice for its content.
use Rattle.std.proofs.Common.{◌≡◌, ℕ, ◌≤◌, Some, List, [], ◌∷◌, ◌++◌, map, length, All, refl, sym, ap, ◌∙◌, subst}
use Rattle.std.proofs.Common.{append-nil}
use Rattle.std.specs.List.{AllByRecursion, AllZip}
use Rattle.std.proofs.lemmas.List.Elements.{recursion_from_All}
use Rattle.std.proofs.lemmas.List.Sums.{fold-append}
use Rattle.scalar_types.specs.declared.Order.{Order}
use Rattle.scalar_types.specs.declared.Order.TheVariants.{Little}
use Rattle.dictionary.specs.declared.entries.Entry.{Entry}
use Rattle.dictionary.specs.Dictionary.{IsDictionary}
use Rattle.file_grammar.specs.Structure.{file_limit}
use Rattle.file_grammar.specs.Item.{Item, Before}
use Rattle.file_grammar.specs.MayStand.{frames_limit, Begins}
use Rattle.file_grammar.proofs.Prefixes.{no_prefix}
use Rattle.frame_content.specs.Frames.{Frame}
use Rattle.canonical_file.specs.declared.closing.Closing.{Closing}
use Rattle.canonical_file.specs.Ranges.{AreBytes}
use Rattle.canonical_file.specs.Ordered.{IsInOrder}
use Rattle.canonical_file.specs.Records.{records_of}
use Rattle.canonical_file.specs.Written.{Written, header_alone, after_frame, after_frames, canonical_file}
use Rattle.canonical_file.specs.Contents.{Content}
use Rattle.canonical_file.specs.Splices.{NoneClashes, frame_under, as_used, frames_in, IsSplice}
use Rattle.canonical_laws.specs.Content.{content_of, HasContent}
use Rattle.canonical_laws.specs.Writable.{IsWritableClosing, as_read}
use Rattle.canonical_laws.specs.Sources.{printed_entries, IsWritableInOrder}
use Rattle.canonical_laws.specs.Laws.{ReadsBack}
use Rattle.canonical_laws.specs.Spliced.{IsWritableSomewhere, AreSpliced, AreWrittenTogether, SplicesKeepContents}
use Rattle.canonical_laws.specs.Spliced.{NoPartOfASpliceIsWhole, FramesOfFilesAreWritableSomewhere}
use Rattle.canonical_laws.specs.Spliced.{FirstFilesAreSpliced, MoreFramesAreSpliced}
use Rattle.canonical_laws.proofs.Sources.{source_entries, source_frames, source_closing}
use Rattle.canonical_laws.proofs.KeptContents.{orders-writable}
use Rattle.canonical_laws.proofs.TellingApart.{canonical_unique}
use Rattle.canonical_laws.proofs.UsedTogether.{all-append, none-append}
use Rattle.canonical_laws.proofs.FramesUnder.{AreUnder, as_read-under}
use Rattle.canonical_laws.proofs.SplicedFrames.{joined, spliced_back, together}
use Rattle.canonical_laws.proofs.SplicesInOrder.{splices_canonical}

-- ---- the frames of files

-- A frame of a file: by a dictionary of its own it can be written in its order, and reads back as it is.
record IsWritableSource (f : Frame) : Type 0 where
  dictionary : List Entry
  sound : IsDictionary dictionary
  is : IsWritableInOrder dictionary f

-- A frame in its order, of a file.
record IsOrderedSource (o : Frame) : Type 0 where
  somewhere : IsWritableSomewhere o
  as_read_is : as_read o ≡ o

each-source : (dictionary : List Entry) (fs : List Frame) → IsDictionary dictionary
    → AllByRecursion (IsWritableInOrder dictionary) fs → AllByRecursion IsWritableSource fs
each-source dictionary [] sound all = tt
each-source dictionary (f ∷ fs) sound all =
    (record { dictionary = dictionary; sound = sound; is = all.0 }, each-source dictionary fs sound all.1)

begun-sources : (file : List ℕ) (order : Order) (items : List Item) (last : Before) → AreBytes file
    → Begins file order items last → AllByRecursion IsWritableSource (content_of order items last).frames
begun-sources file order items last bytes begins =
    let dictionary : List Entry = printed_entries last.dictionary in
    let fs : List Frame = (content_of order items last).frames in
    each-source dictionary fs (source_entries file order items last bytes begins).dictionary
    (recursion_from_All (IsWritableInOrder dictionary) fs (source_frames file order items last bytes begins))

content-sources : (file : List ℕ) (c : Content) → AreBytes file → HasContent file c
    → AllByRecursion IsWritableSource c.frames
content-sources file c bytes has =
    subst (λ (c : Content). AllByRecursion IsWritableSource c.frames) (sym has.is)
    (begun-sources file has.order has.items has.last bytes has.well_formed.begins)

all-sources : (files : List (List ℕ)) (cs : List Content) → AllByRecursion AreBytes files → AllZip HasContent files cs
    → AllByRecursion IsWritableSource (frames_in cs)
all-sources [] [] bytes has = tt
all-sources [] (c ∷ cs) bytes has = absurd has
all-sources (file ∷ files) [] bytes has = absurd has
all-sources (file ∷ files) (c ∷ cs) bytes has =
    all-append IsWritableSource c.frames (frames_in cs) (content-sources file c bytes.0 has.0)
    (all-sources files cs bytes.1 has.1)

in-orders : (fs os : List Frame) → AllByRecursion IsWritableSource fs → AllZip IsInOrder fs os
    → AllByRecursion IsOrderedSource os
in-orders [] [] all orders = tt
in-orders [] (o ∷ os) all orders = absurd orders
in-orders (f ∷ fs) [] all orders = absurd orders
in-orders (f ∷ fs) (o ∷ os) all orders = (
  record {
    somewhere = record {
      dictionary = all.0.dictionary;
      sound = all.0.sound;
      writable = all.0.is.writable o orders.0;
    };
    as_read_is = all.0.is.as_read_is o orders.0;
  },
  in-orders fs os all.1 orders.1,
)

all-somewhere : (os : List Frame) → AllByRecursion IsOrderedSource os → AllByRecursion IsWritableSomewhere os
all-somewhere [] all = tt
all-somewhere (o ∷ os) all = (all.0.somewhere, all-somewhere os all.1)

-- the frames of a beginning of a file can be written, each by a dictionary of its own
pub frames_somewhere : FramesOfFilesAreWritableSomewhere
frames_somewhere file order items last ordered bytes begins orders =
    let fs : List Frame = (content_of order items last).frames in
    all-somewhere ordered (in-orders fs ordered (begun-sources file order items last bytes begins) orders)

-- the frames of a first file can be spliced with its closing
pub first_spliced : FirstFilesAreSpliced
first_spliced file c front bytes has orders =
    let last : Before = has.last in
    let dictionary : List Entry = printed_entries last.dictionary in
    let begins : Begins file has.order has.items last = has.well_formed.begins in
    let Frames : Content → Type 0 = λ c. All (IsWritableInOrder dictionary) c.frames in
    let Closes : Content → Type 0 = λ c. IsWritableClosing dictionary c.closing in
    let frames : Frames c = subst Frames (sym has.is) (source_frames file has.order has.items last bytes begins) in
    record {
      dictionary = dictionary;
      sound = (source_entries file has.order has.items last bytes begins).dictionary;
      closing_is = subst Closes (sym has.is)
          (source_closing file has.order has.items last bytes has.well_formed);
      front_are = orders-writable dictionary c.frames front frames orders;
      back_are = tt;
      back_agrees = tt;
    }

-- and so can more frames that do not clash
pub more_spliced : MoreFramesAreSpliced
more_spliced closing front back more s all none =
    let Free : Written → Type 0 = λ w. NoneClashes (Some closing) w more in
    record {
      dictionary = s.dictionary;
      sound = s.sound;
      closing_is = s.closing_is;
      front_are = s.front_are;
      back_are = all-append IsWritableSomewhere back more s.back_are all;
      back_agrees = none-append (Some closing) (after_frames header_alone front) back more s.back_agrees
          (subst Free (fold-append after_frame header_alone front back) none);
    }

-- ---- splices

read-under : (used : List Entry) (os : List Frame) → AllByRecursion (λ (o : Frame). AreUnder used (records_of o)) os
    → AllByRecursion IsOrderedSource os → map as_read (map (frame_under used) os) ≡ map (frame_under used) os
read-under used [] under all = refl
read-under used (o ∷ os) under all =
    let one = as_read-under used o under.0 all.0.as_read_is in
    let later = read-under used os under.1 all.1 in
    λ i. one i ∷ later i

-- what is known of the frames of a splice of files
record IsSpliceOfFiles (closing : Closing) (front back : List Frame) : Type 0 where
  spliced : AreSpliced closing front back
  read : map as_read (as_used (front ++ back)) ≡ as_used (front ++ back)

of-files : (file : List ℕ) (files : List (List ℕ)) (first : Content) (others : List Content) (c : Content)
    → AreBytes file → AllByRecursion AreBytes files → HasContent file first → AllZip HasContent files others
    → (s : IsSplice first others c) → IsSpliceOfFiles first.closing s.front s.back
of-files file files first others c bytes all_bytes has all_have s =
    let front = in-orders first.frames s.front (content-sources file first bytes has) s.front_in_order in
    let back = in-orders (frames_in others) s.back (all-sources files others all_bytes all_have) s.back_in_order in
    let spliced = more_spliced first.closing s.front [] s.back
    (first_spliced file first s.front bytes has s.front_in_order) (all-somewhere s.back back)
    (subst (λ fs. NoneClashes (Some first.closing) (after_frames header_alone fs) s.back) (sym (append-nil s.front))
    s.back_agrees) in
    let are = joined first.closing s.front s.back spliced in
    record {
      spliced = spliced;
      read = read-under (after_frames header_alone (s.front ++ s.back)).entries (s.front ++ s.back) are.under
          (all-append IsOrderedSource s.front s.back front back);
    }

-- The splice is the content of the file that is written of it.
content-is : (closing : Closing) (front back : List Frame) → IsSpliceOfFiles closing front back
    → length (front ++ back) ≤ frames_limit
    → length (canonical_file closing (as_used (front ++ back))) ≤ file_limit
    → HasContent (canonical_file closing (as_used (front ++ back)))
    (record { closing = closing; frames = as_used (front ++ back) })
content-is closing front back are few limit =
    let fs : List Frame = front ++ back in
    let all : AreWrittenTogether closing fs = together closing front back are.spliced in
    let back_is : ReadsBack (canonical_file closing (as_used fs)) closing (as_used fs) =
    subst (λ xs. ReadsBack xs closing (as_used fs)) (sym all.file_is)
    (spliced_back closing front back are.spliced few (subst (λ xs. length xs ≤ file_limit) all.file_is limit)) in
    record {
      order = Little;
      items = back_is.items;
      last = back_is.last;
      well_formed = back_is.well_formed;
      is = ap (λ frames. record { closing = closing; frames = frames }) (sym are.read) ∙ sym back_is.content_is;
    }

-- the canonical file of a splice has the splice for its content
pub splices_keep : SplicesKeepContents
splices_keep file files first others c bytes these those has have s canonical short =
    let own : bytes ≡ canonical_file c.closing c.frames =
    canonical_unique c bytes (canonical_file c.closing c.frames) canonical (splices_canonical first others c s) in
    let Short : Content → Type 0 = λ c. length (canonical_file c.closing c.frames) ≤ file_limit in
    let Has : Content → Type 0 = λ c. HasContent (canonical_file c.closing c.frames) c in
    subst (λ xs. HasContent xs c) (sym own)
    (subst Has (sym s.is)
    (content-is first.closing s.front s.back (of-files file files first others c these those has have s) s.few
    (subst Short s.is (subst (λ xs. length xs ≤ file_limit) own short))))

-- no part of it that ends before it is well-formed
pub no_part_of_a_splice : NoPartOfASpliceIsWhole
no_part_of_a_splice file files first others c bytes n these those has have s canonical short less part =
    let is = splices_keep file files first others c bytes these those has have s canonical short in
    no_prefix bytes n less (is.order, is.items, is.last, is.well_formed) part
