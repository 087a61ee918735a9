-- The cuts of the frames that a file of bytes gives: they can be written by one dictionary, with the closing of the
-- file, and are no more than a file may have.
use Rattle.std.proofs.Common.{◌≡◌, ℕ, ◌≤◌, inl, inr, List, [], ◌∷◌, length, All, sym, ap, subst, arith}
use Rattle.std.specs.List.{AllZip, AllByRecursion}
use Rattle.std.proofs.lemmas.List.{length-map}
use Rattle.std.proofs.lemmas.List.Elements.{All-nil, All-weaker}
use Rattle.std.proofs.lemmas.Slice.Zip.{AllZip-long}
use Rattle.scalar_types.specs.declared.Order.{Order}
use Rattle.dictionary.specs.declared.entries.Entry.{Entry}
use Rattle.dictionary.specs.Dictionary.{IsDictionary}
use Rattle.file_grammar.specs.Item.{Item, Before, nothing_yet}
use Rattle.file_grammar.specs.MayStand.{frames_limit, Begins}
use Rattle.frame_content.specs.Frames.{Frame}
use Rattle.contents_table.specs.declared.kind.Kind.{Kind}
use Rattle.file_content.specs.Stored.{frames_in}
use Rattle.file_content.specs.Contents.{content_frame}
use Rattle.canonical_file.specs.declared.closing.Closing.{Closing}
use Rattle.canonical_file.specs.Ranges.{AreBytes}
use Rattle.canonical_file.specs.Ordered.{IsInOrder}
use Rattle.canonical_file.specs.Contents.{Content}
use Rattle.canonical_laws.specs.Content.{HasContent}
use Rattle.canonical_laws.specs.Writable.{IsWritableFrame, IsWritableClosing}
use Rattle.canonical_laws.specs.Sources.{printed_entries, IsWritableInOrder}
use Rattle.canonical_laws.proofs.FramesCounted.{stand-counted}
use Rattle.canonical_laws.proofs.Sources.{source_entries, source_frames, source_relinked, source_closing}
use Rattle.frame_reader.specs.Gives.{Ending, Closes, Breaks, Gives, frames_among}
use Rattle.splicer.proofs.FirstPut.{none-held}
use Rattle.channel_extract.specs.Cuts.{extraction}
use Rattle.channel_extract.specs.CutLaws.{IsSoundFrame}
use Rattle.channel_extract.proofs.WritableCuts.{sound-frame, cuts-writable, cuts-few}

-- Frames in their orders can be written by a dictionary, and are few enough.
pub record AreCuts (dictionary : List Entry) (ordered : List Frame) : Type 0 where
  pub sound : IsDictionary dictionary
  pub are : AllByRecursion (IsWritableFrame dictionary) ordered
  pub few : length ordered ≤ frames_limit

-- no cuts are
none-are : (ordered : List Frame) → AllZip IsInOrder [] ordered → AreCuts [] ordered
none-are [] z = record { sound = none-held; are = tt; few = omega arith }
none-are (o ∷ os) z = absurd z

-- ---- the frames of a beginning of a file

begins-sound : (file : List ℕ) (order : Order) (items : List Item) (last : Before) → AreBytes file
    → Begins file order items last → All IsSoundFrame (frames_among order items)
begins-sound file order items last bytes begins =
    All-weaker (IsWritableInOrder (printed_entries last.dictionary)) IsSoundFrame
    (sound-frame (printed_entries last.dictionary)) (frames_among order items)
    (source_frames file order items last bytes begins)

begins-cuts : (file : List ℕ) (order : Order) (items : List Item) (last : Before) (kind : Kind) (name : List ℕ)
    (ordered : List Frame) → AreBytes file → Begins file order items last
    → AllZip IsInOrder (extraction kind name (frames_among order items)) ordered
    → AreCuts (printed_entries last.dictionary) ordered
begins-cuts file order items last kind name ordered bytes begins in_order = record {
  sound = (source_entries file order items last bytes begins).dictionary;
  are = cuts-writable (printed_entries last.dictionary) kind name (frames_among order items) ordered
      (begins-sound file order items last bytes begins) (source_relinked file order items last bytes begins) in_order;
  few = few;
}
  where
    few : length ordered ≤ frames_limit
    few =
        let counted = stand-counted order file nothing_yet last items (omega arith) begins.stand in
        let same = AllZip-long IsInOrder (extraction kind name (frames_among order items)) ordered in_order in
        let cuts = cuts-few kind name (frames_among order items) in
        let many = length-map (frames_in order items) (content_frame order) in
        omega (arith, counted.told, counted.few, same, cuts, many)

-- ---- of a file

-- the frames of a content are those among its items
content-frames : (file : List ℕ) (closing : Closing) (frames : List Frame)
    (has : HasContent file (record { closing = closing; frames = frames })) → frames ≡ frames_among has.order has.items
content-frames file closing frames has = ap (λ (c : Content). c.frames) has.is

pub given-sound : (file : List ℕ) (frames : List Frame) (ending : Ending) → AreBytes file → Gives file frames ending
    → All IsSoundFrame frames
given-sound file frames (Closes closing) bytes has =
    subst (All IsSoundFrame) (sym (content-frames file closing frames has))
    (begins-sound file has.order has.items has.last bytes has.well_formed.begins)
given-sound file frames (Breaks fault) bytes (inl none) =
    subst (All IsSoundFrame) (sym none.0) (All-nil IsSoundFrame)
given-sound file frames (Breaks fault) bytes (inr until) =
    subst (All IsSoundFrame) (sym until.frames_are)
    (begins-sound file until.is_fault.order until.is_fault.items until.is_fault.last bytes until.is_fault.begins)

-- the cuts of a well-formed file, by the dictionary by which its closing can be written
pub record AreClosed (closing : Closing) (ordered : List Frame) : Type 0 where
  pub dictionary : List Entry
  pub cuts : AreCuts dictionary ordered
  pub closing_is : IsWritableClosing dictionary closing

pub closed-cuts : (file : List ℕ) (kind : Kind) (name : List ℕ) (closing : Closing) (frames ordered : List Frame)
    → AreBytes file → HasContent file (record { closing = closing; frames = frames })
    → AllZip IsInOrder (extraction kind name frames) ordered → AreClosed closing ordered
closed-cuts file kind name closing frames ordered bytes has in_order = record {
  dictionary = printed_entries has.last.dictionary;
  cuts = begins-cuts file has.order has.items has.last kind name ordered bytes has.well_formed.begins
      (subst (λ fs. AllZip IsInOrder (extraction kind name fs) ordered) (content-frames file closing frames has)
      in_order);
  closing_is = subst (λ (c : Content). IsWritableClosing (printed_entries has.last.dictionary) c.closing) (sym has.is)
      (source_closing file has.order has.items has.last bytes has.well_formed);
}

-- The cuts of what a file gives.
pub given-cuts : (file : List ℕ) (kind : Kind) (name : List ℕ) (frames ordered : List Frame) (ending : Ending)
    → AreBytes file → Gives file frames ending → AllZip IsInOrder (extraction kind name frames) ordered
    → (dictionary : List Entry) × AreCuts dictionary ordered
given-cuts file kind name frames ordered (Closes closing) bytes has in_order =
    let all = closed-cuts file kind name closing frames ordered bytes has in_order in (all.dictionary, all.cuts)
given-cuts file kind name frames ordered (Breaks fault) bytes (inl none) in_order =
    ([], none-are ordered (subst (λ fs. AllZip IsInOrder (extraction kind name fs) ordered) none.0 in_order))
given-cuts file kind name frames ordered (Breaks fault) bytes (inr until) in_order = (
  printed_entries until.is_fault.last.dictionary,
  begins-cuts file until.is_fault.order until.is_fault.items until.is_fault.last kind name ordered bytes
      until.is_fault.begins
      (subst (λ fs. AllZip IsInOrder (extraction kind name fs) ordered) until.frames_are in_order),
)
