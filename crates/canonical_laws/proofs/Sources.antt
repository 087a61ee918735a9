-- What a file of bytes holds can be written again.
use Rattle.std.proofs.Common.{◌≡◌, ℕ, true≢false, List, All, sym, subst}
use Rattle.std.proofs.lemmas.List.Elements.{All-from_recursion, All-map, All-weaker}
use Rattle.scalar_types.specs.declared.Order.{Order}
use Rattle.dictionary.specs.declared.entries.Entry.{Entry}
use Rattle.file_grammar.specs.Item.{Item, Before, nothing_yet}
use Rattle.file_grammar.specs.MayStand.{Begins}
use Rattle.frame_content.specs.Labels.{printed_entry}
use Rattle.frame_content.specs.Frames.{Frame}
use Rattle.file_content.specs.Stored.{StoredFrame, frames_in}
use Rattle.file_content.specs.Contents.{content_frame}
use Rattle.canonical_file.specs.Ranges.{AreBytes}
use Rattle.canonical_laws.specs.Writable.{IsWritableEntry, IsWritableFrame, as_read}
use Rattle.canonical_laws.specs.Sources.{printed_entries, IsWritableInOrder, EntriesOfFilesAreWritable}
use Rattle.canonical_laws.specs.Content.{content_of}
use Rattle.canonical_laws.specs.Sources.{FramesOfFilesAreWritable, ClosingsOfFilesAreWritable}
use Rattle.canonical_laws.specs.Sources.{IsWritableRelinked, RelinkedFramesAreWritable}
use Rattle.canonical_laws.proofs.PrintedDictionaries.{dictionary-printed}
use Rattle.canonical_laws.proofs.SourceEntries.{AreSources, no-sources, entry-printed}
use Rattle.canonical_laws.proofs.SourceFrames.{source-linked, source-header}
use Rattle.canonical_laws.proofs.SourceRows.{source-rows, relinked-rows}
use Rattle.canonical_laws.proofs.SourceOrders.{source-writable, source-as_read}
use Rattle.canonical_laws.proofs.SourceStored.{no-frame}
use Rattle.canonical_laws.proofs.SourceItems.{IsSourceBefore, IsStoredSource, AreSourceItems, stand-source}
use Rattle.canonical_laws.proofs.SourceClosings.{stand-end, source-closing}

source-nothing : (order : Order) → IsSourceBefore order nothing_yet
source-nothing order = no-frame order nothing_yet.dictionary no-sources

source-items : (file : List ℕ) (order : Order) (items : List Item) (last : Before) → AreBytes file
    → Begins file order items last → AreSourceItems order nothing_yet items last
source-items file order items last bytes begins =
    stand-source order file nothing_yet last items bytes begins.stand (source-nothing order)

pub source_entries : EntriesOfFilesAreWritable
source_entries file order items last bytes begins =
    let sources : AreSources last.dictionary = (source-items file order items last bytes begins).before.sources in
    let own : All IsWritableEntry last.dictionary =
    All-from_recursion IsWritableEntry last.dictionary sources.writable in
    record {
      own = own;
      printed = All-map IsWritableEntry printed_entry last.dictionary
          (All-weaker IsWritableEntry (λ e. IsWritableEntry (printed_entry e)) entry-printed last.dictionary own);
      dictionary = dictionary-printed last.dictionary sources.sound;
    }

stored-writable : (order : Order) (next : List Entry) (stored : StoredFrame) → IsStoredSource order next stored
    → IsWritableInOrder (printed_entries next) (content_frame order stored)
stored-writable order next stored is =
    let f : Frame = content_frame order stored in
    record {
      linked = source-linked f is.source;
      header = source-header f is.source;
      writable = λ o ordered. subst (IsWritableFrame (printed_entries next)) (sym ordered.is)
          (source-writable order stored.held f ordered.order (source-rows f is.source) ordered.breadth next is.stays);
      as_read_is = λ o ordered. subst (λ x. as_read x ≡ x) (sym ordered.is)
          (source-as_read f ordered.order is.source ordered.breadth);
    }

-- the same frame with other links
stored-relinked : (order : Order) (next : List Entry) (stored : StoredFrame) → IsStoredSource order next stored
    → IsWritableRelinked (printed_entries next) (content_frame order stored)
stored-relinked order next stored is g o relinked ordered =
    let f : Frame = content_frame order stored in
    subst (IsWritableFrame (printed_entries next)) (sym ordered.is)
    (source-writable order stored.held g ordered.order (relinked-rows f g is.source relinked) ordered.breadth next
    is.stays)

-- what holds of each frame that has ended holds of the frames of the items
all-frames : (file : List ℕ) (order : Order) (items : List Item) (last : Before) → AreBytes file
    → Begins file order items last → (P : Frame → Type 0)
    → ((stored : StoredFrame) → IsStoredSource order last.dictionary stored → P (content_frame order stored))
    → All P (content_of order items last).frames
all-frames file order items last bytes begins P each =
    let frames : List StoredFrame = frames_in order items in
    All-map P (content_frame order) frames
    (All-weaker (IsStoredSource order last.dictionary) (λ stored. P (content_frame order stored)) each frames
    (All-from_recursion (IsStoredSource order last.dictionary) frames
    (source-items file order items last bytes begins).frames))

pub source_frames : FramesOfFilesAreWritable
source_frames file order items last bytes begins =
    all-frames file order items last bytes begins (IsWritableInOrder (printed_entries last.dictionary))
    (stored-writable order last.dictionary)

pub source_relinked : RelinkedFramesAreWritable
source_relinked file order items last bytes begins =
    all-frames file order items last bytes begins (IsWritableRelinked (printed_entries last.dictionary))
    (stored-relinked order last.dictionary)

pub source_closing : ClosingsOfFilesAreWritable
source_closing file order items last bytes whole =
    source-closing last.dictionary (source-items file order items last bytes whole.begins).before.sources
    (stand-end order file nothing_yet last items bytes whole.begins.stand (source-nothing order)
    (λ closed. absurd (true≢false (sym closed))) whole.closed)
