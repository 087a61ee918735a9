-- What a writer's calls do to a shelf, and what stands in its file then.
use Rattle.std.proofs.Common.{◌≡◌, ℕ, ◌+◌, ◌⊎◌, inl, inr, List, length, Option, Some, None, Result, Err, refl, sym, ap}
use Rattle.std.proofs.Common.{◌∙◌, subst, arith, [], IfSome}
use Rattle.std.specs.Option.{option_map_or}
use Rattle.frame_outside.specs.Shelf.{Outside}
use Rattle.dictionary.specs.declared.entries.Entry.{Entry}
use Rattle.frame_content.specs.Frames.{Frame}
use Rattle.frame_content.specs.Frames.{frame_of as segment_frame}
use Rattle.contents_table.specs.Built.{Built}
use Rattle.contents_table.specs.declared.layouts.ChannelLayouts.{ChannelLayouts}
use Rattle.contents_table.specs.Layouts.{AreOf}
use Rattle.canonical_file.specs.declared.closing.Closing.{Closing}
use Rattle.canonical_file.specs.Records.{record_places}
use Rattle.canonical_file.specs.Written.{Written, frame_pieces, after_frame, closing_part}
use Rattle.contents_table.specs.Built.{with_frame_at}
use Rattle.canonical_file.proofs.RenumberedTable.{table-renumbered}
use Rattle.canonical_writer.specs.declared.errors.WriteError.{WriteError}
use Rattle.canonical_writer.specs.declared.errors.WriteError.TheVariants as error
use Rattle.canonical_writer.specs.declared.frame_part.FrameSource.{FrameSource}
use Rattle.canonical_writer.specs.declared.frame_part.FramePart.{FramePart}
use Rattle.canonical_writer.specs.Parts.{CanBeWritten, IsShortClosing}
use Rattle.canonical_writer.specs.Filled.{frame_of, IsSource, IsFilled}
use Rattle.canonical_writer.specs.Writer.{Stays, Puts}
use Rattle.canonical_writer.proofs.SegmentOrders.{frame-linked, frame-breadth}

-- ---- shelves

pub stays-same : (o : Outside) → Stays o o
stays-same o = record {
  faults = omega arith;
  misses = refl;
  taken = omega arith;
  slots = refl;
  files = refl;
}

-- nothing is written where memory failed or an entry clashed
pub puts-refused : {X : Type 0} (o : Outside) (slot : ℕ) (bytes : List ℕ) (r : Result X WriteError)
    → (r ≡ Err error.NoMemory) ⊎ ((class : ℕ) × (r ≡ Err (error.Clash class))) → Puts o o slot bytes r
puts-refused o slot bytes r why = elim why [
  | inl is ↦ subst (Puts o o slot bytes) (sym is) (stays-same o)
  | inr clash ↦ subst (Puts o o slot bytes) (sym clash.1) (stays-same o)
]

-- ---- frames

-- a source of numbers
pub source-of : (source : FrameSource) (layouts : ChannelLayouts) (numbers : List ℕ) → source.order.now ≡ numbers
    → AreOf source.dictionary.now source.plans.now layouts
    → CanBeWritten source.dictionary.now source.plans.now source.segment.now numbers → IsSource source
source-of source layouts numbers order are can = record {
  sound = are.sound;
  plans_are = are.plans_are;
  can = subst (CanBeWritten source.dictionary.now source.plans.now source.segment.now) (sym order) can;
}

-- What stands in the file after a frame's part, where the table lists the frame by the places of its records.
pub frame-written : (w : Written) (closing : Option Closing) (after : List Entry) (source : FrameSource)
    (part : FramePart) (built : Built) (size : ℕ) → IsSource source
    → IsFilled w.size closing w.entries after source part
    → built ≡ with_frame_at part.places.items (segment_frame source.dictionary.now source.segment.now) w.built
    → size ≡ length part.bytes.items
    → record { size = w.size + size; entries = after; built = built; frames = w.frames + 1 }
    ≡ after_frame w (frame_of source)
frame-written w closing after source part built size is filled listed sized =
    let held = source.dictionary.now in let s = source.segment.now in let f : Frame = segment_frame held s in
    let pieces = frame_pieces w (frame_of source) in
    let table = table-renumbered f source.order.now (record_places w.size pieces) part.places.items w.built
    (frame-breadth held source.plans.now s source.order.now is.plans_are is.can.breadth) (frame-linked held s)
    is.can.header filled.places in
    λ i. record {
      size = w.size + (sized ∙ ap length filled.bytes) i;
      entries = filled.entries i;
      built = (listed ∙ sym table) i;
      frames = w.frames + 1;
    }

-- the closing part, where a closing is held
pub part-held : (w : Written) (closing : Option Closing)
    → IfSome closing (λ c. IsShortClosing c → option_map_or (closing_part w) closing [] ≡ closing_part w c)
part-held w None = tt
part-held w (Some c) = λ short. refl
