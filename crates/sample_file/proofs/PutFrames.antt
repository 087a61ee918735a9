-- Frame k of the sample file is written after the first k.
use Rattle.std.proofs.Common.{◌≡◌, ℕ, suc, ◌+◌, ◌<◌, List, ◌++◌, None, Result, Ok, Err, is_ok, OnOk, inr, refl, sym, ap}
use Rattle.std.proofs.Common.{◌∙◌, subst, arith, add-one}
use Rattle.frame_outside.specs.Shelf.{Outside}
use Rattle.frame_outside.proofs.Places.{hands_out_none}
use Rattle.dictionary.specs.declared.entries.Entry.{Entry}
use Rattle.link_graph.specs.Collected.{Collected}
use Rattle.link_graph.specs.Graph.{Layouts}
use Rattle.frame_content.specs.Frames.{Frame}
use Rattle.contents_table.specs.declared.layouts.ChannelLayouts.{ChannelLayouts}
use Rattle.contents_table.specs.Layouts.{AreOf}
use Rattle.canonical_file.specs.Written.{Written, header_alone, frame_part, after_frame, after_frames, canonical_head}
use Rattle.canonical_writer.specs.declared.errors.WriteError.{WriteError}
use Rattle.canonical_writer.specs.declared.errors.WriteError.TheVariants as write
use Rattle.canonical_writer.specs.Parts.{CanBeWritten, IsReady, frame_in_order}
use Rattle.canonical_writer.specs.Writer.{Writer, Puts, IsAnswer, frame_due}
use Rattle.sample_file.specs.declared.frames.SampleFrame.{SampleFrame}
use Rattle.sample_file.specs.Entries.{sample_entries}
use Rattle.sample_file.specs.Sample.{sample_frame}
use Rattle.sample_file.specs.Whole.{sample_frames}
use Rattle.sample_file.specs.Lent.{IsSampleRoom, IsSampleFrame}
use Rattle.sample_file.specs.Put.{sample_head, IsPut, IsWriterReady, HasWritten}
use Rattle.sample_file.proofs.FramesMore.{after-next, head-next}
use Rattle.sample_file.proofs.Counted.{IsKth, IsAfter, clash-none, counted, counted-next, kth}
use Rattle.sample_file.proofs.Dues.{frame-due, outside-alone}

-- what a writer answers to a frame
pub record AnswersFrame (old new : Outside) (w v : Writer) (held : List Entry) (plans : Layouts)
    (layouts : ChannelLayouts) (segment : Collected) (numbers : List ℕ) (result : Result Unit WriteError) : Type 0 where
  pub answer : AreOf held plans layouts → CanBeWritten held plans segment numbers
      → IsReady w.met w.closing w.written.entries held
      → IsAnswer result (frame_due w.closing w.written (frame_in_order held segment numbers))
  pub puts : (bytes : List ℕ) × Puts old new w.slot bytes result
      × (AreOf held plans layouts → CanBeWritten held plans segment numbers
      → IsReady w.met w.closing w.written.entries held
      → bytes ≡ frame_part w.written (frame_in_order held segment numbers))
  pub written : OnOk result (AreOf held plans layouts → CanBeWritten held plans segment numbers
      → IsReady w.met w.closing w.written.entries held
      → (v.written ≡ after_frame w.written (frame_in_order held segment numbers))
      × IsReady v.met v.closing v.written.entries held)
  pub closing : v.closing ≡ w.closing
  pub no_error : OnOk result (v.error ≡ None)

-- ---- by the frame

-- the head with frame k
head-more : (k : ℕ) (f : Frame) → IsKth k f
    → sample_head (k + 1) ≡ sample_head k ++ frame_part (after_frames header_alone (sample_frames k)) f
unfolding IsKth sample_head
head-more k f is = ap (λ n. canonical_head (sample_frames n)) (add-one k) ∙ head-next k f is

-- what stands then
after-more : (k : ℕ) (f : Frame) → IsKth k f
    → after_frame (after_frames header_alone (sample_frames k)) f ≡ after_frames header_alone (sample_frames (k + 1))
unfolding IsKth
after-more k f is = sym (ap (λ n. after_frames header_alone (sample_frames n)) (add-one k) ∙ after-next k f is)

-- it is due to be written
due-more : (k : ℕ) (f : Frame) (closing : _) (w : Written) → IsKth k f → k < 100000 → closing ≡ None
    → w ≡ after_frames header_alone (sample_frames k) → frame_due closing w f ≡ Ok tt
due-more k f closing w is few none are =
    let last : Written = after_frames header_alone (sample_frames k) in
    let now : IsAfter k last = counted k in
    let then : IsAfter (suc k) (after_frame last f) = counted-next k last f is now in
    ap (λ closing. frame_due closing w f) none ∙ ap (λ (w : Written). frame_due None w f) are
    ∙ frame-due last f (clash-none k last.entries f is now.entries) (omega (arith, now.frames))
    (omega (arith, then.size))

-- what was there to be written is what is told
is-kth : (k : ℕ) (s : SampleFrame) (numbers : List ℕ) → IsSampleFrame k s numbers
    → IsKth k (frame_in_order s.dictionary s.segment numbers)
unfolding IsKth
is-kth k s numbers frame = frame.is

-- ---- the answer

-- the dictionary that a writer is ready for
ready-held : (w : Writer) (held : List Entry) → held ≡ sample_entries → IsWriterReady w
    → IsReady w.met w.closing w.written.entries held
unfolding IsWriterReady
ready-held w held is ready = subst (IsReady w.met w.closing w.written.entries) (sym is) ready

held-ready : (w : Writer) (held : List Entry) → held ≡ sample_entries
    → IsReady w.met w.closing w.written.entries held → IsWriterReady w
unfolding IsWriterReady
held-ready w held is ready = subst (IsReady w.met w.closing w.written.entries) is ready

-- The frame is written, or the shelf or memory failed.
pub puts-frame : (k : ℕ) (old new : Outside) (w v : Writer) (s : SampleFrame) (numbers : List ℕ)
    (result : Result Unit WriteError) → k < 100000 → HasWritten k w → IsSampleRoom s → IsSampleFrame k s numbers
    → AnswersFrame old new w v s.dictionary s.plans s.layouts s.segment numbers result → IsPut k old new w v result
puts-frame k old new w v s numbers result few has room frame answers = record {
  puts = record { bytes = answers.puts.0; more = more; puts = answers.puts.1 };
  outside = outside-alone result (frame_due w.closing w.written f) (ap is_ok due)
      (answers.answer frame.layouts frame.can ready);
  written = by result answers.written answers.no_error;
}
  where
    f : Frame
    f = frame_in_order s.dictionary s.segment numbers

    is : IsKth k f
    is = is-kth k s numbers frame

    ready : IsReady w.met w.closing w.written.entries s.dictionary
    ready = ready-held w s.dictionary room.dictionary has.ready

    due : frame_due w.closing w.written f ≡ Ok tt
    due = due-more k f w.closing w.written is few has.closing has.written

    more : sample_head (k + 1) ≡ sample_head k ++ answers.puts.0
    more =
        head-more k f is
        ∙ ap (λ bytes. sample_head k ++ bytes)
        (sym (answers.puts.2 frame.layouts frame.can ready ∙ ap (λ (w : Written). frame_part w f) has.written))

    by : (answer : Result Unit WriteError)
        → OnOk answer (AreOf s.dictionary s.plans s.layouts → CanBeWritten s.dictionary s.plans s.segment numbers
        → IsReady w.met w.closing w.written.entries s.dictionary
        → (v.written ≡ after_frame w.written f) × IsReady v.met v.closing v.written.entries s.dictionary)
        → OnOk answer (v.error ≡ None) → OnOk answer (HasWritten (k + 1) v)
    by (Err error) written none = tt
    by (Ok x) written none =
        let next = written frame.layouts frame.can ready in
        record {
          written = next.0 ∙ ap (λ (w : Written). after_frame w f) has.written ∙ after-more k f is;
          closing = answers.closing ∙ has.closing;
          error = none;
          ready = held-ready v s.dictionary room.dictionary next.1;
        }

-- There was no memory for the frame.
pub puts-none : (k : ℕ) (o : Outside) (w v : Writer) → IsPut k o o w v (Err write.NoMemory)
puts-none k o w v = record {
  puts = record {
    bytes = frame_part (after_frames header_alone (sample_frames k)) (sample_frame k);
    more = head-more k (sample_frame k) (kth k);
    puts = hands_out_none o;
  };
  outside = inr refl;
  written = tt;
}
