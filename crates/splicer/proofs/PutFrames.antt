-- What was put of a file, and one more frame of it.
use Rattle.std.proofs.Common.{◌≡◌, ℕ, Bool, true, List, [], ◌∷◌, ◌++◌, length, take, Option, Some, None, Result, Ok}
use Rattle.std.proofs.Common.{Err}
use Rattle.std.proofs.Common.{All, OnOk, IsSomeAnd, inr, refl, sym, ap, subst, ◌∙◌, arith}
use Rattle.std.specs.List.{AllZip}
use Rattle.std.proofs.lemmas.List.{take_all}
use Rattle.std.proofs.lemmas.Option.{same_Some}
use Rattle.rooted_graph.proofs.Zips.{zip-append}
use Rattle.scalar_types.specs.declared.Order.{Order}
use Rattle.frame_outside.specs.Shelf.{Outside}
use Rattle.dictionary.specs.declared.entries.Entry.{Entry}
use Rattle.dictionary.specs.Dictionary.{entry_of}
use Rattle.dictionary.specs.Same.{same_entries}
use Rattle.layout_plan.specs.Plans.{plan_of}
use Rattle.link_graph.specs.Collected.{Collected}
use Rattle.link_graph.specs.Graph.{Layouts, ReadsBy}
use Rattle.file_grammar.specs.Record.{layout_in}
use Rattle.file_grammar.specs.Item.{Item, Before, nothing_yet, after}
use Rattle.file_grammar.specs.MayStand.{Stand, Begins}
use Rattle.frame_content.specs.Frames.{Frame}
use Rattle.contents_table.specs.declared.layouts.ChannelLayouts.{ChannelLayouts}
use Rattle.contents_table.specs.Layouts.{AreOf}
use Rattle.canonical_file.specs.Ordered.{IsInOrder}
use Rattle.canonical_file.specs.declared.closing.Closing.{Closing}
use Rattle.canonical_file.specs.Written.{Written, header_alone, frame_part, after_frame, after_frames, canonical_head}
use Rattle.canonical_writer.specs.declared.errors.WriteError.{WriteError}
use Rattle.canonical_writer.specs.declared.errors.WriteError.TheVariants as write
use Rattle.canonical_writer.specs.Parts.{AreMet, CanBeWritten, IsReady, frame_in_order}
use Rattle.canonical_writer.specs.Writer.{Writer, Puts, IsAnswer, frame_due}
use Rattle.frame_reader.specs.Given.{Frames, GivesFrame, GivesAll, AreFirst, Keeps, Lends}
use Rattle.splicer.specs.Due.{Refuses, course}
use Rattle.splicer.specs.Made.{HasMade}
use Rattle.splicer.specs.Put.{HasPut, IsEnded, PutsFrame, PutsNext}
use Rattle.splicer.proofs.Courses.{passes-more, refuses-next}
use Rattle.splicer.proofs.FramesMore.{after-push, head-push, due-no_device, taken-due, refused-due, failed-due}
use Rattle.splicer.proofs.Making.{made-stays, made-writes, made-part}

-- ---- what the reader gives

-- the classes met are used as a dictionary has them in which all that was held stays
pub met-stays : (met : List Bool) (used held next : List Entry) → Keeps held next → AreMet met used held
    → AreMet met used next
met-stays met used held next stays are = λ class is.
    by class (entry_of used class) (entry_of held class) refl (are class is)
  where
    by : (class : ℕ) (used held_there : Option Entry) → entry_of held class ≡ held_there
        → IsSomeAnd used (λ old. IsSomeAnd held_there (λ e. same_entries old e ≡ true))
        → IsSomeAnd used (λ old. IsSomeAnd (entry_of next class) (λ e. same_entries old e ≡ true))
    by class None there is both = absurd both
    by class (Some old) None is both = absurd both
    by class (Some old) (Some e) is both =
        subst (λ found. IsSomeAnd found (λ e. same_entries old e ≡ true)) (sym (stays class e is)) both

-- The reader has given a frame after those that were put.
pub puts-next : (file : List ℕ) (frame : Frame) (r new : Frames) (closing : Option Closing) (stood : List Frame)
    (old now : Outside) (name : List ℕ) (inputs : ℕ) (w : Writer)
    (put : HasPut file r closing stood old now name inputs w)
    → Keeps r.reader.before.dictionary new.reader.before.dictionary → GivesFrame file put.frames frame new
    → PutsNext file frame new closing stood old now name inputs w
puts-next file frame r new closing stood old now name inputs w put keeps gives = record {
  frames = put.frames;
  ordered = put.ordered;
  then_stand = put.then_stand;
  gives = gives;
  in_order = put.in_order;
  passes = put.passes;
  written = put.written;
  closing_is = put.closing_is;
  met = met-stays w.met w.written.entries r.reader.before.dictionary new.reader.before.dictionary keeps put.met;
  none_stood = put.none_stood;
}

-- It has given no further one, and the file has ended.
pub puts-ended : (file : List ℕ) (r new : Frames) (closing : Option Closing) (stood : List Frame) (old now : Outside)
    (name : List ℕ) (inputs : ℕ) (w : Writer) (put : HasPut file r closing stood old now name inputs w)
    → Keeps r.reader.before.dictionary new.reader.before.dictionary → GivesAll file put.frames new
    → HasPut file new closing stood old now name inputs w × IsEnded file new
puts-ended file r new closing stood old now name inputs w put keeps gives = (
  record {
    frames = put.frames;
    ordered = put.ordered;
    then_stand = put.then_stand;
    given = gives.given;
    in_order = put.in_order;
    passes = put.passes;
    written = put.written;
    closing_is = put.closing_is;
    met = met-stays w.met w.written.entries r.reader.before.dictionary new.reader.before.dictionary keeps put.met;
    none_stood = put.none_stood;
  },
  (put.frames, gives),
)

-- the items before the last one stand before it
stand-before : (order : Order) (file : List ℕ) (b : Before) (earlier : List Item) (item : Item) (last : Before)
    → Stand order file b (earlier ++ item ∷ []) last → (middle : Before) × Stand order file b earlier middle
stand-before order file b [] item last stand = (b, refl)
stand-before order file b (first ∷ earlier) item last stand =
    let rest = stand-before order file (after order b first) earlier item last stand.1 in (
      rest.0,
      (stand.0, rest.1),
    )

begins-before : (file : List ℕ) (order : Order) (earlier : List Item) (item : Item) (last : Before)
    → Begins file order (earlier ++ item ∷ []) last → (middle : Before) × Begins file order earlier middle
begins-before file order earlier item last begins =
    let found = stand-before order file nothing_yet earlier item last begins.stand in
    (found.0, record { size = begins.size; header = begins.header; stand = found.1 })

-- ---- what is written of it

-- what a writer answers to a frame
pub record AnswersFrame (middle now : Outside) (w v : Writer) (held : List Entry) (plans : Layouts)
    (layouts : ChannelLayouts) (segment : Collected) (numbers : List ℕ) (result : Result Unit WriteError) : Type 0 where
  pub answer : AreOf held plans layouts → CanBeWritten held plans segment numbers
      → IsReady w.met w.closing w.written.entries held
      → IsAnswer result (frame_due w.closing w.written (frame_in_order held segment numbers))
  pub puts : (bytes : List ℕ) × Puts middle now w.slot bytes result
      × (AreOf held plans layouts → CanBeWritten held plans segment numbers
      → IsReady w.met w.closing w.written.entries held
      → bytes ≡ frame_part w.written (frame_in_order held segment numbers))
  pub written : OnOk result (AreOf held plans layouts → CanBeWritten held plans segment numbers
      → IsReady w.met w.closing w.written.entries held
      → (v.written ≡ after_frame w.written (frame_in_order held segment numbers))
      × IsReady v.met v.closing v.written.entries held)
  pub kept : (v.slot ≡ w.slot) × (v.closing ≡ w.closing)
  pub no_error : OnOk result (v.error ≡ None)

-- The frame is written after those that stand, or refused there, or a part of it is written.
pub puts-frame : (file : List ℕ) (frame : Frame) (r : Frames) (stood : List Frame) (old middle now : Outside)
    (name : List ℕ) (inputs : ℕ) (w v : Writer) (plans : Layouts) (numbers : List ℕ) (result : Result Unit WriteError)
    → r.reader.numbering ≡ Some numbers
    → ((class : ℕ) → plan_of plans class ≡ layout_in r.reader.before.dictionary class)
    → All (ReadsBy plans r.reader.segment.order) r.reader.segment.nodes
    → PutsNext file frame r w.closing stood old middle name inputs w
    → AnswersFrame middle now w v r.reader.before.dictionary plans r.layouts r.reader.segment numbers result
    → PutsFrame file r w.closing stood old now name inputs v result
puts-frame file frame r stood old middle now name inputs w v plans numbers result numbering are reads put answers =
    by result
    (subst (λ (x : Written). IsAnswer result (frame_due w.closing x f)) put.written.written
    (answers.answer of b.can ready))
    (subst (λ piece. Puts middle now w.slot piece result)
    (answers.puts.2 of b.can ready ∙ ap (λ (x : Written). frame_part x f) put.written.written) answers.puts.1)
    answers.written answers.no_error
  where
    held : List Entry
    held = r.reader.before.dictionary

    f : Frame
    f = frame_in_order r.reader.before.dictionary r.reader.segment numbers

    b : Lends frame plans numbers r.reader
    b = subst (λ numbers. Lends frame plans numbers r.reader)
        (same_Some put.gives.numbers numbers (sym put.gives.numbering_is ∙ numbering)) (put.gives.lends plans are reads)

    of : AreOf r.reader.before.dictionary plans r.layouts
    of = record { sound = put.gives.sound; plans_are = are; layouts_are = put.gives.layouts_are }

    ready : IsReady w.met w.closing w.written.entries r.reader.before.dictionary
    ready = record { met_are = put.met; agree = put.written.agree }

    in_order : AllZip IsInOrder (put.frames ++ frame ∷ []) (put.ordered ++ f ∷ [])
    in_order = zip-append IsInOrder put.frames put.ordered (frame ∷ []) (f ∷ []) put.in_order (b.in_order, tt)

    first : AreFirst file put.ordered
    first = record {
      order = r.reader.order;
      items = put.gives.earlier;
      last = (begins-before file r.reader.order put.gives.earlier put.gives.taken r.reader.before put.gives.begins).0;
      begins = (begins-before file r.reader.order put.gives.earlier put.gives.taken r.reader.before put.gives.begins).1;
      in_order = subst (λ frames. AllZip IsInOrder frames put.ordered) put.gives.before_are put.in_order;
    }

    first-more : AreFirst file (put.ordered ++ f ∷ [])
    first-more = record {
      order = r.reader.order;
      items = put.gives.earlier ++ put.gives.taken ∷ [];
      last = r.reader.before;
      begins = put.gives.begins;
      in_order = subst (λ frames. AllZip IsInOrder frames (put.ordered ++ f ∷ [])) put.gives.frames_are in_order;
    }

    head : List ℕ
    head = canonical_head put.then_stand

    piece : List ℕ
    piece = frame_part (after_frames header_alone put.then_stand) f

    due : Result Unit WriteError
    due = frame_due w.closing (after_frames header_alone put.then_stand) f

    stays : (bytes : List ℕ) → HasMade old now name inputs w.slot bytes → HasMade old now name inputs v.slot bytes
    stays bytes made = subst (λ slot. HasMade old now name inputs slot bytes) (sym answers.kept.0) made

    refused : (error : WriteError) → (error ≡ write.Device → ⊥) → (error ≡ write.NoMemory → ⊥)
        → IsAnswer {X = Unit} (Err error) due
        → course w.closing stood (put.ordered ++ f ∷ []) ≡ Refuses error put.then_stand
    refused error shelf memory answer =
        refuses-next w.closing stood put.ordered put.then_stand f error put.passes
        (refused-due error due shelf memory answer)

    by : (answer : Result Unit WriteError) → IsAnswer answer due → Puts middle now w.slot piece answer
        → OnOk answer (AreOf held plans r.layouts → CanBeWritten held plans r.reader.segment numbers
        → IsReady w.met w.closing w.written.entries held
        → (v.written ≡ after_frame w.written f) × IsReady v.met v.closing v.written.entries held)
        → OnOk answer (v.error ≡ None)
        → PutsFrame file r w.closing stood old now name inputs v answer
    by (Ok x) answer puts written none =
        let next = written of b.can ready in
        let after : v.written ≡ after_frames header_alone (put.then_stand ++ f ∷ []) =
        next.0 ∙ ap (λ (x : Written). after_frame x f) put.written.written
        ∙ sym (after-push header_alone put.then_stand f) in
        record {
          frames = put.frames ++ frame ∷ [];
          ordered = put.ordered ++ f ∷ [];
          then_stand = put.then_stand ++ f ∷ [];
          given = record {
            items = put.gives.earlier ++ put.gives.taken ∷ [];
            begins = put.gives.begins;
            frames_are = put.gives.frames_are;
            sound = put.gives.sound;
            layouts_are = put.gives.layouts_are;
          };
          in_order = in_order;
          passes = passes-more w.closing stood put.ordered put.then_stand f put.passes (taken-due due answer);
          written = record {
            made = subst (λ bytes. HasMade old now name inputs v.slot bytes) (sym (head-push put.then_stand f))
                (stays (head ++ piece)
                (made-writes old middle now name inputs w.slot head piece put.written.made puts));
            written = after;
            error = none;
            agree = next.1.agree;
          };
          closing_is = answers.kept.1;
          met = next.1.met_are;
          none_stood = put.none_stood;
        }
    by (Err write.Device) answer puts written none =
        let part = made-part old middle now name inputs w.slot head piece put.written.made puts in
        record {
          ordered = put.ordered ++ f ∷ [];
          then_stand = put.then_stand ++ f ∷ [];
          count = part.0;
          first = inr first-more;
          passes = passes-more w.closing stood put.ordered put.then_stand f put.passes
              (failed-due due (due-no_device w.closing (after_frames header_alone put.then_stand) f) answer);
          made = subst (λ bytes. HasMade old now name inputs v.slot (take part.0 bytes))
              (sym (head-push put.then_stand f)) (stays (take part.0 (head ++ piece)) part.2);
        }
    by (Err write.NoMemory) answer puts written none = record {
      ordered = put.ordered;
      then_stand = put.then_stand;
      count = length head;
      first = inr first;
      passes = put.passes;
      made = subst (λ bytes. HasMade old now name inputs v.slot bytes) (sym (take_all (length head) head (omega arith)))
          (stays head (made-stays old middle now name inputs w.slot head put.written.made puts));
    }
    by (Err write.FramesLimit) answer puts written none = record {
      ordered = put.ordered ++ f ∷ [];
      then_stand = put.then_stand;
      first = first-more;
      refuses = refused write.FramesLimit (λ is. cc) (λ is. cc) answer;
      made = stays head (made-stays old middle now name inputs w.slot head put.written.made puts);
    }
    by (Err (write.Clash class)) answer puts written none = record {
      ordered = put.ordered ++ f ∷ [];
      then_stand = put.then_stand;
      first = first-more;
      refuses = refused (write.Clash class) (λ is. cc) (λ is. cc) answer;
      made = stays head (made-stays old middle now name inputs w.slot head put.written.made puts);
    }
    by (Err write.OutputLimit) answer puts written none = record {
      ordered = put.ordered ++ f ∷ [];
      then_stand = put.then_stand;
      first = first-more;
      refuses = refused write.OutputLimit (λ is. cc) (λ is. cc) answer;
      made = stays head (made-stays old middle now name inputs w.slot head put.written.made puts);
    }
