-- The frames that two readers lend are written alike exactly where they are the same.
use Rattle.std.proofs.Common.{◌≡◌, ◌↔◌, ℕ, List, [], ◌∷◌, ◌++◌, All, Some, IfOk, IsTrue, Result, Ok, Err, Bool}
use Rattle.std.proofs.Common.{sym, ap, subst, ◌∙◌}
use Rattle.std.proofs.lemmas.Option.{same_Some}
use Rattle.std.proofs.lemmas.List.Elements.{All-head}
use Rattle.dictionary.specs.declared.entries.Entry.{Entry}
use Rattle.dictionary.specs.Dictionary.{IsDictionary}
use Rattle.layout_plan.specs.Plans.{plan_of}
use Rattle.link_graph.specs.Collected.{Collected}
use Rattle.link_graph.specs.Graph.{Layouts, ReadsBy}
use Rattle.rooted_graph.proofs.Ends.{same_sym, same_trans}
use Rattle.file_grammar.specs.Record.{layout_in}
use Rattle.frame_content.specs.Frames.{Frame}
use Rattle.item_reader.specs.Reader.{Reader}
use Rattle.canonical_file.specs.Ranges.{AreBytes}
use Rattle.canonical_file.specs.Ordered.{frame_graph, SameFrame, IsInOrder}
use Rattle.canonical_file.proofs.OneOrder.{same_in_orders}
use Rattle.canonical_file.proofs.SameOrder.{same_in_its_order}
use Rattle.canonical_file.proofs.Spelled.{parts}
use Rattle.canonical_laws.specs.Writable.{as_read}
use Rattle.canonical_laws.specs.Sources.{printed_entries, IsWritableInOrder}
use Rattle.canonical_laws.proofs.Sources.{source_frames}
use Rattle.canonical_writer.specs.declared.frame_part.FrameSource.{FrameSource}
use Rattle.canonical_writer.specs.Alike.{AreAlike, AreWrittenAlike}
use Rattle.canonical_writer.specs.Filled.{frame_of, IsSource}
use Rattle.canonical_writer.specs.Parts.{CanBeWritten, frame_in_order}
use Rattle.frame_reader.specs.Given.{Frames, GivesFrame, Lends}

-- Frames that can be written are written alike, each in its order, exactly where they are the same: what is read of a
-- written frame are its rows and its end.
pub alike_tells : (dictionary other : List Entry) (f g o p : Frame) → IsInOrder f o → IsInOrder g p
    → IsWritableInOrder dictionary f → IsWritableInOrder other g → AreWrittenAlike o p ↔ SameFrame f g
alike_tells dictionary other f g o p left right writable also = (
  there,
  λ same. let one = same_in_orders f g o p same left right in
      (ap (λ (x : Frame). x.rows) one, ap (λ (x : Frame). x.end) one),
)
  where
    there : AreWrittenAlike o p → SameFrame f g
    there alike =
        let read : as_read o ≡ as_read p =
        λ i. as_read (record { rows = alike.0 i; roots = []; end = alike.1 i }) in
        let one : o ≡ p = sym (writable.as_read_is o left) ∙ read ∙ also.as_read_is p right in
        same_trans (frame_graph f) (frame_graph o) (frame_graph g) (same_in_its_order f o left)
        (same_sym (frame_graph g) (frame_graph o) (subst (SameFrame g) (sym one) (same_in_its_order g p right)))

-- the frame that a file of bytes gives can be written
given-writable : (file : List ℕ) (frames : List Frame) (frame : Frame) (r : Frames) → AreBytes file
    → GivesFrame file frames frame r → IsWritableInOrder (printed_entries r.reader.before.dictionary) frame
given-writable file frames frame r bytes gives =
    let P : Frame → Type 0 = IsWritableInOrder (printed_entries r.reader.before.dictionary) in
    All-head P frame []
    (parts P frames (frame ∷ [])
    (subst (All P) (sym gives.frames_are)
    (source_frames file r.reader.order (gives.earlier ++ gives.taken ∷ []) r.reader.before bytes gives.begins))).1

-- the source is what the reader lends
pub record IsLent (r : Reader) (source : FrameSource) : Type 0 where
  pub segment : source.segment.now ≡ r.segment
  pub dictionary : source.dictionary.now ≡ r.before.dictionary
  pub order : r.numbering ≡ Some source.order.now
  pub plans : (class : ℕ) → plan_of source.plans.now class ≡ layout_in r.before.dictionary class
  pub bodies : All (ReadsBy source.plans.now source.segment.now.order) source.segment.now.nodes

-- a source that can be written, and the frame in its order
abbrev IsSourceOf : Frame → Layouts → List Entry → Collected → List ℕ → Type 0
IsSourceOf frame plans held segment numbers =
    IsDictionary held × ((class : ℕ) → plan_of plans class ≡ layout_in held class)
    × CanBeWritten held plans segment numbers × IsInOrder frame (frame_in_order held segment numbers)

lent-source : (file : List ℕ) (frames : List Frame) (frame : Frame) (r : Frames) (source : FrameSource)
    → GivesFrame file frames frame r → IsLent r.reader source → IsSource source × IsInOrder frame (frame_of source)
lent-source file frames frame r source gives is =
    let P : List Entry → Type 0 = λ held. IsSourceOf frame source.plans.now held source.segment.now source.order.now in
    let Q : Collected → Type 0 =
    λ segment. IsSourceOf frame source.plans.now r.reader.before.dictionary segment source.order.now in
    let R : List ℕ → Type 0 =
    λ numbers. IsSourceOf frame source.plans.now r.reader.before.dictionary r.reader.segment numbers in
    let B : Collected → Type 0 = λ segment. All (ReadsBy source.plans.now segment.order) segment.nodes in
    let lends : Lends frame source.plans.now gives.numbers r.reader =
    gives.lends source.plans.now is.plans (subst B is.segment is.bodies) in
    let numbers : gives.numbers ≡ source.order.now =
    same_Some gives.numbers source.order.now (sym gives.numbering_is ∙ is.order) in
    let own : P source.dictionary.now =
    subst P (sym is.dictionary)
    (subst Q (sym is.segment) (subst R numbers (gives.sound, is.plans, lends.can, lends.in_order))) in
    (record { sound = own.0; plans_are = own.1; can = own.2 }, own.3)

-- a test of sources says whether the frames that two readers lend as these are the same
sources_tell : (met : List Bool) (one two : FrameSource) (r s : Frames) (same : Bool) → IsLent r.reader one
    → IsLent s.reader two
    → (IsSource one → IsSource two → AreAlike met one.dictionary.now two.dictionary.now
    → IsTrue same ↔ AreWrittenAlike (frame_of one) (frame_of two))
    → (file other : List ℕ) (frames others : List Frame) (frame another : Frame) → AreBytes file → AreBytes other
    → GivesFrame file frames frame r → GivesFrame other others another s
    → AreAlike met r.reader.before.dictionary s.reader.before.dictionary → IsTrue same ↔ SameFrame frame another
sources_tell met one two r s same left right tells file other frames others frame another bytes also gives also_gives
    alike =
    let first = lent-source file frames frame r one gives left in
    let second = lent-source other others another s two also_gives right in
    let P : List Entry → Type 0 = λ held. AreAlike met held two.dictionary.now in
    let Q : List Entry → Type 0 = λ held. AreAlike met r.reader.before.dictionary held in
    let told = tells first.0 second.0 (subst P (sym left.dictionary) (subst Q (sym right.dictionary) alike)) in
    let same_frame = alike_tells (printed_entries r.reader.before.dictionary)
    (printed_entries s.reader.before.dictionary) frame another (frame_of one) (frame_of two) first.1 second.1
    (given-writable file frames frame r bytes gives) (given-writable other others another s also also_gives) in
    (λ is. same_frame.0 (told.0 is), λ is. told.1 (same_frame.1 is))

-- Where a test of sources answers, it says whether the frames that two readers lend as these are the same.
pub lent_tell : {E : Type 0} (met : List Bool) (one two : FrameSource) (r s : Frames) (result : Result Bool E)
    → IsLent r.reader one → IsLent s.reader two
    → IfOk result (λ same. IsSource one → IsSource two → AreAlike met one.dictionary.now two.dictionary.now
    → IsTrue same ↔ AreWrittenAlike (frame_of one) (frame_of two))
    → IfOk result (λ same. (file other : List ℕ) (frames others : List Frame) (frame another : Frame) → AreBytes file
    → AreBytes other → GivesFrame file frames frame r → GivesFrame other others another s
    → AreAlike met r.reader.before.dictionary s.reader.before.dictionary → IsTrue same ↔ SameFrame frame another)
lent_tell met one two r s (Err e) left right tells = tt
lent_tell met one two r s (Ok same) left right tells = sources_tell met one two r s same left right tells
