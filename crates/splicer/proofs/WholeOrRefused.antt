-- What is due of a splice is a whole file, or no part of it is well-formed.
use Rattle.std.proofs.Common.{◌≡◌, ℕ, ◌+◌, ◌≤◌, ◌<◌, nat_lt, Bool, true, false, if◌then◌else◌, List, [], ◌∷◌}
use Rattle.std.proofs.Common.{length, take, Option, Some, None, Ok, Err, refl, sym, subst, arith}
use Rattle.std.proofs.lemmas.Bool.{ltb-false}
use Rattle.std.specs.List.{AllZip}
use Rattle.frame_outside.specs.Shelf.{Files}
use Rattle.file_grammar.specs.Structure.{file_limit}
use Rattle.file_grammar.specs.MayStand.{frames_limit}
use Rattle.file_grammar.specs.Laws.{WellFormed}
use Rattle.frame_content.specs.Frames.{Frame}
use Rattle.canonical_file.specs.declared.closing.Closing.{Closing}
use Rattle.canonical_file.specs.Ranges.{AreBytes}
use Rattle.canonical_file.specs.Ordered.{IsInOrder}
use Rattle.canonical_file.specs.Splices.{as_used}
use Rattle.canonical_file.specs.Written.{header_alone, after_frames, canonical_file}
use Rattle.canonical_laws.specs.Laws.{ReadsBack}
use Rattle.canonical_laws.proofs.SplicedFrames.{no_part_of_a_spliced_file, spliced_back}
use Rattle.canonical_writer.specs.declared.errors.WriteError.TheVariants as error
use Rattle.canonical_writer.specs.Writer.{size_with}
use Rattle.frame_reader.specs.Gives.{Ending, Closes, Breaks, Gives}
use Rattle.splicer.specs.Left.{IsPart}
use Rattle.splicer.specs.Due.{Course, Passes, Refuses, course, Due, Writes, Stops, Next}
use Rattle.frame_reader.specs.Gives.{HoldBytes}
use Rattle.splicer.specs.Due.{closed_due, IsDueAtEnd, IsDueAfter, IsDueOfHeld, IsDueFrom, IsDue}
use Rattle.splicer.specs.Due.{output_of, is_whole}
use Rattle.splicer.specs.Laws.{NoPartIsWhole, WholeSplicesAreRead}
use Rattle.splicer.proofs.Copies.{file-size}
use Rattle.splicer.proofs.Courses.{stood_of, passes-stood}
use Rattle.splicer.proofs.Dues.{next_of}
use Rattle.splicer.proofs.KeptFrames.{AreOfFiles, AreKept, IsUnfinished, within-few, given-of-one, kept-unfinished}
use Rattle.splicer.proofs.KeptFrames.{taken-unfinished, kept-then}
use Rattle.splicer.proofs.TakenFrames.{AreWithin, AreTaken, course-takes}

-- ---- what is due

-- the frames of a whole file are spliced, and the file is within the limits
record AreWhole (closing : Closing) (frames : List Frame) : Type 0 where
  are : AreOfFiles closing frames
  few : length frames ≤ frames_limit
  short : length (canonical_file closing frames) ≤ file_limit

-- what is due is such a file, or no part of it is well-formed
abbrev IsWholeOrNot : Due → Type 0
IsWholeOrNot (Writes closing frames) = AreWhole closing frames
IsWholeOrNot (Stops error frames) = IsUnfinished frames

-- at the end of all inputs a whole file is due, or, past the limit of files, a head of which no part is well-formed
closed : (closing : Closing) (stood : List Frame) → AreOfFiles closing stood → AreWithin stood → (long : Bool)
    → nat_lt file_limit (size_with (after_frames header_alone stood) closing) ≡ long
    → IsWholeOrNot (closed_due (if long then Err error.OutputLimit
    else Ok (record {
      frames = (after_frames header_alone stood).frames;
      bytes = size_with (after_frames header_alone stood) closing;
    })) closing stood)
closed closing stood are within true is = kept-unfinished (Some closing) stood are within
closed closing stood are within false is = record {
  are = are;
  few = within-few stood within;
  short = subst (λ n. n ≤ file_limit) (sym (file-size closing stood))
      (ltb-false file_limit (size_with (after_frames header_alone stood) closing) is);
}

-- so what is due at the end of all inputs is whole, or no part of it is
at-end : (closing : Option Closing) (stood : List Frame) (due : Due) → AreKept closing stood → AreWithin stood
    → IsDueAtEnd closing stood due → IsWholeOrNot due
at-end None stood due kept within is = absurd is
at-end (Some closing) stood due kept within is =
    subst IsWholeOrNot (sym is)
    (closed closing stood kept within (nat_lt file_limit (size_with (after_frames header_alone stood) closing)) refl)

-- what is due of the inputs after one is
abbrev LaterAre : Next → Due → Type 0
LaterAre next due =
    (closing : Option Closing) (stood : List Frame) → AreKept closing stood → AreWithin stood → next closing stood due
    → IsWholeOrNot due

-- what is due after the frames of an input is, where that of the inputs after it is
after-input : (file : List ℕ) (closing : Option Closing) (stood frames ordered : List Frame) (ending : Ending)
    (number : ℕ) (next : Next) (due : Due) → AreBytes file → AreKept closing stood → AreWithin stood
    → Gives file frames ending → AllZip IsInOrder frames ordered → LaterAre next due → (c : Course)
    → course closing stood ordered ≡ c → IsDueAfter c ending closing number next due → IsWholeOrNot due
after-input file closing stood frames ordered ending number next due bytes kept within gives in_order later c came is =
    by c came (subst (λ (c : Course). AreTaken closing stood ordered (stood_of c)) came
    (course-takes closing stood ordered within)) ending gives is
  where
    by : (c : Course) → course closing stood ordered ≡ c → AreTaken closing stood ordered (stood_of c)
        → (ending : Ending) → Gives file frames ending → IsDueAfter c ending closing number next due
        → IsWholeOrNot due
    by (Refuses error then_stand) came taken ending gives is =
        subst IsWholeOrNot (sym is) (taken-unfinished closing stood ordered then_stand kept
        (given-of-one file frames ordered ending bytes gives in_order) taken)
    by (Passes then_stand) came taken (Breaks fault) gives is =
        subst IsWholeOrNot (sym is) (taken-unfinished closing stood ordered then_stand kept
        (given-of-one file frames ordered (Breaks fault) bytes gives in_order) taken)
    by (Passes then_stand) came taken (Closes own) gives is =
        later _ then_stand
        (kept-then closing own file stood frames ordered then_stand bytes kept gives in_order
        (passes-stood closing stood ordered then_stand came) taken)
        taken.within is

-- so what is due of an input that is held or not is
of-held : (held : Option (List ℕ)) (closing : Option Closing) (stood : List Frame) (number : ℕ) (next : Next)
    (due : Due) → ((file : List ℕ) → held ≡ Some file → AreBytes file) → AreKept closing stood → AreWithin stood
    → LaterAre next due → IsDueOfHeld held closing stood number next due → IsWholeOrNot due
of-held None closing stood number next due bytes kept within later is =
    subst IsWholeOrNot (sym is) (kept-unfinished closing stood kept within)
of-held (Some file) closing stood number next due bytes kept within later is =
    after-input file closing stood is.frames is.ordered is.ending number next due (bytes file refl) kept within is.gives
    is.in_order later (course closing stood is.ordered) refl is.is

-- and what is due of all inputs from one on is
of-inputs : (files : Files) (names : List (List ℕ)) (closing : Option Closing) (stood : List Frame) (number : ℕ)
    (due : Due) → HoldBytes files → AreKept closing stood → AreWithin stood
    → IsDueFrom files closing stood number names due → IsWholeOrNot due
of-inputs files [] closing stood number due bytes kept within is = at-end closing stood due kept within is
of-inputs files (name ∷ names) closing stood number due bytes kept within is =
    of-held (files name) closing stood number (next_of files names number) due (bytes name) kept within
    (λ held then_stand kept within next. of-inputs files names held then_stand (number + 1) due bytes kept within next)
    is

-- So what is due of a splice is a whole file, or no part of it is well-formed.
whole-or-not : (files : Files) (names : List (List ℕ)) (due : Due) → IsDue files names due → IsWholeOrNot due
whole-or-not files names due is =
    of-inputs files names None [] 0 due is.bytes refl (record { few = omega arith; short = omega arith }) is.from

-- ---- the laws

-- no part of what is due is well-formed
pub no-part-whole : NoPartIsWhole
no-part-whole files names due n is part whole = by due (whole-or-not files names due is) part whole
  where
    by : (due : Due) → IsWholeOrNot due → IsPart (is_whole due) n (output_of due)
        → WellFormed (take n (output_of due)) → ⊥
    by (Writes closing frames) all part whole =
        no_part_of_a_spliced_file closing all.are.front all.are.back n all.are.spliced
        (subst (λ fs. length fs ≤ frames_limit) all.are.is all.few)
        (subst (λ fs. length (canonical_file closing fs) ≤ file_limit) all.are.is all.short)
        (subst (λ fs. n < length (canonical_file closing fs)) all.are.is part)
        (subst (λ fs. WellFormed (take n (canonical_file closing fs))) all.are.is whole)
    by (Stops error frames) none part whole = none n whole

-- what is written whole is read back
pub whole-read : WholeSplicesAreRead
whole-read files names closing frames is =
    let all : AreWhole closing frames = whole-or-not files names (Writes closing frames) is in
    subst (λ fs. ReadsBack (canonical_file closing fs) closing (as_used fs)) (sym all.are.is)
    (spliced_back closing all.are.front all.are.back all.are.spliced
    (subst (λ fs. length fs ≤ frames_limit) all.are.is all.few)
    (subst (λ fs. length (canonical_file closing fs) ≤ file_limit) all.are.is all.short))
