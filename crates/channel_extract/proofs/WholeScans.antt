-- What a scan writes whole is the canonical file of an extraction, well-formed, and no part of it is.
use Rattle.std.proofs.Common.{◌≡◌, ℕ, ◌≤◌, List, [], ◌∷◌, ◌++◌, length, take, Option, Some, None, refl, sym}
use Rattle.std.proofs.Common.{ap, ◌∙◌}
use Rattle.std.proofs.Common.{subst, arith, length-append}
use Rattle.std.specs.List.{AllByRecursion}
use Rattle.frame_outside.specs.Shelf.{Files}
use Rattle.dictionary.specs.declared.entries.Entry.{Entry}
use Rattle.file_grammar.specs.Structure.{file_limit}
use Rattle.file_grammar.specs.Laws.{WellFormed}
use Rattle.frame_content.specs.Frames.{Frame}
use Rattle.contents_table.specs.declared.kind.Kind.{Kind}
use Rattle.canonical_file.specs.declared.closing.Closing.{Closing}
use Rattle.canonical_file.specs.Ranges.{AreBytes}
use Rattle.canonical_file.specs.Written.{canonical_head}
use Rattle.canonical_file.proofs.Sizes.{head-size}
use Rattle.canonical_laws.specs.Writable.{IsWritableFrame}
use Rattle.canonical_laws.proofs.OpenHeads.{no_part_of_a_head, no_part_of_a_file}
use Rattle.canonical_laws.proofs.WholeFiles.{read_back}
use Rattle.splicer.specs.Due.{course}
use Rattle.splicer.proofs.Courses.{stood_of}
use Rattle.splicer.proofs.FirstPut.{none-held}
use Rattle.splicer.proofs.TakenFrames.{AreTaken, course-takes}
use Rattle.channel_extract.specs.declared.errors.ExtractError.{ExtractError}
use Rattle.channel_extract.specs.Due.{Writes, Stops}
use Rattle.channel_extract.specs.Scans.{IsDueOf, IsDueOfHeld, IsDue}
use Rattle.channel_extract.specs.Laws.{ScansAreCanonical, WholeScansAreRead, NoPartOfAScanIsWhole}
use Rattle.channel_extract.proofs.GivenCuts.{AreCuts, AreClosed, closed-cuts, given-cuts}
use Rattle.channel_extract.proofs.DueScans.{HasScan, whole-of, stops-after}

-- ---- a file that is held

-- the file that is held, with its scan
pub record HoldsScan (files : Files) (from : List ℕ) (kind : Kind) (name : List ℕ) (closing : Closing)
    (cuts : List Frame) : Type 0 where
  pub file : List ℕ
  pub held : files from ≡ Some file
  pub scan : HasScan file kind name closing cuts

pub holds-scan : (files : Files) (from : List ℕ) (kind : Kind) (name : List ℕ) (closing : Closing) (cuts : List Frame)
    → IsDue files from kind name (Writes closing cuts) → HoldsScan files from kind name closing cuts
holds-scan files from kind name closing cuts due = by (files from) refl due.of
  where
    by : (held : Option (List ℕ)) → files from ≡ held → IsDueOfHeld held kind name (Writes closing cuts)
        → HoldsScan files from kind name closing cuts
    by None told is = absurd cc
    by (Some file) told is = record { file = file; held = told; scan = whole-of file kind name closing cuts is }

pub scans-canonical : ScansAreCanonical
scans-canonical files from kind name closing cuts due =
    let found = holds-scan files from kind name closing cuts due in (
      record { closing = closing; frames = found.scan.frames },
      record {
        file = found.file;
        held = found.held;
        content = found.scan.has;
        canonical = record { ordered = cuts; in_order = found.scan.in_order; is = refl };
      },
    )

-- the cuts can be written with their closing
scan-closed : (files : Files) (from : List ℕ) (kind : Kind) (name : List ℕ) (closing : Closing) (cuts : List Frame)
    → IsDue files from kind name (Writes closing cuts) → HoldsScan files from kind name closing cuts
    → AreClosed closing cuts
scan-closed files from kind name closing cuts due found =
    closed-cuts found.file kind name closing found.scan.frames cuts (due.bytes from found.file found.held)
    found.scan.has found.scan.in_order

pub scans-read : WholeScansAreRead
scans-read files from kind name closing cuts due =
    let found = holds-scan files from kind name closing cuts due in
    let all = scan-closed files from kind name closing cuts due found in
    read_back all.dictionary cuts closing all.cuts.sound all.cuts.are all.closing_is all.cuts.few found.scan.short

-- ---- parts

-- no part of the head of these is well-formed
abbrev IsUnfinished : List Frame → Type 0
IsUnfinished cuts = (n : ℕ) → WellFormed (take n (canonical_head cuts)) → ⊥

front-are : (dictionary : List Entry) (front back : List Frame)
    → AllByRecursion (IsWritableFrame dictionary) (front ++ back) → AllByRecursion (IsWritableFrame dictionary) front
front-are dictionary [] back all = tt
front-are dictionary (f ∷ front) back all = (all.0, front-are dictionary front back all.1)

taken-unfinished : (dictionary : List Entry) (ordered stood : List Frame) → AreCuts dictionary ordered
    → AreTaken None [] ordered stood → IsUnfinished stood
taken-unfinished dictionary ordered stood cuts taken n whole =
    no_part_of_a_head dictionary stood n cuts.sound
    (front-are dictionary stood taken.rest (subst (AllByRecursion (IsWritableFrame dictionary)) split cuts.are))
    (let long = length-append stood taken.rest in
    let same : length ordered ≡ length (stood ++ taken.rest) = ap (λ (fs : List Frame). length fs) split in
    omega (arith, long, same, cuts.few))
    (subst (λ n. n ≤ file_limit) (sym (head-size stood)) taken.within.short) whole
  where
    split : ordered ≡ stood ++ taken.rest
    split = taken.first ∙ ap (λ fs. fs ++ taken.rest) (sym taken.stand)

none-unfinished : IsUnfinished []
none-unfinished n whole =
    no_part_of_a_head [] [] n none-held tt (omega arith)
    (subst (λ size. size ≤ file_limit) (sym (head-size [])) (omega arith)) whole

stopped : (file : List ℕ) (kind : Kind) (name : List ℕ) (error : ExtractError) (cuts : List Frame) → AreBytes file
    → IsDueOf file kind name (Stops error cuts) → IsUnfinished cuts
stopped file kind name error cuts bytes is =
    let found = given-cuts file kind name is.frames is.ordered is.ending bytes is.gives is.in_order in
    subst IsUnfinished (sym (stops-after error cuts (course None [] is.ordered) is.ending is.is))
    (taken-unfinished found.0 is.ordered (stood_of (course None [] is.ordered)) found.1
    (course-takes None [] is.ordered (record { few = omega arith; short = omega arith })))

stopped-held : (held : Option (List ℕ)) (kind : Kind) (name : List ℕ) (error : ExtractError) (cuts : List Frame)
    → ((file : List ℕ) → held ≡ Some file → AreBytes file) → IsDueOfHeld held kind name (Stops error cuts)
    → IsUnfinished cuts
stopped-held None kind name error cuts bytes is =
    let none : cuts ≡ [] = cc in subst IsUnfinished (sym none) none-unfinished
stopped-held (Some file) kind name error cuts bytes is = stopped file kind name error cuts (bytes file refl) is

pub no-part-whole : NoPartOfAScanIsWhole
no-part-whole files from kind name (Writes closing cuts) n due part whole =
    let found = holds-scan files from kind name closing cuts due in
    let all = scan-closed files from kind name closing cuts due found in
    no_part_of_a_file all.dictionary cuts closing n all.cuts.sound all.cuts.are all.closing_is all.cuts.few
    found.scan.short part whole
no-part-whole files from kind name (Stops error cuts) n due part whole =
    stopped-held (files from) kind name error cuts (due.bytes from) due.of n whole
