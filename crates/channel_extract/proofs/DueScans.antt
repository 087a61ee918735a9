-- What is due of a scan: there is one, and no other; and what is known of it where it is written whole, and where not.
use Rattle.std.proofs.Common.{◌≡◌, ℕ, ◌≤◌, nat_lt, Bool, true, false, if◌then◌else◌, List, [], ◌∷◌, length}
use Rattle.std.proofs.Common.{Option, Some, None, refl, sym, ◌∙◌, subst}
use Rattle.std.specs.List.{AllZip}
use Rattle.std.proofs.lemmas.Bool.{ltb-false}
use Rattle.file_grammar.specs.Structure.{file_limit}
use Rattle.frame_content.specs.Frames.{Frame}
use Rattle.contents_table.specs.declared.kind.Kind.{Kind}
use Rattle.canonical_file.specs.declared.closing.Closing.{Closing}
use Rattle.canonical_file.specs.Ranges.{AreBytes}
use Rattle.canonical_file.specs.Ordered.{IsInOrder}
use Rattle.canonical_file.specs.Written.{header_alone, after_frames, canonical_file}
use Rattle.canonical_laws.specs.Content.{HasContent}
use Rattle.canonical_writer.specs.declared.errors.WriteError.{WriteError}
use Rattle.canonical_writer.specs.declared.errors.WriteError.TheVariants as write
use Rattle.canonical_writer.specs.Writer.{size_with}
use Rattle.frame_reader.specs.Gives.{Ending, Closes, Breaks, Gives}
use Rattle.frame_reader.proofs.FirstItems.{given-same, one_order, some_orders, each-gives}
use Rattle.splicer.specs.Due.{Course, Passes, Refuses, course}
use Rattle.splicer.proofs.Courses.{stood_of, passes-stood}
use Rattle.splicer.proofs.Copies.{file-size}
use Rattle.channel_extract.specs.declared.errors.ExtractError.{ExtractError}
use Rattle.channel_extract.specs.declared.errors.ExtractError.TheVariants as extract
use Rattle.channel_extract.specs.Cuts.{extraction}
use Rattle.channel_extract.specs.Due.{Due, Writes, Stops}
use Rattle.channel_extract.specs.Scans.{closing_due, IsDueAfter, IsDueOf, IsDueOfHeld}
use Rattle.channel_extract.specs.Laws.{EachScanHasADue, NoScanHasTwoDues}
use Rattle.channel_extract.proofs.RefusedCuts.{only-bytes}

-- ---- one due, and some

-- one is due after the same cuts and ending
one-after : (c : Course) (ending : Ending) (first second : Due) → IsDueAfter c ending first → IsDueAfter c ending second
    → first ≡ second
one-after (Refuses error stood) ending first second left right = left.1 ∙ sym right.1
one-after (Passes stood) (Breaks fault) first second left right = left ∙ sym right
one-after (Passes stood) (Closes closing) first second left right = left ∙ sym right

-- what is due by what a file gives is due whichever way that was found
pub one-of-same : (kind : Kind) (name : List ℕ) (file other : List ℕ) (first second : Due)
    (left : IsDueOf file kind name first) (right : IsDueOf other kind name second) → left.ordered ≡ right.ordered
    → left.ending ≡ right.ending → first ≡ second
one-of-same kind name file other first second left right orders endings =
    let P : List Frame → Type 0 = λ os. IsDueAfter (course None [] os) left.ending first in
    let Q : Ending → Type 0 = λ e. IsDueAfter (course None [] right.ordered) e first in
    one-after (course None [] right.ordered) right.ending first second (subst Q endings (subst P orders left.is))
    right.is

one-of : (kind : Kind) (name : List ℕ) (file : List ℕ) (first second : Due) → IsDueOf file kind name first
    → IsDueOf file kind name second → first ≡ second
one-of kind name file first second left right =
    let same = given-same file left.frames right.frames left.ending right.ending left.gives right.gives in
    let R : List Frame → Type 0 = λ fs. AllZip IsInOrder (extraction kind name fs) left.ordered in
    one-of-same kind name file file first second left right
    (one_order (extraction kind name right.frames) left.ordered right.ordered (subst R same.0 left.in_order)
    right.in_order)
    same.1

one-of-held : (kind : Kind) (name : List ℕ) (held : Option (List ℕ)) (first second : Due)
    → IsDueOfHeld held kind name first → IsDueOfHeld held kind name second → first ≡ second
one-of-held kind name None first second left right = left ∙ sym right
one-of-held kind name (Some file) first second left right = one-of kind name file first second left right

pub no-two-dues : NoScanHasTwoDues
no-two-dues files from kind name first second left right =
    one-of-held kind name (files from) first second left.of right.of

some-after : (c : Course) (ending : Ending)
    → ((error : WriteError) (stood : List Frame) → c ≡ Refuses error stood → error ≡ write.OutputLimit)
    → (due : Due) × IsDueAfter c ending due
some-after (Refuses error stood) ending limited = (Stops extract.OutputLimit stood, (limited error stood refl, refl))
some-after (Passes stood) (Breaks fault) limited = (Stops (extract.Fault fault) stood, refl)
some-after (Passes stood) (Closes closing) limited = (closing_due closing stood, refl)

some-of-held : (kind : Kind) (name : List ℕ) (held : Option (List ℕ))
    → ((file : List ℕ) → held ≡ Some file → AreBytes file) → (due : Due) × IsDueOfHeld held kind name due
some-of-held kind name None bytes = (Stops extract.Device [], refl)
some-of-held kind name (Some file) bytes =
    let given = each-gives file in
    let orders = some_orders (extraction kind name given.0) in
    let found = some-after (course None [] orders.0) given.2
    (λ error stood refuses. only-bytes file kind name given.0 orders.0 stood given.2 error (bytes file refl) given.3
    orders.1 refuses) in (
      found.0,
      record {
        frames = given.0;
        ordered = orders.0;
        ending = given.2;
        gives = given.3;
        in_order = orders.1;
        is = found.1;
      },
    )

pub a-due : EachScanHasADue
a-due files from kind name bytes =
    let found = some-of-held kind name (files from) (bytes from) in
    (found.0, record { bytes = bytes; of = found.1 })

-- ---- what is written whole

-- The file is well-formed, and these are all cuts of its frames. Their canonical file is within the limit.
pub record HasScan (file : List ℕ) (kind : Kind) (name : List ℕ) (closing : Closing) (cuts : List Frame) : Type 0 where
  pub frames : List Frame
  pub has : HasContent file (record { closing = closing; frames = frames })
  pub in_order : AllZip IsInOrder (extraction kind name frames) cuts
  pub short : length (canonical_file closing cuts) ≤ file_limit

-- what is due to be written at the closing is the closing with what stands, within the limit
record IsClosed (closing own : Closing) (cuts stood : List Frame) : Type 0 where
  closing_is : own ≡ closing
  stood_is : stood ≡ cuts
  short : length (canonical_file closing cuts) ≤ file_limit

closed-long : (closing own : Closing) (cuts : List Frame) (o : Frame) (os : List Frame) (long : Bool)
    → nat_lt file_limit (size_with (after_frames header_alone (o ∷ os)) own) ≡ long
    → Writes closing cuts ≡ (if long then Stops extract.OutputLimit (o ∷ os) else Writes own (o ∷ os))
    → IsClosed closing own cuts (o ∷ os)
closed-long closing own cuts o os true is due = absurd cc
closed-long closing own cuts o os false is due =
    let same_closing : own ≡ closing = cc in
    let same_cuts : o ∷ os ≡ cuts = cc in
    record {
      closing_is = same_closing;
      stood_is = same_cuts;
      short = subst (λ n. n ≤ file_limit) (λ i. length (canonical_file (same_closing i) (same_cuts i)))
          (subst (λ n. n ≤ file_limit) (sym (file-size own (o ∷ os)))
          (ltb-false file_limit (size_with (after_frames header_alone (o ∷ os)) own) is));
    }

closed : (closing own : Closing) (cuts stood : List Frame) → Writes closing cuts ≡ closing_due own stood
    → IsClosed closing own cuts stood
closed closing own cuts [] due = absurd cc
closed closing own cuts (o ∷ os) due =
    closed-long closing own cuts o os (nat_lt file_limit (size_with (after_frames header_alone (o ∷ os)) own)) refl due

whole-after : (file : List ℕ) (kind : Kind) (name : List ℕ) (closing : Closing) (cuts frames ordered : List Frame)
    (ending : Ending) (c : Course) → Gives file frames ending → AllZip IsInOrder (extraction kind name frames) ordered
    → course None [] ordered ≡ c → IsDueAfter c ending (Writes closing cuts) → HasScan file kind name closing cuts
whole-after file kind name closing cuts frames ordered ending (Refuses error stood) gives in_order came is =
    absurd (by is.1)
  where
    by : Writes closing cuts ≡ Stops extract.OutputLimit stood → ⊥
    by same = cc
whole-after file kind name closing cuts frames ordered (Breaks fault) (Passes stood) gives in_order came is = absurd cc
whole-after file kind name closing cuts frames ordered (Closes own) (Passes stood) gives in_order came is =
    let all = closed closing own cuts stood is in
    let same : ordered ≡ cuts = sym (passes-stood None [] ordered stood came) ∙ all.stood_is in
    record {
      frames = frames;
      has = subst (λ c. HasContent file (record { closing = c; frames = frames })) all.closing_is gives;
      in_order = subst (AllZip IsInOrder (extraction kind name frames)) same in_order;
      short = all.short;
    }

pub whole-of : (file : List ℕ) (kind : Kind) (name : List ℕ) (closing : Closing) (cuts : List Frame)
    → IsDueOf file kind name (Writes closing cuts) → HasScan file kind name closing cuts
whole-of file kind name closing cuts is =
    whole-after file kind name closing cuts is.frames is.ordered is.ending (course None [] is.ordered) is.gives
    is.in_order refl is.is

-- ---- what stands else

stops-at-closing : (error : ExtractError) (own : Closing) (cuts stood : List Frame)
    → Stops error cuts ≡ closing_due own stood → cuts ≡ stood
stops-at-closing error own cuts [] due = cc
stops-at-closing error own cuts (o ∷ os) due =
    by (nat_lt file_limit (size_with (after_frames header_alone (o ∷ os)) own)) due
  where
    by : (long : Bool)
        → Stops error cuts ≡ (if long then Stops extract.OutputLimit (o ∷ os) else Writes own (o ∷ os))
        → cuts ≡ o ∷ os
    by true is = cc
    by false is = absurd cc

-- the cuts that stand at an error are those that were taken
pub stops-after : (error : ExtractError) (cuts : List Frame) (c : Course) (ending : Ending)
    → IsDueAfter c ending (Stops error cuts) → cuts ≡ stood_of c
stops-after error cuts (Refuses refusal stood) ending is = by is.1
  where
    by : Stops error cuts ≡ Stops extract.OutputLimit stood → cuts ≡ stood
    by same = cc
stops-after error cuts (Passes stood) (Breaks fault) is = cc
stops-after error cuts (Passes stood) (Closes own) is = stops-at-closing error own cuts stood is
