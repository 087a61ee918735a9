-- What comes of cuts as they are written one after another is what is due of them.
use Rattle.std.proofs.Common.{◌≡◌, ℕ, ◌<◌, ◌≤◌, inl, inr, Bool, true, false, Option, Some, None, List, [], ◌∷◌}
use Rattle.std.proofs.Common.{◌++◌, length, refl, sym, ap, ◌∙◌, subst, arith}
use Rattle.std.specs.Prelude.{if◌then◌else◌, nat_le, nat_lt, Result, Ok, Err}
use Rattle.std.specs.List.{AllZip}
use Rattle.std.proofs.lemmas.Bool.{le-leb, ltb-false, ltb-true, lt-leb, le-ltb, lt-ltb}
use Rattle.std.proofs.lemmas.List.{append_assoc, append-nil, length-append}
use Rattle.std.proofs.lemmas.List.Sums.{fold-append}
use Rattle.file_grammar.specs.Structure.{file_limit}
use Rattle.file_grammar.specs.MayStand.{frames_limit}
use Rattle.file_grammar.proofs.OneAnswer.{not_both}
use Rattle.file_grammar.proofs.Prefixes.{items_unique}
use Rattle.frame_content.specs.Frames.{Frame}
use Rattle.canonical_file.specs.declared.closing.Closing.{Closing}
use Rattle.canonical_file.specs.Contents.{Content}
use Rattle.canonical_file.specs.Ordered.{IsInOrder}
use Rattle.canonical_file.specs.Splices.{clash_of}
use Rattle.canonical_file.specs.Written.{header_alone, after_frame, after_frames, closing_part, canonical_head}
use Rattle.canonical_file.specs.Written.{canonical_file}
use Rattle.canonical_file.proofs.Sizes.{head-size}
use Rattle.canonical_laws.specs.Content.{closing_by, content_of}
use Rattle.canonical_writer.specs.declared.errors.WriteError.{WriteError}
use Rattle.canonical_writer.specs.declared.errors.WriteError.TheVariants as write
use Rattle.canonical_writer.specs.Writer.{clash_or_limit, frame_due, size_with}
use Rattle.frame_reader.specs.Gives.{Ending as FileEnding, Closes, Breaks, Gives}
use Rattle.splicer.specs.Due.{Course, Passes, Refuses, course_by, course}
use Rattle.channel_extract.specs.declared.errors.ExtractError.TheVariants as extract
use Rattle.channel_extract.specs.Cuts.{extraction}
use Rattle.channel_extract.specs.Due.{Due, Writes, Stops, output_of}
use Rattle.channel_extract.specs.Scans.{closing_due as scan_due, IsDueAfter}
use Rattle.channel_extract.specs.ByTable.{Ending, NoChannel, Whole, Extraction, whole_of, by_reading}
use Rattle.channel_extract.specs.Answers.{Answer, Ended, TooLong, is_within, fitting, stops, ended_due, due_of}
use Rattle.channel_extract.specs.TableLaws.{answer_of_scan, IsDueByReading, ScansAreDueByReading, whole_extraction}

-- the size of what stands with one more frame
size-more : (stood : List Frame) (f : Frame)
    → length (canonical_head (stood ++ f ∷ [])) ≡ (after_frame (after_frames header_alone stood) f).size
size-more stood f =
    head-size (stood ++ f ∷ []) ∙ ap (λ w. w.size) (fold-append after_frame header_alone stood (f ∷ []))

abbrev by_limit : Bool → Result Unit WriteError
by_limit b = if b then Err write.OutputLimit else Ok tt

limit-ok : (b : Bool) → by_limit b ≡ Ok tt → b ≡ false
limit-ok true is = absurd (cc)
limit-ok false is = refl

limit-err : (b : Bool) → by_limit b ≡ Err write.OutputLimit → b ≡ true
limit-err true is = refl
limit-err false is = absurd (cc)

-- what is taken is within the limit, and what is refused for it is not
taken-size : (b : Bool) (o : Option ℕ) (size : ℕ)
    → (if b then Err write.FramesLimit else clash_or_limit o size) ≡ Ok tt → size ≤ file_limit
taken-size true o size is = absurd (cc)
taken-size false (Some class) size is = absurd (cc)
taken-size false None size is = ltb-false file_limit size (limit-ok (nat_lt file_limit size) is)

refused-size : (b : Bool) (o : Option ℕ) (size : ℕ)
    → (if b then Err write.FramesLimit else clash_or_limit o size) ≡ Err write.OutputLimit → file_limit < size
refused-size true o size is = absurd (cc)
refused-size false (Some class) size is = absurd (cc)
refused-size false None size is = ltb-true file_limit size (limit-err (nat_lt file_limit size) is)

within-taken : (stood : List Frame) (f : Frame) → frame_due None (after_frames header_alone stood) f ≡ Ok tt
    → is_within (stood ++ f ∷ []) ≡ true
within-taken stood f is =
    let w = after_frames header_alone stood in
    let size = taken-size (nat_le frames_limit w.frames) (clash_of None w.entries f) (after_frame w f).size is in
    le-leb (length (canonical_head (stood ++ f ∷ []))) file_limit (omega (arith, size, size-more stood f))

past-refused : (stood : List Frame) (f : Frame)
    → frame_due None (after_frames header_alone stood) f ≡ Err write.OutputLimit → is_within (stood ++ f ∷ []) ≡ false
past-refused stood f is =
    let w = after_frames header_alone stood in
    let size = refused-size (nat_le frames_limit w.frames) (clash_of None w.entries f) (after_frame w f).size is in
    lt-leb (length (canonical_head (stood ++ f ∷ []))) file_limit (omega (arith, size, size-more stood f))

if-true : {X : Type 0} (b : Bool) (x y : X) → b ≡ true → (if b then x else y) ≡ x
if-true true x y is = refl
if-true false x y is = absurd (cc)

if-false : {X : Type 0} (b : Bool) (x y : X) → b ≡ false → (if b then x else y) ≡ y
if-false true x y is = absurd (cc)
if-false false x y is = refl

-- Frames that are all taken fit, one after another.
pub all-fit : (fs stood final : List Frame) → course None stood fs ≡ Passes final
    → (fitting stood fs ≡ stood ++ fs) × (final ≡ stood ++ fs)
all-fit [] stood final is =
    let same : final ≡ stood = cc in
    (sym (append-nil stood), same ∙ sym (append-nil stood))
all-fit (f ∷ fs) stood final is =
    by (frame_due None (after_frames header_alone stood) f) refl (all-fit fs (stood ++ f ∷ []) final) is
  where
    by : (r : Result Unit WriteError) → frame_due None (after_frames header_alone stood) f ≡ r
        → (course None (stood ++ f ∷ []) fs ≡ Passes final
        → (fitting (stood ++ f ∷ []) fs ≡ (stood ++ f ∷ []) ++ fs) × (final ≡ (stood ++ f ∷ []) ++ fs))
        → course_by r stood (course None (stood ++ f ∷ []) fs) ≡ Passes final
        → (fitting stood (f ∷ fs) ≡ stood ++ f ∷ fs) × (final ≡ stood ++ f ∷ fs)
    by (Ok x) taken rest is =
        let later = rest is in (
          if-true (is_within (stood ++ f ∷ [])) (fitting (stood ++ f ∷ []) fs) stood (within-taken stood f taken)
              ∙ later.0 ∙ append_assoc stood (f ∷ []) fs,
          later.1 ∙ append_assoc stood (f ∷ []) fs,
        )
    by (Err e) refused rest is = absurd (cc)

-- Where one is refused for the limit, those before it fit.
pub some-fit : (fs stood left : List Frame) → course None stood fs ≡ Refuses write.OutputLimit left
    → (fitting stood fs ≡ left) × (length left < length (stood ++ fs))
some-fit [] stood left is = absurd (cc)
some-fit (f ∷ fs) stood left is =
    by (frame_due None (after_frames header_alone stood) f) refl (some-fit fs (stood ++ f ∷ []) left) is
  where
    by : (r : Result Unit WriteError) → frame_due None (after_frames header_alone stood) f ≡ r
        → (course None (stood ++ f ∷ []) fs ≡ Refuses write.OutputLimit left
        → (fitting (stood ++ f ∷ []) fs ≡ left) × (length left < length ((stood ++ f ∷ []) ++ fs)))
        → course_by r stood (course None (stood ++ f ∷ []) fs) ≡ Refuses write.OutputLimit left
        → (fitting stood (f ∷ fs) ≡ left) × (length left < length (stood ++ f ∷ fs))
    by (Ok x) taken rest is =
        let later = rest is in (
          if-true (is_within (stood ++ f ∷ [])) (fitting (stood ++ f ∷ []) fs) stood (within-taken stood f taken)
              ∙ later.0,
          subst (λ all. length left < length all) (append_assoc stood (f ∷ []) fs) later.1,
        )
    by (Err e) refused rest is =
        let limit : e ≡ write.OutputLimit = cc in
        let same : stood ≡ left = cc in (
          if-false (is_within (stood ++ f ∷ [])) (fitting (stood ++ f ∷ []) fs) stood
              (past-refused stood f (refused ∙ ap Err limit)) ∙ same,
          omega (arith, length-append stood (f ∷ fs), ap length same),
        )

-- ---- what is due of a scan

-- the size of the whole file
size-whole : (closing : Closing) (fs : List Frame)
    → length (canonical_file closing fs) ≡ size_with (after_frames header_alone fs) closing
size-whole closing fs =
    let joined = length-append (canonical_head fs) (closing_part (after_frames header_alone fs) closing) in
    omega (arith, joined, head-size fs)

-- all fit
all-due : (closing : Closing) (ending : Ending) (fs : List Frame) → fitting [] fs ≡ fs
    → due_of closing ending fs ≡ ended_due closing ending fs
all-due closing ending fs fit =
    if-false (nat_lt (length (fitting [] fs)) (length fs)) (stops TooLong (fitting [] fs)) (ended_due closing ending fs)
    (le-ltb (length (fitting [] fs)) (length fs) (omega (arith, ap length fit)))

some-due : (closing : Closing) (ending : Ending) (fs left : List Frame) → fitting [] fs ≡ left
    → length left < length fs → due_of closing ending fs ≡ stops TooLong left
some-due closing ending fs left fit less =
    if-true (nat_lt (length (fitting [] fs)) (length fs)) (stops TooLong (fitting [] fs)) (ended_due closing ending fs)
    (lt-ltb (length (fitting [] fs)) (length fs) (omega (arith, ap length fit, less)))
    ∙ ap (stops TooLong) fit

by-due : (closing : Closing) (x : Extraction) (fs : List Frame) (due : Due) → AllZip IsInOrder x.cuts fs
    → (answer : Answer) → answer_of_scan due ≡ Some answer → answer ≡ (due_of closing x.ending fs).answer
    → output_of due ≡ (due_of closing x.ending fs).output → IsDueByReading closing x due
by-due closing x fs due orders answer is one two = record {
  answer = answer;
  is = is;
  answer_due = record { frames = fs; in_order = orders; is = one };
  output_due = record { frames = fs; in_order = orders; is = two };
}

cuts-due : (closing : Closing) (cuts fs : List Frame) → AllZip IsInOrder cuts fs → (c : Course) → course None [] fs ≡ c
    → (due : Due) → IsDueAfter c (Closes closing) due → IsDueByReading closing (whole_of cuts) due
cuts-due closing [] (o ∷ os) orders c is due after = absurd orders
cuts-due closing (x ∷ xs) [] orders c is due after = absurd orders
cuts-due closing [] [] orders (Passes stood) is due after =
    let fit = all-fit [] [] stood is in
    let own : due ≡ Stops extract.NoChannel [] = after ∙ ap (scan_due closing) fit.1 in
    by-due closing (whole_of []) [] due tt (Ended NoChannel) (ap answer_of_scan own) refl (ap output_of own)
cuts-due closing [] [] orders (Refuses error stood) is due after = absurd (cc)
cuts-due closing (x ∷ xs) (o ∷ os) orders (Passes stood) is due after =
    let fs = o ∷ os in
    let fit = all-fit fs [] stood is in
    let own : due ≡ scan_due closing fs = after ∙ ap (scan_due closing) fit.1 in
    by fit.0 (nat_lt file_limit (size_with (after_frames header_alone fs) closing)) refl own
  where
    by : fitting [] (o ∷ os) ≡ o ∷ os → (b : Bool)
        → nat_lt file_limit (size_with (after_frames header_alone (o ∷ os)) closing) ≡ b
        → due ≡ (if nat_lt file_limit (size_with (after_frames header_alone (o ∷ os)) closing)
        then Stops extract.OutputLimit (o ∷ os) else Writes closing (o ∷ os))
        → IsDueByReading closing (whole_of (x ∷ xs)) due
    by fit true long own =
        let fs = o ∷ os in
        let is : due ≡ Stops extract.OutputLimit fs =
        own ∙ ap (λ b. if b then Stops extract.OutputLimit fs else Writes closing fs) long in
        let past = ltb-true file_limit (size_with (after_frames header_alone fs) closing) long in
        let told : due_of closing Whole fs ≡ stops TooLong fs =
        all-due closing Whole fs fit
        ∙ if-false (nat_le (length (canonical_file closing fs)) file_limit)
        (record { answer = Ended Whole; output = canonical_file closing fs }) (stops TooLong fs)
        (lt-leb (length (canonical_file closing fs)) file_limit (omega (arith, past, size-whole closing fs))) in
        by-due closing (whole_of (x ∷ xs)) fs due orders TooLong (ap answer_of_scan is)
        (sym (ap (λ d. d.answer) told)) (ap output_of is ∙ sym (ap (λ d. d.output) told))
    by fit false short own =
        let fs = o ∷ os in
        let is : due ≡ Writes closing fs =
        own ∙ ap (λ b. if b then Stops extract.OutputLimit fs else Writes closing fs) short in
        let within = ltb-false file_limit (size_with (after_frames header_alone fs) closing) short in
        let told : due_of closing Whole fs ≡ record { answer = Ended Whole; output = canonical_file closing fs } =
        all-due closing Whole fs fit
        ∙ if-true (nat_le (length (canonical_file closing fs)) file_limit)
        (record { answer = Ended Whole; output = canonical_file closing fs }) (stops TooLong fs)
        (le-leb (length (canonical_file closing fs)) file_limit (omega (arith, within, size-whole closing fs))) in
        by-due closing (whole_of (x ∷ xs)) fs due orders (Ended Whole) (ap answer_of_scan is)
        (sym (ap (λ d. d.answer) told)) (ap output_of is ∙ sym (ap (λ d. d.output) told))
cuts-due closing (x ∷ xs) (o ∷ os) orders (Refuses error stood) is due after =
    let fs = o ∷ os in
    let fit = some-fit fs [] stood (is ∙ ap (λ e. Refuses e stood) after.0) in
    let told : due_of closing Whole fs ≡ stops TooLong stood = some-due closing Whole fs stood fit.0 fit.1 in
    by-due closing (whole_of (x ∷ xs)) fs due orders TooLong (ap answer_of_scan after.1)
    (sym (ap (λ d. d.answer) told)) (ap output_of after.1 ∙ sym (ap (λ d. d.output) told))

pub scans_due : ScansAreDueByReading
scans_due file order items last kind name due well d = by d.ending d.gives d.is
  where
    by : (ending : FileEnding) → Gives file d.frames ending → IsDueAfter (course None [] d.ordered) ending due
        → IsDueByReading (closing_by last.dictionary) (whole_extraction order items last kind name) due
    by (Breaks fault) (inl header) after = absurd (not_both file fault (order, items, last, well) (inl header.1))
    by (Breaks fault) (inr until) after = absurd (not_both file fault (order, items, last, well) (inr until.is_fault))
    by (Closes closing) content after =
        let one = items_unique file content.order order content.items items content.last last content.well_formed
        well in
        let same = content.is ∙ (λ i. content_of (one.0 i) (one.1 i) (one.2 i)) in
        subst (λ (c : Content). IsDueByReading c.closing (by_reading kind name c.frames) due) same
        (cuts-due closing (extraction kind name d.frames) d.ordered d.in_order (course None [] d.ordered) refl due
        after)
