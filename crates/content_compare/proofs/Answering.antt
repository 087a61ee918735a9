-- What is due of two files, from how they were read.
use Rattle.std.proofs.Common.{◌≡◌, ℕ, zero, suc, ◌<◌, true, List, [], ◌∷◌, ◌++◌, length, take, Option, Some, None}
use Rattle.std.proofs.Common.{Ok, Err, inl, inr, refl, sym, ap, ◌∙◌, subst, arith}
use Rattle.std.specs.List.{AllZip, slice_get}
use Rattle.std.proofs.lemmas.List.{take-append-le}
use Rattle.std.proofs.lemmas.Option.{slice_get_within}
use Rattle.file_grammar.specs.declared.fault.Fault.{Fault}
use Rattle.file_grammar.proofs.OneAnswer.{not_both, faults_unique}
use Rattle.frame_content.specs.Frames.{Frame}
use Rattle.canonical_file.specs.declared.closing.Closing.{Closing}
use Rattle.canonical_file.specs.Ordered.{SameFrame}
use Rattle.canonical_file.specs.Contents.{Content, Differ}
use Rattle.canonical_laws.specs.Content.{closing_by}
use Rattle.canonical_laws.proofs.TellingApart.{one_content}
use Rattle.frame_reader.specs.Gives.{Ending, Closes, Breaks, Gives}
use Rattle.frame_reader.specs.Given.{Frames, GivesAll}
use Rattle.frame_reader.proofs.Ended.{all-given}
use Rattle.frame_reader.proofs.FirstItems.{fault_given}
use Rattle.content_compare.specs.declared.answers.Comparison.{Comparison}
use Rattle.content_compare.specs.declared.answers.Comparison.TheVariants.{Same, Different}
use Rattle.content_compare.specs.declared.answers.CompareError.{CompareError}
use Rattle.content_compare.specs.declared.answers.CompareError.TheVariants as error
use Rattle.content_compare.specs.Due.{Answer, IsComparison, IsDueBy, IsDueOf, IsAnswer}
use Rattle.content_compare.proofs.OneDue.{one_comparison}
use Rattle.content_compare.specs.Sides.{IsSide, EndsAs, Stops, Finds, FirstDiffer}

-- ---- what files give

-- a file that breaks ends in no other way
breaks-once : (file : List ℕ) (frames others : List Frame) (fault : Fault) (end : Ending)
    → Gives file frames (Breaks fault) → Gives file others end → end ≡ Breaks fault
breaks-once file frames others fault (Closes closing) breaks gives =
    absurd (not_both file fault (gives.order, gives.items, gives.last, gives.well_formed)
    (fault_given file frames fault breaks))
breaks-once file frames others fault (Breaks other) breaks gives =
    ap Breaks (faults_unique file other fault (fault_given file others other gives)
    (fault_given file frames fault breaks))

-- a well-formed file gives one list of frames, and ends in one way
closes-once : (file : List ℕ) (frames others : List Frame) (closing : Closing) (end : Ending)
    → Gives file frames (Closes closing) → Gives file others end → (others ≡ frames) × (end ≡ Closes closing)
closes-once file frames others closing (Closes own) closes gives =
    let one : Content = record { closing = closing; frames = frames } in
    let two : Content = record { closing = own; frames = others } in
    let same : two ≡ one = one_content file two one gives closes in
    (ap (λ (c : Content). c.frames) same, ap (λ (c : Content). Closes c.closing) same)
closes-once file frames others closing (Breaks fault) closes gives =
    absurd (not_both file fault (closes.order, closes.items, closes.last, closes.well_formed)
    (fault_given file others fault gives))

-- ---- what is due of them

-- what stops a comparison is due of it
pub stops-due : (file second : List ℕ) (e : CompareError) (due : Answer) → Stops file second e
    → IsDueOf file second due → IsAnswer (Err e) due
stops-due file second (error.Fault zero fault) due stops is =
    let end = breaks-once file stops.0 is.frames fault is.ending stops.1 is.gives in
    inl (sym (subst (λ ending. IsDueBy is.frames ending is.others is.end due) end is.is))
stops-due file second (error.Fault (suc n) fault) due (only, frames, others, closing, gives, also) is =
    let end = (closes-once file frames is.frames closing is.ending gives is.gives).1 in
    let other = breaks-once second others is.others fault is.end also is.also in
    let same : due ≡ Err (error.Fault 1 fault) =
    subst (λ end. IsDueBy is.frames (Closes closing) is.others end due) other
    (subst (λ ending. IsDueBy is.frames ending is.others is.end due) end is.is) in
    inl (ap (λ k. Err (error.Fault (suc k) fault)) only ∙ sym same)
stops-due file second error.Device due stops is = inr (inl refl)
stops-due file second error.NoMemory due stops is = inr (inr refl)

-- the content of a file that was read to its end
abbrev pub content_read : List Frame → Frames → Content
content_read frames r = record { closing = closing_by r.reader.before.dictionary; frames = frames }

-- the comparison of two files that were read to their ends is due
pub compared : (file second : List ℕ) (frames others : List Frame) (r s : Frames) (due : Answer) (x : Comparison)
    → GivesAll file frames r → GivesAll second others s → IsDueOf file second due
    → IsComparison (content_read frames r) (content_read others s) x → IsAnswer (Ok x) due
compared file second frames others r s due x all too is compares =
    let closing = closing_by r.reader.before.dictionary in
    let own = closing_by s.reader.before.dictionary in
    let end = closes-once file frames is.frames closing is.ending (all-given file frames r all) is.gives in
    let other = closes-once second others is.others own is.end (all-given second others s too) is.also in
    let told : IsDueBy frames (Closes closing) others (Closes own) due =
    subst (λ fs. IsDueBy frames (Closes closing) fs (Closes own) due) other.0
    (subst (λ fs. IsDueBy fs (Closes closing) is.others (Closes own) due) end.0
    (subst (λ end. IsDueBy is.frames (Closes closing) is.others end due) other.1
    (subst (λ ending. IsDueBy is.frames ending is.others is.end due) end.1 is.is))) in
    inl (ap (λ y. Ok y) (one_comparison (content_read frames r) (content_read others s) x told.0 compares told.1)
    ∙ sym told.2)

-- closings that were not compared
pub uncompared : (e : CompareError) (due : Answer)
    → ((number : ℕ) (fault : Fault) → e ≡ error.Fault number fault → ⊥) → IsAnswer (Err e) due
uncompared (error.Fault number fault) due none = absurd (none number fault refl)
uncompared error.Device due none = inr (inl refl)
uncompared error.NoMemory due none = inr (inr refl)

-- ---- one file

-- a file was read to its end after these frames: up to a number it has no others
pub record EndsAfter (file : List ℕ) (frames : List Frame) (number : ℕ) (r : Frames) : Type 0 where
  pub all : List Frame
  pub gives : GivesAll file all r
  pub first : take number all ≡ take number frames
  pub there : slice_get all number ≡ slice_get frames number

get-front : (fs more : List Frame) (k : ℕ) → k < length fs → slice_get (fs ++ more) k ≡ slice_get fs k
get-front [] more k less = absurd (omega arith)
get-front (f ∷ fs) more zero less = refl
get-front (f ∷ fs) more (suc k) less =
    let below : k < length fs = omega arith in
    get-front fs more k below

pub ends-after : (file : List ℕ) (frames : List Frame) (number which : ℕ) (before r : Frames)
    → IsSide file frames before → EndsAs which file frames r (Ok tt)
    → (slice_get frames number ≡ None → before.reader.before.closed ≡ true)
    → (before.reader.before.closed ≡ true → r ≡ before) → EndsAfter file frames number r
ends-after file frames number which before r side ends ended again = by (slice_get frames number) refl
  where
    by : (here : Option Frame) → slice_get frames number ≡ here → EndsAfter file frames number r
    by None is = record {
      all = frames;
      gives = subst (GivesAll file frames) (sym (again (ended is))) (side.ended (ended is));
      first = refl;
      there = refl;
    }
    by (Some f) is =
        let less = slice_get_within frames number f is in
        record {
          all = frames ++ ends.0;
          gives = ends.1;
          first = take-append-le number frames ends.0 (omega (arith, less));
          there = get-front frames ends.0 number less;
        }

-- ---- two files

-- both were read to their ends, after what was found of them
pub record BothEnd (file second : List ℕ) (before_r before_s r s : Frames) : Type 0 where
  pub ends : (frames : List Frame) → IsSide file frames before_r → EndsAs 0 file frames r (Ok tt)
  pub also : (others : List Frame) → IsSide second others before_s → EndsAs 1 second others s (Ok tt)
  pub again : before_r.reader.before.closed ≡ true → r ≡ before_r
  pub again_also : before_s.reader.before.closed ≡ true → s ≡ before_s

-- what both have given
pub record GivenSides (file second : List ℕ) (r s : Frames) : Type 0 where
  pub frames : List Frame
  pub others : List Frame
  pub first : IsSide file frames r
  pub also : IsSide second others s

pub found-sides : (file second : List ℕ) (r s : Frames) (found : Option ℕ) → Finds file second r s (Ok found)
    → GivenSides file second r s
found-sides file second r s None finds =
    record { frames = finds.2.frames; others = finds.2.others; first = finds.2.first; also = finds.2.also }
found-sides file second r s (Some place) finds =
    record { frames = finds.frames; others = finds.others; first = finds.first; also = finds.also }

-- they have different closings
pub answers-closings : (file second : List ℕ) (before_r before_s r s : Frames) (found : Option ℕ) (due : Answer)
    → Finds file second before_r before_s (Ok found) → BothEnd file second before_r before_s r s
    → (closing_by r.reader.before.dictionary ≡ closing_by s.reader.before.dictionary → ⊥)
    → IsDueOf file second due → IsAnswer (Ok (Different 0)) due
answers-closings file second before_r before_s r s found due finds both apart is =
    let sides = found-sides file second before_r before_s found finds in
    let one = both.ends sides.frames sides.first in
    let two = both.also sides.others sides.also in
    compared file second (sides.frames ++ one.0) (sides.others ++ two.0) r s due (Different 0) one.1 two.1 is apart

-- a frame differs
pub answers-frame : (file second : List ℕ) (before_r before_s r s : Frames) (place : ℕ) (due : Answer)
    → FirstDiffer file second place before_r before_s → BothEnd file second before_r before_s r s
    → closing_by r.reader.before.dictionary ≡ closing_by s.reader.before.dictionary → IsDueOf file second due
    → IsAnswer (Ok (Different place)) due
answers-frame file second before_r before_s r s place due found both closings is =
    let n = found.number in
    let one = ends-after file found.frames n 0 before_r r found.first (both.ends found.frames found.first)
    found.first_ended both.again in
    let two = ends-after second found.others n 1 before_s s found.also (both.also found.others found.also)
    found.also_ended both.again_also in
    let first : IsComparison (content_read one.all r) (content_read two.all s) (Different (suc n)) = (
      closings,
      subst (λ fs. AllZip SameFrame fs (take n two.all)) (sym one.first)
          (subst (AllZip SameFrame (take n found.frames)) (sym two.first) found.same),
      subst (λ f. Differ f (slice_get two.all n)) (sym one.there)
          (subst (Differ (slice_get found.frames n)) (sym two.there) found.differ),
    ) in
    compared file second one.all two.all r s due (Different place) one.gives two.gives is
    (subst (λ p. IsComparison (content_read one.all r) (content_read two.all s) (Different p)) (sym found.place_is)
    first)

-- or nothing
pub answers-same : (file second : List ℕ) (before_r before_s r s : Frames) (due : Answer)
    → Finds file second before_r before_s (Ok None) → BothEnd file second before_r before_s r s
    → closing_by r.reader.before.dictionary ≡ closing_by s.reader.before.dictionary → IsDueOf file second due
    → IsAnswer (Ok Same) due
answers-same file second before_r before_s r s due (closed, too, abreast) both closings is =
    compared file second abreast.frames abreast.others r s due Same
    (subst (GivesAll file abreast.frames) (sym (both.again closed)) (abreast.first.ended closed))
    (subst (GivesAll second abreast.others) (sym (both.again_also too)) (abreast.also.ended too)) is
    (record { closing = closings; frames = abreast.same })
