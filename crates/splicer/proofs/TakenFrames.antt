-- The frames that are taken after those that stand: they are the first ones, none of them clashes, and what stands then
-- is within the limits.
use Rattle.std.proofs.Common.{◌≡◌, ℕ, ◌≤◌, ◌<◌, nat_le, nat_lt, Bool, true, false, if◌then◌else◌}
use Rattle.std.proofs.Common.{List, [], ◌∷◌, ◌++◌, Option, Some, None, Result, Ok, Err}
use Rattle.std.proofs.Common.{refl, sym, ap, ◌∙◌, subst, arith}
use Rattle.std.proofs.lemmas.Bool.{ltb-false, leb-false}
use Rattle.std.proofs.lemmas.List.{append_assoc, append-nil}
use Rattle.std.proofs.lemmas.List.Sums.{fold-append}
use Rattle.file_grammar.specs.Structure.{file_limit}
use Rattle.file_grammar.specs.MayStand.{frames_limit}
use Rattle.frame_content.specs.Frames.{Frame}
use Rattle.canonical_file.specs.declared.closing.Closing.{Closing}
use Rattle.canonical_file.specs.Splices.{clash_of, NoneClashes}
use Rattle.canonical_file.specs.Written.{Written, header_alone, after_frame, after_frames}
use Rattle.canonical_writer.specs.declared.errors.WriteError.{WriteError}
use Rattle.canonical_writer.specs.declared.errors.WriteError.TheVariants as error
use Rattle.canonical_writer.specs.Writer.{clash_or_limit, frame_due}
use Rattle.splicer.specs.Due.{course_by, course}
use Rattle.splicer.proofs.Courses.{stood_of}

-- ---- one frame

-- frames that stand are within the limits
pub record AreWithin (frames : List Frame) : Type 0 where
  pub few : (after_frames header_alone frames).frames ≤ frames_limit
  pub short : (after_frames header_alone frames).size ≤ file_limit

-- a frame is taken after what stands
record IsTaken (closing : Option Closing) (w : Written) (f : Frame) : Type 0 where
  few : w.frames < frames_limit
  free : clash_of closing w.entries f ≡ None
  short : (after_frame w f).size ≤ file_limit

-- a frame is taken where no error is due of it
is-taken : (closing : Option Closing) (w : Written) (f : Frame) (x : Unit) → frame_due closing w f ≡ Ok x
    → IsTaken closing w f
is-taken closing w f x due = by-full (nat_le frames_limit w.frames) refl due
  where
    by-long : (long : Bool) → nat_lt file_limit (after_frame w f).size ≡ long → w.frames < frames_limit
        → clash_of closing w.entries f ≡ None
        → (if long then Err error.OutputLimit else Ok tt) ≡ Ok x → IsTaken closing w f
    by-long true is few free due = absurd cc
    by-long false is few free due = record {
      few = few;
      free = free;
      short = ltb-false file_limit (after_frame w f).size is;
    }

    by-clash : (clash : Option ℕ) → clash_of closing w.entries f ≡ clash → w.frames < frames_limit
        → clash_or_limit clash (after_frame w f).size ≡ Ok x → IsTaken closing w f
    by-clash (Some class) is few due = absurd cc
    by-clash None is few due = by-long (nat_lt file_limit (after_frame w f).size) refl few is due

    by-full : (full : Bool) → nat_le frames_limit w.frames ≡ full
        → (if full then Err error.FramesLimit
        else clash_or_limit (clash_of closing w.entries f) (after_frame w f).size) ≡ Ok x
        → IsTaken closing w f
    by-full true is due = absurd cc
    by-full false is due =
        by-clash (clash_of closing w.entries f) refl (leb-false frames_limit w.frames is) due

-- ---- one frame after another

-- Of frames the first ones are taken after those that stood, and these stand then.
pub record AreTaken (closing : Option Closing) (stood fs then_stand : List Frame) : Type 0 where
  pub more : List Frame
  pub rest : List Frame
  pub stand : then_stand ≡ stood ++ more
  pub first : fs ≡ more ++ rest
  pub free : NoneClashes closing (after_frames header_alone stood) more
  pub within : AreWithin then_stand

-- frames may come of which none is taken
none-taken : (closing : Option Closing) (stood fs : List Frame) → AreWithin stood → AreTaken closing stood fs stood
none-taken closing stood fs within = record {
  more = [];
  rest = fs;
  stand = sym (append-nil stood);
  first = refl;
  free = tt;
  within = within;
}

-- where a frame does not clash and more are taken after it, it and they are taken
one-taken : (closing : Option Closing) (stood fs then_stand : List Frame) (f : Frame)
    → clash_of closing (after_frames header_alone stood).entries f ≡ None
    → AreTaken closing (stood ++ f ∷ []) fs then_stand → AreTaken closing stood (f ∷ fs) then_stand
one-taken closing stood fs then_stand f clear are =
    let Free : Written → Type 0 = λ w. NoneClashes closing w are.more in
    record {
      more = f ∷ are.more;
      rest = are.rest;
      stand = are.stand ∙ append_assoc stood (f ∷ []) are.more;
      first = ap (λ fs. f ∷ fs) are.first;
      free = (clear, subst Free (fold-append after_frame header_alone stood (f ∷ [])) are.free);
      within = are.within;
    }

-- What stands after a course was taken so.
pub course-takes : (closing : Option Closing) (stood fs : List Frame) → AreWithin stood
    → AreTaken closing stood fs (stood_of (course closing stood fs))
course-takes closing stood [] within = none-taken closing stood [] within
course-takes closing stood (f ∷ fs) within =
    by (frame_due closing (after_frames header_alone stood) f) refl (course-takes closing (stood ++ f ∷ []) fs)
  where
    w : Written
    w = after_frames header_alone stood

    by : (due : Result Unit WriteError) → frame_due closing w f ≡ due
        → (AreWithin (stood ++ f ∷ [])
        → AreTaken closing (stood ++ f ∷ []) fs (stood_of (course closing (stood ++ f ∷ []) fs)))
        → AreTaken closing stood (f ∷ fs) (stood_of (course_by due stood (course closing (stood ++ f ∷ []) fs)))
    by (Err error) is later = none-taken closing stood (f ∷ fs) within
    by (Ok x) is later =
        let taken = is-taken closing w f x is in
        let next : after_frame w f ≡ after_frames header_alone (stood ++ f ∷ []) =
        sym (fold-append after_frame header_alone stood (f ∷ [])) in
        one-taken closing stood fs (stood_of (course closing (stood ++ f ∷ []) fs)) f taken.free (later (record {
          few = subst (λ (w : Written). w.frames ≤ frames_limit) next (omega (arith, taken.few));
          short = subst (λ (w : Written). w.size ≤ file_limit) next taken.short;
        }))
