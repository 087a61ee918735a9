-- What comes of frames one after another.
use Rattle.std.proofs.Common.{◌≡◌, ◌+◌, ◌<◌, ◌≤◌, List, [], ◌∷◌, ◌++◌, length, Option, Result, Ok, Err, refl, sym, ap}
use Rattle.std.proofs.Common.{◌∙◌, arith}
use Rattle.std.proofs.lemmas.List.{append_assoc, append-nil, length-append}
use Rattle.frame_content.specs.Frames.{Frame}
use Rattle.canonical_file.specs.declared.closing.Closing.{Closing}
use Rattle.canonical_file.specs.Written.{header_alone, after_frames}
use Rattle.canonical_writer.specs.declared.errors.WriteError.{WriteError}
use Rattle.canonical_writer.specs.Writer.{frame_due}
use Rattle.splicer.specs.Due.{Course, Passes, Refuses, course_by, course}

-- what comes of more frames after a course
abbrev pub course_then : Course → (List Frame → Course) → Course
course_then (Passes stood) next = next stood
course_then (Refuses error stood) next = Refuses error stood

by-then : (due : Result Unit WriteError) (stood : List Frame) (c : Course) (next : List Frame → Course)
    → course_then (course_by due stood c) next ≡ course_by due stood (course_then c next)
by-then (Ok x) stood c next = refl
by-then (Err error) stood c next = refl

-- the course of frames and of more is that of the more after them
pub course-append : (closing : Option Closing) (stood fs gs : List Frame)
    → course closing stood (fs ++ gs) ≡ course_then (course closing stood fs) (λ s. course closing s gs)
course-append closing stood [] gs = refl
course-append closing stood (f ∷ fs) gs =
    ap (course_by (frame_due closing (after_frames header_alone stood) f) stood)
    (course-append closing (stood ++ f ∷ []) fs gs)
    ∙ sym (by-then (frame_due closing (after_frames header_alone stood) f) stood (course closing (stood ++ f ∷ []) fs)
    (λ s. course closing s gs))

-- after a frame that is refused, no more is judged
pub course-refused : (closing : Option Closing) (stood fs gs then_stand : List Frame) (error : WriteError)
    → course closing stood fs ≡ Refuses error then_stand → course closing stood (fs ++ gs) ≡ Refuses error then_stand
course-refused closing stood fs gs then_stand error refuses =
    course-append closing stood fs gs ∙ ap (λ (c : Course). course_then c (λ s. course closing s gs)) refuses

-- the frames that stand after a course
abbrev pub stood_of : Course → List Frame
stood_of (Passes stood) = stood
stood_of (Refuses error stood) = stood

-- those that stood before stand then, and some more
pub course-longer : (closing : Option Closing) (stood fs : List Frame)
    → (more : List Frame) × (stood_of (course closing stood fs) ≡ stood ++ more)
course-longer closing stood [] = ([], sym (append-nil stood))
course-longer closing stood (f ∷ fs) =
    by (frame_due closing (after_frames header_alone stood) f) (course-longer closing (stood ++ f ∷ []) fs)
  where
    by : (due : Result Unit WriteError)
        → (more : List Frame) × (stood_of (course closing (stood ++ f ∷ []) fs) ≡ (stood ++ f ∷ []) ++ more)
        → (more : List Frame)
        × (stood_of (course_by due stood (course closing (stood ++ f ∷ []) fs)) ≡ stood ++ more)
    by (Err error) later = ([], sym (append-nil stood))
    by (Ok x) (more, is) = (f ∷ more, is ∙ append_assoc stood (f ∷ []) more)

-- frames that stand after a course that passes are those that stand after it
same-passed : {stood then_stand : List Frame} → Passes stood ≡ Passes then_stand → stood ≡ then_stand
same-passed same = ap stood_of same

-- where all frames pass, just these stand
pub passes-stood : (closing : Option Closing) (stood fs then_stand : List Frame)
    → course closing stood fs ≡ Passes then_stand → then_stand ≡ stood ++ fs
passes-stood closing stood [] then_stand passes = sym (same-passed passes) ∙ sym (append-nil stood)
passes-stood closing stood (f ∷ fs) then_stand passes =
    by (frame_due closing (after_frames header_alone stood) f)
    (passes-stood closing (stood ++ f ∷ []) fs then_stand) passes
  where
    by : (due : Result Unit WriteError)
        → (course closing (stood ++ f ∷ []) fs ≡ Passes then_stand → then_stand ≡ (stood ++ f ∷ []) ++ fs)
        → course_by due stood (course closing (stood ++ f ∷ []) fs) ≡ Passes then_stand → then_stand ≡ stood ++ f ∷ fs
    by (Err error) later refused = absurd cc
    by (Ok x) later taken = later taken ∙ append_assoc stood (f ∷ []) fs

-- no fewer stand than before
pub course-grows : (closing : Option Closing) (stood fs : List Frame) (c : Course) → course closing stood fs ≡ c
    → length stood ≤ length (stood_of c)
course-grows closing stood fs c is =
    let longer = course-longer closing stood fs in
    let same : length (stood_of c) ≡ length stood + length longer.0 =
    ap (λ (c : Course). length (stood_of c)) (sym is) ∙ ap (λ (fs : List Frame). length fs) longer.1
    ∙ length-append stood longer.0 in
    omega (arith, same)

-- where one is refused, fewer stand than come
pub refused-short : (closing : Option Closing) (stood fs then_stand : List Frame) (error : WriteError)
    → course closing stood fs ≡ Refuses error then_stand → length then_stand < length stood + length fs
refused-short closing stood [] then_stand error refuses = absurd cc
refused-short closing stood (f ∷ fs) then_stand error refuses =
    by (frame_due closing (after_frames header_alone stood) f)
    (refused-short closing (stood ++ f ∷ []) fs then_stand error)
    refuses
  where
    by : (due : Result Unit WriteError)
        → (course closing (stood ++ f ∷ []) fs ≡ Refuses error then_stand
        → length then_stand < length (stood ++ f ∷ []) + length fs)
        → course_by due stood (course closing (stood ++ f ∷ []) fs) ≡ Refuses error then_stand
        → length then_stand < length stood + length (f ∷ fs)
    by (Err other) later is =
        let same : length stood ≡ length then_stand = ap (λ (c : Course). length (stood_of c)) is in
        omega (arith, same)
    by (Ok x) later is =
        let less = later is in
        omega (arith, less, length-append stood (f ∷ []))

-- after frames that pass, the course goes on from those that stand then
pub course-after : (closing : Option Closing) (stood fs gs then_stand : List Frame)
    → course closing stood fs ≡ Passes then_stand → course closing stood (fs ++ gs) ≡ course closing then_stand gs
course-after closing stood fs gs then_stand passes =
    course-append closing stood fs gs ∙ ap (λ (c : Course). course_then c (λ s. course closing s gs)) passes

-- one more frame is judged after those that passed
course-next : (closing : Option Closing) (stood fs then_stand : List Frame) (f : Frame)
    → course closing stood fs ≡ Passes then_stand
    → course closing stood (fs ++ f ∷ [])
    ≡ course_by (frame_due closing (after_frames header_alone then_stand) f) then_stand
    (Passes (then_stand ++ f ∷ []))
course-next closing stood fs then_stand f passes = course-after closing stood fs (f ∷ []) then_stand passes

-- one more frame that is taken, and one that is refused
pub passes-more : (closing : Option Closing) (stood fs then_stand : List Frame) (f : Frame)
    → course closing stood fs ≡ Passes then_stand → frame_due closing (after_frames header_alone then_stand) f ≡ Ok tt
    → course closing stood (fs ++ f ∷ []) ≡ Passes (then_stand ++ f ∷ [])
passes-more closing stood fs then_stand f passes due =
    course-next closing stood fs then_stand f passes
    ∙ ap (λ (due : Result Unit WriteError). course_by due then_stand (Passes (then_stand ++ f ∷ []))) due

pub refuses-next : (closing : Option Closing) (stood fs then_stand : List Frame) (f : Frame) (error : WriteError)
    → course closing stood fs ≡ Passes then_stand
    → frame_due closing (after_frames header_alone then_stand) f ≡ Err error
    → course closing stood (fs ++ f ∷ []) ≡ Refuses error then_stand
refuses-next closing stood fs then_stand f error passes due =
    course-next closing stood fs then_stand f passes
    ∙ ap (λ (due : Result Unit WriteError). course_by due then_stand (Passes (then_stand ++ f ∷ []))) due
