-- A reader that reads on: what it has given then, and how it ends.
use Rattle.std.proofs.Common.{◌≡◌, ◌≤◌, ◌<◌, ℕ, Bool, true, false, List, [], ◌∷◌, ◌++◌, Some, Result, Ok, Err}
use Rattle.std.proofs.Common.{IfOk, IsTrue, refl, sym, ap, ◌∙◌, subst, append-nil}
use Rattle.std.proofs.lemmas.List.{append_assoc}
use Rattle.frame_outside.specs.Shelf.{Outside}
use Rattle.file_grammar.specs.declared.fault.Fault.{Fault}
use Rattle.file_grammar.specs.Structure.{file_limit}
use Rattle.frame_content.specs.Frames.{Frame}
use Rattle.item_reader.specs.declared.item.ReadError.{ReadError}
use Rattle.item_reader.specs.declared.item.ReadError.TheVariants as read
use Rattle.structure_source.specs.Source.{GoesOn as Passes}
use Rattle.item_reader.specs.Reader.{file_of}
use Rattle.canonical_file.specs.Ranges.{AreBytes}
use Rattle.frame_reader.specs.Gives.{Breaks, Gives}
use Rattle.frame_reader.specs.Given.{Frames, HasGiven, GivesFrame, GivesAll, GoesOn}
use Rattle.content_compare.specs.Answers.{error_of_read}
use Rattle.content_compare.specs.Sides.{IsSide, Moves, EndsAs}
use Rattle.content_compare.proofs.Draws.{file-stays}

-- ---- one step

-- what the next call of a reader does
pub record NextDoes (now : Outside) (old new : Frames) (result : Result Bool ReadError) : Type 0 where
  pub goes : (file : List ℕ) (frames : List Frame) → file_of now old.reader.position.slot ≡ Some file → AreBytes file
      → old.reader.before.closed ≡ false → HasGiven file frames old → GoesOn file frames new result
  pub on : IfOk result (λ more. IsTrue more → (old.reader.before.place < new.reader.before.place)
      × (new.reader.before.place ≤ file_limit) × (new.reader.before.closed ≡ false))
  pub end : result ≡ Ok false → new.reader.before.closed ≡ true
  pub again : old.reader.before.closed ≡ true → (result ≡ Ok false) × (new ≡ old)

-- a file that has ended ends again
ended-again : (now : Outside) (old new : Frames) (file : List ℕ) (frames : List Frame) (more : Bool)
    → NextDoes now old new (Ok more) → old.reader.before.closed ≡ true → IsSide file frames old
    → Moves file frames new more
ended-again now old new file frames true does closed side =
    let is = (does.again closed).0 in absurd cc
ended-again now old new file frames false does closed side =
    (does.end refl, subst (GivesAll file frames) (sym (does.again closed).1) (side.ended closed))

-- a file that has not goes on
goes-on : (now : Outside) (old new : Frames) (file : List ℕ) (frames : List Frame) (more : Bool)
    → NextDoes now old new (Ok more) → GoesOn file frames new (Ok more) → Moves file frames new more
goes-on now old new file frames true does goes = ((does.on refl).2, goes.0, goes.1)
goes-on now old new file frames false does goes = (does.end refl, goes)

-- The next frame is lent, or the file has ended.
pub next-moves : (now : Outside) (old new : Frames) (file : List ℕ) (frames : List Frame) (more : Bool)
    → NextDoes now old new (Ok more) → file_of now old.reader.position.slot ≡ Some file → AreBytes file
    → IsSide file frames old → Moves file frames new more
next-moves now old new file frames more does told bytes side = by old.reader.before.closed refl
  where
    by : (closed : Bool) → old.reader.before.closed ≡ closed → Moves file frames new more
    by true is = ended-again now old new file frames more does is side
    by false is = goes-on now old new file frames more does (does.goes file frames told bytes is side.given)

-- Or it has a first fault.
pub next-breaks : (now : Outside) (old new : Frames) (file : List ℕ) (frames : List Frame) (fault : Fault)
    → NextDoes now old new (Err (read.Fault fault)) → file_of now old.reader.position.slot ≡ Some file → AreBytes file
    → IsSide file frames old → Gives file frames (Breaks fault)
next-breaks now old new file frames fault does told bytes side = by old.reader.before.closed refl
  where
    by : (closed : Bool) → old.reader.before.closed ≡ closed → Gives file frames (Breaks fault)
    by true is = let was = (does.again is).0 in absurd cc
    by false is = does.goes file frames told bytes is side.given

-- ---- what was given then

-- a frame more
pub side-lent : (file : List ℕ) (frames : List Frame) (frame : Frame) (r : Frames) → r.reader.before.closed ≡ false
    → GivesFrame file frames frame r → IsSide file (frames ++ frame ∷ []) r
side-lent file frames frame r still gives = record {
  given = record {
    items = gives.earlier ++ gives.taken ∷ [];
    begins = gives.begins;
    frames_are = gives.frames_are;
    sound = gives.sound;
    layouts_are = gives.layouts_are;
  };
  ended = λ closed. let no : true ≡ false = sym closed ∙ still in absurd cc;
}

-- or all
pub side-all : (file : List ℕ) (frames : List Frame) (r : Frames) → GivesAll file frames r → IsSide file frames r
side-all file frames r all = record { given = all.given; ended = λ closed. all }

-- and none after them
pub side-none : (file : List ℕ) (frames : List Frame) (r : Frames) → GivesAll file frames r
    → IsSide file (frames ++ []) r
side-none file frames r all = subst (λ fs. IsSide file fs r) (sym (append-nil frames)) (side-all file frames r all)

-- one of the two
pub side-moved : (file : List ℕ) (frames : List Frame) (r : Frames) (more : Bool) → Moves file frames r more
    → (rest : List Frame) × IsSide file (frames ++ rest) r
side-moved file frames r true moves = (moves.1 ∷ [], side-lent file frames moves.1 r moves.0 moves.2)
side-moved file frames r false moves = ([], side-none file frames r moves.1)

-- after one step
pub next-side : (now : Outside) (old new : Frames) (file : List ℕ) (frames : List Frame) (more : Bool)
    → NextDoes now old new (Ok more) → file_of now old.reader.position.slot ≡ Some file → AreBytes file
    → IsSide file frames old → (rest : List Frame) × IsSide file (frames ++ rest) new
next-side now old new file frames more does told bytes side =
    side-moved file frames new more (next-moves now old new file frames more does told bytes side)

-- ---- step by step

-- what was given before has grown
unfoldable pub ReadsOn : Outside → Frames → Frames → Type 0
ReadsOn first before r =
    (file : List ℕ) (frames : List Frame) → file_of first before.reader.position.slot ≡ Some file → AreBytes file
    → IsSide file frames before → (more : List Frame) × IsSide file (frames ++ more) r

pub reads_on-init : (o : Outside) (r : Frames) → ReadsOn o r r
unfolding ReadsOn
reads_on-init o r = λ file frames told bytes side.
    ([], subst (λ fs. IsSide file fs r) (sym (append-nil frames)) side)

-- the file of a reader that has read on
told-on : (first now : Outside) (before r : Frames) (file : List ℕ)
    → Passes first now before.reader.position r.reader.position
    → file_of first before.reader.position.slot ≡ Some file → file_of now r.reader.position.slot ≡ Some file
told-on first now before r file passes told =
    ap (file_of now) passes.slot
    ∙ file-stays first now before.reader.position.slot before.reader.position.slot passes.draws ∙ told

pub reads_on-more : (first now : Outside) (before r new : Frames) (more : Bool) → ReadsOn first before r
    → Passes first now before.reader.position r.reader.position → NextDoes now r new (Ok more)
    → ReadsOn first before new
unfolding ReadsOn
reads_on-more first now before r new more on passes does = λ file frames told bytes side.
    let so_far = on file frames told bytes side in
    let next = side-moved file (frames ++ so_far.0) new more (next-moves now r new file (frames ++ so_far.0) more does
    (told-on first now before r file passes told) bytes so_far.1) in
    (so_far.0 ++ next.0, subst (λ fs. IsSide file fs new) (append_assoc frames so_far.0 next.0) next.1)

-- ---- the end

pub reads_on-ends : (first now : Outside) (before r new : Frames) (number : ℕ) → ReadsOn first before r
    → Passes first now before.reader.position r.reader.position → NextDoes now r new (Ok false)
    → (file : List ℕ) (frames : List Frame) → file_of first before.reader.position.slot ≡ Some file → AreBytes file
    → IsSide file frames before → EndsAs number file frames new (Ok tt)
unfolding ReadsOn
reads_on-ends first now before r new number on passes does file frames told bytes side =
    let so_far = on file frames told bytes side in (
      so_far.0,
      (next-moves now r new file (frames ++ so_far.0) false does
          (told-on first now before r file passes told) bytes so_far.1).1,
    )

pub reads_on-breaks : (first now : Outside) (before r new : Frames) (number : ℕ) (error : ReadError)
    → ReadsOn first before r → Passes first now before.reader.position r.reader.position
    → NextDoes now r new (Err error) → (file : List ℕ) (frames : List Frame)
    → file_of first before.reader.position.slot ≡ Some file → AreBytes file → IsSide file frames before
    → EndsAs number file frames new (Err (error_of_read number error))
unfolding ReadsOn
reads_on-breaks first now before r new number (read.Fault fault) on passes does file frames told bytes side =
    let so_far = on file frames told bytes side in (
      refl,
      frames ++ so_far.0,
      next-breaks now r new file (frames ++ so_far.0) fault does
          (told-on first now before r file passes told) bytes so_far.1,
    )
reads_on-breaks first now before r new number read.Device on passes does file frames told bytes side = tt
reads_on-breaks first now before r new number read.NoMemory on passes does file frames told bytes side = tt

-- a reader whose file has not ended again had not ended
pub reads-again : (now : Outside) (before r new : Frames) → (before.reader.before.closed ≡ true → r ≡ before)
    → NextDoes now r new (Ok true) → before.reader.before.closed ≡ true → new ≡ before
reads-again now before r new same does closed =
    let still : r.reader.before.closed ≡ true =
    ap (λ (f : Frames). f.reader.before.closed) (same closed) ∙ closed in
    let is = (does.again still).0 in
    absurd cc
