-- How much is drawn of inputs one after another.
use Rattle.std.proofs.Common.{◌≡◌, ℕ, ◌+◌, ◌≤◌, List, [], ◌∷◌, length, Option, Some, None, Err, sym, subst, arith}
use Rattle.std.specs.List.{AllZip}
use Rattle.frame_outside.specs.Shelf.{Outside, Files}
use Rattle.frame_content.specs.Frames.{Frame}
use Rattle.canonical_file.specs.declared.closing.Closing.{Closing}
use Rattle.canonical_file.specs.Ordered.{IsInOrder}
use Rattle.canonical_laws.specs.Content.{HasContent}
use Rattle.canonical_writer.specs.Writer.{Writer}
use Rattle.frame_reader.specs.Gives.{Closes, Breaks}
use Rattle.splicer.specs.declared.errors.InputError.{InputError}
use Rattle.splicer.specs.declared.errors.InputError.TheVariants as input
use Rattle.splicer.specs.Due.{Course, Passes, course, held_then}
use Rattle.splicer.specs.Put.{Puts}
use Rattle.splicer.specs.Drawn.{Rest, MayDrawAfter, MayDrawOf, MayDrawOfHeld, MayDrawFrom, Took, DrawsInAll, DrawsInput}
use Rattle.splicer.specs.Drawn.{HasDrawn}
use Rattle.splicer.proofs.Drawing.{draws-reached, draws-any}

-- what may be drawn of the inputs after one
abbrev pub rest_of : Files → List (List ℕ) → Rest
rest_of files names = λ closing stood n. MayDrawFrom files closing stood names n

-- what may be drawn of an input that is held may be drawn of all inputs after so much as was drawn before
may-held : (files : Files) (names : List (List ℕ)) (old now : Outside) (closing : Option Closing) (stood : List Frame)
    (name file : List ℕ) (others : List (List ℕ)) (m : ℕ) → files name ≡ Some file
    → HasDrawn files names old now closing stood (name ∷ others) → MayDrawOf file closing stood (rest_of files others) m
    → MayDrawFrom files closing stood (name ∷ others) m
may-held files names old now closing stood name file others m held draws may =
    let P : Option (List ℕ) → Type 0 = λ held. MayDrawOfHeld held closing stood (rest_of files others) m in
    subst P (sym held) may

-- before the first input
pub drawn-first : (files : Files) (names : List (List ℕ)) (old new : Outside) → new.taken ≤ old.taken
    → HasDrawn files names old new None [] names
drawn-first files names old new same = record {
  drawn = 0;
  took = omega (arith, same);
  may = λ m may. (m, may, omega arith);
}

-- a step that takes nothing
pub drawn-still : (files : Files) (names : List (List ℕ)) (old now new : Outside) (closing : Option Closing)
    (stood : List Frame) (others : List (List ℕ)) → new.taken ≤ now.taken
    → HasDrawn files names old now closing stood others → HasDrawn files names old new closing stood others
drawn-still files names old now new closing stood others same draws =
    record { drawn = draws.drawn; took = omega (arith, same, draws.took); may = draws.may }

-- all of an input is drawn at most
pub drawn-input : (files : Files) (names : List (List ℕ)) (old now new : Outside) (closing : Option Closing)
    (stood frames ordered then_stand : List Frame) (own : Closing) (name file : List ℕ) (others : List (List ℕ)) (n : ℕ)
    → files name ≡ Some file → HasDrawn files names old now closing stood (name ∷ others)
    → HasContent file (record { closing = own; frames = frames }) → AllZip IsInOrder frames ordered
    → course closing stood ordered ≡ Passes then_stand → Took now new n → n ≤ length file
    → HasDrawn files names old new (held_then closing own) then_stand others
drawn-input files names old now new closing stood frames ordered then_stand own name file others n held draws content
    in_order passes took within = record {
      drawn = draws.drawn + n;
      took = omega (arith, draws.took, took);
      may = λ m rest.
          let P : Course → Type 0 = λ c.
          MayDrawAfter file stood c (Closes own) closing (rest_of files others) (n + m) in
          let all = draws.may (n + m) (may-held files names old now closing stood name file others (n + m) held draws
          (record {
            frames = frames;
            ordered = ordered;
            ending = Closes own;
            gives = content;
            in_order = in_order;
            within = subst P (sym passes) (m, rest, omega (arith, within));
          })) in
          (all.0, all.1, omega (arith, all.2));
    }

-- an input ends the splice, and of those after it nothing is drawn
pub drawn-ends : (files : Files) (names : List (List ℕ)) (old now new : Outside) (to : List ℕ) (inputs : ℕ) (w : Writer)
    (closing : Option Closing) (stood : List Frame) (name file : List ℕ) (others : List (List ℕ)) (error : InputError)
    → files name ≡ Some file → HasDrawn files names old now closing stood (name ∷ others)
    → Puts file closing stood old new to inputs w (Err error) → DrawsInput file closing stood now new (Err error)
    → DrawsInAll files names old new
drawn-ends files names old now new to inputs w closing stood name file others error held draws puts drawn =
    let all = draws.may drawn.drawn
    (may-held files names old now closing stood name file others drawn.drawn held draws (by error puts drawn)) in
    (all.0, all.1, omega (arith, all.2, draws.took, drawn.took))
  where
    by : (error : InputError) → Puts file closing stood old new to inputs w (Err error)
        → (drawn : DrawsInput file closing stood now new (Err error))
        → MayDrawOf file closing stood (rest_of files others) drawn.drawn
    by (input.Fault fault) puts drawn =
        let P : Course → Type 0 = λ c.
        MayDrawAfter file stood c (Breaks fault) closing (rest_of files others) drawn.drawn in
        record {
          frames = puts.frames;
          ordered = puts.ordered;
          ending = Breaks fault;
          gives = puts.gives;
          in_order = puts.in_order;
          within = subst P (sym puts.passes) drawn.reaches;
        }
    by (input.Write error) puts drawn =
        draws-reached file closing stood (rest_of files others) drawn.drawn drawn.within drawn.reaches
        (λ held then_stand. draws-any files others held then_stand)

-- the splice ends between inputs
pub drawn-all : (files : Files) (names : List (List ℕ)) (old now new : Outside) (closing : Option Closing)
    (stood : List Frame) (others : List (List ℕ)) → new.taken ≤ now.taken
    → HasDrawn files names old now closing stood others → DrawsInAll files names old new
drawn-all files names old now new closing stood others same draws =
    let some = draws-any files others closing stood in
    let all = draws.may some.0 some.1 in
    (all.0, all.1, omega (arith, same, draws.took, all.2))

-- and before the first
pub drawn-none : (files : Files) (names : List (List ℕ)) (old new : Outside) → new.taken ≤ old.taken
    → DrawsInAll files names old new
drawn-none files names old new same =
    drawn-all files names old new new None [] names (omega arith) (drawn-first files names old new same)
