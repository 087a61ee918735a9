-- What a run of a splice does, by what the splice of the files did and what was printed.
use Rattle.std.proofs.Common.{◌≡◌, ℕ, ◌+◌, ◌<◌, Bool, true, false, List, length, take, Option, Some, Result, Ok}
use Rattle.std.proofs.Common.{Err, IfErr, is_ok, inl, inr, ◌⊎◌, refl, sym, ap, ◌∙◌, subst, arith}
use Rattle.std.proofs.lemmas.Bool.{false≢true}
use Rattle.std.proofs.lemmas.List.{take_all}
use Rattle.frame_outside.specs.Counts.{Rose}
use Rattle.frame_outside.specs.Shelf.{Outside, Files, Told, holding}
use Rattle.frame_outside.specs.Sink.{Output as Printed}
use Rattle.canonical_writer.specs.declared.writer.Summary.{Summary}
use Rattle.splicer.specs.declared.errors.SpliceError.{SpliceError}
use Rattle.splicer.specs.declared.errors.SpliceError.TheVariants as splice
use Rattle.splicer.specs.Due.{Due, Writes, Stops, IsDue, answer_of, is_whole, output_of}
use Rattle.splicer.specs.Due as SpliceDue
use Rattle.frame_reader.specs.Gives.{HoldBytes}
use Rattle.splicer.specs.Drawn.{DrawsInAll}
use Rattle.splicer.specs.Errors.{IsOfInputs}
use Rattle.splicer.specs.Left.{IsPart, LeavesFile}
use Rattle.splicer.specs.Made.{WritesOneFile}
use Rattle.frame_tool.specs.declared.outcome.Outcome.{Outcome}
use Rattle.frame_tool.specs.declared.outcome.Outcome.TheVariants.{Done, Device, NoMemory}
use Rattle.frame_tool.specs.Words.{SpliceFiles}
use Rattle.frame_tool.specs.Outcome.{line_of, splice_outcome}
use Rattle.frame_tool.specs.Due.{splice_reply, IsSpliceDue, IsAnswer, IsAmong, Prints}
use Rattle.frame_tool.specs.Run.{Replies, has_failed}
use Rattle.frame_tool.proofs.Said.{replies_said}

-- what a splice of so many files did and answered
pub record HasSpliced (old new : Outside) (to : List ℕ) (from : List (List ℕ)) (count : ℕ)
    (result : Result Summary SpliceError) : Type 0 where
  pub counted : count ≡ length from
  pub answer : Told old.files (λ files. (due : Due) → IsDue files from due → SpliceDue.IsAnswer result due)
  pub leaves : Told old.files
      (λ files. (due : Due) → IsDue files from due → SpliceDue.Leaves files new.files to result due)
  pub misses : Told old.files
      (λ files. old.misses < new.misses → (due : Due) → IsDue files from due → answer_of due ≡ Err splice.Device)
  pub taken : Told old.files (λ files. HoldBytes files → DrawsInAll files from old new)
  pub inputs : IfErr result (IsOfInputs count)
  pub shelf : WritesOneFile old new to count

-- ---- the answer

-- the answer of a splice is one for the splice that is due
spliced_answer : (result : Result Summary SpliceError) (due : Due) → SpliceDue.IsAnswer result due
    → IsAnswer (splice_outcome result) (splice_outcome (answer_of due))
spliced_answer result due (inl same) = inl (ap splice_outcome same)
spliced_answer result due (inr (inl device)) = inr (inl (ap splice_outcome device))
spliced_answer result due (inr (inr full)) = inr (inr (ap splice_outcome full))

-- the answer of a splice is one of the command's
spliced_among : (result : Result Summary SpliceError) (to : List ℕ) (from : List (List ℕ))
    → IfErr result (IsOfInputs (length from)) → IsAmong (splice_outcome result) (Some (SpliceFiles to from))
spliced_among (Ok summary) to from inputs = tt
spliced_among (Err (splice.Fault file fault)) to from inputs = inputs
spliced_among (Err (splice.Clash file class)) to from inputs = inputs
spliced_among (Err splice.FramesLimit) to from inputs = tt
spliced_among (Err splice.OutputLimit) to from inputs = tt
spliced_among (Err splice.Device) to from inputs = tt
spliced_among (Err splice.NoMemory) to from inputs = tt

-- ---- what is written

-- an answer is Device or NoMemory where that of the splice is
failed_alike : (result : Result Summary SpliceError) → has_failed (splice_outcome result) ≡ SpliceDue.has_failed result
failed_alike (Ok summary) = refl
failed_alike (Err (splice.Fault file fault)) = refl
failed_alike (Err (splice.Clash file class)) = refl
failed_alike (Err splice.FramesLimit) = refl
failed_alike (Err splice.OutputLimit) = refl
failed_alike (Err splice.Device) = refl
failed_alike (Err splice.NoMemory) = refl

-- these say that the outside or memory failed
failed_outcome : (outcome : Outcome) → (outcome ≡ Device) ⊎ (outcome ≡ NoMemory) → has_failed outcome ≡ true
failed_outcome outcome (inl device) = ap has_failed device
failed_outcome outcome (inr full) = ap has_failed full

-- where a splice was stopped, no whole file is due
stopped_due : (result : Result Summary SpliceError) (due : Due) → SpliceDue.has_failed result ≡ false
    → (is_ok result ≡ true → ⊥) → SpliceDue.IsAnswer result due → is_whole due ≡ false
stopped_due result (Writes closing frames) unfailed stopped (inl same) = absurd (stopped (ap is_ok same))
stopped_due result (Stops error frames) unfailed stopped (inl same) = refl
stopped_due result due unfailed stopped (inr (inl device)) =
    absurd (false≢true (sym unfailed ∙ ap SpliceDue.has_failed device))
stopped_due result due unfailed stopped (inr (inr full)) =
    absurd (false≢true (sym unfailed ∙ ap SpliceDue.has_failed full))

-- a file that holds all bytes of a beginning holds a part
leaves_part : (failed : Bool) (files : Files) (new : Option Files) (to : List ℕ) (whole : Bool) (bytes : List ℕ)
    → (failed ≡ false → whole ≡ false) → LeavesFile failed files new to whole bytes
    → LeavesFile true files new to whole bytes
leaves_part true files new to whole bytes begun leaves = leaves
leaves_part false files new to whole bytes begun leaves =
    let P : Bool → Type 0 = λ w. IsPart w (length bytes) bytes in
    let all : take (length bytes) bytes ≡ bytes = take_all (length bytes) bytes (omega arith) in
    inr (record {
      count = length bytes;
      part = subst P (sym (begun refl)) tt;
      files_are = leaves ∙ ap (λ b. Some (holding to b files)) (sym all);
    })

-- what a splice leaves is what its answer has to leave
leaves_on : (result : Result Summary SpliceError) (due : Due) (outcome : Outcome) (files : Files) (new : Option Files)
    (to : List ℕ) → IsAnswer outcome (splice_outcome result) → SpliceDue.IsAnswer result due
    → (is_ok result ≡ true → outcome ≡ Done) → SpliceDue.Leaves files new to result due
    → LeavesFile (has_failed outcome) files new to (is_whole due) (output_of due)
leaves_on result due outcome files new to (inl same) is done leaves =
    let P : Bool → Type 0 = λ failed. LeavesFile failed files new to (is_whole due) (output_of due) in
    subst P (sym (ap has_failed same ∙ failed_alike result)) leaves
leaves_on result due outcome files new to (inr failed) is done leaves =
    let P : Bool → Type 0 = λ failed. LeavesFile failed files new to (is_whole due) (output_of due) in
    let fails = failed_outcome outcome failed in
    let stopped : is_ok result ≡ true → ⊥ = λ ok. false≢true (sym (ap has_failed (done ok)) ∙ fails) in
    subst P (sym fails) (leaves_part (SpliceDue.has_failed result) files new to (is_whole due) (output_of due)
    (λ unfailed. stopped_due result due unfailed stopped is) leaves)

-- ---- the run

-- a splice that was stopped was not written whole
pub not_ok : (result : Result Summary SpliceError) (error : SpliceError) → result ≡ Err error → is_ok result ≡ true → ⊥
not_ok result error is ok = false≢true (sym (ap is_ok is) ∙ ok)

-- the splice gave what is to be said, and the line of that was printed
pub replies_spliced : (old new : Outside) (before after : Printed) (to : List ℕ) (from : List (List ℕ)) (count : ℕ)
    (result : Result Summary SpliceError) (said outcome : Outcome) → HasSpliced old new to from count result
    → splice_outcome result ≡ said → IsAnswer outcome said → Prints outcome (line_of said) before after
    → (is_ok result ≡ true → outcome ≡ Done)
    → (outcome ≡ Device → Rose old.faults new.faults ⊎ Rose before.faults after.faults)
    → Replies (IsSpliceDue to from) (Some (SpliceFiles to from)) (count + 1) old new before after outcome
replies_spliced old new before after to from count result said outcome has gave answers prints done device =
    replies_said Due (λ files due. IsDue files from due) (splice_reply to) (SpliceFiles to from) (count + 1) old new
    before after said outcome (record {
      line = λ due. refl;
      answer = λ files told due is.
          let P : Outcome → Type 0 = λ o. IsAnswer o (splice_outcome (answer_of due)) in
          subst P gave (spliced_answer result due (has.answer files told due is));
      output = λ files told due is.
          leaves_on result due outcome files new.files to answers_result (has.answer files told due is) done
          (has.leaves files told due is);
      misses = λ files told rose due is. ap splice_outcome (has.misses files told rose due is);
      taken = has.taken;
      among =
          let P : Outcome → Type 0 = λ o. IsAmong o (Some (SpliceFiles to from)) in
          subst P gave (spliced_among result to from (subst (λ n. IfErr result (IsOfInputs n)) has.counted has.inputs));
      faults = has.shelf.faults;
      missed = has.shelf.misses;
      keeps = (has.shelf.slots, has.shelf.files);
      given = omega (arith, has.shelf.given);
    }) answers prints device
  where
    answers_result : IsAnswer outcome (splice_outcome result)
    answers_result =
        let P : Outcome → Type 0 = λ o. IsAnswer outcome o in
        subst P (sym gave) answers
