-- What a run of a comparison does, by what the comparison of the files did and what was printed.
use Rattle.std.proofs.Common.{◌≡◌, ◌⊎◌, ◌<◌, List, ℕ, Some, Ok, Err, IfErr, inl, inr, refl, ap, ◌∙◌, subst}
use Rattle.frame_outside.specs.Counts.{Rose}
use Rattle.frame_outside.specs.Shelf.{Outside, Told}
use Rattle.frame_outside.specs.Sink.{Output as Printed}
use Rattle.content_compare.specs.declared.answers.Comparison.TheVariants as comparison
use Rattle.content_compare.specs.declared.answers.CompareError.TheVariants as compare
use Rattle.content_compare.specs.Answers.{IsOfTwo}
use Rattle.content_compare.specs.Due.{Answer, IsDue}
use Rattle.content_compare.specs.Due as CompareDue
use Rattle.content_compare.specs.Sides.{ReadsTwoFiles}
use Rattle.frame_tool.specs.declared.outcome.Outcome.{Outcome}
use Rattle.frame_tool.specs.declared.outcome.Outcome.TheVariants.{Device}
use Rattle.frame_tool.specs.Words.{SameFiles}
use Rattle.frame_tool.specs.Outcome.{line_of, comparison_outcome}
use Rattle.frame_tool.specs.Due.{reply_with, IsSameDue, IsAnswer, IsAmong, Prints}
use Rattle.frame_tool.specs.Run.{Replies}
use Rattle.frame_tool.proofs.Said.{replies_said}

-- what a comparison of two files did and answered
pub record HasCompared (old new : Outside) (first second : List ℕ) (result : Answer) : Type 0 where
  pub answer : Told old.files (λ files. (due : Answer) → IsDue files first second due → CompareDue.IsAnswer result due)
  pub misses : Told old.files
      (λ files. old.misses < new.misses → (due : Answer) → IsDue files first second due → due ≡ Err compare.Device)
  pub inputs : IfErr result IsOfTwo
  pub shelf : ReadsTwoFiles old new

-- the answer of a comparison is one for the comparison that is due
compared_answer : (result due : Answer) → CompareDue.IsAnswer result due
    → IsAnswer (comparison_outcome result) (comparison_outcome due)
compared_answer result due (inl same) = inl (ap comparison_outcome same)
compared_answer result due (inr (inl device)) = inr (inl (ap comparison_outcome device))
compared_answer result due (inr (inr full)) = inr (inr (ap comparison_outcome full))

-- the answer of a comparison is one of the command's
compared_among : (result : Answer) (first second : List ℕ) → IfErr result IsOfTwo
    → IsAmong (comparison_outcome result) (Some (SameFiles first second))
compared_among (Ok comparison.Same) first second inputs = tt
compared_among (Ok (comparison.Different place)) first second inputs = tt
compared_among (Err (compare.Fault file fault)) first second inputs = inputs
compared_among (Err compare.Device) first second inputs = tt
compared_among (Err compare.NoMemory) first second inputs = tt

-- the comparison gave what is to be said, and the line of that was printed
pub replies_compared : (old new : Outside) (before after : Printed) (first second : List ℕ) (result : Answer)
    (said outcome : Outcome) → HasCompared old new first second result → comparison_outcome result ≡ said
    → IsAnswer outcome said → Prints outcome (line_of said) before after
    → (outcome ≡ Device → Rose old.faults new.faults ⊎ Rose before.faults after.faults)
    → Replies (IsSameDue first second) (Some (SameFiles first second)) 2 old new before after outcome
replies_compared old new before after first second result said outcome has gave answers prints device =
    replies_said Answer (λ files due. IsDue files first second due) (λ due. reply_with (comparison_outcome due))
    (SameFiles first second) 2 old new before after said outcome (record {
      line = λ due. refl;
      answer = λ files told due is.
          let P : Outcome → Type 0 = λ o. IsAnswer o (comparison_outcome due) in
          subst P gave (compared_answer result due (has.answer files told due is));
      output = λ files told due is. has.shelf.files ∙ told;
      misses = λ files told rose due is. ap comparison_outcome (has.misses files told rose due is);
      taken = λ files told. tt;
      among =
          let P : Outcome → Type 0 = λ o. IsAmong o (Some (SameFiles first second)) in
          subst P gave (compared_among result first second has.inputs);
      faults = has.shelf.faults;
      missed = has.shelf.misses;
      keeps = (has.shelf.slots, has.shelf.files);
      given = has.shelf.given;
    }) answers prints device
