-- What a run does whose replies print their line alone, by what is due of the files.
use Rattle.std.proofs.Common.{◌≡◌, ℕ, ◌+◌, ◌<◌, ◌≤◌, ◌⊎◌, List, [], length, Some, inl, inr, sym, ap, ◌∙◌, subst}
use Rattle.std.proofs.Math.Seq.{take-nil}
use Rattle.frame_outside.specs.Counts.{Rose}
use Rattle.frame_outside.specs.Shelf.{Outside, Files, Told}
use Rattle.frame_outside.specs.Sink.{Output as Printed, Appends}
use Rattle.frame_tool.specs.declared.outcome.Outcome.{Outcome}
use Rattle.frame_tool.specs.declared.outcome.Outcome.TheVariants.{Device, NoMemory}
use Rattle.frame_tool.specs.Words.{Form, output_of}
use Rattle.frame_tool.specs.Outcome.{line_of}
use Rattle.dumper.specs.Page.{AppendsPrefix}
use Rattle.frame_tool.specs.Due.{Reply, IsAnswer, IsAmong, Prints}
use Rattle.frame_tool.specs.Run.{Leaves, Keeps, DrawsNoFurther, Replies}
use Rattle.frame_tool.proofs.Replies.{among_due, prints_faults}

-- ---- the answer

-- an answer for one that is itself an answer for another
answer_on : (outcome said due : Outcome) → IsAnswer outcome said → IsAnswer said due → IsAnswer outcome due
answer_on outcome said due (inl same) (inl also) = inl (same ∙ also)
answer_on outcome said due (inl same) (inr (inl device)) = inr (inl (same ∙ device))
answer_on outcome said due (inl same) (inr (inr full)) = inr (inr (same ∙ full))
answer_on outcome said due (inr failed) also = inr failed

-- ---- what is printed

-- a front of no text is a front of each
front_of_none : (text : List ℕ) (before after : Printed) → AppendsPrefix before after []
    → AppendsPrefix before after text
front_of_none text before after front =
    record { count = 0; appends = subst (Appends before after) (take-nil front.count) front.appends }

-- where the outside or memory failed, and a front of no text was printed, a front of each text was
prints_any : (outcome : Outcome) (text : List ℕ) (before after : Printed) → (outcome ≡ Device) ⊎ (outcome ≡ NoMemory)
    → Prints outcome [] before after → Prints outcome text before after
prints_any outcome text before after (inl device) =
    let P : Outcome → Type 0 = λ o. Prints o [] before after → Prints o text before after in
    subst P (sym device) (front_of_none text before after)
prints_any outcome text before after (inr full) =
    let P : Outcome → Type 0 = λ o. Prints o [] before after → Prints o text before after in
    subst P (sym full) (front_of_none text before after)

-- an answer for Device or NoMemory is Device or NoMemory
failed_on : (outcome said : Outcome) → IsAnswer outcome said → (said ≡ Device) ⊎ (said ≡ NoMemory)
    → (outcome ≡ Device) ⊎ (outcome ≡ NoMemory)
failed_on outcome said (inl same) (inl device) = inl (same ∙ device)
failed_on outcome said (inl same) (inr full) = inr (same ∙ full)
failed_on outcome said (inr failed) also = failed

-- these print no line
no_line : (outcome : Outcome) → (outcome ≡ Device) ⊎ (outcome ≡ NoMemory) → line_of outcome ≡ []
no_line outcome (inl device) = ap line_of device
no_line outcome (inr full) = ap line_of full

-- the line of an answer for the due one was printed as that of the due one
prints_on : (outcome said due : Outcome) (before after : Printed) → IsAnswer outcome said → IsAnswer said due
    → Prints outcome (line_of said) before after → Prints outcome (line_of due) before after
prints_on outcome said due before after answers (inl same) prints =
    let P : Outcome → Type 0 = λ o. Prints outcome (line_of o) before after in
    subst P same prints
prints_on outcome said due before after answers (inr failed) prints =
    let P : List ℕ → Type 0 = λ line. Prints outcome line before after in
    prints_any outcome (line_of due) before after (failed_on outcome said answers failed)
    (subst P (no_line said failed) prints)

-- ---- the run

-- What a command did to the files and the shelf, where this was to be said and that was answered: by what is due of the
-- files, of which the reply prints its line alone.
pub record HasDone (D : Type 0) (IsDueOf : Files → D → Type 0) (reply_of : D → Reply) (form : Form) (words : ℕ)
    (old new : Outside) (said outcome : Outcome) : Type 0 where
  pub line : (due : D) → (reply_of due).text ≡ line_of (reply_of due).outcome
  pub answer : Told old.files (λ files. (due : D) → IsDueOf files due → IsAnswer said (reply_of due).outcome)
  pub output : Told old.files
      (λ files. (due : D) → IsDueOf files due → Leaves files new.files outcome (reply_of due).output)
  pub misses : Told old.files
      (λ files. old.misses < new.misses → (due : D) → IsDueOf files due → (reply_of due).outcome ≡ Device)
  pub taken : Told old.files (λ files. DrawsNoFurther (Some form) files old new)
  pub among : IsAmong said (Some form)
  pub faults : old.faults ≤ new.faults
  pub missed : old.misses ≤ new.misses
  pub keeps : Keeps (output_of (Some form)) old new
  pub given : length new.slots ≤ length old.slots + words

-- the line of what was to be said was printed
pub replies_said : (D : Type 0) (IsDueOf : Files → D → Type 0) (reply_of : D → Reply) (form : Form) (words : ℕ)
    (old new : Outside) (before after : Printed) (said outcome : Outcome)
    → HasDone D IsDueOf reply_of form words old new said outcome → IsAnswer outcome said
    → Prints outcome (line_of said) before after
    → (outcome ≡ Device → Rose old.faults new.faults ⊎ Rose before.faults after.faults)
    → Replies (λ files reply. (due : D) × IsDueOf files due × (reply ≡ reply_of due)) (Some form) words old new before
    after outcome
replies_said D IsDueOf reply_of form words old new before after said outcome has answers prints device = record {
  answer = λ files told reply (due, is, same).
      let P : Reply → Type 0 = λ r. IsAnswer outcome r.outcome in
      subst P (sym same) (answer_on outcome said (reply_of due).outcome answers (has.answer files told due is));
  text = λ files told reply (due, is, same).
      let P : List ℕ → Type 0 = λ text. Prints outcome text before after in
      subst P (sym (ap (λ (r : Reply). r.text) same ∙ has.line due))
      (prints_on outcome said (reply_of due).outcome before after answers (has.answer files told due is) prints);
  output = λ files told reply (due, is, same).
      let P : Reply → Type 0 = λ r. Leaves files new.files outcome r.output in
      subst P (sym same) (has.output files told due is);
  misses = λ files told rose reply (due, is, same).
      ap (λ (r : Reply). r.outcome) same ∙ has.misses files told rose due is;
  taken = has.taken;
  among = among_due outcome said (Some form) answers has.among;
  usage = λ none. absurd cc;
  device = device;
  faults = has.faults;
  missed = has.missed;
  sink = prints_faults outcome (line_of said) before after prints;
  keeps = has.keeps;
  given = has.given;
}
