-- What a run of a command over one file does, by what was found and printed; and what words do by their command.
use Rattle.std.proofs.Common.{◌≡◌, ℕ, ◌<◌, ◌≤◌, List, [], length, Option, Some, None, IsSome, Ok, IsErrOf, inl, inr}
use Rattle.std.proofs.Common.{◌⊎◌, refl, sym, ap, ◌∙◌, subst, append-nil, arith}
use Rattle.std.proofs.lemmas.List.{take_all}
use Rattle.frame_outside.specs.Counts.{Rose}
use Rattle.frame_outside.specs.Shelf.{Outside, Files, Told}
use Rattle.frame_outside.specs.Sink.{Output as Printed, Appends, Grows}
use Rattle.frame_tool.specs.declared.outcome.Outcome.{Outcome}
use Rattle.frame_tool.specs.declared.outcome.Outcome.TheVariants.{Device, NoMemory, Usage}
use Rattle.frame_tool.specs.declared.verdict.Verdict.{Verdict}
use Rattle.frame_tool.specs.declared.verdict.Verdict.TheVariants.{Sound, Wrong}
use Rattle.frame_tool.specs.declared.judgement.Finding.{Finding}
use Rattle.frame_tool.specs.declared.judgement.Finding.TheVariants.{Accepted, Refused}
use Rattle.frame_tool.specs.declared.judgement.Report.{Report}
use Rattle.frame_tool.specs.declared.judgement.Report.TheVariants.{Summary, Channels}
use Rattle.frame_tool.specs.Words.{Form, WalkFile, CheckFile, ListFile, SameFiles, SpliceFiles, DumpFile, MakeFile}
use Rattle.frame_tool.specs.Words.{command_of, output_of}
use Rattle.frame_tool.specs.Outcome.{line_of}
use Rattle.frame_tool.specs.Due.{Reply, Output, Nothing, IsFileDue, IsCommandDue, IsAnswer, IsAmong, Prints}
use Rattle.dumper.specs.Page.{AppendsPrefix}
use Rattle.frame_tool.specs.Due.{walk_reply, finding_reply, form_asking}
use Rattle.frame_tool.specs.Walk.{IsVerdict}
use Rattle.dumper.specs.Due.{ReadsOneFile}
use Rattle.frame_tool.specs.Check.{IsFinding}
use Rattle.frame_tool.specs.Run.{Leaves, Keeps, DrawsNoFurther, Replies, Runs}
use Rattle.frame_tool.proofs.OneVerdict.{no_two_verdicts}
use Rattle.frame_tool.proofs.OneReply.{NoneHasTwo, file_dues, no_two_findings}

-- ---- what is printed

-- a whole text is a prefix of it
whole_prefix : (text : List ℕ) (old new : Printed) → Appends old new text → AppendsPrefix old new text
whole_prefix text old new appends = record {
  count = length text;
  appends = subst (Appends old new) (sym (take_all (length text) text (omega arith))) appends;
}

-- a text that was appended was printed, whatever the answer
pub prints_whole : (outcome : Outcome) (text : List ℕ) (old new : Printed) → Appends old new text
    → Prints outcome text old new
prints_whole Device text old new appends = whole_prefix text old new appends
prints_whole NoMemory text old new appends = whole_prefix text old new appends
prints_whole _ text old new appends = appends

-- what was printed took no fault back
pub prints_faults : (outcome : Outcome) (text : List ℕ) (old new : Printed) → Prints outcome text old new
    → old.faults ≤ new.faults
prints_faults Device text old new prints = prints.appends.faults
prints_faults NoMemory text old new prints = prints.appends.faults
prints_faults _ text old new prints = prints.faults

-- where nothing was printed, nothing was appended
pub appends_nothing : (sink : Printed) → Appends sink sink []
appends_nothing sink = record { faults = omega arith; written = by sink.written }
  where
    by : (written : Option (List ℕ)) → Grows written written []
    by None = tt
    by (Some written) = sym (append-nil written)

-- and that is a prefix of each text
pub nothing_prefix : (outcome : Outcome) (text : List ℕ) (sink : Printed) → (outcome ≡ Device) ⊎ (outcome ≡ NoMemory)
    → Prints outcome text sink sink
nothing_prefix outcome text sink failed = by failed
  where
    front : AppendsPrefix sink sink text
    front = record { count = 0; appends = appends_nothing sink }

    by : (outcome ≡ Device) ⊎ (outcome ≡ NoMemory) → Prints outcome text sink sink
    by (inl device) =
        let P : Outcome → Type 0 = λ answer. Prints answer text sink sink in
        subst P (sym device) front
    by (inr full) =
        let P : Outcome → Type 0 = λ answer. Prints answer text sink sink in
        subst P (sym full) front

-- ---- the answer

-- an answer where one of the command's is due is one of the command's
pub among_due : (outcome due : Outcome) (command : Option Form) → IsAnswer outcome due → IsAmong due command
    → IsAmong outcome command
among_due outcome due command (inl same) may =
    let P : Outcome → Type 0 = λ answer. IsAmong answer command in
    subst P (sym same) may
among_due outcome due command (inr (inl device)) may =
    let P : Outcome → Type 0 = λ answer. IsAmong answer command in
    subst P (sym device) tt
among_due outcome due command (inr (inr full)) may =
    let P : Outcome → Type 0 = λ answer. IsAmong answer command in
    subst P (sym full) tt

-- the answer to a verdict, and to what is found
walk_among : (name : List ℕ) (verdict : Verdict) → IsAmong (walk_reply verdict).outcome (Some (WalkFile name))
walk_among name (Sound order count) = tt
walk_among name (Wrong at reason) = (refl, refl)

finding_among : (report : Report) (name : List ℕ) (finding : Finding)
    → IsAmong (finding_reply report finding).outcome (Some (form_asking report name))
finding_among Summary name (Accepted contents) = tt
finding_among Channels name (Accepted contents) = tt
finding_among Summary name (Refused fault) = refl
finding_among Channels name (Refused fault) = refl

-- ---- a command that reads one file

-- By what is to be found of the file it has a reply, which prints and writes no file.
pub record AnswersOn (A : Type 0) (is : List ℕ → A → Type 0) (reply_of : A → Reply) (form : Form) : Type 0 where
  pub alone : NoneHasTwo is
  pub among : (a : A) → IsAmong (reply_of a).outcome (Some form)
  pub nothing : (a : A) → (reply_of a).output ≡ Nothing
  pub unwritten : output_of (Some form) ≡ None

-- `walk` by the verdict
pub walk_answers : (name : List ℕ) → AnswersOn Verdict IsVerdict walk_reply (WalkFile name)
walk_answers name =
    record { alone = no_two_verdicts; among = walk_among name; nothing = nothing; unwritten = refl }
  where
    nothing : (verdict : Verdict) → (walk_reply verdict).output ≡ Nothing
    nothing (Sound order count) = refl
    nothing (Wrong at reason) = refl

-- `check` and `list` by what is found
pub report_answers : (report : Report) (name : List ℕ)
    → AnswersOn Finding IsFinding (finding_reply report) (form_asking report name)
report_answers report name = record {
  alone = no_two_findings;
  among = finding_among report name;
  nothing = nothing;
  unwritten = unwritten report;
}
  where
    nothing : (finding : Finding) → (finding_reply report finding).output ≡ Nothing
    nothing (Accepted contents) = refl
    nothing (Refused fault) = refl

    unwritten : (asked : Report) → output_of (Some (form_asking asked name)) ≡ None
    unwritten Summary = refl
    unwritten Channels = refl

-- the reply to what was found is due
due_by : {A : Type 0} (is : List ℕ → A → Type 0) (reply_of : A → Reply) (held : Option (List ℕ)) (a : A)
    → Told held (λ file. is file a) → (held ≡ None → ⊥) → IsFileDue is reply_of held (reply_of a)
due_by is reply_of None a told missing = absurd (missing refl)
due_by is reply_of (Some file) a told missing = (a, told file refl, refl)

-- the reply that is due is that of what was found
due_is_found : {A : Type 0} (is : List ℕ → A → Type 0) (reply_of : A → Reply) → NoneHasTwo is
    → (held : Option (List ℕ)) (a : A) (reply : Reply) → Told held (λ file. is file a) → (held ≡ None → ⊥)
    → IsFileDue is reply_of held reply → reply ≡ reply_of a
due_is_found is reply_of alone held a reply told missing due =
    file_dues is reply_of alone held reply (reply_of a) due (due_by is reply_of held a told missing)

-- a name was missed only where it is not held
missed_due : {A : Type 0} (is : List ℕ → A → Type 0) (reply_of : A → Reply) (held : Option (List ℕ)) (old new : ℕ)
    → (IsSome held → new ≡ old) → old < new → (reply : Reply) → IsFileDue is reply_of held reply
    → reply.outcome ≡ Device
missed_due is reply_of None old new kept rose reply due = ap (λ (r : Reply). r.outcome) due
missed_due is reply_of (Some file) old new kept rose reply due = absurd (omega (arith, kept refl))

-- no file is to be written
writes_nothing : {A : Type 0} (is : List ℕ → A → Type 0) (reply_of : A → Reply)
    → ((a : A) → (reply_of a).output ≡ Nothing) → (held : Option (List ℕ)) (reply : Reply)
    → IsFileDue is reply_of held reply → reply.output ≡ Nothing
writes_nothing is reply_of nothing None reply due = ap (λ (r : Reply). r.output) due
writes_nothing is reply_of nothing (Some file) reply (a, holds, same) =
    ap (λ (r : Reply). r.output) same ∙ nothing a

-- and the files are as they were
pub leaves_all : (files : Files) (new : Option Files) (outcome : Outcome) (output : Output) → output ≡ Nothing
    → new ≡ Some files → Leaves files new outcome output
leaves_all files new outcome output nothing same =
    let P : Output → Type 0 = λ o. Leaves files new outcome o in
    subst P (sym nothing) same

-- the slots that were given before are as they were
pub keeps_all : (form : Form) (old new : Outside) (name : List ℕ) → output_of (Some form) ≡ None
    → ReadsOneFile old new name → Keeps (output_of (Some form)) old new
keeps_all form old new name unwritten reads =
    let P : Option (List ℕ) → Type 0 = λ to. Keeps to old new in
    subst P (sym unwritten) (reads.slots, reads.files)

-- how far the input of a command that writes nothing is drawn, is not bounded
unbounded : (form : Form) (files : Files) (old new : Outside) → output_of (Some form) ≡ None
    → DrawsNoFurther (Some form) files old new
unbounded (WalkFile file) files old new none = tt
unbounded (CheckFile file) files old new none = tt
unbounded (ListFile file) files old new none = tt
unbounded (SameFiles first second) files old new none = tt
unbounded (SpliceFiles to from) files old new none = cc
unbounded (DumpFile file) files old new none = tt
unbounded (MakeFile frames to) files old new none = tt

-- something was found of the file, and its reply printed
pub replies_found : (A : Type 0) (is : List ℕ → A → Type 0) (reply_of : A → Reply) (form : Form)
    → AnswersOn A is reply_of form → (old new : Outside) (before after : Printed) (name : List ℕ) (a : A)
    (outcome : Outcome) → ReadsOneFile old new name
    → Told old.files (λ files. Told (files name) (λ file. is file a))
    → Told old.files (λ files. files name ≡ None → ⊥) → IsAnswer outcome (reply_of a).outcome
    → Prints outcome (reply_of a).text before after → (outcome ≡ Device → Rose before.faults after.faults)
    → Replies (λ files reply. IsFileDue is reply_of (files name) reply) (Some form) 1 old new before after outcome
replies_found A is reply_of form on old new before after name a outcome reads found missing answers prints device =
    record {
      answer = λ files told reply due.
          let P : Reply → Type 0 = λ r. IsAnswer outcome r.outcome in
          subst P (sym (same files told reply due)) answers;
      text = λ files told reply due.
          let P : Reply → Type 0 = λ r. Prints outcome r.text before after in
          subst P (sym (same files told reply due)) prints;
      output = λ files told reply due.
          leaves_all files new.files outcome reply.output
          (writes_nothing is reply_of on.nothing (files name) reply due) (reads.files ∙ told);
      misses = λ files told rose reply due.
          missed_due is reply_of (files name) old.misses new.misses (reads.missed files told) rose reply due;
      taken = λ files told. unbounded form files old new on.unwritten;
      among = among_due outcome (reply_of a).outcome (Some form) answers (on.among a);
      usage = λ none. absurd cc;
      device = λ failed. inr (device failed);
      faults = reads.faults;
      missed = reads.misses;
      sink = prints_faults outcome (reply_of a).text before after prints;
      keeps = keeps_all form old new name on.unwritten reads;
      given = reads.given;
    }
  where
    same : (files : Files) → old.files ≡ Some files → (reply : Reply) → IsFileDue is reply_of (files name) reply
        → reply ≡ reply_of a
    same files told reply due =
        due_is_found is reply_of on.alone (files name) a reply (found files told) (missing files told) due

-- the outside or memory failed before anything was printed
pub replies_failed : (A : Type 0) (is : List ℕ → A → Type 0) (reply_of : A → Reply) (form : Form)
    → AnswersOn A is reply_of form → (old new : Outside) (sink : Printed) (name : List ℕ) (outcome : Outcome)
    → ReadsOneFile old new name → (outcome ≡ Device) ⊎ (outcome ≡ NoMemory)
    → (outcome ≡ Device → Rose old.faults new.faults)
    → Replies (λ files reply. IsFileDue is reply_of (files name) reply) (Some form) 1 old new sink sink outcome
replies_failed A is reply_of form on old new sink name outcome reads failed device = record {
  answer = λ files told reply due. inr failed;
  text = λ files told reply due. nothing_prefix outcome reply.text sink failed;
  output = λ files told reply due.
      leaves_all files new.files outcome reply.output
      (writes_nothing is reply_of on.nothing (files name) reply due) (reads.files ∙ told);
  misses = λ files told rose reply due.
      missed_due is reply_of (files name) old.misses new.misses (reads.missed files told) rose reply due;
  taken = λ files told. unbounded form files old new on.unwritten;
  among = among_due outcome Device (Some form) (inr failed) tt;
  usage = λ none. absurd cc;
  device = λ lost. inl (device lost);
  faults = reads.faults;
  missed = reads.misses;
  sink = omega arith;
  keeps = keeps_all form old new name on.unwritten reads;
  given = reads.given;
}

-- ---- words

-- words that are no command: the line of Usage was printed
pub replies_usage : (words : ℕ) (outside : Outside) (before after : Printed) (outcome : Outcome)
    → IsAnswer outcome Usage → Prints outcome (line_of Usage) before after
    → (outcome ≡ Device → Rose before.faults after.faults)
    → Replies (λ files reply. IsCommandDue files None reply) None words outside outside before after outcome
replies_usage words outside before after outcome answers prints device = record {
  answer = λ files told reply due.
      let P : Reply → Type 0 = λ r. IsAnswer outcome r.outcome in
      subst P (sym due) answers;
  text = λ files told reply due.
      let P : Reply → Type 0 = λ r. Prints outcome r.text before after in
      subst P (sym due) prints;
  output = λ files told reply due.
      leaves_all files outside.files outcome reply.output (ap (λ (r : Reply). r.output) due) told;
  misses = λ files told rose reply due. absurd (omega (arith, rose));
  taken = λ files told. tt;
  among = among_due outcome Usage None answers tt;
  usage = λ none. answers;
  device = λ failed. inr (device failed);
  faults = omega arith;
  missed = omega arith;
  sink = prints_faults outcome (line_of Usage) before after prints;
  keeps = (take_all (length outside.slots) outside.slots (omega arith), refl);
  given = omega arith;
}

-- more words give room for more slots
more_words : (IsDueTo : Files → Reply → Type 0) (command : Option Form) (count words : ℕ) (old new : Outside)
    (before after : Printed) (outcome : Outcome) → count ≤ words
    → Replies IsDueTo command count old new before after outcome
    → Replies IsDueTo command words old new before after outcome
more_words IsDueTo command count words old new before after outcome few replies = record {
  answer = replies.answer;
  text = replies.text;
  output = replies.output;
  misses = replies.misses;
  taken = replies.taken;
  among = replies.among;
  usage = replies.usage;
  device = replies.device;
  faults = replies.faults;
  missed = replies.missed;
  sink = replies.sink;
  keeps = replies.keeps;
  given = omega (arith, few, replies.given);
}

-- the words were run as their command
pub runs_by : (words : List (List ℕ)) (command : Option Form) (count : ℕ) (old new : Outside)
    (before after : Printed) (outcome : Outcome) → command ≡ command_of words → count ≤ length words
    → Replies (λ files reply. IsCommandDue files command reply) command count old new before after outcome
    → Runs words old new before after outcome
runs_by words command count old new before after outcome same few replies =
    let P : Option Form → Type 0 = λ form.
    Replies (λ files reply. IsCommandDue files form reply) form (length words) old new before after outcome in
    subst P same (more_words _ command count (length words) old new before after outcome few replies)

-- an answer that is Ok is no error
pub no_error : {T E : Type 0} (value : T) (error : E) → IsErrOf (Ok value) error → ⊥
no_error value error same = cc
