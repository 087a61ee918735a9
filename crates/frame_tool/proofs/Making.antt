-- What a run of `make` does, by the file that was made and by what the check of it printed.
use Rattle.std.proofs.Common.{◌≡◌, ℕ, ◌≤◌, Bool, true, false, List, length, take, Option, Some}
use Rattle.std.proofs.Common.{Result, Ok, Err, inl, inr, ◌⊎◌, refl, sym, ap, ◌∙◌, subst, arith, bytes_eq}
use Rattle.std.proofs.lemmas.Slice.Eq.{bytes_eq-Decides}
use Rattle.std.proofs.lemmas.List.{take_all, take-take, length-take, length-map}
use Rattle.std.proofs.lemmas.Bool.{cond-true}
use Rattle.frame_outside.specs.Counts.{Rose}
use Rattle.frame_outside.specs.Shelf.{Outside, Files, Told, Slot, holding, without_slot}
use Rattle.frame_outside.specs.Sink.{Output as Printed}
use Rattle.frame_outside.specs.declared.traits.ShelfError.{ShelfError}
use Rattle.canonical_writer.specs.declared.writer.Summary.{Summary}
use Rattle.file_content.specs.declared.contents.Contents.{Contents}
use Rattle.file_content.specs.Contents.{AreContents}
use Rattle.splicer.specs.Made.{KeepsSlots, KeepsFiles}
use Rattle.sample_file.specs.Whole.{sample_bytes}
use Rattle.sample_file.specs.Made.{Makes, MakesOneFile, LeavesPrefix}
use Rattle.frame_tool.specs.declared.outcome.Outcome.{Outcome}
use Rattle.frame_tool.specs.declared.outcome.Outcome.TheVariants.{Done, Same, Different, Fault, NoChannel, NoTable}
use Rattle.frame_tool.specs.declared.outcome.Outcome.TheVariants.{TableLies, Clash, OutputLimit, FramesLimit, Usage}
use Rattle.frame_tool.specs.declared.outcome.Outcome.TheVariants.{Device, NoMemory}
use Rattle.frame_tool.specs.declared.judgement.Finding.TheVariants.{Accepted}
use Rattle.frame_tool.specs.declared.judgement.Report.TheVariants.{Summary as SummaryReport}
use Rattle.frame_tool.specs.Words.{CheckFile, MakeFile}
use Rattle.frame_tool.specs.Due.{Reply, Output, Made, finding_reply, IsReportDue, IsMakeDue}
use Rattle.frame_tool.specs.Due.{IsAnswer, IsAmong, Prints}
use Rattle.frame_tool.specs.Run.{Replies, Leaves, LeavesMade, has_failed}
use Rattle.frame_tool.proofs.Replies.{nothing_prefix}

-- ---- the file that was made

-- a file of its name is what it was made
held_made : (to bytes : List ℕ) (files : Files) → holding to bytes files to ≡ Some bytes
held_made to bytes files = cond-true (bytes_eq to to) (Some bytes) (files to) ((bytes_eq-Decides to to).1 refl)

-- what is due of the check of a file that holds these contents
check_due : (held : Option (List ℕ)) (file : List ℕ) (contents : Contents) → held ≡ Some file
    → AreContents file contents → IsReportDue SummaryReport held (finding_reply SummaryReport (Accepted contents))
check_due held file contents is are =
    let P : Option (List ℕ) → Type 0 = λ h.
    IsReportDue SummaryReport h (finding_reply SummaryReport (Accepted contents)) in
    subst P (sym is) (Accepted contents, are, refl)

-- ---- slots

-- slots that were kept after others were
kept_on : (k : ℕ) (mid new front : List Slot) → length front ≡ k → take k mid ≡ front → take (length mid) new ≡ mid
    → take k new ≡ front
kept_on k mid new front long kept after =
    let enough : k ≤ length mid =
    omega (arith, sym (length-take k mid), ap (length {A = Slot}) kept, long) in
    sym (take-take k (length mid) new enough) ∙ ap (take k) after ∙ kept

keeps_slots : (old mid new : Outside) (to : List ℕ) → KeepsSlots old mid to
    → take (length mid.slots) new.slots ≡ mid.slots → KeepsSlots old new to
keeps_slots old mid new to (inl same) after =
    inl (kept_on (length old.slots) mid.slots new.slots old.slots refl same after)
keeps_slots old mid new to (inr freed) after =
    inr (kept_on (length old.slots) mid.slots new.slots (without_slot to old.slots)
    (length-map old.slots _) freed after)

keeps_files : (old mid new : Outside) (to : List ℕ) → KeepsFiles old mid to → new.files ≡ mid.files
    → KeepsFiles old new to
keeps_files old mid new to (inl same) after = inl (after ∙ same)
keeps_files old mid new to (inr (bytes, made)) after = inr (bytes, after ∙ made)

-- ---- the answer

-- an answer of the check is one of the making
make_among : (outcome : Outcome) (frames : ℕ) (to name : List ℕ) → IsAmong outcome (Some (CheckFile name))
    → IsAmong outcome (Some (MakeFile frames to))
make_among Done frames to name is = tt
make_among Same frames to name is = is
make_among (Different place) frames to name is = is
make_among (Fault file at field reason) frames to name is = is
make_among NoChannel frames to name is = is
make_among NoTable frames to name is = is
make_among (TableLies at) frames to name is = is
make_among (Clash file class) frames to name is = is
make_among OutputLimit frames to name is = is
make_among FramesLimit frames to name is = is
make_among Usage frames to name is = is
make_among Device frames to name is = tt
make_among NoMemory frames to name is = tt

-- the whole file stands there, whatever the check was answered
leaves_made : (failed : Bool) (files : Files) (new : Option Files) (to bytes : List ℕ)
    → new ≡ Some (holding to bytes files) → LeavesMade failed files new to bytes
leaves_made true files new to bytes is = inr (record {
  count = length bytes;
  files_are = is ∙ ap (λ b. Some (holding to b files)) (sym (take_all (length bytes) bytes (omega arith)));
})
leaves_made false files new to bytes is = is

-- ---- the run

-- the file was made, and checked
pub replies_checked : (old mid new : Outside) (before after : Printed) (frames : ℕ) (to : List ℕ) (summary : Summary)
    (outcome : Outcome) → MakesOneFile old mid to
    → Told old.files (λ files. Makes {E = ShelfError} files mid.files to frames (Ok summary))
    → Replies (λ files reply. IsReportDue SummaryReport (files to) reply) (Some (CheckFile to)) 1 mid new before after
    outcome
    → Replies (λ files reply. IsMakeDue frames to reply) (Some (MakeFile frames to)) 2 old new before after outcome
replies_checked old mid new before after frames to summary outcome shelf made checked = record {
  answer = λ files told reply due.
      let P : Outcome → Type 0 = λ o. IsAnswer outcome o in
      subst P (sym (ap (λ (r : Reply). r.outcome) due.2))
      (checked.answer (held files) (made files told).0 (said due.0) (is_due files due.0 due.1));
  text = λ files told reply due.
      let P : List ℕ → Type 0 = λ text. Prints outcome text before after in
      subst P (sym (ap (λ (r : Reply). r.text) due.2))
      (checked.text (held files) (made files told).0 (said due.0) (is_due files due.0 due.1));
  output = λ files told reply due.
      let P : Output → Type 0 = λ o. Leaves files new.files outcome o in
      subst P (sym (ap (λ (r : Reply). r.output) due.2))
      (leaves_made (has_failed outcome) files new.files to (sample_bytes frames)
      (checked.output (held files) (made files told).0 (said due.0) (is_due files due.0 due.1)));
  misses = λ files told rose reply due.
      let no = checked.misses (held files) (made files told).0 (omega (arith, rose, shelf.misses)) (said due.0)
      (is_due files due.0 due.1) in
      absurd cc;
  taken = λ files told. tt;
  among = make_among outcome frames to to checked.among;
  usage = λ none. absurd cc;
  device = λ failed. by_rose (checked.device failed);
  faults = omega (arith, shelf.faults, checked.faults);
  missed = omega (arith, shelf.misses, checked.missed);
  sink = checked.sink;
  keeps = (
    keeps_slots old mid new to shelf.slots checked.keeps.0,
    keeps_files old mid new to shelf.files checked.keeps.1,
  );
  given = omega (arith, shelf.given, checked.given);
}
  where
    held : Files → Files
    held files = holding to (sample_bytes frames) files

    said : Contents → Reply
    said contents = finding_reply SummaryReport (Accepted contents)

    is_due : (files : Files) (contents : Contents) → AreContents (sample_bytes frames) contents
        → IsReportDue SummaryReport (held files to) (said contents)
    is_due files contents are =
        check_due (held files to) (sample_bytes frames) contents (held_made to (sample_bytes frames) files) are

    by_rose : Rose mid.faults new.faults ⊎ Rose before.faults after.faults
        → Rose old.faults new.faults ⊎ Rose before.faults after.faults
    by_rose (inl rose) = inl (omega (arith, rose, shelf.faults))
    by_rose (inr rose) = inr rose

-- the outside or memory failed before all was made
pub replies_unmade : (old new : Outside) (sink : Printed) (frames : ℕ) (to : List ℕ) (error : ShelfError)
    (outcome : Outcome) → MakesOneFile old new to
    → Told old.files (λ files. Makes files new.files to frames (Err error))
    → (outcome ≡ Device) ⊎ (outcome ≡ NoMemory) → (outcome ≡ Device → Rose old.faults new.faults)
    → Replies (λ files reply. IsMakeDue frames to reply) (Some (MakeFile frames to)) 2 old new sink sink outcome
replies_unmade old new sink frames to error outcome shelf made failed device = record {
  answer = λ files told reply due. inr failed;
  text = λ files told reply due. nothing_prefix outcome reply.text sink failed;
  output = λ files told reply due.
      let P : Output → Type 0 = λ o. Leaves files new.files outcome o in
      subst P (sym (ap (λ (r : Reply). r.output) due.2))
      (leaves_part failed files (made files told));
  misses = λ files told rose reply due. absurd (omega (arith, rose, shelf.misses));
  taken = λ files told. tt;
  among = by_among failed;
  usage = λ none. absurd cc;
  device = λ lost. inl (device lost);
  faults = shelf.faults;
  missed = omega (arith, shelf.misses);
  sink = omega arith;
  keeps = (shelf.slots, shelf.files);
  given = omega (arith, shelf.given);
}
  where
    leaves_part : (outcome ≡ Device) ⊎ (outcome ≡ NoMemory) → (files : Files)
        → (new.files ≡ Some files) ⊎ LeavesPrefix files new.files to (sample_bytes frames)
        → Leaves files new.files outcome (Made to (sample_bytes frames))
    leaves_part (inl lost) files left =
        let P : Outcome → Type 0 = λ o. Leaves files new.files o (Made to (sample_bytes frames)) in
        subst P (sym lost) left
    leaves_part (inr full) files left =
        let P : Outcome → Type 0 = λ o. Leaves files new.files o (Made to (sample_bytes frames)) in
        subst P (sym full) left

    by_among : (outcome ≡ Device) ⊎ (outcome ≡ NoMemory) → IsAmong outcome (Some (MakeFile frames to))
    by_among (inl lost) =
        let P : Outcome → Type 0 = λ o. IsAmong o (Some (MakeFile frames to)) in
        subst P (sym lost) tt
    by_among (inr full) =
        let P : Outcome → Type 0 = λ o. IsAmong o (Some (MakeFile frames to)) in
        subst P (sym full) tt

-- what a call that answered so has made
pub made_by : (old new : Option Files) (frames : ℕ) (to : List ℕ) (result said : Result Summary ShelfError)
    → result ≡ said → Told old (λ files. Makes files new to frames result)
    → Told old (λ files. Makes files new to frames said)
made_by old new frames to result said is made files told =
    let P : Result Summary ShelfError → Type 0 = λ r. Makes files new to frames r in
    subst P is (made files told)
