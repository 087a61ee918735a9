-- What a run of a dump does, by what was printed of the file.
use Rattle.std.proofs.Common.{◌≡◌, ℕ, ◌<◌, ◌≤◌, List, [], ◌++◌, Option, Some, None, Result, Ok, Err, IsSome, inl, inr}
use Rattle.std.proofs.Common.{◌⊎◌, refl, sym, ap, ◌∙◌, subst, append-nil, arith}
use Rattle.frame_outside.specs.Counts.{Rose}
use Rattle.frame_outside.specs.Shelf.{Outside, Told}
use Rattle.frame_outside.specs.Sink.{Output as Printed, Appends}
use Rattle.file_grammar.specs.declared.fault.Fault.{Fault as FirstFault}
use Rattle.dumper.specs.Page.{AppendsPrefix}
use Rattle.dumper.specs.declared.files.DumpError.{DumpError}
use Rattle.dumper.specs.declared.files.DumpError.TheVariants as error
use Rattle.dumper.specs.Due.{IsDump, Dumps, ReadsOneFile}
use Rattle.dumper.proofs.Pages.{appends-then, prefix-longer, prefix-then, prefix-none}
use Rattle.frame_tool.specs.declared.outcome.Outcome.{Outcome}
use Rattle.frame_tool.specs.declared.outcome.Outcome.TheVariants.{Done, Fault, Device, NoMemory}
use Rattle.frame_tool.specs.Words.{DumpFile}
use Rattle.frame_tool.specs.Outcome.{line_of}
use Rattle.frame_tool.specs.Due.{Reply, Nothing, dump_reply, IsDumpDue, IsAnswer, IsAmong, Prints}
use Rattle.frame_tool.specs.Run.{Replies}
use Rattle.frame_tool.proofs.OneReply.{dump_dues}
use Rattle.frame_tool.proofs.Replies.{among_due, keeps_all, leaves_all, appends_nothing}

-- ---- the reply of a dump

-- the outcome by the first fault
abbrev pub outcome_by : Option FirstFault → Outcome
outcome_by None = Done
outcome_by (Some fault) = Fault 0 fault.at fault.field fault.reason

dump_outcome : (fault : Option FirstFault) (text : List ℕ) → (dump_reply fault text).outcome ≡ outcome_by fault
dump_outcome None text = refl
dump_outcome (Some fault) text = refl

dump_text : (fault : Option FirstFault) (text : List ℕ)
    → (dump_reply fault text).text ≡ text ++ line_of (outcome_by fault)
dump_text None text = sym (append-nil text)
dump_text (Some fault) text = refl

dump_nothing : (fault : Option FirstFault) (text : List ℕ) → (dump_reply fault text).output ≡ Nothing
dump_nothing None text = refl
dump_nothing (Some fault) text = refl

dump_among : (fault : Option FirstFault) (name : List ℕ) → IsAmong (outcome_by fault) (Some (DumpFile name))
dump_among None name = tt
dump_among (Some fault) name = refl

-- ---- what is due of a file

-- no file is to be written
due_nothing : (held : Option (List ℕ)) (reply : Reply) → IsDumpDue held reply → reply.output ≡ Nothing
due_nothing None reply due = ap (λ (r : Reply). r.output) due
due_nothing (Some file) reply (fault, text, is, same) = ap (λ (r : Reply). r.output) same ∙ dump_nothing fault text

-- a name was missed only where it is not held
due_missed : (held : Option (List ℕ)) (old new : ℕ) → (IsSome held → new ≡ old) → old < new → (reply : Reply)
    → IsDumpDue held reply → reply.outcome ≡ Device
due_missed None old new kept rose reply due = ap (λ (r : Reply). r.outcome) due
due_missed (Some file) old new kept rose reply due = absurd (omega (arith, kept refl))

-- the lines of the file were printed, up to this first fault
abbrev Shows : Option FirstFault → Printed → Printed → List ℕ → Type 0
Shows fault before mid file = (text : List ℕ) × IsDump file fault text × Appends before mid text

-- so the reply that is due is that of these lines
due_shown : (held : Option (List ℕ)) (fault : Option FirstFault) (before mid : Printed) (reply : Reply)
    → Told held (Shows fault before mid) → (held ≡ None → ⊥) → IsDumpDue held reply
    → (text : List ℕ) × (reply ≡ dump_reply fault text) × Appends before mid text
due_shown None fault before mid reply shown missing due = absurd (missing refl)
due_shown (Some file) fault before mid reply shown missing due =
    let lines = shown file refl in
    (lines.0, dump_dues (Some file) reply (dump_reply fault lines.0) due (fault, lines.0, lines.1, refl), lines.2)

-- ---- what is printed

-- lines, and then the line of an answer
prints_after : (outcome : Outcome) (text line : List ℕ) (before mid after : Printed) → Appends before mid text
    → Prints outcome line mid after → Prints outcome (text ++ line) before after
prints_after Device text line before mid after lines last = prefix-then before mid after text line lines last
prints_after NoMemory text line before mid after lines last = prefix-then before mid after text line lines last
prints_after _ text line before mid after lines last = appends-then before mid after text line lines last

-- a prefix of the lines, whichever are due
due_prefix : (held : Option (List ℕ)) (before after : Printed) (reply : Reply)
    → Told held (λ file. (fault : Option FirstFault) (text : List ℕ) → IsDump file fault text
    → AppendsPrefix before after text) → (held ≡ None → Appends before after []) → IsDumpDue held reply
    → AppendsPrefix before after reply.text
due_prefix None before after reply prints missing due =
    subst (AppendsPrefix before after) (sym (ap (λ (r : Reply). r.text) due))
    (prefix-none before after [] (missing refl))
due_prefix (Some file) before after reply prints missing (fault, text, is, same) =
    subst (AppendsPrefix before after) (sym (ap (λ (r : Reply). r.text) same ∙ dump_text fault text))
    (prefix-longer before after text (line_of (outcome_by fault)) (prints file refl fault text is))

-- a prefix was printed where the outside or memory failed
prints_failed : (outcome : Outcome) (text : List ℕ) (before after : Printed)
    → (outcome ≡ Device) ⊎ (outcome ≡ NoMemory) → AppendsPrefix before after text → Prints outcome text before after
prints_failed outcome text before after (inl device) prefix =
    let P : Outcome → Type 0 = λ o. Prints o text before after in
    subst P (sym device) prefix
prints_failed outcome text before after (inr full) prefix =
    let P : Outcome → Type 0 = λ o. Prints o text before after in
    subst P (sym full) prefix

-- ---- the run

-- the lines were printed, and then the line of the answer
pub replies_shown : (old new : Outside) (before mid after : Printed) (name : List ℕ) (fault : Option FirstFault)
    (outcome : Outcome) → ReadsOneFile old new name
    → Told old.files (λ files. Told (files name) (Shows fault before mid))
    → Told old.files (λ files. files name ≡ None → ⊥) → IsAnswer outcome (outcome_by fault)
    → Prints outcome (line_of (outcome_by fault)) mid after → before.faults ≤ mid.faults
    → mid.faults ≤ after.faults → (outcome ≡ Device → Rose mid.faults after.faults)
    → Replies (λ files reply. IsDumpDue (files name) reply) (Some (DumpFile name)) 1 old new before after outcome
replies_shown old new before mid after name fault outcome reads shown missing answers prints low high device = record {
  answer = λ files told reply due.
      let is = due_shown (files name) fault before mid reply (shown files told) (missing files told) due in
      let P : Outcome → Type 0 = λ o. IsAnswer outcome o in
      subst P (sym (ap (λ (r : Reply). r.outcome) is.1 ∙ dump_outcome fault is.0)) answers;
  text = λ files told reply due.
      let is = due_shown (files name) fault before mid reply (shown files told) (missing files told) due in
      let P : List ℕ → Type 0 = λ text. Prints outcome text before after in
      subst P (sym (ap (λ (r : Reply). r.text) is.1 ∙ dump_text fault is.0))
      (prints_after outcome is.0 (line_of (outcome_by fault)) before mid after is.2 prints);
  output = λ files told reply due.
      leaves_all files new.files outcome reply.output (due_nothing (files name) reply due) (reads.files ∙ told);
  misses = λ files told rose reply due.
      due_missed (files name) old.misses new.misses (reads.missed files told) rose reply due;
  taken = λ files told. tt;
  among = among_due outcome (outcome_by fault) (Some (DumpFile name)) answers (dump_among fault name);
  usage = λ none. absurd cc;
  device = λ failed. inr (omega (arith, device failed, low));
  faults = reads.faults;
  missed = reads.misses;
  sink = omega (arith, low, high);
  keeps = keeps_all (DumpFile name) old new name refl reads;
  given = reads.given;
}

-- the outside or memory failed before all lines were printed
pub replies_refused : (old new : Outside) (before after : Printed) (name : List ℕ) (outcome : Outcome)
    → ReadsOneFile old new name
    → Told old.files (λ files. Told (files name) (λ file. (fault : Option FirstFault) (text : List ℕ)
    → IsDump file fault text → AppendsPrefix before after text))
    → Told old.files (λ files. files name ≡ None → Appends before after []) → before.faults ≤ after.faults
    → (outcome ≡ Device) ⊎ (outcome ≡ NoMemory)
    → (outcome ≡ Device → Rose old.faults new.faults ⊎ Rose before.faults after.faults)
    → Replies (λ files reply. IsDumpDue (files name) reply) (Some (DumpFile name)) 1 old new before after outcome
replies_refused old new before after name outcome reads prints missing low failed device = record {
  answer = λ files told reply due. inr failed;
  text = λ files told reply due.
      prints_failed outcome reply.text before after failed
      (due_prefix (files name) before after reply (prints files told) (missing files told) due);
  output = λ files told reply due.
      leaves_all files new.files outcome reply.output (due_nothing (files name) reply due) (reads.files ∙ told);
  misses = λ files told rose reply due.
      due_missed (files name) old.misses new.misses (reads.missed files told) rose reply due;
  taken = λ files told. tt;
  among = among_due outcome Device (Some (DumpFile name)) (inr failed) tt;
  usage = λ none. absurd cc;
  device = device;
  faults = reads.faults;
  missed = reads.misses;
  sink = low;
  keeps = keeps_all (DumpFile name) old new name refl reads;
  given = reads.given;
}

-- ---- by what a dump answered

-- what a dump of a file did and answered
pub record HasDumped (old new : Outside) (before after : Printed) (name : List ℕ) (result : Result Unit DumpError)
    : Type 0 where
  pub answer : Told old.files (λ files. Told (files name) (λ file. Dumps file before after result))
  pub missing : Told old.files (λ files. files name ≡ None
      → ((result ≡ Err error.Device) ⊎ (result ≡ Err error.NoMemory)) × Appends before after [])
  pub shelf : ReadsOneFile old new name
  pub sink : before.faults ≤ after.faults

-- an answer that no missing name gives
not_missing : (old new : Outside) (before after : Printed) (name : List ℕ) (result : Result Unit DumpError)
    → HasDumped old new before after name result → (result ≡ Err error.Device → ⊥) → (result ≡ Err error.NoMemory → ⊥)
    → Told old.files (λ files. files name ≡ None → ⊥)
not_missing old new before after name result has lost full files told none =
    by (has.missing files told none).0
  where
    by : (result ≡ Err error.Device) ⊎ (result ≡ Err error.NoMemory) → ⊥
    by (inl device) = lost device
    by (inr memory) = full memory

-- all was printed
pub replies_whole : (old new : Outside) (before after : Printed) (name : List ℕ) (result : Result Unit DumpError)
    → HasDumped old new before after name result → result ≡ Ok tt
    → Replies (λ files reply. IsDumpDue (files name) reply) (Some (DumpFile name)) 1 old new before after Done
replies_whole old new before after name result has is =
    replies_shown old new before after after name None Done has.shelf
    (λ files told file held.
    let P : Result Unit DumpError → Type 0 = λ r. Dumps file before after r in
    subst P is (has.answer files told file held))
    (not_missing old new before after name result has (λ device. absurd cc) (λ memory. absurd cc)) (inl refl)
    (appends_nothing after) has.sink (omega arith) (λ no. absurd cc)

-- all before a fault was printed, and then its line
pub replies_fault : (old new : Outside) (before mid after : Printed) (name : List ℕ) (result : Result Unit DumpError)
    (fault : FirstFault) (outcome : Outcome) → HasDumped old new before mid name result
    → result ≡ Err (error.Fault fault) → IsAnswer outcome (outcome_by (Some fault))
    → Prints outcome (line_of (outcome_by (Some fault))) mid after → mid.faults ≤ after.faults
    → (outcome ≡ Device → Rose mid.faults after.faults)
    → Replies (λ files reply. IsDumpDue (files name) reply) (Some (DumpFile name)) 1 old new before after outcome
replies_fault old new before mid after name result fault outcome has is answers prints high device =
    replies_shown old new before mid after name (Some fault) outcome has.shelf
    (λ files told file held.
    let P : Result Unit DumpError → Type 0 = λ r. Dumps file before mid r in
    subst P is (has.answer files told file held))
    (not_missing old new before mid name result has (λ device. absurd cc) (λ memory. absurd cc)) answers prints
    has.sink high device

-- the outside or memory failed
pub replies_device : (old new : Outside) (before after : Printed) (name : List ℕ) (result : Result Unit DumpError)
    → HasDumped old new before after name result → result ≡ Err error.Device
    → Rose old.faults new.faults ⊎ Rose before.faults after.faults
    → Replies (λ files reply. IsDumpDue (files name) reply) (Some (DumpFile name)) 1 old new before after Device
replies_device old new before after name result has is rose =
    replies_refused old new before after name Device has.shelf
    (λ files told file held.
    let P : Result Unit DumpError → Type 0 = λ r. Dumps file before after r in
    subst P is (has.answer files told file held))
    (λ files told none. (has.missing files told none).1) has.sink (inl refl) (λ same. rose)

pub replies_memory : (old new : Outside) (before after : Printed) (name : List ℕ) (result : Result Unit DumpError)
    → HasDumped old new before after name result → result ≡ Err error.NoMemory
    → Replies (λ files reply. IsDumpDue (files name) reply) (Some (DumpFile name)) 1 old new before after NoMemory
replies_memory old new before after name result has is =
    replies_refused old new before after name NoMemory has.shelf
    (λ files told file held.
    let P : Result Unit DumpError → Type 0 = λ r. Dumps file before after r in
    subst P is (has.answer files told file held))
    (λ files told none. (has.missing files told none).1) has.sink (inr refl) (λ same. absurd cc)
