-- What is said of runs of `copy` and of `same` together.
use Rattle.std.proofs.Common.{◌≡◌, ◌≢◌, ◌↔◌, ℕ, Bool, true, false, cond, List, [], ◌∷◌, codes, Option, Some, None}
use Rattle.std.proofs.Common.{Ok, Err, bytes_eq, inl, inr, refl, sym, ap, ◌∙◌, subst}
use Rattle.std.proofs.lemmas.Slice.Eq.{bytes_eq-Decides}
use Rattle.frame_outside.specs.Shelf.{Files, holding}
use Rattle.canonical_file.specs.declared.closing.Closing.{Closing}
use Rattle.canonical_file.specs.Written.{canonical_file}
use Rattle.canonical_file.specs.Contents.{Content, SameContent}
use Rattle.frame_content.specs.Frames.{Frame}
use Rattle.splicer.specs.declared.errors.SpliceError.{SpliceError}
use Rattle.splicer.specs.declared.errors.SpliceError.TheVariants as splice
use Rattle.splicer.specs.Due.{Due, Writes, Stops, IsDue, IsDueFrom, answer_of, is_whole, output_of}
use Rattle.splicer.specs.Left.{LeavesFile}
use Rattle.splicer.specs.Laws.{IsCopyOf}
use Rattle.splicer.proofs.Dues.{a-due}
use Rattle.splicer.proofs.Copies.{copies-tell}
use Rattle.splicer.proofs.OwnCopies.{copies-done, copies-name-faults}
use Rattle.content_compare.specs.declared.answers.Comparison.TheVariants as comparison
use Rattle.content_compare.specs.declared.answers.CompareError.TheVariants as compare
use Rattle.content_compare.specs.Due.{Answer}
use Rattle.content_compare.specs.Due as CompareDue
use Rattle.content_compare.specs.Laws.{SameIsDueOfSameContents}
use Rattle.frame_tool.specs.declared.outcome.Outcome.{Outcome}
use Rattle.frame_tool.specs.declared.outcome.Outcome.TheVariants.{Done, Same, Usage, Device, NoMemory}
use Rattle.frame_tool.specs.Words.{Form, SpliceFiles, command_of}
use Rattle.frame_tool.specs.Outcome.{comparison_outcome, splice_outcome, splice_error_outcome}
use Rattle.frame_tool.specs.Due.{Reply, IsCommandDue, IsAnswer, splice_reply}
use Rattle.frame_tool.specs.Run.{Replies, has_failed}
use Rattle.frame_tool.specs.Headline.{RunsCopy, CopiesTellContents, CopiesAreDone, CopiesNameFaults}

-- ---- a copy

-- a file that is written is held
held_now : (to bytes : List ℕ) (files : Files) → holding to bytes files to ≡ Some bytes
held_now to bytes files = by (bytes_eq to to) ((bytes_eq-Decides to to).1 refl)
  where
    by : (same : Bool) → same ≡ true → cond same (Some bytes) (files to) ≡ Some bytes
    by true is = refl
    by false is = absurd cc

-- what is due of a copy: it is answered, and unless the outside or memory failed the output holds what is due to it
record HasCopied (files now : Files) (file to : List ℕ) (outcome : Outcome) : Type 0 where
  pub due : Due
  pub is : IsDue files (file ∷ []) due
  pub answer : IsAnswer outcome (splice_outcome (answer_of due))
  pub output : has_failed outcome ≡ false → now to ≡ Some (output_of due)

-- a copy to the file itself is no command, and any other is the splice of one file
copy_to : (file to : List ℕ) (same : Bool) → bytes_eq to file ≡ same
    → command_of (codes "copy" ∷ file ∷ to ∷ []) ≡ cond same None (Some (SpliceFiles to (file ∷ [])))
copy_to file to true is = rw is refl
copy_to file to false is = rw is refl

-- the files that a copy leaves
written : (failed : Bool) (files now : Files) (new : Option Files) (to : List ℕ) (due : Due) → new ≡ Some now
    → failed ≡ false → LeavesFile failed files new to (is_whole due) (output_of due) → now to ≡ Some (output_of due)
written true files now new to due told is leaves = absurd cc
written false files now new to due told is leaves =
    let same : now ≡ holding to (output_of due) files = cc in
    ap (λ (all : Files). all to) same ∙ held_now to (output_of due) files

-- a copy that was run to another file
has_copied : (files now : Files) (file to : List ℕ) (outcome : Outcome) → RunsCopy files now file to outcome
    → bytes_eq to file ≡ false → HasCopied files now file to outcome
has_copied files now file to outcome copied apart = record {
  due = due.0;
  is = is;
  answer = runs.answer files copied.told (splice_reply to due.0) (due.0, is, refl);
  output = λ unfailed.
      written (has_failed outcome) files now copied.new.files to due.0 copied.now_are unfailed
      (runs.output files copied.told (splice_reply to due.0) (due.0, is, refl));
}
  where
    due : (due : Due) × IsDueFrom files None [] 0 (file ∷ []) due
    due = a-due files file [] None [] 0

    is : IsDue files (file ∷ []) due.0
    is = record { bytes = copied.bytes; from = due.1 }

    runs : Replies (λ all reply. IsCommandDue all (Some (SpliceFiles to (file ∷ []))) reply)
        (Some (SpliceFiles to (file ∷ []))) 3 copied.old copied.new copied.before copied.after outcome
    runs =
        let P : Option Form → Type 0 = λ form. Replies (λ all reply. IsCommandDue all form reply) form 3 copied.old
        copied.new copied.before copied.after outcome in
        subst P (copy_to file to false apart) copied.runs

-- a copy to the file itself is not done
not_to_itself : (files now : Files) (file to : List ℕ) → RunsCopy files now file to Done → bytes_eq to file ≡ true → ⊥
not_to_itself files now file to copied same = by (copied.runs.usage (copy_to file to true same))
  where
    by : IsAnswer Done Usage → ⊥
    by (inl usage) = cc
    by (inr (inl device)) = cc
    by (inr (inr full)) = cc

-- a copy that is done was to another file
copied_apart : (files now : Files) (file to : List ℕ) → RunsCopy files now file to Done
    → HasCopied files now file to Done
copied_apart files now file to copied = by (bytes_eq to file) refl
  where
    by : (same : Bool) → bytes_eq to file ≡ same → HasCopied files now file to Done
    by true same = absurd (not_to_itself files now file to copied same)
    by false same = has_copied files now file to Done copied same

-- where the outside and memory did not fail, the due answer is given
answers_due : (outcome due : Outcome) → outcome ≢ Device → outcome ≢ NoMemory → IsAnswer outcome due → outcome ≡ due
answers_due outcome due held room (inl same) = same
answers_due outcome due held room (inr (inl device)) = absurd (held device)
answers_due outcome due held room (inr (inr full)) = absurd (room full)

-- and then they did not fail
not_failed : (outcome : Outcome) → outcome ≢ Device → outcome ≢ NoMemory → has_failed outcome ≡ false
not_failed Device held room = absurd (held refl)
not_failed NoMemory held room = absurd (room refl)
not_failed _ held room = refl

-- names that differ are told apart
told_apart : (file to : List ℕ) → file ≢ to → bytes_eq to file ≡ false
told_apart file to apart = by (bytes_eq to file) refl
  where
    by : (same : Bool) → bytes_eq to file ≡ same → same ≡ false
    by true same = absurd (apart (sym ((bytes_eq-Decides to file).0 same)))
    by false same = refl

-- ---- copies that are done

-- a splice that stops is not done
not_done : (error : SpliceError) → splice_error_outcome error ≡ Done → ⊥
not_done (splice.Fault file fault) is = cc
not_done (splice.Clash file class) is = cc
not_done splice.FramesLimit is = cc
not_done splice.OutputLimit is = cc
not_done splice.Device is = cc
not_done splice.NoMemory is = cc

-- a splice that is due whole is due done
whole_done : (due : Due) → is_whole due ≡ true → splice_outcome (answer_of due) ≡ Done
whole_done (Writes closing frames) is = refl
whole_done (Stops error frames) is = absurd cc

-- a copy that is done is the canonical file of what is due
record IsWritten (files now : Files) (file to : List ℕ) : Type 0 where
  pub closing : Closing
  pub frames : List Frame
  pub is : IsDue files (file ∷ []) (Writes closing frames)
  pub holds : now to ≡ Some (canonical_file closing frames)

written_by : (files now : Files) (file to : List ℕ) (due : Due) → IsDue files (file ∷ []) due
    → now to ≡ Some (output_of due) → Done ≡ splice_outcome (answer_of due) → IsWritten files now file to
written_by files now file to (Writes closing frames) is holds done =
    record { closing = closing; frames = frames; is = is; holds = holds }
written_by files now file to (Stops error frames) is holds done = absurd (not_done error (sym done))

done_written : (files now : Files) (file to : List ℕ) → RunsCopy files now file to Done → IsWritten files now file to
done_written files now file to copied =
    let has = copied_apart files now file to copied in
    written_by files now file to has.due has.is (has.output refl)
    (answers_due Done (splice_outcome (answer_of has.due)) (λ no. cc) (λ no. cc) has.answer)

-- ---- copies that are compared

-- the answer of a comparison is that they are the same exactly where that is due
same_compared : (due : Answer) → comparison_outcome due ≡ Same → due ≡ Ok comparison.Same
same_compared (Ok comparison.Same) is = refl
same_compared (Ok (comparison.Different place)) is = absurd cc
same_compared (Err (compare.Fault file fault)) is = absurd cc
same_compared (Err compare.Device) is = absurd cc
same_compared (Err compare.NoMemory) is = absurd cc

-- two copies are equal bytes exactly where the same is due of their sources
compares : SameIsDueOfSameContents → (files others both : Files) (file other bytes ends : List ℕ) (due : Answer)
    → (c d : Content) × IsCopyOf files file c bytes × IsCopyOf others other d ends × ((bytes ≡ ends) ↔ SameContent c d)
    → both file ≡ files file → both other ≡ others other → CompareDue.IsDue both file other due
    → (bytes ≡ ends) ↔ (comparison_outcome due ≡ Same)
compares tells files others both file other bytes ends due (c, d, first, second, alike) held also is = (
  λ equal. ap comparison_outcome (told.1 (alike.0 equal)),
  λ said. alike.1 (told.0 (same_compared due said)),
)
  where
    told : (due ≡ Ok comparison.Same) ↔ SameContent c d
    told =
        tells both file other first.file second.file c d due (held ∙ first.held) (also ∙ second.held) first.content
        second.content is

-- what is known of bytes and of an answer is known of files that hold the bytes, and of a reply with that answer
held_alike : (holds also : Option (List ℕ)) (bytes ends : List ℕ) (outcome said : Outcome) → holds ≡ Some bytes
    → also ≡ Some ends → outcome ≡ said → (bytes ≡ ends) ↔ (said ≡ Same) → (holds ≡ also) ↔ (outcome ≡ Same)
held_alike holds also bytes ends outcome said one two same alike = (
  λ equal. same ∙ alike.0 (unwrapped (sym one ∙ equal ∙ two)),
  λ is. one ∙ ap Some (alike.1 (sym same ∙ is)) ∙ sym two,
)
  where
    unwrapped : Some bytes ≡ Some ends → bytes ≡ ends
    unwrapped wrapped = cc

pub copies_tell : SameIsDueOfSameContents → CopiesTellContents
copies_tell tells files now others then both file to other also reply one two held_one held_two (due, is, same) =
    by (done_written files now file to one) (done_written others then other also two)
  where
    by : IsWritten files now file to → IsWritten others then other also → (now to ≡ then also) ↔ (reply.outcome ≡ Same)
    by left right =
        held_alike (now to) (then also) (canonical_file left.closing left.frames)
        (canonical_file right.closing right.frames) reply.outcome (comparison_outcome due) left.holds right.holds
        (ap (λ (r : Reply). r.outcome) same)
        (compares tells files others both file other (canonical_file left.closing left.frames)
        (canonical_file right.closing right.frames) due
        (copies-tell files others file other left.closing right.closing left.frames right.frames left.is right.is)
        held_one held_two is)

-- ---- copies of well-formed files, and of others

pub copies_are_done : CopiesAreDone
copies_are_done files now file to bytes canonical c outcome copied held room apart holds has is short =
    let copy = has_copied files now file to outcome copied (told_apart file to apart) in
    let due = copies-done files file bytes c canonical copy.due holds has is short copy.is in (
      answers_due outcome (splice_outcome (answer_of copy.due)) held room copy.answer ∙ whole_done copy.due due.1,
      copy.output (not_failed outcome held room) ∙ ap Some due.0,
    )

pub copies_name_faults : CopiesNameFaults
copies_name_faults files now file to bytes fault frames ordered outcome copied held room apart holds gives order short =
    let copy = has_copied files now file to outcome copied (told_apart file to apart) in
    let due = copies-name-faults files file bytes fault frames ordered copy.due holds gives order short copy.is in (
      answers_due outcome (splice_outcome (answer_of copy.due)) held room copy.answer
          ∙ ap (λ d. splice_outcome (answer_of d)) due,
      copy.output (not_failed outcome held room) ∙ ap (λ d. Some (output_of d)) due,
    )
