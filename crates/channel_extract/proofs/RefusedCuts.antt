-- Why a cut is refused: for the limit of bytes alone.
use Rattle.std.proofs.Common.{◌≡◌, ℕ, ◌+◌, ◌≤◌, ◌<◌, nat_lt, Bool, true, false, if◌then◌else◌, List, [], ◌∷◌}
use Rattle.std.proofs.Common.{◌++◌, length, Option, None, Result, Ok, Err, refl, sym, ap, ◌∙◌, arith}
use Rattle.std.proofs.Common.{length-append}
use Rattle.std.specs.List.{AllByRecursion}
use Rattle.std.proofs.lemmas.Bool.{lt-leb}
use Rattle.dictionary.specs.declared.entries.Entry.{Entry}
use Rattle.dictionary.specs.Dictionary.{IsDictionary}
use Rattle.file_grammar.specs.Structure.{file_limit}
use Rattle.file_grammar.specs.MayStand.{frames_limit}
use Rattle.frame_content.specs.Frames.{Frame}
use Rattle.canonical_file.specs.Splices.{clash_of}
use Rattle.canonical_file.specs.Written.{Written, header_alone, after_frame, after_frames}
use Rattle.canonical_laws.specs.Writable.{IsWritableFrame}
use Rattle.canonical_laws.proofs.AgreeingEntries.{all-push}
use Rattle.canonical_laws.proofs.FrameEntries.{AreNeeded, frames-needed, none-needed}
use Rattle.canonical_writer.specs.declared.errors.WriteError.{WriteError}
use Rattle.canonical_writer.specs.declared.errors.WriteError.TheVariants as write
use Rattle.canonical_writer.specs.Writer.{clash_or_limit, frame_due}
use Rattle.splicer.specs.Due.{Refuses, course_by, course}
use Rattle.splicer.proofs.DueParts.{frames-counted}
use Rattle.splicer.proofs.OwnFrames.{frame-clear}
use Rattle.channel_extract.specs.Laws.{OnlyBytesAreLimited}
use Rattle.channel_extract.proofs.GivenCuts.{given-cuts}

abbrev limited : Bool → Result Unit WriteError
limited long = if long then Err write.OutputLimit else Ok tt

-- a frame that does not clash, where one more is allowed
one-refused : (w : Written) (f : Frame) (error : WriteError) → w.frames < frames_limit
    → clash_of None w.entries f ≡ None → frame_due None w f ≡ Err error → error ≡ write.OutputLimit
one-refused w f error few clear due = by (nat_lt file_limit size) left
  where
    size : ℕ
    size = (after_frame w f).size

    left : clash_or_limit None size ≡ Err error
    left =
        sym (ap (λ (full : Bool). if full then Err write.FramesLimit
        else clash_or_limit (clash_of None w.entries f) size)
        (lt-leb frames_limit w.frames few)
        ∙ ap (λ (clash : Option ℕ). clash_or_limit clash size) clear)
        ∙ due

    by : (long : Bool) → limited long ≡ Err error → error ≡ write.OutputLimit
    by true is = cc
    by false is = absurd cc

-- frames of one dictionary, after frames of it
frames-refused : (dictionary : List Entry) (stood fs then_stand : List Frame) (error : WriteError)
    → IsDictionary dictionary → AllByRecursion (IsWritableFrame dictionary) stood
    → AllByRecursion (IsWritableFrame dictionary) fs → length stood + length fs ≤ frames_limit
    → course None stood fs ≡ Refuses error then_stand → error ≡ write.OutputLimit
frames-refused dictionary stood [] then_stand error sound before all few refuses = absurd cc
frames-refused dictionary stood (f ∷ fs) then_stand error sound before all few refuses =
    by (frame_due None w f) refl refuses
    (frames-refused dictionary (stood ++ f ∷ []) fs then_stand error sound
    (all-push (IsWritableFrame dictionary) stood f before all.0) all.1
    (omega (arith, few, length-append stood (f ∷ []))))
  where
    w : Written
    w = after_frames header_alone stood

    needed : AreNeeded dictionary w.entries
    needed = frames-needed dictionary header_alone stood (none-needed dictionary) before

    room : w.frames < frames_limit
    room = let count = frames-counted header_alone stood in omega (arith, count, few)

    by : (due : Result Unit WriteError) → frame_due None w f ≡ due
        → course_by due stood (course None (stood ++ f ∷ []) fs) ≡ Refuses error then_stand
        → (course None (stood ++ f ∷ []) fs ≡ Refuses error then_stand → error ≡ write.OutputLimit)
        → error ≡ write.OutputLimit
    by (Ok x) due is later = later is
    by (Err other) due is later =
        let same : error ≡ other = cc in
        same ∙ one-refused w f other room (frame-clear dictionary w f sound needed.held all.0) due

pub only-bytes : OnlyBytesAreLimited
only-bytes file kind name frames ordered stood ending error bytes gives in_order refuses =
    let found = given-cuts file kind name frames ordered ending bytes gives in_order in
    frames-refused found.0 [] ordered stood error found.1.sound tt found.1.are (omega (arith, found.1.few)) refuses
