-- The end of a splice: what is due once all inputs are written.
use Rattle.std.proofs.Common.{◌≡◌, ℕ, ◌+◌, ◌-◌, ◌<◌, ◌≤◌, inl, inr, List, [], ◌++◌, length, take, drop, nat_lt, IfSome}
use Rattle.std.proofs.Common.{Bool, true, false, cond, Option, Some, None, Result, Ok, Err, IsErrOf, refl, sym, ap, ◌∙◌}
use Rattle.std.proofs.Common.{subst, append-nil, zero-add, arith}
use Rattle.std.proofs.lemmas.Bool.{false≢true}
use Rattle.std.proofs.lemmas.List.{length-append, take_all}
use Rattle.std.proofs.Math.Seq.{drop-length}
use Rattle.frame_outside.specs.Counts.{Rose}
use Rattle.frame_outside.specs.Shelf.{Outside, Files, Writes as WritesBytes, WritesPart}
use Rattle.file_grammar.specs.Structure.{file_limit}
use Rattle.frame_content.specs.Frames.{Frame}
use Rattle.canonical_file.specs.declared.closing.Closing.{Closing}
use Rattle.canonical_file.specs.Written.{Written, header_alone, after_frames, closing_part, canonical_head}
use Rattle.canonical_file.specs.Written.{canonical_file}
use Rattle.canonical_file.proofs.Sizes.{head-size}
use Rattle.canonical_writer.specs.declared.errors.WriteError.{WriteError}
use Rattle.canonical_writer.specs.declared.errors.WriteError.TheVariants as write
use Rattle.canonical_writer.specs.declared.writer.Summary.{Summary}
use Rattle.canonical_writer.specs.Parts.{IsShortClosing}
use Rattle.canonical_writer.specs.Writer.{Writer, IsAnswer as IsWriterAnswer, Puts as WriterPuts, Stays, closing_due}
use Rattle.canonical_writer.specs.Writer.{size_with}
use Rattle.splicer.specs.declared.errors.SpliceError.{SpliceError}
use Rattle.splicer.specs.declared.errors.SpliceError.TheVariants as splice
use Rattle.splicer.specs.Errors.{unwritten}
use Rattle.splicer.specs.Due.{Due, Writes, Stops, IsDueFrom, IsDueAtEnd, closed_due, answer_of}
use Rattle.splicer.specs.Made.{HasMade, IsMade}
use Rattle.splicer.specs.Spliced.{HasSpliced, Ends, LeavesShelf}
use Rattle.splicer.proofs.Making.{made-writes, made-part, made-stays, is_made-puts, one-made}
use Rattle.splicer.proofs.Dues.{frames_of}
use Rattle.splicer.proofs.DueParts.{closing-some, frames-counted}
use Rattle.splicer.proofs.SpliceErrors.{rose-before, unwritten-device}
use Rattle.splicer.proofs.Splicing.{ends-failed, ends-part, ends-stopped, files-made, none-missed}

-- the answer of a writer as that of a splice
abbrev pub spliced_by : Result Summary WriteError → Result Summary SpliceError
spliced_by (Ok summary) = Ok summary
spliced_by (Err error) = Err (unwritten 0 error)

-- ---- the answers that are due

abbrev summary_of : ℕ → ℕ → Summary
summary_of frames bytes = record { frames = frames; bytes = bytes }

-- the whole file is within the limit of bytes, or it is refused
abbrev due_by : Bool → List Frame → Closing → Result Summary WriteError
due_by past stood closing =
    cond past (Err write.OutputLimit)
    (Ok (summary_of (after_frames header_alone stood).frames (size_with (after_frames header_alone stood) closing)))

-- what is told of the whole file is its number of frames and of bytes
summary-is : (stood : List Frame) (closing : Closing)
    → summary_of (after_frames header_alone stood).frames (size_with (after_frames header_alone stood) closing)
    ≡ summary_of (length stood) (length (canonical_file closing stood))
summary-is stood closing =
    let last : Written = after_frames header_alone stood in
    let part : List ℕ = closing_part last closing in
    let frames : last.frames ≡ length stood = frames-counted header_alone stood ∙ zero-add (length stood) in
    let bytes : size_with last closing ≡ length (canonical_file closing stood) =
    sym (length-append (canonical_head stood) part ∙ ap (λ n. n + length part) (head-size stood)) in
    ap (λ n. summary_of n (size_with last closing)) frames ∙ ap (summary_of (length stood)) bytes

-- ---- by the answer

-- the whole file is written
closed-whole : (files : Files) (old now new : Outside) (to : List ℕ) (inputs slot : ℕ) (stood : List Frame)
    (closing : Closing) → old.files ≡ Some files → HasMade old now to inputs slot (canonical_head stood)
    → WritesBytes now new slot (closing_part (after_frames header_alone stood) closing)
    → Ends files old new to (Writes closing stood) (answer_of (Writes closing stood))
closed-whole files old now new to inputs slot stood closing told made writes =
    let all : HasMade old new to inputs slot (canonical_file closing stood) =
    made-writes old now new to inputs slot (canonical_head stood)
    (closing_part (after_frames header_alone stood) closing) made writes in
    record {
      answer = inl refl;
      leaves = files-made files old new to (canonical_file closing stood) inputs slot told all;
      misses = none-missed old new (Writes closing stood) all.misses;
    }

-- the shelf failed, where the whole file was due
closed-part : (files : Files) (old now new : Outside) (to : List ℕ) (inputs slot : ℕ) (stood : List Frame)
    (closing : Closing) → old.files ≡ Some files → HasMade old now to inputs slot (canonical_head stood)
    → WritesPart now new slot (closing_part (after_frames header_alone stood) closing)
    → Ends files old new to (Writes closing stood) (Err splice.Device)
closed-part files old now new to inputs slot stood closing told made writes =
    let head : List ℕ = canonical_head stood in
    let part : List ℕ = closing_part (after_frames header_alone stood) closing in
    let some = made-part old now new to inputs slot head part made writes in
    let count : ℕ = some.0 in
    let within : count ≤ length head + (length part - 1) = some.1 in
    let more : 0 < length part = closing-some (after_frames header_alone stood) closing in
    ends-failed files old new to (Writes closing stood) splice.Device (inl refl)
    (inr (record {
      count = count;
      part = omega (arith, length-append head part);
      files_are = files-made files old new to (take count (head ++ part)) inputs slot told some.2;
    }))
    (none-missed old new (Writes closing stood) some.2.misses)

-- there was no memory
closed-none : (files : Files) (old now new : Outside) (to : List ℕ) (inputs slot : ℕ) (stood : List Frame) (due : Due)
    → old.files ≡ Some files → HasMade old now to inputs slot (canonical_head stood) → Stays now new
    → frames_of due ≡ stood → Ends files old new to due (Err splice.NoMemory)
closed-none files old now new to inputs slot stood due told made stays are =
    let head : List ℕ = canonical_head stood in
    let P : List ℕ → Type 0 = λ bytes. HasMade old new to inputs slot bytes in
    ends-part files old new to inputs slot (length head) stood [] due splice.NoMemory told (inr refl)
    (are ∙ sym (append-nil stood))
    (subst P (sym (take_all (length head) head (omega arith)))
    (made-stays old now new to inputs slot head made stays))

abbrev EndsBy : Files → Outside → Outside → List ℕ → Due → Result Summary WriteError → Type 0
EndsBy files old new to due result = Ends files old new to due (spliced_by result)

abbrev PutsClosing : Outside → Outside → ℕ → List Frame → Closing → Result Summary WriteError → Type 0
PutsClosing now new slot stood closing result =
    WriterPuts now new slot (closing_part (after_frames header_alone stood) closing) result

-- an answer that is the due one, or says that memory or the shelf failed
closed-by : (past : Bool) (files : Files) (old now new : Outside) (to : List ℕ) (inputs slot : ℕ) (stood : List Frame)
    (closing : Closing) (result : Result Summary WriteError) → old.files ≡ Some files
    → HasMade old now to inputs slot (canonical_head stood) → IsWriterAnswer result (due_by past stood closing)
    → PutsClosing now new slot stood closing result
    → EndsBy files old new to (closed_due (due_by past stood closing) closing stood) result
closed-by true files old now new to inputs slot stood closing result told made (inl same) puts =
    subst (EndsBy files old new to (Stops splice.OutputLimit stood)) (sym same)
    (ends-stopped files old new to inputs slot stood (Stops splice.OutputLimit stood) splice.OutputLimit told refl refl
    (made-stays old now new to inputs slot (canonical_head stood) made
    (subst (PutsClosing now new slot stood closing) same puts)))
closed-by false files old now new to inputs slot stood closing result told made (inl same) puts =
    let Q : Summary → Type 0 = λ summary. Ends files old new to (Writes closing stood) (Ok summary) in
    subst (EndsBy files old new to (Writes closing stood)) (sym same)
    (subst Q (sym (summary-is stood closing))
    (closed-whole files old now new to inputs slot stood closing told made
    (subst (PutsClosing now new slot stood closing) same puts)))
closed-by true files old now new to inputs slot stood closing result told made (inr (inl same)) puts =
    subst (EndsBy files old new to (Stops splice.OutputLimit stood)) (sym same)
    (closed-none files old now new to inputs slot stood (Stops splice.OutputLimit stood) told made
    (subst (PutsClosing now new slot stood closing) same puts) refl)
closed-by false files old now new to inputs slot stood closing result told made (inr (inl same)) puts =
    subst (EndsBy files old new to (Writes closing stood)) (sym same)
    (closed-none files old now new to inputs slot stood (Writes closing stood) told made
    (subst (PutsClosing now new slot stood closing) same puts) refl)
closed-by true files old now new to inputs slot stood closing result told made (inr (inr (same, ok))) puts =
    absurd (false≢true ok)
closed-by false files old now new to inputs slot stood closing result told made (inr (inr (same, ok))) puts =
    subst (EndsBy files old new to (Writes closing stood)) (sym same)
    (closed-part files old now new to inputs slot stood closing told made
    (subst (PutsClosing now new slot stood closing) same puts))

-- ---- all inputs are written

-- what is due at the end
due-at_end : (files : Files) (names : List (List ℕ)) (closing : Closing) (stood : List Frame) (due : Due)
    → IsDueFrom files (Some closing) stood (length names) (drop (length names) names) due
    → IsDueAtEnd (Some closing) stood due
due-at_end files names closing stood due is =
    let P : List (List ℕ) → Type 0 = λ ns. IsDueFrom files (Some closing) stood (length names) ns due in
    subst P (drop-length names) is

-- the file is ended
pub spliced-ends : (files : Files) (names : List (List ℕ)) (old now new : Outside) (to : List ℕ) (w : Writer)
    (result : Result Summary WriteError) (bytes : List ℕ) → HasSpliced files names old now to (length names) w
    → IfSome w.closing (λ closing. IsShortClosing closing → IsWriterAnswer result (closing_due w.written closing))
    → WriterPuts now new w.slot bytes result
    → IfSome w.closing (λ closing. IsShortClosing closing → bytes ≡ closing_part w.written closing) → (due : Due)
    → IsDueFrom files None [] 0 names due → Ends files old new to due (spliced_by result)
spliced-ends files names old now new to w result bytes spliced answer puts bytes_are due is =
    let closing : Closing = spliced.closing in
    let stood : List Frame = spliced.stood in
    let last : Written = after_frames header_alone stood in
    let A : Option Closing → Type 0 = λ held.
    IfSome held (λ closing. IsShortClosing closing → IsWriterAnswer result (closing_due w.written closing)) in
    let B : Option Closing → Type 0 = λ held.
    IfSome held (λ closing. IsShortClosing closing → bytes ≡ closing_part w.written closing) in
    let own : IsWriterAnswer result (closing_due w.written closing) =
    (let f : A (Some closing) = subst A spliced.closing_is answer in f spliced.short) in
    let same : bytes ≡ closing_part w.written closing =
    (let f : B (Some closing) = subst B spliced.closing_is bytes_are in f spliced.short) in
    let C : Written → Type 0 = λ w. IsWriterAnswer result (closing_due w closing) in
    let D : List ℕ → Type 0 = λ bytes. WriterPuts now new w.slot bytes result in
    let E : Due → Type 0 = λ due. EndsBy files old new to due result in
    subst E (sym (due-at_end files names closing stood due (spliced.due due is)))
    (closed-by (nat_lt file_limit (size_with last closing)) files old now new to (length names) w.slot stood closing
    result spliced.tells.told spliced.written.made (subst C spliced.written.written own)
    (subst D (same ∙ ap (λ w. closing_part w closing) spliced.written.written) puts))

-- nothing more is drawn then
pub puts-taken : (now new : Outside) (slot : ℕ) (bytes : List ℕ) (result : Result Summary WriteError)
    → WriterPuts now new slot bytes result → new.taken ≤ now.taken
puts-taken now new slot bytes (Ok summary) puts = omega (arith, puts.taken)
puts-taken now new slot bytes (Err write.Device) puts = omega (arith, puts.writes.taken)
puts-taken now new slot bytes (Err write.NoMemory) puts = omega (arith, puts.taken)
puts-taken now new slot bytes (Err write.FramesLimit) puts = omega (arith, puts.taken)
puts-taken now new slot bytes (Err (write.Clash class)) puts = omega (arith, puts.taken)
puts-taken now new slot bytes (Err write.OutputLimit) puts = omega (arith, puts.taken)

-- the shelf that is left then
device-by : (result : Result Summary WriteError) → spliced_by result ≡ Err splice.Device → result ≡ Err write.Device
device-by (Ok summary) is = cc
device-by (Err error) is =
    let same : unwritten 0 error ≡ splice.Device = cc in ap (λ (e : WriteError). Err e) (unwritten-device 0 error same)

pub leaves-ended : (old now new : Outside) (to : List ℕ) (all slot : ℕ) (bytes : List ℕ)
    (result : Result Summary WriteError) → IsMade old now to all slot → WriterPuts now new slot bytes result
    → (IsErrOf result write.Device → Rose now.faults new.faults) → LeavesShelf old new to all (spliced_by result)
leaves-ended old now new to all slot bytes result made puts device =
    let after : IsMade old new to all slot = is_made-puts old now new to all slot bytes result made puts in
    record {
      shelf = one-made old new to all all slot after.bytes after.made (omega arith);
      device = λ is.
          rose-before old.faults now.faults new.faults made.made.faults (device (device-by result is));
    }
