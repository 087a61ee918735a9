-- Frames of one file of bytes pass where no others stand: they are few enough, and their entries are of one dictionary.
use Rattle.std.proofs.Common.{◌≡◌, ◌+◌, ◌≤◌, ◌<◌, ℕ, Bool, true, false, not, if◌then◌else◌, is_some}
use Rattle.std.proofs.Common.{List, [], ◌∷◌, ◌++◌, length, Option, Some, None, Result, Ok, Err}
use Rattle.std.proofs.Common.{refl, sym, ap, subst, ◌∙◌, arith}
use Rattle.std.specs.Option.{option_map_or}
use Rattle.std.specs.List.{AllByRecursion}
use Rattle.std.proofs.lemmas.Bool.{le-ltb, lt-leb}
use Rattle.std.proofs.lemmas.List.{append_assoc, append-nil, length-map}
use Rattle.std.proofs.lemmas.List.Sums.{fold-append}
use Rattle.std.proofs.lemmas.Slice.Zip.{AllZip-long}
use Rattle.dictionary.specs.declared.entries.Entry.{Entry}
use Rattle.dictionary.specs.Dictionary.{entry_of, class_named, IsDictionary}
use Rattle.dictionary.specs.Same.{same_entries}
use Rattle.dictionary.proofs.SameLemmas.{entries-Decides}
use Rattle.file_grammar.specs.Structure.{file_limit}
use Rattle.file_grammar.specs.Item.{nothing_yet}
use Rattle.file_grammar.specs.MayStand.{frames_limit}
use Rattle.frame_content.specs.Frames.{Frame}
use Rattle.file_content.specs.Stored.{frames_in}
use Rattle.file_content.specs.Contents.{content_frame}
use Rattle.canonical_file.specs.Ranges.{AreBytes}
use Rattle.canonical_file.specs.Ordered.{IsInOrder}
use Rattle.canonical_file.specs.Records.{Record, end_record, records_of, with_record}
use Rattle.canonical_file.specs.Splices.{entries_used, clashes, clash_from, clash_of}
use Rattle.canonical_file.specs.Written.{Written, header_alone, after_frame, after_frames, canonical_head}
use Rattle.canonical_file.proofs.Sizes.{head-size}
use Rattle.canonical_laws.specs.Writable.{IsWritableFrame}
use Rattle.canonical_laws.specs.Sources.{printed_entries}
use Rattle.canonical_laws.proofs.AgreeingEntries.{IsIn, AreIn, agrees-in, all-push, added-in}
use Rattle.canonical_laws.proofs.FrameEntries.{AreNeeded, frames-needed, none-needed}
use Rattle.canonical_laws.proofs.FramesCounted.{stand-counted}
use Rattle.canonical_laws.proofs.KeptContents.{orders-writable}
use Rattle.canonical_laws.proofs.RowsFollow.{records_from, all-records}
use Rattle.canonical_laws.proofs.Sources.{source_entries, source_frames}
use Rattle.canonical_laws.proofs.WrittenRecords.{Agrees}
use Rattle.canonical_writer.specs.declared.errors.WriteError.{WriteError}
use Rattle.canonical_writer.specs.declared.errors.WriteError.TheVariants as error
use Rattle.canonical_writer.specs.Writer.{clash_or_limit, frame_due}
use Rattle.frame_reader.specs.Gives.{frames_among}
use Rattle.frame_reader.specs.Given.{AreFirst}
use Rattle.splicer.specs.Due.{Passes, course_by, course}

-- ---- entries of one dictionary

-- an entry is the same as itself
same-self : (e : Entry) → same_entries e e ≡ true
same-self e = (entries-Decides e e).1 (record { class = refl; name = refl; columns = refl })

-- an entry of a dictionary does not clash with entries that the dictionary holds
no-clash : (dictionary held : List Entry) (e : Entry) → IsDictionary dictionary → AreIn dictionary held
    → IsIn dictionary e → clashes held e ≡ false
no-clash dictionary held e sound all is = by (entry_of held e.class) (agrees-in dictionary held e sound all is)
  where
    by : (o : Option Entry) → Agrees o held e
        → option_map_or (λ (old : Entry). not (same_entries old e)) o (is_some (class_named held e.name)) ≡ false
    by (Some old) same = ap (λ (x : Entry). not (same_entries x e)) same ∙ ap not (same-self e)
    by None none = ap (λ (c : Option ℕ). is_some c) none

-- the entry of a record is of the dictionary
abbrev IsOf : List Entry → Record → Type 0
IsOf dictionary r = IsIn dictionary r.entry

-- so none of records whose entries are of the dictionary clashes
no-record-clashes : (dictionary entries : List Entry) (rs : List Record) → IsDictionary dictionary
    → AreIn dictionary entries → AllByRecursion (IsOf dictionary) rs → clash_from None entries rs ≡ None
no-record-clashes dictionary entries [] sound held all = refl
no-record-clashes dictionary entries (r ∷ rs) sound held all =
    let clear : clashes (entries_used entries None) r.entry ≡ false =
    ap (λ (used : List Entry). clashes used r.entry) (append-nil entries)
    ∙ no-clash dictionary entries r.entry sound held all.0 in
    ap (λ (b : Bool). if b then Some r.entry.class else clash_from None (with_record entries r) rs) clear
    ∙ no-record-clashes dictionary (with_record entries r) rs sound
    (added-in dictionary entries (entry_of entries r.entry.class) r.entry held all.0) all.1

-- the dictionary holds the entries of all records of a frame that can be written
records-held : (dictionary : List Entry) (f : Frame) → IsWritableFrame dictionary f
    → AllByRecursion (IsOf dictionary) (records_of f)
records-held dictionary f w =
    all-push (IsOf dictionary) (records_from f 0 f.rows) (end_record f)
    (all-records (IsOf dictionary) f 0 f.rows (λ k less. (w.rows k less).held) (omega arith) refl) w.end.held

-- so a frame of the dictionary does not clash
pub frame-clear : (dictionary : List Entry) (w : Written) (f : Frame) → IsDictionary dictionary
    → AreIn dictionary w.entries → IsWritableFrame dictionary f → clash_of None w.entries f ≡ None
frame-clear dictionary w f sound held writable =
    no-record-clashes dictionary w.entries (records_of f) sound held (records-held dictionary f writable)

-- ---- one frame after another

-- what stands is never shorter after more frames
size-longer : (w : Written) (fs : List Frame) → w.size ≤ (after_frames w fs).size
size-longer w [] = omega arith
size-longer w (f ∷ fs) = omega (arith, size-longer (after_frame w f) fs)

-- a frame of the dictionary is taken, where the limits allow one more
frame-taken : (dictionary : List Entry) (w : Written) (f : Frame) → IsDictionary dictionary
    → AreIn dictionary w.entries → IsWritableFrame dictionary f → w.frames < frames_limit
    → (after_frame w f).size ≤ file_limit → frame_due None w f ≡ Ok tt
frame-taken dictionary w f sound held writable few short =
    let size : ℕ = (after_frame w f).size in
    ap (λ (full : Bool). if full then Err error.FramesLimit else clash_or_limit (clash_of None w.entries f) size)
    (lt-leb frames_limit w.frames few)
    ∙ ap (λ (clash : Option ℕ). clash_or_limit clash size)
    (frame-clear dictionary w f sound held writable)
    ∙ ap (λ (long : Bool). if long then Err error.OutputLimit else Ok tt) (le-ltb file_limit size short)

-- Frames of one dictionary can be written after these, within the limits.
record MayPass (dictionary : List Entry) (w : Written) (fs : List Frame) : Type 0 where
  sound : IsDictionary dictionary
  needed : AreNeeded dictionary w.entries
  writable : AllByRecursion (IsWritableFrame dictionary) fs
  few : w.frames + length fs ≤ frames_limit
  short : (after_frames w fs).size ≤ file_limit

-- so all of them pass
all-pass : (dictionary : List Entry) (w : Written) (stood fs : List Frame) → w ≡ after_frames header_alone stood
    → MayPass dictionary w fs → course None stood fs ≡ Passes (stood ++ fs)
all-pass dictionary w stood [] is may = ap Passes (sym (append-nil stood))
all-pass dictionary w stood (f ∷ fs) is may =
    let here = size-longer (after_frame w f) fs in
    let taken : frame_due None w f ≡ Ok tt =
    frame-taken dictionary w f may.sound may.needed.held may.writable.0 (omega (arith, may.few))
    (omega (arith, here, may.short)) in
    let next : after_frame w f ≡ after_frames header_alone (stood ++ f ∷ []) =
    ap (λ (w : Written). after_frame w f) is ∙ sym (fold-append after_frame header_alone stood (f ∷ [])) in
    ap (λ (due : Result Unit WriteError). course_by due stood (course None (stood ++ f ∷ []) fs))
    (subst (λ (w : Written). frame_due None w f ≡ Ok tt) is taken)
    ∙ all-pass dictionary (after_frame w f) (stood ++ f ∷ []) fs next (record {
      sound = may.sound;
      needed = frames-needed dictionary w (f ∷ []) may.needed (may.writable.0, tt);
      writable = may.writable.1;
      few = omega (arith, may.few);
      short = may.short;
    })
    ∙ ap Passes (append_assoc stood (f ∷ []) fs)

-- ---- the frames of a file

-- The first frames of a file of bytes pass where none stand, if their canonical head is within the limit.
pub own-pass : (file : List ℕ) (ordered : List Frame) → AreBytes file → AreFirst file ordered
    → length (canonical_head ordered) ≤ file_limit → course None [] ordered ≡ Passes ordered
own-pass file ordered bytes first short =
    all-pass dictionary header_alone [] ordered refl (record {
      sound = (source_entries file first.order first.items first.last bytes first.begins).dictionary;
      needed = none-needed dictionary;
      writable = orders-writable dictionary (frames_among first.order first.items) ordered
          (source_frames file first.order first.items first.last bytes first.begins) first.in_order;
      few = few;
      short = subst (λ n. n ≤ file_limit) (head-size ordered) short;
    })
  where
    dictionary : List Entry
    dictionary = printed_entries first.last.dictionary

    few : 0 + length ordered ≤ frames_limit
    few =
        let counted = stand-counted first.order file nothing_yet first.last first.items (omega arith)
        first.begins.stand in
        let same = AllZip-long IsInOrder (frames_among first.order first.items) ordered first.in_order in
        let many = length-map (frames_in first.order first.items) (content_frame first.order) in
        omega (arith, counted.told, counted.few, same, many)
