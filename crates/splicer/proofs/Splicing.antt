-- Inputs one after another: what stands after each, and what is due where one of them ends a splice.
use Rattle.std.proofs.Common.{◌≡◌, ◌≢◌, ℕ, ◌+◌, ◌<◌, ◌≤◌, ◌⊎◌, inl, inr, List, [], ◌∷◌, ◌++◌, length, take, drop}
use Rattle.std.proofs.Common.{All, Bool, true, false, cond, is_none, bytes_eq, IsErrOf, Option, Some, None, option_map}
use Rattle.std.proofs.Common.{Result, Ok, Err, IfSome, refl, sym, ap, ◌∙◌, subst, arith}
use Rattle.std.proofs.lemmas.List.{drop-drop, take_all}
use Rattle.std.proofs.lemmas.List.Elements.{All-head, All-drop, All-weaker, All-from_recursion}
use Rattle.std.proofs.lemmas.Option.{IfSome_then, none-some}
use Rattle.std.proofs.lemmas.Slice.Eq.{bytes_eq-Decides}
use Rattle.dictionary.specs.declared.entries.Entry.{Entry}
use Rattle.dictionary.specs.declared.entries.Element.{Element}
use Rattle.frame_outside.specs.Counts.{next_count}
use Rattle.frame_outside.specs.Shelf.{Outside, Files, Told, Refuses, Opens, holding}
use Rattle.frame_outside.specs.declared.traits.ShelfError.{ShelfError}
use Rattle.frame_outside.specs.declared.traits.ShelfError.TheVariants as shelf
use Rattle.frame_content.specs.Frames.{Frame}
use Rattle.canonical_file.specs.declared.closing.Closing.{Closing}
use Rattle.canonical_file.specs.Contents.{Content}
use Rattle.canonical_file.specs.Ranges.{AreBytes}
use Rattle.canonical_file.specs.Written.{canonical_head}
use Rattle.canonical_laws.specs.Content.{closing_by, HasContent}
use Rattle.canonical_laws.specs.Sources.{printed_entries}
use Rattle.canonical_laws.specs.Writable.{IsWritableEntry, IsWritableElement, IsWritableClosing, IsWritableTable}
use Rattle.canonical_laws.proofs.Sources.{source_closing}
use Rattle.canonical_writer.specs.declared.errors.WriteError.{WriteError}
use Rattle.canonical_writer.specs.declared.errors.WriteError.TheVariants as write
use Rattle.canonical_writer.specs.Parts.{IsShortElement, IsShortEntry, IsShortClosing}
use Rattle.canonical_writer.specs.Writer.{Writer}
use Rattle.splicer.specs.declared.errors.InputError.{InputError}
use Rattle.splicer.specs.declared.errors.InputError.TheVariants as input
use Rattle.splicer.specs.declared.errors.SpliceError.{SpliceError}
use Rattle.splicer.specs.declared.errors.SpliceError.TheVariants as splice
use Rattle.splicer.specs.Errors.{unwritten, error_of}
use Rattle.splicer.specs.Due.{Due, Stops, Next, IsDueOf, IsDueOfHeld, IsDueFrom, held_then, answer_of, IsAnswer}
use Rattle.splicer.specs.Due.{has_failed, is_whole, output_of}
use Rattle.splicer.specs.Left.{LeavesFile, LeavesPart}
use Rattle.splicer.specs.Made.{HasMade}
use Rattle.splicer.specs.Put.{Comes, Puts, PutsAll, PutsPart, PutsUntilRefusal}
use Rattle.splicer.specs.Drawn.{DrawsInAll, DrawsInput, HasDrawn}
use Rattle.splicer.specs.Spliced.{TellsFiles, HasOpened, HasSpliced, Ends}
use Rattle.splicer.proofs.Dues.{frames_of, due-refused, due-faulty, due-next, due-longer, due-begun}
use Rattle.splicer.proofs.Making.{made-opens, opened-held}
use Rattle.splicer.proofs.DueParts.{leaves-part}
use Rattle.splicer.proofs.DrawnInputs.{drawn-still, drawn-input, drawn-ends, drawn-all}

-- ---- a closing that was read can be written

short-element : (e : Element) → IsWritableElement e → IsShortElement e
short-element e is = record { name = is.name; text = is.text; comment = is.comment }

short-entry : (e : Entry) → IsWritableEntry e → IsShortEntry e
short-entry e is = record {
  name = is.name;
  comment = is.comment;
  elements = All-weaker IsWritableElement IsShortElement short-element e.elements
      (All-from_recursion IsWritableElement e.elements is.elements);
}

short-closing : (held : List Entry) (c : Closing) → IsWritableClosing held c → IsShortClosing c
short-closing held c is = record {
  end = short-entry c.end is.end.entry;
  table = IfSome_then c.table is.table (λ e (table : IsWritableTable held e). short-entry e table.entry);
}

content-short : (file : List ℕ) (c : Closing) (frames : List Frame) → AreBytes file
    → HasContent file (record { closing = c; frames = frames }) → IsShortClosing c
content-short file c frames bytes content =
    subst IsShortClosing (sym (ap (λ (x : Content). x.closing) content.is))
    (short-closing (printed_entries content.last.dictionary) (closing_by content.last.dictionary)
    (source_closing file content.order content.items content.last bytes content.well_formed))

-- the closing that is held then has short texts
closing-held : (closing : Option Closing) (own : Closing) → IfSome closing IsShortClosing → IsShortClosing own
    → (c : Closing) × (held_then closing own ≡ Some c) × IsShortClosing c
closing-held None own short own_short = (own, refl, own_short)
closing-held (Some first) own short own_short = (first, refl, short)

-- ---- how a splice ends

-- the shelf or memory has failed
abbrev pub HasFailed : SpliceError → Type 0
HasFailed error = (error ≡ splice.Device) ⊎ (error ≡ splice.NoMemory)

failed-answer : (error : SpliceError) (due : Due) → HasFailed error → IsAnswer (Err error) due
failed-answer error due (inl is) = inr (inl (ap Err is))
failed-answer error due (inr is) = inr (inr (ap Err is))

failed-is : (error : SpliceError) → HasFailed error → has_failed (Err error) ≡ true
failed-is error (inl is) = ap (λ (e : SpliceError). has_failed (Err e)) is
failed-is error (inr is) = ap (λ (e : SpliceError). has_failed (Err e)) is

-- it failed, and the files are as they were, or the one holds a part
pub ends-failed : (files : Files) (old new : Outside) (to : List ℕ) (due : Due) (error : SpliceError) → HasFailed error
    → (new.files ≡ Some files) ⊎ LeavesPart files new.files to (is_whole due) (output_of due)
    → (old.misses < new.misses → answer_of due ≡ Err splice.Device) → Ends files old new to due (Err error)
ends-failed files old new to due error failed leaves misses = record {
  answer = failed-answer error due failed;
  leaves = let P : Bool → Type 0 = λ b. LeavesFile b files new.files to (is_whole due) (output_of due) in
      subst P (sym (failed-is error failed)) leaves;
  misses = misses;
}

-- no name was missed
pub none-missed : (old new : Outside) (due : Due) → new.misses ≡ old.misses → old.misses < new.misses
    → answer_of due ≡ Err splice.Device
none-missed old new due same more = absurd (omega (arith, same, more))

-- what the one file holds
pub files-made : (files : Files) (old new : Outside) (to bytes : List ℕ) (inputs slot : ℕ) → old.files ≡ Some files
    → HasMade old new to inputs slot bytes → new.files ≡ Some (holding to bytes files)
files-made files old new to bytes inputs slot told made = made.files ∙ ap (option_map (holding to bytes)) told

-- it failed while the file was written
pub ends-part : (files : Files) (old new : Outside) (to : List ℕ) (inputs slot count : ℕ) (stood more : List Frame)
    (due : Due) (error : SpliceError) → old.files ≡ Some files → HasFailed error → frames_of due ≡ stood ++ more
    → HasMade old new to inputs slot (take count (canonical_head stood)) → Ends files old new to due (Err error)
ends-part files old new to inputs slot count stood more due error told failed are made =
    ends-failed files old new to due error failed
    (inr (leaves-part files new.files to stood more due count are
    (files-made files old new to (take count (canonical_head stood)) inputs slot told made)))
    (none-missed old new due made.misses)

-- it stopped where that is due
pub ends-stopped : (files : Files) (old new : Outside) (to : List ℕ) (inputs slot : ℕ) (stood : List Frame)
    (due : Due) (error : SpliceError) → old.files ≡ Some files → has_failed (Err error) ≡ false
    → due ≡ Stops error stood → HasMade old new to inputs slot (canonical_head stood)
    → Ends files old new to due (Err error)
ends-stopped files old new to inputs slot stood due error told unfailed is made =
    let P : Due → Type 0 = λ due. Ends files old new to due (Err error) in
    let Q : Bool → Type 0 = λ b. LeavesFile b files new.files to false (canonical_head stood) in
    subst P (sym is) (record {
      answer = inl refl;
      leaves = subst Q (sym unfailed)
          (files-made files old new to (canonical_head stood) inputs slot told made);
      misses = none-missed old new (Stops error stood) made.misses;
    })

-- ---- names

-- an input is not the file that is written
name-apart : (files : Files) (names : List (List ℕ)) (old : Outside) (to name : List ℕ) (others : List (List ℕ))
    (number : ℕ) → TellsFiles files names old to → drop number names ≡ name ∷ others → name ≢ to
name-apart files names old to name others number tells names_are =
    let P : List ℕ → Type 0 = λ name. name ≢ to in
    All-head P name others (subst (All P) names_are (All-drop P number names tells.apart))

-- the inputs after one
names-after : (names : List (List ℕ)) (name : List ℕ) (others : List (List ℕ)) (number : ℕ)
    → drop number names ≡ name ∷ others → others ≡ drop (number + 1) names
names-after names name others number names_are = sym (ap (drop 1) names_are) ∙ drop-drop 1 number names

-- ---- an input that is not opened

-- the misses rise only where the name is not held, and that is due then
missed-due : (held : Option (List ℕ)) (old middle new : Outside) (closing : Option Closing) (stood : List Frame)
    (number : ℕ) (next : Next) (due : Due) → IsDueOfHeld held closing stood number next due
    → middle.misses ≡ old.misses → new.misses ≡ cond (is_none held) (next_count middle.misses) middle.misses
    → old.misses < new.misses → answer_of due ≡ Err splice.Device
missed-due None old middle new closing stood number next due is same missed more = ap answer_of is
missed-due (Some file) old middle new closing stood number next due is same missed more =
    absurd (omega (arith, same, missed, more))

-- a file of another name is held as it was
held-apart : (to name bytes : List ℕ) (files : Files) → name ≢ to → holding to bytes files name ≡ files name
held-apart to name bytes files apart = by (bytes_eq to name) refl
  where
    by : (b : Bool) → bytes_eq to name ≡ b → cond b (Some bytes) (files name) ≡ files name
    by true same = absurd (apart (sym ((bytes_eq-Decides to name).0 same)))
    by false same = refl

-- the first input was not opened
pub ends-unopened : (files : Files) (old new : Outside) (to name : List ℕ) (names : List (List ℕ)) (due : Due)
    (error : SpliceError) → old.files ≡ Some files → HasFailed error → Refuses old new name
    → IsDueFrom files None [] 0 (name ∷ names) due → Ends files old new to due (Err error)
ends-unopened files old new to name names due error told failed refuses is =
    ends-failed files old new to due error failed (inl (refuses.files ∙ told))
    (missed-due (files name) old old new None [] 0 (λ closing stood due. IsDueFrom files closing stood 1 names due) due
    is refl (refuses.missed files told))

-- a further one was not opened
pub ends-refused : (files : Files) (names : List (List ℕ)) (old middle new : Outside) (to name : List ℕ)
    (others : List (List ℕ)) (number : ℕ) (w : Writer) (due : Due) (error : SpliceError)
    → HasSpliced files names old middle to number w → drop number names ≡ name ∷ others → HasFailed error
    → Refuses middle new name → IsDueFrom files None [] 0 names due → Ends files old new to due (Err error)
ends-refused files names old middle new to name others number w due error spliced names_are failed refuses is =
    let stood : List Frame = spliced.stood in
    let head : List ℕ = canonical_head stood in
    let told : old.files ≡ Some files = spliced.tells.told in
    let P : List (List ℕ) → Type 0 = λ ns. IsDueFrom files (Some spliced.closing) stood number ns due in
    let now : IsDueFrom files (Some spliced.closing) stood number (name ∷ others) due =
    subst P names_are (spliced.due due is) in
    let longer = due-longer files (name ∷ others) (Some spliced.closing) stood number due now in
    let made : HasMade old middle to number w.slot head = spliced.written.made in
    let holds : middle.files ≡ Some (holding to head files) =
    files-made files old middle to head number w.slot told made in
    let apart : name ≢ to = name-apart files names old to name others number spliced.tells names_are in
    ends-failed files old new to due error failed
    (inr (leaves-part files new.files to stood longer.0 due (length head) longer.1
    (refuses.files ∙ holds
    ∙ ap (λ bytes. Some (holding to bytes files)) (sym (take_all (length head) head (omega arith))))))
    (missed-due (files name) old middle new (Some spliced.closing) stood number
    (λ closing stood due. IsDueFrom files closing stood (number + 1) others due) due now made.misses
    (refuses.missed (holding to head files) holds
    ∙ ap (λ held. cond (is_none held) (next_count middle.misses) middle.misses) (held-apart to name head files apart)))

-- ---- an input that is opened

-- a further input is opened, so it is held
pub opened-next : (files : Files) (names : List (List ℕ)) (old middle new : Outside) (to name : List ℕ)
    (others : List (List ℕ)) (number slot : ℕ) (w : Writer) (result : Result ℕ ShelfError)
    → HasSpliced files names old middle to number w → drop number names ≡ name ∷ others
    → Told middle.files (λ held. held name ≡ None → IsErrOf result shelf.Failed) → result ≡ Ok slot
    → Opens middle new name slot → 1 ≤ number → HasOpened files names old new to number slot w
opened-next files names old middle new to name others number slot w result spliced names_are missing was opens some =
    by (files name) refl
  where
    by : (held : Option (List ℕ)) → files name ≡ held → HasOpened files names old new to number slot w
    by None none =
        let bytes : List ℕ = canonical_head spliced.stood in
        let apart : name ≢ to = name-apart files names old to name others number spliced.tells names_are in
        let failed : result ≡ Err shelf.Failed = missing (holding to bytes files)
        (files-made files old middle to bytes number w.slot spliced.tells.told spliced.written.made)
        (held-apart to name bytes files apart ∙ none) in
        absurd cc
    by (Some file) held =
        let bytes : List ℕ = canonical_head spliced.stood in
        let made : HasMade old middle to number w.slot bytes = spliced.written.made in
        let next = made-opens old middle new to name number w.slot slot bytes made opens in
        record {
          tells = spliced.tells;
          name = name;
          others = others;
          names_are = names_are;
          input = file;
          held = held;
          opened = opened-held old middle new to name file number w.slot slot bytes files made opens
              spliced.tells.told (name-apart files names old to name others number spliced.tells names_are) held;
          past = next.1;
          stood = spliced.stood;
          first = λ none. absurd (omega (arith, none, some));
          none_stood = λ none. absurd (none-some spliced.closing (sym none ∙ spliced.closing_is));
          written = record {
            made = next.0;
            written = spliced.written.written;
            error = spliced.written.error;
            agree = spliced.written.agree;
          };
          short = let P : Option Closing → Type 0 = λ closing. IfSome closing IsShortClosing in
              subst P (sym spliced.closing_is) spliced.short;
          due = λ due is.
              let P : Option Closing → Type 0 = λ closing.
              IsDueFrom files closing spliced.stood number (drop number names) due in
              subst P (sym spliced.closing_is) (spliced.due due is);
          draws =
              let P : Option Closing → Type 0 = λ closing.
              HasDrawn files names old new closing spliced.stood (drop number names) in
              let same : new.taken ≡ middle.taken = opens.taken in
              subst P (sym spliced.closing_is) (drawn-still files names old middle new (Some spliced.closing)
              spliced.stood (drop number names) (omega (arith, same)) spliced.draws);
        }

-- it comes after what stands
pub opened-comes : (files : Files) (names : List (List ℕ)) (old now : Outside) (to : List ℕ) (number slot : ℕ)
    (is_first : Bool) (w : Writer) (opened : HasOpened files names old now to number slot w)
    → is_first ≡ is_none w.closing → Comes opened.input opened.stood old now to (number + 1) is_first w
opened-comes files names old now to number slot is_first w opened first = record {
  bytes = opened.tells.bytes opened.name opened.input opened.held;
  written = opened.written;
  first = first;
  none_stood = opened.none_stood;
}

-- the first is the one before which no closing is held
pub opened-first_comes : (files : Files) (names : List (List ℕ)) (old now : Outside) (to : List ℕ) (slot : ℕ)
    (w : Writer) (opened : HasOpened files names old now to 0 slot w)
    → Comes opened.input opened.stood old now to 1 true w
opened-first_comes files names old now to slot w opened =
    opened-comes files names old now to 0 slot true w opened
    (sym (ap (λ (c : Option Closing). is_none c) (opened.first refl)))

-- what is due of it and those after it
abbrev DueNext : Files → List (List ℕ) → ℕ → Next
DueNext files others number = λ closing stood due. IsDueFrom files closing stood (number + 1) others due

opened-due : (files : Files) (names : List (List ℕ)) (old now : Outside) (to : List ℕ) (number slot : ℕ) (w : Writer)
    (opened : HasOpened files names old now to number slot w) (due : Due) → IsDueFrom files None [] 0 names due
    → IsDueOf opened.input w.closing opened.stood number (DueNext files opened.others number) due
opened-due files names old now to number slot w opened due is =
    let P : List (List ℕ) → Type 0 = λ ns. IsDueFrom files w.closing opened.stood number ns due in
    let Q : Option (List ℕ) → Type 0 = λ held.
    IsDueOfHeld held w.closing opened.stood number (DueNext files opened.others number) due in
    subst Q opened.held (subst P opened.names_are (opened.due due is))

-- what was drawn before it
opened-draws : (files : Files) (names : List (List ℕ)) (old now : Outside) (to : List ℕ) (number slot : ℕ) (w : Writer)
    (opened : HasOpened files names old now to number slot w)
    → HasDrawn files names old now w.closing opened.stood (opened.name ∷ opened.others)
opened-draws files names old now to number slot w opened =
    let P : List (List ℕ) → Type 0 = λ ns. HasDrawn files names old now w.closing opened.stood ns in
    subst P opened.names_are opened.draws

-- all of it is written
pub opened-written : (files : Files) (names : List (List ℕ)) (old now new : Outside) (to : List ℕ) (number slot : ℕ)
    (w after : Writer) (opened : HasOpened files names old now to number slot w)
    → PutsAll opened.input w.closing opened.stood old new to (number + 1) after → (result : Result Unit InputError)
    → DrawsInput opened.input w.closing opened.stood now new result
    → HasSpliced files names old new to (number + 1) after
opened-written files names old now new to number slot w after opened puts result drawn =
    let file : List ℕ = opened.input in
    let own_short : IsShortClosing puts.own = content-short file puts.own puts.frames
    (opened.tells.bytes opened.name file opened.held) puts.content in
    let closing = closing-held w.closing puts.own opened.short own_short in
    record {
      tells = opened.tells;
      closing = closing.0;
      closing_is = puts.closing_is ∙ closing.1;
      short = closing.2;
      stood = puts.then_stand;
      written = puts.written;
      due = λ due is.
          let P : Option Closing → Type 0 = λ c.
          IsDueFrom files c puts.then_stand (number + 1) opened.others due in
          let Q : List (List ℕ) → Type 0 = λ ns.
          IsDueFrom files (Some closing.0) puts.then_stand (number + 1) ns due in
          subst Q (names-after names opened.name opened.others number opened.names_are)
          (subst P closing.1
          (due-next file w.closing opened.stood puts.frames puts.ordered puts.then_stand puts.own number
          (DueNext files opened.others number) due puts.content puts.in_order puts.passes
          (opened-due files names old now to number slot w opened due is)));
      draws =
          let P : Option Closing → Type 0 = λ c.
          HasDrawn files names old new c puts.then_stand opened.others in
          let Q : List (List ℕ) → Type 0 = λ ns.
          HasDrawn files names old new (Some closing.0) puts.then_stand ns in
          subst Q (names-after names opened.name opened.others number opened.names_are)
          (subst P closing.1
          (drawn-input files names old now new w.closing opened.stood puts.frames puts.ordered puts.then_stand puts.own
          opened.name file opened.others drawn.drawn opened.held
          (opened-draws files names old now to number slot w opened) puts.content puts.in_order puts.passes drawn.took
          drawn.within));
    }

-- it ends the splice, and of those after it nothing is drawn
pub opened-drawn_ends : (files : Files) (names : List (List ℕ)) (old now new : Outside) (to : List ℕ)
    (number slot : ℕ) (w after : Writer) (error : InputError)
    (opened : HasOpened files names old now to number slot w)
    → Puts opened.input w.closing opened.stood old new to (number + 1) after (Err error)
    → DrawsInput opened.input w.closing opened.stood now new (Err error) → DrawsInAll files names old new
opened-drawn_ends files names old now new to number slot w after error opened puts drawn =
    drawn-ends files names old now new to (number + 1) after w.closing opened.stood opened.name opened.input
    opened.others error opened.held (opened-draws files names old now to number slot w opened) puts drawn

-- after inputs that are written, none is drawn further
pub spliced-drawn : (files : Files) (names : List (List ℕ)) (old now new : Outside) (to : List ℕ) (number : ℕ)
    (w : Writer) → HasSpliced files names old now to number w → new.taken ≤ now.taken → DrawsInAll files names old new
spliced-drawn files names old now new to number w spliced same =
    drawn-all files names old now new (Some spliced.closing) spliced.stood (drop number names) same spliced.draws

-- it is not written to its end
pub opened-ends : (files : Files) (names : List (List ℕ)) (old now new : Outside) (to : List ℕ) (number slot : ℕ)
    (w after : Writer) (error : InputError) (opened : HasOpened files names old now to number slot w)
    → Puts opened.input w.closing opened.stood old new to (number + 1) after (Err error) → (due : Due)
    → IsDueFrom files None [] 0 names due → Ends files old new to due (Err (error_of number error))
opened-ends files names old now new to number slot w after error opened puts due is = by error puts
  where
    told : old.files ≡ Some files
    told = opened.tells.told

    of_input : IsDueOf opened.input w.closing opened.stood number (DueNext files opened.others number) due
    of_input = opened-due files names old now to number slot w opened due is

    part : (error : SpliceError) → HasFailed error
        → PutsPart opened.input w.closing opened.stood old new to (number + 1) after.slot
        → Ends files old new to due (Err error)
    part error failed puts =
        let longer = due-begun files opened.others opened.input w.closing opened.stood puts.ordered puts.then_stand
        number due puts.first puts.passes of_input in
        ends-part files old new to (number + 1) after.slot puts.count puts.then_stand longer.0 due error told failed
        longer.1 puts.made

    refusal : (error : WriteError) → has_failed (Err (unwritten number error)) ≡ false
        → PutsUntilRefusal opened.input w.closing opened.stood old new to (number + 1) after.slot error
        → Ends files old new to due (Err (unwritten number error))
    refusal error unfailed puts =
        ends-stopped files old new to (number + 1) after.slot puts.then_stand due (unwritten number error) told unfailed
        (due-refused opened.input w.closing opened.stood puts.ordered puts.then_stand error number
        (DueNext files opened.others number) due puts.first puts.refuses of_input)
        puts.made

    by : (error : InputError) → Puts opened.input w.closing opened.stood old new to (number + 1) after (Err error)
        → Ends files old new to due (Err (error_of number error))
    by (input.Fault fault) puts =
        ends-stopped files old new to (number + 1) after.slot puts.then_stand due (splice.Fault number fault) told refl
        (due-faulty opened.input w.closing opened.stood puts.frames puts.ordered puts.then_stand fault number
        (DueNext files opened.others number) due puts.gives puts.in_order puts.passes of_input)
        puts.made
    by (input.Write write.Device) puts = part splice.Device (inl refl) puts
    by (input.Write write.NoMemory) puts = part splice.NoMemory (inr refl) puts
    by (input.Write write.FramesLimit) puts = refusal write.FramesLimit refl puts
    by (input.Write (write.Clash class)) puts = refusal (write.Clash class) refl puts
    by (input.Write write.OutputLimit) puts = refusal write.OutputLimit refl puts
