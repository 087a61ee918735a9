-- Frames of several files, none of which clashes, can be written by one dictionary: that of the entries used and of
-- those of the closing.
use Rattle.std.proofs.Common.{◌≡◌, ◌<◌, ◌≤◌, false, true≢false, eqb, Option, Some, None, IfSome, IsSomeAnd}
use Rattle.std.proofs.Common.{List, [], ◌∷◌, ◌++◌, map, find, length, take, flat_map, refl}
use Rattle.std.proofs.Common.{sym, ap, ◌∙◌, subst, append-nil}
use Rattle.std.specs.List.{AllByRecursion}
use Rattle.std.proofs.lemmas.List.{length-map}
use Rattle.std.specs.Option.{option_map, option_or}
use Rattle.std.specs.Str.{bytes_eq}
use Rattle.std.proofs.lemmas.List.Folds.{find-append}
use Rattle.frame_head.specs.Header.{header_bytes}
use Rattle.dictionary.specs.declared.entries.Entry.{Entry}
use Rattle.dictionary.specs.Dictionary.{entry_of, IsDictionary}
use Rattle.file_grammar.specs.Structure.{file_limit}
use Rattle.file_grammar.specs.MayStand.{frames_limit}
use Rattle.file_grammar.specs.Laws.{WellFormed}
use Rattle.file_grammar.specs.Kind.{kind_named, is_frame_kind}
use Rattle.frame_content.specs.Frames.{Frame}
use Rattle.canonical_file.specs.declared.closing.Closing.{Closing}
use Rattle.canonical_file.specs.Records.{records_of}
use Rattle.canonical_file.specs.Written.{header_alone, after_frames, closing_part}
use Rattle.canonical_file.specs.Splices.{closing_entries, NoneClashes, frame_under, as_used}
use Rattle.canonical_file.proofs.UsedFrames.{AgreeAll, frames-same}
use Rattle.canonical_laws.specs.Writable.{IsWritableFrame, IsWritableFileEnd, IsWritableTable, IsWritableClosing}
use Rattle.canonical_laws.specs.Spliced.{IsWritableSomewhere, AreSpliced, AreWrittenTogether}
use Rattle.canonical_laws.specs.Spliced.{SplicedFramesAreWrittenTogether, NoPartOfASplicedHeadIsWhole}
use Rattle.canonical_laws.specs.Spliced.{NoPartOfASplicedFileIsWhole, SplicedFilesAreReadBack}
use Rattle.canonical_laws.specs.Laws.{ReadsBack}
use Rattle.canonical_laws.proofs.AgreeingEntries.{IsIn}
use Rattle.canonical_laws.proofs.FrameEntries.{IsOfFrame, found-all, none-named}
use Rattle.canonical_laws.proofs.DictionaryParts.{IsClosingPart, closing-in, closing-kinds, closing-part}
use Rattle.canonical_laws.proofs.UsedTogether.{IsUsable, AreUsable, all-append, use-frames, frames-free, none-append}
use Rattle.canonical_laws.proofs.FramesUnder.{AreUnder, under-frames, frame-under-writable}
use Rattle.canonical_laws.proofs.WholeFiles.{read_back}
use Rattle.canonical_laws.proofs.OpenHeads.{no_part_of_a_head, no_part_of_a_file}

-- ---- the closing stays, beside the entries used

usable-kinds : (used : List Entry) → AllByRecursion IsUsable used → AllByRecursion IsOfFrame used
usable-kinds [] all = tt
usable-kinds (e ∷ es) all = (all.0.kind, usable-kinds es all.1)

-- an entry of no record of a frame is held beside them as it was
closing-held : (used more : List Entry) (e : Entry) → AllByRecursion IsOfFrame used → IsDictionary (used ++ more)
    → IsDictionary more → is_frame_kind (kind_named e.name) ≡ false → IsIn more e → IsIn (used ++ more) e
closing-held used more e kinds sound own other held =
    by (entry_of used e.class) refl (subst (λ o. IsSomeAnd o (λ (x : Entry). x.name ≡ e.name)) found named)
  where
    found : entry_of (used ++ more) e.class ≡ option_or (entry_of used e.class) (entry_of more e.class)
    found = find-append (λ (x : Entry). eqb e.class x.class) used more

    named : IsSomeAnd (entry_of (used ++ more) e.class) (λ (x : Entry). x.name ≡ e.name)
    named =
        sound.names e.name e.class (ap (option_map (λ (x : Entry). x.class))
        (find-append (λ (x : Entry). bytes_eq e.name x.name) used more
        ∙ ap (λ o. option_or o (find (λ (x : Entry). bytes_eq e.name x.name) more))
        (none-named used e.name kinds other))
        ∙ (own.entries e.class e held).name)

    by : (o : Option Entry) → entry_of used e.class ≡ o
        → IsSomeAnd (option_or o (entry_of more e.class)) (λ (x : Entry). x.name ≡ e.name) → IsIn (used ++ more) e
    by None none is = found ∙ ap (λ o. option_or o (entry_of more e.class)) none ∙ held
    by (Some x) here is =
        absurd (true≢false (sym (found-all IsOfFrame used e.class x kinds here)
        ∙ ap (λ n. is_frame_kind (kind_named n)) is ∙ other))

closing-writable : (dictionary used : List Entry) (c : Closing) → IsDictionary dictionary
    → IsWritableClosing dictionary c → AreUsable (closing_entries c) used
    → IsWritableClosing (used ++ closing_entries c) c
closing-writable dictionary used c sound w are = record { end = end; table = by c.table w.table part.table }
  where
    part : IsClosingPart c
    part = closing-part dictionary c sound w

    more : List Entry
    more = closing_entries c

    kinds : AllByRecursion IsOfFrame used
    kinds = usable-kinds used are.entries

    end : IsWritableFileEnd (used ++ more) c.end
    end = record {
      entry = w.end.entry;
      kind = w.end.kind;
      printed = w.end.printed;
      closes = w.end.closes;
      held = closing-held used more c.end kinds are.sound part.sound (ap is_frame_kind w.end.kind) part.end;
    }

    by : (table : Option Entry) → IfSome table (IsWritableTable dictionary) → IfSome table (IsIn more)
        → IfSome table (IsWritableTable (used ++ more))
    by None is own = tt
    by (Some t) is own = record {
      entry = is.entry;
      kind = is.kind;
      printed = is.printed;
      fit = is.fit;
      held = closing-held used more t kinds are.sound part.sound (ap is_frame_kind is.kind) own;
    }

-- ---- the frames

somewhere : (dictionary : List Entry) (fs : List Frame) → IsDictionary dictionary
    → AllByRecursion (IsWritableFrame dictionary) fs → AllByRecursion IsWritableSomewhere fs
somewhere dictionary [] sound all = tt
somewhere dictionary (f ∷ fs) sound all =
    (record { dictionary = dictionary; sound = sound; writable = all.0 }, somewhere dictionary fs sound all.1)

frames-writable : (used more : List Entry) (fs : List Frame) → AllByRecursion IsUsable used
    → AllByRecursion (λ (f : Frame). AreUnder used (records_of f)) fs → AllByRecursion IsWritableSomewhere fs
    → AllByRecursion (IsWritableFrame (used ++ more)) (map (frame_under used) fs)
frames-writable used more [] usable under all = tt
frames-writable used more (f ∷ fs) usable under all = (
  frame-under-writable all.0.dictionary used more f usable under.0 all.0.writable,
  frames-writable used more fs usable under.1 all.1,
)

-- What is known of frames that are spliced.
pub record AreJoined (c : Closing) (fs : List Frame) : Type 0 where
  pub agree : AgreeAll header_alone fs
  pub usable : AreUsable (closing_entries c) (after_frames header_alone fs).entries
  pub somewhere_are : AllByRecursion IsWritableSomewhere fs
  pub under : AllByRecursion (λ (f : Frame). AreUnder (after_frames header_alone fs).entries (records_of f)) fs

-- frames that are spliced agree, and the entries that they use are usable
pub joined : (c : Closing) (front back : List Frame) → AreSpliced c front back → AreJoined c (front ++ back)
joined c front back s =
    let part = closing-part s.dictionary c s.sound s.closing_is in
    let none : NoneClashes (Some c) header_alone (front ++ back) =
    none-append (Some c) header_alone front back
    (frames-free s.dictionary c header_alone front s.sound (closing-in s.dictionary c s.closing_is) tt s.front_are)
    s.back_agrees in
    let all : AllByRecursion IsWritableSomewhere (front ++ back) =
    all-append IsWritableSomewhere front back (somewhere s.dictionary front s.sound s.front_are) s.back_are in
    let uses = use-frames c header_alone (front ++ back) (closing-kinds s.dictionary c s.closing_is)
    (record { entries = tt; sound = part.sound }) all none in
    let used : List Entry = (after_frames header_alone (front ++ back)).entries in
    record {
      agree = uses.0;
      usable = uses.1;
      somewhere_are = all;
      under = under-frames header_alone used [] (front ++ back) (sym (append-nil used)) uses.0;
    }

-- they can be written by one dictionary, under which the same is written
pub together : SplicedFramesAreWrittenTogether
together c front back s =
    let fs : List Frame = front ++ back in
    let used : List Entry = (after_frames header_alone fs).entries in
    let are = joined c front back s in
    let same = frames-same header_alone used [] fs (sym (append-nil used)) are.agree in
    record {
      can_be = record {
        dictionary = used ++ closing_entries c;
        sound = are.usable.sound;
        closing_is = closing-writable s.dictionary used c s.sound s.closing_is are.usable;
        frames_are = frames-writable used (closing_entries c) fs are.usable.entries are.under are.somewhere_are;
      };
      head_is = λ i. header_bytes ++ flat_map (λ part. part) (same.0 i);
      file_is = λ i. (header_bytes ++ flat_map (λ part. part) (same.0 i)) ++ closing_part (same.1 i) c;
    }

-- ---- what is written of them

as-many : (fs : List Frame) → length fs ≤ frames_limit → length (as_used fs) ≤ frames_limit
as-many fs few =
    subst (λ n. n ≤ frames_limit) (sym (length-map fs (frame_under (after_frames header_alone fs).entries))) few

-- no part of their head is well-formed
pub no_part_of_a_spliced_head : NoPartOfASplicedHeadIsWhole
no_part_of_a_spliced_head c front back n s few limit whole =
    let fs : List Frame = front ++ back in
    let all : AreWrittenTogether c fs = together c front back s in
    no_part_of_a_head all.can_be.dictionary (as_used fs) n all.can_be.sound all.can_be.frames_are (as-many fs few)
    (subst (λ xs. length xs ≤ file_limit) (sym all.head_is) limit)
    (subst (λ xs. WellFormed (take n xs)) (sym all.head_is) whole)

-- no part of their file that ends before it is
pub no_part_of_a_spliced_file : NoPartOfASplicedFileIsWhole
no_part_of_a_spliced_file c front back n s few limit less whole =
    let fs : List Frame = front ++ back in
    let all : AreWrittenTogether c fs = together c front back s in
    no_part_of_a_file all.can_be.dictionary (as_used fs) c n all.can_be.sound all.can_be.frames_are
    all.can_be.closing_is (as-many fs few) (subst (λ xs. length xs ≤ file_limit) (sym all.file_is) limit)
    (subst (λ xs. n < length xs) (sym all.file_is) less)
    (subst (λ xs. WellFormed (take n xs)) (sym all.file_is) whole)

-- their file is well-formed and reads back as they are under the entries used
pub spliced_back : SplicedFilesAreReadBack
spliced_back c front back s few limit =
    let fs : List Frame = front ++ back in
    let all : AreWrittenTogether c fs = together c front back s in
    subst (λ xs. ReadsBack xs c (as_used fs)) all.file_is
    (read_back all.can_be.dictionary (as_used fs) c all.can_be.sound all.can_be.frames_are all.can_be.closing_is
    (as-many fs few) (subst (λ xs. length xs ≤ file_limit) (sym all.file_is) limit))
