-- The frames of a splice are written under the entries that are used first.
use Rattle.std.proofs.Common.{◌≡◌, ℕ, zero, suc, Bool, true, false, not, cond, Option, Some, None, IfSome, List, []}
use Rattle.std.proofs.Common.{◌∷◌}
use Rattle.std.proofs.Common.{◌++◌, take, drop, flat_map, refl, sym, ap, ◌∙◌, subst, All, append-nil, ◌⊎◌, inl, inr}
use Rattle.std.specs.Prelude.{◌==◌, is_some}
use Rattle.std.specs.List.{AllByRecursion, take-map}
use Rattle.std.specs.Option.{option_or, option_map_or}
use Rattle.std.proofs.lemmas.Bool.{cases_Bool, true≢false}
use Rattle.std.proofs.lemmas.List.{take-append-drop}
use Rattle.std.proofs.lemmas.List.Elements.{recursion_from_All}
use Rattle.std.proofs.lemmas.List.Folds.{find-append}
use Rattle.std.proofs.lemmas.List.Sums.{fold-append}
use Rattle.std.proofs.lemmas.Option.{none-some, same_Some, cond_some}
use Rattle.frame_head.specs.Header.{header_bytes}
use Rattle.dictionary.specs.declared.entries.Entry.{Entry}
use Rattle.dictionary.specs.Dictionary.{entry_of, class_named}
use Rattle.dictionary.specs.Same.{AreRead, same_entries}
use Rattle.frame_content.specs.Frames.{Frame}
use Rattle.canonical_file.specs.declared.closing.Closing.{Closing}
use Rattle.canonical_file.specs.Records.{Record, records_of, added_by, with_entry, with_record, entries_after}
use Rattle.canonical_file.specs.Written.{Written, header_alone, after_frame, after_frames, closing_part}
use Rattle.canonical_file.specs.Written.{canonical_head, canonical_file}
use Rattle.canonical_file.specs.Contents.{Content}
use Rattle.canonical_file.specs.Splices.{closing_entries, entries_used, clashes, clash_from, NoneClashes, frame_under}
use Rattle.canonical_file.specs.Splices.{IsSplice}
use Rattle.canonical_file.specs.SpliceLaws.{HasReadEntries}
use Rattle.canonical_file.proofs.Spelled.{parts}
use Rattle.canonical_file.proofs.Bare.{same-bare}
use Rattle.canonical_file.proofs.UsedEntries.{IsAlike, Agree, found-front}
use Rattle.canonical_file.proofs.UsedFrames.{AgreeAll, frames-front, frames-same}

-- ---- entries with types as they are read

abbrev AreHeldRead : List Entry → Type 0
AreHeldRead entries = (class : ℕ) (old : Entry) → entry_of entries class ≡ Some old → AreRead old.elements

abbrev HaveRead : List Record → Type 0
HaveRead records = AllByRecursion (λ (r : Record). AreRead r.entry.elements) records

none-read : AreHeldRead []
none-read class old is = absurd (none-some old is)

read-more : (entries : List Entry) (e : Entry) → AreHeldRead entries → AreRead e.elements
    → AreHeldRead (with_entry entries e)
read-more entries e held read = by (entry_of entries e.class)
  where
    of : (class : ℕ) (old : Entry) (found : Option Entry) → entry_of entries class ≡ found
        → option_or found (cond (class == e.class) (Some e) None) ≡ Some old → AreRead old.elements
    of class old None is found =
        subst (λ (e : Entry). AreRead e.elements) (cond_some (class == e.class) e old found).1 read
    of class old (Some x) is found =
        subst (λ (e : Entry). AreRead e.elements) (same_Some x old found) (held class x is)

    by : (o : Option Entry) → AreHeldRead (added_by o entries e)
    by (Some old) = held
    by None = λ class old is.
        of class old (entry_of entries class) refl
        (sym (find-append (λ (x : Entry). class == x.class) entries (e ∷ [])) ∙ is)

read-after : (entries : List Entry) (records : List Record) → AreHeldRead entries → HaveRead records
    → AreHeldRead (entries_after entries records)
read-after entries [] held read = held
read-after entries (r ∷ rs) held read =
    read-after (with_record entries r) rs (read-more entries r.entry held read.0) read.1

-- ---- entries that do not clash agree

alike-from : (closing : Option Closing) (entries : List Entry) (e : Entry) → AreHeldRead entries → AreRead e.elements
    → clashes (entries_used entries closing) e ≡ false
    → IfSome (entry_of entries e.class) (λ old. IsAlike old e)
alike-from closing entries e held read none = by (entry_of entries e.class) refl
  where
    by : (found : Option Entry) → entry_of entries e.class ≡ found → IfSome found (λ old. IsAlike old e)
    by None is = tt
    by (Some old) is = same (cases_Bool (same_entries old e))
      where
        more : List Entry
        more = option_map_or closing_entries closing []

        other : not (same_entries old e) ≡ false
        other =
            sym (ap (λ found. option_map_or (λ old. not (same_entries old e)) found
            (is_some (class_named (entries ++ more) e.name))) (found-front entries more e.class old is))
            ∙ none

        same : (same_entries old e ≡ true) ⊎ (same_entries old e ≡ false) → IsAlike old e
        same (inl is_same) = same-bare old e is_same (held e.class old is) read
        same (inr differs) = absurd (true≢false (sym (ap not differs) ∙ other))

agree-from : (closing : Option Closing) (entries : List Entry) (records : List Record) → AreHeldRead entries
    → HaveRead records → clash_from closing entries records ≡ None → Agree entries records
agree-from closing entries [] held read none = tt
agree-from closing entries (r ∷ rs) held read none =
    by (clashes (entries_used entries closing) r.entry) refl none
    (agree-from closing (with_record entries r) rs (read-more entries r.entry held read.0) read.1)
  where
    by : (b : Bool) → clashes (entries_used entries closing) r.entry ≡ b
        → cond b (Some r.entry.class) (clash_from closing (with_record entries r) rs) ≡ None
        → (clash_from closing (with_record entries r) rs ≡ None → Agree (with_record entries r) rs)
        → Agree entries (r ∷ rs)
    by true is none later = absurd (none-some r.entry.class (sym none))
    by false is none later = (alike-from closing entries r.entry held read.0 is, later none)

abbrev ReadAll : List Frame → Type 0
ReadAll frames = AllByRecursion HasReadEntries frames

have-read : (f : Frame) → HasReadEntries f → HaveRead (records_of f)
have-read f read = recursion_from_All (λ (r : Record). AreRead r.entry.elements) (records_of f) read

agree-all : (closing : Option Closing) (w : Written) (frames : List Frame) → AreHeldRead w.entries → ReadAll frames
    → NoneClashes closing w frames → AgreeAll w frames
agree-all closing w [] held read none = tt
agree-all closing w (f ∷ fs) held read none = (
  agree-from closing w.entries (records_of f) held (have-read f read.0) none.0,
  agree-all closing (after_frame w f) fs (read-after w.entries (records_of f) held (have-read f read.0)) read.1 none.1,
)

read-frames : (w : Written) (frames : List Frame) → AreHeldRead w.entries → ReadAll frames
    → AreHeldRead (after_frames w frames).entries
read-frames w [] held read = held
read-frames w (f ∷ fs) held read =
    read-frames (after_frame w f) fs (read-after w.entries (records_of f) held (have-read f read.0)) read.1

agree-append : (w : Written) (front back : List Frame) → AgreeAll w front → AgreeAll (after_frames w front) back
    → AgreeAll w (front ++ back)
agree-append w [] back left right = right
agree-append w (f ∷ fs) back left right = (left.0, agree-append (after_frame w f) fs back left.1 right)

agree-take : (w : Written) (n : ℕ) (frames : List Frame) → AgreeAll w frames → AgreeAll w (take n frames)
agree-take w zero frames agree = tt
agree-take w (suc n) [] agree = tt
agree-take w (suc n) (f ∷ fs) agree = (agree.0, agree-take (after_frame w f) n fs agree.1)

-- ---- splices

agree-splice : (first : Content) (others : List Content) (c : Content) (s : IsSplice first others c)
    → All HasReadEntries (s.front ++ s.back) → AgreeAll header_alone (s.front ++ s.back)
agree-splice first others c s read =
    let both = parts HasReadEntries s.front s.back read in
    let front = recursion_from_All HasReadEntries s.front both.0 in
    let back = recursion_from_All HasReadEntries s.back both.1 in
    agree-append header_alone s.front s.back (agree-all None header_alone s.front none-read front s.front_agrees)
    (agree-all (Some first.closing) (after_frames header_alone s.front) s.back
    (read-frames header_alone s.front none-read front) back s.back_agrees)

pub splice-written : (first : Content) (others : List Content) (c : Content) (s : IsSplice first others c)
    → All HasReadEntries (s.front ++ s.back)
    → canonical_file c.closing c.frames ≡ canonical_file first.closing (s.front ++ s.back)
splice-written first others c s read =
    let frames : List Frame = s.front ++ s.back in
    let all : List Entry = (after_frames header_alone frames).entries in
    let same = frames-same header_alone all [] frames (sym (append-nil all)) (agree-splice first others c s read) in
    ap (λ (c : Content). canonical_file c.closing c.frames) s.is
    ∙ (λ i. (header_bytes ++ flat_map (λ part. part) (same.0 i)) ++ closing_part (same.1 i) first.closing)

pub splice-begun : (first : Content) (others : List Content) (c : Content) (s : IsSplice first others c) (n : ℕ)
    → All HasReadEntries (s.front ++ s.back)
    → canonical_head (take n c.frames) ≡ canonical_head (take n (s.front ++ s.back))
splice-begun first others c s n read =
    let frames : List Frame = s.front ++ s.back in
    let all : List Entry = (after_frames header_alone frames).entries in
    let front = frames-front (after_frames header_alone (take n frames)) (drop n frames) in
    let split : all ≡ (after_frames header_alone (take n frames)).entries ++ front.0 =
    ap (λ frames. (after_frames header_alone frames).entries) (sym (take-append-drop n frames))
    ∙ ap (λ (w : Written). w.entries) (fold-append after_frame header_alone (take n frames) (drop n frames))
    ∙ front.1 in
    let same = frames-same header_alone all front.0 (take n frames) split
    (agree-take header_alone n frames (agree-splice first others c s read)) in
    ap (λ (c : Content). canonical_head (take n c.frames)) s.is
    ∙ ap canonical_head (take-map (frame_under all) n frames)
    ∙ ap (λ parts. header_bytes ++ flat_map (λ part. part) parts) same.0
