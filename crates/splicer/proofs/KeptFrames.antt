-- The frames that stand between two inputs: none before the first, and spliced ones after it. So no part of their head
-- is well-formed.
use Rattle.std.proofs.Common.{◌≡◌, ℕ, ◌≤◌, inl, inr, List, [], ◌∷◌, ◌++◌, length, take, Option, Some, None}
use Rattle.std.proofs.Common.{sym, ap, ◌∙◌, subst, zero-add}
use Rattle.std.proofs.lemmas.List.{append_assoc, append-nil}
use Rattle.std.specs.List.{AllByRecursion, AllZip}
use Rattle.dictionary.specs.declared.entries.Entry.{Entry}
use Rattle.dictionary.specs.Dictionary.{IsDictionary}
use Rattle.file_grammar.specs.Structure.{file_limit}
use Rattle.file_grammar.specs.MayStand.{frames_limit}
use Rattle.file_grammar.specs.Laws.{WellFormed}
use Rattle.frame_content.specs.Frames.{Frame}
use Rattle.canonical_file.specs.declared.closing.Closing.{Closing}
use Rattle.canonical_file.specs.Ranges.{AreBytes}
use Rattle.canonical_file.specs.Ordered.{IsInOrder}
use Rattle.canonical_file.specs.Splices.{NoneClashes}
use Rattle.canonical_file.specs.Written.{header_alone, after_frames, canonical_head}
use Rattle.canonical_file.proofs.Sizes.{head-size}
use Rattle.canonical_laws.specs.Content.{HasContent}
use Rattle.canonical_laws.specs.Writable.{IsWritableFrame}
use Rattle.canonical_laws.specs.Sources.{printed_entries}
use Rattle.canonical_laws.specs.Spliced.{IsWritableSomewhere, AreSpliced}
use Rattle.canonical_laws.proofs.KeptContents.{orders-writable}
use Rattle.canonical_laws.proofs.OpenHeads.{no_part_of_a_head}
use Rattle.canonical_laws.proofs.Sources.{source_entries, source_frames}
use Rattle.canonical_laws.proofs.SplicedContents.{first_spliced, more_spliced}
use Rattle.canonical_laws.proofs.SplicedFrames.{no_part_of_a_spliced_head}
use Rattle.frame_reader.specs.Gives.{Ending, Closes, Breaks, Gives}
use Rattle.frame_reader.specs.Given.{AreFirst}
use Rattle.splicer.specs.Due.{held_then}
use Rattle.splicer.proofs.DueParts.{frames-counted}
use Rattle.splicer.proofs.FirstPut.{none-held}
use Rattle.splicer.proofs.OwnCopies.{all-first}
use Rattle.splicer.proofs.TakenFrames.{AreWithin, AreTaken}

-- ---- frames of one dictionary

-- Frames can be written by one dictionary.
pub record AreOfOne (fs : List Frame) : Type 0 where
  pub dictionary : List Entry
  pub sound : IsDictionary dictionary
  pub are : AllByRecursion (IsWritableFrame dictionary) fs

-- no frames can
none-of-one : AreOfOne []
none-of-one = record { dictionary = []; sound = none-held; are = tt }

-- the first frames of a file of bytes can be written by one dictionary
first-of-one : (file : List ℕ) (ordered : List Frame) → AreBytes file → AreFirst file ordered → AreOfOne ordered
first-of-one file ordered bytes first = record {
  dictionary = printed_entries first.last.dictionary;
  sound = (source_entries file first.order first.items first.last bytes first.begins).dictionary;
  are = orders-writable (printed_entries first.last.dictionary) _ ordered
      (source_frames file first.order first.items first.last bytes first.begins) first.in_order;
}

-- so can the frames that a file of bytes gives
pub given-of-one : (file : List ℕ) (frames ordered : List Frame) (ending : Ending) → AreBytes file
    → Gives file frames ending → AllZip IsInOrder frames ordered → AreOfOne ordered
given-of-one file frames ordered (Closes own) bytes gives in_order =
    first-of-one file ordered bytes
    (all-first file (record { closing = own; frames = frames }) ordered gives in_order)
given-of-one file frames ordered (Breaks fault) bytes (inl none) in_order =
    by-none ordered (subst (λ fs. AllZip IsInOrder fs ordered) none.0 in_order)
  where
    by-none : (os : List Frame) → AllZip IsInOrder [] os → AreOfOne os
    by-none [] all = none-of-one
    by-none (o ∷ os) all = absurd all
given-of-one file frames ordered (Breaks fault) bytes (inr until) in_order =
    first-of-one file ordered bytes (record {
      order = until.is_fault.order;
      items = until.is_fault.items;
      last = until.is_fault.last;
      begins = until.is_fault.begins;
      in_order = subst (λ fs. AllZip IsInOrder fs ordered) until.frames_are in_order;
    })

-- the first of frames are what all of them are
all-front : (P : Frame → Type 0) (front back : List Frame) → AllByRecursion P (front ++ back) → AllByRecursion P front
all-front P [] back all = tt
all-front P (f ∷ front) back all = (all.0, all-front P front back all.1)

-- so the first of such frames are such frames
front-of-one : (fs front back : List Frame) → fs ≡ front ++ back → AreOfOne fs → AreOfOne front
front-of-one fs front back is one = record {
  dictionary = one.dictionary;
  sound = one.sound;
  are = all-front (IsWritableFrame one.dictionary) front back
      (subst (λ fs. AllByRecursion (IsWritableFrame one.dictionary) fs) is one.are);
}

-- each of them can be written by a dictionary of its own
each-somewhere : (dictionary : List Entry) (fs : List Frame) → IsDictionary dictionary
    → AllByRecursion (IsWritableFrame dictionary) fs → AllByRecursion IsWritableSomewhere fs
each-somewhere dictionary [] sound all = tt
each-somewhere dictionary (f ∷ fs) sound all =
    (record { dictionary = dictionary; sound = sound; writable = all.0 }, each-somewhere dictionary fs sound all.1)

-- ---- no part of a head is whole

-- no part of the head of frames is well-formed
abbrev pub IsUnfinished : List Frame → Type 0
IsUnfinished frames = (n : ℕ) → WellFormed (take n (canonical_head frames)) → ⊥

-- frames within the limits are few
pub within-few : (fs : List Frame) → AreWithin fs → length fs ≤ frames_limit
within-few fs within =
    subst (λ n. n ≤ frames_limit) (frames-counted header_alone fs ∙ zero-add (length fs)) within.few

-- and their head is within the limit of files
within-short : (fs : List Frame) → AreWithin fs → length (canonical_head fs) ≤ file_limit
within-short fs within = subst (λ n. n ≤ file_limit) (sym (head-size fs)) within.short

-- so no part of it is well-formed, where one dictionary has them
one-unfinished : (fs : List Frame) → AreOfOne fs → AreWithin fs → IsUnfinished fs
one-unfinished fs one within n whole =
    no_part_of_a_head one.dictionary fs n one.sound one.are (within-few fs within) (within-short fs within) whole

-- ---- spliced frames

-- The frames are spliced, with the closing of the first file.
pub record AreOfFiles (closing : Closing) (frames : List Frame) : Type 0 where
  pub front : List Frame
  pub back : List Frame
  pub is : frames ≡ front ++ back
  pub spliced : AreSpliced closing front back

-- no part of their head is well-formed
files-unfinished : (closing : Closing) (fs : List Frame) → AreOfFiles closing fs → AreWithin fs → IsUnfinished fs
files-unfinished closing fs are within n whole =
    no_part_of_a_spliced_head closing are.front are.back n are.spliced
    (subst (λ fs. length fs ≤ frames_limit) are.is (within-few fs within))
    (subst (λ fs. length (canonical_head fs) ≤ file_limit) are.is (within-short fs within))
    (subst (λ fs. WellFormed (take n (canonical_head fs))) are.is whole)

-- more frames that are taken are spliced with them
more-of-files : (closing : Closing) (stood ordered then_stand : List Frame) → AreOfFiles closing stood
    → AreOfOne ordered → AreTaken (Some closing) stood ordered then_stand → AreOfFiles closing then_stand
more-of-files closing stood ordered then_stand are one taken =
    let more : AreOfOne taken.more = front-of-one ordered taken.more taken.rest taken.first one in
    record {
      front = are.front;
      back = are.back ++ taken.more;
      is = taken.stand ∙ ap (λ fs. fs ++ taken.more) are.is ∙ append_assoc are.front are.back taken.more;
      spliced = more_spliced closing are.front are.back taken.more are.spliced
          (each-somewhere more.dictionary taken.more more.sound more.are)
          (subst (λ fs. NoneClashes (Some closing) (after_frames header_alone fs) taken.more) are.is taken.free);
    }

-- ---- what stands between inputs

-- no frames before the first input, and spliced ones after it
abbrev pub AreKept : Option Closing → List Frame → Type 0
AreKept None stood = stood ≡ []
AreKept (Some closing) stood = AreOfFiles closing stood

-- no part of their head is well-formed
pub kept-unfinished : (closing : Option Closing) (stood : List Frame) → AreKept closing stood → AreWithin stood
    → IsUnfinished stood
kept-unfinished None stood none within =
    one-unfinished stood (subst (λ fs. AreOfOne fs) (sym none) none-of-one) within
kept-unfinished (Some closing) stood are within = files-unfinished closing stood are within

-- nor is one of the head of what stands after some frames of an input
pub taken-unfinished : (closing : Option Closing) (stood ordered then_stand : List Frame) → AreKept closing stood
    → AreOfOne ordered → AreTaken closing stood ordered then_stand → IsUnfinished then_stand
taken-unfinished None stood ordered then_stand none one taken =
    let is : then_stand ≡ taken.more = taken.stand ∙ ap (λ fs. fs ++ taken.more) none in
    one-unfinished then_stand
    (subst (λ fs. AreOfOne fs) (sym is) (front-of-one ordered taken.more taken.rest taken.first one))
    taken.within
taken-unfinished (Some closing) stood ordered then_stand are one taken =
    files-unfinished closing then_stand (more-of-files closing stood ordered then_stand are one taken) taken.within

-- What stands after all frames of a well-formed input is kept.
pub kept-then : (closing : Option Closing) (own : Closing) (file : List ℕ)
    (stood frames ordered then_stand : List Frame) → AreBytes file → AreKept closing stood
    → HasContent file (record { closing = own; frames = frames }) → AllZip IsInOrder frames ordered
    → then_stand ≡ stood ++ ordered → AreTaken closing stood ordered then_stand
    → AreKept (held_then closing own) then_stand
kept-then None own file stood frames ordered then_stand bytes none has in_order is taken = record {
  front = ordered;
  back = [];
  is = is ∙ ap (λ fs. fs ++ ordered) none ∙ sym (append-nil ordered);
  spliced = first_spliced file (record { closing = own; frames = frames }) ordered bytes has in_order;
}
kept-then (Some closing) own file stood frames ordered then_stand bytes are has in_order is taken =
    more-of-files closing stood ordered then_stand are
    (given-of-one file frames ordered (Closes own) bytes has in_order) taken
