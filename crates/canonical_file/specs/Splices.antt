-- Frames of several files in one canonical file: the entries used, the frames that clash with them, and the frames as
-- they are written. Each frame is in its order here, so a record that no root reaches uses no entry.
use Rattle.std.specs.Prelude.{◌≡◌, ℕ, ◌≤◌, ⊤, not, Bool, if◌then◌else◌, List, [], ◌∷◌, ◌++◌, length, map, is_some}
use Rattle.std.specs.Prelude.{flat_map, unwrap_or, Option, Some, None}
use Rattle.std.specs.Option.{option_map_or, option_to_list}
use Rattle.std.specs.List.{AllZip}
use Rattle.dictionary.specs.declared.entries.Entry.{Entry}
use Rattle.dictionary.specs.Same.{same_entries}
use Rattle.dictionary.specs.Dictionary.{entry_of, class_named}
use Rattle.file_grammar.specs.MayStand.{frames_limit}
use Rattle.frame_content.specs.Labels.{Label}
use Rattle.frame_content.specs.Frames.{Row, Frame}
use Rattle.canonical_file.specs.declared.closing.Closing.{Closing}
use Rattle.canonical_file.specs.Ordered.{IsInOrder}
use Rattle.canonical_file.specs.Records.{Record, records_of, with_record}
use Rattle.canonical_file.specs.Written.{Written, header_alone, after_frame, after_frames}
use Rattle.canonical_file.specs.Contents.{Content}

-- ---- clashes

-- the entries of a closing
abbrev pub closing_entries : Closing → List Entry
closing_entries c = option_to_list c.table ++ c.end ∷ []

-- the entries used: those that stand in the file and, from the end of the first file on, those of its closing
abbrev pub entries_used : List Entry → Option Closing → List Entry
entries_used entries closing = entries ++ option_map_or closing_entries closing []

-- an entry clashes where the one used of its class is not the same, comments aside, or where none is used of its class
-- and its structure name is
abbrev pub clashes : List Entry → Entry → Bool
clashes used e =
    option_map_or (λ old. not (same_entries old e)) (entry_of used e.class) (is_some (class_named used e.name))

-- the class of the first of these records whose entry clashes with those used before it
abbrev pub clash_from : Option Closing → List Entry → List Record → Option ℕ
clash_from closing entries [] = None
clash_from closing entries (r ∷ rs) =
    if clashes (entries_used entries closing) r.entry then Some r.entry.class
    else clash_from closing (with_record entries r) rs

-- The class at which a frame clashes: the first, in the order of its records, the end record last.
abbrev pub clash_of : Option Closing → List Entry → Frame → Option ℕ
clash_of closing entries f = clash_from closing entries (records_of f)

-- none of these frames clashes, each after those before it
abbrev pub NoneClashes : Option Closing → Written → List Frame → Type 0
NoneClashes closing w [] = ⊤
NoneClashes closing w (f ∷ fs) = (clash_of closing w.entries f ≡ None) × NoneClashes closing (after_frame w f) fs

-- ---- frames as they are written

-- the one of these entries that is of the class of an entry, with its own comments
abbrev pub entry_under : List Entry → Entry → Entry
entry_under entries e = unwrap_or (entry_of entries e.class) e

-- the frame under these entries: each record has the one of its class
abbrev pub label_under : List Entry → Label → Label
label_under entries l = record l { entry = entry_under entries l.entry }

abbrev pub row_under : List Entry → Row → Row
row_under entries r = record r { label = label_under entries r.label }

abbrev pub frame_under : List Entry → Frame → Frame
frame_under entries f = record f { rows = map (row_under entries) f.rows; end = label_under entries f.end }

-- Frames as they are written one after another: each class has the entry that is used first of it.
abbrev pub as_used : List Frame → List Frame
as_used frames = map (frame_under (after_frames header_alone frames).entries) frames

-- ---- splices

abbrev pub frames_in : List Content → List Frame
frames_in contents = flat_map (λ (c : Content). c.frames) contents

-- The splice of contents: the closing of the first, and the frames of all in order as they are written. There is one
-- where no frame clashes, the closing of the first being used from its end on, and where the frames are no more than a
-- file may have.
pub record IsSplice (first : Content) (others : List Content) (c : Content) : Type 0 where
  pub front : List Frame
  pub back : List Frame
  pub front_in_order : AllZip IsInOrder first.frames front
  pub back_in_order : AllZip IsInOrder (frames_in others) back
  pub front_agrees : NoneClashes None header_alone front
  pub back_agrees : NoneClashes (Some first.closing) (after_frames header_alone front) back
  pub few : length (front ++ back) ≤ frames_limit
  pub is : c ≡ record { closing = first.closing; frames = as_used (front ++ back) }
