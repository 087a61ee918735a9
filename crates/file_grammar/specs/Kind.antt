-- The structures that have a part of their own in a file. A structure is known by the name that the dictionary has for
-- its class; FrSH and FrSE, which make the dictionary, are classes 1 and 2 alone.
use Rattle.std.specs.Prelude.{ℕ, ◌==◌, Bool, true, false, if◌then◌else◌, List, codes}
use Rattle.std.specs.Option.{option_map_or}
use Rattle.std.specs.Str.{bytes_eq}
use Rattle.dictionary.specs.declared.entries.Entry.{Entry}
use Rattle.dictionary.specs.Dictionary.{entry_of}
use Rattle.file_grammar.specs.declared.kind.Kind.{Kind}
use Rattle.file_grammar.specs.declared.kind.Kind.TheVariants.{FrSH, FrSE, FrameH, FrEndOfFrame, FrTOC, FrEndOfFile}
use Rattle.file_grammar.specs.declared.kind.Kind.TheVariants.{Other}

-- the kind of a structure name
abbrev pub kind_named : List ℕ → Kind
kind_named name =
    if bytes_eq name (codes "FrameH") then FrameH
    else (if bytes_eq name (codes "FrEndOfFrame") then FrEndOfFrame
    else (if bytes_eq name (codes "FrTOC") then FrTOC
    else (if bytes_eq name (codes "FrEndOfFile") then FrEndOfFile else Other)))

-- the kind of a class; one that is not held is of no kind of its own
abbrev pub kind_of : List Entry → ℕ → Kind
kind_of held class =
    if class == 1 then FrSH else
    (if class == 2 then FrSE else option_map_or (λ e. kind_named e.name) (entry_of held class) Other)

-- the dictionary's own structures
abbrev pub is_dictionary_kind : Kind → Bool
is_dictionary_kind FrSH = true
is_dictionary_kind FrSE = true
is_dictionary_kind kind = false

-- the structures after the frames
abbrev pub is_closing_kind : Kind → Bool
is_closing_kind FrTOC = true
is_closing_kind FrEndOfFile = true
is_closing_kind kind = false

-- the records of frames: all other structures
abbrev pub is_frame_kind : Kind → Bool
is_frame_kind FrameH = true
is_frame_kind FrEndOfFrame = true
is_frame_kind Other = true
is_frame_kind kind = false

-- those that links of the frame may lead to, which the frame's end record is not
abbrev pub is_target_kind : Kind → Bool
is_target_kind FrameH = true
is_target_kind Other = true
is_target_kind kind = false

abbrev pub is_header_kind : Kind → Bool
is_header_kind FrameH = true
is_header_kind kind = false

abbrev pub is_end_kind : Kind → Bool
is_end_kind FrEndOfFrame = true
is_end_kind kind = false

abbrev pub is_table_kind : Kind → Bool
is_table_kind FrTOC = true
is_table_kind kind = false

abbrev pub is_file_end_kind : Kind → Bool
is_file_end_kind FrEndOfFile = true
is_file_end_kind kind = false
