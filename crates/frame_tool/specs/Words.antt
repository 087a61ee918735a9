-- The words of the command line. A command that is not built yet is none.
use Rattle.std.specs.Prelude.{List, [], ◌∷◌, ℕ, ◌^◌, ◌==◌, length, map, nat_le, codes, ◌||◌, not, if◌then◌else◌}
use Rattle.std.specs.Prelude.{Bool, false, option_map, Option, Some, None}
use Rattle.file_grammar.specs.Fault.{is_empty}
use Rattle.std.specs.List.{list_any}
use Rattle.std.specs.Str.{bytes_eq, all_ascii_digits}
use Rattle.std.specs.Str.Parse.{digits_value}
use Rattle.std.specs.String.{string_bytes}
use Rattle.std.specs.declared.string.String.{String}
use Rattle.frame_tool.specs.declared.command.Command.{Command}
use Rattle.frame_tool.specs.declared.command.Command.TheVariants.{Walk, Check, List as ListCommand, Same, Splice, Dump}
use Rattle.frame_tool.specs.declared.command.Command.TheVariants.{Make}

-- a command with its words as lists of bytes
pub data Form : Type 0 where
  WalkFile : (file : List ℕ) → Form
  CheckFile : (file : List ℕ) → Form
  ListFile : (file : List ℕ) → Form
  SameFiles : (first second : List ℕ) → Form
  SpliceFiles : (to : List ℕ) (from : List (List ℕ)) → Form
  DumpFile : (file : List ℕ) → Form
  MakeFile : (frames : ℕ) (to : List ℕ) → Form

-- the words as lists of bytes
abbrev pub texts : {A : Type 0} → List (String A) → List (List ℕ)
texts words = map string_bytes words

abbrev pub form_of : Command → Form
form_of (Walk file) = WalkFile file.now
form_of (Check file) = CheckFile file.now
form_of (ListCommand file) = ListFile file.now
form_of (Same first second) = SameFiles first.now second.now
form_of (Splice to from) = SpliceFiles to.now (texts from.now)
form_of (Dump file) = DumpFile file.now
form_of (Make frames to) = MakeFile frames to.now

-- one word
abbrev pub single : List (List ℕ) → Option (List ℕ)
single (word ∷ []) = Some word
single _ = None

-- two words
abbrev pub same_form : List (List ℕ) → Option Form
same_form (first ∷ second ∷ []) = Some (SameFiles first second)
same_form _ = None

-- the splice of files to one that is none of them
abbrev pub apart : List ℕ → List (List ℕ) → Option Form
apart to from = if list_any (bytes_eq to) from then None else Some (SpliceFiles to from)

-- FILE OUT
abbrev pub copy_form : List (List ℕ) → Option Form
copy_form (file ∷ to ∷ []) = apart to (file ∷ [])
copy_form _ = None

-- OUT FILES: one file or more, fewer than 2^32
abbrev pub splice_form : List (List ℕ) → Option Form
splice_form (to ∷ from) = if is_empty from || nat_le (2 ^ 32) (length from) then None else apart to from
splice_form [] = None

-- a word with more than one byte that begins with a zero
abbrev pub has_leading_zero : List ℕ → Bool
has_leading_zero (first ∷ second ∷ rest) = first == 48
has_leading_zero _ = false

-- the number of frames that a word tells: in decimal digits without a leading zero, at most 100,000
abbrev pub frames_told : List ℕ → Option ℕ
frames_told word =
    if is_empty word || has_leading_zero word || not (all_ascii_digits word) then None
    else (if nat_le (digits_value 10 word) 100000 then Some (digits_value 10 word) else None)

-- N OUT
abbrev pub make_form : List (List ℕ) → Option Form
make_form (frames ∷ to ∷ []) = option_map (λ n. MakeFile n to) (frames_told frames)
make_form _ = None

-- the command of its first word
abbrev pub command_named : List ℕ → List (List ℕ) → Option Form
command_named word words =
    if bytes_eq word (codes "walk") then option_map WalkFile (single words)
    else (if bytes_eq word (codes "check") then option_map CheckFile (single words)
    else (if bytes_eq word (codes "list") then option_map ListFile (single words)
    else (if bytes_eq word (codes "same") then same_form words
    else (if bytes_eq word (codes "copy") then copy_form words
    else (if bytes_eq word (codes "splice") then splice_form words
    else (if bytes_eq word (codes "dump") then option_map DumpFile (single words)
    else (if bytes_eq word (codes "make") then make_form words else None)))))))

abbrev pub command_of : List (List ℕ) → Option Form
command_of [] = None
command_of (word ∷ words) = command_named word words

-- the file that a command writes
abbrev pub output_of : Option Form → Option (List ℕ)
output_of (Some (SpliceFiles to from)) = Some to
output_of (Some (MakeFile frames to)) = Some to
output_of command = None
