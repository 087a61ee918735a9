-- How an open file of the system is used, and what is known of it.
use Rattle.std.specs.Prelude.{ℕ, nat_eq, Bool, true, false, ◌&&◌, not, List, string_bytes}
use Rattle.std.specs.Prelude.{Option, Some, None, is_some, if◌then◌else◌}
use Rattle.std.specs.Str.{bytes_eq}
use Rattle.frame_outside.specs.declared.dir_shelf.identity.Identity.{Identity}
use Rattle.frame_outside.specs.declared.dir_shelf.source.Source.{Source}
use Rattle.frame_outside.specs.declared.dir_shelf.opened.Opened.{Opened}
use Rattle.frame_outside.specs.declared.dir_shelf.opened.Opened.TheVariants as opened

-- whether it is written, and not read
abbrev pub is_written : {F : Type 0} → Opened F → Bool
is_written (opened.Source source) = false
is_written (opened.Target target) = true

-- what tells the file from others; None of a pipe, a terminal or a device
abbrev pub identity_of : {F : Type 0} → Opened F → Option Identity
identity_of (opened.Source source) = source.identity
identity_of (opened.Target target) = target.identity

-- how long a source was when it was opened, where it has a length
abbrev pub length_of : {F : Type 0} → Opened F → Option ℕ
length_of (opened.Source source) = source.length
length_of (opened.Target target) = None

-- the name that a target was made by
abbrev pub name_of : {F : Type 0} → Opened F → Option (List ℕ)
name_of (opened.Source source) = None
name_of (opened.Target target) = Some (string_bytes target.name)

-- whether these are the identity of one file; what has none is like no other
abbrev pub is_same : Option Identity → Option Identity → Bool
is_same (Some a) (Some b) = nat_eq a.device b.device && nat_eq a.inode b.inode
is_same (Some a) None = false
is_same None b = false

-- whether a slot has the file of that identity
abbrev pub is_file_of : {F : Type 0} → Option Identity → Opened F → Bool
is_file_of identity slot = is_same (identity_of slot) identity

-- whether a slot writes the file of that identity under another name
abbrev pub is_other_name_of : {F : Type 0} → Option Identity → List ℕ → Opened F → Bool
is_other_name_of identity name (opened.Source source) = false
is_other_name_of identity name (opened.Target target) =
    is_same target.identity identity && not (bytes_eq (string_bytes target.name) name)

-- what no call on a slot changes
pub record Seen : Type 0 where
  pub is_written : Bool
  pub identity : Option Identity
  pub length : Option ℕ
  pub name : Option (List ℕ)

abbrev pub seen_of : {F : Type 0} → Opened F → Seen
seen_of slot =
    record {
      is_written = is_written slot;
      identity = identity_of slot;
      length = length_of slot;
      name = name_of slot;
    }

-- whether a source was read to its end and still has its file
abbrev pub is_spent : {F : Type 0} → Source F → Bool
is_spent source = source.ended && is_some source.file

-- the source once its file was given back to the system, which is only after its end
abbrev pub source_given_back : {F : Type 0} → Source F → Source F
source_given_back source = if source.ended then record source { file = None } else source

-- the same of a slot
abbrev pub can_give_back : {F : Type 0} → Opened F → Bool
can_give_back (opened.Source source) = is_spent source
can_give_back (opened.Target target) = false

abbrev pub given_back : {F : Type 0} → Opened F → Opened F
given_back (opened.Source source) = opened.Source (source_given_back source)
given_back (opened.Target target) = opened.Target target
