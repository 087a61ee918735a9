-- What a structure of a class is by the dictionary: its kind, and the root of its frame that a record is.
use Rattle.std.specs.Prelude.{◌≡◌, ℕ, ◌<◌, List, length, if◌then◌else◌, codes, slice_index_or}
use Rattle.std.specs.Option.{option_map_or}
use Rattle.std.specs.Str.{bytes_eq}
use Rattle.dictionary.specs.declared.entries.Entry.{Entry}
use Rattle.dictionary.specs.Dictionary.{entry_of}
use Rattle.link_graph.specs.declared.nodes.Root.{Root}
use Rattle.link_graph.specs.declared.nodes.Root.TheVariants as root
use Rattle.file_grammar.specs.Kind.{kind_of}
use Rattle.item_reader.specs.declared.roles.Role.{Role}

-- the root that a record of a structure name is
abbrev pub root_named : List ℕ → Root
root_named name =
    if bytes_eq name (codes "FrameH") then root.Head
    else (if bytes_eq name (codes "FrStatData") then root.Stat else root.No)

-- the root that a record of a class is
abbrev pub root_of : List Entry → ℕ → Root
root_of held class = option_map_or (λ e. root_named e.name) (entry_of held class) root.No

-- what a structure of a class is
abbrev pub role_of : List Entry → ℕ → Role
role_of held class = record { kind = kind_of held class; root = root_of held class }

-- under each class its role is kept
pub record AreRoles (held : List Entry) (roles : List Role) : Type 0 where
  pub size : length roles ≡ 256
  pub each : (class : ℕ) (past : Role) → class < 256 → slice_index_or roles class past ≡ role_of held class
