-- The content of a well-formed file.
use Rattle.std.specs.Prelude.{◌≡◌, ℕ, if◌then◌else◌, List, map, find, codes, option_and_then, Option, Some, None}
use Rattle.std.specs.Option.{option_map, option_map_or}
use Rattle.std.specs.Str.{bytes_eq}
use Rattle.scalar_types.specs.declared.Order.{Order}
use Rattle.dictionary.specs.declared.entries.Entry.{Entry}
use Rattle.file_grammar.specs.Item.{Item, Before}
use Rattle.file_grammar.specs.MayStand.{IsWellFormed}
use Rattle.frame_content.specs.Labels.{printed_entry, no_entry}
use Rattle.contents_table.specs.Fit.{is_fit}
use Rattle.file_content.specs.Stored.{frames_in}
use Rattle.file_content.specs.Contents.{content_frame}
use Rattle.canonical_file.specs.declared.closing.Closing.{Closing}
use Rattle.canonical_file.specs.Contents.{Content}

-- the entry held of a structure name
abbrev pub entry_named : List Entry → List ℕ → Option Entry
entry_named held name = find (λ e. bytes_eq name e.name) held

-- an entry, where it is fit for a contents table
abbrev pub if_fit : Entry → Option Entry
if_fit e = if is_fit e then Some e else None

-- The closing by the entries held: that of FrEndOfFile, and that of FrTOC where it is fit, as they are written again.
abbrev pub closing_by : List Entry → Closing
closing_by held = record {
  end = option_map_or printed_entry (entry_named held (codes "FrEndOfFile")) no_entry;
  table = option_map printed_entry (option_and_then if_fit (entry_named held (codes "FrTOC")));
}

-- What items hold, and what stands after them.
abbrev pub content_of : Order → List Item → Before → Content
content_of order items last = record {
  closing = closing_by last.dictionary;
  frames = map (content_frame order) (frames_in order items);
}

-- The file is well-formed and has this content.
pub record HasContent (file : List ℕ) (c : Content) : Type 0 where
  pub order : Order
  pub items : List Item
  pub last : Before
  pub well_formed : IsWellFormed file order items last
  pub is : c ≡ content_of order items last
