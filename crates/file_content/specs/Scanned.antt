-- What is kept of the items of a file that were read.
use Rattle.std.specs.Prelude.{◌≡◌, ℕ, false, List, Option, Some, None, ⊤}
use Rattle.scalar_types.specs.declared.Order.{Order}
use Rattle.dictionary.specs.Dictionary.{IsDictionary}
use Rattle.file_grammar.specs.Item.{Item, Before}
use Rattle.file_grammar.specs.MayStand.{Begins}
use Rattle.item_reader.specs.declared.item.Item.{Item as Given}
use Rattle.item_reader.specs.declared.item.Item.TheVariants.{FileEnd}
use Rattle.frame_outside.specs.Shelf.{Outside, Told}
use Rattle.item_reader.specs.Reader.{Reader, file_of}
use Rattle.contents_table.specs.Built.{Built}
use Rattle.contents_table.specs.Layouts.{layouts_of}
use Rattle.file_content.specs.declared.scan.FoundTable.{FoundTable}
use Rattle.file_content.specs.declared.scan.Scan.{Scan}
use Rattle.file_content.specs.Stored.{StoredTable, frames_in, table_in, seek_in}
use Rattle.file_content.specs.Contents.{built_of, is_listed, IsJudged}

-- the table that was found is the one that stands, and it is judged
abbrev pub IsFound : Order → ℕ → Built → Option StoredTable → Option FoundTable → Type 0
IsFound order frames built None None = ⊤
IsFound order frames built (Some t) (Some found) =
    (found.at ≡ t.structure.at) × IsJudged (is_listed order frames t) built found.state
IsFound order frames built None (Some found) = ⊥
IsFound order frames built (Some t) None = ⊥

-- What is kept is what the items before a place hold, the last of which was given.
pub record HasItems (file : List ℕ) (order : Order) (before : Before) (last : Option Given) (scan : Scan) : Type 0 where
  pub items : List Item
  pub begins : Begins file order items before
  pub sound : IsDictionary before.dictionary
  pub layouts_are : scan.layouts ≡ layouts_of before.dictionary
  pub channels_are : scan.channels ≡ built_of order (frames_in order items)
  pub table_is : IsFound order before.frames scan.channels (table_in order items) scan.table
  pub no_table : before.table ≡ false → table_in order items ≡ None
  pub seek_is : (at class length seek : ℕ) → last ≡ Some (FileEnd at class length seek)
      → seek_in order items ≡ Some seek

abbrev pub HasScanned : List ℕ → Reader → Scan → Type 0
HasScanned file r scan = HasItems file r.order r.before r.last scan

-- So it is after some more items of the file that a slot of this shelf was opened on, where it was so before them.
unfoldable pub Scans : Outside → ℕ → Reader → Scan → Reader → Scan → Type 0
Scans outside slot before old r scan =
    Told (file_of outside slot) (λ file. HasScanned file before old → HasScanned file r scan)
