-- How far the lines of a file were printed by way of a page.
use Rattle.std.specs.Prelude.{◌≡◌, ℕ, true, List, [], ◌++◌, length, Result, Ok, Err}
use Rattle.scalar_types.specs.declared.Order.{Order}
use Rattle.frame_outside.specs.Sink.{Output}
use Rattle.file_grammar.specs.declared.fault.Fault.{Fault}
use Rattle.file_grammar.specs.Item.{Item, Before}
use Rattle.file_grammar.specs.MayStand.{Begins, IsWellFormed}
use Rattle.file_grammar.specs.Fault.{IsItemFault}
use Rattle.dumper.specs.declared.files.DumpError.{DumpError}
use Rattle.dumper.specs.declared.files.DumpError.TheVariants as error
use Rattle.dumper.specs.declared.page.Page.{Page}
use Rattle.dumper.specs.Page.{AppendsPrefix, Carries, pending}
use Rattle.dumper.specs.Due.{lines_of, items_shown, Dumps}

-- those of the items up to a place
pub record PrintsOn (file : List ℕ) (order : Order) (before : Before) (old new : Output) (page now : List ℕ) : Type 0
  where
    pub items : List Item
    pub begins : Begins file order items before
    pub carries : Carries old new page now (lines_of order items)

-- those of all items of a well-formed file
pub record PrintsAll (file : List ℕ) (order : Order) (old new : Output) (page now : List ℕ) : Type 0 where
  pub items : List Item
  pub last : Before
  pub whole : IsWellFormed file order items last
  pub carries : Carries old new page now (lines_of order items)

-- those of the items before the one that shows this fault
pub record PrintsUntil (file : List ℕ) (order : Order) (fault : Fault) (old new : Output) (page now : List ℕ) : Type 0
  where
    pub is_fault : IsItemFault file fault
    pub order_is : is_fault.order ≡ order
    pub carries : Carries old new page now (lines_of order (items_shown is_fault.last is_fault.items))

-- Of the lines of first items the sink has got a prefix. The end of the file is among these only where nothing stands
-- after it.
pub record PrintsSome (file : List ℕ) (order : Order) (old new : Output) (page : List ℕ) : Type 0 where
  pub items : List Item
  pub last : Before
  pub begins : Begins file order items last
  pub end : last.closed ≡ true → last.place ≡ length file
  pub appends : AppendsPrefix old new (page ++ lines_of order items)

-- what was printed of a file by what was answered
abbrev pub PrintsLines : List ℕ → Order → Output → Output → Page → Page → Result Unit DumpError → Type 0
PrintsLines file order old new page now (Ok x) = PrintsAll file order old new (pending page) (pending now)
PrintsLines file order old new page now (Err (error.Fault fault)) =
    PrintsUntil file order fault old new (pending page) (pending now)
PrintsLines file order old new page now (Err refused) = PrintsSome file order old new (pending page)

-- what a dump answers once the rest of what was printed is put, from an empty page on
abbrev pub Finishes : Output → Output → Page → Result Unit DumpError → Result Unit DumpError → Type 0
Finishes old new page printed result =
    (file : List ℕ) (order : Order) (first : Output) (start : Page) → pending start ≡ []
    → PrintsLines file order first old start page printed → Dumps file first new result
