-- What a reader gives of an item, and the body and the entry that it lends after it.
use Rattle.std.specs.Prelude.{◌≡◌, ◌≢◌, ◌↔◌, ℕ, IsTrue, List, [], length, if◌then◌else◌, ◌&&◌, is_none, codes}
use Rattle.std.specs.Prelude.{true, false, nat_lt, Option, Some, None}
use Rattle.dictionary.specs.declared.entries.Entry.{Entry}
use Rattle.dictionary.specs.Dictionary.{entry_of}
use Rattle.item_reader.specs.declared.item.Item.{Item as Given}
use Rattle.item_reader.specs.declared.item.Item.TheVariants as given
use Rattle.file_grammar.specs.declared.kind.Kind.{Kind}
use Rattle.file_grammar.specs.declared.kind.Kind.TheVariants.{FrameH, FrEndOfFrame, FrTOC, FrEndOfFile, Other}
use Rattle.file_grammar.specs.Structure.{Structure, size_of}
use Rattle.file_grammar.specs.Kind.{is_table_kind}
use Rattle.file_grammar.specs.Record.{layout_in}
use Rattle.file_grammar.specs.Item.{Item, EntryItem, OtherItem, dictionary_after}
use Rattle.file_grammar.specs.Fault.{Here, entries_before, kind, number}

-- what is given of a structure of a kind; a record has its number in the frame, from 0
abbrev pub TellsKind : Kind → Here → Structure → Given → Type 0
TellsKind FrEndOfFrame h s (given.FrameEnd at class) = (at ≡ s.at) × (class ≡ s.class)
TellsKind FrTOC h s (given.Table at class length) = (at ≡ s.at) × (class ≡ s.class) × (length ≡ size_of s)
TellsKind FrEndOfFile h s (given.FileEnd at class length seek) =
    (at ≡ s.at) × (class ≡ s.class) × (length ≡ size_of s) × (seek ≡ number h (codes "seekTOC"))
TellsKind FrameH h s (given.Plain at class instance node) =
    (at ≡ s.at) × (class ≡ s.class) × (instance ≡ s.instance) × (node ≡ length h.before.frame)
TellsKind Other h s (given.Plain at class instance node) =
    (at ≡ s.at) × (class ≡ s.class) × (instance ≡ s.instance) × (node ≡ length h.before.frame)
TellsKind kind h s item = ⊥

-- what is given of an item; an entry changed the dictionary, or it did not
abbrev pub Tells : Here → Item → Given → Type 0
Tells h (EntryItem head run entry) (given.Entry at class changed) =
    (at ≡ head.at) × (class ≡ entry.class)
    × (IsTrue changed ↔ (dictionary_after (entries_before h) entry ≢ entries_before h))
Tells h (EntryItem head run entry) item = ⊥
Tells h (OtherItem s) item = TellsKind (kind h) h s item

-- The body that is lent after an item: none after an entry, and none after a contents table whose layout is not
-- readable.
abbrev pub body_after : Here → Item → List ℕ
body_after h (EntryItem head run entry) = []
body_after h (OtherItem s) =
    if is_table_kind (kind h) && is_none (layout_in (entries_before h) s.class) then [] else s.body

-- the entry that an item is, as it was read
abbrev pub entry_given : Item → Option Entry
entry_given (EntryItem head run entry) = Some entry
entry_given (OtherItem s) = None

-- the instance of its structure, 0 of an entry
abbrev pub instance_given : Item → ℕ
instance_given (EntryItem head run entry) = 0
instance_given (OtherItem s) = s.instance

-- the entry of a class that a dictionary holds, none of a class above 255
abbrev pub entry_within : List Entry → ℕ → Option Entry
entry_within entries_before class = if nat_lt 255 class then None else entry_of entries_before class

-- the entry that is lent after an item: one that changed the dictionary stands in it, any other is kept apart
abbrev pub entry_in : Option Given → Option Entry → List Entry → Option Entry
entry_in None kept entries_before = None
entry_in (Some (given.Entry at class true)) kept entries_before = entry_within entries_before class
entry_in (Some (given.Entry at class false)) kept entries_before = kept
entry_in (Some item) kept entries_before = None
