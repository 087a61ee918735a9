-- The items of a file, and what stands before a place.
use Rattle.std.specs.Prelude.{ℕ, ◌+◌, Bool, true, false, List, [], ◌∷◌, ◌++◌, sum_by, Result, Ok, Err}
use Rattle.scalar_types.specs.declared.Order.{Order}
use Rattle.dictionary.specs.declared.entries.Entry.{Entry}
use Rattle.dictionary.specs.declared.held.AddFault.{AddFault}
use Rattle.dictionary.specs.Dictionary.{step}
use Rattle.file_grammar.specs.declared.kind.Kind.{Kind}
use Rattle.file_grammar.specs.declared.kind.Kind.TheVariants.{FrSH, FrSE, FrameH, FrEndOfFrame, FrTOC, FrEndOfFile}
use Rattle.file_grammar.specs.declared.kind.Kind.TheVariants.{Other}
use Rattle.file_grammar.specs.Structure.{Structure, size_of, end_of}
use Rattle.file_grammar.specs.Kind.{kind_of}
use Rattle.file_grammar.specs.Record.{weight_of}

-- An item is an entry, which is an FrSH with its run of FrSEs, or any other structure.
pub data Item : Type 0 where
  EntryItem : (head : Structure) (run : List Structure) (entry : Entry) → Item
  OtherItem : (structure : Structure) → Item

-- what stands before a place, as far as it decides what may stand there
pub record Before : Type 0 where
  pub place : ℕ
  pub dictionary : List Entry  -- the entries held
  pub frame : List Structure  -- the records of the frame that is open, in the order of the file
  pub load : ℕ  -- their weights together
  pub frames : ℕ  -- the frames that have ended
  pub records : ℕ  -- the records of all frames, end records among them
  pub table : Bool  -- whether a contents table stands
  pub closed : Bool  -- whether the end of the file stands

-- what stands before the first item: the header
abbrev pub nothing_yet : Before
nothing_yet =
    record { place = 40; dictionary = []; frame = []; load = 0; frames = 0; records = 0; table = false; closed = false }

-- the dictionary after an entry: the same, or with the entry where its class is 3 to 255 and was not held
abbrev pub dictionary_by : List Entry → Result (List Entry) AddFault → List Entry
dictionary_by held (Ok next) = next
dictionary_by held (Err fault) = held

abbrev pub dictionary_after : List Entry → Entry → List Entry
dictionary_after held entry = dictionary_by held (step held entry)

-- after a structure of a kind, which has a weight: a record joins the frame, and the end record ends it
abbrev pub after_kind : Kind → Before → Structure → ℕ → Before
after_kind FrameH b s weight =
    record b { place = end_of s; frame = b.frame ++ s ∷ []; load = b.load + weight; records = b.records + 1 }
after_kind Other b s weight =
    record b { place = end_of s; frame = b.frame ++ s ∷ []; load = b.load + weight; records = b.records + 1 }
after_kind FrEndOfFrame b s weight =
    record b { place = end_of s; frame = []; load = 0; frames = b.frames + 1; records = b.records + 1 }
after_kind FrTOC b s weight = record b { place = end_of s; table = true }
after_kind FrEndOfFile b s weight = record b { place = end_of s; closed = true }
after_kind FrSH b s weight = record b { place = end_of s }
after_kind FrSE b s weight = record b { place = end_of s }

-- what stands before the place after an item
abbrev pub after : Order → Before → Item → Before
after order b (EntryItem head run entry) =
    record b { place = end_of head + sum_by size_of run; dictionary = dictionary_after b.dictionary entry }
after order b (OtherItem s) = after_kind (kind_of b.dictionary s.class) b s (weight_of order b.dictionary s)
