-- What may stand after what in a file, and the files that are well-formed.
use Rattle.std.specs.Prelude.{◌≡◌, ℕ, ◌+◌, ◌<◌, ◌≤◌, ◌⊎◌, false, true, List, [], ◌∷◌, Any, length, take, IsOk, IsTrue}
use Rattle.std.specs.Prelude.{Ok, Some, codes}
use Rattle.scalar_types.specs.declared.Order.{Order}
use Rattle.frame_head.specs.Header.{header_of}
use Rattle.dictionary.specs.declared.entries.Entry.{Entry}
use Rattle.dictionary.specs.Dictionary.{entry_of, step}
use Rattle.file_grammar.specs.declared.kind.Kind.{Kind}
use Rattle.file_grammar.specs.declared.kind.Kind.TheVariants.{FrSH, FrSE, FrameH, FrEndOfFrame, FrTOC, FrEndOfFile}
use Rattle.file_grammar.specs.declared.kind.Kind.TheVariants.{Other}
use Rattle.file_grammar.specs.Structure.{Structure, end_of, record_limit, StandsWhole}
use Rattle.file_grammar.specs.Kind.{kind_of}
use Rattle.file_grammar.specs.Record.{Reading, reading_of, weight_of, AreLinked}
use Rattle.file_grammar.specs.Described.{IsEntry}
use Rattle.file_grammar.specs.Item.{Item, EntryItem, OtherItem, Before, nothing_yet, after}
use Rattle.file_grammar.specs.Closing.{closes, number_named}

-- the most frames of a file
abbrev pub frames_limit : ℕ
frames_limit = 1000000

-- An entry: the longest that stands there, which the dictionary takes.
pub record EntryMayStand (order : Order) (file : List ℕ) (b : Before) (head : Structure) (run : List Structure)
    (entry : Entry) : Type 0 where
  pub here : head.at ≡ b.place
  pub described : IsEntry order file head run entry
  pub taken : IsOk (step b.dictionary entry)

-- A record of a frame: its class is held and its body spells the layout; its weight, and that of the frame with it, are
-- within the limit; and no contents table stands before it.
pub record RecordMayStand (order : Order) (b : Before) (s : Structure) : Type 0 where
  pub reading : Reading
  pub reads : reading_of order b.dictionary s ≡ Some reading
  pub weight : weight_of order b.dictionary s ≤ record_limit
  pub load : b.load + weight_of order b.dictionary s ≤ record_limit
  pub table : b.table ≡ false

-- no record of the frame has its class and instance
abbrev pub IsNewIn : List Structure → Structure → Type 0
IsNewIn frame s = Any (λ t. (t.class ≡ s.class) × (t.instance ≡ s.instance)) frame → ⊥

-- the frame has a FrameH
abbrev pub HasHeader : List Entry → List Structure → Type 0
HasHeader held frame = Any (λ t. kind_of held t.class ≡ FrameH) frame

-- The end of a file: it comes after the last frame, has the layout that it has to have, and tells the number of frames;
-- and it tells the place of its own end, or 0.
pub record FileEndMayStand (order : Order) (b : Before) (s : Structure) : Type 0 where
  pub reading : Reading
  pub reads : reading_of order b.dictionary s ≡ Some reading
  pub entry : Entry
  pub held : entry_of b.dictionary s.class ≡ Some entry
  pub layout : IsTrue (closes entry.elements)
  pub frame : b.frame ≡ []
  pub frames : number_named entry.elements reading.values (codes "nFrames") ≡ b.frames
  pub bytes : (number_named entry.elements reading.values (codes "nBytes") ≡ 0)
      ⊎ (number_named entry.elements reading.values (codes "nBytes") ≡ end_of s)

-- A structure that is no part of an entry, by its kind.
abbrev pub KindMayStand : Kind → Order → Before → Structure → Type 0
KindMayStand Other order b s = RecordMayStand order b s × IsNewIn b.frame s
KindMayStand FrameH order b s = RecordMayStand order b s × IsNewIn b.frame s × (HasHeader b.dictionary b.frame → ⊥)
KindMayStand FrEndOfFrame order b s = RecordMayStand order b s × HasHeader b.dictionary b.frame
    × AreLinked order b.dictionary b.frame b.frame × (b.frames < frames_limit)
KindMayStand FrTOC order b s = (b.frame ≡ []) × (b.table ≡ false)
KindMayStand FrEndOfFile order b s = FileEndMayStand order b s
KindMayStand FrSH order b s = ⊥
KindMayStand FrSE order b s = ⊥

-- Any other structure: it stands there whole, its class is held, and it may stand by its kind.
pub record StructureMayStand (order : Order) (file : List ℕ) (b : Before) (s : Structure) : Type 0 where
  pub here : s.at ≡ b.place
  pub stands : StandsWhole order file s
  pub entry : Entry
  pub held : entry_of b.dictionary s.class ≡ Some entry
  pub kind : KindMayStand (kind_of b.dictionary s.class) order b s

-- The item may stand after what stands before it. After the end of the file nothing may.
abbrev pub MayStand : Order → List ℕ → Before → Item → Type 0
MayStand order file b (EntryItem head run entry) = (b.closed ≡ false) × EntryMayStand order file b head run entry
MayStand order file b (OtherItem s) = (b.closed ≡ false) × StructureMayStand order file b s

-- The items stand one after another, each where it may, and this stands before the place after them.
abbrev pub Stand : Order → List ℕ → Before → List Item → Before → Type 0
Stand order file b [] last = last ≡ b
Stand order file b (item ∷ items) last = MayStand order file b item × Stand order file (after order b item) items last

-- The file begins with a header and these items, each of which may stand where it does.
pub record Begins (file : List ℕ) (order : Order) (items : List Item) (last : Before) : Type 0 where
  pub size : 40 ≤ length file
  pub header : header_of (take 40 file) ≡ Ok order
  pub stand : Stand order file nothing_yet items last

-- A well-formed file is a header and items that each may stand after those before it, the last of them FrEndOfFile, and
-- nothing after it.
pub record IsWellFormed (file : List ℕ) (order : Order) (items : List Item) (last : Before) : Type 0 where
  pub begins : Begins file order items last
  pub closed : last.closed ≡ true
  pub ends : last.place ≡ length file
