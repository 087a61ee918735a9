-- Item after item of a file of bytes: the frame that is open, and the frames that have ended.
use Rattle.std.proofs.Common.{◌≡◌, ℕ, inl, inr, List, [], ◌∷◌, refl, sym, ap, subst}
use Rattle.std.proofs.Common.{◌∙◌}
use Rattle.std.specs.List.{AllByRecursion}
use Rattle.scalar_types.specs.declared.Order.{Order}
use Rattle.dictionary.specs.declared.entries.Entry.{Entry}
use Rattle.dictionary.specs.Dictionary.{step}
use Rattle.file_grammar.specs.declared.kind.Kind.{Kind}
use Rattle.file_grammar.specs.declared.kind.Kind.TheVariants.{FrSH, FrSE, FrameH, FrEndOfFrame, FrTOC, FrEndOfFile}
use Rattle.file_grammar.specs.declared.kind.Kind.TheVariants.{Other}
use Rattle.file_grammar.specs.Structure.{Structure}
use Rattle.file_grammar.specs.Kind.{kind_of, is_target_kind}
use Rattle.file_grammar.specs.Record.{weight_of}
use Rattle.file_grammar.specs.Item.{Item, EntryItem, OtherItem, Before, dictionary_by, after_kind, after}
use Rattle.file_grammar.specs.MayStand.{RecordMayStand, KindMayStand, StructureMayStand, MayStand, Stand}
use Rattle.file_content.specs.Stored.{StoredFrame, structures_brought, brought_in, frame_of_kind, frame_ended}
use Rattle.file_content.specs.Contents.{content_frame}
use Rattle.canonical_file.specs.Ranges.{AreBytes}
use Rattle.canonical_laws.proofs.DictionarySteps.{Stepped, after-gives, StaysIn, step-stays}
use Rattle.canonical_laws.proofs.SourceEntries.{IsSourceEntry, entry-source, AreSources, source-push, body-bytes}
use Rattle.canonical_laws.proofs.SourceFrames.{IsSourceFrame, both}
use Rattle.canonical_laws.proofs.SourceStored.{IsSourceRecord, IsOpenFrame, open-grows, open-push, no-frame}
use Rattle.canonical_laws.proofs.SourceStored.{ended-source}

-- the frame that is open before a place
abbrev pub IsSourceBefore : Order → Before → Type 0
IsSourceBefore order b = IsOpenFrame order b.dictionary b.frame b.load

-- a frame that has ended, whose entries stay held
pub record IsStoredSource (order : Order) (next : List Entry) (stored : StoredFrame) : Type 0 where
  pub source : IsSourceFrame order stored.held (content_frame order stored)
  pub stays : StaysIn stored.held next

-- ---- an entry

sources-after : (held : List Entry) (e : Entry) → AreSources held → IsSourceEntry e
    → AreSources (dictionary_by held (step held e))
sources-after held e sources is = by (dictionary_by held (step held e)) (after-gives held e)
  where
    by : (next : List Entry) → Stepped held e next → AreSources next
    by next (inl same) = subst AreSources (sym same) sources
    by next (inr both) = subst AreSources (sym both.1) (source-push held e sources is both.0)

-- ---- any other structure

structure-record : (order : Order) (file : List ℕ) (b : Before) (s : Structure) → AreBytes file
    → StructureMayStand order file b s → RecordMayStand order b s → IsSourceRecord order b.dictionary s
structure-record order file b s bytes may record_may = record {
  entry = may.entry;
  held_is = may.held;
  reading = record_may.reading;
  reads = record_may.reads;
  bytes = body-bytes order file s bytes may.stands;
}

-- what a structure of a kind leaves, and what it ends
abbrev Leaves : Order → Before → Structure → Kind → Type 0
Leaves order b s kind =
    IsSourceBefore order (after_kind kind b s (weight_of order b.dictionary s))
    × AllByRecursion (IsStoredSource order b.dictionary) (frame_of_kind kind b s)

kind-leaves : (order : Order) (file : List ℕ) (b : Before) (s : Structure) → AreBytes file → IsSourceBefore order b
    → (may : StructureMayStand order file b s) → (kind : Kind) → kind_of b.dictionary s.class ≡ kind
    → KindMayStand kind order b s → Leaves order b s kind
kind-leaves order file b s bytes is may Other kind_is (standing, new) = (
  open-push order b.dictionary b.frame b.load s is (structure-record order file b s bytes may standing)
      (ap is_target_kind kind_is) (λ header. absurd (other (sym kind_is ∙ header))),
  tt,
)
  where
    other : Other ≡ FrameH → ⊥
    other same = cc
kind-leaves order file b s bytes is may FrameH kind_is (standing, new, one) = (
  open-push order b.dictionary b.frame b.load s is (structure-record order file b s bytes may standing)
      (ap is_target_kind kind_is) (λ header. one),
  tt,
)
kind-leaves order file b s bytes is may FrEndOfFrame kind_is (standing, header, linked, few) = (
  no-frame order b.dictionary is.sources,
  (
    record {
      source = ended-source order b.dictionary b.frame b.load s is (structure-record order file b s bytes may standing)
          kind_is header standing.load;
      stays = λ class e held. held;
    },
    tt,
  ),
)
kind-leaves order file b s bytes is may FrTOC kind_is standing = (is, tt)
kind-leaves order file b s bytes is may FrEndOfFile kind_is standing = (is, tt)
kind-leaves order file b s bytes is may FrSH kind_is standing = absurd standing
kind-leaves order file b s bytes is may FrSE kind_is standing = absurd standing

kind-keeps : (kind : Kind) (b : Before) (s : Structure) (weight : ℕ)
    → (after_kind kind b s weight).dictionary ≡ b.dictionary
kind-keeps FrSH b s weight = refl
kind-keeps FrSE b s weight = refl
kind-keeps FrameH b s weight = refl
kind-keeps FrEndOfFrame b s weight = refl
kind-keeps FrTOC b s weight = refl
kind-keeps FrEndOfFile b s weight = refl
kind-keeps Other b s weight = refl

-- ---- one item

pub item-source : (order : Order) (file : List ℕ) (b : Before) (item : Item) → AreBytes file
    → MayStand order file b item
    → IsSourceBefore order b → IsSourceBefore order (after order b item)
item-source order file b (EntryItem head run e) bytes may is =
    open-grows order b.dictionary (dictionary_by b.dictionary (step b.dictionary e)) b.frame b.load
    (step-stays b.dictionary e)
    (sources-after b.dictionary e is.sources (entry-source order file head run e bytes may.1.described)) is
item-source order file b (OtherItem s) bytes may is =
    (kind-leaves order file b s bytes is may.1 (kind_of b.dictionary s.class) refl may.1.kind).0

pub item-stays : (order : Order) (b : Before) (item : Item) → StaysIn b.dictionary (after order b item).dictionary
item-stays order b (EntryItem head run e) = step-stays b.dictionary e
item-stays order b (OtherItem s) =
    subst (StaysIn b.dictionary)
    (sym (kind-keeps (kind_of b.dictionary s.class) b s (weight_of order b.dictionary s))) (λ class e held. held)

item-frames : (order : Order) (file : List ℕ) (b : Before) (item : Item) → AreBytes file → MayStand order file b item
    → IsSourceBefore order b
    → AllByRecursion (IsStoredSource order b.dictionary) (structures_brought frame_ended b item)
item-frames order file b (EntryItem head run e) bytes may is = tt
item-frames order file b (OtherItem s) bytes may is =
    (kind-leaves order file b s bytes is may.1 (kind_of b.dictionary s.class) refl may.1.kind).1

-- ---- all items

later : (order : Order) (held next : List Entry) (frames : List StoredFrame) → StaysIn held next
    → AllByRecursion (IsStoredSource order held) frames → AllByRecursion (IsStoredSource order next) frames
later order held next [] stays all = tt
later order held next (x ∷ xs) stays all = (
  record {
    source = all.0.source;
    stays = λ class e is. stays class e (all.0.stays class e is);
  },
  later order held next xs stays all.1,
)

-- What is known before the place after items.
pub record AreSourceItems (order : Order) (b : Before) (items : List Item) (last : Before) : Type 0 where
  pub stays : StaysIn b.dictionary last.dictionary
  pub before : IsSourceBefore order last
  pub frames : AllByRecursion (IsStoredSource order last.dictionary) (brought_in frame_ended order b items)

pub stand-source : (order : Order) (file : List ℕ) (b last : Before) (items : List Item) → AreBytes file
    → Stand order file b items last → IsSourceBefore order b → AreSourceItems order b items last
stand-source order file b last [] bytes stand is =
    subst (AreSourceItems order b []) (sym stand) (record { stays = λ class e held. held; before = is; frames = tt })
stand-source order file b last (item ∷ items) bytes stand is =
    let next : Before = after order b item in
    let rest = stand-source order file next last items bytes stand.1 (item-source order file b item bytes stand.0 is) in
    let stays : StaysIn b.dictionary last.dictionary =
    λ class e held. rest.stays class e (item-stays order b item class e held) in
    record {
      stays = stays;
      before = rest.before;
      frames = both (IsStoredSource order last.dictionary) (structures_brought frame_ended b item)
          (brought_in frame_ended order next items)
          (later order b.dictionary last.dictionary (structures_brought frame_ended b item) stays
          (item-frames order file b item bytes stand.0 is)) rest.frames;
    }
