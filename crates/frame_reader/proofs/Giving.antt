-- What a further item brings to what a reader of frames has given.
use Rattle.std.proofs.Common.{◌≡◌, ℕ, true, false, List, ◌++◌, ◌∷◌, [], Option, Some, None, refl, sym}
use Rattle.std.proofs.Common.{Result, Err, ap, ◌∙◌, subst}
use Rattle.dictionary.specs.declared.entries.Entry.{Entry}
use Rattle.dictionary.specs.Dictionary.{IsDictionary}
use Rattle.frame_outside.specs.Shelf.{Outside, Told}
use Rattle.file_grammar.specs.declared.fault.Fault.{Fault}
use Rattle.file_grammar.specs.Item.{Before, nothing_yet}
use Rattle.file_grammar.specs.MayStand.{Begins}
use Rattle.frame_content.specs.Frames.{Frame}
use Rattle.contents_table.specs.declared.layouts.ChannelLayouts.{ChannelLayouts}
use Rattle.contents_table.specs.Layouts.{layouts_of}
use Rattle.item_reader.specs.declared.item.Item.{Item as Given}
use Rattle.item_reader.specs.declared.item.Item.TheVariants as given
use Rattle.item_reader.specs.declared.item.ReadError.{ReadError}
use Rattle.item_reader.specs.declared.item.ReadError.TheVariants as read
use Rattle.item_reader.specs.Looked.{IsWithinLook}
use Rattle.item_reader.specs.Reader.{Reader, Goes, HasRead, IsLast, HasEnded, Faults, file_of, here_of}
use Rattle.canonical_file.specs.Ranges.{AreBytes}
use Rattle.frame_reader.specs.Gives.{frames_among}
use Rattle.frame_reader.specs.Given.{Frames, HasGiven, GivesFrame, GivesAll, Keeps, GoesOn, HasLooked, LayoutsFollow}
use Rattle.frame_reader.proofs.Faulty.{fault-given}
use Rattle.frame_reader.proofs.ItemsCome.{BringsFrame, BringsNone, frame-comes, none-comes, same-dictionary}
use Rattle.canonical_laws.proofs.SourceItems.{item-stays}

-- What a reader had given of its file it has given on the way, and each entry that was held is held.
unfoldable pub GivenOn : Outside → Frames → Frames → Type 0
GivenOn first before r =
    (file : List ℕ) → file_of first before.reader.position.slot ≡ Some file → before.reader.before.closed ≡ false
    → Keeps before.reader.before.dictionary r.reader.before.dictionary
    × ((frames : List Frame) → HasGiven file frames before → HasGiven file frames r)

pub given_on-init : (o : Outside) (r : Frames) → GivenOn o r r
unfolding GivenOn
given_on-init o r = λ file told unclosed. (λ class e is. is, λ frames given. given)

pub given_on-keeps : (o : Outside) (before r : Frames) (file : List ℕ) → GivenOn o before r
    → file_of o before.reader.position.slot ≡ Some file → before.reader.before.closed ≡ false
    → Keeps before.reader.before.dictionary r.reader.before.dictionary
unfolding GivenOn
given_on-keeps o before r file on told unclosed = (on file told unclosed).0

pub given_on-given : (o : Outside) (before r : Frames) (file : List ℕ) (frames : List Frame) → GivenOn o before r
    → file_of o before.reader.position.slot ≡ Some file → before.reader.before.closed ≡ false
    → HasGiven file frames before → HasGiven file frames r
unfolding GivenOn
given_on-given o before r file frames on told unclosed = (on file told unclosed).1 frames

-- ---- an item that ends no frame

-- no frame comes, whether the layouts are found again or the dictionary is the same
none-given : (file : List ℕ) (r : Frames) (new : Reader) (next : ChannelLayouts) (item : Given) (frames : List Frame)
    → Goes file r.reader item new → r.reader.order ≡ new.order → new.numbering ≡ None
    → IsDictionary new.before.dictionary → next ≡ layouts_of new.before.dictionary → HasGiven file frames r
    → HasGiven file frames (record { reader = new; layouts = next })
none-given file r new next item frames goes same numbering sound layouts_are given =
    let n : BringsNone file r.reader new given.items =
    none-comes file r.reader new item given.items given.begins goes same numbering in
    record {
      items = given.items ++ n.taken ∷ [];
      begins = n.begins;
      frames_are = given.frames_are ∙ ap (λ order. frames_among order given.items) same ∙ sym n.frames_are;
      sound = sound;
      layouts_are = layouts_are;
    }

-- an entry that was held stays so with any item
pub item-keeps : (file : List ℕ) (before new : Reader) (item : Given) → Goes file before item new
    → Keeps before.before.dictionary new.before.dictionary
item-keeps file before new item goes =
    subst (λ (x : Before). Keeps before.before.dictionary x.dictionary) (sym goes.before)
    (item-stays before.order before.before goes.taken)

pub keeps-more : (old middle new : List Entry) → Keeps old middle → Keeps middle new → Keeps old new
keeps-more old middle new one two = λ class e is. two class e (one class e is)

-- ---- what an item is

-- an item that is no end of a frame comes without an order
pub no-order : (file : List ℕ) (before new : Reader) (item : Given)
    → ((at class : ℕ) → item ≡ given.FrameEnd at class → ⊥) → Goes file before item new → new.numbering ≡ None
no-order file before new (given.FrameEnd at class) other goes = absurd (other at class refl)
no-order file before new (given.Entry at class changed) other goes = goes.frame.1
no-order file before new (given.Plain at class instance node) other goes = goes.frame.1
no-order file before new (given.Table at class size) other goes = goes.frame.1
no-order file before new (given.FileEnd at class size seek) other goes = goes.frame.1

-- the layouts that follow are those of the dictionary after the item
pub follow-layouts : (file : List ℕ) (r : Frames) (new : Reader) (item : Given) (next : ChannelLayouts)
    → LayoutsFollow new.before.dictionary item r.layouts next → Goes file r.reader item new
    → IsDictionary r.reader.before.dictionary → r.layouts ≡ layouts_of r.reader.before.dictionary
    → IsDictionary new.before.dictionary × (next ≡ layouts_of new.before.dictionary)
follow-layouts file r new item next follow goes sound are = by item follow goes
  where
    kept : (item : Given) → next ≡ r.layouts → ((at class : ℕ) → item ≡ given.Entry at class true → ⊥)
        → Goes file r.reader item new
        → IsDictionary new.before.dictionary × (next ≡ layouts_of new.before.dictionary)
    kept item is unchanged goes =
        let same = same-dictionary file r.reader new item goes unchanged in
        (subst IsDictionary (sym same) sound, is ∙ are ∙ ap layouts_of (sym same))

    by : (item : Given) → LayoutsFollow new.before.dictionary item r.layouts next → Goes file r.reader item new
        → IsDictionary new.before.dictionary × (next ≡ layouts_of new.before.dictionary)
    by (given.Entry at class true) follow goes = follow
    by (given.Entry at class false) follow goes =
        kept (given.Entry at class false) follow (λ at class is. cc) goes
    by (given.Plain at class instance node) follow goes =
        kept (given.Plain at class instance node) follow (λ at class is. cc) goes
    by (given.FrameEnd at class) follow goes = kept (given.FrameEnd at class) follow (λ at class is. cc) goes
    by (given.Table at class size) follow goes = kept (given.Table at class size) follow (λ at class is. cc) goes
    by (given.FileEnd at class size seek) follow goes =
        kept (given.FileEnd at class size seek) follow (λ at class is. cc) goes

-- one more item without a frame
pub given_on-more : (o : Outside) (before r : Frames) (new : Reader) (next : ChannelLayouts) (item : Given)
    → GivenOn o before r → r.reader.order ≡ new.order
    → (before.reader.before.closed ≡ false → Told (file_of o before.reader.position.slot)
    (λ file. Goes file r.reader item new))
    → ((at class : ℕ) → item ≡ given.FrameEnd at class → ⊥)
    → LayoutsFollow new.before.dictionary item r.layouts next
    → GivenOn o before (record { reader = new; layouts = next })
unfolding GivenOn
given_on-more o before r new next item on same goes other follow = λ file told unclosed.
    let step = goes unclosed file told in
    let so_far = on file told unclosed in (
      keeps-more before.reader.before.dictionary r.reader.before.dictionary new.before.dictionary so_far.0
          (item-keeps file r.reader new item step),
      λ frames given.
          let r_given = so_far.1 frames given in
          let l = follow-layouts file r new item next follow step r_given.sound r_given.layouts_are in
          none-given file r new next item frames step same (no-order file r.reader new item other step) l.0 l.1 r_given,
    )

-- ---- an item that ends a frame

pub frame-given : (file : List ℕ) (r : Frames) (new : Reader) (at class : ℕ) (frames : List Frame) → AreBytes file
    → Goes file r.reader (given.FrameEnd at class) new → r.reader.order ≡ new.order → HasGiven file frames r
    → (frame : Frame) × GivesFrame file frames frame (record { reader = new; layouts = r.layouts })
frame-given file r new at class frames bytes goes same told =
    let numbers = goes.frame.numbers in
    let b : BringsFrame file r.reader new told.items numbers =
    frame-comes file r.reader new (given.FrameEnd at class) told.items numbers bytes told.begins goes same
    goes.frame.numbering_is in
    let before_are : frames ≡ frames_among new.order told.items =
    told.frames_are ∙ ap (λ order. frames_among order told.items) same in (
      b.frame,
      record {
        earlier = told.items;
        taken = b.taken;
        begins = b.begins;
        before_are = before_are;
        frames_are = ap (λ fs. fs ++ b.frame ∷ []) before_are ∙ sym b.frames_are;
        sound = subst IsDictionary (sym b.same) told.sound;
        layouts_are = told.layouts_are ∙ ap layouts_of (sym b.same);
        numbers = numbers;
        numbering_is = goes.frame.numbering_is;
        lends = b.lends;
        order_is = b.order_is;
        is = b.is;
        heads = b.heads;
        linked = b.linked;
      },
    )

-- ---- the end of the file, and of what is read

-- the end of the file brings no frame
pub end-given : (file : List ℕ) (r : Frames) (new : Reader) (at class size seek : ℕ) (frames : List Frame)
    → Goes file r.reader (given.FileEnd at class size seek) new → r.reader.order ≡ new.order → HasEnded file new
    → HasGiven file frames r → GivesAll file frames (record { reader = new; layouts = r.layouts })
end-given file r new at class size seek frames goes same ended told =
    let kept = same-dictionary file r.reader new (given.FileEnd at class size seek) goes (λ at class is. cc) in
    let now : HasGiven file frames (record { reader = new; layouts = r.layouts }) =
    none-given file r new r.layouts (given.FileEnd at class size seek) frames goes same goes.frame.1
    (subst IsDictionary (sym kept) told.sound) (told.layouts_are ∙ ap layouts_of (sym kept)) told in
    record { given = now; whole = record { begins = now.begins; closed = ended.1.closed; ends = ended.1.ends } }

-- how far was read before no item was given
pub looked-on : (file : List ℕ) (frames : List Frame) (r : Frames) (read : ℕ) → HasGiven file frames r
    → IsWithinLook r.reader.order file r.reader.before.place read → HasLooked file frames read
looked-on file frames r read told within = record {
  order = r.reader.order;
  items = told.items;
  last = r.reader.before;
  begins = told.begins;
  frames_are = told.frames_are;
  within = within;
}

-- the fault that is found there is what the file ends with
pub unread-goes : (file : List ℕ) (frames : List Frame) (r new : Frames) (error : ReadError) → HasGiven file frames r
    → r.reader.before.closed ≡ false
    → ((fault : Fault) → error ≡ read.Fault fault → Faults (here_of file r.reader) fault)
    → GoesOn file frames new (Err error)
unread-goes file frames r new (read.Fault fault) told still faults =
    fault-given file r.reader.order told.items r.reader.before frames fault told.begins told.frames_are still
    (faults fault refl)
unread-goes file frames r new read.Device told still faults = tt
unread-goes file frames r new read.NoMemory told still faults = tt

-- ---- before the first item

-- no entries are a dictionary
none-held : IsDictionary []
none-held = record { entries = λ class e is. absurd cc; names = λ name class is. absurd cc }

-- a reader that has read the header alone has given no frames
pub none-begun : (file : List ℕ) (r : Reader) (next : ChannelLayouts) → HasRead file r → r.last ≡ None
    → r.before ≡ nothing_yet → next ≡ layouts_of r.before.dictionary
    → HasGiven file [] (record { reader = r; layouts = next })
none-begun file r next has last before are = record {
  items = [];
  begins = subst (λ items. Begins file r.order items r.before)
      (subst (λ (last : Option Given). IsLast file r.order has.items last) last has.last) has.begins;
  frames_are = refl;
  sound = subst (λ (b : Before). IsDictionary b.dictionary) (sym before) none-held;
  layouts_are = are;
}

-- a result has one error
pub same-error : {T E : Type 0} {result : Result T E} {e x : E} → result ≡ Err e → result ≡ Err x → e ≡ x
same-error one other = cc
