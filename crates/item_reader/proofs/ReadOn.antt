-- What a reader has read of a file, and its next item or fault.
use Rattle.std.proofs.Common.{◌≡◌, ℕ, ◌<◌, ◌≤◌, inl, inr, Bool, true, false, eqb, if◌then◌else◌, List, []}
use Rattle.std.proofs.Common.{◌∷◌, ◌++◌}
use Rattle.std.proofs.Common.{length, take, Option, Some, None, Result, Ok, Err, refl, sym, ap, subst, ◌∙◌}
use Rattle.std.proofs.Common.{arith}
use Rattle.std.proofs.lemmas.Bool.{eqb-false}
use Rattle.std.proofs.lemmas.Option.{same_Some}
use Rattle.std.specs.Option.{option_map}
use Rattle.std.specs.Result.{IsErrAnd}
use Rattle.scalar_types.specs.declared.Order.{Order}
use Rattle.frame_outside.specs.Shelf.{Outside, Reading, Told, reading_at, reading_past}
use Rattle.frame_outside.proofs.Slots.{reading_at-pass}
use Rattle.frame_head.specs.Header.{header_of}
use Rattle.frame_outside.specs.SlotReader.{DrawsAtMost}
use Rattle.frame_outside.proofs.Reading.{passes_none}
use Rattle.structure_source.specs.Source.{Position, bytes_drawn, IsAt, Stands, GoesOn}
use Rattle.file_grammar.specs.declared.fault.Fault.{Fault}
use Rattle.file_grammar.specs.Item.{Item, Before, nothing_yet, after}
use Rattle.file_grammar.specs.MayStand.{MayStand, Stand, Begins}
use Rattle.file_grammar.specs.Fault.{Here, place, fault_by, fault_here, IsItemFault, IsFirstFault}
use Rattle.file_grammar.specs.Steps.{item_here}
use Rattle.file_grammar.proofs.Standing.{may-stand}
use Rattle.item_reader.specs.declared.cursor.Cursor.{Cursor}
use Rattle.item_reader.specs.declared.item.Item.{Item as Given}
use Rattle.item_reader.specs.declared.item.Item.TheVariants as given
use Rattle.item_reader.specs.declared.item.ReadError.{ReadError}
use Rattle.item_reader.specs.declared.looked.Looked.{Looked}
use Rattle.item_reader.specs.declared.looked.Looked.TheVariants.{Nothing, Seen, Wrong}
use Rattle.item_reader.specs.Looked.{ReadsTo, IsLooked}
use Rattle.item_reader.specs.State.{before_of}
use Rattle.item_reader.specs.Judged.{ClosesBy}
use Rattle.item_reader.specs.Cursor.{Keeps, IsReady, InFile, Gives}
use Rattle.item_reader.specs.Reader.{Reader, file_of, HasLast, IsLast, HasRead, Reads, Goes, HasEnded}
use Rattle.item_reader.specs.Reader.{IsFileEnd, Faults, here_of}
use Rattle.item_reader.proofs.LentBody.{shown}

-- ---- items

-- the item at a place without fault may stand there
stands_by : (ends : Bool) (h : Here) (item : Item) → h.before.closed ≡ false → place h ≤ length h.file
    → eqb (place h) (length h.file) ≡ ends → fault_by false ends h ≡ None → item_here h ≡ Some item
    → MayStand h.order h.file h.before item
stands_by true h item unclosed within is none found = absurd cc
stands_by false h item unclosed within is none found =
    let apart : place h ≡ length h.file → ⊥ = eqb-false (place h) (length h.file) is in
    let more : place h < length h.file = before_end (place h) (length h.file) within apart in
    let may = may-stand h unclosed more none in
    subst (MayStand h.order h.file h.before) (same_Some may.0 item (sym may.1 ∙ found)) may.2
  where
    before_end : (m n : ℕ) → m ≤ n → (m ≡ n → ⊥) → m < n
    before_end m n within apart = omega (arith, within, apart)

stands : (h : Here) (item : Item) → h.before.closed ≡ false → place h ≤ length h.file → fault_here h ≡ None
    → item_here h ≡ Some item → MayStand h.order h.file h.before item
stands h item unclosed within none found =
    stands_by (eqb (place h) (length h.file)) h item unclosed within refl
    (ap (λ (closed : Bool). fault_by closed (eqb (place h) (length h.file)) h) (sym unclosed) ∙ none) found

-- one more item stands after the others
stand-more : (order : Order) (file : List ℕ) (b : Before) (items : List Item) (last : Before) (item : Item)
    → Stand order file b items last → MayStand order file last item
    → Stand order file b (items ++ item ∷ []) (after order last item)
stand-more order file b [] last item stand may =
    let P : Before → Type 0 = λ b. MayStand order file b item in
    (subst P stand may, ap (λ (b : Before). after order b item) stand)
stand-more order file b (first ∷ items) last item stand may =
    (stand.0, stand-more order file (after order b first) items last item stand.1 may)

pub begins-more : (file : List ℕ) (order : Order) (items : List Item) (last : Before) (item : Item)
    → Begins file order items last → MayStand order file last item
    → Begins file order (items ++ item ∷ []) (after order last item)
begins-more file order items last item begins may =
    record {
      size = begins.size;
      header = begins.header;
      stand = stand-more order file nothing_yet items last item begins.stand may;
    }

-- ---- the file of a slot

-- what holds of the bytes that a slot was opened on holds of its file
told-file : (told : Option Reading) (P : List ℕ → Type 0) → Told told (λ reading. P reading.opened)
    → Told (option_map (λ (reading : Reading). reading.opened) told) P
told-file None P holds file is = absurd cc
told-file (Some reading) P holds file is = subst P (same_Some reading.opened file is) (holds reading refl)

pub told-file_of : (outside : Outside) (slot : ℕ) (P : List ℕ → Type 0)
    → Told (reading_at outside.slots slot) (λ reading. P reading.opened) → Told (file_of outside slot) P
told-file_of outside slot P holds = told-file (reading_at outside.slots slot) P holds

-- and the other way round
of-file : (told : Option Reading) (P : List ℕ → Type 0)
    → Told (option_map (λ (reading : Reading). reading.opened) told) P → Told told
    (λ reading. P reading.opened)
of-file None P holds reading is = absurd cc
of-file (Some first) P holds reading is =
    subst (λ (r : Reading). P r.opened) (same_Some first reading is) (holds first.opened refl)

of-file_of : (outside : Outside) (slot : ℕ) (P : List ℕ → Type 0) → Told (file_of outside slot) P
    → Told (reading_at outside.slots slot) (λ reading. P reading.opened)
of-file_of outside slot P holds = of-file (reading_at outside.slots slot) P holds

file-pass : (told : Option Reading) (n : ℕ)
    → option_map (λ (reading : Reading). reading.opened) (option_map (reading_past n) told)
    ≡ option_map (λ (reading : Reading). reading.opened) told
file-pass None n = refl
file-pass (Some reading) n = refl

-- the file stays the same while its source goes on
pub file-goes : (old new : Outside) (before after : Position) → GoesOn old new before after
    → file_of new after.slot ≡ file_of old before.slot
file-goes old new before after goes =
    ap (file_of new) goes.slot
    ∙ ap (option_map (λ (reading : Reading). reading.opened))
    (ap (λ slots. reading_at slots before.slot) goes.draws.passes.slots
    ∙ reading_at-pass old.slots before.slot goes.draws.drawn)
    ∙ file-pass (reading_at old.slots before.slot) goes.draws.drawn

-- ---- the place reached

-- what was looked at begins at the place reached
read-from : (place : ℕ) (looked : Looked) (read : ℕ) → ReadsTo place looked read → place ≤ read
read-from place Nothing read is = omega (arith, is)
read-from place (Seen common) read is = omega (arith, is)
read-from place (Wrong fault) read is = is

-- the place reached is within the file
within-file : (outside : Outside) (c : Cursor) → Stands outside c.source
    → ReadsTo c.state.at c.looked c.source.at
    → Told (file_of outside c.source.slot) (λ file. c.state.at ≤ length file)
within-file outside c stands reads = told-file_of outside c.source.slot (λ file. c.state.at ≤ length file)
    (λ reading told. by reading (stands.place reading told))
  where
    by : (reading : Reading) → IsAt reading c.source → c.state.at ≤ length reading.opened
    by reading at = omega (arith, at.drawn_is, at.within, read-from c.state.at c.looked c.source.at reads)

-- ---- the end of the file

-- it is given again where it was given
pub given-again : (closed : Bool) (last : Option Given) (item : Given)
    → (if closed then last else None) ≡ Some item → (closed ≡ true) × (last ≡ Some item)
given-again true last item is = (refl, is)
given-again false last item is = absurd cc

-- a file is closed by its end
pub closed-by : (item : Given) (closed : Bool) → ClosesBy item closed → IsFileEnd item → closed ≡ true
closed-by (given.Entry at class changed) closed is end = absurd end
closed-by (given.Plain at class instance node) closed is end = absurd end
closed-by (given.FrameEnd at class) closed is end = absurd end
closed-by (given.Table at class length) closed is end = absurd end
closed-by (given.FileEnd at class length seek) closed is end = is

-- where the end of the file was read, it is well-formed
pub has-ended : (file : List ℕ) (r : Reader) → HasRead file r → r.before.closed ≡ true → HasEnded file r
has-ended file r read closed =
    (read.items, record { begins = read.begins; closed = closed; ends = read.end closed })

-- ---- a reader that has not ended

-- There was no error and no end yet: this is what the reader keeps, and it reads its file.
pub record IsGoing (outside : Outside) (c : Cursor) (last : Option Given) (error : Option ReadError)
    (r : Reader)
    : Type 0 where
  pub is : shown c last error ≡ r
  pub none : error ≡ None
  pub keeps : Keeps c last
  pub unclosed : c.state.closed ≡ false
  pub reads : Reads outside (shown c last error)

-- a reader that gave no end again is not closed
unclosed-by : (closed : Bool) (last : Option Given)
    → (closed ≡ true → (item : Given) × (last ≡ Some item) × IsFileEnd item)
    → (if closed then last else None) ≡ None → closed ≡ false
unclosed-by true last given none = let some = (given refl).1 in absurd cc
unclosed-by false last given none = refl

pub is-going : (outside : Outside) (c : Cursor) (last : Option Given) (error : Option ReadError) (r : Reader)
    (given : Option Given) → shown c last error ≡ r → (error ≡ None → Keeps c last) → error ≡ None
    → given ≡ (if r.before.closed then r.last else None) → given ≡ None → Reads outside r
    → IsGoing outside c last error r
is-going outside c last error r given is keeps none again ended reads =
    let untold : (if r.before.closed then r.last else None) ≡ None = sym again ∙ ended in
    record {
      is = is;
      none = none;
      keeps = keeps none;
      unclosed = unclosed-by c.state.closed last (keeps none).closed
          (subst (λ (r : Reader). (if r.before.closed then r.last else None) ≡ None) (sym is) untold);
      reads = subst (Reads outside) (sym is) reads;
    }

-- it is ready for the next item
pub is-ready : (outside : Outside) (c : Cursor) (last : Option Given) (error : Option ReadError) (r : Reader)
    → IsGoing outside c last error r → IsReady outside c
is-ready outside c last error r going =
    let looked : List ℕ → Type 0 =
    λ file. IsLooked c.state.segment.order file c.state.at c.source.at c.looked in
    record {
      stands = going.reads.stands;
      sound = going.keeps.sound;
      rows = going.keeps.rows;
      pending = going.keeps.pending;
      unclosed = going.unclosed;
      read = going.keeps.read;
      looked = of-file_of outside c.source.slot looked
          (λ file told. (going.reads.read going.none file told).looked);
    }

-- the place that it has reached is within the file
within : (outside : Outside) (c : Cursor) (last : Option Given) (error : Option ReadError) (r : Reader)
    → IsGoing outside c last error r → Told (file_of outside c.source.slot) (λ file. c.state.at ≤ length file)
within outside c last error r going = within-file outside c going.reads.stands going.keeps.read

-- what holds at that place
pub in-reader : (outside : Outside) (c : Cursor) (last : Option Given) (error : Option ReadError) (r : Reader)
    (P : Here → Type 0) → IsGoing outside c last error r → InFile outside c P
    → Told (file_of outside r.position.slot) (λ file. P (here_of file r))
in-reader outside c last error r P going holds =
    subst (λ (r : Reader). Told (file_of outside r.position.slot) (λ file. P (here_of file r))) going.is
    (told-file_of outside c.source.slot (λ file. P (here_of file (shown c last error))) holds)

-- ---- the next item

-- the item that was taken is the next one
goes : (file : List ℕ) (c new : Cursor) (last : Option Given) (error : Option ReadError) (item : Given)
    → c.state.closed ≡ false → c.state.at ≤ length file → Gives (here_of file (shown c last error)) item new
    → Goes file (shown c last error) item (shown new (Some item) error)
goes file c new last error item unclosed within gives = record {
  taken = gives.takes.taken;
  stands = stands (here_of file (shown c last error)) gives.takes.taken unclosed within gives.takes.judged
      gives.takes.is;
  tells = gives.takes.tells;
  before = gives.takes.after;
  body = gives.body_is;
  entry = gives.entry_is;
  instance = gives.instance_is;
  frame = gives.frame;
}

-- one more item was read
read-more : (file : List ℕ) (c new : Cursor) (last : Option Given) (error : Option ReadError) (item : Given)
    → new.state.segment.order ≡ c.state.segment.order → HasRead file (shown c last error)
    → Gives (here_of file (shown c last error)) item new
    → Goes file (shown c last error) item (shown new (Some item) error)
    → HasRead file (shown new (Some item) error)
read-more file c new last error item same read gives goes =
    let old : Reader = shown c last error in
    let now : Before = before_of new.state in
    let items : List Item = read.items ++ goes.taken ∷ [] in
    let begins : Begins file old.order items (after old.order old.before goes.taken) =
    begins-more file old.order read.items old.before goes.taken read.begins goes.stands in
    let last : HasLast file old.order items item =
    record {
      earlier = read.items;
      before = old.before;
      begins = read.begins;
      taken = goes.taken;
      items_are = refl;
      tells = goes.tells;
    } in
    record {
      items = items;
      begins = subst (λ order. Begins file order items now) (sym same)
          (subst (Begins file old.order items) (sym goes.before) begins);
      last = subst (λ order. HasLast file order items item) (sym same) last;
      end = gives.end;
      looked = subst (λ order. IsLooked order file new.state.at new.source.at new.looked)
          (sym same) gives.looked;
    }

pub next-goes : (outside : Outside) (c new : Cursor) (last : Option Given) (error : Option ReadError)
    (r : Reader)
    (item : Given) → IsGoing outside c last error r → InFile outside c (λ h. Gives h item new)
    → Told (file_of outside r.position.slot) (λ file. Goes file r item (shown new (Some item) error))
next-goes outside c new last error r item going answers =
    subst (λ (r : Reader). Told (file_of outside r.position.slot)
    (λ file. Goes file r item (shown new (Some item) error))) going.is (λ file told.
    goes file c new last error item going.unclosed (within outside c last error r going file told)
    (told-file_of outside c.source.slot (λ file. Gives
    (here_of file (shown c last error)) item new) answers file told))

pub next-read : (outside : Outside) (c new : Cursor) (last : Option Given) (error : Option ReadError)
    (r : Reader)
    (item : Given) → IsGoing outside c last error r → InFile outside c (λ h. Gives h item new)
    → new.state.segment.order ≡ c.state.segment.order
    → Told (file_of outside r.position.slot) (λ file. HasRead file (shown new (Some item) error))
next-read outside c new last error r item going answers order =
    subst (λ (r : Reader). Told (file_of outside r.position.slot)
    (λ file. HasRead file (shown new (Some item) error))) going.is (λ file told.
    let gives : Gives (here_of file (shown c last error)) item new =
    told-file_of outside c.source.slot (λ file. Gives
    (here_of file (shown c last error)) item new) answers file told in
    read-more file c new last error item order (going.reads.read going.none file told) gives
    (goes file c new last error item going.unclosed (within outside c last error r going file told) gives))

pub next-reads : (old now : Outside) (c new : Cursor) (last : Option Given) (error : Option ReadError)
    (r : Reader)
    (item : Given) → IsGoing old c last error r → InFile old c (λ h. Gives h item new)
    → new.state.segment.order ≡ c.state.segment.order → Stands now new.source
    → GoesOn old now c.source new.source
    → Reads now (shown new (Some item) error)
next-reads old now c new last error r item going answers order stands goes = record {
  stands = stands;
  read = λ none file told.
      next-read old c new last error r item going answers order file
      (ap (λ (r : Reader). file_of old r.position.slot) (sym going.is)
      ∙ sym (file-goes old now c.source new.source goes) ∙ told);
}

-- ---- the first fault

first-by : (file : List ℕ) (r : Reader) (fault : Fault) → HasRead file r → r.before.closed ≡ false
    → r.before.place ≤ length file → Faults (here_of file r) fault → IsItemFault file fault
first-by file r fault read unclosed within (inl holds) =
    record { order = r.order; items = read.items; last = r.before; begins = read.begins; holds = holds }
first-by file r fault read unclosed within (inr (item, none, found, closes, holds)) =
    let may : MayStand r.order file r.before item = stands (here_of file r) item unclosed within none found in
    record {
      order = r.order;
      items = read.items ++ item ∷ [];
      last = after r.order r.before item;
      begins = begins-more file r.order read.items r.before item read.begins may;
      holds = holds;
    }

-- a fault at what was read is the first of the file
first-fault : (file : List ℕ) (r : Reader) (fault : Fault) → HasRead file r → r.before.closed ≡ false
    → r.before.place ≤ length file → Faults (here_of file r) fault → IsFirstFault file fault
first-fault file r fault read unclosed within faults = inr (first-by file r fault read unclosed within faults)

pub first-reader : (outside : Outside) (c : Cursor) (last : Option Given) (error : Option ReadError)
    (r : Reader)
    (fault : Fault) → IsGoing outside c last error r → InFile outside c (λ h. Faults h fault)
    → Told (file_of outside r.position.slot) (λ file. IsFirstFault file fault)
first-reader outside c last error r fault going faults =
    subst (λ (r : Reader). Told (file_of outside r.position.slot) (λ file. IsFirstFault file fault)) going.is
    (λ file told.
    first-fault file (shown c last error) fault (going.reads.read going.none file told) going.unclosed
    (within outside c last error r going file told)
    (told-file_of outside c.source.slot (λ file. Faults
    (here_of file (shown c last error)) fault) faults file told))

-- ---- the beginning

-- a reader that has read the header alone
begun : (file : List ℕ) (order : Order) (r : Reader) → 40 ≤ length file
    → header_of (take 40 file) ≡ Ok order → r.order ≡ order → r.before ≡ nothing_yet → r.last ≡ None
    → IsLooked r.order file r.before.place r.position.at r.looked → HasRead file r
begun file order r size header same before none looked =
    let unclosed : r.before.closed ≡ false = ap (λ (b : Before). b.closed) before in
    record {
      items = [];
      begins = record { size = size; header = header ∙ ap Ok (sym same); stand = before };
      last = subst (IsLast file r.order []) (sym none) refl;
      end = λ closed. absurd cc;
      looked = looked;
    }

-- of a source at the beginning so many bytes were drawn as were passed and are ahead
pub drawn-few : (old new : Outside) (slot most : ℕ) (before after : Position)
    → before ≡ record { slot = slot; ahead = []; at = 0 } → GoesOn old new before after → bytes_drawn after ≤ most
    → DrawsAtMost old new slot most
drawn-few old new slot most before after is goes few =
    let on : GoesOn old new (record { slot = slot; ahead = []; at = 0 }) after =
    subst (λ (p : Position). GoesOn old new p after) is goes in
    record { draws = on.draws; limit = omega (arith, on.balance, few) }

pub drawn-none : (outside : Outside) (slot most : ℕ) → DrawsAtMost outside outside slot most
drawn-none outside slot most =
    record { draws = record { drawn = 0; passes = passes_none outside slot }; limit = omega arith }

-- an error that was passed on
pub same-error : {A B E : Type 0} (r : Result A E) (e x : E) → r ≡ Err x → IsErrAnd r (λ y. y ≡ e)
    → ◌≡◌ {A = Result B E} (Err e) (Err x)
same-error {A} {B} {E} r e x is said =
    let same : x ≡ e = subst (λ (r : Result A E). IsErrAnd r (λ y. y ≡ e)) is said in
    ap Err (sym same)

pub reads-begun : (old new : Outside) (before : Position) (order : Order) (c : Cursor)
    → GoesOn old new before c.source
    → Stands new c.source
    → Told (reading_at old.slots before.slot)
    (λ reading. (40 ≤ length reading.opened) × (header_of (take 40 reading.opened) ≡ Ok order))
    → c.source.at ≡ 40 → c.looked ≡ Nothing → c.state.segment.order ≡ order → before_of c.state ≡ nothing_yet
    → Reads new (shown c None None)
reads-begun old new before order c goes stands header at nothing same begins = record {
  stands = stands;
  read = λ none file told.
      let here = told-file_of old before.slot
      (λ file. (40 ≤ length file) × (header_of (take 40 file) ≡ Ok order)) header file
      (sym (file-goes old new before c.source goes) ∙ told) in
      let read : c.source.at ≡ c.state.at = at ∙ sym (ap (λ (b : Before). b.place) begins) in
      begun file order (shown c None None) here.0 here.1 same begins refl
      (subst (IsLooked c.state.segment.order file c.state.at c.source.at) (sym nothing) read);
}
