-- A reader of frames on its way to the next frame, and one that had ended before.
use Rattle.std.proofs.Common.{◌≡◌, ℕ, Bool, true, false, List, Option, Some, None, Result, Ok, IfOk, refl, sym, ap}
use Rattle.std.proofs.Common.{subst, ◌∙◌, ◌<◌, ◌≤◌, arith}
use Rattle.frame_outside.specs.Shelf.{Outside, Told}
use Rattle.structure_source.specs.Source.{GoesOn as Passes}
use Rattle.structure_source.proofs.Going.{goes-more}
use Rattle.item_reader.specs.declared.item.Item.{Item as Given}
use Rattle.item_reader.specs.declared.item.Item.TheVariants as given
use Rattle.item_reader.specs.declared.item.ReadError.{ReadError}
use Rattle.item_reader.specs.Reader.{Reader, Goes, IsFileEnd, file_of}
use Rattle.item_reader.proofs.ReadOn.{file-goes}
use Rattle.frame_reader.specs.Given.{Frames, EndsFile, Keeps, LayoutsFollow}
use Rattle.frame_reader.proofs.Giving.{GivenOn, given_on-keeps, given_on-more, item-keeps, keeps-more}

-- ---- before an item

-- What is known before an item is taken: the reader of items as it is inside, between the two shelves.
pub record Known (first now last : Outside) (start r : Frames) (new : Reader) : Type 0 where
  pub still : start.reader.before.closed ≡ false → r.reader.before.closed ≡ false
  pub error : r.reader.error ≡ None
  pub given : GivenOn first start r
  pub told : (file : List ℕ) → file_of first start.reader.position.slot ≡ Some file
      → file_of now r.reader.position.slot ≡ Some file
  pub passes : Passes first last start.reader.position new.position

pub known : (first now last : Outside) (start r inside : Frames) (new : Reader) → inside ≡ r
    → (start.reader.before.closed ≡ false → r.reader.before.closed ≡ false) → r.reader.error ≡ None
    → GivenOn first start r → Passes first now start.reader.position r.reader.position
    → Passes now last inside.reader.position new.position → Known first now last start inside new
known first now last start r inside new same still error given passes more = record {
  still = λ unclosed. ap (λ (r : Frames). r.reader.before.closed) same ∙ still unclosed;
  error = ap (λ (r : Frames). r.reader.error) same ∙ error;
  given = subst (GivenOn first start) (sym same) given;
  told = λ file told. ap (λ (r : Frames). file_of now r.reader.position.slot) same
      ∙ file-goes first now start.reader.position r.reader.position passes ∙ told;
  passes = goes-more first now last start.reader.position inside.reader.position new.position
      (subst (λ (r : Frames). Passes first now start.reader.position r.reader.position) (sym same) passes) more;
}

-- the item that is given then
pub item-goes : (first now last : Outside) (start r : Frames) (new : Reader) (result : Result Given ReadError)
    (item : Given) → Known first now last start r new → result ≡ Ok item
    → IfOk result (λ item. r.reader.before.closed ≡ false
    → Told (file_of now r.reader.position.slot) (λ file. Goes file r.reader item new))
    → start.reader.before.closed ≡ false
    → Told (file_of first start.reader.position.slot) (λ file. Goes file r.reader item new)
item-goes first now last start r new result item k is goes unclosed = λ file told.
    (subst (λ result. IfOk result (λ item. r.reader.before.closed ≡ false
    → Told (file_of now r.reader.position.slot) (λ file. Goes file r.reader item new))) is goes)
    (k.still unclosed) file (k.told file told)

-- ---- where the file had ended

-- The end of the file is given again, and the reader stays as it is.
pub record IsAgain (result : Result Given ReadError) (old new : Reader) : Type 0 where
  pub item : Given
  pub ends : IsFileEnd item
  pub result_is : result ≡ Ok item
  pub same : new ≡ old

pub ended-again : (result : Result Given ReadError) (old new : Reader) → EndsFile old.last → old.error ≡ None
    → ((item : Given) → old.error ≡ None → old.last ≡ Some item → IsFileEnd item → (result ≡ Ok item) × (new ≡ old))
    → IsAgain result old new
ended-again result old new ends error again = by old.last refl ends
  where
    by : (last : Option Given) → old.last ≡ last → EndsFile last → IsAgain result old new
    by None is ends = absurd ends
    by (Some item) is ends =
        let p = again item error is ends in
        record { item = item; ends = ends; result_is = p.0; same = p.1 }

-- where the reader had ended before, it is as it was at the start
pub start-again : (start r inside : Frames) (new : Reader) (result : Result Given ReadError)
    → inside ≡ r → r ≡ start → r.reader.error ≡ None
    → (inside.reader.error ≡ None → inside.reader.before.closed ≡ true → EndsFile inside.reader.last)
    → ((item : Given) → inside.reader.error ≡ None → inside.reader.last ≡ Some item → IsFileEnd item
    → (result ≡ Ok item) × (new ≡ inside.reader))
    → start.reader.before.closed ≡ true → IsAgain result start.reader new
start-again start r inside new result same kept none ends again closed =
    let from : inside ≡ start = same ∙ kept in
    let error : inside.reader.error ≡ None = ap (λ (r : Frames). r.reader.error) same ∙ none in
    subst (λ (r : Frames). IsAgain result r.reader new) from
    (ended-again result inside.reader new (ends error (ap (λ (r : Frames). r.reader.before.closed) from ∙ closed)) error
    again)

-- ---- the entries

-- an entry that was held at the start is held after an item, or the file had ended
pub entries-keep : (first now last : Outside) (start r : Frames) (new : Reader) (result : Result Given ReadError)
    (item : Given) → Known first now last start r new → result ≡ Ok item
    → IfOk result (λ item. r.reader.before.closed ≡ false
    → Told (file_of now r.reader.position.slot) (λ file. Goes file r.reader item new))
    → (start.reader.before.closed ≡ true → IsAgain result start.reader new)
    → Told (file_of first start.reader.position.slot)
    (λ file. Keeps start.reader.before.dictionary new.before.dictionary)
entries-keep first now last start r new result item k is goes again = λ file told.
    by file told start.reader.before.closed refl
  where
    by : (file : List ℕ) → file_of first start.reader.position.slot ≡ Some file → (closed : Bool)
        → start.reader.before.closed ≡ closed → Keeps start.reader.before.dictionary new.before.dictionary
    by file told true closed =
        subst (λ (x : Reader). Keeps start.reader.before.dictionary x.before.dictionary) (sym (again closed).same)
        (λ class e held. held)
    by file told false unclosed =
        keeps-more start.reader.before.dictionary r.reader.before.dictionary new.before.dictionary
        (given_on-keeps first start r file k.given told unclosed)
        (item-keeps file r.reader new item
        (item-goes first now last start r new result item k is goes unclosed file told))

-- ---- an item that is no end

no-file-end : (item : Given) → ((at class size seek : ℕ) → item ≡ given.FileEnd at class size seek → ⊥)
    → IsFileEnd item → ⊥
no-file-end (given.FileEnd at class size seek) other ends = other at class size seek refl
no-file-end (given.Entry at class changed) other ends = ends
no-file-end (given.Plain at class instance node) other ends = ends
no-file-end (given.FrameEnd at class) other ends = ends
no-file-end (given.Table at class size) other ends = ends

-- the file had not ended before it
pub not-again : (result : Result Given ReadError) (old new : Reader) (item : Given) → result ≡ Ok item
    → ((at class size seek : ℕ) → item ≡ given.FileEnd at class size seek → ⊥) → IsAgain result old new → ⊥
not-again result old new item is other again =
    no-file-end item other (subst (λ r. IfOk r IsFileEnd) (sym again.result_is ∙ is) again.ends)

-- nor has it ended with it
pub still-open : (item : Given) (new : Reader)
    → ((at class size seek : ℕ) → item ≡ given.FileEnd at class size seek → ⊥)
    → (new.before.closed ≡ true → IsFileEnd item) → new.before.closed ≡ false
still-open item new other ends = by new.before.closed refl
  where
    by : (closed : Bool) → new.before.closed ≡ closed → new.before.closed ≡ false
    by true closed = absurd (no-file-end item other (ends closed))
    by false closed = closed

-- it moves the reader on
pub place-on : (start r : Frames) (new : Reader) → start.reader.before.place ≤ r.reader.before.place
    → (start.reader.before.closed ≡ true → ⊥) → (start.reader.before.closed ≡ false → r.reader.before.closed ≡ false)
    → (r.reader.before.closed ≡ false → r.reader.before.place < new.before.place)
    → start.reader.before.place ≤ new.before.place
place-on start r new so_far never still on = by start.reader.before.closed refl
  where
    by : (closed : Bool) → start.reader.before.closed ≡ closed → start.reader.before.place ≤ new.before.place
    by true closed = absurd (never closed)
    by false closed = omega (arith, so_far, on (still closed))

-- what was given stays given, once the layouts were found again
pub given-on : (first now last : Outside) (start r next : Frames) (new : Reader) (result : Result Given ReadError)
    (item : Given) → Known first now last start r new → result ≡ Ok item
    → IfOk result (λ item. r.reader.before.closed ≡ false
    → Told (file_of now r.reader.position.slot) (λ file. Goes file r.reader item new))
    → r.reader.order ≡ new.order → ((at class : ℕ) → item ≡ given.FrameEnd at class → ⊥) → next.reader ≡ new
    → LayoutsFollow next.reader.before.dictionary item r.layouts next.layouts → GivenOn first start next
given-on first now last start r next new result item k is goes order other same follow =
    subst (λ (reader : Reader). GivenOn first start (record { reader = reader; layouts = next.layouts })) (sym same)
    (given_on-more first start r new next.layouts item k.given order
    (item-goes first now last start r new result item k is goes) other
    (subst (λ (x : Reader). LayoutsFollow x.before.dictionary item r.layouts next.layouts) same follow))
