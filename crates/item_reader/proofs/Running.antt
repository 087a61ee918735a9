-- A source that reads the run of FrSEs from a place on, one by one.
use Rattle.std.proofs.Common.{◌≡◌, ℕ, ◌<◌, ◌≤◌, List, [], ◌∷◌, ◌++◌, length, max, sym, ◌∙◌}
use Rattle.std.proofs.Common.{subst, arith}
use Rattle.std.proofs.lemmas.List.Elements.{All-nil, All-push}
use Rattle.scalar_types.specs.declared.Order.{Order}
use Rattle.frame_outside.specs.Shelf.{Outside, Told, reading_at}
use Rattle.structure_source.specs.Source.{Position, Stands, GoesOn}
use Rattle.structure_source.proofs.Going.{goes-none, goes-more, at-now, within-file}
use Rattle.dictionary.specs.declared.entries.Element.{Element}
use Rattle.dictionary.specs.Same.{IsRead, AreRead}
use Rattle.file_grammar.specs.Structure.{file_limit}
use Rattle.item_reader.specs.declared.looked.Looked.{Looked}
use Rattle.item_reader.specs.declared.entries.Next.{Next}
use Rattle.item_reader.specs.declared.entries.Next.TheVariants.{Element as Belongs, Ended}
use Rattle.item_reader.specs.Looked.{IsLooked, look}
use Rattle.item_reader.specs.Judged.{kept_elements}
use Rattle.item_reader.specs.Entries.{IsNext, MovesTo, HasReadElement, IsRun, end_from}
use Rattle.item_reader.proofs.Runs.{Runs, runs-begin, runs-kept, runs-passed, runs-done, runs-look}

-- The source stands after some FrSEs of the run, and these are the elements that are kept of them.
pub record IsRunning (order : Order) (first now : Outside) (start cur : Position)
    (elements : List Element) : Type 0 where
  pub stands : Stands now cur
  pub goes : GoesOn first now start cur
  pub low : cur.at ≤ max start.at file_limit
  pub read : AreRead elements
  pub runs : Told (reading_at first.slots start.slot)
      (λ reading. Runs order reading.opened start.at elements cur.at)

pub running-begin : (order : Order) (outside : Outside) (start : Position) (elements : List Element)
    → Stands outside start → elements ≡ [] → IsRunning order outside outside start start elements
running-begin order outside start elements stands none = record {
  stands = stands;
  goes = goes-none outside start;
  low = omega arith;
  read = subst AreRead (sym none) (All-nil IsRead);
  runs = λ reading told.
      subst (λ es. Runs order reading.opened start.at es start.at) (sym none)
      (runs-begin order reading.opened start.at
      (within-file outside outside start start reading (goes-none outside start) stands told));
}

-- what is found at the place reached, by the file as it was told at first
running-found : (order : Order) (first now : Outside) (start cur : Position) (elements : List Element)
    (next : Next) (read : ℕ) → IsRunning order first now start cur elements
    → Told (reading_at now.slots cur.slot) (λ reading. IsNext order reading.opened cur.at next read)
    → Told (reading_at first.slots start.slot) (λ reading. IsNext order reading.opened cur.at next read)
running-found order first now start cur elements next read way found = λ reading told.
    let here = at-now first now start cur reading way.goes way.stands told in
    subst (λ file. IsNext order file cur.at next read) here.2 (found here.0 here.1)

-- one element more, which is kept or not
pub running-kept : (order : Order) (first now last : Outside) (start cur after : Position)
    (elements more : List Element) (e : Element) (next : Next) → IsRunning order first now start cur elements
    → next ≡ Belongs e
    → Told (reading_at now.slots cur.slot) (λ reading. IsNext order reading.opened cur.at next after.at)
    → MovesTo cur.at next after.at → HasReadElement next → Stands last after → GoesOn now last cur after
    → length elements < kept_elements → more ≡ elements ++ e ∷ []
    → IsRunning order first last start after more
running-kept order first now last start cur after elements more e next way is found moves read stands goes few
    more_is =
    record {
      stands = stands;
      goes = goes-more first now last start cur after way.goes goes;
      low = omega (arith, (subst (λ next. MovesTo cur.at next after.at) is moves).1);
      read = subst AreRead (sym more_is) (All-push IsRead elements e way.read (subst HasReadElement is read));
      runs = λ reading told.
          let here = subst (λ next. IsNext order reading.opened cur.at next after.at) is
          (running-found order first now start cur elements next after.at way found reading told) in
          runs-kept order reading.opened start.at elements more cur.at e after.at (way.runs reading told)
          here.0 here.1 few more_is;
    }

pub running-passed : (order : Order) (first now last : Outside) (start cur after : Position)
    (elements : List Element) (e : Element) (next : Next) → IsRunning order first now start cur elements
    → next ≡ Belongs e
    → Told (reading_at now.slots cur.slot) (λ reading. IsNext order reading.opened cur.at next after.at)
    → MovesTo cur.at next after.at → Stands last after → GoesOn now last cur after
    → kept_elements ≤ length elements → IsRunning order first last start after elements
running-passed order first now last start cur after elements e next way is found moves stands goes many =
    record {
      stands = stands;
      goes = goes-more first now last start cur after way.goes goes;
      low = omega (arith, (subst (λ next. MovesTo cur.at next after.at) is moves).1);
      read = way.read;
      runs = λ reading told.
          let here = subst (λ next. IsNext order reading.opened cur.at next after.at) is
          (running-found order first now start cur elements next after.at way found reading told) in
          runs-passed order reading.opened start.at elements cur.at e after.at (way.runs reading told)
          here.0 here.1 many;
    }

-- none is left
pub running-done : (order : Order) (first now : Outside) (start cur : Position) (elements : List Element)
    (looked : Looked) (end read : ℕ) (next : Next) → IsRunning order first now start cur elements
    → next ≡ Ended looked → end ≡ cur.at
    → Told (reading_at now.slots cur.slot) (λ reading. IsNext order reading.opened cur.at next read)
    → Told (reading_at first.slots start.slot)
    (λ reading. IsRun order reading.opened start.at
    (record { elements = elements; end = end; looked = looked }) read)
running-done order first now start cur elements looked end read next way is end_is found = λ reading told.
    let here = subst (λ next. IsNext order reading.opened cur.at next read) is
    (running-found order first now start cur elements next read way found reading told) in
    let runs = way.runs reading told in
    let done = runs-done order reading.opened start.at elements cur.at runs here.0 in
    record {
      elements = done.0;
      end_is = end_is ∙ done.1;
      within = omega (arith, end_is, runs.within);
      looked = subst (λ end. IsLooked order reading.opened end read looked) (sym end_is) here.1;
    }

-- what was drawn at the place reached is within the look of the place after the whole run
pub running-look : (order : Order) (first now : Outside) (start cur : Position) (elements : List Element)
    (drew : ℕ) → IsRunning order first now start cur elements
    → Told (reading_at now.slots cur.slot) (λ reading. drew ≤ look order reading.opened cur.at)
    → Told (reading_at first.slots start.slot)
    (λ reading. drew ≤ look order reading.opened (end_from order reading.opened start.at))
running-look order first now start cur elements drew way within = λ reading told.
    let here = at-now first now start cur reading way.goes way.stands told in
    let seen : drew ≤ look order reading.opened cur.at =
    subst (λ file. drew ≤ look order file cur.at) here.2 (within here.0 here.1) in
    let far = runs-look order reading.opened start.at elements cur.at (way.runs reading told) in
    omega (arith, seen, far)
