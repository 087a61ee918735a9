-- Text on its way to a sink.
use Rattle.std.specs.Prelude.{◌≡◌, ℕ, List, ◌++◌, take, Result, Ok, Err}
use Rattle.frame_outside.specs.Counts.{Rose}
use Rattle.frame_outside.specs.Sink.{Output, Appends}
use Rattle.frame_outside.specs.declared.traits.ShelfError.{ShelfError}
use Rattle.frame_outside.specs.declared.traits.ShelfError.TheVariants.{Failed, NoMemory}
use Rattle.dumper.specs.declared.page.Page.{Page}

-- a prefix of the text was appended
pub record AppendsPrefix (old new : Output) (text : List ℕ) : Type 0 where
  pub count : ℕ
  pub appends : Appends old new (take count text)

-- The text is on its way: what was pending and the text are what the sink has got since, and what is pending now.
pub record Carries (old new : Output) (pending now text : List ℕ) : Type 0 where
  pub put : List ℕ
  pub appends : Appends old new put
  pub split : put ++ now ≡ pending ++ text

-- After a refusal the sink has got a prefix of what was pending and the text.
abbrev pub CarriesOrStops : {X : Type 0} → Output → Output → List ℕ → List ℕ → List ℕ → Result X ShelfError → Type 0
CarriesOrStops old new pending now text (Ok x) = Carries old new pending now text
CarriesOrStops old new pending now text (Err Failed) =
    AppendsPrefix old new (pending ++ text) × Rose old.faults new.faults
CarriesOrStops old new pending now text (Err NoMemory) = AppendsPrefix old new (pending ++ text)

-- the text of a page, which the sink has not got yet
abbrev pub pending : Page → List ℕ
pending page = page.text.items

-- the text was printed by way of a page
abbrev pub Prints : {X : Type 0} → Output → Output → Page → Page → List ℕ → Result X ShelfError → Type 0
Prints old new page now text result = CarriesOrStops old new (pending page) (pending now) text result
