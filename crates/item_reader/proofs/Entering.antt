-- An entry: what is read of it describes it, how far was read for it, and what is given of it.
use Rattle.std.proofs.Common.{◌≡◌, ◌+◌, ◌≤◌, ℕ, Bool, List, [], Result, Ok, Err, Option, Some, None}
use Rattle.std.proofs.Common.{inl, inr, refl, sym, ap, ◌∙◌, subst}
use Rattle.std.specs.Prelude.{map, OnOk, IfOk, IsSome, option_map, length}
use Rattle.scalar_types.specs.declared.Order.{Order}
use Rattle.frame_outside.specs.Shelf.{Outside, Told, reading_at}
use Rattle.structure_source.specs.Source.{Position, Stands, GoesOn}
use Rattle.structure_source.proofs.Going.{at-now}
use Rattle.dictionary.specs.declared.entries.Entry.{Entry}
use Rattle.file_grammar.specs.declared.kind.Kind.TheVariants.{FrSH}
use Rattle.file_grammar.specs.Structure.{Structure, end_of, structure_at}
use Rattle.file_grammar.specs.Kind.{kind_of}
use Rattle.file_grammar.specs.Described.{longest_run, entry_from}
use Rattle.file_grammar.specs.Item.{Item, EntryItem}
use Rattle.file_grammar.specs.Fault.{Here, place, entries_before, kind, class, structure}
use Rattle.file_grammar.specs.Steps.{item_by}
use Rattle.file_grammar.proofs.Classes.{class-FrSH}
use Rattle.item_reader.specs.declared.cursor.Cursor.{Cursor}
use Rattle.item_reader.specs.declared.entries.Run.{Run}
use Rattle.item_reader.specs.declared.item.Item.{Item as Given}
use Rattle.item_reader.specs.declared.item.Item.TheVariants as given
use Rattle.item_reader.specs.declared.item.ReadError.{ReadError}
use Rattle.item_reader.specs.declared.item.ReadError.TheVariants as error
use Rattle.item_reader.specs.declared.state.State.{State}
use Rattle.item_reader.specs.declared.structure.Placed.{Placed}
use Rattle.item_reader.specs.Placed.{StandsIn}
use Rattle.item_reader.specs.Looked.{look, IsLooked, IsAfterEntry, IsWithinLook}
use Rattle.item_reader.specs.Entries.{IsRun, Begins, elements_from, end_from}
use Rattle.item_reader.specs.State.{here_in, before_of}
use Rattle.item_reader.specs.Given.{Tells, body_after, entry_given, instance_given, entry_in}
use Rattle.item_reader.specs.Judged.{DescribesEntry, IsBeside, Answers, ClosesBy, IsKept, IsOpenStill}
use Rattle.item_reader.specs.Reader.{IsFrameOf, Collects, IsEntry}
use Rattle.item_reader.specs.Cursor.{InFile, GivesNext, body_in}
use Rattle.item_reader.proofs.CutEntry.{cut-whole}
use Rattle.item_reader.proofs.Located.{kind-here, end-here, whole-here}
use Rattle.item_reader.proofs.Giving.{gives-open}

-- ---- what is read

-- what is told of the file later on holds of it as it was told at first
pub told-later : (first now : Outside) (start middle : Position) (P : List ℕ → Type 0)
    → GoesOn first now start middle → Stands now middle
    → Told (reading_at now.slots middle.slot) (λ reading. P reading.opened)
    → Told (reading_at first.slots start.slot) (λ reading. P reading.opened)
told-later first now start middle P goes stands seen = λ reading told.
    let here = at-now first now start middle reading goes stands told in
    subst P here.2 (seen here.0 here.1)

-- The FrSH that stands here and the run that was read after it are the entry.
pub describes-entry : (h : Here) (p : Placed) (body : List ℕ) (begun : Entry) (run : Run) (read : ℕ)
    → StandsIn h.order (place h) p body h.file → Begins h.order body begun
    → IsRun h.order h.file (place h + p.length) run read
    → DescribesEntry h.order h.file (place h) (record begun { elements = run.elements }) run.end
describes-entry h p body begun run read stands begins runs =
    let after : IsRun h.order h.file (end_of (structure h)) run read =
    subst (λ from. IsRun h.order h.file from run read) (sym (end-here h p stands.placed)) runs in
    record {
      full = record begun { elements = elements_from h.order h.file (end_of (structure h)) };
      full_is = begins h.file (place h) p stands.placed stands.body_is;
      entry_is = λ i. record begun { elements = after.elements i };
      end_is = after.end_is;
      within = after.within;
    }

-- and what was drawn is within the look of the place after it
pub entry-look : (h : Here) (p : Placed) (body : List ℕ) (begun : Entry) (drew : ℕ)
    → StandsIn h.order (place h) p body h.file → kind h ≡ FrSH → Begins h.order body begun
    → drew ≤ look h.order h.file (end_from h.order h.file (place h + p.length))
    → IsWithinLook h.order h.file (place h) drew
entry-look h p body begun drew stands is begins few =
    let end : ℕ = end_from h.order h.file (place h + p.length) in
    let after : IsAfterEntry h.order h.file (place h) end = record {
      class = class-FrSH (entries_before h) (class h) is;
      whole = whole-here h p stands.placed;
      entry = record begun { elements = elements_from h.order h.file (end_of (structure h)) };
      described = begins h.file (place h) p stands.placed stands.body_is;
      end_is = ap (end_from h.order h.file) (sym (end-here h p stands.placed));
    } in
    inr (end, after, few)

-- the same of the file that a cursor reads, where the body was brought and then the run read
pub entry-ahead : (first now : Outside) (c : Cursor) (p : Placed) (body : List ℕ) (middle : Position)
    (begun : Entry) (drew : ℕ) (s : State) (order : Order) → s ≡ c.state → order ≡ s.segment.order
    → GoesOn first now c.source middle → Stands now middle → middle.at ≡ c.state.at + p.length
    → InFile first c (λ h. StandsIn h.order h.before.place p body h.file)
    → kind_of c.state.dictionary p.class ≡ FrSH → Begins s.segment.order body begun
    → Told (reading_at now.slots middle.slot)
    (λ reading. drew ≤ look order reading.opened (end_from order reading.opened middle.at))
    → InFile first c (λ h. IsWithinLook h.order h.file h.before.place drew)
entry-ahead first now c p body middle begun drew s order same order_is goes stood moved stands is begins few =
    λ reading told.
    let h : Here = here_in c.state reading.opened in
    let one : s.segment.order ≡ h.order = ap (λ (x : State). x.segment.order) same in
    let there = stands reading told in
    let seen = told-later first now c.source middle
    (λ file. drew ≤ look order file (end_from order file middle.at)) goes stood few reading told in
    entry-look h p body begun drew there (kind-here h p there.placed ∙ is)
    (subst (λ order. Begins order body begun) one begins)
    (subst (λ at. drew ≤ look h.order h.file (end_from h.order h.file at)) moved
    (subst (λ order. drew ≤ look order h.file (end_from order h.file middle.at)) (order_is ∙ one) seen))

-- ---- what is given

entry-told : (h : Here) (head : Structure) (run : List Structure) (e : Entry) (item : Given)
    → Tells h (EntryItem head run e) item
    → (at : ℕ) × (class : ℕ) × (changed : Bool) × (item ≡ given.Entry at class changed)
entry-told h head run e (given.Entry at class changed) t = (at, class, changed, refl)
entry-told h head run e (given.Plain at class instance node) t = absurd t
entry-told h head run e (given.FrameEnd at class) t = absurd t
entry-told h head run e (given.Table at class size) t = absurd t
entry-told h head run e (given.FileEnd at class size seek) t = absurd t

-- What is given of an entry: no body is lent after it, and its instance is told as 0.
record IsEntryItem (h : Here) (item : Given) (taken : Item) (found : Option Entry) : Type 0 where
  pub told : (at : ℕ) × (class : ℕ) × (changed : Bool) × (item ≡ given.Entry at class changed)
  pub body : body_after h taken ≡ []
  pub entry : entry_given taken ≡ found
  pub instance : instance_given taken ≡ 0

-- the item that stands at an FrSH is one
entry-item : (h : Here) (item : Given) (taken : Item) → item_by FrSH h ≡ Some taken → Tells h taken item
    → IsEntryItem h item taken (entry_from h.order h.file (structure h))
entry-item h item taken is tells = by (entry_from h.order h.file (structure h)) is
  where
    run : List Structure
    run = map (λ e. e.0) (longest_run h.order h.file (end_of (structure h)))

    by : (o : Option Entry) → option_map (λ e. EntryItem (structure h) run e) o ≡ Some taken
        → IsEntryItem h item taken o
    by None is = cc
    by (Some e) is =
        let same : EntryItem (structure h) run e ≡ taken = cc in
        record {
          told = entry-told h (structure h) run e item (subst (λ t. Tells h t item) (sym same) tells);
          body = ap (body_after h) (sym same);
          entry = ap entry_given (sym same);
          instance = ap instance_given (sym same);
        }

-- the entry that was taken is the whole one
whole-entry : (order : Order) (file : List ℕ) (at : ℕ) (entry : Entry) (end : ℕ)
    → DescribesEntry order file at entry end → length entry.elements ≤ 4096
    → Some entry ≡ entry_from order file (structure_at order file at)
whole-entry order file at entry end d short =
    ap Some (d.entry_is ∙ cut-whole d.full (subst (λ (e : Entry). length e.elements ≤ 4096) d.entry_is short))
    ∙ sym d.full_is

-- it is lent with what was kept beside the dictionary
pub lent-beside : (r : Result Given ReadError) (entry : Entry) (old : List Entry) (kept : Option Entry)
    (new : List Entry)
    → IfOk r (λ item. (kept : Option Entry) → IsBeside old entry kept → entry_in (Some item) kept new ≡ Some entry)
    → IsBeside old entry kept → IfOk r (λ item. entry_in (Some item) kept new ≡ Some entry)
lent-beside (Ok item) entry old kept new lent beside = lent kept beside
lent-beside (Err e) entry old kept new lent beside = tt

-- so an entry is lent
pub lends-one : (r : Result Given ReadError) (entry : Entry) (kept : Option Entry) (entries_before : List Entry)
    → IfOk r (λ item. entry_in (Some item) kept entries_before ≡ Some entry)
    → IfOk r (λ item. IsEntry item → IsSome (entry_in (Some item) kept entries_before))
lends-one (Ok item) entry kept entries_before lent = λ is. subst IsSome (sym lent) refl
lends-one (Err e) entry kept entries_before lent = tt

-- What taking it answers is what is given of it, where what stands after it was looked at.
pub gives-entry : (h : Here) (old : State) (end : ℕ) (r : Result Given ReadError) (new : Cursor) (entry : Entry)
    → kind h ≡ FrSH → old.segment.order ≡ h.order → old.segment.pending ≡ [] → old.numbering ≡ None
    → IsLooked h.order h.file end new.source.at new.looked → Answers h r new.state
    → OnOk r (new.state.at ≡ end) → IfOk r (λ item. ClosesBy item new.state.closed)
    → OnOk r (old.segment.pending ≡ [] → IsKept old new.state) → OnOk r (IsOpenStill old new.state)
    → DescribesEntry h.order h.file (place h) entry end → OnOk r (length entry.elements ≤ 4096)
    → IfOk r (λ item. entry_in (Some item) new.kept new.state.dictionary ≡ Some entry) → new.instance ≡ 0
    → GivesNext h r new
gives-entry h old end (Ok item) new entry is order none frame looked takes moved closes keeps still d short lent instance =
    let found = entry-item h item takes.taken (sym (ap (λ k. item_by k h) is) ∙ takes.is) takes.tells in
    let kept : IsKept old new.state = keeps none in
    gives-open h item new takes
    (ap (λ i. body_in (Some i) new.own.items new.state.segment) found.told.3 ∙ sym found.body)
    (lent ∙ whole-entry h.order h.file (place h) entry end d short ∙ sym found.entry)
    (instance ∙ sym found.instance)
    (subst (λ i. IsFrameOf h.order (before_of new.state) new.state.segment × (new.state.numbering ≡ None)
    → Collects h i (before_of new.state) new.state.numbering new.state.segment) (sym found.told.3) (λ f. f))
    (kept.order ∙ order) kept.sound kept.pending (still.numbering ∙ frame)
    (subst (λ at. IsLooked h.order h.file at new.source.at new.looked) (sym moved) looked)
    (subst (λ i. ClosesBy i new.state.closed) found.told.3 closes)
gives-entry h old end (Err
    (error.Fault fault)) new entry is order none frame looked told moved closes keeps still d short
    lent instance =
    inl told
gives-entry h old end (Err error.Device) new entry is order none frame looked told moved closes keeps still d short lent
    instance =
    tt
gives-entry h old end (Err error.NoMemory) new entry is order none frame looked told moved closes keeps still d short lent
    instance =
    tt
