-- What taking the next item answers, from what its parts answer.
use Rattle.std.proofs.Common.{◌≡◌, ◌+◌, ◌<◌, ◌≤◌, ℕ, true, false, List, [], length, Result, Ok, Err, Option}
use Rattle.std.proofs.Common.{Some, None, inl, inr, refl, sym, ap}
use Rattle.std.proofs.Common.{◌∙◌, subst, cond, arith, ◌∷◌}
use Rattle.std.specs.Prelude.{◌⊎◌, ◌&&◌, is_none, IsErrAnd, OnErr}
use Rattle.file_grammar.specs.declared.fault.Fault.{Fault}
use Rattle.file_grammar.specs.declared.kind.Kind.{Kind}
use Rattle.file_grammar.specs.declared.kind.Kind.TheVariants.{FrSH, FrSE, FrameH, FrEndOfFrame, FrTOC, FrEndOfFile}
use Rattle.file_grammar.specs.declared.kind.Kind.TheVariants.{Other}
use Rattle.file_grammar.specs.declared.reason.Reason.{Reason}
use Rattle.file_grammar.specs.declared.reason.Reason.TheVariants.{RecordLimit, FrameLimit}
use Rattle.file_grammar.specs.Structure.{Structure, record_limit}
use Rattle.file_grammar.proofs.Judging.{first_of-heavy, weight_reason-told}
use Rattle.file_grammar.specs.Kind.{is_table_kind, is_target_kind, is_frame_kind}
use Rattle.file_grammar.specs.Record.{layout_in}
use Rattle.file_grammar.specs.Item.{Item, OtherItem}
use Rattle.file_grammar.specs.Fault.{Here, place, entries_before, length_there, load, weight, class, kind, structure}
use Rattle.file_grammar.specs.Fault.{first_of}
use Rattle.file_grammar.specs.Fault.{fault_at, fault_here}
use Rattle.file_grammar.specs.Steps.{item_by, reasons_of}
use Rattle.item_reader.specs.declared.cursor.Cursor.{Cursor}
use Rattle.item_reader.specs.declared.item.Item.{Item as Given}
use Rattle.item_reader.specs.declared.item.Item.TheVariants as given
use Rattle.item_reader.specs.declared.item.ReadError.{ReadError}
use Rattle.item_reader.specs.declared.item.ReadError.TheVariants as error
use Rattle.frame_outside.specs.Shelf.{Outside}
use Rattle.structure_source.specs.Source.{Position, bytes_drawn}
use Rattle.item_reader.specs.Looked.{look, IsWithinLook, IsLooked}
use Rattle.item_reader.specs.declared.state.State.{State}
use Rattle.item_reader.specs.declared.structure.Placed.{Placed}
use Rattle.item_reader.specs.Placed.{IsPlaced, StandsIn, body_of}
use Rattle.scalar_types.specs.declared.Order.{Order}
use Rattle.std.proofs.lemmas.Bool.{false≢true}
use Rattle.item_reader.specs.declared.looked.Looked.{Looked}
use Rattle.item_reader.specs.declared.looked.Looked.TheVariants.{Nothing}
use Rattle.item_reader.specs.Given.{body_after, Tells, TellsKind, entry_given, instance_given, entry_in}
use Rattle.item_reader.specs.Reader.{IsFrameOf, Collects}
use Rattle.item_reader.proofs.Collecting.{frame-collected}
use Rattle.item_reader.specs.Judged.{Takes, ClosesBy}
use Rattle.item_reader.specs.State.{here_in, before_of, IsSound}
use Rattle.item_reader.specs.Cursor.{GivesNext, Gives, InFile, table_body, body_in}
use Rattle.item_reader.proofs.Located.{told-here, class-here, instance-here, body-here, fault-kind}

-- an error that is passed on is the same
pub err-passed : {T E : Type 0} (r : Result T E) (e : E) (P : Result T E → Type 0) → IsErrAnd r (λ x. x ≡ e) → P (Err e)
    → P r
err-passed (Ok x) e P is said = absurd is
err-passed (Err x) e P is said = subst (λ y. P (Err y)) (sym is) said

pub err-said : {T E : Type 0} (r : Result T E) (P : Type 0) → P → OnErr r P
err-said (Ok x) P p = tt
err-said (Err x) P p = p

-- a fault of what stands there is what taking it answers
pub refused : (h : Here) (e : ReadError) (new : Cursor)
    → ((fault : Fault) → e ≡ error.Fault fault → fault_here h ≡ Some fault)
    → GivesNext h (Err e) new
refused h (error.Fault fault) new said = inl (said fault refl)
refused h error.Device new said = tt
refused h error.NoMemory new said = tt

pub refused-in : {T : Type 0} (outside : Outside) (c : Cursor) (r : Result Given ReadError) (e : ReadError)
    (new : Cursor)
    → IsErrAnd r (λ x. x ≡ e)
    → ((fault : Fault) → ◌≡◌ {A = Result T ReadError} (Err e) (Err (error.Fault fault))
    → InFile outside c (λ h. fault_here h ≡ Some fault))
    → InFile outside c (λ h. GivesNext h r new)
refused-in {T} outside c r e new is said = λ reading length_there.
    let h : Here = here_in c.state reading.opened in
    err-passed r e (λ r. GivesNext h r new) is
    (refused h e new (λ fault same. said fault (ap Err same) reading length_there))

-- what was drawn reaches no further than the look of the place
pub within : (outside : Outside) (c : Cursor) (p : Position)
    → InFile outside c (λ h. bytes_drawn p ≤ look h.order h.file h.before.place)
    → InFile outside c (λ h. IsWithinLook h.order h.file h.before.place (bytes_drawn p))
within outside c p few = λ reading length_there. inl (few reading length_there)

pub err-within : {T : Type 0} (r : Result T ReadError) (outside : Outside) (c : Cursor) (p : Position)
    → InFile outside c (λ h. bytes_drawn p ≤ look h.order h.file h.before.place)
    → OnErr r (InFile outside c (λ h. IsWithinLook h.order h.file h.before.place (bytes_drawn p)))
err-within r outside c p few = err-said r _ (within outside c p few)

-- a structure of which the head tells a fault, where it is whole, was passed over
pub passed-over : (h : Here) (e : ReadError) (new : Cursor) (fault : Fault) (p : Placed)
    → ((other : Fault) → e ≡ error.Fault other
    → (fault_here h ≡ Some other) ⊎ ((other ≡ fault) × IsPlaced h.order h.file (place h) p))
    → (IsPlaced h.order h.file (place h) p → fault_here h ≡ Some fault) → GivesNext h (Err e) new
passed-over h e new fault p said length_there = refused h e new (λ other is. elim (said other is) [
  | inl there ↦ there
  | inr whole ↦ length_there whole.1 ∙ ap Some (sym whole.0)
])

-- ---- the item given

-- the structure that was taken, where it begins no entry
pub other-taken : (h : Here) (item : Given) (new : State) (t : Takes h item new) (k : Kind) → kind h ≡ k
    → item_by k h ≡ Some (OtherItem (structure h)) → t.taken ≡ OtherItem (structure h)
other-taken h item new t k is other =
    let same : ◌≡◌ {A = Option Item} (Some t.taken) (Some (OtherItem (structure h))) =
    sym t.is ∙ ap (λ k. item_by k h) is ∙ other in
    cc

-- its body is lent
pub body-taken : (h : Here) (taken : Item) (p : Placed) (body : List ℕ) → taken ≡ OtherItem (structure h)
    → is_table_kind (kind h) ≡ false → StandsIn h.order (place h) p body h.file → body ≡ body_after h taken
body-taken h taken p body is apart stands =
    stands.body_is
    ∙ sym (body-here h p stands.placed)
    ∙ sym (ap (λ b. cond (b && is_none (layout_in (entries_before h) (class h))) [] (structure h).body) apart)
    ∙ sym (ap (body_after h) is)

pub table-taken : (h : Here) (taken : Item) (p : Placed) → taken ≡ OtherItem (structure h) → kind h ≡ FrTOC
    → IsPlaced h.order h.file (place h) p → table_body (entries_before h) p (body_of h.file p) ≡ body_after h taken
table-taken h taken p is table placed =
    (λ i. cond (is_none (layout_in (entries_before h) (sym (class-here h p placed) i))) []
    (sym (body-here h p placed) i))
    ∙ sym (ap (λ k. cond (is_table_kind k && is_none (layout_in (entries_before h) (class h))) []
    (structure h).body) table)
    ∙ sym (ap (body_after h) is)

-- it is no entry, and its instance is told
pub other-entry : (taken : Item) (s : Structure) → taken ≡ OtherItem s → None ≡ entry_given taken
other-entry taken s is = sym (ap entry_given is)

pub other-instance : (h : Here) (taken : Item) (p : Placed) (instance : ℕ) → taken ≡ OtherItem (structure h)
    → IsPlaced h.order h.file (place h) p → instance ≡ p.instance → instance ≡ instance_given taken
other-instance h taken p instance is placed same =
    same ∙ sym (instance-here h p placed) ∙ sym (ap instance_given is)

-- nothing was looked at
pub looked-nothing : (order : Order) (file : List ℕ) (place read : ℕ) (looked : Looked) → looked ≡ Nothing
    → read ≡ place → IsLooked order file place read looked
looked-nothing order file place read looked none is = subst (IsLooked order file place read) (sym none) is

-- an item after which the frame is open and the file goes on
pub gives-open : (h : Here) (item : Given) (new : Cursor) (takes : Takes h item new.state)
    → body_in (Some item) new.own.items new.state.segment ≡ body_after h takes.taken
    → entry_in (Some item) new.kept new.state.dictionary ≡ entry_given takes.taken
    → new.instance ≡ instance_given takes.taken
    → (IsFrameOf h.order (before_of new.state) new.state.segment × (new.state.numbering ≡ None)
    → Collects h item (before_of new.state) new.state.numbering new.state.segment)
    → new.state.segment.order ≡ h.order → IsSound new.state → new.state.segment.pending ≡ []
    → new.state.numbering ≡ None → IsLooked h.order h.file new.state.at new.source.at new.looked
    → new.state.closed ≡ false → Gives h item new
gives-open h item new takes body entry instance collects order sound none frame looked unclosed = record {
  takes = takes;
  body_is = body;
  entry_is = entry;
  instance_is = instance;
  frame = collects (frame-collected h.order new.state order sound frame none, frame);
  looked = looked;
  end = λ closed. absurd (false≢true (sym unclosed ∙ closed));
}

-- ---- what is given of a structure of a kind

pub tells-other : (h : Here) (taken : Item) (item : Given) (k : Kind) → Tells h taken item
    → taken ≡ OtherItem (structure h)
    → kind h ≡ k → TellsKind k h (structure h) item
tells-other h taken item k tells other is =
    subst (λ k. TellsKind k h (structure h) item) is (subst (λ i. Tells h i item) other tells)

pub table-item : (h : Here) (s : Structure) (item : Given) → TellsKind FrTOC h s item
    → (at : ℕ) × (class : ℕ) × (size : ℕ) × (item ≡ given.Table at class size)
table-item h s (given.Table at class size) t = (at, class, size, refl)
table-item h s (given.Entry at class changed) t = absurd t
table-item h s (given.Plain at class instance node) t = absurd t
table-item h s (given.FrameEnd at class) t = absurd t
table-item h s (given.FileEnd at class size seek) t = absurd t

pub file_end-item : (h : Here) (s : Structure) (item : Given) → TellsKind FrEndOfFile h s item
    → (at : ℕ) × (class : ℕ) × (size : ℕ) × (seek : ℕ) × (item ≡ given.FileEnd at class size seek)
file_end-item h s (given.FileEnd at class size seek) t = (at, class, size, seek, refl)
file_end-item h s (given.Entry at class changed) t = absurd t
file_end-item h s (given.Plain at class instance node) t = absurd t
file_end-item h s (given.FrameEnd at class) t = absurd t
file_end-item h s (given.Table at class size) t = absurd t

pub frame_end-item : (h : Here) (s : Structure) (item : Given) → TellsKind FrEndOfFrame h s item
    → (at : ℕ) × (class : ℕ) × (item ≡ given.FrameEnd at class)
frame_end-item h s (given.FrameEnd at class) t = (at, class, refl)
frame_end-item h s (given.Entry at class changed) t = absurd t
frame_end-item h s (given.Plain at class instance node) t = absurd t
frame_end-item h s (given.Table at class size) t = absurd t
frame_end-item h s (given.FileEnd at class size seek) t = absurd t

pub record-item : (h : Here) (s : Structure) (item : Given) (k : Kind) → is_target_kind k ≡ true → TellsKind k h s item
    → (at : ℕ) × (class : ℕ) × (instance : ℕ) × (item ≡ given.Plain at class instance (length h.before.frame))
record-item h s (given.Plain at class instance node) FrameH e t =
    (at, class, instance, λ i. given.Plain at class instance (t.3 i))
record-item h s (given.Plain at class instance node) Other e t =
    (at, class, instance, λ i. given.Plain at class instance (t.3 i))
record-item h s (given.Plain at class instance node) FrSH e t = absurd t
record-item h s (given.Plain at class instance node) FrSE e t = absurd t
record-item h s (given.Plain at class instance node) FrTOC e t = absurd t
record-item h s (given.Plain at class instance node) FrEndOfFile e t = absurd t
record-item h s (given.Plain at class instance node) FrEndOfFrame e t = absurd t
record-item h s (given.FrameEnd at class) k e t = absurd (apart k e t)
  where
    apart : (k : Kind) → is_target_kind k ≡ true → TellsKind k h s (given.FrameEnd at class) → ⊥
    apart FrEndOfFrame e t = false≢true e
    apart FrSH e t = t
    apart FrSE e t = t
    apart FrTOC e t = t
    apart FrEndOfFile e t = t
    apart FrameH e t = t
    apart Other e t = t
record-item h s (given.Entry at class changed) k e t = absurd (apart k t)
  where
    apart : (k : Kind) → TellsKind k h s (given.Entry at class changed) → ⊥
    apart FrEndOfFile t = t
    apart FrSH t = t
    apart FrSE t = t
    apart FrTOC t = t
    apart FrEndOfFrame t = t
    apart FrameH t = t
    apart Other t = t
record-item h s (given.Table at class size) k e t = absurd (apart k e t)
  where
    apart : (k : Kind) → is_target_kind k ≡ true → TellsKind k h s (given.Table at class size) → ⊥
    apart FrTOC e t = false≢true e
    apart FrSH e t = t
    apart FrSE e t = t
    apart FrEndOfFrame e t = t
    apart FrEndOfFile e t = t
    apart FrameH e t = t
    apart Other e t = t
record-item h s (given.FileEnd at class size seek) k e t = absurd (apart k e t)
  where
    apart : (k : Kind) → is_target_kind k ≡ true → TellsKind k h s (given.FileEnd at class size seek) → ⊥
    apart FrEndOfFile e t = false≢true e
    apart FrSH e t = t
    apart FrSE e t = t
    apart FrTOC e t = t
    apart FrEndOfFrame e t = t
    apart FrameH e t = t
    apart Other e t = t

-- a contents table
pub gives-table : (h : Here) (item : Given) (new : Cursor) (takes : Takes h item new.state) (p : Placed)
    → kind h ≡ FrTOC → IsPlaced h.order h.file (place h) p
    → new.own.items ≡ table_body (entries_before h) p (body_of h.file p)
    → new.state.segment.order ≡ h.order → IsSound new.state → new.state.segment.pending ≡ []
    → new.state.numbering ≡ None → IsLooked h.order h.file new.state.at new.source.at new.looked
    → ClosesBy item new.state.closed → new.instance ≡ p.instance → Gives h item new
gives-table h item new takes p is placed own order sound none frame looked closes instance =
    let other : takes.taken ≡ OtherItem (structure h) = other-taken h item new.state takes FrTOC is refl in
    let table = table-item h (structure h) item (tells-other h takes.taken item FrTOC takes.tells other is) in
    gives-open h item new takes
    (ap (λ i. body_in (Some i) new.own.items new.state.segment) table.3
    ∙ own ∙ table-taken h takes.taken p other is placed)
    (ap (λ i. entry_in (Some i) new.kept new.state.dictionary) table.3
    ∙ other-entry takes.taken (structure h) other)
    (other-instance h takes.taken p new.instance other placed instance)
    (subst (λ i. IsFrameOf h.order (before_of new.state) new.state.segment × (new.state.numbering ≡ None)
    → Collects h i (before_of new.state) new.state.numbering new.state.segment) (sym table.3) (λ f. f))
    order sound none frame looked (subst (λ i. ClosesBy i new.state.closed) table.3 closes)

-- ---- a record that is longer than the frame may weigh

weighed_first : (k : Kind) → is_frame_kind k ≡ true
    → (rs : List Reason) × (reasons_of k ≡ RecordLimit ∷ FrameLimit ∷ rs)
weighed_first FrameH e = (_, refl)
weighed_first FrEndOfFrame e = (_, refl)
weighed_first Other e = (_, refl)
weighed_first FrSH e = absurd (false≢true e)
weighed_first FrSE e = absurd (false≢true e)
weighed_first FrTOC e = absurd (false≢true e)
weighed_first FrEndOfFile e = absurd (false≢true e)

pub overfull-fault : (h : Here) (p : Placed) → h.before.closed ≡ false → IsPlaced h.order h.file (place h) p
    → is_frame_kind (kind h) ≡ true → record_limit < load h + p.length
    → fault_here h ≡ Some (fault_at FrameLimit (place h, 0))
overfull-fault h p unclosed placed frame over =
    let first = weighed_first (kind h) frame in
    let same : length_there h ≡ p.length = told-here h p placed in
    fault-kind h p unclosed placed
    ∙ ap (λ rs. first_of rs h) first.1
    ∙ first_of-heavy h first.0 FrameLimit frame (omega (arith, same, placed.small))
    (weight_reason-told (load h) (length_there h) (weight h) (omega (arith, same, over)))
