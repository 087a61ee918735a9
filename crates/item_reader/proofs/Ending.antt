-- The end of the file: what is given of it, and what stands after it.
use Rattle.std.proofs.Common.{◌≡◌, ◌+◌, ◌-◌, ◌<◌, ◌≤◌, ℕ, true, false, List, [], length, Ok, Some, None}
use Rattle.std.proofs.Common.{inr, refl, sym, ap, ◌∙◌, subst, arith}
use Rattle.std.specs.Prelude.{◌==◌}
use Rattle.std.proofs.lemmas.Bool.{ne_eqb, false≢true}
use Rattle.frame_outside.specs.Shelf.{Outside, Reading, reading_at}
use Rattle.structure_source.specs.Source.{Position, Stands, GoesOn, IsBounded, PassesNext, bytes_drawn}
use Rattle.structure_source.proofs.Going.{at-now}
use Rattle.file_grammar.specs.declared.fault.Fault.{Fault}
use Rattle.file_grammar.specs.declared.kind.Kind.TheVariants.{FrEndOfFile}
use Rattle.file_grammar.specs.declared.reason.Reason.TheVariants.{Trailing}
use Rattle.file_grammar.specs.Kind.{is_table_kind}
use Rattle.file_grammar.specs.Item.{Before, OtherItem}
use Rattle.file_grammar.specs.Fault.{Here, place, kind, structure, fault_at, fault_by, fault_here}
use Rattle.item_reader.specs.declared.cursor.Cursor.{Cursor}
use Rattle.item_reader.specs.declared.item.Item.{Item as Given}
use Rattle.item_reader.specs.declared.item.Item.TheVariants as given
use Rattle.item_reader.specs.declared.state.State.{State}
use Rattle.item_reader.specs.declared.structure.Placed.{Placed}
use Rattle.item_reader.specs.Placed.{StandsIn}
use Rattle.item_reader.specs.Looked.{look, IsLooked}
use Rattle.item_reader.specs.State.{IsSound, here_in, before_of}
use Rattle.item_reader.specs.Judged.{InEachFile, Answers, Takes, ClosesBy}
use Rattle.item_reader.specs.Reader.{Faults, Collects}
use Rattle.item_reader.specs.Cursor.{HasPassed, InFile, Gives, body_in}
use Rattle.item_reader.proofs.Collecting.{frame-collected}
use Rattle.item_reader.specs.Given.{entry_in}
use Rattle.item_reader.proofs.Giving.{other-taken, body-taken, other-entry, other-instance, tells-other}
use Rattle.item_reader.proofs.Giving.{file_end-item}
use Rattle.item_reader.proofs.Passing.{look-head}

-- ---- one byte more

-- a source that has passed the whole structure and then asked for one byte has drawn no further than the look
pub beyond-look : (outside : Outside) (c : Cursor) (p : Placed) (middle after : Position)
    → HasPassed outside c p
    → InFile outside c (λ h. bytes_drawn middle ≤ look h.order h.file h.before.place)
    → middle.at ≡ c.state.at + p.length → IsBounded middle 1 after
    → InFile outside c (λ h. bytes_drawn after ≤ look h.order h.file h.before.place)
beyond-look outside c p middle after passed few moved bounded = λ reading told.
    let far = look-head (here_in c.state reading.opened) p (passed.head reading told) passed.here in
    omega (arith, far, few reading told, bounded.few, moved)

-- there was none: the source stands still, at the end of the file
pub no_more : (first now : Outside) (start middle after : Position) (reading : Reading)
    → GoesOn first now start middle → Stands now middle → reading_at first.slots start.slot ≡ Some reading
    → PassesNext (reading_at now.slots middle.slot) middle after 1 false → middle.at ≤ after.at
    → after.at ≤ middle.at + 1 → (after.at ≡ middle.at) × (middle.at ≡ length reading.opened)
no_more first now start middle after reading goes stands told passes forward within =
    let here = at-now first now start middle reading goes stands told in
    let end : after.at ≡ length here.0.opened = passes.end refl here.0 here.1 in
    let short : after.at ≡ middle.at + 1 → ⊥ = λ moved. false≢true (passes.all.1 moved) in
    let still : after.at ≡ middle.at = omega (arith, short, forward, within) in
    (still, sym still ∙ end ∙ ap length here.2)

-- there was one: the file goes on
pub one_more : (first now : Outside) (start middle after : Position) (reading : Reading)
    → GoesOn first now start middle
    → Stands now middle → reading_at first.slots start.slot ≡ Some reading
    → PassesNext (reading_at now.slots middle.slot) middle after 1 true → middle.at < length reading.opened
one_more first now start middle after reading goes stands told passes =
    let here = at-now first now start middle reading goes stands told in
    let some : 1 ≤ length here.0.opened - middle.at = (passes.there here.0 here.1).0 refl in
    omega (arith, some, ap length here.2)

-- ---- what is given, or told

-- what taking it with the body that was brought answers, of each file that the cursor may read
pub end-takes : (s now : State) (p : Placed) (body bytes : List ℕ) (item : Given) (new : State) → now ≡ s
    → bytes ≡ body → InEachFile now p bytes (λ h. Answers h (Ok item) new)
    → InEachFile s p body (λ h. Takes h item new)
end-takes s now p body bytes item new same is answers =
    subst (λ x. InEachFile x p body (λ h. Takes h item new)) same
    (subst (λ l. InEachFile now p l (λ h. Takes h item new)) is answers)

-- the item is the end of the file, as it is given
end-item : (h : Here) (item : Given) (new : State) (takes : Takes h item new) → kind h ≡ FrEndOfFile
    → (takes.taken ≡ OtherItem (structure h))
    × ((at : ℕ) × (class : ℕ) × (size : ℕ) × (seek : ℕ) × (item ≡ given.FileEnd at class size seek))
end-item h item new takes is =
    let other : takes.taken ≡ OtherItem (structure h) = other-taken h item new takes FrEndOfFile is refl in (
      other,
      file_end-item h (structure h) item (tells-other h takes.taken item FrEndOfFile takes.tells other is),
    )

pub gives-end : (h : Here) (item : Given) (new : Cursor) (takes : Takes h item new.state) (p : Placed)
    → kind h ≡ FrEndOfFile → StandsIn h.order (place h) p new.own.items h.file
    → new.state.segment.order ≡ h.order → IsSound new.state → new.state.segment.pending ≡ []
    → new.state.numbering ≡ None → IsLooked h.order h.file new.state.at new.source.at new.looked
    → new.state.at ≡ length h.file → new.instance ≡ p.instance → Gives h item new
gives-end h item new takes p is stands order sound none frame looked ends instance =
    let found = end-item h item new.state takes is in
    record {
      takes = takes;
      body_is = ap (λ i. body_in (Some i) new.own.items new.state.segment) found.1.4
          ∙ body-taken h takes.taken p new.own.items found.0 (ap is_table_kind is) stands;
      entry_is = ap (λ i. entry_in (Some i) new.kept new.state.dictionary) found.1.4
          ∙ other-entry takes.taken (structure h) found.0;
      instance_is = other-instance h takes.taken p new.instance found.0 stands.placed instance;
      frame = subst (λ i. Collects h i (before_of new.state) new.state.numbering new.state.segment)
          (sym found.1.4)
          (frame-collected h.order new.state order sound frame none, frame);
      looked = looked;
      end = λ closed. ends;
    }

-- where the file goes on after it, the fault is that of the place after it
pub trailing-fault : (h : Here) (item : Given) (new : State) → Takes h item new → kind h ≡ FrEndOfFile
    → ClosesBy item new.closed → new.at < length h.file → (fault : Fault)
    → fault ≡ fault_at Trailing (new.at, 0) → Faults h fault
trailing-fault h item new takes is closes more fault told =
    let found = end-item h item new takes is in
    let closed : new.closed ≡ true = subst (λ i. ClosesBy i new.closed) found.1.4 closes in
    let next : Here = record h { before = before_of new } in
    let apart : (new.at == length h.file) ≡ false =
    ne_eqb new.at (length h.file) (λ same. omega (arith, more, same)) in
    let there : fault_here next ≡ Some fault =
    ap (λ b. fault_by b (new.at == length h.file) next) closed
    ∙ ap (λ b. fault_by true b next) apart
    ∙ ap Some (sym told) in
    inr (
      takes.taken,
      takes.judged,
      takes.is,
      sym (ap (λ (b : Before). b.closed) takes.after) ∙ closed,
      subst (λ b. fault_here (record h { before = b }) ≡ Some fault) takes.after there,
    )
