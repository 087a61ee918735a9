-- The fault that a reader finds, after the frames that it has given.
use Rattle.std.proofs.Common.{◌≡◌, ℕ, ◌<◌, ◌≤◌, Bool, true, false, eqb, List, [], ◌∷◌, ◌++◌, length, map, Some}
use Rattle.std.proofs.Common.{None, inl, inr, refl, sym, ap, subst, ◌∙◌, arith}
use Rattle.std.proofs.lemmas.Bool.{eqb-false}
use Rattle.std.proofs.lemmas.List.{append-nil}
use Rattle.std.proofs.lemmas.Option.{same_Some}
use Rattle.scalar_types.specs.declared.Order.{Order}
use Rattle.file_grammar.specs.declared.fault.Fault.{Fault}
use Rattle.file_grammar.specs.declared.kind.Kind.{Kind}
use Rattle.file_grammar.specs.declared.kind.Kind.TheVariants.{FrSH, FrSE, FrameH, FrEndOfFrame, FrTOC, FrEndOfFile}
use Rattle.file_grammar.specs.declared.kind.Kind.TheVariants.{Other}
use Rattle.file_grammar.specs.Structure.{Structure}
use Rattle.file_grammar.specs.Kind.{kind_of}
use Rattle.file_grammar.specs.Record.{weight_of}
use Rattle.file_grammar.specs.Item.{Item, EntryItem, OtherItem, Before, nothing_yet, after_kind, after}
use Rattle.file_grammar.specs.MayStand.{MayStand, Stand, Begins}
use Rattle.file_grammar.specs.Fault.{Here, place, fault_by, fault_here}
use Rattle.file_grammar.specs.Steps.{item_here}
use Rattle.file_grammar.proofs.Advance.{moves}
use Rattle.file_grammar.proofs.Standing.{may-stand}
use Rattle.frame_content.specs.Frames.{Frame}
use Rattle.file_content.specs.Stored.{frame_of_kind, frame_ended, structures_brought, frames_in}
use Rattle.file_content.specs.Contents.{content_frame}
use Rattle.file_content.proofs.Brought.{frames-push}
use Rattle.item_reader.specs.Reader.{Faults}
use Rattle.item_reader.proofs.ReadOn.{begins-more}
use Rattle.frame_reader.specs.Gives.{Breaks, Gives, frames_among}

-- ---- what stands at a place without fault

-- items end within the file
place-within : (order : Order) (file : List ℕ) (b : Before) (items : List Item) (last : Before)
    → b.place ≤ length file → Stand order file b items last → last.place ≤ length file
place-within order file b [] last within stand =
    subst (λ (x : Before). x.place ≤ length file) (sym stand) within
place-within order file b (item ∷ items) last within stand =
    place-within order file (after order b item) items last (moves order file b item stand.0).within stand.1

-- the item at a place without fault may stand there
may-by : (ends : Bool) (h : Here) (item : Item) → h.before.closed ≡ false → place h ≤ length h.file
    → eqb (place h) (length h.file) ≡ ends → fault_by false ends h ≡ None → item_here h ≡ Some item
    → MayStand h.order h.file h.before item
may-by true h item unclosed within is none found = absurd cc
may-by false h item unclosed within is none found =
    let more : place h < length h.file =
    below (place h) (length h.file) within (eqb-false (place h) (length h.file) is) in
    let may = may-stand h unclosed more none in
    subst (MayStand h.order h.file h.before) (same_Some may.0 item (sym may.1 ∙ found)) may.2
  where
    below : (m n : ℕ) → m ≤ n → (m ≡ n → ⊥) → m < n
    below m n within apart = omega (arith, within, apart)

may-here : (h : Here) (item : Item) → h.before.closed ≡ false → place h ≤ length h.file → fault_here h ≡ None
    → item_here h ≡ Some item → MayStand h.order h.file h.before item
may-here h item unclosed within none found =
    may-by (eqb (place h) (length h.file)) h item unclosed within refl
    (ap (λ (closed : Bool). fault_by closed (eqb (place h) (length h.file)) h) (sym unclosed) ∙ none) found

-- ---- the item that closes a file

-- brings no frame
closing-alone : (k : Kind) (b : Before) (s : Structure) (weight : ℕ) → b.closed ≡ false
    → (after_kind k b s weight).closed ≡ true → frame_of_kind k b s ≡ []
closing-alone FrSH b s weight unclosed closes = refl
closing-alone FrSE b s weight unclosed closes = refl
closing-alone FrameH b s weight unclosed closes = refl
closing-alone FrEndOfFrame b s weight unclosed closes = absurd cc
closing-alone FrTOC b s weight unclosed closes = refl
closing-alone FrEndOfFile b s weight unclosed closes = refl
closing-alone Other b s weight unclosed closes = refl

closing-brings : (order : Order) (b : Before) (item : Item) → b.closed ≡ false → (after order b item).closed ≡ true
    → structures_brought frame_ended b item ≡ []
closing-brings order b (EntryItem head run entry) unclosed closes = refl
closing-brings order b (OtherItem s) unclosed closes =
    closing-alone (kind_of b.dictionary s.class) b s (weight_of order b.dictionary s) unclosed closes

-- ---- the fault that is found

-- it stands at the place that was reached, or after the item that closes the file there
pub fault-given : (file : List ℕ) (order : Order) (items : List Item) (before : Before) (frames : List Frame)
    (fault : Fault) → Begins file order items before → frames ≡ frames_among order items → before.closed ≡ false
    → Faults (record { order = order; file = file; before = before }) fault → Gives file frames (Breaks fault)
fault-given file order items before frames fault begins are unclosed (inl holds) =
    inr (record {
      is_fault = record { order = order; items = items; last = before; begins = begins; holds = holds };
      frames_are = are;
    })
fault-given file order items before frames fault begins are unclosed (inr (item, none, found, closes, holds)) =
    let within : before.place ≤ length file =
    place-within order file nothing_yet items before begins.size begins.stand in
    let may : MayStand order file before item =
    may-here (record { order = order; file = file; before = before }) item unclosed within none found in
    let same : frames_among order (items ++ item ∷ []) ≡ frames_among order items =
    ap (map (content_frame order)) (frames-push file order items before item begins
    ∙ ap (λ frames. frames_in order items ++ frames) (closing-brings order before item unclosed closes)
    ∙ append-nil (frames_in order items)) in
    inr (record {
      is_fault = record {
        order = order;
        items = items ++ item ∷ [];
        last = after order before item;
        begins = begins-more file order items before item begins may;
        holds = holds;
      };
      frames_are = are ∙ sym same;
    })
