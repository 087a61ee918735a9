-- Items printed one after another: how far the lines of a file were printed.
use Rattle.std.proofs.Common.{◌≡◌, ℕ, ◌-◌, ◌<◌, ◌≤◌, Bool, true, false, cond, eqb, List, [], ◌∷◌, ◌++◌, length}
use Rattle.std.proofs.Common.{take, Some}
use Rattle.std.proofs.Common.{None, Result, Ok, Err, inl, inr, refl, sym, ap, subst, ◌∙◌, arith, length-append}
use Rattle.std.proofs.lemmas.Bool.{eqb-false}
use Rattle.std.proofs.lemmas.List.{append_assoc, append-nil, take-append-le, take_all}
use Rattle.std.proofs.lemmas.Option.{same_Some}
use Rattle.scalar_types.specs.declared.Order.{Order}
use Rattle.frame_outside.specs.Sink.{Output, Appends}
use Rattle.frame_outside.specs.declared.traits.ShelfError.{ShelfError}
use Rattle.frame_outside.specs.declared.traits.ShelfError.TheVariants.{Failed, NoMemory}
use Rattle.file_grammar.specs.declared.fault.Fault.{Fault}
use Rattle.file_grammar.specs.Item.{Item, Before, nothing_yet, after}
use Rattle.file_grammar.specs.MayStand.{MayStand, Stand, Begins}
use Rattle.file_grammar.specs.Fault.{Here, place, fault_by, fault_here}
use Rattle.file_grammar.specs.Steps.{item_here}
use Rattle.file_grammar.proofs.Advance.{moves}
use Rattle.file_grammar.proofs.Standing.{may-stand}
use Rattle.item_reader.specs.declared.item.Item.{Item as Given}
use Rattle.item_reader.specs.declared.item.Item.TheVariants as given
use Rattle.item_reader.specs.declared.item.ReadError.{ReadError}
use Rattle.item_reader.specs.declared.item.ReadError.TheVariants as read
use Rattle.item_reader.specs.Reader.{Reader, HasRead, HasEnded, IsFileEnd, Goes, Faults}
use Rattle.item_reader.proofs.ReadOn.{begins-more}
use Rattle.dumper.specs.declared.page.Page.{Page}
use Rattle.dumper.specs.Errors.{read_error, shelf_error}
use Rattle.dumper.specs.Page.{AppendsPrefix, Carries, CarriesOrStops, pending}
use Rattle.dumper.specs.Lines.{heading, item_text, items_text}
use Rattle.dumper.specs.Due.{lines_of, items_shown}
use Rattle.dumper.specs.Given.{given_text}
use Rattle.dumper.specs.Printing.{PrintsOn, PrintsAll, PrintsUntil, PrintsSome, PrintsLines}
use Rattle.dumper.proofs.FirstLines.{items_text-push}
use Rattle.dumper.proofs.GivenLines.{given-lines}
use Rattle.dumper.proofs.Pages.{carried-then, carries-is, prints-then}

-- ---- what was carried so far

-- what was carried is a prefix of what was pending and the text
pub carried-prefix : (old new : Output) (p q t : List ℕ) → Carries old new p q t → AppendsPrefix old new (p ++ t)
carried-prefix old new p q t g = record {
  count = length g.put;
  appends =
      subst (Appends old new)
      (sym (ap (take (length g.put)) (sym g.split) ∙ take-append-le (length g.put) g.put q (omega arith)
      ∙ take_all (length g.put) g.put (omega arith)))
      g.appends;
}

-- a step that stopped has put a prefix
pub stopped-prefix : {X : Type 0} (old new : Output) (p q t : List ℕ) (e : ShelfError) (result : Result X ShelfError)
    → result ≡ Err e → CarriesOrStops old new p q t result → AppendsPrefix old new (p ++ t)
stopped-prefix old new p q t e (Ok x) is g = absurd cc
stopped-prefix old new p q t e (Err Failed) is g = g.0
stopped-prefix old new p q t e (Err NoMemory) is g = g

-- a sink's faults never fall
pub faults-grow : {X : Type 0} (old new : Output) (p q t : List ℕ) (result : Result X ShelfError)
    → CarriesOrStops old new p q t result → old.faults ≤ new.faults
faults-grow old new p q t (Ok x) g = g.appends.faults
faults-grow old new p q t (Err Failed) g = g.0.appends.faults
faults-grow old new p q t (Err NoMemory) g = g.appends.faults

-- ---- the first line

-- no item stands before the place after the header
none-begun : (file : List ℕ) (r : Reader) → HasRead file r → r.before ≡ nothing_yet
    → Begins file r.order [] r.before
none-begun file r read begun =
    record { size = read.begins.size; header = read.begins.header; stand = begun }

-- the first line is that of no items
heading-alone : (order : Order) → heading order ≡ lines_of order []
heading-alone order = sym (append-nil (heading order))

-- the first line was printed
pub heading-on : (file : List ℕ) (r : Reader) (old new : Output) (p q : List ℕ) → HasRead file r
    → r.before ≡ nothing_yet → Carries old new p q (heading r.order) → PrintsOn file r.order r.before old new p q
heading-on file r old new p q read begun g = record {
  items = [];
  begins = none-begun file r read begun;
  carries = subst (Carries old new p q) (heading-alone r.order) g;
}

-- a prefix of the lines was printed where a call was refused
refused-some : (file : List ℕ) (order : Order) (e : ShelfError) (old new : Output) (page now : Page)
    → PrintsSome file order old new (pending page) → PrintsLines file order old new page now (Err (shelf_error e))
refused-some file order Failed old new page now some = some
refused-some file order NoMemory old new page now some = some

-- or it was cut
pub heading-cut : {X : Type 0} (file : List ℕ) (r : Reader) (old new : Output) (page now : Page) (q : List ℕ)
    (e : ShelfError) (result : Result X ShelfError) → result ≡ Err e → HasRead file r → r.before ≡ nothing_yet
    → CarriesOrStops old new (pending page) q (heading r.order) result
    → PrintsLines file r.order old new page now (Err (shelf_error e))
heading-cut file r old new page now q e result is read begun g =
    refused-some file r.order e old new page now (record {
      items = [];
      last = r.before;
      begins = none-begun file r read begun;
      end = λ closed. let open_still : r.before.closed ≡ false = ap (λ (b : Before). b.closed) begun in absurd cc;
      appends = subst (AppendsPrefix old new) (ap (λ t. pending page ++ t) (heading-alone r.order))
          (stopped-prefix old new (pending page) q (heading r.order) e result is g);
    })

-- ---- one more item

-- an item that the reader has taken, after those so far
pub record HasTaken (file : List ℕ) (order : Order) (new : Reader) (item : Given) (lines : List ℕ) : Type 0 where
  pub items : List Item
  pub begins : Begins file order items new.before
  pub lines_are : lines_of order items ≡ lines ++ given_text new item

one-more : (file : List ℕ) (order : Order) (items : List Item) (r new : Reader) (item : Given) → r.order ≡ order
    → new.order ≡ r.order → Begins file order items r.before → Goes file r item new
    → HasTaken file order new item (lines_of order items)
one-more file order items r new item is same begins goes =
    let may : MayStand order file r.before goes.taken =
    subst (λ o. MayStand o file r.before goes.taken) is goes.stands in
    let next : new.before ≡ after order r.before goes.taken =
    goes.before ∙ ap (λ o. after o r.before goes.taken) is in
    let text : given_text new item ≡ item_text order r.before.dictionary goes.taken =
    given-lines file r item new goes same ∙ ap (λ o. item_text o r.before.dictionary goes.taken) is in
    record {
      items = items ++ goes.taken ∷ [];
      begins = subst (Begins file order (items ++ goes.taken ∷ [])) (sym next)
          (begins-more file order items r.before goes.taken begins may);
      lines_are =
          ap (λ t. heading order ++ t) (items_text-push order file nothing_yet items r.before goes.taken begins.stand)
          ∙ sym (append_assoc (heading order) (items_text order nothing_yet items)
          (item_text order r.before.dictionary goes.taken))
          ∙ ap (λ t. lines_of order items ++ t) (sym text);
    }

-- it was printed
pub printed-more : (file : List ℕ) (order : Order) (old mid new : Output) (p q s : List ℕ) (r next : Reader)
    (item : Given) → r.order ≡ order → next.order ≡ r.order → PrintsOn file order r.before old mid p q
    → Goes file r item next → Carries mid new q s (given_text next item) → PrintsOn file order next.before old new p s
printed-more file order old mid new p q s r next item is same on goes g =
    let taken = one-more file order on.items r next item is same on.begins goes in
    record {
      items = taken.items;
      begins = taken.begins;
      carries = carries-is old new p s (lines_of order on.items ++ given_text next item) (lines_of order taken.items)
          (sym taken.lines_are)
          (carried-then old mid new p q s (lines_of order on.items) (given_text next item) on.carries g);
    }

-- or its lines were cut
pub printed-cut : {X : Type 0} (file : List ℕ) (order : Order) (old mid new : Output) (page now : Page) (q s : List ℕ)
    (r next : Reader) (item : Given) (e : ShelfError) (result : Result X ShelfError) → result ≡ Err e
    → r.order ≡ order → next.order ≡ r.order → PrintsOn file order r.before old mid (pending page) q
    → Goes file r item next → (next.before.closed ≡ true → next.before.place ≡ length file)
    → CarriesOrStops mid new q s (given_text next item) result
    → PrintsLines file order old new page now (Err (shelf_error e))
printed-cut file order old mid new page now q s r next item e result stopped is same on goes end g =
    let taken = one-more file order on.items r next item is same on.begins goes in
    refused-some file order e old new page now (record {
      items = taken.items;
      last = next.before;
      begins = taken.begins;
      end = end;
      appends =
          subst (AppendsPrefix old new) (ap (λ t. pending page ++ t) (sym taken.lines_are))
          (stopped-prefix old new (pending page) s (lines_of order on.items ++ given_text next item) e result stopped
          (prints-then old mid new (pending page) q s (lines_of order on.items) (given_text next item) result
          on.carries g));
    })

-- ---- the end of the file

-- where the file has ended, what stands before the place that was reached ends it
pub ended-place : (file : List ℕ) (r : Reader) → HasEnded file r → r.before.place ≡ length file
ended-place file r ended = ended.1.ends

-- all lines were printed
pub printed-all : (file : List ℕ) (order : Order) (old new : Output) (p q : List ℕ) (next : Reader)
    → PrintsOn file order next.before old new p q → HasEnded file next → PrintsAll file order old new p q
printed-all file order old new p q next on ended = record {
  items = on.items;
  last = next.before;
  whole = record { begins = on.begins; closed = ended.1.closed; ends = ended.1.ends };
  carries = on.carries;
}

-- ---- the reader's fault

-- items end within the file
place-within : (order : Order) (file : List ℕ) (b : Before) (items : List Item) (last : Before)
    → b.place ≤ length file → Stand order file b items last → last.place ≤ length file
place-within order file b [] last within stand =
    subst (λ (x : Before). x.place ≤ length file) (sym stand) within
place-within order file b (item ∷ items) last within stand =
    place-within order file (after order b item) items last (moves order file b item stand.0).within stand.1

-- the item at a place without fault may stand there
may-by : (ends : Bool) (h : Here) (item : Item) → h.before.closed ≡ false → place h ≤ length h.file
    → eqb (place h) (length h.file) ≡ ends → fault_by false ends h ≡ None → item_here h ≡ Some item
    → MayStand h.order h.file h.before item
may-by true h item unclosed within is none found = absurd cc
may-by false h item unclosed within is none found =
    let more : place h < length h.file =
    below (place h) (length h.file) within (eqb-false (place h) (length h.file) is) in
    let may = may-stand h unclosed more none in
    subst (MayStand h.order h.file h.before) (same_Some may.0 item (sym may.1 ∙ found)) may.2
  where
    below : (m n : ℕ) → m ≤ n → (m ≡ n → ⊥) → m < n
    below m n within apart = omega (arith, within, apart)

may-here : (h : Here) (item : Item) → h.before.closed ≡ false → place h ≤ length h.file → fault_here h ≡ None
    → item_here h ≡ Some item → MayStand h.order h.file h.before item
may-here h item unclosed within none found =
    may-by (eqb (place h) (length h.file)) h item unclosed within refl
    (ap (λ (closed : Bool). fault_by closed (eqb (place h) (length h.file)) h) (sym unclosed) ∙ none) found

-- the items before the one that closes a file
shown-open : (order : Order) (b : Before) (items : List Item) → b.closed ≡ false → items ≡ items_shown b items
shown-open order b items unclosed = ap (λ closed. cond closed (take (length items - 1) items) items) (sym unclosed)

shown-closed : (last : Before) (items : List Item) (item : Item) → last.closed ≡ true
    → items ≡ items_shown last (items ++ item ∷ [])
shown-closed last items item closed =
    let count : length (items ++ item ∷ []) - 1 ≡ length items = omega (arith, length-append items (item ∷ [])) in
    sym (ap (λ closed. cond closed (take (length (items ++ item ∷ []) - 1) (items ++ item ∷ [])) (items ++ item ∷ []))
    closed
    ∙ ap (λ n. take n (items ++ item ∷ [])) count ∙ take-append-le (length items) items (item ∷ []) (omega arith)
    ∙ take_all (length items) items (omega arith))

-- the fault stands at the place that was reached, or after the item that closes the file there
found-fault : (file : List ℕ) (order : Order) (before : Before) (fault : Fault) (old new : Output) (p q : List ℕ)
    → PrintsOn file order before old new p q → before.closed ≡ false
    → Faults (record { order = order; file = file; before = before }) fault
    → PrintsUntil file order fault old new p q
found-fault file order before fault old new p q on unclosed (inl holds) = record {
  is_fault = record { order = order; items = on.items; last = before; begins = on.begins; holds = holds };
  order_is = refl;
  carries = subst (λ items. Carries old new p q (lines_of order items)) (shown-open order before on.items unclosed)
      on.carries;
}
found-fault file order before fault old new p q on unclosed (inr (item, none, found, closes, holds)) =
    let within : before.place ≤ length file =
    place-within order file nothing_yet on.items before on.begins.size on.begins.stand in
    let may : MayStand order file before item =
    may-here (record { order = order; file = file; before = before }) item unclosed within none found in
    record {
      is_fault = record {
        order = order;
        items = on.items ++ item ∷ [];
        last = after order before item;
        begins = begins-more file order on.items before item on.begins may;
        holds = holds;
      };
      order_is = refl;
      carries = subst (λ items. Carries old new p q (lines_of order items))
          (shown-closed (after order before item) on.items item closes) on.carries;
    }

-- a prefix of the lines was printed
some-of : (file : List ℕ) (order : Order) (r : Reader) (old new : Output) (page now : Page)
    → r.before.closed ≡ false → PrintsOn file order r.before old new (pending page) (pending now)
    → PrintsSome file order old new (pending page)
some-of file order r old new page now unclosed on = record {
  items = on.items;
  last = r.before;
  begins = on.begins;
  end = λ closed. absurd cc;
  appends = carried-prefix old new (pending page) (pending now) (lines_of order on.items) on.carries;
}

-- The reader gives no further item: its fault, or a prefix of the lines was printed.
pub unread : (file : List ℕ) (order : Order) (r : Reader) (error : ReadError) (old new : Output) (page now : Page)
    → r.order ≡ order → r.before.closed ≡ false → PrintsOn file order r.before old new (pending page) (pending now)
    → ((fault : Fault) → error ≡ read.Fault fault
    → Faults (record { order = r.order; file = file; before = r.before }) fault)
    → PrintsLines file order old new page now (Err (read_error error))
unread file order r (read.Fault fault) old new page now is unclosed on faults =
    found-fault file order r.before fault old new (pending page) (pending now) on unclosed
    (subst (λ o. Faults (record { order = o; file = file; before = r.before }) fault) is (faults fault refl))
unread file order r read.Device old new page now is unclosed on faults = some-of file order r old new page now unclosed
    on
unread file order r read.NoMemory old new page now is unclosed on faults = some-of file order r old new page now
    unclosed on

-- ---- an item that is no end

-- an item that is no end of the file, as code finds it
pub goes-on : (item : Given) → ((at class length seek : ℕ) → item ≡ given.FileEnd at class length seek → ⊥)
    → IsFileEnd item → ⊥
goes-on (given.Entry at class changed) other end = absurd end
goes-on (given.Plain at class instance node) other end = absurd end
goes-on (given.FrameEnd at class) other end = absurd end
goes-on (given.Table at class length) other end = absurd end
goes-on (given.FileEnd at class length seek) other end = other at class length seek refl

-- after such an item the end of the file does not stand
pub unclosed-by : (item : Given) (closed : Bool) → (closed ≡ true → IsFileEnd item) → (IsFileEnd item → ⊥)
    → closed ≡ false
unclosed-by item true ends none = absurd (none (ends refl))
unclosed-by item false ends none = refl
