-- The lines of a file's first items are a prefix of its dump.
use Rattle.std.proofs.Common.{◌≡◌, ℕ, ◌+◌, ◌-◌, inl, inr, Bool, true, false, cond, List, [], ◌∷◌, ◌++◌, length}
use Rattle.std.proofs.Common.{take, Option, Some, None, refl, sym, ap, subst, ◌∙◌, arith}
use Rattle.std.proofs.lemmas.List.{append_assoc, append-nil}
use Rattle.scalar_types.specs.declared.Order.{Order}
use Rattle.file_grammar.specs.declared.fault.Fault.{Fault}
use Rattle.file_grammar.specs.Item.{Item, Before, nothing_yet, after}
use Rattle.file_grammar.specs.MayStand.{Stand, Begins}
use Rattle.file_grammar.proofs.Headers.{same_order, begins-unfaulted}
use Rattle.file_grammar.proofs.Chains.{IsEnd, no_item, same_item}
use Rattle.dumper.specs.Lines.{heading, item_text, items_text}
use Rattle.dumper.specs.Due.{lines_of, items_shown, IsDump}
use Rattle.dumper.proofs.OneDump.{one-dump}

-- ---- items

-- The lines of items and more are those of the items, and then those of the others from there on.
pub items_text-append : (order : Order) (file : List ℕ) (b : Before) (items others : List Item) (last : Before)
    → Stand order file b items last
    → items_text order b (items ++ others) ≡ items_text order b items ++ items_text order last others
items_text-append order file b [] others last stand = ap (λ b. items_text order b others) (sym stand)
items_text-append order file b (item ∷ items) others last stand =
    let first = item_text order b.dictionary item in
    ap (λ rest. first ++ rest) (items_text-append order file (after order b item) items others last stand.1)
    ∙ sym (append_assoc first (items_text order (after order b item) items) (items_text order last others))

-- One more item: the lines before, and its own.
pub items_text-push : (order : Order) (file : List ℕ) (b : Before) (items : List Item) (last : Before) (item : Item)
    → Stand order file b items last
    → items_text order b (items ++ item ∷ []) ≡ items_text order b items ++ item_text order last.dictionary item
items_text-push order file b items last item stand =
    items_text-append order file b items (item ∷ []) last stand
    ∙ ap (λ text. items_text order b items ++ text) (append-nil (item_text order last.dictionary item))

-- items that each may stand are the first of those that go to an end
first-items : (order : Order) (file : List ℕ) (b : Before) (items others : List Item) (last end : Before)
    → Stand order file b items last → Stand order file b others end → IsEnd order file end
    → (more : List Item) × (others ≡ items ++ more) × Stand order file last more end
first-items order file b [] others last end left right is_end =
    (others, refl, subst (λ (b : Before). Stand order file b others end) (sym left) right)
first-items order file b (item ∷ items) [] last end left right is_end =
    absurd (no_item order file b item left.0 (subst (IsEnd order file) right is_end))
first-items order file b (item ∷ items) (other ∷ others) last end left right is_end =
    let same : other ≡ item = same_item order file b other item right.0 left.0 in
    let P : Item → Type 0 = λ i. Stand order file (after order b i) others end in
    let moved : Stand order file (after order b item) others end = subst P same right.1 in
    let rest = first-items order file (after order b item) items others last end left.1 moved is_end in
    (rest.0, (λ i. same i ∷ rest.1 i), rest.2)

-- ---- the items shown

-- the last element left out
all-but-last : (items : List Item) (item : Item) (more : List Item)
    → take (length (items ++ item ∷ more) - 1) (items ++ item ∷ more) ≡ items ++ take (length more) (item ∷ more)
all-but-last [] item more = ap (λ n. take n (item ∷ more)) (let e : length (item ∷ more) - 1 ≡ length more = omega
    arith in e)
all-but-last (first ∷ items) item more =
    let e : length (first ∷ (items ++ item ∷ more)) - 1 ≡ length (items ++ item ∷ more) - 1 + 1 =
    by items in
    ap (λ n. take n (first ∷ (items ++ item ∷ more))) e ∙ grind (arith, all-but-last items item more)
  where
    by : (xs : List Item) → length (first ∷ (xs ++ item ∷ more)) - 1 ≡ length (xs ++ item ∷ more) - 1 + 1
    by [] = omega arith
    by (x ∷ xs) = omega arith

-- where the file goes on after some items, these are shown
shown-first : (order : Order) (file : List ℕ) (before : Before) (items more : List Item) (last : Before) (closed : Bool)
    → last.closed ≡ closed → before.closed ≡ false → Stand order file before more last
    → (rest : List Item) × (items_shown last (items ++ more) ≡ items ++ rest)
shown-first order file before items more last false is unclosed stand =
    (more, ap (λ closed. cond closed (take (length (items ++ more) - 1) (items ++ more)) (items ++ more)) is)
shown-first order file before items [] last true is unclosed stand =
    let same : last.closed ≡ before.closed = ap (λ (b : Before). b.closed) stand in absurd cc
shown-first order file before items (item ∷ more) last true is unclosed stand = (
  take (length more) (item ∷ more),
  ap (λ closed. cond closed (take (length (items ++ item ∷ more) - 1) (items ++ item ∷ more))
      (items ++ item ∷ more)) is
      ∙ all-but-last items item more,
)

-- ---- the lines

-- the lines of items and more begin with those of the items
lines-begin : (order other : Order) (file : List ℕ) (items rest : List Item) (before : Before) → order ≡ other
    → Stand order file nothing_yet items before
    → (more : List ℕ) × (lines_of other (items ++ rest) ≡ lines_of order items ++ more)
lines-begin order other file items rest before same stand =
    let more = items_text order before rest in (
      more,
      ap (λ o. lines_of o (items ++ rest)) (sym same)
          ∙ ap (λ text. heading order ++ text) (items_text-append order file nothing_yet items rest before stand)
          ∙ sym (append_assoc (heading order) (items_text order nothing_yet items) more),
    )

-- the same of a text that shows these items and more
open-first : (file : List ℕ) (order : Order) (items : List Item) (before : Before) (fault : Option Fault)
    (text : List ℕ) → Begins file order items before → before.closed ≡ false → IsDump file fault text
    → (more : List ℕ) × (text ≡ lines_of order items ++ more)
open-first file order items before None text begins unclosed dump =
    let whole = dump.whole in
    let orders : order ≡ dump.order = same_order _ order dump.order begins.header whole.begins.header in
    let P : Order → Type 0 = λ o. Stand o file nothing_yet items before in
    let longer = first-items dump.order file nothing_yet items dump.items before dump.last
    (subst P orders begins.stand) whole.begins.stand (inl (record { closed = whole.closed; ends = whole.ends })) in
    let lines = lines-begin order dump.order file items longer.0 before orders begins.stand in
    (lines.0, dump.is ∙ ap (lines_of dump.order) longer.1 ∙ lines.1)
open-first file order items before (Some fault) text begins unclosed (inl header) =
    absurd (begins-unfaulted file order items before fault begins header.0)
open-first file order items before (Some fault) text begins unclosed (inr until) =
    let end = until.is_fault in
    let orders : order ≡ end.order = same_order _ order end.order begins.header end.begins.header in
    let P : Order → Type 0 = λ o. Stand o file nothing_yet items before in
    let longer = first-items end.order file nothing_yet items end.items before end.last
    (subst P orders begins.stand) end.begins.stand (inr (fault, record { holds = end.holds })) in
    let shown = shown-first end.order file before items longer.0 end.last end.last.closed refl unclosed longer.2 in
    let lines = lines-begin order end.order file items shown.0 before orders begins.stand in (
      lines.0,
      until.is
          ∙ ap (λ items. lines_of end.order (items_shown end.last items)) longer.1
          ∙ ap (lines_of end.order) shown.1
          ∙ lines.1,
    )

-- A dump begins with the lines of the items before a place, where the end of the file is among them only if nothing
-- stands after it.
pub first-lines : (file : List ℕ) (order : Order) (items : List Item) (before : Before) (fault : Option Fault)
    (text : List ℕ) → Begins file order items before → (before.closed ≡ true → before.place ≡ length file)
    → IsDump file fault text → (more : List ℕ) × (text ≡ lines_of order items ++ more)
first-lines file order items before fault text begins end dump = by before.closed refl
  where
    by : (closed : Bool) → before.closed ≡ closed → (more : List ℕ) × (text ≡ lines_of order items ++ more)
    by false unclosed = open-first file order items before fault text begins unclosed dump
    by true closed =
        let whole : IsDump file None (lines_of order items) = record {
          order = order;
          items = items;
          last = before;
          whole = record { begins = begins; closed = closed; ends = end closed };
          is = refl;
        } in (
          [],
          (one-dump file fault None text (lines_of order items) dump whole).1
              ∙ sym (append-nil (lines_of order items)),
        )
