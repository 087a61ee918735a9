-- Along the items of a file looks reach no less, and its frames end one after another.
use Rattle.std.proofs.Common.{◌≡◌, ℕ, suc, ◌+◌, ◌<◌, ◌≤◌, ◌⊎◌, inl, inr, List, [], ◌∷◌, ◌++◌, sum_by, refl, sym}
use Rattle.std.proofs.Common.{ap, subst, ◌∙◌, arith}
use Rattle.std.proofs.lemmas.Bool.{cases_lt}
use Rattle.std.proofs.lemmas.List.Sums.{sum_by-cons}
use Rattle.scalar_types.specs.declared.Order.{Order}
use Rattle.dictionary.specs.declared.entries.Element.{Element}
use Rattle.dictionary.specs.declared.entries.Entry.{Entry}
use Rattle.file_grammar.specs.declared.kind.Kind.{Kind}
use Rattle.file_grammar.specs.declared.kind.Kind.TheVariants.{FrSH, FrSE, FrameH, FrEndOfFrame, FrTOC, FrEndOfFile}
use Rattle.file_grammar.specs.declared.kind.Kind.TheVariants.{Other}
use Rattle.file_grammar.specs.Structure.{Structure, size_of, end_of, common_at, structure_at, StandsWhole}
use Rattle.file_grammar.specs.Kind.{kind_of}
use Rattle.file_grammar.specs.Record.{weight_of}
use Rattle.file_grammar.specs.Described.{longest_run}
use Rattle.file_grammar.specs.Item.{Item, EntryItem, OtherItem, Before, after_kind, after}
use Rattle.file_grammar.specs.MayStand.{MayStand, EntryMayStand, KindMayStand, Stand}
use Rattle.file_grammar.proofs.Advance.{place-after_kind}
use Rattle.file_grammar.proofs.Entries.{entry-again}
use Rattle.file_grammar.proofs.Chains.{IsEnd, no_item, same_item}
use Rattle.file_grammar.proofs.Runs.{structures_of}
use Rattle.item_reader.specs.Looked.{look, IsAfterEntry, IsWithinLook}
use Rattle.item_reader.proofs.Looking.{look-least, look-most}

-- ---- looks

-- a place after a structure has no lesser look
past-structure : (order : Order) (file : List ℕ) (s : Structure) (next : ℕ) → StandsWhole order file s
    → end_of s ≤ next → look order file s.at ≤ look order file next
past-structure order file s next stands past =
    let told : (common_at order file s.at).length ≡ size_of s = stands.whole in
    omega (arith, past, told, look-most order file s.at (omega (arith, told)), look-least order file next)

-- the bytes of a run are those of its structures
run-bytes : (run : List (Structure × Element))
    → sum_by (λ (e : Structure × Element). size_of e.0) run ≡ sum_by size_of (structures_of run)
run-bytes [] = refl
run-bytes (x ∷ xs) =
    sum_by-cons (λ (e : Structure × Element). size_of e.0) x xs
    ∙ ap (λ n. size_of x.0 + n) (run-bytes xs)
    ∙ sym (sum_by-cons size_of x.0 (structures_of xs))

-- the place after the entry that stands at a place is the one after that item
entry-end : (order : Order) (file : List ℕ) (b : Before) (head : Structure) (run : List Structure) (entry : Entry)
    (end : ℕ) → EntryMayStand order file b head run entry → IsAfterEntry order file b.place end
    → end ≡ end_of head + sum_by size_of run
entry-end order file b head run entry end may is =
    let whole : head ≡ structure_at order file b.place =
    may.described.stands.is ∙ ap (structure_at order file) may.here in
    is.end_is
    ∙ ap (λ (s : Structure). end_of s
    + sum_by (λ (e : Structure × Element). size_of e.0) (longest_run order file (end_of s))) (sym whole)
    ∙ ap (λ n. end_of head + n)
    (run-bytes (longest_run order file (end_of head))
    ∙ ap (sum_by size_of) (entry-again order file head run entry may.described).1)

-- what is looked at where an item may stand is within the look of the place after it
next-look : (order : Order) (file : List ℕ) (b : Before) (item : Item) (n : ℕ) → MayStand order file b item
    → IsWithinLook order file b.place n → n ≤ look order file (after order b item).place
next-look order file b (EntryItem head run entry) n may (inl within) =
    let past = past-structure order file head (end_of head + sum_by size_of run) may.1.described.stands
    (omega arith) in
    let here : look order file head.at ≡ look order file b.place = ap (look order file) may.1.here in
    omega (arith, within, here, past)
next-look order file b (EntryItem head run entry) n may (inr (end, is, within)) =
    subst (λ place. n ≤ look order file place) (entry-end order file b head run entry end may.1 is) within
next-look order file b (OtherItem s) n may (inl within) =
    let next : Before = after order b (OtherItem s) in
    let place : next.place ≡ end_of s =
    place-after_kind (kind_of b.dictionary s.class) b s (weight_of order b.dictionary s) in
    let past = past-structure order file s next.place may.1.stands (omega (arith, place)) in
    let here : look order file s.at ≡ look order file b.place = ap (look order file) may.1.here in
    omega (arith, within, here, past)
next-look order file b (OtherItem s) n may (inr (end, is, within)) =
    let whole : s ≡ structure_at order file b.place =
    may.1.stands.is ∙ ap (structure_at order file) may.1.here in
    let class : s.class ≡ 1 = ap (λ (t : Structure). t.class) whole ∙ is.class in
    let none : ⊥ = subst (λ class. KindMayStand (kind_of b.dictionary class) order b s) class may.1.kind in
    absurd none

-- What is looked at on a place is so on each place after items that stand there.
pub within-along : (order : Order) (file : List ℕ) (b last : Before) (items : List Item) (n : ℕ)
    → Stand order file b items last → IsWithinLook order file b.place n → IsWithinLook order file last.place n
within-along order file b last [] n stand within =
    subst (λ (x : Before). IsWithinLook order file x.place n) (sym stand) within
within-along order file b last (item ∷ items) n stand within =
    within-along order file (after order b item) last items n stand.1
    (inl (next-look order file b item n stand.0 within))

-- ---- items to an end

-- after items that each may stand go those that lead to the end
pub stand-rest : (order : Order) (file : List ℕ) (b last end : Before) (items others : List Item)
    → Stand order file b items last → Stand order file b others end → IsEnd order file end
    → (more : List Item) × Stand order file last more end
stand-rest order file b last end [] others left right is_end =
    (others, subst (λ (x : Before). Stand order file x others end) (sym left) right)
stand-rest order file b last end (item ∷ items) [] left right is_end =
    absurd (no_item order file b item left.0 (subst (IsEnd order file) right is_end))
stand-rest order file b last end (item ∷ items) (other ∷ others) left right is_end =
    let P : Item → Type 0 = λ i. Stand order file (after order b i) others end in
    stand-rest order file (after order b item) last end items others left.1
    (subst P (same_item order file b other item right.0 left.0) right.1) is_end

-- items in two parts
pub stand-parts : (order : Order) (file : List ℕ) (b last : Before) (items more : List Item)
    → Stand order file b (items ++ more) last
    → (mid : Before) × Stand order file b items mid × Stand order file mid more last
stand-parts order file b last [] more stand = (b, refl, stand)
stand-parts order file b last (item ∷ items) more stand =
    let rest = stand-parts order file (after order b item) last items more stand.1 in
    (rest.0, (stand.0, rest.1), rest.2)

-- ---- frames

-- an item ends one frame at most
kind-frames : (kind : Kind) (b : Before) (s : Structure) (weight : ℕ)
    → (b.frames ≤ (after_kind kind b s weight).frames) × ((after_kind kind b s weight).frames ≤ b.frames + 1)
kind-frames FrSH b s weight = (omega arith, omega arith)
kind-frames FrSE b s weight = (omega arith, omega arith)
kind-frames FrameH b s weight = (omega arith, omega arith)
kind-frames FrEndOfFrame b s weight = (omega arith, omega arith)
kind-frames FrTOC b s weight = (omega arith, omega arith)
kind-frames FrEndOfFile b s weight = (omega arith, omega arith)
kind-frames Other b s weight = (omega arith, omega arith)

item-frames : (order : Order) (b : Before) (item : Item)
    → (b.frames ≤ (after order b item).frames) × ((after order b item).frames ≤ b.frames + 1)
item-frames order b (EntryItem head run entry) = (omega arith, omega arith)
item-frames order b (OtherItem s) =
    kind-frames (kind_of b.dictionary s.class) b s (weight_of order b.dictionary s)

-- among items from a place on the frame of a number ends; what was looked at on that place is within the look there
pub record EndsFrame (order : Order) (file : List ℕ) (b : Before) (number : ℕ) : Type 0 where
  pub earlier : List Item
  pub taken : Item
  pub mid : Before
  pub stand : Stand order file b earlier mid
  pub may : MayStand order file mid taken
  pub before : mid.frames ≡ number
  pub with_it : (after order mid taken).frames ≡ suc number
  pub within : (n : ℕ) → IsWithinLook order file b.place n → n ≤ look order file (after order mid taken).place

pub frame-ends : (order : Order) (file : List ℕ) (b end : Before) (items : List Item) (number : ℕ)
    → Stand order file b items end → b.frames ≤ number → number < end.frames → EndsFrame order file b number
frame-ends order file b end [] number stand least less =
    let same : end.frames ≡ b.frames = ap (λ (x : Before). x.frames) stand in
    absurd (omega (arith, same, least, less))
frame-ends order file b end (item ∷ items) number stand least less =
    by (cases_lt number (after order b item).frames)
    (λ later. frame-ends order file (after order b item) end items number stand.1 later less)
  where
    step : (b.frames ≤ (after order b item).frames) × ((after order b item).frames ≤ b.frames + 1)
    step = item-frames order b item

    by : (number < (after order b item).frames) ⊎ ((after order b item).frames ≤ number)
        → ((after order b item).frames ≤ number → EndsFrame order file (after order b item) number)
        → EndsFrame order file b number
    by (inl here) after_it = record {
      earlier = [];
      taken = item;
      mid = b;
      stand = refl;
      may = stand.0;
      before = omega (arith, step, here, least);
      with_it = omega (arith, step, here, least);
      within = λ n within. next-look order file b item n stand.0 within;
    }
    by (inr later) after_it =
        let rest = after_it later in
        record {
          earlier = item ∷ rest.earlier;
          taken = rest.taken;
          mid = rest.mid;
          stand = (stand.0, rest.stand);
          may = rest.may;
          before = rest.before;
          with_it = rest.with_it;
          within = λ n within. rest.within n (inl (next-look order file b item n stand.0 within));
        }
