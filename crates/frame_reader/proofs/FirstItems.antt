-- The items that a reader has given are the first of the file's, and so are the frames among them.
use Rattle.std.proofs.Common.{◌≡◌, ℕ, List, [], ◌∷◌, ◌++◌, ◌⊎◌, inl, inr, map, refl, sym, ap, subst, ◌∙◌}
use Rattle.std.proofs.lemmas.List.{append_assoc, map-append}
use Rattle.std.specs.List.{AllZip}
use Rattle.scalar_types.specs.declared.Order.{Order}
use Rattle.rooted_graph.proofs.Ends.{same_refl}
use Rattle.rooted_graph.proofs.Queues.{order_exists}
use Rattle.file_grammar.specs.declared.fault.Fault.{Fault}
use Rattle.file_grammar.specs.Structure.{Structure}
use Rattle.file_grammar.specs.Item.{Item, Before, nothing_yet, after}
use Rattle.file_grammar.specs.MayStand.{Stand, Begins}
use Rattle.file_grammar.specs.Fault.{IsFirstFault}
use Rattle.file_grammar.specs.Laws.{WellFormed}
use Rattle.file_grammar.proofs.Headers.{same_order, begins-unfaulted}
use Rattle.file_grammar.proofs.Chains.{IsEnd, no_item, same_item}
use Rattle.file_grammar.proofs.OneAnswer.{not_both, faults_unique, items_before_unique, each_judged}
use Rattle.frame_content.specs.Frames.{Frame}
use Rattle.file_content.specs.Stored.{structures_brought, brought_in, frame_ended, frames_in}
use Rattle.file_content.specs.Contents.{content_frame}
use Rattle.canonical_file.specs.declared.closing.Closing.{Closing}
use Rattle.canonical_file.specs.Contents.{Content}
use Rattle.canonical_file.specs.Ordered.{frame_graph, ordered as in_its_order, IsInOrder}
use Rattle.canonical_file.proofs.OneOrder.{same_in_orders}
use Rattle.canonical_laws.specs.Content.{closing_by}
use Rattle.canonical_laws.proofs.TellingApart.{one_content}
use Rattle.frame_reader.specs.Gives.{Ending, Closes, Breaks, Gives, frames_among}
use Rattle.frame_reader.specs.Given.{AreFirst}

-- ---- items

-- items that each may stand are the first of those that go to an end
first_of_chain : (order : Order) (file : List ℕ) (b : Before) (items others : List Item) (last end : Before)
    → Stand order file b items last → Stand order file b others end → IsEnd order file end
    → (more : List Item) × (others ≡ items ++ more)
first_of_chain order file b [] others last end left right is_end = (others, refl)
first_of_chain order file b (item ∷ items) [] last end left right is_end =
    absurd (no_item order file b item left.0 (subst (IsEnd order file) right is_end))
first_of_chain order file b (item ∷ items) (other ∷ others) last end left right is_end =
    let same : other ≡ item = same_item order file b other item right.0 left.0 in
    let P : Item → Type 0 = λ i. Stand order file (after order b i) others end in
    let moved : Stand order file (after order b item) others end = subst P same right.1 in
    let rest = first_of_chain order file (after order b item) items others last end left.1 moved is_end in
    (rest.0, λ i. same i ∷ rest.1 i)

-- what more items bring comes after what those before them bring
brought_in-append : {X : Type 0} (from : Before → Structure → List X) (order : Order) (b : Before)
    (items more : List Item)
    → (rest : List X) × (brought_in from order b (items ++ more) ≡ brought_in from order b items ++ rest)
brought_in-append from order b [] more = (brought_in from order b more, refl)
brought_in-append from order b (item ∷ items) more =
    let later = brought_in-append from order (after order b item) items more in (
      later.0,
      ap (λ rest. structures_brought from b item ++ rest) later.1
          ∙ sym (append_assoc (structures_brought from b item)
          (brought_in from order (after order b item) items) later.0),
    )

-- so do the frames among them
among-append : (order : Order) (items more : List Item)
    → (rest : List Frame) × (frames_among order (items ++ more) ≡ frames_among order items ++ rest)
among-append order items more =
    let later = brought_in-append frame_ended order nothing_yet items more in (
      map (content_frame order) later.0,
      ap (map (content_frame order)) later.1 ∙ map-append (content_frame order) (frames_in order items) later.0,
    )

-- ---- orders

-- frames have one list of their orders
pub one_order : (fs os ps : List Frame) → AllZip IsInOrder fs os → AllZip IsInOrder fs ps → os ≡ ps
one_order [] [] [] left right = refl
one_order [] [] (p ∷ ps) left right = absurd right
one_order [] (o ∷ os) ps left right = absurd left
one_order (f ∷ fs) [] ps left right = absurd left
one_order (f ∷ fs) (o ∷ os) [] left right = absurd right
one_order (f ∷ fs) (o ∷ os) (p ∷ ps) left right =
    λ i. same_in_orders f f o p (same_refl (frame_graph f)) left.0 right.0 i ∷ one_order fs os ps left.1 right.1 i

-- the first of them have the first orders
first_orders : (fs rest os ps : List Frame) → AllZip IsInOrder (fs ++ rest) os → AllZip IsInOrder fs ps
    → (more : List Frame) × (os ≡ ps ++ more)
first_orders [] rest os [] all first = (os, refl)
first_orders [] rest os (p ∷ ps) all first = absurd first
first_orders (f ∷ fs) rest [] ps all first = absurd all
first_orders (f ∷ fs) rest (o ∷ os) [] all first = absurd first
first_orders (f ∷ fs) rest (o ∷ os) (p ∷ ps) all first =
    let later = first_orders fs rest os ps all.1 first.1 in
    (later.0, λ i. same_in_orders f f o p (same_refl (frame_graph f)) all.0 first.0 i ∷ later.1 i)

-- each frame has an order
an_order : (f : Frame) → (o : Frame) × IsInOrder f o
an_order f =
    let found = order_exists (frame_graph f).graph in
    (in_its_order f found.0, record { order = found.0; breadth = found.1; is = refl })

-- so has each of a list
pub some_orders : (fs : List Frame) → (os : List Frame) × AllZip IsInOrder fs os
some_orders [] = ([], tt)
some_orders (f ∷ fs) =
    let one = an_order f in
    let rest = some_orders fs in
    (one.0 ∷ rest.0, (one.1, rest.1))

-- ---- what a file gives

-- a file that goes to an end with some items begins with all that it begins with, frame after frame
first_among : (file : List ℕ) (order other : Order) (items others : List Item) (last end : Before)
    (ordered first : List Frame) → Begins file order items last → Begins file other others end → IsEnd other file end
    → AllZip IsInOrder (frames_among other others) ordered → AllZip IsInOrder (frames_among order items) first
    → (rest : List Frame) × (ordered ≡ first ++ rest)
first_among file order other items others last end ordered first begins whole is_end all in_order =
    let orders : order ≡ other = same_order _ order other begins.header whole.header in
    let P : Order → Type 0 = λ o. Stand o file nothing_yet items last in
    let Q : Order → Type 0 = λ o. AllZip IsInOrder (frames_among o items) first in
    let R : List Frame → Type 0 = λ fs. AllZip IsInOrder fs ordered in
    let longer = first_of_chain other file nothing_yet items others last end (subst P orders begins.stand) whole.stand
    is_end in
    let frames = among-append other items longer.0 in
    first_orders (frames_among other items) frames.0 ordered first
    (subst R (ap (frames_among other) longer.1 ∙ frames.1) all) (subst Q orders in_order)

-- The frames of a file in their orders begin with the first ones in theirs.
pub first-given : (file : List ℕ) (frames ordered first : List Frame) (ending : Ending) → Gives file frames ending
    → AllZip IsInOrder frames ordered → AreFirst file first → (rest : List Frame) × (ordered ≡ first ++ rest)
first-given file frames ordered first (Closes closing) gives in_order are =
    let R : List Frame → Type 0 = λ fs. AllZip IsInOrder fs ordered in
    first_among file are.order gives.order are.items gives.items are.last gives.last ordered first are.begins
    gives.well_formed.begins (inl (record { closed = gives.well_formed.closed; ends = gives.well_formed.ends }))
    (subst R (ap (λ (c : Content). c.frames) gives.is) in_order) are.in_order
first-given file frames ordered first (Breaks fault) (inl none) in_order are =
    absurd (begins-unfaulted file are.order are.items are.last fault are.begins none.1)
first-given file frames ordered first (Breaks fault) (inr until) in_order are =
    let R : List Frame → Type 0 = λ fs. AllZip IsInOrder fs ordered in
    let end = until.is_fault in
    first_among file are.order end.order are.items end.items are.last end.last ordered first are.begins
    end.begins (inr (fault, record { holds = end.holds })) (subst R until.frames_are in_order) are.in_order

-- A file that breaks has that fault first.
pub fault_given : (file : List ℕ) (frames : List Frame) (fault : Fault) → Gives file frames (Breaks fault)
    → IsFirstFault file fault
fault_given file frames fault (inl none) = inl none.1
fault_given file frames fault (inr until) = inr until.is_fault

-- a file that is well-formed does not break
pub closes_or_breaks : (file : List ℕ) (frames others : List Frame) (closing : Closing) (fault : Fault)
    → Gives file frames (Closes closing) → Gives file others (Breaks fault) → ⊥
closes_or_breaks file frames others closing fault closes breaks =
    not_both file fault (closes.order, closes.items, closes.last, closes.well_formed)
    (fault_given file others fault breaks)

-- a file that breaks gives one list of frames
given_before : (file : List ℕ) (frames others : List Frame) (fault other : Fault) → Gives file frames (Breaks fault)
    → Gives file others (Breaks other) → frames ≡ others
given_before file frames others fault other (inl left) (inl right) = left.0 ∙ sym right.0
given_before file frames others fault other (inl left) (inr right) =
    let end = right.is_fault in
    absurd (begins-unfaulted file end.order end.items end.last fault end.begins left.1)
given_before file frames others fault other (inr left) (inl right) =
    let end = left.is_fault in
    absurd (begins-unfaulted file end.order end.items end.last other end.begins right.1)
given_before file frames others fault other (inr left) (inr right) =
    let same = items_before_unique file fault other left.is_fault right.is_fault in
    left.frames_are ∙ (λ i. frames_among (same.0 i) (same.1 i)) ∙ sym right.frames_are

-- A file gives one list of frames, and ends in one way.
pub given-same : (file : List ℕ) (frames others : List Frame) (ending end : Ending) → Gives file frames ending
    → Gives file others end → (frames ≡ others) × (ending ≡ end)
given-same file frames others (Closes closing) (Closes own) left right =
    let one : Content = record { closing = closing; frames = frames } in
    let two : Content = record { closing = own; frames = others } in
    let same : one ≡ two = one_content file one two left right in
    (ap (λ (c : Content). c.frames) same, ap (λ (c : Content). Closes c.closing) same)
given-same file frames others (Closes closing) (Breaks fault) left right =
    absurd (closes_or_breaks file frames others closing fault left right)
given-same file frames others (Breaks fault) (Closes closing) left right =
    absurd (closes_or_breaks file others frames closing fault right left)
given-same file frames others (Breaks fault) (Breaks other) left right = (
  given_before file frames others fault other left right,
  ap (λ (fault : Fault). Breaks fault) (faults_unique file fault other (fault_given file frames fault left)
      (fault_given file others other right)),
)

-- So the frames are in one order each.
pub given-once : (file : List ℕ) (frames others ordered also : List Frame) (ending end : Ending)
    → Gives file frames ending → Gives file others end → AllZip IsInOrder frames ordered → AllZip IsInOrder others also
    → (ordered ≡ also) × (ending ≡ end)
given-once file frames others ordered also ending end left right in_order also_in =
    let same = given-same file frames others ending end left right in
    let R : List Frame → Type 0 = λ fs. AllZip IsInOrder fs ordered in
    (one_order others ordered also (subst R same.0 in_order) also_in, same.1)

-- Each file gives some frames, each of which has an order, and ends in some way.
pub each-gives : (file : List ℕ)
    → (frames : List Frame) × (ordered : List Frame) × (ending : Ending) × Gives file frames ending
    × AllZip IsInOrder frames ordered
each-gives file = by (each_judged file) where
  by : WellFormed file ⊎ ((fault : Fault) × IsFirstFault file fault)
      → (frames : List Frame) × (ordered : List Frame) × (ending : Ending) × Gives file frames ending
      × AllZip IsInOrder frames ordered
  by (inl (order, items, last, well)) =
      let found = some_orders (frames_among order items) in (
        frames_among order items,
        found.0,
        Closes (closing_by last.dictionary),
        record { order = order; items = items; last = last; well_formed = well; is = refl },
        found.1,
      )
  by (inr (fault, inl header)) = ([], [], Breaks fault, inl (refl, header), tt)
  by (inr (fault, inr first)) =
      let found = some_orders (frames_among first.order first.items) in (
        frames_among first.order first.items,
        found.0,
        Breaks fault,
        inr (record { is_fault = first; frames_are = refl }),
        found.1,
      )

-- One more item: the frames among the items are those before, and what it brings.
pub among-push : (file : List ℕ) (order : Order) (items : List Item) (last : Before) (item : Item)
    → Begins file order items last
    → (more : List Frame) × (frames_among order (items ++ item ∷ []) ≡ frames_among order items ++ more)
among-push file order items last item begins = among-append order items (item ∷ [])
