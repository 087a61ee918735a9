-- A file is passed in one way, and not where passing finds a fault.
use Rattle.std.proofs.Common.{◌≡◌, ℕ, inl, inr, Bool, true, false, Option, Some, None, List, [], ◌∷◌, length, take}
use Rattle.std.proofs.Common.{refl, sym, ap, ◌∙◌, subst, arith}
use Rattle.std.specs.Prelude.{◌==◌}
use Rattle.std.proofs.lemmas.Option.{same_Some, none-some}
use Rattle.scalar_types.specs.declared.Order.{Order}
use Rattle.frame_head.specs.Header.{header_of}
use Rattle.file_grammar.specs.declared.fault.Fault.{Fault}
use Rattle.file_grammar.specs.Item.{Item, Before, nothing_yet}
use Rattle.file_grammar.specs.Fault.{Here}
use Rattle.file_grammar.specs.Fault.{IsHeaderFault}
use Rattle.file_grammar.proofs.Headers.{same_order, same_header_fault}
use Rattle.channel_extract.specs.Passing.{pass_fault_by, pass_fault, after_passing, Pass, IsPassedTo}
use Rattle.channel_extract.specs.TableLaws.{PassesAreUnique, NoPassIsBoth, PassFaultsAreUnique}

passes-same : (order : Order) (file : List ℕ) (b : Before) (items others : List Item) (last end : Before)
    → Pass order file b items last → Pass order file b others end → last.place ≡ length file
    → end.place ≡ length file → (items ≡ others) × (last ≡ end)
passes-same order file b [] [] last end left right ends stops = (refl, left ∙ sym right)
passes-same order file b [] (other ∷ others) last end left right ends stops =
    let here : last.place ≡ b.place = ap (λ (x : Before). x.place) left in
    absurd (omega (arith, here, ends, right.0))
passes-same order file b (item ∷ items) [] last end left right ends stops =
    let here : end.place ≡ b.place = ap (λ (x : Before). x.place) right in
    absurd (omega (arith, here, stops, left.0))
passes-same order file b (item ∷ items) (other ∷ others) last end left right ends stops =
    let same : item ≡ other = same_Some item other (sym left.2 ∙ right.2) in
    let moved = subst (λ (x : Item). Pass order file (after_passing order b x) others end) (sym same) right.3 in
    let rest = passes-same order file (after_passing order b item) items others last end left.3 moved ends stops in
    (λ i. same i ∷ rest.0 i, rest.1)

pub one_pass : PassesAreUnique
one_pass file order other items others last end left right =
    let same = same_order (header_of (take 40 file)) order other left.to.header right.to.header in
    let moved = subst (λ o. Pass o file nothing_yet others end) (sym same) right.to.pass in
    let rest = passes-same order file nothing_yet items others last end left.to.pass moved left.ends right.ends in
    (same, rest.0, rest.1)

end-by : (h : Here) (closed ends : Bool) (fault : Fault) → closed ≡ true → ends ≡ true
    → pass_fault_by closed ends h ≡ Some fault → ⊥
end-by h true true fault x y is = none-some fault is
end-by h false ends fault x y is = cc
end-by h true false fault x y is = cc

eq-yes : (a b : ℕ) → a ≡ b → (a == b) ≡ true
eq-yes a b same = grind (arith, same)

no-fault-on : (order : Order) (file : List ℕ) (b : Before) (items others : List Item) (last end : Before)
    (fault : Fault) → Pass order file b items last → Pass order file b others end → last.closed ≡ true
    → last.place ≡ length file → pass_fault (record { order = order; file = file; before = end }) ≡ Some fault
    → ⊥
no-fault-on order file b [] [] last end fault left right closed ends is =
    let same : end ≡ last = right ∙ sym left in
    end-by (record { order = order; file = file; before = end }) end.closed (end.place == length file) fault
    (ap (λ (x : Before). x.closed) same
    ∙ closed) (eq-yes end.place (length file) (ap (λ (x : Before). x.place) same ∙ ends)) is
no-fault-on order file b [] (other ∷ others) last end fault left right closed ends is =
    let here : last.place ≡ b.place = ap (λ (x : Before). x.place) left in
    absurd (omega (arith, here, ends, right.0))
no-fault-on order file b (item ∷ items) [] last end fault left right closed ends is =
    let clear : pass_fault (record { order = order; file = file; before = end })
    ≡ None = ap (λ (x : Before). pass_fault (record { order = order; file = file; before = x })) right
    ∙ left.1 in
    none-some fault (sym clear ∙ is)
no-fault-on order file b (item ∷ items) (other ∷ others) last end fault left right closed ends is =
    let same : item ≡ other = same_Some item other (sym left.2 ∙ right.2) in
    let moved = subst (λ (x : Item). Pass order file (after_passing order b x) others end) (sym same) right.3 in
    no-fault-on order file (after_passing order b item) items others last end fault left.3 moved closed ends is

pub not_both : NoPassIsBoth
not_both file order items last fault passed (inl (inl short)) = absurd (omega (arith, short.0, passed.to.size))
not_both file order items last fault passed (inl (inr bad)) =
    let header = passed.to.header in
    let wrong = bad.1 in
    cc
not_both file order items last fault passed (inr found) =
    let same = same_order (header_of (take 40 file)) order found.order passed.to.header found.to.header in
    let moved = subst (λ o. Pass o file nothing_yet found.items found.last) (sym same) found.to.pass in
    let held : pass_fault (record { order = order; file = file; before = found.last })
    ≡ Some fault = ap (λ o. pass_fault (record { order = o; file = file; before = found.last })) same
    ∙ found.holds in
    no-fault-on order file nothing_yet items found.items last found.last fault passed.to.pass moved passed.closed
    passed.ends held

-- ---- a fault that is found in passing

abbrev fault_before : Order → List ℕ → Before → Option Fault
fault_before order file b = pass_fault (record { order = order; file = file; before = b })

one-item_fault : (order : Order) (file : List ℕ) (b : Before) (items others : List Item) (last end : Before)
    (fault other : Fault) → Pass order file b items last → Pass order file b others end
    → fault_before order file last ≡ Some fault → fault_before order file end ≡ Some other → fault ≡ other
one-item_fault order file b [] [] last end fault other left right is too =
    same_Some fault other (sym is ∙ ap (fault_before order file) (left ∙ sym right) ∙ too)
one-item_fault order file b [] (x ∷ others) last end fault other left right is too =
    absurd (none-some fault (sym (ap (fault_before order file) left ∙ right.1) ∙ is))
one-item_fault order file b (item ∷ items) [] last end fault other left right is too =
    absurd (none-some other (sym (ap (fault_before order file) right ∙ left.1) ∙ too))
one-item_fault order file b (item ∷ items) (x ∷ others) last end fault other left right is too =
    let same : item ≡ x = same_Some item x (sym left.2 ∙ right.2) in
    let moved = subst (λ (y : Item). Pass order file (after_passing order b y) others end) (sym same) right.3 in
    one-item_fault order file (after_passing order b item) items others last end fault other left.3 moved is too

no-header_fault : (file : List ℕ) (order : Order) (items : List Item) (last : Before) (fault : Fault)
    → IsPassedTo file order items last → IsHeaderFault file fault → ⊥
no-header_fault file order items last fault to (inl short) = omega (arith, short.0, to.size)
no-header_fault file order items last fault to (inr bad) =
    let header = to.header in
    let wrong = bad.1 in
    cc

pub one_fault : PassFaultsAreUnique
one_fault file fault other (inl left) (inl right) = same_header_fault file fault other left right
one_fault file fault other (inl left) (inr right) =
    absurd (no-header_fault file right.order right.items right.last fault right.to left)
one_fault file fault other (inr left) (inl right) =
    absurd (no-header_fault file left.order left.items left.last other left.to right)
one_fault file fault other (inr left) (inr right) =
    let same = same_order (header_of (take 40 file)) left.order right.order left.to.header right.to.header in
    let moved = subst (λ o. Pass o file nothing_yet right.items right.last) (sym same) right.to.pass in
    let too : fault_before left.order file right.last ≡ Some other =
    ap (λ o. fault_before o file right.last) same ∙ right.holds in
    one-item_fault left.order file nothing_yet left.items right.items left.last right.last fault other left.to.pass
    moved left.holds too
