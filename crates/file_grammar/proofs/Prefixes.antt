-- A well-formed file has one list of items, and no proper prefix of it is well-formed: what stands whole in a prefix
-- stands in the file, so where both are closed they have the same items.
use Rattle.std.proofs.Common.{◌≡◌, ℕ, ◌+◌, ◌-◌, ◌≤◌, true, false, List, [], ◌∷◌, length, take, drop, sum_by, refl, sym}
use Rattle.std.proofs.Common.{ap, subst, ◌∙◌, arith, length-take}
use Rattle.std.proofs.lemmas.List.{drop-take, take-take, take_all}
use Rattle.scalar_types.specs.declared.Order.{Order}
use Rattle.frame_head.specs.declared.structure.Common.{Common}
use Rattle.frame_head.specs.Structure.{common_of}
use Rattle.frame_head.specs.Header.{header_of}
use Rattle.frame_head.proofs.FirstBytes.{common_of-take}
use Rattle.record_values.specs.declared.values.Value.TheVariants as value
use Rattle.dictionary.specs.declared.entries.Element.{Element}
use Rattle.layout_plan.specs.Body.{IsBody}
use Rattle.layout_plan.specs.BuiltIn.{structure_fields}
use Rattle.file_grammar.specs.Structure.{Structure, size_of, end_of, common_at, structure_at, StandsWhole}
use Rattle.file_grammar.specs.Described.{IsElement, AreElements}
use Rattle.file_grammar.specs.Item.{Item, EntryItem, OtherItem, Before, nothing_yet, after}
use Rattle.file_grammar.specs.MayStand.{MayStand, Stand, IsWellFormed}
use Rattle.file_grammar.specs.Laws.{ItemsAreUnique, NoPrefixIsWellFormed}
use Rattle.file_grammar.proofs.Advance.{end_within}
use Rattle.file_grammar.proofs.Headers.{same_order}
use Rattle.file_grammar.proofs.SameItems.{same_structure, NoElement, same_run, same_entry, other_class}

-- the 14 bytes at a place within the prefix say the same in the file
common_at-take : (order : Order) (n at : ℕ) (file : List ℕ) → at + 14 ≤ n
    → common_at order (take n file) at ≡ common_at order file at
common_at-take order n at file head =
    let split : n ≡ at + (n - at) = omega (arith, head) in
    let more : 14 ≤ n - at = omega (arith, head) in
    ap (λ (m : ℕ). common_of order (drop at (take m file))) split
    ∙ ap (common_of order) (drop-take at (n - at) file)
    ∙ common_of-take order (n - at) (drop at file) more

-- bytes of a body within the prefix are the same in the file
body-take : (n at told : ℕ) (file : List ℕ) → at + 14 ≤ n → at + told ≤ n
    → take (told - 14) (drop 14 (drop at (take n file))) ≡ take (told - 14) (drop 14 (drop at file))
body-take n at told file head whole =
    let split : n ≡ at + (n - at) = omega (arith, head) in
    let behind : n - at ≡ 14 + (n - at - 14) = omega (arith, head) in
    ap (λ (m : ℕ). take (told - 14) (drop 14 (drop at (take m file)))) split
    ∙ ap (λ (bytes : List ℕ). take (told - 14) (drop 14 bytes)) (drop-take at (n - at) file)
    ∙ ap (λ (m : ℕ). take (told - 14) (drop 14 (take m (drop at file)))) behind
    ∙ ap (take (told - 14)) (drop-take 14 (n - at - 14) (drop at file))
    ∙ take-take (told - 14) (n - at - 14) (drop 14 (drop at file)) (omega (arith, head, whole))

-- a structure that ends within the prefix is the same in the file
structure_at-take : (order : Order) (n at : ℕ) (file : List ℕ) → at + 14 ≤ n
    → at + (common_at order (take n file) at).length ≤ n
    → structure_at order (take n file) at ≡ structure_at order file at
structure_at-take order n at file head whole =
    let told : ℕ = (common_at order (take n file) at).length in
    let says : common_at order (take n file) at ≡ common_at order file at = common_at-take order n at file head in
    ap (λ (body : List ℕ). record {
      at = at;
      class = (common_at order (take n file) at).class;
      instance = (common_at order (take n file) at).instance;
      body = body;
    }) (body-take n at told file head whole)
    ∙ ap (λ (common : Common). record {
      at = at;
      class = common.class;
      instance = common.instance;
      body = take (common.length - 14) (drop 14 (drop at file));
    }) says

-- what stands whole in the prefix does in the file
stands-longer : (order : Order) (n : ℕ) (file : List ℕ) (s : Structure) → StandsWhole order (take n file) s
    → StandsWhole order file s
stands-longer order n file s stands =
    let size = length-take n file in
    let head : s.at + 14 ≤ n = omega (arith, stands.head, size) in
    let ends : end_of s ≤ n = omega (arith, end_within order (take n file) s stands, size) in
    let whole : s.at + (common_at order (take n file) s.at).length ≤ n = omega (arith, ends, stands.whole) in
    let says : common_at order (take n file) s.at ≡ common_at order file s.at = common_at-take order n s.at file head in
    record {
      is = stands.is ∙ structure_at-take order n s.at file head whole;
      head = omega (arith, stands.head, size);
      whole = ap (λ (common : Common). common.length) (sym says) ∙ stands.whole;
      small = stands.small;
      within = stands.within;
    }

-- so do FrSEs, alone and in a run
element-longer : (order : Order) (n : ℕ) (file : List ℕ) (s : Structure) (e : Element)
    → IsElement order (take n file) s e
    → IsElement order file s e
element-longer order n file s e is = record {
  stands = stands-longer order n file s is.stands;
  class = is.class;
  tail = is.tail;
  body = is.body;
  type = is.type;
}

elements-longer : (order : Order) (n : ℕ) (file : List ℕ) (at : ℕ) (run : List Structure) (elements : List Element)
    → AreElements order (take n file) at run elements → AreElements order file at run elements
elements-longer order n file at [] [] are = tt
elements-longer order n file at [] (e ∷ es) are = absurd are
elements-longer order n file at (s ∷ ss) [] are = absurd are
elements-longer order n file at (s ∷ ss) (e ∷ es) are =
    (are.0, element-longer order n file s e are.1, elements-longer order n file (end_of s) ss es are.2)

-- after an entry in a prefix that is closed stands no FrSE of the file
no_element_behind : (order : Order) (n : ℕ) (file : List ℕ) (b : Before) (items : List Item) (last : Before)
    → b.closed ≡ false → Stand order (take n file) b items last → last.closed ≡ true → NoElement order file b.place
no_element_behind order n file b [] last unclosed stand closed s e here is =
    let same : last.closed ≡ b.closed = ap (λ (x : Before). x.closed) stand in
    absurd cc
no_element_behind order n file b (EntryItem head run entry ∷ items) last unclosed stand closed s e here is =
    let may = stand.0.1 in
    let same : s ≡ head = same_structure order file s head is.stands
    (stands-longer order n file head may.described.stands) (here ∙ sym may.here) in
    let class : s.class ≡ head.class = ap (λ (t : Structure). t.class) same in
    let is_element : s.class ≡ 2 = is.class in
    let is_entry : head.class ≡ 1 = may.described.class in
    omega (arith, class, is_element, is_entry)
no_element_behind order n file b (OtherItem t ∷ items) last unclosed stand closed s e here is =
    let may = stand.0.1 in
    let same : t ≡ s = same_structure order file t s (stands-longer order n file t may.stands) is.stands
    (may.here ∙ sym here) in
    (other_class order (take n file) b t may).1 (ap (λ (u : Structure). u.class) same ∙ is.class)

-- the first items of a prefix that is closed and of the file are one
pub same_first : (order : Order) (n : ℕ) (file : List ℕ) (b : Before) (item other : Item) (items : List Item)
    (last : Before)
    → MayStand order (take n file) b item → MayStand order file b other
    → Stand order (take n file) (after order b item) items last → last.closed ≡ true → item ≡ other
same_first order n file b (EntryItem head run entry) (EntryItem front others described) items last left
    right stand closed =
    let one = left.1.described in
    let two = right.1.described in
    let same : head ≡ front =
    same_structure order file head front (stands-longer order n file head one.stands) two.stands (left.1.here
    ∙ sym right.1.here) in
    let P : Structure → Type 0 = λ s. AreElements order file (end_of s) others described.elements in
    let Q : Structure → Type 0 = λ s. NoElement order file (end_of s + sum_by size_of others) in
    let R : Structure → Type 0 =
    λ s. IsBody order structure_fields
    (value.Text described.name ∷ value.Num described.class ∷ value.Text described.comment ∷ []) two.tail s.body in
    let runs = same_run order file (end_of head) run others entry.elements described.elements
    (elements-longer order n file (end_of head) run entry.elements one.elements)
    (subst P (sym same) two.elements)
    (no_element_behind order n file (after order b (EntryItem head run entry)) items last left.0 stand closed)
    (subst Q (sym same) two.longest) in
    let entries : entry ≡ described =
    same_entry order head.body entry described one.tail two.tail one.body (subst R (sym same) two.body) runs.1 in
    ap (λ (s : Structure). EntryItem s run entry) same
    ∙ ap (λ (ss : List Structure). EntryItem front ss entry) runs.0
    ∙ ap (EntryItem front others) entries
same_first order n file b (EntryItem head run entry) (OtherItem s) items last left right stand closed =
    let same : s ≡ head = same_structure order file s head right.1.stands
    (stands-longer order n file head left.1.described.stands) (right.1.here ∙ sym left.1.here) in
    absurd ((other_class order file b s right.1).0 (ap (λ (t : Structure). t.class) same ∙ left.1.described.class))
same_first order n file b (OtherItem s) (EntryItem head run entry) items last left right stand closed =
    let same : s ≡ head = same_structure order file s head (stands-longer order n file s left.1.stands)
    right.1.described.stands (left.1.here ∙ sym right.1.here) in
    absurd ((other_class order (take n file) b s left.1).0 (ap (λ (t : Structure). t.class) same
    ∙ right.1.described.class))
same_first order n file b (OtherItem s) (OtherItem t) items last left right stand closed =
    ap OtherItem (same_structure order file s t (stands-longer order n file s left.1.stands) right.1.stands (left.1.here
    ∙ sym right.1.here))

-- nothing may stand where the file is closed
pub open_item : (order : Order) (file : List ℕ) (b : Before) (item : Item) → MayStand order file b item
    → b.closed ≡ false
open_item order file b (EntryItem head run entry) may = may.0
open_item order file b (OtherItem s) may = may.0

-- a prefix that is closed and the file, where it is closed too, have the same items
same_closed : (order : Order) (n : ℕ) (file : List ℕ) (b : Before) (items others : List Item) (last end : Before)
    → Stand order (take n file) b items last → Stand order file b others end → last.closed ≡ true → end.closed ≡ true
    → (items ≡ others) × (last ≡ end)
same_closed order n file b [] [] last end left right closed shut = (refl, left ∙ sym right)
same_closed order n file b [] (other ∷ others) last end left right closed shut =
    let same : last.closed ≡ b.closed = ap (λ (x : Before). x.closed) left in
    let unclosed : b.closed ≡ false = open_item order file b other right.0 in
    absurd cc
same_closed order n file b (item ∷ items) [] last end left right closed shut =
    let same : end.closed ≡ b.closed = ap (λ (x : Before). x.closed) right in
    let unclosed : b.closed ≡ false = open_item order (take n file) b item left.0 in
    absurd cc
same_closed order n file b (item ∷ items) (other ∷ others) last end left right closed shut =
    let same : item ≡ other = same_first order n file b item other items last left.0 right.0 left.1 closed in
    let P : Item → Type 0 = λ i. Stand order file (after order b i) others end in
    let rest : (items ≡ others) × (last ≡ end) =
    same_closed order n file (after order b item) items others last end left.1
    (subst P (sym same) right.1) closed shut in
    (cc, rest.1)

-- the byte order and the items of a prefix that is well-formed are those of the file
same_items : (n : ℕ) (file : List ℕ) (order other : Order) (items others : List Item) (last end : Before)
    → IsWellFormed (take n file) order items last → IsWellFormed file other others end
    → (order ≡ other) × (items ≡ others) × (last ≡ end)
same_items n file order other items others last end short whole =
    let size : 40 ≤ length (take n file) = short.begins.size in
    let enough : 40 ≤ n = omega (arith, size, length-take n file) in
    let headers : header_of (take 40 (take n file)) ≡ header_of (take 40 file) =
    ap header_of (take-take 40 n file enough) in
    let orders : order ≡ other =
    same_order (header_of (take 40 file)) order other (sym headers ∙ short.begins.header) whole.begins.header in
    let P : Order → Type 0 = λ o. Stand o (take n file) nothing_yet items last in
    let same = same_closed other n file nothing_yet items others last end
    (subst P orders short.begins.stand) whole.begins.stand short.closed whole.closed in
    (orders, same.0, same.1)

pub items_unique : ItemsAreUnique
items_unique file order other items others last end left right =
    let P : List ℕ → Type 0 = λ bytes. IsWellFormed bytes order items last in
    let all : take (length file) file ≡ file = take_all (length file) file (omega arith) in
    same_items (length file) file order other items others last end (subst P (sym all) left) right

pub no_prefix : NoPrefixIsWellFormed
no_prefix file n less (order, items, last, whole) (other, others, end, short) =
    let same = same_items n file other order others items end last short whole in
    let place : end.place ≡ last.place = ap (λ (b : Before). b.place) same.2 in
    omega (arith, less, place, short.ends, whole.ends, length-take n file)
