-- Frames whose records are alike one by one have the same rows.
use Rattle.std.proofs.Common.{◌≡◌, ℕ, zero, suc, ◌+◌, ◌<◌, ◌≤◌, ◌⊎◌, inl, inr, Bool, cond, Option, Some, None, List}
use Rattle.std.proofs.Common.{[], ◌∷◌, length, map, take, get_or, count_by, All, refl, sym, ap, ◌∙◌, subst, arith}
use Rattle.std.proofs.Common.{take-take}
use Rattle.std.specs.Prelude.{◌==◌}
use Rattle.std.specs.List.{take-map}
use Rattle.std.proofs.lemmas.Bool.{eq-eqb}
use Rattle.std.proofs.lemmas.List.{ext_get_or, length-map, get_or-map}
use Rattle.std.proofs.lemmas.List.Elements.{All-head, All-tail}
use Rattle.std.proofs.lemmas.List.Sums.{count_by_more_yes, sum_by-take-le, sum_by-cons}
use Rattle.type_text.specs.declared.types.Link.{Link}
use Rattle.record_values.specs.Links.{links_in}
use Rattle.dictionary.specs.declared.entries.Entry.{Entry}
use Rattle.link_graph.specs.Table.{IsWithin}
use Rattle.frame_content.specs.Labels.{null_link, unlinked}
use Rattle.frame_content.specs.Frames.{Row, Frame, no_row, row_at}
use Rattle.canonical_file.specs.Ordered.{class_of, class_at, is_of_class, instance_at, new_link, new_values}
use Rattle.canonical_writer.proofs.LinkedRows.{values-told}

-- ---- links by the classes of the records

abbrev classes_in : Frame → List ℕ
classes_in f = map class_of f.rows

abbrev count_of : List ℕ → ℕ → ℕ
count_of classes k = count_by (λ c. c == get_or classes k 0) (take k classes)

abbrev link_by : List ℕ → Option ℕ → Link
link_by classes None = null_link
link_by classes (Some k) = record { class = get_or classes k 0; instance = count_of classes k }

class-listed : (rows : List Row) (k : ℕ) → class_of (get_or rows k no_row) ≡ get_or (map class_of rows) k 0
class-listed [] k = refl
class-listed (r ∷ rows) zero = refl
class-listed (r ∷ rows) (suc k) = class-listed rows k

count-listed : (class : ℕ) (rows : List Row)
    → count_by (is_of_class class) rows ≡ count_by (λ c. c == class) (map class_of rows)
count-listed class [] = refl
count-listed class (r ∷ rows) =
    sum_by-cons (λ (r : Row). cond (is_of_class class r) 1 0) r rows
    ∙ ap (λ n. cond (class_of r == class) 1 0 + n) (count-listed class rows)
    ∙ sym (sum_by-cons (λ (c : ℕ). cond (c == class) 1 0) (class_of r) (map class_of rows))

link-listed : (f : Frame) (link : Option ℕ) → new_link f link ≡ link_by (classes_in f) link
link-listed f None = refl
link-listed f (Some k) =
    let class = class-listed f.rows k in
    let count : instance_at f k ≡ count_of (classes_in f) k =
    count-listed (class_at f k) (take k f.rows)
    ∙ (λ i. count_by (λ c. c == class i) (sym (take-map class_of k f.rows) i)) in
    λ i. record { class = class i; instance = count i }

-- ---- they tell the records apart

-- a later record of the same class has a greater instance
count-less : (classes : List ℕ) (j k : ℕ) → j < k → k < length classes → get_or classes j 0 ≡ get_or classes k 0
    → count_of classes j < count_of classes k
count-less classes j k less within same =
    subst (λ class. count_by (λ c. c == class) (take j classes) < count_of classes k) (sym same)
    (omega (arith, one, more, ap (count_by test) front))
  where
    test : ℕ → Bool
    test c = c == get_or classes k 0

    one : count_by test (take (j + 1) classes) ≡ count_by test (take j classes) + 1
    one =
        count_by_more_yes test classes j 0 (omega arith) (eq-eqb (get_or classes j 0) (get_or classes k 0) same)

    front : take (j + 1) (take k classes) ≡ take (j + 1) classes
    front = take-take (j + 1) k classes (omega arith)

    more : count_by test (take (j + 1) (take k classes)) ≤ count_by test (take k classes)
    more = sum_by-take-le (λ c. cond (test c) 1 0) (take k classes) (j + 1)

below_or : (j k : ℕ) → (j < k) ⊎ (j ≡ k) ⊎ (k < j)
below_or j k = grind arith

link-told : (classes : List ℕ) → All (λ c. 3 ≤ c) classes → (link other : Option ℕ) → IsWithin (length classes) link
    → IsWithin (length classes) other → link_by classes link ≡ link_by classes other → link ≡ other
link-told classes low None None within also same = refl
link-told classes low None (Some k) within also same =
    absurd (omega (arith, low k 0 also, ap (λ (l : Link). l.class) same))
link-told classes low (Some j) None within also same =
    absurd (omega (arith, low j 0 within, ap (λ (l : Link). l.class) same))
link-told classes low (Some j) (Some k) within also same =
    let class = ap (λ (l : Link). l.class) same in
    let instance = ap (λ (l : Link). l.instance) same in
    elim (below_or j k) [
      | inl less ↦ absurd (omega (arith, count-less classes j k less also class, instance))
      | inr (inl is) ↦ ap Some is
      | inr (inr less) ↦ absurd (omega (arith, count-less classes k j less within (sym class), instance))
    ]

links-told : (classes : List ℕ) → All (λ c. 3 ≤ c) classes → (links others : List (Option ℕ))
    → All (IsWithin (length classes)) links → All (IsWithin (length classes)) others
    → map (link_by classes) links ≡ map (link_by classes) others → links ≡ others
links-told classes low [] [] all also same = refl
links-told classes low [] (m ∷ ms) all also same = cc
links-told classes low (l ∷ ls) [] all also same = cc
links-told classes low (l ∷ ls) (m ∷ ms) all also same =
    let within = IsWithin (length classes) in
    let here : link_by classes l ≡ link_by classes m = cc in
    let rest : map (link_by classes) ls ≡ map (link_by classes) ms = cc in
    let first = link-told classes low l m (All-head within l ls all) (All-head within m ms also) here in
    let others = links-told classes low ls ms (All-tail within l ls all) (All-tail within m ms also) rest in
    λ i. first i ∷ others i

-- ---- rows

-- what the rows of a frame have: a class of 3 or more, null links in their values, and as many links, null or to rows
pub record IsFrameRow (rows : ℕ) (r : Row) : Type 0 where
  pub low : 3 ≤ class_of r
  pub null : map unlinked r.label.values ≡ r.label.values
  pub as_many : length r.links ≡ length (links_in r.label.values)
  pub within : All (IsWithin rows) r.links

pub record AreAlikeAt (f g : Frame) (k : ℕ) : Type 0 where
  pub entry : (row_at f k).label.entry ≡ (row_at g k).label.entry
  pub values : new_values f (row_at f k) ≡ new_values g (row_at g k)

pub record AreAlikeFrames (f g : Frame) : Type 0 where
  pub size : length f.rows ≡ length g.rows
  pub rows : (k : ℕ) → k < length f.rows → IsFrameRow (length f.rows) (row_at f k)
  pub others : (k : ℕ) → k < length g.rows → IsFrameRow (length g.rows) (row_at g k)
  pub alike : (k : ℕ) → k < length f.rows → AreAlikeAt f g k

classes-same : (f g : Frame) → AreAlikeFrames f g → classes_in f ≡ classes_in g
classes-same f g are =
    let some = length-map f.rows class_of in
    ext_get_or 0 (classes_in f) (classes_in g) (some ∙ are.size ∙ sym (length-map g.rows class_of))
    (λ k within. sym (class-listed f.rows k)
    ∙ ap (λ (e : Entry). e.class) (are.alike k (omega (arith, within, some))).entry ∙ class-listed g.rows k)

classes-low : (f g : Frame) → AreAlikeFrames f g → All (λ c. 3 ≤ c) (classes_in f)
classes-low f g are = λ k d within.
    let inside : k < length f.rows = omega (arith, within, length-map f.rows class_of) in
    subst (λ c. 3 ≤ c) (sym (get_or-map class_of f.rows k no_row d inside)) (are.rows k inside).low

pub map-same : {X Y : Type 0} (f g : X → Y) (xs : List X) → ((x : X) → f x ≡ g x) → map f xs ≡ map g xs
map-same f g [] same = refl
map-same f g (x ∷ xs) same = λ i. same x i ∷ map-same f g xs same i

-- the values of a label and the links of a row by the values that are written
row-told : (f : Frame) (rows : ℕ) (r : Row) → IsFrameRow rows r
    → (map unlinked (new_values f r) ≡ r.label.values)
    × (links_in (new_values f r) ≡ map (link_by (classes_in f)) r.links)
row-told f rows r is =
    let told = values-told r.label.values (map (new_link f) r.links) (length-map r.links (new_link f) ∙ is.as_many) in
    (told.1 ∙ is.null, told.0 ∙ map-same (new_link f) (link_by (classes_in f)) r.links (link-listed f))

row-same : (f g : Frame) (k : ℕ) → AreAlikeFrames f g → k < length f.rows → row_at f k ≡ row_at g k
row-same f g k are within =
    let row = are.rows k within in let other = are.others k (omega (arith, are.size, within)) in
    let alike = are.alike k within in
    let one = row-told f (length f.rows) (row_at f k) row in
    let two = row-told g (length g.rows) (row_at g k) other in
    let values = sym one.0 ∙ ap (map unlinked) alike.values ∙ two.0 in
    let size : length f.rows ≡ length (classes_in f) = sym (length-map f.rows class_of) in
    let links = links-told (classes_in f) (classes-low f g are) (row_at f k).links (row_at g k).links
    (subst (λ n. All (IsWithin n) (row_at f k).links) size row.within)
    (subst (λ n. All (IsWithin n) (row_at g k).links) (sym are.size ∙ size) other.within)
    (sym one.1 ∙ ap links_in alike.values ∙ two.1
    ∙ ap (λ classes. map (link_by classes) (row_at g k).links) (sym (classes-same f g are))) in
    λ i. record { label = record { entry = alike.entry i; values = values i }; links = links i }

-- Frames that are alike record by record have the same rows.
pub rows-same : (f g : Frame) → AreAlikeFrames f g → f.rows ≡ g.rows
rows-same f g are = ext_get_or no_row f.rows g.rows are.size (λ k within. row-same f g k are within)
