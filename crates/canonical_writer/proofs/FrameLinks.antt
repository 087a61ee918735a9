-- The links to the records of a frame in its order are the new links to the records of its segment.
use Rattle.std.proofs.Common.{◌≡◌, ℕ, ◌+◌, ◌<◌, Bool, cond, Option, Some, None, List, [], ◌∷◌, length, get_or, take}
use Rattle.std.proofs.Common.{map, refl, sym, ap, ◌∙◌, subst, arith}
use Rattle.std.specs.Prelude.{◌==◌, All, count_by, slice_get}
use Rattle.std.specs.Option.{option_map_or}
use Rattle.std.proofs.lemmas.List.{get_or-map, take-map, length-map}
use Rattle.std.proofs.lemmas.List.Elements.{All-head, All-tail, All-take, All-weaker}
use Rattle.std.proofs.lemmas.List.FromFn.{get_or-map-range_with_len}
use Rattle.std.proofs.lemmas.List.Sums.{sum_by-cons}
use Rattle.std.proofs.lemmas.Option.{slice_get-get_or, slice_get_within, get_or_from_slice_get}
use Rattle.type_text.specs.declared.types.Link.{Link}
use Rattle.dictionary.specs.declared.entries.Entry.{Entry}
use Rattle.rooted_graph.specs.BreadthOrder.{number_of}
use Rattle.rooted_graph.specs.InOrder.{renumbered}
use Rattle.link_graph.specs.Collected.{Bodied, Collected, target_of}
use Rattle.link_graph.specs.Graph.{Layouts, ReadsBy}
use Rattle.link_graph.specs.Table.{IsWithin}
use Rattle.frame_content.specs.Labels.{Label, null_link}
use Rattle.frame_content.specs.Frames.{Frame, no_row, row_at, row_of, frame_of}
use Rattle.contents_table.proofs.ReadRecords.{ArePlansOf, IsReadRecord, read-record, entry-class}
use Rattle.canonical_file.specs.Ordered.{row_in, ordered, class_of, is_of_class, instance_at, new_link}
use Rattle.canonical_file.specs.Ordered.{class_at as class_in}
use Rattle.canonical_file.proofs.RenumberedLinks.{row-in_order}
use Rattle.canonical_writer.specs.NewLinks.{classes_of, class_at, is_alike, link_after, link_in_order, AreNewLinks}
use Rattle.canonical_writer.specs.NewLinks.{link_of, link_to}
use Rattle.canonical_writer.proofs.SegmentOrders.{no_record, target-within}

-- What is known of a segment whose records are written in an order: the plans are those of its entries, each record
-- reads, and the numbers of the order are those of records.
pub record IsReadSegment (held : List Entry) (plans : Layouts) (s : Collected) (numbers : List ℕ) : Type 0 where
  pub plans_of : ArePlansOf held plans
  pub bodies : All (ReadsBy plans s.order) s.nodes
  pub within : All (λ n. n < length s.nodes) numbers

-- ---- rows, and their classes

pub record-read : (held : List Entry) (plans : Layouts) (s : Collected) (numbers : List ℕ) (n : ℕ) (r : Bodied)
    → IsReadSegment held plans s numbers → slice_get s.nodes n ≡ Some r → IsReadRecord held s.order r
record-read held plans s numbers n r is there =
    read-record held plans s.order r is.plans_of
    (subst (ReadsBy plans s.order) (get_or_from_slice_get s.nodes n r r there)
    (is.bodies n r (slice_get_within s.nodes n r there)))

pub row-is : (held : List Entry) (s : Collected) (n : ℕ) (r : Bodied) → slice_get s.nodes n ≡ Some r
    → row_at (frame_of held s) n ≡ row_of s.order held s.nodes r
row-is held s n r there =
    get_or-map (row_of s.order held s.nodes) s.nodes n r no_row (slice_get_within s.nodes n r there)
    ∙ ap (row_of s.order held s.nodes) (get_or_from_slice_get s.nodes n r r there)

-- the record of a number has one class
class-same : (held : List Entry) (plans : Layouts) (s : Collected) (numbers : List ℕ) (n : ℕ)
    → IsReadSegment held plans s numbers → n < length s.nodes
    → class_of (row_at (frame_of held s) n) ≡ class_at (classes_of s.nodes) n
class-same held plans s numbers n is within =
    let r : Bodied = get_or s.nodes n no_record in
    let there : slice_get s.nodes n ≡ Some r = slice_get-get_or s.nodes n no_record within in
    let read = record-read held plans s numbers n r is there in
    ap class_of (row-is held s n r there) ∙ ap (λ (l : Label). l.entry.class) read.label_is
    ∙ sym (entry-class held r.node.class read.entry read.there)
    ∙ sym (get_or-map (λ (r : Bodied). r.node.class) s.nodes n no_record 0 within)

-- ---- instances

count-map : {X Y : Type 0} (p : Y → Bool) (f : X → Y) (test : X → Bool) (xs : List X)
    → All (λ x. p (f x) ≡ test x) xs → count_by p (map f xs) ≡ count_by test xs
count-map p f test [] same = refl
count-map p f test (x ∷ xs) same =
    let first = All-head (λ x. p (f x) ≡ test x) x xs same in
    let rest = count-map p f test xs (All-tail (λ x. p (f x) ≡ test x) x xs same) in
    sum_by-cons (λ y. cond (p y) 1 0) (f x) (map f xs) ∙ (λ i. cond (first i) 1 0 + rest i)
    ∙ sym (sum_by-cons (λ x. cond (test x) 1 0) x xs)

-- the class and the instance of a record by its number in the order
pub class-in_order : (held : List Entry) (plans : Layouts) (s : Collected) (numbers : List ℕ) (n k : ℕ)
    → IsReadSegment held plans s numbers → n < length s.nodes → number_of numbers n ≡ Some k
    → class_in (ordered (frame_of held s) numbers) k ≡ class_at (classes_of s.nodes) n
class-in_order held plans s numbers n k is within number =
    ap class_of (row-in_order (frame_of held s) numbers n k number) ∙ class-same held plans s numbers n is within

pub instance-in_order : (held : List Entry) (plans : Layouts) (s : Collected) (numbers : List ℕ) (n k : ℕ)
    → IsReadSegment held plans s numbers → n < length s.nodes → number_of numbers n ≡ Some k
    → instance_at (ordered (frame_of held s) numbers) k
    ≡ count_by (is_alike (classes_of s.nodes) n) (take k numbers)
instance-in_order held plans s numbers n k is within number =
    let f : Frame = frame_of held s in
    let class = class-in_order held plans s numbers n k is within number in
    ap (count_by (is_of_class (class_in (ordered f numbers) k))) (take-map (row_in f numbers) k numbers)
    ∙ count-map (is_of_class (class_in (ordered f numbers) k)) (row_in f numbers) (is_alike (classes_of s.nodes) n)
    (take k numbers)
    (All-weaker (λ m. m < length s.nodes)
    (λ m. is_of_class (class_in (ordered f numbers) k) (row_in f numbers m) ≡ is_alike (classes_of s.nodes) n m)
    (λ m there. λ i. class-same held plans s numbers m is there i == class i)
    (take k numbers) (All-take (λ m. m < length s.nodes) k numbers is.within))

-- ---- links

-- the new link to the record of a number
pub link-in_order : (held : List Entry) (plans : Layouts) (s : Collected) (numbers : List ℕ) (links : List Link)
    (n : ℕ) → IsReadSegment held plans s numbers → AreNewLinks (classes_of s.nodes) numbers links
    → n < length s.nodes → new_link (ordered (frame_of held s) numbers) (number_of numbers n) ≡ link_of links n
link-in_order held plans s numbers links n is are within =
    by (number_of numbers n) refl
    ∙ sym (ap (λ ls. get_or ls n null_link) are
    ∙ get_or-map-range_with_len (link_in_order classes numbers) 0 (length classes) n n null_link here
    (omega arith))
  where
    classes : List ℕ
    classes = classes_of s.nodes

    here : n < length classes
    here = omega (arith, within, length-map s.nodes (λ (r : Bodied). r.node.class))

    by : (o : Option ℕ) → number_of numbers n ≡ o
        → new_link (ordered (frame_of held s) numbers) o
        ≡ option_map_or (λ k. link_after classes (take k numbers) n) o null_link
    by None number = refl
    by (Some k) number = λ i. record {
      class = class-in_order held plans s numbers n k is within number i;
      instance = instance-in_order held plans s numbers n k is within number i;
    }

-- the new link to where a link leads
link-there : (held : List Entry) (plans : Layouts) (s : Collected) (numbers : List ℕ) (links : List Link)
    (link : Link) → IsReadSegment held plans s numbers → AreNewLinks (classes_of s.nodes) numbers links
    → new_link (ordered (frame_of held s) numbers) (renumbered numbers (target_of s.nodes link))
    ≡ link_to s.nodes links link
link-there held plans s numbers links link is are =
    by (target_of s.nodes link) (target-within s.nodes link)
  where
    by : (o : Option ℕ) → IsWithin (length s.nodes) o
        → new_link (ordered (frame_of held s) numbers) (renumbered numbers o)
        ≡ option_map_or (link_of links) o null_link
    by None within = refl
    by (Some n) within = link-in_order held plans s numbers links n is are within

pub links-there : (held : List Entry) (plans : Layouts) (s : Collected) (numbers : List ℕ) (links ls : List Link)
    → IsReadSegment held plans s numbers → AreNewLinks (classes_of s.nodes) numbers links
    → map (new_link (ordered (frame_of held s) numbers)) (map (renumbered numbers) (map (target_of s.nodes) ls))
    ≡ map (link_to s.nodes links) ls
links-there held plans s numbers links [] is are = refl
links-there held plans s numbers links (l ∷ ls) is are =
    λ i. link-there held plans s numbers links l is are i ∷ links-there held plans s numbers links ls is are i
