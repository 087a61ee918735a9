-- A frame of a file of bytes, put in its order, can be written.
use Rattle.std.proofs.Common.{◌≡◌, ℕ, ◌+◌, ◌*◌, ◌^◌, ◌<◌, ◌≤◌, true, nat_eq, Option, Some, None}
use Rattle.std.proofs.Common.{List, [], ◌∷◌, length, map, take, All, sum_by, get_or, refl, sym, ap, ◌∙◌, subst, arith}
use Rattle.std.specs.List.{AllByRecursion, IsDistinct, enumerate_from}
use Rattle.std.specs.Option.{option_map}
use Rattle.std.proofs.lemmas.Bool.{eq-eqb, or_left, or_right}
use Rattle.std.proofs.lemmas.List.{length-map, length-take, get_or-map}
use Rattle.std.proofs.lemmas.List.Elements.{All-nil, All-cons, All-head, All-tail}
use Rattle.std.proofs.lemmas.List.Sums.{count_by-le-length, sum_by-cons, sum_by_push, get_or-le-sum_by}
use Rattle.std.proofs.lemmas.Option.{same_Some}
use Rattle.scalar_types.specs.declared.Order.{Order}
use Rattle.type_text.specs.declared.types.Link.{Link as StructLink}
use Rattle.record_values.specs.Links.{links_in}
use Rattle.dictionary.specs.declared.entries.Entry.{Entry}
use Rattle.dictionary.specs.Dictionary.{entry_of}
use Rattle.layout_plan.specs.Body.{number_of}
use Rattle.rooted_graph.specs.BreadthOrder.{has, number_of as place_in, roots_and_targets, IsBreadthOrder}
use Rattle.rooted_graph.specs.InOrder.{renumbered}
use Rattle.rooted_graph.proofs.Firsts.{has_at, first_occurrences_distinct}
use Rattle.rooted_graph.proofs.Places.{number_has, number_at}
use Rattle.rooted_graph.proofs.Orders.{number_of-member}
use Rattle.rooted_graph.proofs.Reached.{has_root}
use Rattle.rooted_graph.proofs.Targets.{slice_get_from_has}
use Rattle.link_graph.specs.Table.{IsWithin}
use Rattle.file_grammar.specs.declared.kind.Kind.{Kind}
use Rattle.file_grammar.specs.declared.kind.Kind.TheVariants.{FrSH, FrSE, FrameH, FrEndOfFrame, FrTOC, FrEndOfFile}
use Rattle.file_grammar.specs.declared.kind.Kind.TheVariants.{Other}
use Rattle.file_grammar.specs.Structure.{record_limit}
use Rattle.file_grammar.specs.Kind.{kind_named, is_target_kind}
use Rattle.file_grammar.specs.Record.{Reading}
use Rattle.frame_content.specs.Labels.{Label, printed_entry, label_by}
use Rattle.frame_content.specs.Frames.{Row, Frame, no_row, row_at, label_at}
use Rattle.canonical_file.specs.Ranges.{IsLinkInRange}
use Rattle.canonical_file.specs.Ordered.{frame_graph, row_in, ordered, class_of, class_at, is_of_class, instance_at}
use Rattle.canonical_file.specs.Ordered.{new_link}
use Rattle.canonical_file.specs.Records.{Record, row_record, end_record, records_of}
use Rattle.canonical_file.proofs.RenumberedChannels.{member-within}
use Rattle.canonical_laws.specs.Writable.{IsLabel, IsRow, IsWritable, IsRowOfKind, IsWritableRow, IsWritableEnd}
use Rattle.canonical_laws.specs.Writable.{IsWritableFrame, kind_at, size_of_record, as_read}
use Rattle.canonical_laws.proofs.DistinctSums.{distinct-sum}
use Rattle.canonical_laws.proofs.LabelFits.{all-links, label-stands}
use Rattle.canonical_laws.proofs.LabelRanges.{null-range}
use Rattle.canonical_laws.proofs.LabelsOnce.{label-is}
use Rattle.canonical_laws.proofs.PrintedDictionaries.{entry_of-printed}
use Rattle.canonical_laws.proofs.RootsInOrder.{roots-in-order}
use Rattle.canonical_laws.proofs.DictionarySteps.{StaysIn}
use Rattle.canonical_laws.proofs.SourceRecords.{canonical_length, new-size, new-writable, is-layout}
use Rattle.canonical_laws.proofs.SourceRecords.{source-fits, ready-plain, ready-linked}
use Rattle.canonical_laws.proofs.SourceFrames.{IsSourceFrame}
use Rattle.canonical_laws.proofs.SourceRows.{AreSourceRows, rows-linked}

-- ---- sums over an order

all-from_has : (P : ℕ → Type 0) (xs : List ℕ) → ((x : ℕ) → has xs x ≡ true → P x) → AllByRecursion P xs
all-from_has P [] each = tt
all-from_has P (x ∷ xs) each = (
  each x (or_left (nat_eq x x) (has xs x) (eq-eqb x x refl)),
  all-from_has P xs (λ y there. each y (or_right (nat_eq y x) (has xs y) there)),
)

at-least : (c : ℕ) (g : ℕ → ℕ) (xs : List ℕ) → AllByRecursion (λ x. c ≤ g x) xs → c * length xs ≤ sum_by g xs
at-least c g [] all = omega arith
at-least c g (x ∷ xs) all = omega (arith, all.0, at-least c g xs all.1, sum_by-cons g x xs)

module _ (order : Order) (held : List Entry) (f : Frame) (s : List ℕ) (source : AreSourceRows order held f)
    (breadth : IsBreadthOrder (frame_graph f).graph s) where
  abbrev o : Frame
  o = ordered f s

  abbrev n : ℕ
  n = length f.rows

  member : (x : ℕ) → has s x ≡ true → x < n
  member = member-within f s breadth (rows-linked f source)

  at : (k : ℕ) → k < length s → get_or s k 0 < n
  at k less = member (get_or s k 0) (has_at s k 0 less)

  distinct : IsDistinct nat_eq s
  distinct = subst (IsDistinct nat_eq) (sym breadth.first)
      (first_occurrences_distinct (roots_and_targets (frame_graph f).graph s))

  -- the records of the order weigh no more than all
  order-weight : sum_by source.weights s + source.end_weight ≤ record_limit
  order-weight =
      let part = distinct-sum source.weights n s distinct (all-from_has (λ x. x < n) s member) in
      omega (arith, part, source.load)

  heavy : (x : ℕ) → has s x ≡ true → 14 ≤ source.weights x
  heavy x there = omega (arith, (source.rows x (member x there)).label.weight_is)

  few : length s < 256 ^ 4
  few =
      let total = at-least 14 source.weights s (all-from_has (λ x. 14 ≤ source.weights x) s heavy) in
      omega (arith, total, order-weight)

  -- ---- instances and links

  instance-few : (k : ℕ) → k < length s → instance_at o k < 256 ^ 4
  instance-few k less =
      omega (arith, few, less, count_by-le-length (is_of_class (class_at o k)) (take k o.rows), length-take k o.rows)

  -- the label of a row, as it was read
  abbrev label_read : (x : ℕ) → x < n → Label
  label_read x less =
      let label = (source.rows x less).label in
      label_by (Some label.entry) (Some label.reading)

  abbrev row_read : (x : ℕ) → x < n → Row
  row_read x less = record { label = label_read x less; links = map (renumbered s) (row_at f x).links }

  row-read : (x : ℕ) (less : x < n) → row_in f s x ≡ row_read x less
  row-read x less = ap (λ (l : Label). record { label = l; links = map (renumbered s) (row_at f x).links })
      (source.rows x less).label.is

  row-is : (k : ℕ) (less : k < length s) → row_at o k ≡ row_read (get_or s k 0) (at k less)
  row-is k less = get_or-map (row_in f s) s k 0 no_row less ∙ row-read (get_or s k 0) (at k less)

  class-low : (k : ℕ) → k < length s → class_at o k ≤ 255
  class-low k less =
      subst (λ (r : Row). class_of r ≤ 255) (sym (row-is k less))
      (source.rows (get_or s k 0) (at k less)).label.source.entry.high

  link-within : (link : Option ℕ) → IsWithin (length s) (renumbered s link)
  link-within None = tt
  link-within (Some x) = by (place_in s x) refl
    where
      by : (found : Option ℕ) → place_in s x ≡ found → IsWithin (length s) found
      by None is = tt
      by (Some k) is = (number_at s x k is).0

  links-within : (links : List (Option ℕ)) → All (IsWithin (length s)) (map (renumbered s) links)
  links-within [] = All-nil (IsWithin (length s))
  links-within (link ∷ links) =
      All-cons (IsWithin (length s)) (renumbered s link) (map (renumbered s) links) (link-within link)
      (links-within links)

  link-range : (link : Option ℕ) → IsWithin (length s) link → IsLinkInRange (new_link o link)
  link-range None within = null-range
  link-range (Some k) within = (omega (arith, class-low k within), instance-few k within)

  links-range : (links : List (Option ℕ)) → All (IsWithin (length s)) links → All IsLinkInRange (map (new_link o) links)
  links-range [] all = All-nil IsLinkInRange
  links-range (link ∷ links) all =
      All-cons IsLinkInRange (new_link o link) (map (new_link o) links)
      (link-range link (All-head (IsWithin (length s)) link links all))
      (links-range links (All-tail (IsWithin (length s)) link links all))

  -- ---- a row in the order

  -- its links, as they are written
  abbrev row_links_in : (x : ℕ) → List StructLink
  row_links_in x = map (new_link o) (map (renumbered s) (row_at f x).links)

  many-links : (x : ℕ) (less : x < n)
      → length (row_links_in x) ≡ length (links_in (source.rows x less).label.reading.values)
  many-links x less =
      length-map (map (renumbered s) (row_at f x).links) (new_link o)
      ∙ length-map (row_at f x).links (renumbered s) ∙ (source.rows x less).many

  row-size : (x : ℕ) (less : x < n) (k : ℕ) → size_of_record (row_record o (k, row_in f s x)) ≤ source.weights x
  row-size x less k =
      let label = (source.rows x less).label in
      let ready = ready-linked label.source (row_links_in x) (many-links x less)
      (links-range (map (renumbered s) (row_at f x).links) (links-within (row_at f x).links)) in
      let size = new-size label.source (instance_at o k) _ ready in
      let same = ap (λ (r : Row). size_of_record (row_record o (k, r))) (row-read x less) in
      omega (arith, size, same, label.weight_is)

  weight-small : (k : ℕ) (less : k < length s)
      → canonical_length (source.rows (get_or s k 0) (at k less)).label.reading ≤ record_limit
  weight-small k less =
      let one = get_or-le-sum_by source.weights s k 0 less in
      omega (arith, one, order-weight, (source.rows (get_or s k 0) (at k less)).label.weight_is)

  row-writable : (k : ℕ) (less : k < length s) → IsWritable (row_record o (k, row_at o k))
  row-writable k less =
      let x : ℕ = get_or s k 0 in
      let within = at k less in
      let label = (source.rows x within).label in
      let ready = ready-linked label.source (row_links_in x) (many-links x within)
      (links-range (map (renumbered s) (row_at f x).links) (links-within (row_at f x).links)) in
      subst (λ (r : Row). IsWritable (row_record o (k, r))) (sym (row-is k less))
      (new-writable label.source (instance_at o k) _ ready (instance-few k less)
      (weight-small k less))

  rows-long : length o.rows ≡ length s
  rows-long = length-map s (row_in f s)

  row-row : (k : ℕ) (less : k < length s) → IsRow (length o.rows) (row_at o k)
  row-row k less =
      let x : ℕ = get_or s k 0 in
      let within = at k less in
      let label = (source.rows x within).label in
      let reading : Reading = label.reading in
      let stands = label-stands reading.fields reading.values (is-layout label.source).sums
      (source-fits label.source) in
      let row : IsRow (length s) (row_read x within) = record {
        label = label-is label.entry reading label.source.layout;
        as_many = length-map (row_at f x).links (renumbered s) ∙ (source.rows x within).many
            ∙ sym (all-links (map number_of reading.values) reading.fields reading.values _ stands);
        within = links-within (row_at f x).links;
      } in
      subst (λ rows. IsRow rows (row_at o k)) (sym rows-long)
      (subst (IsRow (length s)) (sym (row-is k less)) row)

  -- ---- the kinds of rows

  kind-is : (k : ℕ) → k < length s → kind_at o k ≡ kind_at f (get_or s k 0)
  kind-is k less =
      ap (λ (r : Row). kind_named r.label.entry.name)
      (get_or-map (row_in f s) s k 0 no_row less)

  one-place : (j k : ℕ) → j < length s → k < length s → get_or s j 0 ≡ get_or s k 0 → j ≡ k
  one-place j k first second same =
      same_Some j k (sym (number_of-member (frame_graph f).graph s breadth j first)
      ∙ ap (place_in s) same ∙ number_of-member (frame_graph f).graph s breadth k second)

  kind-fits : (k : ℕ) (less : k < length s) → (kind : Kind) → kind_at o k ≡ kind → is_target_kind kind ≡ true
      → IsRowOfKind kind o k
  kind-fits k less Other is target = tt
  kind-fits k less FrameH is target = λ j before other.
      let first : j < length s = omega (arith, before, less) in
      let same = source.one (get_or s j 0) (get_or s k 0) (at j first) (at k less)
      (sym (kind-is j first) ∙ other) (sym (kind-is k less) ∙ is) in
      let place = one-place j k first less same in
      omega (arith, place, before)
  kind-fits k less FrSH is target = cc
  kind-fits k less FrSE is target = cc
  kind-fits k less FrEndOfFrame is target = cc
  kind-fits k less FrTOC is target = cc
  kind-fits k less FrEndOfFile is target = cc

  row-kind : (k : ℕ) → k < length s → IsRowOfKind (kind_at o k) o k
  row-kind k less =
      kind-fits k less (kind_at o k) refl
      (ap is_target_kind (kind-is k less) ∙ (source.rows (get_or s k 0) (at k less)).kind)

  row-held : (next : List Entry) → StaysIn held next → (k : ℕ) (less : k < length s)
      → entry_of (map printed_entry next) (class_at o k) ≡ Some (label_at o k).entry
  row-held next stays k less =
      let label = (source.rows (get_or s k 0) (at k less)).label in
      subst (λ (r : Row). entry_of (map printed_entry next) (class_of r) ≡ Some r.label.entry) (sym (row-is k less))
      (entry_of-printed next label.entry.class
      ∙ ap (option_map printed_entry) (stays label.entry.class label.entry label.held_is))

  row-fits : (next : List Entry) → StaysIn held next → (k : ℕ) → k < length o.rows
      → IsWritableRow (map printed_entry next) o k
  row-fits next stays k less =
      let within : k < length s = omega (arith, less, rows-long) in
      record {
        held = row-held next stays k within;
        kind = row-kind k within;
        writable = row-writable k within;
        row = row-row k within;
      }

  -- ---- the end record

  end-size : size_of_record (end_record o) ≤ source.end_weight
  end-size =
      let end = source.end in
      let size = new-size end.source 0 _ (ready-plain end.source) in
      let same =
      ap (λ (l : Label). size_of_record (record { entry = l.entry; instance = 0; values = l.values })) end.is in
      omega (arith, size, same, end.weight_is)

  end-fits : (next : List Entry) → StaysIn held next → IsWritableEnd (map printed_entry next) o
  end-fits next stays =
      let end = source.end in
      record {
        held = subst (λ (l : Label). entry_of (map printed_entry next) l.entry.class ≡ Some l.entry) (sym end.is)
            (entry_of-printed next end.entry.class
            ∙ ap (option_map printed_entry) (stays end.entry.class end.entry end.held_is));
        kind = source.end_kind;
        writable = subst (λ (l : Label). IsWritable (record { entry = l.entry; instance = 0; values = l.values }))
            (sym end.is) (new-writable end.source 0 _ (ready-plain end.source) (omega arith)
            (omega (arith, order-weight, end.weight_is)));
        label = subst IsLabel (sym end.is) (label-is end.entry end.reading end.source.layout);
      }

  -- ---- the whole frame

  rows-size : (i : ℕ) (ns : List ℕ) → AllByRecursion (λ x. x < n) ns
      → sum_by size_of_record (map (row_record o) (enumerate_from i (map (row_in f s) ns))) ≤ sum_by source.weights ns
  rows-size i [] all = omega arith
  rows-size i (x ∷ xs) all =
      let rest : List Record = map (row_record o) (enumerate_from (i + 1) (map (row_in f s) xs)) in
      let later = rows-size (i + 1) xs all.1 in
      omega (
        arith,
        row-size x all.0 i,
        later,
        sum_by-cons source.weights x xs,
        sum_by-cons size_of_record (row_record o (i, row_in f s x)) rest,
      )

  frame-size : sum_by size_of_record (records_of o) ≤ record_limit
  frame-size =
      let rows = rows-size 0 s (all-from_has (λ x. x < n) s member) in
      let all = sum_by_push size_of_record (map (row_record o) (enumerate_from 0 o.rows)) (end_record o) in
      omega (arith, rows, all, end-size, order-weight)

  pub source-writable : (next : List Entry) → StaysIn held next → IsWritableFrame (map printed_entry next) o
  source-writable next stays = numbered (number_has s source.header reached)
    where
      reached : has s source.header ≡ true
      reached =
          let root = slice_get_from_has f.roots source.header source.root in
          has_root (frame_graph f).graph s breadth root.0 source.header root.1

      numbered : (k : ℕ) × (place_in s source.header ≡ Some k) → IsWritableFrame (map printed_entry next) o
      numbered (k, number) =
          let place = number_at s source.header k number in
          record {
            rows = row-fits next stays;
            end = end-fits next stays;
            header = k;
            header_within = omega (arith, place.0, rows-long);
            header_is = kind-is k place.0 ∙ ap (kind_at f) place.1 ∙ source.header_is;
            load = frame-size;
          }

-- the roots of a frame of a file, in its order, are those that a file gives it
pub source-as_read : {order : Order} {held : List Entry} (f : Frame) (s : List ℕ) → IsSourceFrame order held f
    → IsBreadthOrder (frame_graph f).graph s → as_read (ordered f s) ≡ ordered f s
source-as_read f s source breadth =
    ap (λ roots. record (ordered f s) { roots = roots }) (sym (roots-in-order f s breadth source.roots))
