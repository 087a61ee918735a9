-- What is known of a frame of a file of bytes, by its rows alone.
use Rattle.std.proofs.Common.{◌≡◌, ℕ, ◌+◌, ◌<◌, ◌≤◌, ◌⊎◌, inl, inr, Bool, true, false, cond, true≢false, Some, List, []}
use Rattle.std.proofs.Common.{◌∷◌, ◌++◌, length, All, sum_by, codes, refl, sym, ap, ◌∙◌, subst, arith}
use Rattle.std.specs.List.{AllByRecursion, range_with_len, position_or_len}
use Rattle.std.specs.Str.{bytes_eq}
use Rattle.std.proofs.lemmas.Bool.{cond-true, cond-false, cases_lt, cases_Bool, lt-ltb, le-ltb, or_left}
use Rattle.std.proofs.lemmas.List.{get_or_past}
use Rattle.std.proofs.lemmas.List.Elements.{All-from_recursion, All-from_get_or}
use Rattle.std.proofs.lemmas.List.Sums.{position_or_len_is, passes_at_first}
use Rattle.std.proofs.lemmas.Option.{none-some, same_Some}
use Rattle.std.proofs.lemmas.Slice.Eq.{bytes_eq-Decides}
use Rattle.scalar_types.specs.declared.Order.{Order}
use Rattle.record_values.specs.Links.{links_in}
use Rattle.dictionary.specs.declared.entries.Entry.{Entry}
use Rattle.dictionary.specs.Dictionary.{entry_of}
use Rattle.rooted_graph.specs.BreadthOrder.{has}
use Rattle.rooted_graph.proofs.Firsts.{has-append}
use Rattle.rooted_graph.proofs.Places.{Contains_from_has}
use Rattle.link_graph.specs.Table.{IsWithin}
use Rattle.file_grammar.specs.declared.kind.Kind.TheVariants.{FrameH, FrEndOfFrame, FrTOC, FrEndOfFile, Other}
use Rattle.file_grammar.specs.Structure.{record_limit}
use Rattle.file_grammar.specs.Kind.{kind_named, is_target_kind}
use Rattle.file_grammar.specs.Record.{Reading}
use Rattle.frame_content.specs.Labels.{Label, label_by}
use Rattle.frame_content.specs.Frames.{Row, Frame, no_row, row_at}
use Rattle.contents_table.specs.Channels.{is_frame_header, header_of}
use Rattle.canonical_file.specs.Renumbered.{IsLinked, HasOneHeader}
use Rattle.canonical_laws.specs.Writable.{kind_at}
use Rattle.canonical_laws.proofs.RootsInOrder.{root_numbers, numbers_from, AtFrom, numbers-sound}
use Rattle.canonical_laws.proofs.RootsInOrder.{numbers-complete}
use Rattle.canonical_laws.proofs.SourceRecords.{IsSourceBody, canonical_length}

-- ---- what is known

-- a label: the body from which it was read, and what that weighs
pub record IsSourceLabel (order : Order) (held : List Entry) (l : Label) (weight : ℕ) : Type 0 where
  pub entry : Entry
  pub reading : Reading
  pub body : List ℕ
  pub source : IsSourceBody order entry reading body
  pub held_is : entry_of held entry.class ≡ Some entry
  pub is : l ≡ label_by (Some entry) (Some reading)
  pub weight_is : canonical_length reading ≤ weight

-- a row among so many
pub record IsSourceRow (order : Order) (held : List Entry) (rows : ℕ) (r : Row) (weight : ℕ) : Type 0 where
  pub label : IsSourceLabel order held r.label weight
  pub many : length r.links ≡ length (links_in label.reading.values)
  pub within : All (IsWithin rows) r.links
  pub kind : is_target_kind (kind_named r.label.entry.name) ≡ true

-- A frame, by the entries held at its end.
pub record IsSourceFrame (order : Order) (held : List Entry) (f : Frame) : Type 0 where
  pub weights : ℕ → ℕ
  pub end_weight : ℕ
  pub rows : (n : ℕ) → n < length f.rows → IsSourceRow order held (length f.rows) (row_at f n) (weights n)
  pub end : IsSourceLabel order held f.end end_weight
  pub end_kind : kind_named f.end.entry.name ≡ FrEndOfFrame
  pub roots : f.roots ≡ root_numbers f.rows
  pub header : ℕ
  pub header_within : header < length f.rows
  pub header_is : kind_at f header ≡ FrameH
  pub one : (n m : ℕ) → n < length f.rows → m < length f.rows → kind_at f n ≡ FrameH → kind_at f m ≡ FrameH → n ≡ m
  pub load : sum_by weights (range_with_len 0 (length f.rows)) + end_weight ≤ record_limit

-- ---- the name of FrameH

pub header-named : (name : List ℕ) → kind_named name ≡ FrameH → bytes_eq name (codes "FrameH") ≡ true
header-named name is =
    by (bytes_eq name (codes "FrameH")) (bytes_eq name (codes "FrEndOfFrame")) (bytes_eq name (codes "FrTOC"))
    (bytes_eq name (codes "FrEndOfFile")) is
  where
    by : (a b c d : Bool)
        → cond a FrameH (cond b FrEndOfFrame (cond c FrTOC (cond d FrEndOfFile Other))) ≡ FrameH → a ≡ true
    by true b c d is = refl
    by false true c d is = cc
    by false false true d is = cc
    by false false false true is = cc
    by false false false false is = cc

pub named-header : (name : List ℕ) → bytes_eq name (codes "FrameH") ≡ true → kind_named name ≡ FrameH
named-header name is = cond-true _ _ _ is

turned : (name other : List ℕ) → bytes_eq other other ≡ true → bytes_eq name other ≡ true → bytes_eq other name ≡ true
turned name other self is = ap (λ m. bytes_eq other m) ((bytes_eq-Decides name other).0 is) ∙ self

header-row : (r : Row) → is_frame_header r ≡ true → kind_named r.label.entry.name ≡ FrameH
header-row r is = named-header r.label.entry.name (turned (codes "FrameH") r.label.entry.name
    (ap (λ m. bytes_eq m m) (sym ((bytes_eq-Decides (codes "FrameH") r.label.entry.name).0 is))) is)

pub row-header : (r : Row) → kind_named r.label.entry.name ≡ FrameH → is_frame_header r ≡ true
row-header r is = turned r.label.entry.name (codes "FrameH") refl (header-named r.label.entry.name is)

-- ---- roots and links

pub both : {X : Type 0} (P : X → Type 0) (xs ys : List X) → AllByRecursion P xs → AllByRecursion P ys
    → AllByRecursion P (xs ++ ys)
both P [] ys first second = second
both P (x ∷ xs) ys first second = (first.0, both P xs ys first.1 second)

below : (name : List ℕ) (rows : List Row) (ns : List ℕ) → AllByRecursion (AtFrom name rows 0) ns
    → AllByRecursion (λ n. n < length rows) ns
below name rows [] all = tt
below name rows (n ∷ ns) all =
    let less : all.0.0 < length rows = all.0.3 in
    let same : n ≡ 0 + all.0.0 = all.0.1 in
    (omega (arith, less, same), below name rows ns all.1)

numbers-below : (name : List ℕ) (rows : List Row) → AllByRecursion (λ n. n < length rows) (numbers_from name 0 rows)
numbers-below name rows = below name rows (numbers_from name 0 rows) (numbers-sound name 0 rows)

pub source-linked : {order : Order} {held : List Entry} (f : Frame) → IsSourceFrame order held f → IsLinked f
source-linked f source = record {
  roots = subst (All (λ n. n < length f.rows)) (sym source.roots)
      (All-from_recursion (λ n. n < length f.rows) (root_numbers f.rows)
      (both (λ n. n < length f.rows) (numbers_from (codes "FrameH") 0 f.rows)
      (numbers_from (codes "FrStatData") 0 f.rows)
      (numbers-below (codes "FrameH") f.rows) (numbers-below (codes "FrStatData") f.rows)));
  links = All-from_get_or (λ (r : Row). All (IsWithin (length f.rows)) r.links) f.rows no_row
      (λ n within. (source.rows n within).within);
}

-- ---- the one FrameH

-- a FrameH is a root
pub header-root : {order : Order} {held : List Entry} (f : Frame) → IsSourceFrame order held f → (n : ℕ)
    → n < length f.rows → kind_at f n ≡ FrameH → has f.roots n ≡ true
header-root f source n within is =
    let heads : List ℕ = numbers_from (codes "FrameH") 0 f.rows in
    let stats : List ℕ = numbers_from (codes "FrStatData") 0 f.rows in
    let there : has heads n ≡ true =
    ap (has heads) (omega arith)
    ∙ numbers-complete (codes "FrameH") 0 f.rows n within (header-named (row_at f n).label.entry.name is) in
    ap (λ xs. has xs n) source.roots ∙ has-append heads stats n ∙ or_left (has heads n) (has stats n) there

header-within : (f : Frame) (n : ℕ) → is_frame_header (row_at f n) ≡ true → n < length f.rows
header-within f n is = by (cases_lt n (length f.rows))
  where
    by : (n < length f.rows) ⊎ (length f.rows ≤ n) → n < length f.rows
    by (inl less) = less
    by (inr past) = absurd (true≢false (sym is ∙ ap is_frame_header (get_or_past f.rows n no_row past)))

first-header : {order : Order} {held : List Entry} (f : Frame) → IsSourceFrame order held f → (n : ℕ)
    → is_frame_header (row_at f n) ≡ true → header_of f ≡ Some n
first-header f source n is =
    let within = header-within f n is in
    let first : position_or_len is_frame_header f.rows ≡ n =
    position_or_len_is is_frame_header f.rows n no_row (omega arith) before (λ less. is) in
    cond-true _ _ _ (lt-ltb (position_or_len is_frame_header f.rows) (length f.rows) (omega (arith, first, within)))
    ∙ ap Some first
  where
    before : (k : ℕ) → k < n → is_frame_header (row_at f k) ≡ false
    before k less = by (cases_Bool (is_frame_header (row_at f k)))
      where
        by : (is_frame_header (row_at f k) ≡ true) ⊎ (is_frame_header (row_at f k) ≡ false)
            → is_frame_header (row_at f k) ≡ false
        by (inr other) = other
        by (inl other) =
            let same : k ≡ n =
            source.one k n (header-within f k other) (header-within f n is) (header-row (row_at f k) other)
            (header-row (row_at f n) is) in
            absurd (omega (arith, same, less))

found-header : (f : Frame) (n : ℕ) → header_of f ≡ Some n → is_frame_header (row_at f n) ≡ true
found-header f n is = by (cases_lt (position_or_len is_frame_header f.rows) (length f.rows))
  where
    by : (position_or_len is_frame_header f.rows < length f.rows)
        ⊎ (length f.rows ≤ position_or_len is_frame_header f.rows) → is_frame_header (row_at f n) ≡ true
    by (inl less) =
        let there = cond-true _ _ _ (lt-ltb (position_or_len is_frame_header f.rows) (length f.rows) less) in
        let same : position_or_len is_frame_header f.rows ≡ n = same_Some _ _ (sym there ∙ is) in
        subst (λ k. is_frame_header (row_at f k) ≡ true) same (passes_at_first is_frame_header f.rows no_row less)
    by (inr past) =
        absurd (none-some n (sym (cond-false _ _ _
        (le-ltb (position_or_len is_frame_header f.rows) (length f.rows) past)) ∙ is))

pub source-header : {order : Order} {held : List Entry} (f : Frame) → IsSourceFrame order held f → HasOneHeader f
source-header f source = record {
  only = first-header f source;
  root = λ n is.
      let there = found-header f n is in
      Contains_from_has f.roots n
      (header-root f source n (header-within f n there) (header-row (row_at f n) there));
}
