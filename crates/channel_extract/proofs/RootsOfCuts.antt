-- A cut without static data reads back as it is: its FrameH is its one root.
use Rattle.std.proofs.Common.{◌≡◌, ℕ, zero, suc, ◌+◌, ◌<◌, ◌≤◌, ◌⊎◌, inl, inr, Bool, true, false, ◌||◌, cond}
use Rattle.std.proofs.Common.{Option, Some, None, List, [], ◌∷◌, ◌++◌, length, map, filter_map, get_or}
use Rattle.std.proofs.Common.{codes, refl, sym, ap, ◌∙◌, subst, arith, true≢false}
use Rattle.std.specs.List.{AllZip, AllByRecursion, list_any, enumerate_from, cons_option}
use Rattle.std.specs.Option.{option_map_or, option_to_list}
use Rattle.std.specs.Str.{bytes_eq}
use Rattle.std.proofs.lemmas.Bool.{cases_Bool, cases_lt, or_parts}
use Rattle.std.proofs.lemmas.List.{length-map, append-nil}
use Rattle.std.specs.Prelude.{slice_get}
use Rattle.std.proofs.lemmas.Slice.Eq.{bytes_eq-Decides}
use Rattle.std.proofs.lemmas.Option.{slice_get_within, get_or_from_slice_get}
use Rattle.dictionary.specs.declared.entries.Entry.{Entry}
use Rattle.rooted_graph.specs.BreadthOrder.{has, number_of, roots_and_targets, IsBreadthOrder}
use Rattle.rooted_graph.proofs.Firsts.{has_from_Contains}
use Rattle.rooted_graph.proofs.Places.{number_has, number_at}
use Rattle.rooted_graph.proofs.Reached.{has_root}
use Rattle.file_grammar.specs.declared.kind.Kind.{Kind as Structure}
use Rattle.file_grammar.specs.declared.kind.Kind.TheVariants.{FrameH}
use Rattle.file_grammar.specs.Kind.{kind_named}
use Rattle.frame_content.specs.Labels.{Label}
use Rattle.frame_content.specs.Frames.{Row, Frame, no_row, row_at, label_at}
use Rattle.contents_table.specs.declared.kind.Kind.{Kind}
use Rattle.contents_table.specs.Channels.{is_frame_header, header_of}
use Rattle.contents_table.proofs.Positions.{IsFound, position-found}
use Rattle.canonical_file.specs.Ordered.{frame_graph, row_in, ordered, IsInOrder}
use Rattle.canonical_file.proofs.RenumberedLinks.{label-in_order}
use Rattle.canonical_laws.specs.Writable.{IsRowOfKind, IsWritableFrame, kind_at, number_if, rows_named, as_read}
use Rattle.canonical_laws.proofs.SourceFrames.{header-named, named-header}
use Rattle.contents_table.specs.Channels.{channel_named}
use Rattle.channel_extract.specs.Cuts.{cut, cut_before, extraction}
use Rattle.channel_extract.specs.Laws.{HasNoStatData}
use Rattle.channel_extract.proofs.CutLinks.{cut-row}

-- ---- rows of a structure

abbrev is_named : List ℕ → Row → Bool
is_named name r = bytes_eq r.label.entry.name name

none-named : (name : List ℕ) (i : ℕ) (rows : List Row) → list_any (is_named name) rows ≡ false
    → filter_map (number_if name) (enumerate_from i rows) ≡ []
none-named name i [] none = refl
none-named name i (r ∷ rs) none =
    let parts = or_parts (is_named name r) (list_any (is_named name) rs) none in
    ap (λ b. cons_option (cond b (Some i) None) (filter_map (number_if name) (enumerate_from (i + 1) rs))) parts.0
    ∙ none-named name (i + 1) rs parts.1

others-none : (name : List ℕ) (rows : List Row)
    → ((m : ℕ) → m < length rows → is_named name (get_or rows m no_row) ≡ false)
    → list_any (is_named name) rows ≡ false
others-none name [] each = refl
others-none name (r ∷ rs) each =
    ap (λ b. b || list_any (is_named name) rs) (each 0 (omega arith))
    ∙ others-none name rs (λ m less. each (suc m) (omega (arith, less)))

one-named : (name : List ℕ) (rows : List Row) (j i : ℕ) → j < length rows → is_named name (get_or rows j no_row) ≡ true
    → ((m : ℕ) → m < length rows → (m ≡ j → ⊥) → is_named name (get_or rows m no_row) ≡ false)
    → filter_map (number_if name) (enumerate_from i rows) ≡ (i + j) ∷ []
one-named name [] j i less named others = absurd (omega (arith, less))
one-named name (r ∷ rs) zero i less named others =
    let here : i ≡ i + 0 = omega arith in
    ap (λ b. cons_option (cond b (Some i) None) (filter_map (number_if name) (enumerate_from (i + 1) rs))) named
    ∙ ap (λ xs. i ∷ xs) (none-named name (i + 1) rs (others-none name rs
    (λ m less. others (suc m) (omega (arith, less)) (λ same. omega (arith, same)))))
    ∙ ap (λ k. k ∷ []) here
one-named name (r ∷ rs) (suc j) i less named others =
    let next : (i + 1) + j ≡ i + suc j = omega arith in
    ap (λ b. cons_option (cond b (Some i) None) (filter_map (number_if name) (enumerate_from (i + 1) rs)))
    (others 0 (omega arith) (λ same. omega (arith, same)))
    ∙ one-named name rs j (i + 1) (omega (arith, less)) named
    (λ m below apart. others (suc m) (omega (arith, below)) (λ same. apart (omega (arith, same))))
    ∙ ap (λ k. k ∷ []) next

-- ---- the FrameH of a frame that can be written

only-header : (dictionary : List Entry) (o : Frame) (j : ℕ) → IsWritableFrame dictionary o → j < length o.rows
    → kind_at o j ≡ FrameH → rows_named (codes "FrameH") o ≡ j ∷ []
only-header dictionary o j writable less is =
    one-named (codes "FrameH") o.rows j 0 less (header-named (label_at o j).entry.name is) others
    ∙ ap (λ k. k ∷ []) zero-at
  where
    zero-at : 0 + j ≡ j
    zero-at = omega arith

    later : (m n : ℕ) → m < n → n < length o.rows → kind_at o m ≡ FrameH → kind_at o n ≡ FrameH → ⊥
    later m n before within left right =
        subst (λ (kind : Structure). IsRowOfKind kind o n) right (writable.rows n within).kind m before left

    others : (m : ℕ) → m < length o.rows → (m ≡ j → ⊥) → is_named (codes "FrameH") (row_at o m) ≡ false
    others m within apart = by (cases_Bool (is_named (codes "FrameH") (row_at o m)))
      where
        both : kind_at o m ≡ FrameH → (m < j) ⊎ (j ≤ m) → ⊥
        both named (inl before) = later m j before less named is
        both named (inr after) = later j m (omega (arith, after, apart)) within is named

        by : (is_named (codes "FrameH") (row_at o m) ≡ true) ⊎ (is_named (codes "FrameH") (row_at o m) ≡ false)
            → is_named (codes "FrameH") (row_at o m) ≡ false
        by (inr other) = other
        by (inl named) = absurd (both (named-header (label_at o m).entry.name named) (cases_lt m j))

-- ---- the one root of a cut

-- the cut has no root where there is no FrameH, and then no records in its order
no-root : (f : Frame) (kind : Kind) (k : ℕ) (t : List ℕ) → IsBreadthOrder (frame_graph (cut f kind k)).graph t
    → header_of f ≡ None → 0 < length t → ⊥
no-root f kind k t breadth none some =
    let there = has_from_Contains (roots_and_targets (frame_graph (cut f kind k)).graph []) (get_or t 0 0)
    (breadth.earlier 0 some) in
    true≢false (sym there ∙ ap (λ found. has (option_to_list found ++ []) (get_or t 0 0)) none)

module _ (dictionary : List Entry) (f : Frame) (kind : Kind) (k : ℕ) (t : List ℕ)
    (breadth : IsBreadthOrder (frame_graph (cut f kind k)).graph t)
    (writable : IsWritableFrame dictionary (ordered (cut f kind k) t)) where
  abbrev c : Frame
  c = cut f kind k

  abbrev o : Frame
  o = ordered c t

  root-is : (x : ℕ) → header_of f ≡ Some x → (j : ℕ) → number_of t x ≡ Some j
      → o.roots ≡ rows_named (codes "FrameH") o
  root-is x header j number =
      ap (λ found. filter_map (number_of t) (option_to_list found)) header
      ∙ ap (λ found. cons_option found []) number
      ∙ sym (only-header dictionary o j writable within named)
    where
      found : IsFound is_frame_header f.rows x
      found = position-found is_frame_header f.rows x header

      within : j < length o.rows
      within = subst (λ n. j < n) (sym (length-map t (row_in c t))) (number_at t x j number).0

      passes : bytes_eq (codes "FrameH") (label_at f x).entry.name ≡ true
      passes = ap is_frame_header (get_or_from_slice_get f.rows x found.element no_row found.is) ∙ found.passes

      header_kind : kind_named (label_at f x).entry.name ≡ FrameH
      header_kind =
          named-header (label_at f x).entry.name
          ((bytes_eq-Decides (label_at f x).entry.name (codes "FrameH")).1
          (sym ((bytes_eq-Decides (codes "FrameH") (label_at f x).entry.name).0 passes)))

      label : label_at o j ≡ label_at f x
      label =
          label-in_order c t x j number
          ∙ ap (λ (r : Row). r.label) (cut-row f kind k x (slice_get_within f.rows x found.element found.is))

      named : kind_at o j ≡ FrameH
      named = ap (λ (l : Label). kind_named l.entry.name) label ∙ header_kind

  roots-are : o.roots ≡ rows_named (codes "FrameH") o
  roots-are = by (header_of f) refl
    where
      long : 0 < length t
      long = let same = length-map t (row_in c t) in omega (arith, same, writable.header_within)

      by : (found : Option ℕ) → header_of f ≡ found → o.roots ≡ rows_named (codes "FrameH") o
      by None header = absurd (no-root f kind k t breadth header long)
      by (Some x) header =
          let number = number_has t x (has_root (frame_graph c).graph t breadth 0 x
          (ap (λ found. slice_get (option_to_list found) 0) header)) in
          root-is x header number.0 number.1

  pub cut-as_read : HasNoStatData o → as_read o ≡ o
  cut-as_read none =
      ap (λ stats. record o { roots = rows_named (codes "FrameH") o ++ stats })
      (none-named (codes "FrStatData") 0 o.rows none)
      ∙ ap (λ roots. record o { roots = roots }) (append-nil (rows_named (codes "FrameH") o) ∙ sym roots-are)

-- ---- cuts

pub cuts-as_read : (dictionary : List Entry) (kind : Kind) (name : List ℕ) (fs os : List Frame)
    → AllZip IsInOrder (extraction kind name fs) os → AllByRecursion (IsWritableFrame dictionary) os
    → AllByRecursion HasNoStatData os → map as_read os ≡ os
cuts-as_read dictionary kind name [] [] z writable none = refl
cuts-as_read dictionary kind name [] (o ∷ os) z writable none = absurd z
cuts-as_read dictionary kind name (f ∷ fs) os z writable none =
    by (channel_named f kind name) (cuts-as_read dictionary kind name fs) os z writable none
  where
    one : (k : ℕ) (o : Frame) → IsInOrder (cut f kind k) o → IsWritableFrame dictionary o → HasNoStatData o
        → as_read o ≡ o
    one k o order can clear =
        subst (λ x. as_read x ≡ x) (sym order.is)
        (cut-as_read dictionary f kind k order.order order.breadth (subst (IsWritableFrame dictionary) order.is can)
        (subst HasNoStatData order.is clear))

    by : (found : Option ℕ)
        → ((os : List Frame) → AllZip IsInOrder (extraction kind name fs) os
        → AllByRecursion (IsWritableFrame dictionary) os → AllByRecursion HasNoStatData os → map as_read os ≡ os)
        → (os : List Frame)
        → AllZip IsInOrder
        (option_map_or (cut_before f kind (extraction kind name fs)) found (extraction kind name fs)) os
        → AllByRecursion (IsWritableFrame dictionary) os → AllByRecursion HasNoStatData os → map as_read os ≡ os
    by None later os z can clear = later os z can clear
    by (Some k) later [] z can clear = absurd z
    by (Some k) later (o ∷ os) z can clear =
        λ i. one k o z.0 can.0 clear.0 i ∷ later os z.1 can.1 clear.1 i
