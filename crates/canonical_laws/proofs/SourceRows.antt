-- The rows of a frame of a file of bytes, whatever their links and its roots.
use Rattle.std.proofs.Common.{◌≡◌, ℕ, ◌+◌, ◌<◌, ◌≤◌, true, nat_eq, Some, List, [], ◌∷◌, length, All, sum_by}
use Rattle.std.proofs.Common.{refl, sym, ap, ◌∙◌, subst, arith}
use Rattle.std.specs.List.{range_with_len}
use Rattle.std.specs.Option.{option_to_list}
use Rattle.std.proofs.lemmas.Bool.{eq-eqb, or_left}
use Rattle.std.proofs.lemmas.List.Elements.{All-cons, All-nil, All-from_get_or}
use Rattle.scalar_types.specs.declared.Order.{Order}
use Rattle.dictionary.specs.declared.entries.Entry.{Entry}
use Rattle.rooted_graph.specs.BreadthOrder.{has}
use Rattle.link_graph.specs.Table.{IsWithin}
use Rattle.file_grammar.specs.declared.kind.Kind.TheVariants.{FrameH, FrEndOfFrame}
use Rattle.file_grammar.specs.Structure.{record_limit}
use Rattle.file_grammar.specs.Kind.{kind_named}
use Rattle.frame_content.specs.Labels.{Label}
use Rattle.frame_content.specs.Frames.{Row, Frame, no_row, row_at}
use Rattle.contents_table.specs.Channels.{header_of}
use Rattle.canonical_file.specs.Renumbered.{IsLinked}
use Rattle.canonical_laws.specs.Writable.{kind_at}
use Rattle.canonical_laws.specs.Sources.{IsRelinked}
use Rattle.canonical_laws.proofs.SourceFrames.{IsSourceLabel, IsSourceRow, IsSourceFrame, source-linked, source-header}
use Rattle.canonical_laws.proofs.SourceFrames.{header-root, row-header}

-- What is known of a frame of a file but for its roots, of which one is the FrameH.
pub record AreSourceRows (order : Order) (held : List Entry) (f : Frame) : Type 0 where
  pub weights : ℕ → ℕ
  pub end_weight : ℕ
  pub rows : (n : ℕ) → n < length f.rows → IsSourceRow order held (length f.rows) (row_at f n) (weights n)
  pub end : IsSourceLabel order held f.end end_weight
  pub end_kind : kind_named f.end.entry.name ≡ FrEndOfFrame
  pub roots : All (λ n. n < length f.rows) f.roots
  pub header : ℕ
  pub header_within : header < length f.rows
  pub header_is : kind_at f header ≡ FrameH
  pub root : has f.roots header ≡ true
  pub one : (n m : ℕ) → n < length f.rows → m < length f.rows → kind_at f n ≡ FrameH → kind_at f m ≡ FrameH → n ≡ m
  pub load : sum_by weights (range_with_len 0 (length f.rows)) + end_weight ≤ record_limit

pub rows-linked : {order : Order} {held : List Entry} (f : Frame) → AreSourceRows order held f → IsLinked f
rows-linked f source = record {
  roots = source.roots;
  links = All-from_get_or (λ (r : Row). All (IsWithin (length f.rows)) r.links) f.rows no_row
      (λ n within. (source.rows n within).within);
}

pub source-rows : {order : Order} {held : List Entry} (f : Frame) → IsSourceFrame order held f
    → AreSourceRows order held f
source-rows f source = record {
  weights = source.weights;
  end_weight = source.end_weight;
  rows = source.rows;
  end = source.end;
  end_kind = source.end_kind;
  roots = (source-linked f source).roots;
  header = source.header;
  header_within = source.header_within;
  header_is = source.header_is;
  root = header-root f source source.header source.header_within source.header_is;
  one = source.one;
  load = source.load;
}

-- ---- other links

module _ {order : Order} {held : List Entry} (f g : Frame) (source : IsSourceFrame order held f)
    (relinked : IsRelinked f g) where
  many : length f.rows ≡ length g.rows
  many = sym relinked.as_many

  at : (n : ℕ) → n < length g.rows → n < length f.rows
  at n less = subst (λ m. n < m) relinked.as_many less

  kind-is : (n : ℕ) → n < length g.rows → kind_at g n ≡ kind_at f n
  kind-is n less = ap (λ (l : Label). kind_named l.entry.name) (relinked.labels n (at n less))

  -- the row of a number with its new links
  new-row : (n : ℕ) (less : n < length f.rows)
      → IsSourceRow order held (length f.rows) (record { label = (row_at f n).label; links = (row_at g n).links })
      (source.weights n)
  new-row n less =
      let row = source.rows n less in
      record {
        label = row.label;
        many = relinked.links n less ∙ row.many;
        within = relinked.within n less;
        kind = row.kind;
      }

  row-is : (n : ℕ) → n < length g.rows → IsSourceRow order held (length g.rows) (row_at g n) (source.weights n)
  row-is n less =
      let R : ℕ → Row → Type 0 = λ count r. IsSourceRow order held count r (source.weights n) in
      let own : Row = record { label = (row_at f n).label; links = (row_at g n).links } in
      let same : own ≡ row_at g n =
      ap (λ (l : Label). record { label = l; links = (row_at g n).links }) (sym (relinked.labels n (at n less))) in
      subst (λ count. R count (row_at g n)) many (subst (R (length f.rows)) same (new-row n (at n less)))

  header-is : header_of f ≡ Some source.header
  header-is = (source-header f source).only source.header (row-header (row_at f source.header) source.header_is)

  roots-are : g.roots ≡ source.header ∷ []
  roots-are = relinked.roots ∙ ap option_to_list header-is

  header-at : source.header < length g.rows
  header-at = subst (λ m. source.header < m) many source.header_within

  pub relinked-rows : AreSourceRows order held g
  relinked-rows = record {
    weights = source.weights;
    end_weight = source.end_weight;
    rows = row-is;
    end = subst (λ (l : Label). IsSourceLabel order held l source.end_weight) (sym relinked.end) source.end;
    end_kind = ap (λ (l : Label). kind_named l.entry.name) relinked.end ∙ source.end_kind;
    roots = subst (All (λ n. n < length g.rows)) (sym roots-are)
        (All-cons (λ n. n < length g.rows) source.header [] header-at (All-nil (λ n. n < length g.rows)));
    header = source.header;
    header_within = header-at;
    header_is = kind-is source.header header-at ∙ source.header_is;
    root = ap (λ xs. has xs source.header) roots-are
        ∙ or_left (nat_eq source.header source.header) (has [] source.header) (eq-eqb source.header source.header refl);
    one = λ n m first second left right. source.one n m (at n first) (at m second)
        (sym (kind-is n first) ∙ left) (sym (kind-is m second) ∙ right);
    load = subst (λ m. sum_by source.weights (range_with_len 0 m) + source.end_weight ≤ record_limit) many source.load;
  }
