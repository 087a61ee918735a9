-- The rows of a frame whose links are changed record by record are those of its cut.
use Rattle.std.proofs.Common.{◌≡◌, ℕ, ◌<◌, ◌⊎◌, inl, inr, Bool, true, false, cond, List, length}
use Rattle.std.proofs.Common.{Option, Some, nat_eq, refl, sym, ap, ◌∙◌, subst}
use Rattle.std.specs.List.{enumerate_from}
use Rattle.std.proofs.lemmas.Bool.{cases_eq, eq-eqb, ne_eqb}
use Rattle.std.proofs.lemmas.List.{get_or-set_same, get_or-set_other, length-set, length-map, ext_get_or}
use Rattle.std.proofs.lemmas.List.FromFn.{length-enumerate_from}
use Rattle.frame_content.specs.Frames.{Row, Frame, no_row, row_at, label_at}
use Rattle.contents_table.specs.declared.kind.Kind.{Kind}
use Rattle.contents_table.specs.Channels.{structure_of, raw_data, header_of, upper}
use Rattle.channel_extract.specs.Cuts.{is_number, head_link, next_link, only_link, without_link, header_links}
use Rattle.channel_extract.specs.Cuts.{cut_row, cut}
use Rattle.channel_extract.specs.Cutting.{linked_row, relinked_at}
use Rattle.channel_extract.proofs.CutLinks.{cut-row}

-- where one record has other links
pub row-here : (f : Frame) (n : ℕ) (links : List (Option ℕ)) → n < length f.rows
    → row_at (relinked_at f n links) n ≡ linked_row (row_at f n) links
row-here f n links less = get_or-set_same f.rows n (linked_row (row_at f n) links) no_row less

pub row-other : (f : Frame) (n m : ℕ) (links : List (Option ℕ)) → (m ≡ n → ⊥)
    → row_at (relinked_at f n links) m ≡ row_at f m
row-other f n m links apart = get_or-set_other f.rows n m (linked_row (row_at f n) links) no_row apart

-- labels are as they were
pub label-on : (f : Frame) (n m : ℕ) (links : List (Option ℕ)) → n < length f.rows
    → label_at (relinked_at f n links) m ≡ label_at f m
label-on f n m links less = by (cases_eq m n)
  where
    by : (m ≡ n) ⊎ (m ≡ n → ⊥) → label_at (relinked_at f n links) m ≡ label_at f m
    by (inl same) =
        subst (λ m. label_at (relinked_at f n links) m ≡ label_at f m) (sym same)
        (ap (λ (r : Row). r.label) (row-here f n links less))
    by (inr apart) = ap (λ (r : Row). r.label) (row-other f n m links apart)

-- the links of a record in the cut, where it is told which record it is
abbrev told_links : Kind → ℕ → ℕ → Bool → Bool → Bool → Row → List (Option ℕ)
told_links kind u k above header here r =
    cond above (only_link (head_link (structure_of kind) r.label) k r.links)
    (cond header (only_link (head_link raw_data r.label) u r.links)
    (cond here (without_link (next_link r.label) r.links) r.links))

-- the three records that a cut changes
abbrev pub upper_links : Frame → Kind → ℕ → ℕ → List (Option ℕ)
upper_links f kind u k = only_link (head_link (structure_of kind) (label_at f u)) k (row_at f u).links

abbrev pub raw_links : Frame → ℕ → ℕ → List (Option ℕ)
raw_links f h u = only_link (head_link raw_data (label_at f h)) u (row_at f h).links

abbrev pub last_links : Frame → ℕ → List (Option ℕ)
last_links f k = without_link (next_link (label_at f k)) (row_at f k).links

-- the frame after each change
pub record AreCutSteps (f f1 f2 f3 : Frame) (kind : Kind) (h u k : ℕ) : Type 0 where
  pub header_is : header_of f ≡ Some h
  pub upper_is : upper f kind ≡ Some u
  pub header_in : h < length f.rows
  pub upper_in : u < length f.rows
  pub channel_in : k < length f.rows
  pub channel_upper : k ≡ u → ⊥
  pub channel_header : k ≡ h → ⊥
  pub first : f1 ≡ relinked_at f u (upper_links f kind u k)
  pub same : h ≡ u → f2 ≡ f1
  pub second : (h ≡ u → ⊥) → f2 ≡ relinked_at f1 h (raw_links f1 h u)
  pub third : f3 ≡ relinked_at f2 k (last_links f2 k)

module _ (f f1 f2 f3 : Frame) (kind : Kind) (h u k : ℕ) (steps : AreCutSteps f f1 f2 f3 kind h u k) where
  told : (m : ℕ) (r : Row) (above header here : Bool) → nat_eq u m ≡ above → nat_eq h m ≡ header → nat_eq k m ≡ here
      → cut_row f kind k (m, r) ≡ linked_row r (told_links kind u k above header here r)
  told m r above header here is_above is_header is_here =
      λ i. linked_row r
      (cond ((ap (λ o. is_number o m) steps.upper_is ∙ is_above) i)
      (only_link (head_link (structure_of kind) r.label) k r.links)
      (cond ((ap (λ o. is_number o m) steps.header_is ∙ is_header) i)
      (header_links r.label (steps.upper_is i) r.links)
      (cond (is_here i) (without_link (next_link r.label) r.links) r.links)))

  -- lengths
  many1 : length f1.rows ≡ length f.rows
  many1 =
      ap (λ (f : Frame). length f.rows) steps.first
      ∙ length-set f.rows u (linked_row (row_at f u) (upper_links f kind u k))

  many2 : length f2.rows ≡ length f.rows
  many2 = by (cases_eq h u)
    where
      by : (h ≡ u) ⊎ (h ≡ u → ⊥) → length f2.rows ≡ length f.rows
      by (inl same) = ap (λ (f : Frame). length f.rows) (steps.same same) ∙ many1
      by (inr apart) =
          ap (λ (f : Frame). length f.rows) (steps.second apart)
          ∙ length-set f1.rows h (linked_row (row_at f1 h) (raw_links f1 h u)) ∙ many1

  many3 : length f3.rows ≡ length f.rows
  many3 =
      ap (λ (f : Frame). length f.rows) steps.third
      ∙ length-set f2.rows k (linked_row (row_at f2 k) (last_links f2 k)) ∙ many2

  -- rows after the first change
  here1 : row_at f1 u ≡ linked_row (row_at f u) (upper_links f kind u k)
  here1 = ap (λ f. row_at f u) steps.first ∙ row-here f u (upper_links f kind u k) steps.upper_in

  other1 : (m : ℕ) → (m ≡ u → ⊥) → row_at f1 m ≡ row_at f m
  other1 m apart = ap (λ f. row_at f m) steps.first ∙ row-other f u m (upper_links f kind u k) apart

  -- after the second
  here2 : (h ≡ u → ⊥) → row_at f2 h ≡ linked_row (row_at f h) (raw_links f h u)
  here2 apart =
      ap (λ f. row_at f h) (steps.second apart)
      ∙ row-here f1 h (raw_links f1 h u) (subst (λ n. h < n) (sym many1) steps.header_in)
      ∙ ap (λ (r : Row). linked_row r (only_link (head_link raw_data r.label) u r.links)) (other1 h apart)

  other2 : (m : ℕ) → (m ≡ h → ⊥) → row_at f2 m ≡ row_at f1 m
  other2 m other = by (cases_eq h u)
    where
      by : (h ≡ u) ⊎ (h ≡ u → ⊥) → row_at f2 m ≡ row_at f1 m
      by (inl same) = ap (λ f. row_at f m) (steps.same same)
      by (inr apart) = ap (λ f. row_at f m) (steps.second apart) ∙ row-other f1 h m (raw_links f1 h u) other

  above2 : row_at f2 u ≡ row_at f1 u
  above2 = by (cases_eq h u)
    where
      by : (h ≡ u) ⊎ (h ≡ u → ⊥) → row_at f2 u ≡ row_at f1 u
      by (inl same) = ap (λ f. row_at f u) (steps.same same)
      by (inr apart) = other2 u (λ e. apart (sym e))

  -- after the third
  here3 : row_at f3 k ≡ linked_row (row_at f k) (last_links f k)
  here3 =
      ap (λ f. row_at f k) steps.third
      ∙ row-here f2 k (last_links f2 k) (subst (λ n. k < n) (sym many2) steps.channel_in)
      ∙ ap (λ (r : Row). linked_row r (without_link (next_link r.label) r.links))
      (other2 k steps.channel_header ∙ other1 k steps.channel_upper)

  other3 : (m : ℕ) → (m ≡ k → ⊥) → row_at f3 m ≡ row_at f2 m
  other3 m apart = ap (λ f. row_at f m) steps.third ∙ row-other f2 k m (last_links f2 k) apart

  row-cut : (m : ℕ) → row_at f3 m ≡ cut_row f kind k (m, row_at f m)
  row-cut m = by (cases_eq m u) (cases_eq m h) (cases_eq m k)
    where
      by : (m ≡ u) ⊎ (m ≡ u → ⊥) → (m ≡ h) ⊎ (m ≡ h → ⊥) → (m ≡ k) ⊎ (m ≡ k → ⊥)
          → row_at f3 m ≡ cut_row f kind k (m, row_at f m)
      by (inl above) header here =
          subst (λ m. row_at f3 m ≡ cut_row f kind k (m, row_at f m)) (sym above)
          (other3 u (λ e. steps.channel_upper (sym e)) ∙ above2 ∙ here1
          ∙ sym (told u (row_at f u) true (nat_eq h u) (nat_eq k u) (eq-eqb u u refl) refl refl))
      by (inr above) (inl header) here =
          subst (λ m. row_at f3 m ≡ cut_row f kind k (m, row_at f m)) (sym header)
          (other3 h (λ e. steps.channel_header (sym e)) ∙ here2 (λ e. above (header ∙ e))
          ∙ sym (told h (row_at f h) false true (nat_eq k h) (ne_eqb u h (λ e. above (header ∙ sym e)))
          (eq-eqb h h refl) refl))
      by (inr above) (inr header) (inl here) =
          subst (λ m. row_at f3 m ≡ cut_row f kind k (m, row_at f m)) (sym here)
          (here3
          ∙ sym (told k (row_at f k) false false true (ne_eqb u k (λ e. steps.channel_upper (sym e)))
          (ne_eqb h k (λ e. steps.channel_header (sym e))) (eq-eqb k k refl)))
      by (inr above) (inr header) (inr here) =
          other3 m here ∙ other2 m header ∙ other1 m above
          ∙ sym (told m (row_at f m) false false false (ne_eqb u m (λ e. above (sym e)))
          (ne_eqb h m (λ e. header (sym e))) (ne_eqb k m (λ e. here (sym e))))

  pub rows-cut : f3.rows ≡ (cut f kind k).rows
  rows-cut =
      ext_get_or no_row f3.rows (cut f kind k).rows
      (many3 ∙ sym (length-map (enumerate_from 0 f.rows) (cut_row f kind k) ∙ length-enumerate_from 0 f.rows))
      (λ m less. row-cut m ∙ sym (cut-row f kind k m (subst (λ n. m < n) many3 less)))

  pub end-cut : f3.end ≡ f.end
  end-cut = ap (λ (f : Frame). f.end) steps.third ∙ middle (cases_eq h u) ∙ ap (λ (f : Frame). f.end) steps.first
    where
      middle : (h ≡ u) ⊎ (h ≡ u → ⊥) → f2.end ≡ f1.end
      middle (inl same) = ap (λ (f : Frame). f.end) (steps.same same)
      middle (inr apart) = ap (λ (f : Frame). f.end) (steps.second apart)
