-- The cut of a frame has its rows with other links.
use Rattle.std.proofs.Common.{◌≡◌, ℕ, ◌+◌, ◌<◌, Bool, true, false, cond, Option, Some, None, List, [], ◌∷◌, map, length}
use Rattle.std.proofs.Common.{nat_eq, refl, sym, ap, ◌∙◌, subst, All}
use Rattle.std.specs.List.{AllByRecursion, enumerate_from}
use Rattle.std.proofs.lemmas.List.{length-map}
use Rattle.std.proofs.lemmas.List.FromFn.{length-enumerate_from}
use Rattle.std.proofs.lemmas.List.Elements.{All-from_recursion, recursion_from_All, All-get_or}
use Rattle.rooted_graph.specs.BreadthOrder.{IsBreadthOrder}
use Rattle.rooted_graph.proofs.Queues.{order_exists}
use Rattle.link_graph.specs.Table.{IsWithin}
use Rattle.frame_content.specs.Labels.{Label}
use Rattle.frame_content.specs.Frames.{Row, Frame, no_row, row_at, label_at}
use Rattle.contents_table.specs.declared.kind.Kind.{Kind}
use Rattle.contents_table.specs.Channels.{structure_of, raw_data, header_of, upper}
use Rattle.canonical_file.specs.Ordered.{frame_graph}
use Rattle.canonical_file.proofs.RenumberedLinks.{AreIn}
use Rattle.canonical_file.proofs.RenumberedHeader.{upper-in}
use Rattle.canonical_file.proofs.RenumberedChannels.{member-within}
use Rattle.canonical_laws.specs.Sources.{IsRelinked}
use Rattle.channel_extract.specs.Cuts.{head_link, next_link, is_number, kept_link, other_link, only_link, without_link}
use Rattle.contents_table.specs.Channels.{channel_named}
use Rattle.channel_extract.specs.Cuts.{header_links, cut_links, cut_row, cut}
use Rattle.channel_extract.specs.CutLaws.{IsSoundFrame}
use Rattle.channel_extract.proofs.CutLinks.{cut-row}
use Rattle.channel_extract.proofs.CutFrames.{channel-in}

-- ---- links

-- as many links, and each leads to one of so many records
record AreLike (count : ℕ) (old new : List (Option ℕ)) : Type 0 where
  many : length new ≡ length old
  within : All (IsWithin count) new

changed-many : (change : ℕ × Option ℕ → Option ℕ) (links : List (Option ℕ))
    → length (map change (enumerate_from 0 links)) ≡ length links
changed-many change links = length-map (enumerate_from 0 links) change ∙ length-enumerate_from 0 links

kept-within : (count : ℕ) (number : Option ℕ) (to i : ℕ) (links : List (Option ℕ)) → to < count
    → AllByRecursion (IsWithin count) (map (kept_link number to) (enumerate_from i links))
kept-within count number to i [] less = tt
kept-within count number to i (link ∷ links) less =
    (by (is_number number i), kept-within count number to (i + 1) links less)
  where
    by : (b : Bool) → IsWithin count (cond b (Some to) None)
    by true = less
    by false = tt

only-like : (count : ℕ) (number : Option ℕ) (to : ℕ) (links : List (Option ℕ)) → to < count
    → AreLike count links (only_link number to links)
only-like count number to links less = record {
  many = changed-many (kept_link number to) links;
  within = All-from_recursion (IsWithin count) (only_link number to links) (kept-within count number to 0 links less);
}

other-within : (count : ℕ) (number : Option ℕ) (i : ℕ) (links : List (Option ℕ))
    → AllByRecursion (IsWithin count) links
    → AllByRecursion (IsWithin count) (map (other_link number) (enumerate_from i links))
other-within count number i [] all = tt
other-within count number i (link ∷ links) all =
    (by (is_number number i), other-within count number (i + 1) links all.1)
  where
    by : (b : Bool) → IsWithin count (cond b None link)
    by true = tt
    by false = all.0

without-like : (count : ℕ) (number : Option ℕ) (links : List (Option ℕ)) → All (IsWithin count) links
    → AreLike count links (without_link number links)
without-like count number links all = record {
  many = changed-many (other_link number) links;
  within = All-from_recursion (IsWithin count) (without_link number links)
      (other-within count number 0 links (recursion_from_All (IsWithin count) links all));
}

header-like : (count : ℕ) (label : Label) (found : Option ℕ) (links : List (Option ℕ)) → IsWithin count found
    → All (IsWithin count) links → AreLike count links (header_links label found links)
header-like count label None links there all = record { many = refl; within = all }
header-like count label (Some u) links there all = only-like count (head_link raw_data label) u links there

-- ---- the cut

-- what is found in an order is a record
found-within : (f : Frame) (s : List ℕ) → IsBreadthOrder (frame_graph f).graph s → IsSoundFrame f → (found : Option ℕ)
    → AreIn s found → IsWithin (length f.rows) found
found-within f s o sound None there = tt
found-within f s o sound (Some n) there = member-within f s o sound.linked n there

module _ (f : Frame) (kind : Kind) (k : ℕ) (sound : IsSoundFrame f) (channel : k < length f.rows) where
  abbrev count : ℕ
  count = length f.rows

  upper-within : IsWithin count (upper f kind)
  upper-within =
      let order = order_exists (frame_graph f).graph in
      found-within f order.0 order.1 sound (upper f kind) (upper-in f order.0 order.1 sound.header kind)

  old-within : (n : ℕ) → n < count → All (IsWithin count) (row_at f n).links
  old-within n less = All-get_or (λ (r : Row). All (IsWithin count) r.links) f.rows n no_row less sound.linked.links

  links-like : (n : ℕ) → n < count → AreLike count (row_at f n).links (cut_links f kind k n (row_at f n))
  links-like n less = by (is_number (upper f kind) n) (is_number (header_of f) n) (nat_eq k n)
    where
      by : (above header here : Bool) → AreLike count (row_at f n).links
          (cond above (only_link (head_link (structure_of kind) (label_at f n)) k (row_at f n).links)
          (cond header (header_links (label_at f n) (upper f kind) (row_at f n).links)
          (cond here (without_link (next_link (label_at f n)) (row_at f n).links) (row_at f n).links)))
      by true header here =
          only-like count (head_link (structure_of kind) (label_at f n)) k (row_at f n).links channel
      by false true here =
          header-like count (label_at f n) (upper f kind) (row_at f n).links upper-within (old-within n less)
      by false false true = without-like count (next_link (label_at f n)) (row_at f n).links (old-within n less)
      by false false false = record { many = refl; within = old-within n less }

  pub cut-relinked : IsRelinked f (cut f kind k)
  cut-relinked = record {
    as_many = length-map (enumerate_from 0 f.rows) (cut_row f kind k) ∙ length-enumerate_from 0 f.rows;
    labels = λ n less. ap (λ (r : Row). r.label) (cut-row f kind k n less);
    links = λ n less. ap (λ (r : Row). length r.links) (cut-row f kind k n less) ∙ (links-like n less).many;
    within = λ n less. subst (λ (r : Row). All (IsWithin count) r.links) (sym (cut-row f kind k n less))
        (links-like n less).within;
    roots = refl;
    end = refl;
  }

-- The channel of a name is a record.
pub channel-within : (f : Frame) (kind : Kind) (name : List ℕ) → IsSoundFrame f
    → IsWithin (length f.rows) (channel_named f kind name)
channel-within f kind name sound =
    let order = order_exists (frame_graph f).graph in
    found-within f order.0 order.1 sound (channel_named f kind name) (channel-in f order.0 order.1 sound kind name)
