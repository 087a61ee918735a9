-- The cut of a frame in its order: it is equal to the cut of the frame.
use Rattle.std.proofs.Common.{◌≡◌, ℕ, ◌<◌, Bool, true, false, cond, Option, Some, None, List, [], ◌∷◌, map, length}
use Rattle.std.proofs.Common.{find, filter_map, get_or, nat_eq, refl, sym, ap, ◌∙◌, subst}
use Rattle.std.specs.Prelude.{slice_get}
use Rattle.std.specs.List.{AllZip, cons_option}
use Rattle.std.specs.Option.{option_map, option_to_list}
use Rattle.std.specs.Str.{bytes_eq}
use Rattle.rooted_graph.specs.Rooted.{links_of}
use Rattle.rooted_graph.specs.BreadthOrder.{has, number_of, IsBreadthOrder}
use Rattle.rooted_graph.specs.InOrder.{renumbered}
use Rattle.rooted_graph.proofs.Firsts.{has_at}
use Rattle.rooted_graph.proofs.Places.{number_has, number_at}
use Rattle.rooted_graph.proofs.Reached.{has_linked}
use Rattle.rooted_graph.proofs.Zips.{Both, zip_from_places}
use Rattle.rooted_graph.proofs.Matchings.{IsMatching}
use Rattle.rooted_graph.proofs.Equality.{same_from_matching}
use Rattle.std.proofs.lemmas.Bool.{eqb-true, eq-eqb}
use Rattle.std.proofs.lemmas.Bool.Decides.{same_from_decides}
use Rattle.std.proofs.lemmas.List.{length-map}
use Rattle.std.proofs.lemmas.Option.{same_Some}
use Rattle.frame_content.specs.Labels.{Label}
use Rattle.frame_content.specs.Frames.{Row, Frame, row_at, label_at}
use Rattle.contents_table.specs.declared.kind.Kind.{Kind}
use Rattle.contents_table.specs.Channels.{structure_of, raw_data, header_of, upper}
use Rattle.contents_table.specs.Channels.{channels, named_channel, name_of}
use Rattle.canonical_file.specs.Ordered.{frame_graph, SameFrame, row_in, ordered}
use Rattle.canonical_file.specs.Renumbered.{number_in, renumbered_channel}
use Rattle.canonical_file.proofs.Graphs.{links_of-row}
use Rattle.canonical_file.proofs.RenumberedLinks.{AreIn, row-in_order}
use Rattle.canonical_file.proofs.RenumberedWalk.{AllIn}
use Rattle.canonical_file.proofs.RenumberedHeader.{header-in, header-in_order, upper-in, upper-in_order}
use Rattle.canonical_file.proofs.RenumberedChannels.{member-within, are-renumbered, channels-in}
use Rattle.channel_extract.specs.Cuts.{head_link, next_link, is_number, only_link, without_link, header_links}
use Rattle.contents_table.specs.Channels.{channel_named}
use Rattle.channel_extract.specs.Cuts.{cut_links, cut_row, cut, has_name, number_of_channel}
use Rattle.channel_extract.specs.CutLaws.{IsSoundFrame}
use Rattle.channel_extract.proofs.CutLinks.{zip-only, zip-without, zip-renumbered, cut-row}

-- ---- numbers

-- n has the number m in the order
abbrev pub IsNumber : List ℕ → ℕ → ℕ → Type 0
IsNumber s n m = number_of s n ≡ Some m

-- two records have one number only if they are one
apart : (s : List ℕ) (n n' m m' : ℕ) → IsNumber s n m → IsNumber s n' m' → nat_eq m m' ≡ nat_eq n n'
apart s n n' m m' left right =
    same_from_decides {P = m ≡ m'} (nat_eq m m') (nat_eq n n') (λ e. eqb-true m m' e, λ e. eq-eqb m m' e) (
      λ e. same_Some m m' (sym left ∙ ap (number_of s) (eqb-true n n' e) ∙ right),
      λ e. eq-eqb n n' (sym (number_at s n m left).1 ∙ ap (λ k. get_or s k 0) e ∙ (number_at s n' m' right).1),
    )

-- a record of the order is this one where its number is that
same-number_is : (s : List ℕ) (found : Option ℕ) (n m : ℕ) → AreIn s found → IsNumber s n m
    → is_number (renumbered s found) m ≡ is_number found n
same-number_is s None n m there number = refl
same-number_is s (Some x) n m there number = numbered (number_has s x there)
  where
    numbered : (k : ℕ) × (number_of s x ≡ Some k) → is_number (number_of s x) m ≡ nat_eq x n
    numbered (k, is) = ap (λ o. is_number o m) is ∙ apart s x n k m is number

-- ---- the cut

module _ (f : Frame) (s : List ℕ) (o : IsBreadthOrder (frame_graph f).graph s) (sound : IsSoundFrame f) (kind : Kind)
    (k j : ℕ) (channel : number_of s k ≡ Some j) where
  abbrev p : Frame
  p = ordered f s

  abbrev R : ℕ → ℕ → Type 0
  R = IsNumber s

  member : (n m : ℕ) → R n m → has s n ≡ true
  member n m e = let here = number_at s n m e in ap (has s) (sym here.1) ∙ has_at s m 0 here.0

  within : (n m : ℕ) → R n m → n < length f.rows
  within n m e = member-within f s o sound.linked n (member n m e)

  -- the links of a record match those in the order
  links-in : (n : ℕ) → has s n ≡ true → AllZip (Both (λ n m. has s n ≡ true)) (row_at f n).links (row_at f n).links
  links-in n there = zip_from_places (Both (λ n m. has s n ≡ true)) (row_at f n).links (row_at f n).links each
    where
      each : (i : ℕ) → Both (Both (λ n m. has s n ≡ true)) (slice_get (row_at f n).links i)
          (slice_get (row_at f n).links i)
      each i = by (slice_get (row_at f n).links i) refl
        where
          by : (link : Option (Option ℕ)) → slice_get (row_at f n).links i ≡ link
              → Both (Both (λ n m. has s n ≡ true)) link link
          by None is = tt
          by (Some None) is = tt
          by (Some (Some x)) is =
              has_linked (frame_graph f).graph s o n i x there (ap (λ links. slice_get links i) (links_of-row f n) ∙ is)

  old-links : (n m : ℕ) → R n m → AllZip (Both R) (row_at f n).links (map (renumbered s) (row_at f n).links)
  old-links n m e = zip-renumbered s (row_at f n).links (links-in n (member n m e))

  -- those of FrameH
  header-zip : (n m : ℕ) → R n m → (found : Option ℕ) → AreIn s found
      → AllZip (Both R) (header_links (label_at f n) found (row_at f n).links)
      (header_links (label_at f n) (renumbered s found) (map (renumbered s) (row_at f n).links))
  header-zip n m e None there = old-links n m e
  header-zip n m e (Some u) there = numbered (number_has s u there)
    where
      numbered : (q : ℕ) × (number_of s u ≡ Some q)
          → AllZip (Both R) (header_links (label_at f n) (Some u) (row_at f n).links)
          (header_links (label_at f n) (number_of s u) (map (renumbered s) (row_at f n).links))
      numbered (q, is) =
          subst (λ found. AllZip (Both R) (header_links (label_at f n) (Some u) (row_at f n).links)
          (header_links (label_at f n) found (map (renumbered s) (row_at f n).links))) (sym is)
          (zip-only R (head_link raw_data (label_at f n)) u q (row_at f n).links
          (map (renumbered s) (row_at f n).links) is (old-links n m e))

  -- those of any record
  abbrev new_links : Bool → Bool → Bool → Label → Option ℕ → ℕ → List (Option ℕ) → List (Option ℕ)
  new_links above header here label found to links =
      cond above (only_link (head_link (structure_of kind) label) to links)
      (cond header (header_links label found links) (cond here (without_link (next_link label) links) links))

  cut-zip : (n m : ℕ) → R n m → (above header here : Bool)
      → AllZip (Both R) (new_links above header here (label_at f n) (upper f kind) k (row_at f n).links)
      (new_links above header here (label_at f n) (renumbered s (upper f kind)) j
      (map (renumbered s) (row_at f n).links))
  cut-zip n m e true header here =
      zip-only R (head_link (structure_of kind) (label_at f n)) k j (row_at f n).links
      (map (renumbered s) (row_at f n).links) channel (old-links n m e)
  cut-zip n m e false true here = header-zip n m e (upper f kind) (upper-in f s o sound.header kind)
  cut-zip n m e false false true =
      zip-without R (next_link (label_at f n)) (row_at f n).links (map (renumbered s) (row_at f n).links)
      (old-links n m e)
  cut-zip n m e false false false = old-links n m e

  cut-links : (n m : ℕ) → R n m
      → AllZip (Both R) (cut_links f kind k n (row_at f n)) (cut_links p kind j m (row_in f s n))
  cut-links n m e =
      subst (AllZip (Both R) (cut_links f kind k n (row_at f n))) (sym same)
      (cut-zip n m e (is_number (upper f kind) n) (is_number (header_of f) n) (nat_eq k n))
    where
      above : is_number (upper p kind) m ≡ is_number (upper f kind) n
      above =
          ap (λ found. is_number found m) (upper-in_order f s o sound.header kind)
          ∙ same-number_is s (upper f kind) n m (upper-in f s o sound.header kind) e

      header : is_number (header_of p) m ≡ is_number (header_of f) n
      header =
          ap (λ found. is_number found m) (header-in_order f s sound.header)
          ∙ same-number_is s (header_of f) n m (header-in f s o sound.header) e

      same : cut_links p kind j m (row_in f s n)
          ≡ new_links (is_number (upper f kind) n) (is_number (header_of f) n) (nat_eq k n) (label_at f n)
          (renumbered s (upper f kind)) j (map (renumbered s) (row_at f n).links)
      same =
          λ i. new_links (above i) (header i) (apart s k n j m channel e i) (label_at f n)
          (upper-in_order f s o sound.header kind i) j (map (renumbered s) (row_at f n).links)

  row-cut : (n m : ℕ) → R n m → row_at (cut p kind j) m ≡ cut_row p kind j (m, row_in f s n)
  row-cut n m e =
      cut-row p kind j m (subst (λ c. m < c) (sym (length-map s (row_in f s))) (number_at s n m e).0)
      ∙ ap (λ r. cut_row p kind j (m, r)) (row-in_order f s n m e)

  graph-links : (n m : ℕ) → R n m → AllZip (Both R) (links_of (frame_graph (cut f kind k)).graph n)
      (links_of (frame_graph (cut p kind j)).graph m)
  graph-links n m e =
      let left : links_of (frame_graph (cut f kind k)).graph n ≡ cut_links f kind k n (row_at f n) =
      links_of-row (cut f kind k) n ∙ ap (λ (r : Row). r.links) (cut-row f kind k n (within n m e)) in
      let right : links_of (frame_graph (cut p kind j)).graph m ≡ cut_links p kind j m (row_in f s n) =
      links_of-row (cut p kind j) m ∙ ap (λ (r : Row). r.links) (row-cut n m e) in
      subst (λ xs. AllZip (Both R) xs (links_of (frame_graph (cut p kind j)).graph m)) (sym left)
      (subst (AllZip (Both R) (cut_links f kind k n (row_at f n))) (sym right) (cut-links n m e))

  root-zip : (found : Option ℕ) → AreIn s found
      → AllZip R (option_to_list found) (option_to_list (renumbered s found))
  root-zip None there = tt
  root-zip (Some n) there = numbered (number_has s n there)
    where
      numbered : (q : ℕ) × (number_of s n ≡ Some q) → AllZip R (n ∷ []) (option_to_list (number_of s n))
      numbered (q, is) = subst (λ found. AllZip R (n ∷ []) (option_to_list found)) (sym is) (is, tt)

  matching : IsMatching (frame_graph (cut f kind k)).graph (frame_graph (cut p kind j)).graph R
  matching = record {
    one_right = λ n m m' left right. same_Some m m' (sym left ∙ right);
    one_left = λ n n' m left right. sym (number_at s n m left).1 ∙ (number_at s n' m right).1;
    roots = subst (λ found. AllZip R (option_to_list (header_of f)) (option_to_list found))
        (sym (header-in_order f s sound.header)) (root-zip (header_of f) (header-in f s o sound.header));
    links = graph-links;
  }

  pub same-cut : SameFrame (cut f kind k) (cut p kind j)
  same-cut = same_from_matching (frame_graph (cut f kind k)) (frame_graph (cut p kind j)) R matching
      (λ n m e. ap (λ (r : Row). r.label) (cut-row f kind k n (within n m e))
      ∙ sym (ap (λ (r : Row). r.label) (row-cut n m e)))
      refl

-- ---- the channel of a name

find-map : (name s : List ℕ) → (cs : List (List ℕ × ℕ)) → find (has_name name) (map (renumbered_channel s) cs)
    ≡ option_map (renumbered_channel s) (find (has_name name) cs)
find-map name s [] = refl
find-map name s (c ∷ cs) = by (has_name name c) (find-map name s cs)
  where
    by : (b : Bool)
        → find (has_name name) (map (renumbered_channel s) cs)
        ≡ option_map (renumbered_channel s) (find (has_name name) cs)
        → cond b (Some (renumbered_channel s c)) (find (has_name name) (map (renumbered_channel s) cs))
        ≡ option_map (renumbered_channel s) (cond b (Some c) (find (has_name name) cs))
    by true later = refl
    by false later = later

numbers-map : (s : List ℕ) (found : Option (List ℕ × ℕ))
    → option_map number_of_channel (option_map (renumbered_channel s) found)
    ≡ option_map (number_in s) (option_map number_of_channel found)
numbers-map s None = refl
numbers-map s (Some c) = refl

-- its number in the order is that of its number
pub channel-in_order : (f : Frame) (s : List ℕ) → IsBreadthOrder (frame_graph f).graph s → IsSoundFrame f
    → (kind : Kind) (name : List ℕ)
    → channel_named (ordered f s) kind name ≡ option_map (number_in s) (channel_named f kind name)
channel-in_order f s o sound kind name =
    ap (λ cs. option_map number_of_channel (find (has_name name) cs))
    ((are-renumbered f s o sound.linked sound.header).names_are kind)
    ∙ ap (option_map number_of_channel) (find-map name s (filter_map (named_channel f) (channels f kind)))
    ∙ numbers-map s (find (has_name name) (filter_map (named_channel f) (channels f kind)))

-- and it is one of the channels
found-in : (f : Frame) (s name ns : List ℕ) → AllIn s ns
    → AreIn s (option_map number_of_channel (find (has_name name) (filter_map (named_channel f) ns)))
found-in f s name [] all = tt
found-in f s name (n ∷ ns) all = by (name_of (label_at f n)) (found-in f s name ns all.1)
  where
    found : Option (List ℕ × ℕ)
    found = find (has_name name) (filter_map (named_channel f) ns)

    here : (own : List ℕ) (b : Bool) → AreIn s (option_map number_of_channel found)
        → AreIn s (option_map number_of_channel (cond b (Some (own, n)) found))
    here own true later = all.0
    here own false later = later

    by : (own : Option (List ℕ)) → AreIn s (option_map number_of_channel found)
        → AreIn s (option_map number_of_channel (find (has_name name)
        (cons_option (option_map (λ name. (name, n)) own) (filter_map (named_channel f) ns))))
    by None later = later
    by (Some own) later = here own (bytes_eq name own) later

pub channel-in : (f : Frame) (s : List ℕ) → IsBreadthOrder (frame_graph f).graph s → IsSoundFrame f → (kind : Kind)
    (name : List ℕ) → AreIn s (channel_named f kind name)
channel-in f s o sound kind name = found-in f s name (channels f kind) (channels-in f s o sound.header kind)
