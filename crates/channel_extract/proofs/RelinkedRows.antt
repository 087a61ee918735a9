-- The frame of a segment one record of which has other links: its row has them, and all else is as it was.
use Rattle.std.proofs.Common.{◌≡◌, ℕ, zero, suc, ◌+◌, ◌<◌, true, false, List, [], ◌∷◌, ◌++◌, length, map, take}
use Rattle.std.proofs.Common.{Option, Some, None, IfSome, cond, refl, sym, ap, ◌∙◌, subst, arith}
use Rattle.std.specs.Prelude.{◌==◌, All, slice_set, slice_get, option_and_then}
use Rattle.std.specs.Option.{option_map, option_map_or}
use Rattle.std.specs.Result.{result_ok}
use Rattle.std.specs.List.{enumerate_from}
use Rattle.std.proofs.lemmas.Bool.{eq-eqb, ne_eqb}
use Rattle.std.proofs.lemmas.List.{length-map, set-get_or}
use Rattle.std.proofs.lemmas.Option.{same_Some, none-some}
use Rattle.scalar_types.specs.declared.Order.{Order}
use Rattle.type_text.specs.declared.types.Link.{Link}
use Rattle.record_values.specs.declared.values.Value.{Value}
use Rattle.record_values.specs.Values.{number_of}
use Rattle.record_values.specs.Links.{links_in, with_links}
use Rattle.dictionary.specs.declared.entries.Entry.{Entry}
use Rattle.dictionary.specs.Dictionary.{entry_of}
use Rattle.layout_plan.specs.Body.{IsBody}
use Rattle.layout_plan.specs.Unlinked.{nulls, null_link}
use Rattle.layout_plan.specs.Written.{with_sums_cleared}
use Rattle.layout_plan.proofs.BodyLemmas.{body_in-again}
use Rattle.layout_plan.proofs.ReadingLemmas.{element-within}
use Rattle.link_graph.specs.declared.nodes.Node.{Node}
use Rattle.link_graph.specs.declared.nodes.Root.TheVariants.{Head, Stat}
use Rattle.link_graph.specs.Collected.{Bodied, Collected, target_of}
use Rattle.link_graph.specs.Graph.{Layouts, ReadsBy, roots_from}
use Rattle.link_graph.specs.Relinked.{SetsLink}
use Rattle.link_graph.specs.Unlinked.{IsNumberOf, KeepsLink}
use Rattle.file_grammar.specs.Record.{Reading, layout_in, reading_by}
use Rattle.frame_content.specs.Labels.{Label, label_by, printed_entry}
use Rattle.frame_content.specs.Frames.{Row, reading_in, values_in, label_of, row_of, row_at, label_at, frame_of, no_row}
use Rattle.contents_table.specs.declared.layouts.ChannelLayouts.{ChannelLayouts}
use Rattle.contents_table.specs.Channels.{link_number}
use Rattle.contents_table.specs.Layouts.{AreOf, IsHeadField, IsNextField}
use Rattle.contents_table.proofs.ReadRecords.{ArePlansOf, IsReadRecord, plans-of}
use Rattle.contents_table.proofs.LinkEnds.{IsRecord, record-at, row-record}
use Rattle.contents_table.proofs.RecordValues.{links-before}
use Rattle.canonical_laws.proofs.LinksWithin.{links-linked, unlinked-linked}
use Rattle.channel_extract.specs.Cuts.{kept_link, other_link, only_link, without_link, head_link, next_link}
use Rattle.channel_extract.specs.Cutting.{own_link, node_of, IsTarget, linked_row, relinked_at}
use Rattle.channel_extract.proofs.Relinking.{IsChanged, IsChangedAt, kept, kept-at, ended, ended-at}
use Rattle.channel_extract.proofs.Relinking.{nodes-set, targets-same, roots-same}

-- ---- one record

module _ (held : List Entry) (plans : Layouts) (order : Order) (change : List Link → List Link) (old new : Bodied)
    (changed : IsChanged plans order change old new) (are : ArePlansOf held plans)
    (read : IsReadRecord held order old) where
  new_links : List Link
  new_links = change (links_in read.values)

  as-many : length new_links ≡ length (links_in read.values)
  unfolding new_links
  as-many = changed.many (links_in read.values)

  new-body : IsBody order read.fields (with_links read.values new_links) read.tail new.body
  unfolding new_links
  new-body = changed.reads read.fields read.values read.tail (are.plans_are old.node.class ∙ read.layout_is) read.body

  new-reading : reading_in order held new
      ≡ Some (record { fields = read.fields; values = with_links read.values new_links; tail = read.tail })
  new-reading =
      ap (option_and_then (reading_by order new.body))
      (ap (λ (n : Node). layout_in held n.class) changed.node ∙ read.layout_is)
      ∙ ap (λ found. option_map (λ (found : List Value × List ℕ). record {
        fields = read.fields;
        values = found.0;
        tail = found.1;
      }) (result_ok found))
      (body_in-again order read.fields read.sound.sound new.body (with_links read.values new_links) read.tail new-body)

  label-same : label_of order held new ≡ label_of order held old
  label-same =
      (λ i. label_by ((ap (λ (n : Node). entry_of held n.class) changed.node ∙ read.there) i) (new-reading i))
      ∙ ap (λ vs. record { entry = printed_entry read.entry; values = with_sums_cleared read.fields vs })
      (unlinked-linked read.values new_links as-many)
      ∙ sym read.label_is

  links-new : links_in (values_in order held new) ≡ change (links_in (values_in order held old))
  unfolding new_links
  links-new =
      ap (λ o. links_in (option_map_or (λ (reading : Reading). reading.values) o [])) new-reading
      ∙ links-linked read.values new_links as-many
      ∙ ap (λ vs. change (links_in vs)) (sym read.values_are)

  -- its row
  pub row-changed : (nodes : List Bodied) → row_of order held nodes new ≡ record (row_of order held nodes old) {
    links = map (target_of nodes) (change (links_in (values_in order held old)));
  }
  row-changed nodes = λ i. record { label = label-same i; links = map (target_of nodes) (links-new i) }

-- ---- the frame

map-set : {X Y : Type 0} (f : X → Y) (xs : List X) (n : ℕ) (x : X)
    → map f (slice_set xs n x) ≡ slice_set (map f xs) n (f x)
map-set f [] n x = refl
map-set f (y ∷ ys) zero x = refl
map-set f (y ∷ ys) (suc n) x = ap (λ zs. f y ∷ zs) (map-set f ys n x)

pub frame-changed : (held : List Entry) (plans : Layouts) (change : List Link → List Link) (s t : Collected) (n : ℕ)
    (r : Bodied) (links : List (Option ℕ)) → ArePlansOf held plans → IsRecord held s n r
    → IsChangedAt plans change n s t
    → map (target_of s.nodes) (change (links_in (values_in s.order held r))) ≡ links
    → frame_of held t ≡ relinked_at (frame_of held s) n links
frame-changed held plans change s t n r links are record-of at links_are =
    ap (frame_of held) at.whole ∙ (λ i. record { rows = rows i; roots = roots i; end = (frame_of held s).end })
  where
    changed : IsChanged plans s.order change r at.after
    changed =
        subst (λ r. IsChanged plans s.order change r at.after) (same_Some at.before r (sym at.found ∙ record-of.at))
        at.changed

    same-nodes : map node_of (slice_set s.nodes n at.after) ≡ map node_of s.nodes
    same-nodes = nodes-set s.nodes n r at.after record-of.at changed.node

    row : row_of s.order held s.nodes at.after ≡ linked_row (row_at (frame_of held s) n) links
    row =
        row-changed held plans s.order change r at.after changed are record-of.read s.nodes
        ∙ (λ i. linked_row (sym (row-record held s n r record-of.at) i) (links_are i))

    rows : map (row_of s.order held (slice_set s.nodes n at.after)) (slice_set s.nodes n at.after)
        ≡ slice_set (frame_of held s).rows n (linked_row (row_at (frame_of held s) n) links)
    rows =
        (λ i. map (λ r. record {
          label = label_of s.order held r;
          links = map (λ link. targets-same s.nodes (slice_set s.nodes n at.after) link same-nodes i)
              (links_in (values_in s.order held r));
        }) (slice_set s.nodes n at.after))
        ∙ map-set (row_of s.order held s.nodes) s.nodes n at.after
        ∙ ap (slice_set (frame_of held s).rows n) row

    roots : roots_from Head 0 (slice_set s.nodes n at.after) ++ roots_from Stat 0 (slice_set s.nodes n at.after)
        ≡ (frame_of held s).roots
    roots =
        λ i. roots-same Head 0 s.nodes (slice_set s.nodes n at.after) same-nodes i
        ++ roots-same Stat 0 s.nodes (slice_set s.nodes n at.after) same-nodes i

-- ---- links by number

-- after the kept link all are null
later-null : (k to i : ℕ) (links : List (Option ℕ)) (others : List Link) (target : Link → Option ℕ) → k < i
    → length links ≡ length others → target null_link ≡ None
    → map target (nulls others) ≡ map (kept_link (Some k) to) (enumerate_from i links)
later-null k to i [] [] target less size none = refl
later-null k to i [] (l ∷ ls) target less size none = absurd (omega (arith, size))
later-null k to i (x ∷ xs) [] target less size none = absurd (omega (arith, size))
later-null k to i (x ∷ xs) (l ∷ ls) target less size none =
    let other : (k == i) ≡ false = ne_eqb k i (λ same. omega (arith, same, less)) in
    λ j. (none ∙ sym (ap (λ b. cond b (Some to) None) other)) j
    ∷ later-null k to (i + 1) xs ls target (omega (arith, less)) (omega (arith, size)) none j

-- one link is kept
kept-targets : (target : Link → Option ℕ) (link : Link) (to : ℕ) → target link ≡ Some to → target null_link ≡ None
    → (links : List Link) (i j : ℕ)
    → map target (slice_set (nulls links) j link)
    ≡ map (kept_link (Some (i + j)) to) (enumerate_from i (map target links))
kept-targets target link to leads none [] i j = refl
kept-targets target link to leads none (l ∷ ls) i zero =
    let here : ((i + 0) == i) ≡ true = eq-eqb (i + 0) i (omega arith) in
    λ j. (leads ∙ sym (ap (λ b. cond b (Some to) None) here)) j
    ∷ later-null (i + 0) to (i + 1) (map target ls) ls target (omega arith) (length-map ls target) none j
kept-targets target link to leads none (l ∷ ls) i (suc j) =
    let other : ((i + suc j) == i) ≡ false = ne_eqb (i + suc j) i (λ same. omega (arith, same)) in
    let next : (i + 1) + j ≡ i + suc j = omega arith in
    λ d. (none ∙ sym (ap (λ b. cond b (Some to) None) other)) d
    ∷ (kept-targets target link to leads none ls (i + 1) j
    ∙ ap (λ k. map (kept_link (Some k) to) (enumerate_from (i + 1) (map target ls))) next) d

-- after the link that is null all are as they were
later-same : (k i : ℕ) (links : List (Option ℕ)) → k < i
    → map (other_link (Some k)) (enumerate_from i links) ≡ links
later-same k i [] less = refl
later-same k i (x ∷ xs) less =
    let other : (k == i) ≡ false = ne_eqb k i (λ same. omega (arith, same, less)) in
    λ j. ap (λ b. cond b None x) other j ∷ later-same k (i + 1) xs (omega (arith, less)) j

-- one link is null
other-targets : (target : Link → Option ℕ) → target null_link ≡ None → (links : List Link) (i j : ℕ)
    → map target (slice_set links j null_link) ≡ map (other_link (Some (i + j))) (enumerate_from i (map target links))
other-targets target none [] i j = refl
other-targets target none (l ∷ ls) i zero =
    let here : ((i + 0) == i) ≡ true = eq-eqb (i + 0) i (omega arith) in
    λ j. (none ∙ sym (ap (λ b. cond b None (target l)) here)) j
    ∷ sym (later-same (i + 0) (i + 1) (map target ls) (omega arith)) j
other-targets target none (l ∷ ls) i (suc j) =
    let other : ((i + suc j) == i) ≡ false = ne_eqb (i + suc j) i (λ same. omega (arith, same)) in
    let next : (i + 1) + j ≡ i + suc j = omega arith in
    λ d. sym (ap (λ b. cond b None (target l)) other) d
    ∷ (other-targets target none ls (i + 1) j
    ∙ ap (λ k. map (other_link (Some k)) (enumerate_from (i + 1) (map target ls))) next) d

-- where none is, all are as they were
pub without-none : (i : ℕ) (links : List (Option ℕ)) → map (other_link None) (enumerate_from i links) ≡ links
without-none i [] = refl
without-none i (x ∷ xs) = ap (λ rest. x ∷ rest) (without-none (i + 1) xs)

-- ---- the plain link of a field

module _ (held : List Entry) (plans : Layouts) (s : Collected) (n : ℕ) (r : Bodied) (record-of : IsRecord held s n r)
    (field : ℕ) where
  abbrev number : ℕ
  number = length (links_in (take field record-of.read.values))

  field-number : link_number (label_at (frame_of held s) n) field ≡ number
  field-number =
      ap (λ (row : Row). link_number row.label field) (row-record held s n r record-of.at)
      ∙ ap (λ (label : Label). link_number label field) record-of.read.label_is
      ∙ links-before s.order (map number_of record-of.read.values) record-of.read.fields record-of.read.values
      record-of.read.body.front field record-of.read.sound.sums record-of.read.body.spelled

  is-number : ArePlansOf held plans → IfSome (slice_get s.nodes n) (IsNumberOf plans s.order field number)
  is-number are =
      subst (λ o. IfSome o (IsNumberOf plans s.order field number)) (sym record-of.at) (record {
        fields = record-of.read.fields;
        plan = are.plans_are r.node.class ∙ record-of.read.layout_is;
        number = record {
          values = record-of.read.values;
          tail = record-of.read.tail;
          reads = record-of.read.body;
          count = refl;
        };
      })

  row-links : map (target_of s.nodes) (links_in (values_in s.order held r)) ≡ (row_at (frame_of held s) n).links
  row-links = ap (λ (row : Row). row.links) (sym (row-record held s n r record-of.at))

  zero-on : 0 + number ≡ link_number (label_at (frame_of held s) n) field
  zero-on = let same : 0 + number ≡ number = omega arith in same ∙ sym field-number

-- one link of a record is kept, and leads to a record
pub lead-links : (held : List Entry) (plans : Layouts) (of : ChannelLayouts) (name : List ℕ) (s t : Collected)
    (n field to : ℕ) (link : Link) → AreOf held plans of → All (ReadsBy plans s.order) s.nodes → n < length s.nodes
    → IsHeadField held plans s name n field → target_of s.nodes link ≡ Some to
    → ((k : ℕ) → IfSome (slice_get s.nodes n) (IsNumberOf plans s.order field k) → KeepsLink plans n k link s t)
    → frame_of held t ≡ relinked_at (frame_of held s) n
    (only_link (head_link name (label_at (frame_of held s) n)) to (row_at (frame_of held s) n).links)
lead-links held plans of name s t n field to link are reads within head leads keeps =
    let of-plans = plans-of held plans of are in
    let found = element-within s.nodes n within in
    let record-of : IsRecord held s n found.0 = record-at held plans s n found.0 of-plans reads found.1 in
    let k : ℕ = number held plans s n found.0 record-of field in
    let number_is : Some (0 + k) ≡ head_link name (label_at (frame_of held s) n) =
    ap Some (zero-on held plans s n found.0 record-of field)
    ∙ ap (option_map (link_number (label_at (frame_of held s) n))) (sym head.field_is) in
    frame-changed held plans (kept k link) s t n found.0
    (only_link (head_link name (label_at (frame_of held s) n)) to (row_at (frame_of held s) n).links) of-plans record-of
    (kept-at plans n k link s t (keeps k (is-number held plans s n found.0 record-of field of-plans)))
    (kept-targets (target_of s.nodes) link to leads refl (links_in (values_in s.order held found.0)) 0 k
    ∙ (λ i. only_link (number_is i) to (row-links held plans s n found.0 record-of field i)))

-- the plain link `next` of a record is null
pub end-links : (held : List Entry) (plans : Layouts) (of : ChannelLayouts) (s t : Collected)
    (n field : ℕ) → AreOf held plans of → All (ReadsBy plans s.order) s.nodes → n < length s.nodes
    → IsNextField held plans s n (Some field)
    → ((k : ℕ) → IfSome (slice_get s.nodes n) (IsNumberOf plans s.order field k) → SetsLink plans n k null_link s t)
    → frame_of held t ≡ relinked_at (frame_of held s) n
    (without_link (next_link (label_at (frame_of held s) n)) (row_at (frame_of held s) n).links)
end-links held plans of s t n field are reads within next sets =
    let of-plans = plans-of held plans of are in
    let found = element-within s.nodes n within in
    let record-of : IsRecord held s n found.0 = record-at held plans s n found.0 of-plans reads found.1 in
    let k : ℕ = number held plans s n found.0 record-of field in
    let number_is : Some (0 + k) ≡ next_link (label_at (frame_of held s) n) =
    ap Some (zero-on held plans s n found.0 record-of field)
    ∙ ap (option_map (link_number (label_at (frame_of held s) n))) next.field_is in
    frame-changed held plans (ended k) s t n found.0
    (without_link (next_link (label_at (frame_of held s) n)) (row_at (frame_of held s) n).links) of-plans record-of
    (ended-at plans n k s t (sets k (is-number held plans s n found.0 record-of field of-plans)))
    (other-targets (target_of s.nodes) refl (links_in (values_in s.order held found.0)) 0 k
    ∙ (λ i. without_link (number_is i) (row-links held plans s n found.0 record-of field i)))

-- a record without `next` has its links
pub end-none : (held : List Entry) (plans : Layouts) (s : Collected) (n : ℕ)
    → IsNextField held plans s n None
    → frame_of held s ≡ relinked_at (frame_of held s) n
    (without_link (next_link (label_at (frame_of held s) n)) (row_at (frame_of held s) n).links)
end-none held plans s n next =
    let f = frame_of held s in
    let links : (row_at f n).links ≡ without_link (next_link (label_at f n)) (row_at f n).links =
    sym (without-none 0 (row_at f n).links)
    ∙ ap (λ o. without_link (option_map (link_number (label_at f n)) o) (row_at f n).links) next.field_is in
    ap (λ rows. record f { rows = rows }) (sym (set-get_or f.rows n no_row))
    ∙ ap (relinked_at f n) links

-- the pair of a target leads to it
pub target-leads : (s : Collected) (to class : ℕ) (node : Node)
    → option_map node_of (slice_get s.nodes to) ≡ Some node → class ≡ node.class → IsTarget s to
    → target_of s.nodes (record { class = class; instance = node.instance }) ≡ Some to
target-leads s to class node is same target = by (slice_get s.nodes to) is target
  where
    by : (o : Option Bodied) → option_map node_of o ≡ Some node
        → IfSome o (λ r. target_of s.nodes (own_link r) ≡ Some to)
        → target_of s.nodes (record { class = class; instance = node.instance }) ≡ Some to
    by None is target = absurd (none-some node is)
    by (Some r) is target =
        let node_is : r.node ≡ node = same_Some r.node node is in
        ap (λ c. target_of s.nodes (record { class = c; instance = node.instance })) same
        ∙ ap (λ (n : Node). target_of s.nodes (record { class = n.class; instance = n.instance })) (sym node_is)
        ∙ target
