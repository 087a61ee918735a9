-- Frames that stand alike are written alike by the same entries.
use Rattle.std.proofs.Common.{◌≡◌, ◌↔◌, ℕ, zero, suc, ◌<◌, Bool, List, [], ◌∷◌, Option, Some, None, length, map, sym}
use Rattle.std.proofs.Common.{ap, ◌∙◌}
use Rattle.std.proofs.Common.{subst, refl, arith, get_or}
use Rattle.std.specs.Prelude.{slice_get, position, ◌==◌, ◌&&◌, if◌then◌else◌}
use Rattle.std.specs.List.{range_with_len}
use Rattle.std.specs.Option.{option_map, option_map_or}
use Rattle.std.proofs.lemmas.Option.{same_Some, slice_get-map}
use Rattle.type_text.specs.declared.types.Link.{Link}
use Rattle.link_graph.specs.declared.nodes.Node.{Node}
use Rattle.link_graph.specs.Collected.{Bodied, place_of, target_of}
use Rattle.link_graph.specs.Graph.{links_of}
use Rattle.frame_content.specs.Labels.{null_link}
use Rattle.contents_table.proofs.Positions.{position-map}
use Rattle.contents_table.proofs.SomeValues.{map-some}
use Rattle.canonical_writer.specs.declared.frame_part.FrameSource.{FrameSource}
use Rattle.canonical_writer.specs.Alike.{HaveOneEntry, RecordsAreAlike}
use Rattle.canonical_writer.specs.Filled.{IsSource, IsPlacedAt, record_at}
use Rattle.canonical_writer.specs.NewLinks.{LeadAlike, AreNewLinks, classes_of, link_in_order, link_of, link_to}
use Rattle.canonical_writer.specs.StandingAlike.{HoldAlike, StandAlike, Stored, stored}
use Rattle.canonical_writer.proofs.AlikeRows.{map-same}
use Rattle.canonical_writer.proofs.ComparedRecords.{HasEntry, row-has, one-entry, entry-one}
use Rattle.canonical_writer.proofs.Filling.{placed-at}
use Rattle.canonical_writer.proofs.OneBody.{rows-alike}

-- ---- records that are the same but for their places and roots

-- they are the same where each of a number is
pub hold-alike : (nodes others : List Bodied) → length nodes ≡ length others
    → ((k : ℕ) → k < length nodes → option_map stored (slice_get nodes k) ≡ option_map stored (slice_get others k))
    → HoldAlike nodes others
hold-alike [] [] size each = refl
hold-alike [] (s ∷ others) size each = absurd (omega (arith, size))
hold-alike (r ∷ nodes) [] size each = absurd (omega (arith, size))
hold-alike (r ∷ nodes) (s ∷ others) size each =
    let first : stored r ≡ stored s = same_Some (stored r) (stored s) (each 0 (omega arith)) in
    let rest = hold-alike nodes others (omega (arith, size)) (λ k within. each (suc k) (omega (arith, within))) in
    λ i. first i ∷ rest i

-- whether the link names it
abbrev is_stored : Link → Stored → Bool
is_stored link r = r.class == link.class && r.instance == link.instance

targets-same : (nodes others : List Bodied) (link : Link) → HoldAlike nodes others
    → target_of nodes link ≡ target_of others link
targets-same nodes others link hold =
    ap (λ place. if link.class == 0 then None else place)
    (sym (position-map (is_stored link) stored nodes) ∙ ap (position (is_stored link)) hold
    ∙ position-map (is_stored link) stored others)

classes-same : (nodes others : List Bodied) → HoldAlike nodes others → classes_of nodes ≡ classes_of others
classes-same nodes others hold =
    sym (map_map nodes) ∙ ap (map (λ (r : Stored). r.class)) hold ∙ map_map others
  where
    map_map : (xs : List Bodied) → map (λ (r : Stored). r.class) (map stored xs) ≡ classes_of xs
    map_map [] = refl
    map_map (x ∷ xs) = ap (λ cs. x.node.class ∷ cs) (map_map xs)

-- their links lead alike
lead-alike : (nodes others : List Bodied) (links read : List Link) → HoldAlike nodes others
    → LeadAlike nodes links others links read
lead-alike nodes others links read hold =
    map-same (link_to nodes links) (link_to others links) read
    (λ link. ap (λ target. option_map_or (link_of links) target null_link) (targets-same nodes others link hold))

-- ---- frames that stand alike

map-get : (nodes : List Bodied) (n : ℕ) → option_map stored (slice_get nodes n) ≡ slice_get (map stored nodes) n
map-get nodes n = sym (slice_get-map stored nodes n)

-- the new links of both frames
abbrev new_links : FrameSource → List Link
new_links source =
    let classes = classes_of source.segment.now.nodes in
    map (link_in_order classes source.order.now) (range_with_len 0 (length classes))

-- what is known of the record of place k: its body, and that it stands at its place among these new links
record IsPlacedRecord (source : FrameSource) (k n : ℕ) (node : Node) : Type 0 where
  r : Bodied
  is : slice_get source.segment.now.nodes n ≡ Some r
  node_is : r.node ≡ node
  placed : IsPlacedAt source (new_links source) n k
  has : HasEntry source.dictionary.now node.class (record_at source k)

placed-record : (source : FrameSource) (k n : ℕ) (node : Node) → IsSource source → k < length source.order.now
    → get_or source.order.now k 0 ≡ n
    → option_map (λ (r : Bodied). r.node) (slice_get source.segment.now.nodes n) ≡ Some node
    → IsPlacedRecord source k n node
placed-record source k n node is within here there =
    let found = map-some (λ (r : Bodied). r.node) (slice_get source.segment.now.nodes n) node there in
    let placed : IsPlacedAt source (new_links source) n k =
    subst (λ m. IsPlacedAt source (new_links source) m k) here (placed-at source k (new_links source) is within refl) in
    record {
      r = found.0;
      is = found.1;
      node_is = found.2;
      placed = placed;
      has = row-has source (new_links source) n k node placed there;
    }

-- Of frames that stand alike, the records of a place are alike exactly where they have one entry.
pub stand-alike : (first second : FrameSource) (k n : ℕ) (node : Node) → IsSource first → IsSource second
    → StandAlike first second → k < length first.order.now → get_or first.order.now k 0 ≡ n
    → option_map (λ (r : Bodied). r.node) (slice_get first.segment.now.nodes n) ≡ Some node
    → HaveOneEntry first.dictionary.now second.dictionary.now node.class
    ↔ RecordsAreAlike (record_at first k) (record_at second k)
stand-alike first second k n node is also alike within here there = (
  λ one.
      let entries = one-entry _ _ node.class _ _ mine.has other one in
      (rows-alike first second (new_links first) (new_links second) n n k mine.r theirs.r mine.placed theirs.placed
      mine.is theirs.is alike.bytes bodies (ap (λ links. (link_of links n).instance) links) entries).0
      (subst (λ others. LeadAlike first.segment.now.nodes (new_links first) second.segment.now.nodes others
      (links_of first.plans.now first.segment.now.order mine.r)) links
      (lead-alike first.segment.now.nodes second.segment.now.nodes (new_links first)
      (links_of first.plans.now first.segment.now.order mine.r) alike.records)),
  λ same. entry-one _ _ node.class _ _ mine.has other same.entry,
)
  where
    mine : IsPlacedRecord first k n node
    mine = placed-record first k n node is within here there

    same : option_map stored (slice_get first.segment.now.nodes n)
        ≡ option_map stored (slice_get second.segment.now.nodes n)
    same = map-get first.segment.now.nodes n ∙ ap (λ stores. slice_get stores n) alike.records
        ∙ sym (map-get second.segment.now.nodes n)

    also_found : (s : Bodied) × (slice_get second.segment.now.nodes n ≡ Some s) × (stored s ≡ stored mine.r)
    also_found = map-some stored (slice_get second.segment.now.nodes n) (stored mine.r)
        (sym same ∙ ap (option_map stored) mine.is)

    theirs : IsPlacedRecord second k n also_found.0.node
    theirs = placed-record second k n also_found.0.node also
        (subst (λ order. k < length order) alike.order within)
        (sym (ap (λ order. get_or order k 0) alike.order) ∙ here)
        (ap (option_map (λ (r : Bodied). r.node)) also_found.1)

    classes : also_found.0.node.class ≡ node.class
    classes = ap (λ (r : Stored). r.class) also_found.2 ∙ ap (λ (n : Node). n.class) mine.node_is

    other : HasEntry second.dictionary.now node.class (record_at second k)
    other = subst (λ class. HasEntry second.dictionary.now class (record_at second k)) classes theirs.has

    bodies : mine.r.body ≡ theirs.r.body
    bodies =
        sym (ap (λ (r : Stored). r.body) also_found.2)
        ∙ same_Some _ _ (sym (ap (option_map (λ (r : Bodied). r.body)) also_found.1)
        ∙ ap (option_map (λ (r : Bodied). r.body)) theirs.is)

    links : new_links first ≡ new_links second
    links =
        let classes = classes-same first.segment.now.nodes second.segment.now.nodes alike.records in
        λ i. map (link_in_order (classes i) (alike.order i)) (range_with_len 0 (length (classes i)))
