-- The links of the records of a frame: what a segment tells of them, and what the structures do.
use Rattle.std.proofs.Common.{◌≡◌, ℕ, suc, ◌+◌, ◌<◌, Bool, true, false, not, ◌&&◌, cond, List, [], ◌∷◌}
use Rattle.std.proofs.Common.{length, map, get_or, is_none, Option, Some, None, refl, sym, ap, ◌∙◌, subst}
use Rattle.std.proofs.Common.{arith}
use Rattle.std.specs.Prelude.{◌==◌, nat_lt, option_and_then, find, position, slice_get, is_some, IsSome, All}
use Rattle.std.specs.Option.{option_map, option_map_or}
use Rattle.std.specs.Result.{result_ok}
use Rattle.std.specs.List.{position_or_len, position_from}
use Rattle.std.proofs.lemmas.Bool.{false≢true, ltb-true, ltb-false}
use Rattle.std.proofs.lemmas.Iterator.Adapters.{position_from-zero}
use Rattle.std.proofs.lemmas.List.{length-map}
use Rattle.std.proofs.lemmas.List.Folds.{find_at}
use Rattle.std.proofs.lemmas.Option.{none-some, same_Some, slice_get_past, slice_get_within}
use Rattle.std.proofs.lemmas.Option.{get_or_from_slice_get}
use Rattle.scalar_types.specs.declared.Order.{Order}
use Rattle.type_text.specs.declared.types.Link.{Link}
use Rattle.record_values.specs.declared.values.Value.{Value}
use Rattle.record_values.specs.Links.{links_in}
use Rattle.dictionary.specs.declared.entries.Entry.{Entry}
use Rattle.layout_plan.specs.declared.fields.Field.{Field}
use Rattle.layout_plan.specs.declared.links.FieldLink.{FieldLink}
use Rattle.layout_plan.specs.Body.{IsBody}
use Rattle.layout_plan.specs.Reading.{body_in}
use Rattle.layout_plan.specs.Links.{field_links, HasLink, HasLinkIn}
use Rattle.layout_plan.specs.Plans.{plan_of}
use Rattle.layout_plan.proofs.LinkLemmas.{field_links-links, field_links-length}
use Rattle.layout_plan.proofs.ReadingLemmas.{element-within}
use Rattle.link_graph.specs.declared.nodes.Node.{Node}
use Rattle.link_graph.specs.Collected.{Bodied, place_of, is_named}
use Rattle.link_graph.specs.Graph.{Layouts, ReadsBy, link_in, links_of, loose_from}
use Rattle.link_graph.specs.Graph.{is_loose as is_loose_link}
use Rattle.file_grammar.specs.Structure.{Structure}
use Rattle.file_grammar.specs.Record.{Reading, layout_in, reading_by, reading_of, values_of, is_target}
use Rattle.file_grammar.specs.Record.{has_target, is_loose, first_loose}
use Rattle.file_grammar.proofs.Bodies.{reading-found}
use Rattle.file_grammar.proofs.Weights.{layout-sound}
use Rattle.item_reader.specs.State.{structure_of, IsRecord}

-- ---- what a search finds, and its number

-- The element that is found, and its number, are of one another.
abbrev Tells : {X : Type 0} → (X → Bool) → List X → Option ℕ → Type 0
Tells p xs None = find p xs ≡ None
Tells {X} p xs (Some k) = (x : X) × (slice_get xs k ≡ Some x) × (find p xs ≡ Some x)

position-tells : {X : Type 0} (p : X → Bool) (xs : List X) → Tells p xs (position p xs)
position-tells p xs = by (nat_lt (position_or_len p xs) (length xs)) refl
  where
    by : (b : Bool) → nat_lt (position_or_len p xs) (length xs) ≡ b
        → Tells p xs (cond b (Some (position_or_len p xs)) None)
    by true is =
        let at = element-within xs (position_or_len p xs) (ltb-true (position_or_len p xs) (length xs) is) in
        (at.0, at.1, find_at p xs ∙ at.1)
    by false is =
        find_at p xs
        ∙ slice_get_past xs (position_or_len p xs) (ltb-false (position_or_len p xs) (length xs) is)

position-map : {X Y : Type 0} (q : Y → Bool) (f : X → Y) (xs : List X)
    → position q (map f xs) ≡ position (λ x. q (f x)) xs
position-map {X} q f xs =
    let same = len xs in
    let size = length-map xs f in
    λ i. cond (nat_lt (same i) (size i)) (Some (same i)) None
  where
    len : (xs : List X) → position_or_len q (map f xs) ≡ position_or_len (λ x. q (f x)) xs
    len [] = refl
    len (x ∷ xs) = ap (λ n. cond (not (q (f x))) (1 + n) 0) (len xs)

-- ---- links that lead nowhere

-- a record is found by its number exactly where it is found among the structures
is_some-place : (nodes : List Bodied) (link : Link)
    → is_some (place_of nodes link) ≡ has_target (map structure_of nodes) link
is_some-place nodes link =
    ap is_some (position_from-zero (λ (r : Bodied). is_named link r.node) nodes) ∙ from 0 nodes
  where
    from : (n : ℕ) (rs : List Bodied) → is_some (position_from (λ (r : Bodied). is_named link r.node) n rs)
        ≡ has_target (map structure_of rs) link
    from n [] = refl
    from n (r ∷ rs) = by (is_named link r.node) (from (n + 1) rs)
      where
        by : (b : Bool) → is_some (position_from (λ (r : Bodied). is_named link r.node) (n + 1) rs)
            ≡ has_target (map structure_of rs) link
            → is_some (cond b (Some n) (position_from (λ (r : Bodied). is_named link r.node) (n + 1) rs))
            ≡ is_some (cond b (Some (structure_of r)) (find (is_target link) (map structure_of rs)))
        by true rest = refl
        by false rest = rest

-- the null link has no target there either, and none is looked for
loose-same : (nodes : List Bodied) (link : Link)
    → is_loose_link nodes link ≡ is_loose (map structure_of nodes) link
loose-same nodes link = by (link.class == 0)
  where
    unplaced : {X : Type 0} (o : Option X) → is_none o ≡ not (is_some o)
    unplaced None = refl
    unplaced (Some x) = refl

    by : (null : Bool) → (not null && is_none (cond null None (place_of nodes link)))
        ≡ (not null && not (has_target (map structure_of nodes) link))
    by true = refl
    by false = unplaced (place_of nodes link) ∙ ap not (is_some-place nodes link)

-- ---- the links of one record

-- its links by its plan are those of the values that it has by the layout of its class
links-same : (plans : Layouts) (order : Order) (held : List Entry) (r : Bodied)
    → plan_of plans r.node.class ≡ layout_in held r.node.class
    → links_of plans order r ≡ links_in (values_of order held (structure_of r))
links-same plans order held r same =
    ap (λ (o : Option (List Field)). option_map_or
    (λ fields. option_map_or (λ (found : List Value × List ℕ). links_in found.0)
    (result_ok (body_in order fields r.body)) []) o []) same
    ∙ by (layout_in held r.node.class)
  where
    read : (fields : List Field) (found : Option (List Value × List ℕ))
        → option_map_or (λ (found : List Value × List ℕ). links_in found.0) found []
        ≡ links_in (option_map_or (λ (reading : Reading). reading.values)
        (option_map (λ (x : List Value × List ℕ). record { fields = fields; values = x.0; tail = x.1 })
        found) [])
    read fields None = refl
    read fields (Some found) = refl

    by : (o : Option (List Field)) → option_map_or
        (λ fields. option_map_or (λ (found : List Value × List ℕ). links_in found.0)
        (result_ok (body_in order fields r.body)) []) o []
        ≡ links_in (option_map_or (λ (reading : Reading). reading.values)
        (option_and_then (reading_by order r.body) o) [])
    by None = refl
    by (Some fields) = read fields (result_ok (body_in order fields r.body))

-- the number of its first loose link tells which of its links, with their fields, that is
record-tells : (plans : Layouts) (order : Order) (held : List Entry) (nodes : List Bodied) (r : Bodied)
    → plan_of plans r.node.class ≡ layout_in held r.node.class
    → Tells (λ (found : FieldLink). is_loose (map structure_of nodes) found.link)
    (field_links 0 (values_of order held (structure_of r)))
    (position (is_loose_link nodes) (links_of plans order r))
record-tells plans order held nodes r same =
    let values = values_of order held (structure_of r) in
    let links : List FieldLink = field_links 0 values in
    let test : FieldLink → Bool = λ found. is_loose (map structure_of nodes) found.link in
    let number : position (is_loose_link nodes) (links_of plans order r) ≡ position test links =
    ap (position (is_loose_link nodes)) (links-same plans order held r same
    ∙ sym (field_links-links 0 values))
    ∙ position-map (is_loose_link nodes) link_in links
    ∙ (λ i. position (λ (found : FieldLink). loose-same nodes found.link i) links) in
    subst (Tells test links) (sym number) (position-tells test links)

-- ---- the first loose link of records

-- It is the link of number k of the record of a number, where the records are numbered from n: the first of
-- them is in the field where that link stands.
pub record IsFirstLoose (order : Order) (held : List Entry) (frame : List Structure) (n : ℕ)
    (records : List Bodied) (node k : ℕ) : Type 0 where
  pub r : Bodied
  pub before : ℕ
  pub number : node ≡ n + before
  pub found : slice_get records before ≡ Some r
  pub field : ℕ
  pub link : Link
  pub at : slice_get (field_links 0 (values_of order held (structure_of r))) k
      ≡ Some (record { field = field; link = link })
  pub first : first_loose order held frame (map structure_of records) ≡ Some (r.node.at, field)

-- the same, or that there is none
abbrev FirstTells : Order → List Entry → List Structure → ℕ → List Bodied → Option (ℕ × ℕ) → Type 0
FirstTells order held frame n records None = first_loose order held frame (map structure_of records) ≡ None
FirstTells order held frame n records (Some z) = IsFirstLoose order held frame n records z.0 z.1

-- one record more at the front
first-step : (order : Order) (held : List Entry) (frame : List Structure) (n : ℕ) (r : Bodied)
    (rs : List Bodied) (o : Option ℕ) (rest : Option (ℕ × ℕ))
    → Tells (λ (found : FieldLink). is_loose frame found.link)
    (field_links 0 (values_of order held (structure_of r))) o → FirstTells order held frame (n + 1) rs rest
    → FirstTells order held frame n (r ∷ rs) (option_map_or (λ k. Some (n, k)) o rest)
first-step order held frame n r rs o rest here more = by o here
  where
    others : Option (ℕ × ℕ)
    others = first_loose order held frame (map structure_of rs)

    whole : Option FieldLink → Option (ℕ × ℕ)
    whole found =
        option_map_or (λ (field : ℕ). Some (r.node.at, field)) (option_map (λ (l : FieldLink). l.field) found)
        others

    later : (rest : Option (ℕ × ℕ)) → find (λ (found : FieldLink). is_loose frame found.link)
        (field_links 0 (values_of order held (structure_of r))) ≡ None
        → FirstTells order held frame (n + 1) rs rest → FirstTells order held frame n (r ∷ rs) rest
    later None fine m = ap whole fine ∙ m
    later (Some z) fine m =
        let is : z.0 ≡ n + 1 + m.before = m.number in
        record {
          r = m.r;
          before = suc m.before;
          number = omega (arith, is);
          found = m.found;
          field = m.field;
          link = m.link;
          at = m.at;
          first = ap whole fine ∙ m.first;
        }

    by : (o : Option ℕ) → Tells (λ (found : FieldLink). is_loose frame found.link)
        (field_links 0 (values_of order held (structure_of r))) o
        → FirstTells order held frame n (r ∷ rs) (option_map_or (λ k. Some (n, k)) o rest)
    by None fine = later rest fine more
    by (Some k) (l, at, loose) = record {
      r = r;
      before = 0;
      number = omega arith;
      found = refl;
      field = l.field;
      link = l.link;
      at = at;
      first = ap whole loose;
    }

first-tells : (plans : Layouts) (order : Order) (held : List Entry) (nodes : List Bodied)
    → ((class : ℕ) → plan_of plans class ≡ layout_in held class) → (n : ℕ) (rs : List Bodied)
    → FirstTells order held (map structure_of nodes) n rs (loose_from plans order nodes n rs)
first-tells plans order held nodes same n [] = refl
first-tells plans order held nodes same n (r ∷ rs) =
    first-step order held (map structure_of nodes) n r rs
    (position (is_loose_link nodes) (links_of plans order r))
    (loose_from plans order nodes (n + 1) rs)
    (record-tells plans order held nodes r (same r.node.class))
    (first-tells plans order held nodes same (n + 1) rs)

-- a segment without a loose link is a frame without one
pub none-loose : (plans : Layouts) (order : Order) (held : List Entry) (nodes : List Bodied)
    → ((class : ℕ) → plan_of plans class ≡ layout_in held class) → loose_from plans order nodes 0 nodes ≡ None
    → first_loose order held (map structure_of nodes) (map structure_of nodes) ≡ None
none-loose plans order held nodes same none =
    subst (FirstTells order held (map structure_of nodes) 0 nodes) none
    (first-tells plans order held nodes same 0 nodes)

-- and the first of a segment is the frame's
pub first-loose : (plans : Layouts) (order : Order) (held : List Entry) (nodes : List Bodied)
    → ((class : ℕ) → plan_of plans class ≡ layout_in held class) → (node k : ℕ)
    → loose_from plans order nodes 0 nodes ≡ Some (node, k)
    → IsFirstLoose order held (map structure_of nodes) 0 nodes node k
first-loose plans order held nodes same node k is =
    subst (FirstTells order held (map structure_of nodes) 0 nodes) is
    (first-tells plans order held nodes same 0 nodes)

-- ---- what the records of a frame read as

-- a structure that reads has a layout, and its body spells its values
pub record IsSpelled (order : Order) (held : List Entry) (s : Structure) : Type 0 where
  pub fields : List Field
  pub layout : layout_in held s.class ≡ Some fields
  pub tail : List ℕ
  pub body : IsBody order fields (values_of order held s) tail s.body

pub reads-spelled : (order : Order) (held : List Entry) (s : Structure) → IsSome (reading_of order held s)
    → IsSpelled order held s
reads-spelled order held s reads = by (layout_in held s.class) refl
  where
    by : (o : Option (List Field)) → layout_in held s.class ≡ o → IsSpelled order held s
    by None is =
        absurd (false≢true (sym (ap (λ o. is_some (option_and_then (reading_by order s.body) o)) is) ∙ reads))
    by (Some fields) is = found (reading_by order s.body fields) refl
      where
        same : reading_of order held s ≡ reading_by order s.body fields
        same = ap (option_and_then (reading_by order s.body)) is

        found : (o : Option Reading) → reading_by order s.body fields ≡ o → IsSpelled order held s
        found None none = absurd (false≢true (sym (ap is_some (same ∙ none)) ∙ reads))
        found (Some r) read = record {
          fields = fields;
          layout = is;
          tail = r.tail;
          body = subst (λ vs. IsBody order fields vs r.tail s.body)
              (sym (ap (λ o. option_map_or (λ (reading : Reading). reading.values) o []) (same ∙ read)))
              (reading-found order s.body fields r (layout-sound held s.class fields is) read);
        }

-- each record of a frame reads by its plan
pub all-read : (plans : Layouts) (order : Order) (held : List Entry) (nodes : List Bodied)
    → ((class : ℕ) → plan_of plans class ≡ layout_in held class) → All (IsRecord order held) nodes
    → All (ReadsBy plans order) nodes
all-read plans order held nodes same records = λ k d lt. reads (get_or nodes k d) (records k d lt)
  where
    reads : (r : Bodied) → IsRecord order held r → ReadsBy plans order r
    reads r is =
        let spelled = reads-spelled order held (structure_of r) is.reads in
        record {
          fields = spelled.fields;
          plan = same r.node.class ∙ spelled.layout;
          reads = (values_of order held (structure_of r), spelled.tail, spelled.body);
        }

-- ---- the record that holds the first loose link

-- By its node and its body, as they are asked for: its body has the link, which stands in the field that is
-- told.
pub record HoldsLoose (order : Order) (held : List Entry) (frame : List Structure) (node : Node)
    (body : List ℕ) (k : ℕ) : Type 0 where
  pub fields : List Field
  pub layout : layout_in held node.class ≡ Some fields
  pub values : List Value
  pub tail : List ℕ
  pub spelled : IsBody order fields values tail body
  pub within : k < length (links_in values)
  pub field : ℕ
  pub link : Link
  pub at : slice_get (field_links 0 values) k ≡ Some (record { field = field; link = link })
  pub first : first_loose order held frame frame ≡ Some (node.at, field)

-- the record of this number is among the records
pub loose-within : (order : Order) (held : List Entry) (nodes : List Bodied) (node k : ℕ)
    → IsFirstLoose order held (map structure_of nodes) 0 nodes node k → node < length nodes
loose-within order held nodes node k l =
    let is : node ≡ 0 + l.before = l.number in
    omega (arith, is, slice_get_within nodes l.before l.r l.found)

pub holds-loose : (order : Order) (held : List Entry) (nodes : List Bodied) (number k : ℕ) (node : Node)
    (body : List ℕ) → All (IsRecord order held) nodes
    → IsFirstLoose order held (map structure_of nodes) 0 nodes number k
    → option_map (λ (r : Bodied). r.node) (slice_get nodes number) ≡ Some node
    → option_map (λ (r : Bodied). r.body) (slice_get nodes number) ≡ Some body
    → HoldsLoose order held (map structure_of nodes) node body k
holds-loose order held nodes number k node body records l is_node is_body =
    subst (λ (n : Node). HoldsLoose order held (map structure_of nodes) n body k) (same_Some l.r.node node
    (ap (option_map (λ (r : Bodied). r.node)) (sym found) ∙ is_node))
    (subst (λ bytes. HoldsLoose order held (map structure_of nodes) l.r.node bytes k) (same_Some l.r.body body
    (ap (option_map (λ (r : Bodied). r.body)) (sym found) ∙ is_body)) whole)
  where
    found : slice_get nodes number ≡ Some l.r
    found = let is : number ≡ 0 + l.before = l.number in
        ap (slice_get nodes) (omega (arith, is)) ∙ l.found

    reads : IsRecord order held l.r
    reads = subst (IsRecord order held) (get_or_from_slice_get nodes number l.r l.r found)
        (records number l.r (slice_get_within nodes number l.r found))

    spelled : IsSpelled order held (structure_of l.r)
    spelled = reads-spelled order held (structure_of l.r) reads.reads

    whole : HoldsLoose order held (map structure_of nodes) l.r.node l.r.body k
    whole = record {
      fields = spelled.fields;
      layout = spelled.layout;
      values = values_of order held (structure_of l.r);
      tail = spelled.tail;
      spelled = spelled.body;
      within = omega (
        arith,
        slice_get_within (field_links 0 (values_of order held (structure_of l.r))) k
            (record { field = l.field; link = l.link }) l.at,
        field_links-length (values_of order held (structure_of l.r)),
      );
      field = l.field;
      link = l.link;
      at = l.at;
      first = l.first;
    }

-- which has a layout
pub no-plan : (order : Order) (held : List Entry) (nodes : List Bodied) (number k : ℕ) (node : Node)
    → All (IsRecord order held) nodes → IsFirstLoose order held (map structure_of nodes) 0 nodes number k
    → option_map (λ (r : Bodied). r.node) (slice_get nodes number) ≡ Some node
    → layout_in held node.class ≡ None → ⊥
no-plan order held nodes number k node records l is_node none =
    let is : number ≡ 0 + l.before = l.number in
    let found : slice_get nodes number ≡ Some l.r = ap (slice_get nodes) (omega (arith, is)) ∙ l.found in
    let h = holds-loose order held nodes number k node l.r.body records l is_node
    (ap (option_map (λ (r : Bodied). r.body)) found) in
    none-some h.fields (sym none ∙ h.layout)

-- so it has a link of this number
pub loose-link : (order : Order) (held : List Entry) (frame : List Structure) (node : Node) (body : List ℕ)
    (k : ℕ) (fields : List Field) → HoldsLoose order held frame node body k
    → layout_in held node.class ≡ Some fields → HasLink order fields body k
loose-link order held frame node body k fields l layout = (
  l.values,
  l.tail,
  subst (λ fs. IsBody order fs l.values l.tail body) (same_Some l.fields fields (sym l.layout ∙ layout))
      l.spelled,
  l.within,
)

-- and the field that this is of is the first loose link's
pub loose-field : (order : Order) (held : List Entry) (frame : List Structure) (node : Node) (body : List ℕ)
    (k : ℕ) (fields : List Field) (i : ℕ) → HoldsLoose order held frame node body k
    → layout_in held node.class ≡ Some fields → HasLinkIn order fields body k i
    → first_loose order held frame frame ≡ Some (node.at, i)
loose-field order held frame node body k fields i l layout placed =
    let same : l.fields ≡ fields = same_Some l.fields fields (sym l.layout ∙ layout) in
    let there = placed l.values l.tail (subst (λ fs. IsBody order fs l.values l.tail body) same l.spelled) in
    let told : FieldLink = record { field = l.field; link = l.link } in
    let asked : FieldLink = record { field = i; link = there.0 } in
    l.first
    ∙ ap (λ (found : FieldLink). Some (node.at, found.field)) (same_Some told asked (sym l.at ∙ there.1))
