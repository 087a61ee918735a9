-- The records of a frame once its rows stand: they have the classes and instances of the rows, are linked, and read
-- back as the rows.
use Rattle.std.proofs.Common.{◌≡◌, ℕ, suc, ◌<◌, ◌≤◌, Option, Some, None, List, [], ◌∷◌, length, map, get_or, All, refl}
use Rattle.std.proofs.Common.{sym}
use Rattle.std.proofs.Common.{ap, ◌∙◌, subst, arith, inl, inr}
use Rattle.std.specs.List.{AllZip}
use Rattle.std.specs.Option.{option_map_or}
use Rattle.std.proofs.lemmas.List.{get_or_default, get_or-map, length-map}
use Rattle.std.proofs.lemmas.List.Elements.{All-nil, All-cons, All-head, All-tail, All-from_get_or}
use Rattle.scalar_types.specs.declared.Order.TheVariants.{Little}
use Rattle.record_values.specs.Links.{links_in}
use Rattle.dictionary.specs.declared.entries.Entry.{Entry}
use Rattle.link_graph.specs.declared.nodes.Root.TheVariants.{No}
use Rattle.link_graph.specs.Collected.{Bodied}
use Rattle.link_graph.specs.Table.{IsWithin}
use Rattle.file_grammar.specs.declared.kind.Kind.TheVariants.{FrameH}
use Rattle.file_grammar.specs.Structure.{Structure}
use Rattle.file_grammar.specs.Kind.{kind_of}
use Rattle.file_grammar.specs.Record.{values_of, HasTarget, AreLinked}
use Rattle.file_grammar.specs.Item.{Before}
use Rattle.file_grammar.specs.MayStand.{HasHeader}
use Rattle.item_reader.specs.Roles.{root_of, root_named}
use Rattle.item_reader.specs.State.{bodied_of}
use Rattle.frame_content.specs.Frames.{Row, Frame, no_row, row_at, label_at, row_of}
use Rattle.canonical_file.specs.Ordered.{class_at, new_link}
use Rattle.canonical_laws.specs.Writable.{record_at, kind_at}
use Rattle.canonical_laws.proofs.Instances.{no_node, AreAs}
use Rattle.canonical_laws.proofs.WrittenRecords.{record_structure, kind-held}
use Rattle.canonical_laws.proofs.RowsBack.{links-read, row-back}
use Rattle.canonical_laws.proofs.RowsFollow.{AreWritable, AreHeld, Going}
use Rattle.canonical_laws.proofs.RootsByName.{IsMarked}

some_structure : Structure
some_structure = record { at = 0; class = 0; instance = 0; body = [] }

-- What is known once all rows stand, by the entries held then.
pub record Gone (dictionary held : List Entry) (f : Frame) (b : Before) : Type 0 where
  pub writable : AreWritable dictionary f
  pub going : Going dictionary f (length f.rows) b
  pub entries : AreHeld held f (length f.rows)

low : (dictionary held : List Entry) (f : Frame) (b : Before) → Gone dictionary held f b → (k : ℕ) → k < length f.rows
    → 3 ≤ class_at f k
low dictionary held f b gone k less = (gone.writable k less).writable.entry.low

-- these records as they are read
abbrev pub nodes_of : List Entry → Before → List Bodied
nodes_of held b = map (bodied_of held) b.frame

-- the record of a row among them
gone-at : (dictionary held : List Entry) (f : Frame) (b : Before) → Gone dictionary held f b → (k : ℕ)
    → k < length f.rows → (at : ℕ)
    × (get_or (nodes_of held b) k no_node ≡ bodied_of held (record_structure at (record_at f k)))
gone-at dictionary held f b gone k less =
    let found = gone.going.is k some_structure less in
    let inside : k < length b.frame = omega (arith, gone.going.size) in
    (found.0, get_or-map (bodied_of held) b.frame k some_structure no_node inside ∙ ap (bodied_of held) found.1)

-- they have the classes and instances of the rows
pub gone-as : (dictionary held : List Entry) (f : Frame) (b : Before) → Gone dictionary held f b
    → AreAs f (nodes_of held b)
gone-as dictionary held f b gone = record {
  size = length-map b.frame (bodied_of held) ∙ gone.going.size;
  class = λ k less. ap (λ (r : Bodied). r.node.class) (gone-at dictionary held f b gone k less).1;
  instance = λ k less. ap (λ (r : Bodied). r.node.instance) (gone-at dictionary held f b gone k less).1;
}

-- each link leads to one of them
targets : (dictionary held : List Entry) (f : Frame) (b : Before) → Gone dictionary held f b
    → (links : List (Option ℕ)) → All (IsWithin (length f.rows)) links
    → All (HasTarget b.frame) (map (new_link f) links)
targets dictionary held f b gone [] all = All-nil (HasTarget b.frame)
targets dictionary held f b gone (link ∷ links) all =
    All-cons (HasTarget b.frame) (new_link f link) (map (new_link f) links)
    (one link (All-head (IsWithin (length f.rows)) link links all))
    (targets dictionary held f b gone links (All-tail (IsWithin (length f.rows)) link links all))
  where
    one : (link : Option ℕ) → IsWithin (length f.rows) link → HasTarget b.frame (new_link f link)
    one None within = inl refl
    one (Some k) within =
        let inside : k < length b.frame = omega (arith, gone.going.size) in
        let t : Structure = get_or b.frame k some_structure in
        let found = gone.going.is k some_structure within in
        inr (
          k,
          t,
          inside,
          get_or_default b.frame k t some_structure inside,
          (
            ap (λ (s : Structure). s.class) found.1,
            ap (λ (s : Structure). s.instance) found.1,
          ),
        )

pub gone-linked : (dictionary held : List Entry) (f : Frame) (b : Before) → Gone dictionary held f b
    → AreLinked Little held b.frame b.frame
gone-linked dictionary held f b gone =
    All-from_get_or (λ s. All (HasTarget b.frame) (links_in (values_of Little held s))) b.frame some_structure one
  where
    one : (k : ℕ) → k < length b.frame
        → All (HasTarget b.frame) (links_in (values_of Little held (get_or b.frame k some_structure)))
    one k inside =
        let less : k < length f.rows = omega (arith, gone.going.size) in
        let found = gone.going.is k some_structure less in
        let row = (gone.writable k less).row in
        let s : Structure = record_structure found.0 (record_at f k) in
        let links : links_in (values_of Little held s) ≡ map (new_link f) (row_at f k).links =
        links-read held f k found.0 row (gone.writable k less).writable (gone.entries k less) in
        let P : Structure → Type 0 = λ s. All (HasTarget b.frame) (links_in (values_of Little held s)) in
        subst P (sym found.1) (subst (All (HasTarget b.frame)) (sym links)
        (targets dictionary held f b gone (row_at f k).links row.within))

-- one of them is a FrameH
pub gone-header : (dictionary held : List Entry) (f : Frame) (b : Before) → Gone dictionary held f b → (k : ℕ)
    → k < length f.rows → kind_at f k ≡ FrameH → HasHeader held b.frame
gone-header dictionary held f b gone k less is =
    let inside : k < length b.frame = omega (arith, gone.going.size) in
    let t : Structure = get_or b.frame k some_structure in
    let found = gone.going.is k some_structure less in
    let kind : kind_of held t.class ≡ FrameH =
    ap (λ (s : Structure). kind_of held s.class) found.1
    ∙ kind-held held (label_at f k).entry (low dictionary held f b gone k less) (gone.entries k less)
    ∙ is in
    (k, t, inside, get_or_default b.frame k t some_structure inside, kind)

-- ---- what is read of them

map-rows : (read : Bodied → Row) (nodes : List Bodied) (rows : List Row) → length nodes ≡ length rows
    → ((k : ℕ) → k < length nodes → read (get_or nodes k no_node) ≡ get_or rows k no_row) → map read nodes ≡ rows
map-rows read [] [] size each = refl
map-rows read [] (x ∷ xs) size each = absurd (omega (arith, size))
map-rows read (r ∷ rs) [] size each = absurd (omega (arith, size))
map-rows read (r ∷ rs) (x ∷ xs) size each =
    λ i. each 0 (omega arith) i
    ∷ map-rows read rs xs (omega (arith, size)) (λ k less. each (suc k) (omega arith)) i

-- the rows
pub gone-back : (dictionary held : List Entry) (f : Frame) (b : Before) → Gone dictionary held f b
    → map (row_of Little held (nodes_of held b)) (nodes_of held b) ≡ f.rows
gone-back dictionary held f b gone =
    map-rows (row_of Little held (nodes_of held b)) (nodes_of held b) f.rows (gone-as dictionary held f b gone).size one
  where
    one : (k : ℕ) → k < length (nodes_of held b)
        → row_of Little held (nodes_of held b) (get_or (nodes_of held b) k no_node)
        ≡ get_or f.rows k no_row
    one k inside =
        let nodes : List Bodied = nodes_of held b in
        let same = gone-as dictionary held f b gone in
        let less : k < length f.rows = omega (arith, same.size) in
        let found = gone-at dictionary held f b gone k less in
        let w = gone.writable k less in
        ap (row_of Little held nodes) found.1
        ∙ row-back held f nodes k found.0 (root_of held (class_at f k)) same (low dictionary held f b gone) w.row
        w.writable (gone.entries k less)

-- the roots
marked : (nodes : List Bodied) (rows : List Row) → length nodes ≡ length rows
    → ((k : ℕ) → k < length nodes → IsMarked (get_or nodes k no_node) (get_or rows k no_row))
    → AllZip IsMarked nodes rows
marked [] [] size each = tt
marked [] (x ∷ xs) size each = absurd (omega (arith, size))
marked (r ∷ rs) [] size each = absurd (omega (arith, size))
marked (r ∷ rs) (x ∷ xs) size each = (
  each 0 (omega arith),
  marked rs xs (omega (arith, size)) (λ k less. each (suc k) (omega arith)),
)

pub gone-marked : (dictionary held : List Entry) (f : Frame) (b : Before) → Gone dictionary held f b
    → AllZip IsMarked (nodes_of held b) f.rows
gone-marked dictionary held f b gone =
    marked (nodes_of held b) f.rows (gone-as dictionary held f b gone).size one
  where
    one : (k : ℕ) → k < length (nodes_of held b)
        → IsMarked (get_or (nodes_of held b) k no_node) (get_or f.rows k no_row)
    one k inside =
        let same = gone-as dictionary held f b gone in
        let less : k < length f.rows = omega (arith, same.size) in
        let found = gone-at dictionary held f b gone k less in
        ap (λ (r : Bodied). r.node.root) found.1
        ∙ ap (λ o. option_map_or (λ (e : Entry). root_named e.name) o No) (gone.entries k less)
