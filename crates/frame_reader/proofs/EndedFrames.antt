-- The records of a frame that has ended, as a segment has them: FrameH is the one head, and no link is loose.
use Rattle.std.proofs.Common.{◌≡◌, ℕ, suc, ◌+◌, ◌<◌, Bool, true, false, cond, List, [], ◌∷◌, ◌++◌, map}
use Rattle.std.proofs.Common.{length, get_or, All, Option, Some, None, codes, refl, sym, ap, ◌∙◌, subst, arith}
use Rattle.std.proofs.Common.{inl, inr}
use Rattle.std.specs.List.{position_from}
use Rattle.std.specs.Option.{option_map_or, option_to_list}
use Rattle.std.specs.Str.{bytes_eq}
use Rattle.std.proofs.lemmas.Bool.{cases_Bool}
use Rattle.std.proofs.lemmas.Bool.Decides.{same_from_decides, Decides-like}
use Rattle.std.proofs.lemmas.Iterator.Adapters.{position_from-zero}
use Rattle.std.proofs.lemmas.List.{get_or-map}
use Rattle.std.proofs.lemmas.List.Elements.{All-map, All-head, All-tail, All-from_get_or}
use Rattle.std.proofs.lemmas.Option.{none-some, same_Some}
use Rattle.std.proofs.lemmas.Slice.Eq.{bytes_eq-Decides}
use Rattle.scalar_types.specs.declared.Order.{Order}
use Rattle.dictionary.specs.declared.entries.Entry.{Entry}
use Rattle.dictionary.specs.Dictionary.{entry_of}
use Rattle.layout_plan.specs.Plans.{plan_of}
use Rattle.link_graph.specs.declared.nodes.Root.TheVariants.{No, Head, Stat}
use Rattle.link_graph.specs.Collected.{Bodied, Collected, same_root}
use Rattle.link_graph.specs.Graph.{Layouts, first_loose, roots_from}
use Rattle.file_grammar.specs.Structure.{Structure}
use Rattle.file_grammar.specs.Record.{layout_in, AreLinked, first_loose as first_loose_of}
use Rattle.file_grammar.proofs.Linked.{no_loose-linked}
use Rattle.item_reader.specs.Roles.{root_named}
use Rattle.item_reader.specs.State.{structure_of, bodied_of}
use Rattle.item_reader.proofs.FrameLinks.{first-loose}
use Rattle.frame_content.specs.Labels.{printed_entry, no_entry}
use Rattle.frame_content.specs.Frames.{Row, Frame, no_row, row_at, row_of, frame_of}
use Rattle.contents_table.specs.Channels.{is_frame_header, header_of}
use Rattle.contents_table.proofs.Positions.{position-map, position-same}
use Rattle.canonical_file.specs.Renumbered.{HasOneHeader}
use Rattle.canonical_writer.proofs.SegmentOrders.{no_record}

-- ---- heads

abbrev is_head : Bodied → Bool
is_head r = same_root r.node.root Head

-- a structure is a head just where its name is FrameH
head-named : (name : List ℕ) → same_root (root_named name) Head ≡ bytes_eq (codes "FrameH") name
head-named name =
    by (bytes_eq name (codes "FrameH")) (bytes_eq name (codes "FrStatData"))
    ∙ same_from_decides (bytes_eq name (codes "FrameH")) (bytes_eq (codes "FrameH") name)
    (bytes_eq-Decides name (codes "FrameH"))
    (Decides-like (bytes_eq (codes "FrameH") name) (λ e. sym e) (λ e. sym e) (bytes_eq-Decides (codes "FrameH") name))
  where
    by : (a b : Bool) → same_root (cond a Head (cond b Stat No)) Head ≡ a
    by true b = refl
    by false true = refl
    by false false = refl

-- so its record is one just where its row is a FrameH
head-row : (order : Order) (held : List Entry) (nodes : List Bodied) (s : Structure)
    → is_head (bodied_of held s) ≡ is_frame_header (row_of order held nodes (bodied_of held s))
head-row order held nodes s = by (entry_of held s.class)
  where
    by : (o : Option Entry) → same_root (option_map_or (λ (e : Entry). root_named e.name) o No) Head
        ≡ bytes_eq (codes "FrameH") (option_map_or printed_entry o no_entry).name
    by None = refl
    by (Some e) = head-named e.name

-- one of these records at most is a head
abbrev HasOneHead : List Bodied → Type 0
HasOneHead rs =
    (j k : ℕ) → j < length rs → k < length rs → is_head (get_or rs j no_record) ≡ true
    → is_head (get_or rs k no_record) ≡ true → j ≡ k

-- where none is, there are no heads
no-heads : (k : ℕ) (rs : List Bodied) → All (λ r. is_head r ≡ false) rs → roots_from Head k rs ≡ []
no-heads k [] none = refl
no-heads k (r ∷ rs) none =
    ap (λ b. cond b (k ∷ []) [] ++ roots_from Head (k + 1) rs) (All-head (λ r. is_head r ≡ false) r rs none)
    ∙ no-heads (k + 1) rs (All-tail (λ r. is_head r ≡ false) r rs none)

-- where one at most is, the heads are the first one
once-first : (k : ℕ) (rs : List Bodied) → HasOneHead rs
    → roots_from Head k rs ≡ option_to_list (position_from is_head k rs)
once-first k [] once = refl
once-first k (r ∷ rs) once = by (is_head r) refl (once-first (k + 1) rs later)
  where
    others : is_head r ≡ true → All (λ r. is_head r ≡ false) rs
    others is = All-from_get_or (λ r. is_head r ≡ false) rs no_record (λ j less.
        elim (cases_Bool (is_head (get_or rs j no_record))) [
          | inl also ↦ absurd (omega (arith, once 0 (suc j) (omega (arith, less)) (omega (arith, less)) is also))
          | inr apart ↦ apart
        ])

    later : HasOneHead rs
    later j n first second head other =
        let same = once (suc j) (suc n) (omega (arith, first)) (omega (arith, second)) head other in
        omega (arith, same)

    by : (b : Bool) → is_head r ≡ b
        → roots_from Head (k + 1) rs ≡ option_to_list (position_from is_head (k + 1) rs)
        → cond b (k ∷ []) [] ++ roots_from Head (k + 1) rs
        ≡ option_to_list (cond b (Some k) (position_from is_head (k + 1) rs))
    by true is rest = ap (λ ns. k ∷ ns) (no-heads (k + 1) rs (others is))
    by false is rest = rest

-- FrameH is the only head of a frame that has one at most.
pub one-head : (held : List Entry) (s : Collected) (records : List Structure) (frame : Frame)
    → s.nodes ≡ map (bodied_of held) records → frame ≡ frame_of held s → HasOneHeader frame
    → roots_from Head 0 s.nodes ≡ option_to_list (header_of frame)
one-head held s records frame nodes is one =
    once-first 0 s.nodes once
    ∙ ap option_to_list (sym (position_from-zero is_head s.nodes)
    ∙ position-same is_head header s.nodes alike
    ∙ sym (position-map is_frame_header row s.nodes)
    ∙ ap header_of (sym is))
  where
    row : Bodied → Row
    row = row_of s.order held s.nodes

    header : Bodied → Bool
    header r = is_frame_header (row r)

    alike : All (λ r. is_head r ≡ header r) s.nodes
    alike =
        subst (All (λ r. is_head r ≡ header r)) (sym nodes)
        (All-map (λ r. is_head r ≡ header r) (bodied_of held) records
        (λ k d less. head-row s.order held s.nodes (get_or records k d)))

    found : (k : ℕ) → k < length s.nodes → is_head (get_or s.nodes k no_record) ≡ true → header_of frame ≡ Some k
    found k less head =
        one.only k
        (ap (λ (f : Frame). is_frame_header (row_at f k)) is
        ∙ ap is_frame_header (get_or-map row s.nodes k no_record no_row less)
        ∙ sym (alike k no_record less) ∙ head)

    once : HasOneHead s.nodes
    once j k first second head other = same_Some j k (sym (found j first head) ∙ found k second other)

-- ---- links

-- the records of a segment are the structures from which they were made
structures-back : (held : List Entry) (records : List Structure)
    → map structure_of (map (bodied_of held) records) ≡ records
structures-back held [] = refl
structures-back held (s ∷ ss) = ap (λ ts. s ∷ ts) (structures-back held ss)

-- Where each link of the records has its target, no link of the segment is loose.
pub none-loose : (held : List Entry) (s : Collected) (records : List Structure)
    → s.nodes ≡ map (bodied_of held) records → AreLinked s.order held records records → (plans : Layouts)
    → ((class : ℕ) → plan_of plans class ≡ layout_in held class) → first_loose plans s ≡ None
none-loose held s records nodes linked plans are = by (first_loose plans s) refl
  where
    back : map structure_of s.nodes ≡ records
    back = ap (map structure_of) nodes ∙ structures-back held records

    by : (o : Option (ℕ × ℕ)) → first_loose plans s ≡ o → first_loose plans s ≡ None
    by None is = is
    by (Some z) is =
        let found = first-loose plans s.order held s.nodes are z.0 z.1 is in
        let there : first_loose_of s.order held records records ≡ Some (found.r.node.at, found.field) =
        subst (λ ts. first_loose_of s.order held ts ts ≡ Some (found.r.node.at, found.field)) back found.first in
        absurd (none-some _ (sym (no_loose-linked s.order held records records linked) ∙ there))
