-- The links of the open frame's records, while items are taken.
use Rattle.std.proofs.Common.{◌≡◌, ℕ, Bool, List, [], ◌∷◌, ◌++◌, map, Option, Some, None, inl, inr, ◌⊎◌}
use Rattle.std.proofs.Common.{refl, sym, ap, ◌∙◌, subst}
use Rattle.std.specs.Prelude.{All, IsSome, is_some, option_and_then}
use Rattle.std.specs.Option.{option_map_or}
use Rattle.std.proofs.lemmas.Bool.{false≢true}
use Rattle.std.proofs.lemmas.Option.{none-some}
use Rattle.std.proofs.lemmas.List.{map-append}
use Rattle.std.proofs.lemmas.List.Elements.{All-head, All-tail}
use Rattle.scalar_types.specs.declared.Order.{Order}
use Rattle.type_text.specs.declared.types.Link.{Link}
use Rattle.dictionary.specs.declared.entries.Entry.{Entry}
use Rattle.dictionary.specs.Dictionary.{entry_of}
use Rattle.layout_plan.specs.Layout.{layout_of}
use Rattle.layout_plan.specs.Plans.{plan_of}
use Rattle.link_graph.specs.Collected.{Bodied, Collected, Becomes, with_node}
use Rattle.link_graph.specs.Graph.{Layouts, links_by, links_of}
use Rattle.file_grammar.specs.Record.{layout_in}
use Rattle.item_reader.specs.declared.state.State.{State}
use Rattle.item_reader.specs.declared.structure.Placed.{Placed}
use Rattle.item_reader.specs.State.{IsRecord, IsSound, HasRows, KeepsRows, structure_of}
use Rattle.item_reader.specs.Judged.{Holds, node_by, pending_record}
use Rattle.item_reader.proofs.Growing.{step-cases}
use Rattle.item_reader.proofs.Kept.{reads-held, entry-still}
use Rattle.item_reader.proofs.Taken.{after_record, after_frame_end}

-- they are by the plans and the records alone
pub rows-same : (old new : State) → new.plans ≡ old.plans → new.segment.order ≡ old.segment.order
    → new.segment.nodes ≡ old.segment.nodes → new.numbering ≡ old.numbering → KeepsRows old new
rows-same old new plans order nodes numbering = λ rows has. record {
  open_is = λ none. has.open_is (sym numbering ∙ none)
      ∙ (λ i. map (links_of (sym plans i) (sym order i)) (sym nodes i));
  ended_is = λ some. has.ended_is (subst IsSome numbering some);
}

-- a frame that is opened has none
pub rows-opened : (old new : State) → IsSome old.numbering → new.segment.nodes ≡ [] → new.numbering ≡ None
    → KeepsRows old new
rows-opened old new ended nodes none = λ rows has. record {
  open_is = λ none_is. has.ended_is ended ∙ ap (map (links_of new.plans new.segment.order)) (sym nodes);
  ended_is = λ some. absurd (false≢true (ap is_some (sym none) ∙ some));
}

-- one record more, whose links are put behind
pub rows-record : (s : State) (p : Placed) (told_weight : ℕ) (header : Bool) (segment : Collected)
    (rows links : List (List Link)) → HasRows s rows → s.numbering ≡ None
    → links ≡ rows ++ links_of s.plans s.segment.order (pending_record s p) ∷ []
    → Becomes segment (with_node (node_by s.dictionary p) s.segment)
    → HasRows (after_record s p told_weight header segment) links
rows-record s p told_weight header segment rows links has none row becomes = record {
  open_is = λ none_is. row
      ∙ ap (λ rows. rows ++ links_of s.plans s.segment.order (pending_record s p) ∷ []) (has.open_is none)
      ∙ sym (map-append (links_of s.plans s.segment.order) s.segment.nodes (pending_record s p ∷ []))
      ∙ (λ i. map (links_of s.plans (sym becomes.order i)) (sym becomes.nodes i));
  ended_is = λ some. absurd (false≢true (ap is_some (sym none) ∙ some));
}

-- none, where a frame has ended
pub rows-frame_end : (s : State) (p : Placed) (segment : Collected) (kept : Option (List ℕ)) (numbers : List ℕ)
    (rows : List (List Link)) → kept ≡ Some numbers → rows ≡ [] → HasRows (after_frame_end s p segment kept) rows
rows-frame_end s p segment kept numbers rows ended none = record {
  open_is = λ none_is. absurd (none-some numbers (sym none_is ∙ ended));
  ended_is = λ some. none;
}

-- ---- an entry

-- the layout of a class that is held
layout-still : (entries_before more : List Entry) (e : Entry)
    → (more ≡ entries_before) ⊎ (more ≡ entries_before ++ e ∷ []) → (class : ℕ)
    → IsSome (entry_of entries_before class) → layout_in entries_before class ≡ layout_in more class
layout-still entries_before more e (inl same) class some = ap (λ d. layout_in d class) (sym same)
layout-still entries_before more e (inr grown) class some =
    ap (option_and_then (λ (e : Entry). layout_of e.elements)) (sym (entry-still entries_before e class some))
    ∙ ap (λ d. layout_in d class) (sym grown)

-- the links of records are by the plans of their classes alone
links-still : (plans more : Layouts) (order : Order) (entries_before : List Entry) (nodes : List Bodied)
    → ((class : ℕ) → IsSome (entry_of entries_before class) → plan_of plans class ≡ plan_of more class)
    → All (IsRecord order entries_before) nodes → map (links_of plans order) nodes ≡ map (links_of more order) nodes
links-still plans more order entries_before [] same all = refl
links-still plans more order entries_before (r ∷ rs) same all =
    let head = All-head (IsRecord order entries_before) r rs all in
    let plan : plan_of plans r.node.class ≡ plan_of more r.node.class =
    same r.node.class (reads-held order entries_before (structure_of r) head.reads) in
    λ i. option_map_or (λ fields. links_by order fields r.body) (plan i) []
    ∷ links-still plans more order entries_before rs same (All-tail (IsRecord order entries_before) r rs all) i

-- an entry more changes no plan of a record
pub rows-entry : (s : State) (entry : Entry) (end : ℕ) (changed : Bool) (new : State) → IsSound s
    → Holds s entry changed new → KeepsRows s (record new { at = end })
rows-entry s entry end changed new sound holds = λ rows has.
    subst (λ (n : State). HasRows (record n { at = end }) rows) (sym holds.rest) (record {
      open_is = λ none. has.open_is none ∙ still;
      ended_is = has.ended_is;
    })
  where
    grown : (new.dictionary ≡ s.dictionary) ⊎ (new.dictionary ≡ s.dictionary ++ entry ∷ [])
    grown = elim (step-cases s.dictionary entry new.dictionary holds.step_is) [
      | inl stays ↦ inl stays.1
      | inr grows ↦ inr grows.1
    ]

    still : map (links_of s.plans s.segment.order) s.segment.nodes
        ≡ map (links_of new.plans s.segment.order) s.segment.nodes
    still = links-still s.plans new.plans s.segment.order s.dictionary s.segment.nodes
        (λ class some. sound.plans class ∙ layout-still s.dictionary new.dictionary entry grown class some
        ∙ sym (holds.plans class))
        sound.nodes
