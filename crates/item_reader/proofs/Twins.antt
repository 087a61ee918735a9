-- The records of a frame as a segment has them: which has the class and the instance of another, and whether
-- one is a FrameH.
use Rattle.std.proofs.Common.{◌≡◌, ℕ, ◌+◌, Bool, true, false, cond, ◌||◌, List, [], ◌∷◌, ◌++◌, map, refl}
use Rattle.std.proofs.Common.{ap, ◌∙◌}
use Rattle.std.proofs.Common.{is_some, Option, Some, None}
use Rattle.std.specs.Prelude.{find}
use Rattle.std.specs.Option.{option_or}
use Rattle.std.specs.List.{position_from}
use Rattle.std.proofs.lemmas.Iterator.Adapters.{position_from-zero}
use Rattle.std.proofs.lemmas.List.Folds.{find-append}
use Rattle.dictionary.specs.declared.entries.Entry.{Entry}
use Rattle.link_graph.specs.declared.nodes.Node.{Node}
use Rattle.link_graph.specs.Collected.{Bodied, is_named, link_to, is_held}
use Rattle.file_grammar.specs.Structure.{Structure}
use Rattle.file_grammar.specs.Kind.{kind_of, is_header_kind}
use Rattle.file_grammar.specs.Record.{is_target}
use Rattle.file_grammar.specs.Fault.{has_twin, has_header}
use Rattle.item_reader.specs.State.{structure_of}
use Rattle.item_reader.proofs.Parts.{target-twin}

-- what has a place among records is found among the structures that they are
placed-found : (p : Bodied → Bool) (q : Structure → Bool) → ((r : Bodied) → p r ≡ q (structure_of r))
    → (i : ℕ)
    → (nodes : List Bodied) → is_some (position_from p i nodes) ≡ is_some (find q (map structure_of nodes))
placed-found p q same i [] = refl
placed-found p q same i (r ∷ rs) =
    by (p r) (placed-found p q same (i + 1) rs)
    ∙ ap (λ b. is_some (cond b (Some (structure_of r)) (find q (map structure_of rs)))) (same r)
  where
    by : (b : Bool) → is_some (position_from p (i + 1) rs) ≡ is_some (find q (map structure_of rs))
        → is_some (cond b (Some i) (position_from p (i + 1) rs))
        ≡ is_some (cond b (Some (structure_of r)) (find q (map structure_of rs)))
    by true later = refl
    by false later = later

-- a record is held under a structure's class and instance where the frame has a twin of the structure
pub held-twin : (nodes : List Bodied) (node : Node) (s : Structure) → s.class ≡ node.class
    → s.instance ≡ node.instance → is_held nodes node ≡ has_twin (map structure_of nodes) s
held-twin nodes node s class instance =
    ap is_some (position_from-zero (λ (r : Bodied). is_named (link_to node) r.node) nodes)
    ∙ placed-found (λ (r : Bodied). is_named (link_to node) r.node) (is_target (link_to node)) (λ r. refl) 0
    nodes
    ∙ target-twin (map structure_of nodes) s node.class node.instance class instance

-- one more record is the FrameH, or one was there
pub header-more : (held : List Entry) (frame : List Structure) (s : Structure)
    → has_header held (frame ++ s ∷ []) ≡ (has_header held frame || is_header_kind (kind_of held s.class))
header-more held frame s =
    ap is_some (find-append (λ (t : Structure). is_header_kind (kind_of held t.class)) frame (s ∷ []))
    ∙ by (find (λ (t : Structure). is_header_kind (kind_of held t.class)) frame)
    (is_header_kind (kind_of held s.class))
  where
    by : (found : Option Structure) (b : Bool)
        → is_some (option_or found (cond b (Some s) None)) ≡ (is_some found || b)
    by None true = refl
    by None false = refl
    by (Some t) b = refl
