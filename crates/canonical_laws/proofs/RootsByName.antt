-- The roots of a frame as its records are marked, and by the names of their structures.
use Rattle.std.proofs.Common.{◌≡◌, ℕ, ◌+◌, Bool, true, false, cond, Some, None, List, [], ◌∷◌, ◌++◌, codes, refl, sym}
use Rattle.std.proofs.Common.{ap}
use Rattle.std.proofs.Common.{◌∙◌}
use Rattle.std.specs.Prelude.{filter_map}
use Rattle.std.specs.List.{AllZip, enumerate_from, cons_option}
use Rattle.std.specs.Str.{bytes_eq}
use Rattle.std.proofs.lemmas.Bool.{false≢true}
use Rattle.std.proofs.lemmas.Slice.Eq.{bytes_eq-Decides}
use Rattle.link_graph.specs.declared.nodes.Root.{Root}
use Rattle.link_graph.specs.declared.nodes.Root.TheVariants.{No, Head, Stat}
use Rattle.link_graph.specs.Collected.{Bodied, same_root}
use Rattle.link_graph.specs.Graph.{roots_from}
use Rattle.item_reader.specs.Roles.{root_named}
use Rattle.frame_content.specs.Frames.{Row, Frame}
use Rattle.canonical_laws.specs.Writable.{number_if, as_read}

-- the record is the root that the name of the row makes it
abbrev pub IsMarked : Bodied → Row → Type 0
IsMarked r x = r.node.root ≡ root_named x.label.entry.name

-- ---- marks

head-named : (name : List ℕ) → same_root (root_named name) Head ≡ bytes_eq name (codes "FrameH")
head-named name = by (bytes_eq name (codes "FrameH")) (bytes_eq name (codes "FrStatData"))
  where
    by : (a b : Bool) → same_root (cond a Head (cond b Stat No)) Head ≡ a
    by true b = refl
    by false true = refl
    by false false = refl

stat-named : (name : List ℕ) → same_root (root_named name) Stat ≡ bytes_eq name (codes "FrStatData")
stat-named name = by (bytes_eq name (codes "FrameH")) (bytes_eq name (codes "FrStatData")) refl refl
  where
    other : bytes_eq name (codes "FrameH") ≡ true → bytes_eq name (codes "FrStatData") ≡ false
    other is = ap (λ n. bytes_eq n (codes "FrStatData")) ((bytes_eq-Decides name (codes "FrameH")).0 is)

    by : (a b : Bool) → bytes_eq name (codes "FrameH") ≡ a → bytes_eq name (codes "FrStatData") ≡ b
        → same_root (cond a Head (cond b Stat No)) Stat ≡ b
    by true true p q = absurd (false≢true (sym (other p) ∙ q))
    by true false p q = refl
    by false true p q = refl
    by false false p q = refl

-- ---- numbers

-- the roots of a mark are the rows of a name
roots-named : (root : Root) (name : List ℕ) → ((n : List ℕ) → same_root (root_named n) root ≡ bytes_eq n name)
    → (k : ℕ) (nodes : List Bodied) (rows : List Row) → AllZip IsMarked nodes rows
    → roots_from root k nodes ≡ filter_map (number_if name) (enumerate_from k rows)
roots-named root name marks k [] [] all = refl
roots-named root name marks k [] (x ∷ xs) all = absurd all
roots-named root name marks k (r ∷ rs) [] all = absurd all
roots-named root name marks k (r ∷ rs) (x ∷ xs) all =
    let mark : same_root r.node.root root ≡ bytes_eq x.label.entry.name name =
    ap (λ m. same_root m root) all.0 ∙ marks x.label.entry.name in
    ap (λ b. cond b (k ∷ []) [] ++ roots_from root (k + 1) rs) mark
    ∙ by (bytes_eq x.label.entry.name name) (roots-named root name marks (k + 1) rs xs all.1)
  where
    by : (b : Bool) → roots_from root (k + 1) rs ≡ filter_map (number_if name) (enumerate_from (k + 1) xs)
        → cond b (k ∷ []) [] ++ roots_from root (k + 1) rs
        ≡ cons_option (cond b (Some k) None) (filter_map (number_if name) (enumerate_from (k + 1) xs))
    by true rest = ap (λ ns. k ∷ ns) rest
    by false rest = rest

-- The roots that are marked are those that a file gives the frame.
pub roots-agree : (f : Frame) (nodes : List Bodied) → AllZip IsMarked nodes f.rows
    → roots_from Head 0 nodes ++ roots_from Stat 0 nodes ≡ (as_read f).roots
roots-agree f nodes all =
    λ i. roots-named Head (codes "FrameH") head-named 0 nodes f.rows all i
    ++ roots-named Stat (codes "FrStatData") stat-named 0 nodes f.rows all i
