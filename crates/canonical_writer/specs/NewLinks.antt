-- The links to the records of a frame as they are written: the instances of a class count up from 0 in the order.
use Rattle.std.specs.Prelude.{◌≡◌, ◌≢◌, ℕ, ◌<◌, ◌==◌, Bool, List, map, length, take, All, AllPairs, count_by}
use Rattle.std.specs.Prelude.{slice_index_or}
use Rattle.std.specs.List.{range_with_len}
use Rattle.std.specs.Option.{option_map_or}
use Rattle.type_text.specs.declared.types.Link.{Link}
use Rattle.link_graph.specs.Collected.{Bodied, target_of}
use Rattle.rooted_graph.specs.BreadthOrder.{number_of}
use Rattle.frame_content.specs.Labels.{null_link}

-- the classes of records
abbrev pub classes_of : List Bodied → List ℕ
classes_of nodes = map (λ (r : Bodied). r.node.class) nodes

abbrev pub class_at : List ℕ → ℕ → ℕ
class_at classes n = slice_index_or classes n 0

abbrev pub is_alike : List ℕ → ℕ → ℕ → Bool
is_alike classes n m = class_at classes m == class_at classes n

-- the link to a record that is written after these
abbrev pub link_after : List ℕ → List ℕ → ℕ → Link
link_after classes before n = record {
  class = class_at classes n;
  instance = count_by (is_alike classes n) before;
}

-- the link to a record where they are written in this order; null where the record is not in it
abbrev pub link_in_order : List ℕ → List ℕ → ℕ → Link
link_in_order classes order n =
    option_map_or (λ k. link_after classes (take k order) n) (number_of order n) null_link

-- the numbers are those of records, each once
pub record IsOrder (classes order : List ℕ) : Type 0 where
  pub within : All (λ n. n < length classes) order
  pub distinct : AllPairs (λ m n. m ≢ n) order

-- These are the new links to the records of these classes, written in this order.
abbrev pub AreNewLinks : List ℕ → List ℕ → List Link → Type 0
AreNewLinks classes order links = links ≡ map (link_in_order classes order) (range_with_len 0 (length classes))

-- the link to where another one leads
abbrev pub link_of : List Link → ℕ → Link
link_of links n = slice_index_or links n null_link

abbrev pub link_to : List Bodied → List Link → Link → Link
link_to nodes links link = option_map_or (link_of links) (target_of nodes link) null_link

-- links that are read in two frames are written alike
abbrev pub LeadAlike : List Bodied → List Link → List Bodied → List Link → List Link → Type 0
LeadAlike nodes links others new read = map (link_to nodes links) read ≡ map (link_to others new) read
