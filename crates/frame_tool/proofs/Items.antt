-- A file's items are structures that may stand one after another, as a walk passes over them.
use Rattle.std.proofs.Common.{◌≡◌, ℕ, ◌+◌, ◌≤◌, List, [], ◌∷◌, ◌++◌, length, take, drop, sum_by, refl, sym, ap, subst}
use Rattle.std.proofs.Common.{◌∙◌, arith, length-append, length-drop, add-zero}
use Rattle.std.proofs.lemmas.List.{length-take-le, drop-drop, append_assoc, take-append-drop}
use Rattle.std.proofs.lemmas.List.Sums.{sum_by-cons}
use Rattle.std.specs.List.{concat}
use Rattle.scalar_types.specs.declared.Order.{Order}
use Rattle.file_grammar.specs.Structure.{Structure, size_of, end_of, StandsWhole}
use Rattle.file_grammar.specs.Kind.{kind_of}
use Rattle.file_grammar.specs.Record.{weight_of}
use Rattle.file_grammar.specs.Described.{AreElements}
use Rattle.file_grammar.specs.Item.{Item, EntryItem, OtherItem, Before, after}
use Rattle.file_grammar.specs.MayStand.{Stand, Begins}
use Rattle.file_grammar.proofs.Advance.{end_within, place-after_kind}
use Rattle.frame_tool.specs.Walk.{MayStand, StandFrom, IsWalked}
use Rattle.frame_tool.proofs.Faults.{stands_of_fits}

-- the bytes of a structure that stands whole
abbrev bytes_of : List ℕ → Structure → List ℕ
bytes_of file s = take (size_of s) (drop s.at file)

size-within : (order : Order) (file : List ℕ) (s : Structure) → StandsWhole order file s
    → size_of s ≤ length (drop s.at file)
size-within order file s whole =
    let ends : end_of s ≤ length file = end_within order file s whole in
    omega (arith, ends, length-drop s.at file)

-- a walk lets it stand
stands_in_walk : (order : Order) (file : List ℕ) (s : Structure) → StandsWhole order file s
    → MayStand order s.at (bytes_of file s)
stands_in_walk order file s whole =
    stands_of_fits order s.at (drop s.at file) (size_of s) (sym whole.whole)
    (record {
      head = omega arith;
      small = whole.small;
      whole = size-within order file s whole;
      within = whole.within;
    })

-- the bytes between two places are structures that may stand there
pub record Parts (order : Order) (file : List ℕ) (from to : ℕ) : Type 0 where
  pub structures : List (List ℕ)
  pub parts : drop from file ≡ concat structures ++ drop to file
  pub stand : StandFrom order from structures
  pub size : from + length (concat structures) ≡ to

parts_none : (order : Order) (file : List ℕ) (at : ℕ) → Parts order file at at
parts_none order file at = record { structures = []; parts = refl; stand = tt; size = add-zero at }

-- one structure more in front
parts_more : (order : Order) (file : List ℕ) (s : Structure) (to : ℕ) → StandsWhole order file s
    → Parts order file (end_of s) to → Parts order file s.at to
parts_more order file s to whole rest =
    let long : length (bytes_of file s) ≡ size_of s =
    length-take-le (size_of s) (drop s.at file) (size-within order file s whole) in
    let P : ℕ → Type 0 = λ size. StandFrom order (s.at + size) rest.structures in
    record {
      structures = bytes_of file s ∷ rest.structures;
      parts = sym (take-append-drop (size_of s) (drop s.at file))
          ∙ ap (λ behind. bytes_of file s ++ behind) (drop-drop (size_of s) s.at file ∙ rest.parts)
          ∙ sym (append_assoc (bytes_of file s) (concat rest.structures) (drop to file));
      stand = (stands_in_walk order file s whole, subst P (sym long) rest.stand);
      size = omega (arith, rest.size, long, length-append (bytes_of file s) (concat rest.structures));
    }

-- a run of FrSEs in front
parts_run : (order : Order) (file : List ℕ) (at to : ℕ) (run : List Structure) (elements : List _)
    → AreElements order file at run elements → Parts order file (at + sum_by size_of run) to
    → Parts order file at to
parts_run order file at to [] [] are rest =
    let P : ℕ → Type 0 = λ from. Parts order file from to in
    subst P (add-zero at) rest
parts_run order file at to [] (e ∷ es) are rest = absurd are
parts_run order file at to (s ∷ ss) [] are rest = absurd are
parts_run order file at to (s ∷ ss) (e ∷ es) are rest =
    let P : ℕ → Type 0 = λ from. Parts order file from to in
    let here : s.at ≡ at = are.0 in
    let sums = sum_by-cons size_of s ss in
    let behind : at + sum_by size_of (s ∷ ss) ≡ end_of s + sum_by size_of ss = omega (arith, sums, here) in
    subst P here (parts_more order file s to are.1.stands
    (parts_run order file (end_of s) to ss es are.2 (subst P behind rest)))

-- items that each may stand after those before them
parts_items : (order : Order) (file : List ℕ) (b : Before) (items : List Item) (last : Before)
    → Stand order file b items last
    → Parts order file b.place last.place
parts_items order file b [] last stand =
    let P : Before → Type 0 = λ end. Parts order file b.place end.place in
    subst P (sym stand) (parts_none order file b.place)
parts_items order file b (EntryItem head run entry ∷ others) last stand =
    let P : ℕ → Type 0 = λ from. Parts order file from last.place in
    let may = stand.0.1 in
    let rest = parts_items order file (after order b (EntryItem head run entry)) others last stand.1 in
    subst P may.here (parts_more order file head last.place may.described.stands
    (parts_run order file (end_of head) last.place run entry.elements may.described.elements rest))
parts_items order file b (OtherItem s ∷ others) last stand =
    let P : ℕ → Type 0 = λ from. Parts order file from last.place in
    let may = stand.0.1 in
    let rest = parts_items order file (after order b (OtherItem s)) others last stand.1 in
    let end = place-after_kind (kind_of b.dictionary s.class) b s (weight_of order b.dictionary s) in
    subst P may.here (parts_more order file s last.place may.stands (subst P end rest))

-- a walk comes to a place
pub record WalksTo (file : List ℕ) (order : Order) (place : ℕ) : Type 0 where
  pub structures : List (List ℕ)
  pub size : 40 ≤ length file
  pub walked : IsWalked file order structures (drop place file)
  pub place_is : place ≡ 40 + length (concat structures)

-- so it does to the place after the items that a file begins with
pub walks_to : (file : List ℕ) (order : Order) (items : List Item) (last : Before)
    → Begins file order items last
    → WalksTo file order last.place
walks_to file order items last begins =
    let found = parts_items order file _ items last begins.stand in
    record {
      structures = found.structures;
      size = begins.size;
      walked = record { header = begins.header; parts = found.parts; stand = found.stand };
      place_is = sym found.size;
    }
