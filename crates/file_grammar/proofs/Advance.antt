-- Where structures and items end: what may stand at a place takes 14 bytes at least, and ends within the file.
use Rattle.std.proofs.Common.{◌≡◌, ℕ, ◌+◌, ◌-◌, ◌≤◌, List, [], ◌∷◌, length, take, drop, sum_by, refl, ap, arith}
use Rattle.std.proofs.Common.{length-take, length-drop}
use Rattle.std.proofs.lemmas.List.Sums.{sum_by-cons}
use Rattle.scalar_types.specs.declared.Order.{Order}
use Rattle.dictionary.specs.declared.entries.Element.{Element}
use Rattle.file_grammar.specs.declared.kind.Kind.{Kind}
use Rattle.file_grammar.specs.declared.kind.Kind.TheVariants.{FrSH, FrSE, FrameH, FrEndOfFrame, FrTOC, FrEndOfFile}
use Rattle.file_grammar.specs.declared.kind.Kind.TheVariants.{Other}
use Rattle.file_grammar.specs.Structure.{Structure, size_of, end_of, common_at, file_limit, StandsWhole}
use Rattle.file_grammar.specs.Kind.{kind_of}
use Rattle.file_grammar.specs.Record.{weight_of}
use Rattle.file_grammar.specs.Described.{AreElements}
use Rattle.file_grammar.specs.Item.{Item, EntryItem, OtherItem, Before, after_kind, after}
use Rattle.file_grammar.specs.MayStand.{MayStand}

-- a structure that stands whole ends within the file
pub end_within : (order : Order) (file : List ℕ) (s : Structure) → StandsWhole order file s → end_of s ≤ length file
end_within order file s stands =
    let told : ℕ = (common_at order file s.at).length in
    let body : length s.body ≡ length (take (told - 14) (drop 14 (drop s.at file))) =
    ap (λ (t : Structure). length t.body) stands.is in
    let head : s.at + 14 ≤ length file = stands.head in
    omega (
      arith,
      body,
      head,
      length-take (told - 14) (drop 14 (drop s.at file)),
      length-drop 14 (drop s.at file),
      length-drop s.at file,
    )

-- a run of FrSEs that begins below a limit ends below it, where each structure does that stands whole
run_within : (order : Order) (file : List ℕ) (limit : ℕ)
    → ((s : Structure) → StandsWhole order file s → end_of s ≤ limit)
    → (at : ℕ) (run : List Structure) (elements : List Element) → at ≤ limit → AreElements order file at run elements
    → at + sum_by size_of run ≤ limit
run_within order file limit ends at [] [] within are = omega (arith, within)
run_within order file limit ends at [] (e ∷ es) within are = absurd are
run_within order file limit ends at (s ∷ ss) [] within are = absurd are
run_within order file limit ends at (s ∷ ss) (e ∷ es) within are =
    let rest : end_of s + sum_by size_of ss ≤ limit =
    run_within order file limit ends (end_of s) ss es (ends s are.1.stands) are.2 in
    let sums : sum_by size_of (s ∷ ss) ≡ size_of s + sum_by size_of ss = sum_by-cons size_of s ss in
    let here : s.at ≡ at = are.0 in
    omega (arith, rest, sums, here)

-- the place after a structure is its end, whatever its kind
pub place-after_kind : (kind : Kind) (b : Before) (s : Structure) (weight : ℕ)
    → (after_kind kind b s weight).place ≡ end_of s
place-after_kind FrSH b s weight = refl
place-after_kind FrSE b s weight = refl
place-after_kind FrameH b s weight = refl
place-after_kind FrEndOfFrame b s weight = refl
place-after_kind FrTOC b s weight = refl
place-after_kind FrEndOfFile b s weight = refl
place-after_kind Other b s weight = refl

-- the next place is 14 bytes later at least, within the file and within the limit of files
pub record Moves (file : List ℕ) (b next : Before) : Type 0 where
  pub past : b.place + 14 ≤ next.place
  pub within : next.place ≤ length file
  pub below : next.place ≤ file_limit

pub moves : (order : Order) (file : List ℕ) (b : Before) (item : Item) → MayStand order file b item
    → Moves file b (after order b item)
moves order file b (EntryItem head run entry) may =
    let here : head.at ≡ b.place = may.1.here in
    record {
      past = omega (arith, here);
      within = run_within order file (length file) (end_within order file) (end_of head) run entry.elements
          (end_within order file head may.1.described.stands) may.1.described.elements;
      below = run_within order file file_limit (λ s stands. stands.within) (end_of head) run entry.elements
          may.1.described.stands.within may.1.described.elements;
    }
moves order file b (OtherItem s) may =
    let here : s.at ≡ b.place = may.1.here in
    let place : (after order b (OtherItem s)).place ≡ end_of s =
    place-after_kind (kind_of b.dictionary s.class) b s (weight_of order b.dictionary s) in
    let within : end_of s ≤ length file = end_within order file s may.1.stands in
    record {
      past = omega (arith, here, place);
      within = omega (arith, place, within);
      below = omega (arith, place, may.1.stands.within);
    }
