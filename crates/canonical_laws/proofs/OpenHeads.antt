-- No part of a canonical head from its beginning on is well-formed, since the end of the file does not stand in it; nor
-- is a part of a canonical file that ends before the file does.
use Rattle.std.proofs.Common.{◌≡◌, ℕ, ◌≤◌, true, false, List, [], ◌∷◌, ◌++◌, length, take, sym, ap, ◌∙◌}
use Rattle.std.proofs.Common.{subst, arith, append-nil, length-append, length-take}
use Rattle.std.proofs.lemmas.List.{take-take, take_all}
use Rattle.scalar_types.specs.declared.Order.{Order}
use Rattle.scalar_types.specs.declared.Order.TheVariants.{Little}
use Rattle.frame_head.specs.Header.{header_bytes, header_of}
use Rattle.frame_head.proofs.HeaderBytes.{header_bytes-length}
use Rattle.file_grammar.specs.Structure.{file_limit}
use Rattle.file_grammar.specs.Item.{Item, Before, nothing_yet, after}
use Rattle.file_grammar.specs.MayStand.{Stand, Begins}
use Rattle.file_grammar.specs.Laws.{WellFormed}
use Rattle.file_grammar.proofs.Advance.{moves}
use Rattle.file_grammar.proofs.Headers.{same_order}
use Rattle.file_grammar.proofs.Prefixes.{same_first, open_item, no_prefix}
use Rattle.canonical_file.specs.Written.{header_alone, canonical_head, canonical_file}
use Rattle.canonical_file.proofs.Sizes.{head-size}
use Rattle.canonical_laws.specs.Laws.{NoCanonicalHeadIsWhole, NoPartOfAHeadIsWhole, NoPartOfACanonicalFileIsWhole}
use Rattle.canonical_laws.proofs.Heads.{part_bytes, after_all, frames_items, HeadStands}
use Rattle.canonical_laws.proofs.WholeFiles.{header-read, AreWritten, whole-head, read_back}

-- ---- files that are open

-- a part of a file that is open at its end is not closed
none-closed : (order : Order) (n : ℕ) (file : List ℕ) (b : Before) (items others : List Item) (last mid : Before)
    → Stand order (take n file) b items last → Stand order file b others mid → last.closed ≡ true → mid.closed ≡ false
    → mid.place ≡ length file → ⊥
none-closed order n file b [] [] last mid left right closed unclosed ends =
    let same : last.closed ≡ mid.closed = ap (λ (x : Before). x.closed) (left ∙ sym right) in
    cc
none-closed order n file b [] (other ∷ others) last mid left right closed unclosed ends =
    let same : last.closed ≡ b.closed = ap (λ (x : Before). x.closed) left in
    let more : b.closed ≡ false = open_item order file b other right.0 in
    cc
none-closed order n file b (item ∷ items) [] last mid left right closed unclosed ends =
    let step = moves order (take n file) b item left.0 in
    let place : mid.place ≡ b.place = ap (λ (x : Before). x.place) right in
    omega (arith, step.past, step.within, length-take n file, place, ends)
none-closed order n file b (item ∷ items) (other ∷ others) last mid left right closed unclosed ends =
    let same : item ≡ other = same_first order n file b item other items last left.0 right.0 left.1 closed in
    let P : Item → Type 0 = λ i. Stand order file (after order b i) others mid in
    none-closed order n file (after order b item) items others last mid left.1 (subst P (sym same) right.1) closed
    unclosed ends

-- No part of it from its beginning on is well-formed.
pub no-part_of_open : (file : List ℕ) (order : Order) (items : List Item) (mid : Before)
    → Begins file order items mid → mid.closed ≡ false → mid.place ≡ length file → (n : ℕ) → WellFormed (take n file)
    → ⊥
no-part_of_open file order others mid begins unclosed ends n (other, items, last, whole) =
    let size : 40 ≤ length (take n file) = whole.begins.size in
    let enough : 40 ≤ n = omega (arith, size, length-take n file) in
    let headers : header_of (take 40 (take n file)) ≡ header_of (take 40 file) =
    ap header_of (take-take 40 n file enough) in
    let orders : other ≡ order =
    same_order (header_of (take 40 file)) other order (sym headers ∙ whole.begins.header) begins.header in
    let P : Order → Type 0 = λ o. Stand o (take n file) nothing_yet items last in
    none-closed order n file nothing_yet items others last mid (subst P orders whole.begins.stand) begins.stand
    whole.closed unclosed ends

-- ---- canonical heads

pub no_part_of_a_head : NoPartOfAHeadIsWhole
no_part_of_a_head dictionary fs n sound frames few limit =
    let head : List ℕ = canonical_head fs in
    let parts : List ℕ = part_bytes header_alone fs in
    let same : head ++ [] ≡ head = append-nil head in
    let all : AreWritten dictionary fs = record { sound = sound; frames = frames; few = few } in
    let stands : HeadStands dictionary (head ++ []) header_alone nothing_yet fs =
    whole-head dictionary fs [] all (subst (λ xs. length xs ≤ file_limit) (sym same) limit) in
    let mid : Before = after_all nothing_yet fs in
    let long = length-append header_bytes parts in
    let size : 40 ≤ length head = omega (arith, long, header_bytes-length) in
    let begins : Begins (head ++ []) Little (frames_items nothing_yet fs) mid = record {
      size = subst (λ xs. 40 ≤ length xs) (sym same) size;
      header = header-read parts [];
      stand = stands.stand;
    } in
    no-part_of_open head Little (frames_items nothing_yet fs) mid
    (subst (λ xs. Begins xs Little (frames_items nothing_yet fs) mid) same begins) stands.between.unclosed
    (sym stands.tells.size ∙ sym (head-size fs)) n

pub no_head : NoCanonicalHeadIsWhole
no_head dictionary fs sound frames few limit whole =
    let head : List ℕ = canonical_head fs in
    let all : take (length head) head ≡ head = take_all (length head) head (omega arith) in
    no_part_of_a_head dictionary fs (length head) sound frames few limit (subst WellFormed (sym all) whole)

-- ---- canonical files

pub no_part_of_a_file : NoPartOfACanonicalFileIsWhole
no_part_of_a_file dictionary fs closing n sound frames writable few limit less part =
    let back = read_back dictionary fs closing sound frames writable few limit in
    no_prefix (canonical_file closing fs) n less (Little, back.items, back.last, back.well_formed) part
