-- Equal parts of frames that stand alone are of equal frames: canonical heads that are equal bytes have the same items,
-- and so read back as the same frames.
use Rattle.std.proofs.Common.{◌≡◌, ◌≤◌, ℕ, List, [], ◌∷◌, ◌++◌, length, map, refl, sym, ap, ◌∙◌, subst, arith}
use Rattle.std.proofs.Common.{append-nil}
use Rattle.rooted_graph.proofs.Ends.{same_sym, same_trans}
use Rattle.scalar_types.specs.declared.Order.{Order}
use Rattle.scalar_types.specs.declared.Order.TheVariants.{Little}
use Rattle.frame_head.specs.Header.{header_bytes}
use Rattle.dictionary.specs.declared.entries.Entry.{Entry}
use Rattle.dictionary.specs.Dictionary.{IsDictionary}
use Rattle.file_grammar.specs.Structure.{file_limit}
use Rattle.file_grammar.specs.Item.{Item, Before, nothing_yet, after}
use Rattle.file_grammar.specs.MayStand.{Stand}
use Rattle.file_grammar.proofs.Advance.{moves}
use Rattle.file_grammar.proofs.Chains.{same_item}
use Rattle.frame_content.specs.Frames.{Frame}
use Rattle.canonical_file.specs.Ordered.{frame_graph, SameFrame, IsInOrder}
use Rattle.canonical_file.specs.Written.{header_alone, frame_part, canonical_head}
use Rattle.canonical_file.proofs.OneOrder.{same_in_orders}
use Rattle.canonical_file.proofs.SameOrder.{same_in_its_order}
use Rattle.canonical_file.proofs.Sizes.{head-size}
use Rattle.canonical_laws.specs.Writable.{as_read}
use Rattle.canonical_laws.specs.Sources.{IsWritableInOrder}
use Rattle.canonical_laws.specs.Laws.{PartsTellFrames}
use Rattle.canonical_laws.proofs.Heads.{after_all, frames_items, read_from, HeadStands}
use Rattle.canonical_laws.proofs.WholeFiles.{AreWritten, whole-head}
use Rattle.canonical_laws.proofs.ShortParts.{alone-short}

-- ---- items up to the end of a file

-- the items that stand one after another up to the end of the file are the same
same_to_end : (order : Order) (file : List ℕ) (b : Before) (items others : List Item) (last end : Before)
    → Stand order file b items last → Stand order file b others end → last.place ≡ length file
    → end.place ≡ length file → items ≡ others
same_to_end order file b [] [] last end left right one two = refl
same_to_end order file b [] (other ∷ others) last end left right one two =
    let step = moves order file b other right.0 in
    let place : last.place ≡ b.place = ap (λ (x : Before). x.place) left in
    absurd (omega (arith, step.past, step.within, place, one))
same_to_end order file b (item ∷ items) [] last end left right one two =
    let step = moves order file b item left.0 in
    let place : end.place ≡ b.place = ap (λ (x : Before). x.place) right in
    absurd (omega (arith, step.past, step.within, place, two))
same_to_end order file b (item ∷ items) (other ∷ others) last end left right one two =
    let same : item ≡ other = same_item order file b item other left.0 right.0 in
    let P : Item → Type 0 = λ i. Stand order file (after order b i) others end in
    let rest : items ≡ others =
    same_to_end order file (after order b item) items others last end left.1 (subst P (sym same) right.1) one two in
    λ i. same i ∷ rest i

-- ---- heads that are equal bytes

-- a head stands up to its end
head-alone : (dictionary : List Entry) (fs : List Frame) → AreWritten dictionary fs
    → length (canonical_head fs) ≤ file_limit → HeadStands dictionary (canonical_head fs) header_alone nothing_yet fs
head-alone dictionary fs all limit =
    let same : canonical_head fs ++ [] ≡ canonical_head fs = append-nil (canonical_head fs) in
    subst (λ xs. HeadStands dictionary xs header_alone nothing_yet fs) same
    (whole-head dictionary fs [] all (subst (λ xs. length xs ≤ file_limit) (sym same) limit))

-- Heads that are equal bytes read back as the same frames.
pub same_heads : (dictionary other : List Entry) (fs gs : List Frame) → AreWritten dictionary fs → AreWritten other gs
    → length (canonical_head fs) ≤ file_limit → length (canonical_head gs) ≤ file_limit
    → canonical_head fs ≡ canonical_head gs → map as_read fs ≡ map as_read gs
same_heads dictionary other fs gs left right limit also heads =
    let one : HeadStands dictionary (canonical_head fs) header_alone nothing_yet fs =
    head-alone dictionary fs left limit in
    let two : HeadStands other (canonical_head gs) header_alone nothing_yet gs = head-alone other gs right also in
    let P : List ℕ → Type 0 = λ xs. Stand Little xs nothing_yet (frames_items nothing_yet gs) (after_all nothing_yet gs)
    in
    let items : frames_items nothing_yet fs ≡ frames_items nothing_yet gs =
    same_to_end Little (canonical_head fs) nothing_yet (frames_items nothing_yet fs) (frames_items nothing_yet gs)
    (after_all nothing_yet fs) (after_all nothing_yet gs) one.stand (subst P (sym heads) two.stand)
    (sym one.tells.size ∙ sym (head-size fs))
    (sym two.tells.size ∙ sym (head-size gs) ∙ sym (ap length heads)) in
    sym one.frames ∙ ap (read_from nothing_yet) items ∙ two.frames

-- ---- parts that are equal bytes

same_first : (x y : Frame) → x ∷ [] ≡ y ∷ [] → x ≡ y
same_first x y same = cc

alone : (dictionary : List Entry) (f o : Frame) → IsDictionary dictionary → IsInOrder f o
    → IsWritableInOrder dictionary f → AreWritten dictionary (o ∷ [])
alone dictionary f o sound in_order writable =
    record { sound = sound; frames = (writable.writable o in_order, tt); few = omega arith }

pub parts_tell : PartsTellFrames
parts_tell dictionary other f g o p sound also_sound left right writable also_writable =
    (there, λ same. ap (frame_part header_alone) (same_in_orders f g o p same left right))
  where
    there : frame_part header_alone o ≡ frame_part header_alone p → SameFrame f g
    there same =
        let heads : canonical_head (o ∷ []) ≡ canonical_head (p ∷ []) =
        ap (λ part. header_bytes ++ (part ++ [])) same in
        let one_written = alone dictionary f o sound left writable in
        let two_written = alone other g p also_sound right also_writable in
        let lists : map as_read (o ∷ []) ≡ map as_read (p ∷ []) =
        same_heads dictionary other (o ∷ []) (p ∷ []) one_written two_written
        (alone-short dictionary o one_written) (alone-short other p two_written) heads in
        let read : as_read o ≡ as_read p = same_first (as_read o) (as_read p) lists in
        let one : o ≡ p = sym (writable.as_read_is o left) ∙ read ∙ also_writable.as_read_is p right in
        same_trans (frame_graph f) (frame_graph o) (frame_graph g) (same_in_its_order f o left)
        (same_sym (frame_graph g) (frame_graph o) (subst (SameFrame g) (sym one) (same_in_its_order g p right)))
