-- The first bytes that are written of a structure are read again as what they were written of.
use borrow.Rule.Slice.PartMut.{put_mid, mid_of}
use Rattle.std.proofs.Common.{◌≡◌, ℕ, ◌+◌, ◌^◌, ◌<◌, ◌≤◌, List, [], ◌∷◌, ◌++◌, length, take, drop, slice_index}
use Rattle.std.proofs.Common.{slice_set, refl, sym, ap, ◌∙◌, arith}
use Rattle.std.proofs.lemmas.List.{append_assoc, append-nil, length-append, length-drop, length-take, length-set}
use Rattle.std.proofs.lemmas.List.{take_at, drop_at, get_or_at, set_at, take-append-drop, take_all, drop-drop, drop_all}
use Rattle.scalar_types.specs.declared.Order.{Order}
use Rattle.scalar_types.specs.declared.Width.TheVariants.{Four, Eight}
use Rattle.scalar_types.specs.Number.{number, bytes_of}
use Rattle.scalar_types.proofs.NumberBytes.{bytes_of-length, number-bytes_of}
use Rattle.frame_head.specs.declared.structure.Common.{Common}
use Rattle.frame_head.specs.Structure.{common_of, common_bytes, IsStructure}

pub common_bytes-length : (order : Order) (common : Common) → length (common_bytes order common) ≡ 14
common_bytes-length order common =
    omega (
      arith,
      length-append (bytes_of order Eight common.length)
          (common.check ∷ common.class ∷ bytes_of order Four common.instance),
      bytes_of-length order Eight common.length,
      bytes_of-length order Four common.instance,
    )

-- the parts, each found at its place, whatever follows them
parts_read : (order : Order) (front back rest : List ℕ) (check class : ℕ) → length front ≡ 8 → length back ≡ 4
    → common_of order ((front ++ (check ∷ class ∷ back)) ++ rest)
    ≡ record { length = number order front; check = check; class = class; instance = number order back }
parts_read order front back rest check class eight four =
    let behind : List ℕ = back ++ rest in
    let whole : (front ++ (check ∷ class ∷ back)) ++ rest ≡ front ++ (check ∷ class ∷ behind) =
    append_assoc front (check ∷ class ∷ back) rest in
    let first : take 8 (front ++ (check ∷ class ∷ behind)) ≡ front = take_at front (check ∷ class ∷ behind) 8 eight in
    let second : slice_index (front ++ (check ∷ class ∷ behind)) 8 ≡ check =
    get_or_at front check (class ∷ behind) 0 8 eight in
    let third : slice_index (front ++ (check ∷ class ∷ behind)) 9 ≡ class =
    ap (λ bytes. slice_index bytes 9) (sym (append_assoc front (check ∷ []) (class ∷ behind)))
    ∙ get_or_at (front ++ (check ∷ [])) class behind 0 9 (omega (arith, length-append front (check ∷ []))) in
    let fourth : take 4 (drop 10 (front ++ (check ∷ class ∷ behind))) ≡ back =
    ap (λ bytes. take 4 (drop 10 bytes)) (sym (append_assoc front (check ∷ class ∷ []) behind))
    ∙ ap (take 4) (drop_at (front ++ (check ∷ class ∷ [])) behind 10
    (omega (arith, length-append front (check ∷ class ∷ []))))
    ∙ take_at back rest 4 four in
    ap (common_of order) whole ∙ rw (first, second, third, fourth) refl

-- what is written is read again, whatever follows it
pub common_of-bytes : (order : Order) (common : Common) (rest : List ℕ) → common.length < 256 ^ 8
    → common.instance < 256 ^ 4
    → common_of order (common_bytes order common ++ rest) ≡ common
common_of-bytes order common rest length instance =
    let parts = parts_read order (bytes_of order Eight common.length) (bytes_of order Four common.instance) rest
    common.check common.class
    (bytes_of-length order Eight common.length) (bytes_of-length order Four common.instance) in
    parts ∙ rw (
      number-bytes_of order Eight common.length length,
      number-bytes_of order Four common.instance instance,
    ) refl

-- the same of bytes that are them
pub common_of-written : (order : Order) (common : Common) (bytes : List ℕ) → common.length < 256 ^ 8
    → common.instance < 256 ^ 4
    → bytes ≡ common_bytes order common → common_of order bytes ≡ common
common_of-written order common bytes length instance are =
    ap (common_of order) (are ∙ sym (append-nil (common_bytes order common)))
    ∙ common_of-bytes order common [] length instance

-- with a body behind them they are a structure, where the length that they say is that of the whole
pub structure-written : (order : Order) (common : Common) (body : List ℕ) → common.length < 256 ^ 8
    → common.instance < 256 ^ 4
    → common.length ≡ 14 + length body → IsStructure order (common_bytes order common ++ body)
structure-written order common body fits instance size =
    let whole : length (common_bytes order common ++ body) ≡ 14 + length body =
    omega (arith, length-append (common_bytes order common) body, common_bytes-length order common) in
    record {
      head = omega (arith, whole);
      whole = ap (λ (c : Common). c.length) (common_of-bytes order common body fits instance) ∙ size ∙ sym whole;
    }

-- ---- how they are written

-- the check and the class behind the length
marked : (front rest : List ℕ) (check class : ℕ) → length front ≡ 8 → 2 ≤ length rest
    → take 10 (slice_set (slice_set (front ++ rest) 8 check) 9 class) ≡ front ++ (check ∷ class ∷ [])
marked front [] check class eight more = absurd (omega arith)
marked front (x ∷ []) check class eight more = absurd (omega arith)
marked front (x ∷ y ∷ rest) check class eight more =
    let nine : length (front ++ (check ∷ [])) ≡ 9 = omega (arith, length-append front (check ∷ [])) in
    let first : slice_set (front ++ (x ∷ y ∷ rest)) 8 check ≡ (front ++ (check ∷ [])) ++ (y ∷ rest) =
    set_at front x (y ∷ rest) check 8 eight ∙ sym (append_assoc front (check ∷ []) (y ∷ rest)) in
    let second : slice_set (slice_set (front ++ (x ∷ y ∷ rest)) 8 check) 9 class
    ≡ (front ++ (check ∷ class ∷ [])) ++ rest =
    ap (λ bytes. slice_set bytes 9 class) first
    ∙ set_at (front ++ (check ∷ [])) y rest class 9 nine
    ∙ append_assoc front (check ∷ []) (class ∷ rest)
    ∙ sym (append_assoc front (check ∷ class ∷ []) rest) in
    ap (take 10) second ∙ take_at (front ++ (check ∷ class ∷ [])) rest 10
    (omega (arith, length-append front (check ∷ class ∷ [])))

-- 14 bytes: the length over the first 8, then the check and the class, then the instance over what is left
pub put_together : (front back old first last : List ℕ) (check class : ℕ) → length front ≡ 8 → length back ≡ 4
    → length old ≡ 14
    → take 8 first ≡ front → drop 8 first ≡ drop 8 old → take 4 last ≡ back
    → drop 4 last ≡ drop 4 (mid_of 10 4 (slice_set (slice_set first 8 check) 9 class))
    → put_mid 10 4 (slice_set (slice_set first 8 check) 9 class) last ≡ front ++ (check ∷ class ∷ back)
put_together front back old first last check class eight four whole fronted rested backed none =
    let start : first ≡ front ++ drop 8 old = sym (take-append-drop 8 first) ∙ (λ i. fronted i ++ rested i) in
    let left : length (drop 8 old) ≡ 6 = omega (arith, length-drop 8 old) in
    let before : take 10 (slice_set (slice_set first 8 check) 9 class) ≡ front ++ (check ∷ class ∷ []) =
    ap (λ bytes. take 10 (slice_set (slice_set bytes 8 check) 9 class)) start
    ∙ marked front (drop 8 old) check class eight (omega arith) in
    let size : length first ≡ 14 = omega (arith, ap length start, length-append front (drop 8 old)) in
    let set_size : length (slice_set (slice_set first 8 check) 9 class) ≡ 14 = simp length-set size in
    let behind : drop 4 (drop 10 (slice_set (slice_set first 8 check) 9 class)) ≡ [] =
    drop-drop 4 10 (slice_set (slice_set first 8 check) 9 class)
    ∙ drop_all 14 (slice_set (slice_set first 8 check) 9 class) (omega arith) in
    let marks : List ℕ = drop 10 (slice_set (slice_set first 8 check) 9 class) in
    let last_is : last ≡ back =
    sym (take_all 4 last (omega (
      arith,
      ap length none,
      length-drop 4 last,
      length-drop 4 (take 4 marks),
      length-take 4 marks,
    ))) ∙ backed in
    (λ i. before i ++ (last_is i ++ behind i))
    ∙ ap (λ bytes. (front ++ (check ∷ class ∷ [])) ++ bytes) (append-nil back)
    ∙ append_assoc front (check ∷ class ∷ []) back
