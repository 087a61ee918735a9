-- The first place in a list that passes, and places in rows.
use Rattle.std.proofs.Common.{◌≡◌, ℕ, ◌+◌, ◌*◌, ◌<◌, ◌≤◌, Bool, true, false, cond, ltb, List, length, get_or, Some}
use Rattle.std.proofs.Common.{None, ap, ◌∙◌, subst, arith}
use Rattle.std.specs.Prelude.{position, slice_get, if◌then◌else◌}
use Rattle.std.proofs.Math.Nat.{mul_comm}
use Rattle.std.proofs.lemmas.Nat.{mul-add-lt}
use Rattle.std.proofs.lemmas.List.Sums.{position_or_len_is}
use Rattle.std.proofs.lemmas.Bool.{lt-ltb, le-ltb}
use Rattle.std.proofs.lemmas.Option.{slice_get_within, get_or_from_slice_get}
use Rattle.scalar_types.specs.declared.Order.{Order}
use Rattle.contents_table.specs.Listed.{KindTable}
use Rattle.contents_table.specs.Views.{AreNumbers, AreTexts, texts_by}
use Rattle.contents_table.proofs.ItemLemmas.{listed-length, listed_number-at}

pub position-here : {X : Type 0} (p : X → Bool) (xs : List X) (k : ℕ) (x d : X) → slice_get xs k ≡ Some x
    → ((j : ℕ) → j < k → p (get_or xs j d) ≡ false) → p x ≡ true → position p xs ≡ Some k
position-here p xs k x d is before passes =
    let lt = slice_get_within xs k x is in
    let first = position_or_len_is p xs k d (omega arith) before
    (λ h. ap p (get_or_from_slice_get xs k x d is) ∙ passes) in
    ap (λ i. cond (ltb i (length xs)) (Some i) None) first ∙ ap (λ b. cond b (Some k) None) (lt-ltb k (length xs) lt)

pub position-none : {X : Type 0} (p : X → Bool) (xs : List X) (n : ℕ) (d : X) → length xs ≡ n
    → ((j : ℕ) → j < n → p (get_or xs j d) ≡ false) → position p xs ≡ None
position-none p xs n d size before =
    let first = position_or_len_is p xs n d (omega arith) before (λ h. absurd (omega arith)) in
    ap (λ i. cond (ltb i (length xs)) (Some i) None) first
    ∙ ap (λ b. cond b (Some n) None) (le-ltb n (length xs) (omega arith))

-- the place of name k in a frame is one of all
pub place-below : (by_name : Bool) (count frames k frame : ℕ) → k < count → frame < frames
    → (if by_name then k * frames + frame else frame * count + k) < count * frames
place-below true count frames k frame named framed =
    subst (λ n. k * frames + frame < n) (mul_comm frames count) (mul-add-lt k frames frame count named framed)
place-below false count frames k frame named framed = mul-add-lt frame count k frames framed named

-- a name of a lent table and a frame of it are within its counts
pub counts-below : (order : Order) (count frames : ℕ) (bytes : List ℕ) (t : KindTable) (k frame : ℕ)
    → texts_by order count bytes ≡ t.names → frames ≡ t.frames → AreTexts order count bytes
    → k < length t.names → frame < t.frames → (k < count) × (frame < frames)
counts-below order count frames bytes t k frame names_are frames_are texts named framed =
    (omega (arith, ap length names_are, listed-length order count bytes texts), omega arith)

-- so its number has eight bytes of its own
pub place-within : (order : Order) (bytes : List ℕ) (by_name : Bool) (count frames k frame : ℕ)
    → AreNumbers order (count * frames) bytes → (k < count) × (frame < frames)
    → (if by_name then k * frames + frame else frame * count + k) * 8 + 8 ≤ length bytes
place-within order bytes by_name count frames k frame are below =
    (listed_number-at order (count * frames) bytes (if by_name then k * frames + frame else frame * count + k) are
    (place-below by_name count frames k frame below.0 below.1)).within
