-- The bytes of a number are the number, and no other bytes of its width are.
use Rattle.std.proofs.Common.{◌≡◌, ℕ, zero, suc, ◌+◌, ◌*◌, ◌/◌, ◌%◌, ◌^◌, ◌<◌, List, [], ◌∷◌, ◌++◌, length, take, drop}
use Rattle.std.proofs.Common.{All, refl, sym, ap, ◌∙◌, subst, arith, pow-suc, mod-eq_of_lt, div-lt_iff_lt-mul}
use Rattle.std.specs.Prelude.{reverse}
use Rattle.std.proofs.Math.Nat.{mod-add-div, mod-lt, add-mul-mod_self_left, add-mul-div_left, div-eq_of_lt, mul_assoc}
use Rattle.std.proofs.Math.Nat.{pow-succ'}
use Rattle.std.proofs.lemmas.List.{length-reverse, reverse-reverse, take-append-drop}
use Rattle.std.proofs.lemmas.List.Elements.{All-nil, All-cons, All-head, All-tail, All-push}
use Rattle.std.proofs.lemmas.Grind.{reverse_onto}
use Rattle.scalar_types.specs.declared.Order.{Order}
use Rattle.scalar_types.specs.declared.Order.TheVariants.{Big, Little}
use Rattle.scalar_types.specs.declared.Width.{Width}
use Rattle.scalar_types.specs.declared.Width.TheVariants.{One}
use Rattle.scalar_types.specs.Number.{big_number, little_number, number, little_bytes, bytes_of, size_of}

-- ---- in reverse order

-- a byte behind has the greatest power
little_number-last : (bytes : List ℕ) (b : ℕ)
    → little_number (bytes ++ b ∷ []) ≡ b * 256 ^ length bytes + little_number bytes
little_number-last [] b = omega arith
little_number-last (x ∷ xs) b =
    rw (little_number-last xs b, pow-suc 256 (length xs), ← mul_assoc b (256 ^ length xs) 256) (omega arith)

pub big_number-reverse : (bytes : List ℕ) → big_number bytes ≡ little_number (reverse bytes)
big_number-reverse [] = refl
big_number-reverse (x ∷ xs) =
    ap (λ n. x * 256 ^ length xs + n) (big_number-reverse xs)
    ∙ ap (λ k. x * 256 ^ k + little_number (reverse xs)) (sym (length-reverse xs))
    ∙ sym (little_number-last (reverse xs) x)
    ∙ ap little_number (sym (reverse_onto xs x []))

-- the number in big-endian order is that of the bytes in reverse in little-endian order
pub number-reverse : (bytes : List ℕ) → number Big bytes ≡ number Little (reverse bytes)
number-reverse bytes = big_number-reverse bytes

-- the bytes in big-endian order are those in little-endian order in reverse
pub bytes_of-reverse : (width : Width) (n : ℕ) → bytes_of Big width n ≡ reverse (bytes_of Little width n)
bytes_of-reverse width n = refl

All-reverse : {X : Type 0} (P : X → Type 0) (xs : List X) → All P xs → All P (reverse xs)
All-reverse P [] all = All-nil P
All-reverse P (x ∷ xs) all =
    subst (All P) (sym (reverse_onto xs x []))
    (All-push P (reverse xs) x (All-reverse P xs (All-tail P x xs all)) (All-head P x xs all))

-- ---- the least first

length-little_bytes : (size n : ℕ) → length (little_bytes size n) ≡ size
unfolding little_bytes
length-little_bytes zero n = refl
length-little_bytes (suc size) n = ap suc (length-little_bytes size (n / 256))

little_number-of_bytes : (size n : ℕ) → n < 256 ^ size → little_number (little_bytes size n) ≡ n
unfolding little_bytes
little_number-of_bytes zero n fits = omega arith
little_number-of_bytes (suc size) n fits =
    let below : n / 256 < 256 ^ size =
    (div-lt_iff_lt-mul (omega arith)).1 (subst (λ m. n < m) (pow-suc 256 size) fits) in
    ap (λ m. n % 256 + 256 * m) (little_number-of_bytes size (n / 256) below) ∙ mod-add-div n 256

little_bytes-of_number : (bytes : List ℕ) → All (λ b. b < 256) bytes
    → little_bytes (length bytes) (little_number bytes) ≡ bytes
unfolding little_bytes
little_bytes-of_number [] all = refl
little_bytes-of_number (b ∷ bs) all =
    let m : ℕ = little_number bs in
    let byte : b < 256 = All-head (λ b. b < 256) b bs all in
    let first : (b + 256 * m) % 256 ≡ b = add-mul-mod_self_left b 256 m ∙ mod-eq_of_lt byte in
    let rest : (b + 256 * m) / 256 ≡ m = add-mul-div_left b m (omega arith) ∙ ap (λ k. k + m) (div-eq_of_lt byte)
    ∙ omega arith in
    λ i. first i ∷ (ap (little_bytes (length bs)) rest ∙ little_bytes-of_number bs (All-tail (λ b. b < 256) b bs all)) i

little_number-limit : (bytes : List ℕ) → All (λ b. b < 256) bytes → little_number bytes < 256 ^ length bytes
little_number-limit [] all = omega arith
little_number-limit (b ∷ bs) all =
    let byte : b < 256 = All-head (λ b. b < 256) b bs all in
    let rest = little_number-limit bs (All-tail (λ b. b < 256) b bs all) in
    rw (pow-succ' 256 (length bs)) (omega arith)

little_bytes-limit : (size n : ℕ) → All (λ b. b < 256) (little_bytes size n)
unfolding little_bytes
little_bytes-limit zero n = All-nil (λ b. b < 256)
little_bytes-limit (suc size) n =
    All-cons (λ b. b < 256) (n % 256) (little_bytes size (n / 256)) (mod-lt n (omega arith))
    (little_bytes-limit size (n / 256))

-- ---- in either order

-- as many bytes as the width takes
pub bytes_of-length : (order : Order) (width : Width) (n : ℕ) → length (bytes_of order width n) ≡ size_of width
bytes_of-length Big width n = length-reverse (little_bytes (size_of width) n) ∙ length-little_bytes (size_of width) n
bytes_of-length Little width n = length-little_bytes (size_of width) n

-- the bytes of a number that fits the width are the number
pub number-bytes_of : (order : Order) (width : Width) (n : ℕ) → n < 256 ^ size_of width
    → number order (bytes_of order width n) ≡ n
number-bytes_of Big width n fits =
    big_number-reverse (bytes_of Big width n)
    ∙ ap little_number (reverse-reverse (little_bytes (size_of width) n))
    ∙ little_number-of_bytes (size_of width) n fits
number-bytes_of Little width n fits = little_number-of_bytes (size_of width) n fits

-- bytes are the bytes of their number
pub bytes_of-number : (order : Order) (width : Width) (bytes : List ℕ) → All (λ b. b < 256) bytes
    → length bytes ≡ size_of width → bytes_of order width (number order bytes) ≡ bytes
bytes_of-number Big width bytes all size =
    ap (λ n. reverse (little_bytes (size_of width) n)) (big_number-reverse bytes)
    ∙ ap (λ k. reverse (little_bytes k (little_number (reverse bytes)))) (sym (length-reverse bytes ∙ size))
    ∙ ap reverse (little_bytes-of_number (reverse bytes) (All-reverse (λ b. b < 256) bytes all))
    ∙ reverse-reverse bytes
bytes_of-number Little width bytes all size =
    ap (λ k. little_bytes k (little_number bytes)) (sym size) ∙ little_bytes-of_number bytes all

-- no number of so many bytes reaches that power of 256
pub number-limit : (order : Order) (bytes : List ℕ) → All (λ b. b < 256) bytes → number order bytes < 256 ^ length bytes
number-limit Big bytes all =
    let limit = little_number-limit (reverse bytes) (All-reverse (λ b. b < 256) bytes all) in
    rw (big_number-reverse bytes, ← length-reverse bytes) limit
number-limit Little bytes all = little_number-limit bytes all

-- each of them is a byte
pub bytes_of-limit : (order : Order) (width : Width) (n : ℕ) → All (λ b. b < 256) (bytes_of order width n)
bytes_of-limit Big width n =
    All-reverse (λ b. b < 256) (little_bytes (size_of width) n) (little_bytes-limit (size_of width) n)
bytes_of-limit Little width n = little_bytes-limit (size_of width) n

-- bytes that are the bytes of a number are the number
pub number-from_bytes : (order : Order) (width : Width) (n : ℕ) (bytes : List ℕ) → n < 256 ^ size_of width
    → bytes ≡ bytes_of order width n → number order bytes ≡ n
number-from_bytes order width n bytes fits are = ap (number order) are ∙ number-bytes_of order width n fits

-- a number of one byte is that byte in either order
pub bytes_of-one : (order : Order) (n : ℕ) → n < 256 → bytes_of order One n ≡ n ∷ []
unfolding little_bytes
bytes_of-one Big n byte = ap (λ b. b ∷ []) (mod-eq_of_lt byte)
bytes_of-one Little n byte = ap (λ b. b ∷ []) (mod-eq_of_lt byte)

-- the whole that `write_num` leaves, by its two clauses
pub number-written : (order : Order) (width : Width) (n : ℕ) (old new : List ℕ)
    → take (size_of width) new ≡ bytes_of order width n → drop (size_of width) new ≡ drop (size_of width) old
    → new ≡ bytes_of order width n ++ drop (size_of width) old
number-written order width n old new value rest =
    sym (take-append-drop (size_of width) new) ∙ (λ i. value i ++ rest i)
