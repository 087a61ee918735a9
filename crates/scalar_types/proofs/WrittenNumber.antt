-- What `byteorder` writes of a number are its bytes.
use Rattle.std.proofs.Common.{◌≡◌, ℕ, zero, suc, ◌/◌, ◌%◌, ◌^◌, List, [], ◌∷◌, ◌++◌, take, drop, refl, sym, ap, ◌∙◌}
use Rattle.std.proofs.Common.{pow-suc}
use Rattle.std.specs.Prelude.{reverse}
use Rattle.std.specs.Int.{byte_at, bytes_high_first, bytes_low_first}
use Rattle.std.proofs.Math.Nat.{div-one, div-div-eq-div-mul, pow-succ'}
use Rattle.std.proofs.lemmas.List.{reverse-append, take_at}
use Rattle.scalar_types.specs.declared.Order.{Order}
use Rattle.scalar_types.specs.declared.Order.TheVariants.{Big, Little}
use Rattle.scalar_types.specs.declared.Width.{Width}
use Rattle.scalar_types.specs.Number.{little_bytes, bytes_of, size_of}
use Rattle.scalar_types.proofs.NumberBytes.{bytes_of-length}

byte_at-power : (i n : ℕ) → byte_at i n ≡ n / 256 ^ i % 256
byte_at-power zero n = ap (λ m. m % 256) (sym (div-one n))
byte_at-power (suc i) n = refl

low_first : (i size n : ℕ) → bytes_low_first i size n ≡ little_bytes size (n / 256 ^ i)
unfolding little_bytes
low_first i zero n = refl
low_first i (suc size) n =
    let next : n / 256 ^ suc i ≡ n / 256 ^ i / 256 = ap (λ p. n / p) (pow-suc 256 i)
    ∙ sym (div-div-eq-div-mul n (256 ^ i) 256) in
    λ j. byte_at-power i n j ∷ (low_first (suc i) size n ∙ ap (little_bytes size) next) j

-- one byte more stands behind
little_bytes-last : (size n : ℕ) → little_bytes (suc size) n ≡ little_bytes size n ++ (n / 256 ^ size % 256) ∷ []
unfolding little_bytes
little_bytes-last zero n = ap (λ m. (m % 256) ∷ []) (sym (div-one n))
little_bytes-last (suc size) n =
    let last : n / 256 / 256 ^ size ≡ n / 256 ^ suc size = div-div-eq-div-mul n 256 (256 ^ size)
    ∙ ap (λ p. n / p) (sym (pow-succ' 256 size)) in
    ap (λ bytes. n % 256 ∷ bytes) (little_bytes-last size (n / 256)
    ∙ ap (λ m. little_bytes size (n / 256) ++ (m % 256) ∷ []) last)

high_first : (size n : ℕ) → bytes_high_first size n ≡ reverse (little_bytes size n)
unfolding little_bytes
high_first zero n = refl
high_first (suc size) n =
    (λ i. byte_at-power size n i ∷ high_first size n i)
    ∙ sym (ap reverse (little_bytes-last size n) ∙ reverse-append (little_bytes size n) ((n / 256 ^ size % 256) ∷ []))

first_bytes : (order : Order) (width : Width) (n : ℕ) (new rest : List ℕ) → new ≡ bytes_of order width n ++ rest
    → take (size_of width) new ≡ bytes_of order width n
first_bytes order width n new rest written =
    ap (take (size_of width)) written
    ∙ take_at (bytes_of order width n) rest (size_of width) (bytes_of-length order width n)

pub written_big : (order : Order) (width : Width) (n size : ℕ) (new old : List ℕ) → order ≡ Big → size ≡ size_of width
    → new ≡ bytes_high_first size n ++ drop size old → take (size_of width) new ≡ bytes_of order width n
written_big order width n size new old big sized written =
    rw (big) (first_bytes Big width n new (drop size old) (written
    ∙ ap (λ bytes. bytes ++ drop size old) (ap (λ k. bytes_high_first k n) sized ∙ high_first (size_of width) n)))

pub written_little : (order : Order) (width : Width) (n size : ℕ) (new old : List ℕ) → order ≡ Little
    → size ≡ size_of width → new ≡ bytes_low_first 0 size n ++ drop size old
    → take (size_of width) new ≡ bytes_of order width n
written_little order width n size new old little sized written =
    rw (little) (first_bytes Little width n new (drop size old) (written
    ∙ ap (λ bytes. bytes ++ drop size old) (ap (λ k. bytes_low_first 0 k n) sized ∙ low_first 0 (size_of width) n
    ∙ ap (little_bytes (size_of width)) (div-one n))))
