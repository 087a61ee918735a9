-- Hexadecimal digits piece by piece.
use Rattle.std.proofs.Common.{◌≡◌, ℕ, ◌-◌, ◌+◌, ◌/◌, ◌%◌, ◌≤◌, List, [], ◌∷◌, ◌++◌, get_or, take, drop, refl}
use Rattle.std.proofs.Common.{sym, ap, ◌∙◌, arith, append_assoc}
use Rattle.std.specs.Prelude.{codes}
use Rattle.std.proofs.Math.Seq.{take-add}
use Rattle.std.proofs.lemmas.List.{take-append-drop}
use Rattle.hex.specs.Hex.{encode_with, encode_lower, lower_digits}

-- ---- hexadecimal digits

encode-append : (t xs ys : List ℕ) → encode_with t (xs ++ ys) ≡ encode_with t xs ++ encode_with t ys
unfolding encode_with
encode-append t [] ys = refl
encode-append t (x ∷ xs) ys = ap (λ zs. get_or t (x / 16) 0 ∷ get_or t (x % 16) 0 ∷ zs) (encode-append t xs ys)

-- no bytes have no digits
pub encode-none : codes "#" ≡ codes "#" ++ encode_lower []
unfolding encode_with
encode-none = refl

-- the digits of one piece more
pub piece-more : (first bytes : List ℕ) (at end : ℕ) → at ≤ end
    → (first ++ encode_lower (take at bytes)) ++ encode_lower (take (end - at) (drop at bytes))
    ≡ first ++ encode_lower (take end bytes)
piece-more first bytes at end le =
    let same : at + (end - at) ≡ end = omega arith in
    append_assoc first (encode_lower (take at bytes)) (encode_lower (take (end - at) (drop at bytes)))
    ∙ ap (λ xs. first ++ xs) (sym (encode-append lower_digits (take at bytes) (take (end - at) (drop at bytes)))
    ∙ ap encode_lower (sym (take-add at (end - at) bytes) ∙ ap (λ n. take n bytes) same))

-- the digits of one piece, and of the bytes after it
pub piece-left : (first bytes : List ℕ) (at end : ℕ) → at ≤ end
    → (first ++ encode_lower (take at bytes))
    ++ (encode_lower (take (end - at) (drop at bytes)) ++ encode_lower (drop end bytes)) ≡ first ++ encode_lower bytes
piece-left first bytes at end le =
    let rest : List ℕ = encode_lower (drop end bytes) in
    sym (append_assoc (first ++ encode_lower (take at bytes)) (encode_lower (take (end - at) (drop at bytes))) rest)
    ∙ ap (λ text. text ++ rest) (piece-more first bytes at end le)
    ∙ append_assoc first (encode_lower (take end bytes)) rest
    ∙ ap (λ text. first ++ text) (sym (encode-append lower_digits (take end bytes) (drop end bytes))
    ∙ ap encode_lower (take-append-drop end bytes))
