-- Bytes as they are printed, run by run.
use Rattle.std.proofs.Common.{◌≡◌, ℕ, ◌+◌, ◌<◌, List, [], ◌∷◌, ◌++◌, true, length, get_or, take, drop, sym, ap, ◌∙◌}
use Rattle.std.proofs.Common.{append_assoc, arith}
use Rattle.std.proofs.lemmas.List.{get_or_default, take_all, take_more}
use Rattle.dumper.specs.Printed.{is_plain, escaped_byte, escaped}
use Rattle.dumper.proofs.Texts.{text-more, text-left}

-- a byte that is printed as itself
plain-byte : (b : ℕ) → is_plain b ≡ true → escaped_byte b ≡ b ∷ []
plain-byte b is = rw is

-- one more byte that is printed as itself
pub plain-more : (bytes : List ℕ) (at : ℕ) → at < length bytes → is_plain (get_or bytes at 0) ≡ true
    → escaped (take at bytes) ≡ take at bytes → escaped (take (at + 1) bytes) ≡ take (at + 1) bytes
plain-more bytes at lt plain so_far =
    let b : ℕ = get_or bytes at 0 in
    sym (text-more escaped_byte [] bytes at b lt (get_or_default bytes at 0 b lt))
    ∙ (λ i. so_far i ++ plain-byte b plain i)
    ∙ sym (take_more bytes at 0 lt)

-- a run, and the byte after it
pub run-more : (t grown rest : List ℕ) (p : ℕ) → p < length rest → escaped (take p rest) ≡ take p rest
    → grown ≡ (t ++ take p rest) ++ escaped_byte (get_or rest p 0)
    → grown ++ escaped (drop (p + 1) rest) ≡ t ++ escaped rest
run-more t grown rest p lt plain is =
    let b : ℕ = get_or rest p 0 in
    let after_it : List ℕ = escaped (drop (p + 1) rest) in
    ap (λ text. text ++ after_it) (is ∙ ap (λ run. (t ++ run) ++ escaped_byte b) (sym plain))
    ∙ append_assoc (t ++ escaped (take p rest)) (escaped_byte b) after_it
    ∙ text-left escaped_byte t rest p b lt (get_or_default rest p 0 b lt)

-- a last run
pub run-last : (t rest : List ℕ) (p : ℕ) → p ≡ length rest → escaped (take p rest) ≡ take p rest
    → t ++ take p rest ≡ t ++ escaped rest
run-last t rest p end plain =
    ap (λ run. t ++ run) (sym plain ∙ ap escaped (take_all p rest (omega (arith, end))))
