-- What the parser's steps make of the tokens that they find.
use Rattle.std.proofs.Common.{◌≡◌, ℕ, ◌<◌, ◌≤◌, true, false, nat_le, List, [], ◌∷◌, ◌++◌, length, Option, Some, None}
use Rattle.std.proofs.Common.{option_and_then, codes, refl, sym, ◌∙◌, ap, arith, append_assoc, append-nil, le-leb}
use Rattle.std.proofs.lemmas.Bool.Decides.{nat_tests}
use Rattle.std.proofs.lemmas.Option.{some_pair_parts}
use Rattle.std.specs.Option.{option_map}
use Rattle.std.specs.Str.{bytes_eq}
use Rattle.type_text.specs.declared.types.Base.{Base}
use Rattle.type_text.specs.declared.types.Dim.{Dim}
use Rattle.type_text.specs.Tokens.{Token, Word, Mark, tokens}
use Rattle.type_text.specs.TypeText.{type_of, type_of_tokens, base_in_front, pointed_of, base_of, dims_of, dim_of}
use Rattle.type_text.specs.Steps.{first_word, no_token, bracketed_of, dims_from, pointer_base, type_of_base}
use Rattle.type_text.proofs.GrammarLemmas.{dims_of-steps}

-- the base in front, by the first word
no_base : (ts : List Token) → first_word ts ≡ None → base_in_front ts ≡ None
unfolding base_in_front
no_base [] e = refl
no_base (Mark k ∷ ts) e = refl
no_base (Word w ∷ ts) e = cc

first_word-is : (ts : List Token) (w : List ℕ) (rest : List Token) → first_word ts ≡ Some (w, rest) → ts ≡ Word w ∷ rest
first_word-is [] w rest e = cc
first_word-is (Mark k ∷ ts) w rest e = cc
first_word-is (Word v ∷ ts) w rest e = let parts = some_pair_parts v w ts rest e in cc

base-pointer : (w : List ℕ) (ts : List Token) → bytes_eq w (codes "PTR_STRUCT") ≡ true
    → base_in_front (Word w ∷ ts) ≡ pointer_base (pointed_of ts)
unfolding base_in_front
base-pointer w ts e = rw e refl

base-plain : (w : List ℕ) (ts : List Token) → bytes_eq w (codes "PTR_STRUCT") ≡ false
    → base_in_front (Word w ∷ ts) ≡ option_map (λ base. (base, ts)) (base_of w)
unfolding base_in_front
base-plain w ts e = rw e refl

-- What a text reads as.
type_of-read : (text : List ℕ) → length text ≤ 4096 → type_of text ≡ type_of_base (base_in_front (tokens text))
unfolding type_of type_of_tokens
type_of-read text fits = rw (le-leb (length text) 4096 fits) refl

pub type_of-long : (text : List ℕ) → 4096 < length text → type_of text ≡ None
unfolding type_of
type_of-long text long = rw (long-test (length text) long) refl
  where
    long-test : (n : ℕ) → 4096 < n → nat_le n 4096 ≡ false
    long-test n h = grind (arith, nat_tests)

pub type_of-none : (text : List ℕ) → length text ≤ 4096 → first_word (tokens text) ≡ None → type_of text ≡ None
type_of-none text fits e = type_of-read text fits ∙ ap type_of_base (no_base (tokens text) e)

pub type_of-pointer : (text w : List ℕ) (rest : List Token) → length text ≤ 4096
    → first_word (tokens text) ≡ Some (w, rest) → bytes_eq w (codes "PTR_STRUCT") ≡ true
    → type_of text ≡ type_of_base (pointer_base (pointed_of rest))
type_of-pointer text w rest fits e is =
    type_of-read text fits
    ∙ ap type_of_base (ap base_in_front (first_word-is (tokens text) w rest e) ∙ base-pointer w rest is)

pub type_of-plain : (text w : List ℕ) (rest : List Token) (base : Option Base) → length text ≤ 4096
    → first_word (tokens text) ≡ Some (w, rest) → bytes_eq w (codes "PTR_STRUCT") ≡ false → base_of w ≡ base
    → type_of text ≡ type_of_base (option_map (λ base. (base, rest)) base)
type_of-plain text w rest base fits e other is =
    type_of-read text fits
    ∙ ap type_of_base (ap base_in_front (first_word-is (tokens text) w rest e) ∙ base-plain w rest other
    ∙ ap (option_map (λ base. (base, rest))) is)

-- the dimensions that are read so far, before those of the tokens
abbrev pub after_dims : List Dim → List Token → Option (List Dim)
after_dims front ts = option_map (λ ds. front ++ ds) (dims_of ts)

pub after_dims-stop : (front : List Dim) (ts : List Token) → no_token ts ≡ false → bracketed_of ts ≡ None
    → after_dims front ts ≡ None
after_dims-stop front ts more e =
    ap (option_map (λ ds. front ++ ds)) (dims_of-steps ts more ∙ ap dims_from e)

pub after_dims-bad : (front : List Dim) (ts : List Token) (found : List ℕ × List Token) → no_token ts ≡ false
    → bracketed_of ts ≡ Some found → dim_of found.0 ≡ None → after_dims front ts ≡ None
after_dims-bad front ts found more e bad =
    ap (option_map (λ ds. front ++ ds)) (dims_of-steps ts more ∙ ap dims_from e
    ∙ ap (option_and_then (λ d. option_map (λ ds. d ∷ ds) (dims_of found.1))) bad)

in-front : (front : List Dim) (d : Dim) (o : Option (List Dim))
    → option_map (λ ds. (front ++ d ∷ []) ++ ds) o ≡ option_map (λ ds. front ++ ds) (option_map (λ ds. d ∷ ds) o)
in-front front d None = refl
in-front front d (Some ds) = ap Some (append_assoc front (d ∷ []) ds)

pub after_dims-more : (front : List Dim) (ts : List Token) (found : List ℕ × List Token) (d : Dim) → no_token ts ≡ false
    → bracketed_of ts ≡ Some found → dim_of found.0 ≡ Some d
    → after_dims (front ++ d ∷ []) found.1 ≡ after_dims front ts
after_dims-more front ts found d more e good =
    in-front front d (dims_of found.1)
    ∙ sym (ap (option_map (λ ds. front ++ ds)) (dims_of-steps ts more ∙ ap dims_from e
    ∙ ap (option_and_then (λ d. option_map (λ ds. d ∷ ds) (dims_of found.1))) good))

pub after_dims-end : (front : List Dim) (ts : List Token) → no_token ts ≡ true → after_dims front ts ≡ Some front
unfolding dims_of
after_dims-end front [] e = ap Some (append-nil front)
after_dims-end front (t ∷ ts) e = cc

pub ruleset dimensions = (after_dims-stop, after_dims-bad, after_dims-more, after_dims-end)
