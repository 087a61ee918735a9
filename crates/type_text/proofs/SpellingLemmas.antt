-- A text spells just its tokens.
use Rattle.std.proofs.Common.{◌≡◌, ◌↔◌, ℕ, Bool, true, false, cond, nat_le, List, [], ◌∷◌, ◌++◌, length, Some, None}
use Rattle.std.proofs.Common.{refl, sym, ◌∙◌, ap, subst, arith, append_assoc, append-nil, le-leb}
use Rattle.std.proofs.lemmas.Bool.{and_parts, and_from, leb-true, true≢false}
use Rattle.std.proofs.lemmas.Bool.Decides.{nat_tests}
use Rattle.std.specs.List.{list_all}
use Rattle.type_text.specs.declared.types.ElementType.{ElementType}
use Rattle.type_text.specs.Tokens.{Token, Word, Mark, tokens, extended, begins_word, is_blank, is_word_byte, is_mark}
use Rattle.type_text.specs.Tokens.{IsSpelling}
use Rattle.type_text.specs.TypeText.{type_of, type_of_tokens, within_limit, printed_type, IsTypeText}
use Rattle.type_text.proofs.TokenLemmas.{tokens-blank, tokens-mark, blank-word_byte}
use Rattle.type_text.proofs.FoundLemmas.{cond-some, cond-both, and_then-some}
use Rattle.type_text.proofs.PrintedLemmas.{tokens-word_append}

-- blanks in front change no token
tokens-blanks : (blanks rest : List ℕ) → list_all is_blank blanks ≡ true → tokens (blanks ++ rest) ≡ tokens rest
tokens-blanks [] rest all = refl
tokens-blanks (b ∷ bs) rest all =
    let both = and_parts (is_blank b) (list_all is_blank bs) all in
    tokens-blank b (bs ++ rest) both.0 ∙ tokens-blanks bs rest both.1

tokens-all_blank : (bs : List ℕ) → list_all is_blank bs ≡ true → tokens bs ≡ []
unfolding tokens
tokens-all_blank [] all = refl
tokens-all_blank (b ∷ bs) all =
    let both = and_parts (is_blank b) (list_all is_blank bs) all in
    tokens-blank b bs both.0 ∙ tokens-all_blank bs both.1

is_mark-parts : (b : ℕ) → is_mark b ≡ true → (is_blank b ≡ false) × (is_word_byte b ≡ false)
is_mark-parts b h = (grind (arith, nat_tests), grind (arith, nat_tests))

-- what a text spells is its tokens
pub tokens-spelled : (ts : List Token) (text : List ℕ) → IsSpelling ts text → tokens text ≡ ts
tokens-spelled [] text s = tokens-all_blank text s
tokens-spelled (Word w ∷ ts) text s =
    ap tokens (s.5 ∙ append_assoc s.0 w s.1)
    ∙ tokens-blanks s.0 (w ++ s.1) s.2
    ∙ tokens-word_append w s.1 s.3.0 s.3.1 s.4
    ∙ ap (λ ts. Word w ∷ ts) (tokens-spelled ts s.1 s.6)
tokens-spelled (Mark b ∷ ts) text s =
    let parts = is_mark-parts b s.3 in
    ap tokens s.4
    ∙ tokens-blanks s.0 (b ∷ s.1) s.2
    ∙ tokens-mark b s.1 parts.0 parts.1
    ∙ ap (λ ts. Mark b ∷ ts) (tokens-spelled ts s.1 s.5)

-- a blank in front of a spelling
spelling-blank : (b : ℕ) (ts : List Token) (bs : List ℕ) → is_blank b ≡ true → IsSpelling ts bs → IsSpelling ts (b ∷ bs)
spelling-blank b [] bs blank s = and_from (is_blank b) (list_all is_blank bs) blank s
spelling-blank b (Word w ∷ ts) bs blank s =
    (b ∷ s.0, s.1, and_from (is_blank b) (list_all is_blank s.0) blank s.2, s.3, s.4, ap (λ bs. b ∷ bs) s.5, s.6)
spelling-blank b (Mark k ∷ ts) bs blank s =
    (b ∷ s.0, s.1, and_from (is_blank b) (list_all is_blank s.0) blank s.2, s.3, ap (λ bs. b ∷ bs) s.4, s.5)

-- a byte in front of a word
no_blanks : (blanks rest bs : List ℕ) → list_all is_blank blanks ≡ true → begins_word bs ≡ true
    → bs ≡ blanks ++ rest → blanks ≡ []
no_blanks [] rest bs all more e = refl
no_blanks (c ∷ cs) rest bs all more e =
    let word : is_word_byte c ≡ true = sym (ap begins_word e) ∙ more in
    let blank = and_parts (is_blank c) (list_all is_blank cs) all in
    absurd (true≢false (sym blank.0 ∙ blank-word_byte c word))

spelling-extended : (b : ℕ) (ts : List Token) (bs : List ℕ) → is_word_byte b ≡ true → begins_word bs ≡ true
    → IsSpelling ts bs → IsSpelling (extended b ts) (b ∷ bs)
spelling-extended b [] bs word more s =
    let none = no_blanks bs [] bs s more (sym (append-nil bs)) in
    absurd (true≢false (sym more ∙ ap begins_word none))
spelling-extended b (Word w ∷ ts) bs word more s =
    let none = no_blanks s.0 (w ++ s.1) bs s.2 more (s.5 ∙ append_assoc s.0 w s.1) in (
      [],
      s.1,
      refl,
      (omega arith, and_from (is_word_byte b) (list_all is_word_byte w) word s.3.1),
      s.4,
      ap (λ bs. b ∷ bs) (s.5 ∙ ap (λ blanks. blanks ++ w ++ s.1) none),
      s.6,
    )
spelling-extended b (Mark k ∷ ts) bs word more s =
    let none = no_blanks s.0 (k ∷ s.1) bs s.2 more s.4 in
    let first : begins_word bs ≡ is_word_byte k = ap begins_word (s.4 ∙ ap (λ blanks. blanks ++ k ∷ s.1) none) in
    absurd (true≢false (sym more ∙ first ∙ (is_mark-parts k s.3).1))

pub spelling-tokens : (text : List ℕ) → IsSpelling (tokens text) text
unfolding tokens
spelling-tokens [] = refl
spelling-tokens (b ∷ bs) = by (is_blank b) (is_word_byte b) (begins_word bs) refl refl refl (spelling-tokens bs)
  where
    mark : (b : ℕ) → is_blank b ≡ false → is_word_byte b ≡ false → is_mark b ≡ true
    mark b p q = rw (p, q) refl

    by : (blank word more : Bool) → is_blank b ≡ blank → is_word_byte b ≡ word → begins_word bs ≡ more
        → IsSpelling (tokens bs) bs
        → IsSpelling (cond blank (tokens bs)
        (cond word (cond more (extended b (tokens bs)) (Word (b ∷ []) ∷ tokens bs)) (Mark b ∷ tokens bs))) (b ∷ bs)
    by true word more p q r s = spelling-blank b (tokens bs) bs p s
    by false true true p q r s = spelling-extended b (tokens bs) bs q r s
    by false true false p q r s = ([], bs, refl, (omega arith, and_from (is_word_byte b) true q refl), r, refl, s)
    by false false more p q r s = ([], bs, refl, mark b p q, refl, s)

-- A text reads as a type exactly where the grammar says so.
grammar-from : (text : List ℕ) (ty : ElementType) → type_of text ≡ Some ty → IsTypeText text ty
unfolding type_of
grammar-from text ty e =
    let read = cond-both (nat_le (length text) 4096) (within_limit (type_of_tokens (tokens text))) ty e in
    let found = and_then-some (λ ty. cond (nat_le (length (printed_type ty)) 4096) (Some ty) None)
    (type_of_tokens (tokens text)) ty read.1 in
    let fits = cond-some (nat_le (length (printed_type found.0)) 4096) found.0 ty found.2 in
    let short : nat_le (length (printed_type ty)) 4096 ≡ true =
    subst (λ ty. nat_le (length (printed_type ty)) 4096 ≡ true) fits.1 fits.0 in (
      leb-true (length text) 4096 read.0,
      leb-true (length (printed_type ty)) 4096 short,
      (tokens text, spelling-tokens text, found.1 ∙ ap Some fits.1),
    )

grammar-to : (text : List ℕ) (ty : ElementType) → IsTypeText text ty → type_of text ≡ Some ty
unfolding type_of
grammar-to text ty g =
    let same = tokens-spelled g.2.0 text g.2.1 in
    rw (le-leb (length text) 4096 g.0, same, g.2.2, le-leb (length (printed_type ty)) 4096 g.1) refl

pub type_of-grammar : (text : List ℕ) (ty : ElementType) → (type_of text ≡ Some ty) ↔ IsTypeText text ty
type_of-grammar text ty = (grammar-from text ty, grammar-to text ty)
