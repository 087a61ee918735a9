-- The tokens at the front of a text.
use Rattle.std.proofs.Common.{◌≡◌, ℕ, zero, suc, ◌+◌, ◌<◌, ◌≤◌, Bool, true, false, cond, eqb, List, [], ◌∷◌, length}
use Rattle.std.proofs.Common.{get_or, take, drop, Some, None, refl, sym, ◌∙◌, ap, arith, drop-cons, add-one, eq-eqb}
use Rattle.std.proofs.lemmas.Bool.Decides.{nat_tests}
use Rattle.type_text.specs.Tokens.{Token, Word, Mark, tokens, extended, is_blank, is_word_byte, is_mark, begins_word}
use Rattle.type_text.specs.Steps.{first_word, after_mark, no_token, begins_blank}

-- a byte of a word is no blank
pub blank-word_byte : (b : ℕ) → is_word_byte b ≡ true → is_blank b ≡ false
blank-word_byte b h = grind (arith, nat_tests)

-- a blank in front changes no token
pub tokens-blank : (b : ℕ) (bs : List ℕ) → is_blank b ≡ true → tokens (b ∷ bs) ≡ tokens bs
unfolding tokens
tokens-blank b bs h = rw h refl

pub tokens-blank_more : (bs : List ℕ) (i : ℕ) → i < length bs → is_blank (get_or bs i 0) ≡ true
    → tokens (drop (i + 1) bs) ≡ tokens (drop i bs)
tokens-blank_more bs i h blank =
    rw (add-one, drop-cons bs i 0) (sym (tokens-blank (get_or bs i 0) (drop (suc i) bs) blank))

-- a last byte of a word
pub tokens-word_end : (b : ℕ) (bs : List ℕ) → is_word_byte b ≡ true → begins_word bs ≡ false
    → tokens (b ∷ bs) ≡ Word (b ∷ []) ∷ tokens bs
unfolding tokens
tokens-word_end b bs h end = rw (blank-word_byte b h, h, end) refl

-- a byte of a word that goes on
pub tokens-word_more : (b : ℕ) (bs : List ℕ) → is_word_byte b ≡ true → begins_word bs ≡ true
    → tokens (b ∷ bs) ≡ extended b (tokens bs)
unfolding tokens
tokens-word_more b bs h more = rw (blank-word_byte b h, h, more) refl

-- a longest run of bytes of a word is the first token
pub tokens-word : (n : ℕ) (bs : List ℕ) → 0 < n → n ≤ length bs
    → ((k : ℕ) → k < n → is_word_byte (get_or bs k 0) ≡ true) → begins_word (drop n bs) ≡ false
    → tokens bs ≡ Word (take n bs) ∷ tokens (drop n bs)
tokens-word zero bs pos fits run end = absurd (omega arith)
tokens-word (suc n) [] pos fits run end = absurd (omega arith)
tokens-word (suc zero) (b ∷ bs) pos fits run end = tokens-word_end b bs (run 0 (omega arith)) end
tokens-word (suc (suc n)) (b ∷ []) pos fits run end = absurd (omega arith)
tokens-word (suc (suc n)) (b ∷ c ∷ bs) pos fits run end =
    tokens-word_more b (c ∷ bs) (run 0 (omega arith)) (run 1 (omega arith))
    ∙ ap (extended b) (tokens-word (suc n) (c ∷ bs) (omega arith) (omega arith) (λ k h. run (suc k) (omega arith)) end)

-- a token of its own
pub tokens-mark : (b : ℕ) (bs : List ℕ) → is_blank b ≡ false → is_word_byte b ≡ false
    → tokens (b ∷ bs) ≡ Mark b ∷ tokens bs
unfolding tokens
tokens-mark b bs h w = rw (h, w) refl

-- where no byte of a word stands in front, no word does
pub first_word-none : (bs : List ℕ) → begins_blank bs ≡ false → begins_word bs ≡ false → first_word (tokens bs) ≡ None
unfolding tokens
first_word-none [] h w = refl
first_word-none (b ∷ bs) h w = ap first_word (tokens-mark b bs h w)

-- a byte of a word makes a word
extended-word : (m b : ℕ) (ts : List Token) → after_mark m (extended b ts) ≡ None
extended-word m b [] = refl
extended-word m b (Word w ∷ ts) = refl
extended-word m b (Mark k ∷ ts) = refl

after_mark-word_byte : (m b : ℕ) (bs : List ℕ) → is_word_byte b ≡ true → after_mark m (tokens (b ∷ bs)) ≡ None
after_mark-word_byte m b bs h = by (begins_word bs) refl
  where
    by : (e : Bool) → begins_word bs ≡ e → after_mark m (tokens (b ∷ bs)) ≡ None
    by true e = ap (after_mark m) (tokens-word_more b bs h e) ∙ extended-word m b (tokens bs)
    by false e = ap (after_mark m) (tokens-word_end b bs h e)

-- a mark is no byte of a word
word_byte-mark : (b m : ℕ) → is_mark m ≡ true → is_word_byte b ≡ true → eqb b m ≡ false
word_byte-mark b m h w = grind (arith, nat_tests)

pub after_mark-front : (m b : ℕ) (bs : List ℕ) → is_mark m ≡ true → is_blank b ≡ false
    → after_mark m (tokens (b ∷ bs)) ≡ cond (eqb b m) (Some (tokens bs)) None
after_mark-front m b bs mark blank = by (is_word_byte b) refl
  where
    by : (e : Bool) → is_word_byte b ≡ e → after_mark m (tokens (b ∷ bs)) ≡ cond (eqb b m) (Some (tokens bs)) None
    by true e = after_mark-word_byte m b bs e
        ∙ sym (ap (λ t. cond t (Some (tokens bs)) None) (word_byte-mark b m mark e))
    by false e = ap (after_mark m) (tokens-mark b bs blank e)

-- a byte that is no blank makes a token
extended-some : (b : ℕ) (ts : List Token) → extended b ts ≡ [] → ⊥
extended-some b [] e = cc
extended-some b (Word w ∷ ts) e = cc
extended-some b (Mark k ∷ ts) e = cc

tokens-some : (b : ℕ) (bs : List ℕ) → is_blank b ≡ false → tokens (b ∷ bs) ≡ [] → ⊥
tokens-some b bs blank none = by (is_word_byte b) (begins_word bs) refl refl
  where
    by : (w r : Bool) → is_word_byte b ≡ w → begins_word bs ≡ r → ⊥
    by true true e f = extended-some b (tokens bs) (sym (tokens-word_more b bs e f) ∙ none)
    by true false e f = let made = tokens-word_end b bs e f in cc
    by false r e f = let made = tokens-mark b bs blank e in cc

-- no token is left exactly where no byte is
pub no_token-nil : (bs : List ℕ) → bs ≡ [] → no_token (tokens bs) ≡ true
unfolding tokens
no_token-nil bs e = rw e refl

no_token-cons : (ts : List Token) → (ts ≡ [] → ⊥) → no_token ts ≡ false
no_token-cons [] h = absurd (h refl)
no_token-cons (t ∷ ts) h = refl

pub no_token-some : (bs : List ℕ) → begins_blank bs ≡ false → 0 < length bs → no_token (tokens bs) ≡ false
no_token-some [] h long = absurd (omega arith)
no_token-some (b ∷ bs) h long = no_token-cons (tokens (b ∷ bs)) (tokens-some b bs h)

-- a mark in front, by the first byte
mark-blank : (b m : ℕ) → is_mark m ≡ true → b ≡ m → is_blank b ≡ false
mark-blank b m h e = grind (arith, nat_tests)

eqb-other : (b m : ℕ) → ¬ (b ≡ m) → eqb b m ≡ false
eqb-other b m h = grind (arith, nat_tests)

pub after_mark-same : (m : ℕ) (bs : List ℕ) → is_mark m ≡ true → 0 < length bs → get_or bs 0 0 ≡ m
    → after_mark m (tokens bs) ≡ Some (tokens (drop 1 bs))
after_mark-same m [] mark long e = absurd (omega arith)
after_mark-same m (b ∷ bs) mark long e = after_mark-front m b bs mark (mark-blank b m mark e)
    ∙ ap (λ t. cond t (Some (tokens bs)) None) (eq-eqb b m e)

pub after_mark-other : (m : ℕ) (bs : List ℕ) → is_mark m ≡ true → begins_blank bs ≡ false → 0 < length bs
    → ¬ (get_or bs 0 0 ≡ m) → after_mark m (tokens bs) ≡ None
after_mark-other m [] mark blank long e = absurd (omega arith)
after_mark-other m (b ∷ bs) mark blank long e = after_mark-front m b bs mark blank
    ∙ ap (λ t. cond t (Some (tokens bs)) None) (eqb-other b m e)

pub after_mark-nil : (m : ℕ) (bs : List ℕ) → bs ≡ [] → after_mark m (tokens bs) ≡ None
unfolding tokens
after_mark-nil m bs e = rw e refl

pub ruleset skipping = (tokens-blank_more)

pub ruleset words = (tokens-word, first_word-none)

pub ruleset marks = (after_mark-same, after_mark-other, after_mark-nil)

pub ruleset ends = (no_token-nil, no_token-some)
