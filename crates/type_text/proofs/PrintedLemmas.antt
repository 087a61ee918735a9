-- A printed text reads as the type that it was printed from.
use Rattle.std.proofs.Common.{◌≡◌, ℕ, ◌<◌, ◌≤◌, Bool, true, false, not, cond, ◌&&◌, eqb, nat_le, nat_lt, List, [], ◌∷◌}
use Rattle.std.proofs.Common.{◌++◌, length, Some, None, option_and_then, codes, refl, sym, ◌∙◌, ap, subst, arith}
use Rattle.std.proofs.Common.{append_assoc, le-leb}
use Rattle.std.specs.Bool.{⊤}
use Rattle.std.proofs.lemmas.Bool.Decides.{nat_tests}
use Rattle.std.proofs.lemmas.Bool.{and_parts, and_from, leb-true, ltb-true}
use Rattle.std.proofs.lemmas.Option.{same_Some}
use Rattle.std.proofs.lemmas.Fmt.{decimal_is_IsNumeral}
use Rattle.std.specs.Fmt.{decimal}
use Rattle.std.specs.Option.{option_map}
use Rattle.std.specs.List.{flat_map, AllByRecursion, list_all}
use Rattle.std.specs.Str.{bytes_eq, all_ascii_digits}
use Rattle.std.specs.Str.Parse.{digits_value, AllDigits}
use Rattle.std.specs.Char.{is_ascii_digit, digit_value}
use Rattle.type_text.specs.declared.types.Base.{Base}
use Rattle.type_text.specs.declared.types.Base.TheVariants.{Ptr}
use Rattle.type_text.specs.declared.types.Dim.{Dim}
use Rattle.type_text.specs.declared.types.Dim.TheVariants.{Numeral, Named}
use Rattle.type_text.specs.declared.types.ElementType.{ElementType}
use Rattle.type_text.specs.Tokens.{Token, Word, Mark, tokens, extended, begins_word, is_blank, is_word_byte}
use Rattle.type_text.specs.TypeText.{type_of, type_of_tokens, within_limit, printed_type, base_text, dim_text, base_of}
use Rattle.type_text.specs.TypeText.{plain_bases, word_of, dims_of, dim_of, with_dim, pointed_of, base_in_front}
use Rattle.type_text.specs.TypeText.{with_dims, numeral_of, is_name, IsType}
use Rattle.type_text.proofs.FoundLemmas.{cond-some, cond-both, and_then-some, map-some, find-some}
use Rattle.type_text.proofs.TokenLemmas.{tokens-word_end, tokens-word_more}

-- the words among the tokens of a text have bytes of words
abbrev pub AreWords : List Token → Type 0
AreWords [] = ⊤
AreWords (Word w ∷ ts) = (list_all is_word_byte w ≡ true) × AreWords ts
AreWords (Mark b ∷ ts) = AreWords ts

AreWords-extended : (b : ℕ) (ts : List Token) → is_word_byte b ≡ true → AreWords ts → AreWords (extended b ts)
AreWords-extended b [] h all = (and_from (is_word_byte b) true h refl, tt)
AreWords-extended b (Word w ∷ ts) h all = (and_from (is_word_byte b) (list_all is_word_byte w) h all.0, all.1)
AreWords-extended b (Mark k ∷ ts) h all = (and_from (is_word_byte b) true h refl, all)

pub AreWords-tokens : (text : List ℕ) → AreWords (tokens text)
unfolding tokens
AreWords-tokens [] = tt
AreWords-tokens (b ∷ bs) = by (is_blank b) (is_word_byte b) (begins_word bs) refl (AreWords-tokens bs)
  where
    by : (blank word more : Bool) → is_word_byte b ≡ word → AreWords (tokens bs)
        → AreWords (cond blank (tokens bs)
        (cond word (cond more (extended b (tokens bs)) (Word (b ∷ []) ∷ tokens bs)) (Mark b ∷ tokens bs)))
    by true word more h rest = rest
    by false true true h rest = AreWords-extended b (tokens bs) h rest
    by false true false h rest = (and_from (is_word_byte b) true h refl, rest)
    by false false more h rest = rest

-- a name, and a dimension that a text may have
abbrev pub IsName : List ℕ → Type 0
IsName w = (is_name w ≡ true) × (list_all is_word_byte w ≡ true)

abbrev pub IsDim : Dim → Type 0
IsDim (Numeral n) = n ≤ 4294967295
IsDim (Named w) = IsName w

numeral_of-fits : (w : List ℕ) (n : ℕ) → numeral_of w ≡ Some n → n ≤ 4294967295
numeral_of-fits w n e =
    let found = cond-some (all_ascii_digits w && nat_le (digits_value 10 w) 4294967295) (digits_value 10 w) n e in
    let tests = and_parts (all_ascii_digits w) (nat_le (digits_value 10 w) 4294967295) found.0 in
    omega (arith, found.1, leb-true (digits_value 10 w) 4294967295 tests.1)

IsDim-from_dim_of : (w : List ℕ) (d : Dim) → list_all is_word_byte w ≡ true → dim_of w ≡ Some d → IsDim d
IsDim-from_dim_of w d bytes e = by (is_name w) refl e
  where
    by : (b : Bool) → is_name w ≡ b → cond b (Some (Named w)) (option_map Numeral (numeral_of w)) ≡ Some d → IsDim d
    by true name e = let same : Named w ≡ d = cc in subst IsDim same (name, bytes)
    by false name e =
        let found = map-some Numeral (numeral_of w) d e in
        subst IsDim found.2 (numeral_of-fits w found.0 found.1)

dims-from_dims_of : (ts : List Token) (ds : List Dim) → AreWords ts → dims_of ts ≡ Some ds → AllByRecursion IsDim ds
unfolding dims_of
dims-from_dims_of [] ds all e = let same : [] ≡ ds = cc in subst (AllByRecursion IsDim) same tt
dims-from_dims_of (Word w ∷ ts) ds all e = cc
dims-from_dims_of (Mark l ∷ []) ds all e = cc
dims-from_dims_of (Mark l ∷ Mark m ∷ ts) ds all e = cc
dims-from_dims_of (Mark l ∷ Word w ∷ []) ds all e = cc
dims-from_dims_of (Mark l ∷ Word w ∷ Word v ∷ ts) ds all e = cc
dims-from_dims_of (Mark l ∷ Word w ∷ Mark r ∷ ts) ds all e =
    let read = cond-both (eqb l 91 && eqb r 93) (with_dim (dim_of w) (dims_of ts)) ds e in
    let dim = and_then-some (λ d. option_map (λ ds. d ∷ ds) (dims_of ts)) (dim_of w) ds read.1 in
    let dims = map-some (λ ds. dim.0 ∷ ds) (dims_of ts) ds dim.2 in
    subst (AllByRecursion IsDim) dims.2 (
      IsDim-from_dim_of w dim.0 all.0 dim.1,
      dims-from_dims_of ts dims.0 all.1 dims.1,
    )

-- what each base has that a word names
record IsPlain (base : Base) : Type 0 where
  text : base_text base ≡ word_of base
  found : base_of (word_of base) ≡ Some base
  other : bytes_eq (word_of base) (codes "PTR_STRUCT") ≡ false
  bytes : list_all is_word_byte (word_of base) ≡ true
  long : nat_lt 0 (length (word_of base)) ≡ true

all_plain : AllByRecursion IsPlain plain_bases
unfolding plain_bases base_of
all_plain = (
  record { text = refl; found = refl; other = refl; bytes = refl; long = refl },
  (
    record { text = refl; found = refl; other = refl; bytes = refl; long = refl },
    (
      record { text = refl; found = refl; other = refl; bytes = refl; long = refl },
      (
        record { text = refl; found = refl; other = refl; bytes = refl; long = refl },
        (
          record { text = refl; found = refl; other = refl; bytes = refl; long = refl },
          (
            record { text = refl; found = refl; other = refl; bytes = refl; long = refl },
            (
              record { text = refl; found = refl; other = refl; bytes = refl; long = refl },
              (
                record { text = refl; found = refl; other = refl; bytes = refl; long = refl },
                (
                  record { text = refl; found = refl; other = refl; bytes = refl; long = refl },
                  (
                    record { text = refl; found = refl; other = refl; bytes = refl; long = refl },
                    (
                      record { text = refl; found = refl; other = refl; bytes = refl; long = refl },
                      (
                        record { text = refl; found = refl; other = refl; bytes = refl; long = refl },
                        (
                          record { text = refl; found = refl; other = refl; bytes = refl; long = refl },
                          (
                            record { text = refl; found = refl; other = refl; bytes = refl; long = refl },
                            (record { text = refl; found = refl; other = refl; bytes = refl; long = refl }, tt),
                          ),
                        ),
                      ),
                    ),
                  ),
                ),
              ),
            ),
          ),
        ),
      ),
    ),
  ),
)

IsPlain-found : (w : List ℕ) (base : Base) → base_of w ≡ Some base → IsPlain base
unfolding base_of
IsPlain-found w base e = find-some (λ base. bytes_eq (word_of base) w) IsPlain plain_bases base all_plain e

-- The tokens of a printed text.
pub tokens-word_append : (w rest : List ℕ) → 0 < length w → list_all is_word_byte w ≡ true → begins_word rest ≡ false
    → tokens (w ++ rest) ≡ Word w ∷ tokens rest
tokens-word_append [] rest long bytes end = absurd (omega arith)
tokens-word_append (b ∷ []) rest long bytes end = tokens-word_end b rest (and_parts (is_word_byte b) true bytes).0 end
tokens-word_append (b ∷ c ∷ w) rest long bytes end =
    let first = and_parts (is_word_byte b) (list_all is_word_byte (c ∷ w)) bytes in
    let second = and_parts (is_word_byte c) (list_all is_word_byte w) first.1 in
    tokens-word_more b (c ∷ w ++ rest) first.0 second.0
    ∙ ap (extended b) (tokens-word_append (c ∷ w) rest (omega arith) first.1 end)

-- decimal digits
digits-test : (ds : List ℕ) → AllDigits 10 ds → (all_ascii_digits ds ≡ true) × (list_all is_word_byte ds ≡ true)
digits-test [] all = (refl, refl)
digits-test (c ∷ cs) all =
    let rest = digits-test cs all.1 in (
      and_from (is_ascii_digit c) (all_ascii_digits cs) (digit c all.0) rest.0,
      and_from (is_word_byte c) (list_all is_word_byte cs) (word c all.0) rest.1,
    )
  where
    digit : (c : ℕ) → digit_value c < 10 → is_ascii_digit c ≡ true
    digit c h = grind (arith, nat_tests)

    word : (c : ℕ) → digit_value c < 10 → is_word_byte c ≡ true
    word c h = grind (arith, nat_tests)

digits-no_name : (ds : List ℕ) → 0 < length ds → all_ascii_digits ds ≡ true → is_name ds ≡ false
digits-no_name [] long all = refl
digits-no_name (c ∷ cs) long all = ap not (and_parts (is_ascii_digit c) (all_ascii_digits cs) all).0

-- the word of a dimension in brackets
abbrev dim_word : Dim → List ℕ
dim_word (Numeral n) = decimal n
dim_word (Named w) = w

dim_text-word : (d : Dim) → dim_text d ≡ 91 ∷ dim_word d ++ 93 ∷ []
dim_text-word (Numeral n) = refl
dim_text-word (Named w) = refl

numeral_of-decimal : (n : ℕ) → n ≤ 4294967295 → numeral_of (decimal n) ≡ Some n
numeral_of-decimal n fits =
    let numeral = decimal_is_IsNumeral n (omega arith) in
    rw ((digits-test (decimal n) numeral.0.1).0, numeral.1, le-leb n 4294967295 fits) refl

dim_of-word : (d : Dim) → IsDim d → dim_of (dim_word d) ≡ Some d
dim_of-word (Named w) name = rw name.0 refl
dim_of-word (Numeral n) fits =
    let numeral = decimal_is_IsNumeral n (omega arith) in
    rw (digits-no_name (decimal n) numeral.0.0 (digits-test (decimal n) numeral.0.1).0, numeral_of-decimal n fits) refl

is_name-long : (w : List ℕ) → is_name w ≡ true → 0 < length w
is_name-long [] e = cc
is_name-long (b ∷ w) e = omega arith

word-dim : (d : Dim) → IsDim d → (0 < length (dim_word d)) × (list_all is_word_byte (dim_word d) ≡ true)
word-dim (Named w) name = (is_name-long w name.0, name.1)
word-dim (Numeral n) fits =
    let numeral = decimal_is_IsNumeral n (omega arith) in
    (numeral.0.0, (digits-test (decimal n) numeral.0.1).1)

abbrev dims_tokens : List Dim → List Token
dims_tokens [] = []
dims_tokens (d ∷ ds) = Mark 91 ∷ Word (dim_word d) ∷ Mark 93 ∷ dims_tokens ds

tokens-bracket : (w rest : List ℕ) → 0 < length w → list_all is_word_byte w ≡ true
    → tokens ((91 ∷ w ++ 93 ∷ []) ++ rest) ≡ Mark 91 ∷ Word w ∷ Mark 93 ∷ tokens rest
unfolding tokens
tokens-bracket w rest long bytes =
    ap (λ bs. Mark 91 ∷ tokens bs) (append_assoc w (93 ∷ []) rest)
    ∙ ap (λ ts. Mark 91 ∷ ts) (tokens-word_append w (93 ∷ rest) long bytes refl)

tokens-dims : (ds : List Dim) → AllByRecursion IsDim ds → tokens (flat_map dim_text ds) ≡ dims_tokens ds
unfolding tokens
tokens-dims [] all = refl
tokens-dims (d ∷ ds) all =
    let word = word-dim d all.0 in
    ap (λ text. tokens (text ++ flat_map dim_text ds)) (dim_text-word d)
    ∙ tokens-bracket (dim_word d) (flat_map dim_text ds) word.0 word.1
    ∙ ap (λ ts. Mark 91 ∷ Word (dim_word d) ∷ Mark 93 ∷ ts) (tokens-dims ds all.1)

begins_word-dims : (ds : List Dim) → begins_word (flat_map dim_text ds) ≡ false
begins_word-dims [] = refl
begins_word-dims (d ∷ ds) = ap (λ text. begins_word (text ++ flat_map dim_text ds)) (dim_text-word d)

dims_of-tokens : (ds : List Dim) → AllByRecursion IsDim ds → dims_of (dims_tokens ds) ≡ Some ds
unfolding dims_of
dims_of-tokens [] all = refl
dims_of-tokens (d ∷ ds) all = rw (dim_of-word d all.0, dims_of-tokens ds all.1) refl

-- the base in front of the printed text
plain-front : (base : Base) (ds : List Dim) → IsPlain base → AllByRecursion IsDim ds
    → base_in_front (tokens (printed_type (record { base = base; dims = ds }))) ≡ Some (base, dims_tokens ds)
unfolding printed_type base_in_front
plain-front base ds plain all =
    ap (λ text. base_in_front (tokens (text ++ flat_map dim_text ds))) plain.text
    ∙ ap base_in_front (tokens-word_append (word_of base) (flat_map dim_text ds)
    (ltb-true 0 (length (word_of base)) plain.long) plain.bytes (begins_word-dims ds)
    ∙ ap (λ ts. Word (word_of base) ∷ ts) (tokens-dims ds all))
    ∙ rw (plain.other, plain.found) refl

tokens-pointer : (to : List ℕ) (ds : List Dim) → IsName to → AllByRecursion IsDim ds
    → tokens (printed_type (record { base = Ptr to; dims = ds }))
    ≡ Word (codes "PTR_STRUCT") ∷ Mark 40 ∷ Word to ∷ Mark 42
    ∷ Mark 41 ∷ dims_tokens ds
unfolding printed_type tokens
tokens-pointer to ds name all =
    tokens-word_append (codes "PTR_STRUCT") (40 ∷ ((to ++ codes " *)") ++ flat_map dim_text ds)) (omega arith) refl refl
    ∙ ap (λ text. Word (codes "PTR_STRUCT") ∷ Mark 40 ∷ tokens text)
    (append_assoc to (codes " *)") (flat_map dim_text ds))
    ∙ ap (λ ts. Word (codes "PTR_STRUCT") ∷ Mark 40 ∷ ts)
    (tokens-word_append to (codes " *)" ++ flat_map dim_text ds) (is_name-long to name.0) name.1 refl)
    ∙ ap (λ ts. Word (codes "PTR_STRUCT") ∷ Mark 40 ∷ Word to ∷ Mark 42 ∷ Mark 41 ∷ ts) (tokens-dims ds all)

pointer-front : (to : List ℕ) (ds : List Dim) → IsName to → AllByRecursion IsDim ds
    → base_in_front (tokens (printed_type (record { base = Ptr to; dims = ds }))) ≡ Some (Ptr to, dims_tokens ds)
unfolding base_in_front pointed_of
pointer-front to ds name all = ap base_in_front (tokens-pointer to ds name all) ∙ rw name.0 refl

pointed_of-name : (ts : List Token) (found : List ℕ × List Token) → AreWords ts → pointed_of ts ≡ Some found
    → IsName found.0 × AreWords found.1
unfolding pointed_of
pointed_of-name [] found all e = cc
pointed_of-name (Word w ∷ ts) found all e = cc
pointed_of-name (Mark l ∷ []) found all e = cc
pointed_of-name (Mark l ∷ Mark m ∷ ts) found all e = cc
pointed_of-name (Mark l ∷ Word w ∷ []) found all e = cc
pointed_of-name (Mark l ∷ Word w ∷ Word v ∷ ts) found all e = cc
pointed_of-name (Mark l ∷ Word w ∷ Mark s ∷ []) found all e = cc
pointed_of-name (Mark l ∷ Word w ∷ Mark s ∷ Word v ∷ ts) found all e = cc
pointed_of-name (Mark l ∷ Word w ∷ Mark s ∷ Mark r ∷ ts) found all e =
    let picked = cond-some (((eqb l 40 && eqb s 42) && eqb r 41) && is_name w) (w, ts) found e in
    let tests = and_parts ((eqb l 40 && eqb s 42) && eqb r 41) (is_name w) picked.0 in
    subst (λ (found : List ℕ × List Token). IsName found.0 × AreWords found.1) picked.1 ((tests.1, all.0), all.1)

-- the printed text of each type with a base that was read has that base in front, and its dimensions behind
abbrev ReadsAgain : Base × List Token → Type 0
ReadsAgain found =
    AreWords found.1 × ((ds : List Dim) → AllByRecursion IsDim ds
    → base_in_front (tokens (printed_type (record { base = found.0; dims = ds }))) ≡ Some (found.0, dims_tokens ds))

base-again : (ts : List Token) (found : Base × List Token) → AreWords ts → base_in_front ts ≡ Some found
    → ReadsAgain found
unfolding base_in_front
base-again [] found all e = cc
base-again (Mark k ∷ ts) found all e = cc
base-again (Word w ∷ ts) found all e = by (bytes_eq w (codes "PTR_STRUCT")) e
  where
    by : (b : Bool) → cond b (option_map (λ (f : List ℕ × List Token). (Ptr f.0, f.1)) (pointed_of ts))
        (option_map (λ base. (base, ts)) (base_of w)) ≡ Some found → ReadsAgain found
    by true e =
        let to = map-some (λ (f : List ℕ × List Token). (Ptr f.0, f.1)) (pointed_of ts) found e in
        let name = pointed_of-name ts to.0 all.1 to.1 in
        subst ReadsAgain to.2 (name.1, λ ds dims. pointer-front to.0.0 ds name.0 dims)
    by false e =
        let base = map-some (λ base. (base, ts)) (base_of w) found e in
        subst ReadsAgain base.2 (all.1, λ ds dims. plain-front base.0 ds (IsPlain-found w base.0 base.1) dims)

tokens-read : (ts : List Token) (ty : ElementType) → AreWords ts → type_of_tokens ts ≡ Some ty
    → type_of_tokens (tokens (printed_type ty)) ≡ Some ty
unfolding type_of_tokens
tokens-read ts ty all e =
    let found = and_then-some with_dims (base_in_front ts) ty e in
    let again = base-again ts found.0 all found.1 in
    let dims = map-some (λ dims. record { base = found.0.0; dims = dims }) (dims_of found.0.1) ty found.2 in
    let sound = dims-from_dims_of found.0.1 dims.0 again.0 dims.1 in
    subst (λ ty. option_and_then with_dims (base_in_front (tokens (printed_type ty))) ≡ Some ty) dims.2
    (ap (option_and_then with_dims) (again.1 dims.0 sound)
    ∙ ap (option_map (λ dims. record { base = found.0.0; dims = dims })) (dims_of-tokens dims.0 sound))

-- A printed text is a type, and reads as the type that it was printed from.
pub printed-read : (ty : ElementType) → IsType ty → type_of (printed_type ty) ≡ Some ty
unfolding type_of
printed-read ty is =
    let text = is.0 in
    let read = (cond-both (nat_le (length text) 4096) (within_limit (type_of_tokens (tokens text))) ty is.1).1 in
    let found = and_then-some (λ ty. cond (nat_le (length (printed_type ty)) 4096) (Some ty) None)
    (type_of_tokens (tokens text)) ty read in
    let fits = cond-some (nat_le (length (printed_type found.0)) 4096) found.0 ty found.2 in
    let short : nat_le (length (printed_type ty)) 4096 ≡ true =
    subst (λ ty. nat_le (length (printed_type ty)) 4096 ≡ true) fits.1 fits.0 in
    let again = tokens-read (tokens text) ty (AreWords-tokens text) (found.1 ∙ ap Some fits.1) in
    rw (short, again, short) refl

-- Types with equal printed texts are equal.
pub same_from_printed : (a b : ElementType) → IsType a → IsType b → printed_type a ≡ printed_type b → a ≡ b
same_from_printed a b left right same =
    same_Some a b (sym (printed-read a left) ∙ ap type_of same ∙ printed-read b right)

pub ruleset reading = (printed-read)
