-- What is appended of numbers, texts and entries, byte for byte.
use Rattle.std.proofs.Common.{◌≡◌, ℕ, suc, ◌+◌, ◌<◌, ◌≤◌, List, [], ◌∷◌, ◌++◌, length, take, drop, get_or, min}
use Rattle.std.proofs.Common.{Result, Ok, Err, OnOk, refl, sym, ap, ◌∙◌, subst, arith, append_assoc, append-nil}
use Rattle.std.proofs.Common.{add-one, drop-cons}
use Rattle.std.specs.Result.{OkIff, result_unwrap_or}
use Rattle.std.proofs.lemmas.List.{drop_all}
use Rattle.std.proofs.lemmas.List.Elements.{All-take, All-drop}
use Rattle.std.proofs.Math.Seq.{drop-append_seam, take-append_seam}
use Rattle.scalar_types.specs.declared.Order.TheVariants.{Little}
use Rattle.scalar_types.specs.declared.Width.{Width}
use Rattle.scalar_types.specs.declared.Width.TheVariants.{Two, Four}
use Rattle.scalar_types.specs.Number.{little_bytes}
use Rattle.scalar_types.proofs.NumberBytes.{bytes_of-number}
use Rattle.record_values.specs.Spelling.{IsNumber}
use Rattle.dictionary.specs.declared.entries.Element.{Element}
use Rattle.dictionary.specs.declared.entries.Entry.{Entry}
use Rattle.layout_plan.specs.Appends.{Appends}
use Rattle.layout_plan.proofs.AppendLemmas.{Appends-more, Appends-as}
use Rattle.canonical_file.specs.Ranges.{IsByte, AreBytes}
use Rattle.canonical_file.specs.Bytes.{number_bytes, text_bytes, structure_bytes, four_zeros, head_body}
use Rattle.canonical_file.specs.Bytes.{element_body, elements_bytes, entry_bytes}
use Rattle.canonical_writer.specs.Parts.{IsShort, IsShortElement, IsShortEntry}

-- ---- bytes

-- what is appended to bytes is bytes, and what it is appended to
pub bytes-behind : {R : List ℕ → Type 0} (old new : List ℕ) (part : Appends R old new) → AreBytes new
    → AreBytes part.items
bytes-behind old new part bytes =
    subst AreBytes (ap (drop (length old)) part.whole ∙ drop-append_seam old part.items)
    (All-drop IsByte (length old) new bytes)

pub bytes-before : {R : List ℕ → Type 0} (old new : List ℕ) → Appends R old new → AreBytes new → AreBytes old
bytes-before old new part bytes =
    subst AreBytes (ap (take (length old)) part.whole ∙ take-append_seam old part.items)
    (All-take IsByte (length old) new bytes)

-- ---- numbers

pub number-appended : (width : Width) (n : ℕ) (old new : List ℕ) → AreBytes new
    → Appends (IsNumber Little width n) old new → Appends (λ bytes. bytes ≡ number_bytes width n) old new
number-appended width n old new bytes part = record {
  items = part.items;
  whole = part.whole;
  related = sym (bytes_of-number Little width part.items (bytes-behind old new part bytes) part.related.size)
      ∙ ap (number_bytes width) part.related.value;
}

-- where the end may be refused
pub number-last : {A E : Type 0} (r : Result A E) (width : Width) (n : ℕ) (old new : List ℕ) → AreBytes new
    → Appends (λ bytes. OnOk r (IsNumber Little width n bytes)) old new
    → Appends (λ bytes. OnOk r (bytes ≡ number_bytes width n)) old new
number-last (Ok x) width n old new bytes part = number-appended width n old new bytes part
number-last (Err x) width n old new bytes part = Appends-as (λ xs. Unit {0}) (λ xs. Unit {0}) old new part (λ xs t. tt)

zeros-are : number_bytes Four 0 ≡ four_zeros
unfolding little_bytes
zeros-are = refl

-- ---- texts

-- a text is appended, where it is short
abbrev pub IsTextOf : List ℕ → List ℕ → Type 0
IsTextOf text bytes = IsShort text → bytes ≡ text_bytes text

pub text-as : (text own old new : List ℕ) → text ≡ own → Appends (IsTextOf text) old new
    → Appends (IsTextOf own) old new
text-as text own old new same part = subst (λ text. Appends (IsTextOf text) old new) same part

-- the length that is written of a short text
pub size-written : {E : Type 0} (tried : Result ℕ E) (size found n : ℕ) → OkIff tried (size < 65536) size
    → found ≡ result_unwrap_or tried 0 → n ≡ min (found + 1) 65535 → size ≤ 65534 → n ≡ size + 1
size-written (Ok x) size found n is same sum short = omega (arith, is.1, same, sum)
size-written (Err x) size found n is same sum short = absurd (is (omega arith))

pub text-appended : (text old mid next new : List ℕ) (n : ℕ) → AreBytes new
    → (IsShort text → n ≡ length text + 1) → Appends (IsNumber Little Two n) old mid → next ≡ mid ++ text
    → new ≡ next ++ 0 ∷ [] → Appends (IsTextOf text) old new
text-appended text old mid next new n bytes size part more last =
    let whole : new ≡ mid ++ (text ++ 0 ∷ []) = last ∙ ap (λ xs. xs ++ 0 ∷ []) more ∙ append_assoc mid text (0 ∷ []) in
    let rest : Appends (λ xs. xs ≡ text ++ 0 ∷ []) mid new =
    record { items = text ++ 0 ∷ []; whole = whole; related = refl } in
    let front = number-appended Two n old mid (bytes-before mid new rest bytes) part in
    Appends-more (λ xs. xs ≡ number_bytes Two n) (λ xs. xs ≡ text ++ 0 ∷ []) (IsTextOf text) old mid new front rest
    (λ xs ys first second short.
    (λ i. first i ++ second i)
    ∙ ap (λ n. number_bytes Two n ++ (text ++ 0 ∷ [])) (size short)
    ∙ sym (append_assoc (number_bytes Two (length text + 1)) text (0 ∷ [])))

-- ---- the bodies of FrSH and FrSE

-- three parts and the zero bytes at the end, which may be refused
zeros-last : {A E : Type 0} (r : Result A E) (P Q R S : List ℕ → Type 0) (old a b c new : List ℕ) → AreBytes new
    → Appends P old a → Appends Q a b → Appends R b c → Appends (λ bytes. OnOk r (IsNumber Little Four 0 bytes)) c new
    → ((xs ys zs : List ℕ) → P xs → Q ys → R zs → S (((xs ++ ys) ++ zs) ++ four_zeros))
    → Appends (λ bytes. OnOk r (S bytes)) old new
zeros-last r P Q R S old a b c new bytes one two three last all =
    by r (Appends-more Both R Three old b c
    (Appends-more P Q Both old a b one two (λ xs ys p q. (xs, ys, refl, p, q))) three
    (λ xs zs both r. (both.0, both.1, zs, ap (λ xs. xs ++ zs) both.2, both.3, both.4, r))) last
  where
    Both : List ℕ → Type 0
    Both bytes = (xs ys : List ℕ) × (bytes ≡ xs ++ ys) × P xs × Q ys

    Three : List ℕ → Type 0
    Three bytes = (xs ys zs : List ℕ) × (bytes ≡ (xs ++ ys) ++ zs) × P xs × Q ys × R zs

    by : {A E : Type 0} (r : Result A E) → Appends Three old c
        → Appends (λ bytes. OnOk r (IsNumber Little Four 0 bytes)) c new → Appends (λ bytes. OnOk r (S bytes)) old new
    by (Ok x) front last =
        Appends-more Three (λ bytes. bytes ≡ number_bytes Four 0) S old c new front
        (number-appended Four 0 c new bytes last)
        (λ front zeros h is.
        subst S ((λ i. sym h.3 i ++ sym (is ∙ zeros-are) i)) (all h.0 h.1 h.2 h.4 h.5 h.6))
    by (Err x) front last =
        Appends-more Three (λ bytes. Unit {0}) (λ bytes. Unit {0}) old c new front last (λ xs ys h t. tt)

pub head-appended : {A E : Type 0} (r : Result A E) (e : Entry) (old a b c new : List ℕ) → AreBytes new
    → Appends (IsTextOf e.name) old a → Appends (IsNumber Little Two e.class) a b → Appends (IsTextOf e.comment) b c
    → Appends (λ bytes. OnOk r (IsNumber Little Four 0 bytes)) c new
    → Appends (λ bytes. OnOk r (IsShortEntry e → bytes ≡ head_body e)) old new
head-appended r e old a b c new bytes name class comment last =
    zeros-last r (IsTextOf e.name) (λ ys. ys ≡ number_bytes Two e.class) (IsTextOf e.comment)
    (λ bytes. IsShortEntry e → bytes ≡ head_body e) old a b c new bytes name
    (number-appended Two e.class a b (bytes-before b c comment (bytes-before c new last bytes)) class) comment last
    (λ xs ys zs p q t short.
    (λ i. ((p short.name i ++ q i) ++ t short.comment i) ++ four_zeros) ∙ simp (append_assoc, append-nil))

pub element-appended : {A E : Type 0} (r : Result A E) (e : Element) (old a b c new : List ℕ) → AreBytes new
    → Appends (IsTextOf e.name) old a → Appends (IsTextOf e.text) a b → Appends (IsTextOf e.comment) b c
    → Appends (λ bytes. OnOk r (IsNumber Little Four 0 bytes)) c new
    → Appends (λ bytes. OnOk r (IsShortElement e → bytes ≡ element_body e)) old new
element-appended r e old a b c new bytes name text comment last =
    zeros-last r (IsTextOf e.name) (IsTextOf e.text) (IsTextOf e.comment)
    (λ bytes. IsShortElement e → bytes ≡ element_body e) old a b c new bytes name text comment last
    (λ xs ys zs p q t short.
    (λ i. ((p short.name i ++ q short.text i) ++ t short.comment i) ++ four_zeros) ∙ simp (append_assoc, append-nil))

-- ---- an entry

-- The bytes are those of an entry before its element of this number.
abbrev pub IsEntryBefore : ℕ → Entry → ℕ → List ℕ → Type 0
IsEntryBefore number e k bytes = IsShortEntry e → bytes ++ elements_bytes k (drop k e.elements) ≡ entry_bytes number e

pub entry-more : (number : ℕ) (e : Entry) (k : ℕ) (x : Element) (xs ys : List ℕ) → k < length e.elements
    → x ≡ get_or e.elements k x → IsEntryBefore number e k xs
    → (IsShortElement x → ys ≡ structure_bytes 2 k (element_body x)) → IsEntryBefore number e (k + 1) (xs ++ ys)
entry-more number e k x xs ys within is before here short =
    let rest = elements_bytes (k + 1) (drop (k + 1) e.elements) in
    let one : drop k e.elements ≡ x ∷ drop (k + 1) e.elements = drop-cons e.elements k x within
    ∙ ap (λ y. y ∷ drop (suc k) e.elements) (sym is) ∙ ap (λ i. x ∷ drop i e.elements) (sym (add-one k)) in
    append_assoc xs ys rest
    ∙ ap (λ ys. xs ++ (ys ++ rest)) (here (subst IsShortElement (sym is) (short.elements k x within)))
    ∙ ap (λ es. xs ++ elements_bytes k es) (sym one) ∙ before short

pub entry-all : (number : ℕ) (e : Entry) (k : ℕ) (xs : List ℕ) → length e.elements ≤ k → IsEntryBefore number e k xs
    → IsShortEntry e → xs ≡ entry_bytes number e
entry-all number e k xs all before short =
    sym (append-nil xs) ∙ ap (λ es. xs ++ elements_bytes k es) (sym (drop_all k e.elements all)) ∙ before short
