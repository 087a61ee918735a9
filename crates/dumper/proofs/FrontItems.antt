-- The item at the front of some bytes: its value, and the bytes that spell it.
use Rattle.std.proofs.Common.{◌≡◌, ℕ, ◌-◌, ◌<◌, ◌≤◌, List, [], ◌∷◌, ◌++◌, length, take, drop, refl, sym, ap}
use Rattle.std.proofs.Common.{◌∙◌, subst, inl, inr, arith, append_assoc, append-nil}
use Rattle.std.proofs.lemmas.List.{length-append, take_at, drop_at}
use Rattle.scalar_types.specs.declared.Order.{Order}
use Rattle.scalar_types.specs.Number.{number}
use Rattle.type_text.specs.declared.types.Link.{Link as StructLink}
use Rattle.record_values.specs.declared.values.Value.{Value}
use Rattle.record_values.specs.declared.values.Value.TheVariants as value
use Rattle.record_values.specs.Spelling.{IsText, IsLink}
use Rattle.layout_plan.specs.declared.fields.Form.{Form}
use Rattle.layout_plan.specs.declared.fields.Form.TheVariants.{Number, Pair, Text, Link}
use Rattle.layout_plan.specs.Body.{IsSingle}
use Rattle.layout_plan.proofs.RespelledLemmas.{size-low, text-low}
use Rattle.dumper.specs.Spans.{IsTextSpan}
use Rattle.dumper.specs.Items.{BeginsItem, OfItem, text_between, first_link}

-- the item at the front is this value, and so many bytes spell it
abbrev pub IsFirst : Order → Form → List ℕ → Value → ℕ → Type 0
IsFirst order form bytes w size = OfItem order form bytes (λ v long. (size ≡ long) × (w ≡ v))

-- what holds of that value holds of the item
pub first-has : (order : Order) (form : Form) (bytes : List ℕ) (w : Value) (size : ℕ) (P : Value → Type 0)
    → IsFirst order form bytes w size → P w → OfItem order form bytes (λ v long. (size ≡ long) × P v)
first-has order form bytes w size P first holds v front rest split s =
    let here = first v front rest split s in
    (here.0, subst P here.1 holds)

-- the text of a spelling stands between its length and its closing byte
between : (order : Order) (text front : List ℕ) → IsText order text front → text_between front ≡ text
between order text front (inl s) =
    let whole : front ≡ s.front ++ (text ++ 0 ∷ []) = s.split ∙ append_assoc s.front text (0 ∷ []) in
    let long : length front - 3 ≡ length text =
    omega (
      arith,
      ap length whole ∙ length-append s.front (text ++ 0 ∷ []),
      length-append text (0 ∷ []),
      s.size.size,
    ) in
    ap (λ n. take n (drop 2 front)) long
    ∙ ap (take (length text)) (ap (drop 2) whole ∙ drop_at s.front (text ++ 0 ∷ []) 2 s.size.size)
    ∙ take_at text (0 ∷ []) (length text) refl
between order text front (inr s) =
    let none : length front - 3 ≡ 0 = omega (arith, s.size.size) in
    ap (λ n. take n (drop 2 front)) none ∙ sym s.empty

-- the item is the text that stands between, in so many bytes
pub first-text : (order : Order) (form : Form) (bytes text : List ℕ) (size : ℕ) → form ≡ Text
    → IsTextSpan order bytes size → text ≡ text_between (take size bytes)
    → IsFirst order form bytes (value.Text text) size
first-text order form bytes text size is span read =
    subst (λ form. IsFirst order form bytes (value.Text text) size) (sym is) at
  where
    at : IsFirst order Text bytes (value.Text text) size
    at (value.Text other) front rest split s =
        let long = span other front rest split s in (
          long,
          ap value.Text (read ∙ ap text_between (ap (take size) split ∙ take_at front rest size (sym long))
              ∙ between order other front s),
        )
    at v front rest split s = absurd s

-- a link has six bytes
link-long : (order : Order) (link : StructLink) (bytes : List ℕ) → IsLink order link bytes → length bytes ≡ 6
link-long order link bytes s =
    omega (arith, ap length s.split ∙ length-append s.front s.back, s.class.size, s.instance.size)

-- the item is the link of the first six bytes
pub first-link : (order : Order) (form : Form) (bytes : List ℕ) (link : StructLink) → form ≡ Link
    → link ≡ first_link order bytes → IsFirst order form bytes (value.Link link) 6
first-link order form bytes link is read =
    subst (λ form. IsFirst order form bytes (value.Link link) 6) (sym is) at
  where
    at : IsFirst order Link bytes (value.Link link) 6
    at (value.Link other) front rest split s =
        let whole : bytes ≡ s.front ++ (s.back ++ rest) = split ∙ ap (λ front. front ++ rest) s.split
        ∙ append_assoc s.front s.back rest in
        let class : number order (take 2 bytes) ≡ other.class = ap (λ bytes. number order (take 2 bytes)) whole
        ∙ ap (number order) (take_at s.front (s.back ++ rest) 2 s.class.size) ∙ s.class.value in
        let behind : drop 2 bytes ≡ s.back ++ rest = ap (drop 2) whole
        ∙ drop_at s.front (s.back ++ rest) 2 s.class.size in
        let instance : number order (take 4 (drop 2 bytes)) ≡ other.instance =
        ap (λ bytes. number order (take 4 bytes)) behind
        ∙ ap (number order) (take_at s.back rest 4 s.instance.size) ∙ s.instance.value in
        let same : first_link order bytes ≡ other =
        ap (λ (n : ℕ). let l : StructLink = record { class = n; instance = number order (take 4 (drop 2 bytes)) } in l)
        class
        ∙ ap (λ (n : ℕ). let l : StructLink = record { class = other.class; instance = n } in l) instance in
        (sym (link-long order other front s), ap value.Link (read ∙ same))
    at v front rest split s = absurd s

-- bytes that are one item begin with it
pub single-begins : (order : Order) (form : Form) (v : Value) (bytes : List ℕ) → IsSingle order form v bytes
    → BeginsItem order form bytes
single-begins order form v bytes s = (v, bytes, [], sym (append-nil bytes), s)

-- what is said of the item at their front is said of all
pub of-single : (order : Order) (form : Form) (v : Value) (bytes : List ℕ) (P : Value → ℕ → Type 0)
    → OfItem order form bytes P → IsSingle order form v bytes → P v (length bytes)
of-single order form v bytes P of s = of v bytes [] (sym (append-nil bytes)) s

-- an item has at least a byte
pub single-low : (order : Order) (form : Form) (v : Value) (bytes : List ℕ) → IsSingle order form v bytes
    → 0 < length bytes
single-low order (Number width) (value.Num n) bytes s = omega (arith, s.size, size-low width)
single-low order (Pair width) (value.Pair a b) bytes s =
    omega (arith, ap length s.split ∙ length-append s.front s.back, s.first.size, size-low width)
single-low order Text (value.Text text) bytes s = omega (arith, text-low order text bytes s)
single-low order Link (value.Link link) bytes s = omega (arith, link-long order link bytes s)
single-low order form v bytes s = absurd s

-- an item's bytes are at least one, and no more than there are
pub size-bounds : (order : Order) (form : Form) (bytes : List ℕ) (size : ℕ) → BeginsItem order form bytes
    → OfItem order form bytes (λ v long. size ≡ long) → (0 < size) × (size ≤ length bytes)
size-bounds order form bytes size (v, front, rest, split, s) of = (
  omega (arith, of v front rest split s, single-low order form v front s),
  omega (arith, of v front rest split s, ap length split ∙ length-append front rest),
)
