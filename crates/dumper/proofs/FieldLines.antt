-- The text of fields: line after line, and the tail's.
use Rattle.std.proofs.Common.{◌≡◌, ℕ, zero, suc, ◌+◌, List, [], ◌∷◌, ◌++◌, length, take, drop, Some, refl, sym, ap, ◌∙◌}
use Rattle.std.proofs.Common.{arith, append_assoc, append-nil}
use Rattle.std.specs.Prelude.{slice_get, codes}
use Rattle.std.proofs.lemmas.Option.{slice_get_within}
use Rattle.std.proofs.lemmas.List.{length-take-le}
use Rattle.record_values.specs.declared.values.Value.{Value}
use Rattle.dictionary.specs.declared.entries.Element.{Element}
use Rattle.layout_plan.proofs.ReadingLemmas.{element-at}
use Rattle.file_grammar.specs.Record.{Reading}
use Rattle.dumper.specs.Printed.{escaped, value_text}
use Rattle.dumper.specs.Lines.{base_of, field_line, fields_text, tail_text, reading_text}

-- no value has no line
pub lines-none : (es : List Element) → fields_text es [] ≡ []
lines-none [] = refl
lines-none (e ∷ es) = refl

-- the last line of some
lines-push : (es : List Element) (vs : List Value) (e : Element) (v : Value) → length es ≡ length vs
    → fields_text (es ++ e ∷ []) (vs ++ v ∷ []) ≡ fields_text es vs ++ field_line e v
lines-push [] [] e v same = append-nil (field_line e v)
lines-push [] (w ∷ vs) e v same = absurd (omega (arith, same))
lines-push (x ∷ es) [] e v same = absurd (omega (arith, same))
lines-push (x ∷ es) (w ∷ vs) e v same =
    ap (λ text. field_line x w ++ text) (lines-push es vs e v (omega (arith, same)))
    ∙ sym (append_assoc (field_line x w) (fields_text es vs) (field_line e v))

-- one more line
pub lines-more : (es : List Element) (vs : List Value) (k : ℕ) (e : Element) (v : Value) → slice_get es k ≡ Some e
    → slice_get vs k ≡ Some v
    → fields_text (take (k + 1) es) (take (k + 1) vs) ≡ fields_text (take k es) (take k vs) ++ field_line e v
lines-more es vs k e v here value =
    let lt = slice_get_within es k e here in
    let below = slice_get_within vs k v value in
    (λ i. fields_text ((element-at es k e here).through i) ((element-at vs k v value).through i))
    ∙ lines-push (take k es) (take k vs) e v
    (length-take-le k es (omega arith) ∙ sym (length-take-le k vs (omega arith)))

-- the lines of the first elements, and those of the others
lines-split : (es : List Element) (vs : List Value) (k : ℕ)
    → fields_text es vs ≡ fields_text (take k es) (take k vs) ++ fields_text (drop k es) (drop k vs)
lines-split es vs zero = refl
lines-split [] vs (suc k) = refl
lines-split (e ∷ es) [] (suc k) = sym (lines-none (drop k es))
lines-split (e ∷ es) (v ∷ vs) (suc k) =
    ap (λ text. field_line e v ++ text) (lines-split es vs k)
    ∙ sym (append_assoc (field_line e v) (fields_text (take k es) (take k vs)) (fields_text (drop k es) (drop k vs)))

-- a line by its parts
pub line-parts : (name : List ℕ) (e : Element) (v : Value) → name ≡ e.name
    → (codes "  " ++ (escaped name ++ codes " = ")) ++ (value_text (base_of e) v ++ codes "\n") ≡ field_line e v
line-parts name e v is =
    ap (λ text. codes "  " ++ text) (append_assoc (escaped name) (codes " = ") (value_text (base_of e) v ++ codes "\n"))
    ∙ ap (λ name. codes "  " ++ (escaped name ++ (codes " = " ++ (value_text (base_of e) v ++ codes "\n")))) is

-- the lines of the first elements, and what comes after them
pub text-split : (elements : List Element) (k : ℕ) (reading : Reading) (values : List Value) (tail : List ℕ)
    → values ≡ reading.values → tail ≡ reading.tail
    → fields_text (take k elements) (take k values) ++ (fields_text (drop k elements) (drop k values) ++ tail_text tail)
    ≡ reading_text elements reading
text-split elements k reading values tail same ends =
    sym (append_assoc (fields_text (take k elements) (take k values)) (fields_text (drop k elements) (drop k values))
    (tail_text tail))
    ∙ ap (λ text. text ++ tail_text tail) (sym (lines-split elements values k))
    ∙ (λ i. fields_text elements (same i) ++ tail_text (ends i))

-- the tail's line, where there is one
pub tail-none : (tail : List ℕ) → length tail ≡ 0 → tail_text tail ≡ []
tail-none [] is = refl
tail-none (b ∷ bs) is = absurd (omega (arith, is))

pub tail-some : (tail : List ℕ) → (length tail ≡ 0 → ⊥) → tail_text tail ≡ codes "  tail 4\n"
tail-some [] there = absurd (there refl)
tail-some (b ∷ bs) there = refl
