-- The entry that begins with an FrSH of a body.
use Rattle.std.proofs.Common.{◌≡◌, ℕ, zero, suc, ◌+◌, ◌*◌, get_or, ◌<◌, List, [], ◌∷◌, ◌++◌, map}
use Rattle.std.proofs.Common.{Some}
use Rattle.std.proofs.Common.{sym, ap, ◌∙◌, subst, arith}
use Rattle.std.specs.Prelude.{slice_get, option_and_then}
use Rattle.scalar_types.specs.declared.Order.{Order}
use Rattle.scalar_types.specs.declared.Order.TheVariants.{Big, Little}
use Rattle.scalar_types.specs.declared.Width.TheVariants.{Two}
use Rattle.record_values.specs.declared.values.Value.TheVariants as value
use Rattle.record_values.specs.Spelling.{IsNumber}
use Rattle.dictionary.specs.declared.entries.Element.{Element}
use Rattle.layout_plan.specs.Body.{number_of, AreFields, HasBody}
use Rattle.layout_plan.specs.Lent.{HasTextAt, HasNumberAt}
use Rattle.layout_plan.specs.BuiltIn.{structure_fields}
use Rattle.file_grammar.specs.Structure.{Structure, end_of, structure_at}
use Rattle.file_grammar.specs.Record.{Reading, reading_by}
use Rattle.file_grammar.specs.Described.{entry_with}
use Rattle.file_grammar.proofs.Bodies.{structure_fields-sound, structure-values, reading-again}
use Rattle.item_reader.specs.Entries.{Begins, elements_from}

-- ---- the class

-- each item is a byte
abbrev AreBytes : List ℕ → Type 0
AreBytes xs = (i : ℕ) → get_or xs i 0 < 256

bytes-front : (xs ys : List ℕ) → AreBytes (xs ++ ys) → AreBytes xs
bytes-front [] ys bytes i = omega arith
bytes-front (x ∷ xs) ys bytes zero = bytes 0
bytes-front (x ∷ xs) ys bytes (suc i) = bytes-front xs ys (λ i. bytes (suc i)) i

bytes-rest : (xs ys : List ℕ) → AreBytes (xs ++ ys) → AreBytes ys
bytes-rest [] ys bytes = bytes
bytes-rest (x ∷ xs) ys bytes = bytes-rest xs ys (λ i. bytes (suc i))

-- a number of two bytes
two_bytes : (order : Order) (n : ℕ) (bytes : List ℕ) → IsNumber order Two n bytes → AreBytes bytes → n < 65536
two_bytes order n [] is bytes = absurd (omega (arith, is.size))
two_bytes order n (a ∷ []) is bytes = absurd (omega (arith, is.size))
two_bytes Big n (a ∷ b ∷ []) is bytes =
    let first : a < 256 = bytes 0 in
    let second : b < 256 = bytes 1 in
    let value : a * 256 + (b * 1 + 0) ≡ n = is.value in omega (arith, first, second, value)
two_bytes Little n (a ∷ b ∷ []) is bytes =
    let first : a < 256 = bytes 0 in
    let second : b < 256 = bytes 1 in
    let value : a + 256 * (b + 256 * 0) ≡ n = is.value in omega (arith, first, second, value)
two_bytes order n (a ∷ b ∷ d ∷ ds) is bytes = absurd (omega (arith, is.size))

-- the class that an FrSH tells
pub class-fits : (order : Order) (body : List ℕ) (class : ℕ) → HasBody order structure_fields body
    → AreBytes body → HasNumberAt order structure_fields body 1 class → class < 65536
class-fits order body class has all has_class =
    let spelled = has.2 in
    let values = structure-values order (map number_of has.0) has.0 spelled.front spelled.spelled in
    let same : values.1 ≡ class =
    cc (ap (λ values. slice_get values 1) values.3, has_class has.0 has.1 spelled) in
    let fields = subst (λ values. AreFields order (map number_of has.0) structure_fields values spelled.front)
    values.3 spelled.spelled in
    let front = bytes-front spelled.front has.1 (subst AreBytes spelled.split all) in
    let behind = bytes-rest fields.0 fields.1 (subst AreBytes fields.2 front) in
    subst (λ n. n < 65536) same
    (two_bytes order values.1 fields.4.0 fields.4.3
    (bytes-front fields.4.0 fields.4.1 (subst AreBytes fields.4.2 behind)))

-- ---- the entry

-- by the values that the body of its FrSH has
pub entry-begun : (order : Order) (body name : List ℕ) (class : ℕ) (comment : List ℕ)
    (elements : List Element) → HasBody order structure_fields body
    → HasTextAt order structure_fields body 0 name → HasNumberAt order structure_fields body 1 class
    → HasTextAt order structure_fields body 2 comment
    → Begins order body (record { class = class; name = name; comment = comment; elements = elements })
entry-begun order body name class comment elements has has_name has_class has_comment =
    λ file at p placed body_is.
    let run : List Element = elements_from order file (end_of (structure_at order file at)) in
    ap (λ bytes. option_and_then (λ (r : Reading). entry_with run r.values)
    (reading_by order bytes structure_fields))
    (ap (λ (s : Structure). s.body) placed.is ∙ sym body_is)
    ∙ ap (option_and_then (λ (r : Reading). entry_with run r.values))
    (reading-again order body structure_fields has.0 has.1 structure_fields-sound has.2)
    ∙ ap (entry_with run) values.3
    ∙ (λ i. Some (record {
      class = same_class i;
      name = same_name i;
      comment = same_comment i;
      elements = run;
    }))
  where
    values : (n : List ℕ) × (k : ℕ) × (c : List ℕ) × (has.0 ≡ value.Text n ∷ value.Num k ∷ value.Text c ∷ [])
    values = structure-values order (map number_of has.0) has.0 has.2.front has.2.spelled

    same_name : values.0 ≡ name
    same_name = cc (ap (λ values. slice_get values 0) values.3, has_name has.0 has.1 has.2)

    same_class : values.1 ≡ class
    same_class = cc (ap (λ values. slice_get values 1) values.3, has_class has.0 has.1 has.2)

    same_comment : values.2 ≡ comment
    same_comment = cc (ap (λ values. slice_get values 2) values.3, has_comment has.0 has.1 has.2)
