-- The elements of a dictionary entry: FrSEs that stand in a file.
use Rattle.std.proofs.Common.{◌≡◌, ℕ, Bool, true, false, ◌&&◌, cond, List, [], ◌∷◌, map, Option, Some, None, refl, sym}
use Rattle.std.proofs.Common.{ap, ◌∙◌, subst}
use Rattle.std.specs.Prelude.{◌==◌, option_and_then}
use Rattle.std.proofs.lemmas.Bool.{and_parts, and_from, eqb-true, eq-eqb, cond-true}
use Rattle.std.proofs.lemmas.Option.{option_and_then_some, same_Some}
use Rattle.scalar_types.specs.declared.Order.{Order}
use Rattle.type_text.specs.TypeText.{type_of}
use Rattle.record_values.specs.declared.values.Value.{Value}
use Rattle.record_values.specs.declared.values.Value.TheVariants as value
use Rattle.dictionary.specs.declared.entries.Element.{Element}
use Rattle.layout_plan.specs.Body.{number_of, IsBody}
use Rattle.layout_plan.specs.BuiltIn.{element_fields}
use Rattle.file_grammar.specs.Structure.{Structure, structure_at}
use Rattle.file_grammar.specs.Record.{Reading, reading_by}
use Rattle.file_grammar.specs.Described.{is_whole, element_of, element_at, IsElement}
use Rattle.file_grammar.proofs.Structures.{stands-whole, whole-fits, stands-fits, stands-within, fits-whole}
use Rattle.file_grammar.proofs.Bodies.{element_fields-sound, element-values, reading-found, reading-again}

-- the element of an FrSE's values
element-is : (order : Order) (r : Reading) (body : List ℕ) (e : Element)
    → IsBody order element_fields r.values r.tail body → element_of r.values ≡ Some e → (e.ty ≡ type_of e.text)
    × (r.values ≡ value.Text e.name ∷ value.Text e.text ∷ value.Text e.comment ∷ [])
element-is order r body e spelled is =
    let v = element-values order (map number_of r.values) r.values spelled.front spelled.spelled in
    let made : Element = record { name = v.0; ty = type_of v.1; text = v.1; comment = v.2 } in
    let same : made ≡ e = same_Some made e (sym (ap element_of v.3) ∙ is) in (
      subst (λ (x : Element). x.ty ≡ type_of x.text) same refl,
      subst (λ (x : Element). r.values ≡ value.Text x.name ∷ value.Text x.text ∷ value.Text x.comment ∷ []) same v.3,
    )

-- the element that is read of a structure
abbrev read_element : Order → Structure → Option Element
read_element order s =
    option_and_then (λ r. element_of r.values) (reading_by order s.body element_fields)

-- The element that is found at a place stands there.
pub element-found : (order : Order) (file : List ℕ) (at : ℕ) (e : Element) → element_at order file at ≡ Some e
    → IsElement order file (structure_at order file at) e
element-found order file at e found =
    by (is_whole order file at && (structure_at order file at).class == 2) refl found
  where
    by : (b : Bool) → (is_whole order file at && (structure_at order file at).class == 2) ≡ b
        → cond b (read_element order (structure_at order file at)) None ≡ Some e
        → IsElement order file (structure_at order file at) e
    by false is f = cc
    by true is f =
        let both = and_parts (is_whole order file at) ((structure_at order file at).class == 2) is in
        let fits = whole-fits order file at both.0 in
        option_and_then_some (λ r. element_of r.values)
        (reading_by order (structure_at order file at).body element_fields) e f (λ r read made.
        let spelled = reading-found order (structure_at order file at).body element_fields r
        element_fields-sound read in
        let is = element-is order r (structure_at order file at).body e spelled made in
        record {
          stands = stands-whole order file at fits.0 fits.1;
          class = eqb-true (structure_at order file at).class 2 both.1;
          tail = r.tail;
          body = subst (λ values. IsBody order element_fields values r.tail
              (structure_at order file at).body) is.1 spelled;
          type = is.0;
        })

-- And one that stands there is found.
pub element-again : (order : Order) (file : List ℕ) (s : Structure) (e : Element) → IsElement order file s e
    → element_at order file s.at ≡ Some e
element-again order file s e here =
    cond-true _ _ _ test ∙ ap (read_element order) (sym here.stands.is) ∙ read ∙ ap Some made
  where
    test : (is_whole order file s.at && (structure_at order file s.at).class == 2) ≡ true
    test =
        and_from _ _ (fits-whole order file s.at (stands-fits order file s here.stands)
        (stands-within order file s here.stands))
        (eq-eqb (structure_at order file s.at).class 2
        (ap (λ (t : Structure). t.class) (sym here.stands.is) ∙ here.class))

    values : List Value
    values = value.Text e.name ∷ value.Text e.text ∷ value.Text e.comment ∷ []

    read : read_element order s ≡ element_of values
    read =
        ap (λ o. option_and_then (λ (r : Reading). element_of r.values) o)
        (reading-again order s.body element_fields values here.tail element_fields-sound here.body)

    made : record { name = e.name; ty = type_of e.text; text = e.text; comment = e.comment } ≡ e
    made = λ i. record { name = e.name; ty = sym here.type i; text = e.text; comment = e.comment }
