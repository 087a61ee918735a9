-- Whether two closings are equal is decided, part by part.
use Rattle.std.proofs.Common.{◌≡◌, Bool, true, false, ◌&&◌, ◌==◌, ◌⊎◌, inl, inr, Option, Some, None, Decides, refl, ap}
use Rattle.std.proofs.lemmas.Bool.Decides.{Decides-eqb, Decides-and, Decides-like, not_from_Decides}
use Rattle.std.proofs.lemmas.Slice.Eq.{slice_eq-Decides, bytes_eq-Decides}
use Rattle.std.specs.Str.{bytes_eq}
use Rattle.std.specs.Option.{option_eq}
use Rattle.std.specs.Cmp.Lexicographic.{pointwise}
use Rattle.type_text.specs.contracts.types.ElementTypePartialEq.TheImpl as element_type
use Rattle.type_text.proofs.Equality.{ElementType-eq-Decides}
use Rattle.dictionary.specs.declared.entries.Element.{Element}
use Rattle.dictionary.specs.declared.entries.Entry.{Entry}
use Rattle.canonical_file.specs.declared.closing.Closing.{Closing}

-- What a test decides holds or does not.
pub told : {P : Type 0} (t : Bool) → Decides t P → P ⊎ (P → ⊥)
told true decides = inl (decides.0 refl)
told false decides = inr (not_from_Decides false decides refl)

-- options, where a test decides of what they hold
options-Decides : {X : Type 0} (E : X → X → Bool) → ((a b : X) → Decides (E a b) (a ≡ b)) → (s t : Option X)
    → Decides (option_eq E s t) (s ≡ t)
options-Decides E decides None None = (λ e. refl, λ e. refl)
options-Decides E decides None (Some t) = (λ e. cc, λ e. cc)
options-Decides E decides (Some s) None = (λ e. cc, λ e. cc)
options-Decides {X} E decides (Some s) (Some t) =
    (λ e. ap (λ (x : X). Some x) ((decides s t).0 e), λ e. (decides s t).1 cc)

abbrev equal_elements : Element → Element → Bool
equal_elements a b =
    bytes_eq a.name b.name
    && (option_eq element_type.ghosts.eq a.ty b.ty && (bytes_eq a.text b.text && bytes_eq a.comment b.comment))

element-Decides : (a b : Element) → Decides (equal_elements a b) (a ≡ b)
element-Decides a b =
    Decides-like (equal_elements a b)
    (λ (parts : (a.name ≡ b.name) × ((a.ty ≡ b.ty) × ((a.text ≡ b.text) × (a.comment ≡ b.comment)))) i.
    record { name = parts.0 i; ty = parts.1.0 i; text = parts.1.1.0 i; comment = parts.1.1.1 i })
    (λ same. (
      ap (λ (e : Element). e.name) same,
      (
        ap (λ (e : Element). e.ty) same,
        (ap (λ (e : Element). e.text) same, ap (λ (e : Element). e.comment) same),
      ),
    ))
    (Decides-and (bytes_eq a.name b.name) _ (bytes_eq-Decides a.name b.name)
    (Decides-and (option_eq element_type.ghosts.eq a.ty b.ty) _
    (options-Decides element_type.ghosts.eq ElementType-eq-Decides a.ty b.ty)
    (Decides-and (bytes_eq a.text b.text) _ (bytes_eq-Decides a.text b.text) (bytes_eq-Decides a.comment b.comment))))

abbrev equal_entries : Entry → Entry → Bool
equal_entries a b =
    (a.class == b.class)
    && (bytes_eq a.name b.name
    && (bytes_eq a.comment b.comment && pointwise equal_elements a.elements b.elements))

entry-Decides : (a b : Entry) → Decides (equal_entries a b) (a ≡ b)
entry-Decides a b =
    Decides-like (equal_entries a b)
    (λ (parts : (a.class ≡ b.class) × ((a.name ≡ b.name) × ((a.comment ≡ b.comment) × (a.elements ≡ b.elements)))) i.
    record { class = parts.0 i; name = parts.1.0 i; comment = parts.1.1.0 i; elements = parts.1.1.1 i })
    (λ same. (
      ap (λ (e : Entry). e.class) same,
      (
        ap (λ (e : Entry). e.name) same,
        (ap (λ (e : Entry). e.comment) same, ap (λ (e : Entry). e.elements) same),
      ),
    ))
    (Decides-and (a.class == b.class) _ (Decides-eqb a.class b.class)
    (Decides-and (bytes_eq a.name b.name) _ (bytes_eq-Decides a.name b.name)
    (Decides-and (bytes_eq a.comment b.comment) _ (bytes_eq-Decides a.comment b.comment)
    (slice_eq-Decides element-Decides a.elements b.elements _ refl))))

-- Two closings are equal or not.
pub closings-decided : (c d : Closing) → (c ≡ d) ⊎ (c ≡ d → ⊥)
closings-decided c d =
    told (equal_entries c.end d.end && option_eq equal_entries c.table d.table)
    (Decides-like (equal_entries c.end d.end && option_eq equal_entries c.table d.table)
    (λ (parts : (c.end ≡ d.end) × (c.table ≡ d.table)) i. record { end = parts.0 i; table = parts.1 i })
    (λ same. (ap (λ (x : Closing). x.end) same, ap (λ (x : Closing). x.table) same))
    (Decides-and (equal_entries c.end d.end) _ (entry-Decides c.end d.end)
    (options-Decides equal_entries entry-Decides c.table d.table)))
