-- The links of a frame's records, and the first that has no target.
use Rattle.std.proofs.Common.{◌≡◌, ℕ, inl, inr, Bool, true, false, not, cond, List, [], ◌∷◌, map, Option, Some, None}
use Rattle.std.proofs.Common.{refl, sym, ap, ◌∙◌, subst}
use Rattle.std.specs.Prelude.{◌==◌}
use Rattle.std.specs.List.{All, find}
use Rattle.std.specs.Option.{option_map, option_map_or}
use Rattle.std.proofs.lemmas.Bool.{and_parts, and_from, and_left, and_right, and_cases, not-false, eqb-true, eq-eqb}
use Rattle.std.proofs.lemmas.List.Elements.{All-cons, All-nil}
use Rattle.scalar_types.specs.declared.Order.{Order}
use Rattle.type_text.specs.declared.types.Link.{Link}
use Rattle.record_values.specs.declared.values.Value.{Value}
use Rattle.record_values.specs.Links.{links_in}
use Rattle.dictionary.specs.declared.entries.Entry.{Entry}
use Rattle.layout_plan.specs.declared.links.FieldLink.{FieldLink}
use Rattle.layout_plan.specs.Links.{field_links}
use Rattle.layout_plan.proofs.LinkLemmas.{field_links-links}
use Rattle.file_grammar.specs.Structure.{Structure}
use Rattle.file_grammar.specs.Record.{values_of, is_target, has_target, is_loose, loose_field, first_loose, HasTarget}
use Rattle.file_grammar.specs.Record.{AreLinked}
use Rattle.file_grammar.proofs.Places.{found-Any, Any-found, All-first, All-others}

-- a link that is not loose has its target
is_target-is : (link : Link) (s : Structure) → is_target link s ≡ true → (s.class ≡ link.class)
    × (s.instance ≡ link.instance)
is_target-is link s e =
    let both = and_parts (s.class == link.class) (s.instance == link.instance) e in
    (eqb-true s.class link.class both.0, eqb-true s.instance link.instance both.1)

is-is_target : (link : Link) (s : Structure) → (s.class ≡ link.class) × (s.instance ≡ link.instance)
    → is_target link s ≡ true
is-is_target link s e =
    and_from _ _ (eq-eqb s.class link.class e.0) (eq-eqb s.instance link.instance e.1)

target-found : (frame : List Structure) (link : Link) → is_loose frame link ≡ false → HasTarget frame link
target-found frame link e =
    elim (and_cases (not (link.class == 0)) (not (has_target frame link)) e) [
      | inl null ↦ inl (eqb-true link.class 0 (not-false (link.class == 0) null))
      | inr some ↦ inr (found-Any (is_target link) (λ s. (s.class ≡ link.class)
          × (s.instance ≡ link.instance)) frame (is_target-is link) (not-false (has_target frame link) some))
    ]

target-again : (frame : List Structure) (link : Link) → HasTarget frame link → is_loose frame link ≡ false
target-again frame link (inl null) = and_left _ _ (ap not (eq-eqb link.class 0 null))
target-again frame link (inr some) =
    and_right (not (link.class == 0)) _
    (ap not (Any-found (is_target link) (λ s. (s.class ≡ link.class)
    × (s.instance ≡ link.instance)) frame (is-is_target link) some))

-- none of these links is loose just where each has its target
abbrev the_link : FieldLink → Link
the_link found = found.link

fine-found : (frame : List Structure) (links : List FieldLink) → loose_field frame links ≡ None
    → All (HasTarget frame) (map the_link links)
fine-found frame [] e = All-nil (HasTarget frame)
fine-found frame (l ∷ ls) e = by (is_loose frame l.link) refl (λ fine. fine-found frame ls fine) e
  where
    by : (b : Bool) → is_loose frame l.link ≡ b
        → (loose_field frame ls ≡ None → All (HasTarget frame) (map the_link ls))
        → option_map (λ (found : FieldLink). found.field)
        (cond b (Some l) (find (λ (found : FieldLink). is_loose frame found.link) ls)) ≡ None
        → All (HasTarget frame) (map the_link (l ∷ ls))
    by true is others f = cc
    by false is others f =
        All-cons (HasTarget frame) l.link (map the_link ls) (target-found frame l.link is) (others f)

fine-again : (frame : List Structure) (links : List FieldLink) → All (HasTarget frame) (map the_link links)
    → loose_field frame links ≡ None
fine-again frame [] h = refl
fine-again frame (l ∷ ls) h =
    ap (λ b. option_map (λ (found : FieldLink). found.field)
    (cond b (Some l) (find (λ (found : FieldLink). is_loose frame found.link) ls)))
    (target-again frame l.link (All-first (HasTarget frame) l.link (map the_link ls) h))
    ∙ fine-again frame ls (All-others (HasTarget frame) l.link (map the_link ls) h)

linked-found : (frame : List Structure) (values : List Value) → loose_field frame (field_links 0 values) ≡ None
    → All (HasTarget frame) (links_in values)
linked-found frame values e =
    subst (All (HasTarget frame)) (field_links-links 0 values) (fine-found frame (field_links 0 values) e)

linked-again : (frame : List Structure) (values : List Value) → All (HasTarget frame) (links_in values)
    → loose_field frame (field_links 0 values) ≡ None
linked-again frame values h =
    fine-again frame (field_links 0 values) (subst (All (HasTarget frame)) (sym (field_links-links 0 values)) h)

-- the links of records
abbrev linked_in : Order → List Entry → List Structure → Structure → Type 0
linked_in order held frame s = All (HasTarget frame) (links_in (values_of order held s))

abbrev or_here : Structure → Option ℕ → Option (ℕ × ℕ) → Option (ℕ × ℕ)
or_here s o rest = option_map_or (λ field. Some (s.at, field)) o rest

abbrev loose_in : Order → List Entry → List Structure → Structure → Option ℕ
loose_in order held frame s = loose_field frame (field_links 0 (values_of order held s))

pub linked-unless_loose : (order : Order) (held : List Entry) (frame records : List Structure)
    → first_loose order held frame records ≡ None → AreLinked order held frame records
linked-unless_loose order held frame [] e = All-nil (linked_in order held frame)
linked-unless_loose order held frame (s ∷ ss) e =
    let parts = by (loose_in order held frame s) refl e in
    All-cons (linked_in order held frame) s ss (linked-found frame (values_of order held s) parts.0)
    (linked-unless_loose order held frame ss parts.1)
  where
    by : (o : Option ℕ) → loose_in order held frame s ≡ o → or_here s o (first_loose order held frame ss) ≡ None
        → (loose_in order held frame s ≡ None) × (first_loose order held frame ss ≡ None)
    by None is f = (is, f)
    by (Some field) is f = cc

pub no_loose-linked : (order : Order) (held : List Entry) (frame records : List Structure)
    → AreLinked order held frame records → first_loose order held frame records ≡ None
no_loose-linked order held frame [] h = refl
no_loose-linked order held frame (s ∷ ss) h =
    ap (λ o. or_here s o (first_loose order held frame ss))
    (linked-again frame (values_of order held s) (All-first (linked_in order held frame) s ss h))
    ∙ no_loose-linked order held frame ss (All-others (linked_in order held frame) s ss h)
