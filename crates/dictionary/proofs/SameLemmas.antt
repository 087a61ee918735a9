-- The tests of sameness say whether entries are the same.
use Rattle.std.proofs.Common.{◌≡◌, ℕ, Bool, true, ◌&&◌, ◌==◌, List, [], ◌∷◌, map, Option, Some, None, Decides, refl, ap}
use Rattle.std.proofs.lemmas.Bool.{and_parts, and_from}
use Rattle.std.proofs.lemmas.Bool.Decides.{Decides-eqb}
use Rattle.std.proofs.lemmas.Slice.Eq.{bytes_eq-Decides}
use Rattle.std.specs.Str.{bytes_eq}
use Rattle.std.specs.Cmp.Lexicographic.{pointwise}
use Rattle.type_text.specs.declared.types.ElementType.{ElementType}
use Rattle.type_text.specs.TypeText.{type_of}
use Rattle.type_text.proofs.Equality.{ElementType-eq-Decides}
use Rattle.dictionary.specs.declared.entries.Element.{Element}
use Rattle.dictionary.specs.declared.entries.Entry.{Entry}
use Rattle.dictionary.specs.Same.{Meaning, Reads, Bytes, meaning_by, column_of, IsSameEntry, same_meaning, same_element}
use Rattle.dictionary.specs.Same.{same_entries}

meaning-Decides : (s t : Option ElementType) (a b : List ℕ)
    → Decides (same_meaning s a t b) (meaning_by s a ≡ meaning_by t b)
meaning-Decides (Some s) (Some t) a b =
    let same = ElementType-eq-Decides s t in
    (λ e. ap Reads (same.0 e), λ e. same.1 cc)
meaning-Decides None None a b =
    let same = bytes_eq-Decides a b in
    (λ e. ap Bytes (same.0 e), λ e. same.1 cc)
meaning-Decides (Some s) None a b = (λ e. cc, λ e. cc)
meaning-Decides None (Some t) a b = (λ e. cc, λ e. cc)

element-Decides : (a b : Element) → Decides (same_element a b) (column_of a ≡ column_of b)
element-Decides a b = (to, from)
  where
    to : same_element a b ≡ true → column_of a ≡ column_of b
    to e =
        let both = and_parts (bytes_eq a.name b.name)
        (same_meaning (type_of a.text) a.text (type_of b.text) b.text) e in
        let name = (bytes_eq-Decides a.name b.name).0 both.0 in
        let meaning = (meaning-Decides (type_of a.text) (type_of b.text) a.text b.text).0 both.1 in
        λ i. (name i, meaning i)

    from : column_of a ≡ column_of b → same_element a b ≡ true
    from e =
        and_from (bytes_eq a.name b.name) (same_meaning (type_of a.text) a.text (type_of b.text) b.text)
        ((bytes_eq-Decides a.name b.name).1 (ap (λ (c : List ℕ × Meaning). c.0) e))
        ((meaning-Decides (type_of a.text) (type_of b.text) a.text b.text).1 (ap (λ (c : List ℕ × Meaning). c.1) e))

pointwise-Decides : {A B : Type 0} (E : A → A → Bool) (f : A → B) → ((a b : A) → Decides (E a b) (f a ≡ f b))
    → (xs ys : List A) → Decides (pointwise E xs ys) (map f xs ≡ map f ys)
pointwise-Decides E f decides [] [] = (λ e. refl, λ e. refl)
pointwise-Decides E f decides [] (y ∷ ys) = (λ e. cc, λ e. cc)
pointwise-Decides E f decides (x ∷ xs) [] = (λ e. cc, λ e. cc)
pointwise-Decides E f decides (x ∷ xs) (y ∷ ys) =
    let head = decides x y in
    let tail = pointwise-Decides E f decides xs ys in (
      λ e. let both = and_parts (E x y) (pointwise E xs ys) e in let h = head.0 both.0 in let t = tail.0 both.1 in
          λ i. h i ∷ t i,
      λ e. and_from (E x y) (pointwise E xs ys) (head.1 cc) (tail.1 cc),
    )

pub entries-Decides : (a b : Entry) → Decides (same_entries a b) (IsSameEntry a b)
entries-Decides a b = (to, from)
  where
    to : same_entries a b ≡ true → IsSameEntry a b
    to e =
        let parts = and_parts (a.class == b.class && bytes_eq a.name b.name)
        (pointwise same_element a.elements b.elements) e in
        let front = and_parts (a.class == b.class) (bytes_eq a.name b.name) parts.0 in
        record {
          class = (Decides-eqb a.class b.class).0 front.0;
          name = (bytes_eq-Decides a.name b.name).0 front.1;
          columns = (pointwise-Decides same_element column_of element-Decides a.elements b.elements).0 parts.1;
        }

    from : IsSameEntry a b → same_entries a b ≡ true
    from s =
        and_from (a.class == b.class && bytes_eq a.name b.name) (pointwise same_element a.elements b.elements)
        (and_from (a.class == b.class) (bytes_eq a.name b.name) ((Decides-eqb a.class b.class).1 s.class)
        ((bytes_eq-Decides a.name b.name).1 s.name))
        ((pointwise-Decides same_element column_of element-Decides a.elements b.elements).1 s.columns)
