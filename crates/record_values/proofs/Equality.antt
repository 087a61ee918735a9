-- `==` on values says whether they are equal.
use Rattle.std.proofs.Common.{◌≡◌, ℕ, ◌&&◌, Decides, List, rules, refl, ap, nat_eq}
use Rattle.std.proofs.lemmas.Slice.Eq.{slice_eq-Decides, bytes_eq-Decides}
use Rattle.std.proofs.lemmas.Bool.Decides.{Decides-eqb}
use Rattle.std.specs.Cmp.Lexicographic.{pointwise}
use Rattle.type_text.specs.declared.types.Link.{Link}
use Rattle.record_values.specs.declared.values.Value.{Value}
use Rattle.record_values.specs.declared.values.Value.TheVariants.{Pairs, Texts, Links}
use Rattle.record_values.specs.contracts.values.ValuePartialEq.TheImpl as value

Texts-eq-Decides : (xs ys : List (List ℕ)) → Decides (pointwise (pointwise nat_eq) xs ys) (xs ≡ ys)
Texts-eq-Decides xs ys = slice_eq-Decides bytes_eq-Decides xs ys _ refl

Pair-eq-Decides : (a b : ℕ × ℕ) → Decides (nat_eq a.0 b.0 && nat_eq a.1 b.1) (a ≡ b)
Pair-eq-Decides a b = search (rules, Decides-eqb)

Pairs-eq-Decides : (xs ys : List (ℕ × ℕ))
    → Decides (pointwise (λ (a b : ℕ × ℕ). nat_eq a.0 b.0 && nat_eq a.1 b.1) xs ys) (xs ≡ ys)
Pairs-eq-Decides xs ys = slice_eq-Decides Pair-eq-Decides xs ys _ refl

Link-eq-Decides : (a b : Link) → Decides (nat_eq a.class b.class && nat_eq a.instance b.instance) (a ≡ b)
Link-eq-Decides a b = search (rules, Decides-eqb)

Links-eq-Decides : (xs ys : List Link)
    → Decides (pointwise (λ (a b : Link). nat_eq a.class b.class && nat_eq a.instance b.instance) xs ys) (xs ≡ ys)
Links-eq-Decides xs ys = slice_eq-Decides Link-eq-Decides xs ys _ refl

Value-eq-Decides : (a b : Value) → Decides (value.ghosts.eq a b) (a ≡ b)
Value-eq-Decides (Pairs xs) (Pairs ys) =
    let same = Pairs-eq-Decides xs ys in
    (λ e. ap Pairs (same.0 e), λ e. same.1 cc)
Value-eq-Decides (Texts xs) (Texts ys) =
    let same = Texts-eq-Decides xs ys in
    (λ e. ap Texts (same.0 e), λ e. same.1 cc)
Value-eq-Decides (Links xs) (Links ys) =
    let same = Links-eq-Decides xs ys in
    (λ e. ap Links (same.0 e), λ e. same.1 cc)
Value-eq-Decides a b = search rules

pub Values-eq-Decides : (xs ys : List Value) → Decides (pointwise value.ghosts.eq xs ys) (xs ≡ ys)
Values-eq-Decides xs ys = slice_eq-Decides Value-eq-Decides xs ys _ refl
