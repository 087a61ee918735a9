-- `==` on types says whether they are equal.
use Rattle.std.proofs.Common.{◌≡◌, Decides, List, rules, refl}
use Rattle.std.proofs.lemmas.Slice.Eq.{slice_eq-Decides}
use Rattle.std.specs.Cmp.Lexicographic.{pointwise}
use Rattle.type_text.specs.declared.types.Dim.{Dim}
use Rattle.type_text.specs.declared.types.ElementType.{ElementType}
use Rattle.type_text.specs.contracts.types.DimPartialEq.TheImpl as dim
use Rattle.type_text.specs.contracts.types.ElementTypePartialEq.TheImpl as element_type

Dim-eq-Decides : (a b : Dim) → Decides (dim.ghosts.eq a b) (a ≡ b)
Dim-eq-Decides a b = search rules

pub Dims-eq-Decides : (xs ys : List Dim) → Decides (pointwise dim.ghosts.eq xs ys) (xs ≡ ys)
Dims-eq-Decides xs ys = slice_eq-Decides Dim-eq-Decides xs ys _ refl

pub ElementType-eq-Decides : (a b : ElementType) → Decides (element_type.ghosts.eq a b) (a ≡ b)
ElementType-eq-Decides a b = search (rules, Dims-eq-Decides)

pub ruleset equality = (ElementType-eq-Decides, Dims-eq-Decides)
