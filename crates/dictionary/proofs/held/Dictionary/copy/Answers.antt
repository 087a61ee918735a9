use Rattle.std.proofs.Common.{◌≡◌, ap, ◌∙◌, vec_len}
use Rattle.std.proofs.lemmas.List.Elements.{same_from_all_zip}
use Rattle.std.specs.List.{AllZip}
use Rattle.std.specs.Map.{values_of}
use Rattle.dictionary.specs.Names.{class_at}
use Rattle.dictionary.proofs.CloneLemmas.{entries-same, lookup-same}
use Rattle.dictionary.proofs.KeptLemmas.{IsKept-copy}
use Rattle.dictionary.proofs.held.Dictionary.copy.Goals as goal

pub invariant_of-result : goal.invariant_of-result
invariant_of-result c =
    let classes = entries-same (λ k j. j ≡ k) (λ x y. y ≡ x) (λ k j h. h) (λ x y h. h) c.self.inside.by_class.entries
    c.in_ok-clone.field-0.entries c.in_ok-clone.ensures.cases in
    IsKept-copy c.self.inside.by_class.entries c.in_ok-clone.field-0.entries (class_at c.self.inside.by_name)
    (class_at c.in_ok-clone-2.field-0) c.self.invariant classes
    (λ name. lookup-same (λ v w. AllZip (λ k j. j ≡ k) v.items w.items
    × (vec_len w ≡ vec_len v)) (λ x y. y ≡ x) (λ key. key.items)
    (λ v w h. same_from_all_zip (λ k j. j ≡ k) v.items w.items h.0 (λ k j e. e)) (λ x y h. h) name
    c.self.inside.by_name.entries c.in_ok-clone-2.field-0.entries c.in_ok-clone-2.ensures.cases)

pub returns : goal.returns
returns c =
    let classes = entries-same (λ k j. j ≡ k) (λ x y. y ≡ x) (λ k j h. h) (λ x y h. h) c.self.inside.by_class.entries
    c.in_ok-clone.field-0.entries c.in_ok-clone.ensures.cases in
    ap values_of classes ∙ c.self.view_is
