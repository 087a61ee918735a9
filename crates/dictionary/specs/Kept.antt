-- How a dictionary is kept: by class, and its structure names again with their classes.
use Rattle.std.specs.Prelude.{◌≡◌, ℕ, List, Option}
use Rattle.std.specs.List.{AllByRecursion}
use Rattle.std.specs.Map.{values_of}
use Rattle.dictionary.specs.declared.entries.Entry.{Entry}
use Rattle.dictionary.specs.Dictionary.{class_named, IsDictionary}

-- the entry stands under its class
abbrev pub IsByClass : ℕ × Entry → Type 0
IsByClass p = p.0 ≡ p.1.class

-- each entry stands under its class, and each name leads to the class that is held under it
pub record IsKept (classes : List (ℕ × Entry)) (names : List ℕ → Option ℕ) : Type 0 where
  pub keys : AllByRecursion IsByClass classes
  pub sound : IsDictionary (values_of classes)
  pub named : (name : List ℕ) → names name ≡ class_named (values_of classes) name
