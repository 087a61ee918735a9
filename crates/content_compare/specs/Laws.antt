-- The laws of comparisons.
use Rattle.std.specs.Prelude.{◌≡◌, ◌↔◌, ℕ, List, Some, Ok}
use Rattle.frame_outside.specs.Shelf.{Files}
use Rattle.canonical_file.specs.Contents.{Content, SameContent}
use Rattle.canonical_laws.specs.Content.{HasContent}
use Rattle.frame_reader.specs.Gives.{HoldBytes}
use Rattle.content_compare.specs.declared.answers.Comparison.TheVariants.{Same}
use Rattle.content_compare.specs.Due.{Answer, IsDue}

-- Of files that hold bytes a comparison is due.
abbrev pub EachComparisonHasADue : Type 0
EachComparisonHasADue =
    (files : Files) (first second : List ℕ) → HoldBytes files → (due : Answer) × IsDue files first second due

-- And no two.
abbrev pub NoComparisonHasTwoDues : Type 0
NoComparisonHasTwoDues =
    (files : Files) (first second : List ℕ) (due other : Answer) → IsDue files first second due
    → IsDue files first second other → due ≡ other

-- Of well-formed files it is due that they are the same exactly where their contents are.
abbrev pub SameIsDueOfSameContents : Type 0
SameIsDueOfSameContents =
    (files : Files) (name other file second : List ℕ) (c d : Content) (due : Answer) → files name ≡ Some file
    → files other ≡ Some second → HasContent file c → HasContent second d → IsDue files name other due
    → (due ≡ Ok Same) ↔ SameContent c d
