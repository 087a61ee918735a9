-- The values of a vector fit its layout.
use Rattle.std.proofs.Common.{ℕ, [], ◌∷◌, refl, lit≤, lit<}
use Rattle.std.specs.Prelude.{codes}
use Rattle.std.proofs.lemmas.List.Elements.{All-from_recursion}
use Rattle.scalar_types.specs.declared.Width.TheVariants.{Eight}
use Rattle.record_writer.specs.Fit.{FitsWidth, IsShortText, Fits}
use Rattle.sample_file.specs.Sample.{vector_values, one_sixty_fourth}
use Rattle.sample_file.specs.Drafts.{vector_fields}

pub vector-fits : (k j : ℕ) → Fits vector_fields (vector_values k j)
vector-fits k j = (
  lit≤ tt,
  (
    lit< tt,
    (
      lit< tt,
      (
        lit< tt,
        (
          lit< tt,
          (
            refl,
            (
              lit< tt,
              (
                (refl, All-from_recursion (FitsWidth Eight) (64 ∷ []) (lit< tt, tt)),
                (
                  (refl, All-from_recursion (FitsWidth Eight) (one_sixty_fourth ∷ []) (lit< tt, tt)),
                  (
                    (refl, All-from_recursion (FitsWidth Eight) (0 ∷ []) (lit< tt, tt)),
                    (
                      (refl, All-from_recursion IsShortText (codes "s" ∷ []) (lit≤ tt, tt)),
                      (lit≤ tt, (tt, (lit< tt, tt))),
                    ),
                  ),
                ),
              ),
            ),
          ),
        ),
      ),
    ),
  ),
)
