-- What is in an Option of which something is known.
use Rattle.std.proofs.Common.{◌≡◌, Option, Some, None, IsSomeAnd, refl}
use Rattle.std.specs.Option.{option_map}
use Rattle.std.proofs.lemmas.Option.{none-some, same_Some}

pub some-and : {X : Type 0} (o : Option X) (P : X → Type 0) → IsSomeAnd o P → (x : X) × (o ≡ Some x) × P x
some-and None P h = absurd h
some-and (Some x) P h = (x, refl, h)

pub map-some : {X Y : Type 0} (f : X → Y) (o : Option X) (y : Y) → option_map f o ≡ Some y → (x : X) × (o ≡ Some x)
    × (f x ≡ y)
map-some f None y e = absurd (none-some y e)
map-some f (Some x) y e = (x, refl, same_Some (f x) y e)
