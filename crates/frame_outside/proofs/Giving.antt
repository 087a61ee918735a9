-- Files that are given back to the system.
use Rattle.std.proofs.Common.{◌≡◌, Bool, true, false, None, if◌then◌else◌, refl}
use Rattle.frame_outside.specs.declared.dir_shelf.opened.Opened.{Opened}
use Rattle.frame_outside.specs.declared.dir_shelf.opened.Opened.TheVariants as opened
use Rattle.frame_outside.specs.Opened.{seen_of, given_back}

-- nothing else of the slot changes
pub seen_given_back : {F : Type 0} (slot : Opened F) → seen_of (given_back slot) ≡ seen_of slot
seen_given_back (opened.Target target) = refl
seen_given_back {F} (opened.Source source) = by source.ended
  where
    by : (ended : Bool) →
        seen_of (opened.Source (if ended then record source { file = None } else source))
        ≡ seen_of (opened.Source source)
    by true = refl
    by false = refl
