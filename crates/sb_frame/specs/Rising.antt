-- What is left of a list when it is sorted and each run of equals leaves one item.

use Rattle.std.specs.Prelude.{◌≡◌, List}
use Rattle.std.specs.declared.cmp.Ordering.{Ordering}
use Rattle.std.specs.declared.cmp.Ordering.TheVariants.{Less, Equal}
use Rattle.theory_lists.specs.Members.{Stands, AllOfTwo}

-- the new list rises strictly, has nothing but items of the old one, and an equal of each
pub record IsRisingOf {X : Type 0} (R : X → X → Ordering) (old new : List X) : Type 0 where
  pub rising : AllOfTwo (λ x y. R x y ≡ Less) new
  pub each : (x : X) → Stands x new → Stands x old
  pub all : (x : X) → Stands x old → (y : X) × (Stands y new × (R x y ≡ Equal))
