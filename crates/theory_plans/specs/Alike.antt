-- One point, written in two ways: (1/2, 0, 0) is `spot 1 0 0 2` and `spot 2 0 0 4`.

use Rattle.std.specs.Prelude.{◌≡◌, ℤ, pos, ◌*ℤ◌, ◌<ℤ◌}
use Rattle.sb_fraction.specs.Spots.{Spot, spot}

-- the numbers of a point k times as large: the same point where k is above 0
abbrev pub scaled : ℤ → Spot → Spot
scaled k p = spot (k *ℤ p.x) (k *ℤ p.y) (k *ℤ p.z) (k *ℤ p.w)

-- p and q are one point
pub record AreAlike (p q : Spot) : Type 0 where
  pub x : q.w *ℤ p.x ≡ p.w *ℤ q.x
  pub y : q.w *ℤ p.y ≡ p.w *ℤ q.y
  pub z : q.w *ℤ p.z ≡ p.w *ℤ q.z

-- what is said of a point does not depend on a positive factor of its numbers
abbrev pub SeesNoFactor : {X : Type 0} → (Spot → X) → Type 0
SeesNoFactor f = (k : ℤ) (p : Spot) → pos 0 <ℤ k → f (scaled k p) ≡ f p
