-- Points and vectors in space, and the points of a ray.

use Rattle.std.specs.Prelude.{ℤ, pos, neg_ℤ, ◌+ℤ◌, ◌*ℤ◌, ◌<ℤ◌}
use Rattle.sb_fraction.specs.declared.point.Point.{Point}
use Rattle.sb_fraction.specs.declared.point.HPoint.{HPoint}
use Rattle.theory_numbers.specs.Arrows.{Arrow}
use Rattle.theory_numbers.specs.Rationals.{rational}

-- a vector with whole coordinates
pub record Vector : Type 0 where
  pub x : ℤ
  pub y : ℤ
  pub z : ℤ

abbrev pub vector : ℤ → ℤ → ℤ → Vector
vector x y z = record { x = x; y = y; z = z }

-- the inner product, 0 where the two stand at right angles
abbrev pub inner : Vector → Vector → ℤ
inner a b = ((a.x *ℤ b.x) +ℤ (a.y *ℤ b.y)) +ℤ (a.z *ℤ b.z)

-- the vector that points the other way
abbrev pub opposite : Vector → Vector
opposite v = vector (neg_ℤ v.x) (neg_ℤ v.y) (neg_ℤ v.z)

-- the rational point (x/w, y/w, z/w)
pub record Spot : Type 0 where
  pub x : ℤ
  pub y : ℤ
  pub z : ℤ
  pub w : ℤ

-- its denominator is positive: (5, 0, 0) is `spot 5 0 0 1`, and so is `spot 10 0 0 2`
abbrev pub IsSpot : Spot → Type 0
IsSpot p = pos 0 <ℤ p.w

abbrev pub spot : ℤ → ℤ → ℤ → ℤ → Spot
spot x y z w = record { x = x; y = y; z = z; w = w }

-- a plan point, at height 0
abbrev pub spot_at : Point → Spot
spot_at p = spot p.x p.y (pos 0) (pos 1)

-- a homogeneous point of the plan, at height 0
abbrev pub spot_of : HPoint → Spot
spot_of p = spot p.x p.y (pos 0) p.w

-- the inner product of a point and a vector, w times
abbrev pub times_w : Spot → Vector → ℤ
times_w p n = ((p.x *ℤ n.x) +ℤ (p.y *ℤ n.y)) +ℤ (p.z *ℤ n.z)

-- p·n: the abscissa where n is a direction, the position where n is a normal
abbrev pub reading : Spot → Vector → Arrow
reading p n = rational (times_w p n) p.w

-- the point of the ray from p along n at this depth. A depth is a difference of positions p·n, so
-- at depth k the ray has gone k/(n·n) times n
abbrev pub along : Spot → Vector → Arrow → Spot
along p n depth =
    let scale = depth.x *ℤ inner n n in
    let far = depth.y *ℤ p.w in
    spot
    ((p.x *ℤ scale) +ℤ (n.x *ℤ far))
    ((p.y *ℤ scale) +ℤ (n.y *ℤ far))
    ((p.z *ℤ scale) +ℤ (n.z *ℤ far))
    (p.w *ℤ scale)
