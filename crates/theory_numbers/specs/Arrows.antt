-- Vectors of the plane with whole coordinates, and their two products.
use Rattle.std.specs.Prelude.{ℤ, ◌+ℤ◌, ◌-ℤ◌, ◌*ℤ◌, neg_ℤ}

-- a vector of the plane. It serves as a rational number too (`Rationals`), and as a linear form.
pub record Arrow : Type 0 where
  pub x : ℤ
  pub y : ℤ

-- the vector with these coordinates
abbrev pub arrow : ℤ → ℤ → Arrow
arrow x y = record { x = x; y = y }

-- twice the area that a and b span, above 0 where b lies to the left of a:
-- `cross (arrow 1 0) (arrow 0 1)` is 1
unfoldable pub cross : Arrow → Arrow → ℤ
cross a b = (a.x *ℤ b.y) -ℤ (a.y *ℤ b.x)

-- the inner product, 0 where a and b stand at right angles
unfoldable pub dot : Arrow → Arrow → ℤ
dot a b = (a.x *ℤ b.x) +ℤ (a.y *ℤ b.y)

-- the sum of two vectors
abbrev pub add : Arrow → Arrow → Arrow
add a b = arrow (a.x +ℤ b.x) (a.y +ℤ b.y)

-- a vector k times as long
abbrev pub scale : ℤ → Arrow → Arrow
scale k a = arrow (k *ℤ a.x) (k *ℤ a.y)

-- the vector that points the other way
abbrev pub opposite : Arrow → Arrow
opposite a = arrow (neg_ℤ a.x) (neg_ℤ a.y)

-- the vector turned to the left by a right angle
abbrev pub turned : Arrow → Arrow
turned a = arrow (neg_ℤ a.y) a.x

-- the mirror image in the first axis; of a rational number, its negative
abbrev pub mirror : Arrow → Arrow
mirror a = arrow a.x (neg_ℤ a.y)
