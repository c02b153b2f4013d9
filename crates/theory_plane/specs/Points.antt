-- Rational points of a face's plane, above, below and on a side.
use Rattle.std.specs.Prelude.{ℤ, pos, ◌-ℤ◌, ◌*ℤ◌, ◌<ℤ◌, Bool, int_lt}
use Rattle.std.specs.Ordering.{int_eq}
use Rattle.theory_numbers.specs.Arrows.{Arrow}
use Rattle.theory_numbers.specs.Rationals.{rational}
use Rattle.theory_plane.specs.Sides.{LineSide}

-- the point (u/w, v/w)
pub record FacePoint : Type 0 where
  pub u : ℤ
  pub v : ℤ
  pub w : ℤ

-- its denominator is above 0
abbrev pub IsFacePoint : FacePoint → Type 0
IsFacePoint p = pos 0 <ℤ p.w

-- the point with these whole numbers
abbrev pub face_point : ℤ → ℤ → ℤ → FacePoint
face_point u v w = record { u = u; v = v; w = w }

-- the point of two rational numbers
abbrev pub point_at : Arrow → Arrow → FacePoint
point_at u v = face_point (u.y *ℤ v.x) (v.y *ℤ u.x) (u.x *ℤ v.x)

-- its first coordinate, u/w
abbrev pub abscissa_of : FacePoint → Arrow
abscissa_of p = rational p.u p.w

-- its second coordinate, v/w
abbrev pub ordinate_of : FacePoint → Arrow
ordinate_of p = rational p.v p.w

-- how far it lies above the side, up to a positive factor: dx·v - dy·u - off·w
abbrev pub rise : LineSide → FacePoint → ℤ
rise l p = ((l.dx *ℤ p.v) -ℤ (l.dy *ℤ p.u)) -ℤ (l.off *ℤ p.w)

-- it lies strictly above the side
abbrev pub is_above_side : LineSide → FacePoint → Bool
is_above_side l p = int_lt (l.off *ℤ p.w) ((l.dx *ℤ p.v) -ℤ (l.dy *ℤ p.u))

-- strictly below it
abbrev pub is_under_side : LineSide → FacePoint → Bool
is_under_side l p = int_lt ((l.dx *ℤ p.v) -ℤ (l.dy *ℤ p.u)) (l.off *ℤ p.w)

-- on it
abbrev pub is_on_side : LineSide → FacePoint → Bool
is_on_side l p = int_eq ((l.dx *ℤ p.v) -ℤ (l.dy *ℤ p.u)) (l.off *ℤ p.w)
