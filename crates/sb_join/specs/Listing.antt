-- The order in which patches are listed.

use Rattle.std.specs.Prelude.{◌≡◌, false, List}
use Rattle.std.specs.declared.cmp.Ordering.{Ordering}
use Rattle.std.specs.Ordering.{nat_cmp, then_cmp, on, is_lt}
use Rattle.theory_lists.specs.Members.{AllOfTwo}
use Rattle.theory_numbers.specs.Arrows.{Arrow}
use Rattle.theory_numbers.specs.Rationals.{rational}
use Rattle.theory_plane.specs.Sides.{value_on}
use Rattle.sb_fraction.specs.Numbers.{order_of}
use Rattle.sb_model.specs.Boundaries.Order.{rank_of}
use Rattle.theory_faces.specs.Strips.{Strip}

-- the order of faces: by space number, then Bottom, Top, Side(0), Side(1) and so on
abbrev pub order_of_faces : Strip → Strip → Ordering
order_of_faces =
    then_cmp (on (λ p. p.mark.face.space) nat_cmp) (on (λ p. rank_of p.mark.face.kind) nat_cmp)

-- the v at which a patch begins: that of its lower side there
abbrev pub start_of : Strip → Arrow
start_of p = value_on p.region.lower p.region.low

-- how its lower side rises
abbrev pub slope_of : Strip → Arrow
slope_of p = rational p.region.lower.dy p.region.lower.dx

-- in v: by where the lower sides begin, and where they begin at one point by how they rise
abbrev pub order_of_starts : Strip → Strip → Ordering
order_of_starts = then_cmp (on start_of order_of) (on slope_of order_of)

-- on one face: by where they begin, then in v
abbrev pub order_on_face : Strip → Strip → Ordering
order_on_face = then_cmp (on (λ p. p.region.low) order_of) order_of_starts

-- by face, then on the face
abbrev pub order_of_patches : Strip → Strip → Ordering
order_of_patches = then_cmp order_of_faces order_on_face

-- of each two the later does not come before the earlier
abbrev pub AreListed : List Strip → Type 0
AreListed = AllOfTwo (λ p q. is_lt (order_of_patches q p) ≡ false)
