-- The clearance of one side over another has the sign of the difference of their values.
use Rattle.std.proofs.Common.{◌≡◌, ◌↔◌, refl, ◌∙◌, arith, ℤ, pos, ◌<ℤ◌, ◌≤ℤ◌, ◌+ℤ◌, ◌-ℤ◌, ◌*ℤ◌}
use Rattle.std.proofs.Common.{neg_ℤ, ap}
use Rattle.theory_numbers.proofs.Ring.{mul-zero}
use Rattle.std.proofs.lemmas.Int.{ints}
use Rattle.theory_numbers.specs.Arrows.{Arrow, arrow, cross, dot}
use Rattle.theory_numbers.specs.Rationals.{IsRational, IsBelow, IsAtMost, IsSame}
use Rattle.theory_numbers.proofs.Shapes.{var, num, plus, minus, negated, times, equal, cross_by}
use Rattle.theory_numbers.proofs.Shapes.{dot_by}
use Rattle.theory_numbers.proofs.Products.{positive_product, weak_product, positive_factor}
use Rattle.theory_numbers.proofs.Products.{weak_factor, zero_of_positive}
use Rattle.theory_numbers.proofs.Vectors.Arrows.{same_arrow}
use Rattle.theory_plane.specs.Sides.{LineSide, level, IsLineSide, value_on, clearance}
use Rattle.theory_plane.specs.Sides.{clearance_at}

-- the value of a side is a rational number
pub value_on-IsRational : (l : LineSide) (u : Arrow) → IsLineSide l → IsRational u
    → IsRational (value_on l u)
unfolding value_on
value_on-IsRational l u l_in u_in = positive_product l.dx u.x l_in u_in

-- the order of the values at u is the clearance at u, times the denominator of u
pub cross-value_on : (l m : LineSide) (u : Arrow)
    → cross (value_on l u) (value_on m u) ≡ u.x *ℤ clearance_at l m u
unfolding value_on clearance
cross-value_on l m u =
    equal
    (cross_by (value_on l u) (value_on m u) (times (var l.dx) (var u.x))
    (plus (times (var l.dy) (var u.y)) (times (var l.off) (var u.x)))
    (times (var m.dx) (var u.x))
    (plus (times (var m.dy) (var u.y)) (times (var m.off) (var u.x))))
    (times (var u.x)
    (dot_by (clearance l m) u
    (minus (times (var m.off) (var l.dx)) (times (var l.off) (var m.dx)))
    (minus (times (var m.dy) (var l.dx)) (times (var l.dy) (var m.dx)))
    (var u.x) (var u.y)))
    (omega arith)

-- ---- the sign of the clearance says which side is higher

-- m is above l at u exactly where the clearance is above 0
pub higher_is : (l m : LineSide) (u : Arrow) → IsRational u
    → IsBelow (value_on l u) (value_on m u) ↔ (pos 0 <ℤ clearance_at l m u)
higher_is l m u u_in = (
  λ below. positive_factor u.x (clearance_at l m u) u_in (rw (cross-value_on l m u) at below),
  λ above. rw (cross-value_on l m u) (positive_product u.x (clearance_at l m u) u_in above),
)

-- l is nowhere above m at u exactly where it is at least 0
pub at_least_is : (l m : LineSide) (u : Arrow) → IsRational u
    → IsAtMost (value_on l u) (value_on m u) ↔ (pos 0 ≤ℤ clearance_at l m u)
at_least_is l m u u_in = (
  λ below. weak_factor u.x (clearance_at l m u) u_in (rw (cross-value_on l m u) at below),
  λ above.
      rw (cross-value_on l m u)
      (weak_product u.x (clearance_at l m u) (omega (arith, ints)) above),
)

-- they meet at u exactly where it is 0
pub meeting_is : (l m : LineSide) (u : Arrow) → IsRational u
    → IsSame (value_on l u) (value_on m u) ↔ (clearance_at l m u ≡ pos 0)
meeting_is l m u u_in = (
  λ same. zero_of_positive u.x (clearance_at l m u) u_in (rw (cross-value_on l m u) at same),
  λ zero. cross-value_on l m u ∙ ap (λ n. u.x *ℤ n) zero ∙ mul-zero u.x,
)

-- ---- laws of clearances

-- a side clears itself nowhere
pub clearance-self : (l : LineSide) (u : Arrow) → clearance_at l l u ≡ pos 0
unfolding clearance dot
clearance-self l u =
    equal
    (plus
    (times (minus (times (var l.off) (var l.dx)) (times (var l.off) (var l.dx))) (var u.x))
    (times (minus (times (var l.dy) (var l.dx)) (times (var l.dy) (var l.dx))) (var u.y)))
    (num 0)
    (omega arith)

-- exchanged, it has the opposite sign
pub clearance-turn : (l m : LineSide) (u : Arrow)
    → clearance_at m l u ≡ neg_ℤ (clearance_at l m u)
unfolding clearance dot
clearance-turn l m u =
    equal
    (plus
    (times (minus (times (var l.off) (var m.dx)) (times (var m.off) (var l.dx))) (var u.x))
    (times (minus (times (var l.dy) (var m.dx)) (times (var m.dy) (var l.dx))) (var u.y)))
    (negated
    (plus
    (times (minus (times (var m.off) (var l.dx)) (times (var l.off) (var m.dx))) (var u.x))
    (times (minus (times (var m.dy) (var l.dx)) (times (var l.dy) (var m.dx))) (var u.y))))
    (omega arith)

-- of three sides
pub clearance_three : (l m n : LineSide) (u : Arrow)
    → m.dx *ℤ clearance_at l n u
    ≡ (n.dx *ℤ clearance_at l m u) +ℤ (l.dx *ℤ clearance_at m n u)
unfolding clearance dot
clearance_three l m n u =
    equal
    (times (var m.dx)
    (plus
    (times (minus (times (var n.off) (var l.dx)) (times (var l.off) (var n.dx))) (var u.x))
    (times (minus (times (var n.dy) (var l.dx)) (times (var l.dy) (var n.dx))) (var u.y))))
    (plus
    (times (var n.dx)
    (plus
    (times (minus (times (var m.off) (var l.dx)) (times (var l.off) (var m.dx))) (var u.x))
    (times (minus (times (var m.dy) (var l.dx)) (times (var l.dy) (var m.dx))) (var u.y))))
    (times (var l.dx)
    (plus
    (times (minus (times (var n.off) (var m.dx)) (times (var m.off) (var n.dx))) (var u.x))
    (times (minus (times (var n.dy) (var m.dx)) (times (var m.dy) (var n.dx))) (var u.y)))))
    (omega arith)

-- the clearance of two heights is their difference, at every u
pub clearance-level : (g h : ℤ) → clearance (level g) (level h) ≡ arrow (h -ℤ g) (pos 0)
unfolding clearance
clearance-level g h =
    same_arrow (clearance (level g) (level h)) (arrow (h -ℤ g) (pos 0))
    (equal (minus (times (var h) (num 1)) (times (var g) (num 1))) (minus (var h) (var g))
    (omega arith))
    refl

-- ---- the order of sides at one u

module _ (l m n : LineSide) (u : Arrow)
    (l_in : IsLineSide l) (m_in : IsLineSide m) (n_in : IsLineSide n) where
  -- not above, and not above
  pub at_most_trans : pos 0 ≤ℤ clearance_at l m u → pos 0 ≤ℤ clearance_at m n u
      → pos 0 ≤ℤ clearance_at l n u
  at_most_trans low high =
      let one = weak_product n.dx (clearance_at l m u) (omega (arith, ints)) low in
      let other = weak_product l.dx (clearance_at m n u) (omega (arith, ints)) high in
      let parts = clearance_three l m n u in
      weak_factor m.dx (clearance_at l n u) m_in (omega (arith, ints))

  -- below, and not above
  pub below_at_most_trans : pos 0 <ℤ clearance_at l m u → pos 0 ≤ℤ clearance_at m n u
      → pos 0 <ℤ clearance_at l n u
  below_at_most_trans low high =
      let one = positive_product n.dx (clearance_at l m u) n_in low in
      let other = weak_product l.dx (clearance_at m n u) (omega (arith, ints)) high in
      let parts = clearance_three l m n u in
      positive_factor m.dx (clearance_at l n u) m_in (omega (arith, ints))

  -- not above, and below
  pub at_most_below_trans : pos 0 ≤ℤ clearance_at l m u → pos 0 <ℤ clearance_at m n u
      → pos 0 <ℤ clearance_at l n u
  at_most_below_trans low high =
      let one = weak_product n.dx (clearance_at l m u) (omega (arith, ints)) low in
      let other = positive_product l.dx (clearance_at m n u) l_in high in
      let parts = clearance_three l m n u in
      positive_factor m.dx (clearance_at l n u) m_in (omega (arith, ints))
