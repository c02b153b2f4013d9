-- Two sides whose clearance is the zero form are one side, as data; so two sides are told apart by
-- any place at which their values differ, and agree at one place at most otherwise.
use Rattle.std.proofs.Common.{◌≡◌, ap, ◌∙◌, arith, ℤ, pos, ◌-ℤ◌, ◌*ℤ◌}
use Rattle.std.proofs.Common.{true, ◌&&◌, Decides}
use Rattle.std.proofs.lemmas.Int.{ints}
use Rattle.std.specs.Ordering.{int_eq}
use Rattle.std.specs.Cmp.{signed_Decides}
use Rattle.std.proofs.lemmas.Bool.{and_parts, and_from}
use Rattle.theory_numbers.specs.Arrows.{Arrow}
use Rattle.theory_numbers.specs.Rationals.{IsZeroForm, IsForm, IsSame}
use Rattle.theory_numbers.proofs.Products.{unscale_equal}
use Rattle.theory_numbers.proofs.Ring.{mul_comm}
use Rattle.theory_numbers.proofs.Fractions.Rationals.{one_zero}
use Rattle.theory_numbers.proofs.Fractions.Reduced.{reduced_unique}
use Rattle.theory_plane.specs.Sides.{LineSide, line, IsReducedSide, clearance, clearance_at}
use Rattle.theory_plane.specs.Sides.{is_same_side}

-- sides with equal data are equal
pub same_line : (l m : LineSide) → l.dx ≡ m.dx → l.dy ≡ m.dy → l.off ≡ m.off → l ≡ m
same_line l m same_dx same_dy same_off =
    let whole : line l.dx l.dy l.off ≡ line m.dx m.dy m.off = cc in whole

-- the test tells whether they are
pub same_side_decides : (l m : LineSide) → Decides (is_same_side l m) (l ≡ m)
same_side_decides l m = (to, from)
  where
    to : is_same_side l m ≡ true → l ≡ m
    to answer =
        let first =
        and_parts (int_eq l.dx m.dx) (int_eq l.dy m.dy && int_eq l.off m.off) answer
        in
        let rest = and_parts (int_eq l.dy m.dy) (int_eq l.off m.off) first.1 in
        same_line l m ((signed_Decides l.dx m.dx).0 first.0)
        ((signed_Decides l.dy m.dy).0 rest.0) ((signed_Decides l.off m.off).0 rest.1)

    from : l ≡ m → is_same_side l m ≡ true
    from same =
        and_from (int_eq l.dx m.dx) (int_eq l.dy m.dy && int_eq l.off m.off)
        ((signed_Decides l.dx m.dx).1 (ap (λ (s : LineSide). s.dx) same))
        (and_from (int_eq l.dy m.dy) (int_eq l.off m.off)
        ((signed_Decides l.dy m.dy).1 (ap (λ (s : LineSide). s.dy) same))
        ((signed_Decides l.off m.off).1 (ap (λ (s : LineSide). s.off) same)))

-- two reduced sides whose clearance is the zero form are equal
pub same_side : (l m : LineSide) → IsReducedSide l → IsReducedSide m
    → IsZeroForm (clearance l m) → l ≡ m
unfolding clearance
same_side l m l_in m_in zero =
    let slope : l.dy *ℤ m.dx ≡ m.dy *ℤ l.dx = equal_from (m.dy *ℤ l.dx) (l.dy *ℤ m.dx) zero.1 in
    let pair = reduced_unique l.dy l.dx m.dy m.dx l_in m_in slope in
    let same_dx : l.dx ≡ m.dx = pair.1 in
    same_line l m same_dx pair.0 (offsets same_dx)
  where
    equal_from : (a b : ℤ) → a -ℤ b ≡ pos 0 → b ≡ a
    equal_from a b zero = omega (arith, ints)

    offsets : l.dx ≡ m.dx → l.off ≡ m.off
    offsets same =
        let above = l_in.positive in
        let equal : l.off *ℤ m.dx ≡ m.off *ℤ l.dx =
        equal_from (m.off *ℤ l.dx) (l.off *ℤ m.dx) zero.0
        in
        unscale_equal l.dx l.off m.off (λ none. omega (arith, ints))
        (mul_comm l.dx l.off ∙ ap (λ n. l.off *ℤ n) same ∙ equal ∙ mul_comm m.off l.dx)

-- the clearance of two different reduced sides is a form, so they meet at one u at most
pub other_side_is_form : (l m : LineSide) → IsReducedSide l → IsReducedSide m
    → (l ≡ m → ⊥) → IsForm (clearance l m)
other_side_is_form l m l_in m_in other zero = other (same_side l m l_in m_in zero)

-- at two places at which they meet u is the same number
pub meet_once : (l m : LineSide) → IsReducedSide l → IsReducedSide m → (l ≡ m → ⊥)
    → (u w : Arrow) → clearance_at l m u ≡ pos 0 → clearance_at l m w ≡ pos 0 → IsSame u w
meet_once l m l_in m_in other u w at_u at_w =
    one_zero (clearance l m) u w (other_side_is_form l m l_in m_in other) at_u at_w
