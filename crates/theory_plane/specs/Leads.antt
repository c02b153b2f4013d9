-- Which of two lines is the higher one at a number, just after it, and until the two meet.
use Rattle.std.specs.Prelude.{◌≡◌, ℤ, pos, Bool, ◌&&◌, ◌||◌, if◌then◌else◌}
use Rattle.std.specs.declared.cmp.Ordering.{Ordering}
use Rattle.std.specs.declared.cmp.Ordering.TheVariants.{Less, Equal, Greater}
use Rattle.std.specs.Ordering.{int_eq, int_cmp}
use Rattle.theory_numbers.specs.Tests.{is_positive}
use Rattle.theory_numbers.specs.Arrows.{Arrow}
use Rattle.theory_numbers.specs.Rationals.{IsRational, IsBelow, IsAtMost}
use Rattle.theory_plane.specs.Sides.{LineSide, clearance, clearance_at}

-- the order of the values of two lines at u: `Less` where l lies below m there
abbrev pub order_on : LineSide → LineSide → Arrow → Ordering
order_on l m u = int_cmp (pos 0) (clearance_at l m u)

-- above 0, or 0 and about to rise: of a number and its slope
abbrev pub is_up : ℤ → ℤ → Bool
is_up value slope = is_positive value || (int_eq value (pos 0) && is_positive slope)

-- m lies above l just after u: it does at u, or the two meet there and m rises from l
abbrev pub leads : Arrow → LineSide → LineSide → Bool
leads u l m = is_up (clearance_at l m u) (clearance l m).y

-- the order of two lines just after u: `Less` where l lies below m, `Equal` where they are one line
abbrev pub order_past : Arrow → LineSide → LineSide → Ordering
order_past u l m = if leads u l m then Less else (if leads u m l then Greater else Equal)

-- the two lines have no common point after low and up to high, this number taken in
abbrev pub MeetsNowhere : Arrow → Arrow → LineSide → LineSide → Type 0
MeetsNowhere low high l m =
    (u : Arrow) → IsRational u → IsBelow low u → IsAtMost u high
    → clearance_at l m u ≡ pos 0 → ⊥
