-- The closures of two regions have a common point on a line just where each lower side is at most
-- the other's upper side there.
use Rattle.std.proofs.Common.{◌≡◌, arith, pos, ◌<ℤ◌, ◌≤ℤ◌, true}
use Rattle.std.proofs.Common.{◌&&◌}
use Rattle.std.proofs.lemmas.Int.{ints, by_lt_z}
use Rattle.std.proofs.lemmas.Bool.{and_parts, and_from}
use Rattle.theory_numbers.specs.Arrows.{Arrow, cross}
use Rattle.theory_numbers.specs.Rationals.{IsRational, IsAtMost, is_at_most}
use Rattle.theory_numbers.proofs.Signs.{test_at_most, at_most_from}
use Rattle.theory_numbers.proofs.Fractions.Rationals.{at_most_trans, at_most_refl}
use Rattle.theory_plane.specs.Sides.{LineSide, IsLineSide, value_on, clearance_at}
use Rattle.theory_plane.specs.Regions.{Region, IsRegion, IsCommon, closures_meet}
use Rattle.theory_plane.specs.Regions.{is_reached, reaches_under}
use Rattle.theory_plane.proofs.Clearance.{value_on-IsRational, at_least_is, clearance-turn}
use Rattle.theory_plane.proofs.Regions.{uncrossed_to_ends}

reached_from : (p : Region) (u : Arrow) → is_reached p u ≡ true
    → IsAtMost p.low u × IsAtMost u p.high
reached_from p u answer =
    let parts = and_parts (is_at_most p.low u) (is_at_most u p.high) answer in
    (at_most_from (pos 0) (cross p.low u) parts.0, at_most_from (pos 0) (cross u p.high) parts.1)

reaches : (p : Region) (u : Arrow) → IsAtMost p.low u → IsAtMost u p.high
    → is_reached p u ≡ true
reaches p u after before =
    and_from (is_at_most p.low u) (is_at_most u p.high)
    (test_at_most (pos 0) (cross p.low u) after) (test_at_most (pos 0) (cross u p.high) before)

-- where p's lower side is at most q's, the value of q's lower side lies in both closures
common_at_lower : (p q : Region) (u : Arrow) → IsRegion p → IsRegion q → IsRational u
    → IsAtMost p.low u × IsAtMost u p.high → IsAtMost q.low u × IsAtMost u q.high
    → pos 0 ≤ℤ clearance_at p.lower q.lower u → pos 0 ≤ℤ clearance_at q.lower p.upper u
    → IsCommon p q u (value_on q.lower u)
common_at_lower p q u p_in q_in u_in p_reach q_reach lower upper =
    record {
      rational = value_on-IsRational q.lower u q_in.lower_in u_in;
      first =
          record {
            after = p_reach.0;
            before = p_reach.1;
            above = (at_least_is p.lower q.lower u u_in).1 lower;
            below = (at_least_is q.lower p.upper u u_in).1 upper;
          };
      second =
          record {
            after = q_reach.0;
            before = q_reach.1;
            above = at_most_refl (value_on q.lower u);
            below =
                (at_least_is q.lower q.upper u u_in).1
                (uncrossed_to_ends q q_in u u_in q_reach.0 q_reach.1);
          };
    }

exchanged : (p q : Region) (u v : Arrow) → IsCommon q p u v → IsCommon p q u v
exchanged p q u v c = record { rational = c.rational; first = c.second; second = c.first }

-- the test finds a common point
pub common_from_test : (p q : Region) (u : Arrow) → IsRegion p → IsRegion q → IsRational u
    → closures_meet p q u ≡ true → (v : Arrow) × IsCommon p q u v
common_from_test p q u p_in q_in u_in answer =
    by_lt_z (clearance_at p.lower q.lower u) (pos 0)
    (λ low. (
      value_on p.lower u,
      exchanged p q u (value_on p.lower u)
          (common_at_lower q p u q_in p_in u_in q_reach p_reach (turned low) first),
    ))
    (λ high.
    (value_on q.lower u, common_at_lower p q u p_in q_in u_in p_reach q_reach high second))
  where
    parts : (is_reached p u && is_reached q u ≡ true)
        × (reaches_under p q u && reaches_under q p u ≡ true)
    parts =
        and_parts (is_reached p u && is_reached q u) (reaches_under p q u && reaches_under q p u)
        answer

    p_reach : IsAtMost p.low u × IsAtMost u p.high
    p_reach = reached_from p u ((and_parts (is_reached p u) (is_reached q u) parts.0).0)

    q_reach : IsAtMost q.low u × IsAtMost u q.high
    q_reach = reached_from q u ((and_parts (is_reached p u) (is_reached q u) parts.0).1)

    first : pos 0 ≤ℤ clearance_at p.lower q.upper u
    first =
        at_most_from (pos 0) (clearance_at p.lower q.upper u)
        ((and_parts (reaches_under p q u) (reaches_under q p u) parts.1).0)

    second : pos 0 ≤ℤ clearance_at q.lower p.upper u
    second =
        at_most_from (pos 0) (clearance_at q.lower p.upper u)
        ((and_parts (reaches_under p q u) (reaches_under q p u) parts.1).1)

    turned : clearance_at p.lower q.lower u <ℤ pos 0 → pos 0 ≤ℤ clearance_at q.lower p.lower u
    turned low = let same = clearance-turn p.lower q.lower u in omega (arith, ints)

-- and passes wherever there is one
pub test_from_common : (p q : Region) (u v : Arrow) → IsRegion p → IsRegion q → IsRational u
    → IsCommon p q u v → closures_meet p q u ≡ true
test_from_common p q u v p_in q_in u_in c =
    and_from (is_reached p u && is_reached q u) (reaches_under p q u && reaches_under q p u)
    (and_from (is_reached p u) (is_reached q u) (reaches p u c.first.after c.first.before)
    (reaches q u c.second.after c.second.before))
    (and_from (reaches_under p q u) (reaches_under q p u)
    (test_at_most (pos 0) (clearance_at p.lower q.upper u)
    (below_upper p.lower q.upper p_in.lower_in q_in.upper_in c.first.above c.second.below))
    (test_at_most (pos 0) (clearance_at q.lower p.upper u)
    (below_upper q.lower p.upper q_in.lower_in p_in.upper_in c.second.above c.first.below)))
  where
    below_upper : (l m : LineSide) → IsLineSide l → IsLineSide m → IsAtMost (value_on l u) v
        → IsAtMost v (value_on m u) → pos 0 ≤ℤ clearance_at l m u
    below_upper l m l_in m_in low high =
        (at_least_is l m u u_in).0
        (at_most_trans (value_on l u) v (value_on m u) (value_on-IsRational l u l_in u_in)
        c.rational (value_on-IsRational m u m_in u_in) low high)
