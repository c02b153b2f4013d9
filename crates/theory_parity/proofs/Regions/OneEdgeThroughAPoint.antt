-- Through a point that is no corner at most one edge of a plan passes.

use Rattle.std.proofs.Common.{◌≡◌, ◌⊎◌, inl, inr, arith, pos, ◌<ℤ◌, true, IsTrue, List}
use Rattle.std.specs.List.{AllByRecursion}
use Rattle.std.proofs.lemmas.Int.{ints}
use Rattle.theory_lists.specs.OneOf.{AtMostOne}
use Rattle.theory_lists.proofs.Members.{all_stands, two_follow}
use Rattle.theory_numbers.specs.Arrows.{dot}
use Rattle.theory_numbers.proofs.Vectors.Lengths.{length_of_zero}
use Rattle.sb_fraction.specs.declared.point.Point.{Point}
use Rattle.sb_fraction.specs.Spots.{Spot, IsSpot}
use Rattle.sb_fraction.specs.Edges.{Edge, seen_from, is_on}
use Rattle.theory_plans.specs.LoopEdges.{edges_of}
use Rattle.theory_plans.specs.Plans.{is_plan}
use Rattle.theory_plans.proofs.CommonPointIsCorner.{IsAt, MeetAtCorner, plan_edges_meet_at_corners}
use Rattle.theory_parity.proofs.Regions.NoEdgeInside.{IsNoEnd}

-- a corner is seen at no distance from where it is
no_distance : (p : Spot) (v : Point) → IsAt p v → pos 0 <ℤ dot (seen_from p v) (seen_from p v) → ⊥
no_distance p v at long =
    let none = length_of_zero (seen_from p v) at.0 at.1 in absurd (omega (arith, ints))

-- so two edges that pass through one point have an end there
pub at_most_one_passes : (loops : List (List Point)) → IsTrue (is_plan loops) → (m : Spot)
    → IsSpot m → AllByRecursion (IsNoEnd m) (edges_of loops)
    → AtMostOne (is_on m) (edges_of loops)
at_most_one_passes loops is m m_is no_corner =
    two_follow MeetAtCorner (λ e f. is_on m e ≡ true → is_on m f ≡ true → ⊥) (edges_of loops)
    (λ e f at_e at_f meet on_e on_f.
    refused e f (all_stands (IsNoEnd m) e (edges_of loops) no_corner at_e)
    (all_stands (IsNoEnd m) f (edges_of loops) no_corner at_f) (meet m m_is on_e on_f))
    (plan_edges_meet_at_corners loops is)
  where
    refused : (e f : Edge) → IsNoEnd m e → IsNoEnd m f
        → ((e.b ≡ f.a) × IsAt m e.b) ⊎ ((f.b ≡ e.a) × IsAt m f.b) → ⊥
    refused e f no_end_e no_end_f (inl first) = no_distance m e.b first.1 no_end_e.b_apart
    refused e f no_end_e no_end_f (inr second) = no_distance m f.b second.1 no_end_f.b_apart
