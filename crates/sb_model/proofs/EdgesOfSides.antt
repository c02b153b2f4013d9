-- The edges of a plan run between two points that differ.

use Rattle.std.proofs.Common.{◌≡◌, ℕ, Bool, IsTrue, List, Some, slice_get}
use Rattle.std.proofs.lemmas.Bool.{and_parts}
use Rattle.std.proofs.lemmas.List.Sums.{AllPass-from_list_all}
use Rattle.std.proofs.lemmas.Option.{get_or_from_slice_get, slice_get_within}
use Rattle.std.specs.List.{list_all}
use Rattle.sb_fraction.specs.declared.point.Point.{Point}
use Rattle.sb_fraction.specs.Plane.{are_two_points}
use Rattle.sb_fraction.specs.Edges.{edge, is_in_range, has_length}
use Rattle.theory_plans.specs.LoopEdges.{edges_of}
use Rattle.theory_plans.specs.Plans.{is_plan}
use Rattle.theory_plans.proofs.Edges.EdgesOfPlans.{is_proper_edge, plan_edges_are_proper}

-- a test that all items pass is passed by the item at each place
passed_at : {X : Type 0} (p : X → Bool) (xs : List X) (i : ℕ) (x : X)
    → IsTrue (list_all p xs) → slice_get xs i ≡ Some x → IsTrue (p x)
passed_at p xs i x all here =
    let passed = AllPass-from_list_all p xs all i x (slice_get_within xs i x here) in
    rw (get_or_from_slice_get xs i x x here) at passed

-- the ends of each edge of a plan differ
pub ends_are_apart : (loops : List (List Point)) (k : ℕ) (a b : Point) → IsTrue (is_plan loops)
    → slice_get (edges_of loops) k ≡ Some (edge a b) → IsTrue (are_two_points a.x a.y b.x b.y)
ends_are_apart loops k a b plan here =
    (and_parts (is_in_range (edge a b)) (has_length (edge a b))
    (passed_at is_proper_edge (edges_of loops) k (edge a b) (plan_edges_are_proper loops plan) here)).1
