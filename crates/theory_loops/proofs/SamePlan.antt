-- The plan of loops is the plan that the loops handed in are: each point on no edge of theirs is on
-- none of its edges, and inside it exactly where it is inside them.

use Rattle.std.proofs.Common.{◌≡◌, refl, sym, ap₂, ◌∙◌, pos, Bool, true, false, not, ◌&&◌}
use Rattle.std.proofs.Common.{List, [], ◌∷◌, map, if◌then◌else◌}
use Rattle.std.specs.List.{list_any, AllByRecursion}
use Rattle.std.proofs.lemmas.Bool.{or_parts}
use Rattle.theory_lists.specs.Parity.{differ, is_odd_number}
use Rattle.theory_lists.proofs.Blocks.{all-append, all_in_parts, none_where}
use Rattle.theory_lists.proofs.Members.{all_follow}
use Rattle.theory_lists.proofs.Parity.{is_odd_number-append}
use Rattle.theory_numbers.specs.Arrows.{arrow}
use Rattle.sb_fraction.specs.declared.point.Point.{Point}
use Rattle.sb_fraction.specs.Spots.{Spot}
use Rattle.sb_fraction.specs.Edges.{Edge, is_on}
use Rattle.theory_plans.specs.LoopEdges.{edges_of_loop, edges_of}
use Rattle.theory_plans.specs.Inside.{is_crossed, is_in_plan}
use Rattle.theory_parity.specs.Sides.{turned_edge, turned_loop, is_left_at_first, put_left}
use Rattle.theory_parity.proofs.Rays.InsideByBelow.{crossed_is_struck}
use Rattle.theory_parity.proofs.SolidOnTheLeft.TurnedLoops.{struck-turned, odd_where_put, turned_edges}
use Rattle.theory_parity.proofs.SolidOnTheLeft.TurnedIsApart.{on-turned}
use Rattle.theory_loops.specs.Normal.{normal_loop}
use Rattle.theory_loops.specs.Answers.{normal_loops, plan_of}
use Rattle.theory_loops.proofs.DropPoint.{crossed-drop}
use Rattle.theory_loops.proofs.OuterIsCovered.{outer_is_covered}
use Rattle.theory_loops.proofs.DropsKeep.{normal_keeps, each_edge_is_kept, odd-normal}

-- ---- the parity

crossed-turned : (p : Spot) (e : Edge) → is_crossed p (turned_edge e) ≡ is_crossed p e
crossed-turned p e =
    crossed_is_struck p (turned_edge e) ∙ struck-turned (arrow (pos 1) (pos 0)) p e
    ∙ sym (crossed_is_struck p e)

-- of the loops, each normalised
pub odd-normals : (p : Spot) (loops : List (List Point))
    → is_odd_number (is_crossed p) (edges_of (normal_loops loops))
    ≡ is_odd_number (is_crossed p) (edges_of loops)
odd-normals p [] = refl
odd-normals p (points ∷ loops) =
    is_odd_number-append (is_crossed p) (edges_of_loop (normal_loop points))
    (edges_of (normal_loops loops))
    ∙ ap₂ differ (odd-normal (is_crossed p) (crossed-drop p) points) (odd-normals p loops)
    ∙ sym (is_odd_number-append (is_crossed p) (edges_of_loop points) (edges_of loops))

-- of their plan
pub same_parity : (loops : List (List Point)) (p : Spot)
    → is_odd_number (is_crossed p) (edges_of (plan_of loops))
    ≡ is_odd_number (is_crossed p) (edges_of loops)
same_parity loops p =
    odd_where_put (is_crossed p) (crossed-turned p) (edges_of (normal_loops loops))
    (normal_loops loops)
    ∙ odd-normals p loops

-- ---- the edges

module _ (P : Edge → Type 0) (turns : (e : Edge) → P e → P (turned_edge e)) where
  each_put : (edges : List Edge) (points : List Point) → AllByRecursion P (edges_of_loop points)
      → AllByRecursion P (edges_of_loop (put_left edges points))
  each_put edges points all = by (is_left_at_first edges points)
    where
      by : (t : Bool)
          → AllByRecursion P (edges_of_loop (if t then points else turned_loop points))
      by true = all
      by false = turned_edges P points (all_follow turns (edges_of_loop points) all)

  each_where_put : (edges : List Edge) (loops : List (List Point))
      → AllByRecursion P (edges_of loops)
      → AllByRecursion P (edges_of (map (put_left edges) loops))
  each_where_put edges [] all = tt
  each_where_put edges (points ∷ loops) all =
      let parts = all_in_parts P (edges_of_loop points) (edges_of loops) all in
      all-append P (edges_of_loop (put_left edges points)) (edges_of (map (put_left edges) loops))
      (each_put edges points parts.0) (each_where_put edges loops parts.1)

module _ (p : Spot) where
  abbrev IsOff : Edge → Type 0
  IsOff e = is_on p e ≡ false

  each_off : (es : List Edge) → list_any (is_on p) es ≡ false → AllByRecursion IsOff es
  each_off [] none = tt
  each_off (e ∷ es) none =
      let parts = or_parts (is_on p e) (list_any (is_on p) es) none in
      (parts.0, each_off es parts.1)

  off_normals : (loops : List (List Point)) → AllByRecursion IsOff (edges_of loops)
      → AllByRecursion IsOff (edges_of (normal_loops loops))
  off_normals [] all = tt
  off_normals (points ∷ loops) all =
      let parts = all_in_parts IsOff (edges_of_loop points) (edges_of loops) all in
      all-append IsOff (edges_of_loop (normal_loop points)) (edges_of (normal_loops loops))
      (normal_keeps (λ l. AllByRecursion IsOff (edges_of_loop l))
      (each_edge_is_kept IsOff (outer_is_covered p)) points parts.0)
      (off_normals loops parts.1)

-- a point on no edge handed in
pub no_other_edge : (loops : List (List Point)) (p : Spot)
    → list_any (is_on p) (edges_of loops) ≡ false
    → list_any (is_on p) (edges_of (plan_of loops)) ≡ false
no_other_edge loops p off =
    none_where (is_on p) (edges_of (plan_of loops))
    (each_where_put (IsOff p) (λ e off_e. on-turned p e ∙ off_e) (edges_of (normal_loops loops))
    (normal_loops loops) (off_normals p loops (each_off p (edges_of loops) off)))

-- is inside as before
pub same_inside : (loops : List (List Point)) (p : Spot)
    → list_any (is_on p) (edges_of loops) ≡ false
    → is_in_plan (plan_of loops) p ≡ is_in_plan loops p
same_inside loops p off =
    ap₂ (λ s t. not s && t) (no_other_edge loops p off ∙ sym off) (same_parity loops p)
