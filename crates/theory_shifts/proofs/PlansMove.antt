-- Moved loops get the answer that the loops get, moved; and a plan stays a plan.
use Rattle.std.proofs.Common.{◌≡◌, ℕ, Bool, true, false, not, ◌&&◌, ◌||◌, nat_lt, nat_le, List, [], ◌∷◌, ◌++◌, map, length, reverse, refl, sym, ap, ap₂, ◌∙◌}
use Rattle.std.proofs.Common.{if◌then◌else◌}
use Rattle.std.specs.List.{list_all, list_any}
use Rattle.std.proofs.lemmas.List.{map-append, length-map, reverse-append}
use Rattle.std.proofs.lemmas.Bool.{and_parts, and_from}
use Rattle.theory_numbers.specs.Arrows.{Arrow}
use Rattle.sb_fraction.specs.declared.point.Point.{Point}
use Rattle.sb_fraction.specs.Edges.{Edge, edge}
use Rattle.sb_fraction.specs.Plane.{is_plan_point}
use Rattle.theory_plans.specs.LoopEdges.{edges_of}
use Rattle.theory_plans.specs.Loops.{is_bent, are_bent, is_bent_loop, comes_before, is_least_first, is_loop, are_loops}
use Rattle.theory_plans.specs.Plans.{are_apart, is_solid_left_of, keep_left, is_plan}
use Rattle.theory_parity.specs.Sides.{turned_loop, is_left_at_first, put_left}
use Rattle.theory_loops.specs.Normal.{normal_loop}
use Rattle.theory_loops.specs.Answers.{normal_loops, keeps_few, are_flat, are_knotted, plan_of}
use Rattle.theory_shifts.specs.Shifts.{moved, moved_loop, moved_loops}
use Rattle.theory_shifts.specs.Laws.{HasFlatMoved, HasKnottedMoved, HasPlanMoved, HasStillPlan}
use Rattle.theory_shifts.proofs.StepsStay.{is_bent-moved, comes_before-moved}
use Rattle.theory_shifts.proofs.NormalMoves.{normal-moved}
use Rattle.theory_shifts.proofs.EdgesMove.{moved_edge, edges-moved, apart-moved, solid-moved, all-moved}

-- ---- the normal forms

pub normals-moved : (d : Arrow) (loops : List (List Point))
    → normal_loops (moved_loops d loops) ≡ moved_loops d (normal_loops loops)
normals-moved d [] = refl
normals-moved d (points ∷ loops) = ap₂ (λ s t. s ∷ t) (normal-moved d points) (normals-moved d loops)

few-moved : (d : Arrow) (points : List Point) → keeps_few (moved_loop d points) ≡ keeps_few points
few-moved d points =
    ap (λ l. nat_lt (length l) 3) (normal-moved d points)
    ∙ ap (λ n. nat_lt n 3) (length-map (normal_loop points) (moved d))

any_few-moved : (d : Arrow) (loops : List (List Point))
    → list_any keeps_few (moved_loops d loops) ≡ list_any keeps_few loops
any_few-moved d [] = refl
any_few-moved d (points ∷ loops) = ap₂ (λ s t. s || t) (few-moved d points) (any_few-moved d loops)

pub flat-moved : HasFlatMoved
flat-moved d loops =
    ap₂ (λ s t. s || t) (ap (λ n. nat_lt n 1) (length-map loops (moved_loop d))) (any_few-moved d loops)

pub knotted-moved : HasKnottedMoved
knotted-moved d loops =
    ap₂ (λ s t. not s && not t) (flat-moved d loops)
    (ap are_apart (normals-moved d loops) ∙ apart-moved d (normal_loops loops))

-- ---- turned round

reverse-map : {X Y : Type 0} (f : X → Y) (xs : List X) → reverse (map f xs) ≡ map f (reverse xs)
reverse-map f [] = refl
reverse-map f (x ∷ xs) =
    reverse-append (f x ∷ []) (map f xs) ∙ ap (λ l. l ++ f x ∷ []) (reverse-map f xs)
    ∙ sym (map-append f (reverse xs) (x ∷ [])) ∙ ap (map f) (sym (reverse-append (x ∷ []) xs))

turned-moved : (d : Arrow) (points : List Point)
    → turned_loop (moved_loop d points) ≡ moved_loop d (turned_loop points)
turned-moved d [] = refl
turned-moved d (a ∷ points) = ap (λ l. moved d a ∷ l) (reverse-map (moved d) points)

first_left-moved : (d : Arrow) (edges : List Edge) (points : List Point)
    → is_left_at_first (map (moved_edge d) edges) (moved_loop d points) ≡ is_left_at_first edges points
first_left-moved d edges [] = refl
first_left-moved d edges (a ∷ []) = refl
first_left-moved d edges (a ∷ b ∷ points) = solid-moved d (edge a b) edges

put-moved : (d : Arrow) (edges : List Edge) (points : List Point)
    → put_left (map (moved_edge d) edges) (moved_loop d points) ≡ moved_loop d (put_left edges points)
put-moved d edges points =
    ap (λ t. if t then moved_loop d points else turned_loop (moved_loop d points)) (first_left-moved d edges points)
    ∙ by (is_left_at_first edges points)
  where
    by : (t : Bool) → (if t then moved_loop d points else turned_loop (moved_loop d points))
        ≡ moved_loop d (if t then points else turned_loop points)
    by true = refl
    by false = turned-moved d points

puts-moved : (d : Arrow) (edges : List Edge) (loops : List (List Point))
    → map (put_left (map (moved_edge d) edges)) (moved_loops d loops)
    ≡ moved_loops d (map (put_left edges) loops)
puts-moved d edges [] = refl
puts-moved d edges (points ∷ loops) = ap₂ (λ s t. s ∷ t) (put-moved d edges points) (puts-moved d edges loops)

pub plan-moved : HasPlanMoved
plan-moved d loops =
    ap (λ l. map (put_left (edges_of l)) l) (normals-moved d loops)
    ∙ ap (λ e. map (put_left e) (moved_loops d (normal_loops loops))) (edges-moved d (normal_loops loops))
    ∙ puts-moved d (edges_of (normal_loops loops)) (normal_loops loops)

-- ---- still a plan

bent-moved : (d : Arrow) (a b : Point) (points : List Point) (first second : Point)
    → are_bent (moved d a) (moved d b) (map (moved d) points) (moved d first) (moved d second)
    ≡ are_bent a b points first second
bent-moved d a b [] first second =
    ap₂ (λ s t. s && t) (is_bent-moved d a b first) (is_bent-moved d b first second)
bent-moved d a b (c ∷ points) first second =
    ap₂ (λ s t. s && t) (is_bent-moved d a b c) (bent-moved d b c points first second)

bent_loop-moved : (d : Arrow) (points : List Point) → is_bent_loop (moved_loop d points) ≡ is_bent_loop points
bent_loop-moved d [] = refl
bent_loop-moved d (a ∷ []) = refl
bent_loop-moved d (a ∷ b ∷ points) = bent-moved d a b points a b

least_first-moved : (d : Arrow) (points : List Point)
    → is_least_first (moved_loop d points) ≡ is_least_first points
least_first-moved d [] = refl
least_first-moved d (a ∷ points) =
    all-moved (moved d) (comes_before (moved d a)) (comes_before a) points (comes_before-moved d a)

loop-moved : (d : Arrow) (points : List Point) → is_loop points ≡ true
    → list_all is_plan_point (moved_loop d points) ≡ true → is_loop (moved_loop d points) ≡ true
loop-moved d points is in_range =
    let parts = and_parts (nat_le 3 (length points)) (list_all is_plan_point points && (is_bent_loop points && is_least_first points)) is in
    let range = and_parts (list_all is_plan_point points) (is_bent_loop points && is_least_first points) parts.1 in
    let shape = and_parts (is_bent_loop points) (is_least_first points) range.1 in
    and_from (nat_le 3 (length (moved_loop d points)))
    (list_all is_plan_point (moved_loop d points) && (is_bent_loop (moved_loop d points) && is_least_first (moved_loop d points)))
    (ap (nat_le 3) (length-map points (moved d)) ∙ parts.0)
    (and_from (list_all is_plan_point (moved_loop d points)) (is_bent_loop (moved_loop d points) && is_least_first (moved_loop d points))
    in_range
    (and_from (is_bent_loop (moved_loop d points)) (is_least_first (moved_loop d points))
    (bent_loop-moved d points ∙ shape.0) (least_first-moved d points ∙ shape.1)))

all_loops-moved : (d : Arrow) (loops : List (List Point)) → list_all is_loop loops ≡ true
    → list_all (list_all is_plan_point) (moved_loops d loops) ≡ true
    → list_all is_loop (moved_loops d loops) ≡ true
all_loops-moved d [] are in_range = refl
all_loops-moved d (points ∷ loops) are in_range =
    let parts = and_parts (is_loop points) (list_all is_loop loops) are in
    let range = and_parts (list_all is_plan_point (moved_loop d points)) (list_all (list_all is_plan_point) (moved_loops d loops)) in_range in
    and_from (is_loop (moved_loop d points)) (list_all is_loop (moved_loops d loops))
    (loop-moved d points parts.0 range.0) (all_loops-moved d loops parts.1 range.1)

left-moved : (d : Arrow) (loops : List (List Point)) → keep_left (moved_loops d loops) ≡ keep_left loops
left-moved d loops =
    ap (λ l. list_all (λ e. is_solid_left_of e l) l) (edges-moved d loops)
    ∙ all-moved (moved_edge d) (λ e. is_solid_left_of e (map (moved_edge d) (edges_of loops)))
    (λ e. is_solid_left_of e (edges_of loops)) (edges_of loops) (λ e. solid-moved d e (edges_of loops))

pub still_plan : HasStillPlan
still_plan d loops is in_range =
    let parts = and_parts (are_loops loops) (are_apart loops && keep_left loops) is in
    let each = and_parts (nat_le 1 (length loops)) (list_all is_loop loops) parts.0 in
    let rest = and_parts (are_apart loops) (keep_left loops) parts.1 in
    let many = moved_loops d loops in
    and_from (are_loops many) (are_apart many && keep_left many)
    (and_from (nat_le 1 (length many)) (list_all is_loop many)
    (ap (nat_le 1) (length-map loops (moved_loop d)) ∙ each.0) (all_loops-moved d loops each.1 in_range))
    (and_from (are_apart many) (keep_left many) (apart-moved d loops ∙ rest.0) (left-moved d loops ∙ rest.1))
