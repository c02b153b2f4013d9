-- A plan is neither flat nor knotted, and comes out as it is.

use Rattle.std.proofs.Common.{◌≡◌, refl, ap, ap₂, ◌∙◌, arith, ℕ, Bool, true, false, not}
use Rattle.std.proofs.Common.{◌&&◌, IsTrue, List, [], ◌∷◌, ◌++◌, map, length, nat_lt, nat_le}
use Rattle.std.proofs.Common.{if◌then◌else◌}
use Rattle.std.specs.List.{list_all, list_any}
use Rattle.std.proofs.lemmas.Bool.{and_parts, and_from, or_from, false≢true}
use Rattle.std.proofs.lemmas.List.{append-nil}
use Rattle.sb_fraction.specs.declared.point.Point.{Point}
use Rattle.theory_plans.specs.LoopEdges.{edges_of}
use Rattle.theory_plans.specs.Loops.{is_bent, are_bent, is_bent_loop, comes_before, is_least_first}
use Rattle.theory_plans.specs.Loops.{is_loop}
use Rattle.theory_plans.specs.Plans.{are_apart, is_plan}
use Rattle.theory_plans.proofs.Edges.EdgesOfPlans.{loop_is, plan_is}
use Rattle.theory_parity.specs.Sides.{put_left}
use Rattle.theory_parity.proofs.SolidOnTheLeft.TurnedLoops.{put_left_once}
use Rattle.theory_loops.specs.Normal.{first_of, last_of, drop_between, drop_first, dropped}
use Rattle.theory_loops.specs.Normal.{least_of, read_from, from_least, normal_loop}
use Rattle.theory_loops.specs.Answers.{normal_loops, keeps_few, are_flat, are_knotted, plan_of}
use Rattle.theory_loops.proofs.NothingLeftToDrop.{is_bent_between, same_times}
use Rattle.theory_loops.proofs.LeastFirst.{behind_is_not_before, same_as_itself}

-- ---- nothing is dropped

pub same_between : (before : Point) (points : List Point) (beyond : Point)
    → is_bent_between before points beyond ≡ true → drop_between before points beyond ≡ points
same_between before [] beyond bent = refl
same_between before (b ∷ points) beyond bent =
    let parts = and_parts (is_bent before b (first_of points beyond))
    (is_bent_between b points beyond) bent in
    ap (λ t. if t then b ∷ drop_between b points beyond else points) parts.0
    ∙ ap (λ l. b ∷ l) (same_between b points beyond parts.1)

-- the way back to the first and the second point, point by point
pub between_from : (a b : Point) (points : List Point) (first second : Point)
    → are_bent a b points first second ≡ true
    → (is_bent_between a (b ∷ points) first ≡ true) × (is_bent (last_of b points) first second ≡ true)
between_from a b [] first second bent =
    let parts = and_parts (is_bent a b first) (is_bent b first second) bent in
    (and_from (is_bent a b first) true parts.0 refl, parts.1)
between_from a b (c ∷ points) first second bent =
    let parts = and_parts (is_bent a b c) (are_bent b c points first second) bent in
    let rest = between_from b c points first second parts.1 in
    (and_from (is_bent a b c) (is_bent_between b (c ∷ points) first) parts.0 rest.0, rest.1)

-- of a bent loop no point is dropped
pub bent_drops_none : (points : List Point) → is_bent_loop points ≡ true
    → drop_first points ≡ points
bent_drops_none [] bent = refl
bent_drops_none (a ∷ []) bent = absurd (false≢true bent)
bent_drops_none (a ∷ b ∷ points) bent =
    let parts = between_from a b points a b bent in
    same_between (last_of b points) (a ∷ b ∷ points) a
    (and_from (is_bent (last_of b points) a b) (is_bent_between a (b ∷ points) a) parts.1 parts.0)

-- however often
pub bent_is_dropped : (points : List Point) → is_bent_loop points ≡ true → dropped points ≡ points
bent_is_dropped points bent =
    same_times (length points) points (bent_drops_none points bent)

-- ---- it begins where it did

least_is_head : (a : Point) (points : List Point) → list_all (comes_before a) points ≡ true
    → least_of a points ≡ a
least_is_head a [] all = refl
least_is_head a (b ∷ points) all =
    let parts = and_parts (comes_before a b) (list_all (comes_before a) points) all in
    ap (λ t. least_of (if t then b else a) points) (behind_is_not_before a b parts.0)
    ∙ least_is_head a points parts.1

-- a loop that begins at its least point
pub least_stays : (points : List Point) → is_least_first points ≡ true → from_least points ≡ points
least_stays [] least = refl
least_stays (a ∷ points) least =
    ap (λ m. read_from m [] (a ∷ points)) (least_is_head a points least)
    ∙ ap (λ t. if t then a ∷ (points ++ []) else read_from a (a ∷ []) points) (same_as_itself a)
    ∙ ap (λ l. a ∷ l) (append-nil points)

-- ---- plans

-- a normalised loop is its own normal form
pub loop_stays : (points : List Point) → is_loop points ≡ true → normal_loop points ≡ points
loop_stays points is =
    let l = loop_is points is in
    ap from_least (bent_is_dropped points l.bent) ∙ least_stays points l.least_first

loops_stay : (loops : List (List Point)) → list_all is_loop loops ≡ true
    → normal_loops loops ≡ loops
loops_stay [] all = refl
loops_stay (points ∷ loops) all =
    let parts = and_parts (is_loop points) (list_all is_loop loops) all in
    ap₂ (λ s t. s ∷ t) (loop_stays points parts.0) (loops_stay loops parts.1)

not_few : (n : ℕ) → nat_le 3 n ≡ true → nat_lt n 3 ≡ false
not_few n many = grind arith

not_none : (n : ℕ) → nat_le 1 n ≡ true → nat_lt n 1 ≡ false
not_none n some = grind arith

none_keeps_few : (loops : List (List Point)) → list_all is_loop loops ≡ true
    → list_any keeps_few loops ≡ false
none_keeps_few [] all = refl
none_keeps_few (points ∷ loops) all =
    let parts = and_parts (is_loop points) (list_all is_loop loops) all in
    or_from (keeps_few points) (list_any keeps_few loops)
    (ap (λ l. nat_lt (length l) 3) (loop_stays points parts.0)
    ∙ not_few (length points) (loop_is points parts.0).size)
    (none_keeps_few loops parts.1)

not_knotted : (flat apart : Bool) → apart ≡ true → (not flat && not apart) ≡ false
not_knotted true apart is = refl
not_knotted false apart is = ap not is

-- a plan stays
pub plan_stays : (loops : List (List Point)) → IsTrue (is_plan loops)
    → (are_flat loops ≡ false) × ((are_knotted loops ≡ false) × (plan_of loops ≡ loops))
plan_stays loops is =
    let plan = plan_is loops is in
    let same = loops_stay loops plan.each in (
      or_from (nat_lt (length loops) 1) (list_any keeps_few loops)
          (not_none (length loops) plan.some) (none_keeps_few loops plan.each),
      (
        not_knotted (are_flat loops) (are_apart (normal_loops loops)) (ap are_apart same ∙ plan.apart),
        ap (λ l. map (put_left (edges_of l)) l) same ∙ put_left_once loops plan.left,
      ),
    )
