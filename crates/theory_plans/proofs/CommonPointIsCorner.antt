-- Two edges of a plan have no point in common but the corner where one ends and the other begins. So
-- it is with all loops that are bent at each corner and have edges that are apart.

use Rattle.std.proofs.Common.{◌≡◌, ◌⊎◌, inl, inr, refl, ap, ap₂, sym, ◌∙◌, arith, pos, neg_ℤ}
use Rattle.std.proofs.Common.{◌*ℤ◌, ◌<ℤ◌, true, not, IsTrue, int_le, subst}
use Rattle.std.proofs.Common.{List, [], ◌∷◌, ◌++◌, map}
use Rattle.std.specs.Ordering.{int_eq}
use Rattle.std.specs.List.{list_all, AllByRecursion}
use Rattle.std.proofs.lemmas.Int.{ints}
use Rattle.std.proofs.lemmas.Bool.{and_from, and_parts, or_cases, false≢true}
use Rattle.std.proofs.lemmas.Bool.Decides.{Decides-int_eq}
use Rattle.std.proofs.lemmas.List.{map-append}
use Rattle.theory_lists.specs.Members.{Stands, AllOfTwo}
use Rattle.theory_lists.proofs.Members.{all_stands, two_follow, two_of_images, one_or_two}
use Rattle.theory_lists.proofs.Blocks.{stands_before, stands_behind, all-append}
use Rattle.theory_numbers.specs.Arrows.{cross, dot}
use Rattle.theory_numbers.proofs.Vectors.Arrows.{cross-turn}
use Rattle.theory_numbers.proofs.Products.{zero_of_positive}
use Rattle.theory_numbers.proofs.Vectors.Lengths.{no_length, some_length, on_both_lines}
use Rattle.theory_numbers.proofs.Shapes.{var, num, minus, negated, times, equal, cross_by}
use Rattle.theory_numbers.proofs.Signs.{equal_or_not}
use Rattle.sb_fraction.specs.declared.point.Point.{Point}
use Rattle.sb_fraction.specs.Spots.{Spot, IsSpot, spot_at}
use Rattle.sb_fraction.specs.Edges.{Edge, edge, seen_from, turn_at, reach_at, is_on}
use Rattle.theory_plans.specs.LoopEdges.{edges_back, edges_of_loop, edges_of}
use Rattle.theory_plans.specs.Loops.{bend, is_bent, are_bent, is_bent_loop, is_loop}
use Rattle.theory_plans.specs.Plans.{is_plan, is_same_point, are_apart, corners_in}
use Rattle.theory_plans.proofs.Edges.EdgesOfPlans.{same_point, loop_is, plan_is, bent_is_not_0}
use Rattle.theory_plans.proofs.TouchingEdges.{from_to, seen_cross}
use Rattle.theory_plans.proofs.TouchingEdges.{turn_seen, MeetAtEnds, edges_meet_at_ends}
use Rattle.theory_plans.proofs.TouchingEdges.{corners_are_once}

-- ---- one edge begins at a corner

abbrev start : Edge → Point
start e = e.a

starts-edges_back : (a : Point) (points : List Point) (first : Point)
    → map start (edges_back a points first) ≡ a ∷ points
starts-edges_back a [] first = refl
starts-edges_back a (b ∷ points) first = ap (λ ps. a ∷ ps) (starts-edges_back b points first)

starts-edges_of_loop : (points : List Point) → map start (edges_of_loop points) ≡ points
starts-edges_of_loop [] = refl
starts-edges_of_loop (a ∷ points) = starts-edges_back a points a

-- the edges begin at the corners, one after the other
pub starts-edges_of : (loops : List (List Point))
    → map (λ e. e.a) (edges_of loops) ≡ corners_in loops
starts-edges_of [] = refl
starts-edges_of (points ∷ loops) =
    map-append start (edges_of_loop points) (edges_of loops)
    ∙ ap₂ (λ ps qs. ps ++ qs) (starts-edges_of_loop points) (starts-edges_of loops)

same_as_itself : (a b : Point) → a ≡ b → is_same_point a b ≡ true
same_as_itself a b one =
    and_from (int_eq a.x b.x) (int_eq a.y b.y)
    ((Decides-int_eq a.x b.x).1 (ap (λ p. p.x) one))
    ((Decides-int_eq a.y b.y).1 (ap (λ p. p.y) one))

-- two edges that begin at one point are one
pub one_edge_begins : (loops : List (List Point)) → are_apart loops ≡ true → (e f : Edge)
    → Stands e (edges_of loops) → Stands f (edges_of loops) → e.a ≡ f.a → e ≡ f
one_edge_begins loops apart e f at_e at_f same =
    from
    (one_or_two (λ g h. not (is_same_point g.a h.a) ≡ true) e f (edges_of loops) starts at_e at_f)
  where
    starts : AllOfTwo (λ g h. not (is_same_point g.a h.a) ≡ true) (edges_of loops)
    starts =
        two_of_images (λ a b. not (is_same_point a b) ≡ true) start (edges_of loops)
        (subst (AllOfTwo (λ a b. not (is_same_point a b) ≡ true)) (sym (starts-edges_of loops))
        (corners_are_once loops apart))

    refused : (a b : Point) → a ≡ b → not (is_same_point a b) ≡ true → ⊥
    refused a b one other = false≢true (sym (ap not (same_as_itself a b one)) ∙ other)

    from : (e ≡ f)
        ⊎ ((not (is_same_point e.a f.a) ≡ true) ⊎ (not (is_same_point f.a e.a) ≡ true))
        → e ≡ f
    from (inl one) = one
    from (inr (inl other)) = absurd (refused e.a f.a same other)
    from (inr (inr other)) = absurd (refused f.a e.a (sym same) other)

-- ---- an edge goes on where another ends

-- one of the edges begins where e ends, and the way over this corner is bent
pub record IsFollowed (es : List Edge) (e : Edge) : Type 0 where
  pub next : Edge
  pub stands : Stands next es
  pub begins : next.a ≡ e.b
  pub bent : is_bent e.a e.b next.b ≡ true

followed_back : (es : List Edge) (a b : Point) (points : List Point) (first second : Point)
    → are_bent a b points first second ≡ true
    → ((g : Edge) → Stands g (edge a b ∷ edges_back b points first) → Stands g es)
    → Stands (edge first second) es
    → AllByRecursion (IsFollowed es) (edge a b ∷ edges_back b points first)
followed_back es a b [] first second bent there begin =
    let parts = and_parts (is_bent a b first) (is_bent b first second) bent in (
      record {
        next = edge b first;
        stands = there (edge b first) (inr (inl refl));
        begins = refl;
        bent = parts.0;
      },
      (record { next = edge first second; stands = begin; begins = refl; bent = parts.1 }, tt),
    )
followed_back es a b (c ∷ cs) first second bent there begin =
    let parts = and_parts (is_bent a b c) (are_bent b c cs first second) bent in (
      record {
        next = edge b c;
        stands = there (edge b c) (inr (inl refl));
        begins = refl;
        bent = parts.0;
      },
      followed_back es b c cs first second parts.1 (λ g stands. there g (inr stands)) begin,
    )

loop_is_followed : (es : List Edge) (points : List Point) → is_bent_loop points ≡ true
    → ((g : Edge) → Stands g (edges_of_loop points) → Stands g es)
    → AllByRecursion (IsFollowed es) (edges_of_loop points)
loop_is_followed es [] bent there = tt
loop_is_followed es (a ∷ []) bent there = absurd (false≢true bent)
loop_is_followed es (a ∷ b ∷ rest) bent there =
    followed_back es a b rest a b bent there (there (edge a b) (inl refl))

loops_are_followed : (es : List Edge) (loops : List (List Point))
    → list_all is_bent_loop loops ≡ true
    → ((g : Edge) → Stands g (edges_of loops) → Stands g es)
    → AllByRecursion (IsFollowed es) (edges_of loops)
loops_are_followed es [] bent there = tt
loops_are_followed es (points ∷ loops) bent there =
    let parts = and_parts (is_bent_loop points) (list_all is_bent_loop loops) bent in
    all-append (IsFollowed es) (edges_of_loop points) (edges_of loops)
    (loop_is_followed es points parts.0
    (λ g at. there g (stands_before g (edges_of_loop points) (edges_of loops) at)))
    (loops_are_followed es loops parts.1
    (λ g at. there g (stands_behind g (edges_of_loop points) (edges_of loops) at)))

-- each edge of bent loops is followed by one of them
pub edges_are_followed : (loops : List (List Point)) → list_all is_bent_loop loops ≡ true
    → AllByRecursion (IsFollowed (edges_of loops)) (edges_of loops)
edges_are_followed loops bent =
    loops_are_followed (edges_of loops) loops bent (λ g stands. stands)

-- where one edge begins as another ends the way over the corner is bent
pub bent_at_corner : (loops : List (List Point)) → list_all is_bent_loop loops ≡ true
    → are_apart loops ≡ true → (e f : Edge)
    → Stands e (edges_of loops) → Stands f (edges_of loops) → e.b ≡ f.a
    → is_bent e.a e.b f.b ≡ true
bent_at_corner loops bent apart e f at_e at_f same =
    let followed =
    all_stands (IsFollowed (edges_of loops)) e (edges_of loops) (edges_are_followed loops bent) at_e
    in
    subst (λ g. is_bent e.a e.b g.b ≡ true)
    (one_edge_begins loops apart followed.next f followed.stands at_f (followed.begins ∙ same))
    followed.bent

-- ---- a point on two edges in a row

bend_is_turn : (a v c : Point) → bend a v c ≡ neg_ℤ (turn_at (edge a c) (spot_at v))
bend_is_turn a v c =
    equal
    (minus (times (minus (var v.x) (var a.x)) (minus (var c.y) (var v.y)))
    (times (minus (var v.y) (var a.y)) (minus (var c.x) (var v.x))))
    (negated
    (cross_by (seen_from (spot_at v) a) (seen_from (spot_at v) c)
    (minus (times (var a.x) (num 1)) (var v.x)) (minus (times (var a.y) (num 1)) (var v.y))
    (minus (times (var c.x) (num 1)) (var v.x)) (minus (times (var c.y) (num 1)) (var v.y))))
    (omega arith)

-- the way from a over v to c goes straight where a point other than v lies on both lines
pub straight_through : (p : Spot) → IsSpot p → (a v c : Point)
    → cross (seen_from p a) (seen_from p v) ≡ pos 0
    → cross (seen_from p v) (seen_from p c) ≡ pos 0
    → pos 0 <ℤ dot (seen_from p v) (seen_from p v)
    → bend a v c ≡ pos 0
straight_through p p_is a v c first second long =
    bend_is_turn a v c ∙ ap neg_ℤ
    (zero_of_positive p.w (turn_at (edge a c) (spot_at v)) p_is
    (zero_of_positive p.w (p.w *ℤ turn_at (edge a c) (spot_at v)) p_is
    (sym (turn_seen p v (edge a c)) ∙ level)))
  where
    back : cross (seen_from p v) (seen_from p a) ≡ pos 0
    back = let turned = cross-turn (seen_from p a) (seen_from p v) in omega (arith, ints)

    across : cross (seen_from p a) (seen_from p c) ≡ pos 0
    across =
        on_both_lines (seen_from p v) (seen_from p a) (seen_from p c) back long second

    level : cross (from_to (seen_from p v) (seen_from p a))
        (from_to (seen_from p v) (seen_from p c))
        ≡ pos 0
    level =
        let whole = seen_cross (seen_from p v) (seen_from p a) (seen_from p c) in
        let one = across in
        let other = back in
        omega (arith, ints)

-- ---- plans

-- p is this plan point
abbrev pub IsAt : Spot → Point → Type 0
IsAt p v = ((seen_from p v).x ≡ pos 0) × ((seen_from p v).y ≡ pos 0)

-- the two have no point in common but the one where one ends and the other begins
abbrev pub MeetAtCorner : Edge → Edge → Type 0
MeetAtCorner e f =
    (p : Spot) → IsSpot p → is_on p e ≡ true → is_on p f ≡ true
    → ((e.b ≡ f.a) × IsAt p e.b) ⊎ ((f.b ≡ e.a) × IsAt p f.b)

on_line : (p : Spot) (e : Edge) → is_on p e ≡ true → turn_at e p ≡ pos 0
on_line p e on =
    (Decides-int_eq (turn_at e p) (pos 0)).0
    (and_parts (int_eq (turn_at e p) (pos 0)) (int_le (reach_at e p) (pos 0)) on).0

at_corner : (loops : List (List Point)) → list_all is_bent_loop loops ≡ true
    → are_apart loops ≡ true → (e f : Edge) → Stands e (edges_of loops)
    → Stands f (edges_of loops) → e.b ≡ f.a → (p : Spot) → IsSpot p → is_on p e ≡ true
    → is_on p f ≡ true → IsAt p e.b
at_corner loops bent apart e f at_e at_f same p p_is on_e on_f =
    from (equal_or_not (dot (seen_from p e.b) (seen_from p e.b)) (pos 0))
  where
    second : cross (seen_from p e.b) (seen_from p f.b) ≡ pos 0
    second = ap (λ v. cross (seen_from p v) (seen_from p f.b)) same ∙ on_line p f on_f

    from : (dot (seen_from p e.b) (seen_from p e.b) ≡ pos 0)
        ⊎ (dot (seen_from p e.b) (seen_from p e.b) ≡ pos 0 → ⊥)
        → IsAt p e.b
    from (inl none) = no_length (seen_from p e.b) (omega (arith, ints))
    from (inr some) =
        absurd
        (bent_is_not_0 (bend e.a e.b f.b) (bent_at_corner loops bent apart e f at_e at_f same)
        (straight_through p p_is e.a e.b f.b (on_line p e on_e) second
        (some_length (seen_from p e.b) some)))

-- so it is with each two edges of loops that are bent and apart
pub edges_meet_at_corners : (loops : List (List Point)) → list_all is_bent_loop loops ≡ true
    → are_apart loops ≡ true → AllOfTwo MeetAtCorner (edges_of loops)
edges_meet_at_corners loops bent apart =
    two_follow MeetAtEnds MeetAtCorner (edges_of loops)
    (λ e f at_e at_f meet p p_is on_e on_f.
    from e f at_e at_f p p_is on_e on_f
    (or_cases (is_same_point e.b f.a) (is_same_point f.b e.a) (meet p p_is on_e on_f)))
    (edges_meet_at_ends loops apart)
  where
    from : (e f : Edge) → Stands e (edges_of loops) → Stands f (edges_of loops)
        → (p : Spot) → IsSpot p → is_on p e ≡ true → is_on p f ≡ true
        → (is_same_point e.b f.a ≡ true) ⊎ (is_same_point f.b e.a ≡ true)
        → ((e.b ≡ f.a) × IsAt p e.b) ⊎ ((f.b ≡ e.a) × IsAt p f.b)
    from e f at_e at_f p p_is on_e on_f (inl first) =
        let same = same_point e.b f.a first in
        inl (same, at_corner loops bent apart e f at_e at_f same p p_is on_e on_f)
    from e f at_e at_f p p_is on_e on_f (inr second) =
        let same = same_point f.b e.a second in
        inr (same, at_corner loops bent apart f e at_f at_e same p p_is on_f on_e)

-- loops are bent
pub loops_are_bent : (loops : List (List Point)) → list_all is_loop loops ≡ true
    → list_all is_bent_loop loops ≡ true
loops_are_bent [] all = refl
loops_are_bent (points ∷ loops) all =
    let parts = and_parts (is_loop points) (list_all is_loop loops) all in
    and_from (is_bent_loop points) (list_all is_bent_loop loops) (loop_is points parts.0).bent
    (loops_are_bent loops parts.1)

-- and with each two of a plan
pub plan_edges_meet_at_corners : (loops : List (List Point)) → IsTrue (is_plan loops)
    → AllOfTwo MeetAtCorner (edges_of loops)
plan_edges_meet_at_corners loops is =
    edges_meet_at_corners loops (loops_are_bent loops (plan_is loops is).each)
    (plan_is loops is).apart
