-- An intersection of open half-planes whose points off finitely many lines lie inside a plan lies
-- inside the plan.

use Rattle.std.proofs.Common.{◌≡◌, refl, sym, ap, ◌∙◌, ◌⊎◌, inl, inr, arith, ℤ, pos, neg_ℤ}
use Rattle.std.proofs.Common.{◌<ℤ◌, ◌≤ℤ◌, ◌+ℤ◌, ◌-ℤ◌, ◌*ℤ◌, Bool, true, false, not, IsTrue}
use Rattle.std.proofs.Common.{List, [], ◌∷◌}
use Rattle.std.specs.List.{AllByRecursion, list_any, list_all}
use Rattle.std.specs.Ordering.{int_eq}
use Rattle.std.proofs.lemmas.Int.{ints}
use Rattle.std.proofs.lemmas.Bool.{and_parts, and_from, false≢true}
use Rattle.std.proofs.lemmas.Bool.Decides.{Decides-int_eq}
use Rattle.theory_lists.specs.Members.{Stands}
use Rattle.theory_lists.proofs.Members.{all_stands, any_stands, one_of_any}
use Rattle.theory_lists.proofs.Parity.{odd_if_alone}
use Rattle.theory_numbers.specs.Arrows.{Arrow}
use Rattle.theory_numbers.proofs.Signs.{less_from, test_less, above_or_not}
use Rattle.theory_numbers.proofs.Products.{positive_product, weak_product}
use Rattle.sb_fraction.specs.declared.point.Point.{Point}
use Rattle.sb_fraction.specs.Spots.{Spot, IsSpot}
use Rattle.sb_fraction.specs.Edges.{Edge, is_on}
use Rattle.theory_plans.specs.LoopEdges.{edges_of}
use Rattle.theory_plans.specs.Inside.{is_in_plan}
use Rattle.theory_plans.specs.Plans.{is_plan, is_same_point}
use Rattle.theory_plans.proofs.Edges.EdgesOfPlans.{is_proper_edge, plan_edges_are_proper}
use Rattle.theory_plans.proofs.Edges.StepsOfEdges.{proper_is}
use Rattle.theory_parity.specs.Halves.{Half, IsLine, height_over, is_in_half, is_in_all, left_half}
use Rattle.theory_parity.specs.Halves.{on_way, IsInsideOff, IsInsideThroughout}
use Rattle.theory_parity.proofs.FromPointToPoint.Heights.{height-on_way, on_way_is}
use Rattle.theory_parity.proofs.FromPointToPoint.Moves.{moves}
use Rattle.theory_parity.proofs.Regions.NearALine.{far_along, IsFreeWay, free_way}
use Rattle.theory_parity.proofs.Regions.NoEdgeInside.{IsBeside, beside, beside_is, off_lines, even_through}
use Rattle.theory_parity.proofs.Regions.PointOfAnEdge.{IsPlain, plain_point}
use Rattle.theory_parity.proofs.Regions.OneEdgeThroughAPoint.{at_most_one_passes}

-- the points between two points of open half-planes lie in them
pub between_in_all : (m : ℤ) (p : Spot) (n : ℤ) (q : Spot) (halves : List Half) → pos 0 ≤ℤ m
    → pos 0 ≤ℤ n → pos 0 <ℤ (m +ℤ n) → is_in_all halves p ≡ true → is_in_all halves q ≡ true
    → is_in_all halves (on_way m p n q) ≡ true
between_in_all m p n q [] m_in n_in some at_p at_q = refl
between_in_all m p n q (h ∷ halves) m_in n_in some at_p at_q =
    let first = and_parts (is_in_half p h) (is_in_all halves p) at_p in
    let second = and_parts (is_in_half q h) (is_in_all halves q) at_q in
    and_from (is_in_half (on_way m p n q) h) (is_in_all halves (on_way m p n q))
    (test_less (pos 0) (height_over h (on_way m p n q))
    (omega (
      arith,
      ints,
      height-on_way h m p n q,
      weighed (height_over h p) (height_over h q) (less_from (pos 0) (height_over h p) first.0)
          (less_from (pos 0) (height_over h q) second.0) (above_or_not m),
    )))
    (between_in_all m p n q halves m_in n_in some first.1 second.1)
  where
    weighed : (a b : ℤ) → pos 0 <ℤ a → pos 0 <ℤ b → (pos 0 <ℤ m) ⊎ (m ≤ℤ pos 0)
        → pos 0 <ℤ ((m *ℤ a) +ℤ (n *ℤ b))
    weighed a b a_in b_in (inl above) =
        let one = positive_product m a above a_in in
        let other = weak_product n b n_in (omega (arith, ints)) in
        omega (arith, ints)
    weighed a b a_in b_in (inr none) =
        let one = weak_product m a m_in (omega (arith, ints)) in
        let other = positive_product n b (omega (arith, ints)) b_in in
        omega (arith, ints)

-- no point of the half-planes lies on an edge of the plan
abbrev pub HasNoEdge : List (List Point) → List Half → Type 0
HasNoEdge loops halves =
    (p : Spot) → IsSpot p → is_in_all halves p ≡ true → list_any (is_on p) (edges_of loops) ≡ false

-- where no edge passes, what holds off the lines holds on them too
pub inside_throughout_off_edges : (loops : List (List Point)) (cuts halves : List Half)
    → AllByRecursion IsLine cuts → IsInsideOff loops cuts (is_in_all halves) → HasNoEdge loops halves
    → (q : Spot) → IsSpot q → is_in_all halves q ≡ true → is_in_plan loops q ≡ true
inside_throughout_off_edges loops cuts halves cuts_in inside no_edge q q_is at =
    from (free_way cuts cuts_in)
  where
    by : (n s : Arrow) → IsBeside q n halves cuts s → is_in_plan loops q ≡ true
    by n s near =
        let p = on_way s.x q s.y (far_along n) in
        let p_is = beside_is q n s q_is near.rational in
        moves loops q p q_is p_is
        (λ k l k_in l_in some.
        no_edge (on_way k q l p) (on_way_is k q l p q_is p_is k_in l_in some)
        (between_in_all k q l p halves k_in l_in some at near.inside))
        ∙ inside p p_is near.inside (off_lines q p cuts near.signs)

    with_way : (n : Arrow) → (s : Arrow) × IsBeside q n halves cuts s → is_in_plan loops q ≡ true
    with_way n (s, near) = by n s near

    from : (n : Arrow) × IsFreeWay cuts n → is_in_plan loops q ≡ true
    from (n, free) = with_way n (beside q n halves cuts at free.slanted)

-- ---- no edge passes

proper_is_line : (e : Edge) → is_proper_edge e ≡ true → IsLine (left_half e)
proper_is_line e proper zero =
    false≢true (sym (ap not same) ∙ (proper_is e proper).differ)
  where
    equal_from : (a b : ℤ) → b -ℤ a ≡ pos 0 → a ≡ b
    equal_from a b none = omega (arith, ints)

    unturned : (z : ℤ) → neg_ℤ z ≡ pos 0 → z ≡ pos 0
    unturned z none = omega (arith, ints)

    same : is_same_point e.a e.b ≡ true
    same =
        and_from (int_eq e.a.x e.b.x) (int_eq e.a.y e.b.y)
        ((Decides-int_eq e.a.x e.b.x).1 (equal_from e.a.x e.b.x zero.1))
        ((Decides-int_eq e.a.y e.b.y).1
        (equal_from e.a.y e.b.y (unturned (e.b.y -ℤ e.a.y) zero.0)))

lines_of : (es : List Edge) → list_all is_proper_edge es ≡ true
    → AllByRecursion (λ e. IsLine (left_half e)) es
lines_of [] proper = tt
lines_of (e ∷ es) proper =
    let parts = and_parts (is_proper_edge e) (list_all is_proper_edge es) proper in
    (proper_is_line e parts.0, lines_of es parts.1)

-- no point of the half-planes lies on an edge
pub no_edge_passes : (loops : List (List Point)) → IsTrue (is_plan loops) → (cuts halves : List Half)
    → AllByRecursion IsLine cuts → IsInsideOff loops cuts (is_in_all halves)
    → HasNoEdge loops halves
no_edge_passes loops plan cuts halves cuts_in inside t t_is at =
    by (list_any (is_on t) (edges_of loops)) refl
  where
    edges_in : AllByRecursion (λ e. IsLine (left_half e)) (edges_of loops)
    edges_in = lines_of (edges_of loops) (plan_edges_are_proper loops plan)

    clash : (e : Edge) → Stands e (edges_of loops)
        → (m : Spot) × IsPlain halves (edges_of loops) e m → ⊥
    clash e stands (m, plain) =
        false≢true
        (sym (even_through loops cuts halves cuts_in edges_in inside m plain.is plain.inside
        plain.no_corner)
        ∙ odd_if_alone (is_on m) (edges_of loops)
        (at_most_one_passes loops plan m plain.is plain.no_corner)
        (any_stands (is_on m) e (edges_of loops) stands plain.on))

    none : (e : Edge) × (Stands e (edges_of loops) × (is_on t e ≡ true)) → ⊥
    none (e, known) =
        clash e known.0
        (plain_point halves (edges_of loops) e t t_is
        (all_stands (λ f. IsLine (left_half f)) e (edges_of loops) edges_in known.0) at known.1)

    by : (b : Bool) → list_any (is_on t) (edges_of loops) ≡ b
        → list_any (is_on t) (edges_of loops) ≡ false
    by true some = absurd (none (one_of_any (is_on t) (edges_of loops) some))
    by false off = off

-- a convex region whose points off finitely many lines are inside a plan lies inside it
pub inside_throughout : (loops : List (List Point)) → IsTrue (is_plan loops)
    → (cuts halves : List Half) → AllByRecursion IsLine cuts
    → IsInsideOff loops cuts (is_in_all halves) → IsInsideThroughout loops (is_in_all halves)
inside_throughout loops plan cuts halves cuts_in inside =
    inside_throughout_off_edges loops cuts halves cuts_in inside
    (no_edge_passes loops plan cuts halves cuts_in inside)
