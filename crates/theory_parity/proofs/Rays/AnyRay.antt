-- From a point on no edge of closed loops all rays strike an odd number of edges, or all an even one.

use Rattle.std.proofs.Common.{◌≡◌, refl, sym, ap, ◌∙◌, ◌⊎◌, inl, inr, arith, pos, neg_ℤ}
use Rattle.std.proofs.Common.{◌<ℤ◌, ◌≤ℤ◌, ◌*ℤ◌}
use Rattle.std.proofs.Common.{Bool, false, not, ◌&&◌, int_lt, int_le, List}
use Rattle.std.specs.Ordering.{int_eq}
use Rattle.std.specs.List.{list_any}
use Rattle.std.proofs.lemmas.Int.{ints}
use Rattle.std.proofs.lemmas.Bool.{and_from, false≢true}
use Rattle.std.proofs.lemmas.Bool.Decides.{Decides-int_eq}
use Rattle.theory_lists.specs.Parity.{differ, is_odd_number}
use Rattle.theory_numbers.specs.Arrows.{Arrow, cross, dot, turned}
use Rattle.theory_numbers.proofs.Vectors.Arrows.{cross-turn}
use Rattle.theory_numbers.proofs.Shapes.{var, negated, equal, cross_by, dot_is}
use Rattle.theory_numbers.proofs.Signs.{opposite_tests}
use Rattle.theory_numbers.proofs.Signs.{test_not_less}
use Rattle.theory_numbers.proofs.Signs.{test_at_most, sign_cases}
use Rattle.theory_numbers.proofs.Products.{weak_factor, weak_negative_factor}
use Rattle.theory_numbers.proofs.Products.{positive_product}
use Rattle.theory_numbers.proofs.Vectors.Lengths.{opposed}
use Rattle.theory_numbers.proofs.Vectors.ThreeTerms.{three_terms, frame_dot}
use Rattle.theory_numbers.proofs.SignTables.{alike_up, apart_down, turn_table}
use Rattle.sb_fraction.specs.declared.point.Point.{Point}
use Rattle.sb_fraction.specs.Spots.{Spot}
use Rattle.sb_fraction.specs.Edges.{Edge, edge, seen_from, turn_at, reach_at, is_on}
use Rattle.theory_plans.specs.LoopEdges.{edges_of}
use Rattle.theory_plans.specs.Rays.{is_left_of, is_struck}
use Rattle.theory_parity.specs.Below.{IsWay}
use Rattle.theory_parity.proofs.Rays.ClosedChains.{Telescopes, closed_chains}

-- ---- a point off an edge

-- where the point lies on the line of an edge it does not lie between its ends
pub off_edge : (p : Spot) (e : Edge) → is_on p e ≡ false → turn_at e p ≡ pos 0
    → reach_at e p ≤ℤ pos 0 → ⊥
off_edge p e off level near =
    false≢true
    (sym off
    ∙ and_from (int_eq (turn_at e p) (pos 0)) (int_le (reach_at e p) (pos 0))
    ((Decides-int_eq (turn_at e p) (pos 0)).1 level) (test_at_most (reach_at e p) (pos 0) near))

-- where a ray has one end of an edge on its left and the other not, a point off the edge lies
-- strictly on one side of it
pub decided : (r : Arrow) (p : Spot) (e : Edge) → is_on p e ≡ false
    → is_left_of r p e.a ≡ not (is_left_of r p e.b)
    → int_lt (pos 0) (turn_at e p) ≡ not (int_lt (turn_at e p) (pos 0))
decided r p e off relation =
    opposite_tests (turn_at e p)
    (λ level.
    off_edge p e off level
    (opposed r (seen_from p e.a) (seen_from p e.b) (is_left_of r p e.a) (is_left_of r p e.b) refl
    refl relation level))

-- ---- two rays

-- a plan point lies left of the first ray and not of the second
abbrev pub is_in_wedge : Arrow → Arrow → Spot → Point → Bool
is_in_wedge r s p a = is_left_of r p a && not (is_left_of s p a)

-- turned to the left, a ray strikes an edge as before but where the wedge holds one of its ends
pub turns : (r s : Arrow) (p : Spot) → pos 0 <ℤ cross r s
    → Telescopes (is_on p) (is_struck r p) (is_struck s p) (is_in_wedge r s p)
turns r s p left = record { at = λ a b off. at_edge a b off }
  where
    at_edge : (a b : Point) → is_on p (edge a b) ≡ false
        → differ (is_struck r p (edge a b)) (is_struck s p (edge a b))
        ≡ differ (is_in_wedge r s p a) (is_in_wedge r s p b)
    at_edge a b off =
        let to_a = seen_from p a in
        let to_b = seen_from p b in
        let turn = cross to_a to_b in
        let terms = three_terms r s to_a to_b in
        turn_table (is_left_of r p a) (is_left_of s p a) (is_left_of r p b) (is_left_of s p b)
        (int_lt (pos 0) turn) (int_lt turn (pos 0))
        (λ alike apart.
        let one = alike_up (cross r to_a) (cross s to_b) alike in
        let other = apart_down (cross r to_b) (cross s to_a) apart in
        test_not_less turn (pos 0) (weak_factor (cross r s) turn left (omega (arith, ints))))
        (λ apart alike.
        let one = apart_down (cross r to_a) (cross s to_b) apart in
        let other = alike_up (cross r to_b) (cross s to_a) alike in
        test_not_less (pos 0) turn
        (weak_negative_factor (cross r s) turn left (omega (arith, ints))))
        (λ relation. decided r p (edge a b) off relation)
        (λ relation. decided s p (edge a b) off relation)

-- two rays from one point, the second to the left of the first
pub left_ray : (r s : Arrow) (p : Spot) → pos 0 <ℤ cross r s → (loops : List (List Point))
    → list_any (is_on p) (edges_of loops) ≡ false
    → is_odd_number (is_struck r p) (edges_of loops)
    ≡ is_odd_number (is_struck s p) (edges_of loops)
left_ray r s p left loops off = closed_chains (turns r s p left) loops off

-- any two rays from one point on no edge strike an odd number of edges both, or an even number both
pub any_ray : (r s : Arrow) (p : Spot) → IsWay r → IsWay s → (loops : List (List Point))
    → list_any (is_on p) (edges_of loops) ≡ false
    → is_odd_number (is_struck r p) (edges_of loops)
    ≡ is_odd_number (is_struck s p) (edges_of loops)
any_ray r s p r_is s_is loops off = from (sign_cases (cross r s))
  where
    square : cross r (turned r) ≡ dot r r
    square = equal (cross_by r (turned r) (var r.x) (var r.y) (negated (var r.y)) (var r.x))
        (dot_is r r) (omega arith)

    aside : cross (turned r) s ≡ neg_ℤ (dot r s)
    aside = equal (cross_by (turned r) s (negated (var r.y)) (var r.x) (var s.x) (var s.y))
        (negated (dot_is r s)) (omega arith)

    across : cross r s ≡ pos 0 → dot r s ≡ pos 0 → ⊥
    across level none =
        let whole = frame_dot r s s in
        let long = positive_product (dot r r) (dot s s) r_is s_is in
        let one : dot r s *ℤ dot r s ≡ pos 0 = ap (λ n. n *ℤ n) none in
        let other : cross r s *ℤ cross r s ≡ pos 0 = ap (λ n. n *ℤ n) level in
        omega (arith, ints)

    by_third : cross r s ≡ pos 0 → ((pos 0 <ℤ dot r s) ⊎ (dot r s ≡ pos 0)) ⊎ (dot r s <ℤ pos 0)
        → is_odd_number (is_struck r p) (edges_of loops)
        ≡ is_odd_number (is_struck s p) (edges_of loops)
    by_third level (inl (inl along)) =
        let turn = cross-turn (turned r) s in
        left_ray r (turned r) p (omega (arith, ints, square, r_is)) loops off
        ∙ sym (left_ray s (turned r) p (omega (arith, ints, aside, turn, along)) loops off)
    by_third level (inl (inr none)) = absurd (across level none)
    by_third level (inr against) =
        left_ray r (turned r) p (omega (arith, ints, square, r_is)) loops off
        ∙ left_ray (turned r) s p (omega (arith, ints, aside, against)) loops off

    from : ((pos 0 <ℤ cross r s) ⊎ (cross r s ≡ pos 0)) ⊎ (cross r s <ℤ pos 0)
        → is_odd_number (is_struck r p) (edges_of loops)
        ≡ is_odd_number (is_struck s p) (edges_of loops)
    from (inl (inl left)) = left_ray r s p left loops off
    from (inl (inr level)) = by_third level (sign_cases (dot r s))
    from (inr right) =
        let turn = cross-turn r s in
        sym (left_ray s r p (omega (arith, ints)) loops off)
