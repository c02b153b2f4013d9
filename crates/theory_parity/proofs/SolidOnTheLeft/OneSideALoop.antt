-- Of bent loops with edges that are apart, the solid lies on the left of all edges of a loop or of
-- none of them; and it lies on the left of an edge exactly where it does not lie on the left of the
-- edge turned round.

use Rattle.std.proofs.Common.{◌≡◌, refl, sym, ap, ap₂, ◌∙◌, inl, inr, arith, ℤ, pos, neg_ℤ}
use Rattle.std.proofs.Common.{◌+ℤ◌, ◌-ℤ◌, true, not, List, [], ◌∷◌, subst}
use Rattle.std.specs.List.{list_all, AllByRecursion}
use Rattle.std.proofs.lemmas.Int.{ints}
use Rattle.std.proofs.lemmas.Bool.{and_parts, false≢true}
use Rattle.theory_lists.specs.Members.{Stands}
use Rattle.theory_lists.specs.Parity.{is_odd_number}
use Rattle.theory_lists.proofs.Members.{all_stands, all_follow}
use Rattle.theory_numbers.specs.Arrows.{cross, dot, opposite}
use Rattle.theory_numbers.proofs.Vectors.Arrows.{same_arrow, opposite-cross}
use Rattle.theory_numbers.proofs.Shapes.{var, minus, negated, equal, cross_by, dot_by}
use Rattle.theory_lists.proofs.Members.{all_that_stand}
use Rattle.theory_lists.proofs.Blocks.{all_in_parts}
use Rattle.sb_fraction.specs.declared.point.Point.{Point}
use Rattle.sb_fraction.specs.Spots.{spot}
use Rattle.sb_fraction.specs.Edges.{Edge, edge, span_of}
use Rattle.theory_plans.specs.LoopEdges.{edges_back, edges_of_loop, edges_of}
use Rattle.theory_plans.specs.Loops.{is_bent, are_bent, is_bent_loop}
use Rattle.theory_plans.specs.Plans.{middle_of, right_of, is_solid_left_of}
use Rattle.theory_plans.specs.Rays.{is_struck}
use Rattle.theory_parity.specs.Sides.{AreBentApart, turned_edge}
use Rattle.theory_parity.proofs.SolidOnTheLeft.OwnPoints.{middle_is_own}
use Rattle.theory_parity.proofs.SolidOnTheLeft.RaysFromEdges.{right_ray, left_ray}
use Rattle.theory_parity.proofs.SolidOnTheLeft.RoundACorner.{round_a_corner}
use Rattle.theory_parity.proofs.SolidOnTheLeft.EdgesApart.{long_edges, alone_inside, odd_inside}
use Rattle.theory_parity.proofs.SolidOnTheLeft.EdgesApart.{alone_at_corner, bent_is}

-- the way to the right of an edge has it on its right
pub right_is_right : (e : Edge) → cross (right_of e) (span_of e) ≡ dot (span_of e) (span_of e)
right_is_right e =
    equal
    (cross_by (right_of e) (span_of e) (minus (var e.b.y) (var e.a.y))
    (negated (minus (var e.b.x) (var e.a.x))) (minus (var e.b.x) (var e.a.x))
    (minus (var e.b.y) (var e.a.y)))
    (dot_by (span_of e) (span_of e) (minus (var e.b.x) (var e.a.x)) (minus (var e.b.y) (var e.a.y))
    (minus (var e.b.x) (var e.a.x)) (minus (var e.b.y) (var e.a.y)))
    (omega arith)

right_of_turned : (e : Edge) → right_of (turned_edge e) ≡ opposite (right_of e)
right_of_turned e =
    same_arrow (right_of (turned_edge e)) (opposite (right_of e)) (once e.a.y e.b.y)
    (twice e.a.x e.b.x)
  where
    once : (a b : ℤ) → a -ℤ b ≡ neg_ℤ (b -ℤ a)
    once a b = omega (arith, ints)

    twice : (a b : ℤ) → neg_ℤ (a -ℤ b) ≡ neg_ℤ (neg_ℤ (b -ℤ a))
    twice a b = omega (arith, ints)

middle_of_turned : (e : Edge) → middle_of (turned_edge e) ≡ middle_of e
middle_of_turned e =
    ap₂ (λ x y. spot x y (pos 0) (pos 2)) (swapped e.b.x e.a.x) (swapped e.b.y e.a.y)
  where
    swapped : (a b : ℤ) → a +ℤ b ≡ b +ℤ a
    swapped a b = omega (arith, ints)

module _ (loops : List (List Point)) (are : AreBentApart loops) where
  -- the ray to the right of an edge and the one back along it have one answer
  pub to_the_right : (e : Edge) → Stands e (edges_of loops)
      → is_odd_number (is_struck (right_of e) (middle_of e)) (edges_of loops)
      ≡ is_odd_number (is_struck (opposite (span_of e)) (middle_of e)) (edges_of loops)
  to_the_right e e_in =
      let long = long_edges loops are e e_in in
      let own = middle_is_own e long in
      right_ray loops e (middle_of e) long own
      (alone_inside loops are e e_in long (middle_of e) own) (right_of e)
      (omega (arith, ints, right_is_right e, long))

  to_the_left : (e : Edge) → Stands e (edges_of loops)
      → is_odd_number (is_struck (opposite (right_of e)) (middle_of e)) (edges_of loops)
      ≡ not (is_odd_number (is_struck (opposite (span_of e)) (middle_of e)) (edges_of loops))
  to_the_left e e_in =
      let long = long_edges loops are e e_in in
      let own = middle_is_own e long in
      let turned = opposite-cross (right_of e) (span_of e) in
      left_ray loops e (middle_of e) long own
      (alone_inside loops are e e_in long (middle_of e) own)
      (odd_inside loops are e e_in long (middle_of e) own) (opposite (right_of e))
      (omega (arith, ints, right_is_right e, long, turned))

  -- of an edge turned round the answer is the opposite
  pub turned_answer : (e : Edge) → Stands e (edges_of loops)
      → is_solid_left_of (turned_edge e) (edges_of loops)
      ≡ not (is_solid_left_of e (edges_of loops))
  turned_answer e e_in =
      ap₂ (λ r p. not (is_odd_number (is_struck r p) (edges_of loops))) (right_of_turned e)
      (middle_of_turned e)
      ∙ ap not (to_the_left e e_in ∙ sym (ap not (to_the_right e e_in)))

  -- two edges at a corner have one answer
  at_corner : (a c b : Point) → Stands (edge a c) (edges_of loops)
      → Stands (edge c b) (edges_of loops) → is_bent a c b ≡ true
      → is_solid_left_of (edge a c) (edges_of loops) ≡ is_solid_left_of (edge c b) (edges_of loops)
  at_corner a c b e_in f_in bent =
      let long_e = long_edges loops are (edge a c) e_in in
      let long_f = long_edges loops are (edge c b) f_in in
      ap not
      (to_the_right (edge a c) e_in
      ∙ round_a_corner loops a c b long_e long_f
      (alone_at_corner loops are a c b e_in f_in long_e long_f) (bent_is a c b bent)
      ∙ sym (to_the_right (edge c b) f_in))

  -- so all edges of a way have
  along_a_way : (a b : Point) (points : List Point) (first second : Point)
      → are_bent a b points first second ≡ true → Stands (edge a b) (edges_of loops)
      → AllByRecursion (λ e. Stands e (edges_of loops)) (edges_back b points first)
      → AllByRecursion
      (λ e. is_solid_left_of e (edges_of loops) ≡ is_solid_left_of (edge a b) (edges_of loops))
      (edges_back b points first)
  along_a_way a b [] first second bent e_in there =
      let parts = and_parts (is_bent a b first) (is_bent b first second) bent in
      (sym (at_corner a b first e_in there.0 parts.0), tt)
  along_a_way a b (c ∷ cs) first second bent e_in there =
      let parts = and_parts (is_bent a b c) (are_bent b c cs first second) bent in
      let step = sym (at_corner a b c e_in there.0 parts.0) in (
        step,
        all_follow (λ e same. same ∙ step) (edges_back c cs first)
            (along_a_way b c cs first second parts.1 there.0 there.1),
      )

  of_loop : (points : List Point) → is_bent_loop points ≡ true
      → AllByRecursion (λ e. Stands e (edges_of loops)) (edges_of_loop points)
      → (e f : Edge) → Stands e (edges_of_loop points) → Stands f (edges_of_loop points)
      → is_solid_left_of e (edges_of loops) ≡ is_solid_left_of f (edges_of loops)
  of_loop [] bent there e f e_in f_in = absurd e_in
  of_loop (a ∷ []) bent there e f e_in f_in = absurd (false≢true bent)
  of_loop (a ∷ b ∷ rest) bent there e f e_in f_in =
      let same : AllByRecursion
      (λ g. is_solid_left_of g (edges_of loops) ≡ is_solid_left_of (edge a b) (edges_of loops))
      (edges_of_loop (a ∷ b ∷ rest)) =
      (refl, along_a_way a b rest a b bent there.0 there.1) in
      all_stands
      (λ g. is_solid_left_of g (edges_of loops) ≡ is_solid_left_of (edge a b) (edges_of loops)) e
      (edges_of_loop (a ∷ b ∷ rest)) same e_in
      ∙ sym
      (all_stands
      (λ g. is_solid_left_of g (edges_of loops) ≡ is_solid_left_of (edge a b) (edges_of loops)) f
      (edges_of_loop (a ∷ b ∷ rest)) same f_in)

  of_loops : (points : List Point) (some : List (List Point)) → list_all is_bent_loop some ≡ true
      → AllByRecursion (λ e. Stands e (edges_of loops)) (edges_of some) → Stands points some
      → (e f : Edge) → Stands e (edges_of_loop points) → Stands f (edges_of_loop points)
      → is_solid_left_of e (edges_of loops) ≡ is_solid_left_of f (edges_of loops)
  of_loops points [] bent there stands e f e_in f_in = absurd stands
  of_loops points (first ∷ rest) bent there (inl same) e f e_in f_in =
      let parts = and_parts (is_bent_loop first) (list_all is_bent_loop rest) bent in
      let blocks = all_in_parts (λ g. Stands g (edges_of loops)) (edges_of_loop first)
      (edges_of rest) there in
      of_loop points (ap is_bent_loop same ∙ parts.0)
      (subst
      (λ l. AllByRecursion (λ g. Stands g (edges_of loops)) (edges_of_loop l)) (sym same) blocks.0)
      e f e_in f_in
  of_loops points (first ∷ rest) bent there (inr later) e f e_in f_in =
      let parts = and_parts (is_bent_loop first) (list_all is_bent_loop rest) bent in
      let blocks = all_in_parts (λ g. Stands g (edges_of loops)) (edges_of_loop first)
      (edges_of rest) there in
      of_loops points rest parts.1 blocks.1 later e f e_in f_in

  -- the edges of a loop have one answer
  pub one_side_a_loop : (points : List Point) → Stands points loops → (e f : Edge)
      → Stands e (edges_of_loop points) → Stands f (edges_of_loop points)
      → is_solid_left_of e (edges_of loops) ≡ is_solid_left_of f (edges_of loops)
  one_side_a_loop points stands =
      of_loops points loops are.bent
      (all_that_stand (λ e. Stands e (edges_of loops)) (edges_of loops) (λ e there. there)) stands
