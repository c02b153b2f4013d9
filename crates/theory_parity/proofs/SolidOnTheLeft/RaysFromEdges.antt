-- From a point strictly inside an edge, through which no other edge passes, all rays to the right
-- of the edge strike an odd number of edges or all an even one, and those to its left the opposite.

use Rattle.std.proofs.Common.{◌≡◌, refl, sym, ap, ap₂, ◌∙◌, arith, pos, neg_ℤ, ◌<ℤ◌}
use Rattle.std.proofs.Common.{◌*ℤ◌, Bool, true, false, not, ◌&&◌, int_lt, List}
use Rattle.std.proofs.lemmas.Int.{ints}
use Rattle.theory_lists.specs.Members.{Stands}
use Rattle.theory_lists.specs.Parity.{differ, is_odd_number}
use Rattle.theory_lists.proofs.Parity.{same_from_differ, odd_where_same, opposite_from_differ}
use Rattle.theory_lists.proofs.Parity.{is_odd_number-and}
use Rattle.theory_numbers.specs.Tests.{is_positive}
use Rattle.theory_numbers.specs.Arrows.{Arrow, cross, dot, opposite}
use Rattle.theory_numbers.proofs.Vectors.Arrows.{cross-turn, cross-self, cross-opposite, opposite-cross}
use Rattle.theory_numbers.proofs.Ring.{mul-zero, neg-mul, mul_comm, mul-neg}
use Rattle.theory_numbers.proofs.Signs.{test_less, test_not_less}
use Rattle.theory_numbers.proofs.Vectors.ThreeTerms.{frame_cross}
use Rattle.theory_lists.proofs.Members.{all_that_stand}
use Rattle.theory_numbers.proofs.Multiples.{sign_of_multiple}
use Rattle.sb_fraction.specs.declared.point.Point.{Point}
use Rattle.sb_fraction.specs.Spots.{Spot}
use Rattle.sb_fraction.specs.Edges.{Edge, span_of, seen_from, is_on}
use Rattle.theory_plans.specs.LoopEdges.{edges_of}
use Rattle.theory_plans.specs.Rays.{is_left_of, is_struck}
use Rattle.theory_parity.proofs.Rays.AnyRay.{is_in_wedge}
use Rattle.theory_parity.proofs.SolidOnTheLeft.OwnPoints.{IsOwn, IsLong}
use Rattle.theory_parity.proofs.SolidOnTheLeft.RaysAnywhere.{is_swept, turned_anywhere}

-- ---- the ends of the edge, beside a ray

module _ (e : Edge) (p : Spot) (n : Arrow) (long : IsLong e) (own : IsOwn e p) where
  -- the end a lies left of the ray where the edge comes from there
  pub left_of_a : is_left_of n p e.a ≡ is_positive (cross (span_of e) n)
  left_of_a =
      let behind = own.past in
      sym (sign_of_multiple (dot (span_of e) (span_of e)) (cross n (seen_from p e.a)) long)
      ∙ ap (int_lt (pos 0)) whole
      ∙ sign_of_multiple (neg_ℤ (dot (span_of e) (seen_from p e.a))) (cross (span_of e) n)
      (omega (arith, ints))
    where
      whole : dot (span_of e) (span_of e) *ℤ cross n (seen_from p e.a)
          ≡ neg_ℤ (dot (span_of e) (seen_from p e.a)) *ℤ cross (span_of e) n
      whole =
          let frame = frame_cross (span_of e) n (seen_from p e.a) in
          let level = own.along.a_level in
          let none : dot (span_of e) n *ℤ cross (span_of e) (seen_from p e.a) ≡ pos 0 =
          ap (λ t. dot (span_of e) n *ℤ t) level ∙ mul-zero (dot (span_of e) n) in
          let turn = neg-mul (dot (span_of e) (seen_from p e.a)) (cross (span_of e) n) in
          let swap = mul_comm (dot (span_of e) (seen_from p e.a)) (cross (span_of e) n) in
          omega (arith, ints)

  -- the end b where it goes there
  pub left_of_b : is_left_of n p e.b ≡ is_positive (cross n (span_of e))
  left_of_b =
      let ahead = own.before in
      sym (sign_of_multiple (dot (span_of e) (span_of e)) (cross n (seen_from p e.b)) long)
      ∙ ap (int_lt (pos 0)) whole
      ∙ sign_of_multiple (dot (span_of e) (seen_from p e.b)) (cross n (span_of e)) ahead
    where
      whole : dot (span_of e) (span_of e) *ℤ cross n (seen_from p e.b)
          ≡ dot (span_of e) (seen_from p e.b) *ℤ cross n (span_of e)
      whole =
          let frame = frame_cross (span_of e) n (seen_from p e.b) in
          let level = own.along.b_level in
          let none : dot (span_of e) n *ℤ cross (span_of e) (seen_from p e.b) ≡ pos 0 =
          ap (λ t. dot (span_of e) n *ℤ t) level ∙ mul-zero (dot (span_of e) n) in
          let turn = ap (λ t. dot (span_of e) (seen_from p e.b) *ℤ t) (cross-turn (span_of e) n)
          ∙ mul-neg (dot (span_of e) (seen_from p e.b)) (cross (span_of e) n) in
          let swap = mul_comm (dot (span_of e) (seen_from p e.b)) (cross (span_of e) n) in
          omega (arith, ints)

-- the ray turned from r to s passes one end of the edge alone
abbrev pub passes_an_end : Edge → Arrow → Arrow → Bool
passes_an_end e r s =
    differ (is_positive (cross (span_of e) r) && not (is_positive (cross (span_of e) s)))
    (is_positive (cross r (span_of e)) && not (is_positive (cross s (span_of e))))

-- ---- a point through which no other edge passes

-- an edge of the list on which the point lies is this one
abbrev pub IsAloneAt : List Edge → Edge → Spot → Type 0
IsAloneAt es e p = (g : Edge) → Stands g es → is_on p g ≡ true → g ≡ e

module _ (loops : List (List Point)) (e : Edge) (p : Spot) (long : IsLong e) (own : IsOwn e p)
    (alone : IsAloneAt (edges_of loops) e p) where
  -- between two rays the parity changes where the turn passes an end of the edge
  turned_at_edge : (r s : Arrow) → pos 0 <ℤ cross r s
      → differ (is_odd_number (is_struck r p) (edges_of loops))
      (is_odd_number (is_struck s p) (edges_of loops))
      ≡ (is_odd_number (is_on p) (edges_of loops) && passes_an_end e r s)
  turned_at_edge r s left =
      turned_anywhere r s p left loops
      ∙ odd_where_same (is_swept r s p) (λ g. is_on p g && passes_an_end e r s) (edges_of loops)
      (all_that_stand (λ g. is_swept r s p g ≡ (is_on p g && passes_an_end e r s)) (edges_of loops)
      (λ g stands. by g (is_on p g) refl (alone g stands)))
      ∙ is_odd_number-and (is_on p) (passes_an_end e r s) (edges_of loops)
    where
      at_own : differ (is_in_wedge r s p e.a) (is_in_wedge r s p e.b) ≡ passes_an_end e r s
      at_own =
          ap₂ differ
          (ap₂ (λ t u. t && not u) (left_of_a e p r long own) (left_of_a e p s long own))
          (ap₂ (λ t u. t && not u) (left_of_b e p r long own) (left_of_b e p s long own))

      by : (g : Edge) (on : Bool) → is_on p g ≡ on → (is_on p g ≡ true → g ≡ e)
          → is_swept r s p g ≡ (is_on p g && passes_an_end e r s)
      by g true on known =
          ap (λ t. is_on p g && t)
          (ap (λ h. differ (is_in_wedge r s p h.a) (is_in_wedge r s p h.b)) (known on) ∙ at_own)
      by g false off known =
          ap (λ t. t && differ (is_in_wedge r s p g.a) (is_in_wedge r s p g.b)) off
          ∙ sym (ap (λ t. t && passes_an_end e r s) off)

  back : Arrow
  back = opposite (span_of e)

  nothing : (b : Bool) → (b && false) ≡ false
  nothing true = refl
  nothing false = refl

  -- a ray to the right of the edge strikes as many, by parity, as the one back along the edge
  pub right_ray : (n : Arrow) → pos 0 <ℤ cross n (span_of e)
      → is_odd_number (is_struck n p) (edges_of loops)
      ≡ is_odd_number (is_struck (opposite (span_of e)) p) (edges_of loops)
  unfolding back
  right_ray n right =
      sym
      (same_from_differ
      (is_odd_number (is_struck (opposite (span_of e)) p) (edges_of loops))
      (is_odd_number (is_struck n p) (edges_of loops))
      (turned_at_edge (opposite (span_of e)) n left
      ∙ ap (λ t. is_odd_number (is_on p) (edges_of loops) && t) none
      ∙ nothing (is_odd_number (is_on p) (edges_of loops))))
    where
      left : pos 0 <ℤ cross (opposite (span_of e)) n
      left =
          let turned = opposite-cross (span_of e) n in
          let turn = cross-turn n (span_of e) in
          omega (arith, ints)

      none : passes_an_end e (opposite (span_of e)) n ≡ false
      none =
          let self = cross-self (span_of e) in
          let one = cross-opposite (span_of e) (span_of e) in
          let other = opposite-cross (span_of e) (span_of e) in
          rw (
            test_not_less (pos 0) (cross (span_of e) (opposite (span_of e))) (omega (arith, ints)),
            test_not_less (pos 0) (cross (opposite (span_of e)) (span_of e)) (omega (arith, ints)),
          ) refl

  -- one to its left the opposite
  pub left_ray : is_odd_number (is_on p) (edges_of loops) ≡ true → (n : Arrow)
      → cross n (span_of e) <ℤ pos 0
      → is_odd_number (is_struck n p) (edges_of loops)
      ≡ not (is_odd_number (is_struck (opposite (span_of e)) p) (edges_of loops))
  left_ray odd n left =
      opposite_from_differ
      (is_odd_number (is_struck n p) (edges_of loops))
      (is_odd_number (is_struck (opposite (span_of e)) p) (edges_of loops))
      (turned_at_edge n (opposite (span_of e)) turns_left
      ∙ ap₂ (λ t u. t && u) odd one_end)
    where
      turns_left : pos 0 <ℤ cross n (opposite (span_of e))
      turns_left = let turned = cross-opposite n (span_of e) in omega (arith, ints)

      one_end : passes_an_end e n (opposite (span_of e)) ≡ true
      one_end =
          let self = cross-self (span_of e) in
          let one = cross-opposite (span_of e) (span_of e) in
          let turn = cross-turn n (span_of e) in
          rw (
            test_less (pos 0) (cross (span_of e) n) (omega (arith, ints)),
            test_not_less (pos 0) (cross (span_of e) (opposite (span_of e))) (omega (arith, ints)),
            test_not_less (pos 0) (cross n (span_of e)) (omega (arith, ints)),
          ) refl
