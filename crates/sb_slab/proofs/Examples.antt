-- The slabs of one room along x, told one after another, and wrong ones that are refused.

use Rattle.std.proofs.Common.{◌≡◌, inl, inr, refl, sym, ap, ◌∙◌, subst, arith, ℕ, pos}
use Rattle.std.proofs.Common.{◌<◌, true, false, IsTrue, List, [], ◌∷◌, length, slice_get, IsPermutation}
use Rattle.std.proofs.lemmas.Int.{ints}
use Rattle.std.proofs.lemmas.List.Sorted.{IsPermutation-refl}
use Rattle.std.proofs.lemmas.Option.{same_Some}
use Rattle.std.proofs.lemmas.Bool.Decides.{Decides-int_eq}
use Rattle.std.specs.List.{AllByRecursion}
use Rattle.std.specs.Ordering.{int_eq}
use Rattle.theory_lists.specs.Members.{Stands}
use Rattle.theory_lists.proofs.Members.{all_stands, one_of_any}
use Rattle.theory_numbers.specs.Arrows.{Arrow, arrow, cross, dot}
use Rattle.theory_numbers.specs.Divisors.{greatest_divisor, divisor_within}
use Rattle.theory_numbers.specs.Fractions.{Ratio, whole}
use Rattle.theory_numbers.specs.Rationals.{rational, IsBelow, IsSame}
use Rattle.theory_numbers.proofs.Fractions.Clear.{positive_between}
use Rattle.theory_plane.specs.Sides.{clearance, clearance_at}
use Rattle.sb_fraction.specs.declared.direction.Direction.{Direction}
use Rattle.sb_fraction.specs.Lines.{flat, line_over, span_along}
use Rattle.sb_fraction.specs.Plane.{is_direction}
use Rattle.sb_model.specs.Building.{Building}
use Rattle.sb_model.specs.PlanEdges.{PlanEdge, plan_edges, is_abscissa}
use Rattle.theory_models.proofs.ExampleModels.{plan_point, model, box_room}
use Rattle.theory_models.specs.Abscissae.{abscissae_of}
use Rattle.theory_models.proofs.AbscissaeListed.{abscissa_is_among}
use Rattle.theory_lines.specs.Slabs.{AreAbscissae, IsSlabOrder, IsUnder, spanning_places}
use Rattle.theory_lines.proofs.NeighboursInAList.{neighbours_in_list}
use Rattle.theory_lines.proofs.SlabOrderIsOne.{before_by_edges, slab_order_is_one}
use Rattle.sb_frame.specs.declared.slab.Slab.{Slab}
use Rattle.sb_slab.specs.Slabs.{SlabsLeft, HasLeft, IsNext, are_ends}

-- the direction along x
abbrev along_x : Arrow
along_x = arrow (pos 1) (pos 0)

x_is_direction : IsTrue (is_direction (pos 1) (pos 0))
unfolding greatest_divisor divisor_within
x_is_direction = refl

abbrev given_x : Direction
given_x = record { x = pos 1; y = pos 0; is_direction = x_is_direction }

-- the whole number n
abbrev at : ℕ → Arrow
at n = rational (pos n) (pos 1)

-- a room of 10 by 10 mm
abbrev one_room : Building
one_room = model (box_room 20 0 10 0 10 10 refl ∷ []) []

-- ---- its abscissae

abbrev two_abscissae : List Arrow
two_abscissae = at 0 ∷ at 10 ∷ []

ends_are_two : AllByRecursion (λ a. Stands a two_abscissae) (abscissae_of one_room (flat along_x))
unfolding cross dot
ends_are_two = (
  inl refl,
  (
    inr (inl refl),
    (
      inr (inl refl),
      (inr (inl refl), (inr (inl refl), (inl refl, (inl refl, (inl refl, tt))))),
    ),
  ),
)

each_is_one : AllByRecursion (λ a. is_abscissa one_room (flat along_x) a ≡ true) two_abscissae
unfolding cross dot
each_is_one = (refl, (refl, tt))

below_by : (m n : ℕ) → m < n → IsBelow (at m) (at n)
unfolding cross
below_by m n less = omega (arith, ints)

two_are_all : AreAbscissae one_room along_x two_abscissae
two_are_all =
    record {
      rational = (omega (arith, ints), (omega (arith, ints), tt));
      rising = ((below_by 0 10 (omega arith), tt), (tt, tt));
      each = each_is_one;
      all = λ u u_in is.
          from u
          (one_of_any (λ a. int_eq (cross u a) (pos 0)) (abscissae_of one_room (flat along_x))
          (sym (abscissa_is_among one_room (flat along_x) u) ∙ is));
    }
  where
    from : (u : Arrow)
        → (a : Arrow) × (Stands a (abscissae_of one_room (flat along_x))
        × (int_eq (cross u a) (pos 0) ≡ true))
        → (a : Arrow) × (Stands a two_abscissae × IsSame u a)
    from u (a, known) = (
      a,
      (
        all_stands (λ b. Stands b two_abscissae) a (abscissae_of one_room (flat along_x))
            ends_are_two known.0,
        (Decides-int_eq (cross u a) (pos 0)).0 known.1,
      ),
    )

-- ---- what is left before the slab, and after it

abbrev left_with : List Arrow → SlabsLeft
left_with left =
    record { edges = plan_edges one_room; direction = along_x; left = left }

before_all : HasLeft one_room along_x [] (left_with two_abscissae)
before_all = record { edges = refl; direction = refl; abscissae = two_are_all }

after_one : HasLeft one_room along_x (at 0 ∷ []) (left_with (at 10 ∷ []))
after_one = record { edges = refl; direction = refl; abscissae = two_are_all }

-- not with another room's edges
other_edges_are_refused :
    HasLeft one_room along_x [] (record { edges = []; direction = along_x; left = two_abscissae }) → ⊥
other_edges_are_refused has =
    let none = ap (λ (es : List PlanEdge). length es) has.edges in absurd cc

-- ---- the slab from 0 to 10

abbrev lower_side : PlanEdge
lower_side = record {
  edge = record { a = plan_point 0 0; b = plan_point 10 0 };
  product = 20;
}

abbrev upper_side : PlanEdge
upper_side = record {
  edge = record { a = plan_point 10 10; b = plan_point 0 10 };
  product = 20;
}

two_span : spanning_places (plan_edges one_room) along_x (at 0) (at 10) ≡ 0 ∷ 2 ∷ []
unfolding cross
two_span = refl

clear_at_low : clearance_at (line_over along_x lower_side.edge) (line_over along_x upper_side.edge) (at 0)
    ≡ pos 1000
unfolding cross dot clearance span_along
clear_at_low = refl

clear_at_high : clearance_at (line_over along_x lower_side.edge) (line_over along_x upper_side.edge) (at 10)
    ≡ pos 1000
unfolding cross dot clearance span_along
clear_at_high = refl

lower_is_under : IsUnder along_x (at 0) (at 10) lower_side.edge upper_side.edge
lower_is_under =
    let low = clear_at_low in
    let high = clear_at_high in
    positive_between (clearance (line_over along_x lower_side.edge) (line_over along_x upper_side.edge))
    (at 0) (at 10) (below_by 0 10 (omega arith)) (omega (arith, ints)) (omega (arith, ints))
    (λ none none_high. absurd (omega (arith, ints)))

lower_first : IsSlabOrder (plan_edges one_room) along_x (at 0) (at 10) (0 ∷ 2 ∷ [])
lower_first =
    record {
      spanning =
          subst (IsPermutation (0 ∷ 2 ∷ [])) (sym two_span) (IsPermutation-refl (0 ∷ 2 ∷ []));
      ordered = (
        (
          before_by_edges (plan_edges one_room) along_x (at 0) (at 10) 0 2 lower_side upper_side refl
              refl (inl lower_is_under),
          tt,
        ),
        (tt, tt),
      );
    }

abbrev slab_to : ℕ → List ℕ → Slab
slab_to high order = record {
  direction = given_x;
  low = whole (pos 0);
  high = whole (pos high);
  order = order;
}

-- it is the next one
next_slab : IsNext one_room along_x [] (left_with two_abscissae) (left_with (at 10 ∷ []))
    (slab_to 10 (0 ∷ 2 ∷ []))
next_slab =
    record {
      direction = refl;
      low = refl;
      high = refl;
      neighbours = neighbours_in_list one_room along_x (at 0) (at 10) [] [] two_are_all;
      order = lower_first;
      rest = after_one;
    }

-- not with the upper side first
upper_first_is_refused :
    IsNext one_room along_x [] (left_with two_abscissae) (left_with (at 10 ∷ []))
    (slab_to 10 (2 ∷ 0 ∷ [])) → ⊥
upper_first_is_refused is =
    let same = same_first 2 0 (0 ∷ []) (2 ∷ [])
    (slab_order_is_one (plan_edges one_room) along_x (at 0) (at 10) (omega (arith, ints))
    (omega (arith, ints)) (below_by 0 10 (omega arith)) (2 ∷ 0 ∷ []) (0 ∷ 2 ∷ []) is.order
    lower_first) in
    absurd (omega arith)
  where
    same_first : (m n : ℕ) (ms ns : List ℕ) → m ∷ ms ≡ n ∷ ns → m ≡ n
    same_first m n ms ns same = same_Some m n (ap (λ (zs : List ℕ). slice_get zs 0) same)

-- not without an edge that spans
one_left_out_is_refused :
    IsNext one_room along_x [] (left_with two_abscissae) (left_with (at 10 ∷ []))
    (slab_to 10 (0 ∷ [])) → ⊥
one_left_out_is_refused is =
    let same = ap (λ (ns : List ℕ). length ns)
    (slab_order_is_one (plan_edges one_room) along_x (at 0) (at 10) (omega (arith, ints))
    (omega (arith, ints)) (below_by 0 10 (omega arith)) (0 ∷ []) (0 ∷ 2 ∷ []) is.order
    lower_first) in
    absurd cc

-- not of no width
no_width_is_refused :
    IsNext one_room along_x [] (left_with two_abscissae) (left_with (at 10 ∷ []))
    (slab_to 0 (0 ∷ 2 ∷ [])) → ⊥
no_width_is_refused is =
    let same = ap (λ (a : Arrow). a.y) (same_Some (at 10) (at 0) is.high) in absurd (omega (arith, ints))

-- and the slab is not told a second time: what is left is shorter
told_again_is_refused :
    IsNext one_room along_x [] (left_with two_abscissae) (left_with two_abscissae)
    (slab_to 10 (0 ∷ 2 ∷ [])) → ⊥
told_again_is_refused is =
    let same = ap (λ (left : List Arrow). length left) is.low in absurd cc

-- ---- ends of slabs

-- 0 and 1/2 are ends of a slab that can hold patches; 1/2 as 2/4 is not in lowest terms
half : Ratio
half = record { num = pos 1; den = pos 2 }

two_quarters : Ratio
two_quarters = record { num = pos 2; den = pos 4 }

half_is_an_end : are_ends (whole (pos 0)) half ≡ true
unfolding half greatest_divisor divisor_within
half_is_an_end = refl

two_quarters_are_none : are_ends (whole (pos 0)) two_quarters ≡ false
unfolding two_quarters greatest_divisor divisor_within
two_quarters_are_none = refl
