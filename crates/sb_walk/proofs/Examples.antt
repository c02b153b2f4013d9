-- Worked overlaps over a slab, and wrong ones that are refused.

use Rattle.std.proofs.Common.{◌≡◌, ◌⊎◌, inl, inr, refl, sym, ap, ◌∙◌, subst, arith, ℕ, pos, ◌<◌, true}
use Rattle.std.proofs.Common.{[], ◌∷◌, ◌*ℤ◌, ◌<ℤ◌, int_lt}
use Rattle.std.proofs.lemmas.Bool.{and_parts}
use Rattle.std.proofs.lemmas.Option.{none-some}
use Rattle.theory_numbers.proofs.Signs.{less_from}
use Rattle.theory_plans.specs.Inside.{is_in_plan}
use Rattle.theory_plans.specs.Rectangles.{is_between_xs, is_between_ys}
use Rattle.theory_plans.proofs.InsideRectangle.{inside_rectangle}
use Rattle.sb_model.specs.Solids.{is_in_solid, is_between_heights}
use Rattle.std.proofs.lemmas.Int.{ints}
use Rattle.theory_lists.specs.Members.{Stands}
use Rattle.theory_numbers.specs.Arrows.{Arrow, cross, dot}
use Rattle.theory_numbers.specs.Rationals.{rational}
use Rattle.sb_fraction.specs.Spots.{Spot, spot, IsSpot}
use Rattle.sb_model.specs.declared.products.Space.{Space}
use Rattle.sb_model.specs.Building.{Building}
use Rattle.theory_gaps.specs.Gaps.{IsCommonOver}
use Rattle.theory_models.proofs.ExampleModels.{model, block, box_room}
use Rattle.sb_frame.specs.Directions.{along_x}
use Rattle.sb_model.specs.declared.boundary.Cell.{Cell}
use Rattle.sb_model.specs.PlanEdges.{PlanEdge}
use Rattle.sb_walk.specs.CellsOfGaps.{AreForEach}
use Rattle.sb_walk.specs.GapsBetween.{IsBetween}
use Rattle.sb_walk.specs.declared.way.Way.{Way}
use Rattle.sb_walk.specs.Overlaps.{OverlapOver, IsUpTo, IsLeastOverlap, HaveNoOverlapOver}

abbrev at : ℕ → Arrow
at n = rational (pos n) (pos 1)

-- three rooms side by side, of which each overlaps the next by 5 mm
abbrev first_room : Space
first_room = box_room 20 0 10 0 10 10 refl

abbrev second_room : Space
second_room = box_room 21 5 15 0 10 10 refl

abbrev third_room : Space
third_room = box_room 22 10 20 0 10 10 refl

abbrev three_rooms : Building
three_rooms = model (first_room ∷ second_room ∷ third_room ∷ []) []

-- (15/2, 5, 5) lies inside the first two
first_two_meet : IsCommonOver along_x (at 5) (at 10) first_room.prism second_room.prism
    (spot (pos 15) (pos 10) (pos 10) (pos 2))
unfolding cross dot
first_two_meet =
    record {
      positive = omega (arith, ints);
      after = omega (arith, ints);
      before = omega (arith, ints);
      first = refl;
      second = refl;
    }

-- so they overlap over the slab from 5 to 10
first_two_overlap : OverlapOver three_rooms (at 5) (at 10) 20 21
first_two_overlap =
    record {
      first = first_room;
      second = second_room;
      first_in = inl refl;
      second_in = inr (inl refl);
      first_is = refl;
      second_is = refl;
      common = (spot (pos 15) (pos 10) (pos 10) (pos 2), first_two_meet);
    }

-- a number of the model
of_three : (n : ℕ) (s : Space) → Stands s three_rooms.spaces → s.number ≡ n
    → (n ≡ 20) ⊎ ((n ≡ 21) ⊎ (n ≡ 22))
of_three n s (inl same) is = inl (sym is ∙ ap (λ (t : Space). t.number) same)
of_three n s (inr (inl same)) is = inr (inl (sym is ∙ ap (λ (t : Space). t.number) same))
of_three n s (inr (inr (inl same))) is = inr (inr (sym is ∙ ap (λ (t : Space). t.number) same))
of_three n s (inr (inr (inr none))) is = absurd none

-- no pair comes before it
least_of_three : (x y : ℕ) → x < y → OverlapOver three_rooms (at 5) (at 10) x y → IsUpTo 20 21 x y
least_of_three x y less o =
    by (of_three x o.first o.first_in o.first_is) (of_three y o.second o.second_in o.second_is)
  where
    by : (x ≡ 20) ⊎ ((x ≡ 21) ⊎ (x ≡ 22)) → (y ≡ 20) ⊎ ((y ≡ 21) ⊎ (y ≡ 22)) → IsUpTo 20 21 x y
    by (inl m) (inl n) = absurd (omega arith)
    by (inl m) (inr (inl n)) = inr (sym m, omega arith)
    by (inl m) (inr (inr n)) = inr (sym m, omega arith)
    by (inr (inl m)) other = inl (omega arith)
    by (inr (inr m)) other = inl (omega arith)

-- it is the answer
first_two_are_least : IsLeastOverlap three_rooms (at 5) (at 10) 20 21
first_two_are_least =
    record { rising = omega arith; overlap = first_two_overlap; least = least_of_three }

-- a later pair is not
later_pair_is_refused : IsLeastOverlap three_rooms (at 5) (at 10) 21 22 → ⊥
later_pair_is_refused is = from (is.least 20 21 (omega arith) first_two_overlap)
  where
    from : IsUpTo 21 22 20 21 → ⊥
    from (inl less) = omega arith
    from (inr same) = let n = same.0 in omega arith

-- nor the pair turned round
turned_is_refused : IsLeastOverlap three_rooms (at 5) (at 10) 21 20 → ⊥
turned_is_refused is = let less = is.rising in omega arith

-- nor none
none_is_refused : HaveNoOverlapOver three_rooms (at 5) (at 10) → ⊥
none_is_refused none = none 20 21 (omega arith) first_two_overlap

-- ---- rooms that touch

abbrev touching_rooms : Building
touching_rooms = model (box_room 20 0 10 0 10 10 refl ∷ box_room 21 10 20 0 10 10 refl ∷ []) []

-- x strictly inside a box of them
within : (x0 x1 : ℕ) (p : Spot) → IsSpot p → x0 < x1 → is_in_solid (block x0 x1 0 10 10) p ≡ true
    → ((pos x0 *ℤ p.w) <ℤ p.x) × (p.x <ℤ (pos x1 *ℤ p.w))
within x0 x1 p positive wide inside =
    let parts = and_parts (is_in_plan (block x0 x1 0 10 10).loops p)
    (is_between_heights (pos 0) (pos 10) p) inside in
    let sides = sym
    (inside_rectangle (pos x0) (pos x1) (pos 0) (pos 10) p (omega (arith, ints)) (omega (arith, ints))
    positive) ∙ parts.0 in
    let xs = and_parts (is_between_xs (pos x0) (pos x1) p) (is_between_ys (pos 0) (pos 10) p) sides in
    let both = and_parts (int_lt (pos x0 *ℤ p.w) p.x) (int_lt p.x (pos x1 *ℤ p.w)) xs.0 in
    (less_from (pos x0 *ℤ p.w) p.x both.0, less_from p.x (pos x1 *ℤ p.w) both.1)

-- no point lies inside both
apart : (p : Spot) → IsSpot p → is_in_solid (block 0 10 0 10 10) p ≡ true
    → is_in_solid (block 10 20 0 10 10) p ≡ true → ⊥
apart p positive one other =
    let first = within 0 10 p positive (omega arith) one in
    let second = within 10 20 p positive (omega arith) other in
    omega (arith, ints)

-- so over no slab they have a common inner point
touching_do_not_overlap : (low high : Arrow) → HaveNoOverlapOver touching_rooms low high
touching_do_not_overlap low high x y less o = by o.first_in o.second_in o.common
  where
    same_number : (s t : Space) → s ≡ t → s.number ≡ t.number
    same_number s t same = ap (λ (r : Space). r.number) same

    by : Stands o.first touching_rooms.spaces → Stands o.second touching_rooms.spaces
        → (p : Spot) × IsCommonOver along_x low high o.first.prism o.second.prism p → ⊥
    by (inl s) (inl t) common =
        let m = same_number o.first (box_room 20 0 10 0 10 10 refl) s in
        let n = same_number o.second (box_room 20 0 10 0 10 10 refl) t in
        let a = o.first_is in
        let b = o.second_is in
        absurd (omega arith)
    by (inr (inl s)) (inl t) common =
        let m = same_number o.first (box_room 21 10 20 0 10 10 refl) s in
        let n = same_number o.second (box_room 20 0 10 0 10 10 refl) t in
        let a = o.first_is in
        let b = o.second_is in
        absurd (omega arith)
    by (inr (inl s)) (inr (inl t)) common =
        let m = same_number o.first (box_room 21 10 20 0 10 10 refl) s in
        let n = same_number o.second (box_room 21 10 20 0 10 10 refl) t in
        let a = o.first_is in
        let b = o.second_is in
        absurd (omega arith)
    by (inr (inl s)) (inr (inr none)) common = none
    by (inl s) (inr (inl t)) (p, is) =
        apart p is.positive
        (subst (λ (r : Space). is_in_solid r.prism p ≡ true) s is.first)
        (subst (λ (r : Space). is_in_solid r.prism p ≡ true) t is.second)
    by (inl s) (inr (inr none)) common = none
    by (inr (inr none)) other common = none

-- ---- gaps and their cells

-- the gap behind the first of three edges lies between it and the second
between_two : (e f g : PlanEdge) → IsBetween (e ∷ f ∷ g ∷ []) 1 e f
between_two e f g = (refl, refl)

-- that before the first lies between no two, nor does the one behind the last
none_before : (e f : PlanEdge) → IsBetween (e ∷ f ∷ []) 0 e f → ⊥
none_before e f between = between

none_behind : (e f : PlanEdge) → IsBetween (e ∷ f ∷ []) 2 e f → ⊥
none_behind e f between = none-some f between.1

-- where the three rooms are not there are no cells: 23 is no room
no_cells : (P : Space → Way → Cell → Type 0) → AreForEach three_rooms P (23 ∷ []) []
no_cells P = tt

-- and none more than those of the rooms that are present
one_too_many : (P : Space → Way → Cell → Type 0) (c : Cell)
    → AreForEach three_rooms P (23 ∷ []) (c ∷ []) → ⊥
one_too_many P c all = all

-- that of Bottom alone is one too few
one_too_few : (P : Space → Way → Cell → Type 0) (c : Cell)
    → AreForEach three_rooms P (20 ∷ []) (c ∷ []) → ⊥
one_too_few P c all = all
