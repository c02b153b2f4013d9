-- Where two points of a closed loop may be dropped, one loop comes of both.

use Rattle.std.proofs.Common.{◌≡◌, refl, sym, ap, ap₂, ◌∙◌, subst, ◌⊎◌, inl, inr, arith, pos, ℤ}
use Rattle.std.proofs.Common.{◌<ℤ◌, ◌≤ℤ◌, ◌+ℤ◌, ◌-ℤ◌, Bool, true, false, List, [], ◌∷◌, ◌++◌}
use Rattle.std.specs.Ordering.{int_eq}
use Rattle.std.proofs.lemmas.Int.{ints}
use Rattle.std.proofs.lemmas.Bool.{and_from, false≢true}
use Rattle.std.proofs.lemmas.Bool.Decides.{Decides-int_eq}
use Rattle.std.proofs.lemmas.List.{append-nil}
use Rattle.theory_numbers.specs.Arrows.{Arrow, arrow, cross, dot}
use Rattle.theory_numbers.proofs.Vectors.Arrows.{cross-turn}
use Rattle.theory_numbers.proofs.Shapes.{var, minus, plus, times, equal, cross_by}
use Rattle.theory_numbers.proofs.Signs.{above_or_not}
use Rattle.theory_numbers.proofs.Vectors.Lengths.{no_length, on_both_lines}
use Rattle.sb_fraction.specs.declared.point.Point.{Point}
use Rattle.theory_plans.specs.Loops.{bend}
use Rattle.theory_plans.specs.Plans.{is_same_point}
use Rattle.theory_plans.proofs.Edges.EdgesOfPlans.{same_point}
use Rattle.theory_loops.specs.Normal.{first_of, last_of}
use Rattle.theory_loops.specs.Orders.{IsLevelAt, Becomes, IsSameLoop}
use Rattle.theory_loops.specs.Orders.Becomes.{stays, loses_first}
use Rattle.theory_loops.proofs.NothingLeftToDrop.{there_and_back}
use Rattle.theory_loops.proofs.Orders.SameLoop.{same_head, same_rest, becomes_through, becomes_turned}
use Rattle.theory_loops.proofs.Orders.SameLoop.{last_of-append}

-- ---- four points

abbrev step_to : Point → Point → Arrow
step_to a b = arrow (b.x -ℤ a.x) (b.y -ℤ a.y)

module _ (p c d q : Point) (first : bend p c d ≡ pos 0) (second : bend c d q ≡ pos 0)
    (other : is_same_point c d ≡ false) where
  is_long : pos 0 <ℤ dot (step_to c d) (step_to c d)
  is_long = from (above_or_not (dot (step_to c d) (step_to c d)))
    where
      from : ((pos 0 <ℤ dot (step_to c d) (step_to c d))
          ⊎ (dot (step_to c d) (step_to c d) ≤ℤ pos 0))
          → pos 0 <ℤ dot (step_to c d) (step_to c d)
      from (inl long) = long
      from (inr short) =
          let none = no_length (step_to c d) short in
          let x = none.0 in
          let y = none.1 in
          absurd
          (false≢true
          (sym other
          ∙ and_from (int_eq c.x d.x) (int_eq c.y d.y)
          ((Decides-int_eq c.x d.x).1 (omega (arith, ints)))
          ((Decides-int_eq c.y d.y).1 (omega (arith, ints)))))

  as_first : cross (step_to p c) (step_to c d) ≡ bend p c d
  as_first = as_bend p c d
    where
      as_bend : (a b e : Point) → cross (step_to a b) (step_to b e) ≡ bend a b e
      as_bend a b e =
          equal
          (cross_by (step_to a b) (step_to b e) (minus (var b.x) (var a.x))
          (minus (var b.y) (var a.y)) (minus (var e.x) (var b.x)) (minus (var e.y) (var b.y)))
          (minus (times (minus (var b.x) (var a.x)) (minus (var e.y) (var b.y)))
          (times (minus (var b.y) (var a.y)) (minus (var e.x) (var b.x))))
          (omega arith)

  as_second : cross (step_to c d) (step_to d q) ≡ bend c d q
  as_second =
      equal
      (cross_by (step_to c d) (step_to d q) (minus (var d.x) (var c.x))
      (minus (var d.y) (var c.y)) (minus (var q.x) (var d.x)) (minus (var q.y) (var d.y)))
      (minus (times (minus (var d.x) (var c.x)) (minus (var q.y) (var d.y)))
      (times (minus (var d.y) (var c.y)) (minus (var q.x) (var d.x))))
      (omega arith)

  outer : cross (step_to p c) (step_to d q) ≡ pos 0
  outer =
      let turn = cross-turn (step_to p c) (step_to c d) in
      let level = as_first ∙ first in
      on_both_lines (step_to c d) (step_to p c) (step_to d q) (omega (arith, ints)) is_long
      (as_second ∙ second)

  -- the second may go and the third stay between the outer two, or the third go and the second stay
  without_second : bend p d q ≡ pos 0
  without_second =
      let sum : bend p d q ≡ cross (step_to p c) (step_to d q) +ℤ bend c d q =
      equal
      (minus (times (minus (var d.x) (var p.x)) (minus (var q.y) (var d.y)))
      (times (minus (var d.y) (var p.y)) (minus (var q.x) (var d.x))))
      (plus
      (cross_by (step_to p c) (step_to d q) (minus (var c.x) (var p.x))
      (minus (var c.y) (var p.y)) (minus (var q.x) (var d.x)) (minus (var q.y) (var d.y)))
      (minus (times (minus (var d.x) (var c.x)) (minus (var q.y) (var d.y)))
      (times (minus (var d.y) (var c.y)) (minus (var q.x) (var d.x)))))
      (omega arith) in
      sum ∙ ap₂ (λ s t. s +ℤ t) outer second

  without_third : bend p c q ≡ pos 0
  without_third =
      let sum : bend p c q ≡ cross (step_to p c) (step_to d q) +ℤ bend p c d =
      equal
      (minus (times (minus (var c.x) (var p.x)) (minus (var q.y) (var c.y)))
      (times (minus (var c.y) (var p.y)) (minus (var q.x) (var c.x))))
      (plus
      (cross_by (step_to p c) (step_to d q) (minus (var c.x) (var p.x))
      (minus (var c.y) (var p.y)) (minus (var q.x) (var d.x)) (minus (var q.y) (var d.y)))
      (minus (times (minus (var c.x) (var p.x)) (minus (var d.y) (var c.y)))
      (times (minus (var c.y) (var p.y)) (minus (var d.x) (var c.x)))))
      (omega arith) in
      sum ∙ ap₂ (λ s t. s +ℤ t) outer first

-- ---- one loop of two

-- a loop that comes of both
pub record Meet (xs ys : List Point) : Type 0 where
  pub common : List Point
  pub left : Becomes xs common
  pub right : Becomes ys common

other_way : (xs ys : List Point) → Meet xs ys → Meet ys xs
other_way xs ys m = record { common = m.common; left = m.right; right = m.left }

-- the two points are neighbours
neighbours : (c d q : Point) (points : List Point) → IsLevelAt c (d ∷ q ∷ points)
    → IsLevelAt d ((q ∷ points) ++ (c ∷ []))
    → Meet (d ∷ q ∷ points) ((q ∷ points) ++ (c ∷ []))
neighbours c d q points c_level d_level = by (is_same_point c d) refl
  where
    second : bend c d q ≡ pos 0
    second = ap (λ l. bend l d q) (sym (last_of-append d (q ∷ points) c [])) ∙ d_level

    by : (t : Bool) → is_same_point c d ≡ t
        → Meet (d ∷ q ∷ points) ((q ∷ points) ++ (c ∷ []))
    by true same =
        record {
          common = d ∷ q ∷ points;
          left = stays;
          right = subst (λ h. Becomes ((q ∷ points) ++ (c ∷ [])) (h ∷ q ∷ points))
              (same_point c d same) (becomes_turned (q ∷ points) (c ∷ []));
        }
    by false other =
        record {
          common = q ∷ points;
          left = loses_first (without_second (last_of q points) c d q c_level second other) stays;
          right = becomes_through (becomes_turned (q ∷ points) (c ∷ []))
              (loses_first (without_third (last_of q points) c d q c_level second other) stays);
        }

meets_at : (c : Point) (u : List Point) (d : Point) (v : List Point)
    → IsLevelAt c (u ++ (d ∷ v)) → IsLevelAt d (v ++ (c ∷ u))
    → Meet (u ++ (d ∷ v)) (v ++ (c ∷ u))
meets_at c [] d [] c_level d_level =
    record {
      common = [];
      left = loses_first (there_and_back d d) stays;
      right = loses_first (there_and_back c c) stays;
    }
meets_at c [] d (q ∷ v) c_level d_level = neighbours c d q v c_level d_level
meets_at c (p ∷ u) d [] c_level d_level =
    other_way (c ∷ p ∷ u) ((p ∷ u) ++ (d ∷ [])) (neighbours d c p u d_level c_level)
meets_at c (p ∷ u) d (q ∷ v) c_level d_level =
    record {
      common = (q ∷ v) ++ (p ∷ u);
      left = becomes_through (becomes_turned (p ∷ u) (d ∷ q ∷ v))
          (loses_first
          (ap (λ l. bend l d q)
          (last_of-append d (q ∷ v) p u ∙ sym (last_of-append d (q ∷ v) c (p ∷ u))) ∙ d_level)
          stays);
      right = becomes_through (becomes_turned (q ∷ v) (c ∷ p ∷ u))
          (loses_first
          (ap (λ l. bend l c p)
          (last_of-append c (p ∷ u) q v ∙ sym (last_of-append c (p ∷ u) d (q ∷ v))) ∙ c_level)
          (becomes_turned (p ∷ u) (q ∷ v)));
    }

-- dropped from one loop, each at its place
pub two_drops_meet : (c : Point) (xs : List Point) (d : Point) (ys : List Point)
    → IsSameLoop (c ∷ xs) (d ∷ ys) → IsLevelAt c xs → IsLevelAt d ys → Meet xs ys
two_drops_meet c xs d ys t c_level d_level = from t.front t.back t.one t.other
  where
    one_place : xs ≡ ys → Meet xs ys
    one_place same =
        record {
          common = ys;
          left = subst (λ l. Becomes l ys) (sym same) stays;
          right = stays;
        }

    from : (u v : List Point) → c ∷ xs ≡ u ++ v → d ∷ ys ≡ v ++ u → Meet xs ys
    from [] v one other = one_place (same_rest c d xs ys (one ∙ sym (append-nil v) ∙ sym other))
    from (a ∷ u) [] one other =
        one_place (same_rest c d xs ys (one ∙ append-nil (a ∷ u) ∙ sym other))
    from (a ∷ u) (b ∷ v) one other =
        let xs_is = same_rest c a xs (u ++ (b ∷ v)) one in
        let ys_is = same_rest d b ys (v ++ (a ∷ u)) other in
        let level : Point → List Point → ℤ = λ h l. bend (last_of h l) h (first_of l h) in
        let at : Meet (u ++ (b ∷ v)) (v ++ (a ∷ u)) =
        meets_at a u b v
        (sym (ap₂ level (same_head c a xs (u ++ (b ∷ v)) one) xs_is) ∙ c_level)
        (sym (ap₂ level (same_head d b ys (v ++ (a ∷ u)) other) ys_is) ∙ d_level) in
        record {
          common = at.common;
          left = subst (λ l. Becomes l at.common) (sym xs_is) at.left;
          right = subst (λ l. Becomes l at.common) (sym ys_is) at.right;
        }
