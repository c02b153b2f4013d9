-- The abscissae of all ends and of all crossings, rising and each once, are the abscissae of a direction.

use Rattle.std.proofs.Common.{◌≡◌, ◌⊎◌, inl, inr, refl, sym, ap, ap₂, ◌∙◌, arith, ℤ, pos, ◌<ℤ◌}
use Rattle.std.proofs.Common.{◌≤ℤ◌, ◌+ℤ◌, ◌-ℤ◌, ◌*ℤ◌, true, not, ◌&&◌, IsTrue, int_lt}
use Rattle.std.proofs.Common.{List, [], ◌∷◌, ◌++◌, map}
use Rattle.std.specs.List.{list_any}
use Rattle.std.specs.Ordering.{int_eq}
use Rattle.std.proofs.lemmas.Int.{ints, by_lt_z}
use Rattle.std.proofs.lemmas.Bool.{and_parts, and_from, or_left, or_right, false≢true}
use Rattle.std.proofs.lemmas.Bool.Decides.{Decides-int_eq}
use Rattle.theory_lists.specs.Members.{Stands}
use Rattle.theory_lists.proofs.Members.{any_stands, one_of_any}
use Rattle.theory_numbers.specs.Arrows.{Arrow, arrow, cross, scale}
use Rattle.theory_numbers.specs.Fractions.{Ratio, whole, reduced, is_lowest}
use Rattle.theory_numbers.specs.Rationals.{rational, IsRational, IsSame}
use Rattle.theory_numbers.proofs.Vectors.Arrows.{cross-self, same_arrow}
use Rattle.theory_numbers.proofs.Fractions.LowestTerms.{reduced_is_same, reduced_is_lowest}
use Rattle.theory_numbers.proofs.Ring.{mul_comm}
use Rattle.theory_numbers.proofs.Shapes.{var, num, plus, times, equal}
use Rattle.theory_numbers.proofs.Signs.{less_from, test_less, test_not_less}
use Rattle.sb_fraction.specs.Bounds.{is_fraction, is_in_bounds}
use Rattle.sb_fraction.specs.Spots.{Spot, spot, IsSpot, reading}
use Rattle.sb_fraction.specs.Edges.{Edge, span_of, turn_at, reach_at, is_within}
use Rattle.sb_fraction.specs.Crossings.{cross_at, cross_over, ends_over, meeting_of, abscissa_at}
use Rattle.sb_fraction.specs.Crossings.{are_parallel, with_positive}
use Rattle.sb_fraction.specs.Lines.{flat}
use Rattle.sb_fraction.specs.Meetings.{IsSamePoint}
use Rattle.sb_fraction.specs.Numbers.{number}
use Rattle.sb_model.specs.Building.{Building}
use Rattle.sb_model.specs.PlanEdges.{PlanEdge, plan_edges, is_crossing, is_abscissa}
use Rattle.theory_plans.specs.Alike.{AreAlike}
use Rattle.theory_plans.proofs.PointsAlike.{same_of_alike, within_sees_no_factor}
use Rattle.theory_models.proofs.LabelsAlike.{abscissa_sees_no_factor, reading_sees_no_factor}
use Rattle.theory_lines.proofs.LinesMeetAtCrossings.{meeting_is_alike}
use Rattle.sb_frame.specs.Abscissae.{of_edges}
use Rattle.sb_frame.proofs.Meetings.EdgesCross.{level, crosses_is}

-- ---- one number, written in two ways

scaled_same : (u v : Arrow) → IsSame u v → scale v.x u ≡ scale u.x v
unfolding cross
scaled_same u v same =
    same_arrow (scale v.x u) (scale u.x v) (mul_comm v.x u.x)
    (let turn = mul_comm v.x u.y in omega (arith, ints, same))

-- whether a number is an abscissa does not depend on how it is written
pub abscissa_same : (m : Building) (d u v : Arrow) → IsRational u → IsRational v → IsSame u v
    → is_abscissa m (flat d) u ≡ is_abscissa m (flat d) v
abscissa_same m d u v u_in v_in same =
    sym (abscissa_sees_no_factor m (flat d) v.x u v_in)
    ∙ ap (is_abscissa m (flat d)) (scaled_same u v same)
    ∙ abscissa_sees_no_factor m (flat d) u.x v u_in

-- ---- the number of a fraction in lowest terms

pub positive_den : (r : Ratio) → IsTrue (is_fraction r) → IsRational (number r)
positive_den r is =
    let lowest = (and_parts (is_lowest r) (is_in_bounds r) is).0 in
    less_from (pos 0) r.den (and_parts (int_lt (pos 0) r.den) _ lowest).0

-- a fraction reduced has a positive denominator
pub reduced_in : (a w : ℤ) → pos 0 <ℤ w → IsRational (number (reduced a w))
reduced_in a w positive =
    less_from (pos 0) (reduced a w).den
    (and_parts (int_lt (pos 0) (reduced a w).den) _ (reduced_is_lowest a w positive)).0

-- and is the same number
pub reduced_same : (a w : ℤ) → pos 0 <ℤ w → IsSame (number (reduced a w)) (rational a w)
unfolding cross
reduced_same a w positive =
    let same = reduced_is_same a w positive in
    let turn = mul_comm (reduced a w).den a in
    omega (arith, ints)

-- ---- the abscissa of a point

-- p·d of a plan point
abbrev pub along : Arrow → Spot → ℤ
along d p = (p.x *ℤ d.x) +ℤ (p.y *ℤ d.y)

pub reading_along : (d : Arrow) (p : Spot) → reading p (flat d) ≡ rational (along d p) p.w
reading_along d p =
    ap (λ n. rational n p.w)
    (equal
    (plus (plus (times (var p.x) (var d.x)) (times (var p.y) (var d.y))) (times (var p.z) (num 0)))
    (plus (times (var p.x) (var d.x)) (times (var p.y) (var d.y))) (omega arith))

across : (x y w x' y' w' dx dy : ℤ) → x *ℤ w' ≡ x' *ℤ w → y *ℤ w' ≡ y' *ℤ w
    → ((x *ℤ dx) +ℤ (y *ℤ dy)) *ℤ w' ≡ ((x' *ℤ dx) +ℤ (y' *ℤ dy)) *ℤ w
across x y w x' y' w' dx dy same_x same_y =
    equal (times (plus (times (var x) (var dx)) (times (var y) (var dy))) (var w'))
    (plus (times (times (var x) (var w')) (var dx)) (times (times (var y) (var w')) (var dy)))
    (omega arith)
    ∙ ap₂ (λ s t. (s *ℤ dx) +ℤ (t *ℤ dy)) same_x same_y
    ∙ equal (plus (times (times (var x') (var w)) (var dx)) (times (times (var y') (var w)) (var dy)))
    (times (plus (times (var x') (var dx)) (times (var y') (var dy))) (var w)) (omega arith)

-- one point has one abscissa
pub same_along : (d : Arrow) (p q : Spot) → IsSamePoint p q
    → IsSame (rational (along d p) p.w) (rational (along d q) q.w)
unfolding cross
same_along d p q same =
    let whole = across p.x p.y p.w q.x q.y q.w d.x d.y same.0 same.1 in
    let turn = mul_comm p.w (along d q) in
    omega (arith, ints)

same_if_alike : (p q : Spot) → AreAlike p q → IsSamePoint p q
same_if_alike p q alike = (
  mul_comm p.x q.w ∙ alike.x ∙ mul_comm p.w q.x,
  mul_comm p.y q.w ∙ alike.y ∙ mul_comm p.w q.y,
)

-- ---- where two edges meet

-- a denominator that is not 0 is made positive
made_positive : (q : Spot) → (q.w ≡ pos 0 → ⊥) → IsSpot (with_positive q)
made_positive q other =
    by_lt_z q.w (pos 0)
    (λ below. rw (test_less q.w (pos 0) below) (omega (arith, ints)))
    (λ high. rw (test_not_less q.w (pos 0) high) (above q.w high other))
  where
    above : (w : ℤ) → pos 0 ≤ℤ w → (w ≡ pos 0 → ⊥) → pos 0 <ℤ w
    above w high some =
        by_lt_z (pos 0) w (λ more. more) (λ low. absurd (some (omega (arith, ints))))

not_parallel : (e f : Edge) → not (are_parallel e f) ≡ true → cross (span_of e) (span_of f) ≡ pos 0 → ⊥
not_parallel e f turned none =
    false≢true
    (sym (ap not ((Decides-int_eq (cross (span_of e) (span_of f)) (pos 0)).1 none)) ∙ turned)

pub meeting_is_spot : (e f : Edge) → not (are_parallel e f) ≡ true → IsSpot (meeting_of e f)
meeting_is_spot e f turned =
    let w = cross (span_of e) (span_of f) in
    let s = cross (arrow (f.a.x -ℤ e.a.x) (f.a.y -ℤ e.a.y)) (span_of f) in
    made_positive (spot ((e.a.x *ℤ w) +ℤ (s *ℤ (span_of e).x))
    ((e.a.y *ℤ w) +ℤ (s *ℤ (span_of e).y)) (pos 0) w) (not_parallel e f turned)

turn_of_within : (p : Spot) (e : Edge) → is_within p e ≡ true → turn_at e p ≡ pos 0
turn_of_within p e within =
    (Decides-int_eq (turn_at e p) (pos 0)).0
    (and_parts (int_eq (turn_at e p) (pos 0)) (int_lt (reach_at e p) (pos 0)) within).0

-- where two edges cross they meet, so they cross over the abscissa of the point
crosses_over : (d : Arrow) (p : Spot) → IsSpot p → (e f : Edge) → cross_at p e f ≡ true
    → (cross_over (flat d) (reading (meeting_of e f) (flat d)) e f ≡ true)
    × (IsSpot (meeting_of e f) × AreAlike (level p) (meeting_of e f))
crosses_over d p p_is e f crosses =
    let c = crosses_is p e f crosses in
    let q = meeting_of e f in
    let found = meeting_is_alike (level p) p_is refl e f (not_parallel e f c.turned)
    (turn_of_within p e c.first) (turn_of_within p f c.second) in (
      and_from (cross_at q e f) (int_eq (cross (reading q (flat d)) (reading q (flat d))) (pos 0))
          (and_from (not (are_parallel e f)) (is_within q e && is_within q f) c.turned
          (and_from (is_within q e) (is_within q f)
          (sym (same_of_alike (λ r. is_within r e) (within_sees_no_factor e) (level p) q p_is found.0
          found.1)
          ∙ c.first)
          (sym (same_of_alike (λ r. is_within r f) (within_sees_no_factor f) (level p) q p_is found.0
          found.1)
          ∙ c.second)))
          ((Decides-int_eq (cross (reading q (flat d)) (reading q (flat d))) (pos 0)).1
          (cross-self (reading q (flat d)))),
      (found.0, found.1),
    )

-- ---- what stands among the abscissae

pub made_from : {X Y : Type 0} (f : X → Y) (y : Y) (xs : List X) → Stands y (map f xs)
    → (x : X) × (Stands x xs × (y ≡ f x))
made_from f y [] at = absurd at
made_from f y (x ∷ xs) (inl same) = (x, (inl refl, same))
made_from f y (x ∷ xs) (inr later) = behind (made_from f y xs later)
  where
    behind : (z : _) × (Stands z xs × (y ≡ f z)) → (z : _) × (Stands z (x ∷ xs) × (y ≡ f z))
    behind (z, known) = (z, (inr known.0, known.1))

pub made_stands : {X Y : Type 0} (f : X → Y) (x : X) (xs : List X) → Stands x xs
    → Stands (f x) (map f xs)
made_stands f x [] at = absurd at
made_stands f x (y ∷ ys) (inl same) = inl (ap f same)
made_stands f x (y ∷ ys) (inr later) = inr (made_stands f x ys later)

pub in_one_part : {X : Type 0} (x : X) (xs ys : List X) → Stands x (xs ++ ys) → Stands x xs ⊎ Stands x ys
in_one_part x [] ys at = inr at
in_one_part x (y ∷ xs) ys (inl same) = inl (inl same)
in_one_part x (y ∷ xs) ys (inr later) = from (in_one_part x xs ys later)
  where
    from : Stands x xs ⊎ Stands x ys → Stands x (y ∷ xs) ⊎ Stands x ys
    from (inl there) = inl (inr there)
    from (inr there) = inr there

-- the abscissa of an end
abbrev pub end_along : Arrow → Edge → Ratio
end_along d e = whole (abscissa_at e.a (flat d))

abbrev pub other_along : Arrow → Edge → Ratio
other_along d e = whole (abscissa_at e.b (flat d))

pub edge_of_end : (d : Arrow) (r : Ratio) (es : List PlanEdge) → Stands r (of_edges d es)
    → (e : PlanEdge) × (Stands e es × ((r ≡ end_along d e.edge) ⊎ (r ≡ other_along d e.edge)))
edge_of_end d r [] at = absurd at
edge_of_end d r (e ∷ es) (inl same) = (e, (inl refl, inl same))
edge_of_end d r (e ∷ es) (inr (inl same)) = (e, (inl refl, inr same))
edge_of_end d r (e ∷ es) (inr (inr later)) = behind (edge_of_end d r es later)
  where
    behind : (f : PlanEdge) × (Stands f es × ((r ≡ end_along d f.edge) ⊎ (r ≡ other_along d f.edge)))
        → (f : PlanEdge)
        × (Stands f (e ∷ es) × ((r ≡ end_along d f.edge) ⊎ (r ≡ other_along d f.edge)))
    behind (f, known) = (f, (inr known.0, known.1))

pub ends_stand : (d : Arrow) (e : PlanEdge) (es : List PlanEdge) → Stands e es
    → Stands (end_along d e.edge) (of_edges d es) × Stands (other_along d e.edge) (of_edges d es)
ends_stand d e [] at = absurd at
ends_stand d e (f ∷ fs) (inl same) = (
  inl (ap (λ (g : PlanEdge). end_along d g.edge) same),
  inr (inl (ap (λ (g : PlanEdge). other_along d g.edge) same)),
)
ends_stand d e (f ∷ fs) (inr later) =
    let rest = ends_stand d e fs later in (inr (inr rest.0), inr (inr rest.1))

-- ---- each of them is an abscissa

module _ (m : Building) (d : Arrow) where
  by_edge : (u : Arrow) (e : PlanEdge) → Stands e (plan_edges m) → ends_over (flat d) u e.edge ≡ true
      → is_abscissa m (flat d) u ≡ true
  by_edge u e e_in ends =
      or_left (list_any (λ f. ends_over (flat d) u f.edge) (plan_edges m))
      (list_any (λ f. list_any (λ g. cross_over (flat d) u f.edge g.edge) (plan_edges m)) (plan_edges m))
      (any_stands (λ f. ends_over (flat d) u f.edge) e (plan_edges m) e_in ends)

  by_crossing : (u : Arrow) (e f : PlanEdge) → Stands e (plan_edges m) → Stands f (plan_edges m)
      → cross_over (flat d) u e.edge f.edge ≡ true → is_abscissa m (flat d) u ≡ true
  by_crossing u e f e_in f_in crosses =
      or_right (list_any (λ g. ends_over (flat d) u g.edge) (plan_edges m))
      (list_any (λ g. list_any (λ h. cross_over (flat d) u g.edge h.edge) (plan_edges m)) (plan_edges m))
      (any_stands (λ g. list_any (λ h. cross_over (flat d) u g.edge h.edge) (plan_edges m)) e
      (plan_edges m) e_in
      (any_stands (λ h. cross_over (flat d) u e.edge h.edge) f (plan_edges m) f_in crosses))

  -- the abscissa of an end is one
  pub end_is_one : (e : PlanEdge) → Stands e (plan_edges m)
      → is_abscissa m (flat d) (number (end_along d e.edge)) ≡ true
  end_is_one e e_in =
      let u = number (end_along d e.edge) in
      by_edge u e e_in
      (or_left (int_eq (cross u u) (pos 0)) (int_eq (cross u (number (other_along d e.edge))) (pos 0))
      ((Decides-int_eq (cross u u) (pos 0)).1 (cross-self u)))

  pub other_is_one : (e : PlanEdge) → Stands e (plan_edges m)
      → is_abscissa m (flat d) (number (other_along d e.edge)) ≡ true
  other_is_one e e_in =
      let u = number (other_along d e.edge) in
      by_edge u e e_in
      (or_right (int_eq (cross u (number (end_along d e.edge))) (pos 0)) (int_eq (cross u u) (pos 0))
      ((Decides-int_eq (cross u u) (pos 0)).1 (cross-self u)))

  -- the abscissa of a crossing is one
  pub crossing_is_one : (p : Spot) → IsSpot p → is_crossing m p ≡ true
      → is_abscissa m (flat d) (rational (along d p) p.w) ≡ true
  crossing_is_one p p_is is = from (one_of_any _ (plan_edges m) is)
    where
      over : (e f : PlanEdge) → Stands e (plan_edges m) → Stands f (plan_edges m)
          → cross_at p e.edge f.edge ≡ true
          → is_abscissa m (flat d) (rational (along d p) p.w) ≡ true
      over e f e_in f_in crosses =
          let found = crosses_over d p p_is e.edge f.edge crosses in
          ap (is_abscissa m (flat d)) (sym (reading_along d (level p)))
          ∙ same_of_alike (λ r. is_abscissa m (flat d) (reading r (flat d)))
          (reading_sees_no_factor m (flat d)) (level p) (meeting_of e.edge f.edge) p_is found.1.0
          found.1.1
          ∙ by_crossing (reading (meeting_of e.edge f.edge) (flat d)) e f e_in f_in found.0

      from : (e : PlanEdge)
          × (Stands e (plan_edges m)
          × (list_any (λ f. cross_at p e.edge f.edge) (plan_edges m) ≡ true))
          → is_abscissa m (flat d) (rational (along d p) p.w) ≡ true
      from (e, known) = with_second (one_of_any _ (plan_edges m) known.1)
        where
          with_second : (f : PlanEdge) × (Stands f (plan_edges m) × (cross_at p e.edge f.edge ≡ true))
              → is_abscissa m (flat d) (rational (along d p) p.w) ≡ true
          with_second (f, its) = over e f known.0 its.0 its.1
