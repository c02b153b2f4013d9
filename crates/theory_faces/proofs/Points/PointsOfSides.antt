-- A point of a side's plane, over its edge and between its heights, is a point of the side.
use Rattle.std.proofs.Common.{◌≡◌, refl, sym, ◌∙◌, ap, ap₂, subst, inl, inr, ◌⊎◌, arith, ℤ, pos}
use Rattle.std.proofs.Common.{neg_ℤ, ◌+ℤ◌, ◌-ℤ◌, ◌*ℤ◌, ◌<ℤ◌, ◌≤ℤ◌, Bool, true, false, ◌&&◌}
use Rattle.std.proofs.Common.{if◌then◌else◌, int_lt}
use Rattle.std.proofs.lemmas.Int.{ints}
use Rattle.std.proofs.lemmas.Bool.{and_parts, and_from, or_cases}
use Rattle.std.proofs.lemmas.Bool.Decides.{Decides-int_eq}
use Rattle.theory_lists.specs.Parity.{differ}
use Rattle.theory_numbers.specs.Arrows.{Arrow, arrow, cross, dot}
use Rattle.theory_numbers.specs.Rationals.{IsRational, IsBelow, IsAtMost, is_at_most}
use Rattle.theory_numbers.proofs.Vectors.Arrows.{cross-turn}
use Rattle.theory_numbers.proofs.Products.{weak_product}
use Rattle.theory_numbers.proofs.Fractions.Rationals.{below_at_most_trans, at_most_below_trans}
use Rattle.theory_numbers.proofs.Fractions.Rationals.{at_most_from_below, below_irrefl}
use Rattle.theory_numbers.proofs.Ring.{mul-zero}
use Rattle.theory_numbers.proofs.Shapes.{var, num, plus, minus, negated, times, equal, dot_by}
use Rattle.theory_numbers.proofs.Signs.{at_most_from, test_at_most, test_less, test_not_less}
use Rattle.theory_numbers.proofs.Signs.{less_from}
use Rattle.theory_plane.specs.Sides.{level}
use Rattle.theory_plane.specs.Points.{face_point, abscissa_of, is_above_side, is_under_side}
use Rattle.theory_plane.specs.Regions.{Region, is_inside}
use Rattle.theory_joining.proofs.MarksOfPut.{inside_parts}
use Rattle.sb_fraction.specs.Spots.{Spot, IsSpot, Vector, vector, times_w}
use Rattle.sb_fraction.specs.Edges.{Edge, turn_at, is_on}
use Rattle.sb_fraction.specs.Directions.{axis_z, direction_of, normal_over, step}
use Rattle.sb_fraction.specs.Lines.{flat, reaches_past}
use Rattle.theory_plans.proofs.Edges.StepsOfEdges.{IsStep, direction_is_level}
use Rattle.sb_model.specs.Solids.{Upright, is_between_heights}
use Rattle.sb_model.specs.Surfaces.Faces.{side_over, on_face, is_in_plane}
use Rattle.sb_model.specs.Surfaces.FineCells.{number_at, leads_over, is_across_slab}
use Rattle.theory_parity.specs.Below.{abscissa_in}
use Rattle.theory_parity.proofs.Rays.InsideByBelow.{turn_by_span}
use Rattle.theory_faces.proofs.Points.PlainOffSides.{on_if_reached}

-- ---- over an edge

-- the lesser and the greater abscissa of an edge's ends
abbrev pub least_of : Vector → Edge → Arrow
least_of d e =
    if is_at_most (number_at d e.a) (number_at d e.b) then number_at d e.a else number_at d e.b

abbrev pub greatest_of : Vector → Edge → Arrow
greatest_of d e =
    if is_at_most (number_at d e.a) (number_at d e.b) then number_at d e.b else number_at d e.a

module _ (d : Vector) (e : Edge) where
  a_in : IsRational (number_at d e.a)
  a_in = omega (arith, ints)

  b_in : IsRational (number_at d e.b)
  b_in = omega (arith, ints)

  -- both are rational numbers
  pub least_in : IsRational (least_of d e)
  least_in = from (is_at_most (number_at d e.a) (number_at d e.b))
    where
      from : (b : Bool) → IsRational (if b then number_at d e.a else number_at d e.b)
      from true = a_in
      from false = b_in

  pub greatest_in : IsRational (greatest_of d e)
  greatest_in = from (is_at_most (number_at d e.a) (number_at d e.b))
    where
      from : (b : Bool) → IsRational (if b then number_at d e.b else number_at d e.a)
      from true = b_in
      from false = a_in

  -- an edge that spans a slab reaches from its beginning to its end
  pub spans_between : (low high : Arrow) → IsRational low → IsRational high → IsBelow low high
      → is_across_slab d low high e ≡ true
      → IsAtMost (least_of d e) low × IsAtMost high (greatest_of d e)
  spans_between low high low_in high_in wide spans =
      from
      (or_cases (leads_over d low high e.a e.b) (leads_over d low high e.b e.a) spans)
    where
      parts : (p q : Arrow) → (is_at_most p low && is_at_most high q) ≡ true
          → IsAtMost p low × IsAtMost high q
      parts p q answer =
          let both = and_parts (is_at_most p low) (is_at_most high q) answer in (
            at_most_from (pos 0) (cross p low) both.0,
            at_most_from (pos 0) (cross high q) both.1,
          )

      ordered : (p q : Arrow) → IsRational p → IsRational q → IsAtMost p low → IsAtMost high q
          → IsBelow p q
      ordered p q p_in q_in first last =
          below_at_most_trans p high q p_in high_in q_in
          (at_most_below_trans p low high p_in low_in high_in first wide) last

      from : (leads_over d low high e.a e.b ≡ true) ⊎ (leads_over d low high e.b e.a ≡ true)
          → IsAtMost (least_of d e) low × IsAtMost high (greatest_of d e)
      from (inl along) =
          let both = parts (number_at d e.a) (number_at d e.b) along in
          let order =
          test_at_most (pos 0) (cross (number_at d e.a) (number_at d e.b))
          (at_most_from_below (number_at d e.a) (number_at d e.b)
          (ordered (number_at d e.a) (number_at d e.b) a_in b_in both.0 both.1))
          in
          rw order both
      from (inr against) =
          let both = parts (number_at d e.b) (number_at d e.a) against in
          by (is_at_most (number_at d e.a) (number_at d e.b)) refl both
        where
          by : (b : Bool) → is_at_most (number_at d e.a) (number_at d e.b) ≡ b
              → IsAtMost (number_at d e.b) low × IsAtMost high (number_at d e.a)
              → IsAtMost (if b then number_at d e.a else number_at d e.b) low
              × IsAtMost high (if b then number_at d e.b else number_at d e.a)
          by true order both =
              absurd
              (below_irrefl (number_at d e.b)
              (below_at_most_trans (number_at d e.b) (number_at d e.a) (number_at d e.b) b_in a_in
              b_in
              (ordered (number_at d e.b) (number_at d e.a) b_in a_in both.0 both.1)
              (at_most_from (pos 0) (cross (number_at d e.a) (number_at d e.b)) order)))
          by false order both = both

-- an edge reaches past each number between the abscissae of its ends
between_reaches : (d u : Arrow) (e : Edge) → IsRational u → IsBelow (least_of (flat d) e) u
    → IsBelow u (greatest_of (flat d) e) → reaches_past d u e ≡ true
between_reaches d u e u_in after before =
    from (is_at_most (number_at (flat d) e.a) (number_at (flat d) e.b)) after before
  where
    past : (p : Arrow) → IsBelow p u → int_lt (pos 0) (cross u p) ≡ false
    past p below =
        let turn = cross-turn p u in test_not_less (pos 0) (cross u p) (omega (arith, ints))

    one : {s t : Bool} → s ≡ false → t ≡ true → differ s t ≡ true
    one first second = rw (first, second) refl

    other : {s t : Bool} → s ≡ true → t ≡ false → differ s t ≡ true
    other first second = rw (first, second) refl

    from : (b : Bool)
        → IsBelow (if b then number_at (flat d) e.a else number_at (flat d) e.b) u
        → IsBelow u (if b then number_at (flat d) e.b else number_at (flat d) e.a)
        → reaches_past d u e ≡ true
    from true low high =
        one (past (number_at (flat d) e.a) low)
        (test_less (pos 0) (cross u (number_at (flat d) e.b)) high)
    from false low high =
        other (test_less (pos 0) (cross u (number_at (flat d) e.a)) high)
        (past (number_at (flat d) e.b) low)

-- ---- in the plane of a side

-- what the plane says, by the numbers of the step
flat_turn : (k sx sy px py pz ax ay w : ℤ)
    → ((px *ℤ sy) +ℤ (py *ℤ neg_ℤ sx)) +ℤ (pz *ℤ pos 0) ≡ ((ax *ℤ sy) +ℤ (ay *ℤ neg_ℤ sx)) *ℤ w
    → (((k *ℤ sx) *ℤ py) -ℤ ((k *ℤ sy) *ℤ px))
    -ℤ ((((k *ℤ sx) *ℤ ay) -ℤ ((k *ℤ sy) *ℤ ax)) *ℤ w)
    ≡ pos 0
flat_turn k sx sy px py pz ax ay w same =
    let none : (((ax *ℤ sy) +ℤ (ay *ℤ neg_ℤ sx)) *ℤ w)
    -ℤ (((px *ℤ sy) +ℤ (py *ℤ neg_ℤ sx)) +ℤ (pz *ℤ pos 0)) ≡ pos 0 = omega (arith, ints) in
    whole ∙ ap (λ n. k *ℤ n) none ∙ mul-zero k
  where
    whole : (((k *ℤ sx) *ℤ py) -ℤ ((k *ℤ sy) *ℤ px))
        -ℤ ((((k *ℤ sx) *ℤ ay) -ℤ ((k *ℤ sy) *ℤ ax)) *ℤ w)
        ≡ k *ℤ ((((ax *ℤ sy) +ℤ (ay *ℤ neg_ℤ sx)) *ℤ w)
        -ℤ (((px *ℤ sy) +ℤ (py *ℤ neg_ℤ sx)) +ℤ (pz *ℤ pos 0)))
    whole =
        equal
        (minus
        (minus (times (times (var k) (var sx)) (var py)) (times (times (var k) (var sy)) (var px)))
        (times
        (minus (times (times (var k) (var sx)) (var ay)) (times (times (var k) (var sy)) (var ax)))
        (var w)))
        (times (var k)
        (minus
        (times (plus (times (var ax) (var sy)) (times (var ay) (negated (var sx)))) (var w))
        (plus (plus (times (var px) (var sy)) (times (var py) (negated (var sx))))
        (times (var pz) (num 0)))))
        (omega arith)

-- a point of the plane of a side lies on the line of its edge
pub turn_in_plane : (e : Edge) → IsStep e → (p : Spot) → is_in_plane (side_over e) p ≡ true
    → turn_at e p ≡ pos 0
unfolding normal_over cross
turn_in_plane e steps p plane =
    turn_by_span p e
    ∙ ap (λ n. p.w *ℤ n)
    (ap₂
    (λ x y. ((x *ℤ p.y) -ℤ (y *ℤ p.x)) -ℤ (((x *ℤ e.a.y) -ℤ (y *ℤ e.a.x)) *ℤ p.w)) steps.x steps.y
    ∙ flat_turn (pos steps.times) (step e).x (step e).y p.x p.y p.z e.a.x e.a.y p.w
    ((Decides-int_eq (times_w p (vector (step e).y (neg_ℤ (step e).x) (pos 0)))
    (((e.a.x *ℤ (step e).y) +ℤ (e.a.y *ℤ neg_ℤ (step e).x)) *ℤ p.w)).0 plane))
    ∙ mul-zero p.w

-- the direction of an edge, as a vector of the plan
abbrev pub way_of : Edge → Arrow
way_of e = arrow (direction_of e).x (direction_of e).y

flat_way : (e : Edge) → flat (way_of e) ≡ direction_of e
flat_way e = ap (λ z. vector (direction_of e).x (direction_of e).y z) (sym (direction_is_level e))

-- in its frame u is p·d
same_abscissa : (e : Edge) (p : Spot)
    → abscissa_in (way_of e) p ≡ abscissa_of (on_face (side_over e) p)
same_abscissa e p =
    ap (λ u. abscissa_of (face_point u (pos 0) p.w))
    (level_dot (way_of e) p ∙ ap (times_w p) (flat_way e))
  where
    level_dot : (d : Arrow) (q : Spot) → dot d (arrow q.x q.y) ≡ times_w q (flat d)
    level_dot d q =
        equal (dot_by d (arrow q.x q.y) (var d.x) (var d.y) (var q.x) (var q.y))
        (plus (plus (times (var q.x) (var d.x)) (times (var q.y) (var d.y)))
        (times (var q.z) (num 0)))
        (omega arith)

-- ---- strips of a side

-- the region lies over the edge and between the heights
pub record IsOnSide (s : Upright) (e : Edge) (r : Region) : Type 0 where
  pub after : IsAtMost (least_of (direction_of e) e) r.low
  pub before : IsAtMost r.high (greatest_of (direction_of e) e)
  pub from : ℤ
  pub to : ℤ
  pub lower : r.lower ≡ level from
  pub upper : r.upper ≡ level to
  pub above : s.z0 ≤ℤ from
  pub below : to ≤ℤ s.z1

reads_z : (x y z : ℤ) → ((x *ℤ pos 0) +ℤ (y *ℤ pos 0)) +ℤ (z *ℤ pos 1) ≡ z
reads_z x y z = omega (arith, ints)

-- a product with a positive number rises
rises : (g h w : ℤ) → g ≤ℤ h → pos 0 <ℤ w → (g *ℤ w) ≤ℤ (h *ℤ w)
rises g h w least w_in =
    let weak = weak_product (h -ℤ g) w (omega (arith, ints)) (omega (arith, ints)) in
    let whole : (h *ℤ w) -ℤ (g *ℤ w) ≡ (h -ℤ g) *ℤ w =
    equal (minus (times (var h) (var w)) (times (var g) (var w)))
    (times (minus (var h) (var g)) (var w)) (omega arith) in
    omega (arith, ints)

-- a point of the plane that lies in such a region is a point of the side
pub on_side_is_of_side : (s : Upright) (e : Edge) → IsStep e → (r : Region) → IsRational r.low
    → IsRational r.high → IsOnSide s e r → (p : Spot) → IsSpot p
    → is_in_plane (side_over e) p ≡ true → is_inside r (on_face (side_over e) p) ≡ true
    → (is_on p e && is_between_heights s.z0 s.z1 p) ≡ true
on_side_is_of_side s e steps r low_in high_in is p p_is plane inside =
    let parts = inside_parts r (on_face (side_over e) p) inside in
    let u = abscissa_of (on_face (side_over e) p) in
    let d = direction_of e in
    let sides =
    and_parts (is_above_side r.lower (on_face (side_over e) p))
    (is_under_side r.upper (on_face (side_over e) p)) parts.sides
    in
    let after : IsBelow (least_of d e) u =
    at_most_below_trans (least_of d e) r.low u (least_in d e) low_in p_is is.after parts.after in
    let before : IsBelow u (greatest_of d e) =
    below_at_most_trans u r.high (greatest_of d e) p_is high_in (greatest_in d e) parts.before
    is.before in
    let reaches : reaches_past (way_of e) u e ≡ true =
    between_reaches (way_of e) u e p_is
    (subst (λ x. IsBelow (least_of x e) u) (sym (flat_way e)) after)
    (subst (λ x. IsBelow u (greatest_of x e)) (sym (flat_way e)) before) in
    and_from (is_on p e) (is_between_heights s.z0 s.z1 p)
    (on_if_reached (way_of e) p e (turn_in_plane e steps p plane)
    (subst (λ x. reaches_past (way_of e) x e ≡ true) (sym (same_abscissa e p)) reaches))
    (between
    (subst (λ l. is_above_side l (on_face (side_over e) p) ≡ true) is.lower sides.0)
    (subst (λ l. is_under_side l (on_face (side_over e) p) ≡ true) is.upper sides.1))
  where
    between : is_above_side (level is.from) (on_face (side_over e) p) ≡ true
        → is_under_side (level is.to) (on_face (side_over e) p) ≡ true
        → is_between_heights s.z0 s.z1 p ≡ true
    between over under =
        let v = times_w p axis_z in
        let height : v ≡ p.z = reads_z p.x p.y p.z in
        let t = times_w p (direction_of e) in
        let low = less_from (is.from *ℤ p.w) ((pos 1 *ℤ v) -ℤ (pos 0 *ℤ t)) over in
        let high = less_from ((pos 1 *ℤ v) -ℤ (pos 0 *ℤ t)) (is.to *ℤ p.w) under in
        let first = rises s.z0 is.from p.w is.above p_is in
        let last = rises is.to s.z1 p.w is.below p_is in
        and_from (int_lt (s.z0 *ℤ p.w) p.z) (int_lt p.z (s.z1 *ℤ p.w))
        (test_less (s.z0 *ℤ p.w) p.z (omega (arith, ints)))
        (test_less p.z (s.z1 *ℤ p.w) (omega (arith, ints)))
