-- Where the points off finitely many lines lie inside a plan, no edge of it passes alone: a point of
-- an intersection of open half-planes that is no corner lies on an even number of edges.

use Rattle.std.proofs.Common.{◌≡◌, refl, sym, ap, ap₂, ◌∙◌, arith, ℤ, pos, neg_ℤ}
use Rattle.std.proofs.Common.{◌<ℤ◌, ◌+ℤ◌, ◌-ℤ◌, ◌*ℤ◌, true, false, not}
use Rattle.std.proofs.Common.{List, [], ◌∷◌, ◌++◌, map}
use Rattle.std.specs.Ordering.{int_eq}
use Rattle.std.specs.List.{AllByRecursion, list_any}
use Rattle.std.proofs.lemmas.Int.{ints}
use Rattle.std.proofs.lemmas.Bool.{and_parts, and_from}
use Rattle.theory_lists.specs.Parity.{differ, is_odd_number}
use Rattle.theory_lists.proofs.Members.{all_follow, all_both, all_of_images, all_images}
use Rattle.theory_lists.proofs.Blocks.{all-append, all_in_parts}
use Rattle.theory_numbers.specs.Arrows.{Arrow, cross, dot, opposite}
use Rattle.theory_numbers.specs.Rationals.{IsForm}
use Rattle.theory_numbers.proofs.Shapes.{var, num, plus, minus, negated, times, equal, cross_by}
use Rattle.theory_numbers.proofs.Products.{zero_of_positive, positive_product}
use Rattle.theory_numbers.proofs.Ring.{mul-neg}
use Rattle.theory_numbers.proofs.Signs.{test_not_equal}
use Rattle.sb_fraction.specs.declared.point.Point.{Point}
use Rattle.sb_fraction.specs.Spots.{Spot, IsSpot}
use Rattle.sb_fraction.specs.Edges.{Edge, span_of, seen_from, is_on}
use Rattle.sb_fraction.specs.Lines.{place}
use Rattle.theory_plans.specs.LoopEdges.{edges_of}
use Rattle.theory_plans.specs.Rays.{is_struck}
use Rattle.theory_parity.specs.Halves.{Half, IsLine, height_over, is_in_all, is_off, left_half}
use Rattle.theory_parity.specs.Halves.{on_way, IsInsideOff}
use Rattle.theory_parity.proofs.Rays.InsideByBelow.{inside_by_ray}
use Rattle.theory_parity.proofs.FromPointToPoint.StayNear.{HasSignOf, IsNear, form_on, stay_near, still_in_all}
use Rattle.theory_parity.proofs.FromPointToPoint.StayNear.{in_all_are_forms}
use Rattle.theory_parity.proofs.FromPointToPoint.Across.{parity_changes}
use Rattle.theory_parity.proofs.Regions.NearALine.{far_along, IsSlanted, opposite_slope, IsFreeWay}
use Rattle.theory_parity.proofs.Regions.NearALine.{free_way, left_along, left_against, opposite_heights}

-- the point is no end of the edge
pub record IsNoEnd (p : Spot) (e : Edge) : Type 0 where
  pub a_apart : pos 0 <ℤ dot (seen_from p e.a) (seen_from p e.a)
  pub b_apart : pos 0 <ℤ dot (seen_from p e.b) (seen_from p e.b)

-- ---- points near a point, off lines

-- each height is not 0 there
pub off_lines : (m p : Spot) (cuts : List Half)
    → AllByRecursion (λ h. HasSignOf (height_over h m) (height_over h p)) cuts
    → is_off cuts p ≡ true
off_lines m p [] signs = refl
off_lines m p (h ∷ cuts) signs =
    and_from (not (int_eq (height_over h p) (pos 0))) (is_off cuts p)
    (ap not (test_not_equal (height_over h p) (pos 0) signs.0.apart))
    (off_lines m p cuts signs.1)

slanted_forms : (m : Spot) (n : Arrow) (hs : List Half) → AllByRecursion (IsSlanted n) hs
    → AllByRecursion (λ h. IsForm (form_on m (far_along n) h)) hs
slanted_forms m n hs slanted =
    all_follow {P = IsSlanted n} {Q = λ h. IsForm (form_on m (far_along n) h)}
    (λ h apart zero. apart zero.1) hs slanted

slanted_back : (n : Arrow) (hs : List Half) → AllByRecursion (IsSlanted n) hs
    → AllByRecursion (IsSlanted (opposite n)) hs
slanted_back n hs slanted =
    all_follow {P = IsSlanted n} {Q = IsSlanted (opposite n)}
    (λ h apart zero. let turned = opposite_slope n h in apart (omega (arith, ints))) hs slanted

-- a point near m along a way that is parallel to none of the lines
pub record IsBeside (m : Spot) (n : Arrow) (halves lines : List Half) (s : Arrow) : Type 0 where
  pub rational : pos 0 <ℤ s.x
  pub up : pos 0 <ℤ s.y
  pub inside : is_in_all halves (on_way s.x m s.y (far_along n)) ≡ true
  pub signs : AllByRecursion
      (λ h. HasSignOf (height_over h m) (height_over h (on_way s.x m s.y (far_along n)))) lines

-- there is one
pub beside : (m : Spot) (n : Arrow) (halves lines : List Half) → is_in_all halves m ≡ true
    → AllByRecursion (IsSlanted n) lines → (s : Arrow) × IsBeside m n halves lines s
beside m n halves lines at slanted =
    from
    (stay_near m (far_along n) (halves ++ lines)
    (all-append (λ h. IsForm (form_on m (far_along n) h)) halves lines
    (in_all_are_forms m (far_along n) halves at) (slanted_forms m n lines slanted)))
  where
    from : (s : Arrow) × IsNear m (far_along n) (halves ++ lines) s
        → (s : Arrow) × IsBeside m n halves lines s
    from (s, near) =
        let parts =
        all_in_parts
        (λ h. HasSignOf (height_over h m) (height_over h (on_way s.x m s.y (far_along n))))
        halves lines near.signs
        in (
          s,
          record {
            rational = near.rational;
            up = near.up;
            inside = still_in_all m (on_way s.x m s.y (far_along n)) halves parts.0 at;
            signs = parts.1;
          },
        )

-- it is a point
pub beside_is : (m : Spot) (n s : Arrow) → IsSpot m → pos 0 <ℤ s.x
    → IsSpot (on_way s.x m s.y (far_along n))
beside_is m n s m_is s_in =
    let whole = nothing_more (s.x *ℤ m.w) s.y in
    let product = positive_product s.x m.w s_in m_is in
    omega (arith, ints)
  where
    nothing_more : (t k : ℤ) → t +ℤ (k *ℤ pos 0) ≡ t
    nothing_more t k = equal (plus (var t) (times (var k) (num 0))) (var t) (omega arith)

-- ---- the way and an edge

-- a way that is not parallel to an edge sees its ends at different distances
slanted_to_edge : (n : Arrow) (m : Spot) (e : Edge) → IsSpot m → IsSlanted n (left_half e)
    → cross n (seen_from m e.b) ≡ cross n (seen_from m e.a) → ⊥
slanted_to_edge n m e m_is slanted same =
    slanted (zero_of_positive m.w (height_over (left_half e) (far_along n)) m_is
    (omega (arith, ints, spread, rise, scaled)))
  where
    spread : m.w *ℤ cross n (span_of e)
        ≡ cross n (seen_from m e.b) -ℤ cross n (seen_from m e.a)
    spread =
        equal
        (times (var m.w)
        (cross_by n (span_of e) (var n.x) (var n.y) (minus (var e.b.x) (var e.a.x))
        (minus (var e.b.y) (var e.a.y))))
        (minus
        (cross_by n (seen_from m e.b) (var n.x) (var n.y)
        (minus (times (var e.b.x) (var m.w)) (var m.x))
        (minus (times (var e.b.y) (var m.w)) (var m.y)))
        (cross_by n (seen_from m e.a) (var n.x) (var n.y)
        (minus (times (var e.a.x) (var m.w)) (var m.x))
        (minus (times (var e.a.y) (var m.w)) (var m.y))))
        (omega arith)

    rise : height_over (left_half e) (far_along n) ≡ neg_ℤ (cross n (span_of e))
    rise = by (span_of e) (neg_ℤ (cross (span_of e) (place e.a)))
      where
        by : (s : Arrow) (c : ℤ)
            → ((neg_ℤ s.y *ℤ n.x) +ℤ (s.x *ℤ n.y)) +ℤ (c *ℤ pos 0) ≡ neg_ℤ (cross n s)
        by s c =
            equal
            (plus (plus (times (negated (var s.y)) (var n.x)) (times (var s.x) (var n.y)))
            (times (var c) (num 0)))
            (negated (cross_by n s (var n.x) (var n.y) (var s.x) (var s.y)))
            (omega arith)

    scaled : m.w *ℤ height_over (left_half e) (far_along n) ≡ neg_ℤ (m.w *ℤ cross n (span_of e))
    scaled = ap (λ t. m.w *ℤ t) rise ∙ mul-neg m.w (cross n (span_of e))

-- ---- the answer does not change

module _ (loops : List (List Point)) (cuts halves : List Half)
    (cuts_in : AllByRecursion IsLine cuts)
    (edges_in : AllByRecursion (λ e. IsLine (left_half e)) (edges_of loops))
    (inside : IsInsideOff loops cuts (is_in_all halves)) where
  lines : List Half
  lines = cuts ++ map left_half (edges_of loops)

  lines_in : AllByRecursion IsLine lines
  unfolding lines
  lines_in =
      all-append IsLine cuts (map left_half (edges_of loops)) cuts_in
      (all_images IsLine left_half (edges_of loops) edges_in)

  -- along a way that is parallel to no edge and no cut line, from a point that is no corner
  module _ (m : Spot) (m_is : IsSpot m) (at : is_in_all halves m ≡ true)
      (no_corner : AllByRecursion (IsNoEnd m) (edges_of loops)) (n : Arrow)
      (free : IsFreeWay lines n) where
    odd_there : (k : Arrow) (s : Arrow) → IsBeside m k halves lines s
        → is_odd_number (is_struck n (on_way s.x m s.y (far_along k))) (edges_of loops) ≡ true
    unfolding lines
    odd_there k s near =
        let p = on_way s.x m s.y (far_along k) in
        let signs =
        all_in_parts (λ h. HasSignOf (height_over h m) (height_over h p)) cuts
        (map left_half (edges_of loops)) near.signs
        in
        let here =
        inside p (beside_is m k s m_is near.rational) near.inside (off_lines m p cuts signs.0)
        in
        (and_parts (not (list_any (is_on p) (edges_of loops)))
        (is_odd_number (is_struck n p) (edges_of loops))
        (sym (inside_by_ray n p free.way loops) ∙ here)).1

    edge_signs : (k s : Arrow) → IsBeside m k halves lines s
        → AllByRecursion
        (λ e. HasSignOf (height_over (left_half e) m)
        (height_over (left_half e) (on_way s.x m s.y (far_along k)))) (edges_of loops)
    unfolding lines
    edge_signs k s near =
        let p = on_way s.x m s.y (far_along k) in
        let signs =
        all_in_parts (λ h. HasSignOf (height_over h m) (height_over h p)) cuts
        (map left_half (edges_of loops)) near.signs
        in
        all_of_images (λ h. HasSignOf (height_over h m) (height_over h p)) left_half
        (edges_of loops) signs.1

    edges_slanted : AllByRecursion (λ e. IsSlanted n (left_half e)) (edges_of loops)
    unfolding lines
    edges_slanted =
        let parts =
        all_in_parts (IsSlanted n) cuts (map left_half (edges_of loops)) free.slanted
        in
        all_of_images (IsSlanted n) left_half (edges_of loops) parts.1

    even_between : (s t : Arrow) → IsBeside m n halves lines s
        → IsBeside m (opposite n) halves lines t
        → is_odd_number (is_on m) (edges_of loops) ≡ false
    even_between s t near back =
        let p = on_way s.x m s.y (far_along n) in
        let q = on_way t.x m t.y (far_along (opposite n)) in
        sym
        (parity_changes n m p q m_is (beside_is m n s m_is near.rational)
        (beside_is m (opposite n) t m_is back.rational) (edges_of loops)
        (all_follow
        (λ e known. record {
          a_apart = known.0.0.a_apart;
          b_apart = known.0.0.b_apart;
          slanted = slanted_to_edge n m e m_is known.0.1;
          sign_p = known.1.0;
          sign_q = known.1.1;
          turned = opposite_heights (left_half e) m n s t near.up back.up known.0.1;
          left_p = left_along m n s near.rational;
          left_q = left_against m n t back.rational;
        }) (edges_of loops)
        (all_both (λ e. IsNoEnd m e × IsSlanted n (left_half e))
        (λ e. HasSignOf (height_over (left_half e) m) (height_over (left_half e) p)
        × HasSignOf (height_over (left_half e) m) (height_over (left_half e) q))
        (edges_of loops)
        (all_both (IsNoEnd m) (λ e. IsSlanted n (left_half e)) (edges_of loops) no_corner
        edges_slanted)
        (all_both
        (λ e. HasSignOf (height_over (left_half e) m) (height_over (left_half e) p))
        (λ e. HasSignOf (height_over (left_half e) m) (height_over (left_half e) q))
        (edges_of loops) (edge_signs n s near) (edge_signs (opposite n) t back)))))
        ∙ ap₂ differ (odd_there n s near) (odd_there (opposite n) t back)

    even_along : is_odd_number (is_on m) (edges_of loops) ≡ false
    even_along =
        from (beside m n halves lines at free.slanted)
        (beside m (opposite n) halves lines at (slanted_back n lines free.slanted))
      where
        from : (s : Arrow) × IsBeside m n halves lines s
            → (t : Arrow) × IsBeside m (opposite n) halves lines t
            → is_odd_number (is_on m) (edges_of loops) ≡ false
        from (s, near) (t, back) = even_between s t near back

  -- a point of the half-planes that is no corner lies on an even number of edges
  pub even_through : (m : Spot) → IsSpot m → is_in_all halves m ≡ true
      → AllByRecursion (IsNoEnd m) (edges_of loops)
      → is_odd_number (is_on m) (edges_of loops) ≡ false
  even_through m m_is at no_corner = from (free_way lines lines_in)
    where
      from : (n : Arrow) × IsFreeWay lines n → is_odd_number (is_on m) (edges_of loops) ≡ false
      from (n, free) = even_along m m_is at no_corner n free
