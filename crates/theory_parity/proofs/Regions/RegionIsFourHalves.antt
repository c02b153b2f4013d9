-- The region of a patch, in the frame of a direction, is the intersection of four open half-planes.
-- So a region whose points off finitely many lines lie inside a plan lies inside the plan.

use Rattle.std.proofs.Common.{◌≡◌, refl, sym, ap, ap₂, ◌∙◌, arith, pos, neg_ℤ}
use Rattle.std.proofs.Common.{◌+ℤ◌, ◌-ℤ◌, ◌*ℤ◌, Bool, true, false, not, ◌&&◌, IsTrue}
use Rattle.std.proofs.Common.{List, [], ◌∷◌, ◌++◌, map}
use Rattle.std.specs.List.{AllByRecursion}
use Rattle.std.specs.Ordering.{int_eq}
use Rattle.std.proofs.lemmas.Int.{ints}
use Rattle.std.proofs.lemmas.Bool.{and_parts, false≢true}
use Rattle.std.proofs.lemmas.Bool.Decides.{Decides-int_eq}
use Rattle.theory_lists.proofs.Members.{all_follow, all_images, all_of_images}
use Rattle.theory_lists.proofs.Blocks.{all-append, all_in_parts}
use Rattle.theory_numbers.specs.Tests.{is_positive}
use Rattle.theory_numbers.specs.Arrows.{Arrow, arrow, cross, dot}
use Rattle.theory_numbers.specs.Rationals.{IsRational}
use Rattle.theory_numbers.proofs.Shapes.{var, plus, minus, negated, times, equal, cross_by, dot_by}
use Rattle.theory_numbers.proofs.Vectors.Lengths.{length_of_zero}
use Rattle.theory_numbers.proofs.Signs.{same_less, test_not_equal}
use Rattle.theory_numbers.proofs.Products.{positive_product, zero_of_positive}
use Rattle.theory_numbers.proofs.Ring.{mul-zero}
use Rattle.theory_plane.specs.Sides.{LineSide, IsLineSide}
use Rattle.theory_plane.specs.Points.{is_above_side, is_under_side, is_on_side}
use Rattle.theory_plane.specs.Regions.{Region}
use Rattle.sb_fraction.specs.declared.point.Point.{Point}
use Rattle.sb_fraction.specs.Spots.{Spot}
use Rattle.sb_fraction.specs.Lines.{in_frame}
use Rattle.theory_plans.specs.Plans.{is_plan}
use Rattle.theory_parity.specs.Below.{IsWay, abscissa_in}
use Rattle.theory_parity.specs.Halves.{Half, IsLine, height_over, is_in_half, is_in_all, is_off}
use Rattle.theory_parity.specs.Halves.{IsInsideOff, IsInsideThroughout}
use Rattle.theory_parity.specs.RegionsAlong.{opposite_half, half_beyond, half_above, four_halves}
use Rattle.theory_parity.specs.RegionsAlong.{is_in_region, IsOffSides, IsInsideOffSides}
use Rattle.theory_parity.proofs.Regions.InsideThroughout.{inside_throughout}

-- ---- the height over each of the four lines

-- the height over a line is that over it turned round, but for the sign
opposite_height : (h : Half) (p : Spot) → height_over (opposite_half h) p ≡ neg_ℤ (height_over h p)
opposite_height h p =
    equal
    (plus (plus (times (negated (var h.a)) (var p.x)) (times (negated (var h.b)) (var p.y)))
    (times (negated (var h.c)) (var p.w)))
    (negated
    (plus (plus (times (var h.a) (var p.x)) (times (var h.b) (var p.y)))
    (times (var h.c) (var p.w))))
    (omega arith)

-- how far the point lies beyond u
beyond_height : (d u : Arrow) (p : Spot)
    → cross u (abscissa_in d p) ≡ height_over (half_beyond d u) p
beyond_height d u p =
    equal
    (cross_by u (abscissa_in d p) (var u.x) (var u.y) (var p.w)
    (dot_by d (arrow p.x p.y) (var d.x) (var d.y) (var p.x) (var p.y)))
    (plus
    (plus (times (times (var u.x) (var d.x)) (var p.x)) (times (times (var u.x) (var d.y)) (var p.y)))
    (times (negated (var u.y)) (var p.w)))
    (omega arith)

before_height : (d u : Arrow) (p : Spot)
    → cross (abscissa_in d p) u ≡ height_over (opposite_half (half_beyond d u)) p
before_height d u p =
    equal
    (cross_by (abscissa_in d p) u (var p.w)
    (dot_by d (arrow p.x p.y) (var d.x) (var d.y) (var p.x) (var p.y)) (var u.x) (var u.y))
    (plus
    (plus (times (negated (times (var u.x) (var d.x))) (var p.x))
    (times (negated (times (var u.x) (var d.y))) (var p.y)))
    (times (negated (negated (var u.y))) (var p.w)))
    (omega arith)

-- how far it lies above the side
above_height : (d : Arrow) (l : LineSide) (p : Spot)
    → ((l.dx *ℤ cross d (arrow p.x p.y)) -ℤ (l.dy *ℤ dot d (arrow p.x p.y))) -ℤ (l.off *ℤ p.w)
    ≡ height_over (half_above d l) p
above_height d l p =
    equal
    (minus
    (minus
    (times (var l.dx) (cross_by d (arrow p.x p.y) (var d.x) (var d.y) (var p.x) (var p.y)))
    (times (var l.dy) (dot_by d (arrow p.x p.y) (var d.x) (var d.y) (var p.x) (var p.y))))
    (times (var l.off) (var p.w)))
    (plus
    (plus
    (times (negated (plus (times (var l.dx) (var d.y)) (times (var l.dy) (var d.x)))) (var p.x))
    (times (minus (times (var l.dx) (var d.x)) (times (var l.dy) (var d.y))) (var p.y)))
    (times (negated (var l.off)) (var p.w)))
    (omega arith)

above_is_half : (d : Arrow) (l : LineSide) (p : Spot)
    → is_above_side l (in_frame d p) ≡ is_in_half p (half_above d l)
above_is_half d l p =
    let low = l.off *ℤ p.w in
    let high = (l.dx *ℤ cross d (arrow p.x p.y)) -ℤ (l.dy *ℤ dot d (arrow p.x p.y)) in
    let whole = above_height d l p in
    same_less low high (pos 0) (height_over (half_above d l) p)
    (λ less. omega (arith, ints)) (λ above. omega (arith, ints))

under_is_half : (d : Arrow) (l : LineSide) (p : Spot)
    → is_under_side l (in_frame d p) ≡ is_in_half p (opposite_half (half_above d l))
under_is_half d l p =
    let low = l.off *ℤ p.w in
    let high = (l.dx *ℤ cross d (arrow p.x p.y)) -ℤ (l.dy *ℤ dot d (arrow p.x p.y)) in
    let whole = above_height d l p in
    let turned = opposite_height (half_above d l) p in
    same_less high low (pos 0) (height_over (opposite_half (half_above d l)) p)
    (λ less. omega (arith, ints)) (λ above. omega (arith, ints))

-- ---- the region

regrouped : (a b c d : Bool) → ((a && b) && (c && d)) ≡ (a && (b && (c && (d && true))))
regrouped true true true true = refl
regrouped true true true false = refl
regrouped true true false d = refl
regrouped true false c d = refl
regrouped false b c d = refl

-- a point lies in the region exactly where it lies in each of its four half-planes
pub region_is_four_halves : (d : Arrow) (r : Region) (p : Spot)
    → is_in_region d r p ≡ is_in_all (four_halves d r) p
region_is_four_halves d r p =
    ap₂ (λ s t. s && t)
    (ap₂ (λ s t. s && t) (ap is_positive (beyond_height d r.low p))
    (ap is_positive (before_height d r.high p)))
    (ap₂ (λ s t. s && t) (above_is_half d r.lower p) (under_is_half d r.upper p))
    ∙ regrouped (is_in_half p (half_beyond d r.low))
    (is_in_half p (opposite_half (half_beyond d r.high))) (is_in_half p (half_above d r.lower))
    (is_in_half p (opposite_half (half_above d r.upper)))

-- a region whose points off finitely many lines lie inside a plan lies inside it
pub region_inside_throughout : (loops : List (List Point)) → IsTrue (is_plan loops) → (d : Arrow)
    (r : Region) (cuts : List Half) → AllByRecursion IsLine cuts
    → IsInsideOff loops cuts (is_in_region d r) → IsInsideThroughout loops (is_in_region d r)
region_inside_throughout loops plan d r cuts cuts_in inside q q_is at =
    inside_throughout loops plan cuts (four_halves d r) cuts_in
    (λ p p_is at_p off. inside p p_is (region_is_four_halves d r p ∙ at_p) off) q q_is
    (sym (region_is_four_halves d r q) ∙ at)

-- ---- abscissae and sides as lines

way_is_not_0 : (d : Arrow) → IsWay d → d.x ≡ pos 0 → d.y ≡ pos 0 → ⊥
way_is_not_0 d d_is x_none y_none =
    let none = length_of_zero d x_none y_none in absurd (omega (arith, ints))

-- each abscissa is a line
pub beyond_is_line : (d u : Arrow) → IsWay d → IsRational u → IsLine (half_beyond d u)
beyond_is_line d u d_is u_in zero =
    way_is_not_0 d d_is (zero_of_positive u.x d.x u_in zero.0) (zero_of_positive u.x d.y u_in zero.1)

-- and each side
pub above_is_line : (d : Arrow) (l : LineSide) → IsWay d → IsLineSide l → IsLine (half_above d l)
above_is_line d l d_is l_in zero =
    let product = positive_product l.dx (dot d d) l_in d_is in
    let none : l.dx *ℤ dot d d ≡ (d.x *ℤ pos 0) -ℤ (d.y *ℤ pos 0) =
    turned ∙ ap₂ (λ s t. (d.x *ℤ s) -ℤ (d.y *ℤ t)) zero.1 zero.0 in
    let first = mul-zero d.x in
    let second = mul-zero d.y in
    absurd (omega (arith, ints))
  where
    turned : l.dx *ℤ dot d d
        ≡ (d.x *ℤ ((l.dx *ℤ d.x) -ℤ (l.dy *ℤ d.y)))
        -ℤ (d.y *ℤ neg_ℤ ((l.dx *ℤ d.y) +ℤ (l.dy *ℤ d.x)))
    turned =
        equal (times (var l.dx) (dot_by d d (var d.x) (var d.y) (var d.x) (var d.y)))
        (minus
        (times (var d.x) (minus (times (var l.dx) (var d.x)) (times (var l.dy) (var d.y))))
        (times (var d.y)
        (negated (plus (times (var l.dx) (var d.y)) (times (var l.dy) (var d.x))))))
        (omega arith)

off_each : (hs : List Half) (p : Spot) → is_off hs p ≡ true
    → AllByRecursion (λ h. height_over h p ≡ pos 0 → ⊥) hs
off_each [] p off = tt
off_each (h ∷ hs) p off =
    let parts = and_parts (not (int_eq (height_over h p) (pos 0))) (is_off hs p) off in (
      λ none. false≢true
          (sym (ap not ((Decides-int_eq (height_over h p) (pos 0)).1 none)) ∙ parts.0),
      off_each hs p parts.1,
    )

module _ (d : Arrow) (abscissae : List Arrow) (cuts : List LineSide) where
  lines_along : List Half
  lines_along = map (half_beyond d) abscissae ++ map (half_above d) cuts

  lines_along_in : IsWay d → AllByRecursion IsRational abscissae → AllByRecursion IsLineSide cuts
      → AllByRecursion IsLine lines_along
  unfolding lines_along
  lines_along_in d_is abscissae_in cuts_in =
      all-append IsLine (map (half_beyond d) abscissae) (map (half_above d) cuts)
      (all_images IsLine (half_beyond d) abscissae
      (all_follow (λ u u_in. beyond_is_line d u d_is u_in) abscissae abscissae_in))
      (all_images IsLine (half_above d) cuts
      (all_follow (λ l l_in. above_is_line d l d_is l_in) cuts cuts_in))

  -- what is off these lines is off the abscissae and off the sides
  off_lines_along : (p : Spot) → is_off lines_along p ≡ true → IsOffSides d abscissae cuts p
  unfolding lines_along
  off_lines_along p off =
      let parts =
      all_in_parts (λ h. height_over h p ≡ pos 0 → ⊥) (map (half_beyond d) abscissae)
      (map (half_above d) cuts)
      (off_each (map (half_beyond d) abscissae ++ map (half_above d) cuts) p off)
      in
      record {
        no_abscissa =
            all_follow (λ u apart same. apart (sym (beyond_height d u p) ∙ same)) abscissae
            (all_of_images (λ h. height_over h p ≡ pos 0 → ⊥) (half_beyond d) abscissae parts.0);
        no_cut =
            all_follow (λ l apart. not_on_side l apart) cuts
            (all_of_images (λ h. height_over h p ≡ pos 0 → ⊥) (half_above d) cuts parts.1);
      }
    where
      not_on_side : (l : LineSide) → (height_over (half_above d l) p ≡ pos 0 → ⊥)
          → is_on_side l (in_frame d p) ≡ false
      not_on_side l apart =
          let high = (l.dx *ℤ cross d (arrow p.x p.y)) -ℤ (l.dy *ℤ dot d (arrow p.x p.y)) in
          let low = l.off *ℤ p.w in
          test_not_equal high low
          (λ same. let whole = above_height d l p in apart (omega (arith, ints)))

-- a region whose points off finitely many abscissae and sides lie inside a plan lies inside it
pub region_inside_throughout_off_sides : (loops : List (List Point)) → IsTrue (is_plan loops)
    → (d : Arrow) (r : Region) (abscissae : List Arrow) (cuts : List LineSide) → IsWay d
    → AllByRecursion IsRational abscissae → AllByRecursion IsLineSide cuts
    → IsInsideOffSides loops d abscissae cuts r → IsInsideThroughout loops (is_in_region d r)
region_inside_throughout_off_sides loops plan d r abscissae cuts d_is abscissae_in cuts_in inside =
    region_inside_throughout loops plan d r (lines_along d abscissae cuts)
    (lines_along_in d abscissae cuts d_is abscissae_in cuts_in)
    (λ p p_is at off. inside p p_is at (off_lines_along d abscissae cuts p off))
