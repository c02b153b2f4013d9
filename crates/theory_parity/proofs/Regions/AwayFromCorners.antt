-- On an edge that passes through an intersection of open half-planes there is a point of it that is
-- no corner.

use Rattle.std.proofs.Common.{◌≡◌, ap, ◌∙◌, arith, ℤ, pos, neg_ℤ}
use Rattle.std.proofs.Common.{◌<ℤ◌, ◌+ℤ◌, ◌-ℤ◌, ◌*ℤ◌, true}
use Rattle.std.proofs.Common.{List, ◌++◌, map}
use Rattle.std.specs.List.{AllByRecursion}
use Rattle.std.proofs.lemmas.Int.{ints}
use Rattle.theory_lists.proofs.Members.{all_follow, all_both, all_of_images, all_images}
use Rattle.theory_lists.proofs.Members.{all_that_stand}
use Rattle.theory_lists.proofs.Blocks.{all-append, all_in_parts}
use Rattle.theory_numbers.specs.Arrows.{Arrow, dot}
use Rattle.theory_numbers.specs.Rationals.{IsForm}
use Rattle.theory_numbers.proofs.Shapes.{var, num, plus, minus, negated, times, equal}
use Rattle.theory_numbers.proofs.Shapes.{dot_by}
use Rattle.theory_numbers.proofs.Ring.{mul-zero}
use Rattle.theory_numbers.proofs.Vectors.Lengths.{long_from}
use Rattle.sb_fraction.specs.declared.point.Point.{Point}
use Rattle.sb_fraction.specs.Spots.{Spot, spot_at}
use Rattle.sb_fraction.specs.Edges.{Edge, seen_from}
use Rattle.theory_parity.specs.Halves.{Half, half, height_over, is_in_all, on_way}
use Rattle.theory_parity.proofs.FromPointToPoint.StayNear.{HasSignOf, IsNear, form_on, stay_near, still_in_all}
use Rattle.theory_parity.proofs.FromPointToPoint.StayNear.{in_all_are_forms}
use Rattle.theory_parity.proofs.Regions.NoEdgeInside.{IsNoEnd}

-- the line through a plan point at right angles to d
abbrev pub upright_at : Arrow → Point → Half
upright_at d c = half d.x d.y (neg_ℤ ((d.x *ℤ c.x) +ℤ (d.y *ℤ c.y)))

-- its height at a point says how far the plan point lies behind it
height_upright : (d : Arrow) (c : Point) (p : Spot)
    → height_over (upright_at d c) p ≡ neg_ℤ (dot d (seen_from p c))
height_upright d c p =
    equal
    (plus (plus (times (var d.x) (var p.x)) (times (var d.y) (var p.y)))
    (times (negated (plus (times (var d.x) (var c.x)) (times (var d.y) (var c.y)))) (var p.w)))
    (negated
    (dot_by d (seen_from p c) (var d.x) (var d.y)
    (minus (times (var c.x) (var p.w)) (var p.x)) (minus (times (var c.y) (var p.w)) (var p.y))))
    (omega arith)

-- the heights at t and at the plan point o differ where the way between them is not at right angles
heights_differ : (d : Arrow) (c o : Point) (t : Spot)
    → (t.w *ℤ height_over (upright_at d c) (spot_at o)) -ℤ height_over (upright_at d c) t
    ≡ dot d (seen_from t o)
heights_differ d c o t =
    by (neg_ℤ ((d.x *ℤ c.x) +ℤ (d.y *ℤ c.y)))
  where
    by : (k : ℤ)
        → (t.w *ℤ (((d.x *ℤ o.x) +ℤ (d.y *ℤ o.y)) +ℤ (k *ℤ pos 1)))
        -ℤ (((d.x *ℤ t.x) +ℤ (d.y *ℤ t.y)) +ℤ (k *ℤ t.w))
        ≡ dot d (seen_from t o)
    by k =
        equal
        (minus
        (times (var t.w)
        (plus (plus (times (var d.x) (var o.x)) (times (var d.y) (var o.y)))
        (times (var k) (num 1))))
        (plus (plus (times (var d.x) (var t.x)) (times (var d.y) (var t.y)))
        (times (var k) (var t.w))))
        (dot_by d (seen_from t o) (var d.x) (var d.y)
        (minus (times (var o.x) (var t.w)) (var t.x)) (minus (times (var o.y) (var t.w)) (var t.y)))
        (omega arith)

upright_forms : (d : Arrow) (o : Point) (t : Spot) → (dot d (seen_from t o) ≡ pos 0 → ⊥)
    → (c : Point) → IsForm (form_on t (spot_at o) (upright_at d c))
upright_forms d o t apart c zero =
    let whole = heights_differ d c o t in
    let none : t.w *ℤ height_over (upright_at d c) (spot_at o) ≡ pos 0 =
    ap (λ n. t.w *ℤ n) zero.1 ∙ mul-zero t.w in
    let here = zero.0 in
    apart (omega (arith, ints))

-- ---- near a point on the way to a plan point

-- a point near t on the way to o, in the half-planes, that is no corner
pub record IsOffCorners (t : Spot) (o : Point) (halves : List Half) (es : List Edge) (s : Arrow)
    : Type 0 where
  pub rational : pos 0 <ℤ s.x
  pub up : pos 0 <ℤ s.y
  pub inside : is_in_all halves (on_way s.x t s.y (spot_at o)) ≡ true
  pub no_corner : AllByRecursion (IsNoEnd (on_way s.x t s.y (spot_at o))) es

module _ (d : Arrow) (t : Spot) (o : Point) (halves : List Half) (es : List Edge)
    (d_long : pos 0 <ℤ dot d d) (apart : dot d (seen_from t o) ≡ pos 0 → ⊥)
    (at : is_in_all halves t ≡ true) where
  abbrev IsGood : Half → Type 0
  IsGood h = IsForm (form_on t (spot_at o) h)

  abbrev Has : Spot → Half → Type 0
  Has m h = HasSignOf (height_over h t) (height_over h m)

  abbrev at_a : Edge → Half
  at_a e = upright_at d e.a

  abbrev at_b : Edge → Half
  at_b e = upright_at d e.b

  apart_from : (m : Spot) (c : Point) → (height_over (upright_at d c) m ≡ pos 0 → ⊥)
      → pos 0 <ℤ dot (seen_from m c) (seen_from m c)
  apart_from m c off =
      long_from d (seen_from m c)
      (λ zero. off (height_upright d c m ∙ ap neg_ℤ zero)) d_long

  -- there is one, where the way is not at right angles to some vector d
  pub off_corners : (s : Arrow) × IsOffCorners t o halves es s
  off_corners =
      from
      (stay_near t (spot_at o) (halves ++ (map at_a es ++ map at_b es))
      (all-append IsGood halves (map at_a es ++ map at_b es)
      (in_all_are_forms t (spot_at o) halves at)
      (all-append IsGood (map at_a es) (map at_b es)
      (all_images IsGood at_a es
      (all_that_stand (λ e. IsGood (at_a e)) es (λ e at_e. upright_forms d o t apart e.a)))
      (all_images IsGood at_b es
      (all_that_stand (λ e. IsGood (at_b e)) es (λ e at_e. upright_forms d o t apart e.b))))))
    where
      from : (s : Arrow) × IsNear t (spot_at o) (halves ++ (map at_a es ++ map at_b es)) s
          → (s : Arrow) × IsOffCorners t o halves es s
      from (s, near) =
          let m = on_way s.x t s.y (spot_at o) in
          let parts = all_in_parts (Has m) halves (map at_a es ++ map at_b es) near.signs in
          let ends = all_in_parts (Has m) (map at_a es) (map at_b es) parts.1 in (
            s,
            record {
              rational = near.rational;
              up = near.up;
              inside = still_in_all t m halves parts.0 at;
              no_corner =
                  all_follow
                  (λ e known. record {
                    a_apart = apart_from m e.a known.0.apart;
                    b_apart = apart_from m e.b known.1.apart;
                  }) es
                  (all_both (λ e. Has m (at_a e)) (λ e. Has m (at_b e)) es
                  (all_of_images (Has m) at_a es ends.0) (all_of_images (Has m) at_b es ends.1));
            },
          )
