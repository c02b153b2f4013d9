-- Across the only edge through a point of a line u = constant the parity of the edges below flips.

use Rattle.std.proofs.Common.{◌≡◌, refl, sym, ap, ap₂, ◌∙◌, ◌⊎◌, inl, inr, arith, pos}
use Rattle.std.proofs.Common.{◌<ℤ◌, ◌-ℤ◌, Bool, true, false, List}
use Rattle.std.specs.Ordering.{int_eq}
use Rattle.std.specs.List.{AllByRecursion}
use Rattle.std.proofs.lemmas.Int.{ints}
use Rattle.std.proofs.lemmas.Bool.{false≢true}
use Rattle.std.proofs.lemmas.Bool.Decides.{Decides-int_eq}
use Rattle.theory_lists.specs.OneOf.{ExactlyOne}
use Rattle.theory_lists.specs.Parity.{differ, is_odd_number}
use Rattle.theory_lists.proofs.Members.{all_follow}
use Rattle.theory_lists.proofs.Parity.{differ-self, is_odd_number-same}
use Rattle.theory_lists.proofs.Parity.{is_odd_number-differ, odd_where_same, one_is_odd}
use Rattle.theory_numbers.specs.Arrows.{Arrow, cross, dot}
use Rattle.theory_numbers.specs.Rationals.{IsRational, IsBelow, is_below, rational}
use Rattle.theory_numbers.proofs.Vectors.Arrows.{cross-turn, dot-opposite}
use Rattle.theory_numbers.proofs.Fractions.Rationals.{below_trans, below_at_most_trans, at_most_below_trans}
use Rattle.theory_numbers.proofs.Shapes.{var, plus, minus, times, equal, dot_by}
use Rattle.theory_numbers.proofs.Signs.{sign_cases, test_less, test_not_less, test_not_equal}
use Rattle.theory_plane.specs.Sides.{IsLineSide}
use Rattle.theory_plane.proofs.Clearance.{value_on-IsRational}
use Rattle.sb_fraction.specs.Edges.{Edge, span_of}
use Rattle.sb_fraction.specs.Crossings.{abscissa_at}
use Rattle.sb_fraction.specs.Lines.{flat, span_along, line_over, reaches_past}
use Rattle.theory_parity.specs.Below.{IsWay, is_below_at, spot_in, value_of, is_lower_at, is_through}
use Rattle.theory_parity.specs.Below.{IsFree}
use Rattle.theory_parity.proofs.Rays.BelowByValue.{below_by_value}

-- ---- an edge that reaches past u has a value there

span_by_ends : (d : Arrow) (e : Edge)
    → dot d (span_of e) ≡ abscissa_at e.b (flat d) -ℤ abscissa_at e.a (flat d)
span_by_ends d e =
    equal
    (dot_by d (span_of e) (var d.x) (var d.y) (minus (var e.b.x) (var e.a.x))
    (minus (var e.b.y) (var e.a.y)))
    (minus (plus (times (var e.b.x) (var d.x)) (times (var e.b.y) (var d.y)))
    (plus (times (var e.a.x) (var d.x)) (times (var e.a.y) (var d.y))))
    (omega arith)

-- its line is one with a positive first part
pub reaching_is_line : (d u : Arrow) (e : Edge) → reaches_past d u e ≡ true
    → IsLineSide (line_over d e)
unfolding span_along
reaching_is_line d u e reaches = from (sign_cases (dot d (span_of e)))
  where
    level : dot d (span_of e) ≡ pos 0 → reaches_past d u e ≡ false
    level zero =
        ap (λ k. differ (is_below u (rational (abscissa_at e.a (flat d)) (pos 1)))
        (is_below u (rational k (pos 1)))) same
        ∙ differ-self (is_below u (rational (abscissa_at e.a (flat d)) (pos 1)))
      where
        same : abscissa_at e.b (flat d) ≡ abscissa_at e.a (flat d)
        same = omega (arith, ints, span_by_ends d e, zero)

    from : ((pos 0 <ℤ dot d (span_of e)) ⊎ (dot d (span_of e) ≡ pos 0))
        ⊎ (dot d (span_of e) <ℤ pos 0)
        → IsLineSide (line_over d e)
    from (inl (inl along)) = rw (test_less (pos 0) (dot d (span_of e)) along) along
    from (inl (inr zero)) = absurd (false≢true (sym (level zero) ∙ reaches))
    from (inr against) =
        rw (test_not_less (pos 0) (dot d (span_of e)) (omega (arith, ints)))
        (omega (arith, ints, dot-opposite d (span_of e), against))

-- ---- values beside m

module _ (v m w : Arrow) (v_in : IsRational v) (m_in : IsRational m) (w_in : IsRational w)
    (low : IsBelow v m) (high : IsBelow m w) where
  -- a number beside m is below w and not below v just where it is m
  flips_at : (f : Arrow) → IsRational f → IsFree v m w f
      → differ (is_below f v) (is_below f w) ≡ int_eq (cross f m) (pos 0)
  flips_at f f_in (inl (inl below)) =
      let more = below_trans f v m f_in v_in m_in below low in
      let most = below_trans f m w f_in m_in w_in more high in
      ap₂ differ (test_less (pos 0) (cross f v) below) (test_less (pos 0) (cross f w) most)
      ∙ sym (test_not_equal (cross f m) (pos 0) (λ same. omega (arith, ints)))
  flips_at f f_in (inl (inr same)) =
      let most =
      at_most_below_trans f m w f_in m_in w_in (omega (arith, ints, same)) high
      in
      let turn = cross-turn f m in
      let turn_v = cross-turn f v in
      let less =
      below_at_most_trans v m f v_in m_in f_in low (omega (arith, ints))
      in
      ap₂ differ (test_not_less (pos 0) (cross f v) (omega (arith, ints)))
      (test_less (pos 0) (cross f w) most)
      ∙ sym ((Decides-int_eq (cross f m) (pos 0)).1 same)
  flips_at f f_in (inr above) =
      let more = below_at_most_trans m w f m_in w_in f_in high above in
      let most = below_trans v m f v_in m_in f_in low more in
      let turn = cross-turn f m in
      let turn_v = cross-turn f v in
      let turn_w = cross-turn f w in
      ap₂ differ (test_not_less (pos 0) (cross f v) (omega (arith, ints)))
      (test_not_less (pos 0) (cross f w) (omega (arith, ints)))
      ∙ sym (test_not_equal (cross f m) (pos 0) (λ same. omega (arith, ints)))

  -- so it is with an edge
  edge_flips : (d u : Arrow) (e : Edge) → IsRational u
      → (reaches_past d u e ≡ true → IsFree v m w (value_of d u e))
      → differ (is_lower_at d u v e) (is_lower_at d u w e) ≡ is_through d u m e
  edge_flips d u e u_in free = by (reaches_past d u e) refl
    where
      by : (b : Bool) → reaches_past d u e ≡ b
          → differ (is_lower_at d u v e) (is_lower_at d u w e) ≡ is_through d u m e
      by false none = rw none refl
      by true reaches =
          rw reaches
          (flips_at (value_of d u e)
          (value_on-IsRational (line_over d e) u (reaching_is_line d u e reaches) u_in)
          (free reaches))

-- ---- a list of edges

-- where no edge over u has a value between v and w but m, and exactly one passes at m, the number of
-- edges below is odd at one of (u, v) and (u, w) and even at the other
pub below_flips : (d u v m w : Arrow) → IsWay d → IsRational u → IsRational v → IsRational m
    → IsRational w → IsBelow v m → IsBelow m w → (es : List Edge)
    → AllByRecursion (λ e. reaches_past d u e ≡ true → IsFree v m w (value_of d u e)) es
    → ExactlyOne (is_through d u m) es
    → differ (is_odd_number (is_below_at d (spot_in d u v)) es)
    (is_odd_number (is_below_at d (spot_in d u w)) es)
    ≡ true
below_flips d u v m w d_is u_in v_in m_in w_in low high es free one =
    ap₂ differ
    (is_odd_number-same (is_below_at d (spot_in d u v)) (is_lower_at d u v)
    (λ e. below_by_value d u v e d_is u_in v_in) es)
    (is_odd_number-same (is_below_at d (spot_in d u w)) (is_lower_at d u w)
    (λ e. below_by_value d u w e d_is u_in w_in) es)
    ∙ sym (is_odd_number-differ (is_lower_at d u v) (is_lower_at d u w) es)
    ∙ odd_where_same (λ e. differ (is_lower_at d u v e) (is_lower_at d u w e)) (is_through d u m) es
    (all_follow (λ e known. edge_flips v m w v_in m_in w_in low high d u e u_in known) es free)
    ∙ one_is_odd (is_through d u m) es one
