-- A cutting seen through an increasing linear map of positions: the breaks lie where the map takes them
-- from, and stay reduced fractions.
use Rattle.std.proofs.Common.{◌≡◌, ap, ◌∙◌, arith, ℤ, pos, ◌+ℤ◌, ◌-ℤ◌, ◌*ℤ◌}
use Rattle.std.proofs.Common.{◌<ℤ◌, Some, List, [], ◌∷◌, map}
use Rattle.std.proofs.lemmas.Int.{ints}
use Rattle.theory_numbers.specs.Arrows.{Arrow, arrow, cross}
use Rattle.theory_numbers.specs.Rationals.{IsRational, IsBelow, IsSame}
use Rattle.theory_numbers.proofs.Shapes.{var, num, plus, minus, times, equal, cross_by, cross_is}
use Rattle.theory_numbers.proofs.Vectors.Arrows.{cross-turn}
use Rattle.theory_numbers.proofs.Products.{positive_product, positive_factor}
use Rattle.theory_numbers.proofs.Fractions.Rationals.{at_most_below_trans, below_at_most_trans, same_trans}
use Rattle.theory_cuttings.specs.Cuttings.{Break, IsFraction, HasLabel, IsCutting, AreDifferent}
use Rattle.theory_cuttings.specs.Cuttings.{IsReducedCutting}
use Rattle.theory_cuttings.specs.Changes.{break_at}
use Rattle.theory_sight.specs.Bands.{fraction}
use Rattle.theory_sight.proofs.Crossings.BandsCut.{fraction_is_same, fraction_is_reduced}

-- the number e/d + (c/d)·t
abbrev pub stretched : ℤ → ℤ → ℤ → Arrow → Arrow
stretched d e c t = arrow (d *ℤ t.x) ((e *ℤ t.x) +ℤ (c *ℤ t.y))

-- the number that the map takes to v
abbrev pub taken_from : ℤ → ℤ → ℤ → Arrow → Arrow
taken_from d e c v = fraction ((d *ℤ v.y) -ℤ (e *ℤ v.x)) (c *ℤ v.x)

-- the order of two numbers through the map
pub cross-stretched : (d e c : ℤ) (s t : Arrow)
    → cross (stretched d e c s) (stretched d e c t) ≡ (d *ℤ c) *ℤ cross s t
cross-stretched d e c s t =
    equal
    (cross_by (stretched d e c s) (stretched d e c t) (times (var d) (var s.x))
    (plus (times (var e) (var s.x)) (times (var c) (var s.y))) (times (var d) (var t.x))
    (plus (times (var e) (var t.x)) (times (var c) (var t.y))))
    (times (times (var d) (var c)) (cross_is s t)) (omega arith)

module _ (d e c : ℤ) (d_in : pos 0 <ℤ d) (c_in : pos 0 <ℤ c) where
  slope_in : pos 0 <ℤ (d *ℤ c)
  slope_in = positive_product d c d_in c_in

  -- before it is written in lowest terms
  abbrev source : Arrow → Arrow
  source v = arrow (c *ℤ v.x) ((d *ℤ v.y) -ℤ (e *ℤ v.x))

  source_back : (v : Arrow) → cross (stretched d e c (source v)) v ≡ pos 0
  source_back v =
      equal
      (cross_by (stretched d e c (source v)) v (times (var d) (times (var c) (var v.x)))
      (plus (times (var e) (times (var c) (var v.x)))
      (times (var c) (minus (times (var d) (var v.y)) (times (var e) (var v.x))))) (var v.x)
      (var v.y))
      (num 0) (omega arith)

  -- it is a reduced fraction
  pub taken_is : (v : Arrow) → IsRational v → IsFraction (taken_from d e c v)
  taken_is v v_in =
      fraction_is_reduced ((d *ℤ v.y) -ℤ (e *ℤ v.x)) (c *ℤ v.x) (positive_product c v.x c_in v_in)

  stretched_in : (t : Arrow) → IsRational t → IsRational (stretched d e c t)
  stretched_in t t_in = positive_product d t.x d_in t_in

  -- the map takes it to v
  taken_back : (v : Arrow) → IsRational v → IsSame (stretched d e c (taken_from d e c v)) v
  taken_back v v_in =
      same_trans (stretched d e c (taken_from d e c v)) (stretched d e c (source v)) v
      (stretched_in (source v) (positive_product c v.x c_in v_in)) same (source_back v)
    where
      same : IsSame (stretched d e c (taken_from d e c v)) (stretched d e c (source v))
      same =
          cross-stretched d e c (taken_from d e c v) (source v)
          ∙ ap (λ n. (d *ℤ c) *ℤ n)
          (fraction_is_same ((d *ℤ v.y) -ℤ (e *ℤ v.x)) (c *ℤ v.x)
          (positive_product c v.x c_in v_in))
          ∙ times_zero (d *ℤ c)
        where
          times_zero : (k : ℤ) → k *ℤ pos 0 ≡ pos 0
          times_zero k = equal (times (var k) (num 0)) (num 0) (omega arith)

  -- above the number that is taken to v the map lies above v
  pub above_from : (v u : Arrow) → IsRational v → IsRational u → IsBelow (taken_from d e c v) u
      → IsBelow v (stretched d e c u)
  above_from v u v_in u_in above =
      let grown =
      positive_product (d *ℤ c) (cross (taken_from d e c v) u) slope_in above
      in
      let is = cross-stretched d e c (taken_from d e c v) u in
      let same = taken_back v v_in in
      let turn = cross-turn (stretched d e c (taken_from d e c v)) v in
      at_most_below_trans v (stretched d e c (taken_from d e c v)) (stretched d e c u) v_in
      (stretched_in (taken_from d e c v) ((taken_is v v_in).positive)) (stretched_in u u_in)
      (omega (arith, ints)) (omega (arith, ints))

  -- and back
  pub from_above : (v u : Arrow) → IsRational v → IsRational u → IsBelow v (stretched d e c u)
      → IsBelow (taken_from d e c v) u
  from_above v u v_in u_in above =
      let same = taken_back v v_in in
      let grown : IsBelow (stretched d e c (taken_from d e c v)) (stretched d e c u) =
      at_most_below_trans (stretched d e c (taken_from d e c v)) v (stretched d e c u)
      (stretched_in (taken_from d e c v) ((taken_is v v_in).positive)) v_in (stretched_in u u_in)
      (omega (arith, ints)) above
      in
      let is = cross-stretched d e c (taken_from d e c v) u in
      positive_factor (d *ℤ c) (cross (taken_from d e c v) u) slope_in (omega (arith, ints))

  -- below it the map lies below v
  pub below_from : (v u : Arrow) → IsRational v → IsRational u → IsBelow u (taken_from d e c v)
      → IsBelow (stretched d e c u) v
  below_from v u v_in u_in below =
      let grown =
      positive_product (d *ℤ c) (cross u (taken_from d e c v)) slope_in below
      in
      let is = cross-stretched d e c u (taken_from d e c v) in
      let same = taken_back v v_in in
      below_at_most_trans (stretched d e c u) (stretched d e c (taken_from d e c v)) v
      (stretched_in u u_in) (stretched_in (taken_from d e c v) ((taken_is v v_in).positive)) v_in
      (omega (arith, ints)) (omega (arith, ints))

  -- and back
  pub from_below : (v u : Arrow) → IsRational v → IsRational u → IsBelow (stretched d e c u) v
      → IsBelow u (taken_from d e c v)
  from_below v u v_in u_in below =
      let same = taken_back v v_in in
      let turn = cross-turn (stretched d e c (taken_from d e c v)) v in
      let grown : IsBelow (stretched d e c u) (stretched d e c (taken_from d e c v)) =
      below_at_most_trans (stretched d e c u) v (stretched d e c (taken_from d e c v))
      (stretched_in u u_in) v_in
      (stretched_in (taken_from d e c v) ((taken_is v v_in).positive)) below (omega (arith, ints))
      in
      let is = cross-stretched d e c u (taken_from d e c v) in
      positive_factor (d *ℤ c) (cross u (taken_from d e c v)) slope_in (omega (arith, ints))

  rises : (low high : Arrow) → IsRational low → IsRational high → IsBelow low high
      → IsBelow (taken_from d e c low) (taken_from d e c high)
  rises low high low_in high_in wide =
      from_above low (taken_from d e c high) low_in ((taken_is high high_in).positive)
      (let same = taken_back high high_in in
      let turn = cross-turn (stretched d e c (taken_from d e c high)) high in
      below_at_most_trans low high (stretched d e c (taken_from d e c high)) low_in high_in
      (stretched_in (taken_from d e c high) ((taken_is high high_in).positive)) wide
      (omega (arith, ints)))

  module _ {L : Type 0} (f : Arrow → L) where
    label_stretched : (low high : Arrow) (label : L) → IsRational low → IsRational high
        → HasLabel f (Some low) (Some high) label
        → HasLabel (λ u. f (stretched d e c u)) (Some (taken_from d e c low))
        (Some (taken_from d e c high)) label
    label_stretched low high label low_in high_in has u u_in after before =
        has (stretched d e c u) (stretched_in u u_in) (above_from low u low_in u_in after)
        (below_from high u high_in u_in before)

    -- the breaks, where the map takes them from
    abbrev pub stretched_breaks : List (Break L) → List (Break L)
    stretched_breaks bs = map (λ b. break_at (taken_from d e c b.start) b.label) bs

    stretched_is : (high : Arrow) → IsRational high → (low : Arrow) (first : L) (bs : List (Break L))
        → IsRational low → IsCutting f (Some low) (Some high) first bs
        → IsCutting (λ u. f (stretched d e c u)) (Some (taken_from d e c low))
        (Some (taken_from d e c high)) first (stretched_breaks bs)
    stretched_is high high_in low first [] low_in cut =
        (rises low high low_in high_in cut.0, label_stretched low high first low_in high_in cut.1)
    stretched_is high high_in low first (b ∷ bs) low_in cut = (
      taken_is b.start cut.0.positive,
      rises low b.start low_in cut.0.positive cut.1,
      label_stretched low b.start first low_in cut.0.positive cut.2,
      stretched_is high high_in b.start b.label bs cut.0.positive cut.3,
    )

    different_stretched : (first : L) (bs : List (Break L)) → AreDifferent first bs
        → AreDifferent first (stretched_breaks bs)
    different_stretched first [] differ = tt
    different_stretched first (b ∷ bs) differ = (differ.0, different_stretched b.label bs differ.1)

    -- and a reduced cutting stays one
    pub stretched_is_reduced : (low high : Arrow) (first : L) (bs : List (Break L))
        → IsRational low → IsRational high → IsReducedCutting f (Some low) (Some high) first bs
        → IsReducedCutting (λ u. f (stretched d e c u)) (Some (taken_from d e c low))
        (Some (taken_from d e c high)) first (stretched_breaks bs)
    stretched_is_reduced low high first bs low_in high_in cut = record {
      cutting = stretched_is high high_in low first bs low_in cut.cutting;
      different = different_stretched first bs cut.different;
    }
