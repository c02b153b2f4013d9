-- The layer of an element along a ray of any normal: its bands, seen through the reading along the axis,
-- cut each part of the ray that lies within the element's extent along it.
use Rattle.std.proofs.Common.{◌≡◌, ◌⊎◌, inl, inr, sym, ap, ap₂, ◌∙◌, arith, subst, ℕ, ℤ, pos}
use Rattle.std.proofs.Common.{neg_ℤ, ◌+ℤ◌, ◌*ℤ◌, ◌<ℤ◌, true, List, [], ◌∷◌}
use Rattle.std.proofs.Common.{Option, Some}
use Rattle.std.proofs.lemmas.Int.{ints}
use Rattle.theory_numbers.specs.Arrows.{Arrow, arrow, mirror, scale}
use Rattle.theory_numbers.specs.Rationals.{IsRational, IsBelow, IsAtMost}
use Rattle.theory_numbers.proofs.Shapes.{var, num, plus, times, negated, equal}
use Rattle.theory_numbers.proofs.Signs.{sign_cases}
use Rattle.theory_numbers.proofs.Products.{positive_product}
use Rattle.theory_numbers.proofs.Ring.{mul_comm}
use Rattle.theory_numbers.proofs.Vectors.Arrows.{cross-mirror_comm, mirror-cross}
use Rattle.theory_numbers.proofs.Fractions.Rationals.{below_or_not, below_clash, at_most_from_below}
use Rattle.theory_cuttings.specs.Ends.{IsOpen}
use Rattle.theory_cuttings.specs.Cuttings.{Break, IsReducedCutting}
use Rattle.theory_cuttings.specs.Changes.{Fine, label_after, breaks_before, breaks_after}
use Rattle.theory_cuttings.specs.Changes.{last_label, flip_onto}
use Rattle.theory_cuttings.proofs.Ends.{IsBetween, below_two_ends}
use Rattle.theory_cuttings.proofs.Backwards.{flip_is_reduced}
use Rattle.theory_cuttings.proofs.Parts.{cut_off_is_reduced}
use Rattle.theory_cuttings.proofs.CutTwice.{above_two_ends}
use Rattle.sb_fraction.specs.Spots.{Spot, IsSpot, Vector, inner, reading, times_w}
use Rattle.sb_model.specs.declared.layers.Axis.{Axis}
use Rattle.sb_model.specs.declared.layers.Layer.{Layer}
use Rattle.sb_model.specs.declared.layers.Layering.TheVariants.{Layered}
use Rattle.sb_model.specs.Solids.{Upright}
use Rattle.sb_model.specs.Building.{are_layers}
use Rattle.sb_model.specs.Passages.{Ray, at_depth}
use Rattle.sb_model.specs.Labels.{axis_vector, low_along, high_along, layer_at}
use Rattle.theory_sight.proofs.Crossings.BandsOfPrisms.{layer_along, layer_along-scaled, bands_up_are_cut}
use Rattle.theory_sight.proofs.Crossings.BandsOfPrisms.{low_end_of, high_end_of}
use Rattle.theory_sight.proofs.Stretched.{stretched, taken_from, stretched_is_reduced, from_above}
use Rattle.theory_sight.proofs.Stretched.{from_below, taken_is, stretched_breaks}
use Rattle.theory_sight.specs.Bands.{bands_up}

-- ---- the reading along an axis, as a linear map of depths

-- the denominator, the reading of the start and the slope
abbrev pub den_along : Ray → ℤ
den_along r = r.start.w *ℤ inner r.normal r.normal

-- the reading of its start, so many times
abbrev pub start_along : Ray → Vector → ℤ
start_along r a = times_w r.start a *ℤ inner r.normal r.normal

-- how fast the reading grows
abbrev pub slope_along : Ray → Vector → ℤ
slope_along r a = inner r.normal a *ℤ r.start.w

read_along : (p : Spot) (n a : Vector) (sc far : ℤ)
    → (((((p.x *ℤ sc) +ℤ (n.x *ℤ far)) *ℤ a.x) +ℤ (((p.y *ℤ sc) +ℤ (n.y *ℤ far)) *ℤ a.y))
    +ℤ (((p.z *ℤ sc) +ℤ (n.z *ℤ far)) *ℤ a.z))
    ≡ (times_w p a *ℤ sc) +ℤ (inner n a *ℤ far)
read_along p n a sc far =
    equal
    (plus
    (plus (times (plus (times (var p.x) (var sc)) (times (var n.x) (var far))) (var a.x))
    (times (plus (times (var p.y) (var sc)) (times (var n.y) (var far))) (var a.y)))
    (times (plus (times (var p.z) (var sc)) (times (var n.z) (var far))) (var a.z)))
    (plus
    (times (plus (plus (times (var p.x) (var a.x)) (times (var p.y) (var a.y)))
    (times (var p.z) (var a.z))) (var sc))
    (times (plus (plus (times (var n.x) (var a.x)) (times (var n.y) (var a.y)))
    (times (var n.z) (var a.z))) (var far))) (omega arith)

-- the point at a depth has this reading
pub reading_is : (r : Ray) (a : Vector) (u : Arrow)
    → reading (at_depth r u) a
    ≡ stretched (den_along r) (start_along r a) (slope_along r a) u
reading_is r a u = ap₂ arrow den num_is
  where
    den : r.start.w *ℤ (u.x *ℤ inner r.normal r.normal) ≡ den_along r *ℤ u.x
    den =
        equal (times (var r.start.w) (times (var u.x) (var (inner r.normal r.normal))))
        (times (times (var r.start.w) (var (inner r.normal r.normal))) (var u.x)) (omega arith)

    gather : (tw unit ux na uy w : ℤ)
        → (tw *ℤ (ux *ℤ unit)) +ℤ (na *ℤ (uy *ℤ w)) ≡ ((tw *ℤ unit) *ℤ ux) +ℤ ((na *ℤ w) *ℤ uy)
    gather tw unit ux na uy w =
        equal
        (plus (times (var tw) (times (var ux) (var unit))) (times (var na) (times (var uy) (var w))))
        (plus (times (times (var tw) (var unit)) (var ux)) (times (times (var na) (var w)) (var uy)))
        (omega arith)

    num_is : times_w (at_depth r u) a
        ≡ (start_along r a *ℤ u.x) +ℤ (slope_along r a *ℤ u.y)
    num_is =
        read_along r.start r.normal a (u.x *ℤ inner r.normal r.normal) (u.y *ℤ r.start.w)
        ∙ gather (times_w r.start a) (inner r.normal r.normal) u.x (inner r.normal a) u.y r.start.w

-- the map turned about, of a number turned about
pub turned_map : (d e c : ℤ) (u : Arrow)
    → stretched d e (neg_ℤ c) (mirror u) ≡ stretched d e c u
turned_map d e c u = ap (arrow (d *ℤ u.x)) (same d e c u.x u.y)
  where
    same : (d e c x y : ℤ) → (e *ℤ x) +ℤ (neg_ℤ c *ℤ neg_ℤ y) ≡ (e *ℤ x) +ℤ (c *ℤ y)
    same d e c x y =
        equal (plus (times (var e) (var x)) (times (negated (var c)) (negated (var y))))
        (plus (times (var e) (var x)) (times (var c) (var y))) (omega arith)

-- ---- a part of the ray within the extent

-- a function has a reduced cutting between these ends
abbrev pub CanBeCut : {L : Type 0} → (Arrow → L) → Arrow → Option Arrow → Type 0
CanBeCut {L} f low high = (c : Fine L) × IsReducedCutting f (Some low) high c.first c.rest

-- what is cut between two numbers is cut between any two within them
cut_within : {L : Type 0} (f : Arrow → L) (low high from to : Arrow) → IsRational low
    → IsRational high → IsRational from → IsRational to → (first : L) (bs : List (Break L))
    → IsReducedCutting f (Some low) (Some high) first bs → IsAtMost low from → IsBelow from to
    → IsAtMost to high → CanBeCut f from (Some to)
cut_within f low high from to low_in high_in from_in to_in first bs cut reached wide fits = (
  record { first = label_after from first bs; rest = breaks_before to (breaks_after from bs) },
  cut_off_is_reduced f (Some low) (Some high) from to low_in high_in from_in to_in reached wide fits
      first bs cut,
)

-- a number that no number between the ends is above lies at the lower end or below it
at_most_low : (low from : Arrow) (to : Arrow) → IsRational low → IsRational from → IsRational to
    → IsBelow from to
    → ((u : Arrow) → IsRational u → IsBelow from u → IsBelow u to → IsBelow low u)
    → IsAtMost low from
at_most_low low from to low_in from_in to_in wide above = by (below_or_not from low)
  where
    by : IsBelow from low ⊎ IsAtMost low from → IsAtMost low from
    by (inr fits) = fits
    by (inl short) =
        absurd
        (clash (below_two_ends (Some from) (Some low) (Some to) from_in low_in to_in short wide))
      where
        clash : (u : Arrow) × (IsBetween (Some from) (Some low) u × IsBetween (Some from) (Some to) u)
            → ⊥
        clash (u, is) =
            below_clash low u (above u is.1.rational is.1.after is.1.before)
            (at_most_from_below u low is.0.before)

at_most_high : (high from : Arrow) (to : Arrow) → IsRational high → IsRational from → IsRational to
    → IsBelow from to
    → ((u : Arrow) → IsRational u → IsBelow from u → IsBelow u to → IsBelow u high)
    → IsAtMost to high
at_most_high high from to high_in from_in to_in wide below = by (below_or_not high to)
  where
    by : IsBelow high to ⊎ IsAtMost to high → IsAtMost to high
    by (inr fits) = fits
    by (inl short) =
        absurd
        (clash (above_two_ends (Some from) (Some high) to from_in high_in to_in wide short))
      where
        clash : (u : Arrow) × (IsBetween (Some from) (Some to) u × IsBetween (Some high) (Some to) u)
            → ⊥
        clash (u, is) =
            below_clash u high (below u is.0.rational is.0.after is.0.before)
            (at_most_from_below high u is.1.after)

-- ---- the layer at a depth

module _ (r : Ray) (start_in : IsSpot r.start) (some : pos 0 <ℤ inner r.normal r.normal) (s : Upright)
    (l : Layer) (ls : List Layer) (axis : Axis) (right : are_layers 0 (l ∷ ls) ≡ true)
    (wide : low_along s (axis_vector axis) <ℤ high_along s (axis_vector axis)) where
  abbrev a : Vector
  a = axis_vector axis

  -- the layer at a depth
  abbrev layer_there : Arrow → ℕ
  layer_there u = layer_at s (Layered (l ∷ ls) axis) (at_depth r u)

  den_in : pos 0 <ℤ den_along r
  den_in = positive_product r.start.w (inner r.normal r.normal) start_in some

  layer_is : (u : Arrow)
      → layer_there u
      ≡ layer_along s (l ∷ ls) a (stretched (den_along r) (start_along r a) (slope_along r a) u)
  layer_is u = ap (layer_along s (l ∷ ls) a) (reading_is r a u)

  -- the points of this part lie within the extent along the axis
  abbrev IsWithin : Arrow → Arrow → Type 0
  IsWithin from to =
      (u : Arrow) → IsRational u → IsBelow from u → IsBelow u to
      → IsBelow (low_end_of s a) (stretched (den_along r) (start_along r a) (slope_along r a) u)
      × IsBelow (stretched (den_along r) (start_along r a) (slope_along r a) u) (high_end_of s a)

  same_function : (f g : Arrow → ℕ) → ((u : Arrow) → f u ≡ g u) → (low : Arrow) (high : Option Arrow)
      → CanBeCut f low high → CanBeCut g low high
  same_function f g same low high cut =
      subst (λ h. CanBeCut h low high) (λ i u. same u i) cut

  -- where the reading rises along the ray
  rising_cut : pos 0 <ℤ slope_along r a → (from to : Arrow) → IsRational from → IsRational to
      → IsBelow from to → IsWithin from to → CanBeCut layer_there from (Some to)
  rising_cut slope from to from_in to_in some_part within =
      same_function
      (λ u. layer_along s (l ∷ ls) a (stretched (den_along r) (start_along r a) (slope_along r a) u))
      layer_there (λ u. sym (layer_is u)) from (Some to)
      (cut_within
      (λ u. layer_along s (l ∷ ls) a (stretched (den_along r) (start_along r a) (slope_along r a) u))
      low high from to low_in high_in from_in to_in ((bands_up s (l ∷ ls) a).first)
      (stretched_breaks (den_along r) (start_along r a) (slope_along r a) den_in slope
      (layer_along s (l ∷ ls) a) ((bands_up s (l ∷ ls) a).rest))
      (stretched_is_reduced (den_along r) (start_along r a) (slope_along r a) den_in slope
      (layer_along s (l ∷ ls) a) (low_end_of s a) (high_end_of s a) ((bands_up s (l ∷ ls) a).first)
      ((bands_up s (l ∷ ls) a).rest) (omega (arith, ints)) (omega (arith, ints))
      (bands_up_are_cut s l ls a right wide))
      (at_most_low low from to low_in from_in to_in some_part
      (λ u u_in after before.
      from_above (den_along r) (start_along r a) (slope_along r a) den_in slope (low_end_of s a) u
      (omega (arith, ints)) u_in ((within u u_in after before).0))) some_part
      (at_most_high high from to high_in from_in to_in some_part
      (λ u u_in after before.
      from_below (den_along r) (start_along r a) (slope_along r a) den_in slope (high_end_of s a) u
      (omega (arith, ints)) u_in ((within u u_in after before).1))))
    where
      low : Arrow
      low = taken_from (den_along r) (start_along r a) (slope_along r a) (low_end_of s a)

      high : Arrow
      high = taken_from (den_along r) (start_along r a) (slope_along r a) (high_end_of s a)

      low_in : IsRational low
      low_in =
          (taken_is (den_along r) (start_along r a) (slope_along r a) den_in slope (low_end_of s a)
          (omega (arith, ints))).positive

      high_in : IsRational high
      high_in =
          (taken_is (den_along r) (start_along r a) (slope_along r a) den_in slope (high_end_of s a)
          (omega (arith, ints))).positive

  -- where it falls
  falling_cut : slope_along r a <ℤ pos 0 → (from to : Arrow) → IsRational from → IsRational to
      → IsBelow from to → IsWithin from to → CanBeCut layer_there from (Some to)
  falling_cut slope from to from_in to_in some_part within =
      same_function
      (λ u. layer_along s (l ∷ ls) a (stretched (den_along r) (start_along r a) c (mirror u)))
      layer_there
      (λ u.
      ap (layer_along s (l ∷ ls) a)
      (turned_map (den_along r) (start_along r a) (slope_along r a) u) ∙ sym (layer_is u)) from
      (Some to)
      (cut_within
      (λ u. layer_along s (l ∷ ls) a (stretched (den_along r) (start_along r a) c (mirror u)))
      (mirror high) (mirror low) from to high_in low_in from_in to_in
      (last_label ((bands_up s (l ∷ ls) a).first) breaks)
      (flip_onto ((bands_up s (l ∷ ls) a).first) breaks [])
      (flip_is_reduced
      (λ u. layer_along s (l ∷ ls) a (stretched (den_along r) (start_along r a) c u)) (Some low)
      (Some high) ((bands_up s (l ∷ ls) a).first) breaks
      (stretched_is_reduced (den_along r) (start_along r a) c den_in c_in
      (layer_along s (l ∷ ls) a) (low_end_of s a) (high_end_of s a) ((bands_up s (l ∷ ls) a).first)
      ((bands_up s (l ∷ ls) a).rest) (omega (arith, ints)) (omega (arith, ints))
      (bands_up_are_cut s l ls a right wide)))
      (at_most_low (mirror high) from to high_in from_in to_in some_part
      (λ u u_in after before.
      rw (mirror-cross high u)
      (from_below (den_along r) (start_along r a) c den_in c_in (high_end_of s a) (mirror u)
      (omega (arith, ints)) u_in
      (rw (turned_map (den_along r) (start_along r a) (slope_along r a) u)
      ((within u u_in after before).1))))) some_part
      (at_most_high (mirror low) from to low_in from_in to_in some_part
      (λ u u_in after before.
      rw (cross-mirror_comm u low)
      (from_above (den_along r) (start_along r a) c den_in c_in (low_end_of s a) (mirror u)
      (omega (arith, ints)) u_in
      (rw (turned_map (den_along r) (start_along r a) (slope_along r a) u)
      ((within u u_in after before).0))))))
    where
      c : ℤ
      c = neg_ℤ (slope_along r a)

      c_in : pos 0 <ℤ c
      c_in = omega (arith, ints, slope)

      low : Arrow
      low = taken_from (den_along r) (start_along r a) c (low_end_of s a)

      high : Arrow
      high = taken_from (den_along r) (start_along r a) c (high_end_of s a)

      breaks : List (Break ℕ)
      breaks =
          stretched_breaks (den_along r) (start_along r a) c den_in c_in (layer_along s (l ∷ ls) a)
          ((bands_up s (l ∷ ls) a).rest)

      low_in : IsRational low
      low_in =
          (taken_is (den_along r) (start_along r a) c den_in c_in (low_end_of s a)
          (omega (arith, ints))).positive

      high_in : IsRational high
      high_in =
          (taken_is (den_along r) (start_along r a) c den_in c_in (high_end_of s a)
          (omega (arith, ints))).positive

  -- where it stays there is one layer
  pub level_cut : slope_along r a ≡ pos 0 → (from : Arrow) (high : Option Arrow) → IsOpen (Some from) high
      → CanBeCut layer_there from high
  level_cut slope from high some_part = (
    record { first = layer_along s (l ∷ ls) a (arrow (den_along r) (start_along r a)); rest = [] },
    record { cutting = (some_part, λ u u_in after before. layer_is u ∙ constant u u_in); different = tt },
  )
    where
      level : (d e c : ℤ) (u : Arrow) → c ≡ pos 0 → stretched d e c u ≡ scale u.x (arrow d e)
      level d e c u none = ap₂ arrow (mul_comm d u.x) (same d e u.x u.y)
        where
          same : (d e x y : ℤ) → (e *ℤ x) +ℤ (c *ℤ y) ≡ x *ℤ e
          same d e x y =
              ap (λ k. (e *ℤ x) +ℤ (k *ℤ y)) none
              ∙ equal (plus (times (var e) (var x)) (times (num 0) (var y))) (times (var x) (var e))
              (omega arith)

      constant : (u : Arrow) → IsRational u
          → layer_along s (l ∷ ls) a (stretched (den_along r) (start_along r a) (slope_along r a) u)
          ≡ layer_along s (l ∷ ls) a (arrow (den_along r) (start_along r a))
      constant u u_in =
          ap (layer_along s (l ∷ ls) a)
          (level (den_along r) (start_along r a) (slope_along r a) u slope)
          ∙ layer_along-scaled s (l ∷ ls) a u.x (arrow (den_along r) (start_along r a)) u_in

  -- a part of the ray in the element is cut by its layers
  pub layers_can_be_cut : (from to : Arrow) → IsRational from → IsRational to → IsBelow from to
      → IsWithin from to → CanBeCut layer_there from (Some to)
  layers_can_be_cut from to from_in to_in some_part within = by (sign_cases (slope_along r a))
    where
      by : ((pos 0 <ℤ slope_along r a) ⊎ (slope_along r a ≡ pos 0)) ⊎ (slope_along r a <ℤ pos 0)
          → CanBeCut layer_there from (Some to)
      by (inl (inl up)) = rising_cut up from to from_in to_in some_part within
      by (inl (inr none)) = level_cut none from (Some to) some_part
      by (inr down) = falling_cut down from to from_in to_in some_part within
