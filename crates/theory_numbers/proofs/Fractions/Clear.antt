-- After each number there is an interval in which finitely many forms keep their sign; and before
-- each number there is one.
use Rattle.std.proofs.Common.{◌≡◌, ◌⊎◌, inl, inr, refl, ◌∙◌, arith}
use Rattle.std.proofs.Common.{Bool, true, false, List, [], ◌∷◌, map, cond}
use Rattle.std.proofs.Common.{ℤ, pos, ◌<ℤ◌, ◌≤ℤ◌, ◌+ℤ◌, ◌-ℤ◌, ◌*ℤ◌, neg_ℤ, negsuc, ◌+◌}
use Rattle.std.proofs.Common.{unsigned_abs, ap}
use Rattle.std.proofs.lemmas.Int.{ints, by_lt_z}
use Rattle.std.specs.List.{AllByRecursion}
use Rattle.theory_numbers.specs.Arrows.{Arrow, arrow, cross, dot, add, scale, mirror, opposite}
use Rattle.theory_numbers.specs.Rationals.{IsRational, IsBelow, IsAtMost, mediant, value_at}
use Rattle.theory_numbers.specs.Rationals.{IsZeroForm, IsForm, zero_of}
use Rattle.theory_numbers.specs.Intervals.{IsPositiveOn, IsNegativeOn, Keeps, AllKeep, changes_sign}
use Rattle.theory_numbers.specs.Intervals.{stop, clear_end, clear_start}
use Rattle.theory_numbers.proofs.Shapes.{var, num, plus, minus, negated, times, equal, cross_is}
use Rattle.theory_numbers.proofs.Shapes.{dot_is, cross_eq, dot_eq}
use Rattle.theory_numbers.proofs.Signs.{above_or_not, less_or_not}
use Rattle.theory_numbers.proofs.Products.{weak_negative_factor}
use Rattle.theory_numbers.proofs.Signs.{less_from, not_less_from, test_less, test_not_less}
use Rattle.theory_numbers.proofs.Products.{positive_product, positive_factor}
use Rattle.theory_numbers.proofs.Products.{negative_factor, negative_product}
use Rattle.theory_numbers.proofs.Products.{weak_product_of_negatives}
use Rattle.theory_numbers.proofs.Fractions.Rationals.{between_from_low, between_from_high, one_zero}
use Rattle.theory_numbers.proofs.Fractions.Rationals.{below_trans, below_at_most_trans, at_most_refl}
use Rattle.theory_numbers.proofs.Fractions.Rationals.{at_most_from_below, at_most_trans}
use Rattle.theory_numbers.proofs.Fractions.Rationals.{mediant-IsRational, mediant_between}
use Rattle.theory_numbers.proofs.Vectors.Arrows.{opposite-dot, cross-mirror, dot-mirror, mirror-cross}
use Rattle.theory_numbers.proofs.Vectors.Arrows.{cross-mirror_comm}
use Rattle.theory_numbers.proofs.Ring.{mul_comm, neg-mul, zero-mul, mul-zero, mul-one, mul-neg}
use Rattle.theory_numbers.proofs.Vectors.Arrows.{cross-add, add-cross, cross-scale, scale-cross, cross-self}
use Rattle.theory_numbers.proofs.Vectors.Arrows.{dot-add, dot-scale, mirror-dot}
use Rattle.theory_numbers.proofs.Products.{scale_at_most}

-- ---- the sign of a form between two numbers, from its signs at them

module _ (form r t : Arrow) (low : IsBelow r t) where
  -- at least 0 at both and 0 at one of them at most: above 0 between
  pub positive_between : pos 0 ≤ℤ value_at form r → pos 0 ≤ℤ value_at form t
      → (value_at form r ≡ pos 0 → value_at form t ≡ pos 0 → ⊥) → IsPositiveOn r t form
  positive_between at_r at_t apart u u_in after before =
      from (above_or_not (value_at form r)) (above_or_not (value_at form t))
    where
      from : (pos 0 <ℤ value_at form r) ⊎ (value_at form r ≤ℤ pos 0)
          → (pos 0 <ℤ value_at form t) ⊎ (value_at form t ≤ℤ pos 0) → pos 0 <ℤ value_at form u
      from (inl above) _ = between_from_low form r u t after before low above at_t
      from (inr none) (inl above) = between_from_high form r u t after before low at_r above
      from (inr none) (inr none_t) =
          absurd (apart (omega (arith, ints)) (omega (arith, ints)))

  -- a form that is not the zero form is 0 at one of two numbers at most
  pub not_both_zero : (IsZeroForm form → ⊥) → value_at form r ≡ pos 0
      → value_at form t ≡ pos 0 → ⊥
  not_both_zero apart at_r at_t =
      let same = one_zero form r t apart at_r at_t in omega (arith, ints)

-- at most 0 at both and 0 at one of them at most: below 0 between
pub negative_between : (form r t : Arrow) → IsBelow r t → value_at form r ≤ℤ pos 0
    → value_at form t ≤ℤ pos 0 → (value_at form r ≡ pos 0 → value_at form t ≡ pos 0 → ⊥)
    → IsNegativeOn r t form
negative_between form r t low at_r at_t apart u u_in after before =
    let turned_r = opposite-dot form r in
    let turned_t = opposite-dot form t in
    let turned_u = opposite-dot form u in
    let above =
    positive_between (opposite form) r t low (omega (arith, ints)) (omega (arith, ints))
    (λ zero zero_t. apart (omega (arith, ints)) (omega (arith, ints))) u u_in after before
    in
    omega (arith, ints)

-- ---- the zero of a form between two numbers at which its signs are strictly opposite

-- z lies strictly between r and t, and the form is 0 at it
pub record IsZeroBetween (form r t z : Arrow) : Type 0 where
  pub rational : IsRational z
  pub after : IsBelow r z
  pub before : IsBelow z t
  pub zero : value_at form z ≡ pos 0

slope : (form r t : Arrow)
    → cross r t *ℤ form.y ≡ (r.x *ℤ value_at form t) -ℤ (t.x *ℤ value_at form r)
slope form r t =
    equal (times (cross_is r t) (var form.y))
    (minus (times (var r.x) (dot_is form t)) (times (var t.x) (dot_is form r)))
    (omega arith)

-- below 0 at the lower number and above 0 at the greater
pub rising_zero : (form r t : Arrow) → IsRational r → IsRational t → IsBelow r t
    → value_at form r <ℤ pos 0 → pos 0 <ℤ value_at form t
    → IsZeroBetween form r t (zero_of form)
rising_zero form r t r_in t_in low at_r at_t =
    rw (test_less (pos 0) form.y up) (record {
      rational = up;
      after = rw first (omega (arith, ints));
      before = rw second at_t;
      zero = third;
    })
  where
    up : pos 0 <ℤ form.y
    up =
        let parts = slope form r t in
        let one = positive_product r.x (value_at form t) r_in at_t in
        let other = negative_product t.x (value_at form r) t_in at_r in
        positive_factor (cross r t) form.y low (omega (arith, ints))

    first : cross r (arrow form.y (neg_ℤ form.x)) ≡ neg_ℤ (dot form r)
    first =
        cross_eq r (arrow form.y (neg_ℤ form.x))
        ∙ equal (minus (times (var r.x) (negated (var form.x))) (times (var r.y) (var form.y)))
        (negated (dot_is form r)) (omega arith)

    second : cross (arrow form.y (neg_ℤ form.x)) t ≡ dot form t
    second =
        cross_eq (arrow form.y (neg_ℤ form.x)) t
        ∙ equal (minus (times (var form.y) (var t.y)) (times (negated (var form.x)) (var t.x)))
        (dot_is form t) (omega arith)

    third : dot form (arrow form.y (neg_ℤ form.x)) ≡ pos 0
    third =
        dot_eq form (arrow form.y (neg_ℤ form.x))
        ∙ equal (plus (times (var form.x) (var form.y)) (times (var form.y) (negated (var form.x))))
        (num 0) (omega arith)

-- above 0 at the lower number and below 0 at the greater
pub falling_zero : (form r t : Arrow) → IsRational r → IsRational t → IsBelow r t
    → pos 0 <ℤ value_at form r → value_at form t <ℤ pos 0
    → IsZeroBetween form r t (zero_of form)
falling_zero form r t r_in t_in low at_r at_t =
    rw (test_not_less (pos 0) form.y (omega (arith, ints, down))) (record {
      rational = omega (arith, ints, down);
      after = rw first at_r;
      before = rw second (omega (arith, ints));
      zero = third;
    })
  where
    down : form.y <ℤ pos 0
    down =
        let parts = slope form r t in
        let one = negative_product r.x (value_at form t) r_in at_t in
        let other = positive_product t.x (value_at form r) t_in at_r in
        negative_factor (cross r t) form.y low (omega (arith, ints))

    first : cross r (arrow (neg_ℤ form.y) form.x) ≡ dot form r
    first =
        cross_eq r (arrow (neg_ℤ form.y) form.x)
        ∙ equal (minus (times (var r.x) (var form.x)) (times (var r.y) (negated (var form.y))))
        (dot_is form r) (omega arith)

    second : cross (arrow (neg_ℤ form.y) form.x) t ≡ neg_ℤ (dot form t)
    second =
        cross_eq (arrow (neg_ℤ form.y) form.x) t
        ∙ equal (minus (times (negated (var form.y)) (var t.y)) (times (var form.x) (var t.x)))
        (negated (dot_is form t)) (omega arith)

    third : dot form (arrow (neg_ℤ form.y) form.x) ≡ pos 0
    third =
        dot_eq form (arrow (neg_ℤ form.y) form.x)
        ∙ equal (plus (times (var form.x) (negated (var form.y))) (times (var form.y) (var form.x)))
        (num 0) (omega arith)

-- of a product below 0 the other factor of one below 0 is above 0
up_from_negative : (a b : ℤ) → (a *ℤ b) <ℤ pos 0 → a <ℤ pos 0 → pos 0 <ℤ b
up_from_negative a b product low =
    by_lt_z (pos 0) b (λ above. above)
    (λ none.
    let above = weak_product_of_negatives a b (omega (arith, ints)) none in
    absurd (omega (arith, ints)))

-- and a factor that is at least 0 is above 0
up_from_weak : (a b : ℤ) → (a *ℤ b) <ℤ pos 0 → pos 0 ≤ℤ a → pos 0 <ℤ a
up_from_weak a b product high =
    by_lt_z (pos 0) a (λ above. above)
    (λ none.
    let zero : a ≡ pos 0 = omega (arith, ints) in
    let below = rw zero at product in
    let same = zero-mul b in
    absurd (omega (arith, ints)))

-- where the signs at r and t are strictly opposite, the zero of the form lies strictly between
pub zero_between : (form r t : Arrow) → IsRational r → IsRational t → IsBelow r t
    → changes_sign form r t ≡ true → IsZeroBetween form r t (zero_of form)
zero_between form r t r_in t_in low answer =
    by_lt_z (value_at form r) (pos 0)
    (λ at_r.
    rising_zero form r t r_in t_in low at_r
    (up_from_negative (value_at form r) (value_at form t) product at_r))
    (λ at_r.
    let above = up_from_weak (value_at form r) (value_at form t) product at_r in
    falling_zero form r t r_in t_in low above
    (negative_factor (value_at form r) (value_at form t) above product))
  where
    product : (value_at form r *ℤ value_at form t) <ℤ pos 0
    product = less_from (value_at form r *ℤ value_at form t) (pos 0) answer

-- end lies above r and at most at t, and the form keeps its sign from r to end
pub record IsStop (form r t end : Arrow) : Type 0 where
  pub rational : IsRational end
  pub after : IsBelow r end
  pub within : IsAtMost end t
  pub keep : Keeps r end form

stop_by : (form r t : Arrow) → IsForm form → IsRational r → IsRational t → IsBelow r t
    → (b : Bool) → changes_sign form r t ≡ b → IsStop form r t (cond b (zero_of form) t)
stop_by form r t apart r_in t_in low true answer =
    let z = zero_between form r t r_in t_in low answer in
    record {
      rational = z.rational;
      after = z.after;
      within = at_most_from_below (zero_of form) t z.before;
      keep = kept z;
    }
  where
    at_most_zero : {a : ℤ} → a ≡ pos 0 → a ≤ℤ pos 0
    at_most_zero zero = omega (arith, ints)

    at_least_zero : {a : ℤ} → a ≡ pos 0 → pos 0 ≤ℤ a
    at_least_zero zero = omega (arith, ints)

    kept : IsZeroBetween form r t (zero_of form) → Keeps r (zero_of form) form
    kept z =
        by_lt_z (value_at form r) (pos 0)
        (λ at_r.
        inr (negative_between form r (zero_of form) z.after (omega (arith, ints))
        (at_most_zero z.zero) (not_both_zero form r (zero_of form) z.after apart)))
        (λ at_r.
        inl (positive_between form r (zero_of form) z.after at_r (at_least_zero z.zero)
        (not_both_zero form r (zero_of form) z.after apart)))
stop_by form r t apart r_in t_in low false answer =
    record {
      rational = t_in;
      after = low;
      within = at_most_refl t;
      keep = kept (less_or_not (value_at form r) (pos 0)) (less_or_not (value_at form t) (pos 0));
    }
  where
    product : pos 0 ≤ℤ (value_at form r *ℤ value_at form t)
    product = not_less_from (value_at form r *ℤ value_at form t) (pos 0) answer

    other_down : value_at form r <ℤ pos 0 → value_at form t ≤ℤ pos 0
    other_down at_r =
        let turned : pos 0 <ℤ neg_ℤ (value_at form r) = omega (arith, ints) in
        let same = neg-mul (value_at form r) (value_at form t) in
        let high = product in
        weak_negative_factor (neg_ℤ (value_at form r)) (value_at form t) turned
        (omega (arith, ints))

    own_down : pos 0 ≤ℤ value_at form r → value_at form t <ℤ pos 0 → value_at form r ≤ℤ pos 0
    own_down at_r at_t =
        let turned : pos 0 <ℤ neg_ℤ (value_at form t) = omega (arith, ints) in
        let same = neg-mul (value_at form t) (value_at form r) in
        let exchanged = mul_comm (value_at form r) (value_at form t) in
        let high = product in
        weak_negative_factor (neg_ℤ (value_at form t)) (value_at form r) turned
        (omega (arith, ints))

    kept : (value_at form r <ℤ pos 0) ⊎ (pos 0 ≤ℤ value_at form r)
        → (value_at form t <ℤ pos 0) ⊎ (pos 0 ≤ℤ value_at form t) → Keeps r t form
    kept (inl at_r) _ =
        inr (negative_between form r t low (omega (arith, ints)) (other_down at_r)
        (not_both_zero form r t low apart))
    kept (inr at_r) (inl at_t) =
        inr (negative_between form r t low (own_down at_r at_t) (omega (arith, ints))
        (not_both_zero form r t low apart))
    kept (inr at_r) (inr at_t) =
        inl (positive_between form r t low at_r at_t (not_both_zero form r t low apart))

-- up to the stop of a form it keeps its sign
pub stop_is : (form r t : Arrow) → IsForm form → IsRational r → IsRational t → IsBelow r t
    → IsStop form r t (stop form r t)
stop_is form r t apart r_in t_in low =
    stop_by form r t apart r_in t_in low (changes_sign form r t) refl

-- a form that keeps its sign in an interval keeps it in a shorter one
pub keeps_before : (form r t u : Arrow) → IsRational t → IsRational u → IsAtMost u t
    → Keeps r t form → Keeps r u form
keeps_before form r t u t_in u_in within (inl above) =
    inl (λ w w_in after before.
    above w w_in after (below_at_most_trans w u t w_in u_in t_in before within))
keeps_before form r t u t_in u_in within (inr below) =
    inr (λ w w_in after before.
    below w w_in after (below_at_most_trans w u t w_in u_in t_in before within))

-- and so do all of a list
pub all_keep_before : (r t u : Arrow) → IsRational t → IsRational u → IsAtMost u t
    → (forms : List Arrow) → AllKeep r t forms → AllKeep r u forms
all_keep_before r t u t_in u_in within [] all = tt
all_keep_before r t u t_in u_in within (form ∷ forms) all = (
  keeps_before form r t u t_in u_in within all.0,
  all_keep_before r t u t_in u_in within forms all.1,
)

-- end lies above r and at most at t, and every form of the list keeps its sign from r to end
pub record IsClearTo (r t : Arrow) (forms : List Arrow) (end : Arrow) : Type 0 where
  pub rational : IsRational end
  pub after : IsBelow r end
  pub within : IsAtMost end t
  pub keep : AllKeep r end forms

-- after each number there is an interval in which finitely many forms keep their sign
pub clear_to : (r t : Arrow) → IsRational r → IsRational t → IsBelow r t
    → (forms : List Arrow) → AllByRecursion IsForm forms
    → IsClearTo r t forms (clear_end r t forms)
clear_to r t r_in t_in low [] are_forms =
    record { rational = t_in; after = low; within = at_most_refl t; keep = tt }
clear_to r t r_in t_in low (form ∷ forms) are_forms =
    let rest = clear_to r t r_in t_in low forms are_forms.1 in
    let end = clear_end r t forms in
    let first = stop_is form r end are_forms.0 r_in rest.rational rest.after in
    record {
      rational = first.rational;
      after = first.after;
      within =
          at_most_trans (stop form r end) end t first.rational rest.rational t_in first.within
          rest.within;
      keep = (
        first.keep,
        all_keep_before r end (stop form r end) rest.rational first.rational first.within forms
            rest.keep,
      );
    }

-- start lies below t and at least at r, and every form keeps its sign from start to t
pub record IsClearFrom (r t : Arrow) (forms : List Arrow) (start : Arrow) : Type 0 where
  pub rational : IsRational start
  pub before : IsBelow start t
  pub within : IsAtMost r start
  pub keep : AllKeep start t forms

mirrored_forms : (forms : List Arrow) → AllByRecursion IsForm forms
    → AllByRecursion IsForm (map mirror forms)
mirrored_forms [] all = tt
mirrored_forms (form ∷ forms) all =
    (λ zero. all.0 (zero.0, omega (arith, ints, zero.1)), mirrored_forms forms all.1)

-- an interval before t is one after the mirror image of t
keeps_mirrored : (form r t : Arrow) → Keeps (mirror t) r (mirror form) → Keeps (mirror r) t form
keeps_mirrored form r t (inl above) =
    inl (λ u u_in after before.
    rw (dot-mirror form u)
    at (above (mirror u) u_in (rw (cross-mirror t u) before) (rw (← mirror-cross r u) after)))
keeps_mirrored form r t (inr below) =
    inr (λ u u_in after before.
    rw (dot-mirror form u)
    at (below (mirror u) u_in (rw (cross-mirror t u) before) (rw (← mirror-cross r u) after)))

-- and so for all forms of a list
all_keep_mirrored : (r t : Arrow) (forms : List Arrow) → AllKeep (mirror t) r (map mirror forms)
    → AllKeep (mirror r) t forms
all_keep_mirrored r t [] all = tt
all_keep_mirrored r t (form ∷ forms) all =
    (keeps_mirrored form r t all.0, all_keep_mirrored r t forms all.1)

-- before each number there is an interval in which finitely many forms keep their sign
pub clear_from : (r t : Arrow) → IsRational r → IsRational t → IsBelow r t
    → (forms : List Arrow) → AllByRecursion IsForm forms
    → IsClearFrom r t forms (clear_start r t forms)
clear_from r t r_in t_in low forms are_forms =
    let end = clear_end (mirror t) (mirror r) (map mirror forms) in
    let found =
    clear_to (mirror t) (mirror r) t_in r_in (rw (cross-mirror t r) low) (map mirror forms)
    (mirrored_forms forms are_forms)
    in
    record {
      rational = found.rational;
      before = rw (mirror-cross end t) found.after;
      within = rw (cross-mirror_comm r end) found.within;
      keep = all_keep_mirrored end t forms found.keep;
    }

-- ---- the ends of an interval

-- a form that is above 0 between two numbers is at least 0 at them
pub positive_at_ends : (form r t : Arrow) → IsRational r → IsRational t → IsBelow r t
    → IsPositiveOn r t form → (pos 0 ≤ℤ value_at form r) × (pos 0 ≤ℤ value_at form t)
positive_at_ends form r t r_in t_in low above = (
  by_lt_z (value_at form r) (pos 0) (λ less. absurd (at_low less)) (λ more. more),
  by_lt_z (value_at form t) (pos 0) (λ less. absurd (at_high less)) (λ more. more),
)
  where
    m_in : IsRational (mediant r t)
    m_in = mediant-IsRational r t r_in t_in

    inside : IsBelow r (mediant r t) × IsBelow (mediant r t) t
    inside = mediant_between r t low

    up : pos 0 <ℤ value_at form (mediant r t)
    up = above (mediant r t) m_in inside.0 inside.1

    at_low : value_at form r <ℤ pos 0 → ⊥
    at_low less =
        let z = rising_zero form r (mediant r t) r_in m_in inside.0 less up in
        let before =
        below_trans (zero_of form) (mediant r t) t z.rational m_in t_in z.before inside.1
        in
        let high = above (zero_of form) z.rational z.after before in
        let zero = z.zero in
        omega (arith, ints)

    at_high : value_at form t <ℤ pos 0 → ⊥
    at_high less =
        let z = falling_zero form (mediant r t) t m_in t_in inside.1 up less in
        let after =
        below_trans r (mediant r t) (zero_of form) r_in m_in z.rational inside.0 z.after
        in
        let high = above (zero_of form) z.rational after z.before in
        let zero = z.zero in
        omega (arith, ints)

-- a number near r on the way to t
nearer : ℤ → Arrow → Arrow → Arrow
nearer k r t = add (scale k r) t

module _ (k : ℤ) (r t : Arrow) where
  nearer-IsRational : pos 0 <ℤ k → IsRational r → IsRational t → IsRational (nearer k r t)
  unfolding nearer
  nearer-IsRational k_in r_in t_in =
      let up = positive_product k r.x k_in r_in in omega (arith, ints)

  cross-nearer : cross r (nearer k r t) ≡ cross r t
  unfolding nearer
  cross-nearer =
      let spread = cross-add r (scale k r) t in
      let one = cross-scale k r r in
      let other : k *ℤ cross r r ≡ pos 0 = rw (cross-self r) (mul-zero k) in
      omega (arith, ints)

  nearer-cross : cross (nearer k r t) t ≡ k *ℤ cross r t
  unfolding nearer
  nearer-cross =
      let spread = add-cross (scale k r) t t in
      let one = scale-cross k r t in
      let other = cross-self t in
      omega (arith, ints)

  value-nearer : (form : Arrow)
      → value_at form (nearer k r t) ≡ (k *ℤ value_at form r) +ℤ value_at form t
  unfolding nearer
  value-nearer form =
      let spread = dot-add form (scale k r) t in
      let one = dot-scale k form r in
      omega (arith, ints)

-- a value below 0 outweighs any other, multiplied often enough
outweighs : (a b : ℤ) → a <ℤ pos 0 → ((pos (unsigned_abs b + 1) *ℤ a) +ℤ b) <ℤ pos 0
outweighs a b low =
    let many =
    scale_at_most (pos (unsigned_abs b + 1)) a (negsuc 0) (omega (arith, ints))
    (omega (arith, ints))
    in
    let turned = mul-neg (pos (unsigned_abs b + 1)) (pos 1) in
    let one = mul-one (pos (unsigned_abs b + 1)) in
    omega (arith, ints)

-- a form that is at least 0 between two numbers is at least 0 at the lower one
pub weak_at_low : (form r t : Arrow) → IsRational r → IsRational t → IsBelow r t
    → ((u : Arrow) → IsRational u → IsBelow r u → IsBelow u t → pos 0 ≤ℤ value_at form u)
    → pos 0 ≤ℤ value_at form r
weak_at_low form r t r_in t_in low high =
    by_lt_z (value_at form r) (pos 0)
    (λ below.
    absurd (clash below (pos (unsigned_abs (value_at form t) + 1)) refl))
    (λ high. high)
  where
    clash : value_at form r <ℤ pos 0 → (k : ℤ) → k ≡ pos (unsigned_abs (value_at form t) + 1) → ⊥
    clash below k is =
        let above : pos 0 <ℤ k = omega (arith, ints) in
        let u_in = nearer-IsRational k r t above r_in t_in in
        let after : IsBelow r (nearer k r t) = rw (cross-nearer k r t) low in
        let before : IsBelow (nearer k r t) t =
        rw (nearer-cross k r t) (positive_product k (cross r t) above low)
        in
        let at_u = high (nearer k r t) u_in after before in
        let value = value-nearer k r t form in
        let small = outweighs (value_at form r) (value_at form t) below in
        let same = ap (λ n. (n *ℤ value_at form r) +ℤ value_at form t) is in
        omega (arith, ints)

-- and at the greater one
pub weak_at_high : (form r t : Arrow) → IsRational r → IsRational t → IsBelow r t
    → ((u : Arrow) → IsRational u → IsBelow r u → IsBelow u t → pos 0 ≤ℤ value_at form u)
    → pos 0 ≤ℤ value_at form t
weak_at_high form r t r_in t_in low high =
    rw (dot-mirror form t)
    at (weak_at_low (mirror form) (mirror t) (mirror r) t_in r_in (rw (cross-mirror t r) low)
    (λ u u_in after before.
    rw (mirror-dot form u)
    (high (mirror u) u_in (rw (cross-mirror_comm r u) before) (rw (mirror-cross u t) after))))
