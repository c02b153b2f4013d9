-- The order of rational numbers, mediants, and the values of linear forms between two numbers.
use Rattle.std.proofs.Common.{◌≡◌, ◌⊎◌, ⊎_elim, inl, inr, arith, ◌∙◌}
use Rattle.std.proofs.Common.{pos, ◌<ℤ◌, ◌≤ℤ◌, ◌+ℤ◌, ◌*ℤ◌}
use Rattle.std.proofs.lemmas.Int.{ints, by_lt_z}
use Rattle.theory_numbers.specs.Arrows.{Arrow, cross, dot}
use Rattle.theory_numbers.specs.Rationals.{IsRational, IsBelow, IsAtMost, IsSame, mediant}
use Rattle.theory_numbers.specs.Rationals.{value_at, IsForm}
use Rattle.theory_numbers.proofs.Shapes.{var, num, plus, minus, times, equal, cross_is, dot_is}
use Rattle.theory_numbers.proofs.Products.{positive_product, weak_product, positive_factor}
use Rattle.theory_numbers.proofs.Products.{weak_factor, zero_of_positive}
use Rattle.theory_numbers.proofs.Products.{zero_product}
use Rattle.theory_numbers.proofs.Vectors.ThreeTerms.{three_terms_linear}
use Rattle.theory_numbers.proofs.Vectors.Arrows.{cross-turn, cross-self, cross-add, add-cross, dot-add}

-- the denominators of three numbers and their distances
denominators : (r s t : Arrow)
    → s.x *ℤ cross r t ≡ (r.x *ℤ cross s t) +ℤ (t.x *ℤ cross r s)
denominators r s t =
    equal (times (var s.x) (cross_is r t))
    (plus (times (var r.x) (cross_is s t)) (times (var t.x) (cross_is r s)))
    (omega arith)

-- ---- the order

-- below and below
pub below_trans : (r s t : Arrow) → IsRational r → IsRational s → IsRational t
    → IsBelow r s → IsBelow s t → IsBelow r t
below_trans r s t r_in s_in t_in low high =
    let one = positive_product r.x (cross s t) r_in high in
    let other = positive_product t.x (cross r s) t_in low in
    let parts = denominators r s t in
    positive_factor s.x (cross r t) s_in (omega (arith, ints))

-- at most and at most
pub at_most_trans : (r s t : Arrow) → IsRational r → IsRational s → IsRational t
    → IsAtMost r s → IsAtMost s t → IsAtMost r t
at_most_trans r s t r_in s_in t_in low high =
    let one = weak_product r.x (cross s t) (omega (arith, ints)) high in
    let other = weak_product t.x (cross r s) (omega (arith, ints)) low in
    let parts = denominators r s t in
    weak_factor s.x (cross r t) s_in (omega (arith, ints))

-- below and at most
pub below_at_most_trans : (r s t : Arrow) → IsRational r → IsRational s → IsRational t
    → IsBelow r s → IsAtMost s t → IsBelow r t
below_at_most_trans r s t r_in s_in t_in low high =
    let one = weak_product r.x (cross s t) (omega (arith, ints)) high in
    let other = positive_product t.x (cross r s) t_in low in
    let parts = denominators r s t in
    positive_factor s.x (cross r t) s_in (omega (arith, ints))

-- at most and below
pub at_most_below_trans : (r s t : Arrow) → IsRational r → IsRational s → IsRational t
    → IsAtMost r s → IsBelow s t → IsBelow r t
at_most_below_trans r s t r_in s_in t_in low high =
    let one = positive_product r.x (cross s t) r_in high in
    let other = weak_product t.x (cross r s) (omega (arith, ints)) low in
    let parts = denominators r s t in
    positive_factor s.x (cross r t) s_in (omega (arith, ints))

-- each number is at most itself
pub at_most_refl : (r : Arrow) → IsAtMost r r
at_most_refl r = let same = cross-self r in omega (arith, ints)

-- and not below itself
pub below_irrefl : (r : Arrow) → IsBelow r r → ⊥
below_irrefl r low = let same = cross-self r in omega (arith, ints)

-- below is at most
pub at_most_from_below : (r s : Arrow) → IsBelow r s → IsAtMost r s
at_most_from_below r s low = omega (arith, ints)

-- not both below and at least
pub below_clash : (r s : Arrow) → IsBelow r s → IsAtMost s r → ⊥
below_clash r s low high = let turn = cross-turn r s in omega (arith, ints)

-- of two numbers one is below the other, or the second is at most the first
pub below_or_not : (r s : Arrow) → IsBelow r s ⊎ IsAtMost s r
below_or_not r s =
    let turn = cross-turn r s in
    by_lt_z (pos 0) (cross r s) (λ below. inl below) (λ low. inr (omega (arith, ints)))

-- below, the same or above
pub number_cases : (r s : Arrow) → (IsBelow r s ⊎ IsSame r s) ⊎ IsBelow s r
number_cases r s =
    let turn = cross-turn r s in
    by_lt_z (pos 0) (cross r s) (λ below. inl (inl below))
    (λ low.
    by_lt_z (cross r s) (pos 0) (λ above. inr (omega (arith, ints)))
    (λ high. inl (inr (omega (arith, ints)))))

-- two numbers each at most the other are the same
pub same_from_at_most : (r s : Arrow) → IsAtMost r s → IsAtMost s r → IsSame r s
same_from_at_most r s low high = let turn = cross-turn r s in omega (arith, ints)

-- the same, the other way round
pub same_sym : (r s : Arrow) → IsSame r s → IsSame s r
same_sym r s same = let turn = cross-turn r s in omega (arith, ints)

-- two numbers that are the same as a third are the same
pub same_trans : (r s t : Arrow) → IsRational s → IsSame r s → IsSame s t → IsSame r t
same_trans r s t s_in low high =
    let parts = denominators r s t in
    zero_of_positive s.x (cross r t) s_in
    (parts
    ∙ rw (high, low)
    (equal (plus (times (var r.x) (num 0)) (times (var t.x) (num 0))) (num 0) (omega arith)))

-- ---- the mediant

-- it is a rational number
pub mediant-IsRational : (r s : Arrow) → IsRational r → IsRational s → IsRational (mediant r s)
mediant-IsRational r s r_in s_in = omega (arith, ints)

-- it lies above the lesser number, by as much as the greater does
pub cross-mediant : (r s : Arrow) → cross r (mediant r s) ≡ cross r s
cross-mediant r s =
    let spread = cross-add r r s in let same = cross-self r in omega (arith, ints)

-- and below the greater
pub mediant-cross : (r s : Arrow) → cross (mediant r s) s ≡ cross r s
mediant-cross r s =
    let spread = add-cross r s s in let same = cross-self s in omega (arith, ints)

-- so it lies strictly between
pub mediant_between : (r s : Arrow) → IsBelow r s
    → IsBelow r (mediant r s) × IsBelow (mediant r s) s
mediant_between r s low = (rw (cross-mediant r s) low, rw (mediant-cross r s) low)

-- the value of a form there is the sum of the values
pub value-mediant : (form r s : Arrow)
    → value_at form (mediant r s) ≡ value_at form r +ℤ value_at form s
value-mediant form r s = dot-add form r s

-- ---- values of a form at three numbers

-- at least 0 at both ends: at least 0 between them
pub between : (form r s t : Arrow) → IsBelow r s → IsBelow s t → IsBelow r t
    → pos 0 ≤ℤ value_at form r → pos 0 ≤ℤ value_at form t → pos 0 ≤ℤ value_at form s
between form r s t low high whole at_low at_high =
    let one = weak_product (cross s t) (dot form r) (omega (arith, ints)) at_low in
    let other = weak_product (cross r s) (dot form t) (omega (arith, ints)) at_high in
    let parts = three_terms_linear form r s t in
    weak_factor (cross r t) (dot form s) whole (omega (arith, ints))

-- and above 0 at the lower end: above 0 between
pub between_from_low : (form r s t : Arrow) → IsBelow r s → IsBelow s t → IsBelow r t
    → pos 0 <ℤ value_at form r → pos 0 ≤ℤ value_at form t → pos 0 <ℤ value_at form s
between_from_low form r s t low high whole at_low at_high =
    let one = positive_product (cross s t) (dot form r) high at_low in
    let other = weak_product (cross r s) (dot form t) (omega (arith, ints)) at_high in
    let parts = three_terms_linear form r s t in
    positive_factor (cross r t) (dot form s) whole (omega (arith, ints))

-- and above 0 at the upper end: above 0 between
pub between_from_high : (form r s t : Arrow) → IsBelow r s → IsBelow s t → IsBelow r t
    → pos 0 ≤ℤ value_at form r → pos 0 <ℤ value_at form t → pos 0 <ℤ value_at form s
between_from_high form r s t low high whole at_low at_high =
    let one = weak_product (cross s t) (dot form r) (omega (arith, ints)) at_low in
    let other = positive_product (cross r s) (dot form t) low at_high in
    let parts = three_terms_linear form r s t in
    positive_factor (cross r t) (dot form s) whole (omega (arith, ints))

-- ---- the zero of a form

-- one form that is not the zero form is 0 at one number at most
pub one_zero : (form r s : Arrow) → IsForm form
    → value_at form r ≡ pos 0 → value_at form s ≡ pos 0 → IsSame r s
one_zero form r s apart at_r at_s =
    ⊎_elim (λ zero. zero)
    (λ zero_y.
    ⊎_elim (λ zero. zero) (λ zero_x. absurd (apart (zero_x, zero_y)))
    (zero_product (cross r s) form.x first))
    (zero_product (cross r s) form.y second)
  where
    first : cross r s *ℤ form.x ≡ pos 0
    first =
        equal (times (cross_is r s) (var form.x))
        (minus (times (var s.y) (dot_is form r)) (times (var r.y) (dot_is form s))) (omega arith)
        ∙ rw (at_r, at_s)
        (equal (minus (times (var s.y) (num 0)) (times (var r.y) (num 0))) (num 0) (omega arith))

    second : cross r s *ℤ form.y ≡ pos 0
    second =
        equal (times (cross_is r s) (var form.y))
        (minus (times (var r.x) (dot_is form s)) (times (var s.x) (dot_is form r))) (omega arith)
        ∙ rw (at_r, at_s)
        (equal (minus (times (var r.x) (num 0)) (times (var s.x) (num 0))) (num 0) (omega arith))

-- the values at two vectors that are one number have one sign
pub value_at_same : (form r s : Arrow) → IsSame r s
    → s.x *ℤ value_at form r ≡ r.x *ℤ value_at form s
value_at_same form r s same =
    equal (times (var s.x) (dot_is form r))
    (minus (times (var r.x) (dot_is form s)) (times (var form.y) (cross_is r s))) (omega arith)
    ∙ rw same
    (equal (minus (times (var r.x) (var (dot form s))) (times (var form.y) (num 0)))
    (times (var r.x) (var (dot form s))) (omega arith))
