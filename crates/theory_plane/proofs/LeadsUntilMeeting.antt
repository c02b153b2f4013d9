-- What leads stays above until the two lines meet.
use Rattle.std.proofs.Common.{◌≡◌, ◌⊎◌, inl, inr, arith, ℤ, pos, ◌<ℤ◌, ◌+ℤ◌, ◌*ℤ◌, neg_ℤ}
use Rattle.std.proofs.Common.{Bool, true, false, sym, refl, Less, Equal, Greater, if◌then◌else◌}
use Rattle.std.specs.Cmp.{int_cmp_is}
use Rattle.std.proofs.lemmas.Int.{ints}
use Rattle.theory_numbers.specs.Arrows.{Arrow, cross, dot}
use Rattle.theory_numbers.specs.Rationals.{IsRational, IsBelow, IsAtMost, value_at, zero_of}
use Rattle.theory_numbers.specs.Rationals.{IsForm, IsZeroForm}
use Rattle.theory_numbers.proofs.Signs.{sign_cases}
use Rattle.theory_numbers.proofs.Fractions.Rationals.{at_most_refl, at_most_from_below}
use Rattle.theory_numbers.proofs.Products.{positive_product, positive_factor}
use Rattle.theory_numbers.proofs.Products.{zero_of_positive}
use Rattle.theory_numbers.proofs.Ring.{mul-zero, zero-mul, mul_comm}
use Rattle.theory_numbers.proofs.Shapes.{var, plus, times, equal, cross_is, dot_is}
use Rattle.theory_numbers.proofs.Fractions.Clear.{falling_zero}
use Rattle.theory_plane.specs.Sides.{LineSide, clearance, clearance_at}
use Rattle.theory_plane.specs.Leads.{leads, order_on, order_past, MeetsNowhere}
use Rattle.theory_plane.proofs.Clearance.{clearance-turn}
use Rattle.theory_plane.proofs.LeadsIsAnOrder.{IsUp, IsNotUp, up_from, not_up_from, slope-turn}
use Rattle.theory_plane.proofs.LeadsIsAnOrder.{offset-turn}

-- the values of a form at two numbers tell its slope
value_by_slope : (form r u : Arrow)
    → r.x *ℤ value_at form u ≡ (cross r u *ℤ form.y) +ℤ (u.x *ℤ value_at form r)
value_by_slope form r u =
    equal (times (var r.x) (dot_is form u))
    (plus (times (cross_is r u) (var form.y)) (times (var u.x) (dot_is form r)))
    (omega arith)

-- a form that is up at r and is 0 nowhere after r up to u is above 0 at u
pub up_until_zero : (form r u : Arrow) → IsRational r → IsRational u → IsBelow r u
    → IsUp (value_at form r) form.y
    → ((y : Arrow) → IsRational y → IsBelow r y → IsAtMost y u → value_at form y ≡ pos 0 → ⊥)
    → pos 0 <ℤ value_at form u
up_until_zero form r u r_in u_in after up nowhere = from up (sign_cases (value_at form u))
  where
    from : IsUp (value_at form r) form.y
        → ((pos 0 <ℤ value_at form u) ⊎ (value_at form u ≡ pos 0)) ⊎ (value_at form u <ℤ pos 0)
        → pos 0 <ℤ value_at form u
    from _ (inl (inl above)) = above
    from _ (inl (inr zero)) = absurd (nowhere u u_in after (at_most_refl u) zero)
    from (inl above) (inr below) =
        let z = falling_zero form r u r_in u_in after above below in
        absurd (nowhere (zero_of form) z.rational z.after
        (at_most_from_below (zero_of form) u z.before) z.zero)
    from (inr zero) (inr below) =
        let rises = positive_product (cross r u) form.y after zero.1 in
        let parts = value_by_slope form r u in
        let none : u.x *ℤ value_at form r ≡ pos 0 = rw zero.0 (mul-zero u.x) in
        positive_factor r.x (value_at form u) r_in (omega (arith, ints))

-- a line that leads just after low lies above at u, where the two meet nowhere up to u
pub order_after : (low u : Arrow) (l m : LineSide) → IsRational low → IsRational u
    → IsBelow low u → leads low l m ≡ true → MeetsNowhere low u l m
    → pos 0 <ℤ clearance_at l m u
order_after low u l m low_in u_in after answer nowhere =
    up_until_zero (clearance l m) low u low_in u_in after
    (up_from (clearance_at l m low) (clearance l m).y answer) nowhere

-- ---- the order just after a number is the order until the two meet

-- where the slope is 0 the value is the first part, times the denominator
first_part : (form r : Arrow) → value_at form r ≡ pos 0 → form.y ≡ pos 0
    → r.x *ℤ form.x ≡ pos 0
unfolding dot
first_part form r value slope =
    let none : form.y *ℤ r.y ≡ pos 0 = rw slope (zero-mul r.y) in
    let same = mul_comm r.x form.x in
    omega (arith, ints)

-- the zero form has the value 0
pub value-zero_form : (form r : Arrow) → IsZeroForm form → value_at form r ≡ pos 0
unfolding dot
value-zero_form form r zero =
    let first : form.x *ℤ r.x ≡ pos 0 = rw zero.0 (zero-mul r.x) in
    let second : form.y *ℤ r.y ≡ pos 0 = rw zero.1 (zero-mul r.y) in
    omega (arith, ints)

-- a form that is up is not the zero form
not_zero : (form r : Arrow) → IsUp (value_at form r) form.y → IsForm form
not_zero form r (inl above) zero =
    let none = value-zero_form form r zero in omega (arith, ints)
not_zero form r (inr rises) zero = let above = rises.1 in omega (arith, ints, zero.1)

-- neither a number and its slope nor their opposites are up: both are 0
zero_if_neither_up : (value slope : ℤ) → IsNotUp value slope
    → IsNotUp (neg_ℤ value) (neg_ℤ slope) → (value ≡ pos 0) × (slope ≡ pos 0)
zero_if_neither_up value slope (inl low) (inl less) = absurd (omega (arith, ints, low, less))
zero_if_neither_up value slope (inl low) (inr null) = absurd (omega (arith, ints, low, null.0))
zero_if_neither_up value slope (inr zero) (inl less) = absurd (omega (arith, ints, zero.0, less))
zero_if_neither_up value slope (inr zero) (inr null) =
    (zero.0, omega (arith, ints, zero.1, null.1))

-- two lines of which neither leads have a clearance that is the zero form
pub zero_if_none_leads : (u : Arrow) (l m : LineSide) → leads u l m ≡ false
    → leads u m l ≡ false → IsRational u → IsZeroForm (clearance l m)
zero_if_none_leads u l m low high u_in =
    let value = clearance_at l m u in
    let slope = (clearance l m).y in
    let turned = rw (clearance-turn l m u, slope-turn l m)
    at (not_up_from (clearance_at m l u) (clearance m l).y high) in
    let zero = zero_if_neither_up value slope (not_up_from value slope low) turned in
    (zero_part (clearance l m) u u_in zero.0 zero.1, zero.1)
  where
    zero_part : (form r : Arrow) → IsRational r → value_at form r ≡ pos 0 → form.y ≡ pos 0
        → form.x ≡ pos 0
    zero_part form r r_in value slope =
        zero_of_positive r.x form.x r_in (first_part form r value slope)

-- a line that leads has a clearance that is not the zero form
pub form_if_leads : (u : Arrow) (l m : LineSide) → leads u l m ≡ true → IsForm (clearance l m)
form_if_leads u l m answer zero =
    not_zero (clearance l m) u (up_from (clearance_at l m u) (clearance l m).y answer) zero

meets_turned : (low u : Arrow) (l m : LineSide) → MeetsNowhere low u l m
    → MeetsNowhere low u m l
meets_turned low u l m nowhere y y_in after within zero =
    nowhere y y_in after within
    (let turn = clearance-turn m l y in omega (arith, ints))

-- the order just after low is the order at u, where two different lines meet nowhere up to u
pub order_past_holds : (low u : Arrow) (l m : LineSide) → IsRational low → IsRational u
    → IsBelow low u → (IsForm (clearance l m) → MeetsNowhere low u l m)
    → order_past low l m ≡ order_on l m u
order_past_holds low u l m low_in u_in after nowhere =
    from (leads low l m) (leads low m l) refl refl
  where
    below_if_above : pos 0 <ℤ clearance_at m l u → clearance_at l m u <ℤ pos 0
    below_if_above above = let turn = clearance-turn l m u in omega (arith, ints)

    turned_zero : IsZeroForm (clearance l m) → IsZeroForm (clearance m l)
    turned_zero zero =
        let turn = offset-turn l m in
        let slope = slope-turn l m in
        (omega (arith, ints, zero.0), omega (arith, ints, zero.1))

    turned_form : IsForm (clearance m l) → IsForm (clearance l m)
    turned_form other zero = other (turned_zero zero)

    from : (b c : Bool) → leads low l m ≡ b → leads low m l ≡ c
        → (if b then Less else (if c then Greater else Equal)) ≡ order_on l m u
    from true c above _ =
        int_cmp_is (pos 0) (clearance_at l m u) Less
        (order_after low u l m low_in u_in after above
        (nowhere (form_if_leads low l m above)))
    from false true under above =
        int_cmp_is (pos 0) (clearance_at l m u) Greater
        (below_if_above (order_after low u m l low_in u_in after above
        (meets_turned low u l m (nowhere (turned_form (form_if_leads low m l above))))))
    from false false under over =
        int_cmp_is (pos 0) (clearance_at l m u) Equal
        (sym (value-zero_form (clearance l m) u (zero_if_none_leads low l m under over low_in)))
