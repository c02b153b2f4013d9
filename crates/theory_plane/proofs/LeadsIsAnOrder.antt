-- "Leads just after u" is a strict weak order of all lines, whether or not they stand for edges
-- that reach over u.
use Rattle.std.proofs.Common.{◌≡◌, ◌⊎◌, inl, inr, refl, arith, ℤ, pos, ◌<ℤ◌, ◌≤ℤ◌, ◌+ℤ◌, ◌*ℤ◌}
use Rattle.std.proofs.Common.{neg_ℤ, Bool, true, false}
use Rattle.std.proofs.lemmas.Int.{ints}
use Rattle.std.specs.Ordering.{int_eq}
use Rattle.std.specs.Cmp.{signed_Decides, IsStrictWeakOrder}
use Rattle.theory_numbers.specs.Arrows.{Arrow}
use Rattle.theory_numbers.proofs.Shapes.{var, minus, plus, times, negated, equal}
use Rattle.theory_numbers.proofs.Signs.{test_less, test_not_less}
use Rattle.theory_numbers.proofs.Signs.{sign_cases, above_or_not}
use Rattle.theory_numbers.proofs.Products.{negative_product, weak_negative_product}
use Rattle.theory_numbers.proofs.Products.{negative_factor, weak_negative_factor}
use Rattle.theory_numbers.proofs.Products.{zero_of_positive}
use Rattle.theory_numbers.proofs.Ring.{mul-zero}
use Rattle.theory_plane.specs.Sides.{LineSide, IsLineSide, clearance, clearance_at}
use Rattle.theory_plane.specs.Leads.{is_up, leads}
use Rattle.theory_plane.proofs.Clearance.{clearance-turn, clearance_three}

-- ---- a number and its slope

-- above 0, or 0 with a slope above 0
abbrev pub IsUp : ℤ → ℤ → Type 0
IsUp value slope = (pos 0 <ℤ value) ⊎ ((value ≡ pos 0) × (pos 0 <ℤ slope))

-- below 0, or 0 with a slope of at most 0
abbrev pub IsNotUp : ℤ → ℤ → Type 0
IsNotUp value slope = (value <ℤ pos 0) ⊎ ((value ≡ pos 0) × (slope ≤ℤ pos 0))

equal_test : (a b : ℤ) → a ≡ b → int_eq a b ≡ true
equal_test a b same = (signed_Decides a b).1 same

-- the test answers true where this holds
pub up_passes : (value slope : ℤ) → IsUp value slope → is_up value slope ≡ true
up_passes value slope (inl above) = rw (test_less (pos 0) value above) refl
up_passes value slope (inr zero) =
    rw (
      equal_test value (pos 0) zero.0,
      test_not_less (pos 0) value (omega (arith, ints, zero.0)),
      test_less (pos 0) slope zero.1,
    ) refl

unequal_test : (a b : ℤ) → a <ℤ b → int_eq a b ≡ false
unequal_test a b low = grind (arith, ints)

-- and false where it does not
pub not_up_fails : (value slope : ℤ) → IsNotUp value slope → is_up value slope ≡ false
not_up_fails value slope (inl below) =
    rw (
      unequal_test value (pos 0) below,
      test_not_less (pos 0) value (omega (arith, ints, below)),
    ) refl
not_up_fails value slope (inr zero) =
    rw (
      equal_test value (pos 0) zero.0,
      test_not_less (pos 0) value (omega (arith, ints, zero.0)),
      test_not_less (pos 0) slope zero.1,
    ) refl

-- one of the two holds
pub up_or_not : (value slope : ℤ) → IsUp value slope ⊎ IsNotUp value slope
up_or_not value slope = from (sign_cases value) (above_or_not slope)
  where
    from : ((pos 0 <ℤ value) ⊎ (value ≡ pos 0)) ⊎ (value <ℤ pos 0)
        → (pos 0 <ℤ slope) ⊎ (slope ≤ℤ pos 0) → IsUp value slope ⊎ IsNotUp value slope
    from (inl (inl above)) _ = inl (inl above)
    from (inl (inr zero)) (inl rises) = inl (inr (zero, rises))
    from (inl (inr zero)) (inr falls) = inr (inr (zero, falls))
    from (inr below) _ = inr (inl below)

clash : {b : Bool} → b ≡ false → b ≡ true → ⊥
clash none some = cc

-- what the answer true says
pub up_from : (value slope : ℤ) → is_up value slope ≡ true → IsUp value slope
up_from value slope answer = from (up_or_not value slope)
  where
    from : IsUp value slope ⊎ IsNotUp value slope → IsUp value slope
    from (inl up) = up
    from (inr down) = absurd (clash (not_up_fails value slope down) answer)

-- what the answer false says
pub not_up_from : (value slope : ℤ) → is_up value slope ≡ false → IsNotUp value slope
not_up_from value slope answer = from (up_or_not value slope)
  where
    from : IsUp value slope ⊎ IsNotUp value slope → IsNotUp value slope
    from (inl up) = absurd (clash answer (up_passes value slope up))
    from (inr down) = down

-- a number and a slope that are up are not up with their signs turned
up_turned : (value slope : ℤ) → IsUp value slope → IsNotUp (neg_ℤ value) (neg_ℤ slope)
up_turned value slope (inl above) = inl (omega (arith, ints))
up_turned value slope (inr zero) =
    inr (omega (arith, ints, zero.0), omega (arith, ints, zero.1))

-- k times one is a sum of positive multiples of two that are not up: it is not up
module _ (k p q : ℤ) (k_in : pos 0 <ℤ k) (p_in : pos 0 <ℤ p) (q_in : pos 0 <ℤ q)
    (value a b : ℤ) (values : k *ℤ value ≡ (p *ℤ a) +ℤ (q *ℤ b))
    (slope c d : ℤ) (slopes : k *ℤ slope ≡ (p *ℤ c) +ℤ (q *ℤ d)) where
  -- of the sums of two numbers and of their slopes
  pub not_up_sum : IsNotUp a c → IsNotUp b d → IsNotUp value slope
  not_up_sum (inl low) (inl less) =
      let one = negative_product p a p_in low in
      let other = negative_product q b q_in less in
      inl (negative_factor k value k_in (omega (arith, ints)))
  not_up_sum (inl low) (inr zero) =
      let one = negative_product p a p_in low in
      let none = zero.0 in
      let other = weak_negative_product q b (omega (arith, ints)) (omega (arith, ints)) in
      inl (negative_factor k value k_in (omega (arith, ints)))
  not_up_sum (inr zero) (inl less) =
      let none = zero.0 in
      let one = weak_negative_product p a (omega (arith, ints)) (omega (arith, ints)) in
      let other = negative_product q b q_in less in
      inl (negative_factor k value k_in (omega (arith, ints)))
  not_up_sum (inr zero) (inr null) =
      let one = weak_negative_product p c (omega (arith, ints)) zero.1 in
      let other = weak_negative_product q d (omega (arith, ints)) null.1 in
      let first : p *ℤ a ≡ pos 0 = rw zero.0 (mul-zero p) in
      let second : q *ℤ b ≡ pos 0 = rw null.0 (mul-zero q) in
      inr (
        zero_of_positive k value k_in (omega (arith, ints)),
        weak_negative_factor k slope k_in (omega (arith, ints)),
      )

-- ---- the slopes of clearances

-- exchanged, the slope of the clearance has the opposite sign
pub slope-turn : (l m : LineSide) → (clearance m l).y ≡ neg_ℤ (clearance l m).y
unfolding clearance
slope-turn l m =
    equal (minus (times (var l.dy) (var m.dx)) (times (var m.dy) (var l.dx)))
    (negated (minus (times (var m.dy) (var l.dx)) (times (var l.dy) (var m.dx))))
    (omega arith)

-- and so has its part at 0
pub offset-turn : (l m : LineSide) → (clearance m l).x ≡ neg_ℤ (clearance l m).x
unfolding clearance
offset-turn l m =
    equal (minus (times (var l.off) (var m.dx)) (times (var m.off) (var l.dx)))
    (negated (minus (times (var m.off) (var l.dx)) (times (var l.off) (var m.dx))))
    (omega arith)

-- of three lines
pub slope_three : (l m n : LineSide)
    → m.dx *ℤ (clearance l n).y
    ≡ (n.dx *ℤ (clearance l m).y) +ℤ (l.dx *ℤ (clearance m n).y)
unfolding clearance
slope_three l m n =
    equal
    (times (var m.dx) (minus (times (var n.dy) (var l.dx)) (times (var l.dy) (var n.dx))))
    (plus
    (times (var n.dx) (minus (times (var m.dy) (var l.dx)) (times (var l.dy) (var m.dx))))
    (times (var l.dx) (minus (times (var n.dy) (var m.dx)) (times (var m.dy) (var n.dx)))))
    (omega arith)

-- ---- the order

-- a line that leads is not led
pub leads_one_way : (u : Arrow) (l m : LineSide) → leads u l m ≡ true → leads u m l ≡ false
leads_one_way u l m answer =
    let value = clearance_at l m u in
    let slope = (clearance l m).y in
    let turned = up_turned value slope (up_from value slope answer) in
    rw (clearance-turn l m u, slope-turn l m) (not_up_fails (neg_ℤ value) (neg_ℤ slope) turned)

-- where neither of two steps leads, the two together do not lead
pub leads_chain : (u : Arrow) (l m n : LineSide) → IsLineSide l → IsLineSide m → IsLineSide n
    → leads u l m ≡ false → leads u m n ≡ false → leads u l n ≡ false
leads_chain u l m n l_in m_in n_in low high =
    not_up_fails (clearance_at l n u) (clearance l n).y
    (not_up_sum m.dx n.dx l.dx m_in n_in l_in
    (clearance_at l n u) (clearance_at l m u) (clearance_at m n u) (clearance_three l m n u)
    (clearance l n).y (clearance l m).y (clearance m n).y (slope_three l m n)
    (not_up_from (clearance_at l m u) (clearance l m).y low)
    (not_up_from (clearance_at m n u) (clearance m n).y high))

-- so things that stand for lines may be sorted by it, as std's sorts ask
pub leads_sorts : {X : Type 0} (side : X → LineSide) (u : Arrow) → ((x : X) → IsLineSide (side x))
    → IsStrictWeakOrder (λ x y. leads u (side x) (side y))
leads_sorts side u are_sides = record {
  one_way = λ x y. leads_one_way u (side x) (side y);
  chain =
      λ x y z.
      leads_chain u (side x) (side y) (side z) (are_sides x) (are_sides y) (are_sides z);
}
