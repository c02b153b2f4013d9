-- A length that is not 0 has the sign that its text begins with.
use Rattle.std.proofs.Common.{◌≡◌, ℕ, ℤ, pos, ◌<◌, ◌^◌, Bool, true, false, not, List, Option, Some, None, ◌⊎◌, inl, inr, arith, sym, ap, ◌∙◌}
use Rattle.std.specs.Prelude.{neg_ℤ, ◌*ℤ◌, ◌≤ℤ◌, ◌<ℤ◌, unsigned_abs, int_lt}
use Rattle.std.proofs.lemmas.Int.{ints}
use Rattle.theory_numbers.proofs.Signs.{less_or_not, test_less, test_not_less}
use Rattle.theory_numbers.proofs.Products.{weak_product, weak_negative_product}
use Rattle.theory_numbers.proofs.Ring.{mul_comm}
use Rattle.sb_fraction.specs.declared.unit.Unit as units
use Rattle.sb_fixed.specs.Decimals.{decimal_of, has_minus, signed}
use Rattle.std.specs.Prelude.{if◌then◌else◌}
use Rattle.std.proofs.lemmas.Bool.{lt-leb}
use Rattle.sb_prism.specs.declared.measure.Measure.{Measure}
use Rattle.sb_prism.specs.Faults.{is_above}
use Rattle.sb_prism.specs.Kept.{length_in, measure_of}
use Rattle.sb_fixed.specs.Rounding.{HasSignOf}
use Rattle.sb_fixed.specs.Lengths.{nanometres_of, nanometre_places, greatest_nanometres, TextsAreRounded}

above_sign : (minus : Bool) (size t : ℕ) (r : ℤ) → HasSignOf (signed minus size *ℤ pos t) r → (r ≡ pos 0 → ⊥)
    → int_lt (pos 0) r ≡ not minus
above_sign true size t r sign some = test_not_less (pos 0) r (by (less_or_not (pos 0) r))
  where
    weak : (neg_ℤ (pos size) *ℤ pos t) ≤ℤ pos 0
    weak = rw (mul_comm (neg_ℤ (pos size)) (pos t)) (weak_negative_product (pos t) (neg_ℤ (pos size)) (omega (arith, ints)) (omega (arith, ints)))

    by : (pos 0 <ℤ r) ⊎ (r ≤ℤ pos 0) → r ≤ℤ pos 0
    by (inl less) = let more = sign.above less in absurd (omega (arith, ints, more, weak))
    by (inr least) = least
above_sign false size t r sign some = test_less (pos 0) r (by (less_or_not r (pos 0)))
  where
    weak : pos 0 ≤ℤ (pos size *ℤ pos t)
    weak = weak_product (pos size) (pos t) (omega (arith, ints)) (omega (arith, ints))

    by : (r <ℤ pos 0) ⊎ (pos 0 ≤ℤ r) → pos 0 <ℤ r
    by (inl less) = let more = sign.below less in absurd (omega (arith, ints, more, weak))
    by (inr least) = omega (arith, ints, least, some)

pub far_sign : TextsAreRounded → (text : List ℕ) (u : units.Unit)
    → greatest_nanometres < unsigned_abs (nanometres_of text u)
    → int_lt (pos 0) (nanometres_of text u) ≡ not (has_minus text)
unfolding decimal_of
far_sign rounded_texts text u far =
    above_sign (has_minus text) _ (10 ^ nanometre_places u) (nanometres_of text u)
    (rounded_texts text (nanometre_places u)).sign
    (λ zero. let none : unsigned_abs (nanometres_of text u) ≡ 0 = ap unsigned_abs zero in omega (arith, far, none))

pub far_measure : TextsAreRounded → (text : List ℕ) (u : units.Unit) (minus : Bool)
    → greatest_nanometres < unsigned_abs (nanometres_of text u) → minus ≡ has_minus text
    → record { length = None; above = not minus } ≡ measure_of u text
far_measure rounded_texts text u minus far is =
    let none : length_in u text ≡ None =
    ap (λ b. if b then Some (nanometres_of text u) else None) (lt-leb (unsigned_abs (nanometres_of text u)) greatest_nanometres far) in
    let sign : is_above u text ≡ not minus = far_sign rounded_texts text u far ∙ ap not (sym is) in
    sym (ap (λ l. made l (is_above u text)) none ∙ ap (made None) sign)
  where
    made : Option ℤ → Bool → Measure
    made l a = record { length = l; above = a }
