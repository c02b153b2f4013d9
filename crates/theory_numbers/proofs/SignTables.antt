-- Signs as Boolean variables: what equal and different bits say of a product, and tables that
-- turn such facts into equations of tests.
use Rattle.std.proofs.Common.{◌≡◌, refl, ◌∙◌, Bool, true, false, not, ◌&&◌, arith}
use Rattle.std.proofs.Common.{ℤ, pos, ◌≤ℤ◌, ◌*ℤ◌, cond}
use Rattle.std.proofs.lemmas.Int.{ints}
use Rattle.theory_numbers.specs.Tests.{is_positive}
use Rattle.theory_lists.specs.Parity.{differ}
use Rattle.theory_numbers.proofs.Signs.{less_from, not_less_from}
use Rattle.theory_numbers.proofs.Products.{positive_product, weak_product_of_negatives}
use Rattle.theory_numbers.proofs.Products.{weak_negative_product}
use Rattle.theory_lists.proofs.Parity.{differ-self, differ-false, differ-opposite}
use Rattle.theory_numbers.proofs.Ring.{mul_comm}

alike_bits : (a b : ℤ) (s t : Bool) → is_positive a ≡ s → is_positive b ≡ t → s ≡ t
    → pos 0 ≤ℤ (a *ℤ b)
alike_bits a b true true a_bit b_bit relation =
    let above = positive_product a b (less_from (pos 0) a a_bit) (less_from (pos 0) b b_bit) in
    omega (arith, ints)
alike_bits a b false false a_bit b_bit relation =
    weak_product_of_negatives a b (not_less_from (pos 0) a a_bit) (not_less_from (pos 0) b b_bit)
alike_bits a b true false a_bit b_bit relation = cc
alike_bits a b false true a_bit b_bit relation = cc

-- equal bits: the product is at least 0
pub alike_up : (a b : ℤ) → is_positive a ≡ is_positive b → pos 0 ≤ℤ (a *ℤ b)
alike_up a b a_bit = alike_bits a b (is_positive a) (is_positive b) refl refl a_bit

apart_bits : (a b : ℤ) (s t : Bool) → is_positive a ≡ s → is_positive b ≡ t → s ≡ not t
    → (a *ℤ b) ≤ℤ pos 0
apart_bits a b true false a_bit b_bit relation =
    let above = less_from (pos 0) a a_bit in
    weak_negative_product a b (omega (arith, ints)) (not_less_from (pos 0) b b_bit)
apart_bits a b false true a_bit b_bit relation =
    let above = less_from (pos 0) b b_bit in
    let low = weak_negative_product b a (omega (arith, ints)) (not_less_from (pos 0) a a_bit) in
    let same = mul_comm a b in
    omega (arith, ints)
apart_bits a b true true a_bit b_bit relation = cc
apart_bits a b false false a_bit b_bit relation = cc

-- different bits: the product is at most 0
pub apart_down : (a b : ℤ) → is_positive a ≡ not (is_positive b) → (a *ℤ b) ≤ℤ pos 0
apart_down a b a_bit = apart_bits a b (is_positive a) (is_positive b) refl refl a_bit

-- ---- whether a ray strikes an edge, by bits: b and a say which ends lie left of the ray, over
-- and under on which side of the edge it starts

-- the ends lie on two sides of the ray's line, and the start on the side that the edge turns to it
abbrev pub hit_of : (a b over under : Bool) → Bool
hit_of a b over under = cond b (cond a false over) (cond a under false)

-- exchanging the ends exchanges the sides
pub hit_of-exchanged : (a b over under : Bool) → hit_of a b over under ≡ hit_of b a under over
hit_of-exchanged true true over under = refl
hit_of-exchanged true false over under = refl
hit_of-exchanged false true over under = refl
hit_of-exchanged false false over under = refl

turned_bit : (b c : Bool) → b ≡ not c → c ≡ not b
turned_bit true false first = refl
turned_bit false true first = refl
turned_bit true true first = cc
turned_bit false false first = cc

true_from : (b c : Bool) → b ≡ false → b ≡ not c → c ≡ true
true_from b true first second = refl
true_from b false first second = cc

-- Two rays r and s from one point and one edge: ra, sa, rb, sb say that the ends a and b lie left
-- of r and of s, over and under that the turn of the edge is above 0 and below 0. What the signs of
-- three terms leave of the sixteen states is that the two hits differ just where the wedge between
-- the rays holds one end alone.
pub turn_table : (ra sa rb sb over under : Bool)
    → (ra ≡ sb → rb ≡ not sa → under ≡ false)
    → (ra ≡ not sb → rb ≡ sa → over ≡ false)
    → (ra ≡ not rb → over ≡ not under)
    → (sa ≡ not sb → over ≡ not under)
    → differ (hit_of ra rb over under) (hit_of sa sb over under)
    ≡ differ (ra && not sa) (rb && not sb)
turn_table true true true true over under up down r s = refl
turn_table true true true false over under up down r s =
    true_from over under (down refl refl) (s refl)
turn_table true true false true over under up down r s =
    differ-false under ∙ up refl refl
turn_table true true false false over under up down r s = differ-self under
turn_table true false true true over under up down r s =
    let none = up refl refl in let opposed = s refl in cc
turn_table true false true false over under up down r s = refl
turn_table true false false true over under up down r s =
    differ-opposite under over (turned_bit over under (r refl))
turn_table true false false false over under up down r s =
    differ-false under ∙ true_from over under (down refl refl) (r refl)
turn_table false true true true over under up down r s =
    differ-false over ∙ down refl refl
turn_table false true true false over under up down r s = differ-opposite over under (r refl)
turn_table false true false true over under up down r s = refl
turn_table false true false false over under up down r s = up refl refl
turn_table false false true true over under up down r s = differ-self over
turn_table false false true false over under up down r s =
    let none = up refl refl in let opposed = r refl in differ-false over ∙ cc
turn_table false false false true over under up down r s = down refl refl
turn_table false false false false over under up down r s = refl
