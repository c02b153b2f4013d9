-- Worked cuttings, wrong ones that are refused, and a function with an odd point, which squash cuts
-- wrongly.
use Rattle.std.proofs.Common.{◌≡◌, refl, sym, ◌∙◌, ap, ℕ, pos, negsuc, true, false, Bool}
use Rattle.std.proofs.Common.{List, [], ◌∷◌, None, arith, ◌==◌, if◌then◌else◌}
use Rattle.std.proofs.lemmas.Int.{ints}
use Rattle.std.proofs.lemmas.Bool.{false_from_ne_true}
use Rattle.std.specs.Cmp.{signed_Decides, both_ways}
use Rattle.std.proofs.Math.Bool.{beq}
use Rattle.std.proofs.Math.Nat.{dvd_refl, eq-one_of_dvd-one, dvd-mul_left}
use Rattle.std.specs.Int.{◌∣◌}
use Rattle.std.proofs.Common.{◌-ℤ◌, ◌*ℤ◌}
use Rattle.theory_numbers.proofs.Shapes.{cross_eq}
use Rattle.theory_numbers.proofs.Ring.{zero-mul}
use Rattle.theory_numbers.proofs.Products.{zero_of_positive}
use Rattle.theory_numbers.proofs.Fractions.Rationals.{same_sym}
use Rattle.std.specs.Ordering.{int_eq}
use Rattle.theory_numbers.specs.Arrows.{Arrow, cross}
use Rattle.theory_numbers.specs.Rationals.{IsRational, IsBelow, IsSame, rational, is_below}
use Rattle.theory_numbers.proofs.Signs.{test_less, test_not_less}
use Rattle.theory_numbers.proofs.Vectors.Arrows.{cross-turn}
use Rattle.theory_numbers.proofs.Fractions.Reduced.{whole_is_reduced}
use Rattle.theory_cuttings.specs.Cuttings.{Break, IsAlike, IsCutting, AreDifferent, IsFraction}
use Rattle.theory_cuttings.specs.Cuttings.{IsReducedCutting, HasNoOddPoint}
use Rattle.theory_cuttings.specs.Columns.{is_odd_below, is_odd_up_to, column_of}
use Rattle.theory_cuttings.specs.Changes.{refined, moved_breaks}
use Rattle.theory_cuttings.specs.Changes.{break_at, squash, group, run_breaks}
use Rattle.theory_cuttings.specs.Changes.{flip_onto, last_label, label_after, breaks_after}
use Rattle.theory_cuttings.specs.Changes.{breaks_before}
use Rattle.theory_cuttings.specs.Passages.{ray_start, ArePassages}

-- the whole number n
abbrev whole : ℕ → Arrow
whole n = rational (pos n) (pos 1)

-- ---- a step: label 5 below 1, and 6 from 1 on

-- the step
abbrev step : Arrow → ℕ
step u = if is_below u (whole 1) then 5 else 6

below_one : (u : Arrow) → IsBelow u (whole 1) → step u ≡ 5
below_one u less = rw (test_less (pos 0) (cross u (whole 1)) less)

beyond_one : (u : Arrow) → IsBelow (whole 1) u → step u ≡ 6
beyond_one u more =
    let turn = cross-turn (whole 1) u in
    rw (test_not_less (pos 0) (cross u (whole 1)) (omega (arith, ints)))

-- its one break cuts the whole line
step_is_cut : IsReducedCutting step None None 5 (break_at (whole 1) 6 ∷ [])
step_is_cut =
    record {
      cutting = (
        whole_is_reduced (pos 1),
        tt,
        λ u u_in after before. below_one u before,
        (tt, λ u u_in after before. beyond_one u after),
      );
      different = (λ same. omega arith, tt);
    }

zero_below_one : IsBelow ray_start (whole 1)
unfolding cross
zero_below_one = omega (arith, ints)

-- along the ray from 0 it has the passages 5 from 0 on and 6 from 1 on
step_has_passages : ArePassages step (break_at ray_start 5 ∷ break_at (whole 1) 6 ∷ [])
step_has_passages = (
  refl,
  record {
    cutting = (
      whole_is_reduced (pos 1),
      zero_below_one,
      λ u u_in after before. below_one u before,
      (tt, λ u u_in after before. beyond_one u after),
    );
    different = (λ same. omega arith, tt);
  },
)

-- with a needless candidate at 0 no point is odd, and squash drops it
step_has_no_odd_point
    : HasNoOddPoint step 5 (break_at (whole 0) 5 ∷ break_at (whole 1) 6 ∷ [])
unfolding cross
step_has_no_odd_point = (λ same. refl, (λ same. absurd (omega arith), tt))

step_is_squashed
    : squash {L = ℕ} (λ a b. a == b) 5 (break_at (whole 0) 5 ∷ break_at (whole 1) 6 ∷ [])
    ≡ break_at (whole 1) 6 ∷ []
step_is_squashed = refl

-- ---- wrong cuttings are refused

not_six_and_five : {n : ℕ} → n ≡ 6 → n ≡ 5 → ⊥
not_six_and_five six five = omega arith

-- a wrong label
wrong_label : IsCutting step None None 5 [] → ⊥
unfolding cross
wrong_label cut = not_six_and_five refl (cut.1 (whole 2) (omega (arith, ints)) tt tt)

-- a break that is no reduced fraction
not_reduced : IsFraction (rational (pos 2) (pos 4)) → ⊥
not_reduced reduced =
    let two_divides_one : 2 ∣ 1 = reduced.no_divisor.2 2 (dvd_refl 2) (dvd-mul_left 2 2) in
    not_two_and_one 2 refl (eq-one_of_dvd-one two_divides_one)
  where
    not_two_and_one : (n : ℕ) → n ≡ 2 → n ≡ 1 → ⊥
    not_two_and_one n two one = omega arith

-- a break with the label before it
needless_break : AreDifferent {L = ℕ} 5 (break_at (whole 1) 5 ∷ []) → ⊥
needless_break differ = differ.0 refl

-- a list of passages that starts late, and an empty one
late_start : ArePassages step (break_at (whole 1) 6 ∷ []) → ⊥
late_start passages =
    let start : pos 1 ≡ pos 0 = ap (λ (r : Arrow). r.y) passages.0 in omega (arith, ints)

no_passages : ArePassages step [] → ⊥
no_passages passages = passages

-- ---- a function with an odd point: label 6 at 0 alone, and 5 everywhere else

-- the spike
abbrev spike : Arrow → ℕ
spike u = if int_eq u.y (pos 0) then 6 else 5

zero_if_same : (r s : Arrow) → IsRational r → IsSame r s → r.y ≡ pos 0 → s.y ≡ pos 0
zero_if_same r s r_in same zero =
    let written : (r.x *ℤ s.y) -ℤ (r.y *ℤ s.x) ≡ pos 0 = sym (cross_eq r s) ∙ same in
    let none : r.y *ℤ s.x ≡ pos 0 = ap (λ n. n *ℤ s.x) zero ∙ zero-mul s.x in
    zero_of_positive r.x s.y r_in (omega (arith, ints))

not_zero : (u : Arrow) → (u.y ≡ pos 0 → ⊥) → spike u ≡ 5
not_zero u apart =
    ap (λ answer. if answer then 6 else 5)
    (false_from_ne_true (int_eq u.y (pos 0))
    (λ answer. apart ((signed_Decides u.y (pos 0)).0 answer)))

-- it answers alike on equal pairs
spike_is_alike : IsAlike spike
spike_is_alike r s r_in s_in same =
    ap (λ answer. if answer then 6 else 5)
    (both_ways (int_eq r.y (pos 0)) (int_eq s.y (pos 0))
    (λ zero.
    (signed_Decides s.y (pos 0)).1
    (zero_if_same r s r_in same ((signed_Decides r.y (pos 0)).0 zero)))
    (λ zero.
    (signed_Decides r.y (pos 0)).1
    (zero_if_same s r s_in (same_sym r s same) ((signed_Decides s.y (pos 0)).0 zero))))

below_zero : (u : Arrow) → IsBelow u ray_start → spike u ≡ 5
unfolding cross
below_zero u less = not_zero u (λ zero. omega (arith, ints))

beyond_zero : (u : Arrow) → IsBelow ray_start u → spike u ≡ 5
unfolding cross
beyond_zero u more = not_zero u (λ zero. omega (arith, ints))

-- the candidate 0 cuts it, with one label on both sides
spike_is_cut : IsCutting spike None None 5 (break_at ray_start 5 ∷ [])
spike_is_cut = (
  whole_is_reduced (pos 0),
  tt,
  λ u u_in after before. below_zero u before,
  (tt, λ u u_in after before. beyond_zero u after),
)

-- but 0 is odd
zero_is_odd : HasNoOddPoint spike 5 (break_at ray_start 5 ∷ []) → ⊥
zero_is_odd plain = not_six_and_five refl (plain.0 refl)

-- squash drops it
squash_drops_zero : squash {L = ℕ} (λ a b. a == b) 5 (break_at ray_start 5 ∷ []) ≡ []
squash_drops_zero = refl

-- and what is left is no cutting: so squash needs its premise
nothing_is_left : IsReducedCutting spike None None 5 [] → ⊥
nothing_is_left reduced =
    not_six_and_five refl (reduced.cutting.1 ray_start (omega (arith, ints)) tt tt)

-- ---- changes, computed on labels 1, 1, 2, 4 with breaks at 1, 2, 3

-- behind a first piece of label 1
abbrev breaks : List (Break ℕ)
breaks = break_at (whole 1) 1 ∷ break_at (whole 2) 2 ∷ break_at (whole 3) 4 ∷ []

-- the test of equal labels
abbrev same : ℕ → ℕ → Bool
same a b = a == b

squashed : squash same 1 breaks ≡ break_at (whole 2) 2 ∷ break_at (whole 3) 4 ∷ []
squashed = refl

-- grouped by "is 1": the break at 1 goes on with the first piece, the other two are one run
abbrev is_one : ℕ → Bool
is_one n = n == 1

grouped : group {L = ℕ} beq is_one 1 breaks
    ≡ record {
      before = break_at (whole 1) 1 ∷ [];
      runs = record { head = break_at (whole 2) 2; rest = break_at (whole 3) 4 ∷ [] } ∷ [];
    }
grouped = refl

-- label and start of the run
run_starts : run_breaks is_one ((group {L = ℕ} beq is_one 1 breaks).runs)
    ≡ break_at (whole 2) false ∷ []
run_starts = refl

-- read backwards: 4 up to -3, 2 up to -2, 1 up to -1 and beyond
flipped : flip_onto 1 breaks []
    ≡ break_at (rational (negsuc 2) (pos 1)) 2 ∷ break_at (rational (negsuc 1) (pos 1)) 1
    ∷ break_at (rational (negsuc 0) (pos 1)) 1 ∷ []
flipped = refl

last : last_label 1 breaks ≡ 4
last = refl

-- cut off to the part between 2 and 5/2: no break is left, and the label is 2
part_has_no_break
    : breaks_before (rational (pos 5) (pos 2)) (breaks_after (whole 2) breaks) ≡ []
unfolding cross
part_has_no_break = refl

part_has_label : label_after (whole 2) 1 breaks ≡ 2
unfolding cross
part_has_label = refl

-- ---- columns

-- two products on a line: the first from 1 to 3, the second from 2 to 4
abbrev values : Bool → List Arrow
values true = whole 1 ∷ whole 3 ∷ []
values false = whole 2 ∷ whole 4 ∷ []

-- the first that is present: 1, then 2, else 0
abbrev first_present : (Bool → Bool) → ℕ
first_present is_present = if is_present true then 1 else (if is_present false then 2 else 0)

abbrev column : List (Break ℕ)
column = column_of first_present values (whole 1 ∷ whole 2 ∷ whole 3 ∷ whole 4 ∷ [])

-- from 1 on the first, from 3 on the second, from 4 on nothing: where the second begins under the first
-- nothing changes
column_is_so : column
    ≡ break_at (whole 1) 1 ∷ break_at (whole 2) 1 ∷ break_at (whole 3) 2 ∷ break_at (whole 4) 0 ∷ []
unfolding cross
column_is_so = refl

column_squashed : squash same 0 column
    ≡ break_at (whole 1) 1 ∷ break_at (whole 3) 2 ∷ break_at (whole 4) 0 ∷ []
unfolding cross
column_squashed = refl

-- at 2 itself the second product has one value at or below, and none below
at_its_value : (is_odd_below (values false) (whole 2) ≡ false) × (is_odd_up_to (values false) (whole 2) ≡ true)
unfolding cross
at_its_value = (refl, refl)

-- a column that leaves a value out is another
value_left_out : column_of first_present values (whole 1 ∷ whole 3 ∷ [])
    ≡ break_at (whole 1) 1 ∷ break_at (whole 3) 2 ∷ []
unfolding cross
value_left_out = refl

-- ---- pieces that are cut themselves, and a cutting that is moved

-- a coarse cutting at 2, whose first piece is cut at 1 and whose second at 3
read_through : refined {L = ℕ} (break_at (whole 1) 7 ∷ [])
    (break_at (whole 2) (record { first = 8; rest = break_at (whole 3) 9 ∷ [] }) ∷ [])
    ≡ break_at (whole 1) 7 ∷ break_at (whole 2) 8 ∷ break_at (whole 3) 9 ∷ []
read_through = refl

-- 1/2 and 2 lie 3 further on at 7/2 and 5
three_further : moved_breaks {L = ℕ} (pos 3)
    (break_at (rational (pos 1) (pos 2)) 1 ∷ break_at (whole 2) 2 ∷ [])
    ≡ break_at (rational (pos 7) (pos 2)) 1 ∷ break_at (whole 5) 2 ∷ []
three_further = refl
