-- A point is inside a rectangle by parity exactly where it lies strictly between its sides.
use Rattle.std.proofs.Common.{◌≡◌, refl, sym, ◌∙◌, arith, ℤ, pos, ◌-ℤ◌, ◌*ℤ◌, ◌<ℤ◌, ◌≤ℤ◌, Bool}
use Rattle.std.proofs.Common.{true, false, not, ◌&&◌, ◌||◌, [], ◌∷◌, int_lt, ◌⊎◌, inl, inr, ⊎_elim}
use Rattle.std.proofs.Common.{if◌then◌else◌}
use Rattle.std.specs.Ordering.{int_eq}
use Rattle.std.proofs.lemmas.Int.{ints, by_lt_z}
use Rattle.std.proofs.lemmas.Bool.{and_from, true≢false, false≢true}
use Rattle.theory_numbers.specs.Arrows.{cross, dot}
use Rattle.theory_lists.specs.Parity.{differ, is_odd_number}
use Rattle.theory_numbers.proofs.Shapes.{var, num, minus, times, equal}
use Rattle.theory_numbers.proofs.Signs.{less_from, test_less, test_not_less, same_less}
use Rattle.theory_numbers.proofs.Ring.{mul_comm}
use Rattle.theory_numbers.proofs.Products.{positive_product, positive_factor, product_of_negatives}
use Rattle.theory_numbers.proofs.Products.{scale_less, weak_negative_product}
use Rattle.sb_fraction.specs.Spots.{Spot, IsSpot}
use Rattle.theory_plans.specs.Inside.{is_crossed, is_in_plan}
use Rattle.theory_plans.specs.LoopEdges.{edges_of}
use Rattle.theory_plans.specs.Rectangles.{rectangle, is_between_sides}
use Rattle.theory_plans.proofs.Edges.OriginOnSegment.{touches, level_touches, upright_touches}

-- ---- signs of the turns at the four edges, where a < b and c < d are the corners as seen from p

right_turn : (b c d : ℤ) → c <ℤ d → int_lt (pos 0) ((b *ℤ d) -ℤ (c *ℤ b)) ≡ int_lt (pos 0) b
right_turn b c d less =
    same_less (pos 0) ((b *ℤ d) -ℤ (c *ℤ b)) (pos 0) b
    (λ up. positive_factor (d -ℤ c) b (omega (arith, ints)) (rw (← same b c d) up))
    (λ up. rw (same b c d) (positive_product (d -ℤ c) b (omega (arith, ints)) up))
  where
    same : (b c d : ℤ) → (b *ℤ d) -ℤ (c *ℤ b) ≡ (d -ℤ c) *ℤ b
    same b c d = equal (minus (times (var b) (var d)) (times (var c) (var b)))
        (times (minus (var d) (var c)) (var b)) (omega arith)

left_turn : (a c d : ℤ) → c <ℤ d → int_lt ((a *ℤ c) -ℤ (d *ℤ a)) (pos 0) ≡ int_lt (pos 0) a
left_turn a c d less =
    same_less ((a *ℤ c) -ℤ (d *ℤ a)) (pos 0) (pos 0) a
    (λ down. positive_factor (d -ℤ c) a (omega (arith, ints))
    (rw (← same a c d) (up_from ((a *ℤ c) -ℤ (d *ℤ a)) down)))
    (λ up. down_from ((a *ℤ c) -ℤ (d *ℤ a))
    (rw (same a c d) (positive_product (d -ℤ c) a (omega (arith, ints)) up)))
  where
    same : (a c d : ℤ) → pos 0 -ℤ ((a *ℤ c) -ℤ (d *ℤ a)) ≡ (d -ℤ c) *ℤ a
    same a c d =
        equal (minus (num 0) (minus (times (var a) (var c)) (times (var d) (var a))))
        (times (minus (var d) (var c)) (var a)) (omega arith)

    up_from : (n : ℤ) → n <ℤ pos 0 → pos 0 <ℤ (pos 0 -ℤ n)
    up_from n down = omega (arith, ints)

    down_from : (n : ℤ) → pos 0 <ℤ (pos 0 -ℤ n) → n <ℤ pos 0
    down_from n up = omega (arith, ints)

-- ---- the table of the four edges: low and high say that the two levels lie above p, left and
-- right that the two sides lie to its right

hit_table : (low high left right : Bool)
    (bottom_up bottom_down right_down top_up top_down left_up : Bool) → (low ≡ true → high ≡ true)
    → differ
    (if low then (if low then false else bottom_up) else (if low then bottom_down else false))
    (differ (if high then (if low then false else right) else (if low then right_down else false))
    (differ (if high then (if high then false else top_up) else (if high then top_down else false))
    (differ (if low then (if high then false else left_up) else (if high then left else false))
    false)))
    ≡ (high && not low) && differ right left
hit_table true true left right _ _ _ _ _ _ rising = refl
hit_table false true true true _ _ _ _ _ _ rising = refl
hit_table false true true false _ _ _ _ _ _ rising = refl
hit_table false true false true _ _ _ _ _ _ rising = refl
hit_table false true false false _ _ _ _ _ _ rising = refl
hit_table false false left right _ _ _ _ _ _ rising = refl
hit_table true false left right _ _ _ _ _ _ rising = absurd (false≢true (rising refl))

-- ---- the point on an edge or inside, by the corners as seen from it

positive_is_not_zero : (n : ℤ) → pos 0 <ℤ n → int_eq n (pos 0) ≡ false
positive_is_not_zero n h = grind (arith, ints)

not_zero_by : {n m : ℤ} → n ≡ m → pos 0 <ℤ m → int_eq n (pos 0) ≡ false
not_zero_by {n} {m} e h = rw e (positive_is_not_zero m h)

-- the origin is on none of the four edges, and the two sides lie to its left and right
abbrev is_enclosed : ℤ → ℤ → ℤ → ℤ → Bool
is_enclosed a b c d =
    not (touches a c b c || (touches b c b d || (touches b d a d || (touches a d a c || false))))
    && ((int_lt (pos 0) d && not (int_lt (pos 0) c)) && differ (int_lt (pos 0) b)
    (int_lt (pos 0) a))

abbrev is_inside : ℤ → ℤ → ℤ → ℤ → Bool
is_inside a b c d = (int_lt a (pos 0) && int_lt (pos 0) b) && (int_lt c (pos 0) && int_lt (pos 0) d)

all_apart : (p q r s k l m n : Bool) → p ≡ false → q ≡ false → r ≡ false → s ≡ false
    → not ((p && k) || ((q && l) || ((r && m) || ((s && n) || false)))) ≡ true
all_apart p q r s k l m n ep eq er es = rw (ep, eq, er, es) refl

within : (a b c d : ℤ) → a <ℤ pos 0 → pos 0 <ℤ b → c <ℤ pos 0 → pos 0 <ℤ d
    → is_enclosed a b c d ≡ true
within a b c d at_a at_b at_c at_d =
    and_from _ _
    (all_apart _ _ _ _ _ _ _ _
    (not_zero_by (first a b c) (product_of_negatives c (a -ℤ b) at_c (omega (arith, ints))))
    (not_zero_by (second b c d) (positive_product b (d -ℤ c) at_b (omega (arith, ints))))
    (not_zero_by (third a b d) (positive_product d (b -ℤ a) at_d (omega (arith, ints))))
    (not_zero_by (fourth a c d) (product_of_negatives a (c -ℤ d) at_a (omega (arith, ints)))))
    (rw (
      test_less _ _ at_d,
      test_not_less (pos 0) c (omega (arith, ints)),
      test_less _ _ at_b,
      test_not_less (pos 0) a (omega (arith, ints)),
    ) refl)
  where
    first : (a b c : ℤ) → (a *ℤ c) -ℤ (c *ℤ b) ≡ c *ℤ (a -ℤ b)
    first a b c = equal (minus (times (var a) (var c)) (times (var c) (var b)))
        (times (var c) (minus (var a) (var b))) (omega arith)

    second : (b c d : ℤ) → (b *ℤ d) -ℤ (c *ℤ b) ≡ b *ℤ (d -ℤ c)
    second b c d = equal (minus (times (var b) (var d)) (times (var c) (var b)))
        (times (var b) (minus (var d) (var c))) (omega arith)

    third : (a b d : ℤ) → (b *ℤ d) -ℤ (d *ℤ a) ≡ d *ℤ (b -ℤ a)
    third a b d = equal (minus (times (var b) (var d)) (times (var d) (var a)))
        (times (var d) (minus (var b) (var a))) (omega arith)

    fourth : (a c d : ℤ) → (a *ℤ c) -ℤ (d *ℤ a) ≡ a *ℤ (c -ℤ d)
    fourth a c d = equal (minus (times (var a) (var c)) (times (var d) (var a)))
        (times (var a) (minus (var c) (var d))) (omega arith)

-- on the first or the fourth edge
first_touched : (p q r s t : Bool) → p ≡ true → (not (p || (q || (r || (s || false)))) && t) ≡ false
first_touched p q r s t e = rw e refl

fourth_touched : (p q r s t : Bool) → s ≡ true
    → (not (p || (q || (r || (s || false)))) && t) ≡ false
fourth_touched true q r s t e = refl
fourth_touched false true r s t e = refl
fourth_touched false false true s t e = refl
fourth_touched false false false s t e = rw e refl

-- below or above: no edge is crossed
not_level : (k low high n : Bool) → (low ≡ true → high ≡ true) → (high ≡ false) ⊎ (low ≡ true)
    → (k && ((high && not low) && n)) ≡ false
not_level true low false n rising at = refl
not_level true true true n rising at = refl
not_level true false true n rising at =
    ⊎_elim (λ e. absurd (true≢false e)) (λ e. absurd (false≢true e)) at
not_level false low high n rising at = refl

-- right of both sides or left of both: both are crossed, or none
not_between : (k l m n : Bool) → m ≡ n → (k && (l && differ n m)) ≡ false
not_between true true true true e = refl
not_between true true false false e = refl
not_between true true true false e = absurd (true≢false e)
not_between true true false true e = absurd (false≢true e)
not_between true false m n e = refl
not_between false l m n e = refl

rising_levels : (c d : ℤ) → c <ℤ d → int_lt (pos 0) c ≡ true → int_lt (pos 0) d ≡ true
rising_levels c d less e =
    test_less (pos 0) d (let h = less_from (pos 0) c e in omega (arith, ints))

-- no corner lies on an edge with the origin
abbrev is_off : ℤ → ℤ → ℤ → ℤ → Bool
is_off a b c d = not (touches a c b c ||
    (touches b c b d || (touches b d a d || (touches a d a c || false))))

abbrev is_struck : ℤ → ℤ → ℤ → ℤ → Bool
is_struck a b c d = (int_lt (pos 0) d && not (int_lt (pos 0) c)) && differ (int_lt (pos 0) b)
    (int_lt (pos 0) a)

outside_levels : (a b c d : ℤ) → c <ℤ d → (d ≤ℤ pos 0) ⊎ (pos 0 <ℤ c) → is_enclosed a b c d ≡ false
outside_levels a b c d less at =
    not_level (is_off a b c d) (int_lt (pos 0) c) (int_lt (pos 0) d)
    (differ (int_lt (pos 0) b) (int_lt (pos 0) a))
    (rising_levels c d less)
    (⊎_elim (λ low. inl (test_not_less (pos 0) d low)) (λ high. inr (test_less (pos 0) c high)) at)

outside_sides : (a b c d : ℤ) → a <ℤ b → (b ≤ℤ pos 0) ⊎ (pos 0 <ℤ a) → is_enclosed a b c d ≡ false
outside_sides a b c d less at =
    not_between (is_off a b c d) (int_lt (pos 0) d && not (int_lt (pos 0) c)) (int_lt (pos 0) a)
    (int_lt (pos 0) b)
    (⊎_elim
    (λ low. test_not_less (pos 0) a (omega (arith, ints)) ∙ sym (test_not_less (pos 0) b low))
    (λ high. test_less (pos 0) a high ∙ sym (test_less (pos 0) b (omega (arith, ints))))
    at)

on_the_left : (a b c d : ℤ) → a ≡ pos 0 → c ≤ℤ pos 0 → pos 0 ≤ℤ d → is_enclosed a b c d ≡ false
on_the_left a b c d zero low high =
    fourth_touched (touches a c b c) (touches b c b d) (touches b d a d) (touches a d a c)
    (is_struck a b c d)
    (upright_touches a d c zero (weak_negative_product d c high low))

on_the_bottom : (a b c d : ℤ) → c ≡ pos 0 → a ≤ℤ pos 0 → pos 0 ≤ℤ b → is_enclosed a b c d ≡ false
on_the_bottom a b c d zero left right =
    first_touched (touches a c b c) (touches b c b d) (touches b d a d) (touches a d a c)
    (is_struck a b c d)
    (level_touches a b c zero (rw (mul_comm a b) (weak_negative_product b a right left)))

not_inside : (p q r s : Bool) → (p ≡ false) ⊎ ((q ≡ false) ⊎ ((r ≡ false) ⊎ (s ≡ false)))
    → ((p && q) && (r && s)) ≡ false
not_inside p q r s (inl e) = rw e refl
not_inside true q r s (inr (inl e)) = rw e refl
not_inside false q r s (inr (inl e)) = refl
not_inside true true r s (inr (inr (inl e))) = rw e refl
not_inside true false r s (inr (inr (inl e))) = refl
not_inside false q r s (inr (inr (inl e))) = refl
not_inside true true true s (inr (inr (inr e))) = e
not_inside true true false s (inr (inr (inr e))) = refl
not_inside true false r s (inr (inr (inr e))) = refl
not_inside false q r s (inr (inr (inr e))) = refl

outside : (a b c d : ℤ) → is_enclosed a b c d ≡ false
    → (int_lt a (pos 0) ≡ false)
    ⊎ ((int_lt (pos 0) b ≡ false) ⊎ ((int_lt c (pos 0) ≡ false) ⊎ (int_lt (pos 0) d ≡ false)))
    → is_enclosed a b c d ≡ is_inside a b c d
outside a b c d out at =
    out ∙ sym (not_inside (int_lt a (pos 0)) (int_lt (pos 0) b) (int_lt c (pos 0))
    (int_lt (pos 0) d) at)

-- the two say the same
enclosed_is_inside : (a b c d : ℤ) → a <ℤ b → c <ℤ d → is_enclosed a b c d ≡ is_inside a b c d
enclosed_is_inside a b c d across up =
    by_lt_z (pos 0) d
    (λ at_d. by_lt_z (pos 0) c
    (λ at_c. outside a b c d (outside_levels a b c d up (inr at_c))
    (inr (inr (inl (test_not_less c (pos 0) (omega (arith, ints)))))))
    (λ at_c. by_lt_z (pos 0) b
    (λ at_b. by_lt_z a (pos 0)
    (λ at_a. by_lt_z c (pos 0)
    (λ under. within a b c d at_a at_b under at_d ∙ sym (all_inside a b c d at_a at_b under at_d))
    (λ level. outside a b c d
    (on_the_bottom a b c d (omega (arith, ints)) (omega (arith, ints)) (omega (arith, ints)))
    (inr (inr (inl (test_not_less c (pos 0) level))))))
    (λ at_a. outside a b c d
    (by_lt_z (pos 0) a (λ right. outside_sides a b c d across (inr right))
    (λ left. on_the_left a b c d (omega (arith, ints)) at_c (omega (arith, ints))))
    (inl (test_not_less a (pos 0) at_a))))
    (λ at_b. outside a b c d (outside_sides a b c d across (inl at_b))
    (inr (inl (test_not_less (pos 0) b at_b))))))
    (λ at_d. outside a b c d (outside_levels a b c d up (inl at_d))
    (inr (inr (inr (test_not_less (pos 0) d at_d)))))
  where
    all_inside : (a b c d : ℤ) → a <ℤ pos 0 → pos 0 <ℤ b → c <ℤ pos 0 → pos 0 <ℤ d
        → is_inside a b c d ≡ true
    all_inside a b c d at_a at_b at_c at_d =
        and_from (int_lt a (pos 0) && int_lt (pos 0) b) (int_lt c (pos 0) && int_lt (pos 0) d)
        (and_from (int_lt a (pos 0)) (int_lt (pos 0) b) (test_less a (pos 0) at_a)
        (test_less (pos 0) b at_b))
        (and_from (int_lt c (pos 0)) (int_lt (pos 0) d) (test_less c (pos 0) at_c)
        (test_less (pos 0) d at_d))

-- ---- the rectangle

-- a number is above another where it lies above 0 as seen from it
above_is : (y n : ℤ) → int_lt y n ≡ int_lt (pos 0) (n -ℤ y)
above_is y n = same_less y n (pos 0) (n -ℤ y) (λ h. omega (arith, ints)) (λ h. omega (arith, ints))

below_is : (x n : ℤ) → int_lt n x ≡ int_lt (n -ℤ x) (pos 0)
below_is x n = same_less n x (n -ℤ x) (pos 0) (λ h. omega (arith, ints)) (λ h. omega (arith, ints))

seen_apart : (x0 x1 x w : ℤ) → x0 <ℤ x1 → pos 0 <ℤ w → ((x0 *ℤ w) -ℤ x) <ℤ ((x1 *ℤ w) -ℤ x)
seen_apart x0 x1 x w less positive =
    let h = scale_less w x0 x1 positive less in
    let e = mul_comm w x0 in
    let f = mul_comm w x1 in
    omega (arith, ints)

crossed_is : (x0 x1 y0 y1 : ℤ) (p : Spot) → x0 <ℤ x1 → y0 <ℤ y1 → IsSpot p
    → is_odd_number (is_crossed p) (edges_of (rectangle x0 x1 y0 y1 ∷ []))
    ≡ is_struck ((x0 *ℤ p.w) -ℤ p.x) ((x1 *ℤ p.w) -ℤ p.x) ((y0 *ℤ p.w) -ℤ p.y) ((y1 *ℤ p.w) -ℤ p.y)
unfolding cross dot
crossed_is x0 x1 y0 y1 p across up positive =
    let a = (x0 *ℤ p.w) -ℤ p.x in
    let b = (x1 *ℤ p.w) -ℤ p.x in
    let c = (y0 *ℤ p.w) -ℤ p.y in
    let d = (y1 *ℤ p.w) -ℤ p.y in
    let rising : c <ℤ d = seen_apart y0 y1 p.y p.w up positive in
    rw (
      above_is p.y (y0 *ℤ p.w),
      above_is p.y (y1 *ℤ p.w),
      right_turn b c d rising,
      left_turn a c d rising,
    )
    (hit_table (int_lt (pos 0) c) (int_lt (pos 0) d) (int_lt (pos 0) a)
    (int_lt (pos 0) b) _ _ _ _ _ _ (rising_levels c d rising))

-- inside a rectangle is strictly between its sides
pub inside_rectangle : (x0 x1 y0 y1 : ℤ) (p : Spot) → x0 <ℤ x1 → y0 <ℤ y1 → IsSpot p
    → is_in_plan (rectangle x0 x1 y0 y1 ∷ []) p ≡ is_between_sides x0 x1 y0 y1 p
unfolding cross dot
inside_rectangle x0 x1 y0 y1 p across up positive =
    let a = (x0 *ℤ p.w) -ℤ p.x in
    let b = (x1 *ℤ p.w) -ℤ p.x in
    let c = (y0 *ℤ p.w) -ℤ p.y in
    let d = (y1 *ℤ p.w) -ℤ p.y in
    rw (crossed_is x0 x1 y0 y1 p across up positive)
    (enclosed_is_inside a b c d (seen_apart x0 x1 p.x p.w across positive)
    (seen_apart y0 y1 p.y p.w up positive)
    ∙ rw (
      below_is p.x (x0 *ℤ p.w),
      above_is p.x (x1 *ℤ p.w),
      below_is p.y (y0 *ℤ p.w),
      above_is p.y (y1 *ℤ p.w),
    ) refl)
