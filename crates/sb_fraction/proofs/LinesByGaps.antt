-- The clearance of the lines of two edges is their gap, times the square of the direction; so the
-- order by the gap is the order of the lines.

use Rattle.std.proofs.Common.{◌≡◌, ◌⊎◌, ◌∙◌, inl, inr, ap, ap₂, sym, arith, ℤ, pos, neg_ℤ}
use Rattle.std.proofs.Common.{◌<ℤ◌, ◌-ℤ◌, ◌*ℤ◌, Bool, true, false, if◌then◌else◌}
use Rattle.std.proofs.Common.{Less, Equal, Greater}
use Rattle.std.proofs.lemmas.Int.{ints}
use Rattle.std.specs.declared.cmp.Ordering.{Ordering}
use Rattle.std.specs.Ordering.{int_eq, int_cmp}
use Rattle.std.specs.Cmp.{signed_Decides, int_cmp_is}
use Rattle.theory_numbers.specs.Arrows.{Arrow, cross, dot, scale}
use Rattle.theory_numbers.specs.Rationals.{value_at}
use Rattle.theory_numbers.proofs.Vectors.Arrows.{same_arrow, scale-dot}
use Rattle.theory_numbers.proofs.Vectors.ThreeTerms.{frame_cross}
use Rattle.theory_numbers.proofs.Ring.{mul_comm, mul-zero}
use Rattle.theory_numbers.proofs.Signs.{sign_cases}
use Rattle.theory_numbers.proofs.Products.{positive_product, negative_product}
use Rattle.theory_numbers.proofs.Shapes.{var, minus, times, equal}
use Rattle.theory_plane.specs.Sides.{clearance, clearance_at}
use Rattle.theory_plane.specs.Leads.{is_up, order_past}
use Rattle.theory_plane.proofs.Clearance.{clearance-turn}
use Rattle.theory_plane.proofs.LeadsIsAnOrder.{up_passes, not_up_fails, slope-turn}
use Rattle.sb_fraction.specs.Edges.{Edge}
use Rattle.sb_fraction.specs.Lines.{line_over, span_along, place}
use Rattle.sb_fraction.specs.Steps.{gap_over, gap_order}

offsets : (n c r m s : ℤ) → ((n *ℤ c) *ℤ r) -ℤ ((n *ℤ m) *ℤ s) ≡ n *ℤ ((c *ℤ r) -ℤ (m *ℤ s))
offsets n c r m s =
    equal
    (minus (times (times (var n) (var c)) (var r)) (times (times (var n) (var m)) (var s)))
    (times (var n) (minus (times (var c) (var r)) (times (var m) (var s))))
    (omega arith)

slopes : (d s t : Arrow) → (cross d t *ℤ dot d s) -ℤ (cross d s *ℤ dot d t) ≡ dot d d *ℤ cross s t
slopes d s t =
    let frame = frame_cross d s t in
    let turned = mul_comm (dot d s) (cross d t) in
    omega (arith, ints)

-- the clearance of the lines of two edges
pub clearance-line_over : (d : Arrow) (e f : Edge)
    → clearance (line_over d e) (line_over d f) ≡ scale (dot d d) (gap_over d e f)
unfolding clearance
clearance-line_over d e f =
    let s = span_along d e in
    let t = span_along d f in
    same_arrow (clearance (line_over d e) (line_over d f)) (scale (dot d d) (gap_over d e f))
    (offsets (dot d d) (cross t (place f.a)) (dot d s) (cross s (place e.a)) (dot d t))
    (slopes d s t)

-- and its value
pub clearance_at-line_over : (d : Arrow) (e f : Edge) (u : Arrow)
    → clearance_at (line_over d e) (line_over d f) u
    ≡ dot d d *ℤ value_at (gap_over d e f) u
clearance_at-line_over d e f u =
    ap (λ form. dot form u) (clearance-line_over d e f) ∙ scale-dot (dot d d) (gap_over d e f) u

-- ---- orders

equal_test : (a b : ℤ) → a ≡ b → int_eq a b ≡ true
equal_test a b same = (signed_Decides a b).1 same

less_test : (a : ℤ) → pos 0 <ℤ a → int_eq a (pos 0) ≡ false
less_test a above = grind (arith, ints)

more_test : (a : ℤ) → a <ℤ pos 0 → int_eq a (pos 0) ≡ false
more_test a below = grind (arith, ints)

pick_less : (t u : Bool) → t ≡ true
    → (if t then Less else (if u then Greater else Equal)) ≡ Less
pick_less t u up = cc

pick_greater : (t u : Bool) → t ≡ false → u ≡ true
    → (if t then Less else (if u then Greater else Equal)) ≡ Greater
pick_greater t u low up = cc

pick_equal : (t u : Bool) → t ≡ false → u ≡ false
    → (if t then Less else (if u then Greater else Equal)) ≡ Equal
pick_equal t u low high = cc

pick_first : (t : Bool) (o p : Ordering) → t ≡ true → (if t then o else p) ≡ o
pick_first t o p test = cc

pick_second : (t : Bool) (o p : Ordering) → t ≡ false → (if t then o else p) ≡ p
pick_second t o p test = cc

-- the order by a number and its slope is the order by which of two is up
past_by_gap : (v s : ℤ)
    → gap_order v s
    ≡ (if is_up v s then Less else (if is_up (neg_ℤ v) (neg_ℤ s) then Greater else Equal))
past_by_gap v s = from (sign_cases v) (sign_cases s)
  where
    by_value : int_eq v (pos 0) ≡ false → gap_order v s ≡ int_cmp (pos 0) v
    by_value test = pick_second (int_eq v (pos 0)) (int_cmp (pos 0) s) (int_cmp (pos 0) v) test

    by_slope : v ≡ pos 0 → gap_order v s ≡ int_cmp (pos 0) s
    by_slope zero =
        pick_first (int_eq v (pos 0)) (int_cmp (pos 0) s) (int_cmp (pos 0) v)
        (equal_test v (pos 0) zero)

    from : ((pos 0 <ℤ v) ⊎ (v ≡ pos 0)) ⊎ (v <ℤ pos 0)
        → ((pos 0 <ℤ s) ⊎ (s ≡ pos 0)) ⊎ (s <ℤ pos 0)
        → gap_order v s
        ≡ (if is_up v s then Less else (if is_up (neg_ℤ v) (neg_ℤ s) then Greater else Equal))
    from (inl (inl above)) _ =
        by_value (less_test v above) ∙ sym (int_cmp_is (pos 0) v Less above)
        ∙ sym (pick_less (is_up v s) (is_up (neg_ℤ v) (neg_ℤ s)) (up_passes v s (inl above)))
    from (inr below) _ =
        by_value (more_test v below) ∙ sym (int_cmp_is (pos 0) v Greater below)
        ∙ sym (pick_greater (is_up v s) (is_up (neg_ℤ v) (neg_ℤ s))
        (not_up_fails v s (inl below))
        (up_passes (neg_ℤ v) (neg_ℤ s) (inl (omega (arith, ints)))))
    from (inl (inr zero)) (inl (inl rises)) =
        by_slope zero ∙ sym (int_cmp_is (pos 0) s Less rises)
        ∙ sym (pick_less (is_up v s) (is_up (neg_ℤ v) (neg_ℤ s))
        (up_passes v s (inr (zero, rises))))
    from (inl (inr zero)) (inr falls) =
        by_slope zero ∙ sym (int_cmp_is (pos 0) s Greater falls)
        ∙ sym (pick_greater (is_up v s) (is_up (neg_ℤ v) (neg_ℤ s))
        (not_up_fails v s (inr (zero, omega (arith, ints))))
        (up_passes (neg_ℤ v) (neg_ℤ s) (inr (omega (arith, ints), omega (arith, ints)))))
    from (inl (inr zero)) (inl (inr null)) =
        by_slope zero ∙ sym (int_cmp_is (pos 0) s Equal (sym null))
        ∙ sym (pick_equal (is_up v s) (is_up (neg_ℤ v) (neg_ℤ s))
        (not_up_fails v s (inr (zero, omega (arith, ints))))
        (not_up_fails (neg_ℤ v) (neg_ℤ s) (inr (omega (arith, ints), omega (arith, ints)))))

-- a positive factor does not change an order with 0
cmp-multiple : (n z : ℤ) → pos 0 <ℤ n → int_cmp (pos 0) (n *ℤ z) ≡ int_cmp (pos 0) z
cmp-multiple n z n_in = from (sign_cases z)
  where
    from : ((pos 0 <ℤ z) ⊎ (z ≡ pos 0)) ⊎ (z <ℤ pos 0)
        → int_cmp (pos 0) (n *ℤ z) ≡ int_cmp (pos 0) z
    from (inl (inl above)) =
        sym (int_cmp_is (pos 0) (n *ℤ z) Less (positive_product n z n_in above))
        ∙ int_cmp_is (pos 0) z Less above
    from (inl (inr zero)) = ap (int_cmp (pos 0)) (ap (λ k. n *ℤ k) zero ∙ mul-zero n ∙ sym zero)
    from (inr below) =
        sym (int_cmp_is (pos 0) (n *ℤ z) Greater (negative_product n z n_in below))
        ∙ int_cmp_is (pos 0) z Greater below

-- nor a test for 0
eq-multiple : (n z : ℤ) → pos 0 <ℤ n → int_eq (n *ℤ z) (pos 0) ≡ int_eq z (pos 0)
eq-multiple n z n_in = from (sign_cases z)
  where
    from : ((pos 0 <ℤ z) ⊎ (z ≡ pos 0)) ⊎ (z <ℤ pos 0)
        → int_eq (n *ℤ z) (pos 0) ≡ int_eq z (pos 0)
    from (inl (inl above)) =
        less_test (n *ℤ z) (positive_product n z n_in above) ∙ sym (less_test z above)
    from (inl (inr zero)) =
        ap (λ k. int_eq k (pos 0)) (ap (λ k. n *ℤ k) zero ∙ mul-zero n ∙ sym zero)
    from (inr below) =
        more_test (n *ℤ z) (negative_product n z n_in below) ∙ sym (more_test z below)

cond_both : (b c : Bool) (o p q r : Ordering) → b ≡ c → o ≡ q → p ≡ r
    → (if b then o else p) ≡ (if c then q else r)
cond_both b c o p q r test first second = cc

gap_order-multiple : (n v s : ℤ) → pos 0 <ℤ n → gap_order (n *ℤ v) (n *ℤ s) ≡ gap_order v s
gap_order-multiple n v s n_in =
    cond_both (int_eq (n *ℤ v) (pos 0)) (int_eq v (pos 0)) (int_cmp (pos 0) (n *ℤ s))
    (int_cmp (pos 0) (n *ℤ v)) (int_cmp (pos 0) s) (int_cmp (pos 0) v)
    (eq-multiple n v n_in) (cmp-multiple n s n_in) (cmp-multiple n v n_in)

-- the order by the gap of two edges is the order of their lines just after an abscissa
pub order_past-gap : (d : Arrow) (e f : Edge) (u : Arrow) → pos 0 <ℤ dot d d
    → gap_order (value_at (gap_over d e f) u) (gap_over d e f).y
    ≡ order_past u (line_over d e) (line_over d f)
order_past-gap d e f u d_in =
    let l = line_over d e in
    let m = line_over d f in
    let n = dot d d in
    let v = value_at (gap_over d e f) u in
    let s = (gap_over d e f).y in
    let value = clearance_at-line_over d e f u in
    let slope = ap (λ (form : Arrow). form.y) (clearance-line_over d e f) in
    sym (gap_order-multiple n v s d_in)
    ∙ ap₂ gap_order (sym value) (sym slope)
    ∙ past_by_gap (clearance_at l m u) (clearance l m).y
    ∙ ap₂
    (λ a b.
    if is_up (clearance_at l m u) (clearance l m).y then Less
    else (if is_up a b then Greater else Equal))
    (sym (clearance-turn l m u)) (sym (slope-turn l m))
