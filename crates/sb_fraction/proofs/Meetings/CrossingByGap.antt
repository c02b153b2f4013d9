-- Where the gap of two edges that are not parallel is 0 at an abscissa that lies strictly between
-- the ends of both, the two cross over it.

use Rattle.std.proofs.Common.{◌≡◌, ◌∙◌, ap, ap₂, sym, arith, ℤ, pos, neg_ℤ}
use Rattle.std.proofs.Common.{◌<ℤ◌, ◌+ℤ◌, ◌-ℤ◌, ◌*ℤ◌, Bool, true, false, not, ◌&&◌, int_lt}
use Rattle.std.proofs.Common.{if◌then◌else◌}
use Rattle.std.proofs.lemmas.Int.{ints, by_lt_z}
use Rattle.std.proofs.lemmas.Bool.{and_from, not_from_false, false_from_ne_true}
use Rattle.std.specs.Ordering.{int_eq}
use Rattle.std.specs.Cmp.{signed_Decides}
use Rattle.theory_numbers.specs.Arrows.{Arrow, arrow, cross, dot}
use Rattle.theory_numbers.specs.Rationals.{value_at}
use Rattle.theory_numbers.proofs.Vectors.Arrows.{cross-turn}
use Rattle.theory_numbers.proofs.Ring.{mul_comm, neg-mul, mul-neg, sub-mul}
use Rattle.theory_numbers.proofs.Products.{positive_product, weak_square}
use Rattle.theory_numbers.proofs.Products.{positive_square, weak_negative_product}
use Rattle.theory_numbers.proofs.Shapes.{var, num, plus, minus, times, negated, equal}
use Rattle.theory_numbers.proofs.Shapes.{cross_is, dot_is, dot_eq}
use Rattle.sb_fraction.specs.Spots.{Spot, reading, times_w}
use Rattle.sb_fraction.specs.Edges.{Edge, span_of, is_within}
use Rattle.sb_fraction.specs.Crossings.{meeting_of, with_positive, cross_at, cross_over}
use Rattle.sb_fraction.specs.Crossings.{are_parallel}
use Rattle.sb_fraction.specs.Lines.{place, flat}
use Rattle.sb_fraction.specs.Steps.{turn_between, share_of, gap_between}
use Rattle.sb_fraction.proofs.Meetings.PointsByShares.{turned_spot}
use Rattle.sb_fraction.proofs.Meetings.MeetingIsCommon.{unturned, within_first, within_second, turned_back}

-- the gap of the lines of two edges, by their vectors as they stand
abbrev pub plain_gap : Arrow → Edge → Edge → Arrow
plain_gap d e f = gap_between d (span_of e) (place e.a) (span_of f) (place f.a)

-- the abscissa of the point where the lines meet, times the cross product of the vectors
abbrev pub meeting_abscissa : Arrow → Edge → Edge → ℤ
meeting_abscissa d e f =
    (turn_between e f *ℤ dot d (place e.a)) +ℤ (share_of e f *ℤ dot d (span_of e))

-- a cross product with the way between two points
pub cross-way : (a b s : Arrow)
    → cross (arrow (b.x -ℤ a.x) (b.y -ℤ a.y)) s ≡ cross b s -ℤ cross a s
unfolding cross
cross-way a b s =
    equal
    (minus (times (minus (var b.x) (var a.x)) (var s.y))
    (times (minus (var b.y) (var a.y)) (var s.x)))
    (minus (minus (times (var b.x) (var s.y)) (times (var b.y) (var s.x)))
    (minus (times (var a.x) (var s.y)) (times (var a.y) (var s.x)))) (omega arith)

turned_cycle : (d a s t : Arrow)
    → cross s t *ℤ dot d a ≡ (cross s a *ℤ dot d t) +ℤ (cross a t *ℤ dot d s)
turned_cycle d a s t =
    equal (times (cross_is s t) (dot_is d a))
    (plus (times (cross_is s a) (dot_is d t)) (times (cross_is a t) (dot_is d s))) (omega arith)

-- over the abscissa 0 the gap is the opposite of it
pub gap-x : (d : Arrow) (e f : Edge) → (plain_gap d e f).x ≡ neg_ℤ (meeting_abscissa d e f)
gap-x d e f =
    let s = span_of e in
    let t = span_of f in
    let a = place e.a in
    let c = place f.a in
    let first : cross t c *ℤ dot d s ≡ neg_ℤ (cross c t *ℤ dot d s) =
    ap (λ n. n *ℤ dot d s) (cross-turn c t) ∙ neg-mul (cross c t) (dot d s) in
    let second : share_of e f *ℤ dot d s ≡ (cross c t *ℤ dot d s) -ℤ (cross a t *ℤ dot d s) =
    ap (λ n. n *ℤ dot d s) (cross-way a c t) ∙ sub-mul (cross c t) (cross a t) (dot d s) in
    let third = turned_cycle d a s t in
    omega (arith, ints)

-- the value of the gap
gap-value : (d : Arrow) (e f : Edge) (u : Arrow)
    → value_at (plain_gap d e f) u
    ≡ (turn_between e f *ℤ u.y) -ℤ (meeting_abscissa d e f *ℤ u.x)
gap-value d e f u =
    let written = dot_eq (plain_gap d e f) u in
    let first : (plain_gap d e f).x *ℤ u.x ≡ neg_ℤ (meeting_abscissa d e f *ℤ u.x) =
    ap (λ n. n *ℤ u.x) (gap-x d e f) ∙ neg-mul (meeting_abscissa d e f) u.x in
    omega (arith, ints)

-- where the gap is 0 the point where the lines meet has this abscissa
abscissa_if_zero : (d : Arrow) (e f : Edge) (u : Arrow) → value_at (plain_gap d e f) u ≡ pos 0
    → turn_between e f *ℤ u.y ≡ meeting_abscissa d e f *ℤ u.x
abscissa_if_zero d e f u zero = let value = gap-value d e f u in omega (arith, ints)

-- the gap of the two exchanged
pub gap-turn : (d : Arrow) (e f : Edge) (u : Arrow)
    → value_at (plain_gap d f e) u ≡ neg_ℤ (value_at (plain_gap d e f) u)
gap-turn d e f u =
    let first = dot_eq (plain_gap d e f) u in
    let second = dot_eq (plain_gap d f e) u in
    let turn : cross (span_of f) (span_of e) *ℤ u.y ≡ neg_ℤ (turn_between e f *ℤ u.y) =
    ap (λ n. n *ℤ u.y) (cross-turn (span_of e) (span_of f)) ∙ neg-mul (turn_between e f) u.y in
    let offset : (plain_gap d f e).x *ℤ u.x ≡ neg_ℤ ((plain_gap d e f).x *ℤ u.x) =
    ap (λ n. n *ℤ u.x) (exchanged (cross (span_of e) (place e.a) *ℤ dot d (span_of f))
    (cross (span_of f) (place f.a) *ℤ dot d (span_of e)))
    ∙ neg-mul (plain_gap d e f).x u.x in
    omega (arith, ints)
  where
    exchanged : (p q : ℤ) → p -ℤ q ≡ neg_ℤ (q -ℤ p)
    exchanged p q = omega (arith, ints)

-- ---- strictly inside both

-- the abscissa n/d lies strictly between those of the ends a and a + l
abbrev pub IsAmid : ℤ → ℤ → Arrow → Type 0
IsAmid a l u = pos 0 <ℤ ((u.y -ℤ (u.x *ℤ a)) *ℤ ((u.x *ℤ (a +ℤ l)) -ℤ u.y))

share_inside : (w s a l : ℤ) (u : Arrow) → w *ℤ u.y ≡ ((w *ℤ a) +ℤ (s *ℤ l)) *ℤ u.x
    → (w ≡ pos 0 → ⊥) → IsAmid a l u → (s *ℤ s) <ℤ (s *ℤ w)
share_inside w s a l u same turned amid = of u.x u.y same amid
  where
    below : (p q k : ℤ) → s *ℤ k ≡ w *ℤ p → (w -ℤ s) *ℤ k ≡ w *ℤ q → pos 0 <ℤ (p *ℤ q)
        → (s *ℤ s) <ℤ (s *ℤ w)
    below p q k first second amid =
        let product : (s *ℤ k) *ℤ ((w -ℤ s) *ℤ k) ≡ (w *ℤ p) *ℤ (w *ℤ q) =
        ap₂ (λ m n. m *ℤ n) first second in
        let left : (s *ℤ k) *ℤ ((w -ℤ s) *ℤ k) ≡ (k *ℤ k) *ℤ ((s *ℤ w) -ℤ (s *ℤ s)) =
        equal (times (times (var s) (var k)) (times (minus (var w) (var s)) (var k)))
        (times (times (var k) (var k)) (minus (times (var s) (var w)) (times (var s) (var s))))
        (omega arith) in
        let right : (w *ℤ p) *ℤ (w *ℤ q) ≡ (w *ℤ w) *ℤ (p *ℤ q) =
        equal (times (times (var w) (var p)) (times (var w) (var q)))
        (times (times (var w) (var w)) (times (var p) (var q))) (omega arith) in
        let above = positive_product (w *ℤ w) (p *ℤ q) (positive_square w turned) amid in
        let square = weak_square k in
        by_lt_z (s *ℤ s) (s *ℤ w) (λ less. less)
        (λ more.
        let low = weak_negative_product (k *ℤ k) ((s *ℤ w) -ℤ (s *ℤ s)) square
        (omega (arith, ints)) in
        absurd (omega (arith, ints)))

    of : (d n : ℤ) → w *ℤ n ≡ ((w *ℤ a) +ℤ (s *ℤ l)) *ℤ d
        → pos 0 <ℤ ((n -ℤ (d *ℤ a)) *ℤ ((d *ℤ (a +ℤ l)) -ℤ n)) → (s *ℤ s) <ℤ (s *ℤ w)
    of d n same amid =
        let p = n -ℤ (d *ℤ a) in
        let q = (d *ℤ (a +ℤ l)) -ℤ n in
        let k = l *ℤ d in
        let spread_p : w *ℤ (n -ℤ (d *ℤ a)) ≡ (w *ℤ n) -ℤ ((w *ℤ a) *ℤ d) =
        equal (times (var w) (minus (var n) (times (var d) (var a))))
        (minus (times (var w) (var n)) (times (times (var w) (var a)) (var d))) (omega arith) in
        let spread_same : ((w *ℤ a) +ℤ (s *ℤ l)) *ℤ d ≡ ((w *ℤ a) *ℤ d) +ℤ (s *ℤ (l *ℤ d)) =
        equal (times (plus (times (var w) (var a)) (times (var s) (var l))) (var d))
        (plus (times (times (var w) (var a)) (var d)) (times (var s) (times (var l) (var d))))
        (omega arith) in
        let spread_q : w *ℤ ((d *ℤ (a +ℤ l)) -ℤ n)
        ≡ (((w *ℤ a) *ℤ d) +ℤ (w *ℤ (l *ℤ d))) -ℤ (w *ℤ n) =
        equal (times (var w) (minus (times (var d) (plus (var a) (var l))) (var n)))
        (minus
        (plus (times (times (var w) (var a)) (var d)) (times (var w) (times (var l) (var d))))
        (times (var w) (var n))) (omega arith) in
        let spread_k = sub-mul w s (l *ℤ d) in
        let first : s *ℤ (l *ℤ d) ≡ w *ℤ (n -ℤ (d *ℤ a)) = omega (arith, ints) in
        let second : (w -ℤ s) *ℤ (l *ℤ d) ≡ w *ℤ ((d *ℤ (a +ℤ l)) -ℤ n) = omega (arith, ints) in
        below p q k first second amid

-- ---- the crossing

abscissa_of_point : (d a s : Arrow) (w k : ℤ)
    → ((((a.x *ℤ w) +ℤ (k *ℤ s.x)) *ℤ d.x) +ℤ (((a.y *ℤ w) +ℤ (k *ℤ s.y)) *ℤ d.y))
    +ℤ (pos 0 *ℤ pos 0)
    ≡ (w *ℤ dot d a) +ℤ (k *ℤ dot d s)
unfolding dot
abscissa_of_point d a s w k =
    equal
    (plus (plus
    (times (plus (times (var a.x) (var w)) (times (var k) (var s.x))) (var d.x))
    (times (plus (times (var a.y) (var w)) (times (var k) (var s.y))) (var d.y)))
    (times (num 0) (num 0)))
    (plus (times (var w) (plus (times (var d.x) (var a.x)) (times (var d.y) (var a.y))))
    (times (var k) (plus (times (var d.x) (var s.x)) (times (var d.y) (var s.y)))))
    (omega arith)

-- the point where the lines meet has its abscissa
reading-unturned : (d : Arrow) (e f : Edge)
    → times_w (unturned e f) (flat d) ≡ meeting_abscissa d e f
reading-unturned d e f =
    abscissa_of_point d (place e.a) (span_of e) (turn_between e f) (share_of e f)

reading-turned : (d : Arrow) (p : Spot)
    → times_w (turned_spot p) (flat d) ≡ neg_ℤ (times_w p (flat d))
reading-turned d p =
    equal
    (plus (plus (times (negated (var p.x)) (var d.x)) (times (negated (var p.y)) (var d.y)))
    (times (negated (var p.z)) (num 0)))
    (negated (plus (plus (times (var p.x) (var d.x)) (times (var p.y) (var d.y)))
    (times (var p.z) (num 0))))
    (omega arith)

-- where a point has the abscissa u, so has the point with a positive denominator
over_positive : (d u : Arrow) (p : Spot) → p.w *ℤ u.y ≡ times_w p (flat d) *ℤ u.x
    → cross u (reading (with_positive p) (flat d)) ≡ pos 0
unfolding cross
over_positive d u p same = from (int_lt p.w (pos 0))
  where
    plain : (u.x *ℤ times_w p (flat d)) -ℤ (u.y *ℤ p.w) ≡ pos 0
    plain =
        let first = mul_comm u.x (times_w p (flat d)) in
        let second = mul_comm u.y p.w in
        omega (arith, ints)

    turned : (u.x *ℤ times_w (turned_spot p) (flat d)) -ℤ (u.y *ℤ neg_ℤ p.w) ≡ pos 0
    turned =
        let first : u.x *ℤ times_w (turned_spot p) (flat d) ≡ neg_ℤ (u.x *ℤ times_w p (flat d)) =
        ap (λ n. u.x *ℤ n) (reading-turned d p) ∙ mul-neg u.x (times_w p (flat d)) in
        let second = mul-neg u.y p.w in
        let whole = plain in
        omega (arith, ints)

    from : (b : Bool)
        → (u.x *ℤ times_w (if b then turned_spot p else p) (flat d))
        -ℤ (u.y *ℤ (if b then turned_spot p else p).w) ≡ pos 0
    from true = turned
    from false = plain

-- two edges that are not parallel cross over an abscissa amid both at which their gap is 0
pub crosses_if_zero : (d : Arrow) (u : Arrow) (e f : Edge) → (turn_between e f ≡ pos 0 → ⊥)
    → value_at (plain_gap d e f) u ≡ pos 0
    → IsAmid (dot d (place e.a)) (dot d (span_of e)) u
    → IsAmid (dot d (place f.a)) (dot d (span_of f)) u → cross_over (flat d) u e f ≡ true
crosses_if_zero d u e f turned zero amid_e amid_f =
    let p = meeting_of e f in
    let same = abscissa_if_zero d e f u zero in
    let back = abscissa_if_zero d f e u
    (let turn = gap-turn d e f u in omega (arith, ints)) in
    let first = share_inside (turn_between e f) (share_of e f) (dot d (place e.a))
    (dot d (span_of e)) u same turned amid_e in
    let second = share_inside (turn_between f e) (share_of f e) (dot d (place f.a))
    (dot d (span_of f)) u back (turned_back e f turned) amid_f in
    let over = over_positive d u (unturned e f)
    (same ∙ ap (λ n. n *ℤ u.x) (sym (reading-unturned d e f))) in
    and_from (cross_at p e f) (int_eq (cross u (reading p (flat d))) (pos 0))
    (and_from (not (are_parallel e f)) (is_within p e && is_within p f)
    (not_from_false (are_parallel e f) (apart (turn_between e f) turned))
    (and_from (is_within p e) (is_within p f)
    (within_first e f turned first) (within_second e f (turned_back e f turned) second)))
    ((signed_Decides (cross u (reading p (flat d))) (pos 0)).1 over)
  where
    apart : (w : ℤ) → (w ≡ pos 0 → ⊥) → int_eq w (pos 0) ≡ false
    apart w turned =
        false_from_ne_true (int_eq w (pos 0))
        (λ answer. turned ((signed_Decides w (pos 0)).0 answer))
